use Rattle.std.proofs.Common.{◌∙◌, ◌++◌, ◌∷◌, [], ap, sym}
use Rattle.std.proofs.lemmas.Option.{same_Some}
use Rattle.hol_types.specs.TypeStore.{text_of}
use Rattle.hol_terms.specs.Term.{ConstTm}
use Rattle.first_form.proofs.LexiconLemmas.{lexicon_declared}
use Rattle.first_form.proofs.lexicon.Lexicon.declare.Goals as goal

pub returns-clause-lexicon : goal.returns-clause-lexicon
returns-clause-lexicon c =
    let s = c.args.base.now in
    let declared = c.args.declared in
    let text = text_of s.types declared.name in
    let tree = sym (same_Some _ _ c.in_ok-t.ensures.read) ∙ ap (λ ty. ConstTm text ty) c.requires.proposition in
    let more = c.in_ok-push.ensures ∙ ap (λ n. c.args.self.now.constants ++ (n, c.in_ok-t.t) ∷ []) (c.in_ok-name.ensures.items ∙ sym c.text.ensures.text) in
    lexicon_declared s c.typed.new.base c.args.self.now text c.in_ok-t.t c.push.new.self c.in_ok-t.ensures.keeps c.requires.lexicon (record { there = c.in_ok-t.ensures.there; tree = tree }) more

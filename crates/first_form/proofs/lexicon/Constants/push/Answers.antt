use Rattle.std.proofs.Common.{◌≡◌, ◌∙◌, ◌++◌, ◌∷◌, [], None, ap, bytes_eq}
use Rattle.std.specs.Map.{lookup}
use Rattle.first_form.proofs.LexiconLemmas.{insert_seen, seen}
use Rattle.first_form.proofs.lexicon.Constants.push.Goals as goal

pub returns : goal.returns
returns c =
    let es = c.self.inside.numbers.entries in
    let none : lookup (bytes_eq c.args.name.items) (seen (λ k. k.items) es) ≡ None = ap (lookup (bytes_eq c.args.name.items)) c.self.view_is ∙ c.requires in
    ap (seen (λ k. k.items)) c.in_ok-insert.ensures.entries ∙ insert_seen (λ k. k.items) bytes_eq es c.args.name c.args.constant none
    ∙ ap (λ l. l ++ (c.args.name.items, c.args.constant) ∷ []) c.self.view_is

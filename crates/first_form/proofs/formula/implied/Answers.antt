use Rattle.std.proofs.Common.{◌≡◌, ◌∙◌, ap, subst, List, ℕ, rules, ◌++◌, ◌∷◌, []}
use Rattle.hol_terms.proofs.KeepsLemmas.{keeps_trans}
use Rattle.first_form.specs.Formulas.{implication_of}
use Rattle.goal_text.specs.Scope.{terms_at}
use Rattle.goal_text.specs.Sentences.{HaveSentences}
use Rattle.first_form.proofs.FormulaLemmas.{under_start, under_step}
use Rattle.first_form.proofs.LexiconLemmas.{formulas_front, formulas_kept, lexicon_kept}
use Rattle.first_form.proofs.formula.implied.Goals as goal

pub loop-a-init : goal.loop-a-init
loop-a-init c =
    let s = c.args.base.now in
    let P : List ℕ → Type 0 = HaveSentences s in
    let ts = c.pop.new.self.items in
    let split : c.args.parts.items ≡ ts ++ c.in-Some.last ∷ [] = c.in-Some.ensures.items in
    let both = formulas_front s ts c.in-Some.last (subst P split c.requires.parts) in
    record {
      lexicon = c.requires.lexicon;
      premises = both.0;
      term = both.1;
      keeps = search rules;
      read = ap (λ xs. implication_of (terms_at s xs)) split ∙ under_start s ts c.in-Some.last (search rules);
    }

pub implies-requires-clause-premise : goal.implies-requires-clause-premise
implies-requires-clause-premise c =
    let s = c.loop-a.base in
    let P : List ℕ → Type 0 = HaveSentences s in
    (formulas_front s c.pop-in-loop-a.new.self.items c.in-Some-pop.a (subst P c.in-Some-pop.ensures.items c.loop-a.invariant.premises)).1

pub loop-a-preserved : goal.loop-a-preserved
loop-a-preserved c =
    let s = c.loop-a.base in
    let u = c.implies.new.base in
    let P : List ℕ → Type 0 = HaveSentences s in
    let ts = c.pop-in-loop-a.new.self.items in
    let a = c.in-Some-pop.a in
    let inv = c.loop-a.invariant in
    let both = formulas_front s ts a (subst P c.in-Some-pop.ensures.items inv.premises) in
    let k = c.in_ok-t.ensures.keeps in
    record {
      lexicon = lexicon_kept k inv.lexicon;
      premises = formulas_kept s u k ts both.0;
      term = c.in_ok-t.ensures.formula;
      keeps = keeps_trans inv.keeps k;
      read = under_step s u (implication_of (terms_at c.args.base.now c.args.parts.items)) ts a c.loop-a.t c.in_ok-t.t k both.0 (rw (← c.in-Some-pop.ensures.items) inv.read) c.in_ok-t.ensures.read;
    }

pub returns-in_err-t-clause-keeps : goal.returns-in_err-t-clause-keeps
returns-in_err-t-clause-keeps c = keeps_trans c.loop-a.invariant.keeps c.in_err-t.ensures.keeps

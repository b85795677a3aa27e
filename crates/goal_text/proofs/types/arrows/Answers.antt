use Rattle.std.proofs.Common.{◌≡◌, ◌∙◌, ap, subst, List, ℕ, rules, ◌++◌, ◌∷◌, []}
use Rattle.hol_types.specs.TypeStore.{trees_at}
use Rattle.hol_terms.proofs.KeepsLemmas.{keeps_trans}
use Rattle.goal_text.specs.Types.{Arrows, type_built}
use Rattle.goal_text.specs.Scope.{AreTypes}
use Rattle.goal_text.proofs.TypeLemmas.{built_last, onto_step, same_Ok, types_kept, types_split}
use Rattle.goal_text.proofs.types.arrows.Goals as goal

pub loop-source-init : goal.loop-source-init
loop-source-init c =
    let s = c.args.base.now in
    let P : List ℕ → Type 0 = AreTypes s in
    let ts = c.pop.new.self.items in
    let split : c.args.parts.items ≡ ts ++ c.in-Some.last ∷ [] = c.in-Some.ensures.items in
    let both = types_split s ts c.in-Some.last (subst P split c.requires) in
    record {
      sources = both.0;
      there = both.1;
      keeps = search rules;
      read = ap (λ xs. type_built Arrows (trees_at s.types xs)) split ∙ built_last s ts c.in-Some.last;
    }

pub type_of-requires-in-Some-pop-clause-parts : goal.type_of-requires-in-Some-pop-clause-parts
type_of-requires-in-Some-pop-clause-parts c =
    let s = c.loop-source.base in
    let P : List ℕ → Type 0 = AreTypes s in
    let both = types_split s c.pop-in-loop-source.new.self.items c.in-Some-pop.source (subst P c.in-Some-pop.ensures.items c.loop-source.invariant.sources) in
    (both.1, c.loop-source.invariant.there)

pub loop-source-preserved : goal.loop-source-preserved
loop-source-preserved c =
    let s = c.loop-source.base in
    let u = c.type_of-in-Some-pop.new.base in
    let P : List ℕ → Type 0 = AreTypes s in
    let ts = c.pop-in-loop-source.new.self.items in
    let a = c.in-Some-pop.source in
    let inv = c.loop-source.invariant in
    let both = types_split s ts a (subst P c.in-Some-pop.ensures.items inv.sources) in
    let k = c.in_ok-t.ensures.keeps in
    record {
      sources = types_kept ts k both.0;
      there = c.in_ok-t.ensures.there;
      keeps = keeps_trans inv.keeps k;
      read = onto_step s u _ ts a c.loop-source.t c.in_ok-t.t k both.0 (rw (← c.in-Some-pop.ensures.items) inv.read) (same_Ok _ _ c.in_ok-t.ensures.read);
    }

pub returns-in_err-t-clause-keeps : goal.returns-in_err-t-clause-keeps
returns-in_err-t-clause-keeps c = keeps_trans c.loop-source.invariant.keeps c.in_err-t.ensures.keeps

use Rattle.std.proofs.Common.{◌≡◌, ◌∙◌, sym, ap, map, true, false}
use Rattle.hol_types.specs.TypeStore.{text_of, type_tree}
use Rattle.hol_types.specs.TypeSubst.{subst_tree}
use Rattle.hol_terms.specs.Term.{ty_of}
use Rattle.hol_terms.specs.TermStore.{term_tree}
use Rattle.hol_terms.proofs.KeepsLemmas.{keeps_trans}
use Rattle.goal_text.specs.Matching as matching
use Rattle.goal_text.specs.Scope.{terms_at}
use Rattle.goal_text.proofs.InstanceLemmas.{instance_given, instance_none, instance_open}
use Rattle.goal_text.proofs.matching.instance_for.Goals as goal

pub returns-in_default-clause-read : goal.returns-in_default-clause-read
returns-in_default-clause-read c =
    let none = rw c.in_default.is at c.in_ok-s.ensures.none in
    rw c.refuse.ensures (instance_none c.args.at c.args.head _ _ _ none)

pub returns-then-not-covers-clause-read : goal.returns-then-not-covers-clause-read
returns-then-not-covers-clause-read c =
    let types = c.args.base.now.types in
    let found = rw c.in-Some.is at c.in_ok-s.ensures.found in
    let test : matching.covers (subst_tree types c.in-Some.s) (type_tree types c.args.ty) ≡ false = ap (λ l. matching.covers (subst_tree types l) (type_tree types c.args.ty)) (sym c.as_slice.ensures) ∙ sym c.covers.ensures ∙ c.if-not-covers.true in
    rw c.refuse-then-not-covers.ensures (instance_open c.args.at c.args.head _ _ _ found.0 _ found.1 found.2 found.3 test)

pub returns-clause-read : goal.returns-clause-read
returns-clause-read c =
    let types = c.args.base.now.types in
    let made = c.instance.new.self.types in
    let found = rw c.in-Some.is at c.in_ok-s.ensures.found in
    let test : matching.covers (subst_tree types c.in-Some.s) (type_tree types c.args.ty) ≡ true = ap (λ l. matching.covers (subst_tree types l) (type_tree types c.args.ty)) (sym c.as_slice.ensures) ∙ sym c.covers.ensures ∙ c.if-not-covers.false in
    instance_given (λ t. term_tree c.typed.new.base t) c.typed.result c.args.at c.args.head (text_of types c.args.name) (text_of made c.args.name) (type_tree types c.args.ty) (type_tree made c.in_ok-instance.instance)
    (map ty_of (terms_at c.args.base.now c.args.terms.now)) found.0 (subst_tree types c.in-Some.s) found.1 found.2 found.3 test (c.in_ok-instance.ensures.keeps.texts c.args.name c.requires.name) c.in_ok-instance.ensures.tree c.typed.ensures.read

pub returns-clause-keeps : goal.returns-clause-keeps
returns-clause-keeps c = keeps_trans c.in_ok-instance.ensures.keeps c.typed.ensures.keeps

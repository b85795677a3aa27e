use Rattle.std.proofs.Common.{refl}
use Rattle.hol_types.specs.Ty.{BoolTy, FunTy}
use Rattle.hol_terms.specs.Term.{BoundTm}
use Rattle.hol_terms.specs.Constants.{exists}
use Rattle.lcf_kernel.proofs.KeepLemmas.{keeps_all_trans}
use Rattle.hol_types.specs.TypeStore.{type_tree}
use Rattle.hol_formulas.specs.Constants.{IsAt}
use Rattle.hol_logic.proofs.expansion.place_not_some.Goals as goal

pub place_of_predicate-requires : goal.place_of_predicate-requires
place_of_predicate-requires c = c.requires

pub some-requires-clause-there : goal.some-requires-clause-there
some-requires-clause-there c = c.in_ok-hole.ensures.is.there

pub some-requires-clause-ty : goal.some-requires-clause-ty
some-requires-clause-ty c = c.place_of_predicate.ensures.keeps.records.store.types c.args.ty c.requires

pub some-requires-clause-predicate : goal.some-requires-clause-predicate
some-requires-clause-predicate c = rw (c.in_ok-hole.ensures.is.is, c.place_of_predicate.ensures.keeps.records.store.type_trees c.args.ty c.requires) refl

pub some-requires-clause-typed : goal.some-requires-clause-typed
some-requires-clause-typed c = rw c.in_ok-hole.ensures.is.is tt

pub negated-requires-clause-there : goal.negated-requires-clause-there
negated-requires-clause-there c = c.in_ok-whole.ensures.is.there

pub negated-requires-clause-bool : goal.negated-requires-clause-bool
negated-requires-clause-bool c =
    let ty = type_tree c.args.k.now.store.types c.args.ty in
    let whole : IsAt c.some.new.k.store c.in_ok-whole.whole (exists ty (BoundTm 0 (FunTy ty BoolTy))) = rw (c.place_of_predicate.ensures.keeps.records.store.type_trees c.args.ty c.requires, c.in_ok-hole.ensures.is.is) at c.in_ok-whole.ensures.is in
    rw whole.is refl

pub returns-clause-is : goal.returns-clause-is
returns-clause-is c =
    let ty = type_tree c.args.k.now.store.types c.args.ty in
    let whole : IsAt c.some.new.k.store c.in_ok-whole.whole (exists ty (BoundTm 0 (FunTy ty BoolTy))) = rw (c.place_of_predicate.ensures.keeps.records.store.type_trees c.args.ty c.requires, c.in_ok-hole.ensures.is.is) at c.in_ok-whole.ensures.is in
    rw whole.is at c.in_ok-t.ensures.is

pub returns-in_err-hole-clause-keeps : goal.returns-in_err-hole-clause-keeps
returns-in_err-hole-clause-keeps c = c.place_of_predicate.ensures.keeps

pub returns-in_err-whole-clause-keeps : goal.returns-in_err-whole-clause-keeps
returns-in_err-whole-clause-keeps c = keeps_all_trans c.place_of_predicate.ensures.keeps c.some.ensures.keeps

pub returns-in_err-t-clause-keeps : goal.returns-in_err-t-clause-keeps
returns-in_err-t-clause-keeps c = keeps_all_trans (keeps_all_trans c.place_of_predicate.ensures.keeps c.some.ensures.keeps) c.negated.ensures.keeps

pub returns-clause-keeps : goal.returns-clause-keeps
returns-clause-keeps c = keeps_all_trans (keeps_all_trans c.place_of_predicate.ensures.keeps c.some.ensures.keeps) c.negated.ensures.keeps

use Rattle.std.proofs.Common.{sym}
use Rattle.hol_types.specs.Ty.{BoolTy, FunTy}
use Rattle.hol_types.specs.TypeStore.{type_tree}
use Rattle.hol_terms.specs.Constants as hol
use Rattle.goal_text.proofs.KeptLemmas.{same_Ok}
use Rattle.goal_text.proofs.OperationLemmas.{fits_one, fits_two, number_typed, two_typed, typed_kept}
use Rattle.goal_text.proofs.operations.choose.Goals as goal

pub apply_two-requires-clause-fits : goal.apply_two-requires-clause-fits
apply_two-requires-clause-fits c =
    let s = c.args.base.now in
    let one = c.conditional.new.base in
    let k = c.in_ok-f.ensures.keeps in
    let t = type_tree s.types c.args.ty in
    let f = number_typed one c.in_ok-f.f (hol.ite_tm t) c.in_ok-f.ensures.there (sym (same_Ok _ _ c.in_ok-f.ensures.read)) in
    fits_two one c.in_ok-f.f c.args.condition c.args.first BoolTy t (FunTy t t) f (typed_kept k c.requires.condition) (typed_kept k c.requires.first)

pub apply-requires-clause-fits : goal.apply-requires-clause-fits
apply-requires-clause-fits c =
    let s = c.args.base.now in
    let one = c.conditional.new.base in
    let two = c.apply_two.new.base in
    let k = c.in_ok-f.ensures.keeps in
    let t = type_tree s.types c.args.ty in
    let f = number_typed one c.in_ok-f.f (hol.ite_tm t) c.in_ok-f.ensures.there (sym (same_Ok _ _ c.in_ok-f.ensures.read)) in
    let given = two_typed one two c.in_ok-f.f c.args.condition c.args.first c.in_ok-given.given BoolTy t (FunTy t t) f c.in_ok-given.ensures.there (sym (same_Ok _ _ c.in_ok-given.ensures.read)) in
    fits_one two c.in_ok-given.given c.args.second t t given (typed_kept c.in_ok-given.ensures.keeps (typed_kept k c.requires.second))

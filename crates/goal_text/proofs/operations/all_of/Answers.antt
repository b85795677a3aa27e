use Rattle.std.proofs.Common.{◌∙◌, ◌<◌, ap, sym, length, rules, Ok}
use Rattle.hol_types.specs.Ty.{BoolTy}
use Rattle.hol_terms.specs.Constants as hol
use Rattle.hol_terms.specs.Term.{ConstTm}
use Rattle.goal_text.specs.Operations as operations
use Rattle.goal_text.proofs.KeptLemmas.{same_Ok}
use Rattle.goal_text.proofs.OperationLemmas.{all_of_some, front_same, made_same, rest_same, typed_terms}
use Rattle.goal_text.proofs.operations.all_of.Goals as goal

pub returns-in_ok-t-clause-read : goal.returns-in_ok-t-clause-read
returns-in_ok-t-clause-read c =
    let s = c.args.base.now in
    let one = c.connective.new.base in
    let ts = c.args.formulas.now in
    let k = c.in_ok-f.ensures.keeps in
    let all = typed_terms s _ ts c.requires in
    let some : 0 < length ts = search rules in
    ap Ok (all_of_some s ts some ∙ made_same (λ f a us. operations.to_the_right (hol.apply_two f) a us) _ _ _ _ _ _ _ (ap (λ n. ConstTm n (hol.FunTy2 BoolTy BoolTy BoolTy)) (sym c.as_slice-else-is_empty.ensures) ∙ same_Ok _ _ c.in_ok-f.ensures.read) (front_same s one ts k all some) (rest_same s one ts 1 k all) (same_Ok _ _ c.in_ok-t.ensures.read))

use Rattle.std.proofs.Common.{ap, Ok}
use Rattle.hol_terms.specs.Constants as hol
use Rattle.goal_text.specs.Operations as operations
use Rattle.goal_text.proofs.KeptLemmas.{same_Ok}
use Rattle.goal_text.proofs.OperationLemmas.{front_same, made_same, rest_same, typed_terms}
use Rattle.goal_text.proofs.operations.connective_of.Goals as goal

pub returns-clause-read : goal.returns-clause-read
returns-clause-read c =
    let s = c.args.base.now in
    let one = c.connective.new.base in
    let ts = c.args.parts.now in
    let k = c.in_ok-f.ensures.keeps in
    let all = typed_terms s _ ts c.requires.parts in
    ap Ok (made_same (λ f a us. operations.to_the_right (hol.apply_two f) a us) _ _ _ _ _ _ _ (same_Ok _ _ c.in_ok-f.ensures.read) (front_same s one ts k all c.requires.some) (rest_same s one ts 1 k all) (same_Ok _ _ c.in_ok-t.ensures.read))

use Rattle.std.proofs.Common.{◌≡◌, ◌∷◌, drop}
use Rattle.std.specs.List.{AllByRecursion}
use Rattle.std.specs.Prelude.{◌++◌, map}
use Rattle.hol_terms.specs.TermStore.{HasTerm}
use Rattle.part_numbers.specs.Walk.{terms_at}
use Rattle.proof_plan.specs.PlanValue.{claim_of, premise_claims, premises_of}
use Rattle.proof_plan.proofs.size.claims.Given as goal

-- the claims so far, and those that are left
abbrev pub invariant-loop-i : goal.invariant-loop-i
invariant-loop-i l =
    let p = l.fn.task.plan in
    let k = l.fn.task.node in
    record {
      there : AllByRecursion (HasTerm p.store) l.terms.items;
      trees : terms_at p.store l.terms.items ++ map (λ j. claim_of p j) (drop l.i (premises_of p k)) ≡ claim_of p k ∷ premise_claims p k;
    }

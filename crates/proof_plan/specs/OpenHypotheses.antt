-- The open hypotheses of rule applications.
use Rattle.std.specs.Prelude.{Bool, not, List, [], ◌∷◌, ◌++◌, filter, if◌then◌else◌}
use Rattle.std.specs.List.{list_any, flat_map}
use Rattle.hol_terms.specs.Term.{Term, AppTm}
use Rattle.hol_terms.specs.TermEq.{term_eq}
use Rattle.hol_terms.specs.Constants.{or_tm}
use Rattle.proof_plan.specs.declared.rule.Rule.{Rule}
use Rattle.proof_plan.specs.declared.rule.Rule.TheVariants.{Hypothesis, Lemma}
use Rattle.proof_plan.specs.declared.node.PlanNode.{PlanNode}
use Rattle.proof_plan.specs.PlanValue.{PlanValue, tree_in}
use Rattle.proof_plan.specs.Claims.{open_hyps}
use Rattle.proof_plan.specs.Accept.{are_complements}

-- the pieces of a formula: itself, and of a disjunction the pieces of its sides
unfoldable pub pieces : Term → List Term
pieces (AppTm (AppTm f a) b) = AppTm (AppTm f a) b ∷ (if term_eq f or_tm then (pieces a ++ pieces b) else [])
pieces t = t ∷ []

-- the hypothesis is a complement of a piece of the conclusion
abbrev pub is_discharged : Term → Term → Bool
is_discharged c h = list_any (are_complements h) (pieces c)

-- the open hypotheses of a rule's application, by its claim and the open hypotheses of its premises
abbrev pub hyps_by : Rule → Term → List Term → List Term
hyps_by Hypothesis c hs = c ∷ []
hyps_by Lemma c hs = filter (λ h. not (is_discharged c h)) hs
hyps_by r c hs = hs

-- the open hypotheses of a node: of `hypothesis` its formula; of `lemma` its premise's, without each that is
-- a complement of a piece of the conclusion; else its premises' together
abbrev pub hyps_of : PlanValue → PlanNode → List Term
hyps_of p n = hyps_by n.rule (tree_in p n.claim) (flat_map (λ j. open_hyps p j) n.premises)

-- a rule other than `lemma`: it passes the open hypotheses of its premises on
abbrev pub PassesHyps : Rule → Type 0
PassesHyps Lemma = ⊥
PassesHyps r = Unit {0}

-- What follows from premises that follow, for the facts and for none; and the record of it.
use Rattle.std.proofs.Common.{◌≡◌, ◌++◌, ◌∷◌, [], ⊎_elim, inr, refl, subst, ℕ, List, Bool, true, ◌&&◌}
use Rattle.hol_terms.specs.Term.{Term, LamTm, ty_of}
use Rattle.hol_terms.specs.Substitution.{subst_bound}
use Rattle.hol_terms.specs.TermStore.{HasTerm, term_tree}
use Rattle.hol_terms.specs.Formula.{In, IsFormula, AllFormulas, Within, WithinBut, SameMembers, without}
use Rattle.hol_terms.specs.Derivable.{Derivable}
use Rattle.hol_types.specs.Ty.{BoolTy}
use Rattle.hol_terms.specs.Constants.{disjunction, equation, exists}
use Rattle.hol_terms.proofs.DerivableLemmas.{or_e_in, iff_i_in}
use Rattle.hol_terms.proofs.QuantifierRules.{ex_e_in}
use Rattle.hol_terms.proofs.SetLemmas.{in_append_left, in_append_right, in_append_either, within_left, within_right, within_trans, within_context, within_from_same, same_sym, within_but_context, within_but_more, within_but_without}
use Rattle.hol_terms.proofs.DerivedFormulas.{derived_is_formula}
use Rattle.lcf_kernel.specs.declared.thm.Made.TheVariants.{Rule}
use Rattle.lcf_kernel.specs.KernelState.{KernelState, HasThm, concl_of, hyps_of, bare_of, facts_of, context_of, Follows, IsThm, IsKernel, IsOutside, GivesHyps}
use Rattle.hol_formulas.specs.Formulas.{trees}
use Rattle.lcf_kernel.specs.RuleForms.{IsArbitrary}
use Rattle.hol_formulas.proofs.TreesLemmas.{all_formulas}
use Rattle.lcf_kernel.proofs.KeepLemmas.{thm_is}
use Rattle.lcf_kernel.proofs.RuleLemmas.{both_left, both_right}

-- ---- from no premise, one, two and three

pub from_none : {F K : List Term} {f : Term} → ((E : List Term) → Derivable E K f) → Follows F K true f
from_none {F} step = record { derivable = step F; bare = λ h. step [] }

pub from_one : {F G K : List Term} {p : Bool} {a f : Term} → ((E : List Term) → Derivable E G a → Derivable E K f) → Follows F G p a → Follows F K p f
from_one {F} step d = record { derivable = step F d.derivable; bare = λ h. step [] (d.bare h) }

pub from_two : {F G H K : List Term} {p q : Bool} {a b f : Term} → ((E : List Term) → Derivable E G a → Derivable E H b → Derivable E K f) → Follows F G p a → Follows F H q b → Follows F K (p && q) f
from_two {F} {p} {q} step d e = record { derivable = step F d.derivable e.derivable; bare = λ h. step [] (d.bare (both_left p q h)) (e.bare (both_right p q h)) }

pub from_three : {F G H J K : List Term} {p q r : Bool} {a b c f : Term} → ((E : List Term) → Derivable E G a → Derivable E H b → Derivable E J c → Derivable E K f)
    → Follows F G p a → Follows F H q b → Follows F J r c → Follows F K ((p && q) && r) f
from_three {F} {p} {q} {r} step d e g = record {
  derivable = step F d.derivable e.derivable g.derivable;
  bare = λ h. let l = both_left (p && q) r h in step [] (d.bare (both_left p q l)) (e.bare (both_right p q l)) (g.bare (both_right (p && q) r h));
}

-- ---- under the context C

-- all of a set
pub under_all : (C : List Term) {G K : List Term} → SameMembers K G → Within (C ++ G) (C ++ K)
under_all C same = within_context C (within_from_same (same_sym same))

-- the one part of a union and the other
pub under_left : (C G H K : List Term) → SameMembers K (G ++ H) → Within (C ++ G) (C ++ K)
under_left C G H K same = within_context C (within_trans (within_left G H) (within_from_same (same_sym same)))

pub under_right : (C G H K : List Term) → SameMembers K (G ++ H) → Within (C ++ H) (C ++ K)
under_right C G H K same = within_context C (within_trans (within_right G H) (within_from_same (same_sym same)))

-- a set but for a formula
pub under_but : (C : List Term) (t : Term) (G K : List Term) → Within (C ++ without t G) (C ++ K) → WithinBut t (C ++ G) (C ++ K)
under_but C t G K within = within_but_more (within_but_context C (within_but_without t G)) within

-- a set, within what the context leaves of it and a formula more
pub under_more : {C : List Term} {t : Term} {G K : List Term} → IsOutside C (t ∷ G) K → Within (C ++ G) (C ++ K)
under_more {C} {t} {G} {K} out = record { inside = inside }
  where
    inside : (u : Term) → In u (C ++ G) → In u (C ++ K)
    inside u h = ⊎_elim (λ (i : In u C). in_append_left u C K i) (λ (i : In u G). ⊎_elim (λ (j : In u C). in_append_left u C K j) (λ (j : In u K). in_append_right u C K j) (out.to u (inr i))) (in_append_either u C G h)

-- ---- rules whose hypotheses are less than those of the premises

pub or_e_under : (C G H J K : List Term) (a b c : Term) → AllFormulas (C ++ K) → SameMembers K (G ++ without a H ++ without b J)
    → (E : List Term) → Derivable E (C ++ G) (disjunction a b) → Derivable E (C ++ H) c → Derivable E (C ++ J) c → Derivable E (C ++ K) c
or_e_under C G H J K a b c all same E d e f =
    let both = under_left C (G ++ without a H) (without b J) K same in
    or_e_in all (within_trans (within_context C (within_left G (without a H))) both)
    (under_but C a H K (within_trans (within_context C (within_right G (without a H))) both))
    (under_but C b J K (under_right C (G ++ without a H) (without b J) K same)) d e f

pub iff_i_under : (C G H K : List Term) (a b : Term) → AllFormulas (C ++ K) → SameMembers K (without a G ++ without b H)
    → (E : List Term) → Derivable E (C ++ G) b → Derivable E (C ++ H) a → Derivable E (C ++ K) (equation BoolTy a b)
iff_i_under C G H K a b all same E d e =
    iff_i_in all (under_but C a G K (under_left C (without a G) (without b H) K same)) (under_but C b H K (under_right C (without a G) (without b H) K same)) d e

pub ex_e_under : (C G H K : List Term) (b c v : Term) → IsArbitrary b c (C ++ H) v → AllFormulas (C ++ K) → SameMembers K (G ++ without (subst_bound b 0 v) H)
    → (E : List Term) → Derivable E (C ++ G) (exists (ty_of v) (LamTm (ty_of v) b)) → Derivable E (C ++ H) c → Derivable E (C ++ K) c
ex_e_under C G H K b c v is all same E d e =
    let t = subst_bound b 0 v in
    ex_e_in v is.variable refl is.not_in_body is.not_in_claim is.absent all (under_left C G (without t H) K same) (under_but C t H K (under_right C G (without t H) K same)) d e

-- ---- the record

module _ (k : KernelState) (is : IsKernel k) where
  -- what the record of a premise says, where its conclusion is known
  pub premise : (a : ℕ) → HasThm k a → (f : Term) → concl_of k a ≡ f → Follows (facts_of k) (context_of k ++ hyps_of k a) (bare_of k a) f
  premise a has f e = subst (λ u. Follows (facts_of k) (context_of k ++ hyps_of k a) (bare_of k a) u) e (thm_is k is a has).follows

  -- its conclusion is a formula
  pub concluded_formula : (a : ℕ) → HasThm k a → IsFormula (concl_of k a)
  concluded_formula a has = (thm_is k is a has).concl.formula

  -- the record of what follows
  pub recorded : (hyps : List ℕ) (given : List Term) (concl : ℕ) (f : Term) (bare b : Bool) → GivesHyps k hyps given → HasTerm k.store concl → term_tree k.store concl ≡ f → bare ≡ b
      → Follows (facts_of k) (context_of k ++ trees k.store hyps) b f → IsThm k.store k.facts k.context (record { hyps = hyps; concl = concl; made = Rule; bare = bare })
  recorded hyps given concl f bare b gives there e p follows = record {
    concl = record { there = there; formula = rw e (derived_is_formula (all_formulas k.store k.facts is.facts) follows.derivable) };
    hyps = gives.hyps;
    follows = rw (e, p) follows;
  }

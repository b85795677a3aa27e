-- The rules on sets of hypotheses, for facts and for none.
use Rattle.std.proofs.Common.{◌≡◌, ◌++◌, ◌∷◌, [], refl, sym, ⊎_elim, List, inl, true, false, Bool, ◌&&◌}
use Rattle.hol_types.specs.TypeSubst.{TypeSubst}
use Rattle.hol_types.proofs.TypeLemmas.{FunTy-parts}
use Rattle.hol_terms.specs.Term.{Term}
use Rattle.hol_terms.specs.Substitution.{subst_types}
use Rattle.hol_terms.specs.Constants.{false_tm, negation, implication}
use Rattle.hol_terms.specs.Formula.{In, IsFormula, AllFormulas, Within, SameMembers, without}
use Rattle.hol_terms.proofs.SetLemmas.{in_append_left, in_append_right, in_append_either, within_left, within_right, within_trans, within_context, within_from_same, same_sym, within_but_context, within_but_more, within_but_without}
use Rattle.hol_terms.proofs.DerivableLemmas.{more, assume_in, fact_in, imp_i_in, imp_e_in, not_e_in, false_e_in, classical_in}
use Rattle.hol_terms.specs.Derivable.{Derivable}
use Rattle.lcf_kernel.specs.KernelState.{Follows, IsOutside}

-- ---- formulas

pub right_formula : (a b : Term) → IsFormula (implication a b) → IsFormula b
right_formula a b f = record { typed = f.typed.1; closed = f.closed.1; bool = sym (FunTy-parts _ _ _ _ f.typed.2).0 }

-- ---- the rules

pub both_left : (p q : Bool) → (p && q) ≡ true → p ≡ true
both_left true q h = refl
both_left false q h = h

pub both_right : (p q : Bool) → (p && q) ≡ true → q ≡ true
both_right true q h = h
both_right false q h = absurd (cc)

left_within : (C G H K : List Term) → SameMembers K (G ++ H) → Within (C ++ G) (C ++ K)
left_within C G H K same = within_context C (within_trans (within_left G H) (within_from_same (same_sym same)))

right_within : (C G H K : List Term) → SameMembers K (G ++ H) → Within (C ++ H) (C ++ K)
right_within C G H K same = within_context C (within_trans (within_right G H) (within_from_same (same_sym same)))

-- C is the context, K the conclusion's hypotheses, G and H those of the premises
module _ (F C K : List Term) (all : AllFormulas (C ++ K)) where
  pub follows_assume : (t : Term) → IsOutside C (t ∷ []) K → Follows F (C ++ K) true t
  follows_assume t out = record { derivable = assume_in all there; bare = λ h. assume_in all there }
    where
      there : In t (C ++ K)
      there = ⊎_elim (λ (h : In t C). in_append_left t C K h) (λ (h : In t K). in_append_right t C K h) (out.to t (inl refl))

  pub follows_adopted : (G : List Term) (f : Term) → IsOutside C G K → Derivable F (C ++ G) f → Follows F (C ++ K) false f
  follows_adopted G f out d = record { derivable = more F (C ++ G) (C ++ K) f all (record { inside = inside }) d; bare = λ h. absurd (cc) }
    where
      inside : (u : Term) → In u (C ++ G) → In u (C ++ K)
      inside u h = ⊎_elim (λ (i : In u C). in_append_left u C K i) (λ (i : In u G). ⊎_elim (λ (j : In u C). in_append_left u C K j) (λ (j : In u K). in_append_right u C K j) (out.to u i)) (in_append_either u C G h)

  pub follows_fact : (s : TypeSubst) (f : Term) → In f F → Follows F (C ++ K) false (subst_types s f)
  follows_fact s f there = record { derivable = fact_in s f all there; bare = λ h. absurd (cc) }

  pub follows_imp_i : (G : List Term) (p : Bool) (a t : Term) → IsFormula t → SameMembers K (without t G) → Follows F (C ++ G) p a → Follows F (C ++ K) p (implication t a)
  follows_imp_i G p a t is same d =
      let but = within_but_context C (within_but_more (within_but_without t G) (within_from_same (same_sym same))) in
      record { derivable = imp_i_in is all but d.derivable; bare = λ h. imp_i_in is all but (d.bare h) }

  pub follows_imp_e : (G H : List Term) (p q : Bool) (a b : Term) → SameMembers K (G ++ H) → Follows F (C ++ G) p (implication a b) → Follows F (C ++ H) q a → Follows F (C ++ K) (p && q) b
  follows_imp_e G H p q a b same d e =
      let l = left_within C G H K same in
      let r = right_within C G H K same in
      record { derivable = imp_e_in all l r d.derivable e.derivable; bare = λ h. imp_e_in all l r (d.bare (both_left p q h)) (e.bare (both_right p q h)) }

  pub follows_not_e : (G H : List Term) (p q : Bool) (a : Term) → SameMembers K (G ++ H) → Follows F (C ++ G) p (negation a) → Follows F (C ++ H) q a → Follows F (C ++ K) (p && q) false_tm
  follows_not_e G H p q a same d e =
      let l = left_within C G H K same in
      let r = right_within C G H K same in
      record { derivable = not_e_in all l r d.derivable e.derivable; bare = λ h. not_e_in all l r (d.bare (both_left p q h)) (e.bare (both_right p q h)) }

  pub follows_false_e : (G : List Term) (p : Bool) (t : Term) → IsFormula t → SameMembers K G → Follows F (C ++ G) p false_tm → Follows F (C ++ K) p t
  follows_false_e G p t is same d =
      let within = within_context C (within_from_same (same_sym same)) in
      record { derivable = false_e_in is all within d.derivable; bare = λ h. false_e_in is all within (d.bare h) }

  pub follows_classical : (G : List Term) (p : Bool) (t : Term) → IsFormula t → SameMembers K (without (negation t) G) → Follows F (C ++ G) p false_tm → Follows F (C ++ K) p t
  follows_classical G p t is same d =
      let but = within_but_context C (within_but_more (within_but_without (negation t) G) (within_from_same (same_sym same))) in
      record { derivable = classical_in is all but d.derivable; bare = λ h. classical_in is all but (d.bare h) }

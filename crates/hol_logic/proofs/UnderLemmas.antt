-- Which hypotheses records have at most, rule by rule.
use Rattle.std.proofs.Common.{◌≡◌, ◌∷◌, ◌++◌, ◌∙◌, [], refl, sym, subst, ⊎_elim, inl, inr, ℕ, List, Bool, true, ◌&&◌}
use Rattle.hol_types.specs.Ty.{BoolTy}
use Rattle.hol_terms.specs.Term.{Term, ty_of}
use Rattle.hol_terms.specs.TermStore.{TermStore, term_tree}
use Rattle.hol_terms.specs.Formula.{In, IsFormula, Within, SameMembers, without}
use Rattle.hol_terms.specs.Constants.{conjunction, implication, equation}
use Rattle.hol_terms.proofs.SetLemmas.{within_trans, within_both, within_from_same, in_without, without_differs, same_from_within, within_nothing, same_refl}
use Rattle.hol_formulas.specs.Constants.{IsAt}
use Rattle.hol_formulas.specs.Formulas.{HasFormula}
use Rattle.hol_formulas.proofs.GrowthLemmas.{formula_keeps}
use Rattle.lcf_kernel.specs.KernelState.{KernelState, HasThm, concl_of, hyps_of, bare_of, IsOutside, KeepsAll}
use Rattle.lcf_kernel.proofs.KeptLemmas.{at_kept}
use Rattle.hol_logic.specs.States.{States}
use Rattle.hol_logic.specs.Under.{IsUnder, AreFormulas, AreDenials}
use Rattle.hol_logic.proofs.StateLemmas.{bare_keeps}

-- ---- a kernel that goes on

pub under_keeps : {k l : KernelState} {r : ℕ} {G : List Term} → KeepsAll k l → HasThm k r → IsUnder k r G → IsUnder l r G
under_keeps {r} {G} g there u = record {
  hyps = subst (λ H. Within H G) (sym (g.records.hyps r there)) u.hyps;
  bare = bare_keeps g there ∙ u.bare;
}

pub formula_kept : {k l : KernelState} {t : ℕ} → KeepsAll k l → HasFormula k.store t → HasFormula l.store t
formula_kept {k} {l} {t} g h = formula_keeps k.store l.store g.records.store t h

pub bool_kept : {k l : KernelState} {t : ℕ} → KeepsAll k l → HasFormula k.store t → ty_of (term_tree l.store t) ≡ BoolTy
bool_kept g h = (formula_kept g h).formula.bool

pub sides_kept : {k l : KernelState} {a b : ℕ} → KeepsAll k l → AreFormulas k.store a b → AreFormulas l.store a b
sides_kept g h = record { left = formula_kept g h.left; right = formula_kept g h.right }

pub denials_kept : {k l : KernelState} {a b x y : ℕ} → KeepsAll k l → AreDenials k.store a b x y → AreDenials l.store a b x y
denials_kept {a = a} {b = b} g h = record {
  sides = sides_kept g h.sides;
  left = rw (g.records.store.trees a h.sides.left.there) (at_kept g h.left);
  right = rw (g.records.store.trees b h.sides.right.there) (at_kept g h.right);
}

-- ---- formulas

pub formula_at : {s : TermStore} {t : ℕ} {f : Term} → IsAt s t f → IsFormula f → HasFormula s t
formula_at h f = record { there = h.there; formula = subst (λ u. IsFormula u) (sym h.is) f }

-- ---- what is left of sets of hypotheses

pub under_more : {k : KernelState} {r : ℕ} {G : List Term} (t : Term) → IsUnder k r G → IsUnder k r (t ∷ G)
under_more t u = record { hyps = within_trans u.hyps (record { inside = λ v h. inr h }); bare = u.bare }

-- what a record proves under one formula it proves under it and more
pub under_all : {k : KernelState} {r : ℕ} {u : Term} {G : List Term} → IsUnder k r (u ∷ []) → IsUnder k r (u ∷ G)
under_all {u = u} {G = G} h = record { hyps = within_trans h.hyps (record { inside = first }); bare = h.bare }
  where
    first : (v : Term) → In v (u ∷ []) → In v (u ∷ G)
    first v (inl e) = inl e
    first v (inr i) = absurd i

within_less : {t : Term} {G H K : List Term} → SameMembers K (without t G) → Within G (t ∷ H) → Within K H
within_less {t} {G} {H} same w = record { inside = λ u h. either u (same.to u h) }
  where
    either : (u : Term) → In u (without t G) → In u H
    either u h = ⊎_elim (λ (e : u ≡ t). absurd (without_differs t u G h e)) (λ (i : In u H). i) (w.inside u (in_without t u G h))

both_true : {p q r : Bool} → r ≡ (p && q) → p ≡ true → q ≡ true → r ≡ true
both_true e f g = e ∙ rw (f, g) refl

-- ---- the rules

-- from the formula itself
pub under_assume : {l : KernelState} {r : ℕ} {C G : List Term} (t : Term) → In t G → IsOutside C (t ∷ []) (hyps_of l r) → bare_of l r ≡ true → IsUnder l r G
under_assume {G = G} t has out bare = record { hyps = record { inside = λ u h. one u (out.from u h) }; bare = bare }
  where
    one : (u : Term) → In u (t ∷ []) → In u G
    one u (inl e) = subst (λ v. In v G) (sym e) has
    one u (inr h) = absurd h

module _ {m l : KernelState} {r : ℕ} {G : List Term} where
  -- from one record
  pub under_one : {a : ℕ} → IsUnder m a G → SameMembers (hyps_of l r) (hyps_of m a) → bare_of l r ≡ bare_of m a → IsUnder l r G
  under_one u same bare = record { hyps = within_trans (within_from_same same) u.hyps; bare = bare ∙ u.bare }

  -- from one record, without a hypothesis
  pub under_less : {a : ℕ} {t : Term} → IsUnder m a (t ∷ G) → SameMembers (hyps_of l r) (without t (hyps_of m a)) → bare_of l r ≡ bare_of m a → IsUnder l r G
  under_less u same bare = record { hyps = within_less same u.hyps; bare = bare ∙ u.bare }

  -- from two
  pub under_two : {a b : ℕ} → IsUnder m a G → IsUnder m b G → SameMembers (hyps_of l r) (hyps_of m a ++ hyps_of m b) → bare_of l r ≡ (bare_of m a && bare_of m b) → IsUnder l r G
  under_two u v same bare = record { hyps = within_trans (within_from_same same) (within_both u.hyps v.hyps); bare = both_true bare u.bare v.bare }

  -- from a disjunction and its cases
  pub under_cases : {a b c : ℕ} {p q : Term} → IsUnder m a G → IsUnder m b (p ∷ G) → IsUnder m c (q ∷ G)
      → SameMembers (hyps_of l r) (hyps_of m a ++ without p (hyps_of m b) ++ without q (hyps_of m c)) → bare_of l r ≡ ((bare_of m a && bare_of m b) && bare_of m c) → IsUnder l r G
  under_cases {a} {b} {c} {p} {q} u v w same bare = record {
    hyps = within_trans (within_from_same same) (within_both (within_both u.hyps (within_less (same_refl (without p (hyps_of m b))) v.hyps)) (within_less (same_refl (without q (hyps_of m c))) w.hyps));
    bare = bare ∙ rw (u.bare, v.bare, w.bare) refl;
  }

-- formulas of which each follows from the other
pub states_equal : {m l : KernelState} {r a b : ℕ} {p q : Term} → concl_of m a ≡ q → concl_of m b ≡ p → IsUnder m a (p ∷ []) → IsUnder m b (q ∷ [])
    → HasThm l r → concl_of l r ≡ equation BoolTy (concl_of m b) (concl_of m a)
    → SameMembers (hyps_of l r) (without (concl_of m b) (hyps_of m a) ++ without (concl_of m a) (hyps_of m b)) → bare_of l r ≡ (bare_of m a && bare_of m b)
    → States l r (equation BoolTy p q) [] true
states_equal {m} {l} {r} {a} {b} {p} {q} one other forth back there concl same bare = record {
  there = there;
  concl = concl ∙ rw (one, other) refl;
  hyps = same_from_within (within_trans (within_from_same same) (within_both (none p (concl_of m b) (hyps_of m a) other forth.hyps) (none q (concl_of m a) (hyps_of m b) one back.hyps))) (within_nothing (hyps_of l r));
  bare = both_true bare forth.bare back.bare;
}
  where
    none : (t u : Term) (H : List Term) → u ≡ t → Within H (t ∷ []) → Within (without u H) []
    none t u H e w = within_less (same_refl (without u H)) (subst (λ v. Within H (v ∷ [])) (sym e) w)

-- ---- the sides of conclusions

pub conjunct_left : {f x o p q : Term} → f ≡ conjunction x o → f ≡ conjunction p q → x ≡ p
conjunct_left e h = cc

pub conjunct_right : {f o x p q : Term} → f ≡ conjunction o x → f ≡ conjunction p q → x ≡ q
conjunct_right e h = cc

pub implied_by : {f a x p q : Term} → f ≡ implication a x → f ≡ implication p q → x ≡ q
implied_by e h = cc

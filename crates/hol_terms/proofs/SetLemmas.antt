-- Finite sets of terms, as lists read by membership.
use Rattle.std.proofs.Common.{◌≡◌, ◌⊎◌, List, [], ◌∷◌, ◌++◌, map, Bool, true, false, cond, refl, sym, ap, ◌∙◌, subst, inl, inr, ⊎_elim}
use Rattle.hol_terms.specs.Term.{Term}
use Rattle.hol_terms.specs.TermEq.{term_eq}
use Rattle.hol_terms.specs.Formula.{In, IsFormula, AllFormulas, Within, WithinBut, SameMembers, without}
use Rattle.hol_terms.proofs.TermEqLemmas.{term_eq_sound, term_eq_apart}

-- ---- joined lists

pub in_append_left : {A : Type 0} (x : A) (xs ys : List A) → In x xs → In x (xs ++ ys)
in_append_left x [] ys h = absurd h
in_append_left x (y ∷ xs) ys (inl e) = inl e
in_append_left x (y ∷ xs) ys (inr h) = inr (in_append_left x xs ys h)

pub in_append_right : {A : Type 0} (x : A) (xs ys : List A) → In x ys → In x (xs ++ ys)
in_append_right x [] ys h = h
in_append_right x (y ∷ xs) ys h = inr (in_append_right x xs ys h)

pub in_append_either : {A : Type 0} (x : A) (xs ys : List A) → In x (xs ++ ys) → In x xs ⊎ In x ys
in_append_either x [] ys h = inr h
in_append_either x (y ∷ xs) ys (inl e) = inl (inl e)
in_append_either x (y ∷ xs) ys (inr h) = ⊎_elim (λ k. inl (inr k)) (λ k. inr k) (in_append_either x xs ys h)

-- ---- what a function makes of a list

pub in_map : {A B : Type 0} (f : A → B) (x : A) (xs : List A) → In x xs → In (f x) (map f xs)
in_map f x [] h = absurd h
in_map f x (y ∷ xs) (inl e) = inl (ap f e)
in_map f x (y ∷ xs) (inr h) = inr (in_map f x xs h)

pub in_map_from : {A B : Type 0} (f : A → B) (y : B) (xs : List A) → In y (map f xs) → (x : A) × In x xs × (y ≡ f x)
in_map_from f y [] h = absurd h
in_map_from f y (x ∷ xs) (inl e) = (x, inl refl, e)
in_map_from f y (x ∷ xs) (inr h) = let p = in_map_from f y xs h in (p.0, inr p.1, p.2)

-- ---- a set without a formula

pub in_without : (t u : Term) (G : List Term) → In u (without t G) → In u G
unfolding without
in_without t u [] h = h
in_without t u (v ∷ G) h = by (λ k. in_without t u G k) (term_eq v t) h
  where
    by : (In u (without t G) → In u G) → (b : Bool) → In u (cond b (without t G) (v ∷ without t G)) → In u (v ∷ G)
    by rest true k = inr (rest k)
    by rest false (inl e) = inl e
    by rest false (inr k) = inr (rest k)

pub without_differs : (t u : Term) (G : List Term) → In u (without t G) → u ≡ t → ⊥
unfolding without
without_differs t u [] h e = h
without_differs t u (v ∷ G) h e = by (λ k. without_differs t u G k e) (term_eq v t) refl h
  where
    by : (In u (without t G) → ⊥) → (b : Bool) → term_eq v t ≡ b → In u (cond b (without t G) (v ∷ without t G)) → ⊥
    by rest true same k = rest k
    by rest false apart (inl f) = term_eq_apart v t apart (sym f ∙ e)
    by rest false apart (inr k) = rest k

pub in_without_or : (t u : Term) (G : List Term) → In u G → (u ≡ t) ⊎ In u (without t G)
unfolding without
in_without_or t u [] h = absurd h
in_without_or t u (v ∷ G) h = by (λ k. in_without_or t u G k) (term_eq v t) refl h
  where
    by : (In u G → (u ≡ t) ⊎ In u (without t G)) → (b : Bool) → term_eq v t ≡ b → In u (v ∷ G) → (u ≡ t) ⊎ In u (cond b (without t G) (v ∷ without t G))
    by rest true same (inl e) = inl (e ∙ term_eq_sound v t same)
    by rest true same (inr k) = rest k
    by rest false apart (inl e) = inr (inl e)
    by rest false apart (inr k) = ⊎_elim (λ e. inl e) (λ l. inr (inr l)) (rest k)

-- ---- one set within another

pub within_refl : (G : List Term) → Within G G
within_refl G = record { inside = λ t h. h }

pub within_trans : {G H K : List Term} → Within G H → Within H K → Within G K
within_trans g h = record { inside = λ t k. h.inside t (g.inside t k) }

pub within_nothing : (H : List Term) → Within [] H
within_nothing H = record { inside = λ t h. absurd h }

pub within_left : (G H : List Term) → Within G (G ++ H)
within_left G H = record { inside = λ t h. in_append_left t G H h }

pub within_right : (G H : List Term) → Within H (G ++ H)
within_right G H = record { inside = λ t h. in_append_right t G H h }

pub within_both : {G H K : List Term} → Within G K → Within H K → Within (G ++ H) K
within_both {G} {H} g h = record { inside = λ t k. ⊎_elim (λ l. g.inside t l) (λ l. h.inside t l) (in_append_either t G H k) }

-- a context in front of both
pub within_context : (C : List Term) {G H : List Term} → Within G H → Within (C ++ G) (C ++ H)
within_context C {G} {H} h = within_both (within_left C H) (within_trans h (within_right C H))

pub within_without : (t : Term) (G : List Term) → Within (without t G) G
within_without t G = record { inside = λ u h. in_without t u G h }

pub within_but : {t : Term} {G H : List Term} → WithinBut t G H → Within (without t G) H
within_but {t} {G} h = record { inside = λ u k. h.inside u (in_without t u G k) (without_differs t u G k) }

pub within_but_without : (t : Term) (G : List Term) → WithinBut t G (without t G)
within_but_without t G = record { inside = λ u h apart. ⊎_elim (λ e. absurd (apart e)) (λ k. k) (in_without_or t u G h) }

pub within_but_more : {t : Term} {G H K : List Term} → WithinBut t G H → Within H K → WithinBut t G K
within_but_more g h = record { inside = λ u k apart. h.inside u (g.inside u k apart) }

pub within_but_context : {t : Term} (C : List Term) {G H : List Term} → WithinBut t G H → WithinBut t (C ++ G) (C ++ H)
within_but_context C {G} {H} h = record { inside = λ u k apart. ⊎_elim (λ l. in_append_left u C H l) (λ l. in_append_right u C H (h.inside u l apart)) (in_append_either u C G k) }

-- ---- the same members

pub same_refl : (G : List Term) → SameMembers G G
same_refl G = record { to = λ t h. h; from = λ t h. h }

pub same_sym : {G H : List Term} → SameMembers G H → SameMembers H G
same_sym h = record { to = h.from; from = h.to }

pub same_trans : {G H K : List Term} → SameMembers G H → SameMembers H K → SameMembers G K
same_trans g h = record { to = λ t k. h.to t (g.to t k); from = λ t k. g.from t (h.from t k) }

pub same_from_within : {G H : List Term} → Within G H → Within H G → SameMembers G H
same_from_within g h = record { to = g.inside; from = h.inside }

pub within_from_same : {G H : List Term} → SameMembers G H → Within G H
within_from_same h = record { inside = h.to }

-- ---- lists of formulas

pub no_formulas : AllFormulas []
no_formulas = record { each = λ t h. absurd h }

pub one_more : {t : Term} {G : List Term} → IsFormula t → AllFormulas G → AllFormulas (t ∷ G)
one_more {t} {G} is all = record { each = each }
  where
    each : (u : Term) → In u (t ∷ G) → IsFormula u
    each u (inl e) = subst (λ v. IsFormula v) (sym e) is
    each u (inr h) = all.each u h

pub formulas_within : {G H : List Term} → Within G H → AllFormulas H → AllFormulas G
formulas_within h all = record { each = λ t k. all.each t (h.inside t k) }

pub formulas_both : {G H : List Term} → AllFormulas G → AllFormulas H → AllFormulas (G ++ H)
formulas_both {G} {H} g h = record { each = λ t k. ⊎_elim (λ l. g.each t l) (λ l. h.each t l) (in_append_either t G H k) }

pub formulas_without : {G : List Term} (t : Term) → AllFormulas G → AllFormulas (without t G)
formulas_without {G} t all = formulas_within (within_without t G) all

pub formulas_first : {t : Term} {G : List Term} → AllFormulas (t ∷ G) → IsFormula t
formulas_first {t} all = all.each t (inl refl)

pub formulas_rest : {t : Term} {G : List Term} → AllFormulas (t ∷ G) → AllFormulas G
formulas_rest all = record { each = λ u h. all.each u (inr h) }

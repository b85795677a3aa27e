-- Hypotheses by numbers, and as sets of formulas.
use Rattle.std.proofs.Common.{◌≡◌, ◌++◌, ◌∙◌, ◌∷◌, [], refl, sym, subst, ap, ◌⊎◌, ⊎_elim, ℕ, List, inl, inr, filter, not, true, false, Bool as Truth}
use Rattle.std.proofs.Math.Dec.{eqb}
use Rattle.std.specs.List.Sorted.{IsStrictlySortedBy}
use Rattle.hol_types.proofs.TypeLemmas.{eqb_sound, eqb_complete}
use Rattle.hol_terms.specs.Term.{Term}
use Rattle.hol_terms.specs.TermStore.{TermStore, HasTerm, TermsApart, term_tree}
use Rattle.hol_terms.specs.Formula.{In, AllFormulas, SameMembers, without}
use Rattle.hol_terms.proofs.SetLemmas.{in_append_left, in_append_right, in_append_either, in_without, in_without_or, without_differs, formulas_both, same_refl, same_trans}
use Rattle.lcf_kernel.specs.Hyps.{Rises, SameIds, stands}
use Rattle.lcf_kernel.specs.KernelState.{KernelState, HasThm, thm_at, hyps_of, context_of, AreHyps, IsKernel, IsOutside, GivesHyps}
use Rattle.hol_formulas.specs.Formulas.{trees, HasFormulas}
use Rattle.lcf_kernel.proofs.IdLemmas.{In-filter, In-to_filter, stands-In, stands-from_In}
use Rattle.lcf_kernel.proofs.KeepLemmas.{thm_is}
use Rattle.hol_formulas.proofs.TreesLemmas.{in_trees, from_trees, all_formulas, trees_within, from_append, to_append}

module _ (s : TermStore) where
  pub same_union : (xs ys zs : List ℕ) → SameIds zs (xs ++ ys) → SameMembers (trees s zs) (trees s xs ++ trees s ys)
  same_union xs ys zs same = record {
    to = λ u h. from_append s xs ys u (trees_within s zs (xs ++ ys) same.to u h);
    from = λ u h. trees_within s (xs ++ ys) zs same.from u (to_append s xs ys u h);
  }

  -- one number less is one tree less
  module _ (apart : TermsApart s) (t : ℕ) (there : HasTerm s t) (xs : List ℕ) (all : HasFormulas s xs) where
    abbrev differs : ℕ → Truth
    differs u = not (eqb u t)

    kept_differs : (v : ℕ) → In v xs → differs v ≡ true → term_tree s v ≡ term_tree s t → ⊥
    kept_differs v h pass e = by (eqb v t) refl pass
      where
        by : (b : Truth) → eqb v t ≡ b → not b ≡ true → ⊥
        by true k l = absurd (cc)
        by false k l = eqb_complete v t k (apart v t (all.each v h).there there e)

    to_without : (u : Term) → In u (trees s (filter differs xs)) → In u (without (term_tree s t) (trees s xs))
    to_without u h =
        let p = from_trees s u (filter differs xs) h in
        let q = In-filter differs xs p.0 p.1 in
        ⊎_elim (λ (e : u ≡ term_tree s t). absurd (kept_differs p.0 q.0 q.1 (sym p.2 ∙ e))) (λ (k : In u (without (term_tree s t) (trees s xs))). k)
        (in_without_or (term_tree s t) u (trees s xs) (subst (λ v. In v (trees s xs)) (sym p.2) (in_trees s p.0 xs q.0)))

    from_without : (u : Term) → In u (without (term_tree s t) (trees s xs)) → In u (trees s (filter differs xs))
    from_without u h =
        let p = from_trees s u xs (in_without (term_tree s t) u (trees s xs) h) in
        by p.0 p.1 p.2 (eqb p.0 t) refl
      where
        by : (v : ℕ) → In v xs → u ≡ term_tree s v → (b : Truth) → eqb v t ≡ b → In u (trees s (filter differs xs))
        by v i e true k = absurd (without_differs (term_tree s t) u (trees s xs) h (e ∙ ap (λ w. term_tree s w) (eqb_sound v t k)))
        by v i e false k = subst (λ w. In w (trees s (filter differs xs))) (sym e) (in_trees s v (filter differs xs) (In-to_filter differs xs v i (ap not k)))

    pub same_without : SameMembers (trees s (filter differs xs)) (without (term_tree s t) (trees s xs))
    same_without = record { to = to_without; from = from_without }

-- ---- what serves as hypotheses of a record

no_ids : Rises []
unfolding IsStrictlySortedBy
no_ids = tt

module _ (k : KernelState) (is : IsKernel k) where
  pub all_hyps_formulas : (hyps : List ℕ) → HasFormulas k.store hyps → AllFormulas (context_of k ++ trees k.store hyps)
  all_hyps_formulas hyps all = formulas_both (all_formulas k.store k.context is.context.formulas) (all_formulas k.store hyps all)

  gives : (hyps : List ℕ) (given : List Term) → AreHyps k.store k.context hyps → SameMembers (trees k.store hyps) given → GivesHyps k hyps given
  gives hyps given are same = record { hyps = are; formulas = all_hyps_formulas hyps are.formulas; same = same }

  -- none
  pub gives_none : GivesHyps k [] []
  gives_none = gives [] [] (record { formulas = record { each = λ t h. absurd h }; rises = no_ids; outside = λ t h. absurd h }) (same_refl [])

  -- those of a record
  pub gives_same : (a : ℕ) → HasThm k a → GivesHyps k (thm_at k a).hyps (hyps_of k a)
  gives_same a h = gives (thm_at k a).hyps (hyps_of k a) (thm_is k is a h).hyps (same_refl (hyps_of k a))

  -- those of two lists
  pub gives_both : (xs ys : List ℕ) → AreHyps k.store k.context xs → AreHyps k.store k.context ys → (c : List ℕ) → Rises c → SameIds c (xs ++ ys) → GivesHyps k c (trees k.store xs ++ trees k.store ys)
  gives_both xs ys left right c rises same = gives c (trees k.store xs ++ trees k.store ys) are (same_union k.store xs ys c same)
    where
      cases : (t : ℕ) → In t c → In t xs ⊎ In t ys
      cases t h = in_append_either t xs ys (same.to t h)

      are : AreHyps k.store k.context c
      are = record {
        formulas = record { each = λ t h. ⊎_elim (λ (l : In t xs). left.formulas.each t l) (λ (l : In t ys). right.formulas.each t l) (cases t h) };
        rises = rises;
        outside = λ t h out. ⊎_elim (λ (l : In t xs). left.outside t l out) (λ (l : In t ys). right.outside t l out) (cases t h);
      }

  -- those of two records
  pub gives_union : (a b : ℕ) → HasThm k a → HasThm k b → (c : List ℕ) → Rises c → SameIds c ((thm_at k a).hyps ++ (thm_at k b).hyps) → GivesHyps k c (hyps_of k a ++ hyps_of k b)
  gives_union a b has_a has_b c rises same = gives_both (thm_at k a).hyps (thm_at k b).hyps (thm_is k is a has_a).hyps (thm_is k is b has_b).hyps c rises same

  -- those of a record but one
  pub gives_without : TermsApart k.store → (a t : ℕ) → HasThm k a → HasTerm k.store t → (c : List ℕ) → (Rises (thm_at k a).hyps → Rises c) → c ≡ filter (λ u. not (eqb u t)) (thm_at k a).hyps → GivesHyps k c (without (term_tree k.store t) (hyps_of k a))
  gives_without apart a t has there c rises e =
      let thm = thm_is k is a has in
      let are : AreHyps k.store k.context c = record {
        formulas = record { each = λ u h. thm.hyps.formulas.each u (In-filter (λ v. not (eqb v t)) (thm_at k a).hyps u (subst (λ l. In u l) e h)).0 };
        rises = rises thm.hyps.rises;
        outside = λ u h out. thm.hyps.outside u (In-filter (λ v. not (eqb v t)) (thm_at k a).hyps u (subst (λ l. In u l) e h)).0 out;
      } in
      gives c (without (term_tree k.store t) (hyps_of k a)) are
      (rw e (same_without k.store apart t there (thm_at k a).hyps thm.hyps.formulas))

  -- those of a list that aren't in the context, which stands in order too
  module _ (ordered : List ℕ) (as_context : SameIds ordered k.context) (given inside c : List ℕ) (all : HasFormulas k.store given) (same : SameIds inside given) (rises : Rises inside → Rises c) (in_order : Rises inside) (e : c ≡ filter (λ u. not (stands u ordered)) inside) where
    abbrev absent : ℕ → Truth
    absent u = not (stands u ordered)

    kept : (t : ℕ) → In t c → In t given × (In t k.context → ⊥)
    kept t h =
        let p = In-filter absent inside t (subst (λ l. In t l) e h) in
        (same.to t p.0, λ i. by (stands t ordered) (stands-from_In ordered t (as_context.from t i)) p.1)
      where
        by : (b : Truth) → b ≡ true → not b ≡ true → ⊥
        by true k l = absurd (cc)
        by false k l = absurd (cc)

    either : (t : ℕ) → In t given → In t k.context ⊎ In t c
    either t h = by (stands t ordered) refl
      where
        by : (b : Truth) → stands t ordered ≡ b → In t k.context ⊎ In t c
        by true q = inl (as_context.to t (stands-In ordered t q))
        by false q = inr (subst (λ l. In t l) (sym e) (In-to_filter absent inside t (same.from t h) (ap not q)))

    pub gives_outside : GivesHyps k c (trees k.store c)
    gives_outside = gives c (trees k.store c) (record { formulas = record { each = λ t h. all.each t (kept t h).0 }; rises = rises in_order; outside = λ t h. (kept t h).1 }) (same_refl (trees k.store c))

    pub is_outside : TermsApart k.store → IsOutside (context_of k) (trees k.store given) (trees k.store c)
    is_outside apart = record { to = to; from = trees_within k.store c given (λ t h. (kept t h).0); apart = out }
      where
        to : (u : Term) → In u (trees k.store given) → In u (context_of k) ⊎ In u (trees k.store c)
        to u h = let p = from_trees k.store u given h in by p.0 p.2 (either p.0 p.1)
          where
            by : (t : ℕ) → u ≡ term_tree k.store t → In t k.context ⊎ In t c → In u (context_of k) ⊎ In u (trees k.store c)
            by t q (inl i) = inl (subst (λ v. In v (context_of k)) (sym q) (in_trees k.store t k.context i))
            by t q (inr i) = inr (subst (λ v. In v (trees k.store c)) (sym q) (in_trees k.store t c i))

        out : (u : Term) → In u (trees k.store c) → In u (context_of k) → ⊥
        out u h i =
            let p = from_trees k.store u c h in
            let q = from_trees k.store u k.context i in
            let there = (all.each p.0 (kept p.0 p.1).0).there in
            let same_id = apart p.0 q.0 there (is.context.formulas.each q.0 q.1).there (sym p.2 ∙ q.2) in
            (kept p.0 p.1).1 (subst (λ t. In t k.context) (sym same_id) q.1)

-- ---- sets of hypotheses made of others

pub same_append : {G G' H H' : List Term} → SameMembers G G' → SameMembers H H' → SameMembers (G ++ H) (G' ++ H')
same_append {G} {G'} {H} {H'} left right = record {
  to = λ t h. ⊎_elim (λ (i : In t G). in_append_left t G' H' (left.to t i)) (λ (i : In t H). in_append_right t G' H' (right.to t i)) (in_append_either t G H h);
  from = λ t h. ⊎_elim (λ (i : In t G'). in_append_left t G H (left.from t i)) (λ (i : In t H'). in_append_right t G H (right.from t i)) (in_append_either t G' H' h);
}

-- the same set in other words
pub gives_same_as : (k : KernelState) (c : List ℕ) {G G' H H' : List Term} → GivesHyps k c (G ++ H) → SameMembers G G' → SameMembers H H' → GivesHyps k c (G' ++ H')
gives_same_as k c given left right = record { hyps = given.hyps; formulas = given.formulas; same = same_trans given.same (same_append left right) }

-- one formula more, unless it stands in the context
pub is_outside_with : (C : List Term) (t : Term) (N H K : List Term) → IsOutside C (t ∷ []) N → ((u : Term) → In u H → In u C → ⊥) → SameMembers K (N ++ H) → IsOutside C (t ∷ H) K
is_outside_with C t N H K new apart same = record {
  to = λ u h. ⊎_elim (λ (e : u ≡ t). ⊎_elim (λ (i : In u C). inl i) (λ (i : In u N). inr (same.from u (in_append_left u N H i))) (new.to u (inl e))) (λ (i : In u H). inr (same.from u (in_append_right u N H i))) h;
  from = λ u h. ⊎_elim (λ (i : In u N). ⊎_elim (λ (e : u ≡ t). inl e) (λ j. absurd j) (new.from u i)) (λ (i : In u H). inr i) (in_append_either u N H (same.to u h));
  apart = λ u h i. ⊎_elim (λ (j : In u N). new.apart u j i) (λ (j : In u H). apart u j i) (in_append_either u N H (same.to u h));
}

pub gives_own : {k : KernelState} {c : List ℕ} {G : List Term} → GivesHyps k c G → GivesHyps k c (trees k.store c)
gives_own {k} {c} given = record { hyps = given.hyps; formulas = given.formulas; same = same_refl (trees k.store c) }

-- the hypotheses of a record stand outside the context
pub hyps_apart : (k : KernelState) → IsKernel k → TermsApart k.store → (a : ℕ) → HasThm k a → (u : Term) → In u (hyps_of k a) → In u (context_of k) → ⊥
hyps_apart k is apart a has u h i =
    let thm = thm_is k is a has in
    let p = from_trees k.store u (thm_at k a).hyps h in
    let q = from_trees k.store u k.context i in
    let e : p.0 ≡ q.0 = apart p.0 q.0 (thm.hyps.formulas.each p.0 p.1).there (is.context.formulas.each q.0 q.1).there (sym p.2 ∙ q.2) in
    thm.hyps.outside p.0 p.1 (subst (λ t. In t k.context) (sym e) q.1)

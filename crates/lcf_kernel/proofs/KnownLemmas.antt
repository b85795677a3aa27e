-- What is known of formulas stays right as terms are added and more is known.
use Rattle.std.proofs.Common.{◌≡◌, ◌∙◌, ◌∷◌, ◌++◌, inl, inr, [], refl, sym, ap, subst, cond, ℕ, List, Some, nat_eq, Bool, true, false, IsTrue, true≢false}
use Rattle.std.specs.HashMap.{get_by}
use Rattle.std.specs.Map.{lookup}
use Rattle.std.proofs.lemmas.Option.{same_Some, none-some}
use Rattle.std.proofs.lemmas.List.{append-nil}
use Rattle.hol_types.proofs.TypeLemmas.{eqb_sound}
use Rattle.hol_types.specs.TypeSubst.{subst_tree}
use Rattle.hol_terms.specs.Term.{Term}
use Rattle.hol_terms.specs.TermStore.{TermStore, HasTerm, TermsApart, Keeps, term_tree}
use Rattle.hol_terms.specs.Substitution.{free_variables, subst_types}
use Rattle.hol_terms.specs.Formula.{In}
use Rattle.hol_terms.proofs.UnchangedTypes.{changes_none, each_unchanged}
use Rattle.hol_formulas.specs.Formulas.{trees, HasFormula, HasFormulas}
use Rattle.hol_formulas.specs.FoundTypes.{type_variables_in, LeavesEach}
use Rattle.hol_formulas.proofs.FoundLemmas.{variables_keep, absent_outside}
use Rattle.hol_formulas.proofs.GrowthLemmas.{formula_keeps}
use Rattle.hol_formulas.proofs.UnchangedTypes.{type_variables_keep, changes_none_from, leaves_from}
use Rattle.lcf_kernel.specs.Hyps.{stands}
use Rattle.lcf_kernel.specs.declared.known.Variables.{Variables}
use Rattle.lcf_kernel.specs.Known.{Known, AreOf, AllKnown}
use Rattle.lcf_kernel.proofs.IdLemmas.{stands-In, stands-from_In}

-- one formula
pub one_formula : (s : TermStore) (t : ℕ) → HasFormula s t → HasFormulas s (t ∷ [])
one_formula s t is = record { each = each }
  where
    each : (u : ℕ) → In u (t ∷ []) → HasFormula s u
    each u (inl e) = subst (λ (w : ℕ). HasFormula s w) (sym e) is
    each u (inr h) = absurd h

-- in a store that goes on
pub are_of_keep : {s u : TermStore} → Keeps s u → (t : ℕ) (found : Variables) → AreOf s t found → AreOf u t found
are_of_keep {s} {u} keeps t found is =
    let one = one_formula s t is.formula in
    record {
      formula = formula_keeps s u keeps t is.formula;
      free = variables_keep s u keeps found.free (t ∷ []) one is.free;
      rise = is.rise;
      types = type_variables_keep s u keeps found.types (t ∷ []) one is.types;
    }

pub known_keep : {s u : TermStore} {known : Known} → Keeps s u → AllKnown s known → AllKnown u known
known_keep keeps all = record { each = λ t found h. are_of_keep keeps t found (all.each t found h) }

-- nothing is known
pub nothing_known : (s : TermStore) (known : Known) → known.entries ≡ [] → AllKnown s known
nothing_known s known e = record { each = λ t found h. absurd (none-some found (ap (λ es. lookup (nat_eq t) es) (sym e) ∙ h)) }

-- no more is known than before
pub known_unchanged : {s : TermStore} {m n : Known} → n.entries ≡ m.entries → AllKnown s m → AllKnown s n
known_unchanged same all = record { each = λ t found h. all.each t found (ap (λ es. lookup (nat_eq t) es) (sym same) ∙ h) }

-- one formula more is known
pub known_put : (s : TermStore) (m n : Known) (t : ℕ) (found : Variables) → AllKnown s m → ((q : ℕ) → get_by (nat_eq q) n ≡ cond (nat_eq t q) (Some found) (get_by (nat_eq q) m)) → AreOf s t found → AllKnown s n
known_put s m n t found all puts here = record { each = λ q x h. by q x (nat_eq t q) refl (sym (puts q) ∙ h) }
  where
    by : (q : ℕ) (x : Variables) (b : Bool) → nat_eq t q ≡ b → cond b (Some found) (get_by (nat_eq q) m) ≡ Some x → AreOf s q x
    by q x true e f = subst (λ (w : ℕ). AreOf s w x) (eqb_sound t q e) (subst (λ (y : Variables). AreOf s t y) (same_Some found x f) here)
    by q x false e f = all.each q x f

-- a variable is free in a formula exactly where it stands among its variables
module _ (s : TermStore) (apart : TermsApart s) (t : ℕ) (found : Variables) (is : AreOf s t found) (v : ℕ) (there : HasTerm s v) where
  pub free_among : IsTrue (stands v found.free) → In (term_tree s v) (free_variables (term_tree s t))
  free_among h = is_free (is.free.among.only v (stands-In found.free v h))
    where
      is_free : In (term_tree s v) (free_variables (term_tree s t) ++ []) → In (term_tree s v) (free_variables (term_tree s t))
      is_free h = subst (λ (ts : List Term). In (term_tree s v) ts) (append-nil (free_variables (term_tree s t))) h

  pub among_free : In (term_tree s v) (free_variables (term_tree s t)) → IsTrue (stands v found.free)
  among_free free = by (stands v found.free) refl
    where
      by : (b : Bool) → stands v found.free ≡ b → IsTrue (stands v found.free)
      by true e = e
      by false e = absurd ((absent_outside s apart found.free (term_tree s t ∷ []) is.free v there (λ h. true≢false (sym (stands-from_In found.free v h) ∙ e))).0 free)

-- and types leave a formula as it is exactly where they leave each of its type variables
module _ (s : TermStore) (t : ℕ) (ps : List (ℕ × ℕ)) where
  pub leaves_formula : LeavesEach (subst_tree s.types ps) (type_variables_in (trees s (t ∷ []))) → subst_types (subst_tree s.types ps) (term_tree s t) ≡ term_tree s t
  leaves_formula leaves = each_unchanged (subst_tree s.types ps) (trees s (t ∷ [])) (changes_none_from (subst_tree s.types ps) (trees s (t ∷ [])) leaves) (term_tree s t) (inl refl)

  pub formula_leaves : subst_types (subst_tree s.types ps) (term_tree s t) ≡ term_tree s t → LeavesEach (subst_tree s.types ps) (type_variables_in (trees s (t ∷ [])))
  formula_leaves same = leaves_from (subst_tree s.types ps) (trees s (t ∷ [])) (changes_none (subst_tree s.types ps) (trees s (t ∷ [])) each)
    where
      each : (g : Term) → In g (trees s (t ∷ [])) → subst_types (subst_tree s.types ps) g ≡ g
      each g (inl e) = rw e same
      each g (inr h) = absurd h

-- what isn't false is true
pub decided : (b : Bool) → (b ≡ false → ⊥) → IsTrue b
decided true h = refl
decided false h = absurd (h refl)

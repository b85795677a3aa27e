-- What the tests ask of a small kernel.
use Rattle.std.proofs.Common.{◌≡◌, ◌<◌, ◌∷◌, ◌++◌, [], refl, ap, ℕ, List, inl, length, get_or, subst, sym, ⊎_elim}
use Rattle.hol_types.specs.Ty.{Ty, BoolTy}
use Rattle.hol_types.specs.TypeStore.{HasType}
use Rattle.hol_terms.specs.Formula.{In}
use Rattle.hol_formulas.proofs.ListLemmas.{In-from_Contains}
use Rattle.kernel_tests.specs.Tables.{AreTypes, AreTerms, AreThms}
use Rattle.hol_types.specs.TypeSubst.{HasSubst}
use Rattle.hol_terms.specs.Term.{FreeTm, ty_of}
use Rattle.hol_terms.specs.declared.node.FreeKind.TheVariants.{Open, Symbol}
use Rattle.hol_terms.specs.TermStore.{TermStore, HasTerm, Keeps, term_tree}
use Rattle.hol_terms.proofs.KeepsLemmas.{subst_kept}
use Rattle.hol_terms.proofs.FormulaLemmas.{false_is_formula}
use Rattle.hol_terms.specs.Derivable.{Derivable}
use Rattle.hol_terms.proofs.SetLemmas.{in_append_right, in_append_either}
use Rattle.hol_terms.proofs.DerivableLemmas.{assume_in}
use Rattle.lcf_kernel.proofs.HypLemmas.{all_hyps_formulas}
use Rattle.hol_formulas.specs.Constants.{AreConstants}
use Rattle.hol_formulas.specs.declared.formula.Constants.{Constants}
use Rattle.lcf_kernel.specs.KernelState.{KernelState, facts_of, context_of, IsKernel, HasThm, KeepsAll}
use Rattle.hol_formulas.specs.Formulas.{trees, HasFormula, HasFormulas, HasNoOpen, IsContext}

pub falsity_bool : (s : TermStore) (c : Constants) → AreConstants s c → ty_of (term_tree s c.falsity) ≡ BoolTy
falsity_bool s c are = ap ty_of are.falsity.is

pub falsity_formula : (s : TermStore) (c : Constants) → AreConstants s c → HasFormula s c.falsity
falsity_formula s c are = record { there = are.falsity.there; formula = rw are.falsity.is false_is_formula }

pub one_formula : (s : TermStore) (t : ℕ) → HasFormula s t → HasFormulas s (t ∷ [])
one_formula s t is = record { each = λ u h. ⊎_elim (λ (e : u ≡ t). subst (λ v. HasFormula s v) (sym e) is) (λ i. absurd i) h }

pub one_derivable : (k : KernelState) → IsKernel k → (t : ℕ) → HasFormula k.store t → Derivable (facts_of k) (context_of k ++ trees k.store (t ∷ [])) (term_tree k.store t)
one_derivable k is t formula = assume_in (all_hyps_formulas k is (t ∷ []) (one_formula k.store t formula)) (in_append_right (term_tree k.store t) (context_of k) (trees k.store (t ∷ [])) (inl refl))

pub falsity_given : (s : TermStore) (c : Constants) → AreConstants s c → HasFormulas s (c.falsity ∷ [])
falsity_given s c are = one_formula s c.falsity (falsity_formula s c are)

pub falsity_context : (s : TermStore) (c : Constants) → AreConstants s c → IsContext s (c.falsity ∷ [])
falsity_context s c are = record {
  formulas = falsity_given s c are;
  no_open = λ t h. ⊎_elim (λ (e : t ≡ c.falsity). subst (λ u. HasNoOpen (term_tree s u)) (sym e) (rw are.falsity.is (record { none = λ n ty i. i }))) (λ i. absurd i) h;
}

pub subst_there : (old new : KernelState) → KeepsAll old new → (ps : List (ℕ × ℕ)) → HasSubst old.store.types ps → HasSubst new.store.types ps
subst_there old new keeps ps h = subst_kept keeps.records.store ps h

-- a constant of the problem of type Bool may be given
pub symbol_context : (s : TermStore) (t : ℕ) (n : List ℕ) → HasTerm s t → term_tree s t ≡ FreeTm Symbol n BoolTy → IsContext s (t ∷ [])
symbol_context s t n there is = record {
  formulas = one_formula s t (record { there = there; formula = rw is (record { typed = tt; closed = tt; bool = refl }) });
  no_open = λ u h. ⊎_elim (λ (e : u ≡ t). subst (λ v. HasNoOpen (term_tree s v)) (sym e) (rw is (record { none = none }))) (λ i. absurd i) h;
}
  where
    none : (m : List ℕ) (ty : Ty) → In (FreeTm Open m ty) (FreeTm Symbol n BoolTy ∷ []) → ⊥
    none m ty h = ⊎_elim (λ (e : FreeTm Open m ty ≡ FreeTm Symbol n BoolTy). absurd (cc)) (λ i. absurd i) h

-- ---- what scripts have made

pub types_kept : (s u : TermStore) → Keeps s u → (ts : List ℕ) → AreTypes s ts → AreTypes u ts
types_kept s u keeps ts are = record { each = λ t h. keeps.types t (are.each t h) }

pub terms_kept : (s u : TermStore) → Keeps s u → (ts : List ℕ) → AreTerms s ts → AreTerms u ts
terms_kept s u keeps ts are = record { each = λ t h. keeps.terms t (are.each t h) }

pub terms_still : (k l : KernelState) → KeepsAll k l → (ts : List ℕ) → AreTerms k.store ts → AreTerms l.store ts
terms_still k l keeps ts are = terms_kept k.store l.store keeps.records.store ts are

pub thms_kept : (k l : KernelState) → KeepsAll k l → (ts : List ℕ) → AreThms k ts → AreThms l ts
thms_kept k l keeps ts are = record { each = λ t h. keeps.records.has t (are.each t h) }

pub types_push : (s : TermStore) (ts : List ℕ) (t : ℕ) → AreTypes s ts → HasType s.types t → AreTypes s (ts ++ t ∷ [])
types_push s ts t are there = record { each = λ u h. ⊎_elim (λ (i : In u ts). are.each u i) (λ (i : In u (t ∷ [])). ⊎_elim (λ (e : u ≡ t). subst (λ v. HasType s.types v) (sym e) there) (λ j. absurd j) i) (in_append_either u ts (t ∷ []) h) }

pub terms_push : (s : TermStore) (ts : List ℕ) (t : ℕ) → AreTerms s ts → HasTerm s t → AreTerms s (ts ++ t ∷ [])
terms_push s ts t are there = record { each = λ u h. ⊎_elim (λ (i : In u ts). are.each u i) (λ (i : In u (t ∷ [])). ⊎_elim (λ (e : u ≡ t). subst (λ v. HasTerm s v) (sym e) there) (λ j. absurd j) i) (in_append_either u ts (t ∷ []) h) }

pub thms_push : (k : KernelState) (ts : List ℕ) (t : ℕ) → AreThms k ts → HasThm k t → AreThms k (ts ++ t ∷ [])
thms_push k ts t are there = record { each = λ u h. ⊎_elim (λ (i : In u ts). are.each u i) (λ (i : In u (t ∷ [])). ⊎_elim (λ (e : u ≡ t). subst (λ v. HasThm k v) (sym e) there) (λ j. absurd j) i) (in_append_either u ts (t ∷ []) h) }

pub no_types : (s : TermStore) → AreTypes s []
no_types s = record { each = λ t h. absurd h }

pub no_terms : (s : TermStore) → AreTerms s []
no_terms s = record { each = λ t h. absurd h }

pub no_thms : (k : KernelState) → AreThms k []
no_thms k = record { each = λ t h. absurd h }

-- what was read stands in the list
pub type_read : (s : TermStore) (ts : List ℕ) (i t : ℕ) → AreTypes s ts → i < length ts → t ≡ get_or ts i t → HasType s.types t
type_read s ts i t are below is = are.each t (In-from_Contains ts t (i, below, sym is))

pub term_read : (s : TermStore) (ts : List ℕ) (i t : ℕ) → AreTerms s ts → i < length ts → t ≡ get_or ts i t → HasTerm s t
term_read s ts i t are below is = are.each t (In-from_Contains ts t (i, below, sym is))

pub thm_read : (k : KernelState) (ts : List ℕ) (i t : ℕ) → AreThms k ts → i < length ts → t ≡ get_or ts i t → HasThm k t
thm_read k ts i t are below is = are.each t (In-from_Contains ts t (i, below, sym is))

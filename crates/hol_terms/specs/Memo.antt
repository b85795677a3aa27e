-- What the walks over terms remember, so that a shared part is walked once.
use Rattle.std.specs.Prelude.{◌≡◌, ℕ, Some, Bool, true, nat_eq, ◌&&◌}
use Rattle.std.specs.HashMap.{HashMap, get_by}
use Rattle.std.specs.HashSet.{HashSet, contains}
use Rattle.std.specs.declared.hash.FoldHasher.{FoldHasher}
use Rattle.std.specs.declared.hash.BuildHasherDefault.{BuildHasherDefault}
use Rattle.hol_types.specs.Ty.{Ty}
use Rattle.hol_terms.specs.declared.memo.Part.{Part}
use Rattle.hol_terms.specs.Term.{Term, BoundsFit}
use Rattle.hol_terms.specs.TermStore.{TermStore, HasTerm, term_tree}
use Rattle.hol_types.specs.TypeSubst.{TypeSubst}
use Rattle.hol_terms.specs.Substitution.{subst_bound, subst_free, close_free, subst_types}
use Rattle.hol_terms.specs.Formula.{NotFreeIn}

-- results by keys
abbrev pub Results : Type 0 → Type 0
Results K = HashMap K ℕ (BuildHasherDefault FoldHasher)

-- R holds of each key and its result
abbrev pub EachResult : {K : Type 0} → (K → K → Bool) → (K → ℕ → Type 0) → Results K → Type 0
EachResult {K} eq R m = (k : K) (r : ℕ) → get_by (eq k) m ≡ Some r → R k r

-- the same part
abbrev pub part_eq : Part → Part → Bool
part_eq a b = nat_eq a.term b.term && nat_eq a.index b.index

-- parts that are done
abbrev pub Parts : Type 0
Parts = HashSet Part (BuildHasherDefault FoldHasher)

-- each Bound that is loose in one of the parts, and stands for the binder of the part's index, has the type
abbrev pub AllFit : TermStore → Ty → Parts → Type 0
AllFit s ty parts = (p : Part) → contains part_eq parts p ≡ true → BoundsFit (term_tree s p.term) p.index ty

-- the result stands for the part with u for its Bound of the index
pub record IsOpened (s : TermStore) (u : Term) (p : Part) (r : ℕ) : Type 0 where
  pub there : HasTerm s p.term
  pub made : HasTerm s r
  pub tree : term_tree s r ≡ subst_bound (term_tree s p.term) p.index u

-- so do all results
pub record AllOpened (s : TermStore) (u : Term) (m : Results Part) : Type 0 where
  pub each : EachResult part_eq (IsOpened s u) m

-- the result stands for the part with the Bound of its index for v
pub record IsClosedPart (s : TermStore) (v : Term) (p : Part) (r : ℕ) : Type 0 where
  pub there : HasTerm s p.term
  pub made : HasTerm s r
  pub tree : term_tree s r ≡ close_free (term_tree s p.term) p.index v

-- so do all results
pub record AllClosed (s : TermStore) (v : Term) (m : Results Part) : Type 0 where
  pub each : EachResult part_eq (IsClosedPart s v) m

-- the result stands for the part at the types of the substitution
pub record IsInstance (s : TermStore) (types : TypeSubst) (t r : ℕ) : Type 0 where
  pub there : HasTerm s t
  pub made : HasTerm s r
  pub tree : term_tree s r ≡ subst_types types (term_tree s t)

-- so do all results
pub record AllInstances (s : TermStore) (types : TypeSubst) (m : Results ℕ) : Type 0 where
  pub each : EachResult nat_eq (IsInstance s types) m

-- the result stands for the part with u for the free variable v
pub record IsReplaced (s : TermStore) (v u : Term) (t r : ℕ) : Type 0 where
  pub there : HasTerm s t
  pub made : HasTerm s r
  pub tree : term_tree s r ≡ subst_free v u (term_tree s t)

-- so do all results
pub record AllReplaced (s : TermStore) (v u : Term) (m : Results ℕ) : Type 0 where
  pub each : EachResult nat_eq (IsReplaced s v u) m

-- each of the parts is without the free variable v
pub record AllWithout (s : TermStore) (v : Term) (parts : HashSet ℕ (BuildHasherDefault FoldHasher)) : Type 0 where
  pub each : (t : ℕ) → contains nat_eq parts t ≡ true → NotFreeIn v (term_tree s t)

-- What is known while an instance is made.
use Rattle.std.specs.Prelude.{◌≡◌, ℕ, nat_eq}
use Rattle.hol_terms.specs.Term.{Term, Typed}
use Rattle.hol_terms.specs.TermStore.{TermStore, HasTerm, term_tree}
use Rattle.hol_terms.specs.Memo.{EachResult}
use Rattle.hol_match.specs.Instance.{instance_by}
use Rattle.hol_match.specs.Matching.{Known}

-- the result is the instance of the part
pub record IsApplied (s : TermStore) (σ : Term → Term) (t r : ℕ) : Type 0 where
  pub there : HasTerm s t
  pub made : HasTerm s r
  pub typed : Typed (term_tree s r)
  pub tree : term_tree s r ≡ instance_by σ (term_tree s t)

-- so are all results
pub record AllApplied (s : TermStore) (σ : Term → Term) (m : Known) : Type 0 where
  pub each : EachResult nat_eq (IsApplied s σ) m

-- What a walk that looks for lambdas knows.
use Rattle.std.specs.Prelude.{◌≡◌, ℕ, true, false, nat_eq}
use Rattle.std.specs.HashSet.{HashSet, contains}
use Rattle.std.specs.declared.hash.FoldHasher.{FoldHasher}
use Rattle.std.specs.declared.hash.BuildHasherDefault.{BuildHasherDefault}
use Rattle.hol_terms.specs.TermStore.{TermStore, term_tree}
use Rattle.smt_cli.specs.Unbuilt.{holds_lambda}

-- in none of the parts stands a lambda that isn't a quantifier's argument
pub record AllWithout (s : TermStore) (parts : HashSet ℕ (BuildHasherDefault FoldHasher)) : Type 0 where
  pub each : (t : ℕ) → contains nat_eq parts t ≡ true → holds_lambda false (term_tree s t) ≡ false

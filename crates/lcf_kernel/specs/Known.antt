-- What is known of formulas, by their numbers.
use Rattle.std.specs.Prelude.{◌≡◌, ℕ, [], ◌∷◌, Some, nat_eq}
use Rattle.std.specs.HashMap.{HashMap, get_by}
use Rattle.std.specs.declared.hash.FoldHasher.{FoldHasher}
use Rattle.std.specs.declared.hash.BuildHasherDefault.{BuildHasherDefault}
use Rattle.hol_terms.specs.TermStore.{TermStore}
use Rattle.hol_formulas.specs.Found.{AreVariables}
use Rattle.hol_formulas.specs.FoundTypes.{type_variables_in, AreTypeVariables}
use Rattle.hol_formulas.specs.Formulas.{trees, HasFormula}
use Rattle.lcf_kernel.specs.Hyps.{Rises}
use Rattle.lcf_kernel.specs.declared.known.Variables.{Variables}

-- variables by the numbers of formulas
abbrev pub Known : Type 0
Known = HashMap ℕ Variables (BuildHasherDefault FoldHasher)

-- they are those of the formula
pub record AreOf (s : TermStore) (t : ℕ) (found : Variables) : Type 0 where
  pub formula : HasFormula s t
  pub free : AreVariables s found.free (trees s (t ∷ []))
  pub rise : Rises found.free
  pub types : AreTypeVariables s.types found.types (type_variables_in (trees s (t ∷ [])))

-- so are all that are known
pub record AllKnown (s : TermStore) (known : Known) : Type 0 where
  pub each : (t : ℕ) (found : Variables) → get_by (nat_eq t) known ≡ Some found → AreOf s t found

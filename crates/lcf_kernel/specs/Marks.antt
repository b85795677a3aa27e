-- What a kernel held at a mark, and which mark it may be reset to.
use Rattle.std.specs.Prelude.{◌≤◌, length, take}
use Rattle.hol_terms.specs.TermStore as terms
use Rattle.hol_formulas.specs.Constants.{AreConstants}
use Rattle.hol_formulas.specs.Formulas.{trees}
use Rattle.hol_formulas.specs.Found.{AreVariables}
use Rattle.hol_formulas.specs.FoundTypes.{type_variables_in, AreTypeVariables}
use Rattle.lcf_kernel.specs.KernelState.{KernelState, IsKernel}
use Rattle.lcf_kernel.specs.declared.mark.KernelMark.{KernelMark}

-- how much a kernel holds
abbrev pub mark_of : KernelState → KernelMark
mark_of k = record { store = terms.mark_of k.store; thms = length k.thms }

-- what a kernel held at a mark
abbrev pub cut : KernelMark → KernelState → KernelState
cut m k = record k { store = terms.cut m.store k.store; thms = take m.thms k.thms }

-- what was held at the mark is a kernel, over the whole base
pub record MayReset (m : KernelMark) (k : KernelState) : Type 0 where
  pub store : terms.MayReset m.store (record { store = k.store; base = k.base })
  pub thms : m.thms ≤ length k.thms
  pub constants : AreConstants (terms.cut m.store k.store) k.constants
  pub variables : AreVariables (terms.cut m.store k.store) k.variables (trees (terms.cut m.store k.store) k.context)
  pub type_variables : AreTypeVariables (terms.cut m.store k.store).types k.type_variables (type_variables_in (trees (terms.cut m.store k.store) k.context))
  pub kernel : IsKernel (cut m k)

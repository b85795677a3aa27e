-- What the rules are called on is there.
use Rattle.hol_terms.specs.Substitution.{IsClosed}
use Rattle.hol_terms.specs.TermStore.{HasTerm, term_tree}
use Rattle.lcf_kernel.specs.KernelState.{KernelState, HasThm}
use Rattle.bench_kernel.specs.declared.measured.Given.{Given}

-- the terms are closed, and the records are there
pub record HasGiven (k : KernelState) (g : Given) : Type 0 where
  pub x : HasTerm k.store g.x
  pub lambda : HasTerm k.store g.lambda
  pub x_closed : IsClosed (term_tree k.store g.x)
  pub lambda_closed : IsClosed (term_tree k.store g.lambda)
  pub assumed : HasThm k g.assumed
  pub implication : HasThm k g.implication
  pub equation : HasThm k g.equation
  pub universal : HasThm k g.universal

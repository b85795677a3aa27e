use Rattle.lcf_kernel.proofs.KeepLemmas.{thm_is}
use Rattle.lcf_kernel.proofs.kernel.Kernel.hyps.Goals as goal

pub returns-clause-are : goal.returns-clause-are
returns-clause-are c = rw (c.as_slice.ensures, c.record.ensures.is) (thm_is c.args.self.now c.record.ensures.lawful c.args.t c.requires).hyps

pub returns-clause-derivable : goal.returns-clause-derivable
returns-clause-derivable c = (thm_is c.args.self.now c.record.ensures.lawful c.args.t c.requires).follows.derivable

pub returns-clause-bare : goal.returns-clause-bare
returns-clause-bare c = (thm_is c.args.self.now c.record.ensures.lawful c.args.t c.requires).follows.bare

use Rattle.lcf_kernel.proofs.KeepLemmas.{thm_is}
use Rattle.lcf_kernel.proofs.kernel.Kernel.concl.Goals as goal

pub returns-clause-there : goal.returns-clause-there
returns-clause-there c = rw c.record.ensures.is (thm_is c.args.self.now c.record.ensures.lawful c.args.t c.requires).concl.there

pub returns-clause-formula : goal.returns-clause-formula
returns-clause-formula c = (thm_is c.args.self.now c.record.ensures.lawful c.args.t c.requires).concl.formula

pub returns-clause-derivable : goal.returns-clause-derivable
returns-clause-derivable c = (thm_is c.args.self.now c.record.ensures.lawful c.args.t c.requires).follows.derivable

pub returns-clause-bare : goal.returns-clause-bare
returns-clause-bare c = (thm_is c.args.self.now c.record.ensures.lawful c.args.t c.requires).follows.bare

use Rattle.lcf_kernel.specs.KernelState.{KeepsAll}
use Rattle.kernel_tests.specs.Tables.{AreTerms, AreThms}
use Rattle.kernel_tests.proofs.script.run.Given as goal

abbrev pub invariant-loop-line : goal.invariant-loop-line
invariant-loop-line g l = record {
  terms : AreTerms l.k.store l.terms;
  records : AreThms l.k l.records.items;
  keeps : KeepsAll l.fn.k l.k;
}

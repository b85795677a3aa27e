use Rattle.std.proofs.Common.{◌≡◌, false, length, arith, nat_lt}
use Rattle.std.proofs.lemmas.Bool.{le-ltb}
use Rattle.sexp.proofs.TreeBytesLemmas.{records_are_of}
use Rattle.sexp.proofs.TreeLemmas.{records_are_trees, same_fault}
use Rattle.sexp.proofs.forest.read_forest.Goals as goal

pub invariant_of-result : goal.invariant_of-result
invariant_of-result c =
    ((records_are_trees c.args.bytes.now c.in-Ok.records c.in-Ok.ensures.reads).0, (let small = c.in-Ok.ensures.small in omega (arith, c.if-bytes-most.false, c.requires)))

pub returns-in-Ok-clause-trees : goal.returns-in-Ok-clause-trees
returns-in-Ok-clause-trees c =
    let short : nat_lt c.args.most (length c.args.bytes.now) ≡ false = le-ltb c.args.most (length c.args.bytes.now) (omega (arith, c.if-bytes-most.false)) in
    rw short (records_are_trees c.args.bytes.now c.in-Ok.records c.in-Ok.ensures.reads).1

pub returns-in-Err-clause-trees : goal.returns-in-Err-clause-trees
returns-in-Err-clause-trees c = λ other.
    let short : nat_lt c.args.most (length c.args.bytes.now) ≡ false = le-ltb c.args.most (length c.args.bytes.now) (omega (arith, c.if-bytes-most.false)) in
    rw short (same_fault c.args.bytes.now c.in-Err.fault (c.in-Err.ensures.reads other))

pub returns-in-Ok-clause-bytes : goal.returns-in-Ok-clause-bytes
returns-in-Ok-clause-bytes c = records_are_of c.args.bytes.now c.in-Ok.records c.in-Ok.ensures.reads

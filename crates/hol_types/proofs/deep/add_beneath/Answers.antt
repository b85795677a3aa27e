use Rattle.std.proofs.Common.{arith, length}
use Rattle.hol_types.specs.TypeStore.{joined}
use Rattle.hol_types.specs.Deep.{IsTypePart}
use Rattle.hol_types.proofs.ListLemmas.{all_added, all_less}
use Rattle.hol_types.proofs.DeepLemmas.{part_arguments, part_parameter, part_result}
use Rattle.hol_types.proofs.deep.add_beneath.Goals as goal

pub returns-in_ok-add_part-in-Fun-2 : goal.returns-in_ok-add_part-in-Fun-2
returns-in_ok-add_part-in-Fun-2 c = λ whole is all.
    let s = joined c.args.base.now c.args.own.now in
    let p = rw c.in-Fun.is at c.known_node_in.ensures.parts in
    let tree = rw c.in-Fun.is at c.known_node_in.ensures.tree in
    let first = all_added (IsTypePart s whole) c.in-Fun.a _ _ c.in_ok-add_part-in-Fun.ensures (part_parameter s whole c.args.t c.in-Fun.a c.in-Fun.b is tree p.0) all in
    all_added (IsTypePart s whole) c.in-Fun.b _ _ c.in_ok-add_part-in-Fun-2.ensures (part_result s whole c.args.t c.in-Fun.a c.in-Fun.b is tree p.1) first

pub returns-in_ok-add_all-in-Cons : goal.returns-in_ok-add_all-in-Cons
returns-in_ok-add_all-in-Cons c = λ whole is all.
    let s = joined c.args.base.now c.args.own.now in
    let p = rw c.in-Cons.is at c.known_node_in.ensures.parts in
    let tree = rw c.in-Cons.is at c.known_node_in.ensures.tree in
    let there = is.there in
    let ts = part_arguments s whole c.args.t _ c.in-Cons.ts is tree (all_less c.args.t (length s.nodes) (omega arith) c.in-Cons.ts p.1) in
    c.in_ok-add_all-in-Cons.ensures whole (rw c.as_slice.ensures ts) all

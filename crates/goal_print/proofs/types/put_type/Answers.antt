use Rattle.goal_print.specs.TypeText.{type_in}
use Rattle.goal_print.proofs.PutLemmas.{types_below}
use Rattle.goal_print.proofs.types.put_type.Goals as goal

pub returns-in_ok-put_atom-in-Bool : goal.returns-in_ok-put_atom-in-Bool
unfolding type_in
returns-in_ok-put_atom-in-Bool c = λ consts.
    let tree = rw c.in-Bool.is at c.type_node.ensures.tree in
    rw tree (c.in_ok-put_atom-in-Bool.ensures c.args.base.now consts tt)

pub returns-in_ok-put_atom-in-Int : goal.returns-in_ok-put_atom-in-Int
unfolding type_in
returns-in_ok-put_atom-in-Int c = λ consts.
    let tree = rw c.in-Int.is at c.type_node.ensures.tree in
    rw tree (c.in_ok-put_atom-in-Int.ensures c.args.base.now consts tt)

pub returns-in_ok-put_atom-in-Var : goal.returns-in_ok-put_atom-in-Var
unfolding type_in
returns-in_ok-put_atom-in-Var c = λ consts.
    let tree = rw c.in-Var.is at c.type_node.ensures.tree in
    let parts = rw c.in-Var.is at c.type_node.ensures.parts in
    rw tree (c.in_ok-put_atom-in-Var.ensures c.args.base.now consts parts)

pub returns-in_ok-put_constructor-in-Cons : goal.returns-in_ok-put_constructor-in-Cons
returns-in_ok-put_constructor-in-Cons c = λ consts.
    let s = c.args.base.now in
    let tree = rw c.in-Cons.is at c.type_node.ensures.tree in
    let parts = rw c.in-Cons.is at c.type_node.ensures.parts in
    let args = types_below s.types c.args.t _ c.requires parts.1 in
    rw tree (rw c.as_slice.ensures at (c.in_ok-put_constructor-in-Cons.ensures s consts parts.0 (rw c.as_slice.ensures args)))

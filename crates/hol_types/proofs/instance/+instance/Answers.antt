use Rattle.std.proofs.Common.{◌≡◌, ◌∙◌, ap, sym, arith, subst, ◌<◌, take, ◌+◌, ◌++◌, ◌∷◌, []}
use Rattle.std.proofs.lemmas.List.{take_more}
use Rattle.hol_types.specs.Ty.{FunTy}
use Rattle.hol_types.specs.TypeStore.{joined, type_tree, HasType}
use Rattle.hol_types.specs.TypeSubst.{instance_of, subst_tree}
use Rattle.hol_types.proofs.KeepsLemmas.{keeps_types_trans}
use Rattle.hol_types.proofs.InstanceLemmas.{has_subst_kept, subst_tree_kept, given_there, given_tree, not_given_tree, one_more, all_at, type_instances_kept, type_instances_put}
use Rattle.hol_types.proofs.instance.+instance.Goals as goal

pub instance_node-part_instance-requires-in-Fun : goal.instance_node-part_instance-requires-in-Fun
instance_node-part_instance-requires-in-Fun t c =
    let p = rw c.in-Fun.is at c.known_node_in.ensures.parts in
    let k = c.in_ok-from-in-Fun.ensures.keeps in
    (omega arith, (c.in_ok-from-in-Fun.ensures.lawful, (k.types c.in-Fun.b (omega arith), (has_subst_kept _ _ k c.args.s.now c.requires.subst, c.in_ok-from-in-Fun.ensures.memo))))

pub instance_node-instances_in-requires : goal.instance_node-instances_in-requires
instance_node-instances_in-requires t c =
    let p = rw c.in-Cons.is at c.known_node_in.ensures.parts in
    (omega arith, (c.requires.lawful, (c.requires.there, (rw (c.as_slice-in-Cons.ensures.value, c.in_ok-ts-in-Cons.ensures.items, c.as_slice.ensures) p.1, (c.requires.subst, c.requires.memo)))))

pub instance_node-made-requires-in-Cons-clause-parts : goal.instance_node-made-requires-in-Cons-clause-parts
instance_node-made-requires-in-Cons-clause-parts t c =
    let p = rw c.in-Cons.is at c.known_node_in.ensures.parts in
    (c.in_ok-us-in-Cons.ensures.keeps.names c.in-Cons.n p.0, rw c.new.ensures c.in_ok-us-in-Cons.ensures.instances.there)

pub instance_node-returns-in-Some-clause-there : goal.instance_node-returns-in-Some-clause-there
instance_node-returns-in-Some-clause-there t c = given_there (joined c.args.base.now c.args.own.now) c.in-Var.n c.args.s.now c.requires.subst c.in-Some.u (sym c.in-Some.ensures)

pub instance_node-returns-in-Some-clause-tree : goal.instance_node-returns-in-Some-clause-tree
instance_node-returns-in-Some-clause-tree t c =
    let s = joined c.args.base.now c.args.own.now in
    let p = rw c.in-Var.is at c.known_node_in.ensures.parts in
    let e = rw c.in-Var.is at c.known_node_in.ensures.tree in
    sym (ap (λ x. instance_of (subst_tree s c.args.s.now) x) e ∙ given_tree s c.requires.lawful c.in-Var.n p c.args.s.now c.requires.subst c.in-Some.u (sym c.in-Some.ensures))

pub instance_node-returns-in-None-clause-tree : goal.instance_node-returns-in-None-clause-tree
instance_node-returns-in-None-clause-tree t c =
    let s = joined c.args.base.now c.args.own.now in
    let p = rw c.in-Var.is at c.known_node_in.ensures.parts in
    let e = rw c.in-Var.is at c.known_node_in.ensures.tree in
    e ∙ sym (ap (λ x. instance_of (subst_tree s c.args.s.now) x) e ∙ not_given_tree s c.requires.lawful c.in-Var.n p c.args.s.now c.requires.subst (sym c.in-None.ensures))

pub instance_node-returns-in_ok-r-in-Fun-clause-tree : goal.instance_node-returns-in_ok-r-in-Fun-clause-tree
instance_node-returns-in_ok-r-in-Fun-clause-tree t c =
    let s = joined c.args.base.now c.args.own.now in
    let σ = subst_tree s c.args.s.now in
    let p = rw c.in-Fun.is at c.known_node_in.ensures.parts in
    let e = rw c.in-Fun.is at c.known_node_in.ensures.tree in
    let k = c.in_ok-from-in-Fun.ensures.keeps in
    let from = c.in_ok-to-in-Fun.ensures.keeps.trees c.in_ok-from-in-Fun.from c.in_ok-from-in-Fun.ensures.there ∙ c.in_ok-from-in-Fun.ensures.tree in
    let has_b : HasType s c.in-Fun.b = omega arith in
    let same = subst_tree_kept s _ k c.args.s.now c.requires.subst in
    let to = c.in_ok-to-in-Fun.ensures.tree ∙ (λ i. instance_of (same i) (k.trees c.in-Fun.b has_b i)) in
    c.in_ok-r-in-Fun.ensures.tree ∙ (λ i. FunTy (from i) (to i)) ∙ sym (ap (λ x. instance_of σ x) e)

pub instance_node-returns-in_err-r-in-Fun-clause-keeps : goal.instance_node-returns-in_err-r-in-Fun-clause-keeps
instance_node-returns-in_err-r-in-Fun-clause-keeps t c = keeps_types_trans c.in_ok-from-in-Fun.ensures.keeps (keeps_types_trans c.in_ok-to-in-Fun.ensures.keeps c.in_err-r-in-Fun.ensures.keeps)

pub instance_node-returns-in_err-r-in-Cons-clause-keeps : goal.instance_node-returns-in_err-r-in-Cons-clause-keeps
instance_node-returns-in_err-r-in-Cons-clause-keeps t c = keeps_types_trans c.in_ok-us-in-Cons.ensures.keeps c.in_err-r-in-Cons.ensures.keeps

pub instance_node-returns-in_ok-r-in-Fun-clause-keeps : goal.instance_node-returns-in_ok-r-in-Fun-clause-keeps
instance_node-returns-in_ok-r-in-Fun-clause-keeps t c = keeps_types_trans c.in_ok-from-in-Fun.ensures.keeps (keeps_types_trans c.in_ok-to-in-Fun.ensures.keeps c.in_ok-r-in-Fun.ensures.keeps)

pub instance_node-returns-in_ok-r-in-Cons-clause-keeps : goal.instance_node-returns-in_ok-r-in-Cons-clause-keeps
instance_node-returns-in_ok-r-in-Cons-clause-keeps t c = keeps_types_trans c.in_ok-us-in-Cons.ensures.keeps c.in_ok-r-in-Cons.ensures.keeps

pub instance_node-returns-in_err-to-in-Fun-clause-keeps : goal.instance_node-returns-in_err-to-in-Fun-clause-keeps
instance_node-returns-in_err-to-in-Fun-clause-keeps t c = keeps_types_trans c.in_ok-from-in-Fun.ensures.keeps c.in_err-to-in-Fun.ensures.keeps

pub instances_in-part_instance-requires : goal.instances_in-part_instance-requires
instances_in-part_instance-requires t c =
    let low : c.t-item.result < c.args.above = subst (λ x. x < c.args.above) (sym c.t-item.is) (all_at (λ x. x < c.args.above) c.args.ts.now c.requires.below c.loop-t.t-index c.t-item.result c.loop-t-test.true) in
    let k = c.loop-t.invariant.keeps in
    (omega arith, (c.loop-t.invariant.lawful, (k.types c.t-item.result (omega arith), (has_subst_kept _ _ k c.args.s.now c.requires.subst, c.loop-t.invariant.memo))))

pub instances_in-returns-in_err-u-clause-keeps : goal.instances_in-returns-in_err-u-clause-keeps
instances_in-returns-in_err-u-clause-keeps t c = keeps_types_trans c.loop-t.invariant.keeps c.in_err-u.ensures.keeps

pub instances_in-returns-in_err-push-clause-keeps : goal.instances_in-returns-in_err-push-clause-keeps
instances_in-returns-in_err-push-clause-keeps t c = keeps_types_trans c.loop-t.invariant.keeps c.in_ok-u.ensures.keeps

pub instances_in-loop-t-preserved : goal.instances_in-loop-t-preserved
instances_in-loop-t-preserved t c =
    let s = joined c.args.base.now c.args.own.now in
    let m = joined c.args.base.now c.loop-t.own in
    let u = joined c.args.base.now c.part_instance.new.own in
    let low : c.t-item.result < c.args.above = subst (λ x. x < c.args.above) (sym c.t-item.is) (all_at (λ x. x < c.args.above) c.args.ts.now c.requires.below c.loop-t.t-index c.t-item.result c.loop-t-test.true) in
    let has : HasType s c.t-item.result = omega arith in
    let same = subst_tree_kept s m c.loop-t.invariant.keeps c.args.s.now c.requires.subst in
    let tree = c.in_ok-u.ensures.tree ∙ ap (λ σ. instance_of σ (type_tree m c.t-item.result)) same in
    let e : take (c.loop-t.t-index + 1) c.args.ts.now ≡ take c.loop-t.t-index c.args.ts.now ++ c.t-item.result ∷ [] = take_more c.args.ts.now c.loop-t.t-index c.t-item.result c.loop-t-test.true ∙ ap (λ x. take c.loop-t.t-index c.args.ts.now ++ x ∷ []) (sym c.t-item.is) in
    record {
      lawful = c.in_ok-u.ensures.lawful;
      keeps = keeps_types_trans c.loop-t.invariant.keeps c.in_ok-u.ensures.keeps;
      done = rw (c.in_ok-push.ensures.items, e) (one_more (subst_tree s c.args.s.now) s m u (take c.loop-t.t-index c.args.ts.now) c.loop-t.us.items c.t-item.result c.in_ok-u.u c.loop-t.invariant.keeps c.in_ok-u.ensures.keeps has c.loop-t.invariant.done c.in_ok-u.ensures.there tree);
      memo = c.in_ok-u.ensures.memo;
    }

pub instance_node-returns-in_ok-r-in-Fun-clause-memo : goal.instance_node-returns-in_ok-r-in-Fun-clause-memo
instance_node-returns-in_ok-r-in-Fun-clause-memo t c =
    let k = keeps_types_trans c.in_ok-from-in-Fun.ensures.keeps c.in_ok-to-in-Fun.ensures.keeps in
    type_instances_kept c.in_ok-r-in-Fun.ensures.keeps (has_subst_kept _ _ k c.args.s.now c.requires.subst) c.in_ok-to-in-Fun.ensures.memo

pub instance_node-returns-in_ok-r-in-Cons-clause-memo : goal.instance_node-returns-in_ok-r-in-Cons-clause-memo
instance_node-returns-in_ok-r-in-Cons-clause-memo t c =
    type_instances_kept c.in_ok-r-in-Cons.ensures.keeps (has_subst_kept _ _ c.in_ok-us-in-Cons.ensures.keeps c.args.s.now c.requires.subst) c.in_ok-us-in-Cons.ensures.memo

pub part_instance-returns-in-Some-clause-there : goal.part_instance-returns-in-Some-clause-there
part_instance-returns-in-Some-clause-there t c = (c.requires.memo.each c.args.t c.in-Some.r (sym c.get.ensures.value ∙ sym c.in-Some.ensures)).made

pub part_instance-returns-in-Some-clause-tree : goal.part_instance-returns-in-Some-clause-tree
part_instance-returns-in-Some-clause-tree t c = (c.requires.memo.each c.args.t c.in-Some.r (sym c.get.ensures.value ∙ sym c.in-Some.ensures)).tree

pub part_instance-returns-in_ok-insert-in-None-clause-memo : goal.part_instance-returns-in_ok-insert-in-None-clause-memo
part_instance-returns-in_ok-insert-in-None-clause-memo t c =
    let s = joined c.args.base.now c.args.own.now in
    let u = joined c.args.base.now c.instance_node.new.own in
    let k = c.in_ok-r-in-None.ensures.keeps in
    let same = subst_tree_kept s u k c.args.s.now c.requires.subst in
    let e = c.in_ok-r-in-None.ensures.tree ∙ (λ i. instance_of (sym same i) (sym (k.trees c.args.t c.requires.there) i)) in
    type_instances_put u c.args.s.now c.instance_node.new.memo c.insert.new.self c.args.t c.in_ok-r-in-None.r c.in_ok-r-in-None.ensures.memo (λ q. c.in_ok-insert-in-None.ensures.updates.0 q) (record { there = k.types c.args.t c.requires.there; made = c.in_ok-r-in-None.ensures.there; tree = e })

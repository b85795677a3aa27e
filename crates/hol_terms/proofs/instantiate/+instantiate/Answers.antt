use Rattle.std.proofs.Common.{◌∙◌, ap, sym, arith}
use Rattle.hol_types.specs.TypeSubst.{subst_tree, instance_of}
use Rattle.hol_terms.specs.TermStore.{HasTerm}
use Rattle.hol_terms.specs.Substitution.{subst_types}
use Rattle.hol_terms.proofs.KeepsLemmas.{keeps_trans, subst_kept, subst_same, made_kept}
use Rattle.hol_terms.proofs.MemoLemmas.{instances_kept, instances_put, instances_unchanged}
use Rattle.hol_terms.proofs.OpenLemmas.{instance_app, instance_lam}
use Rattle.hol_terms.proofs.instantiate.+instantiate.Goals as goal

pub instantiate_part-returns-in_ok-insert-in-None-clause-memo : goal.instantiate_part-returns-in_ok-insert-in-None-clause-memo
instantiate_part-returns-in_ok-insert-in-None-clause-memo g t c =
    let k = c.in_ok-r-in-None.ensures.keeps in
    let types = subst_tree (g.S.Terms.store c.args.store.now).types c.args.s.now in
    let e = c.in_ok-r-in-None.ensures.tree ∙ ap (λ x. subst_types types x) (sym (k.trees c.args.t c.requires.term)) in
    instances_put (g.S.Terms.store c.instantiate_node.new.store) types c.instantiate_node.new.memo c.insert.new.self c.args.t c.in_ok-r-in-None.r c.in_ok-r-in-None.ensures.memo (λ q. c.in_ok-insert-in-None.ensures.updates.0 q) (k.terms c.args.t c.requires.term) c.in_ok-r-in-None.ensures.there e

pub instantiate_part-returns-in_ok-insert-in-None-clause-subst : goal.instantiate_part-returns-in_ok-insert-in-None-clause-subst
instantiate_part-returns-in_ok-insert-in-None-clause-subst g t c = subst_kept c.in_ok-r-in-None.ensures.keeps c.args.s.now c.requires.subst

pub instantiate_part-returns-in_ok-insert-in-None-clause-same : goal.instantiate_part-returns-in_ok-insert-in-None-clause-same
instantiate_part-returns-in_ok-insert-in-None-clause-same g t c = subst_same c.in_ok-r-in-None.ensures.keeps c.args.s.now c.requires.subst

pub instantiate_part-returns-in_err-insert-in-None-clause-subst : goal.instantiate_part-returns-in_err-insert-in-None-clause-subst
instantiate_part-returns-in_err-insert-in-None-clause-subst g t c = subst_kept c.in_ok-r-in-None.ensures.keeps c.args.s.now c.requires.subst

pub instantiate_part-returns-in_err-insert-in-None-clause-same : goal.instantiate_part-returns-in_err-insert-in-None-clause-same
instantiate_part-returns-in_err-insert-in-None-clause-same g t c = subst_same c.in_ok-r-in-None.ensures.keeps c.args.s.now c.requires.subst

pub instantiate_part-returns-in_err-r-in-None-clause-subst : goal.instantiate_part-returns-in_err-r-in-None-clause-subst
instantiate_part-returns-in_err-r-in-None-clause-subst g t c = subst_kept c.in_err-r-in-None.ensures.keeps c.args.s.now c.requires.subst

pub instantiate_part-returns-in_err-r-in-None-clause-same : goal.instantiate_part-returns-in_err-r-in-None-clause-same
instantiate_part-returns-in_err-r-in-None-clause-same g t c = subst_same c.in_err-r-in-None.ensures.keeps c.args.s.now c.requires.subst

pub instantiate_part-returns-in-Some-clause-there : goal.instantiate_part-returns-in-Some-clause-there
instantiate_part-returns-in-Some-clause-there g t c = (c.requires.memo.each c.args.t c.in-Some.r (sym c.get.ensures.value ∙ sym c.in-Some.ensures)).made

pub instantiate_part-returns-in-Some-clause-tree : goal.instantiate_part-returns-in-Some-clause-tree
instantiate_part-returns-in-Some-clause-tree g t c = (c.requires.memo.each c.args.t c.in-Some.r (sym c.get.ensures.value ∙ sym c.in-Some.ensures)).tree

pub instantiate_node-returns-in_err-ty-in-Free-clause-memo : goal.instantiate_node-returns-in_err-ty-in-Free-clause-memo
instantiate_node-returns-in_err-ty-in-Free-clause-memo g t c = instances_kept c.in_err-ty-in-Free.ensures.keeps c.requires.memo

pub instantiate_node-returns-in_err-r-in-Free-clause-memo : goal.instantiate_node-returns-in_err-r-in-Free-clause-memo
instantiate_node-returns-in_err-r-in-Free-clause-memo g t c = instances_kept c.in_err-r-in-Free.ensures.keeps (instances_kept c.in_ok-ty-in-Free.ensures.keeps c.requires.memo)

pub instantiate_node-returns-in_err-r-in-Free-clause-keeps : goal.instantiate_node-returns-in_err-r-in-Free-clause-keeps
instantiate_node-returns-in_err-r-in-Free-clause-keeps g t c = keeps_trans c.in_ok-ty-in-Free.ensures.keeps c.in_err-r-in-Free.ensures.keeps

pub instantiate_node-returns-in_ok-r-in-Free-clause-memo : goal.instantiate_node-returns-in_ok-r-in-Free-clause-memo
instantiate_node-returns-in_ok-r-in-Free-clause-memo g t c = instances_kept c.in_ok-r-in-Free.ensures.keeps (instances_kept c.in_ok-ty-in-Free.ensures.keeps c.requires.memo)

pub instantiate_node-returns-in_ok-r-in-Free-clause-keeps : goal.instantiate_node-returns-in_ok-r-in-Free-clause-keeps
instantiate_node-returns-in_ok-r-in-Free-clause-keeps g t c = keeps_trans c.in_ok-ty-in-Free.ensures.keeps c.in_ok-r-in-Free.ensures.keeps

pub instantiate_node-returns-in_err-ty-in-Bound-clause-memo : goal.instantiate_node-returns-in_err-ty-in-Bound-clause-memo
instantiate_node-returns-in_err-ty-in-Bound-clause-memo g t c = instances_kept c.in_err-ty-in-Bound.ensures.keeps c.requires.memo

pub instantiate_node-returns-in_err-r-in-Bound-clause-memo : goal.instantiate_node-returns-in_err-r-in-Bound-clause-memo
instantiate_node-returns-in_err-r-in-Bound-clause-memo g t c = instances_kept c.in_err-r-in-Bound.ensures.keeps (instances_kept c.in_ok-ty-in-Bound.ensures.keeps c.requires.memo)

pub instantiate_node-returns-in_err-r-in-Bound-clause-keeps : goal.instantiate_node-returns-in_err-r-in-Bound-clause-keeps
instantiate_node-returns-in_err-r-in-Bound-clause-keeps g t c = keeps_trans c.in_ok-ty-in-Bound.ensures.keeps c.in_err-r-in-Bound.ensures.keeps

pub instantiate_node-returns-in_ok-r-in-Bound-clause-memo : goal.instantiate_node-returns-in_ok-r-in-Bound-clause-memo
instantiate_node-returns-in_ok-r-in-Bound-clause-memo g t c = instances_kept c.in_ok-r-in-Bound.ensures.keeps (instances_kept c.in_ok-ty-in-Bound.ensures.keeps c.requires.memo)

pub instantiate_node-returns-in_ok-r-in-Bound-clause-keeps : goal.instantiate_node-returns-in_ok-r-in-Bound-clause-keeps
instantiate_node-returns-in_ok-r-in-Bound-clause-keeps g t c = keeps_trans c.in_ok-ty-in-Bound.ensures.keeps c.in_ok-r-in-Bound.ensures.keeps

pub instantiate_node-returns-in_err-ty-in-Const-clause-memo : goal.instantiate_node-returns-in_err-ty-in-Const-clause-memo
instantiate_node-returns-in_err-ty-in-Const-clause-memo g t c = instances_kept c.in_err-ty-in-Const.ensures.keeps c.requires.memo

pub instantiate_node-returns-in_err-r-in-Const-clause-memo : goal.instantiate_node-returns-in_err-r-in-Const-clause-memo
instantiate_node-returns-in_err-r-in-Const-clause-memo g t c = instances_kept c.in_err-r-in-Const.ensures.keeps (instances_kept c.in_ok-ty-in-Const.ensures.keeps c.requires.memo)

pub instantiate_node-returns-in_err-r-in-Const-clause-keeps : goal.instantiate_node-returns-in_err-r-in-Const-clause-keeps
instantiate_node-returns-in_err-r-in-Const-clause-keeps g t c = keeps_trans c.in_ok-ty-in-Const.ensures.keeps c.in_err-r-in-Const.ensures.keeps

pub instantiate_node-returns-in_ok-r-in-Const-clause-memo : goal.instantiate_node-returns-in_ok-r-in-Const-clause-memo
instantiate_node-returns-in_ok-r-in-Const-clause-memo g t c = instances_kept c.in_ok-r-in-Const.ensures.keeps (instances_kept c.in_ok-ty-in-Const.ensures.keeps c.requires.memo)

pub instantiate_node-returns-in_ok-r-in-Const-clause-keeps : goal.instantiate_node-returns-in_ok-r-in-Const-clause-keeps
instantiate_node-returns-in_ok-r-in-Const-clause-keeps g t c = keeps_trans c.in_ok-ty-in-Const.ensures.keeps c.in_ok-r-in-Const.ensures.keeps

pub instantiate_node-instantiate_part-requires-in-App : goal.instantiate_node-instantiate_part-requires-in-App
instantiate_node-instantiate_part-requires-in-App g t c =
    let s = g.S.Terms.store c.args.store.now in
    let k = c.in_ok-f-in-App.ensures.keeps in
    let below = c.in-App.ensures.parts in
    let has_x : HasTerm s c.in-App.x = omega arith in
    λ κs lives. (omega arith, (lives.0, (lives.1, (k.terms c.in-App.x has_x, (c.in_ok-f-in-App.ensures.subst, (rw c.in_ok-f-in-App.ensures.same c.in_ok-f-in-App.ensures.memo, c.in_ok-f-in-App.ensures.types))))))

pub instantiate_node-returns-in_err-x-in-App-clause-memo : goal.instantiate_node-returns-in_err-x-in-App-clause-memo
instantiate_node-returns-in_err-x-in-App-clause-memo g t c = rw c.in_ok-f-in-App.ensures.same at c.in_err-x-in-App.ensures.memo

pub instantiate_node-returns-in_err-x-in-App-clause-keeps : goal.instantiate_node-returns-in_err-x-in-App-clause-keeps
instantiate_node-returns-in_err-x-in-App-clause-keeps g t c = keeps_trans c.in_ok-f-in-App.ensures.keeps c.in_err-x-in-App.ensures.keeps

pub instantiate_node-make-requires-in-App-clause-typed : goal.instantiate_node-make-requires-in-App-clause-typed
instantiate_node-make-requires-in-App-clause-typed g t c =
    let s = g.S.Terms.store c.args.store.now in
    let k = c.in_ok-f-in-App.ensures.keeps in
    let below = c.in-App.ensures.parts in
    let has_x : HasTerm s c.in-App.x = omega arith in
    let same_x = k.trees c.in-App.x has_x in
    let at_f = c.in_ok-x-in-App.ensures.keeps.trees c.in_ok-f-in-App.f c.in_ok-f-in-App.ensures.there ∙ c.in_ok-f-in-App.ensures.tree in
    let at_x = c.in_ok-x-in-App.ensures.tree ∙ (λ i. subst_types (c.in_ok-f-in-App.ensures.same i) (same_x i)) in
    instance_app s (subst_tree s.types c.args.s.now) c.args.t c.in-App.ensures.typed c.in-App.f c.in-App.x c.in-App.ensures.tree _ _ at_f at_x

pub instantiate_node-returns-in_err-r-in-App-clause-memo : goal.instantiate_node-returns-in_err-r-in-App-clause-memo
instantiate_node-returns-in_err-r-in-App-clause-memo g t c = instances_kept c.in_err-r-in-App.ensures.keeps (rw c.in_ok-f-in-App.ensures.same at c.in_ok-x-in-App.ensures.memo)

pub instantiate_node-returns-in_err-r-in-App-clause-keeps : goal.instantiate_node-returns-in_err-r-in-App-clause-keeps
instantiate_node-returns-in_err-r-in-App-clause-keeps g t c = keeps_trans c.in_ok-f-in-App.ensures.keeps (keeps_trans c.in_ok-x-in-App.ensures.keeps c.in_err-r-in-App.ensures.keeps)

pub instantiate_node-returns-in_ok-r-in-App-clause-memo : goal.instantiate_node-returns-in_ok-r-in-App-clause-memo
instantiate_node-returns-in_ok-r-in-App-clause-memo g t c = instances_kept c.in_ok-r-in-App.ensures.keeps (rw c.in_ok-f-in-App.ensures.same at c.in_ok-x-in-App.ensures.memo)

pub instantiate_node-returns-in_ok-r-in-App-clause-keeps : goal.instantiate_node-returns-in_ok-r-in-App-clause-keeps
instantiate_node-returns-in_ok-r-in-App-clause-keeps g t c = keeps_trans c.in_ok-f-in-App.ensures.keeps (keeps_trans c.in_ok-x-in-App.ensures.keeps c.in_ok-r-in-App.ensures.keeps)

pub instantiate_node-returns-in_err-domain-in-Lam-clause-memo : goal.instantiate_node-returns-in_err-domain-in-Lam-clause-memo
instantiate_node-returns-in_err-domain-in-Lam-clause-memo g t c = instances_kept c.in_err-domain-in-Lam.ensures.keeps c.in_ok-b-in-Lam.ensures.memo

pub instantiate_node-returns-in_err-domain-in-Lam-clause-keeps : goal.instantiate_node-returns-in_err-domain-in-Lam-clause-keeps
instantiate_node-returns-in_err-domain-in-Lam-clause-keeps g t c = keeps_trans c.in_ok-b-in-Lam.ensures.keeps c.in_err-domain-in-Lam.ensures.keeps

pub instantiate_node-make-requires-in-Lam-clause-typed : goal.instantiate_node-make-requires-in-Lam-clause-typed
instantiate_node-make-requires-in-Lam-clause-typed g t c =
    let s = g.S.Terms.store c.args.store.now in
    let k = c.in_ok-b-in-Lam.ensures.keeps in
    let same_ty = k.type_trees c.in-Lam.ty c.in-Lam.ensures.parts.0 in
    let at_ty = c.in_ok-domain-in-Lam.ensures.tree ∙ (λ i. instance_of (c.in_ok-b-in-Lam.ensures.same i) (same_ty i)) in
    let at_b = c.in_ok-domain-in-Lam.ensures.keeps.trees c.in_ok-b-in-Lam.b c.in_ok-b-in-Lam.ensures.there ∙ c.in_ok-b-in-Lam.ensures.tree in
    instance_lam s (subst_tree s.types c.args.s.now) c.args.t c.in-Lam.ensures.typed _ c.in-Lam.b c.in-Lam.ensures.tree _ _ at_ty at_b

pub instantiate_node-returns-in_err-r-in-Lam-clause-memo : goal.instantiate_node-returns-in_err-r-in-Lam-clause-memo
instantiate_node-returns-in_err-r-in-Lam-clause-memo g t c = instances_kept c.in_err-r-in-Lam.ensures.keeps (instances_kept c.in_ok-domain-in-Lam.ensures.keeps c.in_ok-b-in-Lam.ensures.memo)

pub instantiate_node-returns-in_err-r-in-Lam-clause-keeps : goal.instantiate_node-returns-in_err-r-in-Lam-clause-keeps
instantiate_node-returns-in_err-r-in-Lam-clause-keeps g t c = keeps_trans c.in_ok-b-in-Lam.ensures.keeps (keeps_trans c.in_ok-domain-in-Lam.ensures.keeps c.in_err-r-in-Lam.ensures.keeps)

pub instantiate_node-returns-in_ok-r-in-Lam-clause-memo : goal.instantiate_node-returns-in_ok-r-in-Lam-clause-memo
instantiate_node-returns-in_ok-r-in-Lam-clause-memo g t c = instances_kept c.in_ok-r-in-Lam.ensures.keeps (instances_kept c.in_ok-domain-in-Lam.ensures.keeps c.in_ok-b-in-Lam.ensures.memo)

pub instantiate_node-returns-in_ok-r-in-Lam-clause-keeps : goal.instantiate_node-returns-in_ok-r-in-Lam-clause-keeps
instantiate_node-returns-in_ok-r-in-Lam-clause-keeps g t c = keeps_trans c.in_ok-b-in-Lam.ensures.keeps (keeps_trans c.in_ok-domain-in-Lam.ensures.keeps c.in_ok-r-in-Lam.ensures.keeps)

pub instantiate_part-returns-in_err-insert-in-None-clause-memo : goal.instantiate_part-returns-in_err-insert-in-None-clause-memo
instantiate_part-returns-in_err-insert-in-None-clause-memo g t c = instances_unchanged c.in_err-insert-in-None.ensures.err c.in_ok-r-in-None.ensures.memo

pub instantiate_node-returns-in_ok-r-in-Free-clause-types : goal.instantiate_node-returns-in_ok-r-in-Free-clause-types
instantiate_node-returns-in_ok-r-in-Free-clause-types g t c = made_kept c.in_ok-r-in-Free.ensures.keeps c.in_ok-ty-in-Free.ensures.subst c.in_ok-ty-in-Free.ensures.types

pub instantiate_node-returns-in_ok-r-in-Bound-clause-types : goal.instantiate_node-returns-in_ok-r-in-Bound-clause-types
instantiate_node-returns-in_ok-r-in-Bound-clause-types g t c = made_kept c.in_ok-r-in-Bound.ensures.keeps c.in_ok-ty-in-Bound.ensures.subst c.in_ok-ty-in-Bound.ensures.types

pub instantiate_node-returns-in_ok-r-in-Const-clause-types : goal.instantiate_node-returns-in_ok-r-in-Const-clause-types
instantiate_node-returns-in_ok-r-in-Const-clause-types g t c = made_kept c.in_ok-r-in-Const.ensures.keeps c.in_ok-ty-in-Const.ensures.subst c.in_ok-ty-in-Const.ensures.types

pub instantiate_node-returns-in_ok-r-in-Lam-clause-types : goal.instantiate_node-returns-in_ok-r-in-Lam-clause-types
instantiate_node-returns-in_ok-r-in-Lam-clause-types g t c = made_kept c.in_ok-r-in-Lam.ensures.keeps c.in_ok-domain-in-Lam.ensures.subst c.in_ok-domain-in-Lam.ensures.types

pub instantiate_node-returns-in_ok-r-in-App-clause-types : goal.instantiate_node-returns-in_ok-r-in-App-clause-types
instantiate_node-returns-in_ok-r-in-App-clause-types g t c = made_kept c.in_ok-r-in-App.ensures.keeps c.in_ok-x-in-App.ensures.subst c.in_ok-x-in-App.ensures.types

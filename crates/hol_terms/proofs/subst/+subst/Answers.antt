use Rattle.std.proofs.Common.{◌∙◌, ap, sym, arith}
use Rattle.hol_terms.specs.TermStore.{term_tree, HasTerm}
use Rattle.hol_terms.specs.Substitution.{subst_free}
use Rattle.hol_terms.proofs.KeepsLemmas.{keeps_trans}
use Rattle.hol_terms.proofs.MemoLemmas.{replaced_kept, replaced_put, replaced_unchanged}
use Rattle.hol_terms.proofs.OpenLemmas.{replaced_app, replaced_lam, other_stays, itself_replaced, differ_by_test, same_by_test}
use Rattle.hol_terms.proofs.subst.+subst.Goals as goal

pub subst_node-subst_part-requires-in-App : goal.subst_node-subst_part-requires-in-App
subst_node-subst_part-requires-in-App g t c =
    let s = g.S.Terms.store c.args.store.now in
    let k = c.in_ok-f-in-App.ensures.keeps in
    let below = c.in-App.ensures.parts in
    let has_x : HasTerm s c.in-App.x = omega arith in
    let same_v = k.trees c.args.v c.requires.variable in
    let same_u = k.trees c.args.u c.requires.new in
    λ κs lives. (omega arith, (lives.0, (lives.1, (k.terms c.in-App.x has_x, (k.terms c.args.v c.requires.variable, (k.terms c.args.u c.requires.new, (rw same_u c.requires.typed, (rw same_u c.requires.closed, (rw (same_u, same_v) c.requires.same_type, rw (same_v, same_u) c.in_ok-f-in-App.ensures.memo)))))))))

pub subst_node-make-requires-clause-typed : goal.subst_node-make-requires-clause-typed
subst_node-make-requires-clause-typed g t c =
    let s = g.S.Terms.store c.args.store.now in
    let k = c.in_ok-f-in-App.ensures.keeps in
    let below = c.in-App.ensures.parts in
    let has_x : HasTerm s c.in-App.x = omega arith in
    let same_x = k.trees c.in-App.x has_x in
    let same_v = k.trees c.args.v c.requires.variable in
    let same_u = k.trees c.args.u c.requires.new in
    let at_f = c.in_ok-x-in-App.ensures.keeps.trees c.in_ok-f-in-App.f c.in_ok-f-in-App.ensures.there ∙ c.in_ok-f-in-App.ensures.tree in
    let at_x = c.in_ok-x-in-App.ensures.tree ∙ (λ i. subst_free (same_v i) (same_u i) (same_x i)) in
    replaced_app s c.args.t c.args.v c.args.u c.in-App.ensures.typed c.requires.typed c.requires.closed c.requires.same_type c.in-App.f c.in-App.x c.in-App.ensures.tree _ _ at_f at_x

pub subst_node-make-requires-in-Lam-clause-typed : goal.subst_node-make-requires-in-Lam-clause-typed
subst_node-make-requires-in-Lam-clause-typed g t c =
    let s = g.S.Terms.store c.args.store.now in
    replaced_lam s c.args.t c.args.v c.args.u c.in-Lam.ensures.typed c.requires.typed c.requires.closed c.requires.same_type _ c.in-Lam.b c.in-Lam.ensures.tree _ _ (c.in_ok-b-in-Lam.ensures.keeps.type_trees c.in-Lam.ty c.in-Lam.ensures.parts.0) c.in_ok-b-in-Lam.ensures.tree

pub subst_node-returns-in_err-x-in-App-clause-keeps : goal.subst_node-returns-in_err-x-in-App-clause-keeps
subst_node-returns-in_err-x-in-App-clause-keeps g t c = keeps_trans c.in_ok-f-in-App.ensures.keeps c.in_err-x-in-App.ensures.keeps

pub subst_node-returns-in_err-x-in-App-clause-memo : goal.subst_node-returns-in_err-x-in-App-clause-memo
subst_node-returns-in_err-x-in-App-clause-memo g t c = let k = c.in_ok-f-in-App.ensures.keeps in let same_v = k.trees c.args.v c.requires.variable in let same_u = k.trees c.args.u c.requires.new in rw (same_v, same_u) at c.in_err-x-in-App.ensures.memo

pub subst_node-returns-in_err-r-in-App-clause-keeps : goal.subst_node-returns-in_err-r-in-App-clause-keeps
subst_node-returns-in_err-r-in-App-clause-keeps g t c = keeps_trans c.in_ok-f-in-App.ensures.keeps (keeps_trans c.in_ok-x-in-App.ensures.keeps c.in_err-r-in-App.ensures.keeps)

pub subst_node-returns-in_err-r-in-App-clause-memo : goal.subst_node-returns-in_err-r-in-App-clause-memo
subst_node-returns-in_err-r-in-App-clause-memo g t c = let k = c.in_ok-f-in-App.ensures.keeps in let same_v = k.trees c.args.v c.requires.variable in let same_u = k.trees c.args.u c.requires.new in let after = rw (same_v, same_u) at c.in_ok-x-in-App.ensures.memo in replaced_kept c.in_err-r-in-App.ensures.keeps after

pub subst_node-returns-in_err-r-in-Lam-clause-keeps : goal.subst_node-returns-in_err-r-in-Lam-clause-keeps
subst_node-returns-in_err-r-in-Lam-clause-keeps g t c = keeps_trans c.in_ok-b-in-Lam.ensures.keeps c.in_err-r-in-Lam.ensures.keeps

pub subst_node-returns-in_err-r-in-Lam-clause-memo : goal.subst_node-returns-in_err-r-in-Lam-clause-memo
subst_node-returns-in_err-r-in-Lam-clause-memo g t c = replaced_kept c.in_err-r-in-Lam.ensures.keeps c.in_ok-b-in-Lam.ensures.memo

pub subst_node-returns-in_ok-r-in-App-clause-keeps : goal.subst_node-returns-in_ok-r-in-App-clause-keeps
subst_node-returns-in_ok-r-in-App-clause-keeps g t c = keeps_trans c.in_ok-f-in-App.ensures.keeps (keeps_trans c.in_ok-x-in-App.ensures.keeps c.in_ok-r-in-App.ensures.keeps)

pub subst_node-returns-in_ok-r-in-App-clause-memo : goal.subst_node-returns-in_ok-r-in-App-clause-memo
subst_node-returns-in_ok-r-in-App-clause-memo g t c = let k = c.in_ok-f-in-App.ensures.keeps in let same_v = k.trees c.args.v c.requires.variable in let same_u = k.trees c.args.u c.requires.new in let after = rw (same_v, same_u) at c.in_ok-x-in-App.ensures.memo in replaced_kept c.in_ok-r-in-App.ensures.keeps after

pub subst_node-returns-in_ok-r-in-Lam-clause-keeps : goal.subst_node-returns-in_ok-r-in-Lam-clause-keeps
subst_node-returns-in_ok-r-in-Lam-clause-keeps g t c = keeps_trans c.in_ok-b-in-Lam.ensures.keeps c.in_ok-r-in-Lam.ensures.keeps

pub subst_node-returns-in_ok-r-in-Lam-clause-memo : goal.subst_node-returns-in_ok-r-in-Lam-clause-memo
subst_node-returns-in_ok-r-in-Lam-clause-memo g t c = replaced_kept c.in_ok-r-in-Lam.ensures.keeps c.in_ok-b-in-Lam.ensures.memo

pub subst_node-returns-then-ne-clause-tree : goal.subst_node-returns-then-ne-clause-tree
subst_node-returns-then-ne-clause-tree g t c =
    let s = g.S.Terms.store c.args.store.now in
    other_stays s c.in-Free.ensures.apart c.args.t c.args.v c.args.u c.requires.term c.requires.variable _ _ _ c.in-Free.ensures.tree (differ_by_test c.args.t c.args.v c.if-ne.ensures)

pub subst_node-returns-else-ne-clause-tree : goal.subst_node-returns-else-ne-clause-tree
subst_node-returns-else-ne-clause-tree g t c =
    let s = g.S.Terms.store c.args.store.now in
    itself_replaced s c.args.t c.args.v c.args.u _ _ _ c.in-Free.ensures.tree (same_by_test c.args.t c.args.v c.if-ne.ensures)

pub subst_part-returns-in_ok-insert-in-None-clause-memo : goal.subst_part-returns-in_ok-insert-in-None-clause-memo
subst_part-returns-in_ok-insert-in-None-clause-memo g t c =
    let s = g.S.Terms.store c.args.store.now in
    let k = c.in_ok-r-in-None.ensures.keeps in
    let v = term_tree s c.args.v in
    let u = term_tree s c.args.u in
    let e = c.in_ok-r-in-None.ensures.tree ∙ ap (λ x. subst_free v u x) (sym (k.trees c.args.t c.requires.term)) in
    replaced_put (g.S.Terms.store c.subst_node.new.store) v u c.subst_node.new.memo c.insert.new.self c.args.t c.in_ok-r-in-None.r c.in_ok-r-in-None.ensures.memo (λ q. c.in_ok-insert-in-None.ensures.updates.0 q) (k.terms c.args.t c.requires.term) c.in_ok-r-in-None.ensures.there e

pub subst_part-returns-in_err-insert-in-None-clause-memo : goal.subst_part-returns-in_err-insert-in-None-clause-memo
subst_part-returns-in_err-insert-in-None-clause-memo g t c = replaced_unchanged c.in_err-insert-in-None.ensures.err c.in_ok-r-in-None.ensures.memo

pub subst_part-returns-in-Some-clause-there : goal.subst_part-returns-in-Some-clause-there
subst_part-returns-in-Some-clause-there g t c = (c.requires.memo.each c.args.t c.in-Some.r (sym c.get.ensures.value ∙ sym c.in-Some.ensures)).made

pub subst_part-returns-in-Some-clause-tree : goal.subst_part-returns-in-Some-clause-tree
subst_part-returns-in-Some-clause-tree g t c = (c.requires.memo.each c.args.t c.in-Some.r (sym c.get.ensures.value ∙ sym c.in-Some.ensures)).tree

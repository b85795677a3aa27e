use Rattle.std.proofs.Common.{◌∙◌, ap, sym, arith}
use Rattle.hol_terms.specs.TermStore.{term_tree, HasTerm}
use Rattle.hol_terms.specs.Substitution.{close_free}
use Rattle.hol_terms.proofs.KeepsLemmas.{keeps_trans}
use Rattle.hol_terms.proofs.MemoLemmas.{closed_kept, closed_put, closed_unchanged}
use Rattle.hol_terms.proofs.OpenLemmas.{closed_app, closed_lam, variable_stays, variable_closed, differ_by_test, same_by_test}
use Rattle.hol_terms.proofs.close.+close.Goals as goal

pub close_node-close_part-requires-in-App : goal.close_node-close_part-requires-in-App
close_node-close_part-requires-in-App g t c =
    let s = g.S.Terms.store c.args.store.now in
    let k = c.in_ok-f-in-App.ensures.keeps in
    let below = c.in-App.ensures.parts in
    let has_x : HasTerm s c.in-App.x = omega arith in
    let same_x = k.trees c.in-App.x has_x in
    let same_v = k.trees c.args.v c.requires.variable in
    λ κs lives. (omega arith, (lives.0, (lives.1, (k.terms c.in-App.x has_x, (k.terms c.args.v c.requires.variable, (omega arith, rw same_v c.in_ok-f-in-App.ensures.memo))))))

pub close_node-make-requires-in-App-clause-typed : goal.close_node-make-requires-in-App-clause-typed
close_node-make-requires-in-App-clause-typed g t c =
    let s = g.S.Terms.store c.args.store.now in
    let k = c.in_ok-f-in-App.ensures.keeps in
    let below = c.in-App.ensures.parts in
    let has_x : HasTerm s c.in-App.x = omega arith in
    let same_x = k.trees c.in-App.x has_x in
    let same_v = k.trees c.args.v c.requires.variable in
    let at_f = c.in_ok-x-in-App.ensures.keeps.trees c.in_ok-f-in-App.f c.in_ok-f-in-App.ensures.there ∙ c.in_ok-f-in-App.ensures.tree in
    let at_x = c.in_ok-x-in-App.ensures.tree ∙ (λ i. close_free (same_x i) c.args.part.index (same_v i)) in
    closed_app s c.args.part.term c.args.v c.args.part.index c.in-App.ensures.typed c.in-App.f c.in-App.x c.in-App.ensures.tree _ _ at_f at_x

pub close_node-make-requires-in-Lam-clause-typed : goal.close_node-make-requires-in-Lam-clause-typed
close_node-make-requires-in-Lam-clause-typed g t c =
    let s = g.S.Terms.store c.args.store.now in
    closed_lam s c.args.part.term c.args.v c.args.part.index c.in-Lam.ensures.typed _ c.in-Lam.b c.in-Lam.ensures.tree _ _ (c.in_ok-b-in-Lam.ensures.keeps.type_trees c.in-Lam.ty c.in-Lam.ensures.parts.0) c.in_ok-b-in-Lam.ensures.tree

pub close_node-returns-in_err-x-in-App-clause-keeps : goal.close_node-returns-in_err-x-in-App-clause-keeps
close_node-returns-in_err-x-in-App-clause-keeps g t c = keeps_trans c.in_ok-f-in-App.ensures.keeps c.in_err-x-in-App.ensures.keeps

pub close_node-returns-in_err-x-in-App-clause-memo : goal.close_node-returns-in_err-x-in-App-clause-memo
close_node-returns-in_err-x-in-App-clause-memo g t c = let same_v = c.in_ok-f-in-App.ensures.keeps.trees c.args.v c.requires.variable in rw same_v at c.in_err-x-in-App.ensures.memo

pub close_node-returns-in_err-r-in-App-clause-keeps : goal.close_node-returns-in_err-r-in-App-clause-keeps
close_node-returns-in_err-r-in-App-clause-keeps g t c = keeps_trans c.in_ok-f-in-App.ensures.keeps (keeps_trans c.in_ok-x-in-App.ensures.keeps c.in_err-r-in-App.ensures.keeps)

pub close_node-returns-in_err-r-in-App-clause-memo : goal.close_node-returns-in_err-r-in-App-clause-memo
close_node-returns-in_err-r-in-App-clause-memo g t c = let same_v = c.in_ok-f-in-App.ensures.keeps.trees c.args.v c.requires.variable in let after = rw same_v at c.in_ok-x-in-App.ensures.memo in closed_kept c.in_err-r-in-App.ensures.keeps after

pub close_node-returns-in_err-r-in-Lam-clause-keeps : goal.close_node-returns-in_err-r-in-Lam-clause-keeps
close_node-returns-in_err-r-in-Lam-clause-keeps g t c = keeps_trans c.in_ok-b-in-Lam.ensures.keeps c.in_err-r-in-Lam.ensures.keeps

pub close_node-returns-in_err-r-in-Lam-clause-memo : goal.close_node-returns-in_err-r-in-Lam-clause-memo
close_node-returns-in_err-r-in-Lam-clause-memo g t c = closed_kept c.in_err-r-in-Lam.ensures.keeps c.in_ok-b-in-Lam.ensures.memo

pub close_node-returns-in_err-r-in-Free-clause-memo : goal.close_node-returns-in_err-r-in-Free-clause-memo
close_node-returns-in_err-r-in-Free-clause-memo g t c = closed_kept c.in_err-r-in-Free.ensures.keeps c.requires.memo

pub close_node-returns-in_ok-r-in-App-clause-keeps : goal.close_node-returns-in_ok-r-in-App-clause-keeps
close_node-returns-in_ok-r-in-App-clause-keeps g t c = keeps_trans c.in_ok-f-in-App.ensures.keeps (keeps_trans c.in_ok-x-in-App.ensures.keeps c.in_ok-r-in-App.ensures.keeps)

pub close_node-returns-in_ok-r-in-App-clause-memo : goal.close_node-returns-in_ok-r-in-App-clause-memo
close_node-returns-in_ok-r-in-App-clause-memo g t c = let same_v = c.in_ok-f-in-App.ensures.keeps.trees c.args.v c.requires.variable in let after = rw same_v at c.in_ok-x-in-App.ensures.memo in closed_kept c.in_ok-r-in-App.ensures.keeps after

pub close_node-returns-in_ok-r-in-Lam-clause-keeps : goal.close_node-returns-in_ok-r-in-Lam-clause-keeps
close_node-returns-in_ok-r-in-Lam-clause-keeps g t c = keeps_trans c.in_ok-b-in-Lam.ensures.keeps c.in_ok-r-in-Lam.ensures.keeps

pub close_node-returns-in_ok-r-in-Lam-clause-memo : goal.close_node-returns-in_ok-r-in-Lam-clause-memo
close_node-returns-in_ok-r-in-Lam-clause-memo g t c = closed_kept c.in_ok-r-in-Lam.ensures.keeps c.in_ok-b-in-Lam.ensures.memo

pub close_node-returns-in_ok-r-in-Free-clause-memo : goal.close_node-returns-in_ok-r-in-Free-clause-memo
close_node-returns-in_ok-r-in-Free-clause-memo g t c = closed_kept c.in_ok-r-in-Free.ensures.keeps c.requires.memo

pub close_node-returns-then-ne-clause-tree : goal.close_node-returns-then-ne-clause-tree
close_node-returns-then-ne-clause-tree g t c =
    let s = g.S.Terms.store c.args.store.now in
    variable_stays s c.in-Free.ensures.apart c.args.part.term c.args.v c.args.part.index c.requires.term c.requires.variable _ _ _ c.in-Free.ensures.tree (differ_by_test c.args.part.term c.args.v c.if-ne.ensures)

pub close_node-returns-in_ok-r-in-Free-clause-tree : goal.close_node-returns-in_ok-r-in-Free-clause-tree
close_node-returns-in_ok-r-in-Free-clause-tree g t c =
    let s = g.S.Terms.store c.args.store.now in
    c.in_ok-r-in-Free.ensures.tree ∙ variable_closed s c.args.part.term c.args.v c.args.part.index _ _ _ c.in-Free.ensures.tree (same_by_test c.args.part.term c.args.v c.if-ne.ensures)

pub close_part-returns-in_ok-insert-in-None-clause-memo : goal.close_part-returns-in_ok-insert-in-None-clause-memo
close_part-returns-in_ok-insert-in-None-clause-memo g t c =
    let k = c.in_ok-r-in-None.ensures.keeps in
    let v = term_tree (g.S.Terms.store c.args.store.now) c.args.v in
    let e = c.in_ok-r-in-None.ensures.tree ∙ ap (λ x. close_free x c.args.part.index v) (sym (k.trees c.args.part.term c.requires.term)) in
    closed_put (g.S.Terms.store c.close_node.new.store) v c.close_node.new.memo c.insert.new.self c.args.part c.in_ok-r-in-None.r c.in_ok-r-in-None.ensures.memo (λ q. c.in_ok-insert-in-None.ensures.updates.0 q) (k.terms c.args.part.term c.requires.term) c.in_ok-r-in-None.ensures.there e

pub close_part-returns-in_err-insert-in-None-clause-memo : goal.close_part-returns-in_err-insert-in-None-clause-memo
close_part-returns-in_err-insert-in-None-clause-memo g t c = closed_unchanged c.in_err-insert-in-None.ensures.err c.in_ok-r-in-None.ensures.memo

pub close_part-returns-in-Some-clause-there : goal.close_part-returns-in-Some-clause-there
close_part-returns-in-Some-clause-there g t c = (c.requires.memo.each c.args.part c.in-Some.r (sym c.get.ensures.value ∙ sym c.in-Some.ensures)).made

pub close_part-returns-in-Some-clause-tree : goal.close_part-returns-in-Some-clause-tree
close_part-returns-in-Some-clause-tree g t c = (c.requires.memo.each c.args.part c.in-Some.r (sym c.get.ensures.value ∙ sym c.in-Some.ensures)).tree

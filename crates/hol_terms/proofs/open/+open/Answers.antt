use Rattle.std.proofs.Common.{◌∙◌, ap, sym, arith}
use Rattle.hol_terms.specs.TermStore.{term_tree, HasTerm}
use Rattle.hol_terms.specs.Substitution.{subst_bound}
use Rattle.hol_terms.proofs.KeepsLemmas.{keeps_trans}
use Rattle.hol_terms.proofs.MemoLemmas.{opened_kept, opened_put, opened_unchanged}
use Rattle.hol_terms.proofs.OpenLemmas.{opened_app, opened_lam}
use Rattle.hol_terms.proofs.ReachLemmas.{reach_opened}
use Rattle.hol_terms.proofs.open.+open.Goals as goal

pub open_node-make-requires-clause-typed : goal.open_node-make-requires-clause-typed
open_node-make-requires-clause-typed g t c =
    let s = g.S.Terms.store c.args.store.now in
    let k = c.in_ok-f-in-App.ensures.keeps in
    let at_f = c.in_ok-x-in-App.ensures.keeps.trees c.in_ok-f-in-App.f c.in_ok-f-in-App.ensures.there ∙ c.in_ok-f-in-App.ensures.tree in
    let has_x : HasTerm s c.in-App.x = let below = c.in-App.ensures.parts in omega arith in
    let same_x = k.trees c.in-App.x has_x in
    let same_u = k.trees c.args.u c.requires.new in
    let at_x = c.in_ok-x-in-App.ensures.tree ∙ (λ i. subst_bound (same_x i) c.args.part.index (same_u i)) in
    opened_app s c.args.part.term c.args.u c.args.part.index c.in-App.ensures.typed c.requires.typed c.requires.closed c.requires.fits c.in-App.f c.in-App.x c.in-App.ensures.tree _ _ at_f at_x

pub open_node-make-requires-in-Lam-clause-typed : goal.open_node-make-requires-in-Lam-clause-typed
open_node-make-requires-in-Lam-clause-typed g t c =
    let s = g.S.Terms.store c.args.store.now in
    opened_lam s c.args.part.term c.args.u c.args.part.index c.in-Lam.ensures.typed c.requires.typed c.requires.closed c.requires.fits _ c.in-Lam.b c.in-Lam.ensures.tree _ _ (c.in_ok-b-in-Lam.ensures.keeps.type_trees c.in-Lam.ty c.in-Lam.ensures.parts.0) c.in_ok-b-in-Lam.ensures.tree

pub open_node-returns-in_err-r-in-App-clause-keeps : goal.open_node-returns-in_err-r-in-App-clause-keeps
open_node-returns-in_err-r-in-App-clause-keeps g t c = keeps_trans c.in_ok-f-in-App.ensures.keeps (keeps_trans c.in_ok-x-in-App.ensures.keeps c.in_err-r-in-App.ensures.keeps)

pub open_node-returns-in_ok-r-in-App-clause-keeps : goal.open_node-returns-in_ok-r-in-App-clause-keeps
open_node-returns-in_ok-r-in-App-clause-keeps g t c = keeps_trans c.in_ok-f-in-App.ensures.keeps (keeps_trans c.in_ok-x-in-App.ensures.keeps c.in_ok-r-in-App.ensures.keeps)

pub open_node-returns-in_ok-r-in-Lam-clause-keeps : goal.open_node-returns-in_ok-r-in-Lam-clause-keeps
open_node-returns-in_ok-r-in-Lam-clause-keeps g t c = keeps_trans c.in_ok-b-in-Lam.ensures.keeps c.in_ok-r-in-Lam.ensures.keeps

pub open_node-returns-in_err-r-in-App-clause-memo : goal.open_node-returns-in_err-r-in-App-clause-memo
open_node-returns-in_err-r-in-App-clause-memo g t c =
    let k = c.in_ok-f-in-App.ensures.keeps in
    let after = rw (k.trees c.args.u c.requires.new) at c.in_ok-x-in-App.ensures.memo in
    opened_kept c.in_err-r-in-App.ensures.keeps after

pub open_node-returns-in_ok-r-in-App-clause-memo : goal.open_node-returns-in_ok-r-in-App-clause-memo
open_node-returns-in_ok-r-in-App-clause-memo g t c =
    let k = c.in_ok-f-in-App.ensures.keeps in
    let after = rw (k.trees c.args.u c.requires.new) at c.in_ok-x-in-App.ensures.memo in
    opened_kept c.in_ok-r-in-App.ensures.keeps after

pub open_node-returns-in_ok-r-in-Lam-clause-memo : goal.open_node-returns-in_ok-r-in-Lam-clause-memo
open_node-returns-in_ok-r-in-Lam-clause-memo g t c = opened_kept c.in_ok-r-in-Lam.ensures.keeps c.in_ok-b-in-Lam.ensures.memo

pub open_part-returns-in_ok-insert-in-None-clause-memo : goal.open_part-returns-in_ok-insert-in-None-clause-memo
open_part-returns-in_ok-insert-in-None-clause-memo g t c =
    let k = c.in_ok-r-in-None.ensures.keeps in
    let v = term_tree (g.S.Terms.store c.args.store.now) c.args.u in
    let e = c.in_ok-r-in-None.ensures.tree ∙ ap (λ x. subst_bound x c.args.part.index v) (sym (k.trees c.args.part.term c.requires.term)) in
    opened_put (g.S.Terms.store c.open_node.new.store) v c.open_node.new.memo c.insert.new.self c.args.part c.in_ok-r-in-None.r c.in_ok-r-in-None.ensures.memo (λ q. c.in_ok-insert-in-None.ensures.updates.0 q) (k.terms c.args.part.term c.requires.term) c.in_ok-r-in-None.ensures.there e

pub open_part-returns-in-Some-clause-there : goal.open_part-returns-in-Some-clause-there
open_part-returns-in-Some-clause-there g t c = (c.requires.memo.each c.args.part c.in-Some.r (sym c.get.ensures.value ∙ sym c.in-Some.ensures)).made

pub open_part-returns-in-Some-clause-tree : goal.open_part-returns-in-Some-clause-tree
open_part-returns-in-Some-clause-tree g t c = (c.requires.memo.each c.args.part c.in-Some.r (sym c.get.ensures.value ∙ sym c.in-Some.ensures)).tree

pub open_node-open_part-requires-in-App : goal.open_node-open_part-requires-in-App
open_node-open_part-requires-in-App g t c =
    let s = g.S.Terms.store c.args.store.now in
    let k = c.in_ok-f-in-App.ensures.keeps in
    let has_x : HasTerm s c.in-App.x = let below = c.in-App.ensures.parts in omega arith in
    let same_x = k.trees c.in-App.x has_x in
    let same_u = k.trees c.args.u c.requires.new in
    let fits = rw c.in-App.ensures.tree at c.requires.fits in
    let below = c.in-App.ensures.parts in
    λ κs lives. (omega arith, (lives.0, (lives.1, (k.terms c.in-App.x has_x, (k.terms c.args.u c.requires.new, (rw same_u c.requires.typed, (rw same_u c.requires.closed, (rw (same_x, same_u) fits.1, (omega arith, rw same_u c.in_ok-f-in-App.ensures.memo)))))))))

pub open_node-returns-in_err-x-in-App-clause-keeps : goal.open_node-returns-in_err-x-in-App-clause-keeps
open_node-returns-in_err-x-in-App-clause-keeps g t c = keeps_trans c.in_ok-f-in-App.ensures.keeps c.in_err-x-in-App.ensures.keeps

pub open_node-returns-in_err-x-in-App-clause-memo : goal.open_node-returns-in_err-x-in-App-clause-memo
open_node-returns-in_err-x-in-App-clause-memo g t c =
    let same_u = c.in_ok-f-in-App.ensures.keeps.trees c.args.u c.requires.new in
    rw same_u at c.in_err-x-in-App.ensures.memo

pub open_node-returns-in_err-r-in-Lam-clause-keeps : goal.open_node-returns-in_err-r-in-Lam-clause-keeps
open_node-returns-in_err-r-in-Lam-clause-keeps g t c = keeps_trans c.in_ok-b-in-Lam.ensures.keeps c.in_err-r-in-Lam.ensures.keeps

pub open_node-returns-in_err-r-in-Lam-clause-memo : goal.open_node-returns-in_err-r-in-Lam-clause-memo
open_node-returns-in_err-r-in-Lam-clause-memo g t c = opened_kept c.in_err-r-in-Lam.ensures.keeps c.in_ok-b-in-Lam.ensures.memo

pub open_part-returns-then-reach-part-clause-tree : goal.open_part-returns-then-reach-part-clause-tree
open_part-returns-then-reach-part-clause-tree g t c =
    let s = g.S.Terms.store c.args.store.now in
    sym (reach_opened (term_tree s c.args.part.term) (term_tree s c.args.u) c.args.part.index (omega (arith, c.reach.ensures, c.if-reach-part.true)))

pub open_part-returns-in_err-insert-in-None-clause-memo : goal.open_part-returns-in_err-insert-in-None-clause-memo
open_part-returns-in_err-insert-in-None-clause-memo g t c = opened_unchanged c.in_err-insert-in-None.ensures.err c.in_ok-r-in-None.ensures.memo

use Rattle.std.proofs.Common.{◌∙◌, ap, sym, arith, subst}
use Rattle.hol_terms.specs.Term.{Typed}
use Rattle.hol_terms.specs.TermStore.{HasTerm}
use Rattle.hol_terms.proofs.KeepsLemmas.{keeps_trans}
use Rattle.hol_match.specs.Instance.{instance_by}
use Rattle.hol_match.specs.Inst.{inst_tree, term_for}
use Rattle.hol_match.proofs.ApplyLemmas.{app_is, app_typed, applied_kept, applied_put, lam_is, lam_typed, pairs_kept, terms_kept, there_given, variable_given, variable_stays}
use Rattle.hol_match.proofs.applying.+apply.Goals as goal

pub apply_node-ty-typed-requires : goal.apply_node-ty-typed-requires
apply_node-ty-typed-requires g t c = there_given _ c.args.inst.now c.requires.terms c.args.t c.in-Some.u (sym c.in-Some.ensures)

pub apply_node-returns-in-Some-clause-there : goal.apply_node-returns-in-Some-clause-there
apply_node-returns-in-Some-clause-there g t c = there_given _ c.args.inst.now c.requires.terms c.args.t c.in-Some.u (sym c.in-Some.ensures)

pub apply_node-returns-in-Some-clause-tree : goal.apply_node-returns-in-Some-clause-tree
apply_node-returns-in-Some-clause-tree g t c =
    let s = g.S.Terms.store c.args.store.now in
    variable_given s c.in-Free.ensures.apart c.args.inst.now c.requires.terms c.args.t c.requires.term c.in-Some.u (sym c.in-Some.ensures)

pub apply_node-returns-in-None-clause-tree : goal.apply_node-returns-in-None-clause-tree
apply_node-returns-in-None-clause-tree g t c =
    let s = g.S.Terms.store c.args.store.now in
    variable_stays s c.in-Free.ensures.apart c.args.inst.now c.requires.terms c.args.t c.requires.term _ _ _ c.in-Free.ensures.tree (sym c.in-None.ensures)

pub apply_node-apply_part-requires-in-App : goal.apply_node-apply_part-requires-in-App
apply_node-apply_part-requires-in-App g t c =
    let s = g.S.Terms.store c.args.store.now in
    let k = c.in_ok-f-in-App.ensures.keeps in
    let below = c.in-App.ensures.parts in
    let has_x : HasTerm s c.in-App.x = omega arith in
    λ κs lives. (omega arith, (lives.0, (lives.1, (k.terms c.in-App.x has_x, (terms_kept k c.requires.terms, rw (pairs_kept k c.requires.terms) c.in_ok-f-in-App.ensures.memo)))))

pub apply_node-make-requires-clause-typed : goal.apply_node-make-requires-clause-typed
apply_node-make-requires-clause-typed g t c =
    let s = g.S.Terms.store c.args.store.now in
    let mid = g.S.Terms.store c.apply_part.new.store in
    let new = g.S.Terms.store c.apply_part-in-App.new.store in
    let k = c.in_ok-f-in-App.ensures in
    let m = c.in_ok-x-in-App.ensures in
    let below = c.in-App.ensures.parts in
    let has_x : HasTerm s c.in-App.x = omega arith in
    app_typed s mid new c.args.inst.now c.requires.terms k.keeps m.keeps c.args.t c.in-App.f c.in-App.x c.in-App.ensures.typed c.in-App.ensures.tree has_x c.in_ok-f-in-App.f c.in_ok-x-in-App.x k.there k.tree k.typed m.tree m.typed

pub apply_node-returns-in_ok-r-in-App-clause-tree : goal.apply_node-returns-in_ok-r-in-App-clause-tree
apply_node-returns-in_ok-r-in-App-clause-tree g t c =
    let s = g.S.Terms.store c.args.store.now in
    let mid = g.S.Terms.store c.apply_part.new.store in
    let new = g.S.Terms.store c.apply_part-in-App.new.store in
    let k = c.in_ok-f-in-App.ensures in
    let m = c.in_ok-x-in-App.ensures in
    let below = c.in-App.ensures.parts in
    let has_x : HasTerm s c.in-App.x = omega arith in
    c.in_ok-r-in-App.ensures.tree ∙ app_is s mid new c.args.inst.now c.requires.terms k.keeps m.keeps c.args.t c.in-App.f c.in-App.x c.in-App.ensures.typed c.in-App.ensures.tree has_x c.in_ok-f-in-App.f c.in_ok-x-in-App.x k.there k.tree k.typed m.tree m.typed

pub apply_node-returns-in_ok-r-in-App-clause-typed : goal.apply_node-returns-in_ok-r-in-App-clause-typed
apply_node-returns-in_ok-r-in-App-clause-typed g t c =
    let s = g.S.Terms.store c.args.store.now in
    let mid = g.S.Terms.store c.apply_part.new.store in
    let new = g.S.Terms.store c.apply_part-in-App.new.store in
    let k = c.in_ok-f-in-App.ensures in
    let m = c.in_ok-x-in-App.ensures in
    let below = c.in-App.ensures.parts in
    let has_x : HasTerm s c.in-App.x = omega arith in
    subst (λ u. Typed u) (sym c.in_ok-r-in-App.ensures.tree) (app_typed s mid new c.args.inst.now c.requires.terms k.keeps m.keeps c.args.t c.in-App.f c.in-App.x c.in-App.ensures.typed c.in-App.ensures.tree has_x c.in_ok-f-in-App.f c.in_ok-x-in-App.x k.there k.tree k.typed m.tree m.typed)

pub apply_node-returns-in_ok-r-in-App-clause-memo : goal.apply_node-returns-in_ok-r-in-App-clause-memo
apply_node-returns-in_ok-r-in-App-clause-memo g t c =
    let k = c.in_ok-f-in-App.ensures.keeps in
    let memo = rw (pairs_kept k c.requires.terms) at c.in_ok-x-in-App.ensures.memo in
    applied_kept c.in_ok-r-in-App.ensures.keeps memo

pub apply_node-returns-in_ok-r-in-App-clause-keeps : goal.apply_node-returns-in_ok-r-in-App-clause-keeps
apply_node-returns-in_ok-r-in-App-clause-keeps g t c =
    keeps_trans c.in_ok-f-in-App.ensures.keeps (keeps_trans c.in_ok-x-in-App.ensures.keeps c.in_ok-r-in-App.ensures.keeps)

pub apply_node-returns-in_err-x-in-App-clause-keeps : goal.apply_node-returns-in_err-x-in-App-clause-keeps
apply_node-returns-in_err-x-in-App-clause-keeps g t c =
    keeps_trans c.in_ok-f-in-App.ensures.keeps c.in_err-x-in-App.ensures.keeps

pub apply_node-returns-in_err-r-in-App-clause-keeps : goal.apply_node-returns-in_err-r-in-App-clause-keeps
apply_node-returns-in_err-r-in-App-clause-keeps g t c =
    keeps_trans c.in_ok-f-in-App.ensures.keeps (keeps_trans c.in_ok-x-in-App.ensures.keeps c.in_err-r-in-App.ensures.keeps)

pub apply_node-make-requires-in-Lam-clause-typed : goal.apply_node-make-requires-in-Lam-clause-typed
apply_node-make-requires-in-Lam-clause-typed g t c =
    let s = g.S.Terms.store c.args.store.now in
    let new = g.S.Terms.store c.apply_part-in-Lam.new.store in
    let k = c.in_ok-b-in-Lam.ensures in
    let same = k.keeps.type_trees c.in-Lam.ty c.in-Lam.ensures.parts.0 in
    lam_typed s new c.args.inst.now c.requires.terms c.args.t c.in-Lam.ty c.in-Lam.b c.in-Lam.ensures.typed c.in-Lam.ensures.tree c.in_ok-b-in-Lam.b same k.tree k.typed

pub apply_node-returns-in_ok-r-in-Lam-clause-tree : goal.apply_node-returns-in_ok-r-in-Lam-clause-tree
apply_node-returns-in_ok-r-in-Lam-clause-tree g t c =
    let s = g.S.Terms.store c.args.store.now in
    let new = g.S.Terms.store c.apply_part-in-Lam.new.store in
    let k = c.in_ok-b-in-Lam.ensures in
    let same = k.keeps.type_trees c.in-Lam.ty c.in-Lam.ensures.parts.0 in
    c.in_ok-r-in-Lam.ensures.tree ∙ lam_is s new c.args.inst.now c.requires.terms c.args.t c.in-Lam.ty c.in-Lam.b c.in-Lam.ensures.typed c.in-Lam.ensures.tree c.in_ok-b-in-Lam.b same k.tree k.typed

pub apply_node-returns-in_ok-r-in-Lam-clause-typed : goal.apply_node-returns-in_ok-r-in-Lam-clause-typed
apply_node-returns-in_ok-r-in-Lam-clause-typed g t c =
    let s = g.S.Terms.store c.args.store.now in
    let new = g.S.Terms.store c.apply_part-in-Lam.new.store in
    let k = c.in_ok-b-in-Lam.ensures in
    let same = k.keeps.type_trees c.in-Lam.ty c.in-Lam.ensures.parts.0 in
    subst (λ u. Typed u) (sym c.in_ok-r-in-Lam.ensures.tree) (lam_typed s new c.args.inst.now c.requires.terms c.args.t c.in-Lam.ty c.in-Lam.b c.in-Lam.ensures.typed c.in-Lam.ensures.tree c.in_ok-b-in-Lam.b same k.tree k.typed)

pub apply_node-returns-in_ok-r-in-Lam-clause-keeps : goal.apply_node-returns-in_ok-r-in-Lam-clause-keeps
apply_node-returns-in_ok-r-in-Lam-clause-keeps g t c =
    keeps_trans c.in_ok-b-in-Lam.ensures.keeps c.in_ok-r-in-Lam.ensures.keeps

pub apply_node-returns-in_err-r-in-Lam-clause-keeps : goal.apply_node-returns-in_err-r-in-Lam-clause-keeps
apply_node-returns-in_err-r-in-Lam-clause-keeps g t c =
    keeps_trans c.in_ok-b-in-Lam.ensures.keeps c.in_err-r-in-Lam.ensures.keeps

pub apply_node-returns-in_ok-r-in-Lam-clause-memo : goal.apply_node-returns-in_ok-r-in-Lam-clause-memo
apply_node-returns-in_ok-r-in-Lam-clause-memo g t c =
    applied_kept c.in_ok-r-in-Lam.ensures.keeps c.in_ok-b-in-Lam.ensures.memo

pub apply_part-returns-in-Some-clause-there : goal.apply_part-returns-in-Some-clause-there
apply_part-returns-in-Some-clause-there g t c =
    (c.requires.memo.each c.args.t c.in-Some.r (sym c.get.ensures.value ∙ sym c.in-Some.ensures)).made

pub apply_part-returns-in-Some-clause-tree : goal.apply_part-returns-in-Some-clause-tree
apply_part-returns-in-Some-clause-tree g t c =
    (c.requires.memo.each c.args.t c.in-Some.r (sym c.get.ensures.value ∙ sym c.in-Some.ensures)).tree

pub apply_part-returns-in-Some-clause-typed : goal.apply_part-returns-in-Some-clause-typed
apply_part-returns-in-Some-clause-typed g t c =
    (c.requires.memo.each c.args.t c.in-Some.r (sym c.get.ensures.value ∙ sym c.in-Some.ensures)).typed

pub apply_part-returns-in_ok-insert-in-None-clause-memo : goal.apply_part-returns-in_ok-insert-in-None-clause-memo
apply_part-returns-in_ok-insert-in-None-clause-memo g t c =
    let s = g.S.Terms.store c.args.store.now in
    let new = g.S.Terms.store c.apply_node.new.store in
    let k = c.in_ok-r-in-None.ensures in
    let σ = term_for (inst_tree s s c.args.inst.now) in
    let e = k.tree ∙ ap (λ u. instance_by σ u) (sym (k.keeps.trees c.args.t c.requires.term)) in
    applied_put new σ c.apply_node.new.memo c.insert.new.self c.args.t c.in_ok-r-in-None.r k.memo (λ q. c.in_ok-insert-in-None.ensures.updates.0 q) (k.keeps.terms c.args.t c.requires.term) k.there k.typed e

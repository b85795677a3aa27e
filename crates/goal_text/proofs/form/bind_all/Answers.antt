use Rattle.std.proofs.Common.{◌≡◌, ◌∙◌, List, ℕ, ap, subst, take, arith, Ok}
use Rattle.std.proofs.lemmas.Result.{err_from_is_err_and}
use Rattle.hol_terms.proofs.KeepsLemmas.{keeps_trans}
use Rattle.goal_text.specs.declared.scope.Constructor.{Constructor}
use Rattle.sexp.specs.Forest.{tree_at, trees_at}
use Rattle.goal_text.specs.Read.{Fails}
use Rattle.goal_text.specs.Forms.{binder_of, binders_of}
use Rattle.goal_text.specs.Scope.{binders_in, one_binder, types_in}
use Rattle.goal_text.proofs.FormLemmas.{entries_done, entry_bound, entry_fails, one_more}
use Rattle.goal_text.proofs.form.bind_all.Goals as goal

pub returns-in_err-bind-clause-read : goal.returns-in_err-bind-clause-read
returns-in_err-bind-clause-read c =
    let p = err_from_is_err_and c.from_residual.result c.from_residual.ensures.1 in
    let inv = c.loop-after.invariant in
    let x = c.in_err-bind.field-0.0 in
    let P : List (List ℕ × Constructor) → Type 0 = λ cs. Fails x (one_binder (binder_of (types_in cs) (tree_at c.args.forest.now c.loop-after.i))) in
    rw (p.1, p.2) (entry_fails (types_in c.args.scope.now.types) _ (binders_in c.loop-after.base (take c.loop-after.n c.loop-after.scope.binders)) _ inv.read x _ _ c.in-Some.ensures.0 (subst P inv.others.types c.in_err-bind.ensures.read))

pub returns-in_err-bind-clause-keeps : goal.returns-in_err-bind-clause-keeps
returns-in_err-bind-clause-keeps c = keeps_trans c.loop-after.invariant.keeps c.in_err-bind.ensures.keeps

pub loop-after-preserved : goal.loop-after-preserved
loop-after-preserved c =
    let inv = c.loop-after.invariant in
    let now = c.loop-after.base in
    let new = c.bind.new.base in
    let e = c.in_ok-bind.ensures in
    let tree = tree_at c.args.forest.now c.loop-after.i in
    let types = types_in c.args.scope.now.types in
    let P : List (List ℕ × Constructor) → Type 0 = λ cs. one_binder (binder_of (types_in cs) tree) ≡ Ok (binders_in new (take 1 c.bind.new.scope.binders)) in
    let entry = one_more now new c.loop-after.scope.binders c.bind.new.scope.binders c.loop-after.n (binder_of types tree) e.keeps inv.scope.binders e.outer (subst P inv.others.types e.read) in
    record {
      run = c.in-Some.ensures.5;
      below = omega (arith, inv.below, c.in-Some.ensures.3);
      scope = e.scope;
      others = record { types = e.others.types ∙ inv.others.types; consts = e.others.consts ∙ inv.others.consts };
      outer = entry.outer ∙ inv.outer;
      keeps = keeps_trans inv.keeps e.keeps;
      read = ap (λ bs. binders_of types bs (trees_at c.args.forest.now c.in-Some.after c.args.end)) entry.bound ∙ entry_bound types _ (binders_in now (take c.loop-after.n c.loop-after.scope.binders)) _ inv.read tree _ entry.entry c.in-Some.ensures.0 entry.is;
    }

pub returns-clause-read : goal.returns-clause-read
returns-clause-read c = entries_done (types_in c.args.scope.now.types) _ (binders_in c.loop-after.base (take c.loop-after.n c.loop-after.scope.binders)) _ c.loop-after.invariant.read c.in_default.ensures

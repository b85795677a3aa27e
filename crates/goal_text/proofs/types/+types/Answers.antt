use Rattle.std.proofs.Common.{rules}
use Rattle.std.proofs.lemmas.Result.{err_from_is_err_and}
use Rattle.hol_terms.proofs.KeepsLemmas.{keeps_trans}
use Rattle.goal_text.specs.Scope.{types_in}
use Rattle.goal_text.proofs.ScopeLemmas.{constructors_kept}
use Rattle.goal_text.proofs.TypeLemmas.{types_step, types_fail, types_done, types_kept, types_pushed}
use Rattle.goal_text.proofs.types.+types.Goals as goal

pub types_at-returns-in_err-t-clause-read : goal.types_at-returns-in_err-t-clause-read
types_at-returns-in_err-t-clause-read t c =
    let p = err_from_is_err_and c.from_residual.result c.from_residual.ensures.1 in
    let inv = c.loop-after.invariant in
    rw (p.1, p.2) (types_fail (types_in c.args.constructors.now) _ _ c.loop-after.base c.loop-after.types.items c.in_err-t.field-0.0 _ _ inv.read c.in-Some.ensures.0 c.in_err-t.ensures.read)

pub types_at-loop-after-preserved : goal.types_at-loop-after-preserved
types_at-loop-after-preserved t c =
    let s = c.loop-after.base in
    let u = c.type_at.new.base in
    let inv = c.loop-after.invariant in
    let k = c.in_ok-t.ensures.keeps in
    let ts = c.loop-after.types.items in
    let x = c.in_ok-t.t in
    record {
      run = search rules;
      from = search rules;
      constructors = constructors_kept c.args.constructors.now k inv.constructors;
      types = rw c.in_ok-push.ensures.items (types_pushed u ts x (types_kept ts k inv.types) c.in_ok-t.ensures.there);
      keeps = keeps_trans inv.keeps k;
      count = search rules;
      read = rw c.in_ok-push.ensures.items (types_step (types_in c.args.constructors.now) _ _ s u ts _ _ x k inv.types inv.read c.in-Some.ensures.0 c.in_ok-t.ensures.read);
    }

pub types_at-returns-clause-read : goal.types_at-returns-clause-read
types_at-returns-clause-read t c = types_done (types_in c.args.constructors.now) _ _ c.loop-after.base c.loop-after.types.items c.loop-after.invariant.read c.in_default.ensures

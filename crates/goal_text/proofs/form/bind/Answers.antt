use Rattle.std.proofs.Common.{subst, sym}
use Rattle.goal_text.specs.Scope.{AreBound}
use Rattle.goal_text.proofs.ScopeLemmas.{scope_kept}
use Rattle.goal_text.proofs.form.bind.Goals as goal

pub returns-clause-scope : goal.returns-clause-scope
returns-clause-scope c =
    let is = scope_kept c.in_ok-t.ensures.keeps c.requires.scope in
    record {
      types = is.types;
      consts = is.consts;
      binders = subst (λ l. AreBound c.type_at.new.base l) (sym c.in_ok-bind.ensures) (c.in_ok-t.ensures.there, is.binders);
    }

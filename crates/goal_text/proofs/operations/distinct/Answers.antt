use Rattle.std.proofs.Common.{◌∙◌, ap, sym, Ok}
use Rattle.goal_text.specs.Operations as operations
use Rattle.goal_text.specs.Scope.{terms_at}
use Rattle.goal_text.proofs.KeptLemmas.{same_Ok}
use Rattle.goal_text.proofs.OperationLemmas.{typed_terms}
use Rattle.goal_text.proofs.ScopeLemmas.{terms_same}
use Rattle.goal_text.proofs.operations.distinct.Goals as goal

pub returns-clause-read : goal.returns-clause-read
returns-clause-read c =
    let s = c.args.base.now in
    let two = c.differences.new.base in
    let ts = c.args.parts.now in
    let all = typed_terms s _ ts c.requires.parts in
    ap Ok (ap (λ l. operations.all_of (operations.differences l)) (sym (terms_same ts c.in_ok-f.ensures.keeps all)) ∙ ap operations.all_of (same_Ok _ _ c.in_ok-formulas.ensures.read) ∙ ap (λ l. operations.all_of (terms_at two l)) (sym c.deref.ensures.value) ∙ same_Ok _ _ c.in_ok-t.ensures.read)

use Rattle.std.proofs.Common.{◌∙◌, ap, sym, bytes_eq, Some, cond}
use Rattle.std.specs.Map.{lookup}
use Rattle.std.proofs.lemmas.Result.{err_from_is_err_and}
use Rattle.goal_text.proofs.NameLemmas.{lookup_seen, lookup_set, seen}
use Rattle.goal_text.proofs.names.Names.set.Goals as goal

pub returns-clause-ok : goal.returns-clause-ok
returns-clause-ok g c =
    let es = c.self.inside.values.entries in
    λ other. ap (λ l. lookup (bytes_eq other) (seen (λ k. k.items) l)) c.in_ok-insert.ensures.entries ∙ lookup_set (λ k. k.items) es c.args.name c.args.value other
    ∙ ap (λ l. cond (bytes_eq other c.args.name.items) (Some c.args.value) (lookup (bytes_eq other) l)) c.self.view_is

pub returns-in_err-insert-clause-absent : goal.returns-in_err-insert-clause-absent
returns-in_err-insert-clause-absent g c =
    let p = err_from_is_err_and c.from_residual.result c.from_residual.ensures.1 in
    let test = bytes_eq c.args.name.items in
    rw p.1 (ap (lookup test) (sym c.self.view_is) ∙ sym (lookup_seen (λ k. k.items) test c.self.inside.values.entries) ∙ c.in_err-insert.ensures.absent)

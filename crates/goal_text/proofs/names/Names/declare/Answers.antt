use Rattle.std.proofs.Common.{◌≡◌, ◌∙◌, ◌++◌, ◌∷◌, [], None, ap, bytes_eq}
use Rattle.std.specs.Map.{lookup}
use Rattle.goal_text.proofs.NameLemmas.{insert_seen, seen}
use Rattle.goal_text.proofs.names.Names.declare.Goals as goal

pub returns : goal.returns
returns g c =
    let es = c.self.inside.values.entries in
    let none : lookup (bytes_eq c.args.name.items) (seen (λ k. k.items) es) ≡ None = ap (lookup (bytes_eq c.args.name.items)) c.self.view_is ∙ c.requires in
    ap (seen (λ k. k.items)) c.in_ok-insert.ensures.entries ∙ insert_seen (λ k. k.items) bytes_eq es c.args.name c.args.value none
    ∙ ap (λ l. l ++ (c.args.name.items, c.args.value) ∷ []) c.self.view_is

use Rattle.std.proofs.Common.{◌∙◌, ap, bytes_eq}
use Rattle.std.specs.Map.{lookup}
use Rattle.goal_text.proofs.NameLemmas.{lookup_seen}
use Rattle.goal_text.proofs.names.Names.find.Goals as goal

pub returns : goal.returns
returns g c =
    let test = bytes_eq c.args.name.now in
    c.copied.ensures ∙ c.get.ensures.value ∙ lookup_seen (λ k. k.items) test c.self.inside.values.entries ∙ ap (lookup test) c.self.view_is

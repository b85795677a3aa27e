use Rattle.std.proofs.Common.{◌∙◌, ap, bytes_eq}
use Rattle.std.specs.Map.{lookup}
use Rattle.first_form.proofs.LexiconLemmas.{lookup_seen}
use Rattle.first_form.proofs.lexicon.Constants.find.Goals as goal

pub returns : goal.returns
returns c =
    let test = bytes_eq c.args.name.now in
    c.copied.ensures ∙ c.get.ensures.value ∙ lookup_seen (λ k. k.items) test c.self.inside.numbers.entries ∙ ap (lookup test) c.self.view_is

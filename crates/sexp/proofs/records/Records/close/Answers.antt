use Rattle.std.proofs.Common.{◌≡◌, ◌<◌, length, arith}
use Rattle.std.proofs.lemmas.List.{length-map}
use Rattle.std.proofs.lemmas.Grind.{common_steps}
use Rattle.sexp.proofs.TextsLemmas.{closed_at-set, HaveTexts-set}
use Rattle.sexp.proofs.records.Records.close.Goals as goal

pub invariant_of-self : goal.invariant_of-self
invariant_of-self c =
    let below : c.args.i < length c.self.inside.records.items = rw (← c.self.view_is, length-map) at c.requires.below in
    HaveTexts-set c.self.inside.texts c.self.inside.records.items c.args.i c.index_mut-record.result.now c.args.end _ below c.index_mut-record.ensures.value c.self.invariant

pub returns : goal.returns
returns c =
    let below : c.args.i < length c.self.inside.records.items = rw (← c.self.view_is, length-map) at c.requires.below in
    let counted : c.len-after.result ≡ length c.self.inside.records.items = grind (arith, common_steps) in
    rw (← c.self.view_is, length-map, counted)
    (closed_at-set c.self.inside.texts c.self.inside.records.items c.args.i c.index_mut-record.result.now c.args.end _ below c.index_mut-record.ensures.value)

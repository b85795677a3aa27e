use Rattle.std.proofs.Common.{ap, ◌≡◌, ◌+◌, ◌-◌, reverse, arith}
use Rattle.sexp.specs.Reading.{count_fed, is_whole}
use Rattle.sexp.proofs.GrowLemmas.{grows_at_start, grows_fed, grows_finished}
use Rattle.sexp.proofs.forest.read_records.Goals as goal

pub pieces-init : goal.pieces-init
pieces-init c = record {
  grows = rw (c.new-reader.ensures, c.new-records.ensures, c.new-lists.ensures.items) (grows_at_start c.args.most c.args.bytes.now);
  counted = ap count_fed c.new-reader.ensures;
  within = omega arith;
  unfinished = ap is_whole c.new-reader.ensures;
  limit = ap (λ x. x.most) c.new-reader.ensures;
}

pub grow-requires-clause-grows : goal.grow-requires-clause-grows
grow-requires-clause-grows c =
    let i = c.pieces.invariant in
    let end = i.counted in
    let limit = i.limit in
    let size : (c.pieces.fed + c.min-size.result) - c.pieces.fed ≡ c.min-size.result = omega arith in
    (grows_fed c.args.bytes.now c.pieces.reader c.feed.new.self c.pieces.records (reverse c.pieces.lists.items) c.pieces.fed c.min-size.result i.grows
    (rw size at c.in-Ok.ensures.ok) i.counted (omega arith) (omega arith)).grows

pub grow-requires-2-clause-grows : goal.grow-requires-2-clause-grows
grow-requires-2-clause-grows c =
    rw c.finish.ensures (grows_finished c.args.bytes.now c.pieces.reader c.pieces.records (reverse c.pieces.lists.items) c.pieces.invariant.grows)

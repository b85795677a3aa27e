use Rattle.std.proofs.lemmas.List.{length-map}
use Rattle.std.proofs.lemmas.Option.{slice_get_within}
use Rattle.sexp.proofs.TextsLemmas.{texts_pushed, index_of, records_kept}
use Rattle.sexp.proofs.records.Records.add_atom.Goals as goal

pub invariant_of-self : goal.invariant_of-self
invariant_of-self c = (records_kept c.self.inside.texts c.number.new.self c.in_err-number.ensures.keeps c.self.inside.records.items c.self.invariant).0

pub invariant_of-self-in_err-push : goal.invariant_of-self-in_err-push
invariant_of-self-in_err-push c =
    rw c.in_err-push.ensures.err (records_kept c.self.inside.texts c.number.new.self c.in_ok-number.ensures.keeps c.self.inside.records.items c.self.invariant).0

pub invariant_of-self-2 : goal.invariant_of-self-2
invariant_of-self-2 c =
    let has = slice_get_within c.number.new.self c.in_ok-number.number c.args.text.now c.in_ok-number.ensures.number in
    rw c.in_ok-push.ensures.ok (texts_pushed c.self.inside.texts c.number.new.self c.in_ok-number.ensures.keeps c.self.inside.records.items c.self.invariant _ has).0

pub returns : goal.returns
returns c =
    let has = slice_get_within c.number.new.self c.in_ok-number.number c.args.text.now c.in_ok-number.ensures.number in
    let text = index_of c.number.new.self c.in_ok-number.number c.args.text.now c.in_ok-number.ensures.number in
    rw (← c.self.view_is, length-map, c.in_ok-push.ensures.ok, ← text)
    (texts_pushed c.self.inside.texts c.number.new.self c.in_ok-number.ensures.keeps c.self.inside.records.items c.self.invariant _ has).1

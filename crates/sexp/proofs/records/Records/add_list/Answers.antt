use Rattle.std.proofs.lemmas.List.{length-map}
use Rattle.sexp.proofs.TextsLemmas.{texts_pushed, same_texts}
use Rattle.sexp.proofs.records.Records.add_list.Goals as goal

pub invariant_of-self : goal.invariant_of-self
invariant_of-self c = rw c.in_err-push.ensures.err c.self.invariant

pub invariant_of-self-2 : goal.invariant_of-self-2
invariant_of-self-2 c =
    let texts = c.self.inside.texts in
    rw c.in_ok-push.ensures.ok (texts_pushed texts texts (same_texts texts) c.self.inside.records.items c.self.invariant _ tt).0

pub returns : goal.returns
returns c =
    let texts = c.self.inside.texts in
    rw (← c.self.view_is, length-map, c.in_ok-push.ensures.ok)
    (texts_pushed texts texts (same_texts texts) c.self.inside.records.items c.self.invariant _ tt).1

use Rattle.std.proofs.Common.{◌<◌, ap, Some, length}
use Rattle.std.proofs.lemmas.List.{length-map}
use Rattle.sexp.proofs.ForestLemmas.{kept_at-map}
use Rattle.sexp.proofs.TextsLemmas.{text_below, index_of}
use Rattle.sexp.proofs.records.Records.text.Goals as goal

pub text-requires : goal.text-requires
text-requires c =
    let below : c.args.i < length c.self.inside.records.items = rw (← c.self.view_is, length-map) at c.requires in
    rw c.in-Atom.is at (text_below c.self.inside.texts c.self.inside.records.items c.args.i c.index.result.now below c.index.ensures c.self.invariant)

pub text-requires-in-Quoted : goal.text-requires-in-Quoted
text-requires-in-Quoted c =
    let below : c.args.i < length c.self.inside.records.items = rw (← c.self.view_is, length-map) at c.requires in
    rw c.in-Quoted.is at (text_below c.self.inside.texts c.self.inside.records.items c.args.i c.index.result.now below c.index.ensures c.self.invariant)

pub returns-in-Atom : goal.returns-in-Atom
returns-in-Atom c =
    let below : c.args.i < length c.self.inside.records.items = rw (← c.self.view_is, length-map) at c.requires in
    rw (← c.self.view_is, kept_at-map c.self.inside.texts c.self.inside.records.items c.args.i c.index.result.now below c.index.ensures, c.in-Atom.is)
    (ap Some (index_of c.self.inside.texts c.in-Atom.number c.text.result.now c.text.ensures))

pub returns-in-Quoted : goal.returns-in-Quoted
returns-in-Quoted c =
    let below : c.args.i < length c.self.inside.records.items = rw (← c.self.view_is, length-map) at c.requires in
    rw (← c.self.view_is, kept_at-map c.self.inside.texts c.self.inside.records.items c.args.i c.index.result.now below c.index.ensures, c.in-Quoted.is)
    (ap Some (index_of c.self.inside.texts c.in-Quoted.number c.text-in-Quoted.result.now c.text-in-Quoted.ensures))

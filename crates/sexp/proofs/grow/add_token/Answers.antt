use Rattle.std.proofs.Common.{reverse, arith}
use Rattle.std.proofs.lemmas.List.{reverse-append}
use Rattle.sexp.proofs.RecordLemmas.{grown-open, grown-close, grown-atom, grown-quoted, length_pushed, length-closed_at, AllBelow-more}
use Rattle.sexp.proofs.grow.add_token.Goals as goal

pub returns-in_ok-add_atom-in-Atom-clause-grown : goal.returns-in_ok-add_atom-in-Atom-clause-grown
returns-in_ok-add_atom-in-Atom-clause-grown c = λ ts.
    rw c.in_ok-add_atom-in-Atom.ensures (grown-atom c.args.bytes.now c.args.records.now (reverse c.args.lists.now.items) c.args.token ts c.in-Atom.is c.requires.below)

pub returns-in_ok-add_atom-in-Atom-clause-below : goal.returns-in_ok-add_atom-in-Atom-clause-below
returns-in_ok-add_atom-in-Atom-clause-below c =
    rw (c.in_ok-add_atom-in-Atom.ensures, length_pushed) (AllBelow-more _ _ _ (omega arith) c.requires.below)

pub returns-in_ok-add_quoted-in-Quoted-clause-grown : goal.returns-in_ok-add_quoted-in-Quoted-clause-grown
returns-in_ok-add_quoted-in-Quoted-clause-grown c = λ ts.
    rw c.in_ok-add_quoted-in-Quoted.ensures (grown-quoted c.args.bytes.now c.args.records.now (reverse c.args.lists.now.items) c.args.token ts c.in-Quoted.is c.requires.below)

pub returns-in_ok-add_quoted-in-Quoted-clause-below : goal.returns-in_ok-add_quoted-in-Quoted-clause-below
returns-in_ok-add_quoted-in-Quoted-clause-below c =
    rw (c.in_ok-add_quoted-in-Quoted.ensures, length_pushed) (AllBelow-more _ _ _ (omega arith) c.requires.below)

pub returns-in_ok-push-in-Open-clause-grown : goal.returns-in_ok-push-in-Open-clause-grown
returns-in_ok-push-in-Open-clause-grown c = λ ts.
    rw (c.in_ok-push-in-Open.ensures.items, reverse-append, c.in_ok-add_list-in-Open.ensures, c.len-n.ensures)
    (grown-open c.args.bytes.now c.args.records.now (reverse c.args.lists.now.items) c.args.token ts c.in-Open.is c.requires.below)

pub returns-in_ok-push-in-Open-clause-below : goal.returns-in_ok-push-in-Open-clause-below
returns-in_ok-push-in-Open-clause-below c =
    rw (c.in_ok-push-in-Open.ensures.items, reverse-append, c.in_ok-add_list-in-Open.ensures, length_pushed, c.len-n.ensures)
    (omega arith, AllBelow-more _ _ _ (omega arith) c.requires.below)

pub returns-in-Some-clause-grown : goal.returns-in-Some-clause-grown
returns-in-Some-clause-grown c = λ ts.
    rw (c.in-Some.ensures.items, reverse-append, c.close.ensures)
    (grown-close c.args.bytes.now c.args.records.now c.in-Some.i (reverse c.pop.new.self.items) c.args.token ts c.in-Close.is)

pub returns-in-Some-clause-below : goal.returns-in-Some-clause-below
returns-in-Some-clause-below c =
    let below = rw (c.in-Some.ensures.items, reverse-append) at c.requires.below in
    rw (c.close.ensures, length-closed_at) below.1

pub returns-in-Some-clause-records : goal.returns-in-Some-clause-records
returns-in-Some-clause-records c =
    rw (c.close.ensures, length-closed_at) (omega arith)

use Rattle.std.proofs.Common.{sym}
use Rattle.lcf_kernel.proofs.KnownLemmas.{are_of_keep, known_keep, known_put, known_unchanged}
use Rattle.lcf_kernel.proofs.known.stays.Goals as goal

pub leaves_found-requires-clause-found : goal.leaves_found-requires-clause-found
leaves_found-requires-clause-found c = c.requires.known.each c.args.t c.in-Some.found.now (sym c.in-Some.ensures.value)

pub returns-in_err-r-clause-known : goal.returns-in_err-r-clause-known
returns-in_err-r-clause-known c = known_keep c.leaves_found.ensures.keeps c.requires.known

pub returns-in-Some-clause-known : goal.returns-in-Some-clause-known
returns-in-Some-clause-known c = known_keep c.leaves_found.ensures.keeps c.requires.known

pub returns-in_err-r-2-clause-known : goal.returns-in_err-r-2-clause-known
returns-in_err-r-2-clause-known c = known_keep c.leaves_found-2.ensures.keeps c.requires.known

pub returns-in_err-insert-clause-known : goal.returns-in_err-insert-clause-known
returns-in_err-insert-clause-known c = known_unchanged c.in_err-insert.ensures.err (known_keep c.leaves_found-2.ensures.keeps c.requires.known)

pub returns-clause-known : goal.returns-clause-known
returns-clause-known c =
    let keeps = c.leaves_found-2.ensures.keeps in
    known_put c.leaves_found-2.new.store.store c.args.known.now c.insert.new.self c.args.t c.in_ok-found.found (known_keep keeps c.requires.known) (λ q. c.in_ok-insert.ensures.updates.0 q) (are_of_keep keeps c.args.t c.in_ok-found.found c.in_ok-found.ensures)

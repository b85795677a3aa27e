use Rattle.std.proofs.Common.{sym}
use Rattle.lcf_kernel.proofs.KnownLemmas.{known_put, known_unchanged}
use Rattle.lcf_kernel.proofs.known.occurs_in.Goals as goal

pub is_among-requires-clause-found : goal.is_among-requires-clause-found
is_among-requires-clause-found c = c.requires.known.each c.args.t c.in-Some.found.now (sym c.in-Some.ensures.value)

pub returns-in_err-insert-clause-known : goal.returns-in_err-insert-clause-known
returns-in_err-insert-clause-known c = known_unchanged c.in_err-insert.ensures.err c.requires.known

pub returns-clause-known : goal.returns-clause-known
returns-clause-known c = known_put c.args.store.now.store c.args.known.now c.insert.new.self c.args.t c.in_ok-found.found c.requires.known (λ q. c.in_ok-insert.ensures.updates.0 q) c.in_ok-found.ensures

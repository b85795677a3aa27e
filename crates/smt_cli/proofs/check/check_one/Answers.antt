use Rattle.std.proofs.Common.{inl, inr, refl}
use Rattle.smt_cli.proofs.CheckLemmas.{early_ends, line_checks, line_ends_somehow}
use Rattle.smt_cli.proofs.WordLemmas.{said_proved, nothing_says}
use Rattle.smt_cli.proofs.check.check_one.Goals as goal

pub returns-in-Ok-clause-checks : goal.returns-in-Ok-clause-checks
returns-in-Ok-clause-checks g c =
    let said = c.in-Ok.ensures in
    line_checks _ _ _ _ c.print.result c.in-Ok.line.text.items c.in-Ok.line.status c.print.ensures.writes said.status said.refused said.unbuilt said.taken said.answered

pub returns-in-Ok-clause-said : goal.returns-in-Ok-clause-said
returns-in-Ok-clause-said g c = λ says.
    let line = c.in-Ok.line in
    c.in-Ok.ensures.proved (said_proved line.text.items line.status _ _ c.print.result c.in-Ok.ensures.is_line c.print.ensures.writes says)

pub returns-in-Err-Unread-clause-said : goal.returns-in-Err-Unread-clause-said
returns-in-Err-Unread-clause-said g c = λ says. absurd (nothing_says _ _ refl says)

pub returns-in-Err-Memory-clause-said : goal.returns-in-Err-Memory-clause-said
returns-in-Err-Memory-clause-said g c = λ says. absurd (nothing_says _ _ refl says)

pub returns-in-Ok-clause-ends : goal.returns-in-Ok-clause-ends
returns-in-Ok-clause-ends g c = line_ends_somehow c.in-Ok.line.text.items c.in-Ok.line.status c.print.result c.in-Ok.ensures.is_line c.print.ensures.writes

pub returns-in-Err-Unread-clause-ends : goal.returns-in-Err-Unread-clause-ends
returns-in-Err-Unread-clause-ends g c = early_ends _ 5 (inl refl)

pub returns-in-Err-Memory-clause-ends : goal.returns-in-Err-Memory-clause-ends
returns-in-Err-Memory-clause-ends g c = early_ends _ 7 (inr refl)

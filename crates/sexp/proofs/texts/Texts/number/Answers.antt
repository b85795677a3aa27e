use Rattle.std.proofs.Common.{sym}
use Rattle.sexp.proofs.TextsLemmas.{text_found, text_at, kept_or_pushed}
use Rattle.sexp.proofs.texts.Texts.number.Goals as goal

pub returns-in-Some-clause-number : goal.returns-in-Some-clause-number
returns-in-Some-clause-number c =
    rw (← c.self.view_is, c.in_ok-narrow.ensures) (text_found c.self.inside.set.keys c.in-Some.at c.args.text.now (sym c.in-Some.ensures.index))

pub returns-clause-number : goal.returns-clause-number
returns-clause-number c =
    let h = c.in_ok-at.ensures.stored in
    rw c.in_ok-narrow-2.ensures (text_at c.insert_full.new.self.keys c.in_ok-at.at h.0 c.args.text.now h.1 (rw c.in_ok-owned.ensures.items at h.2))

pub returns-clause-keeps : goal.returns-clause-keeps
returns-clause-keeps c = rw (← c.self.view_is) (kept_or_pushed c.self.inside.set.keys c.insert_full.new.self.keys _ _ c.in_ok-at.ensures.keys)

pub returns-in_err-narrow-2-clause-keeps : goal.returns-in_err-narrow-2-clause-keeps
returns-in_err-narrow-2-clause-keeps c = rw (← c.self.view_is) (kept_or_pushed c.self.inside.set.keys c.insert_full.new.self.keys _ _ c.in_ok-at.ensures.keys)

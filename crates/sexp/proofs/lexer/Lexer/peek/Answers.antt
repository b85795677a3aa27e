use Rattle.sexp.proofs.LexingLemmas.{slice_end, finds, reads, stays, awaits}
use Rattle.sexp.proofs.lexer.Lexer.peek.Goals as goal

pub returns-in-Word-clause-same : goal.returns-in-Word-clause-same
returns-in-Word-clause-same c =
    finds c.self.inside.bytes.items c.self.inside.place c.look_at-look.result.read c.self.inside.at c.self.inside.mode
    c.look_at-look.result.mode c.self.inside.whole c.in-Word.word c.args.self.now (rw c.in-None.is at c.self.view_is)
    (rw (c.deref.ensures.value, slice_end, c.in-Word.is) at c.look_at-look.ensures.words)

pub returns-in-Fault-clause-same : goal.returns-in-Fault-clause-same
returns-in-Fault-clause-same c = rw c.in-None.is
    (reads c.self.inside.bytes.items c.self.inside.place c.look_at-look.result.read c.self.inside.at c.self.inside.mode
    c.look_at-look.result.mode c.self.inside.whole c.args.self.now (rw c.in-None.is at c.self.view_is)
    (rw (c.deref.ensures.value, slice_end, c.in-Fault.is) at c.look_at-look.ensures.words))

pub returns-in-End-clause-same : goal.returns-in-End-clause-same
returns-in-End-clause-same c = rw c.in-None.is
    (reads c.self.inside.bytes.items c.self.inside.place c.look_at-look.result.read c.self.inside.at c.self.inside.mode
    c.look_at-look.result.mode c.self.inside.whole c.args.self.now (rw c.in-None.is at c.self.view_is)
    (rw (c.deref.ensures.value, slice_end, c.in-End.is) at c.look_at-look.ensures.words))

pub returns-in-More-clause-same : goal.returns-in-More-clause-same
returns-in-More-clause-same c = rw c.in-None.is
    (reads c.self.inside.bytes.items c.self.inside.place c.look_at-look.result.read c.self.inside.at c.self.inside.mode
    c.look_at-look.result.mode c.self.inside.whole c.args.self.now (rw c.in-None.is at c.self.view_is)
    (rw (c.deref.ensures.value, slice_end, c.in-More.is) at c.look_at-look.ensures.words))

pub returns-in-Fault-clause-sees : goal.returns-in-Fault-clause-sees
returns-in-Fault-clause-sees c = rw c.in-None.is
    (stays c.self.inside.bytes.items c.self.inside.place c.look_at-look.result.read _ c.look_at-look.result.mode
    c.self.inside.whole _ ((rw (c.deref.ensures.value, slice_end, c.in-Fault.is) at c.look_at-look.ensures.stops)))

pub returns-in-End-clause-sees : goal.returns-in-End-clause-sees
returns-in-End-clause-sees c = rw c.in-None.is
    (let stops = rw (c.deref.ensures.value, slice_end, c.in-End.is) at c.look_at-look.ensures.stops in
    (stops.0, stays c.self.inside.bytes.items c.self.inside.place c.look_at-look.result.read _ c.look_at-look.result.mode c.self.inside.whole _ stops.1))

pub returns-in-More-clause-sees : goal.returns-in-More-clause-sees
returns-in-More-clause-sees c = rw c.in-None.is
    (let stops = rw (c.deref.ensures.value, slice_end, c.in-More.is) at c.look_at-look.ensures.stops in
    (stops.0, awaits c.self.inside.bytes.items c.self.inside.place c.look_at-look.result.read _ c.look_at-look.result.mode c.self.inside.whole stops.1))

use Rattle.part_numbers.proofs.StackLemmas.{passed_start, passed_step, passed_lambda}
use Rattle.part_numbers.proofs.stack.push_head.Goals as goal

pub loop-f-init : goal.loop-f-init
loop-f-init g c = passed_start (g.S.Terms.store c.args.store.now) c.args.t c.args.stack.now.items c.requires

pub loop-f-preserved : goal.loop-f-preserved
loop-f-preserved g c = passed_step (g.S.Terms.store c.args.store.now) c.args.t c.args.stack.now.items c.loop-f.stack.items c.push.new.self.items c.loop-f.head c.in-App.f c.in-App.x c.loop-f.invariant c.in-App.ensures.tree c.in-App.ensures.parts.0 c.in-App.ensures.parts.1 c.in_ok-push.ensures.items

pub returns-in_ok-push-2 : goal.returns-in_ok-push-2
returns-in_ok-push-2 g c = passed_lambda (g.S.Terms.store c.args.store.now) c.args.t c.args.stack.now.items c.loop-f.stack.items c.push-in-Lam.new.self.items c.loop-f.head c.in-Lam.field-1 _ c.loop-f.invariant c.in-Lam.ensures.tree c.in_ok-push-2.ensures.items

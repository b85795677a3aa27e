use Rattle.std.proofs.Common.{refl}
use Rattle.part_numbers.proofs.StackLemmas.{beneath_application, beneath_lambda, beneath_leaf}
use Rattle.part_numbers.proofs.stack.push_beneath.Goals as goal

pub returns-in_ok-push_head-in-App : goal.returns-in_ok-push_head-in-App
returns-in_ok-push_head-in-App g c = beneath_application (g.S.Terms.store c.args.store.now) c.args.t c.args.stack.now.items c.push.new.self.items c.push_head.new.stack.items c.in-App.f c.in-App.x c.requires c.in-App.ensures.tree c.in-App.ensures.parts.0 c.in-App.ensures.parts.1 c.in_ok-push-in-App.ensures.items c.in_ok-push_head-in-App.ensures

pub returns-in_ok-push-in-Lam : goal.returns-in_ok-push-in-Lam
returns-in_ok-push-in-Lam g c = beneath_lambda (g.S.Terms.store c.args.store.now) c.args.t c.args.stack.now.items c.push-in-Lam.new.self.items c.in-Lam.b _ c.requires c.in-Lam.ensures.tree c.in-Lam.ensures.parts.1 c.in_ok-push-in-Lam.ensures.items

pub returns-in-Free : goal.returns-in-Free
returns-in-Free g c = beneath_leaf (g.S.Terms.store c.args.store.now) c.args.t c.args.stack.now.items _ c.in-Free.ensures.tree refl

pub returns-in-Bound : goal.returns-in-Bound
returns-in-Bound g c = beneath_leaf (g.S.Terms.store c.args.store.now) c.args.t c.args.stack.now.items _ c.in-Bound.ensures.tree refl

pub returns-in-Const : goal.returns-in-Const
returns-in-Const g c = beneath_leaf (g.S.Terms.store c.args.store.now) c.args.t c.args.stack.now.items _ c.in-Const.ensures.tree refl

pub returns-in-Num : goal.returns-in-Num
returns-in-Num g c = beneath_leaf (g.S.Terms.store c.args.store.now) c.args.t c.args.stack.now.items _ c.in-Num.ensures.tree refl

use Rattle.std.proofs.Common.{sym, true, false}
use Rattle.std.proofs.lemmas.Result.{err_from_is_err_and}
use Rattle.goal_text.specs.ItemsIn.{items_in}
use Rattle.goal_text.proofs.DeclareLemmas.{type_fails, type_read, type_twice}
use Rattle.goal_text.proofs.FoundLemmas.{constructor_tested, from_nothing}
use Rattle.goal_text.proofs.ReadLemmas.{gives_same}
use Rattle.goal_text.proofs.items.type_item.Goals as goal

pub returns-then-is_some-clause-read : goal.returns-then-is_some-clause-read
returns-then-is_some-clause-read c =
    let old = c.args.items.now in
    let test = constructor_tested old.scope.types c.in_ok-name.name.now c.find.result c.is_some.result true c.find.ensures c.is_some.ensures c.if-is_some.true in
    rw c.refuse.ensures (type_twice (items_in old) c.args.at _ _ _ c.in_ok-name.name.now c.in_ok-first.ensures.read c.in_ok-name.ensures test)

pub returns-in_err-arity-clause-read : goal.returns-in_err-arity-clause-read
returns-in_err-arity-clause-read c =
    let p = err_from_is_err_and c.from_residual-in_err-arity.result c.from_residual-in_err-arity.ensures.1 in
    let old = c.args.items.now in
    let test = constructor_tested old.scope.types c.in_ok-name.name.now c.find.result c.is_some.result false c.find.ensures c.is_some.ensures c.if-is_some.false in
    rw (p.1, p.2) (type_fails (items_in old) c.args.at _ _ _ c.in_ok-name.name.now c.in_ok-first.ensures.read c.in_ok-name.ensures c.in_err-arity.field-0.0 test c.in_err-arity.ensures)

pub declare_type-requires-clause-fresh : goal.declare_type-requires-clause-fresh
declare_type-requires-clause-fresh c = from_nothing _ (constructor_tested c.args.items.now.scope.types c.in_ok-name.name.now c.find.result c.is_some.result false c.find.ensures c.is_some.ensures c.if-is_some.false)

pub returns-clause-read : goal.returns-clause-read
returns-clause-read c =
    let old = c.args.items.now in
    let test = constructor_tested old.scope.types c.in_ok-name.name.now c.find.result c.is_some.result false c.find.ensures c.is_some.ensures c.if-is_some.false in
    let is = type_read (items_in old) c.args.at _ _ _ c.in_ok-name.name.now c.in_ok-first.ensures.read c.in_ok-name.ensures c.in_ok-arity.arity test c.in_ok-arity.ensures in
    gives_same (λ _. items_in c.declare_type.new.items) c.declare_type.result _ _ (sym is) c.declare_type.ensures.read

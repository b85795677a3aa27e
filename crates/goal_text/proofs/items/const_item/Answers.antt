use Rattle.std.proofs.Common.{◌∙◌, sym, ap, true, false, Ok}
use Rattle.std.proofs.lemmas.Result.{err_from_is_err_and}
use Rattle.hol_types.specs.TypeStore.{type_tree}
use Rattle.goal_text.specs.Items.{Items}
use Rattle.goal_text.specs.ItemsIn.{items_in, with_constant}
use Rattle.goal_text.specs.Read.{Read}
use Rattle.goal_text.proofs.DeclareLemmas.{const_fails, const_read, const_twice}
use Rattle.goal_text.proofs.FoundLemmas.{constant_tested, from_nothing}
use Rattle.goal_text.proofs.ItemLemmas.{items_kept, items_same}
use Rattle.goal_text.proofs.ReadLemmas.{gives_same}
use Rattle.goal_text.proofs.items.const_item.Goals as goal

pub returns-then-is_some-clause-read : goal.returns-then-is_some-clause-read
returns-then-is_some-clause-read c =
    let old = c.args.items.now in
    let test = constant_tested old.base old.scope.consts c.in_ok-name.name.now c.find.result c.is_some.result true c.find.ensures c.is_some.ensures c.if-is_some.true in
    rw c.refuse.ensures (const_twice (items_in old) c.args.at _ _ _ c.in_ok-name.name.now c.in_ok-first.ensures.read c.in_ok-name.ensures test)

pub returns-in_err-ty-clause-read : goal.returns-in_err-ty-clause-read
returns-in_err-ty-clause-read c =
    let p = err_from_is_err_and c.from_residual-in_err-ty.result c.from_residual-in_err-ty.ensures.1 in
    let old = c.args.items.now in
    let test = constant_tested old.base old.scope.consts c.in_ok-name.name.now c.find.result c.is_some.result false c.find.ensures c.is_some.ensures c.if-is_some.false in
    rw (p.1, p.2) (const_fails (items_in old) c.args.at _ _ _ c.in_ok-name.name.now c.in_ok-first.ensures.read c.in_ok-name.ensures c.in_err-ty.field-0.0 test c.in_err-ty.ensures.read)

pub declare_constant-requires-clause-items : goal.declare_constant-requires-clause-items
declare_constant-requires-clause-items c = items_kept c.args.items.now c.type_at.new.base c.in_ok-ty.ensures.keeps c.requires.items

pub declare_constant-requires-clause-fresh : goal.declare_constant-requires-clause-fresh
declare_constant-requires-clause-fresh c = from_nothing _ (constant_tested c.type_at.new.base c.args.items.now.scope.consts c.in_ok-name.name.now c.find.result c.is_some.result false c.find.ensures c.is_some.ensures c.if-is_some.false)

pub returns-clause-read : goal.returns-clause-read
returns-clause-read c =
    let old = c.args.items.now in
    let name = c.in_ok-name.name.now in
    let t = type_tree c.type_at.new.base.types c.in_ok-ty.ty in
    let test = constant_tested old.base old.scope.consts name c.find.result c.is_some.result false c.find.ensures c.is_some.ensures c.if-is_some.false in
    let is = const_read (items_in old) c.args.at _ _ _ name c.in_ok-first.ensures.read c.in_ok-name.ensures t test c.in_ok-ty.ensures.read in
    let same = items_same old c.type_at.new.base c.in_ok-ty.ensures.keeps c.requires.items in
    let said : Items → Read Items = λ i. Ok (with_constant i name t) in
    gives_same (λ _. items_in c.declare_constant.new.items) c.declare_constant.result _ _ (ap said same ∙ sym is) c.declare_constant.ensures.read

use Rattle.std.proofs.Common.{◌∙◌, ◌++◌, ◌∷◌, [], Ok, sym, ap, bytes_eq}
use Rattle.std.specs.Map.{lookup}
use Rattle.goal_text.specs.declared.items.Items.{Items as Made}
use Rattle.goal_text.specs.declared.scope.Constant.{Constant}
use Rattle.goal_text.proofs.FoundLemmas.{constant_fresh}
use Rattle.goal_text.proofs.ItemLemmas.{constant_declared, constant_said}
use Rattle.goal_text.proofs.items.declare_constant.Goals as goal

pub declare-requires : goal.declare-requires
declare-requires c =
    let old = c.args.items.now in
    ap (λ n. lookup (bytes_eq n) old.scope.consts) c.in_ok-own.ensures.items ∙ constant_fresh old.base old.scope.consts c.args.name.now c.requires.fresh

pub returns-clause-read : goal.returns-clause-read
returns-clause-read c =
    let old = c.args.items.now in
    let made : Constant = record { name = c.in_ok-number.number; ty = c.args.ty; monomorphic = c.is_ground-monomorphic.result } in
    let consts = c.in_ok-declare.ensures ∙ ap (λ n. old.scope.consts ++ (n, made) ∷ []) c.in_ok-own.ensures.items in
    let new : Made = record old { base = c.name.new.self; scope = record old.scope { consts = c.declare.new.self }; consts = c.push.new.self } in
    ap Ok (sym (constant_said old new c.args.name.now c.in_ok-number.number c.args.ty c.is_ground-monomorphic.result c.in_ok-number.ensures.keeps c.requires.items (record { there = c.in_ok-number.ensures.there; text = c.in_ok-number.ensures.text }) c.requires.ty c.is_ground-monomorphic.ensures (λ _. old.scope.types) (λ _. old.scope.binders) consts c.in_ok-push.ensures.items (λ _. old.facts.items) (λ _. old.goal)))

pub returns-clause-items : goal.returns-clause-items
returns-clause-items c =
    let old = c.args.items.now in
    let made : Constant = record { name = c.in_ok-number.number; ty = c.args.ty; monomorphic = c.is_ground-monomorphic.result } in
    let consts = c.in_ok-declare.ensures ∙ ap (λ n. old.scope.consts ++ (n, made) ∷ []) c.in_ok-own.ensures.items in
    constant_declared old _ c.args.name.now c.in_ok-number.number c.args.ty c.is_ground-monomorphic.result c.in_ok-number.ensures.keeps c.requires.items (record { there = c.in_ok-number.ensures.there; text = c.in_ok-number.ensures.text }) c.requires.ty c.is_ground-monomorphic.ensures (λ _. old.scope.types) (λ _. old.scope.binders) consts c.in_ok-push.ensures.items (λ _. old.facts.items) (λ _. old.goal)

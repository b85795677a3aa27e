use Rattle.std.proofs.Common.{◌∙◌, ◌++◌, ◌∷◌, [], Ok, sym, ap, bytes_eq}
use Rattle.std.specs.Map.{lookup}
use Rattle.hol_terms.proofs.KeepsLemmas.{keeps_trans}
use Rattle.goal_text.specs.declared.scope.Constructor.{Constructor}
use Rattle.goal_text.proofs.FoundLemmas.{constructor_fresh}
use Rattle.goal_text.proofs.ItemLemmas.{type_declared, type_said}
use Rattle.goal_text.proofs.ScopeLemmas.{name_kept}
use Rattle.goal_text.proofs.items.declare_type.Goals as goal

pub declare-requires-2 : goal.declare-requires-2
declare-requires-2 c =
    let old = c.args.items.now in
    ap (λ n. lookup (bytes_eq n) old.scope.types) c.in_ok-own.ensures.items ∙ constructor_fresh old.scope.types c.args.name.now c.requires.fresh

pub returns-clause-read : goal.returns-clause-read
returns-clause-read c =
    let old = c.args.items.now in
    let made : Constructor = record { name = c.in_ok-number.number; arity = c.args.arity } in
    let types = c.in_ok-declare-2.ensures ∙ ap (λ n. old.scope.types ++ (n, made) ∷ []) c.in_ok-own.ensures.items in
    let k = c.in_ok-declare.ensures.keeps in
    ap Ok (sym (type_said old c.declare.new.self (keeps_trans c.in_ok-number.ensures.keeps k) c.requires.items c.args.name.now c.in_ok-number.number c.args.arity c.declare-2.new.self (name_kept k (record { there = c.in_ok-number.ensures.there; text = c.in_ok-number.ensures.text })) (c.in_ok-declare.ensures.arity c.if-not-branch.false) types))

pub returns-clause-items : goal.returns-clause-items
returns-clause-items c =
    let old = c.args.items.now in
    let made : Constructor = record { name = c.in_ok-number.number; arity = c.args.arity } in
    let types = c.in_ok-declare-2.ensures ∙ ap (λ n. old.scope.types ++ (n, made) ∷ []) c.in_ok-own.ensures.items in
    let k = c.in_ok-declare.ensures.keeps in
    type_declared old c.declare.new.self (keeps_trans c.in_ok-number.ensures.keeps k) c.requires.items c.args.name.now c.in_ok-number.number c.args.arity c.declare-2.new.self (name_kept k (record { there = c.in_ok-number.ensures.there; text = c.in_ok-number.ensures.text })) (c.in_ok-declare.ensures.arity c.if-not-branch.false) types

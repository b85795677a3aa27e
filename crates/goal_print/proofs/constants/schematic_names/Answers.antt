use Rattle.std.proofs.Common.{◌≡◌, true, false, sym, ◌∙◌}
use Rattle.goal_text.specs.Matching.{is_ground}
use Rattle.hol_types.specs.TypeStore.{type_tree}
use Rattle.goal_print.proofs.ConstantLemmas.{is_declared, known_ground, known_put, known_none}
use Rattle.goal_print.proofs.constants.schematic_names.Goals as goal
use Rattle.goal_print.proofs.constants.schematic_names.Goals.{then-not-is_ground+in_ok-insert, else-not-is_ground}

pub loop-declared-init : goal.loop-declared-init
loop-declared-init c = known_none c.args.base.now c.new-found.result c.new-found.ensures.empty

pub loop-declared-preserved : goal.loop-declared-preserved
loop-declared-preserved c =
    let s = c.args.base.now in
    let consts = c.args.consts.now in
    let i = c.loop-declared.declared-index in
    let d = c.declared-item.result in
    let below = c.loop-declared-test.true in
    let is = c.declared-item.is in
    let there = is_declared s consts i d below is c.requires in
    elim c.if-not-is_ground.branch [
      | then-not-is_ground+in_ok-insert w ↦
          let ground : is_ground (type_tree s.types d.ty) ≡ false = sym c.is_ground.ensures ∙ w.if-not-is_ground.true in
          rw w.found-is (known_put s consts i d below is c.loop-declared.found w.insert.new.self c.text-text.ensures.names_apart there c.loop-declared.invariant ground (λ q. w.in_ok-insert.ensures.updates.0 q))
      | else-not-is_ground w ↦
          let ground : is_ground (type_tree s.types d.ty) ≡ true = sym c.is_ground.ensures ∙ w.if-not-is_ground.false in
          rw w.found-is (known_ground s consts i d below is c.loop-declared.found c.loop-declared.invariant ground)
    ]

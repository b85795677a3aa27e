use Rattle.std.proofs.Common.{◌≡◌, [], Some, None, refl, ap, ◌∙◌, arith}
use Rattle.hol_terms.specs.TermStore.{term_tree}
use Rattle.goal_print.specs.declared.piece.Piece.TheVariants as pieces
use Rattle.goal_print.specs.declared.piece.Word.TheVariants as words
use Rattle.goal_print.specs.Pieces.{IsWithin}
use Rattle.goal_print.specs.TermText.{first_in}
use Rattle.goal_print.proofs.NodeLemmas.{no_first}
use Rattle.goal_print.proofs.PutLemmas.{put_one, then_one, put_as}
use Rattle.goal_print.proofs.terms.put_to_the_right.Goals as goal

pub returns-in_default : goal.returns-in_default
returns-in_default c = λ consts.
    let s = c.args.base.now in
    let none : first_in consts None c.args.depth (term_tree s c.args.f) ≡ [] = ap (first_in consts None c.args.depth) c.node.ensures.tree ∙ no_first s consts None c.args.depth c.node.result c.in_default.not-App in
    let last = put_one s consts (pieces.TermText (Some c.args.kind) c.args.depth c.args.x) _ _ c.requires.argument c.in_ok-push.ensures.items in
    let all = then_one s consts (pieces.Word words.Blank) _ _ _ _ _ tt last c.in_ok-push-2.ensures.items in
    put_as s consts _ _ _ _ _ _ (rw none refl) (omega arith) all

pub returns : goal.returns
unfolding first_in
returns c = λ consts.
    let s = c.args.base.now in
    let parts = c.in-App.ensures.parts in
    let few = c.requires.function.few in
    let there = c.requires.function.there in
    let within : IsWithin s c.args.depth c.in-App.a = record { there = omega (arith, parts.1, there); few = omega (arith, parts.1, few) } in
    let last = put_one s consts (pieces.TermText (Some c.args.kind) c.args.depth c.args.x) _ _ c.requires.argument c.in_ok-push.ensures.items in
    let first = then_one s consts (pieces.TermText None c.args.depth c.in-App.a) _ _ _ _ _ within last c.in_ok-push-3.ensures.items in
    let all = then_one s consts (pieces.Word words.Blank) _ _ _ _ _ tt first c.in_ok-push-4.ensures.items in
    rw c.in-App.ensures.tree (put_as s consts _ _ _ _ _ _ refl (omega arith) all)

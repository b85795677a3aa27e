use Rattle.std.proofs.Common.{◌≡◌, ◌+◌, [], refl, sym, ap, ◌∙◌, arith}
use Rattle.hol_terms.specs.TermStore.{term_tree}
use Rattle.goal_print.specs.Pieces.{IsWithin}
use Rattle.goal_print.specs.TermText.{body_in}
use Rattle.goal_print.proofs.NodeLemmas.{no_body}
use Rattle.goal_print.proofs.PutLemmas.{put_none, put_as}
use Rattle.goal_print.proofs.terms.put_body.Goals as goal

pub returns-in_default : goal.returns-in_default
returns-in_default c = λ consts.
    let s = c.args.base.now in
    let none : body_in consts c.args.kind c.args.depth (term_tree s c.args.x) ≡ [] = ap (body_in consts c.args.kind c.args.depth) c.node.ensures.tree ∙ no_body s consts c.args.kind c.args.depth c.node.result c.in_default.not-Lam in
    put_as s consts _ _ _ _ _ _ (sym none) (omega arith) (put_none s consts _)

pub returns : goal.returns
unfolding body_in
returns c = λ consts.
    let s = c.args.base.now in
    let parts = c.in-Lam.ensures.parts in
    let few = c.requires.few in
    let there = c.requires.there in
    let within : IsWithin s (c.args.depth + 1) c.in-Lam.body = record { there = omega (arith, parts.1, there); few = omega (arith, parts.1, few) } in
    rw c.in-Lam.ensures.tree (put_as s consts _ _ _ _ _ _ refl (omega arith) (c.in_ok-put_bound.ensures s consts parts.0 within))

use Rattle.hol_types.proofs.ListLemmas.{all_added}
use Rattle.hol_terms.specs.Deep.{IsPart}
use Rattle.hol_terms.specs.TermStore.{joined}
use Rattle.hol_terms.proofs.DeepLemmas.{part_function, part_argument, part_body}
use Rattle.hol_terms.proofs.deep.add_beneath.Goals as goal

pub returns-in_ok-add_part-in-App-2 : goal.returns-in_ok-add_part-in-App-2
returns-in_ok-add_part-in-App-2 c = λ whole is all.
    let s = joined c.args.base.now c.args.own.now in
    let f = part_function s whole c.args.t c.in-App.f c.in-App.x is c.in-App.ensures.tree c.in-App.ensures.parts.0 in
    let x = part_argument s whole c.args.t c.in-App.f c.in-App.x is c.in-App.ensures.tree c.in-App.ensures.parts.1 in
    all_added (IsPart s whole) c.in-App.x _ _ c.in_ok-add_part-in-App-2.ensures x (all_added (IsPart s whole) c.in-App.f _ _ c.in_ok-add_part-in-App.ensures f all)

pub returns-in_ok-add_part-in-Lam : goal.returns-in_ok-add_part-in-Lam
returns-in_ok-add_part-in-Lam c = λ whole is all.
    let s = joined c.args.base.now c.args.own.now in
    let b = part_body s whole c.args.t _ c.in-Lam.b is c.in-Lam.ensures.tree c.in-Lam.ensures.parts.1 in
    all_added (IsPart s whole) c.in-Lam.b _ _ c.in_ok-add_part-in-Lam.ensures b all

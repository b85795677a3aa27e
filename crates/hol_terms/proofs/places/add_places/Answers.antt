use Rattle.std.proofs.Common.{◌+◌}
use Rattle.hol_types.proofs.ListLemmas.{all_added}
use Rattle.hol_terms.specs.Deep.{IsPlace}
use Rattle.hol_terms.specs.TermStore.{joined}
use Rattle.hol_terms.proofs.DeepLemmas.{place_function, place_argument, place_body}
use Rattle.hol_terms.proofs.places.add_places.Goals as goal

pub returns-in_ok-add_place-in-App-2 : goal.returns-in_ok-add_place-in-App-2
returns-in_ok-add_place-in-App-2 c = λ whole is all.
    let s = joined c.args.base.now c.args.own.now in
    let f = place_function s whole c.args.part c.in-App.f c.in-App.x is c.in-App.ensures.tree c.in-App.ensures.parts.0 in
    let x = place_argument s whole c.args.part c.in-App.f c.in-App.x is c.in-App.ensures.tree c.in-App.ensures.parts.1 in
    all_added (IsPlace s whole) (record { term = c.in-App.x; index = c.args.part.index }) _ _ c.in_ok-add_place-in-App-2.ensures x (all_added (IsPlace s whole) (record { term = c.in-App.f; index = c.args.part.index }) _ _ c.in_ok-add_place-in-App.ensures f all)

pub returns-in_ok-add_place-in-Lam : goal.returns-in_ok-add_place-in-Lam
returns-in_ok-add_place-in-Lam c = λ whole is all.
    let s = joined c.args.base.now c.args.own.now in
    let b = place_body s whole c.args.part _ c.in-Lam.b is c.in-Lam.ensures.tree c.in-Lam.ensures.parts.1 in
    all_added (IsPlace s whole) (record { term = c.in-Lam.b; index = c.args.part.index + 1 }) _ _ c.in_ok-add_place-in-Lam.ensures b all

use Rattle.std.proofs.Common.{◌≡◌, ◌-◌, ◌++◌, [], rules, refl, ap, arith}
use Rattle.goal_print.specs.declared.kind.Kind.TheVariants as kinds
use Rattle.goal_print.specs.Pieces.{Puts}
use Rattle.goal_print.specs.TermText.{text_in, literal_text, variable_text}
use Rattle.goal_print.specs.Kinds.{lead}
use Rattle.goal_print.proofs.PutLemmas.{put_as, puts_grow}
use Rattle.goal_print.proofs.terms.put_term.Goals as goal

pub returns-in_ok-put_leaf-in-Bound-clause-text : goal.returns-in_ok-put_leaf-in-Bound-clause-text
unfolding text_in
returns-in_ok-put_leaf-in-Bound-clause-text c = λ consts known.
    let s = c.args.base.now in
    let same : c.saturating_sub-k.result ≡ c.args.depth - 1 - c.in-Bound.index = rw (c.saturating_sub-k.ensures, c.saturating_sub.ensures) refl in
    rw c.in-Bound.ensures.tree (put_as s consts _ _ _ _ _ _ (ap (λ k. lead c.args.place kinds.Leaf ++ variable_text k) same) (omega arith) (c.in_ok-put_leaf-in-Bound.ensures s consts tt))

pub returns-in_ok-put_leaf-in-Num-clause-text : goal.returns-in_ok-put_leaf-in-Num-clause-text
unfolding text_in
returns-in_ok-put_leaf-in-Num-clause-text c = λ consts known.
    let s = c.args.base.now in
    let put : Puts s consts (lead c.args.place kinds.Leaf ++ literal_text c.in-Num.value) 2 c.args.pieces.now.items c.put_leaf-in-Num.new.pieces.items =
    let k = c.in_ok-put_leaf-in-Num.ensures s consts tt in search rules in
    rw c.in-Num.ensures.tree put

pub returns-in_ok-put_leaf-in-Bound-clause-grows : goal.returns-in_ok-put_leaf-in-Bound-clause-grows
returns-in_ok-put_leaf-in-Bound-clause-grows c =
    let s = c.args.base.now in
    rw c.in-Bound.ensures.tree (puts_grow s _ _ _ _ (c.in_ok-put_leaf-in-Bound.ensures s [] tt))

pub returns-in_ok-put_leaf-in-Num-clause-grows : goal.returns-in_ok-put_leaf-in-Num-clause-grows
returns-in_ok-put_leaf-in-Num-clause-grows c =
    let s = c.args.base.now in
    rw c.in-Num.ensures.tree (puts_grow s _ _ _ _ (c.in_ok-put_leaf-in-Num.ensures s [] tt))

pub returns-in_ok-put_application-in-App-clause-grows : goal.returns-in_ok-put_application-in-App-clause-grows
returns-in_ok-put_application-in-App-clause-grows c =
    rw c.in-App.ensures.tree (puts_grow c.args.base.now _ _ _ _ (c.in_ok-put_application-in-App.ensures []))

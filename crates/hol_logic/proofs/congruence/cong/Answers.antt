use Rattle.std.proofs.Common.{◌≡◌, ◌∙◌, ap, sym, true, false}
use Rattle.hol_terms.specs.Term.{ty_of, result_ty}
use Rattle.hol_terms.specs.TermStore.{term_tree}
use Rattle.hol_terms.specs.Constants.{equation}
use Rattle.hol_logic.proofs.StateLemmas.{congruent_takes}
use Rattle.hol_logic.proofs.congruence.cong.Goals as goal

pub congruent-requires-clause-takes : goal.congruent-requires-clause-takes
congruent-requires-clause-takes c = c.takes.ensures.0 c.if-not-takes.false

pub returns-then-not-takes-clause-shape : goal.returns-then-not-takes-clause-shape
returns-then-not-takes-clause-shape c =
    λ e form.
    let taken : c.takes.result ≡ true = c.takes.ensures.1 (congruent_takes c.in-Some.ensures.some c.in-Some-sides_of.ensures.some form) in
    let clash : false ≡ true = sym c.if-not-takes.true ∙ taken in
    cc

pub returns-clause-states : goal.returns-clause-states
returns-clause-states c =
    let s = c.args.k.now.store in
    let f = term_tree s c.in-Some.functions.left in
    let g = term_tree s c.in-Some.functions.right in
    let x = term_tree s c.in-Some-sides_of.arguments.left in (
      record {
        argument_type = ty_of x;
        result_type = result_ty (ty_of f);
        f = f;
        g = g;
        x = x;
        y = term_tree s c.in-Some-sides_of.arguments.right;
        functions_is = c.in-Some.ensures.some.concl ∙ ap (λ ty. equation ty f g) (c.takes.ensures.0 c.if-not-takes.false);
        arguments_is = c.in-Some-sides_of.ensures.some.concl;
      },
      c.in_ok-r.ensures.states,
    )

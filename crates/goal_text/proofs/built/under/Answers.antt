use Rattle.std.proofs.Common.{◌≡◌, sym, subst, true}
use Rattle.hol_terms.specs.Term.{ty_of}
use Rattle.hol_terms.specs.TermStore.{term_tree}
use Rattle.goal_text.specs.Operations as operations
use Rattle.goal_text.proofs.BuiltLemmas.{predicate_typed, quantifier_applies}
use Rattle.goal_text.proofs.KeptLemmas.{same_Ok}
use Rattle.goal_text.proofs.built.under.Goals as goal

pub quantifier-requires : goal.quantifier-requires
quantifier-requires c = c.in_ok-lambda.ensures.keeps.types c.args.ty c.requires.ty

pub apply-requires-clause-fits : goal.apply-requires-clause-fits
apply-requires-clause-fits c =
    let test = subst (λ b. operations.fits_body b (ty_of (term_tree c.args.base.now c.args.body)) ≡ true) c.in-Forall.is c.requires.fits in
    let lambda = predicate_typed c.args.base.now c.typed.new.base c.args.ty c.args.body c.in_ok-lambda.lambda c.in_ok-lambda.ensures.keeps c.requires.ty test c.in_ok-lambda.ensures.there (sym (same_Ok _ _ c.in_ok-lambda.ensures.read)) in
    quantifier_applies c.typed.new.base c.quantifier.new.base _ c.args.ty c.in_ok-f-in-Forall.f c.in_ok-lambda.lambda c.in_ok-f-in-Forall.ensures.keeps lambda c.in_ok-f-in-Forall.ensures.there (sym (same_Ok _ _ c.in_ok-f-in-Forall.ensures.read))

pub quantifier-requires-in-Exists : goal.quantifier-requires-in-Exists
quantifier-requires-in-Exists c = c.in_ok-lambda.ensures.keeps.types c.args.ty c.requires.ty

pub apply-requires-in-Exists-clause-fits : goal.apply-requires-in-Exists-clause-fits
apply-requires-in-Exists-clause-fits c =
    let test = subst (λ b. operations.fits_body b (ty_of (term_tree c.args.base.now c.args.body)) ≡ true) c.in-Exists.is c.requires.fits in
    let lambda = predicate_typed c.args.base.now c.typed.new.base c.args.ty c.args.body c.in_ok-lambda.lambda c.in_ok-lambda.ensures.keeps c.requires.ty test c.in_ok-lambda.ensures.there (sym (same_Ok _ _ c.in_ok-lambda.ensures.read)) in
    quantifier_applies c.typed.new.base c.quantifier-in-Exists.new.base _ c.args.ty c.in_ok-f-in-Exists.f c.in_ok-lambda.lambda c.in_ok-f-in-Exists.ensures.keeps lambda c.in_ok-f-in-Exists.ensures.there (sym (same_Ok _ _ c.in_ok-f-in-Exists.ensures.read))

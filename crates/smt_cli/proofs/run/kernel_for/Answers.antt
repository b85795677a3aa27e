use Rattle.std.proofs.Common.{◌∙◌, ap, sym, subst}
use Rattle.hol_formulas.specs.Formulas.{HasFormulas, IsContext}
use Rattle.smt_cli.proofs.RunLemmas.{facts_there, context_there, serves_new}
use Rattle.smt_cli.proofs.run.kernel_for.Goals as goal

pub new-requires-clause-facts : goal.new-requires-clause-facts
new-requires-clause-facts c =
    let p = c.args.plan.now in
    let there : HasFormulas p.store p.parts.facts = facts_there p p.parts.facts (rw c.parts-parts.ensures.is at c.parts-parts.ensures.facts) in
    let list = c.as_slice-facts.ensures ∙ ap (λ q. q.facts) c.parts-parts.ensures.is in
    subst (λ s. HasFormulas s c.as_slice-facts.result.now) (sym c.base.ensures) (subst (λ ts. HasFormulas p.store ts) (sym list) there)

pub new-requires-clause-context : goal.new-requires-clause-context
new-requires-clause-context c =
    let p = c.args.plan.now in
    let there : IsContext p.store p.parts.assertions = context_there p p.parts.assertions (rw c.parts-parts.ensures.is at c.parts-parts.ensures.assertions) in
    let list = c.as_slice-assertions.ensures ∙ ap (λ q. q.assertions) c.parts-parts.ensures.is in
    subst (λ s. IsContext s c.as_slice-assertions.result.now) (sym c.base.ensures) (subst (λ ts. IsContext p.store ts) (sym list) there)

pub returns : goal.returns
returns c =
    let p = c.args.plan.now in
    let keeps = rw c.base.ensures at c.in_ok-kernel.ensures.store in
    let facts = c.in_ok-kernel.ensures.facts ∙ c.as_slice-facts.ensures ∙ ap (λ q. q.facts) c.parts-parts.ensures.is in
    let context = c.in_ok-kernel.ensures.context ∙ c.as_slice-assertions.ensures ∙ ap (λ q. q.assertions) c.parts-parts.ensures.is in
    serves_new p c.in_ok-kernel.kernel keeps facts context (rw c.parts-parts.ensures.is at c.parts-parts.ensures.facts) (rw c.parts-parts.ensures.is at c.parts-parts.ensures.assertions)

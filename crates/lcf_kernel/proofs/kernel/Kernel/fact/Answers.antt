use Rattle.std.proofs.Common.{◌≡◌, ◌∙◌, ◌<◌, sym, ap, subst, length, slice_index}
use Rattle.hol_types.specs.TypeSubst.{subst_tree}
use Rattle.hol_terms.specs.TermStore.{term_tree}
use Rattle.hol_terms.specs.Substitution.{subst_types}
use Rattle.lcf_kernel.specs.KernelState.{fact_of}
use Rattle.lcf_kernel.proofs.KeepLemmas.{keeps_all_trans}
use Rattle.lcf_kernel.proofs.KernelRules.{rule_fact, fact_formula}
use Rattle.lcf_kernel.proofs.kernel.Kernel.fact.Goals as goal

pub conclude-requires : goal.conclude-requires
conclude-requires c =
    let old = c.args.self.now in
    let k = c.instantiated.new.self in
    let keeps = c.instantiated.ensures.keeps.records in
    let below = subst (λ ts. c.args.i < length ts) (sym keeps.facts) c.in-Some.ensures.below in
    let fact : fact_of k c.args.i ≡ term_tree old.store c.in-Some.fact =
    ap (λ ts. term_tree k.store (slice_index ts c.args.i)) keeps.facts ∙ ap (λ t. term_tree k.store t) (sym c.in-Some.ensures.is) ∙ keeps.store.trees c.in-Some.fact (fact_formula old.store old.facts c.in-Some.ensures.formulas c.args.i c.in-Some.fact c.in-Some.ensures.below c.in-Some.ensures.is).there in
    let tree : term_tree k.store c.in_ok-concl.concl ≡ subst_types (subst_tree old.store.types c.args.s.now) (fact_of k c.args.i) = rw fact c.in_ok-concl.ensures.tree in
    rule_fact k c.no_hyps-hyps.ensures.lawful c.no_hyps-hyps.result c.args.i c.in_ok-concl.concl _ below c.in_ok-concl.ensures.there tree c.no_hyps-hyps.ensures.gives

pub instantiated-requires-clause-formula : goal.instantiated-requires-clause-formula
instantiated-requires-clause-formula c = fact_formula c.args.self.now.store c.args.self.now.facts c.in-Some.ensures.formulas c.args.i c.in-Some.fact c.in-Some.ensures.below c.in-Some.ensures.is

pub returns-clause-keeps : goal.returns-clause-keeps
returns-clause-keeps c = keeps_all_trans c.instantiated.ensures.keeps c.conclude.ensures.keeps

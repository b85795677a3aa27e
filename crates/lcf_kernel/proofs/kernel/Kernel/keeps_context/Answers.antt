use Rattle.std.proofs.Common.{◌≡◌, ◌∙◌, subst}
use Rattle.hol_types.specs.TypeSubst.{subst_tree}
use Rattle.hol_terms.specs.Formula.{In}
use Rattle.hol_formulas.specs.FoundTypes.{type_variables_in, AreTypeVariables}
use Rattle.hol_formulas.proofs.UnchangedTypes.{changes_none_from, leaves_from}
use Rattle.lcf_kernel.specs.KernelState.{context_of}
use Rattle.lcf_kernel.proofs.KeepLemmas.{keeps_all_rest}
use Rattle.lcf_kernel.proofs.kernel.Kernel.keeps_context.Goals as goal

pub leaves_each-requires-clause-there : goal.leaves_each-requires-clause-there
leaves_each-requires-clause-there c t h =
    let same : c.as_slice.result.now ≡ c.type_variables.result.now = c.as_slice.ensures.value ∙ c.in_ok-types.ensures.items in
    (c.type_variables.ensures.are.only t (subst (λ ts. In t ts) same h)).there

pub returns-in_err-r-clause-keeps : goal.returns-in_err-r-clause-keeps
returns-in_err-r-clause-keeps c = keeps_all_rest c.args.self.now c.leaves_each.new.store c.type_variables.ensures.lawful c.leaves_each.ensures.keeps c.leaves_each.ensures.rest

pub returns-clause-keeps : goal.returns-clause-keeps
returns-clause-keeps c = keeps_all_rest c.args.self.now c.leaves_each.new.store c.type_variables.ensures.lawful c.leaves_each.ensures.keeps c.leaves_each.ensures.rest

pub returns-clause-is : goal.returns-clause-is
returns-clause-is c e =
    let k = c.args.self.now in
    let same : c.as_slice.result.now ≡ c.type_variables.result.now = c.as_slice.ensures.value ∙ c.in_ok-types.ensures.items in
    let are : AreTypeVariables k.store.types c.as_slice.result.now (type_variables_in (context_of k)) = rw same c.type_variables.ensures.are in
    changes_none_from (subst_tree k.store.types c.args.s.now) (context_of k) (c.in_ok-r.ensures.is e (type_variables_in (context_of k)) are)

pub returns-clause-isnt : goal.returns-clause-isnt
returns-clause-isnt c e none =
    let k = c.args.self.now in
    let same : c.as_slice.result.now ≡ c.type_variables.result.now = c.as_slice.ensures.value ∙ c.in_ok-types.ensures.items in
    let are : AreTypeVariables k.store.types c.as_slice.result.now (type_variables_in (context_of k)) = rw same c.type_variables.ensures.are in
    c.in_ok-r.ensures.isnt e (type_variables_in (context_of k)) are (leaves_from (subst_tree k.store.types c.args.s.now) (context_of k) none)

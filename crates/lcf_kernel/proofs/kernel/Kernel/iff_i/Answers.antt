use Rattle.std.proofs.Common.{◌≡◌, ◌∙◌, sym, subst}
use Rattle.hol_terms.specs.Term.{ty_of}
use Rattle.hol_types.specs.Ty.{Ty, BoolTy}
use Rattle.hol_terms.specs.TermStore.{term_tree}
use Rattle.hol_terms.specs.Constants.{equation}
use Rattle.hol_formulas.specs.Formulas.{trees}
use Rattle.lcf_kernel.specs.KernelState.{concl_of, hyps_of, context_of}
use Rattle.lcf_kernel.proofs.KeepLemmas.{keeps_all_trans}
use Rattle.lcf_kernel.proofs.FollowLemmas.{from_two, iff_i_under, premise, recorded}
use Rattle.lcf_kernel.proofs.kernel.Kernel.iff_i.Goals as goal

pub conclude-requires : goal.conclude-requires
conclude-requires c =
    let k = c.equation.new.self in
    let keeps = c.equation.ensures.keeps.records in
    let lawful = c.in_ok-hyps.ensures.lawful in
    let gives = c.in_ok-hyps.ensures.gives in
    let left_is : concl_of k c.args.b ≡ term_tree k.store c.concl-left.result = keeps.concls c.args.b c.requires.left ∙ sym c.concl-left.ensures.tree ∙ sym (keeps.store.trees _ c.concl-left.ensures.there) in
    let right_is : concl_of k c.args.a ≡ term_tree k.store c.concl-right.result = keeps.concls c.args.a c.requires.right ∙ sym c.concl-right.ensures.tree ∙ sym (keeps.store.trees _ c.concl-right.ensures.there) in
    let bool : ty_of (term_tree c.args.self.now.store c.concl-left.result) ≡ BoolTy = rw c.concl-left.ensures.tree c.concl-left.ensures.formula.bool in
    let left = term_tree c.args.self.now.store c.concl-left.result in
    let right = term_tree c.args.self.now.store c.concl-right.result in
    let at_bool = subst (λ (ty : Ty). term_tree k.store c.in_ok-concl.concl ≡ equation ty left right) bool c.in_ok-concl.ensures.tree in
    let tree : term_tree k.store c.in_ok-concl.concl ≡ equation BoolTy (term_tree k.store c.concl-left.result) (term_tree k.store c.concl-right.result) =
    rw (keeps.store.trees _ c.concl-left.ensures.there, keeps.store.trees _ c.concl-right.ensures.there) at_bool in
    recorded k lawful c.in_ok-hyps.hyps _ c.in_ok-concl.concl _ _ _ gives c.in_ok-concl.ensures.there tree c.both_bare-bare.ensures
    (from_two (iff_i_under (context_of k) (hyps_of k c.args.a) (hyps_of k c.args.b) (trees k.store c.in_ok-hyps.hyps) (term_tree k.store c.concl-left.result) (term_tree k.store c.concl-right.result) gives.formulas gives.same)
    (premise k lawful c.args.a (keeps.has c.args.a c.requires.right) _ right_is) (premise k lawful c.args.b (keeps.has c.args.b c.requires.left) _ left_is))

pub returns-clause-hyps : goal.returns-clause-hyps
returns-clause-hyps c =
    let keeps = c.equation.ensures.keeps.records in
    rw (c.in_ok-r.ensures.hyps, ← c.concl-left.ensures.tree, ← c.concl-right.ensures.tree, ← keeps.store.trees _ c.concl-left.ensures.there, ← keeps.store.trees _ c.concl-right.ensures.there, ← keeps.hyps c.args.a c.requires.right, ← keeps.hyps c.args.b c.requires.left)
    c.in_ok-hyps.ensures.gives.same

pub returns-in_err-r-clause-keeps : goal.returns-in_err-r-clause-keeps
returns-in_err-r-clause-keeps c = keeps_all_trans c.equation.ensures.keeps c.conclude.ensures.keeps

pub returns-clause-keeps : goal.returns-clause-keeps
returns-clause-keeps c = keeps_all_trans c.equation.ensures.keeps c.conclude.ensures.keeps

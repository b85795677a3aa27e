use Rattle.std.proofs.Common.{◌≡◌, ◌∙◌, ap₂, refl}
use Rattle.hol_terms.proofs.DerivableLemmas.{and_i_in}
use Rattle.hol_terms.specs.TermStore.{term_tree}
use Rattle.hol_terms.specs.Constants.{conjunction}
use Rattle.lcf_kernel.specs.KernelState.{concl_of, context_of}
use Rattle.lcf_kernel.proofs.KeepLemmas.{keeps_all_trans}
use Rattle.lcf_kernel.proofs.FollowLemmas.{from_two, under_left, under_right, premise, recorded}
use Rattle.lcf_kernel.proofs.kernel.Kernel.and_i.Goals as goal

pub conclude-requires : goal.conclude-requires
conclude-requires c =
    let k = c.conjunction.new.self in
    let keeps = c.conjunction.ensures.keeps.records in
    let lawful = c.in_ok-hyps.ensures.lawful in
    let gives = c.in_ok-hyps.ensures.gives in
    let tree : term_tree k.store c.in_ok-concl.concl ≡ conjunction (concl_of k c.args.a) (concl_of k c.args.b) =
    rw (keeps.concls c.args.a c.requires.left, keeps.concls c.args.b c.requires.right) (c.in_ok-concl.ensures.tree ∙ ap₂ conjunction c.concl-left.ensures.tree c.concl-right.ensures.tree) in
    recorded k lawful c.in_ok-hyps.hyps _ c.in_ok-concl.concl _ _ _ gives c.in_ok-concl.ensures.there tree c.both_bare-bare.ensures
    (from_two (λ E d e. and_i_in gives.formulas (under_left (context_of k) _ _ _ gives.same) (under_right (context_of k) _ _ _ gives.same) d e)
    (premise k lawful c.args.a (keeps.has c.args.a c.requires.left) _ refl) (premise k lawful c.args.b (keeps.has c.args.b c.requires.right) _ refl))

pub returns-clause-hyps : goal.returns-clause-hyps
returns-clause-hyps c =
    let keeps = c.conjunction.ensures.keeps.records in
    rw (c.in_ok-r.ensures.hyps, ← keeps.hyps c.args.a c.requires.left, ← keeps.hyps c.args.b c.requires.right) c.in_ok-hyps.ensures.gives.same

pub returns-in_err-r-clause-keeps : goal.returns-in_err-r-clause-keeps
returns-in_err-r-clause-keeps c = keeps_all_trans c.conjunction.ensures.keeps c.conclude.ensures.keeps

pub returns-clause-keeps : goal.returns-clause-keeps
returns-clause-keeps c = keeps_all_trans c.conjunction.ensures.keeps c.conclude.ensures.keeps

use Rattle.std.proofs.Common.{◌≡◌, ◌∙◌, refl, ap, sym, arith, tests}
use Rattle.hol_terms.specs.TermStore.{term_tree}
use Rattle.hol_terms.specs.Constants.{disjunction}
use Rattle.hol_formulas.specs.Formulas.{trees}
use Rattle.lcf_kernel.specs.KernelState.{concl_of, hyps_of, context_of}
use Rattle.lcf_kernel.proofs.FollowLemmas.{from_three, or_e_under, premise, recorded}
use Rattle.lcf_kernel.proofs.kernel.Kernel.or_e.Goals as goal

pub conclude-requires : goal.conclude-requires
conclude-requires c =
    let k = c.args.self.now in
    let lawful = c.in_ok-hyps.ensures.lawful in
    let gives = c.in_ok-hyps.ensures.gives in
    let same_id : c.concl-other.result ≡ c.concl-concl.result = grind (arith, tests, c.ne.ensures, c.if-ne.false) in
    let other : concl_of k c.args.c ≡ concl_of k c.args.b = sym c.concl-other.ensures.tree ∙ ap (λ t. term_tree k.store t) same_id ∙ c.concl-concl.ensures.tree in
    recorded k lawful c.in_ok-hyps.hyps _ c.concl-concl.result _ _ _ gives c.concl-concl.ensures.there c.concl-concl.ensures.tree c.all_bare-bare.ensures
    (from_three (or_e_under (context_of k) (hyps_of k c.args.a) (hyps_of k c.args.b) (hyps_of k c.args.c) (trees k.store c.in_ok-hyps.hyps) (term_tree k.store c.in-Some.cases.left) (term_tree k.store c.in-Some.cases.right) (concl_of k c.args.b) gives.formulas gives.same)
    (premise k lawful c.args.a c.requires.either _ c.in-Some.ensures.some) (premise k lawful c.args.b c.requires.first _ refl) (premise k lawful c.args.c c.requires.second _ other))

pub returns-clause-hyps : goal.returns-clause-hyps
returns-clause-hyps c p q e =
    let k = c.args.self.now in
    let parts : disjunction (term_tree k.store c.in-Some.cases.left) (term_tree k.store c.in-Some.cases.right) ≡ disjunction p q = sym c.in-Some.ensures.some ∙ e in
    let left : p ≡ term_tree k.store c.in-Some.cases.left = cc in
    let right : q ≡ term_tree k.store c.in-Some.cases.right = cc in
    rw (c.in_ok-r.ensures.hyps, left, right) c.in_ok-hyps.ensures.gives.same

use Rattle.std.proofs.Common.{◌≡◌, ◌∙◌, ◌++◌, refl, true, false, sym, subst, arith, tests}
use Rattle.hol_terms.specs.Term.{Term, LamTm, ty_of}
use Rattle.hol_terms.specs.Substitution.{subst_bound}
use Rattle.hol_terms.specs.Constants.{exists}
use Rattle.hol_terms.specs.TermStore.{term_tree}
use Rattle.hol_terms.specs.Formula.{IsFormula, SameMembers, without}
use Rattle.hol_terms.proofs.FormulaLemmas.{exists_part}
use Rattle.hol_formulas.specs.Formulas.{trees}
use Rattle.lcf_kernel.specs.KernelState.{concl_of, hyps_of, all_hyps_of, context_of}
use Rattle.lcf_kernel.specs.RuleForms.{IsArbitrary, IsElimination}
use Rattle.lcf_kernel.proofs.KeepLemmas.{keeps_all_to, keeps_all_trans}
use Rattle.hol_formulas.proofs.OccursLemmas.{variable_closed}
use Rattle.lcf_kernel.proofs.FollowLemmas.{from_two, ex_e_under, premise, recorded}
use Rattle.lcf_kernel.proofs.kernel.Kernel.ex_e.Goals as goal

pub opened-requires-clause-closed : goal.opened-requires-clause-closed
opened-requires-clause-closed c = variable_closed _ c.in-Some.ensures.variable

pub opened-requires-clause-fits : goal.opened-requires-clause-fits
opened-requires-clause-fits c = (exists_part (subst (λ (f : Term). IsFormula f) c.in-Some.ensures.some c.in-Some.ensures.formula)).term.typed.1

pub conclude-requires : goal.conclude-requires
conclude-requires c =
    let k = c.is_arbitrary.new.self in
    let s = c.args.self.now.store in
    let v = term_tree s c.args.v in
    let body = term_tree s c.in-Some.body in
    let stays = c.is_arbitrary.ensures.same in
    let keeps = (keeps_all_to stays c.opened.ensures.keeps).records in
    let opened = rw (← stays) at c.in_ok-opened.ensures.tree in
    let lawful = c.in_ok-hyps.ensures.lawful in
    let gives = c.in_ok-hyps.ensures.gives in
    let yes : c.in_ok-arbitrary.arbitrary ≡ true = grind (arith, tests, c.if-not-arbitrary.false) in
    let arbitrary : IsArbitrary body (concl_of k c.args.b) (context_of k ++ hyps_of k c.args.b) v =
    rw (← keeps.store.trees c.in-Some.body c.in-Some.ensures.there, ← keeps.store.trees c.args.v c.requires.there) (rw (← stays) at (c.in_ok-arbitrary.ensures.is yes)) in
    let same : SameMembers (trees k.store c.in_ok-hyps.hyps) (hyps_of k c.args.a ++ without (subst_bound body 0 v) (hyps_of k c.args.b)) = rw (← opened) gives.same in
    recorded k lawful c.in_ok-hyps.hyps _ c.concl-concl.result _ _ _ gives c.concl-concl.ensures.there c.concl-concl.ensures.tree c.both_bare-bare.ensures
    (from_two (ex_e_under (context_of k) (hyps_of k c.args.a) (hyps_of k c.args.b) (trees k.store c.in_ok-hyps.hyps) body (concl_of k c.args.b) v arbitrary gives.formulas same)
    (premise k lawful c.args.a (keeps.has c.args.a c.requires.some) _ (keeps.concls c.args.a c.requires.some ∙ c.in-Some.ensures.some))
    (premise k lawful c.args.b (keeps.has c.args.b c.requires.thm) _ refl))

pub returns-clause-hyps : goal.returns-clause-hyps
returns-clause-hyps c =
    let o = c.args.self.now in
    let k = c.is_arbitrary.new.self in
    let v = term_tree o.store c.args.v in
    let body = term_tree o.store c.in-Some.body in
    let stays = c.is_arbitrary.ensures.same in
    let keeps = (keeps_all_to stays c.opened.ensures.keeps).records in
    let opened = rw (← stays) at c.in_ok-opened.ensures.tree in
    let yes : c.in_ok-arbitrary.arbitrary ≡ true = grind (arith, tests, c.if-not-arbitrary.false) in
    let arbitrary : IsArbitrary body (concl_of o c.args.b) (context_of o ++ hyps_of o c.args.b) v =
    rw (← keeps.concls c.args.b c.requires.thm, ← keeps.context_trees, ← keeps.hyps c.args.b c.requires.thm, ← keeps.store.trees c.in-Some.body c.in-Some.ensures.there, ← keeps.store.trees c.args.v c.requires.there)
    (rw (← stays) at (c.in_ok-arbitrary.ensures.is yes)) in
    let elimination : IsElimination (concl_of o c.args.a) (concl_of o c.args.b) (all_hyps_of o c.args.b) v = record { body = body; said_is = c.in-Some.ensures.some; arbitrary = arbitrary } in
    let same : SameMembers (trees k.store c.in_ok-hyps.hyps) (hyps_of o c.args.a ++ without (subst_bound body 0 v) (hyps_of o c.args.b)) =
    rw (← opened, ← keeps.hyps c.args.a c.requires.some, ← keeps.hyps c.args.b c.requires.thm) c.in_ok-hyps.ensures.gives.same in
    (elimination, rw c.in_ok-r.ensures.hyps same)

pub returns-then-not-arbitrary-clause-shape : goal.returns-then-not-arbitrary-clause-shape
returns-then-not-arbitrary-clause-shape c e x =
    let o = c.args.self.now in
    let k = c.opened.new.self in
    let s = o.store in
    let v = term_tree s c.args.v in
    let body = term_tree s c.in-Some.body in
    let keeps = c.opened.ensures.keeps.records in
    let no : c.in_ok-arbitrary.arbitrary ≡ false = grind (arith, tests, c.if-not-arbitrary.true) in
    let both : exists (ty_of v) (LamTm (ty_of v) x.body) ≡ exists (ty_of v) (LamTm (ty_of v) body) = sym x.said_is ∙ c.in-Some.ensures.some in
    let same : x.body ≡ body = cc in
    let arbitrary : IsArbitrary body (concl_of o c.args.b) (all_hyps_of o c.args.b) v = subst (λ (b : Term). IsArbitrary b (concl_of o c.args.b) (all_hyps_of o c.args.b) v) same x.arbitrary in
    c.in_ok-arbitrary.ensures.isnt no
    (rw (keeps.concls c.args.b c.requires.thm, keeps.context_trees, keeps.hyps c.args.b c.requires.thm, keeps.store.trees c.in-Some.body c.in-Some.ensures.there, keeps.store.trees c.args.v c.requires.there) arbitrary)

pub returns-in_err-r-clause-keeps : goal.returns-in_err-r-clause-keeps
returns-in_err-r-clause-keeps c = keeps_all_trans (keeps_all_to c.is_arbitrary.ensures.same c.opened.ensures.keeps) c.conclude.ensures.keeps

pub returns-clause-keeps : goal.returns-clause-keeps
returns-clause-keeps c = keeps_all_trans (keeps_all_to c.is_arbitrary.ensures.same c.opened.ensures.keeps) c.conclude.ensures.keeps

pub concl-concl-requires : goal.concl-concl-requires
concl-concl-requires c = (keeps_all_to c.is_arbitrary.ensures.same c.opened.ensures.keeps).records.has c.args.b c.requires.thm

pub is_arbitrary-requires-clause-thm : goal.is_arbitrary-requires-clause-thm
is_arbitrary-requires-clause-thm c = c.opened.ensures.keeps.records.has c.args.b c.requires.thm

pub is_arbitrary-requires-clause-there : goal.is_arbitrary-requires-clause-there
is_arbitrary-requires-clause-there c = c.opened.ensures.keeps.records.store.terms c.args.v c.requires.there

pub hyps_beside-requires-clause-left : goal.hyps_beside-requires-clause-left
hyps_beside-requires-clause-left c = (keeps_all_to c.is_arbitrary.ensures.same c.opened.ensures.keeps).records.has c.args.a c.requires.some

pub hyps_beside-requires-clause-right : goal.hyps_beside-requires-clause-right
hyps_beside-requires-clause-right c = (keeps_all_to c.is_arbitrary.ensures.same c.opened.ensures.keeps).records.has c.args.b c.requires.thm

pub both_bare-bare-requires-clause-left : goal.both_bare-bare-requires-clause-left
both_bare-bare-requires-clause-left c = (keeps_all_to c.is_arbitrary.ensures.same c.opened.ensures.keeps).records.has c.args.a c.requires.some

pub both_bare-bare-requires-clause-right : goal.both_bare-bare-requires-clause-right
both_bare-bare-requires-clause-right c = (keeps_all_to c.is_arbitrary.ensures.same c.opened.ensures.keeps).records.has c.args.b c.requires.thm

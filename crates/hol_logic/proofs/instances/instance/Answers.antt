use Rattle.std.proofs.Common.{◌∙◌, sym, ap₂}
use Rattle.hol_terms.specs.Term.{Term}
use Rattle.hol_match.specs.Instance.{instance_by}
use Rattle.hol_match.specs.Inst.{Pairs, term_for}
use Rattle.hol_match.proofs.ApplyLemmas.{pairs_kept}
use Rattle.hol_logic.specs.Instances.{generalised}
use Rattle.hol_logic.proofs.EquationLemmas.{states_through}
use Rattle.hol_logic.proofs.instances.instance.Goals as goal

pub at_each-requires-clause-general : goal.at_each-requires-clause-general
at_each-requires-clause-general c =
    let g = c.over_each.ensures.keeps.records in
    c.in_ok-general.ensures.states.concl ∙ sym (ap₂ (λ (ps : Pairs) (f : Term). generalised ps f) (pairs_kept g.store c.requires.terms) (g.concls c.args.a c.requires.thm))

pub returns-clause-states : goal.returns-clause-states
returns-clause-states c =
    let g = c.over_each.ensures.keeps.records in
    let s = states_through c.in_ok-general.ensures.states c.in_ok-r.ensures.states in
    record {
      there = s.there;
      concl = s.concl ∙ ap₂ (λ (ps : Pairs) (f : Term). instance_by (term_for ps) f) (pairs_kept g.store c.requires.terms) (g.concls c.args.a c.requires.thm);
      hyps = s.hyps;
      bare = s.bare;
    }

use Rattle.std.proofs.Common.{sym, ◌∙◌}
use Rattle.hol_types.proofs.TypeLemmas.{eqb_sound}
use Rattle.std.proofs.lemmas.Bool.{eq-eqb}
use Rattle.hol_terms.specs.TermStore.{term_tree}
use Rattle.hol_terms.proofs.ReachLemmas.{closed_reach}
use Rattle.hol_terms.proofs.terms.Terms.is_closed.Goals as goal

pub returns : goal.returns
returns g c =
    let law = closed_reach (term_tree (g.Self.Terms.store c.args.self.now) c.args.t) in
    (λ h. law.0 (sym c.reach.ensures ∙ eqb_sound c.reach.result 0 h), λ h. eq-eqb c.reach.result 0 (c.reach.ensures ∙ law.1 h))

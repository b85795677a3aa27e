use Rattle.std.proofs.Common.{◌∙◌, ◌∷◌, ◌++◌, [], ap, nat_eq}
use Rattle.indexmap.proofs.CallerLemmas.{insert_entry-new}
use Rattle.hol_match.proofs.inst.Inst.insert.Goals as goal

pub returns-clause-ok : goal.returns-clause-ok
returns-clause-ok c =
    let new = insert_entry-new nat_eq c.self.inside.terms c.args.v c.args.t (rw (← c.self.view_is) at c.requires) in
    c.in_ok-insert.ensures.entries ∙ new ∙ ap (λ es. es ++ (c.args.v, c.args.t) ∷ []) c.self.view_is

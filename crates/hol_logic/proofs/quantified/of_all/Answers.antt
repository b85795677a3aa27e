use Rattle.hol_logic.proofs.QuantifiedLemmas.{expanded_at}
use Rattle.lcf_kernel.proofs.KeptLemmas.{term_kept, tree_kept}
use Rattle.hol_logic.proofs.quantified.of_all.Goals as goal

pub all_expanded-requires : goal.all_expanded-requires
all_expanded-requires c =
    let g = c.applied.ensures.keeps in
    let same = tree_kept g c.requires.there in
    let type = g.records.store.type_trees c.args.ty c.requires.ty in
    record { expanded = expanded_at (g.records.store.types c.args.ty c.requires.ty) (term_kept g c.requires.there) (rw same c.requires.term) (rw (same, type) c.requires.predicate) (rw (same, type) c.in_ok-body.ensures.is) }

use Rattle.hol_types.specs.TypeStore.{type_tree}
use Rattle.hol_terms.specs.Memo.{AllFit}
use Rattle.hol_terms.specs.TermStore.{joined}
use Rattle.hol_terms.proofs.fits.places_fit.Given as goal

abbrev pub invariant-loop-place : goal.invariant-loop-place
invariant-loop-place l = AllFit (joined l.base l.own) (type_tree (joined l.base l.own).types l.ty) l.seen

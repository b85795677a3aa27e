use Rattle.std.proofs.Common.{bytes_eq}
use Rattle.std.specs.Cmp.Lexicographic.{nat_list_eq_equiv}
use Rattle.std.proofs.lemmas.Slice.Eq.{bytes_eq-Decides}
use Rattle.hol_types.proofs.OnceLemmas.{looked_up}
use Rattle.hol_types.proofs.table.Table+Bytes.find_bytes.Goals as goal

pub returns-clause-at : goal.returns-clause-at
returns-clause-at c = rw (← c.self.view_is) (looked_up bytes_eq nat_list_eq_equiv (λ x y. (bytes_eq-Decides x y).0) _ _ _ c.get_index_of.ensures.index c.get_index_of.ensures.found)

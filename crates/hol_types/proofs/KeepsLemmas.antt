-- A store that goes on.
use Rattle.std.proofs.Common.{[], refl, ◌∙◌}
use Rattle.hol_types.specs.TypeStore.{TypeStore, IsTypeStore, Grows}
use Rattle.hol_types.specs.KeepsTypes.{KeepsTypes}
use Rattle.hol_types.proofs.TypeLemmas.{type_tree-grows, Holds-length, Holds-get_or, arity_of-grows}
use Rattle.hol_types.proofs.MarkLemmas.{cut_back, fits_kept}

pub keeps_types_refl : (s : TypeStore) → KeepsTypes s s
keeps_types_refl s = record {
  names = λ n h. h;
  texts = λ n h. refl;
  types = λ t h. h;
  trees = λ t h. refl;
  arities = λ n a h. h;
  back = λ m h. refl;
}

pub keeps_types_trans : {s t u : TypeStore} → KeepsTypes s t → KeepsTypes t u → KeepsTypes s u
keeps_types_trans {s} {t} {u} g h = record {
  names = λ n k. h.names n (g.names n k);
  texts = λ n k. h.texts n (g.names n k) ∙ g.texts n k;
  types = λ x k. h.types x (g.types x k);
  trees = λ x k. h.trees x (g.types x k) ∙ g.trees x k;
  arities = λ n a k. h.arities n a (g.arities n a k);
  back = λ m k. h.back m (fits_kept s t m k (g.back m k)) ∙ g.back m k;
}

-- what stays in its place is kept
pub keeps_types_grown : (s u : TypeStore) → IsTypeStore s → Grows s u → KeepsTypes s u
keeps_types_grown s u is grows = record {
  names = λ n h. Holds-length s.names u.names grows.names n h;
  texts = λ n h. Holds-get_or s.names u.names grows.names n [] h;
  types = λ t h. Holds-length s.nodes u.nodes grows.nodes t h;
  trees = λ t h. type_tree-grows s u is grows t h;
  arities = λ n a h. arity_of-grows s u grows.arities n a h;
  back = λ m h. cut_back s u grows m h;
}

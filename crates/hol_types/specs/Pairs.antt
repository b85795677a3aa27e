-- Parts of a pattern and of a type that have to match where these do, and what is given while they are matched.
use Rattle.std.specs.Prelude.{ℕ}
use Rattle.hol_types.specs.Ty.{Ty}
use Rattle.hol_types.specs.TypeStore.{TypeStore, HasType, type_tree}
use Rattle.hol_types.specs.TypeSubst.{TypeSubst}
use Rattle.hol_types.specs.TypeMatch.{Extends, Matches}

-- where the pattern is the type, the one part is the other
pub record IsPair (s : TypeStore) (pattern type : Ty) (q : ℕ × ℕ) : Type 0 where
  pub part : HasType s q.0
  pub there : HasType s q.1
  pub needed : (v : TypeSubst) → Matches pattern type v → Matches (type_tree s q.0) (type_tree s q.1) v

-- u goes on from s, and each extension of s that makes the pattern the type goes on from u
pub record IsAhead (pattern type : Ty) (s u : TypeSubst) : Type 0 where
  pub extends : Extends s u
  pub least : (v : TypeSubst) → Extends s v → Matches pattern type v → Extends u v

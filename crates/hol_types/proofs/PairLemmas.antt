-- The parts of a pattern and of a type, matched one after the other.
use Rattle.std.proofs.Common.{◌≡◌, ℕ, subst}
use Rattle.hol_types.specs.Ty.{Ty, FunTy}
use Rattle.hol_types.specs.TypeStore.{TypeStore, HasType, type_tree}
use Rattle.hol_types.specs.TypeSubst.{TypeSubst}
use Rattle.hol_types.specs.TypeMatch.{Matches, IsLeast, IsNone}
use Rattle.hol_types.specs.Pairs.{IsPair, IsAhead}
use Rattle.hol_types.proofs.MatchLemmas.{extends_refl, extends_trans, fun_left, fun_right}

module _ (s : TypeStore) (pattern type : Ty) where
  pub pair_itself : (p t : ℕ) → HasType s p → HasType s t → IsPair s (type_tree s p) (type_tree s t) (p, t)
  pair_itself p t part there = record { part = part; there = there; needed = λ v m. m }

  pub pair_left : (p t a b c d : ℕ) → IsPair s pattern type (p, t) → type_tree s p ≡ FunTy (type_tree s a) (type_tree s b) → type_tree s t ≡ FunTy (type_tree s c) (type_tree s d) → HasType s a → HasType s c → IsPair s pattern type (a, c)
  pair_left p t a b c d is e f has_a has_c = record {
    part = has_a;
    there = has_c;
    needed = λ v m. fun_left (type_tree s a) (type_tree s b) (type_tree s c) (type_tree s d) v (subst (λ x. Matches x (FunTy (type_tree s c) (type_tree s d)) v) e (subst (λ y. Matches (type_tree s p) y v) f (is.needed v m)));
  }

  pub pair_right : (p t a b c d : ℕ) → IsPair s pattern type (p, t) → type_tree s p ≡ FunTy (type_tree s a) (type_tree s b) → type_tree s t ≡ FunTy (type_tree s c) (type_tree s d) → HasType s b → HasType s d → IsPair s pattern type (b, d)
  pair_right p t a b c d is e f has_b has_d = record {
    part = has_b;
    there = has_d;
    needed = λ v m. fun_right (type_tree s a) (type_tree s b) (type_tree s c) (type_tree s d) v (subst (λ x. Matches x (FunTy (type_tree s c) (type_tree s d)) v) e (subst (λ y. Matches (type_tree s p) y v) f (is.needed v m)));
  }

module _ (pattern type : Ty) where
  pub ahead_start : (s : TypeSubst) → IsAhead pattern type s s
  ahead_start s = record { extends = extends_refl s; least = λ v e m. e }

  -- one pair more
  pub ahead_more : (P : TypeSubst → Type 0) (s u v : TypeSubst) → ((w : TypeSubst) → Matches pattern type w → P w) → IsAhead pattern type s u → IsLeast P u v → IsAhead pattern type s v
  ahead_more P s u v needed ahead least = record {
    extends = extends_trans ahead.extends least.extends;
    least = λ w e m. least.least w (ahead.least w e m) (needed w m);
  }

  -- a pair that can't be
  pub ahead_none : (P : TypeSubst → Type 0) (s u : TypeSubst) → ((w : TypeSubst) → Matches pattern type w → P w) → IsAhead pattern type s u → IsNone P u → IsNone (Matches pattern type) s
  ahead_none P s u needed ahead nothing = record { none = λ w e m. nothing.none w (ahead.least w e m) (needed w m) }

  -- the whole, after its parts
  pub least_ahead : (s u v : TypeSubst) → IsAhead pattern type s u → IsLeast (Matches pattern type) u v → IsLeast (Matches pattern type) s v
  least_ahead s u v ahead least = record {
    extends = extends_trans ahead.extends least.extends;
    has = least.has;
    least = λ w e m. least.least w (ahead.least w e m) m;
  }

  pub none_ahead : (s u : TypeSubst) → IsAhead pattern type s u → IsNone (Matches pattern type) u → IsNone (Matches pattern type) s
  none_ahead s u ahead nothing = record { none = λ w e m. nothing.none w (ahead.least w e m) m }

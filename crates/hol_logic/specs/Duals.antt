-- The duals of negated formulas: de Morgan's laws.
use Rattle.std.specs.Prelude.{◌≡◌}
use Rattle.hol_types.specs.Ty.{Ty}
use Rattle.hol_terms.specs.Term.{Term, FreeTm, BoundTm, ConstTm, NumTm, AppTm, LamTm}
use Rattle.hol_terms.specs.Constants.{negation, conjunction, disjunction, implication, for_all, exists}

-- what a predicate states of its bound variable, Bound 0: a lambda's body, else the application
abbrev pub stated_by : Ty → Term → Term
stated_by ty (LamTm u b) = b
stated_by ty (FreeTm k n u) = AppTm (FreeTm k n u) (BoundTm 0 ty)
stated_by ty (BoundTm i u) = AppTm (BoundTm i u) (BoundTm 0 ty)
stated_by ty (ConstTm n u) = AppTm (ConstTm n u) (BoundTm 0 ty)
stated_by ty (NumTm z) = AppTm (NumTm z) (BoundTm 0 ty)
stated_by ty (AppTm f x) = AppTm (AppTm f x) (BoundTm 0 ty)

-- the predicate that states the contrary
abbrev pub contrary : Ty → Term → Term
contrary ty p = LamTm ty (negation (stated_by ty p))

-- the dual of a negated conjunction, disjunction, implication or quantifier
pub data IsDual (t dual : Term) : Type 0 where
  of_and : (a b : Term) → t ≡ negation (conjunction a b) → dual ≡ disjunction (negation a) (negation b) → IsDual t dual
  of_or : (a b : Term) → t ≡ negation (disjunction a b) → dual ≡ conjunction (negation a) (negation b) → IsDual t dual
  of_imp : (a b : Term) → t ≡ negation (implication a b) → dual ≡ conjunction a (negation b) → IsDual t dual
  of_all : (ty : Ty) (p : Term) → t ≡ negation (for_all ty p) → dual ≡ exists ty (contrary ty p) → IsDual t dual
  of_exists : (ty : Ty) (p : Term) → t ≡ negation (exists ty p) → dual ≡ for_all ty (contrary ty p) → IsDual t dual

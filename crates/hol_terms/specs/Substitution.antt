-- Substitution on terms, in the locally nameless style: a term that is put in has no loose Bound.
use Rattle.std.specs.Prelude.{ℕ, ◌+◌, ◌<◌, ◌==◌, if◌then◌else◌, List, [], ◌∷◌, ◌++◌}
use Rattle.hol_types.specs.TypeSubst.{TypeSubst, instance_of, variables_of}
use Rattle.hol_terms.specs.Term.{Term, FreeTm, BoundTm, ConstTm, NumTm, AppTm, LamTm}
use Rattle.hol_terms.specs.TermEq.{term_eq}

-- the term with u for the free variable v
abbrev pub subst_free : Term → Term → Term → Term
subst_free v u (FreeTm k n t) = if term_eq (FreeTm k n t) v then u else FreeTm k n t
subst_free v u (BoundTm i t) = BoundTm i t
subst_free v u (ConstTm n t) = ConstTm n t
subst_free v u (NumTm z) = NumTm z
subst_free v u (AppTm f x) = AppTm (subst_free v u f) (subst_free v u x)
subst_free v u (LamTm t b) = LamTm t (subst_free v u b)

-- the term with u for each loose Bound of the index: at 0, the body of a lambda with u for the bound variable
abbrev pub subst_bound : Term → ℕ → Term → Term
subst_bound (FreeTm k n t) i u = FreeTm k n t
subst_bound (BoundTm j t) i u = if j == i then u else BoundTm j t
subst_bound (ConstTm n t) i u = ConstTm n t
subst_bound (NumTm z) i u = NumTm z
subst_bound (AppTm f x) i u = AppTm (subst_bound f i u) (subst_bound x i u)
subst_bound (LamTm t b) i u = LamTm t (subst_bound b (i + 1) u)

-- the term with the Bound of the index for the free variable v
abbrev pub close_free : Term → ℕ → Term → Term
close_free (FreeTm k n t) i v = if term_eq (FreeTm k n t) v then BoundTm i t else FreeTm k n t
close_free (BoundTm j t) i v = BoundTm j t
close_free (ConstTm n t) i v = ConstTm n t
close_free (NumTm z) i v = NumTm z
close_free (AppTm f x) i v = AppTm (close_free f i v) (close_free x i v)
close_free (LamTm t b) i v = LamTm t (close_free b (i + 1) v)

-- the term with types for its type variables
abbrev pub subst_types : TypeSubst → Term → Term
subst_types s (FreeTm k n t) = FreeTm k n (instance_of s t)
subst_types s (BoundTm i t) = BoundTm i (instance_of s t)
subst_types s (ConstTm n t) = ConstTm n (instance_of s t)
subst_types s (NumTm z) = NumTm z
subst_types s (AppTm f x) = AppTm (subst_types s f) (subst_types s x)
subst_types s (LamTm t b) = LamTm (instance_of s t) (subst_types s b)

-- the free variables of a term
abbrev pub free_variables : Term → List Term
free_variables (FreeTm k n t) = FreeTm k n t ∷ []
free_variables (BoundTm i t) = []
free_variables (ConstTm n t) = []
free_variables (NumTm z) = []
free_variables (AppTm f x) = free_variables f ++ free_variables x
free_variables (LamTm t b) = free_variables b

-- the names of the type variables of a term
abbrev pub type_variables : Term → List (List ℕ)
type_variables (FreeTm k n t) = variables_of t
type_variables (BoundTm i t) = variables_of t
type_variables (ConstTm n t) = variables_of t
type_variables (NumTm z) = []
type_variables (AppTm f x) = type_variables f ++ type_variables x
type_variables (LamTm t b) = variables_of t ++ type_variables b

-- each loose Bound is below the number
abbrev pub LooseBelow : Term → ℕ → Type 0
LooseBelow (FreeTm k n t) d = Unit {0}
LooseBelow (BoundTm j t) d = j < d
LooseBelow (ConstTm n t) d = Unit {0}
LooseBelow (NumTm z) d = Unit {0}
LooseBelow (AppTm f x) d = LooseBelow f d × LooseBelow x d
LooseBelow (LamTm t b) d = LooseBelow b (d + 1)

-- there is no loose Bound
abbrev pub IsClosed : Term → Type 0
IsClosed t = LooseBelow t 0

-- the term is a free variable
abbrev pub IsFreeVariable : Term → Type 0
IsFreeVariable (FreeTm k n t) = Unit {0}
IsFreeVariable (BoundTm i t) = ⊥
IsFreeVariable (ConstTm n t) = ⊥
IsFreeVariable (NumTm z) = ⊥
IsFreeVariable (AppTm f x) = ⊥
IsFreeVariable (LamTm t b) = ⊥

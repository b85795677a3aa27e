-- The terms that trees are read as.
use Rattle.std.specs.Prelude.{ℕ, ◌^◌, neg_ℤ, List, [], ◌∷◌, map, Option, Some, None, Ok, Bool, true, false, ◌&&◌, if◌then◌else◌, nat_lt, bytes_eq, codes}
use Rattle.std.specs.Map.{lookup}
use Rattle.hol_types.specs.Ty.{Ty, BoolTy, IntTy, VarTy, FunTy, ConsTy}
use Rattle.hol_types.specs.TyEq.{ty_eq}
use Rattle.hol_terms.specs.Term.{Term, FreeTm, BoundTm, ConstTm, NumTm, AppTm, LamTm, ty_of}
use Rattle.hol_terms.specs.Constants.{true_tm, false_tm, number}
use Rattle.sexp.specs.Tree.{Tree, Trees, AtomTree, QuotedTree, ListTree, no_trees, more_trees}
use Rattle.goal_text.specs.declared.fault.GoalKind.TheVariants.{Syntax, Number, UnknownName, IllTyped, FreeTypeVariable}
use Rattle.goal_text.specs.Read.{Read, ◌>>=◌, faulty, wanting}
use Rattle.goal_text.specs.Lexicon.{is_variable, is_number, value_of, misplaced}
use Rattle.goal_text.specs.Names.{Env, bound_to}
use Rattle.goal_text.specs.Matching.{is_ground, is_instance, instance_for}
use Rattle.goal_text.specs.Operations.{fits, meaning, fits_body, under_all}
use Rattle.goal_text.specs.Forms.{Form, Applied, Instance, Negative, Operation, Binding, Ascription, Part, Skipped, ReadTerm, Divisor, form_of, inside, parts_of}

-- ---- atoms

-- a constant that stands alone
abbrev pub constant_by : Option Ty → ℕ → List ℕ → Read Term
constant_by None at name = faulty UnknownName at
constant_by (Some type) at name = wanting (is_ground type) FreeTypeVariable at (Ok (ConstTm name type))

-- the innermost variable of the name, or the constant
abbrev pub name_by : Option (ℕ × Ty) → Env → ℕ → List ℕ → Read Term
name_by (Some b) env at text = Ok (BoundTm b.0 b.1)
name_by None env at text = constant_by (lookup (bytes_eq text) env.consts) at text

-- a number below 2^127
abbrev pub literal_of : ℕ → List ℕ → Read Term
literal_of at text = wanting (nat_lt (value_of text) (2 ^ 127)) Number at (Ok (number (value_of text)))

unfoldable pub atom_of : Env → ℕ → List ℕ → Read Term
atom_of env at text =
    if is_number text then literal_of at text else
    if bytes_eq text (codes "true") then Ok true_tm else
    if bytes_eq text (codes "false") then Ok false_tm else
    wanting (is_variable text) Syntax at (name_by (bound_to env.binders text) env at text)

-- a number from 1
unfoldable pub divisor_of : Tree → Read Term
divisor_of (AtomTree at text) = if is_number text && nat_lt 0 (value_of text) then literal_of at text else misplaced (AtomTree at text)
divisor_of (QuotedTree at text) = misplaced (QuotedTree at text)
divisor_of (ListTree at parts) = misplaced (ListTree at parts)

-- ---- lists, once their parts are read

-- a function of the type takes arguments of these types
abbrev pub takes_all : Ty → List Ty → Bool
takes_all t [] = true
takes_all (FunTy a b) (t ∷ ts) = ty_eq a t && takes_all b ts
takes_all BoolTy (t ∷ ts) = false
takes_all IntTy (t ∷ ts) = false
takes_all (VarTy n) (t ∷ ts) = false
takes_all (ConsTy n us) (t ∷ ts) = false

-- a function applied to arguments, from left to right
abbrev pub applied : Term → List Term → Term
applied f [] = f
applied f (x ∷ xs) = applied (AppTm f x) xs

unfoldable pub apply_all : ℕ → Term → List Term → Read Term
apply_all at f xs = wanting (takes_all (ty_of f) (map ty_of xs)) IllTyped at (Ok (applied f xs))

-- the negative literal
abbrev pub negative : Term → Term
negative (NumTm z) = NumTm (neg_ℤ z)
negative (FreeTm k n t) = FreeTm k n t
negative (BoundTm i t) = BoundTm i t
negative (ConstTm n t) = ConstTm n t
negative (AppTm f x) = AppTm f x
negative (LamTm t b) = LamTm t b

-- on exit: the term of a form whose parts are these terms
unfoldable pub built : ℕ → Form → List Term → Read Term
built at Applied [] = faulty Syntax at
built at Applied (f ∷ xs) = apply_all at f xs
built at (Instance head name type) xs = do
  f ← instance_for at head name type (map ty_of xs)
  apply_all at f xs
built at Negative [] = faulty Syntax at
built at Negative (n ∷ more) = Ok (negative n)
built at (Operation operator) [] = faulty Syntax at
built at (Operation operator) (a ∷ more) = wanting (fits operator (map ty_of (a ∷ more))) IllTyped at (Ok (meaning operator a more))
built at (Binding binder binders) [] = faulty Syntax at
built at (Binding binder binders) (body ∷ more) = wanting (fits_body binder (ty_of body)) IllTyped at (Ok (under_all binder binders body))
built at (Ascription name declared type) terms = wanting (is_instance declared type) IllTyped at (Ok (ConstTm name type))

unfoldable mutual
  -- each list on entry before its parts, and its types on exit
  pub term_of : Env → Tree → Read Term
  term_of env (AtomTree at text) = atom_of env at text
  term_of env (QuotedTree at text) = faulty Syntax at
  term_of env (ListTree at parts) = do
    form ← form_of env at parts
    terms ← terms_of (inside env form) (parts_of form) parts
    built at form terms

  -- the parts from left to right
  pub terms_of : Env → List Part → Trees → Read (List Term)
  terms_of env kinds no_trees = Ok []
  terms_of env [] (more_trees part parts) = do
    first ← term_of env part
    others ← terms_of env [] parts
    Ok (first ∷ others)
  terms_of env (Skipped ∷ kinds) (more_trees part parts) = terms_of env kinds parts
  terms_of env (ReadTerm ∷ kinds) (more_trees part parts) = do
    first ← term_of env part
    others ← terms_of env kinds parts
    Ok (first ∷ others)
  terms_of env (Divisor ∷ kinds) (more_trees part parts) = do
    first ← divisor_of part
    others ← terms_of env kinds parts
    Ok (first ∷ others)

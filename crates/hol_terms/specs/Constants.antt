-- The constants of HOL with their types, and the terms that are made of them. Source: simple type theory
-- with equality, choice, conditionals and integers.
use Rattle.std.specs.Prelude.{ℕ, ℤ, pos, codes}
use Rattle.hol_types.specs.Ty.{Ty, BoolTy, IntTy, FunTy}
use Rattle.hol_terms.specs.Term.{Term, ConstTm, NumTm, AppTm}

-- the type of functions of two arguments
abbrev pub FunTy2 : Ty → Ty → Ty → Ty
FunTy2 a b c = FunTy a (FunTy b c)

-- true and false
abbrev pub true_tm : Term
true_tm = ConstTm (codes "true") BoolTy

abbrev pub false_tm : Term
false_tm = ConstTm (codes "false") BoolTy

-- the connectives
abbrev pub not_tm : Term
not_tm = ConstTm (codes "not") (FunTy BoolTy BoolTy)

abbrev pub and_tm : Term
and_tm = ConstTm (codes "and") (FunTy2 BoolTy BoolTy BoolTy)

abbrev pub or_tm : Term
or_tm = ConstTm (codes "or") (FunTy2 BoolTy BoolTy BoolTy)

abbrev pub imp_tm : Term
imp_tm = ConstTm (codes "=>") (FunTy2 BoolTy BoolTy BoolTy)

-- equality at a type
abbrev pub eq_tm : Ty → Term
eq_tm t = ConstTm (codes "eq") (FunTy2 t t BoolTy)

-- the choice between two of a type by a formula
abbrev pub ite_tm : Ty → Term
ite_tm t = ConstTm (codes "ite") (FunTy BoolTy (FunTy2 t t t))

-- integer arithmetic; div and mod are quotient and remainder
abbrev pub add_tm : Term
add_tm = ConstTm (codes "+") (FunTy2 IntTy IntTy IntTy)

abbrev pub mul_tm : Term
mul_tm = ConstTm (codes "*") (FunTy2 IntTy IntTy IntTy)

abbrev pub neg_tm : Term
neg_tm = ConstTm (codes "neg") (FunTy IntTy IntTy)

abbrev pub sub_tm : Term
sub_tm = ConstTm (codes "sub") (FunTy2 IntTy IntTy IntTy)

abbrev pub div_tm : Term
div_tm = ConstTm (codes "div") (FunTy2 IntTy IntTy IntTy)

abbrev pub mod_tm : Term
mod_tm = ConstTm (codes "mod") (FunTy2 IntTy IntTy IntTy)

-- at most and less, on integers
abbrev pub le_tm : Term
le_tm = ConstTm (codes "le") (FunTy2 IntTy IntTy BoolTy)

abbrev pub lt_tm : Term
lt_tm = ConstTm (codes "lt") (FunTy2 IntTy IntTy BoolTy)

-- the quantifiers and choice, over a type
abbrev pub all_tm : Ty → Term
all_tm t = ConstTm (codes "all") (FunTy (FunTy t BoolTy) BoolTy)

abbrev pub ex_tm : Ty → Term
ex_tm t = ConstTm (codes "ex") (FunTy (FunTy t BoolTy) BoolTy)

abbrev pub choice_tm : Ty → Term
choice_tm t = ConstTm (codes "choice") (FunTy (FunTy t BoolTy) t)

-- a function of two arguments, applied
abbrev pub apply_two : Term → Term → Term → Term
apply_two f x y = AppTm (AppTm f x) y

-- the formulas that the connectives make
abbrev pub negation : Term → Term
negation a = AppTm not_tm a

abbrev pub conjunction : Term → Term → Term
conjunction a b = apply_two and_tm a b

abbrev pub disjunction : Term → Term → Term
disjunction a b = apply_two or_tm a b

abbrev pub implication : Term → Term → Term
implication a b = apply_two imp_tm a b

-- the equation of two terms of a type
abbrev pub equation : Ty → Term → Term → Term
equation t a b = apply_two (eq_tm t) a b

-- the one of a and b that the condition c selects
abbrev pub conditional : Ty → Term → Term → Term → Term
conditional t c a b = AppTm (apply_two (ite_tm t) c a) b

-- a predicate on a type holds of each, or of some
abbrev pub for_all : Ty → Term → Term
for_all t p = AppTm (all_tm t) p

abbrev pub exists : Ty → Term → Term
exists t p = AppTm (ex_tm t) p

-- a value of which the predicate holds, where there is one
abbrev pub chosen : Ty → Term → Term
chosen t p = AppTm (choice_tm t) p

-- the literal of a value, and of one from 0
abbrev pub literal : ℤ → Term
literal z = NumTm z

abbrev pub number : ℕ → Term
number n = NumTm (pos n)

-- the integer terms that the operations make
abbrev pub add : Term → Term → Term
add a b = apply_two add_tm a b

abbrev pub mul : Term → Term → Term
mul a b = apply_two mul_tm a b

abbrev pub neg : Term → Term
neg a = AppTm neg_tm a

abbrev pub sub : Term → Term → Term
sub a b = apply_two sub_tm a b

abbrev pub quotient : Term → Term → Term
quotient a n = apply_two div_tm a n

abbrev pub remainder : Term → Term → Term
remainder a n = apply_two mod_tm a n

-- comparisons of integers
abbrev pub at_most : Term → Term → Term
at_most a b = apply_two le_tm a b

abbrev pub less : Term → Term → Term
less a b = apply_two lt_tm a b

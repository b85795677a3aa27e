-- Which terms share a list, and what stands round a term.
use Rattle.std.specs.Prelude.{ℕ, List, [], Bool, false, ◌&&◌, if◌then◌else◌, nat_eq, bytes_eq, codes, Option, Some, None, ℤ, pos, negsuc}
use Rattle.hol_terms.specs.Term.{Term, FreeTm, BoundTm, ConstTm, NumTm, AppTm, LamTm}
use Rattle.goal_print.specs.declared.kind.Kind.{Kind}
use Rattle.goal_print.specs.declared.kind.Kind.TheVariants.{Leaf, Application, Conditional, NegatedZero, And, Or, Sum, Product, Forall, Exists, Lambda}

-- ---- what an application is

-- a constant with two arguments
abbrev pub kind_by_two : List ℕ → Kind
kind_by_two name =
    if bytes_eq name (codes "and") then And else
    if bytes_eq name (codes "or") then Or else
    if bytes_eq name (codes "+") then Sum else
    if bytes_eq name (codes "*") then Product else Application

-- a constant with a lambda as its argument
abbrev pub kind_by_lambda : List ℕ → Kind
kind_by_lambda name =
    if bytes_eq name (codes "all") then Forall else
    if bytes_eq name (codes "ex") then Exists else Application

abbrev pub is_zero : ℤ → Bool
is_zero (pos n) = nat_eq n 0
is_zero (negsuc n) = false

-- a constant with a number as its argument: the negative of 0, which isn't the number `(- 0)`
abbrev pub kind_by_number : List ℕ → ℤ → Kind
kind_by_number name value = if bytes_eq name (codes "neg") && is_zero value then NegatedZero else Application

-- a constant with three arguments
abbrev pub kind_by_three : List ℕ → Kind
kind_by_three name = if bytes_eq name (codes "ite") then Conditional else Application

-- what f is, with three arguments
abbrev pub kind_of_three : Term → Kind
kind_of_three (ConstTm name type) = kind_by_three name
kind_of_three (FreeTm kind name type) = Application
kind_of_three (BoundTm index type) = Application
kind_of_three (NumTm value) = Application
kind_of_three (AppTm f x) = Application
kind_of_three (LamTm type body) = Application

-- what f is, with two arguments
abbrev pub kind_of_two : Term → Kind
kind_of_two (ConstTm name type) = kind_by_two name
kind_of_two (AppTm f x) = kind_of_three f
kind_of_two (FreeTm kind name type) = Application
kind_of_two (BoundTm index type) = Application
kind_of_two (NumTm value) = Application
kind_of_two (LamTm type body) = Application

-- what the constant is, applied to x
abbrev pub kind_of_constant : List ℕ → Term → Kind
kind_of_constant name (LamTm type body) = kind_by_lambda name
kind_of_constant name (FreeTm kind free type) = Application
kind_of_constant name (BoundTm index type) = Application
kind_of_constant name (ConstTm constant type) = Application
kind_of_constant name (NumTm value) = kind_by_number name value
kind_of_constant name (AppTm f y) = Application

-- what f applied to x is
unfoldable pub kind_of : Term → Term → Kind
kind_of (ConstTm name type) x = kind_of_constant name x
kind_of (AppTm f y) x = kind_of_two f
kind_of (FreeTm kind name type) x = Application
kind_of (BoundTm index type) x = Application
kind_of (NumTm value) x = Application
kind_of (LamTm type body) x = Application

-- ---- a term in the list in which it stands

-- kinds by number
abbrev pub rank : Kind → ℕ
rank Leaf = 0
rank Application = 1
rank Conditional = 2
rank NegatedZero = 3
rank And = 4
rank Or = 5
rank Sum = 6
rank Product = 7
rank Forall = 8
rank Exists = 9
rank Lambda = 10

-- whether a term goes on with the list in which it stands, which is one of its own kind
abbrev pub goes_on : Option Kind → Kind → Bool
goes_on None kind = false
goes_on (Some place) kind = nat_eq (rank place) (rank kind)

-- what goes before a part of a list that doesn't go on with it; the body ends a list of binders
abbrev pub before_part : Kind → List ℕ
before_part Leaf = []
before_part Application = []
before_part Conditional = []
before_part NegatedZero = []
before_part And = codes " "
before_part Or = codes " "
before_part Sum = codes " "
before_part Product = codes " "
before_part Forall = codes ") "
before_part Exists = codes ") "
before_part Lambda = codes ") "

-- what goes before a part that goes on with the list: a blank between two binders
abbrev pub between : Kind → List ℕ
between Leaf = []
between Application = []
between Conditional = []
between NegatedZero = []
between And = []
between Or = []
between Sum = []
between Product = []
between Forall = codes " "
between Exists = codes " "
between Lambda = codes " "

-- how a list opens
abbrev pub opening : Kind → List ℕ
opening Leaf = []
opening Application = codes "("
opening Conditional = codes "("
opening NegatedZero = codes "(- ("
opening And = codes "(and"
opening Or = codes "(or"
opening Sum = codes "(+"
opening Product = codes "(*"
opening Forall = codes "(forall ("
opening Exists = codes "(exists ("
opening Lambda = codes "(lambda ("

-- how it closes
abbrev pub closing : Kind → List ℕ
closing Leaf = []
closing Application = codes ")"
closing Conditional = codes ")"
closing NegatedZero = codes "))"
closing And = codes ")"
closing Or = codes ")"
closing Sum = codes ")"
closing Product = codes ")"
closing Forall = codes ")"
closing Exists = codes ")"
closing Lambda = codes ")"

abbrev pub before : Option Kind → List ℕ
before None = []
before (Some place) = before_part place

-- what leads to a term in its place
unfoldable pub lead : Option Kind → Kind → List ℕ
lead place kind = if goes_on place kind then between kind else before place

-- what opens and closes its list, where it doesn't go on with another
unfoldable pub open_list : Option Kind → Kind → List ℕ
open_list place kind = if goes_on place kind then [] else opening kind

unfoldable pub close_list : Option Kind → Kind → List ℕ
close_list place kind = if goes_on place kind then [] else closing kind

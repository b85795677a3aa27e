-- A term is written as the text of its shape.
use Rattle.std.proofs.Common.{◌≡◌, ℕ, suc, ◌+◌, ◌-◌, List, [], ◌++◌, Bool, true, false, Option, Some, None, ℤ, pos, negsuc, codes, refl, ap, ap₂, sym, ◌∙◌, append_assoc, if◌then◌else◌}
use Rattle.std.proofs.lemmas.List.{append-nil}
use Rattle.std.specs.Fmt.{decimal}
use Rattle.hol_types.specs.Ty.{Ty}
use Rattle.hol_terms.specs.Term.{Term, FreeTm, BoundTm, ConstTm, NumTm, AppTm, LamTm}
use Rattle.goal_text.specs.Names.{Constants}
use Rattle.goal_print.specs.Shapes.{Shape, Shapes, AtomShape, joined, one_shape, shape_text, shapes_text, behind_text}
use Rattle.goal_print.specs.Kinds.{kind_of, kind_of_two, goes_on, lead, open_list, close_list}
use Rattle.goal_print.specs.TermText.{literal_text, variable_text, is_schematic, constant_text, binder_text, parts_text, text_in, first_in, body_in}
use Rattle.goal_print.specs.TermShape.{type_shape, literal_shape, constant_shape, binder_shape, Written, Whole, shape_of, in_list, binders_in, chained, applied_to, written_by, written, first_written, bound_written, term_shape}
use Rattle.goal_print.specs.TermShape.{body_in as body_shape}
use Rattle.goal_print.specs.declared.kind.Kind.{Kind}
use Rattle.goal_print.specs.declared.kind.Kind.TheVariants.{Leaf, Application, Conditional, NegatedZero, And, Or, Sum, Product, Forall, Exists, Lambda}
use Rattle.goal_print.proofs.TypeTextLemmas.{type_written}
use Rattle.goal_print.proofs.PlaceLemmas.{HasBinders, GoesOn, IsProper, kind_in, parts_in, inner_text, placed, alone, in_parts, behind_binders, behind_joined, shapes_joined, joined_some, in_list_some}

-- ---- what applications of each kind have

-- an application, with the argument that is the first of an operation
abbrev pub HasArgument : Term → Type 0
HasArgument (AppTm f x) = Unit {0}
HasArgument (FreeTm kind name type) = ⊥
HasArgument (BoundTm index type) = ⊥
HasArgument (ConstTm name type) = ⊥
HasArgument (NumTm value) = ⊥
HasArgument (LamTm type body) = ⊥

-- what a quantifier is applied to
abbrev pub IsLambda : Term → Type 0
IsLambda (LamTm type body) = Unit {0}
IsLambda (FreeTm kind name type) = ⊥
IsLambda (BoundTm index type) = ⊥
IsLambda (ConstTm name type) = ⊥
IsLambda (NumTm value) = ⊥
IsLambda (AppTm f x) = ⊥

-- an application that is of the kind has the parts that the kind writes
abbrev pub Applies : Kind → Term → Term → Type 0
Applies Leaf f x = ⊥
Applies Application f x = Unit {0}
Applies Conditional f x = Unit {0}
Applies NegatedZero f x = Unit {0}
Applies And f x = HasArgument f
Applies Or f x = HasArgument f
Applies Sum f x = HasArgument f
Applies Product f x = HasArgument f
Applies Forall f x = IsLambda x
Applies Exists f x = IsLambda x
Applies Lambda f x = ⊥

by_two : (conjoins disjoins sums multiplies : Bool) (f x : Term) → HasArgument f → Applies (if conjoins then And else if disjoins then Or else if sums then Sum else if multiplies then Product else Application) f x
by_two true disjoins sums multiplies f x has = has
by_two false true sums multiplies f x has = has
by_two false false true multiplies f x has = has
by_two false false false true f x has = has
by_two false false false false f x has = tt

by_three : (conditional : Bool) (f x : Term) → Applies (if conditional then Conditional else Application) f x
by_three true f x = tt
by_three false f x = tt

by_number : (negated_zero : Bool) (f x : Term) → Applies (if negated_zero then NegatedZero else Application) f x
by_number true f x = tt
by_number false f x = tt

by_lambda : (all some : Bool) (f x : Term) → IsLambda x → Applies (if all then Forall else if some then Exists else Application) f x
by_lambda true some f x is = is
by_lambda false true f x is = is
by_lambda false false f x is = tt

of_two : (f y x : Term) → Applies (kind_of_two f) (AppTm f y) x
of_two (ConstTm name type) y x = by_two _ _ _ _ (AppTm (ConstTm name type) y) x tt
of_two (AppTm (ConstTm name type) z) y x = by_three _ (AppTm (AppTm (ConstTm name type) z) y) x
of_two (AppTm (FreeTm kind name type) z) y x = tt
of_two (AppTm (BoundTm index type) z) y x = tt
of_two (AppTm (NumTm value) z) y x = tt
of_two (AppTm (AppTm g w) z) y x = tt
of_two (AppTm (LamTm type body) z) y x = tt
of_two (FreeTm kind name type) y x = tt
of_two (BoundTm index type) y x = tt
of_two (NumTm value) y x = tt
of_two (LamTm type body) y x = tt

pub applies : (f x : Term) → Applies (kind_of f x) f x
unfolding kind_of
applies (ConstTm name type) (LamTm bound body) = by_lambda _ _ (ConstTm name type) (LamTm bound body) tt
applies (ConstTm name type) (NumTm value) = by_number _ (ConstTm name type) (NumTm value)
applies (ConstTm name type) (FreeTm kind free other) = tt
applies (ConstTm name type) (BoundTm index other) = tt
applies (ConstTm name type) (ConstTm constant other) = tt
applies (ConstTm name type) (AppTm g y) = tt
applies (AppTm f y) x = of_two f y x
applies (FreeTm kind name type) x = tt
applies (BoundTm index type) x = tt
applies (NumTm value) x = tt
applies (LamTm type body) x = tt

-- ---- what is written is proper

proper_by : (kind : Kind) (function first argument bound : Written) (f x : Term) → Applies kind f x → (HasBinders kind → IsProper bound) → IsProper (written_by kind function first argument bound)
proper_by Leaf function first argument bound f x is binds = absurd is
proper_by Application function first argument bound f x is binds = (tt, joined_some _ _)
proper_by Conditional function first argument bound f x is binds = (tt, joined_some _ _)
proper_by NegatedZero function first argument bound f x is binds = (tt, joined_some _ _)
proper_by And function first argument bound f x is binds = (tt, tt)
proper_by Or function first argument bound f x is binds = (tt, tt)
proper_by Sum function first argument bound f x is binds = (tt, joined_some _ _)
proper_by Product function first argument bound f x is binds = (tt, joined_some _ _)
proper_by Forall function first argument bound f x is binds = binds tt
proper_by Exists function first argument bound f x is binds = binds tt
proper_by Lambda function first argument bound f x is binds = absurd is

bound_proper : (consts : Constants) (kind : Kind) (depth : ℕ) (t : Term) → HasBinders kind → IsProper (bound_written consts kind depth t)
unfolding bound_written
bound_proper consts kind depth (LamTm type body) binds = (binds, tt)
bound_proper consts kind depth (FreeTm free name type) binds = tt
bound_proper consts kind depth (BoundTm index type) binds = tt
bound_proper consts kind depth (ConstTm name type) binds = tt
bound_proper consts kind depth (NumTm value) binds = tt
bound_proper consts kind depth (AppTm f x) binds = tt

pub proper : (consts : Constants) (depth : ℕ) (t : Term) → IsProper (written consts depth t)
unfolding written
proper consts depth (FreeTm kind name type) = tt
proper consts depth (BoundTm index type) = tt
proper consts depth (ConstTm name type) = tt
proper consts depth (NumTm value) = tt
proper consts depth (LamTm type body) = (tt, tt)
proper consts depth (AppTm f x) =
    proper_by (kind_of f x) (written consts depth f) (first_written consts depth f) (written consts depth x) (bound_written consts (kind_of f x) depth x) f x (applies f x) (bound_proper consts (kind_of f x) depth x)

first_proper : (consts : Constants) (depth : ℕ) (t : Term) → IsProper (first_written consts depth t)
unfolding first_written
first_proper consts depth (AppTm f x) = proper consts depth x
first_proper consts depth (FreeTm kind name type) = tt
first_proper consts depth (BoundTm index type) = tt
first_proper consts depth (ConstTm name type) = tt
first_proper consts depth (NumTm value) = tt
first_proper consts depth (LamTm type body) = tt

-- ---- terms without parts

-- a blank before what is in a list, and before the last of it
before_last : (front text : List ℕ) → front ++ codes " " ++ text ≡ front ++ (codes " " ++ text ++ [])
before_last front text = append_assoc front (codes " ") text ∙ ap (λ last. front ++ (codes " " ++ last)) (sym (append-nil text))

literal_written : (value : ℤ) → literal_text value ≡ shape_text (literal_shape value)
unfolding shape_text shapes_text behind_text
literal_written (pos n) = refl
literal_written (negsuc n) = ap (λ text. codes "(- " ++ text ++ codes ")") (sym (append-nil (decimal (suc n))))

constant_written : (schematic : Bool) (name : List ℕ) (type : Ty) → constant_text schematic name type ≡ shape_text (constant_shape schematic name type)
unfolding shape_text shapes_text behind_text
constant_written false name type = refl
constant_written true name type = rw (type_written type) (ap (λ text. codes "(as " ++ text ++ codes ")") (before_last name (shape_text (type_shape type))))

binder_written : (depth : ℕ) (type : Ty) → binder_text depth type ≡ shape_text (binder_shape depth type)
unfolding shape_text shapes_text behind_text
binder_written depth type = rw (type_written type) (ap (λ text. codes "(" ++ text ++ codes ")") (before_last (variable_text depth) (shape_text (type_shape type))))

leaf_placed : (place : Option Kind) (shape : Shape) → lead place Leaf ++ shape_text shape ≡ placed place (Whole shape)
unfolding open_list close_list
leaf_placed place shape = by (goes_on place Leaf)
  where
    by : (on : Bool) → lead place Leaf ++ shape_text shape ≡ lead place Leaf ++ (if on then [] else []) ++ shape_text shape ++ (if on then [] else [])
    by true = ap (λ front. front ++ shape_text shape) (sym (append-nil (lead place Leaf))) ∙ sym (append-nil _)
    by false = ap (λ front. front ++ shape_text shape) (sym (append-nil (lead place Leaf))) ∙ sym (append-nil _)

-- ---- terms with parts

-- the parts of an application
applied_text : (function argument : Written) → IsProper function → IsProper argument
    → placed (Some Application) function ++ codes " " ++ placed None argument ≡ shapes_text (applied_to function argument)
unfolding behind_text
applied_text function argument f a =
    rw (in_parts Application function tt f, alone argument a, shapes_joined (in_list Application function) (one_shape (shape_of argument)) (in_list_some Application function f))
    (before_last (shapes_text (in_list Application function)) (shape_text (shape_of argument)))

right_text : (kind : Kind) (first second : Written) → GoesOn kind → IsProper first → IsProper second
    → codes " " ++ placed None first ++ placed (Some kind) second ≡ codes " " ++ shape_text (shape_of first) ++ parts_in kind (in_list kind second)
right_text kind first second goes f s = rw (alone first f, in_parts kind second goes s) refl

left_text : (kind : Kind) (first second : Written) → GoesOn kind → IsProper first → IsProper second
    → placed (Some kind) first ++ codes " " ++ placed None second ≡ parts_in kind (in_list kind first) ++ codes " " ++ shape_text (shape_of second)
left_text kind first second goes f s = rw (in_parts kind first goes f, alone second s) refl

-- a binder and what stands behind it
bound_text : (kind : Kind) (binder : Shape) (body : Written) → HasBinders kind → IsProper body
    → shape_text binder ++ placed (Some kind) body ≡ inner_text (chained kind binder body)
unfolding shapes_text
bound_text kind binder body binds is =
    rw (behind_binders kind body binds is)
    (sym (append_assoc (shape_text binder) (behind_text (binders_in kind body) ++ codes ") ") (shape_text (body_shape kind body)))
    ∙ ap (λ front. front ++ shape_text (body_shape kind body)) (sym (append_assoc (shape_text binder) (behind_text (binders_in kind body)) (codes ") "))))

-- what the parts of an application of the kind are written as
module _ (function first argument bound : Written) (f x : Term) (applied right left lambda : List ℕ) where
  record AreParts (kind : Kind) : Type 0 where
    applies : Applies kind f x
    of_function : IsProper function
    of_first : IsProper first
    of_argument : IsProper argument
    as_applied : applied ≡ placed (Some Application) function ++ codes " " ++ placed None argument
    as_right : HasArgument f → right ≡ codes " " ++ placed None first ++ placed (Some kind) argument
    as_left : HasArgument f → left ≡ placed (Some kind) first ++ codes " " ++ placed None argument
    as_lambda : HasBinders kind → IsLambda x → lambda ≡ inner_text bound
    as_kind : HasBinders kind → IsLambda x → kind_in bound ≡ kind

  right_parts : (kind : Kind) → GoesOn kind → HasArgument f → AreParts kind → right ≡ codes " " ++ shape_text (shape_of first) ++ parts_in kind (in_list kind argument)
  right_parts kind goes has parts = parts.as_right has ∙ right_text kind first argument goes parts.of_first parts.of_argument

  left_parts : (kind : Kind) → GoesOn kind → HasArgument f → AreParts kind → left ≡ parts_in kind (in_list kind first) ++ codes " " ++ shape_text (shape_of argument)
  left_parts kind goes has parts = parts.as_left has ∙ left_text kind first argument goes parts.of_first parts.of_argument

  applied_parts : (kind : Kind) → AreParts kind → applied ≡ shapes_text (applied_to function argument)
  applied_parts kind parts = parts.as_applied ∙ applied_text function argument parts.of_function parts.of_argument

  behind_left : (parts : Shapes) → behind_text parts ++ codes " " ++ shape_text (shape_of argument) ≡ behind_text (joined parts (one_shape (shape_of argument)))
  unfolding behind_text
  behind_left parts = before_last (behind_text parts) (shape_text (shape_of argument)) ∙ sym (behind_joined parts (one_shape (shape_of argument)))

  parts_are : (kind : Kind) → AreParts kind → parts_text kind applied right left lambda ≡ inner_text (written_by kind function first argument bound)
  unfolding behind_text
  parts_are Leaf parts = absurd parts.applies
  parts_are Application parts = applied_parts Application parts
  parts_are Conditional parts = applied_parts Conditional parts
  parts_are NegatedZero parts = applied_parts NegatedZero parts
  parts_are And parts = right_parts And tt parts.applies parts
  parts_are Or parts = right_parts Or tt parts.applies parts
  parts_are Sum parts = left_parts Sum tt parts.applies parts ∙ behind_left (in_list Sum first)
  parts_are Product parts = left_parts Product tt parts.applies parts ∙ behind_left (in_list Product first)
  parts_are Forall parts = parts.as_lambda tt parts.applies
  parts_are Exists parts = parts.as_lambda tt parts.applies
  parts_are Lambda parts = absurd parts.applies

  kind_is : (kind : Kind) → AreParts kind → kind_in (written_by kind function first argument bound) ≡ kind
  kind_is Leaf parts = absurd parts.applies
  kind_is Application parts = refl
  kind_is Conditional parts = refl
  kind_is NegatedZero parts = refl
  kind_is And parts = refl
  kind_is Or parts = refl
  kind_is Sum parts = refl
  kind_is Product parts = refl
  kind_is Forall parts = parts.as_kind tt parts.applies
  kind_is Exists parts = parts.as_kind tt parts.applies
  kind_is Lambda parts = absurd parts.applies

  app_placed : (place : Option Kind) (kind : Kind) → AreParts kind
      → lead place kind ++ open_list place kind ++ parts_text kind applied right left lambda ++ close_list place kind ≡ placed place (written_by kind function first argument bound)
  app_placed place kind parts = rw (kind_is kind parts, parts_are kind parts) refl

-- a lambda's binder and what stands behind it
lambda_text : (kind : Kind) (depth : ℕ) (type : Ty) (body : Written) (text : List ℕ) → HasBinders kind → IsProper body → text ≡ placed (Some kind) body
    → binder_text depth type ++ text ≡ inner_text (chained kind (binder_shape depth type) body)
lambda_text kind depth type body text binds is e = ap₂ (λ binder behind. binder ++ behind) (binder_written depth type) e ∙ bound_text kind (binder_shape depth type) body binds is

bound_kind : (consts : Constants) (kind : Kind) (depth : ℕ) (t : Term) → IsLambda t → kind_in (bound_written consts kind depth t) ≡ kind
unfolding bound_written
bound_kind consts kind depth (LamTm type body) is = refl
bound_kind consts kind depth (FreeTm free name type) is = absurd is
bound_kind consts kind depth (BoundTm index type) is = absurd is
bound_kind consts kind depth (ConstTm name type) is = absurd is
bound_kind consts kind depth (NumTm value) is = absurd is
bound_kind consts kind depth (AppTm f x) is = absurd is

mutual
  unfolding text_in first_in body_in written first_written bound_written shape_text

  -- A term in its place is written as what it is there.
  pub text_placed : (consts : Constants) (place : Option Kind) (depth : ℕ) (t : Term) → text_in consts place depth t ≡ placed place (written consts depth t)
  text_placed consts place depth (FreeTm kind name type) = leaf_placed place (AtomShape name)
  text_placed consts place depth (BoundTm index type) = leaf_placed place (AtomShape (variable_text (depth - 1 - index)))
  text_placed consts place depth (ConstTm name type) =
      ap (λ text. lead place Leaf ++ text) (constant_written (is_schematic consts name) name type) ∙ leaf_placed place (constant_shape (is_schematic consts name) name type)
  text_placed consts place depth (NumTm value) = ap (λ text. lead place Leaf ++ text) (literal_written value) ∙ leaf_placed place (literal_shape value)
  text_placed consts place depth (LamTm type body) =
      ap (λ text. text ++ close_list place Lambda) (append_assoc (lead place Lambda ++ open_list place Lambda) (binder_text depth type) (text_in consts (Some Lambda) (depth + 1) body)
      ∙ ap (λ text. lead place Lambda ++ open_list place Lambda ++ text)
      (lambda_text Lambda depth type (written consts (depth + 1) body) (text_in consts (Some Lambda) (depth + 1) body) tt (proper consts (depth + 1) body) (text_placed consts (Some Lambda) (depth + 1) body)))
  text_placed consts place depth (AppTm f x) =
      app_placed (written consts depth f) (first_written consts depth f) (written consts depth x) (bound_written consts (kind_of f x) depth x) f x _ _ _ _ place (kind_of f x) (record {
        applies = applies f x;
        of_function = proper consts depth f;
        of_first = first_proper consts depth f;
        of_argument = proper consts depth x;
        as_applied = ap₂ (λ a b. a ++ codes " " ++ b) (text_placed consts (Some Application) depth f) (text_placed consts None depth x);
        as_right = λ has. ap₂ (λ a b. codes " " ++ a ++ b) (first_placed consts None depth f has) (text_placed consts (Some (kind_of f x)) depth x);
        as_left = λ has. ap₂ (λ a b. a ++ codes " " ++ b) (first_placed consts (Some (kind_of f x)) depth f has) (text_placed consts None depth x);
        as_lambda = λ binds is. body_placed consts (kind_of f x) depth x binds is;
        as_kind = λ binds is. bound_kind consts (kind_of f x) depth x is;
      })

  -- the first argument of an operation
  first_placed : (consts : Constants) (place : Option Kind) (depth : ℕ) (t : Term) → HasArgument t → first_in consts place depth t ≡ placed place (first_written consts depth t)
  first_placed consts place depth (AppTm f x) has = text_placed consts place depth x
  first_placed consts place depth (FreeTm kind name type) has = absurd has
  first_placed consts place depth (BoundTm index type) has = absurd has
  first_placed consts place depth (ConstTm name type) has = absurd has
  first_placed consts place depth (NumTm value) has = absurd has
  first_placed consts place depth (LamTm type body) has = absurd has

  -- a quantifier's lambda
  body_placed : (consts : Constants) (kind : Kind) (depth : ℕ) (t : Term) → HasBinders kind → IsLambda t → body_in consts kind depth t ≡ inner_text (bound_written consts kind depth t)
  body_placed consts kind depth (LamTm type body) binds is =
      lambda_text kind depth type (written consts (depth + 1) body) (text_in consts (Some kind) (depth + 1) body) binds (proper consts (depth + 1) body) (text_placed consts (Some kind) (depth + 1) body)
  body_placed consts kind depth (FreeTm free name type) binds is = absurd is
  body_placed consts kind depth (BoundTm index type) binds is = absurd is
  body_placed consts kind depth (ConstTm name type) binds is = absurd is
  body_placed consts kind depth (NumTm value) binds is = absurd is
  body_placed consts kind depth (AppTm f x) binds is = absurd is

-- A term is written as the text of its shape.
pub text_is : (consts : Constants) (depth : ℕ) (t : Term) → text_in consts None depth t ≡ shape_text (term_shape consts depth t)
text_is consts depth t = text_placed consts None depth t ∙ alone (written consts depth t) (proper consts depth t)

-- What is given stays given when more is declared.
use Rattle.std.proofs.Common.{◌≡◌, ℕ, List, ◌∷◌, Some}
use Rattle.std.specs.Prelude.{bytes_eq}
use Rattle.std.specs.Map.{lookup}
use Rattle.hol_types.specs.Ty.{Ty, Tys, BoolTy, IntTy, VarTy, FunTy, ConsTy, no_types, more_types}
use Rattle.hol_terms.specs.Term.{Term}
use Rattle.goal_text.specs.Names.{Constructors, Constants}
use Rattle.goal_text.specs.Given.{how_many, IsGivenType, AreGivenTypes, IsGivenConstant, IsGiven, given_bound, given_constant, given_number, given_negative, given_true, given_false, given_not, given_and, given_or, given_implies, given_equation, given_conditional, given_add, given_mul, given_sub, given_neg, given_at_most, given_less, given_quotient, given_remainder, given_all, given_ex, given_lambda, given_application}

-- what is declared by the one is declared by the other
pub record Declares {X : Type 0} (old new : List (List ℕ × X)) : Type 0 where
  pub kept : (name : List ℕ) (x : X) → lookup (bytes_eq name) old ≡ Some x → lookup (bytes_eq name) new ≡ Some x

pub declares_same : {X : Type 0} (old : List (List ℕ × X)) → Declares old old
declares_same old = record { kept = λ name x h. h }

module _ (old new : Constructors) (more : Declares old new) where
  mutual
    unfolding IsGivenType AreGivenTypes

    pub type_kept : (t : Ty) → IsGivenType old t → IsGivenType new t
    type_kept BoolTy h = tt
    type_kept IntTy h = tt
    type_kept (VarTy name) h = h
    type_kept (FunTy a b) h = (type_kept a h.0, type_kept b h.1)
    type_kept (ConsTy name ts) h = (h.0, more.kept name (how_many ts) h.1, types_kept ts h.2)

    types_kept : (ts : Tys) → AreGivenTypes old ts → AreGivenTypes new ts
    types_kept no_types all = tt
    types_kept (more_types t ts) all = (type_kept t all.0, types_kept ts all.1)

  module _ (older newer : Constants) (further : Declares older newer) where
    constant_kept : (name : List ℕ) (type : Ty) → IsGivenConstant old older name type → IsGivenConstant new newer name type
    constant_kept name type c = record {
      named = c.named;
      declared = c.declared;
      looked_up = further.kept name c.declared c.looked_up;
      own = c.own;
      an_instance = c.an_instance;
      given = type_kept type c.given;
    }

    pub term_kept : (bs : List Ty) (t : Term) → IsGiven old older bs t → IsGiven new newer bs t
    term_kept bs t (given_bound h) = given_bound h
    term_kept bs t (given_constant {name = name} {type = type} c) = given_constant (constant_kept name type c)
    term_kept bs t (given_number h) = given_number h
    term_kept bs t (given_negative h) = given_negative h
    term_kept bs t given_true = given_true
    term_kept bs t given_false = given_false
    term_kept bs t (given_not {a = a} g p) = given_not (term_kept bs a g) p
    term_kept bs t (given_and {a = a} {b = b} g p h q) = given_and (term_kept bs a g) p (term_kept bs b h) q
    term_kept bs t (given_or {a = a} {b = b} g p h q) = given_or (term_kept bs a g) p (term_kept bs b h) q
    term_kept bs t (given_implies {a = a} {b = b} g p h q) = given_implies (term_kept bs a g) p (term_kept bs b h) q
    term_kept bs t (given_equation {a = a} {b = b} g h p) = given_equation (term_kept bs a g) (term_kept bs b h) p
    term_kept bs t (given_conditional {c = c} {a = a} {b = b} k p g h q) = given_conditional (term_kept bs c k) p (term_kept bs a g) (term_kept bs b h) q
    term_kept bs t (given_add {a = a} {b = b} g p h q) = given_add (term_kept bs a g) p (term_kept bs b h) q
    term_kept bs t (given_mul {a = a} {b = b} g p h q) = given_mul (term_kept bs a g) p (term_kept bs b h) q
    term_kept bs t (given_sub {a = a} {b = b} g p h q) = given_sub (term_kept bs a g) p (term_kept bs b h) q
    term_kept bs t (given_neg {a = a} g p n) = given_neg (term_kept bs a g) p n
    term_kept bs t (given_at_most {a = a} {b = b} g p h q) = given_at_most (term_kept bs a g) p (term_kept bs b h) q
    term_kept bs t (given_less {a = a} {b = b} g p h q) = given_less (term_kept bs a g) p (term_kept bs b h) q
    term_kept bs t (given_quotient {a = a} g p n m) = given_quotient (term_kept bs a g) p n m
    term_kept bs t (given_remainder {a = a} g p n m) = given_remainder (term_kept bs a g) p n m
    term_kept bs t (given_all {t = u} {b = b} h g p) = given_all (type_kept u h) (term_kept (u ∷ bs) b g) p
    term_kept bs t (given_ex {t = u} {b = b} h g p) = given_ex (type_kept u h) (term_kept (u ∷ bs) b g) p
    term_kept bs t (given_lambda {t = u} {b = b} h g) = given_lambda (type_kept u h) (term_kept (u ∷ bs) b g)
    term_kept bs t (given_application {f = f} {x = x} g h e) = given_application (term_kept bs f g) (term_kept bs x h) e

-- Kinds are told apart by their numbers.
use Rattle.std.proofs.Common.{◌≡◌, ℕ, zero, suc, true, refl, sym, ap, ◌∙◌, subst, Option, Some, None}
use Rattle.std.proofs.lemmas.Bool.{eqb-true}
use Rattle.goal_print.specs.Kinds.{rank, goes_on}
use Rattle.goal_print.specs.declared.kind.Kind.{Kind}
use Rattle.goal_print.specs.declared.kind.Kind.TheVariants.{Leaf, Application, Conditional, NegatedZero, And, Or, Sum, Product, Forall, Exists, Lambda}

goes_itself : (k : Kind) → goes_on (Some k) k ≡ true
goes_itself Leaf = refl
goes_itself Application = refl
goes_itself Conditional = refl
goes_itself NegatedZero = refl
goes_itself And = refl
goes_itself Or = refl
goes_itself Sum = refl
goes_itself Product = refl
goes_itself Forall = refl
goes_itself Exists = refl
goes_itself Lambda = refl

pub is_same : (place : Option Kind) (kind : Kind) → place ≡ Some kind → goes_on place kind ≡ true
is_same place kind e = subst (λ (p : Option Kind). goes_on p kind ≡ true) (sym e) (goes_itself kind)

-- the kind of a number
abbrev kind_at : ℕ → Kind
kind_at zero = Leaf
kind_at (suc zero) = Application
kind_at (suc (suc zero)) = Conditional
kind_at (suc (suc (suc zero))) = NegatedZero
kind_at (suc (suc (suc (suc zero)))) = And
kind_at (suc (suc (suc (suc (suc zero))))) = Or
kind_at (suc (suc (suc (suc (suc (suc zero)))))) = Sum
kind_at (suc (suc (suc (suc (suc (suc (suc zero))))))) = Product
kind_at (suc (suc (suc (suc (suc (suc (suc (suc zero)))))))) = Forall
kind_at (suc (suc (suc (suc (suc (suc (suc (suc (suc zero))))))))) = Exists
kind_at (suc (suc (suc (suc (suc (suc (suc (suc (suc (suc n)))))))))) = Lambda

kind_at-rank : (k : Kind) → kind_at (rank k) ≡ k
kind_at-rank Leaf = refl
kind_at-rank Application = refl
kind_at-rank Conditional = refl
kind_at-rank NegatedZero = refl
kind_at-rank And = refl
kind_at-rank Or = refl
kind_at-rank Sum = refl
kind_at-rank Product = refl
kind_at-rank Forall = refl
kind_at-rank Exists = refl
kind_at-rank Lambda = refl

pub is_other : (place : Option Kind) (kind : Kind) → goes_on place kind ≡ true → place ≡ Some kind
is_other None kind h = cc
is_other (Some p) kind h = ap (λ (k : Kind). Some k) (sym (kind_at-rank p) ∙ ap kind_at (eqb-true (rank p) (rank kind) h) ∙ kind_at-rank kind)

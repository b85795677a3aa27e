-- What is read has no free variables, and no loose Bounds but those of the binders around it.
use Rattle.std.proofs.Common.{◌≡◌, ℕ, ◌+◌, ◌<◌, List, [], ◌∷◌, Some, Ok, Bool, true, false, length, refl, sym, ap, subst, ◌∙◌, arith}
use Rattle.std.specs.Prelude.{bytes_eq}
use Rattle.std.proofs.lemmas.Option.{none-some, same_Some}
use Rattle.hol_types.specs.Ty.{Ty, BoolTy}
use Rattle.hol_terms.specs.Term.{Term, Typed, AppTm, ty_of}
use Rattle.hol_terms.specs.Substitution.{LooseBelow, free_variables}
use Rattle.sexp.specs.Tree.{Tree}
use Rattle.goal_text.specs.Names.{Env, Binders, bound_to, one_further}
use Rattle.goal_text.specs.Sentences.{IsSentence}
use Rattle.goal_text.specs.Terms.{term_of}
use Rattle.goal_text.proofs.KeptLemmas.{IsKept, further_of, term_has}

-- no free variables, and loose Bounds below the number alone
record IsOver (n : ℕ) (t : Term) : Type 0 where
  pub variables : free_variables t ≡ []
  pub below : LooseBelow t n

within : (bs : Binders) (name : List ℕ) (b : ℕ × Ty) → bound_to bs name ≡ Some b → b.0 < length bs
unfolding bound_to
within [] name b h = absurd (none-some _ h)
within (c ∷ bs) name b h = by (bytes_eq name c.0) refl (λ d k. within bs name d k)
  where
    by : (t : Bool) → bytes_eq name c.0 ≡ t → ((d : ℕ × Ty) → bound_to bs name ≡ Some d → d.0 < length bs) → b.0 < length (c ∷ bs)
    by true e r =
        let here : bound_to (c ∷ bs) name ≡ Some (0, c.1) = rw e refl in
        let same : (0, c.1) ≡ b = same_Some _ _ (sym here ∙ h) in
        let first : 0 ≡ b.0 = ap (λ d. d.0) same in
        omega (arith, first)
    by false e r =
        let later : bound_to (c ∷ bs) name ≡ one_further (bound_to bs name) = rw e refl in
        let d = further_of (bound_to bs name) b (sym later ∙ h) in
        let below : d.0.0 < length bs = r d.0 d.1 in
        let further : b.0 ≡ d.0.0 + 1 = ap (λ x. x.0) d.2 in
        omega (arith, below, further)

application : (n : ℕ) (f x : Term) → IsOver n f → IsOver n x → IsOver n (AppTm f x)
application n f x a b = record { variables = let p = a.variables in let q = b.variables in rw (p, q) refl; below = (a.below, b.below) }

over_kept : IsKept (λ bs t. IsOver (length bs) t)
over_kept = record {
  application = λ bs f x a b. application (length bs) f x a b;
  lambda = λ b bs p h. record { variables = h.variables; below = let P : ℕ → Type 0 = λ n. LooseBelow p n in let one : length (b ∷ bs) ≡ length bs + 1 = omega arith in subst P one h.below };
  constant = λ bs n t. record { variables = refl; below = tt };
  number = λ bs z. record { variables = refl; below = tt };
  bound = λ bs name b h. record { variables = refl; below = within bs name b h };
}

-- a formula that is read under no binders is a sentence
pub sentence_read : (env : Env) (tree : Tree) (t : Term) → env.binders ≡ [] → Typed t → ty_of t ≡ BoolTy → term_of env tree ≡ Ok t → IsSentence t
sentence_read env tree t outermost typed bool h =
    let over : IsOver (length env.binders) t = term_has (λ bs u. IsOver (length bs) u) over_kept env tree t h in
    let P : Binders → Type 0 = λ bs. LooseBelow t (length bs) in
    record { formula = record { typed = typed; closed = subst P outermost over.below; bool = bool }; variables = over.variables }

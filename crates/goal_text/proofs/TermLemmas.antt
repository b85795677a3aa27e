-- Reading one term.
use Rattle.std.proofs.Common.{◌≡◌, ℕ, ◌+◌, Bool, List, [], ◌∷◌, ◌++◌, Ok, drop, length, take, sym, ap, ap₂, subst, ◌∙◌}
use Rattle.std.proofs.lemmas.List.{length-append}
use Rattle.hol_terms.specs.Term.{Term}
use Rattle.hol_terms.specs.TermStore.{TermStore, Keeps, term_tree}
use Rattle.sexp.specs.Tree.{Trees}
use Rattle.goal_text.specs.declared.scope.Scope.{Scope}
use Rattle.goal_text.specs.Read.{Read}
use Rattle.goal_text.specs.Names.{Env}
use Rattle.goal_text.specs.Bounds.{AllFit}
use Rattle.goal_text.specs.Forms.{Part, operands}
use Rattle.goal_text.specs.Terms.{terms_of}
use Rattle.goal_text.specs.Scope.{AreTerms, IsScope, terms_at, binders_in, env_of}
use Rattle.goal_text.proofs.FitLemmas.{fit_front, terms_fit}
use Rattle.goal_text.proofs.FormLemmas.{split_binders}
use Rattle.goal_text.proofs.PartLemmas.{binders_taken, term_pushed, with_terms}

-- the terms of a form's parts fit its variables
pub parts_fit : (s u : TermStore) (scope : Scope) (n : ℕ) (kinds : List Part) (trees : Trees) (ts : List Term) → Keeps s u → IsScope s scope → terms_of (env_of s scope) kinds trees ≡ Ok ts → AllFit (binders_in u (take n scope.binders)) ts
unfolding env_of
parts_fit s u scope n kinds trees ts k is h =
    let all : AllFit (binders_in s scope.binders) ts = terms_fit (env_of s scope) kinds trees ts h in
    let own = binders_in s (take n scope.binders) in
    let outer = binders_in s (drop n scope.binders) in
    let front = fit_front own outer ts (subst (λ bs. AllFit bs ts) (split_binders s scope.binders n) all) in
    subst (λ bs. AllFit bs ts) (sym (binders_taken s u k scope.binders is.binders n)) front

-- one more term is read
pub pushed_on : (s u : TermStore) (items new : List ℕ) (t : ℕ) (env : Env) (divides : Bool) (rest : Trees) (total : Read (List Term)) → Keeps s u → AreTerms s items → new ≡ items ++ t ∷ []
    → with_terms (terms_at s items ++ term_tree u t ∷ []) (terms_of env (drop (length items + 1) (operands divides)) rest) ≡ total → with_terms (terms_at u new) (terms_of env (drop (length new) (operands divides)) rest) ≡ total
pushed_on s u items new t env divides rest total k all e h =
    let front : terms_at u new ≡ terms_at s items ++ term_tree u t ∷ [] = ap (λ l. terms_at u l) e ∙ term_pushed s u items t k all in
    let count : length new ≡ length items + 1 = ap length e ∙ length-append items (t ∷ []) in
    ap₂ (λ f n. with_terms f (terms_of env (drop n (operands divides)) rest)) front count ∙ h

-- Each tree that is read as a term gives a given term, by induction on trees.
use Rattle.std.proofs.Common.{◌≡◌, ℕ, ◌<◌, List, [], ◌∷◌, length, Option, Some, None, Ok, true, false, true≢false, map, refl, sym, ap, subst, ◌∙◌, arith}
use Rattle.std.specs.Prelude.{bytes_eq, codes}
use Rattle.std.specs.Map.{lookup}
use Rattle.hol_types.specs.Ty.{Ty}
use Rattle.hol_terms.specs.Term.{Term, BoundTm, ConstTm, ty_of}
use Rattle.hol_terms.specs.Constants as hol
use Rattle.sexp.specs.Tree.{Tree, Trees, AtomTree, QuotedTree, ListTree, no_trees, more_trees}
use Rattle.goal_text.specs.declared.fault.GoalKind.TheVariants.{Syntax, IllTyped, FreeTypeVariable}
use Rattle.goal_text.specs.declared.word.Operator.{Operator}
use Rattle.goal_text.specs.declared.word.Operator.TheVariants as operators
use Rattle.goal_text.specs.declared.word.Binder.{Binder}
use Rattle.goal_text.specs.declared.word.Binder.TheVariants as binders
use Rattle.goal_text.specs.Read.{◌>>=◌}
use Rattle.goal_text.specs.Lexicon.{is_number, is_variable, value_of}
use Rattle.goal_text.specs.Names.{Env, Binders, bound_to}
use Rattle.goal_text.specs.Matching.{is_ground, is_instance, instance_for, match_parameters}
use Rattle.goal_text.specs.Operations.{takes, fits, fits_body, meaning, under, under_all}
use Rattle.goal_text.specs.Forms.{Form, Applied, Instance, Negative, Operation, Binding, Ascription, Part, Skipped, ReadTerm, Divisor, form_of, inside, parts_of, operands, divides, is_literal, is_literal_tree}
use Rattle.goal_text.specs.Terms.{constant_by, name_by, atom_of, divisor_of, takes_all, applied, apply_all, negative, built, term_of, terms_of}
use Rattle.goal_text.proofs.KeptLemmas.{bind_ok, no_fault, same_Ok, wanting_ok}
use Rattle.goal_text.specs.Given.{IsPositive, IsGiven}
use Rattle.goal_text.proofs.ReadingLemmas.{if_read, test_passed}
use Rattle.goal_text.proofs.GivenOperationLemmas.{AreGiven, PartsFit, meaning_given}
use Rattle.goal_text.proofs.GivenFormLemmas.{binder_types, FormSays, form_says}
use Rattle.goal_text.proofs.LiteralLemmas.{negative_not_positive, applied_not_positive, meaning_not_positive}
use Rattle.goal_text.proofs.GivenTermLemmas.{IsGivenEnv, atom_given, apply_all_given, instance_term_given, ascribed_given, negative_given, under_given, inside_given, operands_read, terms_counted, behind_read, only_read, literal_alone, second_read, divisor_read, divisor_given}

-- ---- a literal from 1 is a number's tree

-- no variable and no constant
constant_not_positive : (o : Option Ty) (at : ℕ) (text : List ℕ) (t : Term) → constant_by o at text ≡ Ok t → IsPositive t → ⊥
constant_not_positive None at text t h k = no_fault _ at t h
constant_not_positive (Some type) at text t h k =
    subst (λ u. IsPositive u) (sym (same_Ok (ConstTm text type) t (wanting_ok (is_ground type) FreeTypeVariable at (Ok (ConstTm text type)) t h))) k

named_not_positive : (o : Option (ℕ × Ty)) (env : Env) (at : ℕ) (text : List ℕ) (t : Term) → name_by o env at text ≡ Ok t → IsPositive t → ⊥
named_not_positive (Some b) env at text t h k = subst (λ u. IsPositive u) (sym (same_Ok (BoundTm b.0 b.1) t h)) k
named_not_positive None env at text t h k = constant_not_positive (lookup (bytes_eq text) env.consts) at text t h k

atom_literal : (env : Env) (at : ℕ) (text : List ℕ) (t : Term) → atom_of env at text ≡ Ok t → IsPositive t → is_number text ≡ true
unfolding atom_of
atom_literal env at text t h k =
    if_read (is_number text) _ _ t (λ n e. n)
    (λ n e. if_read (bytes_eq text (codes "true")) _ _ t (λ b l. absurd (subst (λ u. IsPositive u) (sym (same_Ok hol.true_tm t l)) k))
    (λ b l. if_read (bytes_eq text (codes "false")) _ _ t (λ c m. absurd (subst (λ u. IsPositive u) (sym (same_Ok hol.false_tm t m)) k))
    (λ c m. absurd (named_not_positive (bound_to env.binders text) env at text t (wanting_ok (is_variable text) Syntax at (name_by (bound_to env.binders text) env at text) t m) k)) l) e) h

applied_read : (at : ℕ) (f : Term) (xs : List Term) (t : Term) → 0 < length xs → apply_all at f xs ≡ Ok t → IsPositive t → ⊥
unfolding apply_all
applied_read at f xs t some h k =
    applied_not_positive f xs some (subst (λ u. IsPositive u) (sym (same_Ok (applied f xs) t (wanting_ok (takes_all (ty_of f) (map ty_of xs)) IllTyped at (Ok (applied f xs)) t h))) k)

-- nor a body under a variable
bound_not_positive : (binder : Binder) (type : Ty) (p : Term) → IsPositive (under binder type p) → ⊥
bound_not_positive binders.Forall type p h = h
bound_not_positive binders.Exists type p h = h
bound_not_positive binders.Lambda type p h = h

under_not_positive : (binder : Binder) (own : Binders) (p : Term) → (IsPositive p → ⊥) → IsPositive (under_all binder own p) → ⊥
under_not_positive binder [] p other h = other h
under_not_positive binder (b ∷ own) p other h = under_not_positive binder own (under binder b.1 p) (bound_not_positive binder b.1 p) h

binding_not_positive : (binder : Binder) (own : Binders) (p : Term) → 0 < length own → IsPositive (under_all binder own p) → ⊥
binding_not_positive binder [] p some h = omega arith
binding_not_positive binder (b ∷ own) p some h = under_not_positive binder own (under binder b.1 p) (bound_not_positive binder b.1 p) h

-- nor a list
built_not_positive : (env : Env) (at : ℕ) (head : Tree) (behind : Trees) (form : Form) (ts : List Term) (t : Term) → FormSays env behind form → terms_of (inside env form) (parts_of form) (more_trees head behind) ≡ Ok ts → built at form ts ≡ Ok t → IsPositive t → ⊥
unfolding built
built_not_positive env at head behind Applied [] t says read h k = no_fault _ at t h
built_not_positive env at head behind Applied (f ∷ xs) t says read h k =
    let long = terms_counted env [] (more_trees head behind) (f ∷ xs) tt read in
    let some : 0 < length xs = omega (arith, long, says) in
    applied_read at f xs t some h k
built_not_positive env at head behind (Instance place name type) xs t says read h k =
    let f = bind_ok (instance_for at place name type (map ty_of xs)) (λ f. apply_all at f xs) t h in
    let long = terms_counted env [] behind xs tt (behind_read env [] head behind xs read) in
    let more = says.0 in
    let some : 0 < length xs = omega (arith, long, more) in
    applied_read at f.0 xs t some f.2 k
built_not_positive env at head behind Negative [] t says read h k = no_fault _ at t h
built_not_positive env at head behind Negative (n ∷ more) t says read h k =
    let literal = literal_alone env behind n more says (behind_read env [] head behind (n ∷ more) read) in
    let same = same_Ok (negative n) t h in
    negative_not_positive (value_of literal.0) (subst (λ u. IsPositive u) (sym (ap negative (sym literal.1.is) ∙ same)) k)
built_not_positive env at head behind (Operation operator) [] t says read h k = no_fault _ at t h
built_not_positive env at head behind (Operation operator) (a ∷ more) t says read h k =
    let long = terms_counted env (operands (divides operator)) behind (a ∷ more) (operands_read (divides operator)) (behind_read env (operands (divides operator)) head behind (a ∷ more) read) in
    let enough : takes operator (length (a ∷ more)) ≡ true = ap (takes operator) long ∙ says.0 in
    let fit = test_passed (fits operator (map ty_of (a ∷ more))) IllTyped at (Ok (meaning operator a more)) t h in
    let same = same_Ok (meaning operator a more) t (wanting_ok (fits operator (map ty_of (a ∷ more))) IllTyped at (Ok (meaning operator a more)) t h) in
    meaning_not_positive operator a more enough fit (subst (λ u. IsPositive u) (sym same) k)
built_not_positive env at head behind (Binding binder own) [] t says read h k = no_fault _ at t h
built_not_positive env at head behind (Binding binder own) (body ∷ more) t says read h k =
    let same = same_Ok (under_all binder own body) t (wanting_ok (fits_body binder (ty_of body)) IllTyped at (Ok (under_all binder own body)) t h) in
    binding_not_positive binder own body says.0 (subst (λ u. IsPositive u) (sym same) k)
built_not_positive env at head behind (Ascription name declared type) ts t says read h k =
    subst (λ u. IsPositive u) (sym (same_Ok (ConstTm name type) t (wanting_ok (is_instance declared type) IllTyped at (Ok (ConstTm name type)) t h))) k

list_not_positive : (env : Env) (at : ℕ) (parts : Trees) (t : Term) → term_of env (ListTree at parts) ≡ Ok t → IsPositive t → ⊥
unfolding term_of form_of
list_not_positive env at no_trees t h k = no_fault _ at t h
list_not_positive env at (more_trees head behind) t h k =
    let form = bind_ok (form_of env at (more_trees head behind)) (λ form. terms_of (inside env form) (parts_of form) (more_trees head behind) >>= λ terms. built at form terms) t h in
    let terms = bind_ok (terms_of (inside env form.0) (parts_of form.0) (more_trees head behind)) (λ terms. built at form.0 terms) t form.2 in
    built_not_positive env at head behind form.0 terms.0 t (form_says env at head behind form.0 form.1) terms.1 terms.2 k

-- a tree that is read as a literal from 1 is a number
pub literal_tree : (env : Env) (tree : Tree) (t : Term) → term_of env tree ≡ Ok t → IsPositive t → is_literal_tree tree ≡ true
unfolding term_of
literal_tree env (AtomTree at text) t h k = atom_literal env at text t h k
literal_tree env (QuotedTree at text) t h k = no_fault _ at t h
literal_tree env (ListTree at parts) t h k = absurd (list_not_positive env at parts t h k)

-- ---- parts of operations

-- one tree that isn't a literal is read as no literal from 1
alone_not_positive : (env : Env) (behind : Trees) (a : Term) → is_literal behind ≡ false → terms_of env [] behind ≡ Ok (a ∷ []) → IsPositive a → ⊥
unfolding terms_of
alone_not_positive env no_trees a l h k = bad (same_Ok [] (a ∷ []) h)
  where
    bad : [] ≡ a ∷ [] → ⊥
    bad e = cc
alone_not_positive env (more_trees tree no_trees) a l h k = true≢false (sym (literal_tree env tree a (only_read env tree a [] h) k) ∙ l)
alone_not_positive env (more_trees first (more_trees second others)) a l h k =
    let long = terms_counted env [] (more_trees first (more_trees second others)) (a ∷ []) tt h in
    omega (arith, long)

parts_fit : (env : Env) (operator : Operator) (behind : Trees) (a : Term) (more : List Term) → FormSays env behind (Operation operator) → terms_of env (operands (divides operator)) behind ≡ Ok (a ∷ more)
    → PartsFit env.types env.consts (binder_types env.binders) operator a more
parts_fit env operators.Minus behind a [] says h = alone_not_positive env behind a says.1 h
parts_fit env operators.Minus behind a (b ∷ more) says h = tt
parts_fit env operators.Div behind a [] says h = tt
parts_fit env operators.Div behind a (b ∷ more) says h = second_read env behind a b more h
parts_fit env operators.Mod behind a [] says h = tt
parts_fit env operators.Mod behind a (b ∷ more) says h = second_read env behind a b more h
parts_fit env operators.Not behind a more says h = tt
parts_fit env operators.And behind a more says h = tt
parts_fit env operators.Or behind a more says h = tt
parts_fit env operators.Implies behind a more says h = tt
parts_fit env operators.Equals behind a more says h = tt
parts_fit env operators.Distinct behind a more says h = tt
parts_fit env operators.Xor behind a more says h = tt
parts_fit env operators.Ite behind a more says h = tt
parts_fit env operators.Plus behind a more says h = tt
parts_fit env operators.Times behind a more says h = tt
parts_fit env operators.AtMost behind a more says h = tt
parts_fit env operators.Less behind a more says h = tt
parts_fit env operators.AtLeast behind a more says h = tt
parts_fit env operators.Greater behind a more says h = tt

-- ---- each form

-- the terms of parts are given
abbrev PartsGiven : Env → List Term → Type 0
PartsGiven env ts = AreGiven env.types env.consts (binder_types env.binders) ts

built_given : (env : Env) → IsGivenEnv env → (at : ℕ) (head : Tree) (behind : Trees) (form : Form) (ts : List Term) (t : Term) → FormSays env behind form → terms_of (inside env form) (parts_of form) (more_trees head behind) ≡ Ok ts
    → PartsGiven (inside env form) ts → built at form ts ≡ Ok t → IsGiven env.types env.consts (binder_types env.binders) t
unfolding built instance_for
built_given env g at head behind Applied [] t says read all h = no_fault _ at t h
built_given env g at head behind Applied (f ∷ xs) t says read all h = apply_all_given env.types env.consts (binder_types env.binders) at f xs t all.0 all.1 h
built_given env g at head behind (Instance place name type) xs t says read all h =
    let f = bind_ok (instance_for at place name type (map ty_of xs)) (λ f. apply_all at f xs) t h in
    let made = instance_term_given env.types env.consts (binder_types env.binders) g.declared g.binders (match_parameters [] type (map ty_of xs)) at place name type xs f.0 says.1 says.2 all refl f.1 in
    apply_all_given env.types env.consts (binder_types env.binders) at f.0 xs t made all f.2
built_given env g at head behind Negative [] t says read all h = no_fault _ at t h
built_given env g at head behind Negative (n ∷ more) t says read all h =
    let literal = literal_alone env behind n more says (behind_read env [] head behind (n ∷ more) read) in
    let Q : Term → Type 0 = λ u. IsGiven env.types env.consts (binder_types env.binders) u in
    subst Q (ap negative (sym literal.1.is) ∙ same_Ok (negative n) t h) (negative_given env.types env.consts (binder_types env.binders) (value_of literal.0) literal.1.small)
built_given env g at head behind (Operation operator) [] t says read all h = no_fault _ at t h
built_given env g at head behind (Operation operator) (a ∷ more) t says read all h =
    let fit = test_passed (fits operator (map ty_of (a ∷ more))) IllTyped at (Ok (meaning operator a more)) t h in
    let Q : Term → Type 0 = λ u. IsGiven env.types env.consts (binder_types env.binders) u in
    subst Q (same_Ok (meaning operator a more) t (wanting_ok (fits operator (map ty_of (a ∷ more))) IllTyped at (Ok (meaning operator a more)) t h))
    (meaning_given env.types env.consts (binder_types env.binders) operator a more all.0 all.1 fit (parts_fit env operator behind a more says (behind_read env (operands (divides operator)) head behind (a ∷ more) read)))
built_given env g at head behind (Binding binder own) [] t says read all h = no_fault _ at t h
built_given env g at head behind (Binding binder own) (body ∷ more) t says read all h =
    let fit = test_passed (fits_body binder (ty_of body)) IllTyped at (Ok (under_all binder own body)) t h in
    let Q : Term → Type 0 = λ u. IsGiven env.types env.consts (binder_types env.binders) u in
    subst Q (same_Ok (under_all binder own body) t (wanting_ok (fits_body binder (ty_of body)) IllTyped at (Ok (under_all binder own body)) t h))
    (under_given env.types env.consts own env.binders binder body says.1 all.0 fit)
built_given env g at head behind (Ascription name declared type) ts t says read all h =
    let fit = test_passed (is_instance declared type) IllTyped at (Ok (ConstTm name type)) t h in
    let Q : Term → Type 0 = λ u. IsGiven env.types env.consts (binder_types env.binders) u in
    subst Q (same_Ok (ConstTm name type) t (wanting_ok (is_instance declared type) IllTyped at (Ok (ConstTm name type)) t h))
    (ascribed_given env.types env.consts (binder_types env.binders) g.declared name declared type says.0 says.1 fit)

-- ---- trees

mutual
  unfolding term_of terms_of form_of

  -- each term that is read is given
  pub given_term : (env : Env) → IsGivenEnv env → (tree : Tree) (t : Term) → term_of env tree ≡ Ok t → IsGiven env.types env.consts (binder_types env.binders) t
  given_term env g (AtomTree at text) t h = atom_given env g at text t h
  given_term env g (QuotedTree at text) t h = no_fault _ at t h
  given_term env g (ListTree at no_trees) t h = no_fault _ at t h
  given_term env g (ListTree at (more_trees head behind)) t h =
      let form = bind_ok (form_of env at (more_trees head behind)) (λ form. terms_of (inside env form) (parts_of form) (more_trees head behind) >>= λ terms. built at form terms) t h in
      let terms = bind_ok (terms_of (inside env form.0) (parts_of form.0) (more_trees head behind)) (λ terms. built at form.0 terms) t form.2 in
      let says = form_says env at head behind form.0 form.1 in
      built_given env g at head behind form.0 terms.0 t says terms.1 (given_terms (inside env form.0) (inside_given env g behind form.0 says) (parts_of form.0) (more_trees head behind) terms.0 terms.1) terms.2

  pub given_terms : (env : Env) → IsGivenEnv env → (kinds : List Part) (trees : Trees) (ts : List Term) → terms_of env kinds trees ≡ Ok ts → PartsGiven env ts
  given_terms env g kinds no_trees ts h = let Q : List Term → Type 0 = λ us. PartsGiven env us in subst Q (same_Ok [] ts h) tt
  given_terms env g [] (more_trees part parts) ts h =
      let first = bind_ok (term_of env part) (λ first. terms_of env [] parts >>= λ others. Ok (first ∷ others)) ts h in
      let others = bind_ok (terms_of env [] parts) (λ others. Ok (first.0 ∷ others)) ts first.2 in
      let Q : List Term → Type 0 = λ us. PartsGiven env us in
      subst Q (same_Ok (first.0 ∷ others.0) ts others.2) (given_term env g part first.0 first.1, given_terms env g [] parts others.0 others.1)
  given_terms env g (Skipped ∷ kinds) (more_trees part parts) ts h = given_terms env g kinds parts ts h
  given_terms env g (ReadTerm ∷ kinds) (more_trees part parts) ts h =
      let first = bind_ok (term_of env part) (λ first. terms_of env kinds parts >>= λ others. Ok (first ∷ others)) ts h in
      let others = bind_ok (terms_of env kinds parts) (λ others. Ok (first.0 ∷ others)) ts first.2 in
      let Q : List Term → Type 0 = λ us. PartsGiven env us in
      subst Q (same_Ok (first.0 ∷ others.0) ts others.2) (given_term env g part first.0 first.1, given_terms env g kinds parts others.0 others.1)
  given_terms env g (Divisor ∷ kinds) (more_trees part parts) ts h =
      let first = bind_ok (divisor_of part) (λ first. terms_of env kinds parts >>= λ others. Ok (first ∷ others)) ts h in
      let others = bind_ok (terms_of env kinds parts) (λ others. Ok (first.0 ∷ others)) ts first.2 in
      let Q : List Term → Type 0 = λ us. PartsGiven env us in
      subst Q (same_Ok (first.0 ∷ others.0) ts others.2) (divisor_given env.types env.consts (binder_types env.binders) first.0 (divisor_read part first.0 first.1), given_terms env g kinds parts others.0 others.1)

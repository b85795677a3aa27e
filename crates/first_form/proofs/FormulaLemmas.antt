-- Formulas made of formulas, and the reading of lists one part after the other.
use Rattle.std.proofs.Common.{◌≡◌, ℕ, List, [], ◌∷◌, ◌++◌, Option, Some, None, Bool, true, true≢false, false, refl, sym, ap, ◌∙◌, append_assoc}
use Rattle.std.specs.Prelude.{option_map, if◌then◌else◌, bytes_eq, codes}
use Rattle.std.proofs.lemmas.List.{append-nil}
use Rattle.std.proofs.lemmas.Option.{none-some, same_Some}
use Rattle.hol_terms.specs.Term.{Term}
use Rattle.hol_terms.specs.Constants.{negation, implication}
use Rattle.sexp.specs.Tree.{Tree, Trees, AtomTree, QuotedTree, ListTree, no_trees, more_trees}
use Rattle.first_form.specs.declared.formula.Connective.{Connective}
use Rattle.first_form.specs.declared.formula.Connective.TheVariants.{Negation, Implication}
use Rattle.first_form.specs.declared.failure.FormFailure.{FormFailure}
use Rattle.first_form.specs.declared.failure.FormFailure.TheVariants as failures
use Rattle.first_form.specs.declared.lexicon.Lexicon.{Lexicon}
use Rattle.first_form.specs.Read.{◌>>=◌, Fails}
use Rattle.hol_terms.specs.TermStore.{TermStore, Keeps, term_tree}
use Rattle.goal_text.specs.Scope.{terms_at}
use Rattle.goal_text.specs.Sentences.{HaveSentences, IsSentence}
use Rattle.first_form.specs.Lexicon.{IsLexicon, atom_number, names_of}
use Rattle.first_form.proofs.LexiconLemmas.{atom_read, terms_front, terms_kept}
use Rattle.first_form.specs.Trees.{is_atom, parts_of, text_of}
use Rattle.first_form.specs.Connectives.{connective_of, made_by}
use Rattle.first_form.specs.Formulas.{formula_of, formulas_of, built, implied, negation_of, implication_of}

pub negation-formula : (a : Term) → IsSentence a → IsSentence (negation a)
negation-formula a is = record {
  formula = record { typed = (tt, is.formula.typed, rw is.formula.bool refl); closed = (tt, is.formula.closed); bool = refl };
  variables = is.variables;
}

pub implication-formula : (a b : Term) → IsSentence a → IsSentence b → IsSentence (implication a b)
implication-formula a b is too = record {
  formula = record {
    typed = ((tt, is.formula.typed, rw is.formula.bool refl), too.formula.typed, rw too.formula.bool refl);
    closed = ((tt, is.formula.closed), too.formula.closed);
    bool = refl;
  };
  variables = rw (is.variables, too.variables) refl;
}

-- the conclusion under the premises
abbrev pub under : List Term → Term → Term
under [] c = c
under (a ∷ more) c = implication a (under more c)

pub under-last : (premises : List Term) (a c : Term) → under (premises ++ a ∷ []) c ≡ under premises (implication a c)
under-last [] a c = refl
under-last (x ∷ xs) a c = ap (implication x) (under-last xs a c)

implied-last : (a : Term) (premises : List Term) (c : Term) → implied a (premises ++ c ∷ []) ≡ implication a (under premises c)
implied-last a [] c = refl
implied-last a (x ∷ xs) c = ap (implication a) (implied-last x xs c)

pub implication-last : (a : Term) (premises : List Term) (c : Term) → implication_of (a ∷ premises ++ c ∷ []) ≡ Some (under (a ∷ premises) c)
implication-last a [] c = refl
implication-last a (x ∷ xs) c = ap (λ t. Some (implication a t)) (implied-last x xs c)

-- an atom
pub formula-atom : (s : TermStore) (lexicon : Lexicon) (tree : Tree) (at : ℕ) (text : List ℕ) → IsLexicon s lexicon → tree ≡ AtomTree at text
    → formula_of (names_of lexicon.constants) tree ≡ option_map (λ t. term_tree s t) (atom_number lexicon text)
unfolding formula_of
formula-atom s lexicon tree at text is e = rw e (sym (atom_read s lexicon text is))

-- what a word builds, its connective makes
built-made : (word : List ℕ) (parts : List Term) → built word parts ≡ (connective_of word >>= λ connective. made_by connective parts)
unfolding built
built-made word parts = by (bytes_eq word (codes "not")) (bytes_eq word (codes "=>"))
  where
    by : (not implies : Bool) → (if not then negation_of parts else if implies then implication_of parts else None)
        ≡ ((if not then Some Negation else if implies then Some Implication else None) >>= λ connective. made_by connective parts)
    by true implies = refl
    by false true = refl
    by false false = refl

-- a list
module _ (names : List (List ℕ)) (tree head : Tree) (trees rest : Trees) (at : ℕ) (is : tree ≡ ListTree at trees) where
  pub formula-list : trees ≡ more_trees head rest → formula_of names tree ≡ (formulas_of names rest >>= λ parts. built (text_of head) parts)
  unfolding formula_of
  formula-list e = rw (is, e) refl

  pub formula-empty : trees ≡ no_trees → formula_of names tree ≡ None
  unfolding formula_of
  formula-empty e = rw (is, e) refl

  pub formula-fails : (x : FormFailure) → trees ≡ more_trees head rest → Fails x (formulas_of names rest) → Fails x (formula_of names tree)
  formula-fails failures.Memory e h = tt
  formula-fails failures.Refused e h = formula-list e ∙ rw h refl

  -- whatever the parts are read as
  pub formula-unconnected : trees ≡ more_trees head rest → connective_of (text_of head) ≡ None → formula_of names tree ≡ None
  formula-unconnected e h = formula-list e ∙ by (formulas_of names rest)
    where
      by : (read : Option (List Term)) → (read >>= λ parts. built (text_of head) parts) ≡ None
      by None = refl
      by (Some parts) = built-made (text_of head) parts ∙ rw h refl

  pub formula-made : (connective : Connective) (parts : List Term) → trees ≡ more_trees head rest → connective_of (text_of head) ≡ Some connective → formulas_of names rest ≡ Some parts → formula_of names tree ≡ made_by connective parts
  formula-made connective parts e c h = formula-list e ∙ rw h (built-made (text_of head) parts ∙ rw c refl)

-- a tree that is neither an atom nor a list
pub formula-other : (names : List (List ℕ)) (tree : Tree) → is_atom tree ≡ false → parts_of tree ≡ None → formula_of names tree ≡ None
unfolding formula_of
formula-other names (AtomTree at text) h k = absurd (true≢false h)
formula-other names (QuotedTree at text) h k = refl
formula-other names (ListTree at parts) h k = absurd (none-some parts (sym k))

-- the formulas read so far, and those still to read
abbrev pub with_front : List Term → Option (List Term) → Option (List Term)
with_front front read = read >>= λ ts. Some (front ++ ts)

regroup : (front : List Term) (t : Term) (read : Option (List Term)) → with_front front (read >>= λ ts. Some (t ∷ ts)) ≡ with_front (front ++ t ∷ []) read
regroup front t (Some ts) = ap Some (simp append_assoc)
regroup front t None = refl

module _ (names : List (List ℕ)) (front : List Term) (trees : Trees) (total : Option (List Term)) (so_far : with_front front (formulas_of names trees) ≡ total) where
  pub parts_step : (tree : Tree) (rest : Trees) (t : Term) → trees ≡ more_trees tree rest → formula_of names tree ≡ Some t → with_front (front ++ t ∷ []) (formulas_of names rest) ≡ total
  unfolding formulas_of
  parts_step tree rest t e h =
      let one : with_front front (formulas_of names (more_trees tree rest)) ≡ with_front (front ++ t ∷ []) (formulas_of names rest) = rw h (regroup front t (formulas_of names rest)) in
      sym one ∙ ap (λ ts. with_front front (formulas_of names ts)) (sym e) ∙ so_far

  pub parts_fail : (x : FormFailure) (tree : Tree) (rest : Trees) → trees ≡ more_trees tree rest → Fails x (formula_of names tree) → Fails x total
  unfolding formulas_of
  parts_fail failures.Memory tree rest e h = tt
  parts_fail failures.Refused tree rest e h =
      let none : with_front front (formulas_of names (more_trees tree rest)) ≡ None = rw h refl in
      sym so_far ∙ ap (λ ts. with_front front (formulas_of names ts)) e ∙ none

  pub parts_done : trees ≡ no_trees → total ≡ Some front
  unfolding formulas_of
  parts_done e = sym so_far ∙ ap (λ ts. with_front front (formulas_of names ts)) e ∙ ap Some (append-nil front)

-- the last premise, moved over
module _ (s u : TermStore) (total : Option Term) (ts : List ℕ) (a c t : ℕ) where
  pub under_step : Keeps s u → HaveSentences s ts → total ≡ Some (under (terms_at s (ts ++ a ∷ [])) (term_tree s c)) → Some (implication (term_tree s a) (term_tree s c)) ≡ Some (term_tree u t)
      → total ≡ Some (under (terms_at u ts) (term_tree u t))
  under_step k all so_far made =
      let front = terms_front s ts a in
      let kept = terms_kept s u k ts all in
      let is : implication (term_tree s a) (term_tree s c) ≡ term_tree u t = same_Some _ _ made in
      so_far ∙ ap (λ xs. Some (under xs (term_tree s c))) front ∙ ap Some (under-last (terms_at s ts) (term_tree s a) (term_tree s c)) ∙ ap (λ x. Some (under (terms_at s ts) x)) is ∙ ap (λ xs. Some (under xs (term_tree u t))) (sym kept)

-- the first two steps: the last part is the conclusion
pub under_start : (s : TermStore) (ts : List ℕ) (c : ℕ) → (ts ≡ [] → ⊥) → implication_of (terms_at s (ts ++ c ∷ [])) ≡ Some (under (terms_at s ts) (term_tree s c))
under_start s [] c some = absurd (some refl)
under_start s (a ∷ ts) c some = ap (λ xs. implication_of (term_tree s a ∷ xs)) (terms_front s ts c) ∙ implication-last (term_tree s a) (terms_at s ts) (term_tree s c)

-- Lists of terms by their shapes: operations, literals, applications, binders and ascriptions.
use Rattle.std.proofs.Common.{◌≡◌, ℕ, suc, ◌+◌, ◌^◌, ◌<◌, List, [], ◌∷◌, ◌++◌, length, map, Some, None, Ok, true, false, ◌&&◌, bytes_eq, codes, refl, sym, ap, ◌∙◌, add-one, arith}
use Rattle.std.specs.Prelude.{pos, neg_ℤ, Bool}
use Rattle.std.specs.Fmt.{decimal}
use Rattle.std.specs.Map.{lookup}
use Rattle.std.proofs.lemmas.Bool.{lt-ltb}
use Rattle.std.proofs.lemmas.List.{length-append}
use Rattle.hol_types.specs.Ty.{Ty}
use Rattle.hol_terms.specs.Term.{Term, BoundTm, NumTm, ConstTm, ty_of}
use Rattle.hol_terms.specs.Constants.{number, true_tm, false_tm}
use Rattle.sexp.specs.Tree.{Tree, Trees, AtomTree, QuotedTree, ListTree, no_trees, more_trees, count, place}
use Rattle.goal_text.specs.declared.word.Word.TheVariants.{Applies}
use Rattle.goal_text.specs.declared.word.Operator.{Operator}
use Rattle.goal_text.specs.Read.{◌>>=◌}
use Rattle.goal_text.specs.Lexicon.{is_number, is_name, value_of, word_of, two_of, name_of, is_variable}
use Rattle.goal_text.specs.Names.{Env, bound_to}
use Rattle.goal_text.specs.Matching.{is_instance, is_ground}
use Rattle.goal_text.specs.Operations.{fits, takes, meaning}
use Rattle.goal_text.specs.Forms.{Negative, Operation, Ascription, ReadTerm, Divisor, ascription, constant_of, divides, form_of, is_literal, is_literal_tree, is_minus, operation}
use Rattle.goal_text.specs.Types.{type_of}
use Rattle.goal_text.specs.Terms.{atom_of, built, divisor_of, literal_of, term_of, terms_of}
use Rattle.goal_print.specs.Shapes.{Shape, Shapes, AtomShape, no_shapes, more_shapes, joined, one_shape, HasShape, HaveShapes}
use Rattle.goal_print.specs.TermShape.{headed_by, type_shape}
use Rattle.goal_print.specs.TermText.{variable_text}
use Rattle.goal_text.specs.Given.{IsGivenType}
use Rattle.goal_print.proofs.WordLemmas.{number_form, number_value, variable_form, variable_no_number, name_no_number, name_apart, true_no_name, false_no_name}
use Rattle.goal_text.proofs.KeptLemmas.{bind_ok, wanting_ok, same_Ok}
use Rattle.goal_print.proofs.TypeReadLemmas.{reads_type}

-- each tree of the shape is read as the term
pub record Reads (env : Env) (shape : Shape) (t : Term) : Type 0 where
  pub read : (tree : Tree) → HasShape shape tree → term_of env tree ≡ Ok t

-- trees of the shapes are read as the terms
pub record ReadAll (env : Env) (shapes : Shapes) (ts : List Term) : Type 0 where
  pub read : (trees : Trees) → HaveShapes shapes trees → terms_of env [] trees ≡ Ok ts
  pub many : (trees : Trees) → HaveShapes shapes trees → count trees ≡ length ts

pub all_none : (env : Env) → ReadAll env no_shapes []
unfolding HaveShapes terms_of
all_none env = record { read = λ trees h. read trees h; many = λ trees h. many trees h }
  where
    read : (trees : Trees) → HaveShapes no_shapes trees → terms_of env [] trees ≡ Ok []
    read no_trees h = refl
    read (more_trees tree trees) h = absurd h

    many : (trees : Trees) → HaveShapes no_shapes trees → count trees ≡ 0
    many no_trees h = refl
    many (more_trees tree trees) h = absurd h

pub all_more : {env : Env} {s : Shape} {ss : Shapes} {t : Term} {ts : List Term} → Reads env s t → ReadAll env ss ts → ReadAll env (more_shapes s ss) (t ∷ ts)
unfolding HaveShapes terms_of
all_more {env = env} {s = s} {ss = ss} {t = t} {ts = ts} one more = record { read = λ trees h. read trees h; many = λ trees h. many trees h }
  where
    read : (trees : Trees) → HaveShapes (more_shapes s ss) trees → terms_of env [] trees ≡ Ok (t ∷ ts)
    read no_trees h = absurd h
    read (more_trees tree trees) h = rw (one.read tree h.0, more.read trees h.1) refl

    many : (trees : Trees) → HaveShapes (more_shapes s ss) trees → count trees ≡ length (t ∷ ts)
    many no_trees h = absurd h
    many (more_trees tree trees) h = ap (λ n. n + 1) (more.many trees h.1) ∙ add-one (length ts)

pub all_one : {env : Env} {s : Shape} {t : Term} → Reads env s t → ReadAll env (one_shape s) (t ∷ [])
all_one {env = env} one = all_more one (all_none env)

-- the trees of shapes that are joined are those of the first, and others
pub record IsJoined (ss us : Shapes) (trees : Trees) : Type 0 where
  pub front : Trees
  pub behind : Trees
  pub first : HaveShapes ss front
  pub second : HaveShapes us behind
  pub read : (env : Env) (ts vs : List Term) → terms_of env [] front ≡ Ok ts → terms_of env [] behind ≡ Ok vs → terms_of env [] trees ≡ Ok (ts ++ vs)
  pub many : count trees ≡ count front + count behind

split_trees : (ss us : Shapes) (trees : Trees) → HaveShapes (joined ss us) trees → IsJoined ss us trees
unfolding HaveShapes terms_of
split_trees no_shapes us trees h = record {
  front = no_trees;
  behind = trees;
  first = tt;
  second = h;
  read = λ env ts vs e f. (let none : [] ≡ ts = same_Ok [] ts e in f ∙ ap (λ l. Ok (l ++ vs)) none);
  many = omega arith;
}
split_trees (more_shapes s ss) us no_trees h = absurd h
split_trees (more_shapes s ss) us (more_trees tree trees) h =
    let rest = split_trees ss us trees h.1 in
    record {
      front = more_trees tree rest.front;
      behind = rest.behind;
      first = (h.0, rest.first);
      second = rest.second;
      read = λ env ts vs e f. read env ts vs rest e f;
      many = (let more = rest.many in omega (arith, more));
    }
  where
    read : (env : Env) (ts vs : List Term) (rest : IsJoined ss us trees) → terms_of env [] (more_trees tree rest.front) ≡ Ok ts → terms_of env [] rest.behind ≡ Ok vs → terms_of env [] (more_trees tree trees) ≡ Ok (ts ++ vs)
    read env ts vs rest e f =
        let one = bind_ok (term_of env tree) (λ first. terms_of env [] rest.front >>= λ others. Ok (first ∷ others)) ts e in
        let more = bind_ok (terms_of env [] rest.front) (λ others. Ok (one.0 ∷ others)) ts one.2 in
        let whole : one.0 ∷ more.0 ≡ ts = same_Ok (one.0 ∷ more.0) ts more.2 in
        rw (one.1, rest.read env more.0 vs more.1 f) (ap (λ l. Ok (l ++ vs)) whole)

pub all_joined : {env : Env} {ss us : Shapes} {ts vs : List Term} → ReadAll env ss ts → ReadAll env us vs → ReadAll env (joined ss us) (ts ++ vs)
all_joined {env = env} {ss = ss} {us = us} {ts = ts} {vs = vs} one two = record {
  read = λ trees h. (let s = split_trees ss us trees h in s.read env ts vs (one.read s.front s.first) (two.read s.behind s.second));
  many = λ trees h. (let s = split_trees ss us trees h in
      let a = one.many s.front s.first in let b = two.many s.behind s.second in let c = s.many in
      let d = length-append ts vs in omega (arith, a, b, c, d));
}

-- ---- lists that a word opens

pub record IsHeaded (word : List ℕ) (parts : Shapes) (tree : Tree) : Type 0 where
  pub at : ℕ
  pub head_at : ℕ
  pub rest : Trees
  pub is : tree ≡ ListTree at (more_trees (AtomTree head_at word) rest)
  pub have : HaveShapes parts rest

pub headed : (word : List ℕ) (parts : Shapes) (tree : Tree) → HasShape (headed_by word parts) tree → IsHeaded word parts tree
unfolding HasShape HaveShapes
headed word parts (AtomTree at text) h = absurd h
headed word parts (QuotedTree at text) h = absurd h
headed word parts (ListTree at no_trees) h = absurd h
headed word parts (ListTree at (more_trees (QuotedTree head_at text) rest)) h = absurd h.0
headed word parts (ListTree at (more_trees (ListTree head_at others) rest)) h = absurd h.0
headed word parts (ListTree at (more_trees (AtomTree head_at text) rest)) h = record {
  at = at;
  head_at = head_at;
  rest = rest;
  is = ap (λ t. ListTree at (more_trees (AtomTree head_at t) rest)) h.0;
  have = h.1;
}

pub record AreTwo (a b : Shape) (trees : Trees) : Type 0 where
  pub first : Tree
  pub second : Tree
  pub are : trees ≡ more_trees first (more_trees second no_trees)
  pub one : HasShape a first
  pub two : HasShape b second

pub two_shapes : (a b : Shape) (trees : Trees) → HaveShapes (more_shapes a (one_shape b)) trees → AreTwo a b trees
unfolding HaveShapes
two_shapes a b no_trees h = absurd h
two_shapes a b (more_trees first no_trees) h = absurd h.1
two_shapes a b (more_trees first (more_trees second no_trees)) h = record { first = first; second = second; are = refl; one = h.0; two = h.1.0 }
two_shapes a b (more_trees first (more_trees second (more_trees third rest))) h = absurd h.1.1

-- ---- operations

operation_form : (env : Env) (at head_at : ℕ) (word : List ℕ) (operator : Operator) (rest : Trees) → word_of word ≡ Some (Applies operator) → takes operator (count rest) ≡ true → (is_minus operator && is_literal rest) ≡ false
    → form_of env at (more_trees (AtomTree head_at word) rest) ≡ Ok (Operation operator)
unfolding form_of operation
operation_form env at head_at word operator rest w many apart = rw (w, many, apart) refl

pub operation_read : {env : Env} (word : List ℕ) (operator : Operator) (parts : Shapes) (a : Term) (more : List Term) (t : Term) → word_of word ≡ Some (Applies operator) → ReadAll env parts (a ∷ more)
    → takes operator (suc (length more)) ≡ true → divides operator ≡ false → fits operator (map ty_of (a ∷ more)) ≡ true → ((trees : Trees) → HaveShapes parts trees → (is_minus operator && is_literal trees) ≡ false) → meaning operator a more ≡ t
    → Reads env (headed_by word parts) t
unfolding term_of terms_of built
operation_read {env = env} word operator parts a more t w all many whole typed apart is = record { read = λ tree h. read tree (headed word parts tree h) }
  where
    read : (tree : Tree) → IsHeaded word parts tree → term_of env tree ≡ Ok t
    read tree h =
        let count_is : takes operator (count h.rest) ≡ true = ap (takes operator) (all.many h.rest h.have) ∙ many in
        let form : form_of env h.at (more_trees (AtomTree h.head_at word) h.rest) ≡ Ok (Operation operator) = operation_form env h.at h.head_at word operator h.rest w count_is (apart h.rest h.have) in
        ap (term_of env) h.is ∙ rw (form, whole, all.read h.rest h.have, typed) (ap Ok is)

-- an operation other than the minus
pub plain_operation : {env : Env} (word : List ℕ) (operator : Operator) (parts : Shapes) (a : Term) (more : List Term) (t : Term) → word_of word ≡ Some (Applies operator) → ReadAll env parts (a ∷ more)
    → takes operator (suc (length more)) ≡ true → divides operator ≡ false → is_minus operator ≡ false → fits operator (map ty_of (a ∷ more)) ≡ true → meaning operator a more ≡ t → Reads env (headed_by word parts) t
plain_operation word operator parts a more t w all many whole plus typed is = operation_read word operator parts a more t w all many whole typed (λ trees h. rw plus refl) is

-- a division by a number from 1
pub division_read : {env : Env} (word : List ℕ) (operator : Operator) (s : Shape) (a : Term) (n : ℕ) (t : Term) → word_of word ≡ Some (Applies operator) → Reads env s a → 0 < n → n < 2 ^ 127
    → divides operator ≡ true → takes operator 2 ≡ true → is_minus operator ≡ false → fits operator (map ty_of (a ∷ number n ∷ [])) ≡ true → meaning operator a (number n ∷ []) ≡ t
    → Reads env (headed_by word (more_shapes s (one_shape (AtomShape (decimal n))))) t
unfolding term_of terms_of built divisor_of HasShape
division_read {env = env} word operator s a n t w one low high divided many plus typed is = record { read = λ tree h. read tree (headed word (more_shapes s (one_shape (AtomShape (decimal n)))) tree h) }
  where
    divisor : (tree : Tree) → HasShape (AtomShape (decimal n)) tree → divisor_of tree ≡ Ok (number n)
    divisor (QuotedTree at text) h = absurd h
    divisor (ListTree at parts) h = absurd h
    divisor (AtomTree at text) h =
        let number_is : is_number text ≡ true = ap (λ d. is_number d) h ∙ number_form n (omega arith) in
        let value_is : value_of text ≡ n = ap (λ d. value_of d) h ∙ number_value n (omega arith) in
        rw (number_is, value_is, lt-ltb 0 n low, lt-ltb n (2 ^ 127) high) refl

    terms : (trees : Trees) → AreTwo s (AtomShape (decimal n)) trees → terms_of env (ReadTerm ∷ Divisor ∷ []) trees ≡ Ok (a ∷ number n ∷ [])
    terms trees h = ap (terms_of env (ReadTerm ∷ Divisor ∷ [])) h.are ∙ rw (one.read h.first h.one, divisor h.second h.two) refl

    read : (tree : Tree) → IsHeaded word (more_shapes s (one_shape (AtomShape (decimal n)))) tree → term_of env tree ≡ Ok t
    read tree h =
        let two = two_shapes s (AtomShape (decimal n)) h.rest h.have in
        let count_is : takes operator (count h.rest) ≡ true = ap (λ ts. takes operator (count ts)) two.are ∙ many in
        let form : form_of env h.at (more_trees (AtomTree h.head_at word) h.rest) ≡ Ok (Operation operator) = operation_form env h.at h.head_at word operator h.rest w count_is (rw plus refl) in
        ap (term_of env) h.is ∙ rw (form, divided, terms h.rest two, typed) (ap Ok is)

-- ---- literals

literal_at : (at n : ℕ) → n < 2 ^ 127 → literal_of at (decimal n) ≡ Ok (number n)
literal_at at n below = rw (number_value n (omega arith), lt-ltb n (2 ^ 127) below) refl

pub literal_read : {env : Env} (n : ℕ) → n < 2 ^ 127 → Reads env (AtomShape (decimal n)) (number n)
unfolding term_of atom_of HasShape
literal_read {env = env} n below = record { read = λ tree h. read tree h }
  where
    read : (tree : Tree) → HasShape (AtomShape (decimal n)) tree → term_of env tree ≡ Ok (number n)
    read (QuotedTree at text) h = absurd h
    read (ListTree at parts) h = absurd h
    read (AtomTree at text) h = ap (λ d. atom_of env at d) h ∙ rw (number_form n (omega arith), literal_at at n below) refl

only_literal : (n : ℕ) → n < 2 ^ 127 → (trees : Trees) → HaveShapes (one_shape (AtomShape (decimal n))) trees → is_literal trees ≡ true
unfolding HasShape HaveShapes
only_literal n below no_trees h = absurd h
only_literal n below (more_trees (QuotedTree at text) rest) h = absurd h.0
only_literal n below (more_trees (ListTree at parts) rest) h = absurd h.0
only_literal n below (more_trees (AtomTree at text) no_trees) h = ap (λ d. is_number d) h.0 ∙ number_form n (omega arith)
only_literal n below (more_trees (AtomTree at text) (more_trees second rest)) h = absurd h.1

negative_form : (env : Env) (at head_at : ℕ) (rest : Trees) → count rest ≡ 1 → is_literal rest ≡ true → form_of env at (more_trees (AtomTree head_at (codes "-")) rest) ≡ Ok Negative
unfolding form_of operation word_of
negative_form env at head_at rest many literal = rw (many, literal) refl

pub negative_read : {env : Env} (n : ℕ) → n < 2 ^ 127 → Reads env (headed_by (codes "-") (one_shape (AtomShape (decimal n)))) (NumTm (neg_ℤ (pos n)))
unfolding term_of terms_of built
negative_read {env = env} n below = record { read = λ tree h. read tree (headed (codes "-") (one_shape (AtomShape (decimal n))) tree h) }
  where
    read : (tree : Tree) → IsHeaded (codes "-") (one_shape (AtomShape (decimal n))) tree → term_of env tree ≡ Ok (NumTm (neg_ℤ (pos n)))
    read tree h =
        let all : ReadAll env (one_shape (AtomShape (decimal n))) (number n ∷ []) = all_one (literal_read n below) in
        let form : form_of env h.at (more_trees (AtomTree h.head_at (codes "-")) h.rest) ≡ Ok Negative = negative_form env h.at h.head_at h.rest (all.many h.rest h.have) (only_literal n below h.rest h.have) in
        ap (term_of env) h.is ∙ rw (form, all.read h.rest h.have) refl

-- what isn't read as a number is written as none
pub no_literal : (env : Env) (a : Term) (parts : Shapes) → ReadAll env parts (a ∷ []) → ((n : ℕ) → a ≡ number n → ⊥) → (trees : Trees) → HaveShapes parts trees → is_literal trees ≡ false
unfolding term_of terms_of atom_of
no_literal env a parts all apart trees have = by trees (all.read trees have)
  where
    one : (tree : Tree) → term_of env tree ≡ Ok a → is_literal_tree tree ≡ false
    one (QuotedTree at text) h = refl
    one (ListTree at parts) h = refl
    one (AtomTree at text) h = tested (is_number text) refl
      where
        tested : (b : Bool) → is_number text ≡ b → is_number text ≡ false
        tested false e = e
        tested true e =
            let literal : literal_of at text ≡ Ok a = sym (rw e refl) ∙ h in
            absurd (apart (value_of text) (sym (same_Ok (number (value_of text)) a (wanting_ok _ _ at _ a literal))))

    by : (trees : Trees) → terms_of env [] trees ≡ Ok (a ∷ []) → is_literal trees ≡ false
    by no_trees h = refl
    by (more_trees tree (more_trees second rest)) h = refl
    by (more_trees tree no_trees) h =
        let first = bind_ok (term_of env tree) (λ first. Ok (first ∷ [])) (a ∷ []) h in
        let same : first.0 ≡ a = (let whole : first.0 ∷ [] ≡ a ∷ [] = same_Ok (first.0 ∷ []) (a ∷ []) first.2 in cc) in
        one tree (first.1 ∙ ap Ok same)

-- ---- names

pub variable_read : {env : Env} (k i : ℕ) (t : Ty) → k < 2 ^ 32 → bound_to env.binders (variable_text k) ≡ Some (i, t) → Reads env (AtomShape (variable_text k)) (BoundTm i t)
unfolding term_of atom_of HasShape
variable_read {env = env} k i t below bound = record { read = λ tree h. read tree h }
  where
    read : (tree : Tree) → HasShape (AtomShape (variable_text k)) tree → term_of env tree ≡ Ok (BoundTm i t)
    read (QuotedTree at text) h = absurd h
    read (ListTree at parts) h = absurd h
    read (AtomTree at text) h = ap (λ d. atom_of env at d) h ∙ rw (variable_no_number k, variable_form k below, bound) refl

pub constant_read : {env : Env} (name : List ℕ) (declared : Ty) → is_name name ≡ true → bound_to env.binders name ≡ None → lookup (bytes_eq name) env.consts ≡ Some declared → is_ground declared ≡ true
    → Reads env (AtomShape name) (ConstTm name declared)
unfolding term_of atom_of HasShape is_variable
constant_read {env = env} name declared named free found closed = record { read = λ tree h. read tree h }
  where
    read : (tree : Tree) → HasShape (AtomShape name) tree → term_of env tree ≡ Ok (ConstTm name declared)
    read (QuotedTree at text) h = absurd h
    read (ListTree at parts) h = absurd h
    read (AtomTree at text) h =
        ap (λ d. atom_of env at d) h
        ∙ rw (name_no_number name named, name_apart name (codes "true") named true_no_name, name_apart name (codes "false") named false_no_name, named, free, found, closed) refl

pub true_read : {env : Env} → Reads env (AtomShape (codes "true")) true_tm
unfolding term_of atom_of HasShape is_number
true_read {env = env} = record { read = λ tree h. read tree h }
  where
    read : (tree : Tree) → HasShape (AtomShape (codes "true")) tree → term_of env tree ≡ Ok true_tm
    read (QuotedTree at text) h = absurd h
    read (ListTree at parts) h = absurd h
    read (AtomTree at text) h = ap (λ d. atom_of env at d) h ∙ refl

pub false_read : {env : Env} → Reads env (AtomShape (codes "false")) false_tm
unfolding term_of atom_of HasShape is_number
false_read {env = env} = record { read = λ tree h. read tree h }
  where
    read : (tree : Tree) → HasShape (AtomShape (codes "false")) tree → term_of env tree ≡ Ok false_tm
    read (QuotedTree at text) h = absurd h
    read (ListTree at parts) h = absurd h
    read (AtomTree at text) h = ap (λ d. atom_of env at d) h ∙ refl

-- a constant with its type
ascribed : (env : Env) (at place : ℕ) (name : List ℕ) (declared type : Ty) (tree : Tree) → is_name name ≡ true → bound_to env.binders name ≡ None → lookup (bytes_eq name) env.consts ≡ Some declared → type_of env.types tree ≡ Ok type
    → ascription env at (more_trees (AtomTree place name) (more_trees tree no_trees)) ≡ Ok (Ascription name declared type)
unfolding ascription constant_of two_of name_of
ascribed env at place name declared type tree named free found read = rw (named, free, found, read) refl

pub ascription_read : {env : Env} (name : List ℕ) (declared type : Ty) → is_name name ≡ true → bound_to env.binders name ≡ None → lookup (bytes_eq name) env.consts ≡ Some declared → is_instance declared type ≡ true
    → IsGivenType env.types type → Reads env (headed_by (codes "as") (more_shapes (AtomShape name) (one_shape (type_shape type)))) (ConstTm name type)
unfolding term_of terms_of built HasShape form_of word_of
ascription_read {env = env} name declared type named free found instance given = record { read = λ tree h. read tree (headed (codes "as") (more_shapes (AtomShape name) (one_shape (type_shape type))) tree h) }
  where
    form : (at : ℕ) (first second : Tree) → HasShape (AtomShape name) first → HasShape (type_shape type) second → ascription env at (more_trees first (more_trees second no_trees)) ≡ Ok (Ascription name declared type)
    form at (QuotedTree place text) second h k = absurd h
    form at (ListTree place parts) second h k = absurd h
    form at (AtomTree place text) second h k =
        ap (λ d. ascription env at (more_trees (AtomTree place d) (more_trees second no_trees))) h ∙ ascribed env at place name declared type second named free found (reads_type env.types type given second k)

    read : (tree : Tree) → IsHeaded (codes "as") (more_shapes (AtomShape name) (one_shape (type_shape type))) tree → term_of env tree ≡ Ok (ConstTm name type)
    read tree h =
        let two = two_shapes (AtomShape name) (type_shape type) h.rest h.have in
        ap (term_of env) h.is ∙ ap (λ ts. term_of env (ListTree h.at (more_trees (AtomTree h.head_at (codes "as")) ts))) two.are
        ∙ rw (form h.at two.first two.second two.one two.two, instance) refl

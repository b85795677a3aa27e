-- What each term is written as is read as the term, where its parts are.
use Rattle.std.proofs.Common.{◌≡◌, ℕ, suc, ◌^◌, ◌<◌, List, [], ◌∷◌, ◌++◌, length, map, Some, Bool, true, false, ◌&&◌, nat_lt, codes, refl, ap, ◌∙◌, arith}
use Rattle.std.specs.Fmt.{decimal}
use Rattle.std.proofs.lemmas.Bool.{lt-ltb}
use Rattle.std.proofs.lemmas.List.{length-append, map-append}
use Rattle.std.proofs.lemmas.List.Folds.{list_all-append}
use Rattle.hol_types.specs.Ty.{Ty, BoolTy, IntTy, FunTy}
use Rattle.hol_types.specs.TyEq.{ty_eq}
use Rattle.hol_types.proofs.TyEqLemmas.{ty_eq_refl}
use Rattle.hol_terms.specs.Term.{Term, AppTm, LamTm, ty_of}
use Rattle.hol_terms.specs.Constants.{add, at_most, conditional, conjunction, disjunction, equation, exists, for_all, implication, less, mul, neg, negation, number, quotient, remainder, sub}
use Rattle.sexp.specs.Tree.{Trees, AtomTree, QuotedTree, ListTree, no_trees, more_trees}
use Rattle.goal_print.specs.declared.kind.Kind.TheVariants.{Application, Conditional, NegatedZero, And, Or, Sum, Product, Forall, Exists, Lambda}
use Rattle.goal_text.specs.declared.word.Operator.{Operator}
use Rattle.goal_text.specs.declared.word.Operator.TheVariants as operators
use Rattle.goal_text.specs.declared.word.Word.TheVariants.{Applies}
use Rattle.goal_text.specs.Lexicon.{word_of}
use Rattle.goal_text.specs.Names.{Constants, Constructors}
use Rattle.goal_text.specs.Operations.{all_are, fits, meaning, takes, to_the_left, to_the_right}
use Rattle.goal_text.specs.Forms.{divides, is_literal, is_minus}
use Rattle.goal_print.specs.Shapes.{Shape, Shapes, AtomShape, ListShape, more_shapes, joined, one_shape, HasShape, HaveShapes}
use Rattle.goal_print.specs.TermShape.{Written, Listed, applied_to, binder_shape, binders_in, body_in, chained, headed_by, in_list, left_of, right_of, shape_of}
use Rattle.goal_text.specs.Given.{IsGivenType}
use Rattle.goal_print.specs.Under.{under_binders}
use Rattle.goal_print.proofs.PartReadLemmas.{Reads, all_joined, all_more, all_one, division_read, negative_read, no_literal, operation_read, plain_operation}
use Rattle.goal_print.proofs.ListReadLemmas.{applied_read, chain_more, chain_read, spine_more}
use Rattle.goal_print.proofs.PlaceReadLemmas.{AreOperands, IsWritten, chained_written, listed_written}

pub bool_no_function : (a b : Ty) → BoolTy ≡ FunTy a b → ⊥
bool_no_function a b e = cc

pub int_no_function : (a b : Ty) → IntTy ≡ FunTy a b → ⊥
int_no_function a b e = cc

are_pushed : (type : Ty) (ts : List Term) (b : Term) → all_are type (map ty_of ts) ≡ true → ty_of b ≡ type → all_are type (map ty_of (ts ++ b ∷ [])) ≡ true
are_pushed type ts b h e =
    ap (all_are type) (map-append ty_of ts (b ∷ [])) ∙ list_all-append (ty_eq type) (map ty_of ts) (ty_of b ∷ []) ∙ rw (h, e, ty_eq_refl type) refl

left_pushed : (op : Term → Term → Term) (a : Term) (ts : List Term) (b : Term) → to_the_left op a (ts ++ b ∷ []) ≡ op (to_the_left op a ts) b
left_pushed op a [] b = refl
left_pushed op a (t ∷ ts) b = left_pushed op (op a t) ts b

two_or_more : (ts : List Term) (b : Term) → nat_lt 1 (suc (length (ts ++ b ∷ []))) ≡ true
two_or_more ts b = let more = length-append ts (b ∷ []) in lt-ltb 1 (suc (length (ts ++ b ∷ []))) (omega (arith, more))

ty_eq_int : {t : Ty} → t ≡ IntTy → all_are IntTy (t ∷ []) ≡ true
ty_eq_int e = rw (e, ty_eq_refl IntTy) refl

-- a list is no literal
only_list : (parts : Shapes) (trees : Trees) → HaveShapes (one_shape (ListShape parts)) trees → is_literal trees ≡ false
unfolding HasShape HaveShapes
only_list parts no_trees h = refl
only_list parts (more_trees (AtomTree at text) rest) h = absurd h.0
only_list parts (more_trees (QuotedTree at text) rest) h = absurd h.0
only_list parts (more_trees (ListTree at trees) no_trees) h = refl
only_list parts (more_trees (ListTree at trees) (more_trees second rest)) h = refl

two_no_literal : (s u : Shape) (trees : Trees) → HaveShapes (more_shapes s (one_shape u)) trees → is_literal trees ≡ false
unfolding HaveShapes
two_no_literal s u no_trees h = refl
two_no_literal s u (more_trees first no_trees) h = absurd h.1
two_no_literal s u (more_trees first (more_trees second rest)) h = refl

more_than_one : (operator : Operator) (s u : Shape) (trees : Trees) → HaveShapes (more_shapes s (one_shape u)) trees → (is_minus operator && is_literal trees) ≡ false
more_than_one operator s u trees h = by (is_minus operator)
  where
    by : (b : Bool) → (b && is_literal trees) ≡ false
    by false = refl
    by true = two_no_literal s u trees h

module _ (types : Constructors) (consts : Constants) (bs : List Ty) where
  -- ---- nested to the right and to the left

  right_operands : {v : Written} {others : Shapes} {a b : Term} (op : Term → Term → Term) → IsWritten types consts bs v a → ty_of a ≡ BoolTy → AreOperands (under_binders types consts bs) BoolTy (to_the_right op) others b
      → AreOperands (under_binders types consts bs) BoolTy (to_the_right op) (more_shapes (shape_of v) others) (op a b)
  right_operands {a = a} op first typed rest = record {
    first = a;
    more = rest.first ∷ rest.more;
    all = all_more first.alone rest.all;
    typed = rw (typed, ty_eq_refl BoolTy, rest.typed) refl;
    is = ap (op a) rest.is;
  }

  left_operands : {w : Written} {others : Shapes} {a b : Term} (op : Term → Term → Term) → AreOperands (under_binders types consts bs) IntTy (to_the_left op) others a → IsWritten types consts bs w b → ty_of b ≡ IntTy
      → AreOperands (under_binders types consts bs) IntTy (to_the_left op) (joined others (one_shape (shape_of w))) (op a b)
  left_operands {b = b} op front last typed = record {
    first = front.first;
    more = front.more ++ b ∷ [];
    all = all_joined front.all (all_one last.alone);
    typed = are_pushed IntTy (front.first ∷ front.more) b front.typed typed;
    is = left_pushed op front.first front.more b ∙ ap (λ l. op l b) front.is;
  }

  pub and_written : {v w : Written} {a b : Term} → IsWritten types consts bs v a → ty_of a ≡ BoolTy → IsWritten types consts bs w b → ty_of b ≡ BoolTy → IsWritten types consts bs (right_of And v w) (conjunction a b)
  unfolding word_of
  and_written {v = v} {w = w} {a = a} {b = b} one typed two type =
      let own = right_operands conjunction one typed (two.stands And type) in
      listed_written types consts bs And (more_shapes (shape_of v) (in_list And w))
      (plain_operation (codes "and") operators.And (more_shapes (shape_of v) (in_list And w)) own.first own.more (conjunction a b) refl own.all (lt-ltb 0 (suc (length own.more)) (omega arith)) refl refl own.typed own.is)
      (λ e. own)

  pub or_written : {v w : Written} {a b : Term} → IsWritten types consts bs v a → ty_of a ≡ BoolTy → IsWritten types consts bs w b → ty_of b ≡ BoolTy → IsWritten types consts bs (right_of Or v w) (disjunction a b)
  unfolding word_of
  or_written {v = v} {w = w} {a = a} {b = b} one typed two type =
      let own = right_operands disjunction one typed (two.stands Or type) in
      listed_written types consts bs Or (more_shapes (shape_of v) (in_list Or w))
      (plain_operation (codes "or") operators.Or (more_shapes (shape_of v) (in_list Or w)) own.first own.more (disjunction a b) refl own.all (lt-ltb 0 (suc (length own.more)) (omega arith)) refl refl own.typed own.is)
      (λ e. own)

  pub sum_written : {v w : Written} {a b : Term} → IsWritten types consts bs v a → ty_of a ≡ IntTy → IsWritten types consts bs w b → ty_of b ≡ IntTy → IsWritten types consts bs (left_of Sum v w) (add a b)
  unfolding word_of left_operands
  sum_written {v = v} {w = w} {a = a} {b = b} one typed two type =
      let front = one.stands Sum typed in
      let own = left_operands add front two type in
      listed_written types consts bs Sum (joined (in_list Sum v) (one_shape (shape_of w)))
      (plain_operation (codes "+") operators.Plus (joined (in_list Sum v) (one_shape (shape_of w))) own.first own.more (add a b) refl own.all (two_or_more front.more b) refl refl own.typed own.is)
      (λ e. own)

  pub product_written : {v w : Written} {a b : Term} → IsWritten types consts bs v a → ty_of a ≡ IntTy → IsWritten types consts bs w b → ty_of b ≡ IntTy → IsWritten types consts bs (left_of Product v w) (mul a b)
  unfolding word_of left_operands
  product_written {v = v} {w = w} {a = a} {b = b} one typed two type =
      let front = one.stands Product typed in
      let own = left_operands mul front two type in
      listed_written types consts bs Product (joined (in_list Product v) (one_shape (shape_of w)))
      (plain_operation (codes "*") operators.Times (joined (in_list Product v) (one_shape (shape_of w))) own.first own.more (mul a b) refl own.all (two_or_more front.more b) refl refl own.typed own.is)
      (λ e. own)

  -- ---- applications and binders

  pub application_written : {v w : Written} {f x : Term} (r : Ty) → IsWritten types consts bs v f → IsWritten types consts bs w x → ty_of f ≡ FunTy (ty_of x) r → IsWritten types consts bs (Listed Application (applied_to v w)) (AppTm f x)
  application_written {v = v} {w = w} {x = x} r function argument type =
      let spine = function.stands Application (ty_of x) r type in
      listed_written types consts bs Application (applied_to v w) (applied_read r spine argument.alone type) (λ a b e. spine_more r spine argument.alone type)

  module _ (t : Ty) (given : IsGivenType types t) (below : length bs < 2 ^ 32) where
    pub lambda_written : {w : Written} {b : Term} → IsWritten types consts (t ∷ bs) w b → IsWritten types consts bs (chained Lambda (binder_shape (length bs) t) w) (LamTm t b)
    unfolding word_of
    lambda_written {w = w} body =
        let own = chain_more types consts t given below (body.stands Lambda) in
        chained_written types consts bs Lambda (more_shapes (binder_shape (length bs) t) (binders_in Lambda w)) (body_in Lambda w) (chain_read types consts (codes "lambda") refl own) own

    pub all_written : {w : Written} {b : Term} → IsWritten types consts (t ∷ bs) w b → ty_of b ≡ BoolTy → IsWritten types consts bs (chained Forall (binder_shape (length bs) t) w) (for_all t (LamTm t b))
    unfolding word_of
    all_written {w = w} body typed =
        let own = chain_more types consts t given below (body.stands Forall typed) in
        chained_written types consts bs Forall (more_shapes (binder_shape (length bs) t) (binders_in Forall w)) (body_in Forall w) (chain_read types consts (codes "forall") refl own) (λ e. own)

    pub some_written : {w : Written} {b : Term} → IsWritten types consts (t ∷ bs) w b → ty_of b ≡ BoolTy → IsWritten types consts bs (chained Exists (binder_shape (length bs) t) w) (exists t (LamTm t b))
    unfolding word_of
    some_written {w = w} body typed =
        let own = chain_more types consts t given below (body.stands Exists typed) in
        chained_written types consts bs Exists (more_shapes (binder_shape (length bs) t) (binders_in Exists w)) (body_in Exists w) (chain_read types consts (codes "exists") refl own) (λ e. own)

  -- ---- operations

  operation_written : {t : Term} (word : List ℕ) (parts : Shapes) → Reads (under_binders types consts bs) (headed_by word parts) t → ((a b : Ty) → ty_of t ≡ FunTy a b → ⊥) → IsWritten types consts bs (Listed Application (more_shapes (AtomShape word) parts)) t
  operation_written word parts read none = listed_written types consts bs Application (more_shapes (AtomShape word) parts) read (λ a b e. absurd (none a b e))

  pub not_written : {v : Written} {a : Term} → IsWritten types consts bs v a → ty_of a ≡ BoolTy → IsWritten types consts bs (Listed Application (more_shapes (AtomShape (codes "not")) (one_shape (shape_of v)))) (negation a)
  unfolding word_of
  not_written {v = v} {a = a} one typed =
      operation_written (codes "not") (one_shape (shape_of v))
      (plain_operation (codes "not") operators.Not (one_shape (shape_of v)) a [] (negation a) refl (all_one one.alone) refl refl refl (rw (typed, ty_eq_refl BoolTy) refl) refl) bool_no_function

  pub neg_written : {v : Written} {a : Term} → IsWritten types consts bs v a → ty_of a ≡ IntTy → ((n : ℕ) → a ≡ number n → ⊥) → IsWritten types consts bs (Listed Application (more_shapes (AtomShape (codes "-")) (one_shape (shape_of v)))) (neg a)
  unfolding word_of
  neg_written {v = v} {a = a} one typed apart =
      operation_written (codes "-") (one_shape (shape_of v))
      (operation_read (codes "-") operators.Minus (one_shape (shape_of v)) a [] (neg a) refl (all_one one.alone) refl refl (rw (typed, ty_eq_refl IntTy) refl) (no_literal (under_binders types consts bs) a (one_shape (shape_of v)) (all_one one.alone) apart) refl) int_no_function

  -- `(- (- 0))`
  pub zero_written : IsWritten types consts bs (Listed NegatedZero (more_shapes (AtomShape (codes "-")) (one_shape (AtomShape (decimal 0))))) (neg (number 0))
  unfolding word_of
  zero_written =
      let inner : Reads (under_binders types consts bs) (headed_by (codes "-") (one_shape (AtomShape (decimal 0)))) (number 0) = negative_read 0 (omega arith) in
      listed_written types consts bs NegatedZero (more_shapes (AtomShape (codes "-")) (one_shape (AtomShape (decimal 0))))
      (operation_read (codes "-") operators.Minus (one_shape (headed_by (codes "-") (one_shape (AtomShape (decimal 0))))) (number 0) [] (neg (number 0)) refl (all_one inner) refl refl (ty_eq_int refl) (λ trees h. only_list (more_shapes (AtomShape (codes "-")) (one_shape (AtomShape (decimal 0)))) trees h) refl) tt

  -- an operation on two parts
  module _ {v w : Written} {a b : Term} (one : IsWritten types consts bs v a) (two : IsWritten types consts bs w b) where
    two_written : (word : List ℕ) (operator : Operator) (t : Term) → word_of word ≡ Some (Applies operator) → takes operator 2 ≡ true → divides operator ≡ false → fits operator (ty_of a ∷ ty_of b ∷ []) ≡ true → meaning operator a (b ∷ []) ≡ t
        → ((c d : Ty) → ty_of t ≡ FunTy c d → ⊥) → IsWritten types consts bs (Listed Application (more_shapes (AtomShape word) (more_shapes (shape_of v) (one_shape (shape_of w))))) t
    two_written word operator t w_is many whole typed is none =
        operation_written word (more_shapes (shape_of v) (one_shape (shape_of w)))
        (operation_read word operator (more_shapes (shape_of v) (one_shape (shape_of w))) a (b ∷ []) t w_is (all_more one.alone (all_one two.alone)) many whole typed (λ trees h. more_than_one operator (shape_of v) (shape_of w) trees h) is) none

    pub implies_written : ty_of a ≡ BoolTy → ty_of b ≡ BoolTy → IsWritten types consts bs (Listed Application (more_shapes (AtomShape (codes "=>")) (more_shapes (shape_of v) (one_shape (shape_of w))))) (implication a b)
    unfolding word_of
    implies_written e f = two_written (codes "=>") operators.Implies (implication a b) refl refl refl (rw (e, f, ty_eq_refl BoolTy) refl) refl bool_no_function

    pub equation_written : ty_of b ≡ ty_of a → IsWritten types consts bs (Listed Application (more_shapes (AtomShape (codes "=")) (more_shapes (shape_of v) (one_shape (shape_of w))))) (equation (ty_of a) a b)
    unfolding word_of
    equation_written e = two_written (codes "=") operators.Equals (equation (ty_of a) a b) refl refl refl (rw (e, ty_eq_refl (ty_of a)) refl) refl bool_no_function

    pub sub_written : ty_of a ≡ IntTy → ty_of b ≡ IntTy → IsWritten types consts bs (Listed Application (more_shapes (AtomShape (codes "-")) (more_shapes (shape_of v) (one_shape (shape_of w))))) (sub a b)
    unfolding word_of
    sub_written e f = two_written (codes "-") operators.Minus (sub a b) refl refl refl (rw (e, f, ty_eq_refl IntTy) refl) refl int_no_function

    pub at_most_written : ty_of a ≡ IntTy → ty_of b ≡ IntTy → IsWritten types consts bs (Listed Application (more_shapes (AtomShape (codes "<=")) (more_shapes (shape_of v) (one_shape (shape_of w))))) (at_most a b)
    unfolding word_of
    at_most_written e f = two_written (codes "<=") operators.AtMost (at_most a b) refl refl refl (rw (e, f, ty_eq_refl IntTy) refl) refl bool_no_function

    pub less_written : ty_of a ≡ IntTy → ty_of b ≡ IntTy → IsWritten types consts bs (Listed Application (more_shapes (AtomShape (codes "<")) (more_shapes (shape_of v) (one_shape (shape_of w))))) (less a b)
    unfolding word_of
    less_written e f = two_written (codes "<") operators.Less (less a b) refl refl refl (rw (e, f, ty_eq_refl IntTy) refl) refl bool_no_function

  pub quotient_written : {v : Written} {a : Term} (n : ℕ) → IsWritten types consts bs v a → ty_of a ≡ IntTy → 0 < n → n < 2 ^ 127
      → IsWritten types consts bs (Listed Application (more_shapes (AtomShape (codes "div")) (more_shapes (shape_of v) (one_shape (AtomShape (decimal n)))))) (quotient a (number n))
  unfolding word_of
  quotient_written {v = v} {a = a} n one typed low high =
      operation_written (codes "div") (more_shapes (shape_of v) (one_shape (AtomShape (decimal n))))
      (division_read (codes "div") operators.Div (shape_of v) a n (quotient a (number n)) refl one.alone low high refl refl refl (rw (typed, ty_eq_refl IntTy) refl) refl) int_no_function

  pub remainder_written : {v : Written} {a : Term} (n : ℕ) → IsWritten types consts bs v a → ty_of a ≡ IntTy → 0 < n → n < 2 ^ 127
      → IsWritten types consts bs (Listed Application (more_shapes (AtomShape (codes "mod")) (more_shapes (shape_of v) (one_shape (AtomShape (decimal n)))))) (remainder a (number n))
  unfolding word_of
  remainder_written {v = v} {a = a} n one typed low high =
      operation_written (codes "mod") (more_shapes (shape_of v) (one_shape (AtomShape (decimal n))))
      (division_read (codes "mod") operators.Mod (shape_of v) a n (remainder a (number n)) refl one.alone low high refl refl refl (rw (typed, ty_eq_refl IntTy) refl) refl) int_no_function

  pub conditional_written : {u v w : Written} {c a b : Term} → IsWritten types consts bs u c → ty_of c ≡ BoolTy → IsWritten types consts bs v a → IsWritten types consts bs w b → ty_of b ≡ ty_of a
      → IsWritten types consts bs (Listed Conditional (more_shapes (AtomShape (codes "ite")) (more_shapes (shape_of u) (more_shapes (shape_of v) (one_shape (shape_of w)))))) (conditional (ty_of a) c a b)
  unfolding word_of
  conditional_written {u = u} {v = v} {w = w} {c = c} {a = a} {b = b} test typed one two type =
      listed_written types consts bs Conditional (more_shapes (AtomShape (codes "ite")) (more_shapes (shape_of u) (more_shapes (shape_of v) (one_shape (shape_of w)))))
      (plain_operation (codes "ite") operators.Ite (more_shapes (shape_of u) (more_shapes (shape_of v) (one_shape (shape_of w)))) c (a ∷ b ∷ []) (conditional (ty_of a) c a b) refl
      (all_more test.alone (all_more one.alone (all_one two.alone))) refl refl refl (rw (typed, type, ty_eq_refl BoolTy, ty_eq_refl (ty_of a)) refl) refl) tt

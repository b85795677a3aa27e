-- A tree of the shape of a given term is read as the term.
use Rattle.std.proofs.Common.{◌≡◌, ℕ, zero, suc, ◌+◌, ◌-◌, ◌^◌, ◌<◌, ◌≤◌, List, ◌∷◌, length, Some, None, Ok, Bool, true, false, not, bytes_eq, codes, refl, sym, ap, subst, ◌∙◌, add-one, arith}
use Rattle.std.specs.Prelude.{ℤ, pos, negsuc}
use Rattle.std.specs.Fmt.{decimal}
use Rattle.std.specs.Map.{lookup}
use Rattle.hol_types.specs.Ty.{Ty, BoolTy, IntTy, FunTy}
use Rattle.hol_terms.specs.Term.{Term, FreeTm, BoundTm, ConstTm, NumTm, AppTm, LamTm, ty_of}
use Rattle.hol_terms.specs.declared.node.FreeKind.{FreeKind}
use Rattle.hol_terms.specs.Constants.{FunTy2, neg, neg_tm, number}
use Rattle.sexp.specs.Tree.{Tree, AtomTree, QuotedTree, ListTree}
use Rattle.goal_print.specs.declared.kind.Kind.{Kind}
use Rattle.goal_print.specs.declared.kind.Kind.TheVariants.{Application, Conditional, NegatedZero}
use Rattle.goal_text.specs.Lexicon.{is_name, word_of}
use Rattle.goal_text.specs.Names.{Constants, Constructors, Env, bound_to}
use Rattle.goal_text.specs.Matching.{is_ground}
use Rattle.goal_text.specs.Forms.{Applied, application, head_word}
use Rattle.goal_text.specs.Terms.{term_of}
use Rattle.goal_print.specs.Kinds.{kind_by_lambda, kind_by_number, kind_of, kind_of_three, kind_of_two}
use Rattle.goal_print.specs.TermText.{is_schematic, variable_text, word_for}
use Rattle.goal_print.specs.Shapes.{AtomShape, more_shapes, one_shape, HasShape}
use Rattle.goal_print.specs.TermShape.{Written, Whole, Listed, applied_to, bound_written, constant_shape, first_written, shape_of, term_shape, written, written_by}
use Rattle.goal_text.specs.Given
use Rattle.goal_text.specs.Given.{IsGiven, IsGivenConstant, IsPositive, binder_at}
use Rattle.goal_print.specs.Under.{IsOnce, named, nested, under_binders}
use Rattle.goal_print.proofs.WordLemmas.{bound_below, bound_found, name_apart, name_no_word, name_unbound, variable_no_word}
use Rattle.goal_print.proofs.PartReadLemmas.{ascription_read, constant_read, false_read, literal_read, negative_read, true_read, variable_read}
use Rattle.goal_print.proofs.ListReadLemmas.{IsPlain, list_plain}
use Rattle.goal_print.proofs.PlaceReadLemmas.{IsWritten, whole_written}
use Rattle.goal_print.proofs.TermReadLemmas.{all_written, and_written, application_written, at_most_written, conditional_written, equation_written, implies_written, bool_no_function, int_no_function, lambda_written, less_written, neg_written, not_written, or_written, product_written, quotient_written, remainder_written, some_written, sub_written, sum_written, zero_written}

-- ---- kinds

-- a constant with one argument that makes no list of another kind
kind_one : (word : List ℕ) (type : Ty) (x : Term) → kind_by_lambda word ≡ Application → ((value : ℤ) → kind_by_number word value ≡ Application) → kind_of (ConstTm word type) x ≡ Application
unfolding kind_of
kind_one word type (FreeTm kind name t) h k = refl
kind_one word type (BoundTm i t) h k = refl
kind_one word type (ConstTm name t) h k = refl
kind_one word type (NumTm value) h k = k value
kind_one word type (AppTm f y) h k = refl
kind_one word type (LamTm t b) h k = h

negative_apart : (n m : ℕ) → NumTm (negsuc n) ≡ number m → ⊥
negative_apart n m e = cc

free_apart : (kind : FreeKind) (name : List ℕ) (type : Ty) (m : ℕ) → FreeTm kind name type ≡ number m → ⊥
free_apart kind name type m e = cc

bound_apart : (i : ℕ) (type : Ty) (m : ℕ) → BoundTm i type ≡ number m → ⊥
bound_apart i type m e = cc

constant_apart : (name : List ℕ) (type : Ty) (m : ℕ) → ConstTm name type ≡ number m → ⊥
constant_apart name type m e = cc

application_apart : (f x : Term) (m : ℕ) → AppTm f x ≡ number m → ⊥
application_apart f x m e = cc

lambda_apart : (t : Ty) (b : Term) (m : ℕ) → LamTm t b ≡ number m → ⊥
lambda_apart t b m e = cc

module _ (types : Constructors) (consts : Constants) where
  no_word : (name word : List ℕ) → is_name name ≡ true → is_name word ≡ false → bytes_eq name word ≡ false
  no_word name word h k = name_apart name word h k

  kind_three_given : {bs : List Ty} {f : Term} → IsGiven types consts bs f → kind_of_three f ≡ Application
  unfolding is_name
  kind_three_given (Given.given_constant {name = name} g) = rw (no_word name (codes "ite") g.named refl) refl
  kind_three_given other = refl

  kind_two_given : {bs : List Ty} {f : Term} → IsGiven types consts bs f → kind_of_two f ≡ Application
  unfolding is_name
  kind_two_given (Given.given_constant {name = name} g) =
      rw (no_word name (codes "and") g.named refl, no_word name (codes "or") g.named refl, no_word name (codes "+") g.named refl, no_word name (codes "*") g.named refl) refl
  kind_two_given (Given.given_application g y type) = kind_three_given g
  kind_two_given other = refl

  -- where a function is given, its application is one
  kind_given : {bs : List Ty} {f : Term} (x : Term) → IsGiven types consts bs f → kind_of f x ≡ Application
  unfolding is_name kind_of
  kind_given x (Given.given_constant {name = name} {type = type} g) =
      kind_one name type x (rw (no_word name (codes "all") g.named refl, no_word name (codes "ex") g.named refl) refl) (λ value. rw (no_word name (codes "neg") g.named refl) refl)
  kind_given x (Given.given_application g y type) = kind_two_given g
  kind_given x Given.given_true = kind_one (codes "true") BoolTy x refl (λ value. refl)
  kind_given x Given.given_false = kind_one (codes "false") BoolTy x refl (λ value. refl)
  kind_given x other = refl

  -- ---- names

  name_word : (name : List ℕ) → is_name name ≡ true → word_for name ≡ name
  unfolding is_name word_for
  name_word name h = rw (no_word name (codes "eq") h refl, no_word name (codes "neg") h refl, no_word name (codes "sub") h refl, no_word name (codes "le") h refl, no_word name (codes "lt") h refl) refl

  -- an atom that leads an application
  atom_plain : (env : Env) (word : List ℕ) → word_of word ≡ None → ((at : ℕ) → application env (AtomTree at word) ≡ Applied) → IsPlain env (AtomShape word)
  unfolding HasShape
  atom_plain env word none leads = record { no_word = λ tree h. other tree h; leads = λ tree h. lead tree h }
    where
      other : (tree : Tree) → HasShape (AtomShape word) tree → head_word tree ≡ None
      other (AtomTree at text) h = ap (λ w. word_of w) h ∙ none
      other (QuotedTree at text) h = absurd h
      other (ListTree at parts) h = absurd h

      lead : (tree : Tree) → HasShape (AtomShape word) tree → application env tree ≡ Applied
      lead (AtomTree at text) h = ap (λ w. application env (AtomTree at w)) h ∙ leads at
      lead (QuotedTree at text) h = absurd h
      lead (ListTree at parts) h = absurd h

  bound_leads : (env : Env) (name : List ℕ) (i : ℕ) (t : Ty) → bound_to env.binders name ≡ Some (i, t) → (at : ℕ) → application env (AtomTree at name) ≡ Applied
  unfolding application
  bound_leads env name i t bound at = rw bound refl

  constant_leads : (env : Env) (name : List ℕ) (declared : Ty) → bound_to env.binders name ≡ None → lookup (bytes_eq name) env.consts ≡ Some declared → is_ground declared ≡ true → (at : ℕ) → application env (AtomTree at name) ≡ Applied
  unfolding application
  constant_leads env name declared free found closed at = rw (free, found, closed) refl

  variable_written : (bs : List Ty) (i : ℕ) (t : Ty) → length bs ≤ 2 ^ 32 → binder_at bs i ≡ Some t → IsWritten types consts bs (Whole (AtomShape (variable_text (length bs - 1 - i)))) (BoundTm i t)
  variable_written bs i t most h =
      let bound : bound_to (named bs) (variable_text (length bs - 1 - i)) ≡ Some (i, t) = bound_found bs i t most h in
      let inside : i < length bs = bound_below bs i t h in
      let below : length bs - 1 - i < 2 ^ 32 = omega (arith, inside, most) in
      whole_written types consts bs (variable_read (length bs - 1 - i) i t below bound)
      (λ a b e. atom_plain (under_binders types consts bs) (variable_text (length bs - 1 - i)) (variable_no_word (length bs - 1 - i)) (λ at. bound_leads (under_binders types consts bs) (variable_text (length bs - 1 - i)) i t bound at))

  constant_written : (bs : List Ty) (name : List ℕ) (type : Ty) → IsOnce consts → IsGivenConstant types consts name type → IsWritten types consts bs (Whole (constant_shape (is_schematic consts name) name type)) (ConstTm name type)
  constant_written bs name type once g = by (is_ground g.declared) refl
    where
      free : bound_to (named bs) name ≡ None
      free = name_unbound bs name g.named

      schematic : is_schematic consts name ≡ not (is_ground g.declared)
      schematic = once.once name g.declared g.looked_up

      P : Bool → Type 0
      P b = IsWritten types consts bs (Whole (constant_shape b name type)) (ConstTm name type)

      by : (b : Bool) → is_ground g.declared ≡ b → P (is_schematic consts name)
      by false e =
          subst (λ b. P b) (sym (schematic ∙ ap not e))
          (whole_written types consts bs (ascription_read name g.declared type g.named free g.looked_up g.an_instance g.given) (λ a b f. list_plain (under_binders types consts bs) _))
      by true e =
          subst (λ b. P b) (sym (schematic ∙ ap not e))
          (subst (λ w. IsWritten types consts bs (Whole (AtomShape w)) (ConstTm name type)) (sym (name_word name g.named))
          (subst (λ u. IsWritten types consts bs (Whole (AtomShape name)) (ConstTm name u)) (sym (g.own e))
          (whole_written types consts bs (constant_read name g.declared g.named free g.looked_up e)
          (λ a b f. atom_plain (under_binders types consts bs) name (name_no_word name g.named) (λ at. constant_leads (under_binders types consts bs) name g.declared free g.looked_up e at)))))

  -- ---- what each term is written as

  module _ (once : IsOnce consts) (depth : ℕ) where
    by_kind : (f x : Term) (kind : Kind) → kind_of f x ≡ kind → written consts depth (AppTm f x) ≡ written_by kind (written consts depth f) (first_written consts depth f) (written consts depth x) (bound_written consts kind depth x)
    unfolding written
    by_kind f x kind e = rw e refl

    word_written : (word said : List ℕ) (type : Ty) → is_name word ≡ false → word_for word ≡ said → written consts depth (ConstTm word type) ≡ Whole (AtomShape said)
    unfolding written
    word_written word said type h e = rw (once.only_names word h, e) refl

    module _ (word said : List ℕ) (type : Ty) (other : is_name word ≡ false) (so : word_for word ≡ said) (a : Term) (one : kind_of (ConstTm word type) a ≡ Application) where
      one_part : written consts depth (AppTm (ConstTm word type) a) ≡ Listed Application (more_shapes (AtomShape said) (one_shape (shape_of (written consts depth a))))
      one_part = by_kind (ConstTm word type) a Application one ∙ ap (λ w. Listed Application (applied_to w (written consts depth a))) (word_written word said type other so)

      two_parts : (b : Term) → kind_of (AppTm (ConstTm word type) a) b ≡ Application
          → written consts depth (AppTm (AppTm (ConstTm word type) a) b) ≡ Listed Application (more_shapes (AtomShape said) (more_shapes (shape_of (written consts depth a)) (one_shape (shape_of (written consts depth b)))))
      two_parts b two = by_kind (AppTm (ConstTm word type) a) b Application two ∙ ap (λ w. Listed Application (applied_to w (written consts depth b))) one_part

      three_parts : (b c : Term) → kind_of (AppTm (ConstTm word type) a) b ≡ Application → kind_of (AppTm (AppTm (ConstTm word type) a) b) c ≡ Conditional
          → written consts depth (AppTm (AppTm (AppTm (ConstTm word type) a) b) c) ≡ Listed Conditional (more_shapes (AtomShape said) (more_shapes (shape_of (written consts depth a)) (more_shapes (shape_of (written consts depth b)) (one_shape (shape_of (written consts depth c))))))
      three_parts b c two three = by_kind (AppTm (AppTm (ConstTm word type) a) b) c Conditional three ∙ ap (λ w. Listed Conditional (applied_to w (written consts depth c))) (two_parts b two)

  -- an operation's list is what the term is written as
  as_written : {bs : List Ty} {v w : Written} {t : Term} → w ≡ v → IsWritten types consts bs v t → IsWritten types consts bs w t
  as_written {bs = bs} {t = t} e h = subst (λ u. IsWritten types consts bs u t) (sym e) h

  module _ (once : IsOnce consts) where
    number_written : (bs : List Ty) (n : ℕ) → n < 2 ^ 127 → IsWritten types consts bs (Whole (AtomShape (decimal n))) (number n)
    number_written bs n h = whole_written types consts bs (literal_read n h) (λ a b e. absurd (int_no_function a b e))

    neg_other : (bs : List Ty) (a : Term) → IsWritten types consts bs (written consts (length bs) a) a → ty_of a ≡ IntTy → kind_of neg_tm a ≡ Application → ((n : ℕ) → a ≡ number n → ⊥) → IsWritten types consts bs (written consts (length bs) (neg a)) (neg a)
    unfolding is_name word_for
    neg_other bs a h typed kind apart = as_written (one_part once (length bs) (codes "neg") (codes "-") (FunTy IntTy IntTy) refl refl a kind) (neg_written types consts bs h typed apart)

    neg_given : (bs : List Ty) (a : Term) → IsWritten types consts bs (written consts (length bs) a) a → ty_of a ≡ IntTy → (IsPositive a → ⊥) → IsWritten types consts bs (written consts (length bs) (neg a)) (neg a)
    unfolding kind_of is_name word_for written
    neg_given bs (NumTm (pos zero)) h typed none =
        as_written (by_kind once (length bs) neg_tm (number 0) NegatedZero refl ∙ ap (λ w. Listed NegatedZero (applied_to w (Whole (AtomShape (decimal 0))))) (word_written once (length bs) (codes "neg") (codes "-") (FunTy IntTy IntTy) refl refl))
        (zero_written types consts bs)
    neg_given bs (NumTm (pos (suc n))) h typed none = absurd (none tt)
    neg_given bs (NumTm (negsuc n)) h typed none = neg_other bs (NumTm (negsuc n)) h typed refl (λ m e. negative_apart n m e)
    neg_given bs (FreeTm kind name type) h typed none = neg_other bs (FreeTm kind name type) h typed refl (λ m e. free_apart kind name type m e)
    neg_given bs (BoundTm i type) h typed none = neg_other bs (BoundTm i type) h typed refl (λ m e. bound_apart i type m e)
    neg_given bs (ConstTm name type) h typed none = neg_other bs (ConstTm name type) h typed refl (λ m e. constant_apart name type m e)
    neg_given bs (AppTm f x) h typed none = neg_other bs (AppTm f x) h typed refl (λ m e. application_apart f x m e)
    neg_given bs (LamTm t b) h typed none = neg_other bs (LamTm t b) h typed refl (λ m e. lambda_apart t b m e)

    deeper : (bs : List Ty) (t : Ty) (b : Term) → IsWritten types consts (t ∷ bs) (written consts (length (t ∷ bs)) b) b → IsWritten types consts (t ∷ bs) (written consts (length bs + 1) b) b
    deeper bs t b h = subst (λ n. IsWritten types consts (t ∷ bs) (written consts n b) b) (sym (add-one (length bs))) h

    -- what each given term is written as is read as the term
    pub given_written : {bs : List Ty} {t : Term} → IsGiven types consts bs t → length bs + nested t ≤ 2 ^ 32 → IsWritten types consts bs (written consts (length bs) t) t
    unfolding written first_written bound_written kind_of is_name word_for
    given_written {bs = bs} (Given.given_bound {i = i} {t = t} e) fits = variable_written bs i t (omega arith) e
    given_written {bs = bs} (Given.given_constant {name = name} {type = type} g) fits = constant_written bs name type once g
    given_written {bs = bs} (Given.given_number {n = n} h) fits = number_written bs n h
    given_written {bs = bs} (Given.given_negative {n = n} h) fits = whole_written types consts bs (negative_read (suc n) h) (λ a b e. absurd (int_no_function a b e))
    given_written {bs = bs} Given.given_true fits = as_written (word_written once (length bs) (codes "true") (codes "true") BoolTy refl refl) (whole_written types consts bs true_read (λ a b e. absurd (bool_no_function a b e)))
    given_written {bs = bs} Given.given_false fits = as_written (word_written once (length bs) (codes "false") (codes "false") BoolTy refl refl) (whole_written types consts bs false_read (λ a b e. absurd (bool_no_function a b e)))
    given_written {bs = bs} (Given.given_not {a = a} g typed) fits =
        as_written (one_part once (length bs) (codes "not") (codes "not") (FunTy BoolTy BoolTy) refl refl a (kind_one (codes "not") (FunTy BoolTy BoolTy) a refl (λ value. refl))) (not_written types consts bs (given_written g (omega arith)) typed)
    given_written {bs = bs} (Given.given_and {a = a} {b = b} g typed h type) fits = and_written types consts bs (given_written g (omega arith)) typed (given_written h (omega arith)) type
    given_written {bs = bs} (Given.given_or {a = a} {b = b} g typed h type) fits = or_written types consts bs (given_written g (omega arith)) typed (given_written h (omega arith)) type
    given_written {bs = bs} (Given.given_implies {a = a} {b = b} g typed h type) fits =
        as_written (two_parts once (length bs) (codes "=>") (codes "=>") (FunTy2 BoolTy BoolTy BoolTy) refl refl a (kind_one (codes "=>") (FunTy2 BoolTy BoolTy BoolTy) a refl (λ value. refl)) b refl)
        (implies_written types consts bs (given_written g (omega arith)) (given_written h (omega arith)) typed type)
    given_written {bs = bs} (Given.given_equation {a = a} {b = b} g h type) fits =
        as_written (two_parts once (length bs) (codes "eq") (codes "=") (FunTy2 (ty_of a) (ty_of a) BoolTy) refl refl a (kind_one (codes "eq") (FunTy2 (ty_of a) (ty_of a) BoolTy) a refl (λ value. refl)) b refl)
        (equation_written types consts bs (given_written g (omega arith)) (given_written h (omega arith)) type)
    given_written {bs = bs} (Given.given_conditional {c = c} {a = a} {b = b} g typed h k type) fits =
        as_written (three_parts once (length bs) (codes "ite") (codes "ite") (FunTy BoolTy (FunTy2 (ty_of a) (ty_of a) (ty_of a))) refl refl c (kind_one (codes "ite") (FunTy BoolTy (FunTy2 (ty_of a) (ty_of a) (ty_of a))) c refl (λ value. refl)) a b refl refl)
        (conditional_written types consts bs (given_written g (omega arith)) typed (given_written h (omega arith)) (given_written k (omega arith)) type)
    given_written {bs = bs} (Given.given_add {a = a} {b = b} g typed h type) fits = sum_written types consts bs (given_written g (omega arith)) typed (given_written h (omega arith)) type
    given_written {bs = bs} (Given.given_mul {a = a} {b = b} g typed h type) fits = product_written types consts bs (given_written g (omega arith)) typed (given_written h (omega arith)) type
    given_written {bs = bs} (Given.given_sub {a = a} {b = b} g typed h type) fits =
        as_written (two_parts once (length bs) (codes "sub") (codes "-") (FunTy2 IntTy IntTy IntTy) refl refl a (kind_one (codes "sub") (FunTy2 IntTy IntTy IntTy) a refl (λ value. refl)) b refl)
        (sub_written types consts bs (given_written g (omega arith)) (given_written h (omega arith)) typed type)
    given_written {bs = bs} (Given.given_neg {a = a} g typed none) fits = neg_given bs a (given_written g (omega arith)) typed none
    given_written {bs = bs} (Given.given_at_most {a = a} {b = b} g typed h type) fits =
        as_written (two_parts once (length bs) (codes "le") (codes "<=") (FunTy2 IntTy IntTy BoolTy) refl refl a (kind_one (codes "le") (FunTy2 IntTy IntTy BoolTy) a refl (λ value. refl)) b refl)
        (at_most_written types consts bs (given_written g (omega arith)) (given_written h (omega arith)) typed type)
    given_written {bs = bs} (Given.given_less {a = a} {b = b} g typed h type) fits =
        as_written (two_parts once (length bs) (codes "lt") (codes "<") (FunTy2 IntTy IntTy BoolTy) refl refl a (kind_one (codes "lt") (FunTy2 IntTy IntTy BoolTy) a refl (λ value. refl)) b refl)
        (less_written types consts bs (given_written g (omega arith)) (given_written h (omega arith)) typed type)
    given_written {bs = bs} (Given.given_quotient {a = a} {n = n} g typed low high) fits =
        as_written (two_parts once (length bs) (codes "div") (codes "div") (FunTy2 IntTy IntTy IntTy) refl refl a (kind_one (codes "div") (FunTy2 IntTy IntTy IntTy) a refl (λ value. refl)) (number n) refl)
        (quotient_written types consts bs n (given_written g (omega arith)) typed low high)
    given_written {bs = bs} (Given.given_remainder {a = a} {n = n} g typed low high) fits =
        as_written (two_parts once (length bs) (codes "mod") (codes "mod") (FunTy2 IntTy IntTy IntTy) refl refl a (kind_one (codes "mod") (FunTy2 IntTy IntTy IntTy) a refl (λ value. refl)) (number n) refl)
        (remainder_written types consts bs n (given_written g (omega arith)) typed low high)
    given_written {bs = bs} (Given.given_all {t = t} {b = b} given g typed) fits = all_written types consts bs t given (omega arith) (deeper bs t b (given_written g (omega arith))) typed
    given_written {bs = bs} (Given.given_ex {t = t} {b = b} given g typed) fits = some_written types consts bs t given (omega arith) (deeper bs t b (given_written g (omega arith))) typed
    given_written {bs = bs} (Given.given_lambda {t = t} {b = b} given g) fits = lambda_written types consts bs t given (omega arith) (deeper bs t b (given_written g (omega arith)))
    given_written {bs = bs} (Given.given_application {f = f} {x = x} {r = r} g h type) fits =
        as_written (by_kind once (length bs) f x Application (kind_given x g)) (application_written types consts bs r (given_written g (omega arith)) (given_written h (omega arith)) type)

-- a tree of the shape of a given term is read as the term
pub reads_term : (types : Constructors) (consts : Constants) → IsOnce consts → (bs : List Ty) (t : Term) → IsGiven types consts bs t → length bs + nested t ≤ 2 ^ 32
    → (tree : Tree) → HasShape (term_shape consts (length bs) t) tree → term_of (under_binders types consts bs) tree ≡ Ok t
reads_term types consts once bs t given fits tree h = (given_written types consts once given fits).alone.read tree h

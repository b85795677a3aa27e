-- What holds of all that terms are made of holds of the terms that are read.
use Rattle.std.proofs.Common.{◌≡◌, ℕ, ◌+◌, List, [], ◌∷◌, ◌++◌, Option, Some, None, Result, Ok, Err, Bool, true, false, if◌then◌else◌, map, refl, sym, subst}
use Rattle.std.specs.Prelude.{bytes_eq, codes, nat_lt, neg_ℤ, ℤ, ◌&&◌}
use Rattle.std.specs.Map.{lookup}
use Rattle.std.proofs.lemmas.Option.{none-some, same_Some}
use Rattle.hol_types.specs.Ty.{Ty, BoolTy}
use Rattle.hol_types.specs.TypeSubst.{TypeSubst, instance_of}
use Rattle.hol_terms.specs.Term.{Term, FreeTm, BoundTm, ConstTm, NumTm, AppTm, LamTm, ty_of}
use Rattle.hol_terms.specs.Constants as hol
use Rattle.sexp.specs.Tree.{Tree, Trees, AtomTree, QuotedTree, ListTree, no_trees, more_trees}
use Rattle.goal_text.specs.declared.fault.GoalFault.{GoalFault}
use Rattle.goal_text.specs.declared.fault.GoalKind.{GoalKind}
use Rattle.goal_text.specs.declared.fault.GoalKind.TheVariants.{IllTyped, FreeTypeVariable}
use Rattle.goal_text.specs.declared.word.Operator.{Operator}
use Rattle.goal_text.specs.declared.word.Operator.TheVariants as operators
use Rattle.goal_text.specs.declared.word.Binder.{Binder}
use Rattle.goal_text.specs.declared.word.Binder.TheVariants as binders
use Rattle.goal_text.specs.Read.{Read, ◌>>=◌, faulty, wanting}
use Rattle.goal_text.specs.Lexicon.{is_number, is_variable, misfit, misplaced, value_of}
use Rattle.goal_text.specs.Names.{Env, Binders, bound_to, one_further}
use Rattle.goal_text.specs.Matching.{covers, instance_by, instance_for, match_parameters}
use Rattle.goal_text.specs.Operations.{to_the_right, to_the_left, neighbours, all_of, differs, differences, on_two, on_three, minus, meaning, under_all}
use Rattle.goal_text.specs.Forms.{Form, Applied, Instance, Negative, Operation, Binding, Ascription, Part, Skipped, ReadTerm, Divisor, form_of, inside, parts_of}
use Rattle.goal_text.specs.Terms.{constant_by, name_by, literal_of, atom_of, divisor_of, applied, apply_all, negative, built, term_of, terms_of}

-- ---- what is read

pub bind_ok : {A B : Type 0} (r : Result A GoalFault) (f : A → Result B GoalFault) (y : B) → (r >>= f) ≡ Ok y → (x : A) × (r ≡ Ok x) × (f x ≡ Ok y)
bind_ok (Ok x) f y h = (x, refl, h)
bind_ok (Err e) f y h = absurd (err-ok h)
  where
    err-ok : Err e ≡ Ok y → ⊥
    err-ok k = cc

pub wanting_ok : {A : Type 0} (b : Bool) (kind : GoalKind) (at : ℕ) (r : Result A GoalFault) (y : A) → wanting b kind at r ≡ Ok y → r ≡ Ok y
wanting_ok true kind at r y h = h
wanting_ok false kind at r y h = absurd (err-ok h)
  where
    err-ok : faulty kind at ≡ Ok y → ⊥
    err-ok k = cc

pub same_Ok : {A : Type 0} (x y : A) → ◌≡◌ {A = Result A GoalFault} (Ok x) (Ok y) → x ≡ y
same_Ok x y h = cc

pub no_fault : {A B : Type 0} (kind : GoalKind) (at : ℕ) (y : A) → ◌≡◌ {A = Result A GoalFault} (faulty kind at) (Ok y) → B
no_fault {A = A} {B = B} kind at y h = absurd (bad h)
  where
    bad : ◌≡◌ {A = Result A GoalFault} (faulty kind at) (Ok y) → ⊥
    bad k = cc

pub further_of : (o : Option (ℕ × Ty)) (b : ℕ × Ty) → one_further o ≡ Some b → (c : ℕ × Ty) × (o ≡ Some c) × (b ≡ (c.0 + 1, c.1))
further_of None b h = absurd (none-some _ h)
further_of (Some c) b h = (c, refl, sym (same_Some _ _ h))

-- ---- what holds of all that terms are made of

-- it holds of what a term under binders is made of
pub record IsKept (P : Binders → Term → Type 0) : Type 0 where
  pub application : (bs : Binders) (f x : Term) → P bs f → P bs x → P bs (AppTm f x)
  pub lambda : (b : List ℕ × Ty) (bs : Binders) (p : Term) → P (b ∷ bs) p → P bs (LamTm b.1 p)
  pub constant : (bs : Binders) (n : List ℕ) (t : Ty) → P bs (ConstTm n t)
  pub number : (bs : Binders) (z : ℤ) → P bs (NumTm z)
  pub bound : (bs : Binders) (name : List ℕ) (b : ℕ × Ty) → bound_to bs name ≡ Some b → P bs (BoundTm b.0 b.1)

-- it holds of each term
abbrev pub Each : (Binders → Term → Type 0) → Binders → List Term → Type 0
Each P bs [] = Unit {0}
Each P bs (t ∷ ts) = P bs t × Each P bs ts

module _ (P : Binders → Term → Type 0) (kept : IsKept P) where
  -- an operation on two terms keeps it
  abbrev Keeps : Binders → (Term → Term → Term) → Type 0
  Keeps bs op = (x y : Term) → P bs x → P bs y → P bs (op x y)

  has_two : (bs : Binders) (n : List ℕ) (t : Ty) → Keeps bs (hol.apply_two (ConstTm n t))
  has_two bs n t = λ x y a b. kept.application bs (AppTm (ConstTm n t) x) y (kept.application bs (ConstTm n t) x (kept.constant bs n t) a) b

  has_right : (bs : Binders) (op : Term → Term → Term) → Keeps bs op → (a : Term) (ts : List Term) → P bs a → Each P bs ts → P bs (to_the_right op a ts)
  has_right bs op k a [] h all = h
  has_right bs op k a (t ∷ ts) h all = k a (to_the_right op t ts) h (has_right bs op k t ts all.0 all.1)

  has_left : (bs : Binders) (op : Term → Term → Term) → Keeps bs op → (a : Term) (ts : List Term) → P bs a → Each P bs ts → P bs (to_the_left op a ts)
  has_left bs op k a [] h all = h
  has_left bs op k a (t ∷ ts) h all = has_left bs op k (op a t) ts (k a t h all.0) all.1

  have_neighbours : (bs : Binders) (op : Term → Term → Term) → Keeps bs op → (a : Term) (ts : List Term) → P bs a → Each P bs ts → Each P bs (neighbours op a ts)
  have_neighbours bs op k a [] h all = tt
  have_neighbours bs op k a (t ∷ ts) h all = (k a t h all.0, have_neighbours bs op k t ts all.0 all.1)

  have_append : (bs : Binders) (ts us : List Term) → Each P bs ts → Each P bs us → Each P bs (ts ++ us)
  have_append bs [] us a b = b
  have_append bs (t ∷ ts) us a b = (a.0, have_append bs ts us a.1 b)

  has_negation : (bs : Binders) (a : Term) → P bs a → P bs (hol.negation a)
  has_negation bs a h = kept.application bs hol.not_tm a (kept.constant bs (codes "not") _) h

  have_differs : (bs : Binders) (a : Term) (ts : List Term) → P bs a → Each P bs ts → Each P bs (differs a ts)
  have_differs bs a [] h all = tt
  have_differs bs a (t ∷ ts) h all = (has_negation bs (hol.equation (ty_of a) a t) (has_two bs (codes "eq") _ a t h all.0), have_differs bs a ts h all.1)

  have_differences : (bs : Binders) (ts : List Term) → Each P bs ts → Each P bs (differences ts)
  have_differences bs [] all = tt
  have_differences bs (t ∷ ts) all = have_append bs (differs t ts) (differences ts) (have_differs bs t ts all.0 all.1) (have_differences bs ts all.1)

  has_all_of : (bs : Binders) (ts : List Term) → Each P bs ts → P bs (all_of ts)
  has_all_of bs [] all = kept.constant bs (codes "true") _
  has_all_of bs (t ∷ ts) all = has_right bs hol.conjunction (has_two bs (codes "and") _) t ts all.0 all.1

  has_on_two : (bs : Binders) (op : Term → Term → Term) → Keeps bs op → (a : Term) (ts : List Term) → P bs a → Each P bs ts → P bs (on_two op a ts)
  has_on_two bs op k a [] h all = h
  has_on_two bs op k a (t ∷ ts) h all = k a t h all.0

  has_choice : (bs : Binders) (a : Term) (ts : List Term) → P bs a → Each P bs ts → P bs (on_three (λ c x y. hol.conditional (ty_of x) c x y) a ts)
  has_choice bs a [] h all = h
  has_choice bs a (b ∷ []) h all = h
  has_choice bs a (b ∷ c ∷ more) h all = kept.application bs (hol.apply_two (hol.ite_tm (ty_of b)) a b) c (has_two bs (codes "ite") _ a b h all.0) all.1.0

  has_minus : (bs : Binders) (a : Term) (ts : List Term) → P bs a → Each P bs ts → P bs (minus a ts)
  has_minus bs a [] h all = kept.application bs hol.neg_tm a (kept.constant bs (codes "neg") _) h
  has_minus bs a (t ∷ ts) h all = has_left bs hol.sub (has_two bs (codes "sub") _) a (t ∷ ts) h all

  has_meaning : (bs : Binders) (operator : Operator) (a : Term) (ts : List Term) → P bs a → Each P bs ts → P bs (meaning operator a ts)
  has_meaning bs operators.Not a ts h all = has_negation bs a h
  has_meaning bs operators.And a ts h all = has_right bs hol.conjunction (has_two bs (codes "and") _) a ts h all
  has_meaning bs operators.Or a ts h all = has_right bs hol.disjunction (has_two bs (codes "or") _) a ts h all
  has_meaning bs operators.Implies a ts h all = has_right bs hol.implication (has_two bs (codes "=>") _) a ts h all
  has_meaning bs operators.Equals a ts h all = has_all_of bs (neighbours (hol.equation (ty_of a)) a ts) (have_neighbours bs (hol.equation (ty_of a)) (has_two bs (codes "eq") _) a ts h all)
  has_meaning bs operators.Distinct a ts h all = has_all_of bs (differences (a ∷ ts)) (have_differences bs (a ∷ ts) (h, all))
  has_meaning bs operators.Xor a ts h all = has_on_two bs (λ x y. hol.negation (hol.equation BoolTy x y)) (λ x y b c. has_negation bs (hol.equation BoolTy x y) (has_two bs (codes "eq") (hol.FunTy2 BoolTy BoolTy BoolTy) x y b c)) a ts h all
  has_meaning bs operators.Ite a ts h all = has_choice bs a ts h all
  has_meaning bs operators.Plus a ts h all = has_left bs hol.add (has_two bs (codes "+") _) a ts h all
  has_meaning bs operators.Times a ts h all = has_left bs hol.mul (has_two bs (codes "*") _) a ts h all
  has_meaning bs operators.Minus a ts h all = has_minus bs a ts h all
  has_meaning bs operators.AtMost a ts h all = has_all_of bs (neighbours hol.at_most a ts) (have_neighbours bs hol.at_most (has_two bs (codes "le") _) a ts h all)
  has_meaning bs operators.Less a ts h all = has_all_of bs (neighbours hol.less a ts) (have_neighbours bs hol.less (has_two bs (codes "lt") _) a ts h all)
  has_meaning bs operators.AtLeast a ts h all = has_on_two bs (λ x y. hol.at_most y x) (λ x y b c. has_two bs (codes "le") _ y x c b) a ts h all
  has_meaning bs operators.Greater a ts h all = has_on_two bs (λ x y. hol.less y x) (λ x y b c. has_two bs (codes "lt") _ y x c b) a ts h all
  has_meaning bs operators.Div a ts h all = has_on_two bs hol.quotient (has_two bs (codes "div") _) a ts h all
  has_meaning bs operators.Mod a ts h all = has_on_two bs hol.remainder (has_two bs (codes "mod") _) a ts h all

  has_applied : (bs : Binders) (f : Term) (ts : List Term) → P bs f → Each P bs ts → P bs (applied f ts)
  has_applied bs f [] h all = h
  has_applied bs f (t ∷ ts) h all = has_applied bs (AppTm f t) ts (kept.application bs f t h all.0) all.1

  has_apply_all : (bs : Binders) (at : ℕ) (f : Term) (ts : List Term) (t : Term) → P bs f → Each P bs ts → apply_all at f ts ≡ Ok t → P bs t
  unfolding apply_all
  has_apply_all bs at f ts t h all e =
      let Q : Term → Type 0 = λ u. P bs u in
      subst Q (same_Ok (applied f ts) t (wanting_ok _ IllTyped at (Ok (applied f ts)) t e)) (has_applied bs f ts h all)

  has_negative : (bs : Binders) (t : Term) → P bs t → P bs (negative t)
  has_negative bs (NumTm z) h = kept.number bs (neg_ℤ z)
  has_negative bs (FreeTm k n t) h = h
  has_negative bs (BoundTm i t) h = h
  has_negative bs (ConstTm n t) h = h
  has_negative bs (AppTm f x) h = h
  has_negative bs (LamTm t b) h = h

  -- the variables of a binder leave
  pub has_under : (own outer : Binders) (binder : Binder) (p : Term) → P (own ++ outer) p → P outer (under_all binder own p)
  has_under [] outer binder p h = h
  has_under (b ∷ own) outer binders.Forall p h =
      has_under own outer binders.Forall (hol.for_all b.1 (LamTm b.1 p)) (kept.application (own ++ outer) (hol.all_tm b.1) (LamTm b.1 p) (kept.constant (own ++ outer) (codes "all") _) (kept.lambda b (own ++ outer) p h))
  has_under (b ∷ own) outer binders.Exists p h =
      has_under own outer binders.Exists (hol.exists b.1 (LamTm b.1 p)) (kept.application (own ++ outer) (hol.ex_tm b.1) (LamTm b.1 p) (kept.constant (own ++ outer) (codes "ex") _) (kept.lambda b (own ++ outer) p h))
  has_under (b ∷ own) outer binders.Lambda p h = has_under own outer binders.Lambda (LamTm b.1 p) (kept.lambda b (own ++ outer) p h)

  has_instance : (bs : Binders) (o : Option TypeSubst) (at head : ℕ) (name : List ℕ) (type : Ty) (t : Term) → instance_by o at head name type ≡ Ok t → P bs t
  has_instance bs None at head name type t h = no_fault _ at t h
  has_instance bs (Some s) at head name type t h =
      let Q : Term → Type 0 = λ u. P bs u in
      subst Q (same_Ok (ConstTm name (instance_of s type)) t (wanting_ok (covers s type) FreeTypeVariable head (Ok (ConstTm name (instance_of s type))) t h)) (kept.constant bs name (instance_of s type))

  has_built : (env : Env) (at : ℕ) (form : Form) (ts : List Term) (t : Term) → Each P (inside env form).binders ts → built at form ts ≡ Ok t → P env.binders t
  unfolding built instance_for
  has_built env at Applied [] t all h = no_fault _ at t h
  has_built env at Applied (f ∷ xs) t all h = has_apply_all env.binders at f xs t all.0 all.1 h
  has_built env at (Instance head name type) xs t all h =
      let f = bind_ok (instance_for at head name type (map ty_of xs)) (λ f. apply_all at f xs) t h in
      has_apply_all env.binders at f.0 xs t (has_instance env.binders (match_parameters [] type (map ty_of xs)) at head name type f.0 f.1) all f.2
  has_built env at Negative [] t all h = no_fault _ at t h
  has_built env at Negative (n ∷ more) t all h = let Q : Term → Type 0 = λ u. P env.binders u in subst Q (same_Ok (negative n) t h) (has_negative env.binders n all.0)
  has_built env at (Operation operator) [] t all h = no_fault _ at t h
  has_built env at (Operation operator) (a ∷ more) t all h =
      let Q : Term → Type 0 = λ u. P env.binders u in
      subst Q (same_Ok (meaning operator a more) t (wanting_ok _ IllTyped at (Ok (meaning operator a more)) t h)) (has_meaning env.binders operator a more all.0 all.1)
  has_built env at (Binding binder own) [] t all h = no_fault _ at t h
  has_built env at (Binding binder own) (body ∷ more) t all h =
      let Q : Term → Type 0 = λ u. P env.binders u in
      subst Q (same_Ok (under_all binder own body) t (wanting_ok _ IllTyped at (Ok (under_all binder own body)) t h)) (has_under own env.binders binder body all.0)
  has_built env at (Ascription name declared type) ts t all h =
      let Q : Term → Type 0 = λ u. P env.binders u in
      subst Q (same_Ok (ConstTm name type) t (wanting_ok _ IllTyped at (Ok (ConstTm name type)) t h)) (kept.constant env.binders name type)

  -- ---- atoms

  has_constant : (bs : Binders) (o : Option Ty) (at : ℕ) (text : List ℕ) (t : Term) → constant_by o at text ≡ Ok t → P bs t
  has_constant bs None at text t h = no_fault _ at t h
  has_constant bs (Some type) at text t h =
      let Q : Term → Type 0 = λ u. P bs u in
      subst Q (same_Ok (ConstTm text type) t (wanting_ok _ FreeTypeVariable at (Ok (ConstTm text type)) t h)) (kept.constant bs text type)

  has_named : (o : Option (ℕ × Ty)) (env : Env) (at : ℕ) (text : List ℕ) (t : Term) → bound_to env.binders text ≡ o → name_by o env at text ≡ Ok t → P env.binders t
  has_named (Some b) env at text t e h =
      let Q : Term → Type 0 = λ u. P env.binders u in
      subst Q (same_Ok (BoundTm b.0 b.1) t h) (kept.bound env.binders text b e)
  has_named None env at text t e h = has_constant env.binders (lookup (bytes_eq text) env.consts) at text t h

  has_literal : (bs : Binders) (at : ℕ) (text : List ℕ) (t : Term) → literal_of at text ≡ Ok t → P bs t
  has_literal bs at text t h =
      let Q : Term → Type 0 = λ u. P bs u in
      subst Q (same_Ok (hol.number (value_of text)) t (wanting_ok _ _ at (Ok (hol.number (value_of text))) t h)) (kept.number bs _)

  -- a term of one of several kinds, by tests
  has_if : (bs : Binders) (b : Bool) (x y : Read Term) (t : Term) → (x ≡ Ok t → P bs t) → (y ≡ Ok t → P bs t) → (if b then x else y) ≡ Ok t → P bs t
  has_if bs true x y t f g h = f h
  has_if bs false x y t f g h = g h

  has_truth : (bs : Binders) (n : List ℕ) (ty : Ty) (t : Term) → ◌≡◌ {A = Read Term} (Ok (ConstTm n ty)) (Ok t) → P bs t
  has_truth bs n ty t h = let Q : Term → Type 0 = λ u. P bs u in subst Q (same_Ok (ConstTm n ty) t h) (kept.constant bs n ty)

  has_atom : (env : Env) (at : ℕ) (text : List ℕ) (t : Term) → atom_of env at text ≡ Ok t → P env.binders t
  unfolding atom_of
  has_atom env at text t h =
      has_if env.binders (is_number text) _ _ t (λ e. has_literal env.binders at text t e)
      (λ e. has_if env.binders (bytes_eq text (codes "true")) _ _ t (λ k. has_truth env.binders _ _ t k)
      (λ k. has_if env.binders (bytes_eq text (codes "false")) _ _ t (λ l. has_truth env.binders _ _ t l)
      (λ l. has_named (bound_to env.binders text) env at text t refl (wanting_ok (is_variable text) _ at _ t l)) k) e) h

  has_divisor : (bs : Binders) (tree : Tree) (t : Term) → divisor_of tree ≡ Ok t → P bs t
  unfolding divisor_of
  has_divisor bs (AtomTree at text) t h = has_if bs (is_number text && nat_lt 0 (value_of text)) (literal_of at text) (misplaced (AtomTree at text)) t (λ e. has_literal bs at text t e) (λ e. no_fault (misfit (AtomTree at text)) at t e) h
  has_divisor bs (QuotedTree at text) t h = no_fault _ at t h
  has_divisor bs (ListTree at parts) t h = no_fault _ at t h

  -- ---- trees

  mutual
    unfolding term_of terms_of

    -- what is read under binders has it
    pub term_has : (env : Env) (tree : Tree) (t : Term) → term_of env tree ≡ Ok t → P env.binders t
    term_has env (AtomTree at text) t h = has_atom env at text t h
    term_has env (QuotedTree at text) t h = no_fault _ at t h
    term_has env (ListTree at parts) t h =
        let form = bind_ok (form_of env at parts) (λ form. terms_of (inside env form) (parts_of form) parts >>= λ terms. built at form terms) t h in
        let terms = bind_ok (terms_of (inside env form.0) (parts_of form.0) parts) (λ terms. built at form.0 terms) t form.2 in
        has_built env at form.0 terms.0 t (terms_have (inside env form.0) (parts_of form.0) parts terms.0 terms.1) terms.2

    pub terms_have : (env : Env) (kinds : List Part) (trees : Trees) (ts : List Term) → terms_of env kinds trees ≡ Ok ts → Each P env.binders ts
    terms_have env kinds no_trees ts h = let Q : List Term → Type 0 = λ us. Each P env.binders us in subst Q (same_Ok [] ts h) tt
    terms_have env [] (more_trees part parts) ts h =
        let first = bind_ok (term_of env part) (λ first. terms_of env [] parts >>= λ others. Ok (first ∷ others)) ts h in
        let others = bind_ok (terms_of env [] parts) (λ others. Ok (first.0 ∷ others)) ts first.2 in
        let Q : List Term → Type 0 = λ us. Each P env.binders us in
        subst Q (same_Ok (first.0 ∷ others.0) ts others.2) (term_has env part first.0 first.1, terms_have env [] parts others.0 others.1)
    terms_have env (Skipped ∷ kinds) (more_trees part parts) ts h = terms_have env kinds parts ts h
    terms_have env (ReadTerm ∷ kinds) (more_trees part parts) ts h =
        let first = bind_ok (term_of env part) (λ first. terms_of env kinds parts >>= λ others. Ok (first ∷ others)) ts h in
        let others = bind_ok (terms_of env kinds parts) (λ others. Ok (first.0 ∷ others)) ts first.2 in
        let Q : List Term → Type 0 = λ us. Each P env.binders us in
        subst Q (same_Ok (first.0 ∷ others.0) ts others.2) (term_has env part first.0 first.1, terms_have env kinds parts others.0 others.1)
    terms_have env (Divisor ∷ kinds) (more_trees part parts) ts h =
        let first = bind_ok (divisor_of part) (λ first. terms_of env kinds parts >>= λ others. Ok (first ∷ others)) ts h in
        let others = bind_ok (terms_of env kinds parts) (λ others. Ok (first.0 ∷ others)) ts first.2 in
        let Q : List Term → Type 0 = λ us. Each P env.binders us in
        subst Q (same_Ok (first.0 ∷ others.0) ts others.2) (has_divisor env.binders part first.0 first.1, terms_have env kinds parts others.0 others.1)

-- Each term that is read under declared names is given.
use Rattle.std.proofs.Common.{◌≡◌, ℕ, zero, suc, ◌+◌, ◌<◌, ◌^◌, List, [], ◌∷◌, ◌++◌, length, Option, Some, None, Ok, Bool, true, false, true≢false, ◌&&◌, map, refl, sym, ap, subst, ◌∙◌, arith}
use Rattle.std.specs.Prelude.{bytes_eq, codes, nat_lt, pos}
use Rattle.std.specs.Map.{lookup}
use Rattle.std.specs.List.{AllByRecursion}
use Rattle.std.proofs.lemmas.Bool.{ltb-true}
use Rattle.std.proofs.lemmas.Option.{none-some, same_Some}
use Rattle.hol_types.specs.Exact.{both_true}
use Rattle.hol_types.specs.Ty.{Ty, BoolTy, IntTy, VarTy, FunTy, ConsTy}
use Rattle.hol_types.specs.TyEq.{ty_eq}
use Rattle.hol_types.specs.TypeSubst.{TypeSubst, instance_of}
use Rattle.hol_types.proofs.TyEqLemmas.{ty_eq_sound, ty_eq_refl}
use Rattle.hol_terms.specs.Term.{Term, BoundTm, ConstTm, NumTm, AppTm, LamTm, ty_of, result_ty}
use Rattle.hol_terms.specs.Constants as hol
use Rattle.sexp.specs.Tree.{Tree, Trees, AtomTree, QuotedTree, ListTree, no_trees, more_trees, count}
use Rattle.goal_text.specs.declared.fault.GoalKind.TheVariants.{Number, Syntax, IllTyped, FreeTypeVariable}
use Rattle.goal_text.specs.declared.word.Binder.{Binder}
use Rattle.goal_text.specs.declared.word.Binder.TheVariants as binders
use Rattle.goal_text.specs.Read.{Read, ◌>>=◌}
use Rattle.goal_text.specs.Lexicon.{is_number, is_variable, misfit, misplaced, value_of}
use Rattle.goal_text.specs.Names.{Env, Constructors, Constants, Binders, bound_to, one_further}
use Rattle.goal_text.specs.Matching.{is_ground, is_instance, covers, instance_by, match_parameters}
use Rattle.goal_text.specs.Operations.{fits_body, under_all}
use Rattle.goal_text.specs.Forms.{Form, Applied, Instance, Negative, Operation, Binding, Ascription, Part, Skipped, ReadTerm, Divisor, inside, operands, is_literal}
use Rattle.goal_text.specs.Terms.{constant_by, name_by, literal_of, atom_of, divisor_of, takes_all, applied, apply_all, negative, term_of, terms_of}
use Rattle.goal_text.proofs.KeptLemmas.{bind_ok, no_fault, same_Ok, wanting_ok, further_of}
use Rattle.goal_text.specs.Given.{AreDeclared, IsGivenType, binder_at, IsGiven, given_bound, given_constant, given_number, given_negative, given_true, given_false, given_not, given_and, given_or, given_implies, given_equation, given_conditional, given_add, given_mul, given_sub, given_neg, given_at_most, given_less, given_quotient, given_remainder, given_all, given_ex, given_lambda, given_application}
use Rattle.goal_text.proofs.DeclaredLemmas.{declared_given, declared_named}
use Rattle.goal_text.proofs.ReadingLemmas.{if_read, test_passed}
use Rattle.goal_text.proofs.GivenTypeLemmas.{to_given, fun_given, truth_given, integer_given, parameters_given, is_its_instance, closed_is_instance, closed_own}
use Rattle.goal_text.proofs.GivenOperationLemmas.{IsDivisor, AreGiven}
use Rattle.goal_text.proofs.GivenFormLemmas.{binder_types, TypesGiven, FormSays}

-- constants are declared, and each binder has a given type
pub record IsGivenEnv (env : Env) : Type 0 where
  pub declared : AreDeclared env.types env.consts
  pub binders : TypesGiven env.types (binder_types env.binders)

-- ---- types of given terms

binder_type_given : (types : Constructors) (bs : List Ty) (i : ℕ) (t : Ty) → TypesGiven types bs → binder_at bs i ≡ Some t → IsGivenType types t
binder_type_given types [] i t all h = absurd (none-some t h)
binder_type_given types (b ∷ bs) zero t all h = subst (λ u. IsGivenType types u) (same_Some b t h) all.0
binder_type_given types (b ∷ bs) (suc i) t all h = binder_type_given types bs i t all.1 h

-- the type of a given term is given
pub type_given : (types : Constructors) (consts : Constants) (bs : List Ty) (t : Term) → TypesGiven types bs → IsGiven types consts bs t → IsGivenType types (ty_of t)
type_given types consts bs t all (given_bound {i = i} {t = u} h) = binder_type_given types bs i u all h
type_given types consts bs t all (given_constant c) = c.given
type_given types consts bs t all (given_number h) = integer_given types
type_given types consts bs t all (given_negative h) = integer_given types
type_given types consts bs t all given_true = truth_given types
type_given types consts bs t all given_false = truth_given types
type_given types consts bs t all (given_not a p) = truth_given types
type_given types consts bs t all (given_and a p b q) = truth_given types
type_given types consts bs t all (given_or a p b q) = truth_given types
type_given types consts bs t all (given_implies a p b q) = truth_given types
type_given types consts bs t all (given_equation a b p) = truth_given types
type_given types consts bs t all (given_conditional {a = a} c p h k q) = type_given types consts bs a all h
type_given types consts bs t all (given_add a p b q) = integer_given types
type_given types consts bs t all (given_mul a p b q) = integer_given types
type_given types consts bs t all (given_sub a p b q) = integer_given types
type_given types consts bs t all (given_neg a p n) = integer_given types
type_given types consts bs t all (given_at_most a p b q) = truth_given types
type_given types consts bs t all (given_less a p b q) = truth_given types
type_given types consts bs t all (given_quotient a p n m) = integer_given types
type_given types consts bs t all (given_remainder a p n m) = integer_given types
type_given types consts bs t all (given_all u b p) = truth_given types
type_given types consts bs t all (given_ex u b p) = truth_given types
type_given types consts bs t all (given_lambda {t = u} {b = b} h k) = fun_given types u (ty_of b) h (type_given types consts (u ∷ bs) b (h, all) k)
type_given types consts bs t all (given_application {f = f} {x = x} {r = r} h k e) =
    let function : IsGivenType types (FunTy (ty_of x) r) = subst (λ u. IsGivenType types u) e (type_given types consts bs f all h) in
    subst (λ u. IsGivenType types (result_ty u)) (sym e) (to_given types (ty_of x) r function)

types_given : (types : Constructors) (consts : Constants) (bs : List Ty) (ts : List Term) → TypesGiven types bs → AreGiven types consts bs ts → AllByRecursion (λ t. IsGivenType types t) (map ty_of ts)
types_given types consts bs [] all h = tt
types_given types consts bs (t ∷ ts) all h = (type_given types consts bs t all h.0, types_given types consts bs ts all h.1)

-- ---- atoms

bound_at : (bs : Binders) (name : List ℕ) (b : ℕ × Ty) → bound_to bs name ≡ Some b → binder_at (binder_types bs) b.0 ≡ Some b.1
unfolding bound_to
bound_at [] name b h = absurd (none-some b h)
bound_at (c ∷ bs) name b h = by (bytes_eq name c.0) refl (λ d k. bound_at bs name d k)
  where
    by : (t : Bool) → bytes_eq name c.0 ≡ t → ((d : ℕ × Ty) → bound_to bs name ≡ Some d → binder_at (binder_types bs) d.0 ≡ Some d.1) → binder_at (binder_types (c ∷ bs)) b.0 ≡ Some b.1
    by true e r =
        let here : bound_to (c ∷ bs) name ≡ Some (0, c.1) = rw e refl in
        let P : ℕ × Ty → Type 0 = λ d. binder_at (binder_types (c ∷ bs)) d.0 ≡ Some d.1 in
        subst P (same_Some _ _ (sym here ∙ h)) refl
    by false e r =
        let later : bound_to (c ∷ bs) name ≡ one_further (bound_to bs name) = rw e refl in
        let d = further_of (bound_to bs name) b (sym later ∙ h) in
        let P : ℕ × Ty → Type 0 = λ x. binder_at (binder_types (c ∷ bs)) x.0 ≡ Some x.1 in
        let Q : ℕ → Type 0 = λ n. binder_at (binder_types (c ∷ bs)) n ≡ Some d.0.1 in
        let num : suc d.0.0 ≡ d.0.0 + 1 = omega arith in
        subst P (sym d.2) (subst Q num (r d.0 d.1))

-- a constant that stands alone
constant_given : (env : Env) → IsGivenEnv env → (o : Option Ty) (at : ℕ) (text : List ℕ) (t : Term) → lookup (bytes_eq text) env.consts ≡ o → constant_by o at text ≡ Ok t → IsGiven env.types env.consts (binder_types env.binders) t
constant_given env g None at text t e h = no_fault _ at t h
constant_given env g (Some type) at text t e h =
    let closed = test_passed (is_ground type) FreeTypeVariable at (Ok (ConstTm text type)) t h in
    let Q : Term → Type 0 = λ u. IsGiven env.types env.consts (binder_types env.binders) u in
    subst Q (same_Ok (ConstTm text type) t (wanting_ok (is_ground type) FreeTypeVariable at (Ok (ConstTm text type)) t h)) (given_constant (record {
      named = declared_named env.types env.consts text type g.declared e;
      declared = type;
      looked_up = e;
      own = λ k. refl;
      an_instance = closed_is_instance type closed;
      given = declared_given env.types env.consts text type g.declared e;
    }))

name_given : (env : Env) → IsGivenEnv env → (o : Option (ℕ × Ty)) (at : ℕ) (text : List ℕ) (t : Term) → bound_to env.binders text ≡ o → name_by o env at text ≡ Ok t → IsGiven env.types env.consts (binder_types env.binders) t
name_given env g (Some b) at text t e h =
    let Q : Term → Type 0 = λ u. IsGiven env.types env.consts (binder_types env.binders) u in
    subst Q (same_Ok (BoundTm b.0 b.1) t h) (given_bound (bound_at env.binders text b e))
name_given env g None at text t e h = constant_given env g (lookup (bytes_eq text) env.consts) at text t refl h

-- a literal, below 2^127
pub record IsLiteral (text : List ℕ) (t : Term) : Type 0 where
  pub is : t ≡ NumTm (pos (value_of text))
  pub small : value_of text < 2 ^ 127

literal_read : (at : ℕ) (text : List ℕ) (t : Term) → literal_of at text ≡ Ok t → IsLiteral text t
literal_read at text t h = record {
  is = sym (same_Ok (hol.number (value_of text)) t (wanting_ok (nat_lt (value_of text) (2 ^ 127)) Number at (Ok (hol.number (value_of text))) t h));
  small = ltb-true (value_of text) (2 ^ 127) (test_passed (nat_lt (value_of text) (2 ^ 127)) Number at (Ok (hol.number (value_of text))) t h);
}

literal_given : (types : Constructors) (consts : Constants) (bs : List Ty) (text : List ℕ) (t : Term) → IsLiteral text t → IsGiven types consts bs t
literal_given types consts bs text t l = subst (λ u. IsGiven types consts bs u) (sym l.is) (given_number l.small)

pub atom_given : (env : Env) → IsGivenEnv env → (at : ℕ) (text : List ℕ) (t : Term) → atom_of env at text ≡ Ok t → IsGiven env.types env.consts (binder_types env.binders) t
unfolding atom_of
atom_given env g at text t h =
    let Q : Term → Type 0 = λ u. IsGiven env.types env.consts (binder_types env.binders) u in
    if_read (is_number text) _ _ t (λ n e. literal_given env.types env.consts (binder_types env.binders) text t (literal_read at text t e))
    (λ n e. if_read (bytes_eq text (codes "true")) _ _ t (λ b k. subst Q (same_Ok hol.true_tm t k) given_true)
    (λ b k. if_read (bytes_eq text (codes "false")) _ _ t (λ c l. subst Q (same_Ok hol.false_tm t l) given_false)
    (λ c l. name_given env g (bound_to env.binders text) at text t refl (wanting_ok (is_variable text) Syntax at (name_by (bound_to env.binders text) env at text) t l)) k) e) h

-- a number tree is a literal
number_read : (env : Env) (at : ℕ) (text : List ℕ) (t : Term) → is_number text ≡ true → atom_of env at text ≡ Ok t → IsLiteral text t
unfolding atom_of
number_read env at text t n h =
    if_read (is_number text) _ _ t (λ m e. literal_read at text t e) (λ m e. absurd (true≢false (sym n ∙ m))) h

pub divisor_read : (tree : Tree) (t : Term) → divisor_of tree ≡ Ok t → IsDivisor t
unfolding divisor_of
divisor_read (AtomTree at text) t h =
    if_read (is_number text && nat_lt 0 (value_of text)) (literal_of at text) (misplaced (AtomTree at text)) t
    (λ b e.
    let l = literal_read at text t e in
    record { value = value_of text; is = l.is; from_one = ltb-true 0 (value_of text) (both_true (is_number text) (nat_lt 0 (value_of text)) b).1; small = l.small })
    (λ b e. no_fault (misfit (AtomTree at text)) at t e) h
divisor_read (QuotedTree at text) t h = no_fault _ at t h
divisor_read (ListTree at parts) t h = no_fault _ at t h

pub divisor_given : (types : Constructors) (consts : Constants) (bs : List Ty) (t : Term) → IsDivisor t → IsGiven types consts bs t
divisor_given types consts bs t d = subst (λ u. IsGiven types consts bs u) (sym d.is) (given_number d.small)

-- ---- applications

module _ (types : Constructors) (consts : Constants) (bs : List Ty) where
  applied_given : (f : Term) (ts : List Term) → IsGiven types consts bs f → AreGiven types consts bs ts → takes_all (ty_of f) (map ty_of ts) ≡ true → IsGiven types consts bs (applied f ts)
  applied_given f [] g all h = g
  applied_given f (x ∷ xs) g all h = by (ty_of f) refl h (λ k fit. applied_given (AppTm f x) xs k all.1 fit)
    where
      by : (u : Ty) → ty_of f ≡ u → takes_all u (ty_of x ∷ map ty_of xs) ≡ true → (IsGiven types consts bs (AppTm f x) → takes_all (ty_of (AppTm f x)) (map ty_of xs) ≡ true → IsGiven types consts bs (applied (AppTm f x) xs))
          → IsGiven types consts bs (applied (AppTm f x) xs)
      by (FunTy a b) e k more =
          let both = both_true (ty_eq a (ty_of x)) (takes_all b (map ty_of xs)) k in
          let takes : ty_of f ≡ FunTy (ty_of x) b = e ∙ ap (λ c. FunTy c b) (ty_eq_sound a (ty_of x) both.0) in
          more (given_application g all.0 takes) (ap (λ u. takes_all (result_ty u) (map ty_of xs)) e ∙ both.1)
      by BoolTy e k more = absurd (true≢false (sym k))
      by IntTy e k more = absurd (true≢false (sym k))
      by (VarTy n) e k more = absurd (true≢false (sym k))
      by (ConsTy n us) e k more = absurd (true≢false (sym k))

  pub apply_all_given : (at : ℕ) (f : Term) (ts : List Term) (t : Term) → IsGiven types consts bs f → AreGiven types consts bs ts → apply_all at f ts ≡ Ok t → IsGiven types consts bs t
  unfolding apply_all
  apply_all_given at f ts t g all h =
      let fit = test_passed (takes_all (ty_of f) (map ty_of ts)) IllTyped at (Ok (applied f ts)) t h in
      subst (λ u. IsGiven types consts bs u) (same_Ok (applied f ts) t (wanting_ok (takes_all (ty_of f) (map ty_of ts)) IllTyped at (Ok (applied f ts)) t h)) (applied_given f ts g all fit)

  -- the constant at the instance that its arguments give
  pub instance_term_given : AreDeclared types consts → TypesGiven types bs → (o : Option TypeSubst) (at head : ℕ) (name : List ℕ) (type : Ty) (ts : List Term) (t : Term) → lookup (bytes_eq name) consts ≡ Some type → is_ground type ≡ false
      → AreGiven types consts bs ts → match_parameters [] type (map ty_of ts) ≡ o → instance_by o at head name type ≡ Ok t → IsGiven types consts bs t
  instance_term_given declared binders None at head name type ts t found open_type all e h = no_fault _ at t h
  instance_term_given declared binders (Some s) at head name type ts t found open_type all e h =
      let covered = test_passed (covers s type) FreeTypeVariable head (Ok (ConstTm name (instance_of s type))) t h in
      subst (λ u. IsGiven types consts bs u) (same_Ok (ConstTm name (instance_of s type)) t (wanting_ok (covers s type) FreeTypeVariable head (Ok (ConstTm name (instance_of s type))) t h)) (given_constant (record {
        named = declared_named types consts name type declared found;
        declared = type;
        looked_up = found;
        own = λ k. absurd (true≢false (sym k ∙ open_type));
        an_instance = is_its_instance s type covered;
        given = parameters_given types type (map ty_of ts) s (declared_given types consts name type declared found) (types_given types consts bs ts binders all) e;
      }))

  -- the constant at the type that is written
  pub ascribed_given : AreDeclared types consts → (name : List ℕ) (declared type : Ty) → lookup (bytes_eq name) consts ≡ Some declared → IsGivenType types type → is_instance declared type ≡ true → IsGiven types consts bs (ConstTm name type)
  ascribed_given are name declared type found given h = given_constant (record {
    named = declared_named types consts name declared are found;
    declared = declared;
    looked_up = found;
    own = λ k. closed_own declared type k h;
    an_instance = h;
    given = given;
  })

  -- the negative of a literal
  pub negative_given : (n : ℕ) → n < 2 ^ 127 → IsGiven types consts bs (negative (NumTm (pos n)))
  negative_given zero h = given_number h
  negative_given (suc n) h = given_negative h

-- ---- binders

pub under_given : (types : Constructors) (consts : Constants) (own outer : Binders) (binder : Binder) (p : Term) → TypesGiven types (binder_types own) → IsGiven types consts (binder_types (own ++ outer)) p → fits_body binder (ty_of p) ≡ true
    → IsGiven types consts (binder_types outer) (under_all binder own p)
under_given types consts [] outer binder p all h fit = h
under_given types consts (b ∷ own) outer binders.Forall p all h fit =
    under_given types consts own outer binders.Forall (hol.for_all b.1 (LamTm b.1 p)) all.1 (given_all all.0 h (sym (ty_eq_sound BoolTy (ty_of p) fit))) (ty_eq_refl BoolTy)
under_given types consts (b ∷ own) outer binders.Exists p all h fit =
    under_given types consts own outer binders.Exists (hol.exists b.1 (LamTm b.1 p)) all.1 (given_ex all.0 h (sym (ty_eq_sound BoolTy (ty_of p) fit))) (ty_eq_refl BoolTy)
under_given types consts (b ∷ own) outer binders.Lambda p all h fit = under_given types consts own outer binders.Lambda (LamTm b.1 p) all.1 (given_lambda all.0 h) refl

append_types_given : (types : Constructors) (own outer : Binders) → TypesGiven types (binder_types own) → TypesGiven types (binder_types outer) → TypesGiven types (binder_types (own ++ outer))
append_types_given types [] outer a b = b
append_types_given types (c ∷ own) outer a b = (a.0, append_types_given types own outer a.1 b)

pub inside_given : (env : Env) → IsGivenEnv env → (behind : Trees) (form : Form) → FormSays env behind form → IsGivenEnv (inside env form)
inside_given env g behind Applied says = g
inside_given env g behind (Instance head name type) says = g
inside_given env g behind Negative says = g
inside_given env g behind (Operation operator) says = g
inside_given env g behind (Binding binder own) says = record { declared = g.declared; binders = append_types_given env.types own env.binders says.1 g.binders }
inside_given env g behind (Ascription name declared type) says = g

-- ---- how many parts

-- none of the parts is left out
abbrev NoneSkipped : List Part → Type 0
NoneSkipped [] = Unit {0}
NoneSkipped (Skipped ∷ kinds) = ⊥
NoneSkipped (ReadTerm ∷ kinds) = NoneSkipped kinds
NoneSkipped (Divisor ∷ kinds) = NoneSkipped kinds

pub operands_read : (b : Bool) → NoneSkipped (operands b)
operands_read true = tt
operands_read false = tt

-- a part and then others
pushed_count : (r : Read Term) (others : Read (List Term)) (ts : List Term) (n : ℕ) → ((us : List Term) → others ≡ Ok us → length us ≡ n) → (r >>= λ first. others >>= λ more. Ok (first ∷ more)) ≡ Ok ts → length ts ≡ n + 1
pushed_count r others ts n counted h =
    let first = bind_ok r (λ first. others >>= λ more. Ok (first ∷ more)) ts h in
    let more = bind_ok others (λ more. Ok (first.0 ∷ more)) ts first.2 in
    let long = counted more.0 more.1 in
    let more_long : suc (length more.0) ≡ n + 1 = omega (arith, long) in
    ap length (sym (same_Ok (first.0 ∷ more.0) ts more.2)) ∙ more_long

pub terms_counted : (env : Env) (kinds : List Part) (trees : Trees) (ts : List Term) → NoneSkipped kinds → terms_of env kinds trees ≡ Ok ts → length ts ≡ count trees
unfolding terms_of
terms_counted env kinds no_trees ts all h = ap length (sym (same_Ok [] ts h))
terms_counted env [] (more_trees part parts) ts all h = pushed_count (term_of env part) (terms_of env [] parts) ts (count parts) (λ us e. terms_counted env [] parts us tt e) h
terms_counted env (Skipped ∷ kinds) (more_trees part parts) ts all h = absurd all
terms_counted env (ReadTerm ∷ kinds) (more_trees part parts) ts all h = pushed_count (term_of env part) (terms_of env kinds parts) ts (count parts) (λ us e. terms_counted env kinds parts us all e) h
terms_counted env (Divisor ∷ kinds) (more_trees part parts) ts all h = pushed_count (divisor_of part) (terms_of env kinds parts) ts (count parts) (λ us e. terms_counted env kinds parts us all e) h

-- what stands behind the head, where it is left out
pub behind_read : (env : Env) (kinds : List Part) (head : Tree) (behind : Trees) (ts : List Term) → terms_of env (Skipped ∷ kinds) (more_trees head behind) ≡ Ok ts → terms_of env kinds behind ≡ Ok ts
unfolding terms_of
behind_read env kinds head behind ts h = h

-- ---- single parts

-- the only term that is read is that of the only tree
pub only_read : (env : Env) (tree : Tree) (t : Term) (ts : List Term) → terms_of env [] (more_trees tree no_trees) ≡ Ok (t ∷ ts) → term_of env tree ≡ Ok t
unfolding terms_of
only_read env tree t ts h =
    let first = bind_ok (term_of env tree) (λ first. terms_of env [] no_trees >>= λ others. Ok (first ∷ others)) (t ∷ ts) h in
    let others = bind_ok (terms_of env [] no_trees) (λ others. Ok (first.0 ∷ others)) (t ∷ ts) first.2 in
    let same = same_Ok (first.0 ∷ others.0) (t ∷ ts) others.2 in
    let heads : first.0 ≡ t = cc in
    first.1 ∙ ap Ok heads

-- a literal by itself
pub literal_alone : (env : Env) (behind : Trees) (t : Term) (ts : List Term) → is_literal behind ≡ true → terms_of env [] behind ≡ Ok (t ∷ ts) → (text : List ℕ) × IsLiteral text t
unfolding term_of
literal_alone env no_trees t ts l h = absurd (true≢false (sym l))
literal_alone env (more_trees (AtomTree at text) no_trees) t ts l h = (text, number_read env at text t l (only_read env (AtomTree at text) t ts h))
literal_alone env (more_trees (QuotedTree at text) no_trees) t ts l h = absurd (true≢false (sym l))
literal_alone env (more_trees (ListTree at parts) no_trees) t ts l h = absurd (true≢false (sym l))
literal_alone env (more_trees first (more_trees second others)) t ts l h = absurd (true≢false (sym l))

-- the second of the parts of a division
pub second_read : (env : Env) (behind : Trees) (a b : Term) (ts : List Term) → terms_of env (ReadTerm ∷ Divisor ∷ []) behind ≡ Ok (a ∷ b ∷ ts) → IsDivisor b
unfolding terms_of
second_read env no_trees a b ts h = absurd (bad h)
  where
    bad : ◌≡◌ {A = Read (List Term)} (Ok []) (Ok (a ∷ b ∷ ts)) → ⊥
    bad e = let same = same_Ok [] (a ∷ b ∷ ts) e in cc
second_read env (more_trees first no_trees) a b ts h =
    let one = bind_ok (term_of env first) (λ t. Ok (t ∷ [])) (a ∷ b ∷ ts) h in
    absurd (bad one.0 one.2)
  where
    bad : (t : Term) → ◌≡◌ {A = Read (List Term)} (Ok (t ∷ [])) (Ok (a ∷ b ∷ ts)) → ⊥
    bad t e = let same = same_Ok (t ∷ []) (a ∷ b ∷ ts) e in cc
second_read env (more_trees first (more_trees second others)) a b ts h =
    let one = bind_ok (term_of env first) (λ t. terms_of env (Divisor ∷ []) (more_trees second others) >>= λ us. Ok (t ∷ us)) (a ∷ b ∷ ts) h in
    let us = bind_ok (terms_of env (Divisor ∷ []) (more_trees second others)) (λ us. Ok (one.0 ∷ us)) (a ∷ b ∷ ts) one.2 in
    let two = bind_ok (divisor_of second) (λ t. terms_of env [] others >>= λ vs. Ok (t ∷ vs)) us.0 us.1 in
    let vs = bind_ok (terms_of env [] others) (λ vs. Ok (two.0 ∷ vs)) us.0 two.2 in
    let whole = same_Ok (one.0 ∷ us.0) (a ∷ b ∷ ts) us.2 in
    let rest = same_Ok (two.0 ∷ vs.0) us.0 vs.2 in
    let same : two.0 ≡ b = cc in
    subst (λ t. IsDivisor t) same (divisor_read second two.0 two.1)

-- Each type that is read is given, and so are the types that are made of given ones.
use Rattle.std.proofs.Common.{◌≡◌, ℕ, ◌+◌, List, [], ◌∷◌, ◌++◌, Option, Some, None, Ok, Bool, true, false, true≢false, if◌then◌else◌, cond, is_some, unwrap_or, refl, sym, ap, ap₂, subst, ◌∙◌}
use Rattle.std.specs.Prelude.{bytes_eq, codes, nat_eq, nat_lt}
use Rattle.std.specs.Map.{lookup}
use Rattle.std.specs.List.{AllByRecursion, list_all}
use Rattle.std.proofs.lemmas.Option.{none-some, same_Some}
use Rattle.hol_types.specs.Exact.{both_true}
use Rattle.hol_types.specs.Ty.{Ty, Tys, BoolTy, IntTy, VarTy, FunTy, ConsTy, no_types, more_types}
use Rattle.hol_types.specs.TyEq.{ty_eq}
use Rattle.hol_types.specs.TypeSubst.{TypeSubst, instance_of, instances_of, variables_of, variables_of_all}
use Rattle.hol_types.specs.TypeMatch.{Gives, Matches}
use Rattle.hol_types.proofs.TypeLemmas.{eqb_sound}
use Rattle.sexp.specs.Tree.{Tree, Trees, AtomTree, QuotedTree, ListTree, no_trees, more_trees, count}
use Rattle.goal_text.specs.declared.fault.GoalKind.TheVariants.{Syntax}
use Rattle.goal_text.specs.Read.{◌>>=◌}
use Rattle.goal_text.specs.Lexicon.{is_name, is_type_variable}
use Rattle.goal_text.specs.Names.{Constructors}
use Rattle.goal_text.specs.Types.{TypeForm, Arrows, Constructed, alone, type_atom, constructed, type_headed, type_form, arrows, type_built, type_of, types_behind, types_of}
use Rattle.goal_text.specs.Matching.{◌>>?◌, giving, match_ty, match_tys, match_parameters, is_instance, covers, is_ground, are_none}
use Rattle.goal_text.proofs.KeptLemmas.{bind_ok, no_fault, same_Ok, wanting_ok}
use Rattle.goal_text.proofs.MatchLemmas.{IsOutcome, match_outcome, ground_covers}
use Rattle.goal_text.specs.Given.{how_many, IsGivenType, AreGivenTypes}
use Rattle.goal_text.proofs.ReadingLemmas.{if_read, test_passed}

-- ---- types that are read

module _ (types : Constructors) where
  -- a constructor that stands alone
  alone_given : (o : Option ℕ) (at : ℕ) (name : List ℕ) (ty : Ty) → lookup (bytes_eq name) types ≡ o → is_name name ≡ true → alone o at name ≡ Ok ty → IsGivenType types ty
  unfolding IsGivenType
  alone_given None at name ty found named h = no_fault _ at ty h
  alone_given (Some arity) at name ty found named h =
      let none : arity ≡ 0 = eqb_sound arity 0 (test_passed (nat_eq arity 0) Syntax at (Ok (ConsTy name no_types)) ty h) in
      subst (λ t. IsGivenType types t) (same_Ok (ConsTy name no_types) ty (wanting_ok (nat_eq arity 0) Syntax at (Ok (ConsTy name no_types)) ty h)) (named, found ∙ ap Some none, tt)

  atom_given : (at : ℕ) (text : List ℕ) (ty : Ty) → type_atom types at text ≡ Ok ty → IsGivenType types ty
  unfolding type_atom IsGivenType
  atom_given at text ty h =
      if_read (bytes_eq text (codes "Bool")) _ _ ty (λ b e. subst (λ t. IsGivenType types t) (same_Ok BoolTy ty e) tt)
      (λ b e. if_read (bytes_eq text (codes "Int")) _ _ ty (λ c f. subst (λ t. IsGivenType types t) (same_Ok IntTy ty f) tt)
      (λ c f. if_read (is_type_variable text) _ _ ty (λ d g. subst (λ t. IsGivenType types t) (same_Ok (VarTy text) ty g) d)
      (λ d g. if_read (is_name text) _ _ ty (λ named k. alone_given (lookup (bytes_eq text) types) at text ty refl named k) (λ named k. no_fault _ at ty k) g) f) e) h

  arrows_given : (t : Ty) (ts : Tys) → IsGivenType types t → AreGivenTypes types ts → IsGivenType types (arrows t ts)
  unfolding IsGivenType AreGivenTypes
  arrows_given t no_types h all = h
  arrows_given t (more_types u us) h all = (h, arrows_given u us all.0 all.1)

  -- what the head of a list says of so many types behind it
  abbrev HeadSays : ℕ → TypeForm → Type 0
  HeadSays n Arrows = Unit {0}
  HeadSays n (Constructed name) = (is_name name ≡ true) × (lookup (bytes_eq name) types ≡ Some n)

  constructed_says : (o : Option ℕ) (at head : ℕ) (name : List ℕ) (n : ℕ) (form : TypeForm) → lookup (bytes_eq name) types ≡ o → is_name name ≡ true → constructed o at head name n ≡ Ok form → HeadSays n form
  constructed_says None at head name n form found named h = no_fault _ head form h
  constructed_says (Some arity) at head name n form found named h =
      let same : arity ≡ n = eqb_sound arity n (test_passed (nat_eq arity n) Syntax at (Ok (Constructed name)) form h) in
      subst (λ f. HeadSays n f) (same_Ok (Constructed name) form (wanting_ok (nat_eq arity n) Syntax at (Ok (Constructed name)) form h)) (named, found ∙ ap Some same)

  head_says : (at : ℕ) (head : Tree) (n : ℕ) (form : TypeForm) → type_headed types at head n ≡ Ok form → HeadSays n form
  head_says at (AtomTree head text) n form h =
      if_read (bytes_eq text (codes "->")) _ _ form (λ b e. subst (λ f. HeadSays n f) (same_Ok Arrows form (wanting_ok (nat_lt 1 n) Syntax at (Ok Arrows) form e)) tt)
      (λ b e. if_read (is_name text) _ _ form (λ named k. constructed_says (lookup (bytes_eq text) types) at head text n form refl named k) (λ named k. no_fault _ head form k) e) h
  head_says at (QuotedTree head text) n form h = no_fault _ head form h
  head_says at (ListTree head parts) n form h = no_fault _ head form h

  built_given : (form : TypeForm) (ts : Tys) → HeadSays (how_many ts) form → AreGivenTypes types ts → IsGivenType types (type_built form ts)
  unfolding type_built IsGivenType AreGivenTypes
  built_given Arrows no_types says all = tt
  built_given Arrows (more_types t ts) says all = arrows_given t ts all.0 all.1
  built_given (Constructed name) ts says all = (says.0, says.1, all)

  counted : (trees : Trees) (ts : Tys) → types_of types trees ≡ Ok ts → how_many ts ≡ count trees
  unfolding types_of
  counted no_trees ts h = subst (λ us. how_many us ≡ 0) (same_Ok no_types ts h) refl
  counted (more_trees part parts) ts h =
      let first = bind_ok (type_of types part) (λ first. types_of types parts >>= λ others. Ok (more_types first others)) ts h in
      let others = bind_ok (types_of types parts) (λ others. Ok (more_types first.0 others)) ts first.2 in
      subst (λ us. how_many us ≡ count parts + 1) (same_Ok (more_types first.0 others.0) ts others.2) (ap (λ n. n + 1) (counted parts others.0 others.1))

  form_says : (at : ℕ) (parts : Trees) (form : TypeForm) (ts : Tys) → type_form types at parts ≡ Ok form → types_behind types parts ≡ Ok ts → HeadSays (how_many ts) form
  unfolding type_form types_behind
  form_says at no_trees form ts h k = no_fault _ at form h
  form_says at (more_trees head parts) form ts h k =
      let says : HeadSays (count parts) form = head_says at head (count parts) form (wanting_ok (nat_lt 0 (count parts)) Syntax at (type_headed types at head (count parts)) form h) in
      subst (λ n. HeadSays n form) (sym (counted parts ts k)) says

  mutual
    unfolding type_of types_behind types_of IsGivenType AreGivenTypes

    -- each type that is read is given
    pub given_type : (tree : Tree) (ty : Ty) → type_of types tree ≡ Ok ty → IsGivenType types ty
    given_type (AtomTree at text) ty h = atom_given at text ty h
    given_type (QuotedTree at text) ty h = no_fault _ at ty h
    given_type (ListTree at parts) ty h =
        let form = bind_ok (type_form types at parts) (λ form. types_behind types parts >>= λ args. Ok (type_built form args)) ty h in
        let args = bind_ok (types_behind types parts) (λ args. Ok (type_built form.0 args)) ty form.2 in
        subst (λ t. IsGivenType types t) (same_Ok (type_built form.0 args.0) ty args.2) (built_given form.0 args.0 (form_says at parts form.0 args.0 form.1 args.1) (given_behind parts args.0 args.1))

    given_behind : (parts : Trees) (ts : Tys) → types_behind types parts ≡ Ok ts → AreGivenTypes types ts
    given_behind no_trees ts h = subst (λ us. AreGivenTypes types us) (same_Ok no_types ts h) tt
    given_behind (more_trees head parts) ts h = given_types parts ts h

    given_types : (trees : Trees) (ts : Tys) → types_of types trees ≡ Ok ts → AreGivenTypes types ts
    given_types no_trees ts h = subst (λ us. AreGivenTypes types us) (same_Ok no_types ts h) tt
    given_types (more_trees part parts) ts h =
        let first = bind_ok (type_of types part) (λ first. types_of types parts >>= λ others. Ok (more_types first others)) ts h in
        let others = bind_ok (types_of types parts) (λ others. Ok (more_types first.0 others)) ts first.2 in
        subst (λ us. AreGivenTypes types us) (same_Ok (more_types first.0 others.0) ts others.2) (given_type part first.0 first.1, given_types parts others.0 others.1)

  -- ---- parts, and instances

  pub from_given : (a b : Ty) → IsGivenType types (FunTy a b) → IsGivenType types a
  unfolding IsGivenType
  from_given a b h = h.0

  pub to_given : (a b : Ty) → IsGivenType types (FunTy a b) → IsGivenType types b
  unfolding IsGivenType
  to_given a b h = h.1

  pub fun_given : (a b : Ty) → IsGivenType types a → IsGivenType types b → IsGivenType types (FunTy a b)
  unfolding IsGivenType
  fun_given a b h k = (h, k)

  pub truth_given : IsGivenType types BoolTy
  unfolding IsGivenType
  truth_given = tt

  pub integer_given : IsGivenType types IntTy
  unfolding IsGivenType
  integer_given = tt

  -- each type that is put in for a variable is given
  pub record PutsGiven (s : TypeSubst) : Type 0 where
    pub each : (name : List ℕ) (t : Ty) → lookup (bytes_eq name) s ≡ Some t → IsGivenType types t

  how_many_instances : (s : TypeSubst) (ts : Tys) → how_many (instances_of s ts) ≡ how_many ts
  how_many_instances s no_types = refl
  how_many_instances s (more_types t ts) = ap (λ n. n + 1) (how_many_instances s ts)

  variable_given : (s : TypeSubst) (name : List ℕ) (o : Option Ty) → PutsGiven s → lookup (bytes_eq name) s ≡ o → IsGivenType types (VarTy name) → IsGivenType types (unwrap_or o (VarTy name))
  variable_given s name None puts e h = h
  variable_given s name (Some t) puts e h = puts.each name t e

  mutual
    unfolding IsGivenType AreGivenTypes

    pub instance_given : (s : TypeSubst) → PutsGiven s → (t : Ty) → IsGivenType types t → IsGivenType types (instance_of s t)
    instance_given s puts BoolTy h = tt
    instance_given s puts IntTy h = tt
    instance_given s puts (VarTy name) h = variable_given s name (lookup (bytes_eq name) s) puts refl h
    instance_given s puts (FunTy a b) h = (instance_given s puts a h.0, instance_given s puts b h.1)
    instance_given s puts (ConsTy name ts) h = (h.0, h.1 ∙ ap Some (sym (how_many_instances s ts)), instances_given s puts ts h.2)

    instances_given : (s : TypeSubst) → PutsGiven s → (ts : Tys) → AreGivenTypes types ts → AreGivenTypes types (instances_of s ts)
    instances_given s puts no_types all = tt
    instances_given s puts (more_types t ts) all = (instance_given s puts t all.0, instances_given s puts ts all.1)

  -- ---- what matching puts in

  put_none : PutsGiven []
  put_none = record { each = λ name t h. absurd (none-some t h) }

  put_first : (name : List ℕ) (t : Ty) (s : TypeSubst) → IsGivenType types t → PutsGiven s → PutsGiven ((name, t) ∷ s)
  put_first name t s h puts = record { each = λ n u e. by n u (bytes_eq n name) e }
    where
      by : (n : List ℕ) (u : Ty) (b : Bool) → cond b (Some t) (lookup (bytes_eq n) s) ≡ Some u → IsGivenType types u
      by n u true e = subst (λ v. IsGivenType types v) (same_Some t u e) h
      by n u false e = puts.each n u e

  put_giving : (o : Option Ty) (name : List ℕ) (t : Ty) (s r : TypeSubst) → IsGivenType types t → PutsGiven s → giving o name t s ≡ Some r → PutsGiven r
  put_giving None name t s r h puts e = subst (λ v. PutsGiven v) (same_Some ((name, t) ∷ s) r e) (put_first name t s h puts)
  put_giving (Some u) name t s r h puts e = by (ty_eq u t) e
    where
      by : (b : Bool) → (if b then Some s else None) ≡ Some r → PutsGiven r
      by true k = subst (λ v. PutsGiven v) (same_Some s r k) puts
      by false k = absurd (none-some r k)

  put_same : (b : Bool) (s r : TypeSubst) → PutsGiven s → (if b then Some s else None) ≡ Some r → PutsGiven r
  put_same true s r puts k = subst (λ v. PutsGiven v) (same_Some s r k) puts
  put_same false s r puts k = absurd (none-some r k)

  -- what is found is used
  then_ok : {A B : Type 0} (o : Option A) (f : A → Option B) (y : B) → (o >>? f) ≡ Some y → (x : A) × (o ≡ Some x) × (f x ≡ Some y)
  then_ok None f y h = absurd (none-some y h)
  then_ok (Some x) f y h = (x, refl, h)

  args_found : (b : Bool) (ts : Tys) (f : Tys → Option TypeSubst) (r : TypeSubst) → ((if b then Some ts else None) >>? f) ≡ Some r → f ts ≡ Some r
  args_found true ts f r e = e
  args_found false ts f r e = absurd (none-some r e)

  mutual
    unfolding match_ty match_tys IsGivenType AreGivenTypes

    put_match : (s : TypeSubst) (p t : Ty) (r : TypeSubst) → PutsGiven s → IsGivenType types t → match_ty s p t ≡ Some r → PutsGiven r
    put_match s BoolTy t r puts h e = put_same (ty_eq BoolTy t) s r puts e
    put_match s IntTy t r puts h e = put_same (ty_eq IntTy t) s r puts e
    put_match s (VarTy name) t r puts h e = put_giving (lookup (bytes_eq name) s) name t s r h puts e
    put_match s (FunTy a b) BoolTy r puts h e = absurd (none-some r e)
    put_match s (FunTy a b) IntTy r puts h e = absurd (none-some r e)
    put_match s (FunTy a b) (VarTy n) r puts h e = absurd (none-some r e)
    put_match s (FunTy a b) (ConsTy n ts) r puts h e = absurd (none-some r e)
    put_match s (FunTy a b) (FunTy c d) r puts h e =
        let first = then_ok (match_ty s a c) (λ v. match_ty v b d) r e in
        put_match first.0 b d r (put_match s a c first.0 puts h.0 first.1) h.1 first.2
    put_match s (ConsTy n ps) BoolTy r puts h e = absurd (none-some r e)
    put_match s (ConsTy n ps) IntTy r puts h e = absurd (none-some r e)
    put_match s (ConsTy n ps) (VarTy m) r puts h e = absurd (none-some r e)
    put_match s (ConsTy n ps) (FunTy a b) r puts h e = absurd (none-some r e)
    put_match s (ConsTy n ps) (ConsTy m ts) r puts h e = put_match_all s ps ts r puts h.2 (args_found (bytes_eq n m) ts (λ us. match_tys s ps us) r e)

    put_match_all : (s : TypeSubst) (ps ts : Tys) (r : TypeSubst) → PutsGiven s → AreGivenTypes types ts → match_tys s ps ts ≡ Some r → PutsGiven r
    put_match_all s no_types no_types r puts all e = subst (λ v. PutsGiven v) (same_Some s r e) puts
    put_match_all s no_types (more_types t ts) r puts all e = absurd (none-some r e)
    put_match_all s (more_types p ps) no_types r puts all e = absurd (none-some r e)
    put_match_all s (more_types p ps) (more_types t ts) r puts all e =
        let first = then_ok (match_ty s p t) (λ v. match_tys v ps ts) r e in
        put_match_all first.0 ps ts r (put_match s p t first.0 puts all.0 first.1) all.1 first.2

  put_parameters : (s : TypeSubst) (p : Ty) (ts : List Ty) (r : TypeSubst) → PutsGiven s → AllByRecursion (λ t. IsGivenType types t) ts → match_parameters s p ts ≡ Some r → PutsGiven r
  unfolding match_parameters
  put_parameters s BoolTy ts r puts all e = subst (λ v. PutsGiven v) (same_Some s r e) puts
  put_parameters s IntTy ts r puts all e = subst (λ v. PutsGiven v) (same_Some s r e) puts
  put_parameters s (VarTy n) ts r puts all e = subst (λ v. PutsGiven v) (same_Some s r e) puts
  put_parameters s (ConsTy n us) ts r puts all e = subst (λ v. PutsGiven v) (same_Some s r e) puts
  put_parameters s (FunTy a b) [] r puts all e = subst (λ v. PutsGiven v) (same_Some s r e) puts
  put_parameters s (FunTy a b) (t ∷ ts) r puts all e =
      let first = then_ok (match_ty s a t) (λ v. match_parameters v b ts) r e in
      put_parameters first.0 b ts r (put_match s a t first.0 puts all.0 first.1) all.1 first.2

  -- the instance that arguments of given types give is given
  pub parameters_given : (p : Ty) (ts : List Ty) (s : TypeSubst) → IsGivenType types p → AllByRecursion (λ t. IsGivenType types t) ts → match_parameters [] p ts ≡ Some s → IsGivenType types (instance_of s p)
  parameters_given p ts s h all e = instance_given s (put_parameters [] p ts s put_none all e) p h

-- ---- which types are instances

all_given : (s : TypeSubst) (names : List (List ℕ)) → list_all (λ n. is_some (lookup (bytes_eq n) s)) names ≡ true → AllByRecursion (λ n. Gives s n) names
all_given s [] h = tt
all_given s (n ∷ names) h =
    let both = both_true (is_some (lookup (bytes_eq n) s)) (list_all (λ m. is_some (lookup (bytes_eq m) s)) names) h in
    (found (lookup (bytes_eq n) s) both.0 refl, all_given s names both.1)
  where
    found : (o : Option Ty) → is_some o ≡ true → lookup (bytes_eq n) s ≡ o → Gives s n
    found None e k = absurd (true≢false (sym e))
    found (Some t) e k = (t, k)

-- the instance under types for each variable
pub is_its_instance : (s : TypeSubst) (p : Ty) → covers s p ≡ true → is_instance p (instance_of s p) ≡ true
is_its_instance s p h = by (match_ty [] p (instance_of s p)) (match_outcome [] p (instance_of s p))
  where
    matches : Matches p (instance_of s p) s
    matches = record { given = all_given s (variables_of p) h; is = refl }

    by : (o : Option TypeSubst) → IsOutcome (Matches p (instance_of s p)) [] o → is_some o ≡ true
    by None k = absurd (k.none s (record { same = λ n t e. absurd (none-some t e) }) matches)
    by (Some r) k = refl

-- a list of two parts is empty
left_none : (xs ys : List (List ℕ)) → xs ++ ys ≡ [] → xs ≡ []
left_none [] ys h = refl
left_none (x ∷ xs) ys h = cc

right_none : (xs ys : List (List ℕ)) → xs ++ ys ≡ [] → ys ≡ []
right_none [] ys h = h
right_none (x ∷ xs) ys h = absurd (bad h)
  where
    bad : x ∷ (xs ++ ys) ≡ [] → ⊥
    bad e = cc

-- a type without variables is each of its instances
mutual
  closed_instance : (s : TypeSubst) (t : Ty) → variables_of t ≡ [] → instance_of s t ≡ t
  closed_instance s BoolTy h = refl
  closed_instance s IntTy h = refl
  closed_instance s (VarTy n) h = absurd (bad h)
    where
      bad : n ∷ [] ≡ [] → ⊥
      bad e = cc
  closed_instance s (FunTy a b) h = ap₂ FunTy (closed_instance s a (left_none (variables_of a) (variables_of b) h)) (closed_instance s b (right_none (variables_of a) (variables_of b) h))
  closed_instance s (ConsTy n ts) h = ap (ConsTy n) (closed_instances s ts h)

  closed_instances : (s : TypeSubst) (ts : Tys) → variables_of_all ts ≡ [] → instances_of s ts ≡ ts
  closed_instances s no_types h = refl
  closed_instances s (more_types t ts) h = ap₂ more_types (closed_instance s t (left_none (variables_of t) (variables_of_all ts) h)) (closed_instances s ts (right_none (variables_of t) (variables_of_all ts) h))

no_variables : (t : Ty) → is_ground t ≡ true → variables_of t ≡ []
no_variables t h = by (variables_of t) h
  where
    by : (ns : List (List ℕ)) → are_none ns ≡ true → ns ≡ []
    by [] e = refl
    by (n ∷ ns) e = absurd (true≢false (sym e))

-- it is an instance of itself
pub closed_is_instance : (t : Ty) → is_ground t ≡ true → is_instance t t ≡ true
closed_is_instance t h =
    let there : is_instance t (instance_of [] t) ≡ true = is_its_instance [] t (ground_covers (variables_of t) ∙ h) in
    subst (λ u. is_instance t u ≡ true) (closed_instance [] t (no_variables t h)) there

-- and has no other
pub closed_own : (t u : Ty) → is_ground t ≡ true → is_instance t u ≡ true → u ≡ t
closed_own t u h is = by (match_ty [] t u) is (match_outcome [] t u)
  where
    by : (o : Option TypeSubst) → is_some o ≡ true → IsOutcome (Matches t u) [] o → u ≡ t
    by None e k = absurd (true≢false (sym e))
    by (Some r) e k = sym k.has.is ∙ closed_instance r t (no_variables t h)

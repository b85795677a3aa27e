-- What is found by a name.
use Rattle.std.proofs.Common.{◌≡◌, ℕ, List, [], ◌∷◌, Option, Some, None, Bool, true, false, map, MatchOption, IfSome, refl, sym, ap, subst, ◌∙◌}
use Rattle.std.specs.Prelude.{bytes_eq, is_some, not, option_map}
use Rattle.std.specs.Map.{lookup}
use Rattle.std.specs.List.{AllByRecursion}
use Rattle.std.proofs.lemmas.Option.{none-some, same_Some}
use Rattle.std.proofs.lemmas.Slice.Eq.{bytes_eq-Decides}
use Rattle.hol_types.specs.Ty.{Ty}
use Rattle.hol_types.specs.TypeStore.{HasType, arity_of, text_of, type_tree}
use Rattle.hol_terms.specs.TermStore.{TermStore}
use Rattle.goal_text.specs.declared.scope.Constructor.{Constructor}
use Rattle.goal_text.specs.declared.scope.Constant.{Constant}
use Rattle.goal_text.specs.Names.{bound_to, is_nothing, one_further}
use Rattle.goal_text.specs.Hiding.{innermost}
use Rattle.goal_text.specs.Hiding as hiding
use Rattle.goal_text.specs.Scope.{AreConstructors, AreConstants, AreBound, IsConstructor, IsConstant, binders_in, consts_in, types_in}

lookup_map : {K X Y : Type 0} (f : X → Y) (test : K → Bool) (es : List (K × X)) → lookup test (map (λ e. (e.0, f e.1)) es) ≡ option_map f (lookup test es)
lookup_map f test [] = refl
lookup_map f test (e ∷ es) = by (test e.0) refl (lookup_map f test es)
  where
    by : (b : Bool) → test e.0 ≡ b → lookup test (map (λ e. (e.0, f e.1)) es) ≡ option_map f (lookup test es) → lookup test (map (λ e. (e.0, f e.1)) (e ∷ es)) ≡ option_map f (lookup test (e ∷ es))
    by true h r = rw h refl
    by false h r = rw h r

found_in : {X : Type 0} (P : List ℕ → X → Type 0) (es : List (List ℕ × X)) (name : List ℕ) (x : X) → AllByRecursion (λ e. P e.0 e.1) es → lookup (bytes_eq name) es ≡ Some x → P name x
found_in P [] name x all h = absurd (none-some x h)
found_in {X = X} P (e ∷ es) name x all h = by (bytes_eq name e.0) refl (λ k. found_in P es name x all.1 k)
  where
    by : (b : Bool) → bytes_eq name e.0 ≡ b → (lookup (bytes_eq name) es ≡ Some x → P name x) → P name x
    by true i r =
        let same : e.1 ≡ x = same_Some _ _ (sym (rw i refl) ∙ h) in
        let text : name ≡ e.0 = (bytes_eq-Decides name e.0).0 i in
        let Q : X → Type 0 = λ y. P name y in
        let R : List ℕ → Type 0 = λ n. P n e.1 in
        subst Q same (subst R (sym text) all.0)
    by false i r = r (sym (rw i refl) ∙ h)

module _ (s : TermStore) (cs : List (List ℕ × Constructor)) (name : List ℕ) where
  pub constructor_found : (o : Option Constructor) → o ≡ lookup (bytes_eq name) cs → MatchOption o (lookup (bytes_eq name) (types_in cs) ≡ None) (λ c. lookup (bytes_eq name) (types_in cs) ≡ Some c.arity)
  constructor_found None e = lookup_map (λ c. c.arity) (bytes_eq name) cs ∙ ap (option_map (λ c. c.arity)) (sym e)
  constructor_found (Some c) e = lookup_map (λ c. c.arity) (bytes_eq name) cs ∙ ap (option_map (λ c. c.arity)) (sym e)

  pub constructor_is : (o : Option Constructor) → AreConstructors s cs → o ≡ lookup (bytes_eq name) cs → IfSome o (IsConstructor s name)
  constructor_is None all e = tt
  constructor_is (Some c) all e = found_in (IsConstructor s) cs name c all (sym e)

module _ (s : TermStore) (cs : List (List ℕ × Constant)) (name : List ℕ) where
  pub constant_found : (o : Option Constant) → o ≡ lookup (bytes_eq name) cs → MatchOption o (lookup (bytes_eq name) (consts_in s cs) ≡ None) (λ c. lookup (bytes_eq name) (consts_in s cs) ≡ Some (type_tree s.types c.ty))
  constant_found None e = lookup_map (λ c. type_tree s.types c.ty) (bytes_eq name) cs ∙ ap (option_map (λ c. type_tree s.types c.ty)) (sym e)
  constant_found (Some c) e = lookup_map (λ c. type_tree s.types c.ty) (bytes_eq name) cs ∙ ap (option_map (λ c. type_tree s.types c.ty)) (sym e)

  pub constant_is : (o : Option Constant) → AreConstants s cs → o ≡ lookup (bytes_eq name) cs → IfSome o (IsConstant s name)
  constant_is None all e = tt
  constant_is (Some c) all e = found_in (IsConstant s) cs name c all (sym e)

-- ---- bound variables

abbrev seen : TermStore → Option (ℕ × ℕ) → Option (ℕ × Ty)
seen s None = None
seen s (Some b) = Some (b.0, type_tree s.types b.1)

seen_further : (s : TermStore) (o : Option (ℕ × ℕ)) → seen s (hiding.one_further o) ≡ one_further (seen s o)
seen_further s None = refl
seen_further s (Some b) = refl

bound_seen : (s : TermStore) (bs : List (List ℕ × ℕ)) (name : List ℕ) → bound_to (binders_in s bs) name ≡ seen s (innermost bs name)
unfolding bound_to innermost
bound_seen s [] name = refl
bound_seen s (b ∷ bs) name = by (bytes_eq name b.0) refl (bound_seen s bs name)
  where
    by : (t : Bool) → bytes_eq name b.0 ≡ t → bound_to (binders_in s bs) name ≡ seen s (innermost bs name) → bound_to (binders_in s (b ∷ bs)) name ≡ seen s (innermost (b ∷ bs) name)
    by true e r = rw e refl
    by false e r = rw e (ap one_further r ∙ sym (seen_further s (innermost bs name)))

further_from : (o : Option (ℕ × ℕ)) (b : ℕ × ℕ) → hiding.one_further o ≡ Some b → (c : ℕ × ℕ) × (o ≡ Some c) × (c.1 ≡ b.1)
further_from None b h = absurd (none-some _ h)
further_from (Some c) b h = (c, refl, ap (λ d. d.1) (same_Some _ _ h))

bound_there : (s : TermStore) (bs : List (List ℕ × ℕ)) (name : List ℕ) (b : ℕ × ℕ) → AreBound s bs → innermost bs name ≡ Some b → HasType s.types b.1
unfolding innermost
bound_there s [] name b all h = absurd (none-some _ h)
bound_there s (c ∷ bs) name b all h = by (bytes_eq name c.0) refl (λ d k. bound_there s bs name d all.1 k)
  where
    P : ℕ → Type 0
    P t = HasType s.types t

    by : (t : Bool) → bytes_eq name c.0 ≡ t → ((d : ℕ × ℕ) → innermost bs name ≡ Some d → HasType s.types d.1) → HasType s.types b.1
    by true e r = let same : Some (0, c.1) ≡ Some b = sym (rw e refl) ∙ h in subst P (ap (λ d. d.1) (same_Some _ _ same)) all.0
    by false e r =
        let later : hiding.one_further (innermost bs name) ≡ Some b = sym (rw e refl) ∙ h in
        let d = further_from (innermost bs name) b later in
        subst P d.2 (r d.0 d.1)

module _ (s : TermStore) (bs : List (List ℕ × ℕ)) (name : List ℕ) where
  pub variable_found : (o : Option (ℕ × ℕ)) → o ≡ innermost bs name → MatchOption o (bound_to (binders_in s bs) name ≡ None) (λ b. bound_to (binders_in s bs) name ≡ Some (b.0, type_tree s.types b.1))
  variable_found None e = bound_seen s bs name ∙ ap (seen s) (sym e)
  variable_found (Some b) e = bound_seen s bs name ∙ ap (seen s) (sym e)

  pub variable_there : (o : Option (ℕ × ℕ)) → AreBound s bs → o ≡ innermost bs name → IfSome o (λ b. HasType s.types b.1)
  variable_there None all e = tt
  variable_there (Some b) all e = bound_there s bs name b all (sym e)

-- ---- names that aren't declared

map_none : {X Y : Type 0} (f : X → Y) (o : Option X) → option_map f o ≡ None → o ≡ None
map_none f None h = refl
map_none f (Some x) h = absurd (none-some (f x) (sym h))

pub constructor_fresh : (cs : List (List ℕ × Constructor)) (name : List ℕ) → lookup (bytes_eq name) (types_in cs) ≡ None → lookup (bytes_eq name) cs ≡ None
constructor_fresh cs name h = map_none (λ c. c.arity) (lookup (bytes_eq name) cs) (sym (lookup_map (λ c. c.arity) (bytes_eq name) cs) ∙ h)

pub constant_fresh : (s : TermStore) (cs : List (List ℕ × Constant)) (name : List ℕ) → lookup (bytes_eq name) (consts_in s cs) ≡ None → lookup (bytes_eq name) cs ≡ None
constant_fresh s cs name h = map_none (λ c. type_tree s.types c.ty) (lookup (bytes_eq name) cs) (sym (lookup_map (λ c. type_tree s.types c.ty) (bytes_eq name) cs) ∙ h)

-- a declared constructor has its number of arguments in the store
pub constructor_said : (s : TermStore) (cs : List (List ℕ × Constructor)) (name : List ℕ) (arity : ℕ) → AreConstructors s cs → lookup (bytes_eq name) (types_in cs) ≡ Some arity
    → (n : ℕ) × (text_of s.types n ≡ name) × (arity_of s.types n ≡ Some arity)
constructor_said s cs name arity all h = by (lookup (bytes_eq name) cs) refl
  where
    by : (o : Option Constructor) → lookup (bytes_eq name) cs ≡ o → (n : ℕ) × (text_of s.types n ≡ name) × (arity_of s.types n ≡ Some arity)
    by None e = absurd (none-some arity (sym (lookup_map (λ c. c.arity) (bytes_eq name) cs ∙ ap (option_map (λ c. c.arity)) e) ∙ h))
    by (Some c) e =
        let is = found_in (IsConstructor s) cs name c all e in
        let same : c.arity ≡ arity = same_Some _ _ (sym (lookup_map (λ c. c.arity) (bytes_eq name) cs ∙ ap (option_map (λ c. c.arity)) e) ∙ h) in
        (c.name, is.name_is.text, is.declared ∙ ap Some same)

-- whether a name is declared
nothing_mapped : {X Y : Type 0} (f : X → Y) (o : Option X) → is_nothing (option_map f o) ≡ not (is_some o)
nothing_mapped f None = refl
nothing_mapped f (Some x) = refl

pub from_nothing : {A : Type 0} (o : Option A) → is_nothing o ≡ true → o ≡ None
from_nothing None h = refl
from_nothing (Some x) h = absurd (bad h)
  where
    bad : false ≡ true → ⊥
    bad e = cc

pub constructor_tested : (cs : List (List ℕ × Constructor)) (name : List ℕ) (o : Option Constructor) (b c : Bool) → o ≡ lookup (bytes_eq name) cs → b ≡ is_some o → b ≡ c → is_nothing (lookup (bytes_eq name) (types_in cs)) ≡ not c
constructor_tested cs name o b c e t is = ap is_nothing (lookup_map (λ d. d.arity) (bytes_eq name) cs) ∙ nothing_mapped (λ d. d.arity) (lookup (bytes_eq name) cs) ∙ ap (λ p. not (is_some p)) (sym e) ∙ ap not (sym t ∙ is)

pub constant_tested : (s : TermStore) (cs : List (List ℕ × Constant)) (name : List ℕ) (o : Option Constant) (b c : Bool) → o ≡ lookup (bytes_eq name) cs → b ≡ is_some o → b ≡ c → is_nothing (lookup (bytes_eq name) (consts_in s cs)) ≡ not c
constant_tested s cs name o b c e t is = ap is_nothing (lookup_map (λ d. type_tree s.types d.ty) (bytes_eq name) cs) ∙ nothing_mapped (λ d. type_tree s.types d.ty) (lookup (bytes_eq name) cs) ∙ ap (λ p. not (is_some p)) (sym e) ∙ ap not (sym t ∙ is)

-- One declaration more.
use Rattle.std.proofs.Common.{◌≡◌, ℕ, zero, suc, arith, ◌+◌, ◌<◌, List, [], ◌∷◌, ◌++◌, length, get_or, take, Bool as Truth, true, false, ◌&&◌, ◌||◌, cond, not, nat_eq, bytes_eq, refl, sym, ap, ◌∙◌, subst}
use Rattle.std.proofs.Math.Bool.{or-false}
use Rattle.std.proofs.lemmas.List.{map-append, take_more}
use Rattle.std.proofs.lemmas.List.Folds.{list_any-append}
use Rattle.std.specs.HashSet.{HashSet, IsEmpty, contains}
use Rattle.std.specs.List.{AllByRecursion, list_any}
use Rattle.hol_types.specs.TypeStore.{TypeStore, NamesApart, HasName, text_of, type_tree}
use Rattle.hol_types.specs.Ty.{Ty}
use Rattle.hol_types.proofs.TypeLemmas.{eqb_sound, eqb_complete}
use Rattle.hol_types.proofs.TyEqLemmas.{text_eq_sound, text_eq_refl}
use Rattle.hol_terms.specs.TermStore.{TermStore}
use Rattle.goal_text.specs.Matching.{is_ground}
use Rattle.goal_text.specs.ItemsIn.{HasDeclared, declared_in}
use Rattle.goal_text.specs.declared.problem.Declared.{Declared}
use Rattle.goal_print.specs.TermText.{is_schematic}
use Rattle.goal_print.specs.Pieces.{KnowsSchematic}

-- what holds of each holds at an index
at_index : {X : Type 0} (P : X → Type 0) (xs : List X) → AllByRecursion P xs → (i : ℕ) (d : X) → i < length xs → P (get_or xs i d)
at_index P [] all i d below = absurd (omega arith)
at_index P (x ∷ xs) all zero d below = all.0
at_index P (x ∷ xs) all (suc i) d below = at_index P xs all.1 i d (omega arith)

-- names are tested by their numbers
names_tested : (s : TypeStore) → NamesApart s → (n m : ℕ) → HasName s n → HasName s m → (b : Truth) → nat_eq m n ≡ b → bytes_eq (text_of s n) (text_of s m) ≡ b
names_tested s apart n m there here true e = ap (λ k. bytes_eq (text_of s n) (text_of s k)) (eqb_sound m n e) ∙ text_eq_refl (text_of s n)
names_tested s apart n m there here false e = by (bytes_eq (text_of s n) (text_of s m)) refl
  where
    by : (c : Truth) → bytes_eq (text_of s n) (text_of s m) ≡ c → bytes_eq (text_of s n) (text_of s m) ≡ false
    by false h = h
    by true h = absurd (eqb_complete m n e (sym (apart n m there here (text_eq_sound (text_of s n) (text_of s m) h))))

put_case : (b x : Truth) → cond b true x ≡ (x || (b && not false))
put_case true true = refl
put_case true false = refl
put_case false true = refl
put_case false false = refl

ground_case : (b x : Truth) → x ≡ (x || (b && not true))
ground_case true true = refl
ground_case true false = refl
ground_case false true = refl
ground_case false false = refl

module _ (s : TermStore) (consts : List Declared) (i : ℕ) (d : Declared) (below : i < length consts) (is : d ≡ get_or consts i d) where
  pub is_declared : AllByRecursion (HasDeclared s) consts → HasDeclared s d
  is_declared all = subst (HasDeclared s) (sym is) (at_index (HasDeclared s) consts all i d below)

  schematic_next : (name : List ℕ) → is_schematic (declared_in s (take (i + 1) consts)) name ≡ (is_schematic (declared_in s (take i consts)) name || (bytes_eq name (text_of s.types d.name) && not (is_ground (type_tree s.types d.ty))))
  unfolding is_schematic
  schematic_next name =
      let test = λ (c : List ℕ × Ty). bytes_eq name c.0 && not (is_ground c.1) in
      let split : take (i + 1) consts ≡ take i consts ++ d ∷ [] = take_more consts i d below ∙ ap (λ e. take i consts ++ e ∷ []) (sym is) in
      let pairs : declared_in s (take (i + 1) consts) ≡ declared_in s (take i consts) ++ (text_of s.types d.name, type_tree s.types d.ty) ∷ [] =
      ap (declared_in s) split ∙ map-append (λ (e : Declared). (text_of s.types e.name, type_tree s.types e.ty)) (take i consts) (d ∷ []) in
      ap (list_any test) pairs ∙ list_any-append test (declared_in s (take i consts)) ((text_of s.types d.name, type_tree s.types d.ty) ∷ [])
      ∙ ap (λ b. list_any test (declared_in s (take i consts)) || b) (or-false (bytes_eq name (text_of s.types d.name) && not (is_ground (type_tree s.types d.ty))))

  -- a constant without type variables isn't in the set
  pub known_ground : {S : Type 0} (m : HashSet ℕ S) → KnowsSchematic s (declared_in s (take i consts)) m → is_ground (type_tree s.types d.ty) ≡ true → KnowsSchematic s (declared_in s (take (i + 1) consts)) m
  known_ground m known ground n here =
      known n here
      ∙ ground_case (bytes_eq (text_of s.types n) (text_of s.types d.name)) (is_schematic (declared_in s (take i consts)) (text_of s.types n))
      ∙ ap (λ g. is_schematic (declared_in s (take i consts)) (text_of s.types n) || (bytes_eq (text_of s.types n) (text_of s.types d.name) && not g)) (sym ground)
      ∙ sym (schematic_next (text_of s.types n))

  -- another is put into it
  pub known_put : {S : Type 0} (m more : HashSet ℕ S) → NamesApart s.types → HasDeclared s d → KnowsSchematic s (declared_in s (take i consts)) m → is_ground (type_tree s.types d.ty) ≡ false
      → ((q : ℕ) → contains nat_eq more q ≡ cond (nat_eq d.name q) true (contains nat_eq m q)) → KnowsSchematic s (declared_in s (take (i + 1) consts)) more
  known_put m more apart there known schematic put n here =
      put n
      ∙ ap (λ x. cond (nat_eq d.name n) true x) (known n here)
      ∙ put_case (nat_eq d.name n) (is_schematic (declared_in s (take i consts)) (text_of s.types n))
      ∙ ap (λ b. is_schematic (declared_in s (take i consts)) (text_of s.types n) || (b && not false)) (sym (names_tested s.types apart n d.name here there.0 (nat_eq d.name n) refl))
      ∙ ap (λ g. is_schematic (declared_in s (take i consts)) (text_of s.types n) || (bytes_eq (text_of s.types n) (text_of s.types d.name) && not g)) (sym schematic)
      ∙ sym (schematic_next (text_of s.types n))

-- nothing is declared
pub known_none : {S : Type 0} (s : TermStore) (m : HashSet ℕ S) → IsEmpty m → KnowsSchematic s [] m
unfolding is_schematic
known_none s m empty n here = rw empty refl

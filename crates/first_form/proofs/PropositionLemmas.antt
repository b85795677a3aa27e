-- The constants of type Bool, one after the other.
use Rattle.std.proofs.Common.{◌≡◌, ℕ, ◌+◌, ◌<◌, zero, suc, List, [], ◌∷◌, ◌++◌, true, false, length, get_or, drop, refl, sym, ap, ◌∙◌, arith}
use Rattle.std.specs.List.{AllByRecursion}
use Rattle.std.proofs.lemmas.List.{drop_more}
use Rattle.hol_types.specs.Ty.{Ty, BoolTy}
use Rattle.hol_types.specs.TyEq.{ty_eq}
use Rattle.hol_types.specs.TypeStore.{text_of, type_tree}
use Rattle.hol_terms.specs.TermStore.{TermStore, Keeps}
use Rattle.goal_text.specs.declared.problem.Declared.{Declared}
use Rattle.goal_text.specs.ItemsIn.{HasDeclared, declared_in}
use Rattle.first_form.specs.Source.{is_declared, with_proposition, with_propositions}

-- a constant that isn't of type Bool, one whose name is there, and a new one
pub other_type : (names : List (List ℕ)) (c : List ℕ × Ty) → ty_eq BoolTy c.1 ≡ false → names ≡ with_proposition names c
other_type names c h = rw h refl

pub there_already : (names : List (List ℕ)) (c : List ℕ × Ty) → ty_eq BoolTy c.1 ≡ true → is_declared names c.0 ≡ true → names ≡ with_proposition names c
there_already names c h k = rw (h, k) refl

pub new_name : (names : List (List ℕ)) (c : List ℕ × Ty) → ty_eq BoolTy c.1 ≡ true → is_declared names c.0 ≡ false → names ++ c.0 ∷ [] ≡ with_proposition names c
new_name names c h k = rw (h, k) refl

-- the declaration at a place is there
pub declared_at : (s : TermStore) (ds : List Declared) (i : ℕ) (d : Declared) → AllByRecursion (λ e. HasDeclared s e) ds → i < length ds → HasDeclared s (get_or ds i d)
declared_at s [] i d all h = absurd (omega arith)
declared_at s (e ∷ ds) zero d all h = all.0
declared_at s (e ∷ ds) (suc i) d all h = declared_at s ds i d all.1 (omega arith)

-- in a store that has gone on
pub declared_on : {s u : TermStore} {d : Declared} → Keeps s u → HasDeclared s d → HasDeclared u d
declared_on {d = d} k is = (k.names d.name is.0, k.types d.ty is.1)

-- one constant more, of those to come
pub propositions_step : (s u : TermStore) (ds : List Declared) (i : ℕ) (d : Declared) (names more total : List (List ℕ)) → Keeps s u → i < length ds → d ≡ get_or ds i d → HasDeclared s d
    → more ≡ with_proposition names (text_of u.types d.name, type_tree u.types d.ty)
    → with_propositions names (declared_in s (drop i ds)) ≡ total
    → with_propositions more (declared_in s (drop (i + 1) ds)) ≡ total
unfolding with_propositions
propositions_step s u ds i d names more total k below is there new so_far =
    let split : drop i ds ≡ d ∷ drop (i + 1) ds = drop_more ds i d below ∙ ap (λ e. e ∷ drop (i + 1) ds) (sym is) in
    let t = k.texts d.name there.0 in
    let ty = k.type_trees d.ty there.1 in
    let one : more ≡ with_proposition names (text_of s.types d.name, type_tree s.types d.ty) = new ∙ rw (t, ty) refl in
    ap (λ ns. with_propositions ns (declared_in s (drop (i + 1) ds))) one ∙ sym (ap (λ l. with_propositions names (declared_in s l)) split) ∙ so_far

pub propositions_done : (s : TermStore) (ds : List Declared) (i : ℕ) (names total : List (List ℕ)) → drop i ds ≡ [] → with_propositions names (declared_in s (drop i ds)) ≡ total → names ≡ total
unfolding with_propositions
propositions_done s ds i names total none so_far = sym (ap (λ l. with_propositions names (declared_in s l)) none) ∙ so_far

-- Names in tables whose keys are seen through a view.
use Rattle.std.proofs.Common.{◌≡◌, ℕ, List, [], ◌∷◌, ◌++◌, Some, None, Bool, true, false, true≢false, cond, if◌then◌else◌, map, refl, sym, ap, ◌∙◌}
use Rattle.std.specs.Prelude.{bytes_eq}
use Rattle.std.proofs.lemmas.Slice.Eq.{bytes_eq-Decides}
use Rattle.std.specs.Map.{lookup}
use Rattle.std.proofs.lemmas.Option.{none-some}
use Rattle.indexmap.specs.IndexMap.{insert_entry}

module _ {A B X : Type 0} (view : A → B) where
  abbrev pub seen : List (A × X) → List (B × X)
  seen es = map (λ e. (view e.0, e.1)) es

  pub lookup_seen : (test : B → Bool) (es : List (A × X)) → lookup (λ k. test (view k)) es ≡ lookup test (seen es)
  lookup_seen test [] = refl
  lookup_seen test (e ∷ es) = ap (cond (test (view e.0)) (Some e.1)) (lookup_seen test es)

  -- a key that isn't there goes last
  pub insert_seen : (eq : B → B → Bool) (es : List (A × X)) (k : A) (x : X) → lookup (eq (view k)) (seen es) ≡ None
      → seen (insert_entry (λ a b. eq (view a) (view b)) es k x) ≡ seen es ++ (view k, x) ∷ []
  insert_seen eq [] k x h = refl
  insert_seen eq (e ∷ es) k x h = by (eq (view k) (view e.0)) refl (λ later. insert_seen eq es k x later)
    where
      by : (b : Bool) → eq (view k) (view e.0) ≡ b → (lookup (eq (view k)) (seen es) ≡ None → seen (insert_entry (λ a b. eq (view a) (view b)) es k x) ≡ seen es ++ (view k, x) ∷ [])
          → seen (insert_entry (λ a b. eq (view a) (view b)) (e ∷ es) k x) ≡ seen (e ∷ es) ++ (view k, x) ∷ []
      by true i r = absurd (none-some e.1 (sym h ∙ ap (λ b. cond b (Some e.1) (lookup (eq (view k)) (seen es))) i))
      by false i r =
          let later : lookup (eq (view k)) (seen es) ≡ None = sym (ap (λ b. cond b (Some e.1) (lookup (eq (view k)) (seen es))) i) ∙ h in
          rw i (ap (λ l. (view e.0, e.1) ∷ l) (r later))

-- what names stand for once one of them is set
module _ {A X : Type 0} (view : A → List ℕ) where
  pub lookup_set : (es : List (A × X)) (k : A) (x : X) (name : List ℕ)
      → lookup (bytes_eq name) (seen view (insert_entry (λ a b. bytes_eq (view a) (view b)) es k x)) ≡ (if bytes_eq name (view k) then Some x else lookup (bytes_eq name) (seen view es))
  lookup_set [] k x name = refl
  lookup_set (e ∷ es) k x name = by (bytes_eq (view k) (view e.0)) (bytes_eq name (view e.0)) (bytes_eq name (view k)) refl refl refl (lookup_set es k x name)
    where
      by : (b c d : Bool) → bytes_eq (view k) (view e.0) ≡ b → bytes_eq name (view e.0) ≡ c → bytes_eq name (view k) ≡ d
          → lookup (bytes_eq name) (seen view (insert_entry (λ a b. bytes_eq (view a) (view b)) es k x)) ≡ (if bytes_eq name (view k) then Some x else lookup (bytes_eq name) (seen view es))
          → lookup (bytes_eq name) (seen view (insert_entry (λ a b. bytes_eq (view a) (view b)) (e ∷ es) k x)) ≡ (if bytes_eq name (view k) then Some x else lookup (bytes_eq name) (seen view (e ∷ es)))
      by true true true i j h r = rw (i, j, h) refl
      by true true false i j h r =
          let same = (bytes_eq-Decides (view k) (view e.0)).0 i in
          absurd (true≢false (sym j ∙ ap (bytes_eq name) (sym same) ∙ h))
      by true false true i j h r =
          let same = (bytes_eq-Decides (view k) (view e.0)).0 i in
          absurd (true≢false (sym h ∙ ap (bytes_eq name) same ∙ j))
      by true false false i j h r = rw (i, j, h) refl
      by false true true i j h r =
          let first = (bytes_eq-Decides name (view e.0)).0 j in
          let second = (bytes_eq-Decides name (view k)).0 h in
          absurd (true≢false (sym ((bytes_eq-Decides (view k) (view e.0)).1 (sym second ∙ first)) ∙ i))
      by false true false i j h r = rw (i, j, h) refl
      by false false true i j h r = rw (i, j) r
      by false false false i j h r = rw (i, j) r

-- How often is looked up doesn't matter, so a run of trees is its first and the others.
use Rattle.std.proofs.Common.{◌≡◌, ℕ, zero, suc, ◌+◌, ◌-◌, ◌<◌, ◌≤◌, List, [], ◌∷◌, length, map, slice_index_or, Option, MatchOption, Some, None, refl, sym, ap, arith, nat_lt, true, false, inl, inr}
use Rattle.std.proofs.lemmas.Bool.{cases_lt, le-ltb, lt-ltb}
use Rattle.std.proofs.lemmas.Option.{same_Some, none-some}
use Rattle.sexp.specs.Tree.{Tree, Trees, AtomTree, QuotedTree, ListTree, no_trees, more_trees, place, text_of}
use Rattle.sexp.specs.Forest.{Body, ListBody, AtomBody, QuotedBody, Kept, kept_at, after_of, tree_by, trees_within, trees_at, tree_at, IsRun, IsForest, kind_of, body_text, Tells}
use Rattle.sexp.specs.Records.{kept_in}
use Rattle.sexp.specs.declared.rec.RecKind.{RecKind}
use Rattle.sexp.specs.declared.rec.RecKind.TheVariants as kinds
use Rattle.sexp.specs.declared.records.Record.{Record}

module _ (forest : List Kept) (is : IsForest forest) where
  pub run_rest : (i end : ℕ) → IsRun forest i end → i < end → IsRun forest (after_of forest i) end
  run_rest i end run h =
      let parts = is i (let t = run.there in omega arith) in
      let o = parts.order in
      record { order = run.nested i (omega arith) h; there = run.there; nested = λ j a b. run.nested j (omega arith) b }

  within-same : (k l i end : ℕ) → end ≤ i + k → end ≤ i + l → IsRun forest i end → trees_within forest k i end ≡ trees_within forest l i end
  unfolding trees_within
  within-same zero zero i end a b run = refl
  within-same zero (suc l) i end a b run = let e : nat_lt i end ≡ false = le-ltb i end (omega arith) in rw e refl
  within-same (suc k) zero i end a b run = let e : nat_lt i end ≡ false = le-ltb i end (omega arith) in rw e refl
  within-same (suc k) (suc l) i end a b run = elim (cases_lt i end) [
    | inr e ↦ let e2 : nat_lt i end ≡ false = le-ltb i end e in rw e2 refl
    | inl h ↦
        let parts = is i (let t = run.there in omega arith) in
        let o = parts.order in
        let n = run.nested i (omega arith) h in
        let inner = within-same k l (i + 1) (after_of forest i) (omega arith) (omega arith) parts in
        let rest = within-same k l (after_of forest i) end (omega arith) (omega arith) (run_rest i end run h) in
        rw (inner, rest) refl
  ]

  pub trees_at-step : (i end : ℕ) → IsRun forest i end → i < end → trees_at forest i end ≡ more_trees (tree_at forest i) (trees_at forest (after_of forest i) end)
  unfolding trees_at trees_within tree_at
  trees_at-step i end run h =
      let parts = is i (let t = run.there in omega arith) in
      let o = parts.order in
      let n = run.nested i (omega arith) h in
      let k = end - (i + 1) in
      let e : end - i ≡ suc k = omega arith in
      let lt : nat_lt i end ≡ true = lt-ltb i end h in
      let inner = within-same k (after_of forest i - (i + 1)) (i + 1) (after_of forest i) (omega arith) (omega arith) parts in
      let rest = within-same k (end - after_of forest i) (after_of forest i) end (omega arith) (omega arith) (run_rest i end run h) in
      rw (e, lt, inner, rest) refl

pub trees_at-none : (forest : List Kept) (i end : ℕ) → end ≤ i → trees_at forest i end ≡ no_trees
unfolding trees_at trees_within
trees_at-none forest i end h = let e : end - i ≡ zero = omega arith in rw e refl

place-by : (body : Body) (at : ℕ) (parts : Trees) → place (tree_by body at parts) ≡ at
place-by ListBody at parts = refl
place-by (AtomBody text) at parts = refl
place-by (QuotedBody text) at parts = refl

pub place-at : (forest : List Kept) (i : ℕ) → place (tree_at forest i) ≡ (kept_at forest i).start
unfolding tree_at
place-at forest i = place-by (kept_at forest i).body (kept_at forest i).start (trees_at forest (i + 1) (after_of forest i))

-- the tree of a record
pub tree_at-is : (forest : List Kept) (i : ℕ) → tree_at forest i ≡ tree_by (kept_at forest i).body (kept_at forest i).start (trees_at forest (i + 1) (after_of forest i))
unfolding tree_at
tree_at-is forest i = refl

tells_by : (body : Body) (at : ℕ) (parts : Trees) (tree : Tree) → tree ≡ tree_by body at parts → Tells (kind_of body) tree parts
tells_by ListBody at parts tree e = rw e refl
tells_by (AtomBody text) at parts tree e = (text, rw e refl)
tells_by (QuotedBody text) at parts tree e = (text, rw e refl)

-- what a tree is
pub tells : (forest : List Kept) (i : ℕ) → Tells (kind_of (kept_at forest i).body) (tree_at forest i) (trees_at forest (i + 1) (after_of forest i))
tells forest i = tells_by (kept_at forest i).body (kept_at forest i).start (trees_at forest (i + 1) (after_of forest i)) (tree_at forest i) (tree_at-is forest i)

text_by : (body : Body) (at : ℕ) (parts : Trees) (tree : Tree) → tree ≡ tree_by body at parts → text_of tree ≡ body_text body
text_by ListBody at parts tree e = rw e refl
text_by (AtomBody text) at parts tree e = rw e refl
text_by (QuotedBody text) at parts tree e = rw e refl

pub text_is : (forest : List Kept) (i : ℕ) → text_of (tree_at forest i) ≡ body_text (kept_at forest i).body
text_is forest i = text_by (kept_at forest i).body (kept_at forest i).start (trees_at forest (i + 1) (after_of forest i)) (tree_at forest i) (tree_at-is forest i)

pub atom_is : (tree : Tree) (parts : Trees) (text : List ℕ) → Tells kinds.Atom tree parts → text_of tree ≡ Some text → tree ≡ AtomTree (place tree) text
atom_is (AtomTree at own) parts text is e = ap (AtomTree at) (same_Some own text e)
atom_is (QuotedTree at own) parts text is e = cc
atom_is (ListTree at own) parts text is e = absurd (none-some text e)

pub list_is : (body : Body) → body_text body ≡ None → kind_of body ≡ kinds.List
list_is ListBody e = refl
list_is (AtomBody text) e = absurd (none-some text (sym e))
list_is (QuotedBody text) e = absurd (none-some text (sym e))

-- the record of a number, by the texts
pub kept_at-map : (texts : List (List ℕ)) (rs : List Record) (i : ℕ) (r : Record) → i < length rs → r ≡ slice_index_or rs i r → kept_at (map (kept_in texts) rs) i ≡ kept_in texts r
kept_at-map texts [] i r below e = absurd (omega arith)
kept_at-map texts (s ∷ rs) zero r below e = ap (kept_in texts) (sym e)
kept_at-map texts (s ∷ rs) (suc i) r below e = kept_at-map texts rs i r (omega arith) e

-- the whole is a run
pub run_all : (forest : List Kept) → IsForest forest → IsRun forest 0 (length forest)
run_all forest is = record { order = omega arith; there = omega arith; nested = λ j low high. (is j high).there }

pub match_both : {X : Type 0} (o : Option X) (P Q : Type 0) (F G : X → Type 0) → (P → Q) → ((x : X) → F x → G x) → MatchOption o P F → MatchOption o Q G
match_both (Some x) P Q F G none some h = some x h
match_both None P Q F G none some h = none h

pub not_both : ◌≡◌ {A = RecKind} kinds.Atom kinds.List → ⊥
not_both e = cc

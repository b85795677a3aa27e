-- Pieces that are put one after the other.
use Rattle.std.proofs.Common.{◌≡◌, ℕ, ◌+◌, ◌<◌, ◌≤◌, List, [], ◌∷◌, ◌++◌, length, get_or, drop, Bool, false, not, nat_eq, refl, sym, ap, ◌∙◌, append_assoc, append-nil, arith}
use Rattle.std.proofs.lemmas.List.{drop_more}
use Rattle.std.specs.List.{AllByRecursion}
use Rattle.hol_types.specs.TypeStore.{TypeStore, HasType, trees_at}
use Rattle.hol_types.proofs.InstanceLemmas.{all_at}
use Rattle.hol_types.proofs.TypeLemmas.{not_eqb}
use Rattle.hol_terms.specs.TermStore.{TermStore}
use Rattle.goal_text.specs.Names.{Constants}
use Rattle.goal_print.specs.declared.piece.Piece.{Piece}
use Rattle.goal_print.specs.declared.piece.Piece.TheVariants as pieces
use Rattle.goal_print.specs.declared.piece.Word.TheVariants as words
use Rattle.goal_print.specs.TypeText.{are_some, types_text}
use Rattle.goal_print.specs.Pieces.{Puts, Grows, HasPiece, HavePieces, piece_text, piece_work, rest_text, rest_work, types_work}

-- the last piece is written first
pub rest_text-append : (s : TermStore) (consts : Constants) (ps : List Piece) (p : Piece) → rest_text s consts (ps ++ p ∷ []) ≡ piece_text s consts p ++ rest_text s consts ps
rest_text-append s consts [] p = sym (append-nil (piece_text s consts p))
rest_text-append s consts (q ∷ ps) p =
    ap (λ t. t ++ piece_text s consts q) (rest_text-append s consts ps p) ∙ append_assoc (piece_text s consts p) (rest_text s consts ps) (piece_text s consts q)

pub rest_work-append : (s : TermStore) (ps : List Piece) (p : Piece) → rest_work s (ps ++ p ∷ []) ≡ piece_work s p + rest_work s ps
rest_work-append s [] p = refl
rest_work-append s (q ∷ ps) p = let step = rest_work-append s ps p in omega arith

have_one_more : (s : TermStore) (ps : List Piece) (p : Piece) → HasPiece s p → HavePieces s ps → HavePieces s (ps ++ p ∷ [])
have_one_more s [] p here h = (here, tt)
have_one_more s (q ∷ ps) p here h = (h.0, have_one_more s ps p here h.1)

-- nothing is put
pub put_none : (s : TermStore) (consts : Constants) (old : List Piece) → Puts s consts [] 0 old old
put_none s consts old = record { text_is = refl; work_is = omega arith; there = λ h. h }

-- one piece is put
pub put_one : (s : TermStore) (consts : Constants) (p : Piece) (old new : List Piece) → HasPiece s p → new ≡ old ++ p ∷ [] → Puts s consts (piece_text s consts p) (piece_work s p) old new
put_one s consts p old new here is = record {
  text_is = ap (rest_text s consts) is ∙ rest_text-append s consts old p;
  work_is = let e = ap (rest_work s) is in let step = rest_work-append s old p in omega arith;
  there = λ h. rw is (have_one_more s old p here h);
}

-- one text is put, and then another
pub put_then : (s : TermStore) (consts : Constants) (a b : List ℕ) (m n : ℕ) (old mid new : List Piece) → Puts s consts a m old mid → Puts s consts b n mid new → Puts s consts (b ++ a) (n + m) old new
put_then s consts a b m n old mid new first second = record {
  text_is = second.text_is ∙ ap (λ t. b ++ t) first.text_is ∙ sym (append_assoc b a (rest_text s consts old));
  work_is = let h = first.work_is in let k = second.work_is in omega arith;
  there = λ h. second.there (first.there h);
}

-- the same by another name, with no fewer steps
pub put_as : (s : TermStore) (consts : Constants) (a b : List ℕ) (m n : ℕ) (old new : List Piece) → a ≡ b → m ≤ n → Puts s consts a m old new → Puts s consts b n old new
put_as s consts a b m n old new same more put = record {
  text_is = put.text_is ∙ ap (λ t. t ++ rest_text s consts old) same;
  work_is = let h = put.work_is in omega arith;
  there = put.there;
}

-- ---- types

-- one type more, before those that are put
pub put_type_before : (s : TermStore) (consts : Constants) (ts : List ℕ) (i k t : ℕ) (old mid with_type new : List Piece) → i < length ts → i + 1 ≡ k → t ≡ get_or ts i t → AllByRecursion (HasType s.types) ts
    → Puts s consts (types_text (trees_at s.types (drop k ts))) (types_work (trees_at s.types (drop k ts))) old mid → with_type ≡ mid ++ pieces.TypeText t false ∷ [] → new ≡ with_type ++ pieces.Word words.Blank ∷ []
    → Puts s consts (types_text (trees_at s.types (drop i ts))) (types_work (trees_at s.types (drop i ts))) old new
unfolding types_text
put_type_before s consts ts i k t old mid with_type new within is_next is_t there rest put_t put_blank =
    let more : drop i ts ≡ get_or ts i t ∷ drop (i + 1) ts = drop_more ts i t within in
    let split : drop i ts ≡ t ∷ drop k ts = more ∙ ap (λ n. get_or ts i t ∷ drop n ts) is_next ∙ ap (λ u. u ∷ drop k ts) (sym is_t) in
    let here : HasType s.types t = rw is_t (all_at (HasType s.types) ts there i t within) in
    let all = put_then s consts _ _ _ _ _ _ _ (put_then s consts _ _ _ _ _ _ _ rest (put_one s consts (pieces.TypeText t false) _ _ here put_t)) (put_one s consts (pieces.Word words.Blank) _ _ tt put_blank) in
    rw split (put_as s consts _ _ _ _ _ _ refl (omega arith) all)

-- types below a type are there
pub types_below : (s : TypeStore) (top : ℕ) (ts : List ℕ) → HasType s top → AllByRecursion (λ t. t < top) ts → AllByRecursion (HasType s) ts
types_below s top [] there below = tt
types_below s top (t ∷ ts) there below = let first = below.0 in (omega arith, types_below s top ts there below.1)

-- a list of types that isn't empty
pub some_types : (s : TypeStore) (ts : List ℕ) (empty : Bool) → empty ≡ nat_eq (length ts) 0 → are_some (trees_at s ts) ≡ not empty
some_types s [] empty is = ap not (sym is)
some_types s (t ∷ ts) empty is = sym (ap not is ∙ not_eqb (length (t ∷ ts)) 0 (λ h. omega arith))

-- one piece more is put
pub then_one : (s : TermStore) (consts : Constants) (p : Piece) (text : List ℕ) (work : ℕ) (old mid new : List Piece) → HasPiece s p → Puts s consts text work old mid → new ≡ mid ++ p ∷ [] → Puts s consts (piece_text s consts p ++ text) (piece_work s p + work) old new
then_one s consts p text work old mid new here put is = put_then s consts _ _ _ _ _ _ _ put (put_one s consts p mid new here is)

-- whatever the text is, the pieces are there
pub puts_grow : (s : TermStore) (text : List ℕ) (work : ℕ) (old new : List Piece) → Puts s [] text work old new → Grows s work old new
puts_grow s text work old new put = record { work_is = put.work_is; there = put.there }

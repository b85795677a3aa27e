-- Pieces are taken one after the other.
use Rattle.std.proofs.Common.{◌≡◌, ℕ, ◌+◌, ◌<◌, ◌≤◌, List, [], ◌∷◌, ◌++◌, Result, Ok, Err, refl, sym, ap, ◌∙◌, append_assoc, append-nil, subst, arith}
use Rattle.std.specs.Prelude.{OnErr}
use Rattle.hol_terms.specs.TermStore.{TermStore}
use Rattle.goal_text.specs.Names.{Constants}
use Rattle.goal_print.specs.declared.piece.Piece.{Piece}
use Rattle.goal_print.specs.Pieces.{Grows, HasPiece, HavePieces, IsPart, piece_text, piece_work, rest_text, rest_work}
use Rattle.goal_print.proofs.PutLemmas.{rest_text-append, rest_work-append}

have_both : (s : TermStore) (rest : List Piece) (p : Piece) → HavePieces s (rest ++ p ∷ []) → HavePieces s rest × HasPiece s p
have_both s [] p h = (tt, h.0)
have_both s (q ∷ rest) p h = let both = have_both s rest p h.1 in ((h.0, both.0), both.1)

-- the piece on top is there, and so are those below
pub taken_there : (s : TermStore) (all rest : List Piece) (piece p : Piece) → all ≡ rest ++ piece ∷ [] → piece ≡ p → HavePieces s all → HavePieces s rest × HasPiece s p
taken_there s all rest piece p taken is h =
    let e : all ≡ rest ++ p ∷ [] = taken ∙ ap (λ q. rest ++ q ∷ []) is in
    have_both s rest p (subst (HavePieces s) e h)

-- its text comes first
pub taken_text : (s : TermStore) (consts : Constants) (all rest : List Piece) (piece p : Piece) → all ≡ rest ++ piece ∷ [] → piece ≡ p → rest_text s consts all ≡ piece_text s consts p ++ rest_text s consts rest
taken_text s consts all rest piece p taken is =
    ap (rest_text s consts) (taken ∙ ap (λ q. rest ++ q ∷ []) is) ∙ rest_text-append s consts rest p

taken_work : (s : TermStore) (all rest : List Piece) (piece p : Piece) → all ≡ rest ++ piece ∷ [] → piece ≡ p → rest_work s all ≡ piece_work s p + rest_work s rest
taken_work s all rest piece p taken is = ap (rest_work s) (taken ∙ ap (λ q. rest ++ q ∷ []) is) ∙ rest_work-append s rest p

-- a piece less, or fewer steps
pub taken_less : (s : TermStore) (all rest : List Piece) (piece p : Piece) → all ≡ rest ++ piece ∷ [] → piece ≡ p → 1 ≤ piece_work s p → rest_work s rest < rest_work s all
taken_less s all rest piece p taken is one = let e = taken_work s all rest piece p taken is in omega arith

pub put_less : (s : TermStore) (all rest new : List Piece) (piece p : Piece) (work : ℕ) → all ≡ rest ++ piece ∷ [] → piece ≡ p → Grows s work rest new → work + 1 ≤ piece_work s p → rest_work s new < rest_work s all
put_less s all rest new piece p work taken is grows less =
    let e = taken_work s all rest piece p taken is in
    let more = grows.work_is in
    omega arith

-- nothing is appended yet
pub part_none : (text old : List ℕ) → IsPart text old old text
part_none text old = record { front = []; appended = sym (append-nil old); whole = refl }

-- what comes first of the rest is appended
pub part_written : (text old now next written rest more : List ℕ) → IsPart text old now rest → rest ≡ written ++ more → next ≡ now ++ written → IsPart text old next more
part_written text old now next written rest more part first is = record {
  front = part.front ++ written;
  appended = is ∙ ap (λ t. t ++ written) part.appended ∙ append_assoc old part.front written;
  whole = part.whole ∙ ap (λ t. part.front ++ t) first ∙ sym (append_assoc part.front written more);
}

-- the rest by other pieces
pub part_put : (text old now rest more : List ℕ) → IsPart text old now rest → rest ≡ more → IsPart text old now more
part_put text old now rest more part same = record { front = part.front; appended = part.appended; whole = part.whole ∙ ap (λ t. part.front ++ t) same }

pub on_err : {T E : Type 0} (r : Result T E) (P : Type 0) → P → OnErr r P
on_err (Ok x) P p = tt
on_err (Err e) P p = p

-- How records grow by one token.
use Rattle.std.proofs.Common.{◌≡◌, ℕ, zero, suc, ◌+◌, ◌<◌, ◌≤◌, List, [], ◌∷◌, ◌++◌, length, length-append, refl, ap, sym, ◌∙◌, arith, append_assoc}
use Rattle.sexp.specs.declared.token.Token.{Token}
use Rattle.sexp.specs.declared.token.TokenKind.TheVariants as kinds
use Rattle.sexp.specs.Forest.{ListBody, AtomBody, QuotedBody, Kept}
use Rattle.sexp.specs.Records.{closing, leaf, list_of, records, closed_at, patched, grown, AllBelow, atom_text, quoted_text}

patched-open : (lists : List ℕ) (outer n : ℕ) (t : Token) (ts : List Token) (rs : List Kept) → t.kind ≡ kinds.Open
    → patched lists outer n (t ∷ ts) rs ≡ patched lists (suc outer) (n + 1) ts rs
unfolding patched closing
patched-open [] outer n t ts rs k = refl
patched-open (i ∷ lists) outer n t ts rs k =
    patched-open lists (suc outer) n t ts (closed_at i (closing (t ∷ ts) outer n) rs) k ∙ rw k refl

patched-close : (lists : List ℕ) (outer n : ℕ) (t : Token) (ts : List Token) (rs : List Kept) → t.kind ≡ kinds.Close
    → patched lists (suc outer) n (t ∷ ts) rs ≡ patched lists outer n ts rs
unfolding patched closing
patched-close [] outer n t ts rs k = refl
patched-close (i ∷ lists) outer n t ts rs k =
    patched-close lists (suc outer) n t ts (closed_at i (closing (t ∷ ts) (suc outer) n) rs) k ∙ rw k refl

patched-atom : (lists : List ℕ) (outer n : ℕ) (t : Token) (ts : List Token) (rs : List Kept) → t.kind ≡ kinds.Atom
    → patched lists outer n (t ∷ ts) rs ≡ patched lists outer (n + 1) ts rs
unfolding patched closing
patched-atom [] outer n t ts rs k = refl
patched-atom (i ∷ lists) outer n t ts rs k =
    patched-atom lists (suc outer) n t ts (closed_at i (closing (t ∷ ts) outer n) rs) k ∙ rw k refl

patched-quoted : (lists : List ℕ) (outer n : ℕ) (t : Token) (ts : List Token) (rs : List Kept) → t.kind ≡ kinds.Quoted
    → patched lists outer n (t ∷ ts) rs ≡ patched lists outer (n + 1) ts rs
unfolding patched closing
patched-quoted [] outer n t ts rs k = refl
patched-quoted (i ∷ lists) outer n t ts rs k =
    patched-quoted lists (suc outer) n t ts (closed_at i (closing (t ∷ ts) outer n) rs) k ∙ rw k refl

pub length-closed_at : (i : ℕ) (close : ℕ × ℕ) (rs : List Kept) → length (closed_at i close rs) ≡ length rs
length-closed_at i close [] = refl
length-closed_at zero close (r ∷ rs) = refl
length-closed_at (suc i) close (r ∷ rs) = ap suc (length-closed_at i close rs)

closed_at-append : (i : ℕ) (close : ℕ × ℕ) (rs ss : List Kept) → i < length rs → closed_at i close (rs ++ ss) ≡ closed_at i close rs ++ ss
closed_at-append i close [] ss below = absurd (omega arith)
closed_at-append zero close (r ∷ rs) ss below = refl
closed_at-append (suc i) close (r ∷ rs) ss below = ap (λ x. r ∷ x) (closed_at-append i close rs ss (omega arith))

patched-append : (lists : List ℕ) (outer n : ℕ) (ts : List Token) (rs ss : List Kept) → AllBelow lists (length rs)
    → patched lists outer n ts (rs ++ ss) ≡ patched lists outer n ts rs ++ ss
unfolding patched
patched-append [] outer n ts rs ss below = refl
patched-append (i ∷ lists) outer n ts rs ss below =
    ap (patched lists (suc outer) n ts) (closed_at-append i (closing ts outer n) rs ss below.0)
    ∙ patched-append lists (suc outer) n ts (closed_at i (closing ts outer n) rs) ss (rw (length-closed_at i (closing ts outer n) rs) below.1)

closed_at-last : (close : ℕ × ℕ) (rs : List Kept) (r : Kept) → closed_at (length rs) close (rs ++ r ∷ []) ≡ rs ++ record r { end = close.0; after = close.1 } ∷ []
closed_at-last close [] r = refl
closed_at-last close (s ∷ rs) r = ap (λ x. s ∷ x) (closed_at-last close rs r)

pub length_pushed : (rs : List Kept) (r : Kept) → length (rs ++ r ∷ []) ≡ length rs + 1
length_pushed rs r = omega (arith, length-append rs (r ∷ []))

pub grown-atom : (bytes : List ℕ) (rs : List Kept) (lists : List ℕ) (t : Token) (ts : List Token) → t.kind ≡ kinds.Atom → AllBelow lists (length rs)
    → grown bytes rs lists (t ∷ ts) ≡ grown bytes (rs ++ leaf (AtomBody (atom_text bytes t)) t (length rs) ∷ []) lists ts
unfolding records
grown-atom bytes rs lists t ts k below =
    rw (
      length_pushed rs (leaf (AtomBody (atom_text bytes t)) t (length rs)),
      patched-append lists 0 (length rs + 1) ts rs (leaf (AtomBody (atom_text bytes t)) t (length rs) ∷ []) below,
      append_assoc,
      patched-atom lists 0 (length rs) t ts rs k,
      k,
    ) refl

patched-cons : (i : ℕ) (lists : List ℕ) (ts : List Token) (n : ℕ) (rs : List Kept) → patched (i ∷ lists) 0 n ts rs ≡ patched lists 1 n ts (closed_at i (closing ts 0 n) rs)
unfolding patched
patched-cons i lists ts n rs = refl

pub grown-open : (bytes : List ℕ) (rs : List Kept) (lists : List ℕ) (t : Token) (ts : List Token) → t.kind ≡ kinds.Open → AllBelow lists (length rs)
    → grown bytes rs lists (t ∷ ts) ≡ grown bytes (rs ++ leaf ListBody t (length rs) ∷ []) (length rs ∷ lists) ts
unfolding records
grown-open bytes rs lists t ts k below =
    let made : Kept = list_of t.start (closing ts 0 (length rs + 1)) in
    let new : patched (length rs ∷ lists) 0 (length rs + 1) ts (rs ++ leaf ListBody t (length rs) ∷ []) ≡ patched lists 0 (length rs) (t ∷ ts) rs ++ made ∷ []
    = patched-cons (length rs) lists ts (length rs + 1) (rs ++ leaf ListBody t (length rs) ∷ [])
    ∙ (ap (patched lists 1 (length rs + 1) ts) (closed_at-last (closing ts 0 (length rs + 1)) rs (leaf ListBody t (length rs)))
    ∙ (patched-append lists 1 (length rs + 1) ts rs (made ∷ []) below
    ∙ ap (λ x. x ++ made ∷ []) (sym (patched-open lists 0 (length rs) t ts rs k)))) in
    rw (length_pushed rs (leaf ListBody t (length rs)), new, append_assoc, k) refl

closing-close : (t : Token) (ts : List Token) (n : ℕ) → t.kind ≡ kinds.Close → closing (t ∷ ts) 0 n ≡ (t.end, n)
unfolding closing
closing-close t ts n k = rw k refl

records-close : (bytes : List ℕ) (t : Token) (ts : List Token) (n : ℕ) → t.kind ≡ kinds.Close → records bytes (t ∷ ts) n ≡ records bytes ts n
unfolding records
records-close bytes t ts n k = rw k refl

pub grown-close : (bytes : List ℕ) (rs : List Kept) (i : ℕ) (lists : List ℕ) (t : Token) (ts : List Token) → t.kind ≡ kinds.Close
    → grown bytes rs (i ∷ lists) (t ∷ ts) ≡ grown bytes (closed_at i (t.end, length rs) rs) lists ts
grown-close bytes rs i lists t ts k =
    rw (
      length-closed_at i (t.end, length rs) rs,
      patched-cons i lists (t ∷ ts) (length rs) rs,
      closing-close t ts (length rs) k,
      patched-close lists 0 (length rs) t ts (closed_at i (t.end, length rs) rs) k,
      records-close bytes t ts (length rs) k,
    ) refl

pub AllBelow-more : (lists : List ℕ) (n m : ℕ) → n ≤ m → AllBelow lists n → AllBelow lists m
AllBelow-more [] n m le below = tt
AllBelow-more (i ∷ lists) n m le below = (omega arith, AllBelow-more lists n m le below.1)

pub grown-quoted : (bytes : List ℕ) (rs : List Kept) (lists : List ℕ) (t : Token) (ts : List Token) → t.kind ≡ kinds.Quoted → AllBelow lists (length rs)
    → grown bytes rs lists (t ∷ ts) ≡ grown bytes (rs ++ leaf (QuotedBody (quoted_text bytes t)) t (length rs) ∷ []) lists ts
unfolding records
grown-quoted bytes rs lists t ts k below =
    rw (
      length_pushed rs (leaf (QuotedBody (quoted_text bytes t)) t (length rs)),
      patched-append lists 0 (length rs + 1) ts rs (leaf (QuotedBody (quoted_text bytes t)) t (length rs) ∷ []) below,
      append_assoc,
      patched-quoted lists 0 (length rs) t ts rs k,
      k,
    ) refl

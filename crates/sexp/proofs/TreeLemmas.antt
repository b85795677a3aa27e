-- The records of a text's tokens stand for its trees.
use Rattle.std.proofs.Common.{◌≡◌, ℕ, zero, suc, ◌+◌, ◌<◌, ◌≤◌, List, [], ◌∷◌, length, drop, length-drop, get_or, refl, sym, ap, ◌∙◌, arith, inl, inr, Result, Ok, Err, IfOk}
use Rattle.std.proofs.lemmas.Bool.{cases_lt}
use Rattle.std.proofs.lemmas.List.{drop-drop, get_or-drop}
use Rattle.std.proofs.lemmas.Option.{same_Some}
use Rattle.std.specs.Result.{result_ok, result_err}
use Rattle.sexp.specs.Tree.{Tree, Trees, AtomTree, QuotedTree, ListTree, no_trees, more_trees}
use Rattle.sexp.specs.Forest.{ListBody, AtomBody, QuotedBody, Kept, kept_at, after_of, tree_by, trees_at, IsRun, IsForest}
use Rattle.sexp.specs.Records.{closing, leaf, list_of, records, atom_text, quoted_text}
use Rattle.sexp.specs.Text.{more, ends, faulty}
use Rattle.sexp.specs.Nesting.{Answers, last, token}
use Rattle.sexp.specs.Tokens.{answers_to}
use Rattle.sexp.specs.Spans.{IsOrderly, orderly_by}
use Rattle.sexp.specs.TextTrees.{trees_behind, mapped, tokens_or_fault, forest_of, records_of}
use Rattle.sexp.specs.declared.token.Token.{Token}
use Rattle.sexp.specs.declared.token.TokenKind.{TokenKind}
use Rattle.sexp.specs.declared.token.TokenKind.TheVariants as kinds
use Rattle.sexp.specs.declared.token.SexpFault.{SexpFault}
use Rattle.sexp.proofs.ForestLemmas.{trees_at-step, trees_at-none, tree_at-is}
use Rattle.sexp.proofs.SpanLemmas.{text-orderly}

-- the number of the first record behind the end of a list round the tokens
abbrev pub end_of : List Token → ℕ → ℕ → ℕ
end_of ts k n = (closing ts k n).1

-- What one token does to the records, and to the trees behind so many lists.
pub closing-open : (t : Token) (ts : List Token) (k n : ℕ) → t.kind ≡ kinds.Open → end_of (t ∷ ts) k n ≡ end_of ts (suc k) (n + 1)
unfolding closing
closing-open t ts k n is = rw is refl

pub closing-close : (t : Token) (ts : List Token) (n : ℕ) → t.kind ≡ kinds.Close → end_of (t ∷ ts) 0 n ≡ n
unfolding closing
closing-close t ts n is = rw is refl

pub closing-outer : (t : Token) (ts : List Token) (k n : ℕ) → t.kind ≡ kinds.Close → end_of (t ∷ ts) (suc k) n ≡ end_of ts k n
unfolding closing
closing-outer t ts k n is = rw is refl

pub closing-atom : (t : Token) (ts : List Token) (k n : ℕ) → t.kind ≡ kinds.Atom → end_of (t ∷ ts) k n ≡ end_of ts k (n + 1)
unfolding closing
closing-atom t ts k n is = rw is refl

pub closing-quoted : (t : Token) (ts : List Token) (k n : ℕ) → t.kind ≡ kinds.Quoted → end_of (t ∷ ts) k n ≡ end_of ts k (n + 1)
unfolding closing
closing-quoted t ts k n is = rw is refl

pub closing-none : (k n : ℕ) → end_of [] k n ≡ n
unfolding closing
closing-none k n = refl

module _ (bytes : List ℕ) where
  pub records-open : (t : Token) (ts : List Token) (n : ℕ) → t.kind ≡ kinds.Open → records bytes (t ∷ ts) n ≡ list_of t.start (closing ts 0 (n + 1)) ∷ records bytes ts (n + 1)
  unfolding records
  records-open t ts n is = rw is refl

  pub records-close : (t : Token) (ts : List Token) (n : ℕ) → t.kind ≡ kinds.Close → records bytes (t ∷ ts) n ≡ records bytes ts n
  unfolding records
  records-close t ts n is = rw is refl

  pub records-atom : (t : Token) (ts : List Token) (n : ℕ) → t.kind ≡ kinds.Atom → records bytes (t ∷ ts) n ≡ leaf (AtomBody (atom_text bytes t)) t n ∷ records bytes ts (n + 1)
  unfolding records
  records-atom t ts n is = rw is refl

  pub records-quoted : (t : Token) (ts : List Token) (n : ℕ) → t.kind ≡ kinds.Quoted → records bytes (t ∷ ts) n ≡ leaf (QuotedBody (quoted_text bytes t)) t n ∷ records bytes ts (n + 1)
  unfolding records
  records-quoted t ts n is = rw is refl

  records-none : (n : ℕ) → records bytes [] n ≡ []
  unfolding records
  records-none n = refl

  behind-none : (k : ℕ) → trees_behind bytes [] k ≡ no_trees
  unfolding trees_behind
  behind-none k = refl

  behind-open : (t : Token) (ts : List Token) → t.kind ≡ kinds.Open
      → trees_behind bytes (t ∷ ts) 0 ≡ more_trees (ListTree t.start (trees_behind bytes ts 0)) (trees_behind bytes ts 1)
  unfolding trees_behind
  behind-open t ts is = rw is refl

  behind-opened : (t : Token) (ts : List Token) (k : ℕ) → t.kind ≡ kinds.Open → trees_behind bytes (t ∷ ts) (suc k) ≡ trees_behind bytes ts (suc (suc k))
  unfolding trees_behind
  behind-opened t ts k is = rw is refl

  behind-close : (t : Token) (ts : List Token) → t.kind ≡ kinds.Close → trees_behind bytes (t ∷ ts) 0 ≡ no_trees
  unfolding trees_behind
  behind-close t ts is = rw is refl

  behind-closed : (t : Token) (ts : List Token) (k : ℕ) → t.kind ≡ kinds.Close → trees_behind bytes (t ∷ ts) (suc k) ≡ trees_behind bytes ts k
  unfolding trees_behind
  behind-closed t ts k is = rw is refl

  behind-atom : (t : Token) (ts : List Token) → t.kind ≡ kinds.Atom
      → trees_behind bytes (t ∷ ts) 0 ≡ more_trees (AtomTree t.start (atom_text bytes t)) (trees_behind bytes ts 0)
  unfolding trees_behind
  behind-atom t ts is = rw is refl

  behind-atom-outer : (t : Token) (ts : List Token) (k : ℕ) → t.kind ≡ kinds.Atom → trees_behind bytes (t ∷ ts) (suc k) ≡ trees_behind bytes ts (suc k)
  unfolding trees_behind
  behind-atom-outer t ts k is = rw is refl

  behind-quoted : (t : Token) (ts : List Token) → t.kind ≡ kinds.Quoted
      → trees_behind bytes (t ∷ ts) 0 ≡ more_trees (QuotedTree t.start (quoted_text bytes t)) (trees_behind bytes ts 0)
  unfolding trees_behind
  behind-quoted t ts is = rw is refl

  behind-quoted-outer : (t : Token) (ts : List Token) (k : ℕ) → t.kind ≡ kinds.Quoted → trees_behind bytes (t ∷ ts) (suc k) ≡ trees_behind bytes ts (suc k)
  unfolding trees_behind
  behind-quoted-outer t ts k is = rw is refl

module _ (bytes : List ℕ) (rs : List Kept) where
  -- the records from a number on are those of the tokens
  pub record Stands (ts : List Token) (n : ℕ) : Type 0 where
    pub fits : n ≤ length rs
    pub rest : drop n rs ≡ records bytes ts n

  -- The lists round the tokens end one behind another, and each tree within ends with them.
  pub record Ends (ts : List Token) (n : ℕ) : Type 0 where
    pub rises : (k : ℕ) → n ≤ end_of ts k n
    pub mono : (k : ℕ) → end_of ts k n ≤ end_of ts (suc k) n
    pub within : (k : ℕ) → end_of ts k n ≤ length rs
    pub nested : (k j : ℕ) → n ≤ j → j < end_of ts k n → after_of rs j ≤ end_of ts k n
    pub parts : (j : ℕ) → n ≤ j → j < length rs → IsRun rs (j + 1) (after_of rs j)

  next_below : (ts : List Token) (n : ℕ) (r : Kept) (others : List Kept) → Stands ts n → records bytes ts n ≡ r ∷ others → n < length rs
  next_below ts n r others s e =
      let counted : length (drop n rs) ≡ suc (length others) = ap length (s.rest ∙ e) in
      omega (arith, length-drop n rs)

  pub next_is : (ts : List Token) (n : ℕ) (r : Kept) (others : List Kept) → Stands ts n → records bytes ts n ≡ r ∷ others → kept_at rs n ≡ r
  next_is ts n r others s e =
      let d : Kept = record { start = 0; end = 0; body = ListBody; after = 0 } in
      let at : get_or (drop n rs) 0 d ≡ get_or rs (n + 0) d = get_or-drop n rs 0 d in
      let same : n + 0 ≡ n = omega arith in
      sym (rw same at at) ∙ ap (λ l. kept_at l 0) (s.rest ∙ e)

  pub next_stands : (ts us : List Token) (n : ℕ) (r : Kept) → Stands ts n → records bytes ts n ≡ r ∷ records bytes us (n + 1) → Stands us (n + 1)
  next_stands ts us n r s e =
      let below = next_below ts n r (records bytes us (n + 1)) s e in
      record { fits = omega arith; rest = sym (drop-drop 1 n rs) ∙ ap (drop 1) (s.rest ∙ e) }

  ends-leaf : (t : Token) (ts : List Token) (n : ℕ) (r : Kept) → records bytes (t ∷ ts) n ≡ r ∷ records bytes ts (n + 1) → r.after ≡ n + 1
      → ((k : ℕ) → end_of (t ∷ ts) k n ≡ end_of ts k (n + 1)) → Stands (t ∷ ts) n → Ends ts (n + 1) → Ends (t ∷ ts) n
  ends-leaf t ts n r e after c s ih =
      let is = next_is (t ∷ ts) n r (records bytes ts (n + 1)) s e in
      let after_n : after_of rs n ≡ n + 1 = ap (λ x. x.after) is ∙ after in
      record {
        rises = λ k. rw (c k) (omega (arith, ih.rises k));
        mono = λ k. rw (c k, c (suc k)) (ih.mono k);
        within = λ k. rw (c k) (ih.within k);
        nested = λ k j low high. rw (c k) (elim (cases_lt n j) [
          | inl later ↦ ih.nested k j (omega arith) (rw (c k) at high)
          | inr first ↦ let same : j ≡ n = omega arith in rw (same, after_n) (ih.rises k)
        ]);
        parts = λ j low high. elim (cases_lt n j) [
          | inl later ↦ ih.parts j (omega arith) high
          | inr first ↦ let same : j ≡ n = omega arith in
              rw (same, after_n) (record { order = omega arith; there = omega arith; nested = λ i a b. absurd (omega arith) })
        ];
      }

  innermost : (ts : List Token) (n : ℕ) → Ends ts n → (k : ℕ) → end_of ts 0 n ≤ end_of ts k n
  innermost ts n e zero = omega arith
  innermost ts n e (suc k) = omega (arith, innermost ts n e k, e.mono k)

  ends-open : (t : Token) (ts : List Token) (n : ℕ) → t.kind ≡ kinds.Open → Stands (t ∷ ts) n → Ends ts (n + 1) → Ends (t ∷ ts) n
  ends-open t ts n open_ s ih =
      let r : Kept = list_of t.start (closing ts 0 (n + 1)) in
      let c : (k : ℕ) → end_of (t ∷ ts) k n ≡ end_of ts (suc k) (n + 1) = λ k. closing-open t ts k n open_ in
      let is = next_is (t ∷ ts) n r (records bytes ts (n + 1)) s (records-open bytes t ts n open_) in
      let after_n : after_of rs n ≡ end_of ts 0 (n + 1) = ap (λ x. x.after) is in
      record {
        rises = λ k. rw (c k) (omega (arith, ih.rises (suc k)));
        mono = λ k. rw (c k, c (suc k)) (ih.mono (suc k));
        within = λ k. rw (c k) (ih.within (suc k));
        nested = λ k j low high. rw (c k) (elim (cases_lt n j) [
          | inl later ↦ ih.nested (suc k) j (omega arith) (rw (c k) at high)
          | inr first ↦ let same : j ≡ n = omega arith in rw (same, after_n) (innermost ts (n + 1) ih (suc k))
        ]);
        parts = λ j low high. elim (cases_lt n j) [
          | inl later ↦ ih.parts j (omega arith) high
          | inr first ↦ let same : j ≡ n = omega arith in
              rw (same, after_n) (record { order = ih.rises 0; there = ih.within 0; nested = λ i a b. ih.nested 0 i a b })
        ];
      }

  close-rises : (t : Token) (ts : List Token) (n k : ℕ) → t.kind ≡ kinds.Close → Ends ts n → n ≤ end_of (t ∷ ts) k n
  close-rises t ts n zero close ih = rw (closing-close t ts n close) (omega arith)
  close-rises t ts n (suc k) close ih = rw (closing-outer t ts k n close) (ih.rises k)

  close-mono : (t : Token) (ts : List Token) (n k : ℕ) → t.kind ≡ kinds.Close → Ends ts n → end_of (t ∷ ts) k n ≤ end_of (t ∷ ts) (suc k) n
  close-mono t ts n zero close ih = rw (closing-close t ts n close, closing-outer t ts 0 n close) (ih.rises 0)
  close-mono t ts n (suc k) close ih = rw (closing-outer t ts k n close, closing-outer t ts (suc k) n close) (ih.mono k)

  close-within : (t : Token) (ts : List Token) (n k : ℕ) → t.kind ≡ kinds.Close → n ≤ length rs → Ends ts n → end_of (t ∷ ts) k n ≤ length rs
  close-within t ts n zero close fits ih = rw (closing-close t ts n close) fits
  close-within t ts n (suc k) close fits ih = rw (closing-outer t ts k n close) (ih.within k)

  close-nested : (t : Token) (ts : List Token) (n k j : ℕ) → t.kind ≡ kinds.Close → Ends ts n → n ≤ j → j < end_of (t ∷ ts) k n → after_of rs j ≤ end_of (t ∷ ts) k n
  close-nested t ts n zero j close ih low high =
      let below : j < n = rw (closing-close t ts n close) at high in
      absurd (omega arith)
  close-nested t ts n (suc k) j close ih low high = rw (closing-outer t ts k n close) (ih.nested k j low (rw (closing-outer t ts k n close) at high))

  ends-close : (t : Token) (ts : List Token) (n : ℕ) → t.kind ≡ kinds.Close → n ≤ length rs → Ends ts n → Ends (t ∷ ts) n
  ends-close t ts n close fits ih = record {
    rises = λ k. close-rises t ts n k close ih;
    mono = λ k. close-mono t ts n k close ih;
    within = λ k. close-within t ts n k close fits ih;
    nested = λ k j low high. close-nested t ts n k j close ih low high;
    parts = ih.parts;
  }

  pub closed_stands : (t : Token) (ts : List Token) (n : ℕ) → t.kind ≡ kinds.Close → Stands (t ∷ ts) n → Stands ts n
  closed_stands t ts n close s = record { fits = s.fits; rest = s.rest ∙ records-close bytes t ts n close }

  pub all_left : (n : ℕ) → Stands [] n → n ≡ length rs
  all_left n s =
      let counted : length (drop n rs) ≡ 0 = ap length (s.rest ∙ records-none bytes n) in
      let fits = s.fits in
      omega (arith, length-drop n rs)

  ends-none : (n : ℕ) → Stands [] n → Ends [] n
  ends-none n s =
      let all = all_left n s in
      record {
        rises = λ k. rw (closing-none k n) (omega arith);
        mono = λ k. rw (closing-none k n, closing-none (suc k) n) (omega arith);
        within = λ k. rw (closing-none k n) s.fits;
        nested = λ k j low high. let below : j < n = rw (closing-none k n) at high in absurd (omega arith);
        parts = λ j low high. absurd (omega arith);
      }

  ends_by : (kind : TokenKind) (t : Token) (ts : List Token) (n : ℕ) → t.kind ≡ kind → Stands (t ∷ ts) n
      → ((m : ℕ) → Stands ts m → Ends ts m) → Ends (t ∷ ts) n
  ends_by kinds.Open t ts n is s ih = ends-open t ts n is s (ih (n + 1) (next_stands (t ∷ ts) ts n (list_of t.start (closing ts 0 (n + 1))) s (records-open bytes t ts n is)))
  ends_by kinds.Close t ts n is s ih = ends-close t ts n is s.fits (ih n (closed_stands t ts n is s))
  ends_by kinds.Atom t ts n is s ih =
      let r : Kept = leaf (AtomBody (atom_text bytes t)) t n in
      ends-leaf t ts n r (records-atom bytes t ts n is) refl (λ k. closing-atom t ts k n is) s (ih (n + 1) (next_stands (t ∷ ts) ts n r s (records-atom bytes t ts n is)))
  ends_by kinds.Quoted t ts n is s ih =
      let r : Kept = leaf (QuotedBody (quoted_text bytes t)) t n in
      ends-leaf t ts n r (records-quoted bytes t ts n is) refl (λ k. closing-quoted t ts k n is) s (ih (n + 1) (next_stands (t ∷ ts) ts n r s (records-quoted bytes t ts n is)))

  pub ends_well : (ts : List Token) (n : ℕ) → Stands ts n → Ends ts n
  ends_well [] n s = ends-none n s
  ends_well (t ∷ ts) n s = ends_by t.kind t ts n refl s (λ m stands. ends_well ts m stands)

  -- up to the end of the list round the tokens there are whole trees
  run_on : (ts : List Token) (n : ℕ) → Stands ts n → IsRun rs n (end_of ts 0 n)
  run_on ts n s = let e = ends_well ts n s in record { order = e.rises 0; there = e.within 0; nested = λ j low high. e.nested 0 j low high }

  -- The trees behind so many of the lists round the tokens are those that the records stand for.
  pub record AreTrees (ts : List Token) (n : ℕ) : Type 0 where
    pub first : trees_behind bytes ts 0 ≡ trees_at rs n (end_of ts 0 n)
    pub outer : (k : ℕ) → trees_behind bytes ts (suc k) ≡ trees_at rs (end_of ts k n) (end_of ts (suc k) n)

  next_tree : (ts : List Token) (n : ℕ) (r : Kept) → IsForest rs → Stands ts n → n < end_of ts 0 n → kept_at rs n ≡ r
      → trees_at rs n (end_of ts 0 n) ≡ more_trees (tree_by r.body r.start (trees_at rs (n + 1) r.after)) (trees_at rs r.after (end_of ts 0 n))
  next_tree ts n r forest s below is =
      trees_at-step rs forest n (end_of ts 0 n) (run_on ts n s) below
      ∙ (ap (λ tree. more_trees tree (trees_at rs (after_of rs n) (end_of ts 0 n))) (tree_at-is rs n)
      ∙ ap (λ (x : Kept). more_trees (tree_by x.body x.start (trees_at rs (n + 1) x.after)) (trees_at rs x.after (end_of ts 0 n))) is)

  trees-none : (n : ℕ) → AreTrees [] n
  trees-none n = record {
    first = rw (closing-none 0 n, behind-none bytes 0) (sym (trees_at-none rs n n (omega arith)));
    outer = λ k. rw (closing-none k n, closing-none (suc k) n, behind-none bytes (suc k)) (sym (trees_at-none rs n n (omega arith)));
  }

  trees-open : (t : Token) (ts : List Token) (n : ℕ) → t.kind ≡ kinds.Open → IsForest rs → Stands (t ∷ ts) n → AreTrees ts (n + 1) → AreTrees (t ∷ ts) n
  trees-open t ts n is forest s ih =
      let r : Kept = list_of t.start (closing ts 0 (n + 1)) in
      let at = next_is (t ∷ ts) n r (records bytes ts (n + 1)) s (records-open bytes t ts n is) in
      let next = next_stands (t ∷ ts) ts n r s (records-open bytes t ts n is) in
      let low : n + 1 ≤ end_of ts 1 (n + 1) = (ends_well ts (n + 1) next).rises 1 in
      let c = closing-open t ts 0 n is in
      let below : n < end_of (t ∷ ts) 0 n = rw c (omega arith) in
      let parts : more_trees (ListTree t.start (trees_behind bytes ts 0)) (trees_behind bytes ts 1)
      ≡ more_trees (ListTree t.start (trees_at rs (n + 1) (end_of ts 0 (n + 1)))) (trees_at rs (end_of ts 0 (n + 1)) (end_of (t ∷ ts) 0 n)) = rw (ih.first, ih.outer 0, c) refl in
      record {
        first = behind-open bytes t ts is ∙ (parts ∙ sym (next_tree (t ∷ ts) n r forest s below at));
        outer = λ k. behind-opened bytes t ts k is ∙ (ih.outer (suc k) ∙ rw (closing-open t ts k n is, closing-open t ts (suc k) n is) refl);
      }

  trees-close : (t : Token) (ts : List Token) (n k : ℕ) → t.kind ≡ kinds.Close → AreTrees ts n
      → trees_behind bytes (t ∷ ts) (suc k) ≡ trees_at rs (end_of (t ∷ ts) k n) (end_of (t ∷ ts) (suc k) n)
  trees-close t ts n zero is ih = behind-closed bytes t ts 0 is ∙ (ih.first ∙ rw (closing-close t ts n is, closing-outer t ts 0 n is) refl)
  trees-close t ts n (suc k) is ih = behind-closed bytes t ts (suc k) is ∙ (ih.outer k ∙ rw (closing-outer t ts k n is, closing-outer t ts (suc k) n is) refl)

  trees-leaf : (t : Token) (ts : List Token) (n : ℕ) (r : Kept) (tree : Tree) → ((parts : Trees) → tree_by r.body r.start parts ≡ tree) → r.after ≡ n + 1
      → records bytes (t ∷ ts) n ≡ r ∷ records bytes ts (n + 1) → ((k : ℕ) → end_of (t ∷ ts) k n ≡ end_of ts k (n + 1))
      → trees_behind bytes (t ∷ ts) 0 ≡ more_trees tree (trees_behind bytes ts 0)
      → ((k : ℕ) → trees_behind bytes (t ∷ ts) (suc k) ≡ trees_behind bytes ts (suc k))
      → IsForest rs → Stands (t ∷ ts) n → AreTrees ts (n + 1) → AreTrees (t ∷ ts) n
  trees-leaf t ts n r tree by after e c b o forest s ih =
      let at = next_is (t ∷ ts) n r (records bytes ts (n + 1)) s e in
      let next = next_stands (t ∷ ts) ts n r s e in
      let low : n + 1 ≤ end_of ts 0 (n + 1) = (ends_well ts (n + 1) next).rises 0 in
      let below : n < end_of (t ∷ ts) 0 n = rw (c 0) (omega arith) in
      let parts : more_trees tree (trees_behind bytes ts 0)
      ≡ more_trees (tree_by r.body r.start (trees_at rs (n + 1) r.after)) (trees_at rs r.after (end_of (t ∷ ts) 0 n)) = rw (by (trees_at rs (n + 1) r.after), after, c 0, ih.first) refl in
      record {
        first = b ∙ (parts ∙ sym (next_tree (t ∷ ts) n r forest s below at));
        outer = λ k. o k ∙ (ih.outer k ∙ rw (c k, c (suc k)) refl);
      }

  trees_by_kind : (kind : TokenKind) (t : Token) (ts : List Token) (n : ℕ) → t.kind ≡ kind → IsForest rs → Stands (t ∷ ts) n
      → ((m : ℕ) → Stands ts m → AreTrees ts m) → AreTrees (t ∷ ts) n
  trees_by_kind kinds.Open t ts n is forest s ih =
      trees-open t ts n is forest s (ih (n + 1) (next_stands (t ∷ ts) ts n (list_of t.start (closing ts 0 (n + 1))) s (records-open bytes t ts n is)))
  trees_by_kind kinds.Close t ts n is forest s ih =
      let inner = ih n (closed_stands t ts n is s) in
      record {
        first = behind-close bytes t ts is ∙ rw (closing-close t ts n is) (sym (trees_at-none rs n n (omega arith)));
        outer = λ k. trees-close t ts n k is inner;
      }
  trees_by_kind kinds.Atom t ts n is forest s ih =
      let r : Kept = leaf (AtomBody (atom_text bytes t)) t n in
      trees-leaf t ts n r (AtomTree t.start (atom_text bytes t)) (λ parts. refl) refl (records-atom bytes t ts n is) (λ k. closing-atom t ts k n is)
      (behind-atom bytes t ts is) (λ k. behind-atom-outer bytes t ts k is) forest s (ih (n + 1) (next_stands (t ∷ ts) ts n r s (records-atom bytes t ts n is)))
  trees_by_kind kinds.Quoted t ts n is forest s ih =
      let r : Kept = leaf (QuotedBody (quoted_text bytes t)) t n in
      trees-leaf t ts n r (QuotedTree t.start (quoted_text bytes t)) (λ parts. refl) refl (records-quoted bytes t ts n is) (λ k. closing-quoted t ts k n is)
      (behind-quoted bytes t ts is) (λ k. behind-quoted-outer bytes t ts k is) forest s (ih (n + 1) (next_stands (t ∷ ts) ts n r s (records-quoted bytes t ts n is)))

  pub are_trees : (ts : List Token) (n : ℕ) → IsForest rs → Stands ts n → AreTrees ts n
  are_trees [] n forest s = trees-none n
  are_trees (t ∷ ts) n forest s = trees_by_kind t.kind t ts n refl forest s (λ m stands. are_trees ts m forest stands)

-- each closing parenthesis has its opening one, so many being open before the tokens
abbrev Nested : List Token → ℕ → Type 0
Nested [] lists = Unit {0}
Nested (t ∷ ts) lists = orderly_by t.kind lists (Nested ts)

module _ (bytes : List ℕ) (rs : List Kept) where
  all_by : (kind : TokenKind) (t : Token) (ts : List Token) (k n : ℕ) → t.kind ≡ kind → orderly_by kind k (Nested ts) → Stands bytes rs (t ∷ ts) n
      → ((i m : ℕ) → Nested ts i → Stands bytes rs ts m → end_of ts i m ≡ length rs) → end_of (t ∷ ts) k n ≡ length rs
  all_by kinds.Open t ts k n is nested s ih =
      rw (closing-open t ts k n is) (ih (suc k) (n + 1) nested (next_stands bytes rs (t ∷ ts) ts n (list_of t.start (closing ts 0 (n + 1))) s (records-open bytes t ts n is)))
  all_by kinds.Close t ts zero n is nested s ih = absurd nested
  all_by kinds.Close t ts (suc k) n is nested s ih = rw (closing-outer t ts k n is) (ih k n nested (closed_stands bytes rs t ts n is s))
  all_by kinds.Atom t ts k n is nested s ih =
      rw (closing-atom t ts k n is) (ih k (n + 1) nested (next_stands bytes rs (t ∷ ts) ts n (leaf (AtomBody (atom_text bytes t)) t n) s (records-atom bytes t ts n is)))
  all_by kinds.Quoted t ts k n is nested s ih =
      rw (closing-quoted t ts k n is) (ih k (n + 1) nested (next_stands bytes rs (t ∷ ts) ts n (leaf (QuotedBody (quoted_text bytes t)) t n) s (records-quoted bytes t ts n is)))

  -- the outermost trees go on to the last record
  all_read : (ts : List Token) (k n : ℕ) → Nested ts k → Stands bytes rs ts n → end_of ts k n ≡ length rs
  all_read [] k n nested s = rw (closing-none k n) (all_left bytes rs n s)
  all_read (t ∷ ts) k n nested s = all_by t.kind t ts k n refl nested s (λ i m inner stands. all_read ts i m inner stands)

nested_by : (kind : TokenKind) (k : ℕ) (P : ℕ → Type 0) (read : Result (List Token) SexpFault) → orderly_by kind k P
    → ((i : ℕ) → P i → IfOk read (λ ts. Nested ts i)) → IfOk read (λ ts. orderly_by kind k (Nested ts))
nested_by kinds.Open k P read h on = on (suc k) h
nested_by kinds.Close zero P read h on = absurd h
nested_by kinds.Close (suc k) P read h on = on k h
nested_by kinds.Atom k P read h on = on k h
nested_by kinds.Quoted k P read h on = on k h

IfOk-mapped : {X Y : Type 0} (f : X → Y) (P : Y → Type 0) (read : Result X SexpFault) → IfOk read (λ x. P (f x)) → IfOk (mapped f read) P
IfOk-mapped f P (Ok x) h = h
IfOk-mapped f P (Err fault) h = tt

are_nested : (a : Answers) (k from to : ℕ) → IsOrderly a k from to → IfOk (tokens_or_fault a) (λ ts. Nested ts k)
are_nested (last more) k from to orderly = tt
are_nested (last ends) k from to orderly = tt
are_nested (last (faulty fault)) k from to orderly = tt
are_nested (token t rest) k from to orderly =
    IfOk-mapped (λ ts. t ∷ ts) (λ ts. Nested ts k) (tokens_or_fault rest)
    (nested_by t.kind k (λ inner. IsOrderly rest inner t.end to) (tokens_or_fault rest) orderly.1 (λ i is. are_nested rest i t.end to is))

pub same_value : {X : Type 0} (x y : X) → ◌≡◌ {A = Result X SexpFault} (Ok x) (Ok y) → x ≡ y
same_value x y e = same_Some x y (ap result_ok e)

trees_of : (text : List ℕ) (rs : List Kept) (read : Result (List Token) SexpFault) → IfOk read (λ ts. Nested ts 0)
    → mapped (λ tokens. records text tokens 0) read ≡ Ok rs
    → IsForest rs × (mapped (λ tokens. trees_behind text tokens 0) read ≡ Ok (trees_at rs 0 (length rs)))
trees_of text rs (Err fault) nested e = cc
trees_of text rs (Ok ts) nested e =
    let s : Stands text rs ts 0 = record { fits = omega arith; rest = sym (same_value (records text ts 0) rs e) } in
    let forest : IsForest rs = λ i below. (ends_well text rs ts 0 s).parts i (omega arith) below in
    (forest, rw ((are_trees text rs ts 0 forest s).first, all_read text rs ts 0 0 nested s) refl)

-- the records of a text stand for its trees
pub records_are_trees : (text : List ℕ) (rs : List Kept) → records_of text ≡ Ok rs → IsForest rs × (forest_of text ≡ Ok (trees_at rs 0 (length rs)))
unfolding records_of forest_of
records_are_trees text rs e = trees_of text rs (tokens_or_fault (answers_to text)) (are_nested (answers_to text) 0 0 (length text) (text-orderly text)) e

same_by : (text : List ℕ) (read : Result (List Token) SexpFault) (fault : SexpFault) → mapped (λ tokens. records text tokens 0) read ≡ Err fault
    → mapped (λ tokens. trees_behind text tokens 0) read ≡ Err fault
same_by text (Ok ts) fault e = cc
same_by text (Err other) fault e = ap Err (same_Some other fault (ap result_err e))

-- a text without records has no trees, for the same reason
pub same_fault : (text : List ℕ) (fault : SexpFault) → records_of text ≡ Err fault → forest_of text ≡ Err fault
unfolding records_of forest_of
same_fault text fault e = same_by text (tokens_or_fault (answers_to text)) fault e

-- Constants by their names.
use Rattle.std.proofs.Common.{◌≡◌, ℕ, ◌-◌, List, [], ◌∷◌, ◌++◌, Option, Some, None, Bool, true, false, true≢false, cond, if◌then◌else◌, map, length, length-append, drop, take, refl, sym, ap, subst, ◌∙◌, arith}
use Rattle.std.specs.Prelude.{bytes_eq, codes, is_some, option_map}
use Rattle.std.specs.Map.{lookup}
use Rattle.std.proofs.lemmas.Option.{none-some, same_Some}
use Rattle.std.proofs.lemmas.Slice.Eq.{bytes_eq-Decides}
use Rattle.std.proofs.lemmas.List.{take-append-drop}
use Rattle.std.proofs.Math.Seq.{drop-append_seam, take-append_seam}
use Rattle.indexmap.specs.IndexMap.{insert_entry}
use Rattle.hol_types.specs.Ty.{BoolTy}
use Rattle.hol_terms.specs.Term.{Term, ConstTm}
use Rattle.hol_terms.specs.TermStore.{TermStore, Keeps, term_tree}
use Rattle.first_form.specs.declared.lexicon.Lexicon.{Lexicon}
use Rattle.first_form.specs.Formulas.{spelled, constant_of, atom_of}
use Rattle.first_form.specs.Source.{is_declared}
use Rattle.goal_text.specs.Scope.{terms_at}
use Rattle.goal_text.specs.Sentences.{HasSentence, HaveSentences, IsSentence}
use Rattle.first_form.specs.Lexicon.{IsNumberOf, AreConstants, IsLexicon, names_of, number_of, atom_number}

module _ {A B X : Type 0} (view : A → B) where
  abbrev pub seen : List (A × X) → List (B × X)
  seen es = map (λ e. (view e.0, e.1)) es

  pub lookup_seen : (test : B → Bool) (es : List (A × X)) → lookup (λ k. test (view k)) es ≡ lookup test (seen es)
  lookup_seen test [] = refl
  lookup_seen test (e ∷ es) = ap (cond (test (view e.0)) (Some e.1)) (lookup_seen test es)

  -- a key that isn't there goes last
  pub insert_seen : (eq : B → B → Bool) (es : List (A × X)) (k : A) (x : X) → lookup (eq (view k)) (seen es) ≡ None
      → seen (insert_entry (λ a b. eq (view a) (view b)) es k x) ≡ seen es ++ (view k, x) ∷ []
  insert_seen eq [] k x h = refl
  insert_seen eq (e ∷ es) k x h = by (eq (view k) (view e.0)) refl (λ later. insert_seen eq es k x later)
    where
      by : (b : Bool) → eq (view k) (view e.0) ≡ b → (lookup (eq (view k)) (seen es) ≡ None → seen (insert_entry (λ a b. eq (view a) (view b)) es k x) ≡ seen es ++ (view k, x) ∷ [])
          → seen (insert_entry (λ a b. eq (view a) (view b)) (e ∷ es) k x) ≡ seen (e ∷ es) ++ (view k, x) ∷ []
      by true i r = absurd (none-some e.1 (sym h ∙ ap (λ b. cond b (Some e.1) (lookup (eq (view k)) (seen es))) i))
      by false i r =
          let later : lookup (eq (view k)) (seen es) ≡ None = sym (ap (λ b. cond b (Some e.1) (lookup (eq (view k)) (seen es))) i) ∙ h in
          rw i (ap (λ l. (view e.0, e.1) ∷ l) (r later))

lookup_same : {A X : Type 0} (f g : A → Bool) → ((a : A) → f a ≡ g a) → (es : List (A × X)) → lookup f es ≡ lookup g es
lookup_same f g h [] = refl
lookup_same f g h (e ∷ es) = let i = h e.0 in let r = lookup_same f g h es in rw (i, r) refl

lookup_none : {A X : Type 0} (f : A → Bool) → ((a : A) → f a ≡ false) → (es : List (A × X)) → lookup f es ≡ None
lookup_none f h [] = refl
lookup_none f h (e ∷ es) = let i = h e.0 in let r = lookup_none f h es in rw (i, r) refl

same_test : (p q : Bool) → (p ≡ true → q ≡ true) → (q ≡ true → p ≡ true) → p ≡ q
same_test true q to from = sym (to refl)
same_test false true to from = from refl
same_test false false to from = refl

abbrev dollar : List ℕ
dollar = codes "$"

shorter : (x : List ℕ) → length (x ++ dollar) - 1 ≡ length x
shorter x = omega (arith, length-append x dollar)

without_dollar : (x : List ℕ) → take (length (x ++ dollar) - 1) (x ++ dollar) ≡ x
without_dollar x = let e = shorter x in rw e (take-append_seam x dollar)

last_dollar : (x : List ℕ) → drop (length (x ++ dollar) - 1) (x ++ dollar) ≡ dollar
last_dollar x = let e = shorter x in rw e (drop-append_seam x dollar)

dollar_same : (x y : List ℕ) → bytes_eq (x ++ dollar) (y ++ dollar) ≡ bytes_eq x y
dollar_same x y = same_test (bytes_eq (x ++ dollar) (y ++ dollar)) (bytes_eq x y) to from
  where
    to : bytes_eq (x ++ dollar) (y ++ dollar) ≡ true → bytes_eq x y ≡ true
    to h = let e = (bytes_eq-Decides (x ++ dollar) (y ++ dollar)).0 h in
        (bytes_eq-Decides x y).1 (sym (without_dollar x) ∙ ap (λ z. take (length z - 1) z) e ∙ without_dollar y)

    from : bytes_eq x y ≡ true → bytes_eq (x ++ dollar) (y ++ dollar) ≡ true
    from h = let e = (bytes_eq-Decides x y).0 h in (bytes_eq-Decides (x ++ dollar) (y ++ dollar)).1 (ap (λ z. z ++ dollar) e)

-- a name with `$` behind it
pub number-dollar : (constants : List (List ℕ × ℕ)) (text : List ℕ) → bytes_eq (drop (length text - 1) text) dollar ≡ true
    → number_of constants text ≡ lookup (bytes_eq (take (length text - 1) text)) constants
number-dollar constants text h =
    let name = take (length text - 1) text in
    let e = (bytes_eq-Decides (drop (length text - 1) text) dollar).0 h in
    let whole : name ++ dollar ≡ text = ap (λ z. name ++ z) (sym e) ∙ take-append-drop (length text - 1) text in
    let P : List ℕ → Type 0 = λ t. lookup (λ n. bytes_eq t (spelled n)) constants ≡ lookup (bytes_eq name) constants in
    subst P whole (lookup_same (λ n. bytes_eq (name ++ dollar) (n ++ dollar)) (bytes_eq name) (λ n. dollar_same name n) constants)

pub number-bare : (constants : List (List ℕ × ℕ)) (text : List ℕ) → bytes_eq (drop (length text - 1) text) dollar ≡ false
    → number_of constants text ≡ None
number-bare constants text h = lookup_none (λ n. bytes_eq text (spelled n)) (λ n. by n (bytes_eq text (n ++ dollar)) refl) constants
  where
    by : (n : List ℕ) (b : Bool) → bytes_eq text (n ++ dollar) ≡ b → bytes_eq text (n ++ dollar) ≡ false
    by n true e =
        let is = (bytes_eq-Decides text (n ++ dollar)).0 e in
        let last : drop (length text - 1) text ≡ dollar = ap (λ z. drop (length z - 1) z) is ∙ last_dollar n in
        absurd (true≢false (sym ((bytes_eq-Decides (drop (length text - 1) text) dollar).1 last) ∙ h))
    by n false e = e

-- the term that an atom is read as
constant_read : (s : TermStore) (constants : List (List ℕ × ℕ)) (text : List ℕ) → AreConstants s constants
    → option_map (λ t. term_tree s t) (number_of constants text) ≡ constant_of (names_of constants) text
unfolding constant_of
constant_read s [] text all = refl
constant_read s (c ∷ cs) text all = by (bytes_eq text (spelled c.0)) refl (constant_read s cs text all.1)
  where
    by : (b : Bool) → bytes_eq text (spelled c.0) ≡ b → option_map (λ t. term_tree s t) (number_of cs text) ≡ constant_of (names_of cs) text
        → option_map (λ t. term_tree s t) (number_of (c ∷ cs) text) ≡ constant_of (names_of (c ∷ cs)) text
    by true e r = rw e (ap Some all.0.tree)
    by false e r = rw e r

pub atom_read : (s : TermStore) (lexicon : Lexicon) (text : List ℕ) → IsLexicon s lexicon
    → option_map (λ t. term_tree s t) (atom_number lexicon text) ≡ atom_of (names_of lexicon.constants) text
unfolding atom_of
atom_read s lexicon text is = by (bytes_eq text (codes "false")) refl
  where
    by : (b : Bool) → bytes_eq text (codes "false") ≡ b → option_map (λ t. term_tree s t) (atom_number lexicon text) ≡ atom_of (names_of lexicon.constants) text
    by true e = rw e (ap Some is.falsity.tree)
    by false e = rw e (constant_read s lexicon.constants text is.constants)

constant-formula : (s : TermStore) (t : ℕ) (name : List ℕ) → IsNumberOf s t (ConstTm name BoolTy) → HasSentence s t
constant-formula s t name is =
    let P : Term → Type 0 = IsSentence in
    record { there = is.there; sentence = subst P (sym is.tree) (record { formula = record { typed = tt; closed = tt; bool = refl }; variables = refl }) }

number-formula : (s : TermStore) (constants : List (List ℕ × ℕ)) (text : List ℕ) (t : ℕ) → AreConstants s constants
    → number_of constants text ≡ Some t → HasSentence s t
number-formula s [] text t all h = absurd (none-some _ h)
number-formula s (c ∷ cs) text t all h = by (bytes_eq text (spelled c.0)) refl (λ k. number-formula s cs text t all.1 k)
  where
    by : (b : Bool) → bytes_eq text (spelled c.0) ≡ b → (number_of cs text ≡ Some t → HasSentence s t) → HasSentence s t
    by true e r =
        let same : Some c.1 ≡ Some t = sym (ap (λ b. cond b (Some c.1) (number_of cs text)) e) ∙ h in
        let P : ℕ → Type 0 = HasSentence s in
        subst P (same_Some _ _ same) (constant-formula s c.1 c.0 all.0)
    by false e r = r (sym (ap (λ b. cond b (Some c.1) (number_of cs text)) e) ∙ h)

pub atom-formula : (s : TermStore) (lexicon : Lexicon) (text : List ℕ) (t : ℕ) → IsLexicon s lexicon → atom_number lexicon text ≡ Some t → HasSentence s t
atom-formula s lexicon text t is h = by (bytes_eq text (codes "false")) refl
  where
    by : (b : Bool) → bytes_eq text (codes "false") ≡ b → HasSentence s t
    by true e =
        let same : Some lexicon.falsity ≡ Some t = sym (ap (λ b. if b then Some lexicon.falsity else number_of lexicon.constants text) e) ∙ h in
        let P : ℕ → Type 0 = HasSentence s in
        subst P (same_Some _ _ same) (constant-formula s lexicon.falsity (codes "false") is.falsity)
    by false e = number-formula s lexicon.constants text t is.constants (sym (ap (λ b. if b then Some lexicon.falsity else number_of lexicon.constants text) e) ∙ h)

-- what is kept keeps its tree
pub number_kept : {s u : TermStore} {t : ℕ} {x : Term} → Keeps s u → IsNumberOf s t x → IsNumberOf u t x
number_kept {t = t} k is = record { there = k.terms t is.there; tree = k.trees t is.there ∙ is.tree }

constants_kept : (s u : TermStore) → Keeps s u → (constants : List (List ℕ × ℕ)) → AreConstants s constants → AreConstants u constants
constants_kept s u k [] all = tt
constants_kept s u k (c ∷ cs) all = (number_kept k all.0, constants_kept s u k cs all.1)

pub lexicon_kept : {s u : TermStore} {lexicon : Lexicon} → Keeps s u → IsLexicon s lexicon → IsLexicon u lexicon
lexicon_kept {s = s} {u = u} {lexicon = lexicon} k is = record {
  falsity = number_kept k is.falsity;
  negation = number_kept k is.negation;
  implication = number_kept k is.implication;
  constants = constants_kept s u k lexicon.constants is.constants;
}

pub formula_kept : {s u : TermStore} {t : ℕ} → Keeps s u → HasSentence s t → HasSentence u t
formula_kept {s = s} {u = u} {t = t} k is =
    let P : Term → Type 0 = IsSentence in
    record { there = k.terms t is.there; sentence = subst P (sym (k.trees t is.there)) is.sentence }

pub formulas_kept : (s u : TermStore) → Keeps s u → (ts : List ℕ) → HaveSentences s ts → HaveSentences u ts
formulas_kept s u k [] all = tt
formulas_kept s u k (t ∷ ts) all = (formula_kept k all.0, formulas_kept s u k ts all.1)

pub terms_kept : (s u : TermStore) → Keeps s u → (ts : List ℕ) → HaveSentences s ts → terms_at u ts ≡ terms_at s ts
terms_kept s u k [] all = refl
terms_kept s u k (t ∷ ts) all = let e = k.trees t all.0.there in let f = terms_kept s u k ts all.1 in cc

-- one more
pub terms_pushed : (s u : TermStore) (ts : List ℕ) (t : ℕ) → Keeps s u → HaveSentences s ts → terms_at u (ts ++ t ∷ []) ≡ terms_at s ts ++ term_tree u t ∷ []
terms_pushed s u [] t k all = refl
terms_pushed s u (x ∷ ts) t k all = let e = k.trees x all.0.there in let f = terms_pushed s u ts t k all.1 in rw (e, f) refl

pub formulas_pushed : (s u : TermStore) (ts : List ℕ) (t : ℕ) → Keeps s u → HaveSentences s ts → HasSentence u t → HaveSentences u (ts ++ t ∷ [])
formulas_pushed s u [] t k all h = (h, tt)
formulas_pushed s u (x ∷ ts) t k all h = (formula_kept k all.0, formulas_pushed s u ts t k all.1 h)

-- one less
pub formulas_front : (s : TermStore) (ts : List ℕ) (t : ℕ) → HaveSentences s (ts ++ t ∷ []) → HaveSentences s ts × HasSentence s t
formulas_front s [] t all = (tt, all.0)
formulas_front s (x ∷ ts) t all = let r = formulas_front s ts t all.1 in ((all.0, r.0), r.1)

pub terms_front : (s : TermStore) (ts : List ℕ) (t : ℕ) → terms_at s (ts ++ t ∷ []) ≡ terms_at s ts ++ term_tree s t ∷ []
terms_front s [] t = refl
terms_front s (x ∷ ts) t = let r = terms_front s ts t in rw r refl

-- one more constant
constants_pushed : (s u : TermStore) → Keeps s u → (constants : List (List ℕ × ℕ)) (name : List ℕ) (t : ℕ) → AreConstants s constants → IsNumberOf u t (ConstTm name BoolTy) → AreConstants u (constants ++ (name, t) ∷ [])
constants_pushed s u k [] name t all is = (is, tt)
constants_pushed s u k (c ∷ cs) name t all is = (number_kept k all.0, constants_pushed s u k cs name t all.1 is)

pub names_pushed : (constants : List (List ℕ × ℕ)) (name : List ℕ) (t : ℕ) → names_of (constants ++ (name, t) ∷ []) ≡ names_of constants ++ name ∷ []
names_pushed [] name t = refl
names_pushed (c ∷ cs) name t = ap (λ l. c.0 ∷ l) (names_pushed cs name t)

pub lexicon_declared : (s u : TermStore) (lexicon : Lexicon) (name : List ℕ) (t : ℕ) (more : List (List ℕ × ℕ)) → Keeps s u → IsLexicon s lexicon → IsNumberOf u t (ConstTm name BoolTy) → more ≡ lexicon.constants ++ (name, t) ∷ []
    → IsLexicon u (record lexicon { constants = more })
lexicon_declared s u lexicon name t more k is const e =
    let P : List (List ℕ × ℕ) → Type 0 = AreConstants u in
    record {
      falsity = number_kept k is.falsity;
      negation = number_kept k is.negation;
      implication = number_kept k is.implication;
      constants = subst P (sym e) (constants_pushed s u k lexicon.constants name t is.constants const);
    }

-- a name is declared where it is found
pub declared_found : (constants : List (List ℕ × ℕ)) (name : List ℕ) → is_declared (names_of constants) name ≡ is_some (lookup (bytes_eq name) constants)
declared_found [] name = refl
declared_found (c ∷ cs) name = by (bytes_eq name c.0) refl (declared_found cs name)
  where
    by : (b : Bool) → bytes_eq name c.0 ≡ b → is_declared (names_of cs) name ≡ is_some (lookup (bytes_eq name) cs) → is_declared (names_of (c ∷ cs)) name ≡ is_some (lookup (bytes_eq name) (c ∷ cs))
    by true e r = rw e refl
    by false e r = rw e r

pub absent_found : (constants : List (List ℕ × ℕ)) (name : List ℕ) → is_declared (names_of constants) name ≡ false → lookup (bytes_eq name) constants ≡ None
absent_found constants name h = by (lookup (bytes_eq name) constants) refl
  where
    by : (o : Option ℕ) → lookup (bytes_eq name) constants ≡ o → lookup (bytes_eq name) constants ≡ None
    by None e = e
    by (Some t) e = absurd (true≢false (sym (declared_found constants name ∙ ap is_some e) ∙ h))

-- What is remembered stays right where more is put to it.
use Rattle.std.proofs.Common.{◌≡◌, ℕ, Some, cond, Bool, true, false, refl, sym, ap, ◌∙◌, subst, nat_eq}
use Rattle.std.specs.HashMap.{get_by}
use Rattle.std.specs.Map.{lookup}
use Rattle.std.specs.HashSet.{HashSet, contains}
use Rattle.std.specs.declared.hash.FoldHasher.{FoldHasher}
use Rattle.std.specs.declared.hash.BuildHasherDefault.{BuildHasherDefault}
use Rattle.std.proofs.lemmas.Option.{same_Some}
use Rattle.std.proofs.Math.Dec.{eqb}
use Rattle.hol_types.specs.Exact.{both_true}
use Rattle.hol_types.specs.Ty.{Ty}
use Rattle.hol_types.proofs.TypeLemmas.{eqb_sound}
use Rattle.hol_terms.specs.declared.memo.Part.{Part}
use Rattle.hol_types.specs.TypeSubst.{TypeSubst}
use Rattle.hol_terms.specs.Term.{Term, BoundsFit}
use Rattle.hol_terms.specs.Substitution.{subst_bound, subst_free, close_free, subst_types}
use Rattle.hol_terms.specs.Formula.{NotFreeIn}
use Rattle.hol_terms.specs.TermStore.{TermStore, HasTerm, Keeps, term_tree}
use Rattle.hol_terms.specs.Memo.{Results, EachResult, Parts, part_eq, AllFit, IsOpened, AllOpened, IsClosedPart, AllClosed, IsInstance, AllInstances, IsReplaced, AllReplaced, AllWithout}

pub same_part : (p q : Part) → part_eq p q ≡ true → p ≡ q
same_part p q h =
    let parts = both_true (eqb p.term q.term) (eqb p.index q.index) h in
    let e = eqb_sound p.term q.term parts.0 in
    let f = eqb_sound p.index q.index parts.1 in
    λ i. record { term = e i; index = f i }

-- one more result
pub result_put : {K : Type 0} (eq : K → K → Bool) → ((p q : K) → eq p q ≡ true → p ≡ q) → (R : K → ℕ → Type 0) (m n : Results K) (k : K) (r : ℕ)
    → EachResult eq R m → ((q : K) → get_by (eq q) n ≡ cond (eq k q) (Some r) (get_by (eq q) m)) → R k r → EachResult eq R n
result_put {K} eq sound R m n k r old puts here q x h = by (eq k q) refl (sym (puts q) ∙ h)
  where
    by : (b : Bool) → eq k q ≡ b → cond b (Some r) (get_by (eq q) m) ≡ Some x → R q x
    by true e f = subst (λ z. R z x) (sound k q e) (subst (λ z. R k z) (same_Some r x f) here)
    by false e f = old q x f

-- one more part that fits
pub fits_put : (s : TermStore) (ty : Ty) (m n : Parts) (p : Part) → AllFit s ty m → ((q : Part) → contains part_eq n q ≡ cond (part_eq p q) true (contains part_eq m q)) → BoundsFit (term_tree s p.term) p.index ty → AllFit s ty n
fits_put s ty m n p old puts here q h = by (part_eq p q) refl (sym (puts q) ∙ h)
  where
    by : (b : Bool) → part_eq p q ≡ b → cond b true (contains part_eq m q) ≡ true → BoundsFit (term_tree s q.term) q.index ty
    by true e f = subst (λ z. BoundsFit (term_tree s z.term) z.index ty) (same_part p q e) here
    by false e f = old q f

-- ---- opened parts

pub opened_kept : {s u : TermStore} {v : Term} {m : Results Part} → Keeps s u → AllOpened s v m → AllOpened u v m
opened_kept {s} {u} {v} {m} keeps all = record {
  each = λ p r h.
      let is = all.each p r h in
      record {
        there = keeps.terms p.term is.there;
        made = keeps.terms r is.made;
        tree = keeps.trees r is.made ∙ is.tree ∙ ap (λ x. subst_bound x p.index v) (sym (keeps.trees p.term is.there));
      };
}

pub opened_unchanged : {s : TermStore} {v : Term} {m n : Results Part} → n.entries ≡ m.entries → AllOpened s v m → AllOpened s v n
opened_unchanged same all = record { each = λ p r h. all.each p r (ap (λ es. lookup (part_eq p) es) (sym same) ∙ h) }

pub opened_put : (s : TermStore) (v : Term) (m n : Results Part) (p : Part) (r : ℕ) → AllOpened s v m → ((q : Part) → get_by (part_eq q) n ≡ cond (part_eq p q) (Some r) (get_by (part_eq q) m))
    → HasTerm s p.term → HasTerm s r → term_tree s r ≡ subst_bound (term_tree s p.term) p.index v → AllOpened s v n
opened_put s v m n p r old puts there made tree = record { each = result_put part_eq same_part (IsOpened s v) m n p r old.each puts (record { there = there; made = made; tree = tree }) }

-- ---- closed parts

pub closed_kept : {s u : TermStore} {v : Term} {m : Results Part} → Keeps s u → AllClosed s v m → AllClosed u v m
closed_kept {s} {u} {v} {m} keeps all = record {
  each = λ p r h.
      let is = all.each p r h in
      record {
        there = keeps.terms p.term is.there;
        made = keeps.terms r is.made;
        tree = keeps.trees r is.made ∙ is.tree ∙ ap (λ x. close_free x p.index v) (sym (keeps.trees p.term is.there));
      };
}

pub closed_unchanged : {s : TermStore} {v : Term} {m n : Results Part} → n.entries ≡ m.entries → AllClosed s v m → AllClosed s v n
closed_unchanged same all = record { each = λ p r h. all.each p r (ap (λ es. lookup (part_eq p) es) (sym same) ∙ h) }

pub closed_put : (s : TermStore) (v : Term) (m n : Results Part) (p : Part) (r : ℕ) → AllClosed s v m → ((q : Part) → get_by (part_eq q) n ≡ cond (part_eq p q) (Some r) (get_by (part_eq q) m))
    → HasTerm s p.term → HasTerm s r → term_tree s r ≡ close_free (term_tree s p.term) p.index v → AllClosed s v n
closed_put s v m n p r old puts there made tree = record { each = result_put part_eq same_part (IsClosedPart s v) m n p r old.each puts (record { there = there; made = made; tree = tree }) }

-- ---- instances

pub instances_kept : {s u : TermStore} {types : TypeSubst} {m : Results ℕ} → Keeps s u → AllInstances s types m → AllInstances u types m
instances_kept {s} {u} {types} {m} keeps all = record {
  each = λ t r h.
      let is = all.each t r h in
      record {
        there = keeps.terms t is.there;
        made = keeps.terms r is.made;
        tree = keeps.trees r is.made ∙ is.tree ∙ ap (λ x. subst_types types x) (sym (keeps.trees t is.there));
      };
}

pub instances_unchanged : {s : TermStore} {types : TypeSubst} {m n : Results ℕ} → n.entries ≡ m.entries → AllInstances s types m → AllInstances s types n
instances_unchanged same all = record { each = λ t r h. all.each t r (ap (λ es. lookup (nat_eq t) es) (sym same) ∙ h) }

pub instances_put : (s : TermStore) (types : TypeSubst) (m n : Results ℕ) (t r : ℕ) → AllInstances s types m → ((q : ℕ) → get_by (nat_eq q) n ≡ cond (nat_eq t q) (Some r) (get_by (nat_eq q) m))
    → HasTerm s t → HasTerm s r → term_tree s r ≡ subst_types types (term_tree s t) → AllInstances s types n
instances_put s types m n t r old puts there made tree = record { each = result_put nat_eq eqb_sound (IsInstance s types) m n t r old.each puts (record { there = there; made = made; tree = tree }) }

-- ---- parts with a term for a variable

pub replaced_kept : {s w : TermStore} {v u : Term} {m : Results ℕ} → Keeps s w → AllReplaced s v u m → AllReplaced w v u m
replaced_kept {s} {w} {v} {u} {m} keeps all = record {
  each = λ t r h.
      let is = all.each t r h in
      record {
        there = keeps.terms t is.there;
        made = keeps.terms r is.made;
        tree = keeps.trees r is.made ∙ is.tree ∙ ap (λ x. subst_free v u x) (sym (keeps.trees t is.there));
      };
}

pub replaced_unchanged : {s : TermStore} {v u : Term} {m n : Results ℕ} → n.entries ≡ m.entries → AllReplaced s v u m → AllReplaced s v u n
replaced_unchanged same all = record { each = λ t r h. all.each t r (ap (λ es. lookup (nat_eq t) es) (sym same) ∙ h) }

pub replaced_put : (s : TermStore) (v u : Term) (m n : Results ℕ) (t r : ℕ) → AllReplaced s v u m → ((q : ℕ) → get_by (nat_eq q) n ≡ cond (nat_eq t q) (Some r) (get_by (nat_eq q) m))
    → HasTerm s t → HasTerm s r → term_tree s r ≡ subst_free v u (term_tree s t) → AllReplaced s v u n
replaced_put s v u m n t r old puts there made tree = record { each = result_put nat_eq eqb_sound (IsReplaced s v u) m n t r old.each puts (record { there = there; made = made; tree = tree }) }

-- ---- parts without a variable

pub without_put : (s : TermStore) (v : Term) (m n : HashSet ℕ (BuildHasherDefault FoldHasher)) (t : ℕ) → AllWithout s v m → ((q : ℕ) → contains nat_eq n q ≡ cond (nat_eq t q) true (contains nat_eq m q)) → NotFreeIn v (term_tree s t) → AllWithout s v n
without_put s v m n t old puts here = record { each = λ q h. by q (eqb t q) refl (sym (puts q) ∙ h) }
  where
    by : (q : ℕ) (b : Bool) → eqb t q ≡ b → cond b true (contains nat_eq m q) ≡ true → NotFreeIn v (term_tree s q)
    by q true e f = subst (λ z. NotFreeIn v (term_tree s z)) (eqb_sound t q e) here
    by q false e f = old.each q f

-- A store that goes on: the laws of keeping.
use Rattle.std.proofs.Common.{◌≡◌, ℕ, ◌≤◌, List, length, take, refl, sym, subst, ap, ◌∙◌, arith}
use Rattle.std.proofs.lemmas.List.{length-take, length-take-le}
use Rattle.hol_types.specs.KeepsTypes.{KeepsTypes}
use Rattle.hol_types.specs.TypeSubst.{HasSubst, subst_tree}
use Rattle.hol_types.specs.Instance.{AllTypeInstances, Made}
use Rattle.hol_types.proofs.InstanceLemmas.{has_subst_kept, subst_tree_kept, type_instances_kept}
use Rattle.hol_types.proofs.MarkLemmas.{fits_kept as types_fit}
use Rattle.hol_terms.specs.TermStore.{TermStore, IsTermStore, Keeps, FitsMark, StoreState, MayReset, cut}
use Rattle.hol_terms.specs.declared.tables.Mark.{Mark}

-- a list whose first items are those of another has them
same_front : {A : Type 0} (old new : List A) (n : ℕ) → n ≤ length old → take n new ≡ take n old → n ≤ length new
same_front old new n fits e = omega (arith, length-take n new, ap (λ l. length l) e, length-take-le n old fits)

pub fits_kept : (s u : TermStore) (m : Mark) → FitsMark m s → cut m u ≡ cut m s → FitsMark m u
fits_kept s u m fits e = record {
  types = types_fit s.types u.types m.types fits.types (ap (λ v. v.types) e);
  nodes = same_front s.nodes u.nodes m.nodes fits.nodes (ap (λ v. v.nodes) e);
  tys = same_front s.tys u.tys m.nodes fits.tys (ap (λ v. v.tys) e);
  reaches = same_front s.reaches u.reaches m.nodes fits.reaches (ap (λ v. v.reaches) e);
}

pub keeps_refl : (s : TermStore) → Keeps s s
keeps_refl s = record {
  names = λ n h. h;
  texts = λ n h. refl;
  types = λ t h. h;
  type_trees = λ t h. refl;
  arities = λ n a h. h;
  terms = λ t h. h;
  trees = λ t h. refl;
  back = λ m h. refl;
}

pub keeps_trans : {s t u : TermStore} → Keeps s t → Keeps t u → Keeps s u
keeps_trans {s} {t} {u} g h = record {
  names = λ n k. h.names n (g.names n k);
  texts = λ n k. h.texts n (g.names n k) ∙ g.texts n k;
  types = λ x k. h.types x (g.types x k);
  type_trees = λ x k. h.type_trees x (g.types x k) ∙ g.type_trees x k;
  arities = λ n a k. h.arities n a (g.arities n a k);
  terms = λ x k. h.terms x (g.terms x k);
  trees = λ x k. h.trees x (g.terms x k) ∙ g.trees x k;
  back = λ m k. h.back m (fits_kept s t m k (g.back m k)) ∙ g.back m k;
}

-- what is kept of the types
pub keeps_types : {s u : TermStore} → Keeps s u → KeepsTypes s.types u.types
keeps_types {s} {u} k = record {
  names = k.names;
  texts = k.texts;
  types = k.types;
  trees = k.type_trees;
  arities = k.arities;
  back = λ m fits. ap (λ v. v.types) (k.back (record { types = m; nodes = 0 }) (record { types = fits; nodes = omega arith; tys = omega arith; reaches = omega arith }));
}

-- types for type variables stay, and stand for what they stood for
pub subst_kept : {s u : TermStore} → Keeps s u → (ps : List (ℕ × ℕ)) → HasSubst s.types ps → HasSubst u.types ps
subst_kept {s} {u} k ps h = has_subst_kept s.types u.types (keeps_types k) ps h

pub subst_same : {s u : TermStore} → Keeps s u → (ps : List (ℕ × ℕ)) → HasSubst s.types ps → subst_tree u.types ps ≡ subst_tree s.types ps
subst_same {s} {u} k ps h = subst_tree_kept s.types u.types (keeps_types k) ps h

-- what was made of types stays right
pub made_kept : {s u : TermStore} {ps : List (ℕ × ℕ)} {m : Made} → Keeps s u → HasSubst s.types ps → AllTypeInstances s.types ps m → AllTypeInstances u.types ps m
made_kept k subst all = type_instances_kept (keeps_types k) subst all

-- a store that goes on may still be reset to a mark
pub may_reset_kept : {s u : StoreState} → {m : Mark} → Keeps s.store u.store → u.base ≡ s.base → MayReset m s → MayReset m u
may_reset_kept {s} {u} {m} keeps same may =
    let e = keeps.back m may.fits in
    record {
      base = rw same may.base;
      fits = fits_kept s.store u.store m may.fits e;
      lawful = subst (λ v. IsTermStore v) (sym e) may.lawful;
    }

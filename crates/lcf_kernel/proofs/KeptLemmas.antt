-- Records and terms are there still, and are the same, as a kernel goes on.
use Rattle.std.proofs.Common.{◌≡◌, ◌∙◌, sym, subst, ℕ}
use Rattle.hol_terms.specs.Term.{Term}
use Rattle.hol_terms.specs.TermStore.{HasTerm, term_tree}
use Rattle.hol_terms.specs.Substitution.{IsClosed}
use Rattle.hol_formulas.specs.Constants.{IsAt}
use Rattle.lcf_kernel.specs.KernelState.{KernelState, HasThm, KeepsAll}

pub has_kept : {k l : KernelState} {r : ℕ} → KeepsAll k l → HasThm k r → HasThm l r
has_kept {r = r} g h = g.records.has r h

pub term_kept : {k l : KernelState} {t : ℕ} → KeepsAll k l → HasTerm k.store t → HasTerm l.store t
term_kept {t = t} g h = g.records.store.terms t h

pub tree_kept : {k l : KernelState} {t : ℕ} → KeepsAll k l → HasTerm k.store t → term_tree l.store t ≡ term_tree k.store t
tree_kept {t = t} g h = g.records.store.trees t h

pub at_kept : {k l : KernelState} {t : ℕ} {f : Term} → KeepsAll k l → IsAt k.store t f → IsAt l.store t f
at_kept {t = t} g h = record { there = g.records.store.terms t h.there; is = g.records.store.trees t h.there ∙ h.is }

pub closed_kept : {k l : KernelState} {t : ℕ} → KeepsAll k l → HasTerm k.store t → IsClosed (term_tree k.store t) → IsClosed (term_tree l.store t)
closed_kept {t = t} g there closed = subst (λ (u : Term). IsClosed u) (sym (g.records.store.trees t there)) closed

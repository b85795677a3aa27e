-- What records state, as a kernel goes on.
use Rattle.std.proofs.Common.{◌≡◌, ◌++◌, ◌∙◌, [], refl, sym, subst, ap, ⊎_elim, ℕ, List, Bool, true, false, ◌&&◌, Result, Ok, Err, IfErr}
use Rattle.std.specs.Prelude.{IsErrAnd}
use Rattle.lcf_kernel.specs.declared.rules.RuleFault.{RuleFault}
use Rattle.lcf_kernel.specs.declared.rules.RuleFault.TheVariants.{Shape}
use Rattle.std.proofs.lemmas.List.{append-nil}
use Rattle.hol_terms.specs.Term.{Term, LamTm, ty_of}
use Rattle.hol_types.specs.Ty.{Ty, FunTy}
use Rattle.hol_terms.specs.Constants.{equation, implication}
use Rattle.hol_terms.specs.Substitution.{subst_bound}
use Rattle.hol_terms.specs.TermStore.{term_tree}
use Rattle.hol_terms.specs.Formula.{In, IsFormula, SameMembers}
use Rattle.hol_terms.proofs.SetLemmas.{same_refl, same_trans, in_append_left, in_append_right, in_append_either}
use Rattle.hol_formulas.specs.declared.formula.Sides.{Sides}
use Rattle.lcf_kernel.specs.declared.thm.Thm.{Thm}
use Rattle.lcf_kernel.specs.RuleForms.{IsSubstitution}
use Rattle.lcf_kernel.specs.KernelState.{KernelState, HasThm, concl_of, hyps_of, bare_of, KeepsAll}
use Rattle.hol_terms.proofs.FormulaLemmas.{Has, equation_left, equation_right}
use Rattle.hol_logic.specs.States.{States, Equates}
use Rattle.hol_logic.specs.DerivedForms.{IsChain, AreCongruent, Takes}

-- ---- a kernel that goes on

pub bare_keeps : {k l : KernelState} {r : ℕ} → KeepsAll k l → HasThm k r → bare_of l r ≡ bare_of k r
bare_keeps {r} g h = ap (λ (t : Thm). t.bare) (g.records.thms r h)

pub states_keep : {k l : KernelState} {r : ℕ} {f : Term} {H : List Term} {b : Bool} → KeepsAll k l → States k r f H b → States l r f H b
states_keep {r} {H} g s = record {
  there = g.records.has r s.there;
  concl = g.records.concls r s.there ∙ s.concl;
  hyps = subst (λ G. SameMembers G H) (sym (g.records.hyps r s.there)) s.hyps;
  bare = bare_keeps g s.there ∙ s.bare;
}

pub equates_keep : {k l : KernelState} {a : ℕ} {p : Sides} → KeepsAll k l → Equates k a p → Equates l a p
equates_keep {k} {l} {a} {p} g e = record {
  there = g.records.has a e.there;
  left = g.records.store.terms p.left e.left;
  right = g.records.store.terms p.right e.right;
  concl = rw (g.records.store.trees p.left e.left, g.records.store.trees p.right e.right) (g.records.concls a e.there ∙ e.concl);
  formula = subst (λ f. IsFormula f) (sym (g.records.concls a e.there)) e.formula;
}

-- ---- the same statement, written otherwise

pub states_as : {k : KernelState} {r : ℕ} {f g : Term} {G H : List Term} {b d : Bool} → States k r f G b → f ≡ g → SameMembers G H → b ≡ d → States k r g H d
states_as s e same p = record { there = s.there; concl = s.concl ∙ e; hyps = same_trans s.hyps same; bare = s.bare ∙ p }

pub same_nothing : (G : List Term) → SameMembers (G ++ []) G
same_nothing G = subst (λ H. SameMembers (G ++ []) H) (append-nil G) (same_refl (G ++ []))

pub same_swap : (G H : List Term) → SameMembers (G ++ H) (H ++ G)
same_swap G H = record { to = λ t h. swap G H t h; from = λ t h. swap H G t h }
  where
    swap : (A B : List Term) (t : Term) → In t (A ++ B) → In t (B ++ A)
    swap A B t h = ⊎_elim (λ (i : In t A). in_append_right t B A i) (λ (i : In t B). in_append_left t B A i) (in_append_either t A B h)

pub and_true : (b : Bool) → (b && true) ≡ b
and_true true = refl
and_true false = refl

pub and_swap : (b d : Bool) → (b && d) ≡ (d && b)
and_swap true true = refl
and_swap true false = refl
and_swap false true = refl
and_swap false false = refl

-- ---- what a substitution gives

pub substituted : {p equal said : Term} (s : IsSubstitution p equal said) (ty : Ty) (left right body : Term) → p ≡ LamTm ty body → equal ≡ equation ty left right
    → subst_bound s.body 0 s.right ≡ subst_bound body 0 right
substituted s ty left right body p e =
    let same_body : s.body ≡ body = cc in
    let same_right : s.right ≡ right = cc in
    rw (same_body, same_right) refl

-- ---- the terms of an equation

equation_formula : {k : KernelState} {a : ℕ} {p : Sides} → Equates k a p → IsFormula (equation (ty_of (term_tree k.store p.left)) (term_tree k.store p.left) (term_tree k.store p.right))
equation_formula e = subst (λ f. IsFormula f) e.concl e.formula

pub left_has : {k : KernelState} {a : ℕ} {p : Sides} → Equates k a p → Has (term_tree k.store p.left) (ty_of (term_tree k.store p.left))
left_has e = equation_left (equation_formula e)

pub right_has : {k : KernelState} {a : ℕ} {p : Sides} → Equates k a p → Has (term_tree k.store p.right) (ty_of (term_tree k.store p.left))
right_has e = equation_right (equation_formula e)

-- ---- beside a record without hypotheses that is bare

pub beside_none : {k m l : KernelState} {a r : ℕ} {f : Term} (n : ℕ) → KeepsAll k m → HasThm k a → hyps_of m n ≡ [] → bare_of m n ≡ true
    → States l r f (hyps_of m a ++ hyps_of m n) (bare_of m a && bare_of m n) → States l r f (hyps_of k a) (bare_of k a)
beside_none {k} {m} {l} {a} {r} {f} n g has none free s =
    let same : SameMembers (hyps_of m a ++ hyps_of m n) (hyps_of k a) = rw (none, g.records.hyps a has) (same_nothing (hyps_of k a)) in
    let flag : (bare_of m a && bare_of m n) ≡ bare_of k a = rw (free, bare_keeps g has) (and_true (bare_of k a)) in
    states_as s refl same flag

-- two records together, in a kernel that went on
pub beside_kept : {k m l : KernelState} {a b r : ℕ} {f : Term} → KeepsAll k m → HasThm k a → HasThm k b
    → States l r f (hyps_of m a ++ hyps_of m b) (bare_of m a && bare_of m b) → States l r f (hyps_of k a ++ hyps_of k b) (bare_of k a && bare_of k b)
beside_kept {k} {m} {l} {a} {b} {r} {f} g has_a has_b s =
    states_as s refl (rw (g.records.hyps a has_a, g.records.hyps b has_b) (same_refl (hyps_of k a ++ hyps_of k b))) (rw (bare_keeps g has_a, bare_keeps g has_b) refl)

-- in the other order
pub swapped : {k : KernelState} {r : ℕ} {f : Term} (G H : List Term) (b d : Bool) → States k r f (G ++ H) (b && d) → States k r f (H ++ G) (d && b)
swapped G H b d s = states_as s refl (same_swap G H) (and_swap b d)

-- ---- no equation

pub chain_sides : {f g : Term} (e : IsChain f g) (ty uy : Ty) (a b c d : Term) → f ≡ equation ty a b → g ≡ equation uy c d → b ≡ c
chain_sides e ty uy a b c d p q =
    let left : b ≡ e.middle = cc in
    let right : c ≡ e.middle = cc in
    left ∙ sym right

-- what an implication leads to
pub implied : (a b d said : Term) → said ≡ implication a b → said ≡ implication a d → d ≡ b
implied a b d said e f = cc

-- two equations as a chain
pub chain_stated : {k l : KernelState} {a b r : ℕ} {p q : Sides} {H : List Term} {d : Bool} → Equates k a p → Equates k b q → term_tree k.store p.right ≡ term_tree k.store q.left
    → States l r (equation (ty_of (term_tree k.store p.left)) (term_tree k.store p.left) (term_tree k.store q.right)) H d
    → (e : IsChain (concl_of k a) (concl_of k b)) × States l r (equation e.type e.left e.right) H d
chain_stated {k} {l} {a} {b} {r} {p} {q} e f middle s =
    let type : ty_of (term_tree k.store q.left) ≡ ty_of (term_tree k.store p.left) = ap (λ u. ty_of u) (sym middle) ∙ (right_has e).type in (
      record {
        type = ty_of (term_tree k.store p.left);
        left = term_tree k.store p.left;
        middle = term_tree k.store p.right;
        right = term_tree k.store q.right;
        first_is = e.concl;
        second_is = f.concl ∙ rw (type, middle) refl;
      },
      s,
    )

-- ---- answers that are passed on

-- a fault that a callee gave is no Shape
pub passed_on : {A : Type 0} (r : Result A RuleFault) (e : RuleFault) → IsErrAnd r (λ f. f ≡ e) → (e ≡ Shape → ⊥) → IfErr r (λ f. f ≡ Shape → ⊥)
passed_on (Ok x) e h never = tt
passed_on (Err f) e h never = λ s. never (sym h ∙ s)

-- and a Shape means what it meant
pub passed_shape : {A P : Type 0} (r : Result A RuleFault) (e : RuleFault) → IsErrAnd r (λ f. f ≡ e) → (e ≡ Shape → P → ⊥) → IfErr r (λ f. f ≡ Shape → P → ⊥)
passed_shape (Ok x) e h never = tt
passed_shape (Err f) e h never = λ s. never (sym h ∙ s)

-- functions and arguments that fit
pub congruent_takes : {k : KernelState} {a b : ℕ} {p q : Sides} → Equates k a p → Equates k b q → AreCongruent (concl_of k a) (concl_of k b) → Takes (term_tree k.store p.left) (term_tree k.store q.left)
congruent_takes {k} {a} {b} {p} {q} e f c =
    let function : ty_of (term_tree k.store p.left) ≡ FunTy c.argument_type c.result_type = same_equation_type e.concl c.functions_is in
    let argument : ty_of (term_tree k.store q.left) ≡ c.argument_type = same_equation_type f.concl c.arguments_is in
    rw (function, argument) refl
  where
    same_equation_type : {said x y u v : Term} {ty uy : Ty} → said ≡ equation ty x y → said ≡ equation uy u v → ty ≡ uy
    same_equation_type g h = cc

pub led_to : (a b x d said : Term) → said ≡ implication a b → said ≡ implication x d → d ≡ b
led_to a b x d said e f = cc

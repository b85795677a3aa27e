-- What the rules of equality say, on trees.
use Rattle.std.proofs.Common.{◌≡◌, ◌∙◌, ◌++◌, [], refl, sym, subst, ℕ, List, Bool, true, ◌&&◌}
use Rattle.hol_types.specs.Ty.{Ty, BoolTy, FunTy}
use Rattle.hol_terms.specs.Term.{Term, FreeTm, BoundTm, ConstTm, NumTm, AppTm, LamTm, Typed, ty_of}
use Rattle.hol_terms.specs.TermStore.{term_tree}
use Rattle.hol_terms.specs.Substitution.{IsClosed, IsFreeVariable, subst_bound, close_free}
use Rattle.hol_terms.specs.Formula.{IsTerm, SameMembers, NotFreeInAny, Within}
use Rattle.hol_terms.specs.Constants.{equation}
use Rattle.hol_terms.specs.Derivable.{abstraction}
use Rattle.hol_terms.proofs.SetLemmas.{same_refl, within_context, within_from_same, same_sym}
use Rattle.hol_terms.proofs.FormulaLemmas.{Has}
use Rattle.hol_terms.proofs.SubstitutionLemmas.{closed_ty, closed_back, closed_loose, closed_typed, closed_fits, closed_removes}
use Rattle.hol_terms.proofs.QuantifierRules.{free_in_none, free_in_each}
use Rattle.lcf_kernel.specs.RuleForms.{IsRedex, IsGeneral, Agree}
use Rattle.lcf_kernel.specs.KernelState.{KernelState, HasThm, concl_of, hyps_of, context_of, all_hyps_of, bare_of, KeepsAll}
use Rattle.hol_formulas.specs.declared.formula.Sides.{Sides}
use Rattle.hol_formulas.proofs.OccursLemmas.{variable_closed}
use Rattle.hol_logic.specs.States.{States, Equates, Equal}
use Rattle.hol_logic.specs.DerivedForms.{IsEquation, IsChain}
use Rattle.hol_logic.proofs.StateLemmas.{states_as, bare_keeps}

-- ---- what is said of an equation that is known

pub left_is : {f : Term} (e : IsEquation f) (ty : Ty) (x y : Term) → f ≡ equation ty x y → e.left ≡ x
left_is e ty x y h = cc

pub right_is : {f : Term} (e : IsEquation f) (ty : Ty) (x y : Term) → f ≡ equation ty x y → e.right ≡ y
right_is e ty x y h = cc

pub type_is : {f : Term} (e : IsEquation f) (ty : Ty) (x y : Term) → f ≡ equation ty x y → e.type ≡ ty
type_is e ty x y h = cc

pub reversed_says : {f : Term} (e : IsEquation f) (ty : Ty) (x y : Term) → f ≡ equation ty x y → equation e.type e.right e.left ≡ equation ty y x
reversed_says e ty x y h = rw (left_is e ty x y h, right_is e ty x y h, type_is e ty x y h) refl

pub turned_says : {f : Term} (e : IsEquation f) (ty : Ty) (x y v : Term) → f ≡ equation ty x y → equation e.type e.right (AppTm (abstraction v e.left) v) ≡ equation ty y (AppTm (abstraction v x) v)
turned_says e ty x y v h = rw (left_is e ty x y h, right_is e ty x y h, type_is e ty x y h) refl

pub chain_says : {f g : Term} (e : IsChain f g) (ty uy : Ty) (x y w z : Term) → f ≡ equation ty x y → g ≡ equation uy w z → equation e.type e.left e.right ≡ equation ty x z
chain_says e ty uy x y w z h i =
    let left : e.left ≡ x = cc in
    let right : e.right ≡ z = cc in
    let type : e.type ≡ ty = cc in
    rw (left, right, type) refl

-- ---- a lambda applied to its own variable

pub itself_closed : (v t : Term) → IsFreeVariable v → IsClosed t → IsClosed (AppTm (abstraction v t) v)
itself_closed v t free closed = (closed_loose t 0 v closed, variable_closed v free)

pub redex_says : {app said : Term} (x : IsRedex app) (ty : Ty) (v t : Term) → app ≡ AppTm (abstraction v t) v → Has t ty → said ≡ equation (ty_of x.body) app (subst_bound x.body 0 x.argument)
    → said ≡ equation ty (AppTm (abstraction v t) v) t
redex_says x ty v t e has h =
    let body : x.body ≡ close_free t 0 v = cc in
    let argument : x.argument ≡ v = cc in
    h ∙ rw (e, body, argument, closed_ty t 0 v, has.type, closed_back t 0 v has.term.closed) refl

-- ---- statements through another record

pub states_through : {m l : KernelState} {w r : ℕ} {f g : Term} {H : List Term} {b : Bool} → States m w g H b → States l r f (hyps_of m w) (bare_of m w) → States l r f H b
states_through s t = states_as t refl s.hyps s.bare

-- after a record without hypotheses that is bare
pub after_none : {k m l : KernelState} {a r : ℕ} {f : Term} (n : ℕ) → KeepsAll k m → HasThm k a → hyps_of m n ≡ [] → bare_of m n ≡ true
    → States l r f (hyps_of m n ++ hyps_of m a) (bare_of m n && bare_of m a) → States l r f (hyps_of k a) (bare_of k a)
after_none {k} {m} {a} n g has none free s =
    let same : SameMembers (hyps_of m n ++ hyps_of m a) (hyps_of k a) = rw (none, g.records.hyps a has) (same_refl (hyps_of k a)) in
    let flag : (bare_of m n && bare_of m a) ≡ bare_of k a = rw (free, bare_keeps g has) refl in
    states_as s refl same flag

pub equal_of : {k : KernelState} {a : ℕ} {p : Sides} → Equates k a p → Equal k a
equal_of {k} {a} {p} e = record {
  there = e.there;
  equation = record { type = ty_of (term_tree k.store p.left); left = term_tree k.store p.left; right = term_tree k.store p.right; is = e.concl };
}

pub equal_from : {k : KernelState} {r : ℕ} {H : List Term} {b : Bool} (ty : Ty) (x y : Term) → States k r (equation ty x y) H b → Equal k r
equal_from ty x y s = record { there = s.there; equation = record { type = ty; left = x; right = y; is = s.concl } }

-- ---- variables of which nothing is said

pub absent_within : (v : Term) (G H : List Term) → Within H G → NotFreeInAny v G → NotFreeInAny v H
absent_within v G H within absent = free_in_none v H (λ g i. free_in_each v G absent g (within.inside g i))

pub general_same : (k l : KernelState) (a r : ℕ) (v : Term) → context_of l ≡ context_of k → SameMembers (hyps_of l r) (hyps_of k a) → IsGeneral (all_hyps_of l r) v → IsGeneral (all_hyps_of k a) v
general_same k l a r v e same g = record {
  variable = g.variable;
  absent = absent_within v (context_of k ++ hyps_of l r) (context_of k ++ hyps_of k a) (within_context (context_of k) (within_from_same (same_sym same))) (subst (λ c. NotFreeInAny v (c ++ hyps_of l r)) e g.absent);
}

-- functions that agree on a variable
pub agree_says : {hyps : List Term} {said v f g h i : Term} {ty : Ty} (x : Agree hyps said v f g) → said ≡ equation ty (AppTm h v) (AppTm i v) → equation (FunTy (ty_of v) x.type) f g ≡ equation (FunTy (ty_of v) ty) h i
agree_says {f = f} {g = g} {h = h} {i = i} {ty = ty} x e =
    let left : f ≡ h = cc in
    let right : g ≡ i = cc in
    let type : x.type ≡ ty = cc in
    rw (left, right, type) refl

pub agree_from : {hyps : List Term} {said : Term} (ty : Ty) (v x y : Term) → said ≡ equation ty (AppTm (abstraction v x) v) (AppTm (abstraction v y) v) → IsGeneral hyps v → Agree hyps said v (abstraction v x) (abstraction v y)
agree_from ty v x y e general = record { type = ty; said_is = e; general = general; not_in_left = closed_removes x 0 v; not_in_right = closed_removes y 0 v }

pub under_says : {f : Term} (e : IsEquation f) (ty : Ty) (x y : Term) (make : Term → Term) → f ≡ equation ty x y → equation BoolTy (make e.left) (make e.right) ≡ equation BoolTy (make x) (make y)
under_says e ty x y make h = rw (left_is e ty x y h, right_is e ty x y h) refl

-- ---- a record's own statement

pub equates_states : {k : KernelState} {a : ℕ} {p : Sides} → Equates k a p → States k a (equation (ty_of (term_tree k.store p.left)) (term_tree k.store p.left) (term_tree k.store p.right)) (hyps_of k a) (bare_of k a)
equates_states {k} {a} e = record { there = e.there; concl = e.concl; hyps = same_refl (hyps_of k a); bare = refl }

-- what a turned equation states
pub turned_states : {m l : KernelState} {a r : ℕ} {H : List Term} {b : Bool} (ty : Ty) (x y v w : Term) → w ≡ v
    → (e : IsEquation (concl_of m a)) × States l r (equation e.type e.right (AppTm (abstraction w e.left) w)) (hyps_of m a) (bare_of m a) → States m a (equation ty x y) H b
    → States l r (equation ty y (AppTm (abstraction v x) v)) H b
turned_states {l = l} {r = r} ty x y v w same found s =
    let turned = states_through s found.1 in
    record {
      there = turned.there;
      concl = subst (λ u. concl_of l r ≡ equation ty y (AppTm (abstraction u x) u)) same (turned.concl ∙ turned_says found.0 ty x y w s.concl);
      hyps = turned.hyps;
      bare = turned.bare;
    }

-- the term to turn by
pub turned_by : {m : KernelState} {a : ℕ} {H : List Term} {b : Bool} (ty : Ty) (x y v w applied : Term) → w ≡ v → applied ≡ AppTm (abstraction v x) v → States m a (equation ty x y) H b
    → (e : IsEquation (concl_of m a)) → applied ≡ AppTm (abstraction w e.left) w
turned_by ty x y v w applied same is s e = rw (left_is e ty x y s.concl, same) is

variable_typed : (v : Term) → IsFreeVariable v → Typed v
variable_typed (FreeTm k n t) h = tt
variable_typed (BoundTm i t) h = absurd h
variable_typed (ConstTm n t) h = absurd h
variable_typed (NumTm z) h = absurd h
variable_typed (AppTm f x) h = absurd h
variable_typed (LamTm t b) h = absurd h

pub itself_typed : (v t : Term) → IsFreeVariable v → IsTerm t → Typed (AppTm (abstraction v t) v)
itself_typed v t free h = ((closed_typed t 0 v h.typed, closed_fits t 0 v h.closed), variable_typed v free, refl)

-- and the other way
pub general_after : (k l : KernelState) (a r : ℕ) (v : Term) → context_of l ≡ context_of k → SameMembers (hyps_of l r) (hyps_of k a) → IsGeneral (all_hyps_of k a) v → IsGeneral (all_hyps_of l r) v
general_after k l a r v e same g = general_same l k r a v (sym e) (same_sym same) g

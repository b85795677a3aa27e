-- The rules on quantifiers, equality, conditionals and types over sets of hypotheses: what the conclusion keeps may be
-- any larger set of formulas.
use Rattle.std.proofs.Common.{◌≡◌, ℕ, List, [], ◌∷◌, ◌++◌, refl, sym, subst, inl, inr}
use Rattle.hol_types.specs.Ty.{Ty, FunTy}
use Rattle.hol_types.specs.TypeSubst.{TypeSubst}
use Rattle.hol_terms.specs.Term.{Term, AppTm, LamTm, ty_of}
use Rattle.hol_terms.specs.Substitution.{subst_bound, subst_types, IsFreeVariable}
use Rattle.hol_terms.specs.Formula.{In, IsTerm, IsFormula, AllFormulas, Within, WithinBut, NotFreeIn, NotFreeInAny, ChangesNone, without}
use Rattle.hol_terms.specs.Constants.{negation, equation, conditional, for_all, exists, chosen}
use Rattle.hol_terms.specs.IntAxiom.{IsIntAxiom}
use Rattle.hol_terms.specs.Derivable.{Derivable, abstraction, applied, by_all_i, by_all_e, by_ex_i, by_ex_e, by_refl, by_subst, by_ext, by_beta, by_choice, by_ite_t, by_ite_f, by_inst_type, by_int_axiom}
use Rattle.hol_terms.proofs.SetLemmas.{in_without, without_differs, within_both, within_but, within_nothing}
use Rattle.hol_terms.proofs.DerivableLemmas.{weaken_in, more}

-- ---- variables that hypotheses don't speak of

pub free_in_none : (v : Term) (G : List Term) → ((g : Term) → In g G → NotFreeIn v g) → NotFreeInAny v G
free_in_none v [] h = tt
free_in_none v (g ∷ G) h = (h g (inl refl), free_in_none v G (λ u there. h u (inr there)))

pub free_in_each : (v : Term) (G : List Term) → NotFreeInAny v G → (g : Term) → In g G → NotFreeIn v g
free_in_each v [] h g there = absurd there
free_in_each v (u ∷ G) h g (inl e) = subst (λ w. NotFreeIn v w) (sym e) h.0
free_in_each v (u ∷ G) h g (inr there) = free_in_each v G h.1 g there

-- none but a formula speaks of the variable
pub free_in_none_but : (v t : Term) (G : List Term) → ((g : Term) → In g G → (g ≡ t → ⊥) → NotFreeIn v g) → NotFreeInAny v (without t G)
free_in_none_but v t G h = free_in_none v (without t G) (λ g there. h g (in_without t g G there) (without_differs t g G there))

-- ---- quantifiers

pub all_i_in : {facts G K : List Term} {a : Term} (v : Term) → IsFreeVariable v → NotFreeInAny v G → AllFormulas K → Within G K
    → Derivable facts G a → Derivable facts K (for_all (ty_of v) (abstraction v a))
all_i_in v free absent all within d = weaken_in all within (by_all_i v free absent d)

pub all_e_in : {facts G K : List Term} {ty : Ty} {p t : Term} → IsTerm t → ty_of t ≡ ty → AllFormulas K → Within G K
    → Derivable facts G (for_all ty p) → Derivable facts K (applied p t)
all_e_in is fits all within d = weaken_in all within (by_all_e is fits d)

pub ex_i_in : {facts G K : List Term} {ty : Ty} {b t : Term} → IsTerm t → ty_of t ≡ ty → IsFormula (exists ty (LamTm ty b)) → AllFormulas K → Within G K
    → Derivable facts G (subst_bound b 0 t) → Derivable facts K (exists ty (LamTm ty b))
ex_i_in is fits formula all within d = weaken_in all within (by_ex_i is fits formula d)

pub ex_e_in : {facts G H K : List Term} {ty : Ty} {b c : Term} (v : Term) → IsFreeVariable v → ty_of v ≡ ty → NotFreeIn v b → NotFreeIn v c
    → NotFreeInAny v (without (subst_bound b 0 v) H) → AllFormulas K → Within G K → WithinBut (subst_bound b 0 v) H K
    → Derivable facts G (exists ty (LamTm ty b)) → Derivable facts H c → Derivable facts K c
ex_e_in v free fits in_body in_claim absent all left right d e = weaken_in all (within_both left (within_but right)) (by_ex_e v free fits in_body in_claim absent d e)

pub choice_in : {facts G K : List Term} {ty : Ty} {b : Term} → AllFormulas K → Within G K
    → Derivable facts G (exists ty (LamTm ty b)) → Derivable facts K (subst_bound b 0 (chosen ty (LamTm ty b)))
choice_in all within d = weaken_in all within (by_choice d)

-- ---- equality

pub refl_in : {facts K : List Term} {t : Term} → IsTerm t → AllFormulas K → Derivable facts K (equation (ty_of t) t t)
refl_in {facts} {K} is all = weaken_in all (within_nothing K) (by_refl is)

pub subst_in : {facts G H K : List Term} {ty : Ty} {t u b : Term} → IsTerm (LamTm ty b) → AllFormulas K → Within G K → Within H K
    → Derivable facts G (equation ty t u) → Derivable facts H (subst_bound b 0 t) → Derivable facts K (subst_bound b 0 u)
subst_in {facts} {G} {H} {K} {ty} {t} {u} {b} is all left right d e = more facts (G ++ H) K (subst_bound b 0 u) all (within_both left right) (by_subst {t = t} {u = u} {b = b} is d e)

pub ext_in : {facts G K : List Term} {ty : Ty} {f g : Term} (v : Term) → IsFreeVariable v → NotFreeIn v f → NotFreeIn v g → NotFreeInAny v G → AllFormulas K → Within G K
    → Derivable facts G (equation ty (AppTm f v) (AppTm g v)) → Derivable facts K (equation (FunTy (ty_of v) ty) f g)
ext_in v free in_left in_right absent all within d = weaken_in all within (by_ext v free in_left in_right absent d)

pub beta_in : {facts K : List Term} {ty : Ty} {b u : Term} → IsTerm (AppTm (LamTm ty b) u) → AllFormulas K
    → Derivable facts K (equation (ty_of b) (AppTm (LamTm ty b) u) (subst_bound b 0 u))
beta_in {facts} {K} is all = weaken_in all (within_nothing K) (by_beta is)

-- ---- conditionals

pub ite_t_in : {facts G K : List Term} {c t u : Term} → IsTerm t → IsTerm u → ty_of u ≡ ty_of t → AllFormulas K → Within G K
    → Derivable facts G c → Derivable facts K (equation (ty_of t) (conditional (ty_of t) c t u) t)
ite_t_in left right fits all within d = weaken_in all within (by_ite_t left right fits d)

pub ite_f_in : {facts G K : List Term} {c t u : Term} → IsTerm t → IsTerm u → ty_of u ≡ ty_of t → AllFormulas K → Within G K
    → Derivable facts G (negation c) → Derivable facts K (equation (ty_of t) (conditional (ty_of t) c t u) u)
ite_f_in left right fits all within d = weaken_in all within (by_ite_f left right fits d)

-- ---- types, and the integers

pub inst_type_in : {facts G K : List Term} {a : Term} (s : TypeSubst) → ChangesNone s G → AllFormulas K → Within G K → Derivable facts G a → Derivable facts K (subst_types s a)
inst_type_in s kept all within d = weaken_in all within (by_inst_type s kept d)

pub int_axiom_in : {facts K : List Term} {row : ℕ} {args : List Term} {f : Term} → IsIntAxiom row args f → AllFormulas K → Derivable facts K f
int_axiom_in {facts} {K} is all = weaken_in all (within_nothing K) (by_int_axiom is)

-- What numbers stand for stays what it is while a store goes on.
use Rattle.std.proofs.Common.{◌≡◌, ℕ, List, [], ◌∷◌, refl, sym, ap, ◌∙◌}
use Rattle.std.specs.List.{AllByRecursion}
use Rattle.hol_types.specs.Ty.{Ty}
use Rattle.hol_types.specs.TypeStore.{HasType}
use Rattle.hol_terms.specs.Term.{Term}
use Rattle.hol_terms.specs.TermStore.{TermStore, Keeps}
use Rattle.goal_text.specs.declared.scope.Scope.{Scope}
use Rattle.goal_text.specs.declared.scope.Constructor.{Constructor}
use Rattle.goal_text.specs.declared.scope.Constant.{Constant}
use Rattle.goal_text.specs.Matching.{is_ground}
use Rattle.goal_text.specs.Scope.{IsNumberOf, IsTypeOf, IsNameOf, AreTerms, AreConstructors, IsConstructor, IsConstant, IsScope, terms_at, consts_in, binders_in, env_of}

pub number_kept : {s u : TermStore} {t : ℕ} {is : Term} → Keeps s u → IsNumberOf s t is → IsNumberOf u t is
number_kept k h = record { there = k.terms _ h.there; tree = k.trees _ h.there ∙ h.tree }

pub type_kept : {s u : TermStore} {t : ℕ} {is : Ty} → Keeps s u → IsTypeOf s t is → IsTypeOf u t is
type_kept k h = record { there = k.types _ h.there; tree = k.type_trees _ h.there ∙ h.tree }

pub name_kept : {s u : TermStore} {n : ℕ} {is : List ℕ} → Keeps s u → IsNameOf s n is → IsNameOf u n is
name_kept k h = record { there = k.names _ h.there; text = k.texts _ h.there ∙ h.text }

-- ---- terms

pub terms_same : {s u : TermStore} (ts : List ℕ) → Keeps s u → AreTerms s ts → terms_at u ts ≡ terms_at s ts
terms_same [] k all = refl
terms_same (t ∷ ts) k all = let e = k.trees t all.0 in let f = terms_same ts k all.1 in cc

pub terms_kept : {s u : TermStore} (ts : List ℕ) → Keeps s u → AreTerms s ts → AreTerms u ts
terms_kept [] k all = tt
terms_kept (t ∷ ts) k all = (k.terms t all.0, terms_kept ts k all.1)

-- ---- scopes

pub constructor_kept : {s u : TermStore} {name : List ℕ} {c : Constructor} → Keeps s u → IsConstructor s name c → IsConstructor u name c
constructor_kept k h = record { name_is = name_kept k h.name_is; declared = k.arities _ _ h.declared }

pub constructors_kept : {s u : TermStore} (cs : List (List ℕ × Constructor)) → Keeps s u → AreConstructors s cs → AreConstructors u cs
constructors_kept [] k all = tt
constructors_kept (c ∷ cs) k all = (constructor_kept k all.0, constructors_kept cs k all.1)

pub constant_kept : {s u : TermStore} {name : List ℕ} {c : Constant} → Keeps s u → IsConstant s name c → IsConstant u name c
constant_kept k h = record { name_is = name_kept k h.name_is; there = k.types _ h.there; monomorphic = h.monomorphic ∙ ap is_ground (sym (k.type_trees _ h.there)) }

constants_kept : {s u : TermStore} (cs : List (List ℕ × Constant)) → Keeps s u → AllByRecursion (λ c. IsConstant s c.0 c.1) cs → AllByRecursion (λ c. IsConstant u c.0 c.1) cs
constants_kept [] k all = tt
constants_kept (c ∷ cs) k all = (constant_kept k all.0, constants_kept cs k all.1)

pub constants_same : {s u : TermStore} (cs : List (List ℕ × Constant)) → Keeps s u → AllByRecursion (λ c. IsConstant s c.0 c.1) cs → consts_in u cs ≡ consts_in s cs
constants_same [] k all = refl
constants_same (c ∷ cs) k all = let e = k.type_trees c.1.ty all.0.there in let f = constants_same cs k all.1 in rw (e, f) refl

binders_kept : {s u : TermStore} (bs : List (List ℕ × ℕ)) → Keeps s u → AllByRecursion (λ b. HasType s.types b.1) bs → AllByRecursion (λ b. HasType u.types b.1) bs
binders_kept [] k all = tt
binders_kept (b ∷ bs) k all = (k.types b.1 all.0, binders_kept bs k all.1)

pub binders_same : {s u : TermStore} (bs : List (List ℕ × ℕ)) → Keeps s u → AllByRecursion (λ b. HasType s.types b.1) bs → binders_in u bs ≡ binders_in s bs
binders_same [] k all = refl
binders_same (b ∷ bs) k all = let e = k.type_trees b.1 all.0 in let f = binders_same bs k all.1 in rw (e, f) refl

pub scope_kept : {s u : TermStore} {scope : Scope} → Keeps s u → IsScope s scope → IsScope u scope
scope_kept {scope = scope} k is = record {
  types = constructors_kept scope.types k is.types;
  consts = constants_kept scope.consts k is.consts;
  binders = binders_kept scope.binders k is.binders;
}

pub env_kept : {s u : TermStore} (scope : Scope) → Keeps s u → IsScope s scope → env_of u scope ≡ env_of s scope
unfolding env_of
env_kept scope k is = let e = constants_same scope.consts k is.consts in let f = binders_same scope.binders k is.binders in rw (e, f) refl

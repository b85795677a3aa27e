-- What numbers stand for stays so in a store that goes on.
use Rattle.std.proofs.Common.{◌≡◌, ◌∙◌, ◌∷◌, [], refl, ℕ, List, inl, inr}
use Rattle.hol_types.specs.Ty.{Ty}
use Rattle.hol_terms.specs.Term.{Term}
use Rattle.hol_terms.specs.TermStore.{TermStore, Keeps}
use Rattle.hol_formulas.specs.Constants.{IsAt, IsType, IsName, AreNames, AreConstants}
use Rattle.hol_formulas.specs.Formulas.{trees, HasFormula, HasFormulas, IsContext}
use Rattle.hol_formulas.specs.declared.formula.Constants.{Constants}
use Rattle.hol_formulas.specs.declared.formula.Names.{Names}

module _ (s u : TermStore) (keeps : Keeps s u) where
  pub trees_keep : (ts : List ℕ) → HasFormulas s ts → trees u ts ≡ trees s ts
  trees_keep [] all = refl
  trees_keep (t ∷ ts) all =
      let e = keeps.trees t (all.each t (inl refl)).there in
      let r = trees_keep ts (record { each = λ v h. all.each v (inr h) }) in
      cc

  pub at_keeps : (t : ℕ) (tree : Term) → IsAt s t tree → IsAt u t tree
  at_keeps t tree h = record { there = keeps.terms t h.there; is = keeps.trees t h.there ∙ h.is }

  pub type_keeps : (t : ℕ) (tree : Ty) → IsType s t tree → IsType u t tree
  type_keeps t tree h = record { there = keeps.types t h.there; is = keeps.type_trees t h.there ∙ h.is }

  pub name_keeps : (n : ℕ) (text : List ℕ) → IsName s n text → IsName u n text
  name_keeps n text h = record { there = keeps.names n h.there; is = keeps.texts n h.there ∙ h.is }

  pub names_keep : (n : Names) → AreNames s n → AreNames u n
  names_keep n h = record { eq = name_keeps _ _ h.eq; ite = name_keeps _ _ h.ite; all = name_keeps _ _ h.all; ex = name_keeps _ _ h.ex; choice = name_keeps _ _ h.choice }

  pub constants_keep : (c : Constants) → AreConstants s c → AreConstants u c
  constants_keep c h = record {
    imp = at_keeps _ _ h.imp;
    not = at_keeps _ _ h.not;
    falsity = at_keeps _ _ h.falsity;
    truth = at_keeps _ _ h.truth;
    and = at_keeps _ _ h.and;
    or = at_keeps _ _ h.or;
    bool = type_keeps _ _ h.bool;
    names = names_keep c.names h.names;
  }

  pub formula_keeps : (t : ℕ) → HasFormula s t → HasFormula u t
  formula_keeps t h = record { there = keeps.terms t h.there; formula = rw (keeps.trees t h.there) h.formula }

  pub formulas_keep : (ts : List ℕ) → HasFormulas s ts → HasFormulas u ts
  formulas_keep ts all = record { each = λ t h. formula_keeps t (all.each t h) }

  pub context_keeps : (ts : List ℕ) → IsContext s ts → IsContext u ts
  context_keeps ts h = record {
    formulas = formulas_keep ts h.formulas;
    no_open = λ t i. rw (keeps.trees t (h.formulas.each t i).there) (h.no_open t i);
  }

-- What a kernel holds, what is true of it, and how it goes on.
use Rattle.std.specs.Prelude.{◌≡◌, ℕ, ◌<◌, ◌⊎◌, ◌++◌, List, [], ◌∷◌, length, filter, slice_get, slice_index, slice_index_or, Some, Bool, true, false, IsTrue}
use Rattle.hol_types.specs.Ty.{BoolTy}
use Rattle.hol_terms.specs.Term.{Term, ty_of}
use Rattle.hol_terms.specs.Constants.{false_tm, disjunction}
use Rattle.hol_terms.specs.declared.tables.Mark.{Mark}
use Rattle.hol_terms.specs.TermStore.{TermStore, term_tree, Keeps}
use Rattle.hol_terms.specs.Formula.{In, AllFormulas, SameMembers}
use Rattle.hol_terms.specs.Derivable.{Derivable}
use Rattle.lcf_kernel.specs.Hyps.{Rises, SameIds}
use Rattle.lcf_kernel.specs.Known.{Known, AllKnown}
use Rattle.hol_formulas.specs.Constants.{AreConstants}
use Rattle.hol_formulas.specs.Found.{AreVariables}
use Rattle.hol_formulas.specs.FoundTypes.{type_variables_in, AreTypeVariables}
use Rattle.hol_formulas.specs.Formulas.{trees, HasFormula, HasFormulas, IsContext}
use Rattle.hol_formulas.specs.declared.formula.Constants.{Constants}
use Rattle.lcf_kernel.specs.declared.kernel.Records.{Records}
use Rattle.lcf_kernel.specs.declared.thm.Made.{Made}
use Rattle.lcf_kernel.specs.declared.thm.Made.TheVariants.{Rule, Adopted, Opened}
use Rattle.lcf_kernel.specs.declared.thm.Thm.{Thm}

pub record KernelState : Type 0 where
  -- the names, types and terms
  pub store : TermStore
  -- how much of them is the base's
  pub base : Mark
  -- the numbers of HOL's constants
  pub constants : Constants
  -- the numbers of the facts
  pub facts : List ℕ
  -- the numbers of the formulas that are hypotheses of each record
  pub context : List ℕ
  -- the numbers of the context's free variables
  pub variables : List ℕ
  -- the numbers of the types that are the context's type variables
  pub type_variables : List ℕ
  -- the records, in the order in which they were made
  pub thms : List Thm

-- what it holds beside the terms
abbrev pub records_of : KernelState → Records
records_of k = record { base = k.base; constants = k.constants; facts = k.facts; context = k.context; variables = k.variables; type_variables = k.type_variables; thms = k.thms }

-- ---- records

-- there is such a record
abbrev pub HasThm : KernelState → ℕ → Type 0
HasThm k t = t < length k.thms

-- the record of a number
abbrev pub thm_at : KernelState → ℕ → Thm
thm_at k t = slice_index_or k.thms t (record { hyps = []; concl = 0; made = Rule; bare = false })

-- its conclusion
abbrev pub concl_of : KernelState → ℕ → Term
concl_of k t = term_tree k.store (thm_at k t).concl

-- its hypotheses outside the context
abbrev pub hyps_of : KernelState → ℕ → List Term
hyps_of k t = trees k.store (thm_at k t).hyps

-- whether it was derived without facts
abbrev pub bare_of : KernelState → ℕ → Bool
bare_of k t = (thm_at k t).bare

abbrev pub facts_of : KernelState → List Term
facts_of k = trees k.store k.facts

-- the fact of a number
abbrev pub fact_of : KernelState → ℕ → Term
fact_of k i = term_tree k.store (slice_index k.facts i)

abbrev pub context_of : KernelState → List Term
context_of k = trees k.store k.context

-- the context and the hypotheses of a record
abbrev pub all_hyps_of : KernelState → ℕ → List Term
all_hyps_of k t = context_of k ++ hyps_of k t

abbrev pub is_adopted : Made → Bool
is_adopted Rule = false
is_adopted Adopted = true
is_adopted Opened = false

abbrev pub is_opened : Made → Bool
is_opened Rule = false
is_opened Adopted = false
is_opened Opened = true

-- the adopted records, in order
abbrev pub adopted_of : List Thm → List Thm
adopted_of thms = filter (λ r. is_adopted r.made) thms

-- the opened records, in order
abbrev pub opened_of : List Thm → List Thm
opened_of thms = filter (λ r. is_opened r.made) thms

-- the kernel with one record more
abbrev pub with_thm : KernelState → Thm → KernelState
with_thm k r = record k { thms = k.thms ++ r ∷ [] }

-- ---- what is true of a kernel

-- hypotheses of a record: formulas outside the context, in rising order
pub record AreHyps (s : TermStore) (context hyps : List ℕ) : Type 0 where
  pub formulas : HasFormulas s hyps
  pub rises : Rises hyps
  pub outside : (t : ℕ) → In t hyps → In t context → ⊥

-- a formula is derivable from the facts, and without them where it is bare
pub record Follows (facts hyps : List Term) (is_bare : Bool) (f : Term) : Type 0 where
  pub derivable : Derivable facts hyps f
  pub bare : IsTrue is_bare → Derivable [] hyps f

-- a record: its conclusion follows from the facts under the context and its hypotheses
pub record IsThm (s : TermStore) (facts context : List ℕ) (r : Thm) : Type 0 where
  pub concl : HasFormula s r.concl
  pub hyps : AreHyps s context r.hyps
  pub follows : Follows (trees s facts) (trees s context ++ trees s r.hyps) r.bare (term_tree s r.concl)

pub record IsKernel (k : KernelState) : Type 0 where
  pub facts : HasFormulas k.store k.facts
  pub context : IsContext k.store k.context
  pub thms : (t : ℕ) (r : Thm) → slice_get k.thms t ≡ Some r → IsThm k.store k.facts k.context r

-- a kernel with the numbers of its constants, its context in rising order, the context's free variables and type variables, and what is
-- known of formulas
pub record IsInside (k : KernelState) (numbers : Constants) (ordered : List ℕ) (known : Known) : Type 0 where
  pub kernel : IsKernel k
  pub constants : AreConstants k.store numbers
  pub rises : Rises ordered
  pub same : SameIds ordered k.context
  pub variables : AreVariables k.store k.variables (context_of k)
  pub variables_rise : Rises k.variables
  pub type_variables : AreTypeVariables k.store.types k.type_variables (type_variables_in (context_of k))
  pub knows : AllKnown k.store known

-- ---- how a kernel goes on

-- base, facts, context and earlier terms and records stay
pub record KeepsRecords (old new : KernelState) : Type 0 where
  pub store : Keeps old.store new.store
  pub base : new.base ≡ old.base
  pub constants : new.constants ≡ old.constants
  pub facts : new.facts ≡ old.facts
  pub context : new.context ≡ old.context
  pub variables : new.variables ≡ old.variables
  pub type_variables : new.type_variables ≡ old.type_variables
  pub fact_trees : facts_of new ≡ facts_of old
  pub context_trees : context_of new ≡ context_of old
  -- each record is still there
  pub has : (t : ℕ) → HasThm old t → HasThm new t
  pub thms : (t : ℕ) → HasThm old t → thm_at new t ≡ thm_at old t
  -- and says the same
  pub concls : (t : ℕ) → HasThm old t → concl_of new t ≡ concl_of old t
  pub hyps : (t : ℕ) → HasThm old t → hyps_of new t ≡ hyps_of old t

-- and nothing was adopted or opened
pub record KeepsAll (old new : KernelState) : Type 0 where
  pub records : KeepsRecords old new
  pub adopted : adopted_of new.thms ≡ adopted_of old.thms
  pub opened : opened_of new.thms ≡ opened_of old.thms

-- ---- sets of hypotheses

-- the members of the second list that aren't in the first, the context
pub record IsOutside (context given hyps : List Term) : Type 0 where
  pub to : (t : Term) → In t given → In t context ⊎ In t hyps
  pub from : (t : Term) → In t hyps → In t given
  pub apart : (t : Term) → In t hyps → In t context → ⊥

-- the numbers serve as hypotheses, and their trees are those of the list
pub record GivesHyps (k : KernelState) (numbers : List ℕ) (given : List Term) : Type 0 where
  pub hyps : AreHyps k.store k.context numbers
  pub formulas : AllFormulas (context_of k ++ trees k.store numbers)
  pub same : SameMembers (trees k.store numbers) given

-- ---- conditions of rules

-- the record concludes false, and the term is of type Bool
pub record IsRefutation (k : KernelState) (a t : ℕ) : Type 0 where
  pub falsity : concl_of k a ≡ false_tm
  pub bool : ty_of (term_tree k.store t) ≡ BoolTy

-- the first record concludes a disjunction, and the others conclude the same formula
pub record AreCases (k : KernelState) (a b c : ℕ) : Type 0 where
  pub left : Term
  pub right : Term
  pub either : concl_of k a ≡ disjunction left right
  pub same : concl_of k c ≡ concl_of k b

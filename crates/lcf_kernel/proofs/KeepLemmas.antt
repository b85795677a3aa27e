-- What is true of a kernel stays so as terms and records are added.
use Rattle.std.proofs.Common.{◌≡◌, ◌++◌, ◌∙◌, ◌∷◌, [], refl, sym, subst, ap, ◌⊎◌, ℕ, List, inl, inr, slice_get, Some, length, get_or, ◌<◌, arith, cond, false}
use Rattle.std.proofs.lemmas.Option.{slice_get-get_or, none-some}
use Rattle.std.proofs.lemmas.List.{length-append}
use Rattle.std.proofs.lemmas.List.Elements.{filter-append}
use Rattle.std.proofs.Math.ListN.{get_or-append}
use Rattle.std.proofs.Math.Seq.{get_or-append_seam}
use Rattle.hol_types.proofs.Places.{slice_get-push}
use Rattle.hol_terms.specs.TermStore.{TermStore, term_tree, Keeps}
use Rattle.hol_terms.specs.declared.tables.Mark.{Mark}
use Rattle.hol_formulas.specs.Constants.{AreConstants}
use Rattle.lcf_kernel.specs.Hyps.{Rises, SameIds}
use Rattle.hol_formulas.specs.declared.formula.Constants.{Constants}
use Rattle.lcf_kernel.specs.declared.kernel.Records.{Records}
use Rattle.lcf_kernel.specs.declared.thm.Thm.{Thm}
use Rattle.hol_terms.proofs.KeepsLemmas.{keeps_refl, keeps_trans}
use Rattle.lcf_kernel.specs.declared.thm.Made.TheVariants.{Rule}
use Rattle.lcf_kernel.specs.KernelState.{KernelState, records_of, HasThm, thm_at, is_adopted, is_opened, adopted_of, opened_of, with_thm, AreHyps, IsThm, IsKernel, IsInside, KeepsRecords, KeepsAll}
use Rattle.hol_formulas.specs.Found.{AreVariables}
use Rattle.hol_formulas.specs.FoundTypes.{type_variables_in, AreTypeVariables}
use Rattle.hol_formulas.proofs.FoundLemmas.{variables_keep}
use Rattle.hol_formulas.proofs.UnchangedTypes.{type_variables_keep}
use Rattle.hol_formulas.specs.Formulas.{trees, HasFormulas, IsContext}
use Rattle.hol_formulas.proofs.GrowthLemmas.{trees_keep, constants_keep, formula_keeps, formulas_keep, context_keeps}
use Rattle.lcf_kernel.specs.Known.{Known, AllKnown}
use Rattle.lcf_kernel.proofs.KnownLemmas.{known_keep, nothing_known}

-- ---- a store that goes on

module _ (s u : TermStore) (keeps : Keeps s u) where
  pub hyps_keep : (context hyps : List ℕ) → AreHyps s context hyps → AreHyps u context hyps
  hyps_keep context hyps h = record { formulas = formulas_keep s u keeps hyps h.formulas; rises = h.rises; outside = h.outside }

  pub thm_keeps : (facts context : List ℕ) (r : Thm) → HasFormulas s facts → HasFormulas s context → IsThm s facts context r → IsThm u facts context r
  thm_keeps facts context r fs cs thm = record {
    concl = formula_keeps s u keeps r.concl thm.concl;
    hyps = hyps_keep context r.hyps thm.hyps;
    follows = rw (trees_keep s u keeps facts fs, trees_keep s u keeps context cs, trees_keep s u keeps r.hyps thm.hyps.formulas, keeps.trees r.concl thm.concl.there) thm.follows;
  }

module _ (k : KernelState) (u : TermStore) (base : Mark) (keeps : Keeps k.store u) where
  pub kernel_keeps : IsKernel k → IsKernel (record k { store = u; base = base })
  kernel_keeps is = record {
    facts = formulas_keep k.store u keeps k.facts is.facts;
    context = context_keeps k.store u keeps k.context is.context;
    thms = λ t r h. thm_keeps k.store u keeps k.facts k.context r is.facts is.context.formulas (is.thms t r h);
  }

  pub inside_keeps : (c : Constants) (ordered : List ℕ) (known : Known) → IsInside k c ordered known → IsInside (record k { store = u; base = base }) c ordered known
  inside_keeps c ordered known is = record {
    kernel = kernel_keeps is.kernel;
    constants = constants_keep k.store u keeps c is.constants;
    rises = is.rises;
    same = is.same;
    variables = variables_keep k.store u keeps k.variables k.context is.kernel.context.formulas is.variables;
    variables_rise = is.variables_rise;
    type_variables = type_variables_keep k.store u keeps k.type_variables k.context is.kernel.context.formulas is.type_variables;
    knows = known_keep keeps is.knows;
  }

-- and what is known of formulas may be other than it was
pub knows_more : {k : KernelState} {c : Constants} {ordered : List ℕ} {old new : Known} → IsInside k c ordered old → AllKnown k.store new → IsInside k c ordered new
knows_more is knows = record { kernel = is.kernel; constants = is.constants; rises = is.rises; same = is.same; variables = is.variables; variables_rise = is.variables_rise; type_variables = is.type_variables; knows = knows }

-- a kernel that is the same at first
pub keeps_all_from : {a b c : KernelState} → b ≡ a → KeepsAll b c → KeepsAll a c
keeps_all_from {a} {b} {c} same keeps = subst (λ (k : KernelState). KeepsAll k c) same keeps

-- and one that is the same at last
pub keeps_all_to : {a b c : KernelState} → c ≡ b → KeepsAll a b → KeepsAll a c
keeps_all_to {a} {b} {c} same keeps = subst (λ (k : KernelState). KeepsAll a k) (sym same) keeps

-- ---- records

-- what is true of the record of a number
pub thm_is : (k : KernelState) → IsKernel k → (t : ℕ) → HasThm k t → IsThm k.store k.facts k.context (thm_at k t)
thm_is k is t h = is.thms t (thm_at k t) (slice_get-get_or k.thms t _ h)

-- the hypotheses of what stands at a number
pub own_hyps : (k : KernelState) → IsKernel k → (t : ℕ) (r : Thm) → HasThm k t → r ≡ get_or k.thms t r → HasFormulas k.store r.hyps
own_hyps k is t r h e = (is.thms t r (slice_get-get_or k.thms t r h ∙ ap (λ (q : Thm). Some q) (sym e))).hyps.formulas

-- a kernel whose terms alone have changed
pub keeps_all_terms : (old new : KernelState) → IsKernel old → Keeps old.store new.store → new.base ≡ old.base → new.constants ≡ old.constants → new.facts ≡ old.facts → new.context ≡ old.context → new.variables ≡ old.variables → new.type_variables ≡ old.type_variables → new.thms ≡ old.thms → KeepsAll old new
keeps_all_terms old new is keeps same_base same_constants same_facts same_context same_variables same_types same_thms = record {
  records = record {
    store = keeps;
    base = same_base;
    constants = same_constants;
    facts = same_facts;
    context = same_context;
    variables = same_variables;
    type_variables = same_types;
    fact_trees = ap (λ ts. trees new.store ts) same_facts ∙ trees_keep old.store new.store keeps old.facts is.facts;
    context_trees = ap (λ ts. trees new.store ts) same_context ∙ trees_keep old.store new.store keeps old.context is.context.formulas;
    has = λ t h. subst (λ ts. t < length ts) (sym same_thms) h;
    thms = λ t h. thms t;
    concls = λ t h. ap (λ (r : Thm). term_tree new.store r.concl) (thms t) ∙ keeps.trees (thm_at old t).concl (thm_is old is t h).concl.there;
    hyps = λ t h. ap (λ (r : Thm). trees new.store r.hyps) (thms t) ∙ trees_keep old.store new.store keeps (thm_at old t).hyps (thm_is old is t h).hyps.formulas;
  };
  adopted = ap (λ ts. adopted_of ts) same_thms;
  opened = ap (λ ts. opened_of ts) same_thms;
}
  where
    thms : (t : ℕ) → thm_at new t ≡ thm_at old t
    thms t = ap (λ ts. get_or ts t (record { hyps = []; concl = 0; made = Rule; bare = false })) same_thms

pub keeps_all_refl : (k : KernelState) → Keeps k.store k.store → KeepsAll k k
keeps_all_refl k keeps = record {
  records = record { store = keeps; base = refl; constants = refl; facts = refl; context = refl; variables = refl; type_variables = refl; fact_trees = refl; context_trees = refl; has = λ t h. h; thms = λ t h. refl; concls = λ t h. refl; hyps = λ t h. refl };
  adopted = refl;
  opened = refl;
}

pub keeps_records_trans : (a b c : KernelState) → Keeps a.store c.store → KeepsRecords a b → KeepsRecords b c → KeepsRecords a c
keeps_records_trans a b c keeps f g = record {
  store = keeps;
  base = g.base ∙ f.base;
  constants = g.constants ∙ f.constants;
  facts = g.facts ∙ f.facts;
  context = g.context ∙ f.context;
  variables = g.variables ∙ f.variables;
  type_variables = g.type_variables ∙ f.type_variables;
  fact_trees = g.fact_trees ∙ f.fact_trees;
  context_trees = g.context_trees ∙ f.context_trees;
  has = λ t h. g.has t (f.has t h);
  thms = λ t h. g.thms t (f.has t h) ∙ f.thms t h;
  concls = λ t h. g.concls t (f.has t h) ∙ f.concls t h;
  hyps = λ t h. g.hyps t (f.has t h) ∙ f.hyps t h;
}

-- ---- one record more

module _ (k : KernelState) (r : Thm) where
  each : (is : IsKernel k) → IsThm k.store k.facts k.context r → (t : ℕ) (q : Thm) → (slice_get k.thms t ≡ Some q) ⊎ ((t ≡ length k.thms) × (r ≡ q)) → IsThm k.store k.facts k.context q
  each is thm t q (inl h) = is.thms t q h
  each is thm t q (inr h) = subst (λ p. IsThm k.store k.facts k.context p) h.1 thm

  pub kernel_with : IsKernel k → IsThm k.store k.facts k.context r → IsKernel (with_thm k r)
  kernel_with is thm = record { facts = is.facts; context = is.context; thms = λ t q h. each is thm t q (slice_get-push k.thms r t q h) }

  pub inside_with : (c : Constants) (ordered : List ℕ) (known : Known) → IsInside k c ordered known → IsThm k.store k.facts k.context r → IsInside (with_thm k r) c ordered known
  inside_with c ordered known is thm = record { kernel = kernel_with is.kernel thm; constants = is.constants; rises = is.rises; same = is.same; variables = is.variables; variables_rise = is.variables_rise; type_variables = is.type_variables; knows = is.knows }

  kept_at : (t : ℕ) → HasThm k t → thm_at (with_thm k r) t ≡ thm_at k t
  kept_at t h = get_or-append k.thms (r ∷ []) _ t h

  pub new_at : thm_at (with_thm k r) (length k.thms) ≡ r
  new_at = get_or-append_seam k.thms r [] _

  pub has_new : HasThm (with_thm k r) (length k.thms)
  has_new = omega (arith, length-append k.thms (r ∷ []))

  pub keeps_records_with : Keeps k.store k.store → KeepsRecords k (with_thm k r)
  keeps_records_with keeps = record {
    store = keeps;
    base = refl;
    constants = refl;
    facts = refl;
    context = refl;
    variables = refl;
    type_variables = refl;
    fact_trees = refl;
    context_trees = refl;
    has = λ t h. omega (arith, h, length-append k.thms (r ∷ []));
    thms = kept_at;
    concls = λ t h. ap (λ (q : Thm). term_tree k.store q.concl) (kept_at t h);
    hyps = λ t h. ap (λ (q : Thm). trees k.store q.hyps) (kept_at t h);
  }

  pub adopted_with : adopted_of (with_thm k r).thms ≡ adopted_of k.thms ++ cond (is_adopted r.made) (r ∷ []) []
  adopted_with = filter-append (λ (q : Thm). is_adopted q.made) k.thms (r ∷ [])

  pub opened_with : opened_of (with_thm k r).thms ≡ opened_of k.thms ++ cond (is_opened r.made) (r ∷ []) []
  opened_with = filter-append (λ (q : Thm). is_opened q.made) k.thms (r ∷ [])

-- ---- the first kernel

pub inside_new : (base u : TermStore) → Keeps base u → (m : Mark) (facts context ordered vars types : List ℕ) (c : Constants) (known : Known) → known.entries ≡ [] → HasFormulas base facts → IsContext base context → AreConstants u c → Rises ordered → SameIds ordered context → Rises vars → AreVariables base vars (trees base context) → AreTypeVariables base.types types (type_variables_in (trees base context))
    → IsInside (record { store = u; base = m; constants = c; facts = facts; context = context; variables = vars; type_variables = types; thms = [] }) c ordered known
inside_new base u keeps m facts context ordered vars types c known none fs cs are rises same vars_rise vars_are types_are = record {
  kernel = record {
    facts = formulas_keep base u keeps facts fs;
    context = context_keeps base u keeps context cs;
    thms = λ t r h. absurd (none-some r h);
  };
  constants = are;
  rises = rises;
  same = same;
  variables = variables_keep base u keeps vars context cs.formulas vars_are;
  variables_rise = vars_rise;
  type_variables = type_variables_keep base u keeps types context cs.formulas types_are;
  knows = nothing_known u known none;
}

-- a kernel whose terms alone have changed, as the calls of the trait say it
pub keeps_all_rest : (old new : KernelState) → IsKernel old → Keeps old.store new.store → records_of new ≡ records_of old → KeepsAll old new
keeps_all_rest old new is keeps same = keeps_all_terms old new is keeps (ap (λ (r : Records). r.base) same) (ap (λ (r : Records). r.constants) same) (ap (λ (r : Records). r.facts) same) (ap (λ (r : Records). r.context) same) (ap (λ (r : Records). r.variables) same) (ap (λ (r : Records). r.type_variables) same) (ap (λ (r : Records). r.thms) same)

pub keeps_all_trans : {a b c : KernelState} → KeepsAll a b → KeepsAll b c → KeepsAll a c
keeps_all_trans {a} {b} {c} f g = record {
  records = keeps_records_trans a b c (keeps_trans f.records.store g.records.store) f.records g.records;
  adopted = g.adopted ∙ f.adopted;
  opened = g.opened ∙ f.opened;
}

pub keeps_all_same : (k : KernelState) → KeepsAll k k
keeps_all_same k = keeps_all_refl k (keeps_refl k.store)

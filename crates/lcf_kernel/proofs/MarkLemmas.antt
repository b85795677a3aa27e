-- A kernel that goes on, and what it held at a mark.
use Rattle.std.proofs.Common.{◌≡◌, ◌∙◌, ◌<◌, ◌≤◌, ◌+◌, [], refl, ap₂, sym, subst, ℕ, zero, suc, List, length, take, get_or, arith}
use Rattle.std.proofs.lemmas.List.{take_all, take_more_same}
use Rattle.hol_terms.specs.TermStore.{TermStore}
use Rattle.hol_terms.specs.TermStore as terms
use Rattle.hol_terms.proofs.KeepsLemmas.{may_reset_kept as store_may_reset}
use Rattle.lcf_kernel.specs.declared.mark.KernelMark.{KernelMark}
use Rattle.lcf_kernel.specs.declared.thm.Thm.{Thm}
use Rattle.hol_formulas.specs.Constants.{AreConstants}
use Rattle.hol_formulas.specs.Formulas.{trees}
use Rattle.hol_formulas.specs.Found.{AreVariables}
use Rattle.hol_formulas.specs.FoundTypes.{type_variables_in, AreTypeVariables}
use Rattle.lcf_kernel.specs.KernelState.{KernelState, IsKernel, IsInside, context_of, KeepsRecords}
use Rattle.lcf_kernel.specs.Known.{Known}
use Rattle.lcf_kernel.specs.Marks.{MayReset, cut}
use Rattle.lcf_kernel.proofs.KnownLemmas.{nothing_known}

-- two lists that are equal below a number are equal so far
take_same : (xs ys : List Thm) (d : Thm) (n : ℕ) → n ≤ length xs → n ≤ length ys → ((i : ℕ) → i < n → get_or xs i d ≡ get_or ys i d) → take n xs ≡ take n ys
take_same xs ys d zero left right same = refl
take_same xs ys d (suc n) left right same =
    let rest : take n xs ≡ take n ys = take_same xs ys d n (omega arith) (omega arith) (λ i h. same i (omega arith)) in
    let more : take (n + 1) xs ≡ take (n + 1) ys = take_more_same xs ys n d (omega arith) (omega arith) rest (same n (omega arith)) in
    let e : suc n ≡ n + 1 = omega arith in
    subst (λ (m : ℕ). take m xs ≡ take m ys) (sym e) more

-- what a kernel held at a mark it holds there still, as it goes on
pub cut_kept : {k l : KernelState} {m : KernelMark} → KeepsRecords k l → MayReset m k → cut m l ≡ cut m k
cut_kept {k} {l} {m} keeps may =
    let store = keeps.store.back m.store may.store.fits in
    let base = keeps.base in
    let constants = keeps.constants in
    let facts = keeps.facts in
    let context = keeps.context in
    let variables = keeps.variables in
    let type_variables = keeps.type_variables in
    let fits : m.thms ≤ length l.thms = below m.thms may.thms in
    let thms = take_same l.thms k.thms _ m.thms fits may.thms (λ i h. keeps.thms i (omega (arith, h, may.thms))) in
    cc
  where
    below : (n : ℕ) → n ≤ length k.thms → n ≤ length l.thms
    below zero h = omega arith
    below (suc n) h = let there : n < length l.thms = keeps.has n (omega arith) in omega arith

-- and a reset gives it back
pub reset_back : (k l was : KernelState) (m : KernelMark) → l ≡ cut m k → MayReset m was → cut m was ≡ was → KeepsRecords was k → l ≡ was
reset_back k l was m is may whole keeps = is ∙ cut_kept keeps may ∙ whole

-- and may still be reset to it
pub may_reset_kept : {k l : KernelState} {m : KernelMark} → KeepsRecords k l → MayReset m k → MayReset m l
may_reset_kept {k} {l} {m} keeps may =
    let same = cut_kept keeps may in
    let fits : m.thms ≤ length l.thms = below m.thms may.thms in
    record {
      store = store_may_reset keeps.store keeps.base may.store;
      thms = fits;
      constants = rw (keeps.store.back m.store may.store.fits, keeps.constants) may.constants;
      variables = rw (keeps.store.back m.store may.store.fits, keeps.variables, keeps.context) may.variables;
      type_variables = rw (keeps.type_variables, keeps.context) (subst (λ (s : TermStore). AreTypeVariables s.types k.type_variables (type_variables_in (trees s k.context))) (sym (keeps.store.back m.store may.store.fits)) may.type_variables);
      kernel = subst (λ (j : KernelState). IsKernel j) (sym same) may.kernel;
    }
  where
    below : (n : ℕ) → n ≤ length k.thms → n ≤ length l.thms
    below zero h = omega arith
    below (suc n) h = let there : n < length l.thms = keeps.has n (omega arith) in omega arith

-- the mark of a kernel as it is
pub may_reset_now : (k : KernelState) → IsKernel k → AreConstants k.store k.constants → AreVariables k.store k.variables (context_of k) → AreTypeVariables k.store.types k.type_variables (type_variables_in (context_of k)) → (m : KernelMark) → terms.MayReset m.store (record { store = k.store; base = k.base }) → terms.cut m.store k.store ≡ k.store → m.thms ≡ length k.thms
    → (cut m k ≡ k) × MayReset m k
may_reset_now k is are vars types m store whole thms =
    let front : take m.thms k.thms ≡ k.thms = take_all m.thms k.thms (omega arith) in
    let same : cut m k ≡ k = ap₂ (λ s ts. record k { store = s; thms = ts }) whole front in
    (same, record { store = store; thms = omega arith; constants = rw whole are; variables = rw whole vars; type_variables = subst (λ (s : TermStore). AreTypeVariables s.types k.type_variables (type_variables_in (trees s k.context))) (sym whole) types; kernel = subst (λ (j : KernelState). IsKernel j) (sym same) is })

-- the kernel that was, inside
pub inside_cut : (k : KernelState) (ordered : List ℕ) (known none : Known) (m : KernelMark) → IsInside k k.constants ordered known → none.entries ≡ [] → MayReset m k → IsInside (cut m k) k.constants ordered none
inside_cut k ordered known none m is empty may = record { kernel = may.kernel; constants = may.constants; rises = is.rises; same = is.same; variables = may.variables; variables_rise = is.variables_rise; type_variables = may.type_variables; knows = nothing_known (terms.cut m.store k.store) none empty }

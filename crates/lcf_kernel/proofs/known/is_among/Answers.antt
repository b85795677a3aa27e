use Rattle.std.proofs.Common.{◌≡◌, ◌∙◌, ap, sym, ℕ, List}
use Rattle.lcf_kernel.specs.Hyps.{stands}
use Rattle.lcf_kernel.proofs.KnownLemmas.{free_among, among_free}
use Rattle.lcf_kernel.proofs.known.is_among.Goals as goal

pub returns : goal.returns
returns c =
    let s = c.args.store.now.store in
    let apart = c.node-apart.ensures.apart in
    let same : c.holds.result ≡ stands c.args.v c.args.found.now.free = c.holds.ensures ∙ ap (λ (xs : List ℕ). stands c.args.v xs) c.as_slice.ensures in
    (λ h. free_among s apart c.args.t c.args.found.now c.requires.found c.args.v c.requires.variable (sym same ∙ h), λ h. same ∙ among_free s apart c.args.t c.args.found.now c.requires.found c.args.v c.requires.variable h)

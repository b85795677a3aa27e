use Rattle.lcf_kernel.proofs.KeepLemmas.{keeps_all_trans}
use Rattle.lcf_kernel.proofs.KeptLemmas.{has_kept, term_kept, closed_kept}
use Rattle.bench_kernel.proofs.measured.records.Goals as goal

pub returns : goal.returns
returns c =
    let after_refl = c.all_i.ensures.keeps in
    let after_imp_i = keeps_all_trans c.refl.ensures.keeps after_refl in
    let after_assume = keeps_all_trans c.imp_i.ensures.keeps after_imp_i in
    let all = keeps_all_trans c.assume.ensures.keeps after_assume in
    record {
      x = term_kept all c.requires.there;
      lambda = term_kept all c.requires.lambda_there;
      x_closed = closed_kept all c.requires.there c.requires.closed;
      lambda_closed = closed_kept all c.requires.lambda_there c.requires.lambda_closed;
      assumed = has_kept after_assume c.in_ok-assumed.ensures.there;
      implication = has_kept after_imp_i c.in_ok-implication.ensures.there;
      equation = has_kept after_refl c.in_ok-equation.ensures.there;
      universal = c.in_ok-universal.ensures.there;
    }

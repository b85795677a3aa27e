use Rattle.std.proofs.Common.{◌∙◌}
use Rattle.hol_terms.specs.Term.{ty_of}
use Rattle.hol_terms.specs.TermStore.{term_tree}
use Rattle.hol_terms.specs.Derivable.{abstraction}
use Rattle.hol_terms.proofs.SetLemmas.{same_trans}
use Rattle.lcf_kernel.proofs.KeepLemmas.{keeps_all_trans}
use Rattle.lcf_kernel.proofs.KeptLemmas.{term_kept, tree_kept}
use Rattle.hol_logic.proofs.StateLemmas.{passed_shape}
use Rattle.hol_logic.proofs.EquationLemmas.{agree_from, agree_says, general_same, general_after}
use Rattle.hol_logic.proofs.abstraction.abstracted.Goals as goal

pub ext-requires-clause-thm : goal.ext-requires-clause-thm
ext-requires-clause-thm c = c.in_ok-both.ensures.states.there

pub ext-requires-clause-there : goal.ext-requires-clause-there
ext-requires-clause-there c = term_kept c.agreeing.ensures.keeps c.requires.variable

pub returns-clause-states : goal.returns-clause-states
returns-clause-states c =
    let both = c.in_ok-both.ensures.states in
    let found = rw (tree_kept c.agreeing.ensures.keeps c.requires.variable) at c.in_ok-r.ensures.concl in
    record {
      there = c.in_ok-r.ensures.there;
      concl = found.3 ∙ agree_says found.2 both.concl;
      hyps = same_trans c.in_ok-r.ensures.hyps both.hyps;
      bare = c.in_ok-r.ensures.bare ∙ both.bare;
    }

pub returns-clause-ok : goal.returns-clause-ok
returns-clause-ok c =
    let v = term_tree c.args.k.now.store c.args.v in
    let both = c.in_ok-both.ensures.states in
    let found = rw (tree_kept c.agreeing.ensures.keeps c.requires.variable) at c.in_ok-r.ensures.concl in
    general_same c.args.k.now c.agreeing.new.k c.args.a c.in_ok-both.both v c.agreeing.ensures.keeps.records.context_trees both.hyps found.2.general

pub returns-in_err-r-clause-shape : goal.returns-in_err-r-clause-shape
returns-in_err-r-clause-shape c =
    let s = c.args.k.now.store in
    let m = c.agreeing.new.k in
    let v = term_tree s c.args.v in
    let left = term_tree s c.args.sides.left in
    let right = term_tree s c.args.sides.right in
    let both = c.in_ok-both.ensures.states in
    let refused = rw (tree_kept c.agreeing.ensures.keeps c.requires.variable) at c.in_err-r.ensures.shape in
    passed_shape c.from_residual-in_err-r.result c.in_err-r.field-0.0 c.from_residual-in_err-r.ensures.1 (λ e general.
    refused e (abstraction v left) (abstraction v right)
    (agree_from (ty_of left) v left right both.concl (general_after c.args.k.now m c.args.a c.in_ok-both.both v c.agreeing.ensures.keeps.records.context_trees both.hyps general)))

pub returns-in_err-both-clause-keeps : goal.returns-in_err-both-clause-keeps
returns-in_err-both-clause-keeps c = c.agreeing.ensures.keeps

pub returns-in_err-r-clause-keeps : goal.returns-in_err-r-clause-keeps
returns-in_err-r-clause-keeps c = keeps_all_trans c.agreeing.ensures.keeps c.ext.ensures.keeps

pub returns-clause-keeps : goal.returns-clause-keeps
returns-clause-keeps c = keeps_all_trans c.agreeing.ensures.keeps c.ext.ensures.keeps

use Rattle.std.proofs.Common.{◌≡◌, ◌∙◌, ap, sym, subst}
use Rattle.hol_terms.specs.Term.{LamTm, ty_of}
use Rattle.hol_terms.specs.Substitution.{IsClosed}
use Rattle.hol_terms.specs.TermStore.{term_tree}
use Rattle.hol_terms.specs.Constants.{equation}
use Rattle.lcf_kernel.specs.KernelState.{concl_of}
use Rattle.lcf_kernel.proofs.KeepLemmas.{keeps_all_trans}
use Rattle.hol_logic.proofs.StateLemmas.{beside_kept, substituted, passed_on}
use Rattle.hol_logic.proofs.equality.rewritten.Goals as goal

pub lambda-requires-clause-typed : goal.lambda-requires-clause-typed
lambda-requires-clause-typed c = rw c.ty-ty.ensures.ty c.requires.function.typed

pub subst-requires-clause-left : goal.subst-requires-clause-left
subst-requires-clause-left c = c.lambda.ensures.keeps.records.has c.args.a c.requires.equates.there

pub subst-requires-clause-right : goal.subst-requires-clause-right
subst-requires-clause-right c = c.lambda.ensures.keeps.records.has c.args.b c.requires.thm

pub subst-requires-clause-there : goal.subst-requires-clause-there
subst-requires-clause-there c = c.in_ok-p.ensures.is.there

pub subst-requires-clause-closed : goal.subst-requires-clause-closed
subst-requires-clause-closed c = subst (λ t. IsClosed t) (sym c.in_ok-p.ensures.is.is) c.requires.function.closed

pub returns-clause-states : goal.returns-clause-states
returns-clause-states c =
    let s = c.args.k.now.store in
    let k = c.lambda.new.k in
    let keeps = c.lambda.ensures.keeps.records in
    let left = term_tree s c.args.sides.left in
    let right = term_tree s c.args.sides.right in
    let body = term_tree s c.args.body in
    let p_is : term_tree k.store c.in_ok-p.p ≡ LamTm (ty_of left) body = c.in_ok-p.ensures.is.is ∙ ap (λ t. LamTm t body) c.ty-ty.ensures.ty in
    let said : concl_of k c.args.a ≡ equation (ty_of left) left right = keeps.concls c.args.a c.requires.equates.there ∙ c.requires.equates.concl in
    let found = c.in_ok-r.ensures.concl in
    beside_kept c.lambda.ensures.keeps c.requires.equates.there c.requires.thm
    (record {
      there = c.in_ok-r.ensures.there;
      concl = found.1 ∙ substituted found.0 (ty_of left) left right body p_is said;
      hyps = c.in_ok-r.ensures.hyps;
      bare = c.in_ok-r.ensures.bare;
    })

pub returns-in_err-r-clause-shape : goal.returns-in_err-r-clause-shape
returns-in_err-r-clause-shape c =
    let s = c.args.k.now.store in
    let keeps = c.lambda.ensures.keeps.records in
    let left = term_tree s c.args.sides.left in
    let body = term_tree s c.args.body in
    passed_on c.from_residual-in_err-r.result c.in_err-r.field-0.0 c.from_residual-in_err-r.ensures.1 (λ e. c.in_err-r.ensures.shape e (record {
      type = ty_of left;
      left = left;
      right = term_tree s c.args.sides.right;
      body = body;
      equal_is = keeps.concls c.args.a c.requires.equates.there ∙ c.requires.equates.concl;
      lambda_is = c.in_ok-p.ensures.is.is ∙ ap (λ t. LamTm t body) c.ty-ty.ensures.ty;
      said_is = keeps.concls c.args.b c.requires.thm ∙ c.requires.marked;
    }))

pub returns-in_err-p-clause-keeps : goal.returns-in_err-p-clause-keeps
returns-in_err-p-clause-keeps c = c.lambda.ensures.keeps

pub returns-in_err-r-clause-keeps : goal.returns-in_err-r-clause-keeps
returns-in_err-r-clause-keeps c = keeps_all_trans c.lambda.ensures.keeps c.subst.ensures.keeps

pub returns-clause-keeps : goal.returns-clause-keeps
returns-clause-keeps c = keeps_all_trans c.lambda.ensures.keeps c.subst.ensures.keeps

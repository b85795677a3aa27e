use Rattle.std.proofs.Common.{◌≡◌, ◌∙◌, ℕ, List, Ok, sym, ap, subst, length, take, true, false, arith}
use Rattle.std.proofs.lemmas.Result.{err_from_is_err_and}
use Rattle.hol_terms.specs.TermStore.{term_tree}
use Rattle.hol_terms.proofs.KeepsLemmas.{keeps_trans}
use Rattle.sexp.specs.Tree.{ListTree}
use Rattle.sexp.specs.Forest.{tree_at, trees_at}
use Rattle.goal_text.specs.declared.scope.Scope.{Scope}
use Rattle.goal_text.specs.Bounds.{AllFit}
use Rattle.goal_text.specs.Forms.{operands}
use Rattle.goal_text.specs.Terms.{terms_of}
use Rattle.goal_text.specs.Scope.{AreTerms, IsScope, binders_in, bound_by, env_of, form_at, rest_of, terms_at}
use Rattle.goal_text.proofs.ScopeLemmas.{env_kept, scope_kept}
use Rattle.goal_text.proofs.PartLemmas.{divisor_fails, divisor_read, form_kept, head_kept, is_divisor, list_read, term_fails, term_read, terms_done, there_pushed}
use Rattle.goal_text.proofs.ReadLemmas.{fails_same}
use Rattle.goal_text.proofs.TermLemmas.{parts_fit, pushed_on}
use Rattle.goal_text.proofs.term.+term.Goals as goal

pub terms_at-returns-in_err-n-clause-read : goal.terms_at-returns-in_err-n-clause-read
terms_at-returns-in_err-n-clause-read t c =
    let p = err_from_is_err_and c.from_residual.result c.from_residual.ensures.1 in
    let now = c.loop-after.base in
    let items = c.loop-after.terms.items in
    let inv = c.loop-after.invariant in
    let env = env_of c.args.base.now c.args.scope.now in
    let inner = env_of now c.loop-after.scope in
    let many : is_divisor c.args.divides (length items) ≡ true = ap (is_divisor c.args.divides) (sym (c.len.ensures ∙ c.loop-after.terms.ok.0)) ∙ sym c.is_divisor.ensures ∙ c.if-is_divisor.true in
    rw (p.1, p.2) (divisor_fails (terms_at now items) env inner c.args.divides (length items) _ _ inv.env inv.read c.in_err-n.field-0.0 _ _ c.in-Some.ensures.0 many c.in_err-n.ensures.read)

pub terms_at-returns-in_err-t-clause-read : goal.terms_at-returns-in_err-t-clause-read
terms_at-returns-in_err-t-clause-read t c =
    let p = err_from_is_err_and c.from_residual-in_err-t.result c.from_residual-in_err-t.ensures.1 in
    let now = c.loop-after.base in
    let items = c.loop-after.terms.items in
    let inv = c.loop-after.invariant in
    let env = env_of c.args.base.now c.args.scope.now in
    let inner = env_of now c.loop-after.scope in
    let many : is_divisor c.args.divides (length items) ≡ false = ap (is_divisor c.args.divides) (sym (c.len.ensures ∙ c.loop-after.terms.ok.0)) ∙ sym c.is_divisor.ensures ∙ c.if-is_divisor.false in
    rw (p.1, p.2) (term_fails (terms_at now items) env inner c.args.divides (length items) _ _ inv.env inv.read c.in_err-t.field-0.0 _ _ c.in-Some.ensures.0 many c.in_err-t.ensures.read)

pub terms_at-returns-clause-read : goal.terms_at-returns-clause-read
terms_at-returns-clause-read t c =
    let now = c.loop-after.base in
    let items = c.loop-after.terms.items in
    let inv = c.loop-after.invariant in
    terms_done (terms_at now items) (env_of c.args.base.now c.args.scope.now) (env_of now c.loop-after.scope) c.args.divides (length items) _ _ inv.env inv.read c.in_default.ensures

pub term_at-leave-requires-clause-head : goal.term_at-leave-requires-clause-head
term_at-leave-requires-clause-head t c = head_kept c.enter.new.base c.terms_at.new.base c.in_ok-form.form.head c.in_ok-parts.ensures.keeps c.in_ok-form.ensures.head

pub term_at-leave-requires-clause-bounds : goal.term_at-leave-requires-clause-bounds
term_at-leave-requires-clause-bounds t c =
    let u = c.terms_at.new.base in
    let n = bound_by c.in_ok-form.form.head in
    let fit = parts_fit c.enter.new.base u c.enter.new.scope n _ _ _ c.in_ok-parts.ensures.keeps c.in_ok-form.ensures.scope c.in_ok-parts.ensures.read in
    let P : Scope → List ℕ → Type 0 = λ s ts. AllFit (binders_in u (take n s.binders)) (terms_at u ts) in
    subst (λ s. P s c.deref.result.now) (sym c.in_ok-parts.ensures.scope) (subst (λ ts. P c.enter.new.scope ts) (sym c.deref.ensures.value) fit)

pub term_at-returns-in_err-t-clause-read : goal.term_at-returns-in_err-t-clause-read
term_at-returns-in_err-t-clause-read t c =
    let p = err_from_is_err_and c.from_residual-in_err-t.result c.from_residual-in_err-t.ensures.1 in
    let forest = c.args.forest.now in
    let tree = tree_at forest c.args.i in
    let at = c.start-at.result in
    let parts = trees_at forest c.in-Some-parts_at.first c.in-Some-parts_at.end in
    let is : tree ≡ ListTree at parts = c.in-Some-parts_at.ensures.0 ∙ ap (λ a. ListTree a parts) (sym c.start-at.ensures) in
    let s = c.enter.new.base in
    let u = c.terms_at.new.base in
    let head = c.in_ok-form.form.head in
    let e = c.in_ok-form.ensures in
    let k = c.in_ok-parts.ensures.keeps in
    let inner = env_of s c.enter.new.scope in
    let rest = trees_at forest c.in_ok-form.form.first c.in-Some-parts_at.end in
    let ts = terms_at u c.deref.result.now in
    let h : terms_of inner (rest_of head) rest ≡ Ok ts = ap (λ d. terms_of inner (operands d) rest) (sym c.divides.ensures) ∙ c.in_ok-parts.ensures.read ∙ ap (λ l. Ok (terms_at u l)) (sym c.deref.ensures.value) in
    let same : form_at u c.terms_at.new.scope head ≡ form_at s c.enter.new.scope head = ap (λ x. form_at u x head) c.in_ok-parts.ensures.scope ∙ form_kept s u c.enter.new.scope head k e.scope e.head in
    let whole = list_read (env_of c.args.base.now c.args.scope.now) tree at parts is inner rest (rest_of head) (form_at s c.enter.new.scope head) e.form e.inside e.parts (form_at u c.terms_at.new.scope head) ts h same in
    rw (p.1, p.2) (fails_same c.in_err-t.field-0.0 _ _ (sym whole) c.in_err-t.ensures.read)

pub term_at-returns-clause-read : goal.term_at-returns-clause-read
term_at-returns-clause-read t c =
    let forest = c.args.forest.now in
    let tree = tree_at forest c.args.i in
    let at = c.start-at.result in
    let parts = trees_at forest c.in-Some-parts_at.first c.in-Some-parts_at.end in
    let is : tree ≡ ListTree at parts = c.in-Some-parts_at.ensures.0 ∙ ap (λ a. ListTree a parts) (sym c.start-at.ensures) in
    let s = c.enter.new.base in
    let u = c.terms_at.new.base in
    let head = c.in_ok-form.form.head in
    let e = c.in_ok-form.ensures in
    let k = c.in_ok-parts.ensures.keeps in
    let inner = env_of s c.enter.new.scope in
    let rest = trees_at forest c.in_ok-form.form.first c.in-Some-parts_at.end in
    let ts = terms_at u c.deref.result.now in
    let h : terms_of inner (rest_of head) rest ≡ Ok ts = ap (λ d. terms_of inner (operands d) rest) (sym c.divides.ensures) ∙ c.in_ok-parts.ensures.read ∙ ap (λ l. Ok (terms_at u l)) (sym c.deref.ensures.value) in
    let same : form_at u c.terms_at.new.scope head ≡ form_at s c.enter.new.scope head = ap (λ x. form_at u x head) c.in_ok-parts.ensures.scope ∙ form_kept s u c.enter.new.scope head k e.scope e.head in
    list_read (env_of c.args.base.now c.args.scope.now) tree at parts is inner rest (rest_of head) (form_at s c.enter.new.scope head) e.form e.inside e.parts (form_at u c.terms_at.new.scope head) ts h same ∙ c.in_ok-t.ensures.read

pub terms_at-loop-after-preserved-then-is_divisor : goal.terms_at-loop-after-preserved-then-is_divisor
terms_at-loop-after-preserved-then-is_divisor t c =
    let now = c.loop-after.base in
    let u = c.divisor.new.base in
    let items = c.loop-after.terms.items in
    let inv = c.loop-after.invariant in
    let env = env_of c.args.base.now c.args.scope.now in
    let inner = env_of now c.loop-after.scope in
    let k = c.in_ok-n.ensures.keeps in
    let n = c.in_ok-n.n in
    let many : is_divisor c.args.divides (length items) ≡ true = ap (is_divisor c.args.divides) (sym (c.len.ensures ∙ c.loop-after.terms.ok.0)) ∙ sym c.is_divisor.ensures ∙ c.if-is_divisor.true in
    let next = c.in-Some.ensures in
    let read = divisor_read (terms_at now items) env inner c.args.divides (length items) _ _ inv.env inv.read _ _ (term_tree u n) next.0 many c.in_ok-n.ensures.read in
    let P : List ℕ → Type 0 = λ l. AreTerms u l in
    record {
      run = next.5;
      from = omega (arith, inv.from, next.3);
      same = inv.same;
      scope = scope_kept k inv.scope;
      env = env_kept c.loop-after.scope k inv.scope ∙ inv.env;
      terms = subst P (sym c.in_ok-push.ensures.items) (there_pushed now u items n k inv.terms c.in_ok-n.ensures.there);
      keeps = keeps_trans inv.keeps k;
      read = pushed_on now u items c.push.new.self.items n env c.args.divides _ _ k inv.terms c.in_ok-push.ensures.items read;
    }

pub terms_at-loop-after-preserved : goal.terms_at-loop-after-preserved
terms_at-loop-after-preserved t c =
    let now = c.loop-after.base in
    let u = c.term_at.new.base in
    let items = c.loop-after.terms.items in
    let inv = c.loop-after.invariant in
    let env = env_of c.args.base.now c.args.scope.now in
    let inner = env_of now c.loop-after.scope in
    let k = c.in_ok-t.ensures.keeps in
    let x = c.in_ok-t.t in
    let many : is_divisor c.args.divides (length items) ≡ false = ap (is_divisor c.args.divides) (sym (c.len.ensures ∙ c.loop-after.terms.ok.0)) ∙ sym c.is_divisor.ensures ∙ c.if-is_divisor.false in
    let next = c.in-Some.ensures in
    let read = term_read (terms_at now items) env inner c.args.divides (length items) _ _ inv.env inv.read _ _ (term_tree u x) next.0 many c.in_ok-t.ensures.read in
    let P : List ℕ → Type 0 = λ l. AreTerms u l in
    let Q : Scope → Type 0 = λ s. IsScope u s in
    record {
      run = next.5;
      from = omega (arith, inv.from, next.3);
      same = c.in_ok-t.ensures.scope ∙ inv.same;
      scope = subst Q (sym c.in_ok-t.ensures.scope) (scope_kept k inv.scope);
      env = ap (λ (s : Scope). env_of u s) c.in_ok-t.ensures.scope ∙ env_kept c.loop-after.scope k inv.scope ∙ inv.env;
      terms = subst P (sym c.in_ok-push-2.ensures.items) (there_pushed now u items x k inv.terms c.in_ok-t.ensures.there);
      keeps = keeps_trans inv.keeps k;
      read = pushed_on now u items c.push-in-Some.new.self.items x env c.args.divides _ _ k inv.terms c.in_ok-push-2.ensures.items read;
    }

use Rattle.std.proofs.Common.{◌∙◌, sym, ap}
use Rattle.std.proofs.lemmas.Result.{err_from_is_err_and}
use Rattle.hol_types.specs.TypeStore.{text_of, type_tree}
use Rattle.hol_terms.specs.TermStore.{term_tree}
use Rattle.goal_text.specs.Terms as terms
use Rattle.goal_text.specs.Scope.{terms_at}
use Rattle.goal_text.proofs.InstanceLemmas.{built_instance}
use Rattle.goal_text.proofs.ReadLemmas.{fails_same}
use Rattle.goal_text.proofs.ScopeLemmas.{terms_same}
use Rattle.goal_text.proofs.built.instance.Goals as goal

pub returns-in_err-t-clause-read : goal.returns-in_err-t-clause-read
returns-in_err-t-clause-read c =
    let p = err_from_is_err_and c.from_residual-in_err-t.result c.from_residual-in_err-t.ensures.1 in
    let s = c.args.base.now in
    let one = c.instance_for.new.base in
    let f = term_tree one c.in_ok-f.f in
    let ts = c.args.parts.now in
    let is = built_instance c.args.at c.args.head (text_of s.types c.args.name) (type_tree s.types c.args.ty) (terms_at s ts) f c.in_ok-f.ensures.read ∙ ap (terms.apply_all c.args.at f) (sym (terms_same ts c.in_ok-f.ensures.keeps c.requires.parts)) in
    rw (p.1, p.2) (fails_same c.in_err-t.field-0.0 _ _ (sym is) c.in_err-t.ensures.read)

pub returns-clause-read : goal.returns-clause-read
returns-clause-read c =
    let s = c.args.base.now in
    let one = c.instance_for.new.base in
    let f = term_tree one c.in_ok-f.f in
    let ts = c.args.parts.now in
    built_instance c.args.at c.args.head (text_of s.types c.args.name) (type_tree s.types c.args.ty) (terms_at s ts) f c.in_ok-f.ensures.read ∙ ap (terms.apply_all c.args.at f) (sym (terms_same ts c.in_ok-f.ensures.keeps c.requires.parts)) ∙ c.in_ok-t.ensures.read

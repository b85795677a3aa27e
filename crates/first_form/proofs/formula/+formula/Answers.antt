use Rattle.std.proofs.Common.{◌≡◌, ◌∙◌, sym, ap, subst, rules, Option, Some, None}
use Rattle.std.specs.Prelude.{option_map}
use Rattle.std.proofs.lemmas.Result.{err_from_is_err_and}
use Rattle.hol_terms.specs.Term.{Term}
use Rattle.hol_terms.specs.TermStore.{term_tree}
use Rattle.hol_terms.proofs.KeepsLemmas.{keeps_trans}
use Rattle.sexp.specs.Tree.{place}
use Rattle.sexp.specs.Forest.{tree_at}
use Rattle.first_form.specs.Read.{Fails}
use Rattle.first_form.specs.Trees.{text_of}
use Rattle.first_form.specs.Connectives.{connective_of}
use Rattle.first_form.specs.Lexicon.{names_of, atom_number}
use Rattle.first_form.proofs.LexiconLemmas.{atom-formula, lexicon_kept, terms_pushed, formulas_pushed}
use Rattle.first_form.proofs.FormulaLemmas.{formula-atom, formula-fails, formula-made, formula-unconnected, parts_step, parts_fail, parts_done}
use Rattle.first_form.proofs.formula.+formula.Goals as goal

pub formula_at-returns-in-Some-atom-clause-read : goal.formula_at-returns-in-Some-atom-clause-read
formula_at-returns-in-Some-atom-clause-read t c =
    let s = c.args.base.now in
    let l = c.args.lexicon.now in
    let tree = tree_at c.args.forest.now c.args.i in
    let number : atom_number l c.in-Some.text.now ≡ Some c.in-Some-atom.t = search rules in
    formula-atom s l tree (place tree) c.in-Some.text.now c.requires.lexicon c.in-Some.ensures ∙ ap (option_map (λ t. term_tree s t)) number

pub formula_at-returns-in-Some-atom-clause-formula : goal.formula_at-returns-in-Some-atom-clause-formula
formula_at-returns-in-Some-atom-clause-formula t c = atom-formula c.args.base.now c.args.lexicon.now c.in-Some.text.now c.in-Some-atom.t c.requires.lexicon (search rules)

pub formula_at-returns-in-None-clause-read : goal.formula_at-returns-in-None-clause-read
formula_at-returns-in-None-clause-read t c =
    let s = c.args.base.now in
    let l = c.args.lexicon.now in
    let tree = tree_at c.args.forest.now c.args.i in
    let number : atom_number l c.in-Some.text.now ≡ None = search rules in
    formula-atom s l tree (place tree) c.in-Some.text.now c.requires.lexicon c.in-Some.ensures ∙ ap (option_map (λ t. term_tree s t)) number

pub formula_at-returns-in_default-connective_of-clause-read : goal.formula_at-returns-in_default-connective_of-clause-read
formula_at-returns-in_default-connective_of-clause-read t c =
    let l = c.args.lexicon.now in
    let none : connective_of c.text_at.result.now ≡ None = search rules in
    let unconnected : connective_of (text_of (tree_at c.args.forest.now c.in-Some-parts_at.first)) ≡ None = rw (← c.text_at.ensures) none in
    formula-unconnected (names_of l.constants) _ _ _ _ _ c.in-Some-parts_at.ensures.0 c.in-Some-next.ensures.0 unconnected

pub formula_at-returns-in_err-parts-clause-read : goal.formula_at-returns-in_err-parts-clause-read
formula_at-returns-in_err-parts-clause-read t c =
    let p = err_from_is_err_and c.from_residual.result c.from_residual.ensures.1 in
    let l = c.args.lexicon.now in
    rw (p.1, p.2) (formula-fails (names_of l.constants) _ _ _ _ _ c.in-Some-parts_at.ensures.0 c.in_err-parts.field-0.0 c.in-Some-next.ensures.0 c.in_err-parts.ensures.read)

pub formula_at-returns-in_err-t-clause-read : goal.formula_at-returns-in_err-t-clause-read
formula_at-returns-in_err-t-clause-read t c =
    let p = err_from_is_err_and c.from_residual-in_err-t.result c.from_residual-in_err-t.ensures.1 in
    let l = c.args.lexicon.now in
    let connective = c.in-Some-connective_of.connective in
    let found : connective_of c.text_at.result.now ≡ Some connective = search rules in
    let connected : connective_of (text_of (tree_at c.args.forest.now c.in-Some-parts_at.first)) ≡ Some connective = rw (← c.text_at.ensures) found in
    let is = formula-made (names_of l.constants) _ _ _ _ _ c.in-Some-parts_at.ensures.0 connective _ c.in-Some-next.ensures.0 connected c.in_ok-parts.ensures.read in
    let P : Option Term → Type 0 = Fails c.in_err-t.field-0.0 in
    rw (p.1, p.2) (subst P (sym is) c.in_err-t.ensures.read)

pub formula_at-returns-clause-read : goal.formula_at-returns-clause-read
formula_at-returns-clause-read t c =
    let l = c.args.lexicon.now in
    let connective = c.in-Some-connective_of.connective in
    let found : connective_of c.text_at.result.now ≡ Some connective = search rules in
    let connected : connective_of (text_of (tree_at c.args.forest.now c.in-Some-parts_at.first)) ≡ Some connective = rw (← c.text_at.ensures) found in
    formula-made (names_of l.constants) _ _ _ _ _ c.in-Some-parts_at.ensures.0 connective _ c.in-Some-next.ensures.0 connected c.in_ok-parts.ensures.read
    ∙ c.in_ok-t.ensures.read

pub formulas_at-returns-in_err-t-clause-read : goal.formulas_at-returns-in_err-t-clause-read
formulas_at-returns-in_err-t-clause-read t c =
    let p = err_from_is_err_and c.from_residual.result c.from_residual.ensures.1 in
    let l = c.args.lexicon.now in
    let inv = c.loop-after.invariant in
    rw (p.1, p.2) (parts_fail (names_of l.constants) _ _ _ inv.read c.in_err-t.field-0.0 _ _ c.in-Some.ensures.0 c.in_err-t.ensures.read)

pub formulas_at-loop-after-preserved : goal.formulas_at-loop-after-preserved
formulas_at-loop-after-preserved t c =
    let s = c.loop-after.base in
    let u = c.formula_at.new.base in
    let l = c.args.lexicon.now in
    let inv = c.loop-after.invariant in
    let k = c.in_ok-t.ensures.keeps in
    let ts = c.loop-after.formulas.items in
    let x = c.in_ok-t.t in
    let step = parts_step (names_of l.constants) _ _ _ inv.read _ _ (term_tree u x) c.in-Some.ensures.0 c.in_ok-t.ensures.read in
    record {
      run = search rules;
      from = search rules;
      lexicon = lexicon_kept k inv.lexicon;
      formulas = rw c.in_ok-push.ensures.items (formulas_pushed s u ts x k inv.formulas c.in_ok-t.ensures.formula);
      keeps = keeps_trans inv.keeps k;
      read = rw (c.in_ok-push.ensures.items, terms_pushed s u ts x k inv.formulas) step;
    }

pub formulas_at-returns-clause-read : goal.formulas_at-returns-clause-read
formulas_at-returns-clause-read t c =
    let l = c.args.lexicon.now in
    parts_done (names_of l.constants) _ _ _ c.loop-after.invariant.read c.in_default.ensures

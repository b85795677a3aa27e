use Rattle.std.proofs.Common.{◌∙◌, ◌+◌, ◌≡◌, sym, inl, inr}
use Rattle.sexp.proofs.ForestLemmas.{text_is, tells, list_is, atom_is, match_both, not_both}
use Rattle.sexp.specs.Forest.{kept_at, kind_of, tree_at, trees_at, after_of}
use Rattle.sexp.specs.declared.rec.RecKind.TheVariants as kinds
use Rattle.sexp.proofs.forest.Forest.atom.Goals as goal

pub returns-in-Atom : goal.returns-in-Atom
returns-in-Atom c =
    let kind : kind_of (kept_at c.args.self.now c.args.i).body ≡ kinds.Atom = rw (c.record.ensures, c.self.view_is) at c.in-Atom.is in
    match_both c.text.result _ _ _ _
    (λ none. let list = list_is (kept_at c.args.self.now c.args.i).body none in absurd (not_both (sym kind ∙ list)))
    (λ text is. atom_is (tree_at c.args.self.now c.args.i) (trees_at c.args.self.now (c.args.i + 1) (after_of c.args.self.now c.args.i)) text.now (rw kind at (tells c.args.self.now c.args.i)) (text_is c.args.self.now c.args.i ∙ is))
    (rw c.self.view_is at c.text.ensures)

pub returns-in-List : goal.returns-in-List
returns-in-List c =
    let kind : kind_of (kept_at c.args.self.now c.args.i).body ≡ kinds.List = rw (c.record.ensures, c.self.view_is) at c.in-List.is in
    inl (rw kind at (tells c.args.self.now c.args.i))

pub returns-in-Quoted : goal.returns-in-Quoted
returns-in-Quoted c =
    let kind : kind_of (kept_at c.args.self.now c.args.i).body ≡ kinds.Quoted = rw (c.record.ensures, c.self.view_is) at c.in-Quoted.is in
    inr (rw kind at (tells c.args.self.now c.args.i))

use Rattle.std.proofs.Common.{◌∙◌, sym, ap, ◌++◌}
use Rattle.std.proofs.lemmas.Option.{slice_get_within}
use Rattle.hol_terms.specs.Term.{ty_of}
use Rattle.hol_terms.specs.TermStore.{joined}
use Rattle.hol_terms.proofs.TermLemmas.{GrowsTo-trans, HasParts-grows, tree_of-grows, typed_there, interned_tree, term_tree-step}
use Rattle.hol_terms.proofs.intern.intern_step.Goals as goal

pub add_in-requires-clause-typed : goal.add_in-requires-clause-typed
add_in-requires-clause-typed c =
    rw (tree_of-grows (joined c.args.base.now c.args.own.now) (joined c.args.base.now c.typed_in.new.own) c.requires.lawful.shape c.in_ok-ty-in-None.ensures.grows c.args.node c.requires.parts) c.in_ok-ty-in-None.ensures.typed

pub add_in-requires-clause-fits : goal.add_in-requires-clause-fits
add_in-requires-clause-fits c =
    c.in_ok-ty-in-None.ensures.ty ∙ ap ty_of (sym (tree_of-grows (joined c.args.base.now c.args.own.now) (joined c.args.base.now c.typed_in.new.own) c.requires.lawful.shape c.in_ok-ty-in-None.ensures.grows c.args.node c.requires.parts))

pub node_reach_in-requires-clause-parts : goal.node_reach_in-requires-clause-parts
node_reach_in-requires-clause-parts c =
    HasParts-grows (joined c.args.base.now c.args.own.now) (joined c.args.base.now c.typed_in.new.own) c.in_ok-ty-in-None.ensures.grows c.args.node c.requires.parts (ap (λ l. c.args.base.now.nodes ++ l) c.in_ok-ty-in-None.ensures.nodes)

pub add_in-requires-clause-parts : goal.add_in-requires-clause-parts
add_in-requires-clause-parts c =
    HasParts-grows (joined c.args.base.now c.args.own.now) (joined c.args.base.now c.typed_in.new.own) c.in_ok-ty-in-None.ensures.grows c.args.node c.requires.parts (ap (λ l. c.args.base.now.nodes ++ l) c.in_ok-ty-in-None.ensures.nodes)

pub returns-in-Some-clause-typed : goal.returns-in-Some-clause-typed
returns-in-Some-clause-typed c = typed_there (joined c.args.base.now c.args.own.now) c.requires.lawful c.in-Some.t c.args.node (rw c.in-Some.is at c.in_ok-t.ensures)

pub returns-in-Some-clause-tree : goal.returns-in-Some-clause-tree
returns-in-Some-clause-tree c = term_tree-step (joined c.args.base.now c.args.own.now) c.requires.lawful.shape c.in-Some.t c.args.node (rw c.in-Some.is at c.in_ok-t.ensures)

pub returns-in_ok-t-in-None-clause-grows : goal.returns-in_ok-t-in-None-clause-grows
returns-in_ok-t-in-None-clause-grows c = GrowsTo-trans c.in_ok-ty-in-None.ensures.grows c.in_ok-t-in-None.ensures.grows

pub returns-in_ok-t-in-None-clause-tree : goal.returns-in_ok-t-in-None-clause-tree
returns-in_ok-t-in-None-clause-tree c =
    let s = joined c.args.base.now c.args.own.now in
    let m = joined c.args.base.now c.typed_in.new.own in
    let u = joined c.args.base.now c.add_in.new.own in
    let parts = HasParts-grows s m c.in_ok-ty-in-None.ensures.grows c.args.node c.requires.parts (ap (λ l. c.args.base.now.nodes ++ l) c.in_ok-ty-in-None.ensures.nodes) in
    interned_tree m u c.in_ok-ty-in-None.ensures.lawful.shape c.in_ok-t-in-None.ensures.lawful.shape c.in_ok-t-in-None.ensures.grows c.args.node parts c.in_ok-t-in-None.t c.in_ok-t-in-None.ensures.node
    ∙ tree_of-grows s m c.requires.lawful.shape c.in_ok-ty-in-None.ensures.grows c.args.node c.requires.parts

pub returns-in-Some-clause-there : goal.returns-in-Some-clause-there
returns-in-Some-clause-there c = slice_get_within _ c.in-Some.t c.args.node (rw c.in-Some.is at c.in_ok-t.ensures)

pub returns-in_ok-t-in-None-clause-there : goal.returns-in_ok-t-in-None-clause-there
returns-in_ok-t-in-None-clause-there c = slice_get_within _ c.in_ok-t-in-None.t c.args.node c.in_ok-t-in-None.ensures.node

use Rattle.std.proofs.Common.{◌≡◌, ◌∙◌, sym, arith, refl, length}
use Rattle.hol_types.specs.Ty.{ConsTy}
use Rattle.hol_types.specs.TypeStore.{joined, type_tree, trees_at, text_of}
use Rattle.hol_types.specs.TypeSubst.{subst_tree}
use Rattle.hol_types.proofs.TypeLemmas.{trees_apart}
use Rattle.hol_types.proofs.MatchLemmas.{known_answer, done_put, done_kept, least_when, refused_when, answer_when, bool_answer, int_answer, variable_answer, variable_found, variable_once, variable_extends, fun_answer, fun_apart, fun_refused, cons_answer, cons_apart, same_count, first_step, first_stop}
use Rattle.hol_types.proofs.matching.+matching.Goals as goal

pub match_part-returns-in-Some-clause-answer : goal.match_part-returns-in-Some-clause-answer
match_part-returns-in-Some-clause-answer t c =
    let s = joined c.args.base.now c.args.own.now in
    let σ = subst_tree s c.args.found.now.items in
    let is = c.requires.done.each c.args.pattern c.in-Some.u (sym c.get.ensures.value ∙ sym c.in-Some.ensures) in
    known_answer s (trees_apart s c.requires.lawful) σ c.args.pattern c.in-Some.u c.args.t is c.requires.there c.eq.result c.eq.ensures

pub match_part-returns-then-matched-clause-done : goal.match_part-returns-then-matched-clause-done
match_part-returns-then-matched-clause-done t c =
    let s = joined c.args.base.now c.args.own.now in
    let σ = subst_tree s c.match_node.new.found.items in
    let least = least_when c.if-matched.true c.in_ok-matched-in-None.ensures.answer in
    done_put s σ c.match_node.new.done c.insert.new.self c.args.pattern c.args.t c.in_ok-matched-in-None.ensures.done (λ q. c.in_ok-insert-in-None.ensures.updates.0 q) (record { pattern = c.requires.pattern; type = c.requires.there; is = least.has })

pub match_node-returns-in-Bool-clause-answer : goal.match_node-returns-in-Bool-clause-answer
match_node-returns-in-Bool-clause-answer t c =
    let s = joined c.args.base.now c.args.own.now in
    let e = rw c.in-Bool.is at c.known_node_in.ensures.tree in
    bool_answer s c.known_node_in.ensures.apart c.args.pattern c.args.t c.requires.pattern c.requires.there e (subst_tree s c.args.found.now.items) c.eq.result c.eq.ensures

pub match_node-returns-in-Int-clause-answer : goal.match_node-returns-in-Int-clause-answer
match_node-returns-in-Int-clause-answer t c =
    let s = joined c.args.base.now c.args.own.now in
    let e = rw c.in-Int.is at c.known_node_in.ensures.tree in
    int_answer s c.known_node_in.ensures.apart c.args.pattern c.args.t c.requires.pattern c.requires.there e (subst_tree s c.args.found.now.items) c.eq-in-Int.result c.eq-in-Int.ensures

pub match_node-returns-in_ok-matched-in-Var-clause-answer : goal.match_node-returns-in_ok-matched-in-Var-clause-answer
match_node-returns-in_ok-matched-in-Var-clause-answer t c =
    let s = joined c.args.base.now c.args.own.now in
    let name = rw c.in-Var.is at c.known_node_in.ensures.parts in
    let e = rw c.in-Var.is at c.known_node_in.ensures.tree in
    variable_answer s c.requires.lawful c.in-Var.n c.args.t name c.requires.there c.args.found.now.items c.requires.found (type_tree s c.args.pattern) e _ _ c.in_ok-matched-in-Var.ensures

pub match_node-returns-in_ok-matched-in-Var-clause-found : goal.match_node-returns-in_ok-matched-in-Var-clause-found
match_node-returns-in_ok-matched-in-Var-clause-found t c =
    let s = joined c.args.base.now c.args.own.now in
    let name = rw c.in-Var.is at c.known_node_in.ensures.parts in
    variable_found s c.requires.lawful c.in-Var.n c.args.t name c.requires.there c.args.found.now.items c.requires.found _ _ c.in_ok-matched-in-Var.ensures

pub match_node-returns-in_ok-matched-in-Var-clause-once : goal.match_node-returns-in_ok-matched-in-Var-clause-once
match_node-returns-in_ok-matched-in-Var-clause-once t c = variable_once c.in-Var.n c.args.t c.args.found.now.items _ _ c.in_ok-matched-in-Var.ensures

pub match_node-returns-in_ok-matched-in-Var-clause-done : goal.match_node-returns-in_ok-matched-in-Var-clause-done
match_node-returns-in_ok-matched-in-Var-clause-done t c =
    let s = joined c.args.base.now c.args.own.now in
    let name = rw c.in-Var.is at c.known_node_in.ensures.parts in
    done_kept (variable_extends s c.requires.lawful c.in-Var.n c.args.t name c.requires.there c.args.found.now.items c.requires.found _ _ c.in_ok-matched-in-Var.ensures) c.requires.done

pub match_node-returns-in-None-clause-answer : goal.match_node-returns-in-None-clause-answer
match_node-returns-in-None-clause-answer t c =
    let s = joined c.args.base.now c.args.own.now in
    let e = rw c.in-Fun.is at c.known_node_in.ensures.tree in
    fun_apart _ _ (type_tree s c.in-Fun.a) (type_tree s c.in-Fun.b) e (c.in-None.ensures.other refl) _ _

pub match_node-returns-then-left-clause-answer : goal.match_node-returns-then-left-clause-answer
match_node-returns-then-left-clause-answer t c =
    let s = joined c.args.base.now c.args.own.now in
    let e = rw c.in-Fun.is at c.known_node_in.ensures.tree in
    let first = least_when c.if-left.true c.in_ok-left-in-Some.ensures.answer in
    fun_answer _ _ (type_tree s c.in-Fun.a) (type_tree s c.in-Fun.b) _ _ e c.in-Some.ensures.sides _ _ _ _ first c.in_ok-right-in-Some.ensures.answer

pub match_node-returns-then-left-clause-once : goal.match_node-returns-then-left-clause-once
match_node-returns-then-left-clause-once t c = λ once. c.in_ok-right-in-Some.ensures.once (c.in_ok-left-in-Some.ensures.once once)

pub match_node-returns-else-left-clause-answer : goal.match_node-returns-else-left-clause-answer
match_node-returns-else-left-clause-answer t c =
    let s = joined c.args.base.now c.args.own.now in
    let e = rw c.in-Fun.is at c.known_node_in.ensures.tree in
    fun_refused _ _ (type_tree s c.in-Fun.a) (type_tree s c.in-Fun.b) _ _ e c.in-Some.ensures.sides _ _ _ (refused_when c.if-left.false c.in_ok-left-in-Some.ensures.answer)

pub match_node-returns-in-None-constructor_args-clause-answer : goal.match_node-returns-in-None-constructor_args-clause-answer
match_node-returns-in-None-constructor_args-clause-answer t c =
    let s = joined c.args.base.now c.args.own.now in
    let e = rw c.in-Cons.is at c.known_node_in.ensures.tree in
    cons_apart _ _ (text_of s c.in-Cons.n) (trees_at s c.in-Cons.ps) e (c.in-None-constructor_args.ensures.other refl) _ _

pub match_node-match_args-requires : goal.match_node-match_args-requires
match_node-match_args-requires t c =
    let p = rw c.in-Cons.is at c.known_node_in.ensures.parts in
    let arity = rw c.in-Cons.is at c.known_node_in.ensures.arity in
    let same = same_count _ _ _ arity c.in-Some-constructor_args.ensures.count in
    (omega arith, (c.requires.lawful, (c.requires.pattern, (rw c.as_slice.ensures p.1, (c.in-Some-constructor_args.ensures.there, (rw c.as_slice.ensures same, (c.requires.found, c.requires.done)))))))

pub match_node-returns-in_ok-matched-in-Some-constructor_args-clause-answer : goal.match_node-returns-in_ok-matched-in-Some-constructor_args-clause-answer
match_node-returns-in_ok-matched-in-Some-constructor_args-clause-answer t c =
    let s = joined c.args.base.now c.args.own.now in
    let x = text_of s c.in-Cons.n in
    let ps = c.as_slice.result.now in
    let ts = c.in-Some-constructor_args.ts.now in
    let arity = rw c.in-Cons.is at c.known_node_in.ensures.arity in
    let same = same_count _ _ _ arity c.in-Some-constructor_args.ensures.count in
    let count : length ps ≡ length ts = rw c.as_slice.ensures same in
    let tree = rw c.in-Cons.is at c.known_node_in.ensures.tree in
    let e : type_tree s c.args.pattern ≡ ConsTy x (trees_at s ps) = rw c.as_slice.ensures tree in
    cons_answer s x ps ts count _ _ e c.in-Some-constructor_args.ensures.args _ _ _ c.in_ok-matched-in-Some-constructor_args.ensures.answer

pub match_args-loop-i-preserved : goal.match_args-loop-i-preserved
match_args-loop-i-preserved t c =
    let s = joined c.args.base.now c.args.own.now in
    let k = c.loop-i.invariant in
    let here = least_when c.if-not-matched.false c.in_ok-matched.ensures.answer in
    record {
      least = first_step s c.args.ps.now c.args.ts.now c.loop-i.i c.index-ps-i.result c.index-ts-i.result c.loop-i-test.true c.requires.count c.index-ps-i.is c.index-ts-i.is _ _ _ k.least here;
      found = c.in_ok-matched.ensures.found;
      once = λ once. c.in_ok-matched.ensures.once (k.once once);
      done = c.in_ok-matched.ensures.done;
    }

pub match_args-returns-then-not-matched-clause-answer : goal.match_args-returns-then-not-matched-clause-answer
match_args-returns-then-not-matched-clause-answer t c =
    let s = joined c.args.base.now c.args.own.now in
    let here = refused_when c.if-not-matched.true c.in_ok-matched.ensures.answer in
    first_stop s c.args.ps.now c.args.ts.now c.loop-i.i c.index-ps-i.result c.index-ts-i.result c.loop-i-test.true c.requires.count c.index-ps-i.is c.index-ts-i.is _ _ _ c.loop-i.invariant.least here

pub match_args-returns-then-not-matched-clause-once : goal.match_args-returns-then-not-matched-clause-once
match_args-returns-then-not-matched-clause-once t c = λ once. c.in_ok-matched.ensures.once (c.loop-i.invariant.once once)

pub match_args-returns-clause-answer : goal.match_args-returns-clause-answer
match_args-returns-clause-answer t c =
    let e : c.loop-i.i ≡ length c.args.ps.now = omega arith in
    answer_when (rw e at c.loop-i.invariant.least)

use Rattle.std.proofs.Common.{◌≡◌, map, subst, sym, true, get_or, drop, Ok}
use Rattle.hol_types.specs.Ty.{BoolTy, IntTy}
use Rattle.hol_terms.specs.Constants as hol
use Rattle.hol_terms.specs.Term.{ConstTm, ty_of}
use Rattle.hol_terms.specs.TermStore.{term_tree}
use Rattle.goal_text.specs.Operations as operations
use Rattle.goal_text.specs.Read.{Gives}
use Rattle.goal_text.specs.Scope.{terms_at}
use Rattle.goal_text.proofs.OperationLemmas.{alike_typed, all_typed}
use Rattle.goal_text.proofs.operations.meaning.Goals as goal

pub negated-requires-clause-parts : goal.negated-requires-clause-parts
negated-requires-clause-parts c = all_typed c.args.base.now BoolTy c.args.parts.now c.requires.parts (subst (λ o. operations.fits o (map ty_of (terms_at c.args.base.now c.args.parts.now)) ≡ true) c.in-Not.is c.requires.fits)

pub connective_of-requires-clause-parts : goal.connective_of-requires-clause-parts
connective_of-requires-clause-parts c = all_typed c.args.base.now BoolTy c.args.parts.now c.requires.parts (subst (λ o. operations.fits o (map ty_of (terms_at c.args.base.now c.args.parts.now)) ≡ true) c.in-And.is c.requires.fits)

pub connective_of-requires-in-Or-clause-parts : goal.connective_of-requires-in-Or-clause-parts
connective_of-requires-in-Or-clause-parts c = all_typed c.args.base.now BoolTy c.args.parts.now c.requires.parts (subst (λ o. operations.fits o (map ty_of (terms_at c.args.base.now c.args.parts.now)) ≡ true) c.in-Or.is c.requires.fits)

pub connective_of-requires-in-Implies-clause-parts : goal.connective_of-requires-in-Implies-clause-parts
connective_of-requires-in-Implies-clause-parts c = all_typed c.args.base.now BoolTy c.args.parts.now c.requires.parts (subst (λ o. operations.fits o (map ty_of (terms_at c.args.base.now c.args.parts.now)) ≡ true) c.in-Implies.is c.requires.fits)

pub equal-requires-clause-parts : goal.equal-requires-clause-parts
equal-requires-clause-parts c = alike_typed c.args.base.now c.args.parts.now c.requires.parts (subst (λ o. operations.fits o (map ty_of (terms_at c.args.base.now c.args.parts.now)) ≡ true) c.in-Equals.is c.requires.fits)

pub distinct-requires-clause-parts : goal.distinct-requires-clause-parts
distinct-requires-clause-parts c = alike_typed c.args.base.now c.args.parts.now c.requires.parts (subst (λ o. operations.fits o (map ty_of (terms_at c.args.base.now c.args.parts.now)) ≡ true) c.in-Distinct.is c.requires.fits)

pub either-requires-clause-parts : goal.either-requires-clause-parts
either-requires-clause-parts c = all_typed c.args.base.now BoolTy c.args.parts.now c.requires.parts (subst (λ o. operations.fits o (map ty_of (terms_at c.args.base.now c.args.parts.now)) ≡ true) c.in-Xor.is c.requires.fits)

pub arithmetic_of-requires-clause-parts : goal.arithmetic_of-requires-clause-parts
arithmetic_of-requires-clause-parts c = all_typed c.args.base.now IntTy c.args.parts.now c.requires.parts (subst (λ o. operations.fits o (map ty_of (terms_at c.args.base.now c.args.parts.now)) ≡ true) c.in-Plus.is c.requires.fits)

pub arithmetic_of-requires-in-Times-clause-parts : goal.arithmetic_of-requires-in-Times-clause-parts
arithmetic_of-requires-in-Times-clause-parts c = all_typed c.args.base.now IntTy c.args.parts.now c.requires.parts (subst (λ o. operations.fits o (map ty_of (terms_at c.args.base.now c.args.parts.now)) ≡ true) c.in-Times.is c.requires.fits)

pub minus-requires-clause-parts : goal.minus-requires-clause-parts
minus-requires-clause-parts c = all_typed c.args.base.now IntTy c.args.parts.now c.requires.parts (subst (λ o. operations.fits o (map ty_of (terms_at c.args.base.now c.args.parts.now)) ≡ true) c.in-Minus.is c.requires.fits)

pub compared-requires-clause-parts : goal.compared-requires-clause-parts
compared-requires-clause-parts c = all_typed c.args.base.now IntTy c.args.parts.now c.requires.parts (subst (λ o. operations.fits o (map ty_of (terms_at c.args.base.now c.args.parts.now)) ≡ true) c.in-AtMost.is c.requires.fits)

pub compared-requires-in-Less-clause-parts : goal.compared-requires-in-Less-clause-parts
compared-requires-in-Less-clause-parts c = all_typed c.args.base.now IntTy c.args.parts.now c.requires.parts (subst (λ o. operations.fits o (map ty_of (terms_at c.args.base.now c.args.parts.now)) ≡ true) c.in-Less.is c.requires.fits)

pub exchanged-requires-clause-parts : goal.exchanged-requires-clause-parts
exchanged-requires-clause-parts c = all_typed c.args.base.now IntTy c.args.parts.now c.requires.parts (subst (λ o. operations.fits o (map ty_of (terms_at c.args.base.now c.args.parts.now)) ≡ true) c.in-AtLeast.is c.requires.fits)

pub exchanged-requires-in-Greater-clause-parts : goal.exchanged-requires-in-Greater-clause-parts
exchanged-requires-in-Greater-clause-parts c = all_typed c.args.base.now IntTy c.args.parts.now c.requires.parts (subst (λ o. operations.fits o (map ty_of (terms_at c.args.base.now c.args.parts.now)) ≡ true) c.in-Greater.is c.requires.fits)

pub on_two-requires-clause-parts : goal.on_two-requires-clause-parts
on_two-requires-clause-parts c = all_typed c.args.base.now IntTy c.args.parts.now c.requires.parts (subst (λ o. operations.fits o (map ty_of (terms_at c.args.base.now c.args.parts.now)) ≡ true) c.in-Div.is c.requires.fits)

pub on_two-requires-in-Mod-clause-parts : goal.on_two-requires-in-Mod-clause-parts
on_two-requires-in-Mod-clause-parts c = all_typed c.args.base.now IntTy c.args.parts.now c.requires.parts (subst (λ o. operations.fits o (map ty_of (terms_at c.args.base.now c.args.parts.now)) ≡ true) c.in-Mod.is c.requires.fits)

pub returns-in-AtMost-clause-read : goal.returns-in-AtMost-clause-read
returns-in-AtMost-clause-read c =
    let first = term_tree c.args.base.now (get_or c.args.parts.now 0 0) in
    let others = terms_at c.args.base.now (drop 1 c.args.parts.now) in
    let named = subst (λ n. Gives (λ t. term_tree c.compared.new.base t) c.compared.result (Ok (operations.all_of (operations.neighbours (hol.apply_two (ConstTm n (hol.FunTy2 IntTy IntTy BoolTy))) first others)))) c.as_slice-in-AtMost.ensures c.compared.ensures.read in
    subst (λ o. Gives (λ t. term_tree c.compared.new.base t) c.compared.result (Ok (operations.meaning o first others))) (sym c.in-AtMost.is) named

pub returns-in-Less-clause-read : goal.returns-in-Less-clause-read
returns-in-Less-clause-read c =
    let first = term_tree c.args.base.now (get_or c.args.parts.now 0 0) in
    let others = terms_at c.args.base.now (drop 1 c.args.parts.now) in
    let named = subst (λ n. Gives (λ t. term_tree c.compared-in-Less.new.base t) c.compared-in-Less.result (Ok (operations.all_of (operations.neighbours (hol.apply_two (ConstTm n (hol.FunTy2 IntTy IntTy BoolTy))) first others)))) c.as_slice-in-Less.ensures c.compared-in-Less.ensures.read in
    subst (λ o. Gives (λ t. term_tree c.compared-in-Less.new.base t) c.compared-in-Less.result (Ok (operations.meaning o first others))) (sym c.in-Less.is) named

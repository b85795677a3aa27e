use Rattle.std.proofs.Common.{◌≡◌, ◌∙◌, ap, sym, get_or, Ok}
use Rattle.hol_types.specs.TypeStore.{type_tree}
use Rattle.hol_terms.specs.Constants as hol
use Rattle.hol_terms.specs.Term.{ty_of}
use Rattle.hol_terms.specs.TermStore.{term_tree}
use Rattle.goal_text.specs.Operations as operations
use Rattle.goal_text.proofs.KeptLemmas.{same_Ok}
use Rattle.goal_text.proofs.OperationLemmas.{front_same, item_at, made_same, rest_same, typed_terms}
use Rattle.goal_text.proofs.operations.equal.Goals as goal

pub returns-clause-read : goal.returns-clause-read
returns-clause-read c =
    let s = c.args.base.now in
    let one = c.equality.new.base in
    let ts = c.args.parts.now in
    let k = c.in_ok-f.ensures.keeps in
    let all = typed_terms s _ ts c.requires.parts in
    let ty : ty_of (term_tree s (get_or ts 0 0)) ≡ type_tree s.types c.ty-ty.result = ap (λ t. ty_of (term_tree s t)) (item_at ts 0 c.index-parts-0.result c.requires.some c.index-parts-0.is) ∙ sym c.ty-ty.ensures.ty in
    ap Ok (made_same (λ f a us. operations.all_of (operations.neighbours (hol.apply_two f) a us)) _ _ _ _ _ _ _ (ap hol.eq_tm ty ∙ same_Ok _ _ c.in_ok-f.ensures.read) (front_same s one ts k all c.requires.some) (rest_same s one ts 1 k all) (same_Ok _ _ c.in_ok-t.ensures.read))

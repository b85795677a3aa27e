-- Functions that agree on a variable.
use Rattle.std.proofs.Common.{◌≡◌, ◌∙◌, sym, subst}
use Rattle.hol_types.specs.Ty.{Ty, FunTy}
use Rattle.hol_terms.specs.Term.{Term, AppTm, ty_of}
use Rattle.hol_terms.specs.Constants.{equation}
use Rattle.hol_terms.specs.Formula.{IsFormula}
use Rattle.hol_terms.proofs.FormulaLemmas.{equation_left, equation_right, has_function}

-- the types of the functions
pub function_types : (ty : Ty) (f g v said : Term) → IsFormula said → said ≡ equation ty (AppTm f v) (AppTm g v) → (ty_of f ≡ FunTy (ty_of v) ty) × (ty_of g ≡ FunTy (ty_of v) ty)
function_types ty f g v said formula is =
    let whole = subst (λ (w : Term). IsFormula w) is formula in
    ((has_function (equation_left whole)).type, (has_function (equation_right whole)).type)

-- the functions and the type are determined
pub same_functions : (ty uy : Ty) (f g h k v said : Term) → said ≡ equation ty (AppTm f v) (AppTm g v) → said ≡ equation uy (AppTm h v) (AppTm k v) → (f ≡ h) × (g ≡ k)
same_functions ty uy f g h k v said is also =
    let both : equation ty (AppTm f v) (AppTm g v) ≡ equation uy (AppTm h v) (AppTm k v) = sym is ∙ also in
    (cc, cc)

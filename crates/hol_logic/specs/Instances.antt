-- Instances of a formula by generalisation.
use Rattle.std.specs.Prelude.{◌≡◌, ℕ, List, fold, slice_index_or}
use Rattle.std.specs.List.{AllByRecursion}
use Rattle.hol_terms.specs.Term.{Term, LamTm, ty_of}
use Rattle.hol_terms.specs.Formula.{NotFreeInAny}
use Rattle.hol_terms.specs.Constants.{true_tm, for_all}
use Rattle.hol_match.specs.Inst.{Pairs}
use Rattle.hol_logic.specs.DerivedForms.{all_of}

-- none of the formulas speaks of a variable of the pairs
abbrev pub AreGeneral : List Term → Pairs → Type 0
AreGeneral hyps pairs = AllByRecursion (λ q. NotFreeInAny q.0 hyps) pairs

-- the formula, of all values of the variables of the pairs, the last outermost
abbrev pub generalised : Pairs → Term → Term
generalised pairs f = fold (λ g q. all_of q.0 g) f pairs

-- the pair at a place
abbrev pub pair_at : Pairs → ℕ → Term × Term
pair_at pairs i = slice_index_or pairs i (true_tm, true_tm)

-- a lambda on the type of a pair's variable holds of all
pub record IsAllAt (pairs : Pairs) (i : ℕ) (said : Term) : Type 0 where
  pub body : Term
  pub is : said ≡ for_all (ty_of (pair_at pairs i).0) (LamTm (ty_of (pair_at pairs i).0) body)

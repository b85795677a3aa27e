-- Connectives, by which a formula's list begins.
use Rattle.std.specs.Prelude.{ℕ, List, Option, Some, None, if◌then◌else◌, bytes_eq, codes}
use Rattle.hol_terms.specs.Term.{Term}
use Rattle.first_form.specs.declared.formula.Connective.{Connective}
use Rattle.first_form.specs.declared.formula.Connective.TheVariants.{Negation, Implication}
use Rattle.first_form.specs.Formulas.{negation_of, implication_of}

-- the connective of a word
abbrev pub connective_of : List ℕ → Option Connective
connective_of word =
    if bytes_eq word (codes "not") then Some Negation else
    if bytes_eq word (codes "=>") then Some Implication else None

-- what a connective makes of formulas
abbrev pub made_by : Connective → List Term → Option Term
made_by Negation parts = negation_of parts
made_by Implication parts = implication_of parts

-- The texts of causes.
use Rattle.std.specs.Prelude.{◌≡◌, ℕ, List, [], ◌++◌, ◌==◌, length, take, codes, Option, Some, None, if◌then◌else◌}
use Rattle.std.specs.Fmt.{decimal}
use Rattle.proof_plan.specs.declared.why.Why.{Why}
use Rattle.proof_plan.specs.declared.why.Why.TheVariants.{Shape, NotConsequence, TooManyAtoms, TooLarge, NotLinear, Overflow, NoCertificate, NotSame, NotInstance, VariableInHypothesis}

-- the words of a cause; the overflow of the constant carries the greatest number of 32 bits
abbrev pub why_words : Why → List ℕ
why_words Shape = codes "Shape"
why_words (NotConsequence n) = codes "NotConsequence "
why_words (TooManyAtoms n) = codes "TooManyAtoms "
why_words (TooLarge n) = codes "TooLarge "
why_words (NotLinear n) = codes "NotLinear at "
why_words (Overflow n) = if n == 4294967295 then codes "Overflow at constant" else codes "Overflow at "
why_words NoCertificate = codes "NoCertificate"
why_words (NotSame n) = codes "NotSame at "
why_words NotInstance = codes "NotInstance"
why_words (VariableInHypothesis n) = codes "VariableInHypothesis "

-- the number that is written after the words
abbrev pub why_number : Why → Option ℕ
why_number Shape = None
why_number (NotConsequence n) = Some n
why_number (TooManyAtoms n) = Some n
why_number (TooLarge n) = Some n
why_number (NotLinear n) = Some n
why_number (Overflow n) = if n == 4294967295 then None else Some n
why_number NoCertificate = None
why_number (NotSame n) = Some n
why_number NotInstance = None
why_number (VariableInHypothesis n) = Some n

-- a number in decimal, where there is one
abbrev pub number_text : Option ℕ → List ℕ
number_text None = []
number_text (Some n) = decimal n

-- the text of a cause
abbrev pub why_text : Why → List ℕ
why_text w = why_words w ++ number_text (why_number w)

-- the second text goes on from the first
abbrev pub Begins : List ℕ → List ℕ → Type 0
Begins old new = take (length old) new ≡ old

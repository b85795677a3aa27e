-- How a run ends.
use Rattle.std.specs.Prelude.{◌≡◌, ◌⊎◌, ◌++◌, ℕ, List, Option, Some, codes}
use Rattle.std.specs.Io.KnownBytes.{append_known}
use Rattle.smt_io.specs.Written.{AppendsPart}
use Rattle.smt_cli.specs.Answers.{Answer, status_of, text_of}

-- the text was written and the status is its own, or a part of it was written and the status is 6
abbrev pub Writes : List ℕ → ℕ → Option (List ℕ) → Option (List ℕ) → ℕ → Type 0
Writes text status before after result =
    ((result ≡ status) × (after ≡ append_known before text)) ⊎ ((result ≡ 6) × AppendsPart before after text)

-- nothing was written, for a file couldn't be read (5) or memory ran out (7)
abbrev pub EndsEarly : Option (List ℕ) → Option (List ℕ) → ℕ → Type 0
EndsEarly before after result = ((result ≡ 5) ⊎ (result ≡ 7)) × (after ≡ before)

-- the run ends early, or with this answer
abbrev pub Ends : Answer → Option (List ℕ) → Option (List ℕ) → ℕ → Type 0
Ends answer before after result = Writes (text_of answer) (status_of answer) before after result ⊎ EndsEarly before after result

-- a line with its status is that of an answer
pub record IsLineOf (answer : Answer) (text : List ℕ) (status : ℕ) : Type 0 where
  pub text_is : text ≡ text_of answer
  pub status_is : status ≡ status_of answer

-- a line with its status is that of some answer
abbrev pub IsLine : List ℕ → ℕ → Type 0
IsLine text status = (answer : Answer) × IsLineOf answer text status

-- what was written begins with the word `proved`
abbrev pub SaysProved : Option (List ℕ) → Option (List ℕ) → Type 0
SaysProved before after = (old more : List ℕ) × (before ≡ Some old) × (after ≡ Some (old ++ (codes "proved" ++ more)))

-- the run ends early, or with some answer
abbrev pub EndsSomehow : Option (List ℕ) → Option (List ℕ) → ℕ → Type 0
EndsSomehow before after result = (answer : Answer) × Ends answer before after result

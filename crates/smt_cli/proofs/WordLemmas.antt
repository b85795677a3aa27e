-- Only the line of a proved goal begins with the word `proved`.
use Rattle.std.proofs.Common.{◌≡◌, ◌∙◌, ◌++◌, ℕ, List, Option, Some, take, drop, length, length-append, refl, sym, ap, inl, inr, arith, tests, append_assoc}
use Rattle.std.specs.Prelude.{codes, false, nat_eq, slice_index_or}
use Rattle.std.specs.Io.KnownBytes.{append_known}
use Rattle.std.proofs.lemmas.List.{append_cancel_left, take-append-drop}
use Rattle.std.proofs.lemmas.Option.{same_Some}
use Rattle.smt_cli.specs.Answers.{Answer, GoalRefused, GoalUnbuilt, ProofRefused, FailedAt, ProvedGoal, status_of, text_of}
use Rattle.smt_cli.specs.CommandLine.{usage_text}
use Rattle.smt_cli.specs.Writing.{IsLine, SaysProved, Writes}

-- a text that begins with the word
abbrev Begins : List ℕ → Type 0
Begins text = (more : List ℕ) × (text ≡ codes "proved" ++ more)

whole : (text : List ℕ) (before after : Option (List ℕ)) → after ≡ append_known before text → SaysProved before after → Begins text
whole text before after e (old, more, was, is) =
    let same : append_known (Some old) text ≡ Some (old ++ (codes "proved" ++ more)) = ap (λ b. append_known b text) (sym was) ∙ sym e ∙ is in
    (more, append_cancel_left old text (codes "proved" ++ more) (same_Some (old ++ text) (old ++ (codes "proved" ++ more)) same))

part : (text : List ℕ) (n : ℕ) (before after : Option (List ℕ)) → after ≡ append_known before (take n text) → SaysProved before after → Begins text
part text n before after e said =
    let front = whole (take n text) before after e said in
    (front.0 ++ drop n text, sym (take-append-drop n text) ∙ ap (λ t. t ++ drop n text) front.1 ∙ append_assoc (codes "proved") front.0 (drop n text))

written : (text : List ℕ) (status : ℕ) (before after : Option (List ℕ)) (result : ℕ) → Writes text status before after result → SaysProved before after → Begins text
written text status before after result (inl w) said = whole text before after w.1 said
written text status before after result (inr w) said = part text w.1.0 before after w.1.2 said

-- different bytes
apart : (m n : ℕ) → m ≡ n → nat_eq m n ≡ false → ⊥
apart m n e f = grind (arith, tests, e, f)

-- the byte at a place
abbrev byte : ℕ → List ℕ → ℕ
byte i text = slice_index_or text i 0

-- the other lines begin with other bytes
proved_only : (a : Answer) → Begins (text_of a) → status_of a ≡ 0
proved_only (GoalRefused fault) b = absurd (apart 103 112 (ap (byte 0) b.1) refl)
proved_only GoalUnbuilt b = absurd (apart 103 112 (ap (byte 0) b.1) refl)
proved_only ProofRefused b = absurd (apart 111 118 (ap (byte 3) b.1) refl)
proved_only (FailedAt name rule why) b = absurd (apart 102 112 (ap (byte 0) b.1) refl)
proved_only (ProvedGoal consts goal) b = refl

pub said_proved : (text : List ℕ) (status : ℕ) (before after : Option (List ℕ)) (result : ℕ) → IsLine text status → Writes text status before after result → SaysProved before after → status ≡ 0
said_proved text status before after result (a, is) w said =
    let b = written text status before after result w said in
    is.status_is ∙ proved_only a (b.0, sym is.text_is ∙ b.1)

-- nor does the usage
pub usage_says : (status : ℕ) (before after : Option (List ℕ)) (result : ℕ) → Writes usage_text status before after result → SaysProved before after → ⊥
usage_says status before after result w said =
    let b = written usage_text status before after result w said in
    apart 117 112 (ap (byte 0) b.1) refl

-- nor does nothing
pub nothing_says : (before after : Option (List ℕ)) → after ≡ before → SaysProved before after → ⊥
nothing_says before after e (old, more, was, is) =
    let same : Some old ≡ Some (old ++ (codes "proved" ++ more)) = sym was ∙ sym e ∙ is in
    let long : length old ≡ length (old ++ (codes "proved" ++ more)) = ap length (same_Some old (old ++ (codes "proved" ++ more)) same) in
    absurd (omega (arith, length-append old (codes "proved" ++ more), long))

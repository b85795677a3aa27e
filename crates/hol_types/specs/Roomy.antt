-- Items with room for more.
use Rattle.std.specs.Prelude.{ℕ, List, refl}
use Rattle.std.specs.Coded.{Coded, code_by, coded×, coded_list, coded_ℕ}

-- a list, and how many items more go in without memory
pub record Roomy (T : Type 0) : Type 0 where
  pub items : List T
  pub room : ℕ

-- how the logic stores it
abbrev pub roomy_code : {T : Type 0} → Coded T → Coded (Roomy T)
roomy_code {T} code = code_by (List T × ℕ) (coded× (coded_list code) coded_ℕ) (λ r. (r.items, r.room)) (λ p. record { items = p.0; room = p.1 }) (λ _. refl)

use Rattle.call_tests.proofs.terms.kernel.Goals as goal

pub new-requires : goal.new-requires
new-requires c = record {
  facts = record { each = λ t h. absurd h };
  context = record { formulas = record { each = λ t h. absurd h }; no_open = λ t h. absurd h };
}

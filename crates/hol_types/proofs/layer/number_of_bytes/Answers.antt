use Rattle.hol_types.specs.Once.{kept}
use Rattle.hol_types.proofs.layer.number_of_bytes.Goals as goal

pub returns-in_ok-number-in-Some-clause-added : goal.returns-in_ok-number-in-Some-clause-added
returns-in_ok-number-in-Some-clause-added c = kept

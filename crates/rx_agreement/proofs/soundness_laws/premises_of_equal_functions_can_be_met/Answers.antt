use Rattle.std.proofs.Common.{refl, []}
use Rattle.std.proofs.lemmas.List.Elements.{All-nil}
use Rattle.c_ast.specs.declared.integers.Integers.TheVariants.{Unbounded}
use Rattle.rx_row.specs.Holds.{RowHolds}
use Rattle.rx_term.specs.Assigned.{assigned}
use Rattle.rx_agreement.specs.SoundnessExample.{example, first, parts, second, table}
use Rattle.rx_agreement.proofs.Functions.{proof_returns_alike}
use Rattle.rx_agreement.proofs.SoundnessExample.{example_proof, example_scoped, example_translated}
use Rattle.rx_agreement.proofs.soundness_laws.premises_of_equal_functions_can_be_met.Goals as goal

pub returns-clause-scoped : goal.returns-clause-scoped
returns-clause-scoped c = example_scoped

pub returns-clause-translated : goal.returns-clause-translated
returns-clause-translated c = example_translated

pub returns-clause-proof : goal.returns-clause-proof
returns-clause-proof c = example_proof

pub returns-clause-alike : goal.returns-clause-alike
returns-clause-alike c =
    proof_returns_alike Unbounded example example_scoped 0 1 parts first second example_translated
    [] [] refl
    refl
    (All-nil (RowHolds (assigned []))) [] table example_proof

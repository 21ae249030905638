use Rattle.rx_agreement.proofs.Functions.{proof_returns_alike}
use Rattle.rx_agreement.proofs.soundness_laws.proofs_show_equal_functions.Goals as goal

pub returns : goal.returns
returns c =
    λ integers program scoped f g parts first second t arguments rows count also holds hypotheses
    table
    proof.
    proof_returns_alike integers program scoped f g parts first second t arguments rows count also
    holds
    hypotheses table proof

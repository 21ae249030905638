use Rattle.std.proofs.Common.{◌≡◌, map, take}
use Rattle.rx_bank.specs.Packing.{equation_at}
use Rattle.rx_bank.proofs.unpacking.unpack_equations.Given as goal

abbrev pub invariant-loop-equation : goal.invariant-loop-equation
invariant-loop-equation l =
    l.equations.items ≡ map (equation_at l.bank) (take l.equation-index l.packed)

-- Equal options are one, and what is read from the atoms is the variable that the monomial is.
use Rattle.std.proofs.Common.{rules, Some, ◌↔◌, ◌≡◌, IsTrue}
use Rattle.rx_poly.proofs.ReadingLaws.{mono_is_variable}
use Rattle.rx_poly.proofs.reading.is_variable.Goals as goal

pub returns : goal.returns
returns c =
    let read = mono_is_variable c.args.mono.now c.args.var c.lone_variable.ensures in
    let same : IsTrue c.eq.result ↔ (c.lone_variable.result ≡ Some c.args.var) = search rules in
    (λ e. read.0 (same.0 e), λ e. same.1 (read.1 e))

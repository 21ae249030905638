use Rattle.std.proofs.Common.{◌≡◌, ℕ, suc, Bool, false, subst, sym, arith}
use Rattle.rx_logtext.specs.Logs.{IsFirstBad}
use Rattle.rx_logtext.specs.Readers.{IsWhole}
use Rattle.rx_logtext.proofs.Texts.{not_whole_text}
use Rattle.rx_logtext.proofs.reader.LogReader.finish.Goals as goal

pub returns-else-is_whole-clause-finishes : goal.returns-else-is_whole-clause-finishes
returns-else-is_whole-clause-finishes c = λ log bytes h.
    let number : c.next_number.result ≡ suc c.args.self.now.taken =
    omega (arith, c.next_number.ensures) in
    let rest : IsWhole c.args.self.now false =
    subst (λ (b : Bool). IsWhole c.args.self.now b) c.if-is_whole.false c.is_whole.ensures in
    subst (λ (n : ℕ). IsFirstBad bytes n) (sym number) (not_whole_text h rest)

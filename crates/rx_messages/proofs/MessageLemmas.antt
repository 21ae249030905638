-- Which verdicts have a message of their own.
use Rattle.std.specs.Prelude.{◌≡◌, ℕ, List}
use Rattle.std.proofs.Common.{refl}
use Rattle.rx_report.specs.declared.verdicts.Verdict.{Verdict}
use Rattle.rx_report.specs.declared.verdicts.Verdict.TheVariants as Said
use Rattle.rx_messages.specs.Asked.{Asked}
use Rattle.rx_messages.specs.Faults.{place_of}
use Rattle.rx_messages.specs.Logs.{Facts}
use Rattle.rx_messages.specs.Messages.{of_verdict, on_place}

-- all others are told by their place, or by a remark
pub of_others : (asked : Asked) (given : List ℕ) (verdict : Verdict)
    (facts : Facts) →
    (verdict ≡ Said.Usage → ⊥) →
    of_verdict asked given verdict facts ≡ on_place asked given verdict facts (place_of verdict)
of_others asked given Said.Usage facts other = absurd (other refl)
of_others asked given verdict facts other = refl

-- Covers that fail are the answer of their check.
use Rattle.std.proofs.Common.{◌≡◌, Err, ap}
use Rattle.rx_cover.specs.Answers.{Tells}
use Rattle.rx_cover.specs.Covering.{Covering}
use Rattle.rx_cover.specs.declared.cover_end.CoverEnd.{CoverEnd}
use Rattle.rx_cover.specs.declared.cover_end.CoverEnd.TheVariants as cover_end
use Rattle.rx_log.specs.Acceptance.{Checked, once_covered}
use Rattle.rx_check.specs.Answers.{Told, named, of_cover_end}

-- where covers fail, that is the answer
pub not_covered : {A : Type 0} (found : Covering) (next : Checked A) (end : CoverEnd) →
    Tells found (Err end)
    → Told (named (of_cover_end end)) (λ fault. once_covered found next ≡ Err fault)
not_covered found next (cover_end.NotCovered f) e = ap (λ c. once_covered c next) e
not_covered found next (cover_end.Large f) e = ap (λ c. once_covered c next) e
not_covered found next cover_end.NoMemory e = tt

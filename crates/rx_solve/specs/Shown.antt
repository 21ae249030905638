-- What answers say of rows that are to follow from others.
use Rattle.std.specs.Prelude.{◌≡◌, Bool, true, false, Option, Some, None, option_to_list, Result, Ok, Err, List, [], ◌∷◌, ◌++◌}
use Rattle.rx_row.specs.Negation.{negation}
use Rattle.rx_row.specs.declared.row.Row.{Row}
use Rattle.rx_cert.specs.Conditions.{is_plain_row}
use Rattle.rx_cert.specs.Findings.{Yes, No, Beyond}
use Rattle.rx_cert.specs.Showing.{all_shown, negation_said, shown}
use Rattle.rx_cert.specs.declared.cert.Cert.{Cert}
use Rattle.rx_fm.specs.declared.fm_end.FmEnd.{FmEnd}
use Rattle.rx_fm.specs.declared.fm_end.FmEnd.TheVariants.{Large}
use Rattle.rx_solve.specs.Answers.{AreCertificates, IsCertificate}
use Rattle.rx_solve.specs.Bounds.{most_deep}
use Rattle.rx_solve.specs.Refuter.{refuted}
use Rattle.rx_solve.specs.declared.showing.AllShown.{AllShown}
use Rattle.rx_solve.specs.declared.showing.AllShown.TheVariants.{Shown, NotShown, TooLarge}

-- an answer that says whether the given rows are refuted with the negation of the row after them
abbrev pub NegationAnswers : List Row → Row → Result (Option Cert) FmEnd → Type 0
NegationAnswers given row (Ok None) = negation_said refuted given row ≡ No
NegationAnswers given row (Ok (Some cert)) =
    (negation_said refuted given row ≡ Yes) ×
    IsCertificate most_deep (given ++ negation row ∷ []) cert
NegationAnswers given row (Err e) = e ≡ Large → negation_said refuted given row ≡ Beyond

-- an answer that says whether the row is shown: not, without a certificate where it is plain, or by
-- one
abbrev pub ShownAnswers : List Row → Row → Result (Option (Option Cert)) FmEnd → Type 0
ShownAnswers given row (Ok None) = shown refuted given row ≡ No
ShownAnswers given row (Ok (Some None)) = is_plain_row given row ≡ true
ShownAnswers given row (Ok (Some (Some cert))) =
    (is_plain_row given row ≡ false) × NegationAnswers given row (Ok (Some cert))
ShownAnswers given row (Err e) = e ≡ Large → shown refuted given row ≡ Beyond

-- an answer that says whether the row is plain, or shown by one more certificate, and which
-- certificates there are then; where it isn't shown these are left open
abbrev pub RowAnswers : List Row → Row → List Cert → List Cert → Result Bool FmEnd → Type 0
RowAnswers given row before after (Ok false) = shown refuted given row ≡ No
RowAnswers given row before after (Ok true) =
    (found : Option Cert) × (ShownAnswers given row (Ok (Some found)) ×
    (after ≡ before ++ option_to_list found))
RowAnswers given row before after (Err e) = e ≡ Large → shown refuted given row ≡ Beyond

-- an answer that says whether the rows are all shown, and with which certificates
abbrev pub AllAnswers : List Row → List Row → Result (Option (List Cert)) FmEnd → Type 0
AllAnswers given rows (Ok None) = all_shown refuted given rows ≡ No
AllAnswers given rows (Ok (Some certs)) =
    (all_shown refuted given rows ≡ Yes) × AreCertificates most_deep given rows certs
AllAnswers given rows (Err e) = e ≡ Large → all_shown refuted given rows ≡ Beyond

-- the rows are all shown by the refuter, with those certificates, or the first that isn't decides
abbrev pub IsAllShown : List Row → List Row → AllShown → Type 0
IsAllShown given rows (Shown certs) =
    (all_shown refuted given rows ≡ Yes) × AreCertificates most_deep given rows certs
IsAllShown given rows NotShown = all_shown refuted given rows ≡ No
IsAllShown given rows TooLarge = all_shown refuted given rows ≡ Beyond

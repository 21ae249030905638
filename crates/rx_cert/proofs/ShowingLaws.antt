-- A list of conditions is met row by row: a plain row takes no certificate, another the next one.
-- So rows that are shown have certificates.
use Rattle.std.proofs.Common.{◌≡◌, ◌∙◌, ap, sym, refl, cond, arith, ℕ, ◌+◌, Bool, true, false, not, Some, List, [], ◌∷◌, ◌++◌, length}
use Rattle.std.proofs.lemmas.Bool.{eq-eqb}
use Rattle.std.proofs.lemmas.List.{append-nil, append_assoc, length-append}
use Rattle.std.proofs.lemmas.List.Sums.{sum_by-cons}
use Rattle.rx_row.specs.Negation.{negation, negation_within}
use Rattle.rx_row.specs.declared.row.Row.{Row}
use Rattle.rx_cert.specs.Conditions.{asked_for, conditions, in_order, is_plain_row, shown_or}
use Rattle.rx_cert.specs.Examination.{verdict, row_finding}
use Rattle.rx_cert.specs.Findings.{Said, Yes, guard}
use Rattle.rx_cert.specs.Showing.{HasCertificates, all_shown, shown}
use Rattle.rx_cert.specs.declared.cert.Cert.{Cert}
use Rattle.rx_cert.specs.declared.conditions.ConditionsAnswer.TheVariants.{Shown, WrongCount}
use Rattle.rx_cert.proofs.FindingLaws.{both_parts, within_parts}

module _ (given : List Row) where
  -- ---- one row

  -- a plain row takes no certificate
  pub plain_step : (i : ℕ) (row : Row) (rows : List Row) (certs : List Cert) →
      is_plain_row given row ≡ true → in_order i given (row ∷ rows) certs ≡
      in_order (i + 1) given rows certs
  plain_step i row rows [] e = ap (λ b. cond b (in_order (i + 1) given rows []) (Some WrongCount)) e
  plain_step i row rows (cert ∷ certs) e =
      ap (λ b. cond b (in_order (i + 1) given rows (cert ∷ certs))
      (shown_or (row_finding given row cert) i (in_order (i + 1) given rows certs))) e

  -- another takes the next
  pub shown_step : (i : ℕ) (row : Row) (rows : List Row) (cert : Cert) (certs : List Cert) →
      is_plain_row given row ≡ false → row_finding given row cert ≡ Yes →
      in_order i given (row ∷ rows) (cert ∷ certs) ≡ in_order (i + 1) given rows certs
  shown_step i row rows cert certs e f =
      ap (λ b. cond b (in_order (i + 1) given rows (cert ∷ certs))
      (shown_or (row_finding given row cert) i (in_order (i + 1) given rows certs))) e
      ∙ ap (λ found. shown_or found i (in_order (i + 1) given rows certs)) f

  asked_by : (row : Row) (rows : List Row) (b : Bool) → is_plain_row given row ≡ b →
      asked_for given (row ∷ rows) ≡ cond (not b) 1 0 + asked_for given rows
  asked_by row rows b e =
      sum_by-cons (λ (x : Row). cond (not (is_plain_row given x)) 1 0) row rows ∙
      ap (λ c. cond (not c) 1 0 + asked_for given rows) e

  pub asked_plain : (row : Row) (rows : List Row) → is_plain_row given row ≡ true →
      asked_for given (row ∷ rows) ≡ asked_for given rows
  asked_plain row rows e =
      let asked : asked_for given (row ∷ rows) ≡ 0 + asked_for given rows =
      asked_by row rows true e in omega (arith, asked)

  pub asked_shown : (row : Row) (rows : List Row) → is_plain_row given row ≡ false →
      asked_for given (row ∷ rows) ≡ 1 + asked_for given rows
  asked_shown row rows e = asked_by row rows false e

  -- ---- lists, from the first row on

  -- the rest of the list, number i the first, with whatever certificates meet it, makes the whole
  -- be met
  pub record Meeting (rows : List Row) (i : ℕ) (rest : List Row) (certs : List Cert) : Type 0 where
    pub order : (more : List Cert) → in_order i given rest more ≡
        in_order 0 given rows (certs ++ more)
    pub count : asked_for given rows ≡ length certs + asked_for given rest

  pub begin : (rows : List Row) → Meeting rows 0 rows []
  begin rows = record { order = λ more. refl; count = omega arith }

  pub after_plain : (rows : List Row) (i : ℕ) (row : Row) (rest : List Row) (certs : List Cert) →
      is_plain_row given row ≡ true → Meeting rows i (row ∷ rest) certs →
      Meeting rows (i + 1) rest certs
  after_plain rows i row rest certs e m = record {
    order = λ more. sym (plain_step i row rest more e) ∙ m.order more;
    count = m.count ∙ ap (λ n. length certs + n) (asked_plain row rest e);
  }

  pub after_shown : (rows : List Row) (i : ℕ) (row : Row) (rest : List Row) (certs : List Cert)
      (cert : Cert) → is_plain_row given row ≡ false → row_finding given row cert ≡ Yes →
      Meeting rows i (row ∷ rest) certs → Meeting rows (i + 1) rest (certs ++ cert ∷ [])
  after_shown rows i row rest certs cert e f m =
      let asked = asked_shown row rest e in
      let whole = m.count in
      let longer = length-append certs (cert ∷ []) in
      record {
        order =
            λ more. sym (shown_step i row rest cert more e f) ∙ m.order (cert ∷ more) ∙
            ap (in_order 0 given rows) (sym (append_assoc certs (cert ∷ []) more));
        count = omega (arith, asked, whole, longer);
      }

  pub met : (rows : List Row) (certs : List Cert) → in_order 0 given rows certs ≡ Some Shown →
      length certs ≡ asked_for given rows → conditions given (Some rows) certs ≡ Some Shown
  met rows certs e f =
      ap (λ b. cond b (in_order 0 given rows certs) (Some WrongCount))
      (eq-eqb (length certs) (asked_for given rows) f) ∙ e

  pub finished : (rows : List Row) (i : ℕ) (certs : List Cert) → Meeting rows i [] certs →
      conditions given (Some rows) certs ≡ Some Shown
  finished rows i certs m =
      let whole = m.count in
      met rows certs (ap (in_order 0 given rows) (sym (append-nil certs)) ∙ sym (m.order []))
      (omega (arith, whole))

  -- ---- no certificates, and none asked for

  none_asked : (rows : List Row) (i : ℕ) → asked_for given rows ≡ 0 → in_order i given rows [] ≡
      Some Shown
  none_asked [] i e = refl
  none_asked (row ∷ rows) i e = by (none_asked rows (i + 1)) (is_plain_row given row) refl
    where
      by : (asked_for given rows ≡ 0 → in_order (i + 1) given rows [] ≡ Some Shown) → (b : Bool) →
          is_plain_row given row ≡ b → in_order i given (row ∷ rows) [] ≡ Some Shown
      by further true plain =
          plain_step i row rows [] plain ∙ further (sym (asked_plain row rows plain) ∙ e)
      by further false plain =
          let asked = asked_shown row rows plain in absurd (omega (arith, asked, e))

  -- so there is nothing to look at
  pub none_left : (rows : List Row) (i : ℕ) (certs : List Cert) →
      length certs ≡ asked_for given rows → length certs ≡ 0 → in_order i given rows certs ≡
      Some Shown
  none_left rows i [] e none = none_asked rows i (sym e)
  none_left rows i (cert ∷ certs) e none = absurd (omega arith)

  -- ---- rows that are shown

  module _ (says : List Row → Said) (certified : HasCertificates says) where
    pub certificate_of : (row : Row) → is_plain_row given row ≡ false → shown says given row ≡ Yes →
        (cert : Cert) × (row_finding given row cert ≡ Yes)
    certificate_of row e h =
        by (within_parts (negation_within row) (says (given ++ negation row ∷ []))
        (sym (ap (λ b. cond b Yes (guard (negation_within row)
        (says (given ++ negation row ∷ [])))) e) ∙ h))
      where
        by : (negation_within row ≡ true) × (says (given ++ negation row ∷ []) ≡ Yes) →
            (cert : Cert) × (row_finding given row cert ≡ Yes)
        by (keeps, refuted) =
            let c = certified (given ++ negation row ∷ []) refuted in
            (c.0, ap (λ b. guard b (verdict (given ++ negation row ∷ []) c.0)) keeps ∙ c.1)

    abbrev Certificates : List Row → Type 0
    Certificates rows = (certs : List Cert) × (conditions given (Some rows) certs ≡ Some Shown)

    with_row : (rows : List Row) (i : ℕ) (row : Row) (rest : List Row) (certs : List Cert) →
        shown says given row ≡ Yes → Meeting rows i (row ∷ rest) certs →
        ((more : List Cert) → Meeting rows (i + 1) rest more → Certificates rows) → (b : Bool) →
        is_plain_row given row ≡ b → Certificates rows
    with_row rows i row rest certs h m further true e =
        further certs (after_plain rows i row rest certs e m)
    with_row rows i row rest certs h m further false e =
        let c = certificate_of row e h in
        further (certs ++ c.0 ∷ []) (after_shown rows i row rest certs c.0 e c.1 m)

    certificates_from : (rows : List Row) (i : ℕ) (rest : List Row) (certs : List Cert) →
        all_shown says given rest ≡ Yes → Meeting rows i rest certs → Certificates rows
    certificates_from rows i [] certs h m = (certs, finished rows i certs m)
    certificates_from rows i (row ∷ rest) certs h m =
        let parts = both_parts (shown says given row) (all_shown says given rest) h in
        with_row rows i row rest certs parts.0 m
        (λ more n. certificates_from rows (i + 1) rest more parts.1 n) (is_plain_row given row)
        refl

    -- rows that are all shown have certificates that make the condition list shown
    pub shown_have_certificates : (rows : List Row) → all_shown says given rows ≡ Yes →
        (certs : List Cert) × (conditions given (Some rows) certs ≡ Some Shown)
    shown_have_certificates rows h = certificates_from rows 0 rows [] h (begin rows)

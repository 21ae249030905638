-- Rows that follow from given ones, and more that do, follow together by both lists of
-- certificates.
use Rattle.std.proofs.Common.{◌≡◌, ◌∙◌, ap, sym, subst, refl, cond, arith, ℕ, ◌+◌, ◌==◌, ◌≤◌, Bool, true, false, Some, List, [], ◌∷◌, ◌++◌, length, append_assoc, append-nil}
use Rattle.std.proofs.lemmas.Bool.{and_parts, eqb-true}
use Rattle.std.proofs.lemmas.List.Elements.{All-append}
use Rattle.std.proofs.lemmas.List.Folds.{list_all-append}
use Rattle.rx_row.specs.declared.row.Row.{Row}
use Rattle.rx_cert.specs.Conditions.{asked_for, conditions, in_order, is_plain_row, shown_or}
use Rattle.rx_cert.specs.Depth.{cert_depth}
use Rattle.rx_cert.specs.Examination.{row_finding}
use Rattle.rx_cert.specs.Findings.{Said, Yes, No, Beyond}
use Rattle.rx_cert.specs.Variables.{cert_passes, row_passes, rows_pass}
use Rattle.rx_cert.specs.declared.cert.Cert.{Cert}
use Rattle.rx_cert.specs.declared.conditions.ConditionsAnswer.TheVariants.{Shown, WrongCount}
use Rattle.rx_cert.proofs.ShowingLaws.{Meeting, after_plain, after_shown, asked_plain, asked_shown, begin, finished, plain_step}
use Rattle.rx_solve.specs.Answers.{AreCertificates}

module _ (given : List Row) where
  -- with certificates for the rows, what is left to meet is more
  abbrev Met : List Row → List Row → List Row → Type 0
  Met whole rows more =
      (i k : ℕ) (done certs : List Cert) → Meeting given whole i (rows ++ more) done →
      in_order k given rows certs ≡ Some Shown
      → length certs ≡ asked_for given rows → (j : ℕ) × Meeting given whole j more (done ++ certs)

  met_shown : (whole rows more : List Row) (row : Row) → Met whole rows more →
      (i k : ℕ) (done : List Cert) (cert : Cert) (certs : List Cert)
      → Meeting given whole i (row ∷ (rows ++ more)) done → is_plain_row given row ≡ false →
      length (cert ∷ certs) ≡ asked_for given (row ∷ rows)
      → (s : Said) → row_finding given row cert ≡ s →
      shown_or s k (in_order (k + 1) given rows certs) ≡ Some Shown
      → (j : ℕ) × Meeting given whole j more (done ++ cert ∷ certs)
  met_shown whole rows more row rest i k done cert certs m plain count Yes is e =
      let asked = asked_shown given row rows plain in
      let next = rest (i + 1) (k + 1) (done ++ cert ∷ []) certs
      (after_shown given whole i row (rows ++ more) done cert plain is m) e
      (omega (arith, count, asked)) in
      (next.0, subst (Meeting given whole next.0 more) (append_assoc done (cert ∷ []) certs) next.1)
  met_shown whole rows more row rest i k done cert certs m plain count No is e = cc
  met_shown whole rows more row rest i k done cert certs m plain count Beyond is e = cc

  met_row : (whole rows more : List Row) (row : Row) → Met whole rows more →
      (i k : ℕ) (done certs : List Cert)
      → Meeting given whole i (row ∷ (rows ++ more)) done → in_order k given (row ∷ rows) certs ≡
      Some Shown → length certs ≡ asked_for given (row ∷ rows)
      → (b : Bool) → is_plain_row given row ≡ b → (j : ℕ) ×
      Meeting given whole j more (done ++ certs)
  met_row whole rows more row rest i k done certs m e count true plain =
      rest (i + 1) (k + 1) done certs (after_plain given whole i row (rows ++ more) done plain m)
      (sym (plain_step given k row rows certs plain) ∙ e) (count ∙ asked_plain given row rows plain)
  met_row whole rows more row rest i k done [] m e count false plain =
      let asked = asked_shown given row rows plain in absurd (omega (arith, asked, count))
  met_row whole rows more row rest i k done (cert ∷ certs) m e count false plain =
      met_shown whole rows more row rest i k done cert certs m plain count
      (row_finding given row cert) refl
      (ap (λ b. cond b (in_order (k + 1) given rows (cert ∷ certs))
      (shown_or (row_finding given row cert) k (in_order (k + 1) given rows certs))) (sym plain)
      ∙ e)

  meet : (whole rows more : List Row) → Met whole rows more
  meet whole [] more i k done [] m e count =
      (i, subst (Meeting given whole i more) (sym (append-nil done)) m)
  meet whole [] more i k done (cert ∷ certs) m e count = absurd (omega (arith, count))
  meet whole (row ∷ rows) more i k done certs m e count =
      met_row whole rows more row (meet whole rows more) i k done certs m e count
      (is_plain_row given row) refl

  -- a list that is shown
  shown_parts : (rows : List Row) (certs : List Cert) → conditions given (Some rows) certs ≡
      Some Shown
      → (in_order 0 given rows certs ≡ Some Shown) × (length certs ≡ asked_for given rows)
  shown_parts rows certs e = by (length certs == asked_for given rows) refl e where
    by : (b : Bool) → (length certs == asked_for given rows) ≡ b →
        cond b (in_order 0 given rows certs) (Some WrongCount) ≡ Some Shown
        → (in_order 0 given rows certs ≡ Some Shown) × (length certs ≡ asked_for given rows)
    by true is f = (f, eqb-true (length certs) (asked_for given rows) is)
    by false is f = cc

  pub both_shown : (rows more : List Row) (certs others : List Cert) →
      conditions given (Some rows) certs ≡ Some Shown → conditions given (Some more) others ≡
      Some Shown
      → conditions given (Some (rows ++ more)) (certs ++ others) ≡ Some Shown
  both_shown rows more certs others e f =
      let first = shown_parts rows certs e in
      let second = shown_parts more others f in
      let half = meet (rows ++ more) rows more 0 0 [] certs (begin given (rows ++ more)) first.0
      first.1 in
      let rest = subst (λ rs. Meeting given (rows ++ more) half.0 rs certs) (sym (append-nil more))
      half.1 in
      let all = meet (rows ++ more) more [] half.0 0 certs others rest second.0 second.1 in
      finished given (rows ++ more) all.0 (certs ++ others) all.1

  pub certificates_append : (most : ℕ) (rows more : List Row) (certs others : List Cert) →
      AreCertificates most given rows certs → AreCertificates most given more others
      → AreCertificates most given (rows ++ more) (certs ++ others)
  certificates_append most rows more certs others a b = record {
    shows = both_shown rows more certs others a.shows b.shows;
    deep = All-append (λ (cert : Cert). cert_depth cert ≤ most) certs others a.deep b.deep;
    own_variables = λ test h g.
        let halves = and_parts (rows_pass test rows) (rows_pass test more)
        (sym (list_all-append (row_passes test) rows more) ∙ g) in
        All-append (λ (cert : Cert). cert_passes test cert ≡ true) certs others
        (a.own_variables test h halves.0) (b.own_variables test h halves.1);
  }

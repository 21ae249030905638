-- Rows that are shown one after the other: the certificates so far, and what is left of the list.
use Rattle.std.proofs.Common.{◌≡◌, ◌∙◌, ap, subst, sym, refl, cond, ℕ, ◌+◌, ◌<◌, ◌≤◌, Bool, true, false, Option, Some, None, Ok, List, [], ◌∷◌, ◌++◌, drop, length, get_or}
use Rattle.std.specs.Option.{option_to_list}
use Rattle.std.proofs.lemmas.Bool.{and_parts}
use Rattle.std.proofs.lemmas.List.{append-nil}
use Rattle.std.proofs.lemmas.List.Elements.{All-append, All-cons, All-nil}
use Rattle.std.specs.List.{All}
use Rattle.rx_row.specs.Negation.{negation, negation_within}
use Rattle.rx_row.specs.declared.row.Row.{Row}
use Rattle.rx_cert.specs.Conditions.{is_plain_row}
use Rattle.rx_cert.specs.Depth.{cert_depth}
use Rattle.rx_cert.specs.Examination.{verdict}
use Rattle.rx_cert.specs.Findings.{Said, Yes, No, Beyond, and_also, guard}
use Rattle.rx_cert.specs.Showing.{all_shown, negation_said, shown}
use Rattle.rx_cert.specs.Variables.{cert_passes, row_passes, rows_pass}
use Rattle.rx_cert.specs.declared.cert.Cert.{Cert}
use Rattle.rx_cert.proofs.FindingLaws.{within_parts}
use Rattle.rx_cert.proofs.ShowingLaws.{Meeting, after_plain, after_shown, begin, finished}
use Rattle.rx_solve.specs.Answers.{AreCertificates, IsCertificate}
use Rattle.rx_solve.specs.Refuter.{refuted}
use Rattle.rx_solve.specs.Shown.{NegationAnswers, RowAnswers, ShownAnswers}
use Rattle.rx_solve.proofs.OwnVariables.{negation_passes, with_row_passes}
use Rattle.rx_solve.proofs.Walks.{next_first}

-- the certificate is at most that deep, and passes the test
abbrev IsDeep : Cert → Type 0
IsDeep cert = cert_depth cert ≤ 174

abbrev Passes : (ℕ → Bool) → Cert → Type 0
Passes test cert = cert_passes test cert ≡ true

module _ (given rows : List Row) where
  -- the rest of the list, number i the first, decides, and with certificates for it the list is
  -- shown
  pub record Proving (i : ℕ) (rest : List Row) (certs : List Cert) : Type 0 where
    pub decides : all_shown refuted given rest ≡ all_shown refuted given rows
    pub meeting : Meeting given rows i rest certs
    pub deep : All IsDeep certs
    pub own : (test : ℕ → Bool) → rows_pass test given ≡ true → rows_pass test rows ≡ true →
        All (Passes test) certs × (rows_pass test rest ≡ true)

  pub start : Proving 0 rows []
  start =
      record {
        decides = refl;
        meeting = begin given rows;
        deep = All-nil IsDeep;
        own = λ test h g.
            (All-nil (Passes test), g);
      }

  module _ (i : ℕ) (row : Row) (rest : List Row) (certs : List Cert)
      (p : Proving i (row ∷ rest) certs) where
    -- what is found of the row, and then of the rest, is what is found of all
    found_first : (s : Said) → shown refuted given row ≡ s →
        and_also s (all_shown refuted given rest) ≡
        all_shown refuted given rows
    found_first s e = ap (λ f. and_also f (all_shown refuted given rest)) (sym e) ∙ p.decides

    pub plain_next : is_plain_row given row ≡ true → Proving (i + 1) rest certs
    plain_next e = record {
      decides = found_first Yes (ap (λ b. cond b Yes (negation_said refuted given row)) e);
      meeting = after_plain given rows i row rest certs e p.meeting;
      deep = p.deep;
      own =
          λ test h g. let o = p.own test h g in
          (o.0, (and_parts (row_passes test row) (rows_pass test rest) o.1).1);
    }

    -- a row that isn't plain is shown where its negation is refuted
    asked : is_plain_row given row ≡ false → (s : Said) → negation_said refuted given row ≡ s →
        shown refuted given row ≡ s
    asked e s f = ap (λ b. cond b Yes (negation_said refuted given row)) e ∙ f

    pub shown_next : is_plain_row given row ≡ false → (cert : Cert) →
        negation_said refuted given row ≡ Yes →
        IsCertificate 174 (given ++ negation row ∷ []) cert →
        Proving (i + 1) rest (certs ++ cert ∷ [])
    shown_next e cert f c =
        let keeps = within_parts (negation_within row) (refuted (given ++ negation row ∷ [])) f in
        record {
          decides = found_first Yes (asked e Yes f);
          meeting =
              after_shown given rows i row rest certs cert e
              (ap (λ b. guard b (verdict (given ++ negation row ∷ []) cert)) keeps.0 ∙ c.refutes)
              p.meeting;
          deep =
              All-append IsDeep certs (cert ∷ []) p.deep
              (All-cons IsDeep cert [] c.deep (All-nil IsDeep));
          own = λ test h g.
              let o = p.own test h g in
              let q = and_parts (row_passes test row) (rows_pass test rest) o.1 in (
                All-append (Passes test) certs (cert ∷ []) o.0
                    (All-cons (Passes test) cert []
                    (c.own_variables test
                    (with_row_passes test given (negation row) h
                    (negation_passes test row q.0))) (All-nil (Passes test))),
                q.1,
              );
        }

    -- a row that isn't shown decides
    pub refused : is_plain_row given row ≡ false → negation_said refuted given row ≡ No →
        all_shown refuted given rows ≡ No
    refused e f = sym (found_first No (asked e No f))

    pub too_large : is_plain_row given row ≡ false → negation_said refuted given row ≡ Beyond →
        all_shown refuted given rows ≡ Beyond
    too_large e f = sym (found_first Beyond (asked e Beyond f))

  pub all_done : (i : ℕ) (certs : List Cert) → Proving i [] certs →
      (all_shown refuted given rows ≡ Yes) × AreCertificates 174 given rows certs
  all_done i certs p = (
    sym p.decides,
    record {
      shows = finished given rows i certs p.meeting;
      deep = p.deep;
      own_variables =
          λ test h g. (p.own test h g).0;
    },
  )

  -- ---- the same where the rest is what is left of the list

  next_row : (i : ℕ) (row : Row) (certs : List Cert) → i < length rows → row ≡ get_or rows i row →
      Proving i (drop i rows) certs → Proving i (row ∷ drop (i + 1) rows) certs
  next_row i row certs h is p = subst (λ rs. Proving i rs certs) (next_first rows i row h is) p

  pub after_row : (i : ℕ) (row : Row) (certs next : List Cert) → i < length rows → row ≡
      get_or rows i row → Proving i (drop i rows) certs → RowAnswers given row certs next (Ok true) →
      Proving (i + 1) (drop (i + 1) rows) next
  after_row i row certs next h is p answer =
      subst (Proving (i + 1) (drop (i + 1) rows)) (sym answer.1.1) (by answer.0 answer.1.0)
    where
      by : (found : Option Cert) → ShownAnswers given row (Ok (Some found)) →
          Proving (i + 1) (drop (i + 1) rows) (certs ++ option_to_list found)
      by None plain =
          subst (Proving (i + 1) (drop (i + 1) rows)) (sym (append-nil certs))
          (plain_next i row (drop (i + 1) rows) certs (next_row i row certs h is p) plain)
      by (Some cert) found =
          shown_next i row (drop (i + 1) rows) certs (next_row i row certs h is p) found.0 cert
          found.1.0 found.1.1

-- what is answered about rows that are the given ones is so of these
pub certified : (given : List Row) (row : Row) (asked : List Row) (o : Option Cert) (cert : Cert) →
    asked ≡ given → o ≡ Some cert → NegationAnswers asked row (Ok o) →
    NegationAnswers given row (Ok (Some cert))
certified given row asked o cert same made a =
    subst (λ (rs : List Row). NegationAnswers rs row (Ok (Some cert))) same
    (subst (λ (f : Option Cert). NegationAnswers asked row (Ok f)) made a)

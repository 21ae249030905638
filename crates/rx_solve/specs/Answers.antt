-- Which answers of a refuter are right, and which closures always give such.
use Rattle.std.specs.Prelude.{◌≡◌, ◌≤◌, ◌++◌, ℕ, Bool, true, All, Option, Some, None, Result, Ok, Err, List, [], ◌∷◌}
use Rattle.std.specs.Fn.{Mut, AlwaysReturns, always_mut}
use denote.Ref.{Bor}
use Rattle.rx_plain.specs.Formed.{Formed}
use Rattle.rx_row.specs.declared.row.Row.{Row}
use Rattle.rx_cert.specs.Conditions.{conditions}
use Rattle.rx_cert.specs.Depth.{cert_depth}
use Rattle.rx_cert.specs.Examination.{verdict}
use Rattle.rx_cert.specs.Findings.{Said, Yes, No, Beyond, guard}
use Rattle.rx_cert.specs.Variables.{cert_passes, rows_pass}
use Rattle.rx_cert.specs.declared.cert.Cert.{Cert}
use Rattle.rx_cert.specs.declared.conditions.ConditionsAnswer.TheVariants.{Shown}
use Rattle.rx_fm.specs.declared.fm_end.FmEnd.{FmEnd}
use Rattle.rx_fm.specs.declared.fm_end.FmEnd.TheVariants.{Large}
use Rattle.rx_solve.specs.Bounds.{most_deep}
use Rattle.rx_solve.specs.Refuter.{refuted}

-- ---- certificates

-- it refutes the rows, is at most that deep, and has no variables but theirs: it passes each test
-- that they pass
pub record IsCertificate (most : ℕ) (rows : List Row) (cert : Cert) : Type 0 where
  pub refutes : verdict rows cert ≡ Yes
  pub deep : cert_depth cert ≤ most
  pub own_variables : (test : ℕ → Bool) → rows_pass test rows ≡ true → cert_passes test cert ≡ true

-- with them the rows follow from the given ones; each is at most that deep, and has no variables
-- but those of both lists
pub record AreCertificates (most : ℕ) (given rows : List Row) (certs : List Cert) : Type 0 where
  pub shows : conditions given (Some rows) certs ≡ Some Shown
  pub deep : All (λ cert. cert_depth cert ≤ most) certs
  pub own_variables : (test : ℕ → Bool) → rows_pass test given ≡ true → rows_pass test rows ≡ true →
      All (λ cert. cert_passes test cert ≡ true) certs

-- ---- answers

-- an answer that says what a function finds of the rows; that memory runs out is free
abbrev pub AnswersFor : (List Row → Said) → ℕ → List Row → Result (Option Cert) FmEnd → Type 0
AnswersFor says most rows (Ok None) = says rows ≡ No
AnswersFor says most rows (Ok (Some cert)) = (says rows ≡ Yes) × IsCertificate most rows cert
AnswersFor says most rows (Err e) = e ≡ Large → says rows ≡ Beyond

-- one formed row as a list
abbrev pub one_formed : Formed Row → Formed (List Row)
one_formed row = record { form = row.form ∷ []; within = row.within }

-- what is found of the rows with formed ones after them
abbrev pub formed_said : (List Row → Said) → List Row → Formed (List Row) → Said
formed_said says rows more = guard more.within (says (rows ++ more.form))

-- an answer that says so
abbrev pub BranchAnswers : (List Row → Said) → ℕ → List Row → Formed (List Row) →
    Result (Option Cert) FmEnd → Type 0
BranchAnswers says most rows more (Ok None) = formed_said says rows more ≡ No
BranchAnswers says most rows more (Ok (Some cert)) =
    (formed_said says rows more ≡ Yes) × IsCertificate most (rows ++ more.form) cert
BranchAnswers says most rows more (Err e) = e ≡ Large → formed_said says rows more ≡ Beyond

-- an answer of the refuter
abbrev pub Answers : List Row → Result (Option Cert) FmEnd → Type 0
Answers rows result = AnswersFor refuted most_deep rows result

-- the same at the arguments of a call
abbrev pub AnswersCall : Bor (List Row) × Unit {0} → Result (Option Cert) FmEnd → Type 0
AnswersCall a result = Answers a.0.now result

-- a closure that may be called again and again, and whose answers are right each time
pub record IsSolver {F : Type 0} (g : Mut F (Bor (List Row) × Unit {0})
    (Result (Option Cert) FmEnd)) (f : F) : Type 0 where
  pub callable : always_mut g f
  pub answers : AlwaysReturns g AnswersCall f

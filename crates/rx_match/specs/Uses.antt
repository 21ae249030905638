-- What a use that is found is like.
use Rattle.std.specs.Prelude.{◌≡◌, ℕ, Bool, true, All, Option, Some, None, Result, Ok, Err, List, [], ◌∷◌}
use Rattle.rx_poly.specs.declared.body.Body.{Body}
use Rattle.rx_row.specs.declared.row.Row.{Row}
use Rattle.rx_cert.specs.Findings.{Yes}
use Rattle.rx_cert.specs.Showing.{all_shown}
use Rattle.rx_cert.specs.Variables.{cert_passes}
use Rattle.rx_fm.specs.declared.fm_end.FmEnd.{FmEnd}
use Rattle.rx_fm.specs.declared.fm_end.FmEnd.TheVariants.{Large}
use Rattle.rx_term.specs.declared.rule.Equation.{Equation}
use Rattle.rx_term.specs.declared.rule.Rule.{Rule}
use Rattle.rx_term.specs.declared.term.Term.{Term}
use Rattle.rx_solve.specs.Answers.{AreCertificates}
use Rattle.rx_solve.specs.Attempts.{Tried, applies, beyond, fails}
use Rattle.rx_solve.specs.Bounds.{most_deep}
use Rattle.rx_solve.specs.Refuter.{refuted}
use Rattle.rx_inference.specs.Kinds.{used}
use Rattle.rx_inference.specs.Pieces.{asking}
use Rattle.rx_inference.specs.declared.step.Side.{Side}
use Rattle.rx_match.specs.Matching.{asked_rows, is_matched}
use Rattle.rx_match.specs.Variables.{equation_passes, rule_passes, substitution_passes}
use Rattle.rx_match.specs.declared.finding.Use.{Use}

-- an answer that says what comes of trying it; that memory runs out is free
abbrev pub UseAnswers : Tried (List (ℕ × Body)) → Result (Option Use) FmEnd → Type 0
UseAnswers tried (Ok None) = tried ≡ fails
UseAnswers tried (Ok (Some u)) = tried ≡ applies u.subst
UseAnswers tried (Err e) = e ≡ Large → tried ≡ beyond

-- the step is formed with the substitution, from a list of this hypothesis alone; the rows that it
-- asks are shown by the refuter, and by the certificates
pub record IsLawful (goal : Equation) (hypothesis : Rule) (side : Side) (place : ℕ) (u : Use) : Type
    0 where
  pub rows : List Row
  pub new : Equation
  pub formed : used (hypothesis ∷ []) goal side place 0 u.subst ≡ Ok (asking rows (new ∷ []))
  pub follows : all_shown refuted goal.rows rows ≡ Yes
  pub shown : AreCertificates most_deep goal.rows rows u.certs

-- it has no variables but those of the goal and of the hypothesis: it passes each test that they
-- pass
pub record HasOwnVariables (goal : Equation) (hypothesis : Rule) (u : Use) : Type 0 where
  pub subst : (test : ℕ → Bool) → equation_passes test goal ≡ true → rule_passes test hypothesis ≡
      true → substitution_passes test u.subst ≡ true
  pub certs : (test : ℕ → Bool) → equation_passes test goal ≡ true → rule_passes test hypothesis ≡
      true → All (λ cert. cert_passes test cert ≡ true) u.certs

-- ---- parts of a use that is found

-- the use has that substitution, and the rows are shown by the refuter and by its certificates
pub record IsShown (given rows : List Row) (ws : List (ℕ × Body)) (u : Use) : Type 0 where
  pub same : u.subst ≡ ws
  pub follows : all_shown refuted given rows ≡ Yes
  pub shown : AreCertificates most_deep given rows u.certs

-- the variables are set, and the rows that the hypothesis asks for in place of the part are formed
-- and shown
pub record IsShownAt (goal : Equation) (hypothesis : Rule) (part : Term) (ws : List (ℕ × Body))
    (u : Use) : Type 0 where
  pub matched : is_matched hypothesis ws ≡ true
  pub within : (asked_rows ws part hypothesis).within ≡ true
  pub shown : IsShown goal.rows (asked_rows ws part hypothesis).form ws u

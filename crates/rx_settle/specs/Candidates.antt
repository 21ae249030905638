-- What is to be tried with a hypothesis: a use that is found, or none.
use Rattle.std.specs.Prelude.{◌≡◌, ℕ, List}
use Rattle.rx_poly.specs.declared.body.Body.{Body}
use Rattle.rx_solve.specs.Attempts.{Tried, beyond, fails}
use Rattle.rx_term.specs.declared.rule.Equation.{Equation}
use Rattle.rx_term.specs.declared.rule.Rule.{Rule}
use Rattle.rx_term.specs.declared.rule_set.RuleParts.{RuleParts}
use Rattle.rx_inference.specs.States.{State}
use Rattle.rx_inference.specs.declared.step.Side.{Side}
use Rattle.rx_settle.specs.AtFirst.{at_first, using_number}
use Rattle.rx_moves.specs.Moves.{Hyp}
use Rattle.rx_moves.specs.Trying.{Next, attempt, then_try}
use Rattle.rx_settle.specs.Uses.{using_at, using_on}
use Rattle.rx_settle.specs.declared.uses.Candidate.{Candidate}
use Rattle.rx_settle.specs.declared.uses.Candidate.TheVariants.{Use, Fails, TooLarge}
use Rattle.rx_settle.specs.declared.uses.Matcher.{Matcher}

-- what comes of it, where the hypothesis has that number
abbrev pub candidate_tried : RuleParts → State → ℕ → Side → Candidate → Tried Next
candidate_tried parts state number side (Use place subst) =
    attempt parts state (Hyp side place number subst)
candidate_tried parts state number side Fails = fails
candidate_tried parts state number side TooLarge = beyond

-- that comes of a use at the place
abbrev pub IsCandidateFor : Tried (List (ℕ × Body)) → ℕ → Candidate → Type 0
IsCandidateFor tried place candidate =
    (parts : RuleParts) (state : State) (number : ℕ) (side : Side) →
    then_try tried (λ subst. attempt parts state (Hyp side place number subst)) ≡
    candidate_tried parts state number side candidate

-- that comes of the hypothesis at the place
abbrev pub IsCandidateAt : Matcher → Equation → Rule → Side → ℕ → Candidate → Type 0
IsCandidateAt by goal hypothesis side place candidate = (state : State) (number : ℕ) →
    using_at by.rules.now state by.how goal number hypothesis side place ≡
    candidate_tried by.rules.now state number side candidate

-- that comes of it on the side
abbrev pub IsCandidate : Matcher → Equation → Rule → Side → Candidate → Type 0
IsCandidate by goal hypothesis side candidate = (state : State) (number : ℕ) →
    using_on by.rules.now state by.how goal number hypothesis side ≡
    candidate_tried by.rules.now state number side candidate

-- that comes of the hypothesis of that number on a side of the first goal
abbrev pub IsCandidateOf : Matcher → State → ℕ → Side → Candidate → Type 0
IsCandidateOf by state number side candidate =
    at_first (using_number by.rules.now state by.how number side) state.goals ≡
    candidate_tried by.rules.now state number side candidate

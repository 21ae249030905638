-- What the answers of calls say.
use Rattle.std.specs.Prelude.{◌≡◌, ℕ, Bool, true, false, ◌&&◌, Option, Some, None, List, [], ◌∷◌, ◌++◌, Contains, length, map}
use Rattle.std.specs.List.{All, AllZip, fold, list_all}
use Rattle.std.specs.Option.{option_map}
use denote.Ref.{Bor}
use Rattle.rx_plain.specs.Formed.{Formed}
use Rattle.rx_poly.specs.declared.body.Body.{Body}
use Rattle.rx_poly_laws.specs.Tests.{passes}
use Rattle.rx_row.specs.declared.row.Row.{Row}
use Rattle.rx_cert.specs.Findings.{Said, Yes, No, Beyond}
use Rattle.rx_cert.specs.Variables.{rows_pass}
use Rattle.rx_cert.specs.declared.cert.Cert.{Cert}
use Rattle.rx_solve.specs.Answers.{AreCertificates}
use Rattle.rx_solve.specs.Attempts.{Tried, applying, is_noted, where_shown}
use Rattle.rx_solve.specs.Bounds.{most_deep}
use Rattle.rx_solve.specs.declared.showing.AllShown.{AllShown}
use Rattle.rx_solve.specs.declared.showing.AllShown.TheVariants.{Shown, NotShown, TooLarge}
use Rattle.rx_pairs.specs.Columns.{falls_rows, holds_rows}
use Rattle.rx_pairs.specs.declared.pair.Pair.{Pair}
use Rattle.rx_term.specs.declared.rule.Rule.{Rule}
use Rattle.rx_term.specs.declared.rule_set.RuleParts.{RuleParts}
use Rattle.rx_term.specs.declared.rule_set.SymInfo.{SymInfo}
use Rattle.rx_poly.specs.Variables.{uses_below}
use Rattle.rx_anchors.specs.Members.{arity_of, is_member}
use Rattle.rx_anchors.specs.declared.members.Members.{Members}
use Rattle.rx_anchors.specs.Values.{polynomial_of, with_choice, without_polynomials}
use Rattle.rx_rank.specs.Candidates.{with_candidate}
use Rattle.rx_rank.specs.Ranking.{Partition}
use Rattle.rx_rank.specs.Choices.{RankChoice, falls_by, filled, holds_by, is_yes}
use Rattle.rx_rank.specs.declared.attempt.Attempt.{Attempt}
use Rattle.rx_rank.specs.declared.attempt.Finding.{Finding}
use Rattle.rx_rank.specs.declared.attempt.Finding.TheVariants as findings
use Rattle.rx_rank.specs.declared.fitting.Fit.{Fit}
use Rattle.rx_rank.specs.declared.kind.RankingKind.{RankingKind}
use Rattle.rx_rank.specs.declared.kind.RankingKind.TheVariants.{Plain, Wider}

-- ---- attempts and findings

abbrev pub tried : {A : Type 0} → Attempt A → Tried A
tried {A} t = record { made = t.made; noted = t.noted }

-- the same, where what was made is seen through a view
abbrev pub tried_as : {A B : Type 0} → (A → B) → Attempt A → Tried B
tried_as {A} {B} view t = record { made = option_map view t.made; noted = t.noted }

-- only whether something was made
abbrev pub tried_only : {A : Type 0} → Attempt A → Tried (Unit {0})
tried_only {A} t = record { made = option_map (λ x. tt) t.made; noted = t.noted }

abbrev pub only_shown : Said → Tried (Unit {0})
only_shown says = where_shown says tt

abbrev pub found : Finding → Said
found findings.Shown = Yes
found findings.NotShown = No
found findings.TooLarge = Beyond

-- ---- rows of a pair that are shown

-- they keep the limits, and follow from the pair's by these certificates
pub record IsProved (pair : Pair) (rows : Formed (List Row)) (certs : List Cert) : Type 0 where
  pub within : rows.within ≡ true
  pub certified : AreCertificates most_deep pair.phi rows.form certs

-- what is said of them
abbrev pub IsTold : Said → Pair → Formed (List Row) → AllShown → Type 0
IsTold says pair rows (Shown certs) = (says ≡ Yes) × IsProved pair rows certs
IsTold says pair rows NotShown = says ≡ No
IsTold says pair rows TooLarge = says ≡ Beyond

-- ---- references

abbrev pub pairs_at : List (Bor Pair) → List Pair
pairs_at refs = map (λ (r : Bor Pair). r.now) refs

-- ---- candidates

-- the polynomials with those that are made, each unless it is one of them, and whether one passes
-- the limits
pub record Gathers (tries : List (Tried Body)) (before after : List Body) (noted : Bool) : Type 0
  where
    pub polys : after ≡ fold with_candidate before (applying tries)
    pub noted_is : noted ≡ is_noted tries

-- ---- certificates

-- those and more, where more are shown
abbrev pub joined : List Cert → AllShown → AllShown
joined certs (Shown more) = Shown (certs ++ more)
joined certs NotShown = NotShown
joined certs TooLarge = TooLarge

-- ---- a fit choice

-- the column of these polynomials holds at the pair by these certificates, or falls there
pub record IsHeld (values : List (Option Body)) (pair : Pair) (certs : List Cert) : Type 0 where
  pub left : Body
  pub right : Body
  pub left_is : polynomial_of values pair.left.0 ≡ Some left
  pub right_is : polynomial_of values pair.right.0 ≡ Some right
  pub proved : IsProved pair (holds_rows pair left right) certs

pub record IsFallen (values : List (Option Body)) (pair : Pair) (certs : List Cert) : Type 0 where
  pub left : Body
  pub right : Body
  pub left_is : polynomial_of values pair.left.0 ≡ Some left
  pub right_is : polynomial_of values pair.right.0 ≡ Some right
  pub proved : IsProved pair (falls_rows pair left right) certs

-- what an answer says of that
abbrev pub TellsHolds : List (Option Body) → Pair → AllShown → Type 0
TellsHolds values pair (Shown certs) = (holds_by values pair ≡ Yes) × IsHeld values pair certs
TellsHolds values pair NotShown = holds_by values pair ≡ No
TellsHolds values pair TooLarge = holds_by values pair ≡ Beyond

abbrev pub TellsFalls : List (Option Body) → Pair → AllShown → Type 0
TellsFalls values pair (Shown certs) = (falls_by values pair ≡ Yes) × IsFallen values pair certs
TellsFalls values pair NotShown = falls_by values pair ≡ No
TellsFalls values pair TooLarge = falls_by values pair ≡ Beyond

-- the pair falls by these certificates, or doesn't
abbrev pub IsDecided : List (Option Body) → Pair → Option (List Cert) → Type 0
IsDecided values pair None = is_yes (falls_by values pair) ≡ false
IsDecided values pair (Some certs) = (falls_by values pair ≡ Yes) × IsFallen values pair certs

-- the pairs without such certificates
abbrev pub still_open : List Pair → List (Option (List Cert)) → List Pair
still_open [] decided = []
still_open (pair ∷ pairs) [] = pair ∷ pairs
still_open (pair ∷ pairs) (None ∷ decided) = pair ∷ still_open pairs decided
still_open (pair ∷ pairs) (Some certs ∷ decided) = still_open pairs decided

-- it is of these polynomials, all pairs hold by its certificates, and it says which fall
pub record IsFit (values : List (Option Body)) (pairs : List Pair) (fit : Fit) : Type 0 where
  pub same : fit.values.items ≡ values
  pub holds : AllZip (IsHeld values) pairs fit.holds.items
  pub falls : AllZip (IsDecided values) pairs fit.falls.items

-- it is that of a choice
pub record IsChosen (infos : List SymInfo) (pairs : List Pair) (anchors order : List ℕ)
    (choice : RankChoice) (fit : Fit) : Type 0 where
  pub values : List (Option Body)
  pub filled_is : (filled infos pairs choice.raised
      (with_choice (without_polynomials (length infos)) anchors choice.polys) order).made ≡
      Some values
  pub fit_is : IsFit values pairs fit

-- that of one of the choices
pub record IsFirstFit (infos : List SymInfo) (pairs : List Pair) (anchors order : List ℕ)
    (choices : List RankChoice) (fit : Fit) : Type 0 where
  pub choice : RankChoice
  pub among : Contains choices choice
  pub chosen : IsChosen infos pairs anchors order choice fit

-- ---- the symbols of a component in memory

abbrev pub partition_of : Members → Partition
partition_of m = record { anchors = m.anchors.items; others = m.others.items }

-- they are of the component with that name
pub record AreOf (names : List ℕ) (c : ℕ) (part : Partition) : Type 0 where
  pub anchors : All (λ f. is_member names c f ≡ true) part.anchors
  pub others : All (λ f. is_member names c f ≡ true) part.others

-- ---- what the polynomials of a component are like

-- all variables of the rules' rows pass the test, or all of a pair
abbrev pub rules_pass : (ℕ → Bool) → List Rule → Bool
rules_pass test rules = list_all (λ (rule : Rule). rows_pass test rule.rows) rules

abbrev pub pair_passes : (ℕ → Bool) → Pair → Bool
pair_passes test pair =
    rows_pass test pair.phi && (list_all (passes test) pair.left_args &&
    list_all (passes test) pair.right_args)

-- so all of the rows of domains, where these are candidates
abbrev pub domains_pass : RankingKind → (ℕ → Bool) → List (List Row) → Bool
domains_pass Plain test domains = true
domains_pass Wider test domains = list_all (rows_pass test) domains

-- the polynomial is of a symbol of the component, over its arguments, with no variables but those
-- of the rows that candidates come from and of the pairs
pub record IsOwn (kind : RankingKind) (parts : RuleParts) (hypotheses : List Rule) (names : List ℕ)
    (c : ℕ) (pairs : List Pair) (f : ℕ) (p : Body) : Type 0 where
  pub member : is_member names c f ≡ true
  pub over : uses_below (arity_of parts.symbols f) p ≡ true
  pub own_variables : (test : ℕ → Bool) → rules_pass test (parts.rules ++ hypotheses) ≡ true →
      domains_pass kind test parts.domains ≡ true →
      list_all (pair_passes test) pairs ≡ true → passes test p ≡ true

pub record IsComponentFit (kind : RankingKind) (parts : RuleParts) (hypotheses : List Rule)
    (names : List ℕ) (c : ℕ) (pairs : List Pair) (fit : Fit) : Type 0 where
  pub values : List (Option Body)
  pub fit_is : IsFit values pairs fit
  pub count : length values ≡ length parts.symbols
  pub own : (f : ℕ) (p : Body) → polynomial_of values f ≡ Some p →
      IsOwn kind parts hypotheses names c pairs f p

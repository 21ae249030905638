-- What comes of the components one after the other, and their fits as one.
use Rattle.std.specs.Prelude.{◌≡◌, ◌<◌, ◌+◌, ◌++◌, ℕ, true, Option, Some, None, List, [], ◌∷◌, length, slice_get}
use Rattle.std.specs.Option.{IfSome}
use Rattle.rx_poly.specs.Variables.{uses_below}
use Rattle.rx_poly.specs.declared.body.Body.{Body}
use Rattle.rx_solve.specs.Attempts.{Tried}
use Rattle.rx_term.specs.declared.rule.Rule.{Rule}
use Rattle.rx_term.specs.declared.rule_set.RuleParts.{RuleParts}
use Rattle.rx_term.specs.declared.rule_set.SymInfo.{SymInfo}
use Rattle.rx_pairs.specs.declared.pair.Pair.{Pair}
use Rattle.rx_rank.specs.Answers.{IsFit, still_open, tried_as}
use Rattle.rx_anchors.specs.Members.{arity_of}
use Rattle.rx_anchors.specs.Values.{polynomial_of}
use Rattle.rx_rank.specs.Ranking.{unless_empty}
use Rattle.rx_rank.specs.Tries.{after}
use Rattle.rx_rank.specs.declared.attempt.Attempt.{Attempt}
use Rattle.rx_rank.specs.declared.fitting.Fit.{Fit}
use Rattle.rx_rank.specs.declared.kind.RankingKind.{RankingKind}
use Rattle.rx_find_ranks.specs.Tables.{pairs_open}
use Rattle.rx_find_ranks.specs.Columns.{overlaid}
use Rattle.rx_find_ranks.specs.declared.open_pair.OpenPair.{OpenPair}

-- what comes of groups, as those of the components from that name on
abbrev pub tries_from : RankingKind → RuleParts → List Rule → List ℕ → ℕ → List (List OpenPair) →
    List (Tried (List Pair))
tries_from kind parts hypotheses names c [] = []
tries_from kind parts hypotheses names c (group ∷ groups) =
    unless_empty kind parts hypotheses names c (pairs_open group) ∷
    tries_from kind parts hypotheses names (c + 1) groups

-- ---- fits of several components

-- two fits as one
pub record AreJoined (first second whole : Fit) : Type 0 where
  pub values : whole.values.items ≡ overlaid first.values.items second.values.items
  pub holds : whole.holds.items ≡ first.holds.items ++ second.holds.items
  pub falls : whole.falls.items ≡ first.falls.items ++ second.falls.items

-- the fit of one component more is joined to the fit before, if there is one
abbrev pub JoinsNext : Fit → Option Fit → Option Fit → Type 0
JoinsNext before None made = made ≡ None
JoinsNext before (Some fit) None = ⊥
JoinsNext before (Some fit) (Some whole) = AreJoined before fit whole

-- so of attempts, and what is noted stays
pub record IsNext (before : Fit) (tried whole : Attempt Fit) : Type 0 where
  pub made : JoinsNext before tried.made whole.made
  pub noted : whole.noted ≡ tried.noted

-- the polynomial is of a symbol of a component whose name is below that, over its arguments
pub record IsOwnBelow (infos : List SymInfo) (names : List ℕ) (c f : ℕ) (p : Body) : Type 0 where
  pub name : ℕ
  pub is : slice_get names f ≡ Some name
  pub less : name < c
  pub over : uses_below (arity_of infos f) p ≡ true

-- the fit is of components whose names are below that, with these pairs
pub record IsFitBelow (infos : List SymInfo) (names : List ℕ) (c : ℕ) (pairs : List Pair)
    (fit : Fit) : Type 0 where
  pub fit_is : IsFit fit.values.items pairs fit
  pub count : length fit.values.items ≡ length infos
  pub own : (f : ℕ) (p : Body) → polynomial_of fit.values.items f ≡ Some p →
      IsOwnBelow infos names c f p

-- what comes of the component with that name, after those whose names are below it
pub record IsOneMore (kind : RankingKind) (parts : RuleParts) (hypotheses : List Rule)
    (names : List ℕ) (c : ℕ) (pairs : List Pair) (before : Fit) (t : Attempt Fit) : Type 0 where
  pub tried : (done : List Pair) → IsFitBelow parts.symbols names c done before
      → tried_as (λ fit. still_open (done ++ pairs) fit.falls.items) t ≡
      after (still_open done before.falls.items) (unless_empty kind parts hypotheses names c pairs)
  pub fits : (done : List Pair) → IsFitBelow parts.symbols names c done before →
      IfSome t.made (IsFitBelow parts.symbols names (c + 1) (done ++ pairs))

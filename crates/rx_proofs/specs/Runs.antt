-- Runs of steps, and which of them are accepted.
use Rattle.std.specs.Prelude.{◌≡◌, true, None, Ok, [], ◌∷◌, ◌++◌, List}
use Rattle.rx_cert.specs.declared.cert.Cert.{Cert}
use Rattle.rx_domain.specs.Keeping.{Keeps, keeping}
use Rattle.rx_rewriting.specs.Premises.{ClosedUnder, Lowers}
use Rattle.rx_rewriting.specs.Ranks.{Weight}
use Rattle.rx_rewriting.specs.Terms.{Ground}
use Rattle.rx_term.specs.Covered.{IsCoveredOver}
use Rattle.rx_term.specs.Domains.{IsInside, are_domains, root_domains}
use Rattle.rx_term.specs.Meaning.{Instance}
use Rattle.rx_term.specs.WellMade.{IsWellMade}
use Rattle.rx_term.specs.declared.rule.Equation.{Equation}
use Rattle.rx_term.specs.declared.rule.Rule.{Rule}
use Rattle.rx_term.specs.declared.rule_set.RuleParts.{RuleParts}
use Rattle.rx_inference.specs.States.{State, applied}
use Rattle.rx_inference.specs.declared.step.Step.{Step}
use Rattle.rx_cover.specs.Covering.{Covers, covering}
use Rattle.rx_cover.specs.declared.cover_tree.CoverTree.{CoverTree}
use Rattle.rx_pairs.specs.Inside.{descends_in}
use Rattle.rx_pairs.specs.Lowering.{Descends}
use Rattle.rx_pairs.specs.Ranks.{bad_rank}
use Rattle.rx_pairs.specs.declared.pair_cert.PairCert.{PairCert}
use Rattle.rx_pairs.specs.declared.table.RankTable.{RankTable}
use Rattle.rx_proofs.specs.Goals.{Both, IsFitting, IsGoalInside}

-- steps one after the other, each of which applies, from a state to the end
pub data Run (parts : RuleParts) (end : State) : State → Type 0 where
  NoStep : Run parts end end
  OneMore : (state next : State) (step : Step) → applied parts state step ≡ Ok next →
      Run parts end next → Run parts end state

-- the goal alone, and no hypotheses
abbrev pub start : Equation → State
start goal = record { goals = goal ∷ []; hypotheses = [] }

-- no goals are left, and these hypotheses were kept
abbrev pub finished : List Rule → State
finished hypotheses = record { goals = []; hypotheses = hypotheses }

-- a run from a goal that fits and is inside leaves no goals; the set is well made and covered inside
-- its domains, its rules keep them, and each step from inside by its rules and by the hypotheses
-- that are kept makes a weight smaller
pub record Accepted (parts : RuleParts) (goal : Equation) (hypotheses : List Rule)
    (weight : Ground → Weight) : Type 0 where
  pub made : IsWellMade parts
  pub domains : are_domains parts.symbols parts.domains ≡ true
  pub covered : IsCoveredOver (root_domains parts) parts
  pub fits : IsFitting parts goal
  pub inside : IsGoalInside parts goal
  pub keeps : ClosedUnder (IsInside parts) (Instance parts.rules)
  pub run : Run parts (finished hypotheses) (start goal)
  pub lowers : Lowers weight (IsInside parts) (Both parts hypotheses)

-- no symbol has a domain, or certificates show that the goal is inside and that the rules keep the
-- domains
pub data IsKept (parts : RuleParts) (goal : Equation) : Type 0 where
  NoDomains : parts.domains ≡ [] → IsKept parts goal
  Shown : (certs : List (List Cert)) → keeping parts goal certs ≡ Keeps → IsKept parts goal

-- the same as it can be checked: cover trees show that the set is covered, and all pairs of rules
-- and hypotheses inside the domains are lower by a lawful rank table
pub record IsProof (parts : RuleParts) (goal : Equation) (hypotheses : List Rule)
    (table : RankTable) : Type 0 where
  pub made : IsWellMade parts
  pub domains : are_domains parts.symbols parts.domains ≡ true
  pub fits : IsFitting parts goal
  pub kept : IsKept parts goal
  pub trees : List (List CoverTree)
  pub covers : covering parts trees ≡ Covers
  pub run : Run parts (finished hypotheses) (start goal)
  pub lawful : bad_rank parts table ≡ None
  pub certs : List PairCert
  pub descends : descends_in parts (parts.rules ++ hypotheses) table certs ≡ Descends

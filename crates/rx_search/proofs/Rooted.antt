-- The node with no steps.
use Rattle.std.proofs.Common.{◌≡◌, [], refl, sym, subst}
use Rattle.std.proofs.lemmas.List.Elements.{All-nil}
use Rattle.rx_term.specs.WellMade.{IsWellMade}
use Rattle.rx_term.specs.declared.rule.Equation.{Equation}
use Rattle.rx_term.specs.declared.rule_set.RuleParts.{RuleParts}
use Rattle.rx_cert.specs.Findings.{Yes}
use Rattle.rx_proofs.specs.Goals.{IsFitting}
use Rattle.rx_rank.specs.Ranking.{ranked}
use Rattle.rx_rank.specs.declared.kind.RankingKind.{RankingKind}
use Rattle.rx_search.specs.Calls.{started}
use Rattle.rx_search.specs.Nodes.{IsNode}
use Rattle.rx_search.specs.declared.node.Node.{Node}
use Rattle.rx_settle.proofs.ReachedLaws.{IsDeep}
use Rattle.rx_settle.specs.Settling.{most_moves}

module _ (kind : RankingKind) (parts : RuleParts) where
  -- the node with no steps is one of the search
  pub start_is : (goal : Equation) (node : Node) → IsWellMade parts → IsFitting parts goal →
      ranked kind parts [] ≡ Yes → node ≡ started goal most_moves → IsNode kind parts goal node
  start_is goal node made fits is same =
      subst (IsNode kind parts goal) (sym same) (record {
        reached = record { made = made; fits = fits; applies = refl; deep = All-nil IsDeep };
        ranked = is;
      })

-- The pairs of the entries are the open pairs.
use Rattle.std.proofs.Common.{◌≡◌, ◌∙◌, List, ap, subst, sym}
use Rattle.std.specs.Result.{IfOk}
use Rattle.rx_graph.specs.Graph.{IsOver}
use Rattle.rx_pairs.specs.Graph.{edges_of}
use Rattle.rx_pairs.specs.declared.pair.Pair.{Pair}
use Rattle.rx_rank.specs.Answers.{pairs_at}
use Rattle.rx_rank.specs.Components.{representatives_of}
use Rattle.rx_find_ranks.proofs.fits.open_representatives.Goals as goal

pub find_representatives-requires-clause-over : goal.find_representatives-requires-clause-over
find_representatives-requires-clause-over c =
    subst (λ (ps : List Pair). IsOver c.args.symbols (edges_of ps))
    (sym (ap pairs_at c.as_slice.ensures.value ∙ c.in_ok-pairs.ensures)) c.requires.over

pub returns : goal.returns
returns c =
    subst (λ (ps : List Pair). IfOk c.find_representatives.result
    (λ names. names.items ≡ representatives_of c.args.symbols ps))
    (ap pairs_at c.as_slice.ensures.value ∙ c.in_ok-pairs.ensures) c.find_representatives.ensures

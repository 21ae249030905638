-- One choice that doesn't apply is noted.
use Rattle.std.proofs.Common.{map}
use Rattle.rx_search.specs.Candidates.{expansions}
use Rattle.rx_search.specs.Menu.{attempted_by}
use Rattle.rx_steps.specs.Alone.{alone}
use Rattle.rx_search.proofs.Finding.{none_grow}
use Rattle.rx_search.proofs.known.note_end.Goals as goal

pub returns-in-Large : goal.returns-in-Large
returns-in-Large c = λ parts none are.
    none_grow parts c.args.goal.now c.push_noted.new.known (none c.in-Large.is)
    c.push_noted.result
    (c.push_noted.ensures parts (map (attempted_by parts (alone c.args.goal.now)) expansions) are)

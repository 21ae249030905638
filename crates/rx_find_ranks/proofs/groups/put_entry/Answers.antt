-- The entry is in the group of its component, or has no component that is named by a symbol.
use Rattle.std.proofs.Common.{sym}
use Rattle.std.proofs.lemmas.Result.{on_ok_weaker}
use Rattle.rx_find_ranks.proofs.Grouping.{put_by_name, put_unnamed}
use Rattle.rx_find_ranks.specs.Groups.{groups_in}
use Rattle.rx_find_ranks.proofs.groups.put_entry.Goals as goal

pub returns-in-None : goal.returns-in-None
returns-in-None c =
    λ before is. put_unnamed c.args.names.now before c.args.entry c.args.groups.now.items is
    (sym c.in-None.ensures)

pub returns-in-Some : goal.returns-in-Some
returns-in-Some c =
    on_ok_weaker c.push_at.result
    (λ put before is.
    put_by_name c.args.names.now before c.args.entry c.args.groups.now.items is c.in-Some.name
    (groups_in c.push_at.new.groups.items) c.in-Some.ensures put)
    c.push_at.ensures

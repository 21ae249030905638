-- By the names of the groups.
use Rattle.std.proofs.Common.{◌∙◌}
use Rattle.rx_wider_domains.proofs.ServingLaws.{lists_are}
use Rattle.rx_wider_domains.proofs.finding.group_rows_of.Goals as goal

pub returns : goal.returns
returns c =
    c.in_ok-lists.ensures ∙
    lists_are c.args.rules.now c.args.goal.now c.args.names.now c.parts.result.now c.requires
    c.parts.ensures.parts

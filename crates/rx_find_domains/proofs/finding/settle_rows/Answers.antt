-- Passes over the lists.
use Rattle.std.proofs.Common.{◌∙◌}
use Rattle.rx_find_domains.proofs.KeepLaws.{settled_by}
use Rattle.rx_find_domains.proofs.finding.settle_rows.Goals as goal

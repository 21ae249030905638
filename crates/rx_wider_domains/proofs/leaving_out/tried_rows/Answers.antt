-- The last rows come first, and of these so many.
use Rattle.std.proofs.Common.{◌∙◌, ap, reverse, take}
use Rattle.rx_wider_domains.specs.Finding.{most_tried}
use Rattle.rx_wider_domains.proofs.leaving_out.tried_rows.Goals as goal

pub returns : goal.returns
returns c =
    c.truncate.ensures.items ∙
    ap (take most_tried) (c.reverse.ensures.items ∙ ap reverse c.in_ok-all.ensures)

-- The list is put back.
use Rattle.std.proofs.Common.{◌∙◌, ap, sym, false, List}
use Rattle.std.specs.Prelude.{slice_set}
use Rattle.rx_find_domains.specs.Finding.{list_of, without}
use Rattle.rx_row.specs.declared.row.Row.{Row}
use Rattle.rx_wider_domains.specs.Finding.{serves}
use Rattle.rx_wider_domains.proofs.ServingLaws.{put_back, row_left}
use Rattle.rx_wider_domains.proofs.leaving_out.leave_row.Goals as goal

pub returns-clause-lists : goal.returns-clause-lists
returns-clause-lists g c =
    let rules = c.args.aim.rules.now in
    let goal_here = c.args.aim.goal.now in
    let lists = c.args.lists.now.items in
    let f = c.args.at.now.0 in
    let row = c.args.at.now.1 in
    c.put_rows.ensures ∙
    ap (λ (ls : List (List Row)). slice_set ls f c.in_ok-before.before) c.in_ok-drop_row.ensures ∙
    ap (λ (rows : List Row). slice_set (without lists f row) f rows)
    (c.in_ok-before.ensures ∙ c.rows_of.ensures ∙
    ap (λ (ls : List (List Row)). list_of ls f) c.as_slice.ensures.value) ∙
    put_back lists f row ∙
    row_left rules goal_here lists c.args.at.now false
    (ap (serves rules goal_here)
    (sym (c.as_slice-2.ensures.value ∙ c.in_ok-drop_row.ensures)) ∙
    sym c.in_ok-served.ensures.serves ∙ c.if-served.false)

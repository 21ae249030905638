use Rattle.std.proofs.Common.{sym, ◌+◌, add-one}
use Rattle.std.proofs.lemmas.List.{take_rest}
use Rattle.rx_lines.proofs.Cuts.{cut_found, cut_none}
use Rattle.rx_lines.proofs.cutting.split_line.Goals as goal

pub returns-in-Some : goal.returns-in-Some
returns-in-Some c =
    let h = cut_found c.args.text.now c.in-Some.feed (sym c.in-Some.ensures.first) in
    (rw (take_rest c.args.text.now (c.in-Some.feed + 1), add-one c.in-Some.feed) h.joined, h.one)

pub returns-in-None : goal.returns-in-None
returns-in-None c = cut_none c.args.text.now (sym c.in-None.ensures.first)

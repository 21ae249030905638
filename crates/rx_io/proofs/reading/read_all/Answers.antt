-- Past the limit the file has at least the bytes that were taken.
use Rattle.std.proofs.Common.{◌<◌, ◌+◌, length, take, arith}
use Rattle.rx_io.proofs.OutsideLemmas.{holds_more}
use Rattle.rx_io.proofs.reading.read_all.Goals as goal

pub returns-then-count-most-clause-long : goal.returns-then-count-most-clause-long
returns-then-count-most-clause-long g c _ =
    let more : c.args.limit < length c.loop-count.bytes.items +
    length (take c.in-Ok-take.count c.take.new.into) =
    omega (arith, c.in-Ok-take.ensures.bound.1) in
    holds_more (g.F.Files.held c.args.files.now) c.args.name.now (g.F.Files.left c.open.new.self)
    (g.F.Files.left c.loop-count.files) (g.F.Files.left c.take.new.self) _ _ c.args.limit
    c.in-Ok.ensures.ok
    c.loop-count.invariant.taken c.in-Ok-take.ensures.bytes.0 more

-- The number of the column is how many there are with it.
use Rattle.std.proofs.Common.{◌≡◌, ◌∙◌, ap, arith, length}
use Rattle.rx_find_ranks.specs.Closing.{close_all, fallen, fitted}
use Rattle.rx_find_ranks.proofs.polynomials.add_column.Goals as goal

pub returns-clause-leaving : goal.returns-clause-leaving
returns-clause-leaving c =
    let size = c.push.new.self.ok.0 in
    let len = c.len-number.ensures in
    let count : c.len-number.result ≡ length c.push.new.self.items = omega (arith, size, len) in
    let fits = c.args.fits in
    c.in_ok-left.ensures.leaving ∙ ap (λ k. close_all k c.args.closed.items
    (fallen (fitted fits.entries.items fits.holds.items fits.falls.items))) count

-- A number above the bound is the only one that is there.
use Rattle.std.proofs.Common.{arith, ◌≤◌, ◌^◌, ◌-◌}
use Rattle.std.proofs.lemmas.Bool.{le-leb, leb-true}
use Rattle.rx_text.proofs.Decimals.{naturals_unambiguous}
use Rattle.rx_text.proofs.Readers.{only_that}
use Rattle.rx_text.proofs.numbers.read_natural.Goals as goal

pub returns-else-value-most : goal.returns-else-value-most
returns-else-value-most c = λ thing left b.
    let small : thing ≤ c.args.most = leb-true thing c.args.most b.in_range in
    let fits : thing ≤ 2 ^ 128 - 1 = omega (arith, c.ranges.most.fits) in
    let same =
    only_that (naturals_unambiguous (2 ^ 128 - 1) (omega arith)) c.in-Some.ensures
    (record { in_range = le-leb thing (2 ^ 128 - 1) fits; text = b.text; over = b.over }) in
    absurd (omega (arith, same.0))

-- The new test is right.
use Rattle.std.proofs.Common.{IfSome, Some, subst, sym}
use Rattle.std.proofs.lemmas.List.Elements.{All-set}
use Rattle.rx_rank.specs.Numbers.{IsRightTest, Numbered}
use Rattle.rx_rank.proofs.numbered.keep_test.Goals as goal

pub invariant_of-numbered : goal.invariant_of-numbered
invariant_of-numbered c =
    let inside = c.numbered.inside in
    let n : Numbered = record { pairs = inside.pairs.items; polys = inside.polys.items } in
    record {
      takings = c.numbered.invariant.takings;
      tests = All-set (λ o. IfSome o (IsRightTest n)) inside.tests.items c.test_slot-slot.result
          (Some c.args.test)
          (subst (λ m. IsRightTest m c.args.test) (sym c.numbered.view_is) c.requires)
          c.numbered.invariant.tests;
    }

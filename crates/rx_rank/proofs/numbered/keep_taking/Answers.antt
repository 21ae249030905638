-- The new taking is right.
use Rattle.std.proofs.Common.{IfSome, Some, subst, sym}
use Rattle.std.proofs.lemmas.List.Elements.{All-set}
use Rattle.rx_rank.specs.Numbers.{IsRightTaking, Numbered}
use Rattle.rx_rank.proofs.numbered.keep_taking.Goals as goal

pub invariant_of-numbered : goal.invariant_of-numbered
invariant_of-numbered c =
    let inside = c.numbered.inside in
    let n : Numbered = record { pairs = inside.pairs.items; polys = inside.polys.items } in
    record {
      takings = All-set (λ o. IfSome o (IsRightTaking n)) inside.takings.items
          c.taking_slot-slot.result
          (Some c.args.taking)
          (subst (λ m. IsRightTaking m c.args.taking) (sym c.numbered.view_is) c.requires)
          c.numbered.invariant.takings;
      tests = c.numbered.invariant.tests;
    }

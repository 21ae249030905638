use Rattle.std.proofs.Common.{◌≡◌, ◌∙◌, ◌++◌, ◌∷◌, ◌+◌, [], ap, length, subst, sym}
use Rattle.std.proofs.lemmas.List.{length-append}
use Rattle.rx_cli.specs.Examples.{AreStatuses}
use Rattle.rx_cli.proofs.ExampleLaws.{statuses_more}
use Rattle.rx_cli.proofs.examples.first_statuses.Goals as goal

pub loop-number-preserved : goal.loop-number-preserved
loop-number-preserved c =
    let xs = c.loop-number.statuses.items in
    let s = c.in_ok-status_of_example.field-0 in
    let grown : c.push.new.self.items ≡ xs ++ s ∷ [] = c.in_ok-push.ensures.items in
    record {
      count =
          ap length grown ∙ length-append xs (s ∷ []) ∙
          ap (λ k. k + 1) c.loop-number.invariant.count;
      are = subst AreStatuses (sym grown)
          (statuses_more c.loop-number.number xs s c.loop-number.invariant.count
          c.loop-number.invariant.are c.in_ok-status_of_example.ensures);
    }

use Rattle.std.proofs.Common.{◌∙◌, ap, List}
use Rattle.std.specs.List.{flat_map}
use Rattle.rx_term.specs.declared.rule.Rule.{Rule}
use Rattle.rx_translate.proofs.Sorted.{sorted_joined}
use Rattle.rx_translate.proofs.parts.parts_of.Goals as goal

pub returns : goal.returns
returns c =
    let sorted = c.in_ok-sorted_rules.ensures.forms in
    let rules = c.in_ok-rules.ensures ∙ ap (flat_map (λ (rs : List Rule). rs)) sorted.0 ∙
    sorted_joined c.args.integers c.args.code.now in
    record {
      forms = (
        (λ i. record {
          symbols = c.in_ok-symbols_of.ensures i;
          domains = c.new.ensures i;
          rules = rules i;
          fails = c.number_of_failures.ensures i;
        }),
        sorted.1,
      );
    }

-- The goals are packed, and then the hypotheses.
use Rattle.std.proofs.Common.{subst, List}
use Rattle.rx_term.specs.declared.rule.Rule.{Rule}
use Rattle.rx_bank.specs.Packing.{StandsAs, equations_within, rules_at}
use Rattle.rx_bank.proofs.Growing.{state_packed}
use Rattle.rx_bank.proofs.bank.Bank.pack.Goals as goal

pub returns-clause-packed : goal.returns-clause-packed
returns-clause-packed c =
    let b = c.pack_rules.new.bank in
    let hypotheses = subst (λ (rs : List Rule).
    StandsAs equations_within rules_at b c.in_ok-hypotheses.hypotheses rs) c.hypotheses.ensures
    c.in_ok-hypotheses.ensures.rules in
    state_packed c.pack_goals.new.bank b c.pack_rules.ensures.stay _ c.args.state.now
    c.in_ok-goals.ensures.goals hypotheses

-- The lists by symbol are lawful; what is settled from them is ready.
use Rattle.std.proofs.Common.{◌≡◌, ◌∙◌, ap, sym, subst, true, None, List}
use Rattle.rx_row.specs.declared.row.Row.{Row}
use Rattle.rx_domain.specs.Setting.{bad_domain, with_domains}
use Rattle.rx_find_domains.specs.Finding.{settled}
use Rattle.rx_wider_domains.specs.Finding.{domains_of, is_ready}
use Rattle.rx_wider_domains.proofs.LawfulLists.{by_are, by_symbol_lawful}
use Rattle.rx_wider_domains.proofs.ServingLaws.{ready_coverable, ready_ranked, serves_ready}
use Rattle.rx_wider_domains.proofs.finding.domains_from.Goals as goal

pub settled_domains-requires-clause-lawful : goal.settled_domains-requires-clause-lawful
settled_domains-requires-clause-lawful g c =
    let rules = c.args.aim.rules.now in
    subst (λ (lists : List (List Row)). bad_domain rules.symbols lists ≡ None)
    (sym (c.in_ok-rows.ensures ∙ by_are rules c.args.aim.names.now c.symbols.result.now
    c.args.lists.now c.requires.names c.symbols.ensures))
    (by_symbol_lawful rules c.args.lists.now)

pub returns-clause-found : goal.returns-clause-found
returns-clause-found g c =
    let rules = c.args.aim.rules.now in
    let goal_here = c.args.aim.goal.now in
    let rows : c.in_ok-domains.domains.rows ≡ domains_of rules goal_here c.args.lists.now =
    c.in_ok-domains.ensures.rows ∙
    ap (settled rules goal_here) (c.in_ok-rows.ensures ∙ by_are rules c.args.aim.names.now
    c.symbols.result.now c.args.lists.now c.requires.names c.symbols.ensures) in
    let ready : is_ready (with_domains rules c.in_ok-domains.domains.rows) ≡ true =
    ap (λ (ls : List (List Row)). is_ready (with_domains rules ls)) rows ∙
    serves_ready rules goal_here c.args.lists.now c.requires.serves in
    record {
      lawful = c.in_ok-domains.ensures.lawful;
      keeps = c.in_ok-domains.ensures.keeps;
      certificates = c.in_ok-domains.ensures.certificates;
      coverable = ready_coverable (with_domains rules c.in_ok-domains.domains.rows) ready;
      ranked = ready_ranked (with_domains rules c.in_ok-domains.domains.rows) ready;
    }

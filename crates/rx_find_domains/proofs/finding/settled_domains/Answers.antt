-- What is settled is lawful and kept.
use Rattle.std.proofs.Common.{◌≡◌, ◌∙◌, List, None, subst, sym}
use Rattle.rx_row.specs.declared.row.Row.{Row}
use Rattle.rx_domain.specs.Setting.{bad_domain, with_domains}
use Rattle.rx_find_domains.specs.Kept.{AreAllKeeps, AreAllShown}
use Rattle.rx_find_domains.proofs.KeepLaws.{keeps_all, settled_shown}
use Rattle.rx_find_domains.proofs.LawfulLaws.{settled_lawful}
use Rattle.rx_find_domains.proofs.finding.settled_domains.Goals as goal

pub find_keeps-requires-clause-lawful : goal.find_keeps-requires-clause-lawful
find_keeps-requires-clause-lawful g c =
    subst (λ (lists : List (List Row)). bad_domain c.args.rules.now.symbols lists ≡ None)
    (sym (c.as_slice.ensures ∙ c.in_ok-rows.ensures.rows))
    (settled_lawful c.args.rules.now c.args.goal.now c.args.lists.items c.requires.lawful)

pub find_keeps-requires-clause-shown : goal.find_keeps-requires-clause-shown
find_keeps-requires-clause-shown g c =
    subst (λ (lists : List (List Row)). AreAllShown (with_domains c.args.rules.now lists)
    c.args.goal.now) (sym (c.as_slice.ensures ∙ c.in_ok-rows.ensures.rows))
    (settled_shown c.args.rules.now c.args.goal.now c.args.lists.items)

pub returns-clause-lawful : goal.returns-clause-lawful
returns-clause-lawful g c =
    subst (λ (lists : List (List Row)). bad_domain c.args.rules.now.symbols lists ≡ None)
    (sym c.in_ok-rows.ensures.rows) (settled_lawful c.args.rules.now c.args.goal.now c.args.lists.items c.requires.lawful)

pub returns-clause-keeps : goal.returns-clause-keeps
returns-clause-keeps g c =
    keeps_all (with_domains c.args.rules.now c.in_ok-rows.rows) c.args.goal.now
    c.in_ok-keeps.keeps
    (subst (λ (lists : List (List Row)). AreAllShown (with_domains c.args.rules.now lists)
    c.args.goal.now) (sym c.in_ok-rows.ensures.rows)
    (settled_shown c.args.rules.now c.args.goal.now c.args.lists.items))
    (subst (λ (lists : List (List Row)). AreAllKeeps (with_domains c.args.rules.now lists)
    c.args.goal.now c.in_ok-keeps.keeps) c.as_slice.ensures c.in_ok-keeps.ensures.keeps)

pub returns-clause-certificates : goal.returns-clause-certificates
returns-clause-certificates g c =
    subst (λ (lists : List (List Row)). AreAllKeeps (with_domains c.args.rules.now lists)
    c.args.goal.now c.in_ok-keeps.keeps) c.as_slice.ensures c.in_ok-keeps.ensures.keeps

use Rattle.std.proofs.Common.{◌≡◌, ◌∙◌, ap, refl, sym, true, false, List}
use Rattle.rx_row.specs.declared.row.Row.{Row}
use Rattle.rx_term.specs.Domains.{are_domains}
use Rattle.rx_rulefile.proofs.MadeRules.{made}
use Rattle.rx_rulefile.proofs.reading.read_rules.Goals as goal

pub returns-in-Some : goal.returns-in-Some
returns-in-Some c = (
  c.in_ok-parts.parts,
  (
    c.in_ok-parts.goal,
    (c.in_ok-parts.ensures, sym c.first_unmade.ensures ∙ c.in-Some.is),
  ),
)

pub unreachable-requires : goal.unreachable-requires
unreachable-requires c =
    let whole = made c.in_ok-parts.parts c.in_ok-parts.goal
    (sym c.first_unmade.ensures ∙ c.in_default.is) in
    let domains = ap (λ (lists : List (List Row)). are_domains c.in_ok-parts.parts.symbols lists)
    c.in_ok-parts.ensures.no_domains in
    let some = c.from_parts.ensures.exact.1 (whole.0, domains) in
    let none : false ≡ true = rw c.in-None.is at some in
    cc

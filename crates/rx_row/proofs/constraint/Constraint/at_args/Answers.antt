-- Substitution and assignment commute, row by row.
use Rattle.std.proofs.Common.{◌≡◌, ◌∙◌, ◌↔◌, ap, subst, sym, List}
use Rattle.rx_poly.specs.Substitution.{numbered, updated_assignment}
use Rattle.rx_row.specs.Holds.{AllHold}
use Rattle.rx_row.specs.Substitution.{subst_rows}
use Rattle.rx_row.specs.declared.row.Row.{Row}
use Rattle.rx_row.proofs.SubstitutionLaws.{subst_rows-hold}
use Rattle.rx_row.proofs.constraint.Constraint.at_args.Goals as goal

pub returns-clause-holds : goal.returns-clause-holds
returns-clause-holds c = λ a.
    let ws = numbered c.args.args.now in
    let e : c.from_vec.result ≡ subst_rows ws c.args.self.now = c.from_vec.ensures ∙
    c.in_ok-rows.ensures.0 ∙ ap (subst_rows ws) (c.as_slice.ensures ∙ c.self.view_is) in
    subst (λ (rs : List Row). AllHold a rs ↔ AllHold (updated_assignment a ws) c.args.self.now)
    (sym e)
    (subst_rows-hold a ws c.args.self.now)

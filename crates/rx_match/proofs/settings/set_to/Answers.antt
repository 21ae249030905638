-- The variable is written at its place.
use Rattle.std.proofs.Common.{◌≡◌, ◌∙◌, ap, sym, subst, ◌≤◌, ℕ, List, length, arith}
use Rattle.std.specs.List.{insert}
use Rattle.rx_poly.specs.declared.body.Body.{Body}
use Rattle.rx_match.specs.Settings.{place_for}
use Rattle.rx_match.proofs.SettingLaws.{place_for-le, set_to-insert}
use Rattle.rx_match.proofs.settings.set_to.Goals as goal

pub insert-requires : goal.insert-requires
insert-requires c =
    let at : c.place_for-place.result ≡ place_for c.args.variable c.args.settings =
    c.place_for-place.ensures ∙ ap (place_for c.args.variable) c.as_slice.ensures in
    let items : c.into_vec-made.result.items ≡ c.args.settings = c.into_vec-made.ensures in
    let within : c.place_for-place.result ≤ length c.into_vec-made.result.items =
    subst (λ (n : ℕ). n ≤ length c.into_vec-made.result.items) (sym at)
    (subst (λ (ws : List (ℕ × Body)). place_for c.args.variable c.args.settings ≤ length ws)
    (sym items) (place_for-le c.args.variable c.args.settings)) in
    omega (arith, within, c.into_vec-made.result.ok)

pub returns : goal.returns
returns c =
    let at : c.place_for-place.result ≡ place_for c.args.variable c.args.settings =
    c.place_for-place.ensures ∙ ap (place_for c.args.variable) c.as_slice.ensures in
    let items : c.into_vec-made.result.items ≡ c.args.settings = c.into_vec-made.ensures in
    c.from_vec.ensures ∙ c.in_ok-insert.ensures.items
    ∙ (λ i. insert (items i) (at i) (c.args.variable, c.args.poly))
    ∙ set_to-insert c.args.variable c.args.poly c.args.settings

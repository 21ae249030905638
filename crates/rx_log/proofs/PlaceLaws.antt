-- Where a log stands after two lists of lines.
use Rattle.std.proofs.Common.{◌≡◌, sym, refl, ℕ, Option, Some, None, List, [], ◌∷◌, ◌++◌}
use Rattle.rx_log.specs.Places.{after, after_all}
use Rattle.rx_log.specs.declared.line.Line.{Line}
use Rattle.rx_log.specs.declared.line_state.LineState.{LineState}

nowhere : (its : List (Line × ℕ)) → after_all None its ≡ None
nowhere [] = refl
nowhere (it ∷ its) = refl

pub after_all-append : (place : Option LineState) (its more : List (Line × ℕ)) →
    after_all place (its ++ more) ≡ after_all (after_all place its) more
after_all-append place [] more = refl
after_all-append None (it ∷ its) more = sym (nowhere more)
after_all-append (Some place) (it ∷ its) more = after_all-append (after place it) its more

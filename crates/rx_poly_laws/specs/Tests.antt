-- Polynomials all of whose variables pass a test: that all are below a number, say, or that all are
-- a list's.
use Rattle.std.specs.Prelude.{ℕ, Bool}
use Rattle.std.specs.List.{list_all}
use Rattle.rx_poly.specs.declared.body.Body.{Body}
use Rattle.rx_poly.specs.Variables.{variables}

-- all variables of the polynomial, at every level, pass the test
abbrev pub passes : (ℕ → Bool) → Body → Bool
passes test p = list_all test (variables p)

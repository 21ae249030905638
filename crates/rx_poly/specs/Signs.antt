-- A sum that is taken with one of the two signs.
use Rattle.std.specs.Prelude.{List, map, ℤ, neg_ℤ}
use Rattle.rx_poly.specs.Limits.{of_terms}
use Rattle.rx_poly.specs.Order.{mono_cmp}
use Rattle.rx_poly.specs.Terms.{add_terms}
use Rattle.rx_poly.specs.declared.body.Body.{Body, out-Body}
use Rattle.rx_poly.specs.declared.sign.Sign.{Sign}
use Rattle.rx_poly.specs.declared.sign.Sign.TheVariants.{Plus, Minus}

-- the number with that sign
abbrev pub signed : Sign → ℤ → ℤ
signed Plus c = c
signed Minus c = neg_ℤ c

-- the terms with that sign
abbrev pub with_sign : {K : Type 0} → Sign → List (K × ℤ) → List (K × ℤ)
with_sign s ts = map (λ t. (t.0, signed s t.1)) ts

-- the first polynomial plus or minus the second
abbrev pub combined : Sign → Body → Body → Body
combined s p q = of_terms (add_terms mono_cmp (out-Body p).terms (with_sign s (out-Body q).terms))

-- Two parts of a term that are joined by an operation.
use Rattle.std.specs.Prelude.{ℤ, pos}
use Rattle.rx_plain.specs.Formed.{Formed, pure, ◌>>=◌}
use Rattle.rx_poly_laws.specs.Norm.{formed, norm_level, term_level}
use Rattle.rx_poly.specs.declared.body.Body.{Body}
use Rattle.rx_poly_laws.specs.declared.iterm.ITerm.{ITerm, ITerm-F}
use Rattle.rx_poly_laws.specs.declared.normal_form.Operation.{Operation}
use Rattle.rx_poly_laws.specs.declared.normal_form.Operation.TheVariants.{Add, Mul, Div, Mod}

-- the term with these two parts
abbrev pub node : {A : Type 0} → Operation → A → A → ITerm-F A
node Add l r = ITerm-F.Add l r
node Mul l r = ITerm-F.Mul l r
node Div l r = ITerm-F.Div l r
node Mod l r = ITerm-F.Mod l r

-- the polynomial of both, and whether all that is formed on the way to it keeps the limits
abbrev pub joined_by : Operation → Body → Body → Formed Body
joined_by o p q = norm_level (node o (pure p) (pure q))

-- the value of both
abbrev pub value_by : Operation → ℤ → ℤ → ℤ
value_by o m n = term_level (λ _. pos 0) (node o m n)

-- the normal form of both: of the first, of the second, and of the two joined
abbrev pub formed_by : Operation → ITerm → ITerm → Formed Body
formed_by o l r = do
  p ← formed l
  q ← formed r
  joined_by o p q

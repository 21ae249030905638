-- Polynomials as they are read, before it is known whether they are normal forms: coefficients are
-- numbers of i128 but 0, and variables are below 1,000,000. `inner` is what is asked of the parts
-- of
-- a quotient or remainder.
use Rattle.std.specs.Prelude.{ℕ, zero, suc, Bool, false, not, ◌&&◌, nat_lt, [], ◌∷◌, ◌++◌, ℤ}
use Rattle.std.specs.List.{list_all}
use Rattle.rx_poly.specs.Limits.{fits_i128}
use Rattle.rx_poly.specs.Terms.{is_zero}
use Rattle.rx_poly.specs.declared.body.Atom.{Atom, Atom-F, out-Atom}
use Rattle.rx_poly.specs.declared.body.Body.{Body, out-Body}
use Rattle.rx_poly.specs.declared.body.Mono.{Mono, out-Mono}
use Rattle.rx_text.specs.Formats.{Format}
use Rattle.rx_text.specs.Numbers.{is_digit}
use Rattle.rx_text.specs.Polynomials.{atom_text, goes_on_with_poly, goes_on_with_term, poly_text, text_of_term}

-- an atom, seen at its first level
abbrev pub is_plain_level : (Body → Bool) → Atom-F Atom Body Mono → Bool
is_plain_level inner (Atom-F.Var n) = nat_lt n 1000000
is_plain_level inner (Atom-F.Div p q) = inner p && inner q
is_plain_level inner (Atom-F.Mod p q) = inner p && inner q

abbrev pub is_plain_atom : (Body → Bool) → Atom → Bool
is_plain_atom inner x = is_plain_level inner (out-Atom x)

-- a coefficient that a term may have
abbrev pub is_coefficient : ℤ → Bool
is_coefficient c = not (is_zero c) && fits_i128 c

-- a term
abbrev pub is_plain_term : (Body → Bool) → Mono × ℤ → Bool
is_plain_term inner t = is_coefficient t.1 && list_all (is_plain_atom inner) (out-Mono t.0).atoms

-- a sum
abbrev pub is_plain : (Body → Bool) → Body → Bool
is_plain inner p = list_all (is_plain_term inner) (out-Body p).terms

-- a part of a quotient or remainder, where those may be nested at most so deep
unfoldable pub is_plain_inside : ℕ → Body → Bool
is_plain_inside zero p = false
is_plain_inside (suc n) p = is_plain (is_plain_inside n) p

-- ---- their text

abbrev pub atoms : (Body → Bool) → Format Atom
atoms inner = record { text = atom_text; in_range = is_plain_atom inner; goes_on = is_digit }

abbrev pub terms : (Body → Bool) → Format (Mono × ℤ)
terms inner = record {
  text = text_of_term;
  in_range = is_plain_term inner;
  goes_on = goes_on_with_term;
}

-- any test may say which sums are meant
abbrev pub sums : (Body → Bool) → Format Body
sums test = record { text = poly_text; in_range = test; goes_on = goes_on_with_poly }

-- sums in which quotients and remainders are nested at most so deep
abbrev pub sums_nested : ℕ → Format Body
sums_nested depth = sums (is_plain (is_plain_inside depth))

-- two things with `,` between them and `)` after them, before what is no digit
abbrev pub pairs : {A : Type 0} → Format A → Format (A × A)
pairs format = record {
  text = λ pair. format.text pair.0 ++ (44 ∷ (format.text pair.1 ++ 41 ∷ []));
  in_range = λ pair. format.in_range pair.0 && format.in_range pair.1;
  goes_on = is_digit;
}

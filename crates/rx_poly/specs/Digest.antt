-- One number made of a polynomial, for hash functions. Equal polynomials have one; two others may
-- have the same.
use Rattle.std.specs.Prelude.{ℕ, ◌+◌, ◌*◌, ◌%◌, ◌^◌, List, ℤ}
use Rattle.std.specs.Int.{cast_unsigned, w128}
use Rattle.std.specs.List.{fold}
use Rattle.rx_poly.specs.declared.body.Atom.{Atom, Atom-F, out-Atom}
use Rattle.rx_poly.specs.declared.body.Body.{Body}
use Rattle.rx_poly.specs.declared.body.Mono.{Mono, out-Mono}

-- a variable by its number; all quotients alike, and all remainders
abbrev pub level_number : Atom-F Atom Body Mono → ℕ
level_number (Atom-F.Var n) = n
level_number (Atom-F.Div p q) = 4294967296
level_number (Atom-F.Mod p q) = 8589934592

abbrev pub atom_number : Atom → ℕ
atom_number x = level_number (out-Atom x)

-- what was there times a large odd number, plus the next, within 128 bits
abbrev pub then : ℕ → ℕ → ℕ
then before next = ((before * 0x9e37_79b9_7f4a_7c15) % 2 ^ 128 + next) % 2 ^ 128

abbrev pub with_atom : ℕ → Atom → ℕ
with_atom before x = then before (atom_number x)

-- the coefficient, and then each atom
abbrev pub with_term : ℕ → Mono × ℤ → ℕ
with_term before t = fold with_atom (then before (cast_unsigned w128 t.1)) (out-Mono t.0).atoms

-- each term in turn
abbrev pub digest_of : List (Mono × ℤ) → ℕ
digest_of ts = fold with_term 0 ts

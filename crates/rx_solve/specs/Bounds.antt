-- How far the refuter goes: 100 variables, 6 disequalities, 3 ratios, 64 roundings and 1 sum make
-- certificates at most 174 deep.
use Rattle.std.specs.Prelude.{ℕ}

-- how many variables are replaced
abbrev pub most_solved : ℕ
most_solved = 100

-- how many disequalities are looked at
abbrev pub most_disequalities : ℕ
most_disequalities = 6

-- how many ratios
abbrev pub most_ratios : ℕ
most_ratios = 3

-- how many roundings
abbrev pub most_roundings : ℕ
most_roundings = 64

-- how many polynomials the elimination may hold
abbrev pub most_polynomials : ℕ
most_polynomials = 4096

-- how deep a certificate may be
abbrev pub most_deep : ℕ
most_deep = 174

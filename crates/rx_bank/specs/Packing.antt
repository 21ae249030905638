-- States whose polynomials are numbers in a list, and the states that they represent.
use Rattle.std.specs.Prelude.{◌≡◌, ℕ, nat_lt, pos, Bool, true, ◌&&◌, List, [], ◌∷◌, length, map}
use Rattle.std.specs.List.{list_all, slice_index_or}
use Rattle.rx_poly.specs.Constants.{number}
use Rattle.rx_poly.specs.declared.body.Body.{Body}
use Rattle.rx_row.specs.declared.row.Row.{Row}
use Rattle.rx_row.specs.declared.row.Row.TheVariants as row
use Rattle.rx_term.specs.declared.rule.Equation.{Equation}
use Rattle.rx_term.specs.declared.rule.Rule.{Rule}
use Rattle.rx_term.specs.declared.term.Term.{Term}
use Rattle.rx_term.specs.declared.term.Term.TheVariants as term
use Rattle.rx_inference.specs.States.{State}
use Rattle.rx_bank.specs.declared.packed.Packed.{Packed}
use Rattle.rx_bank.specs.declared.parts.PackedBase.{PackedBase}
use Rattle.rx_bank.specs.declared.parts.PackedBase.TheVariants as base
use Rattle.rx_bank.specs.declared.parts.PackedCall.{PackedCall}
use Rattle.rx_bank.specs.declared.parts.PackedEquation.{PackedEquation}
use Rattle.rx_bank.specs.declared.parts.PackedRow.{PackedRow}
use Rattle.rx_bank.specs.declared.parts.PackedRow.TheVariants as packed_row
use Rattle.rx_bank.specs.declared.parts.PackedTerm.{PackedTerm}

-- ---- each number replaced by its polynomial

-- the polynomial with that number; 0 past the end of the list
abbrev pub poly_at : List Body → ℕ → Body
poly_at ps n = slice_index_or ps n (number (pos 0))

abbrev pub polys_at : List Body → List ℕ → List Body
polys_at ps = map (poly_at ps)

abbrev pub row_at : List Body → PackedRow → Row
row_at ps (packed_row.Ge n) = row.Ge (poly_at ps n)
row_at ps (packed_row.Eq n) = row.Eq (poly_at ps n)
row_at ps (packed_row.Ne n) = row.Ne (poly_at ps n)

abbrev pub rows_at : List Body → List PackedRow → List Row
rows_at ps = map (row_at ps)

-- what frames are over
abbrev pub base_at : List Body → PackedBase → Term
base_at ps (base.Return n) = term.Return (poly_at ps n)
base_at ps (base.Fail code) = term.Fail code
base_at ps (base.Call call) = term.Call call.sym (polys_at ps call.args)

-- the frames, the outermost first, over a term
abbrev pub frames_at : List Body → List PackedCall → Term → Term
frames_at ps [] inner = inner
frames_at ps (frame ∷ frames) inner =
    term.Frame frame.sym (polys_at ps frame.args) (frames_at ps frames inner)

abbrev pub term_at : List Body → PackedTerm → Term
term_at ps t = frames_at ps t.frames (base_at ps t.base)

abbrev pub equation_at : List Body → PackedEquation → Equation
equation_at ps e =
    record { left = term_at ps e.left; right = term_at ps e.right; rows = rows_at ps e.rows }

abbrev pub rule_at : List Body → PackedEquation → Rule
rule_at ps e =
    record { left = term_at ps e.left; right = term_at ps e.right; rows = rows_at ps e.rows }

abbrev pub equations_at : List Body → List PackedEquation → List Equation
equations_at ps = map (equation_at ps)

abbrev pub rules_at : List Body → List PackedEquation → List Rule
rules_at ps = map (rule_at ps)

-- the state that a packed one represents
abbrev pub unpacked : List Body → Packed → State
unpacked ps packed =
    record { goals = equations_at ps packed.goals; hypotheses = rules_at ps packed.hypotheses }

-- ---- all numbers are below a count

abbrev pub number_within : ℕ → ℕ → Bool
number_within count n = nat_lt n count

abbrev pub numbers_within : ℕ → List ℕ → Bool
numbers_within count = list_all (number_within count)

abbrev pub row_within : ℕ → PackedRow → Bool
row_within count (packed_row.Ge n) = number_within count n
row_within count (packed_row.Eq n) = number_within count n
row_within count (packed_row.Ne n) = number_within count n

abbrev pub rows_within : ℕ → List PackedRow → Bool
rows_within count = list_all (row_within count)

abbrev pub call_within : ℕ → PackedCall → Bool
call_within count call = numbers_within count call.args

abbrev pub frames_within : ℕ → List PackedCall → Bool
frames_within count = list_all (call_within count)

abbrev pub base_within : ℕ → PackedBase → Bool
base_within count (base.Return n) = number_within count n
base_within count (base.Fail code) = true
base_within count (base.Call call) = call_within count call

abbrev pub term_within : ℕ → PackedTerm → Bool
term_within count t = frames_within count t.frames && base_within count t.base

abbrev pub equation_within : ℕ → PackedEquation → Bool
equation_within count e =
    term_within count e.left && (term_within count e.right && rows_within count e.rows)

abbrev pub equations_within : ℕ → List PackedEquation → Bool
equations_within count = list_all (equation_within count)

abbrev pub is_within : ℕ → Packed → Bool
is_within count packed =
    equations_within count packed.goals && equations_within count packed.hypotheses

-- ---- what is packed represents something

-- all numbers are below the list's length, and with each replaced by its polynomial it is that
pub record StandsAs {A B : Type 0} (within_count : ℕ → A → Bool) (at_numbers : List Body → A → B)
    (ps : List Body) (packed : A) (value : B) : Type 0 where
  pub within : within_count (length ps) packed ≡ true
  pub is : at_numbers ps packed ≡ value

-- the packed state represents the state
abbrev pub StandsFor : List Body → Packed → State → Type 0
StandsFor = StandsAs is_within unpacked

-- Pieces of compiled code, and how they are joined. Symbols are numbered in the order in which they
-- are opened, so a piece is compiled from the number of the symbols before it.
use Rattle.std.specs.Prelude.{ℕ, ◌+◌, Bool, true, false, ◌&&◌, nat_le, nat_lt, List, [], ◌∷◌, ◌++◌, length}
use Rattle.rx_code.specs.declared.action.Action.{Action}
use Rattle.rx_code.specs.declared.code.Code.{Code}
use Rattle.rx_code.specs.declared.point.Opening.{Opening}
use Rattle.rx_code.specs.declared.point.Point.{Point}

-- nothing written down
abbrev pub no_code : Code
no_code = record { opened = []; instructions = []; heads = []; entries = [] }

-- one piece, and then another
abbrev pub append_code : Code → Code → Code
append_code c d = record {
  opened = c.opened ++ d.opened;
  instructions = c.instructions ++ d.instructions;
  heads = c.heads ++ d.heads;
  entries = c.entries ++ d.entries;
}

-- the number of symbols after a piece, where there are `next` before it
abbrev pub after : ℕ → Code → ℕ
after next c = next + length c.opened

-- the point of a symbol with n variables
abbrev pub point : ℕ → ℕ → Point
point symbol width = record { symbol = symbol; width = width }

-- a symbol that is a point, and one that is a frame
abbrev pub a_point : ℕ → Opening
a_point width = record { width = width; frame = false }

abbrev pub a_frame : ℕ → Opening
a_frame width = record { width = width; frame = true }

-- the code that opens these symbols
abbrev pub opens : List Opening → Code
opens os = record { opened = os; instructions = []; heads = []; entries = [] }

-- the code that does this at the point
abbrev pub does : Point → Action → Code
does a action =
    record {
      opened = [];
      instructions = record { at = a; action = action } ∷ [];
      heads = [];
      entries =
          [];
    }

-- the code that marks a symbol as the head of a loop
abbrev pub marks_head : ℕ → Code
marks_head symbol = record { opened = []; instructions = []; heads = symbol ∷ []; entries = [] }

-- the code that marks a symbol as the entry of the function at that place
abbrev pub marks_entry : ℕ → ℕ → Code
marks_entry place symbol =
    record { opened = []; instructions = []; heads = []; entries = (place, symbol) ∷ [] }

-- how many symbols there may be, and how many variables each may have
abbrev pub most_symbols : ℕ
most_symbols = 4096

abbrev pub most_variables : ℕ
most_variables = 128

-- whether there is room for one symbol more, with n variables
abbrev pub is_room : ℕ → ℕ → Bool
is_room next width = nat_lt next most_symbols && nat_le width most_variables

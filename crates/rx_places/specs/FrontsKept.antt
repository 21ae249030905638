-- The front of a line while its text is taken in pieces. No public clause depends on this.
use Rattle.std.specs.Prelude.{◌≡◌, ℕ, true, false, Bool, List, [], ◌++◌, take}
use Rattle.rx_places.specs.LineFronts.{line_after}
use Rattle.rx_places.specs.declared.line_front.LineFront.{LineFront}

-- what of the line comes in the bytes that follow
abbrev pub rest_of : Bool → ℕ → List ℕ → List ℕ
rest_of true before more = []
rest_of false before more = line_after before more

-- the front of the line, if these bytes follow
abbrev pub front_with : LineFront → List ℕ → List ℕ
front_with front more =
    take front.most (front.bytes.items ++ rest_of front.is_over front.before more)

-- the bytes lead from the one to the other
abbrev pub Leads : LineFront → List ℕ → LineFront → Type 0
Leads old bytes new = (more : List ℕ) → front_with old (bytes ++ more) ≡ front_with new more

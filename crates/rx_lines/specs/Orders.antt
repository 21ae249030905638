-- Orders of lines: at each place some lines may come, and each leads to a place. What the texts of
-- an order are, and the first line of a text with which none of them begins.
use Rattle.std.specs.Prelude.{◌≡◌, ℕ, suc, true, Option, Some, None, List, [], ◌∷◌, ◌++◌, length, map}
use Rattle.std.specs.List.{list_all}
use Rattle.rx_text.specs.Formats.{Format}
use Rattle.rx_lines.specs.Texts.{IsText, ended, is_one_line}

-- An order of lines: how lines are written, and which are in range; the place after a line that
-- comes at a place, None where it may not come there; where each text starts, and where it ends.
pub record Order (L P : Type 0) : Type 0 where
  pub format : Format L
  pub after : P → L → Option P
  pub start : P
  pub end : P

-- the place after lines one after the other
abbrev pub after_all : {L P : Type 0} → (P → L → Option P) → Option P → List L → Option P
after_all after place [] = place
after_all after None (line ∷ lines) = None
after_all after (Some place) (line ∷ lines) = after_all after (after place line) lines

-- these are the texts of lines in range, which lead from the start to this place
pub record LeadsTo {L P : Type 0} (order : Order L P) (texts : List (List ℕ)) (place : P) : Type 0
  where
    pub lines : List L
    pub in_range : list_all order.format.in_range lines ≡ true
    pub are : map order.format.text lines ≡ texts
    pub arrives : after_all order.after (Some order.start) lines ≡ Some place

-- some whole text begins with these lines
pub record Begins {L P : Type 0} (order : Order L P) (texts : List (List ℕ)) : Type 0 where
  pub more : List (List ℕ)
  pub whole : LeadsTo order (texts ++ more) order.end

-- The line with this number, counted from 1, is the first with which no whole text begins. The text
-- begins with the lines before it, and so does some whole text. The next line of the text is one
-- with which none begins; or the text ends there, before a whole text does; or a line feed is
-- missing at its end.
pub record IsFirstBad {L P : Type 0} (order : Order L P) (text : List ℕ) (number : ℕ) : Type 0
  where
    pub before : List (List ℕ)
    pub left : List ℕ
    pub joined : text ≡ ended before ++ left
    pub one_by_one : list_all is_one_line before ≡ true
    pub counted : number ≡ suc (length before)
    pub good_before : Begins order before
    pub bad :
        (next rest : List ℕ) → left ≡ next ++ 10 ∷ rest → is_one_line next ≡ true
        → ¬ (Begins order (before ++ next ∷ []))
    pub missing : left ≡ [] → ¬ (LeadsTo order before order.end)

-- ---- what is asked of an order

-- from this place lines in range lead to the end
pub record CanFinish {L P : Type 0} (order : Order L P) (place : P) : Type 0 where
  pub lines : List L
  pub in_range : list_all order.format.in_range lines ≡ true
  pub arrives : after_all order.after (Some place) lines ≡ Some order.end

-- Each line in range is given by its text, and that has no line feed in it; and lines lead to the
-- end from wherever one is.
pub record IsLineOrder {L P : Type 0} (order : Order L P) : Type 0 where
  pub one_reading :
      (bytes : List ℕ) (x y : L) → IsText order.format bytes x → IsText order.format bytes y → x ≡ y
  pub one_line :
      (line : L) → order.format.in_range line ≡ true → is_one_line (order.format.text line) ≡ true
  pub finishes : (place : P) → CanFinish order place

-- ---- reading line by line

-- a line that may come at the place has these bytes
pub record MayCome {L P : Type 0} (order : Order L P) (place : P) (bytes : List ℕ) : Type 0 where
  pub next : L
  pub behind : P
  pub is : IsText order.format bytes next
  pub leads : order.after place next ≡ Some behind

-- what a reader of the next line answers: the line and the place after it; None exactly where no
-- line that may come has these bytes
abbrev pub ReadsNext : {L P : Type 0} → Order L P → P → List ℕ → Option (L × P) → Type 0
ReadsNext order place bytes (Some it) =
    IsText order.format bytes it.0 × (order.after place it.0 ≡ Some it.1)
ReadsNext order place bytes None = ¬ (MayCome order place bytes)

-- An order of two kinds of lines, as an example: items, as many as one likes, and a line that ends
-- the text.
use Rattle.std.specs.Prelude.{ℕ, not, ◌==◌, true, Option, Some, None, List, codes}
use Rattle.rx_text.specs.Formats.{Format}
use Rattle.rx_lines.specs.Orders.{Order}

pub data Entry : Type 0 where
  Item : Entry
  Last : Entry

-- whether the last line has come
pub data Stage : Type 0 where
  Open : Stage
  Closed : Stage

abbrev pub entry_text : Entry → List ℕ
entry_text Item = codes "item"
entry_text Last = codes "last"

abbrev pub entries : Format Entry
entries = record { text = entry_text; in_range = λ it. true; goes_on = λ byte. not (byte == 10) }

abbrev pub after_entry : Stage → Entry → Option Stage
after_entry Open Item = Some Open
after_entry Open Last = Some Closed
after_entry Closed it = None

abbrev pub items_then_last : Order Entry Stage
items_then_last = record { format = entries; after = after_entry; start = Open; end = Closed }

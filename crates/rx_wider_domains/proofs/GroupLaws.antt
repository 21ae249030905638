-- Lists by group that stay as they are.
use Rattle.std.proofs.Common.{◌≡◌, ◌∙◌, ap, sym, ℕ, ◌≤◌, Some, Option, List, length}
use Rattle.std.specs.Prelude.{slice_get}
use Rattle.std.specs.Option.{option_map_or}
use Rattle.std.proofs.lemmas.List.{set_past}
use Rattle.rx_plain.specs.Formed.{Formed}
use Rattle.rx_row.specs.declared.row.Row.{Row}
use Rattle.rx_find_domains.specs.Finding.{list_of}
use Rattle.rx_wider_domains.specs.Groups.{taken, taken_at, with_rows}

-- where the group's name is no symbol's number
pub past : (names : List ℕ) (lists : List (List Row)) (f g : ℕ) (more : List (Formed Row)) →
    slice_get names f ≡ Some g → length lists ≤ g → lists ≡ with_rows names lists f more
past names lists f g more is far =
    sym (ap (λ (o : Option ℕ). option_map_or (taken_at lists more) o lists) is ∙
    set_past lists g (taken (list_of lists g) more) far)

-- Names with what they hold, in a list, and how far one of them is open.
use Rattle.std.specs.Prelude.{ℕ, List, [], Option, None, Some, Vec, String, string_bytes, drop, slice_get}
use Rattle.std.specs.List.{find}
use Rattle.std.specs.Option.{option_map, option_map_or}
use Rattle.std.specs.Str.{bytes_eq}
use Rattle.std.specs.declared.alloc.Global.{Global}
use Rattle.rx_io.specs.declared.memory_files.Opened.{Opened}
use Rattle.rx_io.specs.Outside.{Names}

-- a name beside its content
abbrev pub Entry : Type 0
Entry = String Global × Vec ℕ Global

-- what the names hold: of two equal names the first counts
abbrev pub names_of : List Entry → Names
names_of held name =
    option_map (λ (entry : Entry). entry.1.items)
    (find (λ (entry : Entry). bytes_eq (string_bytes entry.0) name) held)

-- what is left of the open file
abbrev pub left_of : List Entry → Option Opened → List ℕ
left_of held None = []
left_of held (Some opened) =
    option_map_or (λ (entry : Entry). drop opened.taken entry.1.items) (slice_get held opened.entry)
    []

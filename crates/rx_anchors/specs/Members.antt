-- The symbols of a component, which is named by one of them, and which of them are anchors.
use Rattle.std.specs.Prelude.{ℕ, ◌==◌, Bool, false, ◌||◌, List, length, slice_get}
use Rattle.std.specs.List.{filter, list_any, range_with_len}
use Rattle.std.specs.Option.{option_map_or}
use Rattle.rx_term.specs.Stacks.{root_of}
use Rattle.rx_term.specs.declared.rule.Rule.{Rule}
use Rattle.rx_term.specs.declared.rule_set.SymInfo.{SymInfo}
use Rattle.rx_term.specs.declared.term.Sym.{Sym}

-- the symbols of a set with n
abbrev pub symbols_of : ℕ → List ℕ
symbols_of n = range_with_len 0 n

-- the symbol is of the component with that name
abbrev pub is_member : List ℕ → ℕ → ℕ → Bool
is_member names c f = option_map_or (λ name. name == c) (slice_get names f) false

-- the symbols of a component
abbrev pub members : List ℕ → ℕ → List ℕ
members names c = filter (is_member names c) (symbols_of (length names))

-- the rule's left root is one of them
abbrev pub is_rule_of : List ℕ → ℕ → Rule → Bool
is_rule_of names c rule =
    option_map_or (λ (f : Sym). is_member names c f.0) (root_of rule.left) false

-- ---- anchors

-- how many arguments the symbol has
abbrev pub arity_of : List SymInfo → ℕ → ℕ
arity_of infos f = option_map_or (λ (info : SymInfo). info.arity) (slice_get infos f) 0

-- the symbol is the root of the rule's left side
abbrev pub is_left_root : ℕ → Rule → Bool
is_left_root f rule = option_map_or (λ (g : Sym). g.0 == f) (root_of rule.left) false

-- the symbol is an entry or a head
abbrev pub is_start : List SymInfo → ℕ → Bool
is_start infos f =
    option_map_or (λ (info : SymInfo). info.entry || info.head) (slice_get infos f) false

-- the symbol is an entry, a head or the left root of a hypothesis
abbrev pub is_anchor : List SymInfo → List Rule → ℕ → Bool
is_anchor infos hypotheses f = is_start infos f || list_any (is_left_root f) hypotheses

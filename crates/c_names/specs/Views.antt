-- What the definitions see of the structures of the code.
use Rattle.c_names.specs.declared.lookup_slots.Scope as code
use Rattle.c_names.specs.LookupSlots.{Scope}

-- the names in scope, and where the innermost scope begins
abbrev pub model_of : code.Scope → Scope
model_of s = record { names = s.names; outer = s.outer }

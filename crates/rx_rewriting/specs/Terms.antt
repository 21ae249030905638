-- Ground terms: stacks of frames over a call or a result, and which of them fit a list of symbols.
use Rattle.std.specs.Prelude.{◌≡◌, ℕ, ◌≤◌, Bool, true, false, List, [], ◌∷◌, length, ℤ, Some, slice_get}

-- a returned integer, a failure with its code, a call of a symbol with integers, or such a frame
-- over a term
pub data Ground : Type 0 where
  Return : ℤ → Ground
  Fail : ℕ → Ground
  Call : ℕ → List ℤ → Ground
  Frame : ℕ → List ℤ → Ground → Ground

-- a relation between ground terms
abbrev pub Relation : Type 1
Relation = Ground → Ground → Type 0

-- a set of ground terms
abbrev pub TermSet : Type 1
TermSet = Ground → Type 0

-- a result: a returned integer or a failure, with no frame over it
abbrev pub IsResult : Ground → Type 0
IsResult (Return k) = Unit {0}
IsResult (Fail c) = Unit {0}
IsResult (Call f xs) = ⊥
IsResult (Frame f xs s) = ⊥

-- one frame of a stack
pub record StackFrame : Type 0 where
  pub symbol : ℕ
  pub arguments : List ℤ

-- the term under frames, the outermost frame first (a ground context around it)
abbrev pub in_context : List StackFrame → Ground → Ground
in_context [] s = s
in_context (f ∷ fs) s = Frame f.symbol f.arguments (in_context fs s)

-- what a symbol is declared as: the number of its arguments, and whether it is a frame or is called
pub record Symbol : Type 0 where
  pub arity : ℕ
  pub is_frame : Bool

-- a signature: the symbols by their numbers, and the greatest failure code
pub record Signature : Type 0 where
  pub declared : List Symbol
  pub fails : ℕ

-- the signature declares the symbol so
abbrev pub Declares : Signature → ℕ → Bool → ℕ → Type 0
Declares symbols f is_frame arity =
    slice_get symbols.declared f ≡ Some (record { arity = arity; is_frame = is_frame })

-- the term fits the signature: symbols and numbers of arguments as declared, failure codes from 1
-- to the greatest
abbrev pub Fits : Signature → Ground → Type 0
Fits symbols (Return k) = Unit {0}
Fits symbols (Fail c) = (1 ≤ c) × (c ≤ symbols.fails)
Fits symbols (Call f xs) = Declares symbols f false (length xs)
Fits symbols (Frame f xs s) = Declares symbols f true (length xs) × Fits symbols s

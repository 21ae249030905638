-- Steps of a relation on ground terms, taken under frames, and what chains of them lead to.
use Rattle.std.specs.Prelude.{◌≡◌, ℕ, zero, suc, List, ℤ, ◌⊎◌}
use Rattle.rx_rewriting.specs.Terms.{Ground, Frame, Relation, StackFrame, in_context}

-- a step: the relation replaces the term, or the inner part of it under some frames
pub data Step (R : Relation) : Ground → Ground → Type 0 where
  Here : {s t : Ground} → R s t → Step R s t
  Under : {s t : Ground} (f : ℕ) (xs : List ℤ) → Step R s t → Step R (Frame f xs s) (Frame f xs t)

-- the same in other words: some frames are kept, and the relation leads from the part under them to
-- what replaces it
pub record ReplacesInner (R : Relation) (s t : Ground) : Type 0 where
  pub kept : List StackFrame
  pub before : Ground
  pub after : Ground
  pub old : s ≡ in_context kept before
  pub new : t ≡ in_context kept after
  pub related : R before after

-- reach: any number of steps forwards
pub data Reaches (R : Relation) : Ground → Ground → Type 0 where
  Stop : {s : Ground} → Reaches R s s
  Go : {s t u : Ground} → Step R s t → Reaches R t u → Reaches R s u

-- counted reach: exactly n steps forwards
pub data ReachesIn (R : Relation) : ℕ → Ground → Ground → Type 0 where
  NoStep : {s : Ground} → ReachesIn R zero s s
  OneMore : {m : ℕ} {s t u : Ground} → Step R s t → ReachesIn R m t u → ReachesIn R (suc m) s u

-- convertible: any number of steps, each forwards or backwards
pub data Convertible (R : Relation) : Ground → Ground → Type 0 where
  Same : {s : Ground} → Convertible R s s
  Forth : {s t u : Ground} → Step R s t → Convertible R t u → Convertible R s u
  Back : {s t u : Ground} → Step R t s → Convertible R t u → Convertible R s u

-- the two terms join: some term is reached from both
abbrev pub Joinable : Relation → Ground → Ground → Type 0
Joinable R s t = (u : Ground) × Reaches R s u × Reaches R t u

-- the union of two relations: by the one or by the other
abbrev pub Either : Relation → Relation → Ground → Ground → Type 0
Either R H s t = R s t ⊎ H s t

-- single-valued (deterministic): no term has two different steps
abbrev pub IsSingleValued : Relation → Type 0
IsSingleValued R = (s t u : Ground) → Step R s t → Step R s u → t ≡ u

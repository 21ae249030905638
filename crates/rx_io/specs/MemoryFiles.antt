-- What the calls on files in memory do.
use Rattle.std.specs.Prelude.{◌≡◌, ◌++◌, ◌&&◌, ℕ, min, List, Bool, Some, Result, length, take, drop, refl, is_some, IsTrue, IsOk, IfOk, OnOk, OnErr, ◌↔◌, if◌then◌else◌, not}
use Rattle.std.proofs.Common.{◌∙◌}
use Rattle.rx_io.specs.declared.outside.Failed.{Failed}
use Rattle.rx_io.specs.declared.memory_files.MemoryFiles.{MemoryFiles}
use Rattle.rx_io.specs.Calls.{is_listed, counted}
use Rattle.rx_io.specs.Held.{names_of, left_of}
use Rattle.rx_io.specs.Outside.{Names}

-- what the names hold
abbrev pub names_in : MemoryFiles → Names
names_in files = names_of files.held.items

-- what is left of the open file
abbrev pub left_in : MemoryFiles → List ℕ
left_in files = left_of files.held.items files.opened

-- how many calls there were, and how many of them found a fault
abbrev pub calls_in : MemoryFiles → ℕ
calls_in files = files.calls

abbrev pub faults_in : MemoryFiles → ℕ
faults_in files = files.faults

-- the largest piece of one call
abbrev pub piece_in : MemoryFiles → ℕ
piece_in files = files.piece

-- the numbers of the calls that fail
abbrev pub fail_in : MemoryFiles → List ℕ
fail_in files = files.fail.items

-- the next call is one that fails
abbrev pub fails_next : MemoryFiles → Bool
fails_next files = is_listed (fail_in files) (calls_in files)

-- what no call changes
pub record IsSameSetup (old new : MemoryFiles) : Type 0 where
  pub held : new.held.items ≡ old.held.items
  pub piece : piece_in new ≡ piece_in old
  pub fail : fail_in new ≡ fail_in old

pub same_setup : (a : MemoryFiles) → IsSameSetup a a
same_setup a = record { held = refl; piece = refl; fail = refl }

pub same_setup_on : (a b c : MemoryFiles) → IsSameSetup a b → IsSameSetup b c → IsSameSetup a c
same_setup_on a b c p q =
    record { held = q.held ∙ p.held; piece = q.piece ∙ p.piece; fail = q.fail ∙ p.fail }

-- an open: of a name that isn't held it fails and leaves the count of faults, at a listed call it
-- fails and raises the count
pub record Opens (old : MemoryFiles) (name : List ℕ) (answer : Result (Unit {0}) Failed)
    (new : MemoryFiles) : Type 0 where
  pub opens : IsTrue (is_some (names_in old name) && not (fails_next old)) ↔ IsOk answer
  pub whole : OnOk answer (names_in old name ≡ Some (left_in new))
  pub kept : OnErr answer (left_in new ≡ left_in old)
  pub faults : faults_in new ≡ (if is_some (names_in old name) && fails_next old then
      counted (faults_in old) else faults_in old)
  pub calls : calls_in new ≡ counted (calls_in old)

-- a take into these bytes: as many as the piece, the room and what is left allow, at a listed call
-- none
pub record Takes (old : MemoryFiles) (into : List ℕ) (answer : Result ℕ Failed) (filled : List ℕ)
    (new : MemoryFiles) : Type 0 where
  pub takes : IsTrue (not (fails_next old)) ↔ IsOk answer
  pub count : IfOk answer (λ count. count ≡ min (piece_in old)
      (min (length into) (length (left_in old))))
  pub moved : IfOk answer (λ count. (filled ≡ take count (left_in old) ++ drop count into) ×
      (left_in new ≡ drop count (left_in old)))
  pub kept : OnErr answer ((filled ≡ into) × (left_in new ≡ left_in old))
  pub faults : faults_in new ≡ (if fails_next old then counted (faults_in old) else faults_in old)
  pub calls : calls_in new ≡ counted (calls_in old)

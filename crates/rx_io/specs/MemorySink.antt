-- What a write to a sink in memory does.
use Rattle.std.specs.Prelude.{◌≡◌, ◌-◌, ◌++◌, ◌&&◌, ◌||◌, ◌==◌, ℕ, min, List, Bool, Option, None, Some, Result, length, take, refl, nat_lt, if◌then◌else◌, MatchResult}
use Rattle.std.proofs.Common.{◌∙◌}
use Rattle.rx_io.specs.declared.outside.Failed.{Failed}
use Rattle.rx_io.specs.declared.memory_sink.MemorySink.{MemorySink}
use Rattle.rx_io.specs.Calls.{is_listed, counted}

-- the bytes written so far
abbrev pub put_in : MemorySink → List ℕ
put_in sink = sink.taken.items

-- how many calls there were, and how many of them found a fault
abbrev pub calls_in : MemorySink → ℕ
calls_in sink = sink.calls

abbrev pub faults_in : MemorySink → ℕ
faults_in sink = sink.faults

-- the largest piece of one call
abbrev pub piece_in : MemorySink → ℕ
piece_in sink = sink.piece

-- the most bytes that there is room for, and the room that is left
abbrev pub room_in : MemorySink → ℕ
room_in sink = sink.room

abbrev pub room_left : MemorySink → ℕ
room_left sink = room_in sink - length (put_in sink)

-- the numbers of the calls that fail, and of those that answer 0
abbrev pub fail_in : MemorySink → List ℕ
fail_in sink = sink.fail.items

abbrev pub zero_in : MemorySink → List ℕ
zero_in sink = sink.zero.items

-- the next call fails, or answers 0, because its number is listed
abbrev pub fails_next : MemorySink → Bool
fails_next sink = is_listed (fail_in sink) (calls_in sink)

abbrev pub gives_zero_next : MemorySink → Bool
gives_zero_next sink = is_listed (zero_in sink) (calls_in sink)

-- there is no room for a piece of n bytes
abbrev pub is_full_for : MemorySink → ℕ → Bool
is_full_for sink size = (room_left sink == 0) && nat_lt 0 size

-- what the next write of n bytes answers; none where it fails
abbrev pub next_put : MemorySink → ℕ → Option ℕ
next_put sink size =
    if fails_next sink then None else (if gives_zero_next sink then Some 0 else
    (if is_full_for sink size then None else
    Some (min size (min (piece_in sink) (room_left sink)))))

-- that write raises the count of faults
abbrev pub is_fault : MemorySink → ℕ → Bool
is_fault sink size = fails_next sink || gives_zero_next sink || is_full_for sink size

-- what no call changes
pub record IsSameSetup (old new : MemorySink) : Type 0 where
  pub piece : piece_in new ≡ piece_in old
  pub room : room_in new ≡ room_in old
  pub fail : fail_in new ≡ fail_in old
  pub zero : zero_in new ≡ zero_in old

pub same_setup : (a : MemorySink) → IsSameSetup a a
same_setup a = record { piece = refl; room = refl; fail = refl; zero = refl }

pub same_setup_on : (a b c : MemorySink) → IsSameSetup a b → IsSameSetup b c → IsSameSetup a c
same_setup_on a b c p q =
    record {
      piece = q.piece ∙ p.piece;
      room = q.room ∙ p.room;
      fail = q.fail ∙ p.fail;
      zero =
          q.zero ∙ p.zero;
    }

-- a write: its answer, the bytes that it appends, and the two counts
pub record Puts (old : MemorySink) (piece : List ℕ) (answer : Result ℕ Failed) (new : MemorySink) :
    Type 0 where
  pub answers : MatchResult answer (λ count. next_put old (length piece) ≡ Some count)
      (λ _. next_put old (length piece) ≡ None)
  pub appends : MatchResult answer (λ count. put_in new ≡ put_in old ++ take count piece)
      (λ _. put_in new ≡ put_in old)
  pub faults : faults_in new ≡ (if is_fault old (length piece) then counted (faults_in old) else
      faults_in old)
  pub calls : calls_in new ≡ counted (calls_in old)
  pub setup : IsSameSetup old new

-- A run of writes: each is of all that is left of the bytes, until nothing is left or a write takes
-- nothing.
use Rattle.std.specs.Prelude.{◌≡◌, ◌<◌, ℕ, List, [], Result, Ok, Err, IsErr, length, drop}
use Rattle.rx_io.specs.declared.outside.Failed.{Failed}
use Rattle.rx_io.specs.declared.putting.PutEnd.{PutEnd}
use Rattle.rx_io.specs.declared.putting.PutEnd.TheVariants as Ends

-- from the state `old` on, each write took one or more bytes, and left this state and the rest of
-- the bytes
pub data Sends {S : Type 0} (puts : S → List ℕ → Result ℕ Failed → S → Type 0) (old : S)
    (bytes : List ℕ) : S → List ℕ → Type 0 where
  start : Sends puts old bytes old bytes
  further : {mid new : S} {rest : List ℕ} {count : ℕ} → Sends puts old bytes mid rest →
      puts mid rest (Ok count) new → 0 < count → Sends puts old bytes new (drop count rest)

-- then one more write, of the nonempty rest, gave an answer that has P
abbrev pub StopsWith : {S : Type 0} → (S → List ℕ → Result ℕ Failed → S → Type 0) → S → List ℕ →
    (Result ℕ Failed → Type 0) → S → Type 0
StopsWith {S} puts old bytes P new =
    (mid : S) × (rest : List ℕ) × (answer : Result ℕ Failed) × Sends puts old bytes mid rest ×
    (0 < length rest) × puts mid rest answer new × P answer

-- how the run ends: nothing is left, the last write failed, or it answered 0
abbrev pub PutsAll : {S T : Type 0} → (S → List ℕ → Result ℕ Failed → S → Type 0) → S → List ℕ →
    Result T PutEnd → S → Type 0
PutsAll puts old bytes (Ok _) new = Sends puts old bytes new []
PutsAll puts old bytes (Err Ends.Failed) new = StopsWith puts old bytes IsErr new
PutsAll puts old bytes (Err Ends.Stuck) new = StopsWith puts old bytes (λ answer. answer ≡ Ok 0) new

-- What readers find and what they don't, for any format.
use Rattle.std.proofs.Common.{◌≡◌, subst, ℕ, List, drop}
use Rattle.std.proofs.Common.{Option, Some, None}
use Rattle.rx_text.specs.Formats.{BeginsWith, Format, IsUnambiguous, Reads, StandsAt}

-- what is at the place is what a reader found there
pub only_that : {A : Type 0} {format : Format A} {bytes left : List ℕ} {at end : ℕ} {x y : A}
    → IsUnambiguous format → StandsAt format bytes at x end
    → BeginsWith format (drop at bytes) y left → (x ≡ y) × (drop end bytes ≡ left)
only_that {A} {format} {bytes} {left} {at} {end} {x} {y} one s b =
    one (drop at bytes) x y (drop end bytes) left s.begins b

-- what a reader answered, where its answer is known
pub found : {A : Type 0} (format : Format A) (bytes : List ℕ) (at : ℕ)
    → {answer : Option (A × ℕ)} {x : A} {end : ℕ}
    → answer ≡ Some (x, end) → Reads format bytes at answer → StandsAt format bytes at x end
found format bytes at e reads = subst (λ r. Reads format bytes at r) e reads

pub absent : {A : Type 0} (format : Format A) (bytes : List ℕ) (at : ℕ) {answer : Option (A × ℕ)}
    → answer ≡ None → Reads format bytes at answer → Reads format bytes at None
absent format bytes at e reads = subst (λ r. Reads format bytes at r) e reads

-- what was written is read: the reader finds the thing whose text is there
pub read_back : {A : Type 0} (format : Format A) → IsUnambiguous format → (bytes : List ℕ) (at : ℕ)
    → (answer : Option (A × ℕ)) {thing : A} {left : List ℕ} → Reads format bytes at answer
    → BeginsWith format (drop at bytes) thing left
    → (end : ℕ) × (answer ≡ Some (thing, end)) × (drop end bytes ≡ left)
read_back format one bytes at None {thing} {left} reads b = absurd (reads thing left b)
read_back format one bytes at (Some read) {thing} {left} reads b =
    let same = one (drop at bytes) read.0 thing (drop read.1 bytes) left reads.begins b in
    (read.1, (λ i. Some (same.0 i, read.1)), same.1)

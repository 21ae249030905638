-- One more write of a run.
use Rattle.std.proofs.Common.{◌≡◌, ◌<◌, ◌≤◌, ℕ, ◌+◌, ◌-◌, ◌++◌, List, Option, Result, Ok, sym, ap, ◌∙◌, subst, length, take, drop, arith, length-drop}
use Rattle.std.proofs.Math.Seq.{take-add}
use Rattle.std.proofs.lemmas.List.{take_rest, drop-drop}
use Rattle.std.proofs.KnownBytes.{Appends-trans}
use Rattle.std.specs.Io.KnownBytes.{Appends}
use Rattle.rx_io.specs.declared.outside.Failed.{Failed}
use Rattle.rx_io.specs.Puts.{Sends, further}

-- this state of a sink holds a front of the bytes, and the rest is what is left of them
abbrev pub IsSent : Option (List ℕ) → Option (List ℕ) → List ℕ → List ℕ → Type 0
IsSent old now bytes rest =
    (count : ℕ) × (count ≤ length bytes) × (rest ≡ drop count bytes) ×
    Appends old now (take count bytes)

-- a write of the rest makes the front longer
pub sent_on : (old mid new : Option (List ℕ)) (bytes rest : List ℕ) (count : ℕ) →
    IsSent old mid bytes rest → count ≤ length rest → Appends mid new (take count rest)
    → IsSent old new bytes (take (length rest - count) (drop count rest))
sent_on old mid new bytes rest count (before, fits, e, appended) room more =
    let size : length rest ≡ length bytes - before = ap length e ∙ length-drop before bytes in
    let tail : take (length rest - count) (drop count rest) ≡ drop (before + count) bytes =
    take_rest rest count ∙ ap (drop count) e ∙ drop-drop count before bytes in
    let front : take before bytes ++ take count rest ≡ take (before + count) bytes =
    ap (λ l. take before bytes ++ take count l) e ∙ sym (take-add before count bytes) in (
      before + count,
      omega arith,
      tail,
      subst (Appends old new) front
          (Appends-trans old mid new _ _ appended more),
    )

-- a write that took some of the rest lengthens the run
pub sends_on : {S : Type 0} {puts : S → List ℕ → Result ℕ Failed → S → Type 0} {old mid new : S}
    {bytes rest : List ℕ} {count : ℕ} → Sends puts old bytes mid rest → puts mid rest (Ok count) new
    → 0 < count → Sends puts old bytes new (take (length rest - count) (drop count rest))
sends_on {puts = puts} {old = old} {new = new} {bytes = bytes} {rest = rest} {count = count} run put
    some =
    subst (Sends puts old bytes new) (sym (take_rest rest count)) (further run put some)

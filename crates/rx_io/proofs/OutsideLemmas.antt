-- What was taken from an open file says of what is under its name.
use Rattle.std.proofs.Common.{◌<◌, ℕ, ◌+◌, ◌++◌, List, Option, None, Some, length, subst, ap, arith, length-append}
use Rattle.std.proofs.KnownBytes.{Consumes-trans}
use Rattle.std.specs.Io.KnownBytes.{Consumes}
use Rattle.rx_io.specs.Outside.{Names, IsOpenedAt, HoldsMore}

-- a file has at least the bytes that were taken from its beginning on
pub holds_more : (held : Option Names) (name : List ℕ) (start mid new : Option (List ℕ))
    (bytes piece : List ℕ) (limit : ℕ) → IsOpenedAt held name start → Consumes start mid bytes →
    Consumes mid new piece
    → limit < length bytes + length piece → HoldsMore held name limit
holds_more None name start mid new bytes piece limit opened first second more =
    (bytes ++ piece, tt, omega (arith, length-append bytes piece))
holds_more (Some names) name start mid new bytes piece limit (whole, stands, is) first second more =
    let all : Consumes (Some whole) new (bytes ++ piece) =
    subst (λ s. Consumes s new (bytes ++ piece)) is
    (Consumes-trans start mid new bytes piece first second) in
    (whole, stands, longer new all)
  where
    longer : (new : Option (List ℕ)) → Consumes (Some whole) new (bytes ++ piece) → limit <
        length whole
    longer None all = absurd all
    longer (Some rest) all =
        omega (arith, ap length all, length-append (bytes ++ piece) rest, length-append bytes piece)

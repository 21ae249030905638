-- The front of a line, of pieces of a file.
use Rattle.std.proofs.Common.{◌≡◌, ◌∙◌, ap, subst, ℕ, ◌≤◌, Option, Some, None, List, [], ◌++◌, length, append_assoc, refl, sym}
use Rattle.std.proofs.lemmas.List.{append-nil}
use Rattle.std.specs.Io.KnownBytes.{Consumes, IsAtEnd}
use Rattle.rx_io.specs.Outside.{HoldsBytes, IsOpenedAt, Names}
use Rattle.rx_places.specs.FrontsKept.{Leads, front_with}
use Rattle.rx_places.specs.LineFronts.{line_front}
use Rattle.rx_places.specs.declared.line_front.LineFront.{LineFront}

-- ---- pieces

pub leads_same : (front : LineFront) → Leads front [] front
leads_same front more = refl

pub leads_on : (first mid last : LineFront) (bytes piece : List ℕ) → Leads first bytes mid →
    Leads mid piece last → Leads first (bytes ++ piece) last
leads_on first mid last bytes piece a b more =
    ap (λ (l : List ℕ). front_with first l) (append_assoc bytes piece more) ∙ a (piece ++ more)
    ∙ b more

-- where nothing follows, that is the front of the line
pub whole_front : (most number : ℕ) (first now : LineFront) (text : List ℕ) →
    Leads first text now → front_with first text ≡ line_front most number text →
    front_with now [] ≡ line_front most number text
whole_front most number first now text leads is =
    sym (leads []) ∙ ap (λ (l : List ℕ). front_with first l) (append-nil text) ∙ is

-- ---- the file

pub nothing_consumed : (left : Option (List ℕ)) → Consumes left left []
nothing_consumed None = tt
nothing_consumed (Some xs) = refl

-- at the end of a file its bytes are those that were taken
pub holds_all : (held : Option Names) (name : List ℕ) (start mid new : Option (List ℕ))
    (bytes piece : List ℕ) → piece ≡ [] → IsOpenedAt held name start → Consumes start mid bytes →
    Consumes mid new piece → IsAtEnd new → HoldsBytes held name bytes
holds_all None name start mid new bytes piece none opened first second at = tt
holds_all (Some names) name start mid new bytes piece none (whole, stands, is) first second at =
    stands ∙ ap (λ (l : List ℕ). Some l) (by mid new
    (subst (λ (s : Option (List ℕ)). Consumes s mid bytes) is first)
    (subst (λ (p : List ℕ). Consumes mid new p) none second) at)
  where
    by : (mid new : Option (List ℕ)) → Consumes (Some whole) mid bytes → Consumes mid new [] →
        IsAtEnd new → whole ≡ bytes
    by None new first second at = absurd first
    by (Some m) None first second at = absurd second
    by (Some m) (Some n) first second at =
        first ∙ ap (λ (l : List ℕ). bytes ++ l) (second ∙ at) ∙ append-nil bytes

-- the bytes that were taken from the open file lead to the front that is kept
pub record FrontSoFar (start left : Option (List ℕ)) (first now : LineFront) (read most : ℕ)
    : Type 0 where
  pub bytes : List ℕ
  pub taken : Consumes start left bytes
  pub counted : read ≡ length bytes
  pub within : read ≤ most
  pub leads : Leads first bytes now

-- What was noted so far, and what comes of a first part, leave it to the later parts or decide.
use Rattle.std.proofs.Common.{◌≡◌, ◌∙◌, ap, sym, refl, Bool, true, false, ◌||◌, Option, Some, None, List, [], ◌∷◌, ◌++◌}
use Rattle.std.specs.Option.{is_some, option_map}
use Rattle.rx_plain.proofs.Booleans.{or_assoc, or_false}
use Rattle.rx_solve.specs.Attempts.{Tried, first_applying, made_or}
use Rattle.rx_rank.specs.Tries.{made_then, noting}

-- what was noted twice
pub noting_again : {A : Type 0} (a b : Bool) (later : Tried A) → noting (a || b) later ≡
    noting a (noting b later)
noting_again a b later =
    ap (λ n. record { made = later.made; noted = n }) (or_assoc a b later.noted)

-- nothing more was noted
pub noted_alone : {A : Type 0} (made : Option A) (noted : Bool) →
    noting noted (record { made = made; noted = false }) ≡ record { made = made; noted = noted }
noted_alone made noted = ap (λ n. record { made = made; noted = n }) (or_false noted)

module _ {A : Type 0} (noted : Bool) (made : Option A) (more : Bool) (later whole : Tried A)
    (is : noting noted (made_or made more later) ≡ whole) where
  -- the first doesn't apply, and the later ones decide
  pub first_none : made ≡ None → noting (noted || more) later ≡ whole
  first_none e =
      noting_again noted more later ∙ ap (λ m. noting noted (made_or m more later)) (sym e) ∙ is

  -- it does
  pub first_some : (x : A) → made ≡ Some x → record { made = made; noted = noted || more } ≡ whole
  first_some x e =
      ap (λ m. record { made = m; noted = noted || more }) e ∙
      ap (λ m. noting noted (made_or m more later)) (sym e) ∙ is

module _ {A B : Type 0} (noted : Bool) (made : Option A) (more : Bool) (next : A → Tried B)
    (whole : Tried B) (is : noting noted (made_then made more next) ≡ whole) where
  -- nothing was made, and nothing is tried next
  pub then_none : made ≡ None → record { made = None; noted = noted || more } ≡ whole
  then_none e = ap (λ m. noting noted (made_then m more next)) (sym e) ∙ is

  -- what was made leaves it to the next
  pub then_some : (x : A) → made ≡ Some x → noting (noted || more) (next x) ≡ whole
  then_some x e =
      noting_again noted more (next x) ∙ ap (λ m. noting noted (made_then m more next)) (sym e) ∙ is

-- nothing was made, whatever is seen of it
pub none_made : {A B : Type 0} (view : A → B) (o : Option A) → is_some o ≡ false → option_map view o
    ≡ None
none_made view None e = refl
none_made view (Some x) e = cc

-- the first applies, whatever comes later
pub decided : {A B : Type 0} (view : A → B) (noted : Bool) (o : Option A) (more : Bool)
    (later : Tried B) → is_some o ≡ true →
    record { made = option_map view o; noted = noted || more } ≡
    noting noted (made_or (option_map view o) more later)
decided view noted None more later e = cc
decided view noted (Some x) more later e = refl

-- what comes of some and then of others
pub first_append : {A : Type 0} (ts us : List (Tried A)) → first_applying (ts ++ us) ≡
    made_or (first_applying ts).made (first_applying ts).noted (first_applying us)
first_append [] us = refl
first_append {A} (t ∷ ts) us =
    ap (made_or t.made t.noted) (first_append ts us) ∙ by t.made t.noted (first_applying ts)
  where
    by : (made : Option A) (noted : Bool) (later : Tried A) →
        made_or made noted (made_or later.made later.noted (first_applying us)) ≡
        made_or (made_or made noted later).made (made_or made noted later).noted
        (first_applying us)
    by (Some x) noted later = refl
    by None noted later = again later.made later.noted where
      again : (made : Option A) (more : Bool) →
          made_or None noted (made_or made more (first_applying us)) ≡
          made_or made (noted || more) (first_applying us)
      again (Some x) more = refl
      again None more =
          ap (λ n. record { made = (first_applying us).made; noted = n })
          (sym (or_assoc noted more (first_applying us).noted))

-- What is tried in order: the first that applies decides, with what was noted before.
use Rattle.std.specs.Prelude.{is_some}
use Rattle.std.proofs.Common.{◌≡◌, ap, refl, Bool, true, false, ◌||◌, Option, Some, None, [], ◌∷◌}
use Rattle.rx_plain.proofs.Booleans.{or_assoc, or_false}
use Rattle.rx_solve.specs.Attempts.{Tried, fails, first_applying, made_or}
use Rattle.rx_moves.specs.Trying.{Next, noting}

-- nothing or that
pub no_or : (a : Bool) → (false || a) ≡ a
no_or true = refl
no_or false = refl

-- nothing was noted before
pub nothing_noted : (t : Tried Next) → noting false t ≡ t
nothing_noted t =
    ap (λ n. let u : Tried Next = record { made = t.made; noted = n } in u) (no_or t.noted)

-- what was noted twice
pub noting_again : (a b : Bool) (t : Tried Next) → noting (a || b) t ≡ noting a (noting b t)
noting_again a b t =
    ap (λ n. let u : Tried Next = record { made = t.made; noted = n } in u) (or_assoc a b t.noted)

-- nothing follows
pub last_alone : (made : Option Next) (noted : Bool) → made_or made noted fails ≡
    record { made = made; noted = noted }
last_alone None noted =
    ap (λ n. let u : Tried Next = record { made = None; noted = n } in u) (or_false noted)
last_alone (Some x) noted = refl

-- there is one
pub some_by : {A : Type 0} (o : Option A) → is_some o ≡ true → (x : A) × (o ≡ Some x)
some_by None e = cc
some_by (Some x) e = (x, refl)

-- there is none
pub none_by : {A : Type 0} (o : Option A) → is_some o ≡ false → o ≡ None
none_by None e = refl
none_by (Some x) e = cc

-- one thing is tried
pub one_tried : (t : Tried Next) → first_applying (t ∷ []) ≡ t
one_tried t = last_alone t.made t.noted

-- a list is tried after another
pub tried_after : (first second rest : Tried Next) →
    made_or (made_or first.made first.noted second).made
    (made_or first.made first.noted second).noted rest
    ≡ made_or first.made first.noted (made_or second.made second.noted rest)
tried_after first second rest = by first.made first.noted second.made second.noted
  where
    by : (m : Option Next) (n : Bool) (m' : Option Next) (n' : Bool) →
        made_or (made_or m n (record { made = m'; noted = n' })).made
        (made_or m n (record { made = m'; noted = n' })).noted rest ≡
        made_or m n (made_or m' n' rest)
    by (Some x) n m' n' = refl
    by None n (Some x) n' = refl
    by None n None n' = noting_again n n' rest

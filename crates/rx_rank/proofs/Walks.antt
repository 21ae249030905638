-- Lists from a place on and up to a place; and two lists that go together.
use Rattle.std.proofs.Common.{◌≡◌, ◌∙◌, ap, sym, subst, refl, cond, arith, ℕ, suc, ◌+◌, ◌-◌, ◌==◌, ◌<◌, ◌↔◌, Bool, true, false, ◌||◌, not, Option, Some, None, List, [], ◌∷◌, ◌++◌, append_assoc, length, drop, get_or, slice_get, slice_set, take}
use Rattle.std.proofs.lemmas.Bool.{false_from_ne_true}
use Rattle.std.specs.List.{AllZip, find, list_any}
use Rattle.std.specs.Option.{is_some, option_map}
use Rattle.std.proofs.lemmas.List.{set-get_or, take_more}
use Rattle.std.proofs.lemmas.Option.{slice_get-get_or}
use Rattle.rx_poly.proofs.Same.{body_eq, body_eq-refl, body_eq-sound}
use Rattle.rx_poly.specs.declared.body.Body.{Body}
use Rattle.rx_cert.specs.Findings.{Said, Yes, No, Beyond, and_also}
use Rattle.rx_cert.specs.declared.cert.Cert.{Cert}
use Rattle.rx_solve.specs.Attempts.{Tried}
use Rattle.rx_pairs.specs.declared.pair.Pair.{Pair}
use Rattle.rx_term.proofs.Places.{from_place}
use Rattle.rx_rank.specs.Answers.{IsDecided, only_shown, still_open}
use Rattle.rx_anchors.specs.Values.{polynomial_of}
use Rattle.rx_rank.specs.Choices.{all_hold, falling, falls_by, hold_with, holds_by, is_beyond, is_ready, is_yes, next_first, not_falling, order_by, pairs_from, tested, without}
use Rattle.rx_rank.specs.PairTests.{holds}

-- from a place on
pub next_from : {A : Type 0} (xs : List A) (i : ℕ) (d : A) → i < length xs → drop i xs ≡
    get_or xs i d ∷ drop (i + 1) xs
next_from xs i d h = from_place xs i (get_or xs i d) (slice_get-get_or xs i d h)

-- what is put at a place is what is there
pub put_same : {A : Type 0} (xs : List A) (i : ℕ) (d y : A) → y ≡ get_or xs i d → slice_set xs i y ≡
    xs
put_same xs i d y same = ap (slice_set xs i) same ∙ set-get_or xs i d

-- two lists go together, and one more of each
pub zip_more : {A B : Type 0} (R : A → B → Type 0) (xs : List A) (ys : List B) (x : A) (y : B) →
    AllZip R xs ys → R x y → AllZip R (xs ++ x ∷ []) (ys ++ y ∷ [])
zip_more R [] [] x y all r = (r, all)
zip_more R [] (z ∷ zs) x y all r = absurd all
zip_more R (w ∷ ws) [] x y all r = absurd all
zip_more R (w ∷ ws) (z ∷ zs) x y all r = (all.0, zip_more R ws zs x y all.1 r)

-- one more of those up to a place
pub zip_next : {A B : Type 0} (R : A → B → Type 0) (xs after : List A) (ys more : List B) (i : ℕ)
    (d : A) (y : B) → i < length xs → after ≡ xs → more ≡ ys ++ y ∷ [] → AllZip R (take i xs) ys →
    R (get_or xs i d) y → AllZip R (take (i + 1) after) more
zip_next R xs after ys more i d y h same made all r =
    subst (λ zs. AllZip R (take (i + 1) zs) more) (sym same)
    (subst (λ zs. AllZip R zs more) (sym (take_more xs i d h))
    (subst (AllZip R (take i xs ++ get_or xs i d ∷ [])) (sym made)
    (zip_more R (take i xs) ys (get_or xs i d) y all r)))

-- ---- polynomials among others

known_poly : (b : Bool) (p q : Body) → ((b ≡ true) ↔ (q ≡ p)) → body_eq q p ≡ b
known_poly true p q tells = body_eq-refl q p (tells.0 refl)
known_poly false p q tells =
    false_from_ne_true (body_eq q p) (λ e. let wrong : false ≡ true = tells.1 (body_eq-sound q p e) in cc)

pub next_same : (b : Bool) (ps : List Body) (p q : Body) (i : ℕ) → slice_get ps i ≡ Some q →
    ((b ≡ true) ↔ (q ≡ p))
    → list_any (λ r. body_eq r p) (drop i ps) ≡ (b || list_any (λ r. body_eq r p) (drop (i + 1) ps))
next_same b ps p q i there tells =
    ap (list_any (λ r. body_eq r p)) (from_place ps i q there) ∙
    ap (λ c. c || list_any (λ r. body_eq r p) (drop (i + 1) ps)) (known_poly b p q tells)

-- ---- orders

module _ (total turn : ℕ) (pairs : List Pair) (waiting done : List ℕ) (whole : Option (List ℕ))
    (left : turn < total)
    (is : option_map (λ fs. done ++ fs) (order_by (total - turn) pairs waiting) ≡ whole) where
  opened_order : option_map (λ fs. done ++ fs)
      (next_first (find (is_ready pairs waiting) waiting)
      (λ f. order_by (total - (turn + 1)) pairs (without f waiting))) ≡ whole
  opened_order =
      let one_more : suc (total - (turn + 1)) ≡ total - turn = omega (arith, left) in
      ap (λ n. option_map (λ fs. done ++ fs) (order_by n pairs waiting)) one_more ∙ is

  -- none is ready
  pub order_none : find (is_ready pairs waiting) waiting ≡ None → None ≡ whole
  order_none none =
      sym (ap (λ o. option_map (λ fs. done ++ fs)
      (next_first o (λ f. order_by (total - (turn + 1)) pairs (without f waiting)))) none) ∙
      opened_order

  -- the first that is comes next
  pub order_next : (f : ℕ) → find (is_ready pairs waiting) waiting ≡ Some f →
      (more later : List ℕ) → more ≡ done ++ f ∷ [] → later ≡ without f waiting
      → option_map (λ fs. more ++ fs) (order_by (total - (turn + 1)) pairs later) ≡ whole
  order_next f ready more later made rest =
      let k = total - (turn + 1) in
      (λ j. option_map (λ fs. made j ++ fs) (order_by k pairs (rest j)))
      ∙ joined (order_by k pairs (without f waiting))
      ∙ ap (λ o. option_map (λ fs. done ++ fs)
      (next_first o (λ g. order_by k pairs (without g waiting)))) (sym ready)
      ∙ opened_order
    where
      joined : (o : Option (List ℕ)) → option_map (λ fs. (done ++ f ∷ []) ++ fs) o ≡
          option_map (λ fs. done ++ fs) (option_map (λ fs. f ∷ fs) o)
      joined None = refl
      joined (Some fs) = ap Some (append_assoc done (f ∷ []) fs)

-- ---- pairs that hold

pub stops : (s later : Said) → is_yes s ≡ false → and_also s later ≡ s
stops Yes later e = cc
stops No later e = refl
stops Beyond later e = refl

pub goes_on : (s later : Said) → is_yes s ≡ true → and_also s later ≡ later
goes_on Yes later e = refl
goes_on No later e = cc
goes_on Beyond later e = cc

-- a pair is asked where it is of the symbol
with_one : (values : List (Option Body)) (p : Body) (pair : Pair) (others : List Pair) (b : Bool) →
    hold_with values p (cond b (pair ∷ others) others) ≡
    and_also (cond b (tested (holds pair) (Some p) (polynomial_of values pair.right.0)) Yes)
    (hold_with values p others)
with_one values p pair others true = refl
with_one values p pair others false = refl

-- one pair more, with a polynomial for the symbol
pub next_with : (values : List (Option Body)) (p : Body) (f : ℕ) (pairs : List Pair) (i : ℕ)
    (d : Pair) → i < length pairs → (s : Said) → s ≡ cond ((get_or pairs i d).left.0 == f)
    (tested (holds (get_or pairs i d)) (Some p)
    (polynomial_of values (get_or pairs i d).right.0)) Yes
    → hold_with values p (pairs_from f (drop i pairs)) ≡
    and_also s (hold_with values p (pairs_from f (drop (i + 1) pairs)))
next_with values p f pairs i d h s found =
    let pair = get_or pairs i d in
    let later = pairs_from f (drop (i + 1) pairs) in
    ap (λ ps. hold_with values p (pairs_from f ps)) (next_from pairs i d h) ∙
    with_one values p pair later (pair.left.0 == f) ∙
    ap (λ t. and_also t (hold_with values p later)) (sym found)

-- one pair more, with the polynomials of its symbols
pub next_hold : (values : List (Option Body)) (pairs : List Pair) (i : ℕ) (d : Pair) → i <
    length pairs → all_hold values (drop i pairs) ≡
    and_also (holds_by values (get_or pairs i d)) (all_hold values (drop (i + 1) pairs))
next_hold values pairs i d h = ap (all_hold values) (next_from pairs i d h)

-- ---- fits

module _ {A : Type 0} (made : Option A) (noted : Bool) (s : Said)
    (is : record { made = option_map {U = Unit {0}} (λ x. tt) made; noted = noted } ≡ only_shown s)
  where
    -- certificates are made where it is shown
    pub made_yes : (x : A) → made ≡ Some x → s ≡ Yes
    made_yes x e = by s is where
      by : (t : Said) → record { made = option_map {U = Unit {0}} (λ x. tt) made; noted = noted } ≡
          only_shown t → t ≡ Yes
      by Yes f = refl
      by No f =
          let none = ap (λ (t : Tried (Unit {0})). t.made) f in let some =
          ap (option_map {U = Unit {0}} (λ x. tt)) e in cc
      by Beyond f =
          let none = ap (λ (t : Tried (Unit {0})). t.made) f in let some =
          ap (option_map {U = Unit {0}} (λ x. tt)) e in cc

    -- where none are, the whole isn't shown either
    pub made_not : (later : Said) → made ≡ None → record { made = None; noted = noted } ≡
        only_shown (and_also s later)
    made_not later e = by s is where
      by : (t : Said) → record { made = option_map {U = Unit {0}} (λ x. tt) made; noted = noted } ≡
          only_shown t → record { made = None; noted = noted } ≡ only_shown (and_also t later)
      by Yes f =
          let none = ap (λ (t : Tried (Unit {0})). t.made) f in let some =
          ap (option_map {U = Unit {0}} (λ x. tt)) e in cc
      by No f =
          ap (λ n. record { made = None; noted = n }) (ap (λ (t : Tried (Unit {0})). t.noted) f)
      by Beyond f =
          ap (λ n. record { made = None; noted = n }) (ap (λ (t : Tried (Unit {0})). t.noted) f)

module _ (values : List (Option Body)) where
  -- the pairs without certificates are those that don't fall
  pub still_is : (pairs : List Pair) (decided : List (Option (List Cert))) →
      AllZip (IsDecided values) pairs decided → still_open pairs decided ≡ not_falling values pairs
  still_is [] [] all = refl
  still_is [] (d ∷ ds) all = absurd all
  still_is (pair ∷ pairs) [] all = absurd all
  still_is (pair ∷ pairs) (None ∷ ds) all =
      ap (λ ps. pair ∷ ps) (still_is pairs ds all.1) ∙
      sym (ap (λ b. cond (not b) (pair ∷ not_falling values pairs) (not_falling values pairs))
      all.0)
  still_is (pair ∷ pairs) (Some certs ∷ ds) all =
      still_is pairs ds all.1 ∙ sym (ap (λ s.
      cond (not (is_yes s)) (pair ∷ not_falling values pairs) (not_falling values pairs))
      all.0.0)

  -- and there are some exactly where one falls
  pub some_is : (pairs : List Pair) (decided : List (Option (List Cert))) →
      AllZip (IsDecided values) pairs decided
      → list_any is_some decided ≡ list_any (λ pair. is_yes (falls_by values pair)) pairs
  some_is [] [] all = refl
  some_is [] (d ∷ ds) all = absurd all
  some_is (pair ∷ pairs) [] all = absurd all
  some_is (pair ∷ pairs) (None ∷ ds) all =
      some_is pairs ds all.1 ∙ sym (ap (λ b. b || list_any (λ q. is_yes (falls_by values q)) pairs)
      all.0)
  some_is (pair ∷ pairs) (Some certs ∷ ds) all =
      sym (ap (λ s. is_yes s || list_any (λ q. is_yes (falls_by values q)) pairs) all.0.0)

  module _ (pairs : List Pair) (decided : List (Option (List Cert))) (noted : Bool)
      (all : AllZip (IsDecided values) pairs decided)
      (same : noted ≡ list_any (λ pair. is_beyond (falls_by values pair)) pairs) where
    -- what comes of that where none falls, and where one does
    pub none_falls : list_any is_some decided ≡ false → record { made = None; noted = noted } ≡
        falling values pairs
    none_falls none = λ j. record {
      made =
          cond (sym (sym (some_is pairs decided all) ∙ none) j) (Some (not_falling values pairs))
          None;
      noted = same j;
    }

    pub one_falls : list_any is_some decided ≡ true →
        record { made = Some (still_open pairs decided); noted = noted } ≡ falling values pairs
    one_falls some =
        (λ j. record { made = Some (still_is pairs decided all j); noted = same j })
        ∙ (λ j. record {
          made =
              cond (sym (sym (some_is pairs decided all) ∙ some) j)
              (Some (not_falling values pairs)) None;
          noted = list_any (λ pair. is_beyond (falls_by values pair)) pairs;
        })

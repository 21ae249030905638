-- A text is cut at its first line feed in one way.
use Rattle.std.proofs.Common.{◌≡◌, ◌∙◌, sym, refl, ap, subst, ℕ, ◌+◌, ◌<◌, ◌≤◌, suc, eqb, ltb, Bool, true, false, Some, None, List, [], ◌∷◌, ◌++◌, length, length-append, take, drop, cond, not, ◌&&◌, arith}
use Rattle.std.proofs.lemmas.Bool.{eqb-true, eq-eqb}
use borrow.Author.Tests.{ltb-true, ltb-false}
use Rattle.std.specs.List.{position, position_or_len}
use Rattle.rx_plain.proofs.Booleans.{and_false, and_second}
use Rattle.rx_logtext.specs.Logs.{is_one_line, up_to_feed}

abbrev pub is_feed : ℕ → Bool
is_feed byte = eqb byte 10

kept : (x : ℕ) (xs : List ℕ) → eqb x 10 ≡ false → is_one_line xs ≡ true → is_one_line (x ∷ xs) ≡
    true
kept x xs e h = ap (λ (b : Bool). not b && is_one_line xs) e ∙ h

pub record CutAt (xs : List ℕ) (k : ℕ) : Type 0 where
  pub joined : xs ≡ take k xs ++ 10 ∷ drop (suc k) xs
  pub one : is_one_line (take k xs) ≡ true

cut_at_case : (b : Bool) (x : ℕ) (xs : List ℕ) (n : ℕ) → eqb x 10 ≡ b → cond (not b) (1 + n) 0 <
    length (x ∷ xs) → (n < length xs → CutAt xs n) → CutAt (x ∷ xs) (cond (not b) (1 + n) 0)
cut_at_case true x xs n e h rest =
    record { joined = let f : x ≡ 10 = eqb-true x 10 e in cc; one = refl }
cut_at_case false x xs n e h rest =
    let r : CutAt xs n = rest (omega arith) in
    let one : suc n ≡ 1 + n = omega arith in
    subst (CutAt (x ∷ xs)) one (record {
      joined = ap (λ (ys : List ℕ). x ∷ ys) r.joined;
      one =
          kept x (take n xs) e r.one;
    })

-- before the first line feed there is none
pub cut_at : (xs : List ℕ) → position_or_len is_feed xs < length xs →
    CutAt xs (position_or_len is_feed xs)
cut_at [] h = absurd (omega arith)
cut_at (x ∷ xs) h = cut_at_case (eqb x 10) x xs (position_or_len is_feed xs) refl h (cut_at xs)

no_feed_case : (b : Bool) (x : ℕ) (xs : List ℕ) (n : ℕ) → eqb x 10 ≡ b → length (x ∷ xs) ≤
    cond (not b) (1 + n) 0 → (length xs ≤ n → is_one_line xs ≡ true) → is_one_line (x ∷ xs) ≡ true
no_feed_case true x xs n e h rest = absurd (omega arith)
no_feed_case false x xs n e h rest = kept x xs e (rest (omega arith))

-- where none is found there is none
pub no_feed : (xs : List ℕ) → length xs ≤ position_or_len is_feed xs → is_one_line xs ≡ true
no_feed [] h = refl
no_feed (x ∷ xs) h = no_feed_case (eqb x 10) x xs (position_or_len is_feed xs) refl h (no_feed xs)

found_case : (b : Bool) (n k : ℕ) → cond b (Some n) None ≡ Some k → (b ≡ true) × (n ≡ k)
found_case true n k e = (refl, let f : n ≡ k = cc in f)
found_case false n k e = absurd (cc)

-- the first line feed cuts the text
pub cut_found : (xs : List ℕ) (k : ℕ) → position is_feed xs ≡ Some k → CutAt xs k
cut_found xs k e =
    let f = found_case (ltb (position_or_len is_feed xs) (length xs)) (position_or_len is_feed xs) k
    e in
    subst (CutAt xs) f.1 (cut_at xs (ltb-true _ _ f.0))

none_case : (b : Bool) (n : ℕ) → cond b (Some n) None ≡ None → b ≡ false
none_case true n e = absurd (cc)
none_case false n e = refl

-- where there is none the text is one line
pub cut_none : (xs : List ℕ) → position is_feed xs ≡ None → is_one_line xs ≡ true
cut_none xs e =
    no_feed xs (ltb-false _ _ (none_case (ltb (position_or_len is_feed xs) (length xs))
    (position_or_len is_feed xs) e))

no_line : (x : ℕ) (xs : List ℕ) → x ≡ 10 → is_one_line (x ∷ xs) ≡ true → ⊥
no_line x xs e h =
    let f : eqb x 10 ≡ true = eq-eqb x 10 e in let g : not (eqb x 10) ≡ false = ap not f in
    absurd (let k : false ≡ true = sym (ap (λ (b : Bool). b && is_one_line xs) g) ∙ h in cc)

tail_line : (x : ℕ) (xs : List ℕ) → is_one_line (x ∷ xs) ≡ true → is_one_line xs ≡ true
tail_line x xs h = and_second (not (eqb x 10)) (is_one_line xs) h

-- a line is no longer than the other
pub cut_once : (xs ys more rest : List ℕ) → is_one_line xs ≡ true → is_one_line ys ≡ true → xs ++
    10 ∷ more ≡ ys ++ 10 ∷ rest → xs ≡ ys
cut_once [] [] more rest p q e = refl
cut_once [] (y ∷ ys) more rest p q e = let f : y ≡ 10 = cc in absurd (no_line y ys f q)
cut_once (x ∷ xs) [] more rest p q e = let f : x ≡ 10 = cc in absurd (no_line x xs f p)
cut_once (x ∷ xs) (y ∷ ys) more rest p q e =
    let f : xs ++ 10 ∷ more ≡ ys ++ 10 ∷ rest = cc in
    let g : xs ≡ ys = cut_once xs ys more rest (tail_line x xs p) (tail_line y ys q) f in cc

-- ---- what comes up to the first line feed

found_in_rest : (b : Bool) (x : ℕ) (xs more : List ℕ) → eqb x 10 ≡ b → is_one_line (x ∷ xs) ≡ true →
    (is_one_line xs ≡ true → up_to_feed (xs ++ 10 ∷ more) ≡ xs ++ 10 ∷ [])
    → up_to_feed (x ∷ (xs ++ 10 ∷ more)) ≡ x ∷ (xs ++ 10 ∷ [])
found_in_rest true x xs more e h rest = absurd (no_line x xs (eqb-true x 10 e) h)
found_in_rest false x xs more e h rest =
    rw e (ap (λ (ys : List ℕ). x ∷ ys) (rest (tail_line x xs h)))

pub up_to_feed-found : (xs more : List ℕ) → is_one_line xs ≡ true → up_to_feed (xs ++ 10 ∷ more) ≡
    xs ++ 10 ∷ []
up_to_feed-found [] more h = refl
up_to_feed-found (x ∷ xs) more h =
    found_in_rest (eqb x 10) x xs more refl h (up_to_feed-found xs more)

pub up_to_feed-cut : (piece xs more : List ℕ) → piece ≡ xs ++ 10 ∷ more → is_one_line xs ≡ true →
    up_to_feed piece ≡ xs ++ 10 ∷ []
up_to_feed-cut piece xs more e h = ap up_to_feed e ∙ up_to_feed-found xs more h

none_in_rest : (b : Bool) (x : ℕ) (xs : List ℕ) → eqb x 10 ≡ b → is_one_line (x ∷ xs) ≡ true →
    (is_one_line xs ≡ true → up_to_feed xs ≡ xs) → up_to_feed (x ∷ xs) ≡ x ∷ xs
none_in_rest true x xs e h rest = absurd (no_line x xs (eqb-true x 10 e) h)
none_in_rest false x xs e h rest = rw e (ap (λ (ys : List ℕ). x ∷ ys) (rest (tail_line x xs h)))

pub up_to_feed-none : (xs : List ℕ) → is_one_line xs ≡ true → up_to_feed xs ≡ xs
up_to_feed-none [] h = refl
up_to_feed-none (x ∷ xs) h = none_in_rest (eqb x 10) x xs refl h (up_to_feed-none xs)

drop_rest : (b : Bool) (x : ℕ) (xs : List ℕ) → eqb x 10 ≡ b → (more : List ℕ) ×
    (xs ≡ up_to_feed xs ++ more) → (more : List ℕ) × (x ∷ xs ≡ up_to_feed (x ∷ xs) ++ more)
drop_rest true x xs e rest = (xs, rw e refl)
drop_rest false x xs e rest = (rest.0, rw e (ap (λ (ys : List ℕ). x ∷ ys) rest.1))

-- it begins the bytes
pub up_to_feed-drop : (xs : List ℕ) → (more : List ℕ) × (xs ≡ up_to_feed xs ++ more)
up_to_feed-drop [] = ([], refl)
up_to_feed-drop (x ∷ xs) = drop_rest (eqb x 10) x xs refl (up_to_feed-drop xs)

pub up_to_feed-within : (xs : List ℕ) → length (up_to_feed xs) ≤ length xs
up_to_feed-within xs =
    let f = up_to_feed-drop xs in omega (arith, ap length f.1, length-append (up_to_feed xs) f.0)

some_rest : (b : Bool) (x : ℕ) (xs : List ℕ) → eqb x 10 ≡ b → 0 < length (up_to_feed (x ∷ xs))
some_rest true x xs e = rw e (omega arith)
some_rest false x xs e = rw e (omega arith)

pub up_to_feed-some : (xs : List ℕ) → (xs ≡ [] → ⊥) → 0 < length (up_to_feed xs)
up_to_feed-some [] h = absurd (h refl)
up_to_feed-some (x ∷ xs) h = some_rest (eqb x 10) x xs refl

-- a line feed ends a line
pub fed : (xs more : List ℕ) → is_one_line (xs ++ 10 ∷ more) ≡ false
fed [] more = refl
fed (x ∷ xs) more = rw (fed xs more) (and_false (not (eqb x 10)))

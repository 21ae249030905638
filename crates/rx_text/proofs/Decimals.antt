-- Runs of digits: where one ends, and that a number has one decimal text.
use Rattle.std.proofs.Common.{◌≡◌, ◌∙◌, ap, subst, refl, sym, ℕ, ◌+◌, ◌-◌, ◌^◌, ◌<◌, ◌≤◌, nat_le, Bool, true, false, List, [], ◌∷◌, ◌++◌, length, drop, get_or, take, min, arith, slice_range}
use Rattle.std.proofs.lemmas.Bool.{and_from, and_parts, both_ways, cond-true, cond-false, le-leb, leb-true, not-true, not_from_false}
use Rattle.std.proofs.lemmas.Fmt.{decimal_digit, decimal_is_IsNumeral_wide}
use Rattle.std.proofs.lemmas.List.{drop_all, drop-drop, drop_more, length-append, length-drop, length-take, take_at}
use Rattle.std.proofs.lemmas.List.Folds.{drop_split}
use Rattle.std.proofs.lemmas.Str.Parse.{digit_from_value}
use Rattle.std.specs.Char.{digit_value}
use Rattle.std.specs.List.{prefix_len}
use Rattle.std.specs.Str.Parse.{AllDigits, digits_value}
use Rattle.rx_plain.proofs.Naturals.{one_more}
use Rattle.rx_text.specs.Formats.{BeginsWith, IsUnambiguous, StandsAt, is_over}
use Rattle.rx_text.specs.Numbers.{is_digit, natural_text, naturals}

-- a byte that goes on with a text doesn't follow it
pub no_more : (goes_on : ℕ → Bool) {left : List ℕ} (byte : ℕ) (bytes : List ℕ)
    → is_over goes_on left ≡ true → left ≡ byte ∷ bytes → goes_on byte ≡ true → ⊥
no_more goes_on byte bytes over is more =
    both_ways (goes_on byte)
    (not-true (goes_on byte) (subst (λ l. is_over goes_on l ≡ true) is over)) more

digit_is : (d : ℕ) → digit_value d < 10 → is_digit d ≡ true
digit_is d h =
    let r = digit_from_value d h in
    and_from (nat_le 48 d) (nat_le d 57) (le-leb 48 d r.0) (le-leb d 57 r.1)

-- two runs of digits that begin the same bytes are one
split : (ds es : List ℕ) {l r : List ℕ} → AllDigits 10 ds → AllDigits 10 es
    → is_over is_digit l ≡ true → is_over is_digit r ≡ true → ds ++ l ≡ es ++ r
    → (ds ≡ es) × (l ≡ r)
split [] [] a b o p e = (refl, e)
split [] (d ∷ es) {l} {r} a b o p e = absurd (no_more is_digit d (es ++ r) o e (digit_is d b.0))
split (d ∷ ds) [] {l} {r} a b o p e =
    absurd (no_more is_digit d (ds ++ l) p (sym e) (digit_is d a.0))
split (c ∷ ds) (d ∷ es) {l} {r} a b o p e =
    let heads : c ≡ d = cc in
    let tails : ds ++ l ≡ es ++ r = cc in
    let rest = split ds es a.1 b.1 o p tails in
    ((λ i. heads i ∷ rest.0 i), rest.1)

-- how far a run goes
run_is : (ds : List ℕ) (l : List ℕ) → AllDigits 10 ds → is_over is_digit l ≡ true
    → prefix_len is_digit (ds ++ l) ≡ length ds
run_is [] [] a o = refl
run_is [] (x ∷ l) a o =
    cond-false (is_digit x) (1 + prefix_len is_digit l) 0 (not-true (is_digit x) o)
run_is (d ∷ ds) l a o =
    let further : prefix_len is_digit (ds ++ l) ≡ length ds = run_is ds l a.1 o in
    cond-true (is_digit d) (1 + prefix_len is_digit (ds ++ l)) 0 (digit_is d a.0)
    ∙ omega (arith, further)

-- no byte that passes follows a run of those that do
pub over_after : (p : ℕ → Bool) (xs : List ℕ) → is_over p (drop (prefix_len p xs) xs) ≡ true
over_after p [] = refl
over_after p (x ∷ xs) = by (p x) (over_after p xs) refl
  where
    by : (b : Bool) → is_over p (drop (prefix_len p xs) xs) ≡ true → p x ≡ b
        → is_over p (drop (prefix_len p (x ∷ xs)) (x ∷ xs)) ≡ true
    by true further e =
        ap (λ n. is_over p (drop n (x ∷ xs)))
        (cond-true (p x) (1 + prefix_len p xs) 0 e ∙ one_more (prefix_len p xs))
        ∙ further
    by false further e =
        ap (λ n. is_over p (drop n (x ∷ xs))) (cond-false (p x) (1 + prefix_len p xs) 0 e)
        ∙ not_from_false (p x) e

-- ---- natural numbers

pub small : {n most : ℕ} → most < 10 ^ 64 → nat_le n most ≡ true → n < 10 ^ 64
small {n} {most} h e = let le : n ≤ most = leb-true n most e in omega arith

digits_of : (n : ℕ) → n < 10 ^ 64 → AllDigits 10 (natural_text n)
digits_of n h = (decimal_is_IsNumeral_wide n h).0.1

pub some_digit : (n : ℕ) → n < 10 ^ 64 → 0 < length (natural_text n)
some_digit n h = (decimal_is_IsNumeral_wide n h).0.0

pub same_number : (m n : ℕ) → m < 10 ^ 64 → n < 10 ^ 64 → natural_text m ≡ natural_text n → m ≡ n
same_number m n h k e =
    sym (decimal_is_IsNumeral_wide m h).1 ∙ ap (digits_value 10) e
    ∙ (decimal_is_IsNumeral_wide n k).1

-- bytes begin with the text of at most one number
pub naturals_unambiguous : (most : ℕ) → most < 10 ^ 64 → IsUnambiguous (naturals most)
naturals_unambiguous most h bytes m n left right b c =
    let j = small h b.in_range in
    let k = small h c.in_range in
    let s =
    split (natural_text m) (natural_text n) (digits_of m j) (digits_of n k) b.over c.over
    (sym b.text ∙ c.text) in
    (same_number m n j k s.0, s.1)

-- the run of digits at the place is the text of the number that is there
pub run_is_text : {most : ℕ} (bytes : List ℕ) {left : List ℕ} (at : ℕ) {thing run : ℕ}
    → most < 10 ^ 64 → run ≡ prefix_len is_digit (drop at bytes)
    → BeginsWith (naturals most) (drop at bytes) thing left
    → slice_range bytes at (at + run) ≡ natural_text thing
run_is_text {most} bytes {left} at {thing} {run} h is b =
    let counted : run ≡ length (natural_text thing) =
    is ∙ ap (prefix_len is_digit) b.text
    ∙ run_is (natural_text thing) left (digits_of thing (small h b.in_range)) b.over in
    let long : (at + run) - at ≡ length (natural_text thing) = omega (arith, counted) in
    (λ i. take (long i) (b.text i))
    ∙ take_at (natural_text thing) left (length (natural_text thing)) refl

-- a run of digits that is the text of a number is where that number is
pub stands : (bytes : List ℕ) (at : ℕ) {run value : ℕ} → run ≡ prefix_len is_digit (drop at bytes)
    → at < length bytes → run ≤ length (drop at bytes) → value < 2 ^ 128
    → slice_range bytes at (at + run) ≡ natural_text value
    → StandsAt (naturals (2 ^ 128 - 1)) bytes at value (at + run)
stands bytes at {run} {value} is h within fits e =
    let wide : value < 10 ^ 64 = omega arith in
    let long : length (natural_text value) ≡ min ((at + run) - at) (length (drop at bytes)) =
    ap length (sym e) ∙ length-take ((at + run) - at) (drop at bytes) in
    let some : 0 < length (natural_text value) = some_digit value wide in
    let left : length (drop at bytes) ≡ length bytes - at = length-drop at bytes in
    let most : value ≤ 2 ^ 128 - 1 = omega arith in
    let between : at ≤ at + run = omega arith in
    record {
      forward = omega (arith, long, some);
      inside = omega (arith, left);
      begins = record {
        in_range = le-leb value (2 ^ 128 - 1) most;
        text = drop_split bytes at (at + run) between ∙ ap (λ s. s ++ drop (at + run) bytes) e;
        over =
            ap (is_over is_digit)
            (sym (drop-drop run at bytes) ∙ ap (λ n. drop n (drop at bytes)) is)
            ∙ over_after is_digit (drop at bytes);
      };
    }

-- no number is past the end
pub nothing_past : {most : ℕ} (bytes : List ℕ) {left : List ℕ} (at : ℕ) {thing : ℕ} → most < 10 ^ 64
    → length bytes ≤ at → BeginsWith (naturals most) (drop at bytes) thing left → ⊥
nothing_past {most} bytes {left} at {thing} h past b =
    let none : drop at bytes ≡ [] = drop_all at bytes past in
    let long : 0 ≡ length (natural_text thing) + length left =
    ap length (sym none ∙ b.text) ∙ length-append (natural_text thing) left in
    let some : 0 < length (natural_text thing) = some_digit thing (small h b.in_range) in
    absurd (omega (arith, long, some))

-- bytes that begin with digits begin with one
digits_first : (ds left : List ℕ) {rest : List ℕ} {byte : ℕ} → AllDigits 10 ds → 0 < length ds
    → ds ++ left ≡ byte ∷ rest → is_digit byte ≡ true
digits_first [] left a some e = absurd (omega arith)
digits_first (d ∷ ds) left {rest} {byte} a some e =
    let same : d ≡ byte = cc in ap is_digit (sym same) ∙ digit_is d a.0

pub number_first : (n : ℕ) (left : List ℕ) {rest : List ℕ} {byte : ℕ} → n < 10 ^ 64
    → natural_text n ++ left ≡ byte ∷ rest → is_digit byte ≡ true
number_first n left h e = digits_first (natural_text n) left (digits_of n h) (some_digit n h) e

-- one digit with no other after it is the text of its number
pub one_digit : (bytes : List ℕ) (at : ℕ) {byte : ℕ} → at < length bytes
    → byte ≡ get_or bytes at byte → is_digit byte ≡ true
    → is_over is_digit (drop (at + 1) bytes) ≡ true
    → StandsAt (naturals (2 ^ 128 - 1)) bytes at (byte - 48) (at + 1)
one_digit bytes at {byte} within is digit over =
    let bounds = and_parts (nat_le 48 byte) (nat_le byte 57) digit in
    let low : 48 ≤ byte = leb-true 48 byte bounds.0 in
    let high : byte ≤ 57 = leb-true byte 57 bounds.1 in
    let small : byte - 48 < 10 = omega arith in
    let most : byte - 48 ≤ 2 ^ 128 - 1 = omega arith in
    let same : 48 + (byte - 48) ≡ byte = omega arith in
    let text : natural_text (byte - 48) ≡ byte ∷ [] =
    decimal_digit (byte - 48) small ∙ ap (λ n. n ∷ []) same in
    record {
      forward = omega arith;
      inside = omega arith;
      begins = record {
        in_range = le-leb (byte - 48) (2 ^ 128 - 1) most;
        text = drop_more bytes at byte within
            ∙ ap (λ b. b ∷ drop (at + 1) bytes) (sym is)
            ∙ ap (λ ds. ds ++ drop (at + 1) bytes) (sym text);
        over = over;
      };
    }

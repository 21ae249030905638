-- The lists of a store as what a run keeps.
use Rattle.std.proofs.Common.{◌≡◌, ℕ, zero, suc, ◌+◌, ◌-◌, ◌≤◌, ℤ, List, [], ◌∷◌, ◌++◌, take, drop, length, ap, ◌∙◌, sym, refl, arith, inl, inr}
use Rattle.std.specs.Prelude.{slice_set, reverse}
use Rattle.std.proofs.Math.Seq.{take-append_seam, drop-append_seam}
use Rattle.std.proofs.lemmas.List.{take-take, drop-take, take-set-le, drop-set-add, reverse-append, reverse-reverse, length-reverse, take-append-drop, length-drop, take_all}
use Rattle.std.proofs.Math.ListN.{drop_of_length-le}
use Rattle.c_meaning.specs.Outcomes.{State}
use Rattle.c_code.proofs.Positions.{le_or_less}
use Rattle.c_code.specs.Stores.{Kept, with_state, with_values, with_scopes, top, below_top, scope_count, outer_scopes, pushed, entered, left_scope, ended, called}

abbrev pub kept : (base : ℕ) (slots values : List ℤ) (scopes : List ℕ) → Kept
kept base slots values scopes =
    record {
      values = reverse values;
      below = take base slots;
      state = drop base slots;
      scopes =
          reverse scopes;
    }

module _ (A : Type 0) where
  -- one more at the end is the first, reversed
  pub reverse-pushed : (xs new : List A) (x : A) → new ≡ xs ++ x ∷ [] → reverse new ≡ x ∷ reverse xs
  reverse-pushed xs new x is = rw is (reverse-append xs (x ∷ []))

  length-last : (xs : List A) (n : ℕ) → n ≤ length xs → length (drop (length xs - n) xs) ≡ n
  length-last xs n le = let same = length-drop (length xs - n) xs in omega arith

  turned : (xs : List A) (n : ℕ) → reverse xs ≡ reverse (drop (length xs - n) xs) ++
      reverse (take (length xs - n) xs)
  turned xs n =
      ap reverse (sym (take-append-drop (length xs - n) xs)) ∙
      reverse-append (take (length xs - n) xs) (drop (length xs - n) xs)

  length-reversed : (xs : List A) (n : ℕ) → n ≤ length xs → n ≡
      length (reverse (drop (length xs - n) xs))
  length-reversed xs n le = sym (length-reverse (drop (length xs - n) xs) ∙ length-last xs n le)

  -- all but the last, reversed
  pub reverse-kept : (xs : List A) (n : ℕ) → reverse (take (length xs - n) xs) ≡ drop n (reverse xs)
  reverse-kept xs n =
      elim (le_or_less n (length xs)) [
        | inl le ↦ sym (ap (drop n) (turned xs n)
            ∙ (ap (λ (m : ℕ). drop m (reverse (drop (length xs - n) xs) ++
            reverse (take (length xs - n) xs))) (length-reversed xs n le)
            ∙ drop-append_seam (reverse (drop (length xs - n) xs))
            (reverse (take (length xs - n) xs))))
        | inr more ↦
            let none : length xs - n ≡ 0 = omega arith in
            let few : length (reverse xs) ≤ n = let same = length-reverse xs in omega arith in
            ap (λ (m : ℕ). reverse (take m xs)) none ∙ sym (drop_of_length-le (reverse xs) few)
      ]

  -- the last
  pub reverse-taken : (xs : List A) (n : ℕ) → reverse (take n (reverse xs)) ≡
      drop (length xs - n) xs
  reverse-taken xs n =
      elim (le_or_less n (length xs)) [
        | inl le ↦ ap (λ (ys : List A). reverse (take n ys)) (turned xs n)
            ∙ (ap (λ (m : ℕ). reverse (take m
            (reverse (drop (length xs - n) xs) ++ reverse (take (length xs - n) xs))))
            (length-reversed xs n le)
            ∙ (ap reverse (take-append_seam (reverse (drop (length xs - n) xs))
            (reverse (take (length xs - n) xs)))
            ∙ reverse-reverse (drop (length xs - n) xs)))
        | inr more ↦
            let none : length xs - n ≡ 0 = omega arith in
            let few : length (reverse xs) ≤ n = let same = length-reverse xs in omega arith in
            ap reverse (take_all n (reverse xs) few) ∙
            (reverse-reverse xs ∙ ap (λ (m : ℕ). drop m xs) (sym none))
      ]

-- what is kept, part by part
same-kept : (values other : List ℤ) (below under : List ℤ) (state second : State)
    (scopes counts : List ℕ)
    → values ≡ other → below ≡ under → state ≡ second → scopes ≡ counts
    → (let k : Kept = record { values = values; below = below; state = state; scopes = scopes } in
    k)
    ≡ record { values = other; below = under; state = second; scopes = counts }
same-kept values other below under state second scopes counts one two three four =
    rw (one, two, three, four) refl

pub length-most : (n : ℕ) (xs : List ℤ) → length (take n xs) ≤ n
length-most zero [] = omega arith
length-most (suc n) [] = omega arith
length-most zero (x ∷ xs) = omega arith
length-most (suc n) (x ∷ xs) = let rec = length-most n xs in omega arith

module _ (base : ℕ) (slots values : List ℤ) (scopes : List ℕ) (k : Kept)
    (is : kept base slots values scopes ≡ k) where
  -- only the first slots of the running function stay
  pub kept-take : (count : ℕ) (new : List ℤ) → new ≡ take (base + count) slots →
      kept base new values scopes ≡ with_state k (take count k.state)
  kept-take count new all =
      let below : base ≤ base + count = omega arith in
      same-kept (reverse values) (reverse values) (take base new) (take base slots) (drop base new)
      (take count (drop base slots)) (reverse scopes) (reverse scopes) refl
      (ap (take base) all ∙ take-take base (base + count) slots below)
      (ap (drop base) all ∙ drop-take base count slots) refl
      ∙ ap (λ (j : Kept). with_state j (take count j.state)) is

  -- one slot of the running function has another value
  pub kept-set : (at : ℕ) (value : ℤ) (new : List ℤ) → new ≡ slice_set slots (base + at) value →
      kept base new values scopes ≡ with_state k (slice_set k.state at value)
  kept-set at value new all =
      let below : base ≤ base + at = omega arith in
      same-kept (reverse values) (reverse values) (take base new) (take base slots) (drop base new)
      (slice_set (drop base slots) at value) (reverse scopes) (reverse scopes) refl
      (ap (take base) all ∙ take-set-le base slots (base + at) value below)
      (ap (drop base) all ∙ drop-set-add base slots at value) refl
      ∙ ap (λ (j : Kept). with_state j (slice_set j.state at value)) is

  -- a value on top, or one less
  pub kept-push : (new : List ℤ) (x : ℤ) → new ≡ values ++ x ∷ [] → kept base slots new scopes ≡
      pushed k x
  kept-push new x all = rw (reverse-pushed ℤ values new x all) (ap (λ (j : Kept). pushed j x) is)

  pub kept-pop : (new : List ℤ) (x : ℤ) → values ≡ new ++ x ∷ [] → kept base slots new scopes ≡
      with_values k (below_top k.values)
  kept-pop new x all =
      ap (λ (xs : List ℤ). let j : Kept = record {
        values = below_top xs;
        below = take base slots;
        state = drop base slots;
        scopes =
            reverse scopes;
      } in j)
      (sym (reverse-pushed ℤ new values x all))
      ∙ ap (λ (j : Kept). with_values j (below_top j.values)) is

  pub popped-value : (new : List ℤ) (x : ℤ) → values ≡ new ++ x ∷ [] → x ≡ top k.values
  popped-value new x all =
      ap top (sym (reverse-pushed ℤ new values x all)) ∙ ap (λ (j : Kept). top j.values) is

  -- a scope more, or one less
  pub kept-enter : (counts : List ℕ) (count : ℕ) → counts ≡ scopes ++ count ∷ [] → count ≡
      length k.state → kept base slots values counts ≡ entered k
  kept-enter counts count all many =
      rw (reverse-pushed ℕ scopes counts count all, many)
      (ap (λ (j : Kept). with_scopes j (length k.state ∷ j.scopes)) is)

  pub kept-leave : (counts : List ℕ) (count : ℕ) → scopes ≡ counts ++ count ∷ [] →
      with_state (kept base slots values counts) (take count (kept base slots values counts).state)
      ≡ left_scope k
  kept-leave counts count all =
      ap (λ (xs : List ℕ). let j : Kept = record {
        values = reverse values;
        below = take base slots;
        state =
            take (scope_count xs) (drop base slots);
        scopes = outer_scopes xs;
      } in j)
      (sym (reverse-pushed ℕ counts scopes count all))
      ∙ ap left_scope is

  -- a function ends
  pub kept-end : (n : ℕ) (new : List ℤ) (counts : List ℕ) → new ≡ take base slots → counts ≡
      take (length scopes - n) scopes → kept base new values counts ≡ ended k n
  kept-end n new counts all some =
      same-kept (reverse values) (reverse values) (take base new) (take base slots) (drop base new)
      [] (reverse counts) (drop n (reverse scopes)) refl
      (ap (take base) all ∙ take-take base base slots (omega arith))
      (ap (drop base) all ∙ drop_of_length-le (take base slots) (length-most base slots))
      (ap reverse some ∙ reverse-kept ℕ scopes n)
      ∙ ap (λ (j : Kept). ended j n) is

  -- a function begins
  pub kept-call : (count : ℕ) (new less : List ℤ) → new ≡ slots ++
      drop (length values - count) values → less ≡ take (length values - count) values
      → kept (length slots) new less scopes ≡ called k count
  kept-call count new less all some =
      same-kept (reverse less) (drop count (reverse values)) (take (length slots) new)
      (take base slots ++ drop base slots) (drop (length slots) new)
      (reverse (take count (reverse values))) (reverse scopes) (reverse scopes)
      (ap reverse some ∙ reverse-kept ℤ values count)
      (ap (take (length slots)) all ∙ (take-append_seam slots (drop (length values - count) values)
      ∙ sym (take-append-drop base slots)))
      (ap (drop (length slots)) all ∙ (drop-append_seam slots (drop (length values - count) values)
      ∙ sym (reverse-taken ℤ values count))) refl
      ∙ ap (λ (j : Kept). called j count) is

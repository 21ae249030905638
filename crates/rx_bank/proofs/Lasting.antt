-- What is packed represents the same thing in each list that keeps the numbers.
use Rattle.std.proofs.Common.{◌≡◌, ◌∙◌, ap, refl, ℕ, Bool, true, List, [], ◌∷◌, ◌++◌, Some, length, map, pos, slice_get}
use Rattle.std.proofs.lemmas.Bool.{and_from, and_parts, lt-ltb, ltb-true}
use Rattle.std.proofs.lemmas.List.{map-append}
use Rattle.std.proofs.lemmas.List.Folds.{list_all-append}
use Rattle.std.proofs.lemmas.Option.{get_or_from_slice_get, slice_get-get_or, slice_get_within}
use Rattle.std.specs.List.{list_all}
use Rattle.rx_poly.specs.Constants.{number}
use Rattle.rx_poly.specs.declared.body.Body.{Body}
use Rattle.rx_row.specs.declared.row.Row.TheVariants as row
use Rattle.rx_term.specs.declared.term.Term.{Term}
use Rattle.rx_term.specs.declared.term.Term.TheVariants as term
use Rattle.rx_bank.specs.Numbers.{KeepsNumbers}
use Rattle.rx_inference.specs.States.{State}
use Rattle.rx_bank.specs.Packing.{StandsAs, StandsFor, base_at, base_within, call_within, equation_at, equation_within, equations_at, equations_within, frames_at, frames_within, is_within, number_within, numbers_within, poly_at, polys_at, row_at, row_within, rows_at, rows_within, rule_at, rules_at, term_at, term_within, unpacked}
use Rattle.rx_bank.specs.declared.packed.Packed.{Packed}
use Rattle.rx_bank.specs.declared.parts.PackedBase.TheVariants as base
use Rattle.rx_bank.specs.declared.parts.PackedCall.{PackedCall}
use Rattle.rx_bank.specs.declared.parts.PackedEquation.{PackedEquation}
use Rattle.rx_bank.specs.declared.parts.PackedRow.TheVariants as packed_row

-- ---- anything packed, and lists of it

module _ {A B : Type 0} (within_count : ℕ → A → Bool) (at_numbers : List Body → A → B) where
  -- with numbers within a list it represents the same in each list that keeps these
  abbrev pub Lasts : Type 0
  Lasts =
      (old new : List Body) → KeepsNumbers old new → (x : A) → within_count (length old) x ≡ true →
      StandsAs within_count at_numbers new x (at_numbers old x)

  pub stands_on : Lasts → (old new : List Body) → KeepsNumbers old new → (x : A) (y : B) →
      StandsAs within_count at_numbers old x y → StandsAs within_count at_numbers new x y
  stands_on lasts old new kept x y s =
      let on = lasts old new kept x s.within in record { within = on.within; is = on.is ∙ s.is }

  abbrev pub all_within : ℕ → List A → Bool
  all_within count = list_all (within_count count)

  abbrev pub all_at : List Body → List A → List B
  all_at ps = map (at_numbers ps)

module _ {A B : Type 0} (within_count : ℕ → A → Bool) (at_numbers : List Body → A → B) where
  pub all_last : Lasts within_count at_numbers →
      Lasts (all_within within_count at_numbers) (all_at within_count at_numbers)
  all_last lasts old new kept [] t = record { within = refl; is = refl }
  all_last lasts old new kept (x ∷ xs) t =
      let parts = and_parts (within_count (length old) x)
      (all_within within_count at_numbers (length old) xs) t in
      let first = lasts old new kept x parts.0 in
      let rest = all_last lasts old new kept xs parts.1 in
      record { within = and_from _ _ first.within rest.within; is = λ i. first.is i ∷ rest.is i }

  -- a list represents a list, and one more after its last for one more
  pub one_more : (ps : List Body) (xs : List A) (ys : List B) (x : A) (y : B) →
      StandsAs (all_within within_count at_numbers) (all_at within_count at_numbers) ps xs ys →
      StandsAs within_count at_numbers ps x y →
      StandsAs (all_within within_count at_numbers) (all_at within_count at_numbers) ps
      (xs ++ x ∷ []) (ys ++ y ∷ [])
  one_more ps xs ys x y all one = record {
    within =
        list_all-append (within_count (length ps)) xs (x ∷ []) ∙
        and_from _ _ all.within (and_from _ _ one.within refl);
    is = map-append (at_numbers ps) xs (x ∷ []) ∙ (λ i. all.is i ++ one.is i ∷ []);
  }

  -- and so where the list of polynomials grew before the last one
  pub one_more_on : Lasts within_count at_numbers → (old new : List Body) → KeepsNumbers old new →
      (xs : List A) (ys : List B) (x : A) (y : B) →
      StandsAs (all_within within_count at_numbers) (all_at within_count at_numbers) old xs ys →
      StandsAs within_count at_numbers new x y →
      StandsAs (all_within within_count at_numbers) (all_at within_count at_numbers) new
      (xs ++ x ∷ []) (ys ++ y ∷ [])
  one_more_on lasts old new kept xs ys x y all one =
      one_more new xs ys x y (stands_on (all_within within_count at_numbers)
      (all_at within_count at_numbers) (all_last lasts) old new kept xs ys all) one

-- ---- numbers, rows, terms, equations

-- a number represents the polynomial that has it
pub numbered : (ps : List Body) (n : ℕ) (p : Body) → slice_get ps n ≡ Some p →
    StandsAs number_within poly_at ps n p
numbered ps n p e =
    record {
      within = lt-ltb n (length ps) (slice_get_within ps n p e);
      is =
          get_or_from_slice_get ps n p (number (pos 0)) e;
    }

pub number_lasts : Lasts number_within poly_at
number_lasts old new kept n t =
    numbered new n (poly_at old n) (kept n (poly_at old n)
    (slice_get-get_or old n (number (pos 0)) (ltb-true n (length old) t)))

pub numbers_last : Lasts numbers_within polys_at
numbers_last = all_last number_within poly_at number_lasts

pub row_lasts : Lasts row_within row_at
row_lasts old new kept (packed_row.Ge n) t =
    let on = number_lasts old new kept n t in record { within = on.within; is = ap row.Ge on.is }
row_lasts old new kept (packed_row.Eq n) t =
    let on = number_lasts old new kept n t in record { within = on.within; is = ap row.Eq on.is }
row_lasts old new kept (packed_row.Ne n) t =
    let on = number_lasts old new kept n t in record { within = on.within; is = ap row.Ne on.is }

pub base_lasts : Lasts base_within base_at
base_lasts old new kept (base.Return n) t =
    let on = number_lasts old new kept n t in
    record { within = on.within; is = ap term.Return on.is }
base_lasts old new kept (base.Fail code) t = record { within = refl; is = refl }
base_lasts old new kept (base.Call call) t =
    let on = numbers_last old new kept call.args t in
    record { within = on.within; is = ap (term.Call call.sym) on.is }

-- frames over a term
pub frames_last : (old new : List Body) → KeepsNumbers old new →
    (frames : List PackedCall) (inner : Term) → frames_within (length old) frames ≡ true →
    StandsAs frames_within (λ ps fs. frames_at ps fs inner) new frames (frames_at old frames inner)
frames_last old new kept [] inner t = record { within = refl; is = refl }
frames_last old new kept (frame ∷ frames) inner t =
    let parts = and_parts (call_within (length old) frame) (frames_within (length old) frames) t in
    let first = numbers_last old new kept frame.args parts.0 in
    let rest = frames_last old new kept frames inner parts.1 in
    record {
      within = and_from _ _ first.within rest.within;
      is = λ i.
          term.Frame frame.sym (first.is i) (rest.is i);
    }

pub term_lasts : Lasts term_within term_at
term_lasts old new kept t within =
    let parts = and_parts (frames_within (length old) t.frames) (base_within (length old) t.base)
    within in
    let below = base_lasts old new kept t.base parts.1 in
    let upper = frames_last old new kept t.frames (base_at old t.base) parts.0 in
    record {
      within = and_from _ _ upper.within below.within;
      is =
          ap (frames_at new t.frames) below.is ∙ upper.is;
    }

-- ---- equations, rules, states

-- two terms and rows represent the same
module _ (old new : List Body) (kept : KeepsNumbers old new) (e : PackedEquation)
    (within : equation_within (length old) e ≡ true) where
  parts : (term_within (length old) e.left ≡ true) × (term_within (length old) e.right ≡ true) ×
      (rows_within (length old) e.rows ≡ true)
  parts =
      let l = and_parts (term_within (length old) e.left) _ within in
      let r = and_parts (term_within (length old) e.right) _ l.1 in
      (l.0, r.0, r.1)

  left : StandsAs term_within term_at new e.left (term_at old e.left)
  left = term_lasts old new kept e.left parts.0

  right : StandsAs term_within term_at new e.right (term_at old e.right)
  right = term_lasts old new kept e.right parts.1

  rows : StandsAs rows_within rows_at new e.rows (rows_at old e.rows)
  rows = all_last row_within row_at row_lasts old new kept e.rows parts.2

  within_on : equation_within (length new) e ≡ true
  within_on = and_from _ _ left.within (and_from _ _ right.within rows.within)

pub equation_lasts : Lasts equation_within equation_at
equation_lasts old new kept e t = record {
  within = within_on old new kept e t;
  is =
      λ i. record {
        left = (left old new kept e t).is i;
        right = (right old new kept e t).is i;
        rows = (rows old new kept e t).is i;
      };
}

pub rule_lasts : Lasts equation_within rule_at
rule_lasts old new kept e t = record {
  within = within_on old new kept e t;
  is =
      λ i. record {
        left = (left old new kept e t).is i;
        right = (right old new kept e t).is i;
        rows = (rows old new kept e t).is i;
      };
}

pub equations_last : Lasts equations_within equations_at
equations_last = all_last equation_within equation_at equation_lasts

pub rules_last : Lasts equations_within rules_at
rules_last = all_last equation_within rule_at rule_lasts

pub state_lasts : Lasts is_within unpacked
state_lasts old new kept packed t =
    let both = and_parts (equations_within (length old) packed.goals)
    (equations_within (length old) packed.hypotheses) t in
    let goals = equations_last old new kept packed.goals both.0 in
    let hypotheses = rules_last old new kept packed.hypotheses both.1 in
    record {
      within = and_from _ _ goals.within hypotheses.within;
      is = λ i.
          record { goals = goals.is i; hypotheses = hypotheses.is i };
    }

-- a packed state represents its state in each list that keeps the numbers
pub packed_states_last : (old new : List Body) → KeepsNumbers old new →
    (packed : Packed) (state : State) → StandsFor old packed state → StandsFor new packed state
packed_states_last = stands_on is_within unpacked state_lasts

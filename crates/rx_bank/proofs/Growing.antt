-- What is packed piece by piece, while the list of polynomials grows, represents the whole.
use Rattle.std.proofs.Common.{◌≡◌, ◌∙◌, ap, refl, subst, sym, ℕ, ◌+◌, ◌<◌, Bool, true, ◌&&◌, List, [], ◌∷◌, ◌++◌, Some, get_or, length, slice_get, take}
use Rattle.std.proofs.lemmas.Bool.{and_from, and_parts}
use Rattle.std.proofs.lemmas.List.{take_more}
use Rattle.std.proofs.lemmas.List.Folds.{list_all-append}
use Rattle.rx_poly.specs.declared.body.Body.{Body}
use Rattle.rx_row.specs.declared.row.Row.{Row}
use Rattle.rx_term.specs.declared.term.Sym.{Sym}
use Rattle.rx_term.specs.declared.term.Term.{Term}
use Rattle.rx_term.specs.declared.term.Term.TheVariants as term
use Rattle.rx_inference.specs.States.{State}
use Rattle.rx_bank.specs.Numbers.{KeepsNumbers}
use Rattle.rx_bank.specs.Packing.{StandsAs, StandsFor, base_at, base_within, call_within, equation_at, equation_within, equations_at, equations_within, frames_at, frames_within, numbers_within, polys_at, rows_at, rows_within, rule_at, rules_at, term_at, term_within}
use Rattle.rx_bank.specs.declared.packed.Packed.{Packed}
use Rattle.rx_bank.specs.declared.parts.PackedBase.{PackedBase}
use Rattle.rx_bank.specs.declared.parts.PackedBase.TheVariants as base
use Rattle.rx_bank.specs.declared.parts.PackedCall.{PackedCall}
use Rattle.rx_bank.specs.declared.parts.PackedEquation.{PackedEquation}
use Rattle.rx_bank.specs.declared.parts.PackedRow.{PackedRow}
use Rattle.rx_bank.proofs.Lasting.{Lasts, all_at, all_last, all_within, equations_last, frames_last, numbered, one_more, stands_on, term_lasts}

-- ---- lists

module _ {A B : Type 0} (within_count : ℕ → A → Bool) (at_numbers : List Body → A → B) where
  -- one more of a list is packed, after the polynomials grew
  pub packed_more : Lasts within_count at_numbers → (old new : List Body) → KeepsNumbers old new →
      (xs : List A) (ys : List B) (i : ℕ) (y : B) → i < length ys → y ≡ get_or ys i y
      → (pushed : List A) (x : A) → pushed ≡ xs ++ x ∷ [] →
      StandsAs (all_within within_count at_numbers) (all_at within_count at_numbers) old xs
      (take i ys) → StandsAs within_count at_numbers new x y
      → StandsAs (all_within within_count at_numbers) (all_at within_count at_numbers) new pushed
      (take (i + 1) ys)
  packed_more lasts old new kept xs ys i y here is pushed x e all one =
      let on = stands_on (all_within within_count at_numbers) (all_at within_count at_numbers)
      (all_last within_count at_numbers lasts) old new kept xs (take i ys) all in
      let more = one_more within_count at_numbers new xs (take i ys) x y on one in
      let taken : take i ys ++ y ∷ [] ≡ take (i + 1) ys = ap (λ (z : B). take i ys ++ z ∷ []) is ∙
      sym (take_more ys i y here) in
      subst (λ (zs : List A). StandsAs (all_within within_count at_numbers)
      (all_at within_count at_numbers) new zs (take (i + 1) ys)) (sym e)
      (record { within = more.within; is = more.is ∙ taken })

-- ---- terms

-- a frame after the last one is under all the others
pub frames_at-append : (ps : List Body) (frames : List PackedCall) (frame : PackedCall)
    (inner : Term) → frames_at ps (frames ++ frame ∷ []) inner ≡
    frames_at ps frames (term.Frame frame.sym (polys_at ps frame.args) inner)
frames_at-append ps [] frame inner = refl
frames_at-append ps (f ∷ frames) frame inner =
    ap (term.Frame f.sym (polys_at ps f.args)) (frames_at-append ps frames frame inner)

-- the last frame, and what it is over, are what the frames before it are over
pub last_frame : (ps : List Body) (upper further : List PackedCall) (frame : PackedCall)
    (whole : Term) → upper ≡ further ++ frame ∷ [] → frames_within (length ps) upper ≡ true
    → (frames_within (length ps) further ≡ true) ×
    (frames_at ps further (term.Frame frame.sym (polys_at ps frame.args) whole) ≡
    frames_at ps upper whole)
last_frame ps upper further frame whole e within =
    let parts : (frames_within (length ps) further && frames_within (length ps) (frame ∷ [])) ≡
    true =
    sym (list_all-append (call_within (length ps)) further (frame ∷ [])) ∙
    ap (frames_within (length ps)) (sym e) ∙ within in (
      (and_parts _ _ parts).0,
      sym (frames_at-append ps further frame whole) ∙
          ap (λ (fs : List PackedCall). frames_at ps fs whole) (sym e),
    )

-- frames over a term represent a term
abbrev pub FramesOver : Term → List Body → List PackedCall → Term → Type 0
FramesOver inner = StandsAs frames_within (λ ps frames. frames_at ps frames inner)

frames_on : (inner : Term) (old new : List Body) → KeepsNumbers old new →
    (frames : List PackedCall) (whole : Term) → FramesOver inner old frames whole →
    FramesOver inner new frames whole
frames_on inner old new kept frames whole s =
    stands_on frames_within (λ ps fs. frames_at ps fs inner)
    (λ from to k fs t. frames_last from to k fs inner t) old new kept frames whole s

module _ (old new : List Body) (kept : KeepsNumbers old new) (frames : List PackedCall)
    (here whole : Term) (upper : FramesOver here old frames whole) where
  -- over a packed base they make a packed term
  based : (b : PackedBase) → StandsAs base_within base_at new b here →
      StandsAs term_within term_at new (record { frames = frames; base = b }) whole
  based b s =
      let on = frames_on here old new kept frames whole upper in
      record {
        within = and_from _ _ on.within s.within;
        is = ap (frames_at new frames) s.is ∙
            on.is;
      }

  pub over_return : (n : ℕ) (p : Body) → slice_get new n ≡ Some p → here ≡ term.Return p →
      StandsAs term_within term_at new (record { frames = frames; base = base.Return n }) whole
  over_return n p e is =
      let s = numbered new n p e in based (base.Return n)
      (record { within = s.within; is = ap term.Return s.is ∙ sym is })

  pub over_call : (f : Sym) (args : List ℕ) (ps : List Body) →
      StandsAs numbers_within polys_at new args ps → here ≡ term.Call f ps →
      StandsAs term_within term_at new (record
      { frames = frames; base = base.Call (record { sym = f; args = args }) }) whole
  over_call f args ps s is =
      based (base.Call (record { sym = f; args = args }))
      (record { within = s.within; is = ap (term.Call f) s.is ∙ sym is })

  -- with a packed frame after the last one they are over what that frame is over
  pub over_frame : (f : Sym) (args : List ℕ) (ps : List Body) (inner : Term) →
      StandsAs numbers_within polys_at new args ps → here ≡ term.Frame f ps inner
      → (pushed : List PackedCall) → pushed ≡ frames ++ record { sym = f; args = args } ∷ [] →
      FramesOver inner new pushed whole
  over_frame f args ps inner s is pushed e =
      let frame : PackedCall = record { sym = f; args = args } in
      let on = frames_on here old new kept frames whole upper in
      let same : term.Frame f (polys_at new args) inner ≡ here =
      ap (λ (qs : List Body). term.Frame f qs inner) s.is ∙ sym is in
      subst (λ (fs : List PackedCall). FramesOver inner new fs whole) (sym e) (record {
        within =
            list_all-append (call_within (length new)) frames (frame ∷ []) ∙
            and_from _ _ on.within (and_from _ _ s.within refl);
        is = frames_at-append new frames frame inner ∙ ap (frames_at new frames) same ∙ on.is;
      })

-- ---- equations and rules

-- rows represent rows
abbrev pub RowsStand : List Body → List PackedRow → List Row → Type 0
RowsStand = StandsAs rows_within rows_at

-- two terms and rows, packed one after the other
module _ (one two three : List Body) (then_two : KeepsNumbers one two)
    (then_three : KeepsNumbers two three) (e : PackedEquation) (left right : Term) (rows : List Row)
    (l : StandsAs term_within term_at one e.left left)
    (r : StandsAs term_within term_at two e.right right) (s : RowsStand three e.rows rows) where
  left_on : StandsAs term_within term_at three e.left left
  left_on =
      stands_on term_within term_at term_lasts one three
      (λ i p at. then_three i p (then_two i p at)) e.left left l

  right_on : StandsAs term_within term_at three e.right right
  right_on = stands_on term_within term_at term_lasts two three then_three e.right right r

  pub equation_packed : StandsAs equation_within equation_at three e
      (record { left = left; right = right; rows = rows })
  equation_packed = record {
    within = and_from _ _ left_on.within (and_from _ _ right_on.within s.within);
    is = λ i. record { left = left_on.is i; right = right_on.is i; rows = s.is i };
  }

  pub rule_packed : StandsAs equation_within rule_at three e
      (record { left = left; right = right; rows = rows })
  rule_packed = record {
    within = and_from _ _ left_on.within (and_from _ _ right_on.within s.within);
    is = λ i. record { left = left_on.is i; right = right_on.is i; rows = s.is i };
  }

-- ---- states

-- goals, and then hypotheses
pub state_packed : (one two : List Body) → KeepsNumbers one two → (packed : Packed) (state : State)
    → StandsAs equations_within equations_at one packed.goals state.goals
    → StandsAs equations_within rules_at two packed.hypotheses state.hypotheses
    → StandsFor two packed state
state_packed one two kept packed state g h =
    let goals = stands_on equations_within equations_at equations_last one two kept packed.goals
    state.goals g in
    record {
      within = and_from _ _ goals.within h.within;
      is = λ i.
          record { goals = goals.is i; hypotheses = h.is i };
    }

-- Functions that are being compiled one by one: what is there, and what those that are left still
-- decide.
use Rattle.std.proofs.Common.{◌≡◌, ◌∙◌, refl, sym, ap, subst, Bool, true, false, ◌&&◌, ℕ, suc, ◌+◌, ◌<◌, ◌≤◌, Result, List, ◌∷◌, length, drop, get_or, drop_of_length-le, add-one}
use Rattle.std.specs.Prelude.{IsErrAnd, Ok, Err, slice_get}
use Rattle.std.proofs.Math.Seq.{drop-cons}
use Rattle.std.proofs.lemmas.Bool.{and_left}
use Rattle.std.proofs.lemmas.List.{get_or_default}
use Rattle.rx_plain.specs.Formed.{Formed, Forms}
use Rattle.rx_poly.specs.declared.poly_end.PolyEnd.{PolyEnd}
use Rattle.rx_poly.specs.declared.poly_end.PolyEnd.TheVariants.{Large}
use Rattle.c_ast.specs.declared.integers.Integers.{Integers}
use Rattle.c_ast.specs.declared.program.Function.{Function}
use Rattle.rx_code.specs.Pieces.{append_code, no_code}
use Rattle.rx_code.specs.Programs.{place_code, places_code}
use Rattle.rx_code.specs.declared.code.Code.{Code}
use Rattle.rx_exprs.proofs.Following.{append-no_code, append_code_assoc, opened-append}

-- the code of the functions at these places, after other code
abbrev pub after_code : Integers → List Function → List ℕ → Code → Formed Code
after_code integers functions places now = places_code integers functions places (length now.opened)

pub record Placing (integers : Integers) (functions : List Function) (now : Code)
    (rest whole : List ℕ) : Type 0 where
  pub code : append_code now (after_code integers functions rest now).form ≡
      (places_code integers functions whole 0).form
  pub within : (after_code integers functions rest now).within ≡
      (places_code integers functions whole 0).within

no_code_left : (c : Code) → append_code no_code c ≡ c
no_code_left c = refl

pub begin : (integers : Integers) (functions : List Function) (places : List ℕ) →
    Placing integers functions no_code (drop 0 places) places
begin integers functions places =
    record { code = no_code_left (places_code integers functions places 0).form; within = refl }

module _ {integers : Integers} {functions : List Function} {now : Code} (places : List ℕ) (k : ℕ)
    {place : ℕ}
    (h : k < length places) (is : place ≡ get_or places k place)
    (s : Placing integers functions now (drop k places) places) where
  opened : Placing integers functions now (place ∷ drop (suc k) places) places
  opened =
      subst (λ rest. Placing integers functions now rest places)
      (drop-cons places k place h ∙ ap (λ x. x ∷ drop (suc k) places) (sym is)) s

  abbrev piece : Formed Code
  piece = place_code integers place (slice_get functions place) (length now.opened)

  pub none : piece.within ≡ false → (places_code integers functions places 0).within ≡ false
  none large =
      sym opened.within ∙ and_left piece.within
      (places_code integers functions (drop (suc k) places)
      (length now.opened + length piece.form.opened)).within large

  pub next : (new : Code) → new ≡ append_code now piece.form → piece.within ≡ true →
      Placing integers functions new (drop (k + 1) places) places
  next new is_new kept =
      let rest = drop (suc k) places in
      let count : length (append_code now piece.form).opened ≡ length now.opened +
      length piece.form.opened = opened-append now piece.form in
      let after : places_code integers functions rest (length (append_code now piece.form).opened) ≡
      places_code integers functions rest (length now.opened + length piece.form.opened) =
      ap (places_code integers functions rest) count in
      let made : Placing integers functions (append_code now piece.form) rest places =
      record {
        code = ap (λ (c : Formed Code). append_code (append_code now piece.form) c.form) after
            ∙ append_code_assoc now piece.form
            (places_code integers functions rest (length now.opened +
            length piece.form.opened)).form ∙ opened.code;
        within = ap (λ (c : Formed Code). c.within) after
            ∙ sym (ap (λ b. b && (places_code integers functions rest
            (length now.opened + length piece.form.opened)).within) kept) ∙ opened.within;
      }
      in
      subst (λ j. Placing integers functions new (drop j places) places) (sym (add-one k))
      (subst (λ (c : Code). Placing integers functions c rest places) (sym is_new) made)

pub finished : (integers : Integers) (functions : List Function) (now : Code) (places : List ℕ)
    (k : ℕ) → length places ≤ k → Placing integers functions now (drop k places) places
    → (now ≡ (places_code integers functions places 0).form) ×
    ((places_code integers functions places 0).within ≡ true)
finished integers functions now places k h s =
    let all = subst (λ rest. Placing integers functions now rest places)
    (drop_of_length-le places h) s in
    (sym (append-no_code now) ∙ all.code, sym all.within)

-- a call that fails where a part of the whole is too large
pub fails_forms : {A : Type 0} (r : Result A PolyEnd) (part : Bool) (whole : Formed A) →
    IsErrAnd r (λ e. e ≡ Large → part ≡ false) → (part ≡ false → whole.within ≡ false) →
    Forms Large r whole
fails_forms (Ok x) part whole f beyond = absurd f
fails_forms (Err e) part whole f beyond = λ large. beyond (f large)

pub none_read : (integers : Integers) (functions : List Function) (now : Code) (places : List ℕ)
    (k : ℕ) → k <
    length places → Placing integers functions now (drop k places) places
    → (place_code integers (get_or places k 0) (slice_get functions (get_or places k 0))
    (length now.opened)).within ≡ false → (places_code integers functions places 0).within ≡ false
none_read integers functions now places k h s large =
    none places k {place = get_or places k 0} h (get_or_default places k 0 (get_or places k 0) h) s
    large

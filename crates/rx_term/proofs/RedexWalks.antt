-- Walks down a stack to its redex.
use Rattle.std.proofs.Common.{◌≡◌, ◌∙◌, ap, sym, refl, true, false, ℕ, suc, ◌+◌, ◌<◌, Option, Some, None, List, arith}
use Rattle.std.specs.Prelude.{option_and_then}
use Rattle.std.specs.Option.{option_map_or}
use Rattle.rx_poly.specs.declared.body.Body.{Body}
use Rattle.rx_term.specs.Meaning.{redex_of}
use Rattle.rx_term.specs.Stacks.{suffix_at, depth_of, is_redex, is_redex_level, is_result, is_result_level, plug_reversed, redex_place, replace_redex, replace_at, unwind, unwind_level}
use Rattle.rx_term.specs.declared.term.Sym.{Sym}
use Rattle.rx_term.specs.declared.term.Term.{Term, Term-F}
use Rattle.rx_term.specs.declared.term.Term.TheVariants.{Call, Frame, outs-Return, outs-Fail, outs-Call, outs-Frame}
use Rattle.rx_term.proofs.Equations.{Form, AReturn, AFail, ACall, AFrame, form, suffix_at-Frame, depth-Frame, plug_reversed-Frame, redex-Return, redex-Fail, redex-Call, redex-Frame, replace_at-Frame, unwind-Frame}

-- a frame is no result
pub result-Frame : (f : Sym) (ps : List Body) (t : Term) → is_result (Frame f ps t) ≡ false
result-Frame f ps t = ap is_result_level (outs-Frame f ps t)

-- it is a redex where it is over one
pub is-redex-Frame : (f : Sym) (ps : List Body) (t : Term) → is_redex (Frame f ps t) ≡ is_result t
is-redex-Frame f ps t = ap is_redex_level (outs-Frame f ps t)

clash : {A : Type 0} → true ≡ false → A
clash e = cc

-- a result has no redex
result_place : (t : Term) → Form t → is_result t ≡ true → redex_place t ≡ None
result_place _ (AReturn p) h = redex-Return p
result_place _ (AFail c) h = redex-Fail c
result_place _ (ACall f ps) h = clash (sym h ∙ ap is_result_level (outs-Call f ps))
result_place _ (AFrame f ps t) h = clash (sym h ∙ result-Frame f ps t)

-- another term has one, somewhere
going_place : (t : Term) → Form t → is_result t ≡ false → (n : ℕ) × (redex_place t ≡ Some n)
going_place _ (AReturn p) h = clash (sym (ap is_result_level (outs-Return p)) ∙ h)
going_place _ (AFail c) h = clash (sym (ap is_result_level (outs-Fail c)) ∙ h)
going_place _ (ACall f ps) h = (0, redex-Call f ps)
going_place _ (AFrame f ps t) h = (option_map_or (λ n. 1 + n) (redex_place t) 0, redex-Frame f ps t)

-- over a result the frame is the redex
frame_place : (f : Sym) (ps : List Body) (t : Term) → is_result t ≡ true →
    redex_place (Frame f ps t) ≡ Some 0
frame_place f ps t h =
    redex-Frame f ps t ∙ ap (λ (o : Option ℕ). Some (option_map_or (λ n. 1 + n) o 0))
    (result_place t (form t) h)

-- over another term the redex is one frame deeper
inner_place : (f : Sym) (ps : List Body) (t : Term) (n : ℕ) → redex_place t ≡ Some n →
    redex_place (Frame f ps t) ≡ Some (suc n)
inner_place f ps t n e =
    let q : 1 + n ≡ suc n = omega arith in
    redex-Frame f ps t ∙ ap (λ (o : Option ℕ). Some (option_map_or (λ n. 1 + n) o 0)) e ∙ ap Some q

-- ---- the redex

pub redex_of_result : (t : Term) → is_result t ≡ true → redex_of t ≡ None
redex_of_result t h = ap (option_and_then (λ n. suffix_at n t)) (result_place t (form t) h)

at_start : (t : Term) → redex_place t ≡ Some 0 → redex_of t ≡ Some t
at_start t e = ap (option_and_then (λ n. suffix_at n t)) e

redex_place_here : (t : Term) → Form t → is_redex t ≡ true → redex_place t ≡ Some 0
redex_place_here _ (AReturn p) h = clash (sym h ∙ ap is_redex_level (outs-Return p))
redex_place_here _ (AFail c) h = clash (sym h ∙ ap is_redex_level (outs-Fail c))
redex_place_here _ (ACall f ps) h = redex-Call f ps
redex_place_here _ (AFrame f ps t) h = frame_place f ps t (sym (is-redex-Frame f ps t) ∙ h)

-- a redex is its own
pub redex_of_redex : (t : Term) → is_redex t ≡ true → redex_of t ≡ Some t
redex_of_redex t h = at_start t (redex_place_here t (form t) h)

-- a frame over a result is one
pub redex_over_result : (f : Sym) (ps : List Body) (t : Term) → is_result t ≡ true →
    redex_of (Frame f ps t) ≡ Some (Frame f ps t)
redex_over_result f ps t h = at_start (Frame f ps t) (frame_place f ps t h)

-- over another term it is that term's
pub redex_rest : (f : Sym) (ps : List Body) (t : Term) → is_result t ≡ false →
    redex_of (Frame f ps t) ≡ redex_of t
redex_rest f ps t h =
    let (n, e) = going_place t (form t) h in
    ap (option_and_then (λ n. suffix_at n (Frame f ps t))) (inner_place f ps t n e)
    ∙ suffix_at-Frame n f ps t ∙ sym (ap (option_and_then (λ n. suffix_at n t)) e)

-- a call is one, and a term that is no frame and no result is a call
pub redex_of_call : (t : Term) → ((f : Sym) (ps : List Body) (u : Term) → t ≡ Frame f ps u → ⊥) →
    is_result t ≡ false → redex_of t ≡ Some t
redex_of_call t none h = by (form t) none h where
  by : {t : Term} → Form t → ((f : Sym) (ps : List Body) (u : Term) → t ≡ Frame f ps u → ⊥) →
      is_result t ≡ false → redex_of t ≡ Some t
  by (AReturn p) none h = clash (sym (ap is_result_level (outs-Return p)) ∙ h)
  by (AFail c) none h = clash (sym (ap is_result_level (outs-Fail c)) ∙ h)
  by (ACall f ps) none h = at_start (Call f ps) (redex-Call f ps)
  by (AFrame f ps u) none h = absurd (none f ps u refl)

-- a part that has the whole term's redex, and is a result where the whole is one
pub record Finding (here whole : Term) : Type 0 where
  pub redex : redex_of here ≡ redex_of whole
  pub result : is_result here ≡ is_result whole

-- one frame deeper
pub found_in_rest : (f : Sym) (ps : List Body) (here t whole : Term) → here ≡ Frame f ps t →
    is_result t ≡ false → Finding here whole → Finding t whole
found_in_rest f ps here t whole is h s = record {
  redex = sym (redex_rest f ps t h) ∙ ap redex_of (sym is) ∙ s.redex;
  result = h ∙ sym (result-Frame f ps t) ∙ ap is_result (sym is) ∙ s.result;
}

-- ---- another term in its place

pub replace_redex_result : (t inner : Term) → is_result t ≡ true → replace_redex t inner ≡ t
replace_redex_result t inner h =
    ap (λ (o : Option ℕ). option_map_or (λ n. replace_at n t inner) o t) (result_place t (form t) h)

pub replace_redex_here : (t inner : Term) → is_redex t ≡ true → replace_redex t inner ≡ inner
replace_redex_here t inner h =
    ap (λ (o : Option ℕ). option_map_or (λ n. replace_at n t inner) o t)
    (redex_place_here t (form t) h)

pub replace_redex_rest : (f : Sym) (ps : List Body) (t inner : Term) → is_result t ≡ false →
    replace_redex (Frame f ps t) inner ≡ Frame f ps (replace_redex t inner)
replace_redex_rest f ps t inner h =
    let (n, e) = going_place t (form t) h in
    ap (λ (o : Option ℕ). option_map_or (λ n. replace_at n (Frame f ps t) inner) o (Frame f ps t))
    (inner_place f ps t n e)
    ∙ replace_at-Frame n f ps t inner
    ∙ sym (ap (λ (o : Option ℕ). Frame f ps (option_map_or (λ n. replace_at n t inner) o t)) e)

-- ---- frames that are taken over one by one

-- what is left to be done: the frames that were taken, over the rest with its redex replaced, are
-- the whole
pub record Replacing (upper rest inner whole : Term) : Type 0 where
  pub makes : plug_reversed upper (replace_redex rest inner) ≡ whole
  pub going : is_result rest ≡ false

no_part : {A : Type 0} (b : Term) → ◌≡◌ {A = Option Term} None (Some b) → A
no_part b e = absurd (none_some e) where
  none_some : ◌≡◌ {A = Option Term} None (Some b) → ⊥
  none_some e = cc

-- the outermost frame is taken, and the walk goes on below it
pub record Taken (rest upper inner whole below : Term) (next : Term) : Type 0 where
  pub on : Replacing next below inner whole
  pub less : depth_of below < depth_of rest

module _ (inner whole upper below : Term) (r : Term × Option Term) where
  take : (rest : Term) → Form rest → r ≡ unwind rest upper → r.1 ≡ Some below → is_redex rest ≡
      false → Replacing upper rest inner whole → Taken rest upper inner whole below r.0
  take _ (AReturn p) is some h s =
      no_part below (sym (ap (λ (x : Term × Option Term). x.1)
      (is ∙ ap (λ (x : Term-F Term). unwind_level x upper) (outs-Return p))) ∙ some)
  take _ (AFail c) is some h s =
      no_part below (sym (ap (λ (x : Term × Option Term). x.1)
      (is ∙ ap (λ (x : Term-F Term). unwind_level x upper) (outs-Fail c))) ∙ some)
  take _ (ACall f ps) is some h s =
      no_part below (sym (ap (λ (x : Term × Option Term). x.1)
      (is ∙ ap (λ (x : Term-F Term). unwind_level x upper) (outs-Call f ps))) ∙ some)
  take _ (AFrame f ps t) is some h s =
      let e : r ≡ (Frame f ps upper, Some t) = is ∙ unwind-Frame f ps t upper in
      let first : r.0 ≡ Frame f ps upper = ap (λ (p : Term × Option Term). p.0) e in
      let second : Some below ≡ Some t = sym some ∙ ap (λ (p : Term × Option Term). p.1) e in
      let same : below ≡ t = cc in
      let inside : is_result t ≡ false = sym (is-redex-Frame f ps t) ∙ h in
      let deeper = depth-Frame f ps t in
      let level : depth_of below ≡ depth_of t = ap depth_of same in record {
        on = record {
          makes =
              ap (λ (x : Term). plug_reversed x (replace_redex below inner)) first
              ∙ ap (λ (x : Term). plug_reversed (Frame f ps upper) (replace_redex x inner)) same
              ∙ plug_reversed-Frame f ps upper (replace_redex t inner)
              ∙ ap (plug_reversed upper) (sym (replace_redex_rest f ps t inner inside)) ∙
              s.makes;
          going = ap is_result same ∙ inside;
        };
        less = omega (arith, deeper, level);
      }

  pub frame_taken : (rest : Term) → r ≡ unwind rest upper → r.1 ≡ Some below → is_redex rest ≡
      false → Replacing upper rest inner whole → Taken rest upper inner whole below r.0
  frame_taken rest = take rest (form rest)

-- a term that is no result and no redex has a frame to be taken
pub no_frame_taken : (upper rest inner whole : Term) (r : Term × Option Term) → r ≡
    unwind rest upper → r.1 ≡ None → is_redex rest ≡ false → Replacing upper rest inner whole → ⊥
no_frame_taken upper rest inner whole r is none h s = by (form rest) is h s.going where
  some_none : (b : Term) → ◌≡◌ {A = Option Term} (Some b) None → ⊥
  some_none b e = cc

  by : {rest : Term} → Form rest → r ≡ unwind rest upper → is_redex rest ≡ false → is_result rest ≡
      false → ⊥
  by (AReturn p) is h g = clash (sym (ap is_result_level (outs-Return p)) ∙ g)
  by (AFail c) is h g = clash (sym (ap is_result_level (outs-Fail c)) ∙ g)
  by (ACall f ps) is h g = clash (sym (ap is_redex_level (outs-Call f ps)) ∙ h)
  by (AFrame f ps t) is h g =
      some_none t (sym (ap (λ (x : Term × Option Term). x.1) (is ∙ unwind-Frame f ps t upper)) ∙
      none)

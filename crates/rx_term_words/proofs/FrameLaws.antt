-- Frames up to what they are over, and what closes them.
use Rattle.std.proofs.Common.{◌≡◌, ◌∙◌, ap, subst, refl, sym, ℕ, ◌≤◌, true, false, ◌&&◌, List, [], ◌∷◌, ◌++◌, length, drop, Some, None, arith, append_assoc}
use Rattle.std.specs.List.{list_all}
use Rattle.std.proofs.lemmas.Bool.{and_from, and_parts}
use Rattle.std.proofs.lemmas.List.{append-nil, append_cancel_left}
use Rattle.std.proofs.lemmas.List.Concat.{flat_map-append}
use Rattle.std.proofs.lemmas.List.Folds.{list_all-append}
use Rattle.rx_poly.specs.declared.body.Body.{Body}
use Rattle.rx_term.specs.declared.term.Sym.{Sym}
use Rattle.rx_term.specs.declared.term.Term.{Term}
use Rattle.rx_term.specs.declared.term.Term.TheVariants as made
use Rattle.rx_text.specs.Formats.{BeginsWith, IsUnambiguous, Reads, Skips, StandsAt}
use Rattle.rx_term_words.specs.Layers.{Closes, around, closings, frame_layer, is_last, is_readable_frame, is_readable_layer, layer_text, layers, open_terms, openings}
use Rattle.rx_term_words.specs.declared.arguments.Closer.{Closer}
use Rattle.rx_term_words.specs.declared.layers.Layer.{Layer}
use Rattle.rx_term_words.proofs.LayerLaws.{layers_once, none_goes_on}

abbrev Frames : Type 0
Frames = List (Sym × List Body)

last_begins : {bytes left : List ℕ} {last : Layer} → BeginsWith open_terms bytes ([], last) left →
    BeginsWith layers bytes last left
last_begins {bytes} {left} {last} b = record {
  in_range = (and_parts (is_last last) (is_readable_layer last) b.in_range).1;
  text = b.text;
  over = b.over;
}

frame_begins : {bytes left : List ℕ} {f : Sym × List Body} {fs : Frames} {last : Layer} →
    BeginsWith open_terms bytes (f ∷ fs, last) left
    → BeginsWith layers bytes (frame_layer f) (openings fs ++ (layer_text last ++ left))
frame_begins {bytes} {left} {f} {fs} {last} b = record {
  in_range =
      (and_parts (is_readable_frame f) (list_all is_readable_frame fs)
      (and_parts (list_all is_readable_frame (f ∷ fs)) (is_last last && is_readable_layer last)
      b.in_range).0).0;
  text =
      b.text ∙ append_assoc (openings (f ∷ fs)) (layer_text last) left
      ∙ append_assoc (layer_text (frame_layer f)) (openings fs) (layer_text last ++ left);
  over = none_goes_on (openings fs ++ (layer_text last ++ left));
}

further : {bytes rest left : List ℕ} {f : Sym × List Body} {fs : Frames} {last : Layer} →
    BeginsWith open_terms bytes (f ∷ fs, last) left
    → rest ≡ openings fs ++ (layer_text last ++ left) → BeginsWith open_terms rest (fs, last) left
further {bytes} {rest} {left} {f} {fs} {last} b e =
    let parts = and_parts (list_all is_readable_frame (f ∷ fs))
    (is_last last && is_readable_layer last) b.in_range in
    record {
      in_range =
          and_from (list_all is_readable_frame fs) (is_last last && is_readable_layer last)
          (and_parts (is_readable_frame f) (list_all is_readable_frame fs) parts.0).1 parts.1;
      text = e ∙ sym (append_assoc (openings fs) (layer_text last) left);
      over = b.over;
    }

is_its_last : {bytes left : List ℕ} {fs : Frames} {last : Layer} →
    BeginsWith open_terms bytes (fs, last) left → is_last last ≡ true
is_its_last {bytes} {left} {fs} {last} b =
    (and_parts (is_last last) (is_readable_layer last)
    (and_parts (list_all is_readable_frame fs) (is_last last && is_readable_layer last)
    b.in_range).1).0

no_frame : (f : Sym × List Body) (last : Layer) → is_last last ≡ true → frame_layer f ≡ last → ⊥
no_frame f last h e = let g : false ≡ true = ap is_last e ∙ h in cc

abbrev frame_of : Sym × List Body → Layer → Sym × List Body
frame_of other (Layer.Return p) = other
frame_of other (Layer.Fail c) = other
frame_of other (Layer.Applied f ps closer) = (f, ps)

outermost : {start : List ℕ} (bytes : List ℕ) (f : Sym × List Body) (fs : Frames) →
    list_all is_readable_frame (f ∷ fs) ≡ true
    → start ≡ openings (f ∷ fs) ++ bytes → BeginsWith layers start (frame_layer f)
    (openings fs ++ bytes)
outermost {start} bytes f fs h e = record {
  in_range = (and_parts (is_readable_frame f) (list_all is_readable_frame fs) h).0;
  text = e ∙ append_assoc (layer_text (frame_layer f)) (openings fs) bytes;
  over = none_goes_on (openings fs ++ bytes);
}

-- what is left of a term after the frames that were read of it
record Further (frames all : Frames) (last : Layer) (bytes left : List ℕ) : Type 0 where
  pub more : Frames
  pub whole : all ≡ frames ++ more
  pub stands : BeginsWith open_terms bytes (more, last) left

goes_onward : (frames all : Frames) (last : Layer) (start bytes left : List ℕ) →
    list_all is_readable_frame frames ≡ true
    → start ≡ openings frames ++ bytes → BeginsWith open_terms start (all, last) left →
    Further frames all last bytes left
goes_onward [] all last start bytes left h e b = record {
  more = all;
  whole = refl;
  stands = subst (λ (s : List ℕ). BeginsWith open_terms s (all, last) left) e b;
}
goes_onward (f ∷ fs) [] last start bytes left h e b =
    let s = layers_once start (frame_layer f) last (openings fs ++ bytes) left
    (outermost bytes f fs h e) (last_begins b) in
    absurd (no_frame f last (is_its_last b) s.0)
goes_onward (f ∷ fs) (g ∷ gs) last start bytes left h e b =
    let s = layers_once start (frame_layer f) (frame_layer g) (openings fs ++ bytes)
    (openings gs ++ (layer_text last ++ left))
    (outermost bytes f fs h e) (frame_begins b) in
    let inner = goes_onward fs gs last (openings fs ++ bytes) bytes left
    (and_parts (is_readable_frame f) (list_all is_readable_frame fs) h).1 refl (further b s.1) in
    record {
      more = inner.more;
      whole = (λ i. frame_of f (sym s.0 i) ∷ inner.whole i);
      stands = inner.stands;
    }

-- bytes begin with at most one such term
pub open_once : IsUnambiguous open_terms
open_once bytes (fs, x) (gs, y) left right b c =
    let parts = and_parts (list_all is_readable_frame fs) (is_last x && is_readable_layer x)
    b.in_range in
    let f = goes_onward fs gs y bytes (layer_text x ++ left) right parts.0
    (b.text ∙ append_assoc (openings fs) (layer_text x) left) c in
    by f.more f.whole f.stands (and_parts (is_last x) (is_readable_layer x) parts.1).1
  where
    by : (more : Frames) → gs ≡ fs ++ more → BeginsWith open_terms (layer_text x ++ left) (more, y)
        right → is_readable_layer x ≡ true
        → (◌≡◌ {A = List (Sym × List Body) × Layer} (fs, x) (gs, y)) × (left ≡ right)
    by [] w s h =
        let here : BeginsWith layers (layer_text x ++ left) x left =
        record { in_range = h; text = refl; over = none_goes_on left } in
        let t = layers_once (layer_text x ++ left) x y left right here (last_begins s) in
        let same : fs ≡ gs = sym (append-nil fs) ∙ sym w in
        ((λ i. (same i, t.0 i)), t.1)
    by (m ∷ ms) w s h =
        let here : BeginsWith layers (layer_text x ++ left) x left =
        record { in_range = h; text = refl; over = none_goes_on left } in
        let t = layers_once (layer_text x ++ left) x (frame_layer m) left
        (openings ms ++ (layer_text y ++ right)) here (frame_begins s) in
        absurd (no_frame m x (is_its_last b) (sym t.0))

-- ---- frames that were read

pub record FramesSoFar (bytes : List ℕ) (start : ℕ) (frames : Frames) (at : ℕ) : Type 0 where
  pub forward : start ≤ at
  pub readable : list_all is_readable_frame frames ≡ true
  pub text : drop start bytes ≡ openings frames ++ drop at bytes

pub no_frames : (bytes : List ℕ) (start : ℕ) → FramesSoFar bytes start [] start
no_frames bytes start = record { forward = omega arith; readable = refl; text = refl }

pub one_more_frame : (bytes : List ℕ) (start : ℕ) {at next : ℕ} {frames : Frames} {f : Sym}
    {ps : List Body} → FramesSoFar bytes start frames at
    → StandsAt layers bytes at (Layer.Applied f ps Closer.Semicolon) next →
    FramesSoFar bytes start (frames ++ (f, ps) ∷ []) next
one_more_frame bytes start {at} {next} {frames} {f} {ps} s t =
    let one = layer_text (frame_layer (f, ps)) in
    record {
      forward = omega (arith, s.forward, t.forward);
      readable =
          list_all-append is_readable_frame frames ((f, ps) ∷ [])
          ∙ and_from (list_all is_readable_frame frames) (is_readable_frame (f, ps) && true)
          s.readable
          (and_from (is_readable_frame (f, ps)) true t.begins.in_range refl);
      text =
          s.text ∙ ap (λ b. openings frames ++ b) t.begins.text
          ∙ sym (append_assoc (openings frames) one (drop next bytes))
          ∙ ap (λ b. b ++ drop next bytes)
          (ap (λ b. openings frames ++ b) (sym (append-nil one))
          ∙ sym (flat_map-append (λ (g : Sym × List Body). layer_text (frame_layer g)) frames
          ((f, ps) ∷ [])));
    }

pub open_stands : (bytes : List ℕ) (start : ℕ) {at end : ℕ} {frames : Frames} {last : Layer} →
    FramesSoFar bytes start frames at
    → StandsAt layers bytes at last end → is_last last ≡ true →
    StandsAt open_terms bytes start (frames, last) end
open_stands bytes start {at} {end} {frames} {last} s t h = record {
  forward = omega (arith, s.forward, t.forward);
  inside = t.inside;
  begins = record {
    in_range =
        and_from (list_all is_readable_frame frames) (is_last last && is_readable_layer last)
        s.readable
        (and_from (is_last last) (is_readable_layer last) h t.begins.in_range);
    text =
        s.text ∙ ap (λ b. openings frames ++ b) t.begins.text
        ∙ sym (append_assoc (openings frames) (layer_text last) (drop end bytes));
    over = t.begins.over;
  };
}

pub no_layer : (bytes : List ℕ) (start : ℕ) {at : ℕ} {frames : Frames} →
    FramesSoFar bytes start frames at → Reads layers bytes at None
    → Reads open_terms bytes start None
no_layer bytes start {at} {frames} s never (all, last) left b =
    let f = goes_onward frames all last (drop start bytes) (drop at bytes) left s.readable s.text b
    in
    by f.more f.stands
  where
    by : (more : Frames) → BeginsWith open_terms (drop at bytes) (more, last) left → ⊥
    by [] t = never last left (last_begins t)
    by (m ∷ ms) t =
        never (frame_layer m) (openings ms ++ (layer_text last ++ left)) (frame_begins t)

-- ---- what closes frames

-- one bracket goes to the front
pub to_front : (frames : Frames) (rest : List ℕ) → closings frames ++ (41 ∷ rest) ≡ 41 ∷
    (closings frames ++ rest)
to_front [] rest = refl
to_front (f ∷ fs) rest = ap (λ b. 41 ∷ b) (to_front fs rest)

closings_reversed : (outer : Frames) (f : Sym × List Body) (more : Frames) →
    closings (outer ++ f ∷ more) ≡ closings more ++ (41 ∷ closings outer)
closings_reversed [] f more =
    ap (λ b. 41 ∷ b) (sym (append-nil (closings more))) ∙ sym (to_front more [])
closings_reversed (g ∷ outer) f more =
    ap (λ b. 41 ∷ b) (closings_reversed outer f more) ∙ sym (to_front more (41 ∷ closings outer))

pub record ClosedSoFar (bytes : List ℕ) (start : ℕ) (frames : Frames) (inner : Term)
    (outer : Frames) (whole : Term) (at : ℕ) : Type 0 where
  pub more : Frames
  pub all : frames ≡ outer ++ more
  pub built : whole ≡ around more inner
  pub forward : start ≤ at
  pub inside : at ≤ length bytes
  pub text : drop start bytes ≡ closings more ++ drop at bytes

pub none_closed : (bytes : List ℕ) (start : ℕ) (frames : Frames) (inner : Term) → start ≤
    length bytes
    → ClosedSoFar bytes start frames inner frames inner start
none_closed bytes start frames inner h = record {
  more = [];
  all = sym (append-nil frames);
  built = refl;
  forward = omega arith;
  inside = h;
  text = refl;
}

pub one_closed : (bytes : List ℕ) (start : ℕ) {frames outer rest : Frames}
    {inner whole framed : Term} {at next : ℕ} (f : Sym × List Body)
    → ClosedSoFar bytes start frames inner outer whole at → outer ≡ rest ++ f ∷ [] →
    Skips (41 ∷ []) bytes at (Some next)
    → framed ≡ made.Frame f.0 f.1 whole → ClosedSoFar bytes start frames inner rest framed next
one_closed bytes start {frames} {outer} {rest} {inner} {whole} {framed} {at} {next} f s e k is =
    record {
      more = f ∷ s.more;
      all = s.all ∙ ap (λ (o : Frames). o ++ s.more) e ∙ append_assoc rest (f ∷ []) s.more;
      built = is ∙ ap (made.Frame f.0 f.1) s.built;
      forward = omega (arith, s.forward, k.0);
      inside = k.1.0;
      text = s.text ∙ ap (λ b. closings s.more ++ b) k.1.1 ∙ to_front s.more (drop next bytes);
    }

pub not_closed : (bytes : List ℕ) (start : ℕ) {frames outer : Frames} {inner whole : Term} {at : ℕ}
    (rest : Frames) (f : Sym × List Body)
    → ClosedSoFar bytes start frames inner outer whole at → outer ≡ rest ++ f ∷ [] →
    Skips (41 ∷ []) bytes at None
    → Closes frames inner bytes start None
not_closed bytes start {frames} {outer} {inner} {whole} {at} rest f s e never left h =
    let all : frames ≡ rest ++ f ∷ s.more = s.all ∙ ap (λ (o : Frames). o ++ s.more) e ∙
    append_assoc rest (f ∷ []) s.more in
    never (closings rest ++ left)
    (append_cancel_left (closings s.more) (drop at bytes) (41 ∷ (closings rest ++ left))
    (sym s.text ∙ h ∙ ap (λ b. b ++ left) (ap closings all ∙ closings_reversed rest f s.more)
    ∙ append_assoc (closings s.more) (41 ∷ closings rest) left))

pub all_closed : (bytes : List ℕ) (start : ℕ) {frames outer : Frames} {inner whole : Term} {at : ℕ}
    → ClosedSoFar bytes start frames inner outer whole at → outer ≡ [] →
    Closes frames inner bytes start (Some (whole, at))
all_closed bytes start {frames} {outer} {inner} {whole} {at} s e =
    let all : frames ≡ s.more = s.all ∙ ap (λ (o : Frames). o ++ s.more) e in (
      s.built ∙ ap (λ (o : Frames). around o inner) (sym all),
      (
        s.forward,
        (
          s.inside,
          s.text ∙ ap (λ (o : Frames). closings o ++ drop at bytes)
              (sym all),
        ),
      ),
    )

-- A term is its frames around its innermost call or result, and so is its text.
use Rattle.std.proofs.Common.{◌≡◌, ◌∙◌, ap, refl, sym, ℕ, Bool, true, ◌&&◌, List, [], ◌∷◌, ◌++◌, drop, Option, Some, None, arith, append_assoc}
use Rattle.std.specs.List.{list_all}
use Rattle.std.proofs.lemmas.Bool.{and_from, and_parts}
use Rattle.std.proofs.lemmas.List.{append-nil, append_cancel_left}
use Rattle.rx_plain.proofs.Booleans.{and_grouped}
use Rattle.rx_poly.specs.declared.body.Body.{Body}
use Rattle.rx_term.proofs.Equations.{induct}
use Rattle.rx_term.specs.declared.term.Sym.{Sym}
use Rattle.rx_term.specs.declared.term.Term.{Term}
use Rattle.rx_term.specs.declared.term.Term.TheFolds.{fold_out-Term}
use Rattle.rx_term.specs.declared.term.Term.TheVariants as made
use Rattle.rx_text.specs.Formats.{BeginsWith, IsUnambiguous, Reads, StandsAt}
use Rattle.rx_text.specs.Numbers.{natural_text}
use Rattle.rx_text.proofs.Readers.{only_that}
use Rattle.rx_term_words.specs.Layers.{Closes, around, closings, innermost, is_last, is_readable_frame, is_readable_layer, layer_text, open_terms, openings, symbols}
use Rattle.rx_term_words.specs.Terms.{applied_text, closed_terms, is_readable_call, is_readable_level, is_readable_term, polys_text, term_text, term_text_level}
use Rattle.rx_words.specs.Words.{word}
use Rattle.rx_words.specs.Lists.{ending_word}
use Rattle.rx_term_words.specs.declared.arguments.Closer.{Closer}
use Rattle.rx_term_words.specs.declared.layers.Layer.{Layer}
use Rattle.rx_term_words.proofs.FrameLaws.{open_once, to_front}
use Rattle.rx_words.proofs.Joined.{word_once, word_reads}
use Rattle.rx_term_words.proofs.LayerLaws.{none_goes_on}

abbrev Frames : Type 0
Frames = List (Sym × List Body)

applied_is : (f : Sym) (ps : List Body) (rest : List ℕ) → applied_text f ps ++ rest ≡
    symbols.text f.0 ++ (polys_text ps ++ rest)
applied_is f ps rest =
    ap (λ b. 115 ∷ b) (append_assoc (natural_text f.0) (40 ∷ polys_text ps) rest ∙
    sym (append_assoc (natural_text f.0) (40 ∷ []) (polys_text ps ++ rest)))

pub frame_text : (f : Sym) (ps : List Body) (t : Term) → term_text (made.Frame f ps t) ≡
    applied_text f ps ++ (59 ∷ (term_text t ++ 41 ∷ []))
frame_text f ps t =
    fold_out-Term (List ℕ) term_text_level (made.Frame f ps t) ∙ rw (made.outs-Frame f ps t) refl

frame_readable : (f : Sym) (ps : List Body) (t : Term) → is_readable_term (made.Frame f ps t) ≡
    (is_readable_call f ps && is_readable_term t)
frame_readable f ps t =
    fold_out-Term Bool is_readable_level (made.Frame f ps t) ∙ rw (made.outs-Frame f ps t) refl

innermost_text : (last : Layer) → is_last last ≡ true → term_text (innermost last) ≡ layer_text last
innermost_text (Layer.Return p) h =
    fold_out-Term (List ℕ) term_text_level (made.Return p) ∙ rw (made.outs-Return p) refl
innermost_text (Layer.Fail c) h =
    fold_out-Term (List ℕ) term_text_level (made.Fail c) ∙ rw (made.outs-Fail c) refl
innermost_text (Layer.Applied f ps Closer.Semicolon) h = absurd cc
innermost_text (Layer.Applied f ps Closer.Parenthesis) h =
    fold_out-Term (List ℕ) term_text_level (made.Call f ps) ∙
    rw (made.outs-Call f ps) (applied_is f ps (41 ∷ []))

innermost_readable : (last : Layer) → is_readable_term (innermost last) ≡ is_readable_layer last
innermost_readable (Layer.Return p) =
    fold_out-Term Bool is_readable_level (made.Return p) ∙ rw (made.outs-Return p) refl
innermost_readable (Layer.Fail c) =
    fold_out-Term Bool is_readable_level (made.Fail c) ∙ rw (made.outs-Fail c) refl
innermost_readable (Layer.Applied f ps closer) =
    fold_out-Term Bool is_readable_level (made.Call f ps) ∙ rw (made.outs-Call f ps) refl

-- the text of frames around a term
around_text : (fs : Frames) (t : Term) → term_text (around fs t) ≡ openings fs ++
    (term_text t ++ closings fs)
around_text [] t = sym (append-nil (term_text t))
around_text (f ∷ fs) t =
    let s = symbols.text f.0.0 in
    let p = polys_text f.1 in
    let o = openings fs in
    let x = term_text t in
    let c = closings fs in
    let inner : term_text (around fs t) ++ (41 ∷ []) ≡ o ++ (x ++ (41 ∷ c)) =
    ap (λ b. b ++ (41 ∷ [])) (around_text fs t) ∙ append_assoc o (x ++ c) (41 ∷ []) ∙
    ap (λ b. o ++ b) (append_assoc x c (41 ∷ []))
    ∙ ap (λ b. o ++ (x ++ b)) (to_front fs [] ∙ ap (λ b. 41 ∷ b) (append-nil c)) in
    let after = o ++ (x ++ (41 ∷ c)) in
    frame_text f.0 f.1 (around fs t) ∙ applied_is f.0 f.1
    (59 ∷ (term_text (around fs t) ++ 41 ∷ []))
    ∙ ap (λ b. s ++ (p ++ (59 ∷ b))) inner
    ∙ ap (λ b. s ++ b) (sym (append_assoc p (59 ∷ []) after))
    ∙ sym (append_assoc s (p ++ 59 ∷ []) after)
    ∙ sym (append_assoc (s ++ (p ++ 59 ∷ [])) o (x ++ (41 ∷ c)))

around_readable : (fs : Frames) (t : Term) → is_readable_term (around fs t) ≡
    (list_all is_readable_frame fs && is_readable_term t)
around_readable [] t = refl
around_readable (f ∷ fs) t =
    frame_readable f.0 f.1 (around fs t) ∙ ap (λ b. is_readable_frame f && b) (around_readable fs t)
    ∙ and_grouped (is_readable_frame f) (list_all is_readable_frame fs) (is_readable_term t)

-- each term is some frames around a call or result
record Parted (t : Term) : Type 0 where
  pub frames : Frames
  pub last : Layer
  pub is_end : is_last last ≡ true
  pub whole : around frames (innermost last) ≡ t

each_parted : (t : Term) → Parted t
each_parted =
    induct Parted
    (λ p. record { frames = []; last = Layer.Return p; is_end = refl; whole = refl })
    (λ c. record { frames = []; last = Layer.Fail c; is_end = refl; whole = refl })
    (λ f ps. record {
      frames = [];
      last = Layer.Applied f ps Closer.Parenthesis;
      is_end = refl;
      whole = refl;
    })
    (λ f ps t inner. record {
      frames = (f, ps) ∷ inner.frames;
      last = inner.last;
      is_end =
          inner.is_end;
      whole = ap (made.Frame f ps) inner.whole;
    })

parted_text : (fs : Frames) (last : Layer) (left : List ℕ) → is_last last ≡ true
    → term_text (around fs (innermost last)) ++ left ≡ (openings fs ++ layer_text last) ++
    (closings fs ++ left)
parted_text fs last left h =
    ap (λ b. b ++ left) (around_text fs (innermost last) ∙
    ap (λ b. openings fs ++ (b ++ closings fs)) (innermost_text last h))
    ∙ ap (λ b. b ++ left) (sym (append_assoc (openings fs) (layer_text last) (closings fs)))
    ∙ append_assoc (openings fs ++ layer_text last) (closings fs) left

parted_readable : (fs : Frames) (last : Layer) → is_readable_term (around fs (innermost last)) ≡
    (list_all is_readable_frame fs && is_readable_layer last)
parted_readable fs last =
    around_readable fs (innermost last) ∙ ap (λ b. list_all is_readable_frame fs && b)
    (innermost_readable last)

opens : {bytes left : List ℕ} {t : Term} (p : Parted t) → BeginsWith closed_terms bytes t left
    → BeginsWith open_terms bytes (p.frames, p.last) (closings p.frames ++ left)
opens {bytes} {left} {t} p b =
    let parts = and_parts (list_all is_readable_frame p.frames) (is_readable_layer p.last)
    (sym (parted_readable p.frames p.last) ∙ ap is_readable_term p.whole ∙ b.in_range) in
    record {
      in_range =
          and_from (list_all is_readable_frame p.frames)
          (is_last p.last && is_readable_layer p.last) parts.0
          (and_from (is_last p.last) (is_readable_layer p.last) p.is_end parts.1);
      text =
          b.text ∙ ap (λ (u : Term). term_text u ++ left) (sym p.whole) ∙
          parted_text p.frames p.last left p.is_end;
      over = none_goes_on (closings p.frames ++ left);
    }

-- bytes begin with the text of at most one term
pub closed_once : IsUnambiguous closed_terms
closed_once bytes t u left right b c =
    let p = each_parted t in
    let q = each_parted u in
    let s = open_once bytes (p.frames, p.last) (q.frames, q.last) (closings p.frames ++ left)
    (closings q.frames ++ right) (opens p b) (opens q c) in (
      sym p.whole ∙ (λ i. around (s.0 i).0 (innermost (s.0 i).1)) ∙ q.whole,
      append_cancel_left (closings p.frames) left right
          (s.1 ∙ (λ i. closings (sym s.0 i).0 ++ right)),
    )

pub no_open : (bytes : List ℕ) (at : ℕ) → Reads open_terms bytes at None →
    Reads closed_terms bytes at None
no_open bytes at never t left b =
    let p = each_parted t in never (p.frames, p.last) (closings p.frames ++ left) (opens p b)

no_closing : (bytes : List ℕ) (at : ℕ) {middle : ℕ} {frames : Frames} {last : Layer} →
    StandsAt open_terms bytes at (frames, last) middle
    → Closes frames (innermost last) bytes middle None → Reads closed_terms bytes at None
no_closing bytes at s h t left b =
    let p = each_parted t in
    let same = only_that open_once s (opens p b) in
    h left (same.1 ∙ (λ i. closings (sym same.0 i).0 ++ left))

-- what was closed is the term that is there
pub reads_closed : (bytes : List ℕ) (at : ℕ) {middle : ℕ} {frames : Frames} {last : Layer}
    {inner : Term} → StandsAt open_terms bytes at (frames, last) middle
    → inner ≡ innermost last → (r : Option (Term × ℕ)) → Closes frames inner bytes middle r →
    Reads closed_terms bytes at r
reads_closed bytes at s is None h = no_closing bytes at s h
reads_closed bytes at {middle} {frames} {last} s is (Some r) h =
    let parts = and_parts (list_all is_readable_frame frames)
    (is_last last && is_readable_layer last) s.begins.in_range in
    let inner = and_parts (is_last last) (is_readable_layer last) parts.1 in
    let whole : r.0 ≡ around frames (innermost last) = h.0 ∙ ap (around frames) is in
    record {
      forward = omega (arith, s.forward, h.1.0);
      inside = h.1.1.0;
      begins = record {
        in_range =
            ap is_readable_term whole ∙ parted_readable frames last
            ∙ and_from (list_all is_readable_frame frames) (is_readable_layer last) parts.0 inner.1;
        text =
            s.begins.text ∙ ap (λ b. (openings frames ++ layer_text last) ++ b) h.1.1.1
            ∙ sym (parted_text frames last (drop r.1 bytes) inner.0)
            ∙ ap (λ (u : Term). term_text u ++ drop r.1 bytes) (sym whole);
        over = none_goes_on (drop r.1 bytes);
      };
    }

pub terms_once : IsUnambiguous (word closed_terms)
terms_once = word_once closed_terms refl refl closed_once

pub term_reads : (bytes : List ℕ) (at : ℕ) (r : Option (Term × ℕ)) → Reads closed_terms bytes at r →
    Reads (word closed_terms) bytes at (ending_word bytes r)
term_reads = word_reads closed_terms refl refl closed_once

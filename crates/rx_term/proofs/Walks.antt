-- Walks down a stack, link by link.
use Rattle.std.proofs.Common.{◌≡◌, ◌∙◌, ap, sym, refl, ℕ, zero, suc, ◌+◌, ◌-◌, ◌<◌, Option, Some, None, List, arith}
use Rattle.std.specs.Option.{option_map_or}
use Rattle.std.proofs.lemmas.Option.{none-some}
use Rattle.rx_poly.specs.declared.body.Body.{Body}
use Rattle.rx_term.specs.declared.term.Sym.{Sym}
use Rattle.rx_term.specs.declared.term.Term.{Term, Term-F}
use Rattle.rx_term.specs.declared.term.Term.TheVariants.{Frame, outs-Return, outs-Fail, outs-Call}
use Rattle.rx_term.specs.Stacks.{suffix_at, plug_reversed, redex_place, replace_at, unwind, unwind_level}
use Rattle.rx_term.proofs.Equations.{induct, suffix_at-Frame, plug_reversed-Frame, replace_at-Frame, unwind-Frame, redex-Frame}

-- the part under n frames is that under one less of what the first frame is over
pub suffix_at-frame : (n : ℕ) (f : Sym) (ps : List Body) (t : Term) → 0 < n →
    suffix_at n (Frame f ps t) ≡
    suffix_at (n - 1) t
suffix_at-frame zero f ps t h = absurd (omega arith)
suffix_at-frame (suc n) f ps t h =
    let q : n ≡ suc n - 1 = omega arith in
    suffix_at-Frame n f ps t ∙ ap (λ (k : ℕ). suffix_at k t) q

-- one frame more kept is the frame over one less kept
pub replace_at-frame : (n : ℕ) (f : Sym) (ps : List Body) (t inner : Term) → 0 < n →
    replace_at n (Frame f ps t) inner ≡ Frame f ps (replace_at (n - 1) t inner)
replace_at-frame zero f ps t inner h = absurd (omega arith)
replace_at-frame (suc n) f ps t inner h =
    let q : n ≡ suc n - 1 = omega arith in
    replace_at-Frame n f ps t inner ∙ ap (λ (k : ℕ). Frame f ps (replace_at k t inner)) q

-- a term that is reversed frame by frame has one
abbrev Turns : Term → Type 0
Turns t =
    (n : ℕ) (u b inner : Term) (r : Term × Option Term) → 0 < n → r ≡ unwind t u → r.1 ≡ Some b
    → plug_reversed r.0 (replace_at (n - 1) b inner) ≡ plug_reversed u (replace_at n t inner)

turns-Frame : (f : Sym) (ps : List Body) (t : Term) → Turns t → Turns (Frame f ps t)
turns-Frame f ps t further n u b inner r h is some =
    let e : r ≡ (Frame f ps u, Some t) = is ∙ unwind-Frame f ps t u in
    let first : r.0 ≡ Frame f ps u = ap (λ (p : Term × Option Term). p.0) e in
    let second : Some b ≡ Some t = sym some ∙ ap (λ (p : Term × Option Term). p.1) e in
    let same : b ≡ t = cc in
    let left = plug_reversed-Frame f ps u (replace_at (n - 1) t inner) in
    let right = replace_at-frame n f ps t inner h in
    ap (λ (x : Term). plug_reversed x (replace_at (n - 1) b inner)) first ∙
    ap (λ (x : Term). plug_reversed (Frame f ps u) (replace_at (n - 1) x inner)) same ∙ left ∙
    ap (plug_reversed u) (sym right)

-- what was reversed is over the rest as it was before
pub unwind-on : (t : Term) → Turns t
unwind-on = induct Turns
    (λ p n u b inner r h is some. absurd (none-some b
    (sym (ap (λ (x : Term × Option Term). x.1)
    (is ∙ ap (λ (x : Term-F Term). unwind_level x u) (outs-Return p))) ∙ some)))
    (λ c n u b inner r h is some. absurd (none-some b
    (sym (ap (λ (x : Term × Option Term). x.1)
    (is ∙ ap (λ (x : Term-F Term). unwind_level x u) (outs-Fail c))) ∙ some)))
    (λ f ps n u b inner r h is some. absurd (none-some b
    (sym (ap (λ (x : Term × Option Term). x.1)
    (is ∙ ap (λ (x : Term-F Term). unwind_level x u) (outs-Call f ps))) ∙ some)))
    turns-Frame

-- the redex's place, where n frames are over the term
abbrev pub rest_in : ℕ → Option ℕ → Option ℕ
rest_in zero r = r
rest_in (suc n) None = Some n
rest_in (suc n) (Some k) = Some (suc n + k)

pub rest-none : (n : ℕ) → 0 < n → rest_in n None ≡ Some (n - 1)
rest-none zero h = absurd (omega arith)
rest-none (suc n) h = let q : n ≡ suc n - 1 = omega arith in ap Some q

pub rest-here : (n : ℕ) → rest_in n (Some 0) ≡ Some n
rest-here zero = refl
rest-here (suc n) = let q : suc n + 0 ≡ suc n = omega arith in ap Some q

rest-more : (n : ℕ) (r : Option ℕ) → rest_in n (Some (option_map_or (λ k. 1 + k) r 0)) ≡
    rest_in (suc n) r
rest-more zero None = refl
rest-more zero (Some k) = refl
rest-more (suc n) None = let q : suc n + 0 ≡ suc n = omega arith in ap Some q
rest-more (suc n) (Some k) = let q : suc n + (1 + k) ≡ suc (suc n) + k = omega arith in ap Some q

-- one frame deeper
pub rest-frame : (n : ℕ) (f : Sym) (ps : List Body) (t : Term) →
    rest_in n (redex_place (Frame f ps t)) ≡ rest_in (n + 1) (redex_place t)
rest-frame n f ps t =
    let q : suc n ≡ n + 1 = omega arith in
    ap (rest_in n) (redex-Frame f ps t) ∙ rest-more n (redex_place t) ∙
    ap (λ (k : ℕ). rest_in k (redex_place t)) q

-- Frames over a term: the last of them is put over it first.
use Rattle.std.proofs.Common.{◌≡◌, ◌∙◌, ap, refl, subst, sym, ℕ, ◌+◌, ◌<◌, ◌^◌, List, [], ◌∷◌, ◌++◌, length, arith}
use Rattle.std.proofs.lemmas.List.{length-append}
use Rattle.rx_poly.specs.declared.body.Body.{Body}
use Rattle.rx_term.specs.Variables.{arguments_of}
use Rattle.rx_term.proofs.Equations.{arguments-Frame}
use Rattle.rx_term.specs.declared.term.Sym.{Sym}
use Rattle.rx_term.specs.declared.term.Term.{Term}
use Rattle.rx_term.specs.declared.term.Term.TheVariants.{Frame, outs-Frame}
use Rattle.rx_term.specs.declared.term.Term.TheFolds.{fold_out-Term}
use Rattle.rx_shapes.specs.Building.{over_frames}
use Rattle.rx_shapes.specs.General.{general_from, general_level, open_frame, variables_from}
use Rattle.rx_shapes.specs.declared.general.OpenFrame.{OpenFrame}

pub over_last : (fs : List OpenFrame) (f : OpenFrame) (t : Term) →
    over_frames (fs ++ f ∷ []) t ≡ over_frames fs (Frame f.symbol f.arguments t)
over_last [] f t = refl
over_last (g ∷ fs) f t = ap (λ u. Frame g.symbol g.arguments u) (over_last fs f t)

-- what is inside a frame has as many places less
pub inside_few : (x n : ℕ) (f : Sym) (ps : List Body) (inner t u : Term) → t ≡ Frame f ps inner →
    n ≡ length ps → u ≡ inner → x + length (arguments_of t) < 2 ^ 32 →
    x + n + length (arguments_of u) < 2 ^ 32
inside_few x n f ps inner t u is count same few =
    let here = subst (λ s. x + length (arguments_of s) < 2 ^ 32) is few in
    let both : x + (length ps + length (arguments_of inner)) < 2 ^ 32 =
    subst (λ k. x + k < 2 ^ 32)
    (ap length (arguments-Frame f ps inner) ∙ length-append ps (arguments_of inner)) here in
    subst (λ k. x + k + length (arguments_of u) < 2 ^ 32) (sym count)
    (subst (λ s. x + length ps + length (arguments_of s) < 2 ^ 32) (sym same)
    (let few : x + length ps + length (arguments_of inner) < 2 ^ 32 = omega arith in few))

-- the general term of a frame
pub general-Frame : (x : ℕ) (f : Sym) (ps : List Body) (t : Term) → general_from x (Frame f ps t) ≡
    Frame f (variables_from x ps) (general_from (x + length ps) t)
general-Frame x f ps t =
    ap (λ (g : ℕ → Term). g x) (fold_out-Term (ℕ → Term) general_level (Frame f ps t)) ∙
    rw (outs-Frame f ps t) refl

-- one frame further: the frames with this one, over what is inside it
pub one_further : (fs : List OpenFrame) (x n : ℕ) (f : Sym) (ps : List Body)
    (inner t u : Term) → t ≡ Frame f ps inner → n ≡ length ps → u ≡ inner →
    over_frames (fs ++ open_frame f x ps ∷ []) (general_from (x + n) u) ≡
    over_frames fs (general_from x t)
one_further fs x n f ps inner t u is count same =
    over_last fs (open_frame f x ps) (general_from (x + n) u) ∙
    ap (over_frames fs)
    (ap (λ k. Frame f (variables_from x ps) (general_from (x + k) u)) count ∙
    ap (λ v. Frame f (variables_from x ps) (general_from (x + length ps) v)) same ∙
    sym (general-Frame x f ps inner) ∙ ap (general_from x) (sym is))

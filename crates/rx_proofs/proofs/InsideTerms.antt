-- Parts of terms that are inside the domains, and what may stand in their place.
use Rattle.std.proofs.Common.{◌≡◌, ℕ, Some, List, [], ◌∷◌, sym, ap, subst, ◌∙◌, ℤ}
use Rattle.rx_poly.specs.declared.body.Body.{Body}
use Rattle.rx_rewriting.specs.Terms.{Ground, StackFrame, in_context}
use Rattle.rx_term.specs.Domains.{IsInside}
use Rattle.rx_term.specs.Meaning.{ground_at, outer_frames, values}
use Rattle.rx_term.specs.Stacks.{suffix_at, replace_at}
use Rattle.rx_term.specs.declared.rule_set.RuleParts.{RuleParts}
use Rattle.rx_term.specs.declared.term.Sym.{Sym}
use Rattle.rx_term.specs.declared.term.Term.{Term}
use Rattle.rx_term.specs.declared.term.Term.TheVariants.{Frame}
use Rattle.rx_term.proofs.Equations.{ground-Frame}
use Rattle.rx_term.proofs.RedexLaws.{ground_after, ground_replaced}
use Rattle.rx_domain.proofs.Inside.{inside_exchange, inside_inner}

module _ (parts : RuleParts) where
  -- what is under frames is inside
  under_frames : (fs : List StackFrame) (s : Ground) → IsInside parts (in_context fs s) →
      IsInside parts s
  under_frames [] s inside = inside
  under_frames (f ∷ fs) s inside =
      under_frames fs s (inside_inner parts f.symbol f.arguments (in_context fs s) inside)

  -- and another term that is inside may be there
  exchanged : (fs : List StackFrame) (s t : Ground) → IsInside parts (in_context fs s) →
      IsInside parts t → IsInside parts (in_context fs t)
  exchanged [] s t whole new = new
  exchanged (f ∷ fs) s t whole new =
      inside_exchange parts f.symbol f.arguments (in_context fs s) (in_context fs t) whole
      (exchanged fs s t (inside_inner parts f.symbol f.arguments (in_context fs s) whole) new)

  module _ (a : ℕ → ℤ) where
    -- the part under outer frames
    pub inside_after : (n : ℕ) (t s : Term) → suffix_at n t ≡ Some s →
        IsInside parts (ground_at a t) → IsInside parts (ground_at a s)
    inside_after n t s stands inside =
        under_frames (outer_frames a n t) (ground_at a s)
        (subst (IsInside parts) (ground_after a n t s stands) inside)

    -- and what replaces it
    pub inside_replaced : (n : ℕ) (t s new : Term) → suffix_at n t ≡ Some s →
        IsInside parts (ground_at a t) → IsInside parts (ground_at a new) →
        IsInside parts (ground_at a (replace_at n t new))
    inside_replaced n t s new stands inside new_inside =
        subst (IsInside parts) (sym (ground_replaced a n t new))
        (exchanged (outer_frames a n t) (ground_at a s) (ground_at a new)
        (subst (IsInside parts) (ground_after a n t s stands) inside) new_inside)

    -- the term that a frame is over
    pub inside_frame : (f : Sym) (ps : List Body) (inner t : Term) → t ≡ Frame f ps inner →
        IsInside parts (ground_at a t) → IsInside parts (ground_at a inner)
    inside_frame f ps inner t is inside =
        inside_inner parts f.0 (values a ps) (ground_at a inner)
        (subst (IsInside parts) (ap (ground_at a) is ∙ ground-Frame a f ps inner) inside)

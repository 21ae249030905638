-- Two names have at most one pair of functions in a text, and none where the text is refused.
use Rattle.std.proofs.Common.{◌≡◌, ℕ, List, slice_get, sym, ap, ◌∙◌}
use Rattle.c_ast.specs.declared.integers.Integers.{Integers}
use Rattle.c_ast.specs.declared.program.Function.{Function}
use Rattle.c_front.specs.declared.pairs.TwoFunctions.{TwoFunctions}
use Rattle.c_front.specs.declared.refusals.Refusal.{Refusal}
use Rattle.c_front.specs.declared.stages.Next.TheVariants.{Ends, Goes}
use Rattle.c_front.specs.Front.{front}
use Rattle.c_front.specs.FrontEnd.{AreComparable}
use Rattle.c_front.proofs.OneFront.{one_front}
use Rattle.c_front.proofs.Options.{same_some}
use Rattle.c_front.proofs.Readings.{front_of}

module _ (integers : Integers) (source first second : List ℕ) where
  -- a text with two functions of equally many parameters isn't refused
  pub comparable_unrefused : (refusal : Refusal) (two : TwoFunctions) (f g : Function) →
      front integers source first second (Ends refusal) →
      AreComparable integers source first second two f g → ⊥
  comparable_unrefused refusal two f g refused are =
      one_front integers source first second (Ends refusal) (Goes two) refused
      (front_of integers source first second (Goes two) (f, g, are))

  -- two names have one pair of functions
  pub one_pair : (m n : TwoFunctions) (f g h k : Function) →
      AreComparable integers source first second m f g →
      AreComparable integers source first second n h k → (m ≡ n) ×
      (f ≡ h) × (g ≡ k)
  one_pair m n f g h k a b =
      let whole : m ≡ n = one_front integers source first second (Goes m) (Goes n)
      (front_of integers source first second (Goes m) (f, g, a))
      (front_of integers source first second (Goes n) (h, k, b)) in
      let lefts : f ≡ h = same_some (sym (ap (λ (o : TwoFunctions).
      slice_get o.program.functions o.first) whole) ∙ a.are_named.is_left) b.are_named.is_left
      in
      let rights : g ≡ k = same_some (sym (ap
      (λ (o : TwoFunctions). slice_get o.program.functions o.second) whole) ∙
      a.are_named.is_right) b.are_named.is_right in
      (whole, lefts, rights)

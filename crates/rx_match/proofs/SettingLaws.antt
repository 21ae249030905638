-- A variable that is set has its place by its number.
use Rattle.std.proofs.Common.{◌≡◌, ap, refl, cond, ℕ, suc, ◌≤◌, Bool, true, false, List, [], ◌∷◌, length, arith}
use Rattle.std.specs.Prelude.{nat_le}
use Rattle.std.specs.List.{insert}
use Rattle.rx_poly.specs.declared.body.Body.{Body}
use Rattle.rx_match.specs.Settings.{place_for, set_to}

module _ (x : ℕ) where
  -- the place is in the list, or at its end
  place_within : (b : Bool) (n m : ℕ) → n ≤ m → cond b 0 (suc n) ≤ suc m
  place_within true n m h = omega arith
  place_within false n m h = omega arith

  pub place_for-le : (ws : List (ℕ × Body)) → place_for x ws ≤ length ws
  place_for-le [] = omega arith
  place_for-le (w ∷ ws) = place_within (nat_le x w.0) (place_for x ws) (length ws) (place_for-le ws)

  -- the polynomial is written at that place
  put_at : (b : Bool) (p : Body) (w : ℕ × Body) (ws : List (ℕ × Body)) →
      insert ws (place_for x ws) (x, p) ≡ set_to x p ws
      → insert (w ∷ ws) (cond b 0 (suc (place_for x ws))) (x, p) ≡
      cond b ((x, p) ∷ w ∷ ws) (w ∷ set_to x p ws)
  put_at true p w ws h = refl
  put_at false p w ws h = ap (λ vs. w ∷ vs) h

  pub set_to-insert : (p : Body) (ws : List (ℕ × Body)) → insert ws (place_for x ws) (x, p) ≡
      set_to x p ws
  set_to-insert p [] = refl
  set_to-insert p (w ∷ ws) = put_at (nat_le x w.0) p w ws (set_to-insert p ws)

  -- one more variable is set
  one_more : (b : Bool) (p : Body) (w : ℕ × Body) (ws : List (ℕ × Body)) → length (set_to x p ws) ≡
      suc (length ws)
      → length (cond b ((x, p) ∷ w ∷ ws) (w ∷ set_to x p ws)) ≡ suc (suc (length ws))
  one_more true p w ws h = refl
  one_more false p w ws h = ap suc h

  pub length-set_to : (p : Body) (ws : List (ℕ × Body)) → length (set_to x p ws) ≡ suc (length ws)
  length-set_to p [] = refl
  length-set_to p (w ∷ ws) = one_more (nat_le x w.0) p w ws (length-set_to p ws)

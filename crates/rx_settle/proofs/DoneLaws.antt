-- A value that is there where something was done.
use Rattle.std.proofs.Common.{◌≡◌, sym, subst}
use Rattle.std.specs.Prelude.{IfOk, OnErr, OnOk, Result, Ok, Err}
use Rattle.std.specs.Result.{result_map_both}

module _ {D T E : Type 0} (value : T) where
  abbrev with_value : Result D E → Result T E
  with_value done = result_map_both (λ (_ : D). value) (λ fault. fault) done

  -- what holds where it was done holds then
  pub done_ok : (P : Type 0) (done : Result D E) (r : Result T E) → r ≡ with_value done
      → OnOk done P → OnOk r P
  done_ok P (Ok x) r is h = subst (λ (r : Result T E). OnOk r P) (sym is) h
  done_ok P (Err e) r is h = subst (λ (r : Result T E). OnOk r P) (sym is) tt

  -- and what holds where it wasn't
  pub done_err : (P : Type 0) (done : Result D E) (r : Result T E) → r ≡ with_value done
      → OnErr done P → OnErr r P
  done_err P (Ok x) r is h = subst (λ (r : Result T E). OnErr r P) (sym is) tt
  done_err P (Err e) r is h = subst (λ (r : Result T E). OnErr r P) (sym is) h

  -- the value is that one
  pub done_value : (done : Result D E) (r : Result T E) → r ≡ with_value done → (same : T)
      → value ≡ same → IfOk r (λ x. x ≡ same)
  done_value (Ok x) r is same e = subst (λ (r : Result T E). IfOk r (λ x. x ≡ same)) (sym is) e
  done_value (Err x) r is same e = subst (λ (r : Result T E). IfOk r (λ x. x ≡ same)) (sym is) tt

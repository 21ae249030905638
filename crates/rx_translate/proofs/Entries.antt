-- The entry of a function, sought one entry after another.
use Rattle.std.proofs.Common.{◌≡◌, ◌∙◌, refl, sym, ap, subst, false, true, cond, ℕ, suc, ◌+◌, ◌==◌, ◌<◌, ◌≤◌, List, ◌∷◌, length, drop, get_or, drop_of_length-le, add-one}
use Rattle.std.proofs.Math.Seq.{drop-cons}
use Rattle.rx_code.specs.Programs.{entry_of}

-- those that are left decide
pub record Seeking (f : ℕ) (rest whole : List (ℕ × ℕ)) : Type 0 where
  pub same : entry_of rest f ≡ entry_of whole f

pub begin : (f : ℕ) (es : List (ℕ × ℕ)) → Seeking f (drop 0 es) es
begin f es = record { same = refl }

module _ {f : ℕ} (es : List (ℕ × ℕ)) (k : ℕ) {e : ℕ × ℕ} (h : k < length es)
    (is : e ≡ get_or es k e) (s : Seeking f (drop k es) es) where
  opened : entry_of (e ∷ drop (suc k) es) f ≡ entry_of es f
  opened =
      (subst (λ rest. Seeking f rest es) (drop-cons es k e h ∙
      ap (λ x. x ∷ drop (suc k) es) (sym is)) s).same

  pub found : (e.0 == f) ≡ true → e.1 ≡ entry_of es f
  found same = sym (ap (λ b. cond b e.1 (entry_of (drop (suc k) es) f)) same) ∙ opened

  pub next : (e.0 == f) ≡ false → Seeking f (drop (k + 1) es) es
  next other =
      subst (λ j. Seeking f (drop j es) es) (sym (add-one k))
      (record { same = sym (ap (λ b. cond b e.1 (entry_of (drop (suc k) es) f)) other) ∙ opened })

pub finished : (f : ℕ) (es : List (ℕ × ℕ)) (k : ℕ) → length es ≤ k → Seeking f (drop k es) es → 0 ≡
    entry_of es f
finished f es k h s = (subst (λ rest. Seeking f rest es) (drop_of_length-le es h) s).same

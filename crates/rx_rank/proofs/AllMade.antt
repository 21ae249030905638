-- What comes of one component more decides, or leaves it to the components after it.
use Rattle.std.proofs.Common.{◌≡◌, ◌∙◌, ap, sym, refl, Bool, ◌||◌, Option, Some, None, List, [], ◌∷◌, ◌++◌, append_assoc, append-nil}
use Rattle.std.specs.Option.{option_map}
use Rattle.rx_plain.proofs.Booleans.{or_assoc, or_false}
use Rattle.rx_solve.specs.Attempts.{Tried}
use Rattle.rx_rank.specs.Tries.{after, all_made, made_then, noting}

module _ {A : Type 0} (noted : Bool) (done : List A) (whole : Tried (List A)) where
  after_twice : (xs : List A) (o : Option (List A)) → option_map (λ ys. (done ++ xs) ++ ys) o ≡
      option_map (λ ys. done ++ ys) (option_map (λ ys. xs ++ ys) o)
  after_twice xs None = refl
  after_twice xs (Some ys) = ap Some (append_assoc done xs ys)

  made_next : (m : Option (List A)) (k : Bool) (rest : Tried (List A)) →
      noting noted (after done (made_then m k (λ xs. after xs rest))) ≡ whole
      → (more : List A) (n : Bool) → record { made = Some more; noted = n } ≡
      after done (record { made = m; noted = k }) → noting (noted || n) (after more rest) ≡
      whole
  made_next None k rest is more n e = let wrong = ap (λ (t : Tried (List A)). t.made) e in cc
  made_next (Some xs) k rest is more n e =
      let made : Some more ≡ Some (done ++ xs) = ap (λ (t : Tried (List A)). t.made) e in
      let same : more ≡ done ++ xs = cc in
      let also : n ≡ k = ap (λ (t : Tried (List A)). t.noted) e in
      (λ i. record {
        made = option_map (λ ys. same i ++ ys) rest.made;
        noted = (noted || also i) ||
            rest.noted;
      })
      ∙ (λ i. record { made = after_twice xs rest.made i; noted = or_assoc noted k rest.noted i })
      ∙ is

  none_next : (m : Option (List A)) (k : Bool) (rest : Tried (List A)) →
      noting noted (after done (made_then m k (λ xs. after xs rest))) ≡ whole
      → (n : Bool) → record { made = None; noted = n } ≡
      after done (record { made = m; noted = k }) → record { made = None; noted = noted || n } ≡
      whole
  none_next None k rest is n e =
      (λ i. record { made = None; noted = noted || ap (λ (t : Tried (List A)). t.noted) e i }) ∙ is
  none_next (Some xs) k rest is n e = let wrong = ap (λ (t : Tried (List A)). t.made) e in cc

  module _ (first : Tried (List A)) (tries : List (Tried (List A)))
      (is : noting noted (after done (all_made (first ∷ tries))) ≡ whole) where
    -- it makes something
    pub component_made : (more : List A) (n : Bool) → record { made = Some more; noted = n } ≡
        after done first → noting (noted || n) (after more (all_made tries)) ≡ whole
    component_made = made_next first.made first.noted (all_made tries) is

    -- it doesn't
    pub component_failed : (n : Bool) → record { made = None; noted = n } ≡ after done first →
        record { made = None; noted = noted || n } ≡ whole
    component_failed = none_next first.made first.noted (all_made tries) is

  -- no component is left
  pub no_component : noting noted (after done (all_made [])) ≡ whole →
      record { made = Some done; noted = noted } ≡ whole
  no_component is =
      (λ i. record { made = Some (sym (append-nil done) i); noted = sym (or_false noted) i }) ∙ is

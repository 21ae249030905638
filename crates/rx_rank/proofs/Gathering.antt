-- Candidates that are gathered: those so far, and what is left to try.
use Rattle.std.proofs.Common.{◌≡◌, ◌∙◌, ap, sym, refl, Bool, false, ◌||◌, List, [], ◌∷◌, ◌++◌}
use Rattle.std.specs.List.{fold}
use Rattle.std.proofs.lemmas.List.Elements.{filter_map-append}
use Rattle.std.proofs.lemmas.List.Folds.{list_any-append}
use Rattle.rx_plain.proofs.Booleans.{or_false, or_grouped}
use Rattle.rx_poly.specs.declared.body.Body.{Body}
use Rattle.rx_solve.specs.Attempts.{Tried, applying, is_noted}
use Rattle.rx_rank.specs.Answers.{Gathers}
use Rattle.rx_rank.specs.Candidates.{with_candidate}

pub fold-append : {A B : Type 0} (f : B → A → B) (a : B) (xs ys : List A) → fold f a (xs ++ ys) ≡
    fold f (fold f a xs) ys
fold-append f a [] ys = refl
fold-append f a (x ∷ xs) ys = fold-append f (f a x) xs ys

-- the candidates so far, with those that the rest makes, are those of the whole
pub record Gathering (before done : List Body) (noted : Bool) (rest whole : List (Tried Body)) :
    Type 0 where
  pub polys : fold with_candidate done (applying rest) ≡ fold with_candidate before (applying whole)
  pub noted_is : (noted || is_noted rest) ≡ is_noted whole

pub begin : (before : List Body) (whole : List (Tried Body)) →
    Gathering before before false whole whole
begin before whole = record { polys = refl; noted_is = refl }

pub after_some : {before done after : List Body} {noted more : Bool}
    (tries rest whole : List (Tried Body))
    → Gathering before done noted (tries ++ rest) whole → Gathers tries done after more →
    Gathering before after (noted || more) rest whole
after_some {before} {done} {after} {noted} {more} tries rest whole g h = record {
  polys =
      ap (λ ps. fold with_candidate ps (applying rest)) h.polys
      ∙ sym (fold-append with_candidate done (applying tries) (applying rest))
      ∙ sym (ap (fold with_candidate done) (filter_map-append (λ (t : Tried Body). t.made) tries
      rest))
      ∙ g.polys;
  noted_is =
      sym (or_grouped noted more (is_noted rest))
      ∙ ap (λ b. noted || (b || is_noted rest)) h.noted_is
      ∙ sym (ap (λ b. noted || b) (list_any-append (λ (t : Tried Body). t.noted) tries rest))
      ∙ g.noted_is;
}

pub finished : {before done : List Body} {noted : Bool} (whole : List (Tried Body)) →
    Gathering before done noted [] whole → Gathers whole before done noted
finished {before} {done} {noted} whole g =
    record { polys = g.polys; noted_is = sym (or_false noted) ∙ g.noted_is }

-- two after each other
pub both_gather : {before done after : List Body} {noted more : Bool}
    (first second : List (Tried Body))
    → Gathers first before done noted → Gathers second done after more →
    Gathers (first ++ second) before after (noted || more)
both_gather {before} {done} {after} {noted} {more} first second g h = record {
  polys = h.polys ∙ ap (λ ps. fold with_candidate ps (applying second)) g.polys
      ∙ sym (fold-append with_candidate before (applying first) (applying second))
      ∙ sym (ap (fold with_candidate before) (filter_map-append (λ (t : Tried Body). t.made) first
      second));
  noted_is =
      (λ i. g.noted_is i || h.noted_is i) ∙ sym
      (list_any-append (λ (t : Tried Body). t.noted) first second);
}

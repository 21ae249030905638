-- The first choice that is fit.
use Rattle.std.proofs.Common.{◌≡◌, ◌∙◌, ap, sym, subst, refl, arith, ℕ, zero, suc, ◌==◌, ◌+◌, ◌<◌, ◌≤◌, Bool, true, false, ◌||◌, List, [], ◌∷◌, ◌++◌, Option, Some, None, Contains, IfSome, drop, length, map, slice_get, take}
use Rattle.std.proofs.lemmas.Bool.Decides.{nat_tests}
use Rattle.std.proofs.lemmas.List.Elements.{Contains-append_left, Contains-append_right}
use Rattle.std.specs.List.{flat_map}
use Rattle.std.specs.Option.{is_some, option_map}
use Rattle.rx_poly.specs.declared.body.Body.{Body}
use Rattle.rx_pairs.specs.declared.pair.Pair.{Pair}
use Rattle.rx_term.specs.declared.rule_set.SymInfo.{SymInfo}
use Rattle.rx_rank.specs.Answers.{IsChosen, IsFirstFit}
use Rattle.rx_term.proofs.Places.{from_nowhere, from_place}
use Rattle.rx_solve.specs.Attempts.{Tried, first_applying, made_or}
use Rattle.rx_rank.proofs.TryLaws.{decided, first_append, first_none, none_made, noted_alone}
use Rattle.rx_rank.specs.Choices.{RankChoice, all_choices, choosing, plain_choice, raised_choices}
use Rattle.rx_rank.specs.Tries.{noting}
use Rattle.rx_rank.specs.declared.fitting.Fit.{Fit}

-- the place is one of the first n
pub taken_place : {A : Type 0} (n : ℕ) (xs : List A) (i : ℕ) → i < n →
    slice_get (take n xs) i ≡ slice_get xs i
taken_place zero xs i h = absurd (omega (arith, h))
taken_place (suc n) [] i h = refl
taken_place (suc n) (x ∷ xs) zero h = refl
taken_place (suc n) (x ∷ xs) (suc i) h = taken_place n xs i (omega (arith, h))

-- a place past the first n
pub taken_past : {A : Type 0} (n : ℕ) (xs : List A) (i : ℕ) → n ≤ i →
    slice_get (take n xs) i ≡ None
taken_past zero [] i h = refl
taken_past zero (x ∷ xs) i h = refl
taken_past (suc n) [] i h = refl
taken_past (suc n) (x ∷ xs) zero h = absurd (omega (arith, h))
taken_past (suc n) (x ∷ xs) (suc i) h = taken_past n xs i (omega (arith, h))

-- ---- one after the other, each tried in that way

module _ {C : Type 0} (try_it : C → Tried (List Pair)) (choices : List C) where
  -- what comes of these
  abbrev pub first_of : List C → Tried (List Pair)
  first_of some = first_applying (map try_it some)

  module _ (i : ℕ) (noted : Bool) (whole : Tried (List Pair))
      (is : noting noted (first_of (drop i choices)) ≡ whole) where
    -- no choice is left
    pub no_choice : slice_get choices i ≡ None → record { made = None; noted = noted } ≡ whole
    no_choice none =
        sym (noted_alone None noted)
        ∙ ap (λ cs. noting noted (first_of cs)) (sym (from_nowhere choices i none))
        ∙ is

    module _ (choice : C) (there : slice_get choices i ≡ Some choice)
        (view : Fit → List Pair) (made : Option Fit) (more : Bool)
        (tried : record { made = option_map view made; noted = more } ≡ try_it choice) where
      opened : noting noted (made_or (option_map view made) more
          (first_of (drop (i + 1) choices))) ≡ whole
      opened =
          ap (λ (t : Tried (List Pair)). noting noted (made_or t.made t.noted
          (first_of (drop (i + 1) choices)))) tried
          ∙ ap (λ cs. noting noted (first_of cs)) (sym (from_place choices i choice there))
          ∙ is

      -- the choice at hand is fit
      pub choice_fits : is_some made ≡ true →
          record { made = option_map view made; noted = noted || more } ≡ whole
      choice_fits e = decided view noted made more (first_of (drop (i + 1) choices)) e ∙ opened

      -- it isn't, and the later ones decide
      pub later_choices : is_some made ≡ false →
          noting (noted || more) (first_of (drop (i + 1) choices)) ≡ whole
      later_choices e =
          first_none noted (option_map view made) more (first_of (drop (i + 1) choices)) whole
          opened (none_made view made e)

-- ---- all choices, each with none raised and then with each of those

mapped_append : {A B : Type 0} (f : A → B) (xs ys : List A) → map f (xs ++ ys) ≡ map f xs ++ map f ys
mapped_append f [] ys = refl
mapped_append f (x ∷ xs) ys = ap (λ zs. f x ∷ zs) (mapped_append f xs ys)

no_more : {A : Type 0} (xs : List A) → xs ≡ xs ++ []
no_more [] = refl
no_more (x ∷ xs) = ap (λ ys. x ∷ ys) (no_more xs)

-- what comes of many lists one after the other is what comes of what comes of each
pub first_of_each : {A B C : Type 0} (try_it : B → Tried C) (h : A → List B) (xs : List A) →
    first_applying (map (λ x. first_applying (map try_it (h x))) xs) ≡
    first_applying (map try_it (flat_map h xs))
first_of_each try_it h [] = refl
first_of_each try_it h (x ∷ xs) =
    let here = first_applying (map try_it (h x)) in
    ap (made_or here.made here.noted) (first_of_each try_it h xs)
    ∙ sym (first_append (map try_it (h x)) (map try_it (flat_map h xs)))
    ∙ ap first_applying (sym (mapped_append try_it (h x) (flat_map h xs)))

pub empty_list : {A : Type 0} (xs : List A) → (length xs == 0) ≡ true → xs ≡ []
empty_list [] e = refl
empty_list (x ∷ xs) e = absurd (grind (arith, nat_tests, e))

none_raised : (lists : List (List Body)) → [] ≡ flat_map (raised_choices []) lists
none_raised [] = refl
none_raised (polys ∷ lists) = none_raised lists

module _ (infos : List SymInfo) (pairs : List Pair) (anchors order : List ℕ) where
  abbrev try_choice : RankChoice → Tried (List Pair)
  try_choice = choosing infos pairs anchors order

  module _ (symbols : List ℕ) (lists : List (List Body)) where
    abbrev plain_tried : Tried (List Pair)
    plain_tried = first_applying (map try_choice (map plain_choice lists))

    abbrev raised_tried : Tried (List Pair)
    raised_tried = first_applying (map try_choice (flat_map (raised_choices symbols) lists))

    -- the plain choices come first
    in_turn : made_or plain_tried.made plain_tried.noted raised_tried ≡
        first_applying (map try_choice (all_choices symbols lists))
    in_turn =
        sym (first_append (map try_choice (map plain_choice lists))
        (map try_choice (flat_map (raised_choices symbols) lists)))
        ∙ ap first_applying (sym (mapped_append try_choice (map plain_choice lists)
        (flat_map (raised_choices symbols) lists)))

    module _ (view : Fit → List Pair) (plain : Option Fit) (noted : Bool)
        (is : record { made = option_map view plain; noted = noted } ≡ plain_tried) where
      opened_turn : made_or (option_map view plain) noted raised_tried ≡
          first_applying (map try_choice (all_choices symbols lists))
      opened_turn = ap (λ (t : Tried (List Pair)). made_or t.made t.noted raised_tried) is ∙ in_turn

      -- a plain choice is fit
      pub plain_fits : is_some plain ≡ true → record { made = option_map view plain; noted = noted } ≡
          first_applying (map try_choice (all_choices symbols lists))
      plain_fits e = by plain e ∙ opened_turn where
        by : (made : Option Fit) → is_some made ≡ true →
            record { made = option_map view made; noted = noted } ≡
            made_or (option_map view made) noted raised_tried
        by None f = cc
        by (Some fit) f = refl

      -- none is, and those with a raised symbol decide
      pub raised_decide : (raised : Option Fit) (more : Bool) → is_some plain ≡ false →
          record { made = option_map view raised; noted = more } ≡ raised_tried →
          record { made = option_map view raised; noted = noted || more } ≡
          first_applying (map try_choice (all_choices symbols lists))
      raised_decide raised more e tried = by plain e ∙ opened_turn where
        by : (made : Option Fit) → is_some made ≡ false →
            record { made = option_map view raised; noted = noted || more } ≡
            made_or (option_map view made) noted raised_tried
        by None f = ap (noting noted) tried
        by (Some fit) f = cc

  -- where no symbol may be raised, the plain choices are all
  pub plain_alone : (lists : List (List Body)) →
      first_applying (map try_choice (map plain_choice lists)) ≡
      first_applying (map try_choice (all_choices [] lists))
  plain_alone lists =
      ap (λ cs. first_applying (map try_choice cs)) (no_more (map plain_choice lists))
      ∙ ap (λ cs. first_applying (map try_choice (map plain_choice lists ++ cs))) (none_raised lists)

  -- what comes of one of the choices is a first fit
  pub fit_among : (choices : List RankChoice) (choice : RankChoice) (made : Option Fit) →
      Contains choices choice → IfSome made (IsChosen infos pairs anchors order choice) →
      IfSome made (IsFirstFit infos pairs anchors order choices)
  fit_among choices choice None among chosen = tt
  fit_among choices choice (Some fit) among chosen = record {
    choice = choice;
    among = among;
    chosen = chosen;
  }

  -- so it is where there are more choices
  pub fit_among_more : (choices more : List RankChoice) (made : Option Fit) →
      ((choice : RankChoice) → Contains choices choice → Contains more choice) →
      IfSome made (IsFirstFit infos pairs anchors order choices) →
      IfSome made (IsFirstFit infos pairs anchors order more)
  fit_among_more choices more None each first = tt
  fit_among_more choices more (Some fit) each first = record {
    choice = first.choice;
    among = each first.choice first.among;
    chosen = first.chosen;
  }

  -- with the order that there is
  pub ordered : (choices : List RankChoice) (o : Option (List ℕ)) (made : Option Fit) →
      o ≡ Some order →
      IfSome made (IsFirstFit infos pairs anchors order choices) → IfSome made (λ fit.
      (fs : List ℕ) × (o ≡ Some fs) × IsFirstFit infos pairs anchors fs choices fit)
  ordered choices o None is first = tt
  ordered choices o (Some fit) is first = (order, is, first)

-- ---- which choices are among all

-- what is made of a list stands at the same places
pub mapped_place : {A B : Type 0} (g : A → B) (xs : List A) (i : ℕ) (x : A) →
    slice_get xs i ≡ Some x → slice_get (map g xs) i ≡ Some (g x)
mapped_place g [] i x there = cc
mapped_place g (y ∷ ys) zero x there = let same : y ≡ x = cc in ap (λ z. Some (g z)) same
mapped_place g (y ∷ ys) (suc i) x there = mapped_place g ys i x there

pub mapped_nowhere : {A B : Type 0} (g : A → B) (xs : List A) (i : ℕ) → slice_get xs i ≡ None →
    slice_get (map g xs) i ≡ None
mapped_nowhere g [] i none = refl
mapped_nowhere g (y ∷ ys) zero none = cc
mapped_nowhere g (y ∷ ys) (suc i) none = mapped_nowhere g ys i none

pub past_end : {A : Type 0} (xs : List A) (i : ℕ) → length xs ≤ i → slice_get xs i ≡ None
past_end [] i h = refl
past_end (x ∷ xs) zero h = absurd (omega (arith, h))
past_end (x ∷ xs) (suc i) h = past_end xs i (omega (arith, h))

pub among_each : {A B : Type 0} (h : A → List B) (xs : List A) (i : ℕ) (x : A) (y : B) →
    slice_get xs i ≡ Some x → Contains (h x) y → Contains (flat_map h xs) y
among_each h [] i x y there among = cc
among_each h (z ∷ zs) zero x y there among =
    let same : z ≡ x = cc in
    Contains-append_left (h z) (flat_map h zs) y (subst (λ w. Contains (h w) y) (sym same) among)
among_each h (z ∷ zs) (suc i) x y there among =
    Contains-append_right (h z) (flat_map h zs) y (among_each h zs i x y there among)

pub among_plain : (symbols : List ℕ) (lists : List (List Body)) (choice : RankChoice) →
    Contains (map plain_choice lists) choice → Contains (all_choices symbols lists) choice
among_plain symbols lists choice among =
    Contains-append_left (map plain_choice lists) (flat_map (raised_choices symbols) lists) choice
    among

pub among_raised : (symbols : List ℕ) (lists : List (List Body)) (choice : RankChoice) →
    Contains (flat_map (raised_choices symbols) lists) choice →
    Contains (all_choices symbols lists) choice
among_raised symbols lists choice among =
    Contains-append_right (map plain_choice lists) (flat_map (raised_choices symbols) lists) choice
    among

-- The walk over the functions that two functions reach: what has a mark, and what waits for one.
use Rattle.std.proofs.Common.{◌≡◌, ◌≢◌, ◌∙◌, ap, sym, subst, Bool, true, false, ◌⊎◌, inl, inr, ℕ, zero, suc, ◌+◌, ◌^◌, ◌<◌, Some, List, [], ◌∷◌, ◌++◌, length, replicate, get_or, arith}
use Rattle.std.specs.Prelude.{All, Contains, slice_get, slice_set}
use Rattle.std.proofs.lemmas.List.{get_or-set_other, get_or-set_same, get_or_default, length-append, length-replicate, length-set}
use Rattle.std.proofs.lemmas.List.Elements.{All-contains, Contains-append_cases, Contains-append_left, Contains-append_right, Contains-push_cases}
use Rattle.std.proofs.lemmas.Option.{same_Some, slice_get-get_or}
use Rattle.std.proofs.lemmas.Bool.{cases_eq}
use Rattle.c_ast.specs.Scoped.{is_scoped}
use Rattle.c_ast.specs.declared.program.Function.{Function}
use Rattle.c_ast.specs.declared.program.Resolved.{Resolved}
use Rattle.c_ast.proofs.CallEquations.{calls_of_list}
use Rattle.c_ast.proofs.ScopedLaws.{body_calls_there}
use Rattle.rx_plain.proofs.Kept.{first_one, first_or_other, other_one}
use Rattle.rx_code.specs.Reached.{AreReached, ByCall, IsFirst, IsSecond, Reached, calls_of}
use Rattle.rx_code.proofs.Elements.{no_element}
use Rattle.rx_translate.specs.Marks.{IsMarked, MarksReached, marked_from}
use Rattle.rx_translate.proofs.MarkLemmas.{is_marked, is_there, marked_rising}

-- ---- how much is left to be done

-- the calls of the functions that have no mark
abbrev pub unwalked : List Bool → List Function → ℕ
unwalked [] fs = 0
unwalked (b ∷ marks) [] = 0
unwalked (true ∷ marks) (f ∷ fs) = unwalked marks fs
unwalked (false ∷ marks) (f ∷ fs) = length (calls_of f) + unwalked marks fs

pub unwalked-mark : (marks : List Bool) (fs : List Function) (k : ℕ) (f : Function) → k <
    length marks → get_or marks k false ≡ false → slice_get fs k ≡ Some f
    → unwalked (slice_set marks k true) fs + length (calls_of f) ≡ unwalked marks fs
unwalked-mark [] fs k f below none is = absurd (omega (arith, below))
unwalked-mark (b ∷ marks) [] k f below none is = absurd cc
unwalked-mark (true ∷ marks) (g ∷ fs) zero f below none is = absurd cc
unwalked-mark (false ∷ marks) (g ∷ fs) zero f below none is =
    let e = ap (λ (h : Function). length (calls_of h)) (same_Some g f is) in omega (arith, e)
unwalked-mark (true ∷ marks) (g ∷ fs) (suc k) f below none is =
    unwalked-mark marks fs k f (omega (arith, below)) none is
unwalked-mark (false ∷ marks) (g ∷ fs) (suc k) f below none is =
    let e = unwalked-mark marks fs k f (omega (arith, below)) none is in omega (arith, e)

-- less is left after a number that waited has got its mark
pub less_left : (marks : List Bool) (fs : List Function) (waiting rest more : List ℕ) (k : ℕ)
    (f : Function) → waiting ≡ rest ++ k ∷ [] → more ≡ rest ++ calls_of f → k < length marks
    → get_or marks k false ≡ false → slice_get fs k ≡ Some f → length more +
    unwalked (slice_set marks k true) fs < length waiting + unwalked marks fs
less_left marks fs waiting rest more k f popped pushed below none is =
    let one = ap length popped ∙ length-append rest (k ∷ []) in
    let all = ap length pushed ∙ length-append rest (calls_of f) in
    let e = unwalked-mark marks fs k f below none is in
    omega (arith, one, all, e)

-- what is read of marks and of functions
pub mark_read : (marks : List Bool) (k : ℕ) (r : Bool) → k < length marks → r ≡ get_or marks k r →
    get_or marks k false ≡ r
mark_read marks k r below is = get_or_default marks k false r below ∙ sym is

pub function_read : (fs : List Function) (k : ℕ) (f : Function) → k < length fs → f ≡
    get_or fs k f → slice_get fs k ≡ Some f
function_read fs k f below is =
    slice_get-get_or fs k f below ∙ ap (λ (h : Function). Some h) (sym is)

-- ---- what is known on the way

module _ (program : Resolved) (f g : ℕ) where
  abbrev fs : List Function
  fs = program.functions

  -- the number has a mark, or waits for one
  abbrev IsKnown : List Bool → List ℕ → ℕ → Type 0
  IsKnown marks waiting h = IsMarked marks h ⊎ Contains waiting h

  pub record Walking (marks : List Bool) (waiting : List ℕ) : Type 0 where
    pub size : length marks ≡ length program.functions
    pub marked_reached : (h : ℕ) → IsMarked marks h → Reached program f g h
    pub waiting_reached : (h : ℕ) → Contains waiting h → Reached program f g h
    pub narrow : (h : ℕ) → IsMarked marks h → h < 2 ^ 32
    pub first_known : IsMarked marks f ⊎ Contains waiting f
    pub second_known : IsMarked marks g ⊎ Contains waiting g
    pub closed : (h k : ℕ) (caller : Function) → IsMarked marks h → slice_get program.functions h ≡
        Some caller → Contains (calls_of caller) k → IsMarked marks k ⊎ Contains waiting k

  no_mark : (count h : ℕ) → IsMarked (replicate count false) h → ⊥
  no_mark zero h is = absurd cc
  no_mark (suc count) zero is = absurd cc
  no_mark (suc count) (suc h) is = no_mark count h is

  pub begin : Walking (replicate (length program.functions) false) (f ∷ g ∷ [])
  begin = record {
    size = length-replicate (length program.functions) false;
    marked_reached = λ h is. absurd (no_mark (length program.functions) h is);
    waiting_reached = λ h there. elim (first_or_other f (g ∷ []) h there) [
      | inl same ↦ subst (Reached program f g) same IsFirst
      | inr other ↦ elim (first_or_other g [] h other) [
        | inl same ↦ subst (Reached program f g) same IsSecond
        | inr none ↦ absurd (no_element h none)
      ]
    ];
    narrow = λ h is. absurd (no_mark (length program.functions) h is);
    first_known = inr (first_one f (g ∷ []));
    second_known = inr (other_one f (g ∷ []) g (first_one g []));
    closed = λ h k caller is there among. absurd (no_mark (length program.functions) h is);
  }

  pub started : (functions : List Function) (marks : List Bool) (waiting : List ℕ) → functions ≡
      program.functions → marks ≡ replicate (length functions) false → waiting ≡ f ∷ g ∷ [] →
      Walking marks waiting
  started functions marks waiting same none two =
      subst (λ (bs : List Bool). Walking bs waiting)
      (sym (none ∙ ap (λ (hs : List Function). replicate (length hs) false) same))
      (subst (Walking (replicate (length program.functions) false)) (sym two) begin)

  module _ (scoped : is_scoped program ≡ true) (first_there : f < length program.functions)
      (second_there : g < length program.functions) where
    -- what is reached is a function of the program
    pub reached_there : (h : ℕ) → Reached program f g h → h < length program.functions
    reached_there _ IsFirst = first_there
    reached_there _ IsSecond = second_there
    reached_there _ (ByCall h k caller from there among) =
        All-contains (λ n. n < length program.functions) (calls_of caller) k
        (subst (All (λ n. n < length program.functions)) (calls_of_list caller.body)
        (body_calls_there program scoped h caller there)) among

  module _ (marks : List Bool) (waiting rest : List ℕ) (place : ℕ)
      (popped : waiting ≡ rest ++ place ∷ []) (w : Walking marks waiting) where
    pub place_reached : Reached program f g place
    place_reached =
        w.waiting_reached place (subst (λ ks. Contains ks place) (sym popped)
        (Contains-append_right rest (place ∷ []) place (first_one place [])))

    -- where one that waits has a mark already
    again : IsMarked marks place → (h : ℕ) → IsMarked marks h ⊎ Contains waiting h →
        IsMarked marks h ⊎ Contains rest h
    again has h (inl is) = inl is
    again has h (inr there) =
        elim (Contains-push_cases rest place h (subst (λ ks. Contains ks h) popped there))
        [ inl other ↦ inr other | inr same ↦ inl (subst (IsMarked marks) same has) ]

    pub passed : get_or marks place false ≡ true → Walking marks rest
    passed has = record {
      size = w.size;
      marked_reached = w.marked_reached;
      waiting_reached =
          λ h there. w.waiting_reached h (subst (λ ks. Contains ks h) (sym popped)
          (Contains-append_left rest (place ∷ []) h there));
      narrow = w.narrow;
      first_known = again has f w.first_known;
      second_known = again has g w.second_known;
      closed = λ h k caller is there among. again has k (w.closed h k caller is there among);
    }

    -- where it gets its mark now
    module _ (small : place < 2 ^ 32) (below : place < length program.functions)
        (function : Function) (is_function : slice_get program.functions place ≡ Some function)
      where
        abbrev new : List Bool
        new = slice_set marks place true

        abbrev more : List ℕ
        more = rest ++ calls_of function

        below_marks : place < length marks
        below_marks = let e = w.size in omega (arith, e, below)

        here : IsMarked new place
        here = get_or-set_same marks place true false below_marks

        same_place : (h : ℕ) → (h ≡ place) ⊎ (h ≢ place)
        same_place h = cases_eq h place

        new_or_old : (h : ℕ) → IsMarked new h → (h ≡ place) ⊎ IsMarked marks h
        new_or_old h is =
            elim (same_place h) [
              | inl same ↦ inl same
              | inr other ↦ inr (sym (get_or-set_other marks place h true false other) ∙ is)
            ]

        still : (h : ℕ) → IsMarked marks h → IsMarked new h
        still h is =
            elim (same_place h) [
              | inl same ↦ subst (IsMarked new) (sym same) here
              | inr other ↦ get_or-set_other marks place h true false other ∙ is
            ]

        known : (h : ℕ) → IsMarked marks h ⊎ Contains waiting h → IsMarked new h ⊎ Contains more h
        known h (inl is) = inl (still h is)
        known h (inr there) =
            elim (Contains-push_cases rest place h (subst (λ ks. Contains ks h) popped there)) [
              | inl other ↦ inr (Contains-append_left rest (calls_of function) h other)
              | inr same ↦ inl (subst (IsMarked new) same here)
            ]

        pub marked_now : Walking new more
        marked_now = record {
          size = length-set marks place true ∙ w.size;
          marked_reached =
              λ h is. elim (new_or_old h is) [
                | inl same ↦ subst (Reached program f g) (sym same)
                    place_reached
                | inr old ↦ w.marked_reached h old
              ];
          waiting_reached =
              λ h there. elim (Contains-append_cases rest (calls_of function) h there) [
                | inl left ↦ w.waiting_reached h (subst (λ ks. Contains ks h) (sym popped)
                    (Contains-append_left rest (place ∷ []) h left))
                | inr called ↦ ByCall place h function place_reached is_function called
              ];
          narrow =
              λ h is. elim (new_or_old h is) [
                | inl same ↦ subst (λ n. n < 2 ^ 32) (sym same) small
                | inr old ↦ w.narrow h old
              ];
          first_known = known f w.first_known;
          second_known = known g w.second_known;
          closed = λ h k caller is there among. elim (new_or_old h is) [
            | inl same ↦ inr (Contains-append_right rest (calls_of function) k
                (subst (λ (c : Function). Contains (calls_of c) k)
                (same_Some caller function (sym there ∙ ap (slice_get program.functions) same ∙
                is_function)) among))
            | inr old ↦ known k (w.closed h k caller old there among)
          ];
        }

  -- where nothing waits
  module _ (marks : List Bool) (w : Walking marks []) where
    surely : (h : ℕ) → IsMarked marks h ⊎ Contains [] h → IsMarked marks h
    surely h (inl is) = is
    surely h (inr none) = absurd (no_element h none)

    all_marked : (h : ℕ) → Reached program f g h → IsMarked marks h
    all_marked _ IsFirst = surely f w.first_known
    all_marked _ IsSecond = surely g w.second_known
    all_marked _ (ByCall h k caller from there among) =
        surely k (w.closed h k caller (all_marked h from) there among)

    pub finished : MarksReached program f g marks
    finished =
        record {
          size = w.size;
          reached = λ h. (w.marked_reached h, all_marked h);
          narrow =
              w.narrow;
        }

  -- the list of those that have marks
  pub listed : (marks : List Bool) → MarksReached program f g marks →
      AreReached program f g (marked_from 0 marks)
  listed marks m = record {
    in_order = marked_rising marks 0;
    members =
        λ h. (
          λ there. (m.reached h).0 (is_marked marks h there),
          λ reached.
              is_there marks h ((m.reached h).1 reached),
        );
  }

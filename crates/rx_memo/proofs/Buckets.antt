-- What buckets have, and what they have with one more.
use Rattle.std.proofs.Common.{◌≡◌, ◌∙◌, ap, refl, subst, sym, ℕ, ◌<◌, ◌⊎◌, inl, inr, lit<, Option, Some, None, List, [], ◌∷◌, ◌++◌, arith, get_or, length, set}
use Rattle.std.specs.Prelude.{All, Contains, IfSome, Vec}
use Rattle.std.specs.declared.alloc.Global.{Global}
use Rattle.std.proofs.lemmas.List.{get_or-set_same, length-set, set-get_or, set-set}
use Rattle.std.proofs.lemmas.List.Elements.{All-cons, All-contains, All-contains_itself, All-head, All-nil, All-push, All-set, All-tail, All-weaker, Contains-append_cases, Contains-append_left, Contains-append_right, Contains-get_or}
use Rattle.rx_term.specs.declared.rule.Equation.{Equation}
use Rattle.rx_memo.specs.Buckets.{HasAny, IsEmpty, all_kept}
use Rattle.rx_memo.specs.Kept.{IsKept, IsThat}
use Rattle.rx_memo.specs.declared.goal_memo.Kept.{Kept}

module _ {V : Type 0} where
  -- where nothing is kept there is nothing of any goal
  pub nothing_kept : (memo : List (Kept V)) → memo ≡ [] → (g : Equation) (v : V) →
      IsKept memo g v → ⊥
  nothing_kept memo none g v kept =
      let (k, inner, _) = subst (λ xs. IsKept xs g v) none kept in absurd (omega arith)

  pub empty_more : (buckets more : List (Vec (Kept V) Global)) (empty : Vec (Kept V) Global) →
      empty.items ≡ [] → more ≡ buckets ++ empty ∷ [] → All (IsEmpty {V = V}) buckets →
      All (IsEmpty {V = V}) more
  empty_more buckets more empty none is all =
      subst (All (IsEmpty {V = V})) (sym is) (All-push (IsEmpty {V = V}) buckets empty all none)

  -- where all are empty nothing is kept
  pub none_kept : (buckets : List (Vec (Kept V) Global)) → All (IsEmpty {V = V}) buckets →
      all_kept buckets ≡ []
  none_kept [] all = refl
  none_kept (bucket ∷ buckets) all =
      ap (λ kept. kept ++ all_kept buckets) (All-head (IsEmpty {V = V}) bucket buckets all)
      ∙ none_kept buckets (All-tail (IsEmpty {V = V}) bucket buckets all)

  -- ---- what one bucket has, all together have

  abbrev IsPart : List (Kept V) → Vec (Kept V) Global → Type 0
  IsPart kept bucket = All (Contains kept) bucket.items

  are_parts : (buckets : List (Vec (Kept V) Global)) → All (IsPart (all_kept buckets)) buckets
  are_parts [] = All-nil (IsPart [])
  are_parts (bucket ∷ buckets) =
      let rest = all_kept buckets in
      let kept = bucket.items ++ rest in
      let P : Vec (Kept V) Global → Type 0 = IsPart rest in
      All-cons (IsPart kept) bucket buckets
      (λ k d inner. Contains-append_left bucket.items rest (get_or bucket.items k d)
      (All-contains_itself bucket.items k d inner))
      (All-weaker P (IsPart kept)
      (λ one all. All-weaker (Contains rest) (Contains kept)
      (λ x. Contains-append_right bucket.items rest x) one.items all)
      buckets (are_parts buckets))

  pub kept_in_any : (buckets : List (Vec (Kept V) Global)) (g : Equation) (v : V) →
      HasAny buckets g v → IsKept (all_kept buckets) g v
  kept_in_any buckets g v any =
      All-contains (Contains (all_kept buckets)) any.bucket.items
      (record { goal = g; value = v })
      (All-contains (IsPart (all_kept buckets)) buckets any.bucket (are_parts buckets) any.there)
      any.has

  pub any_of_kept : (buckets : List (Vec (Kept V) Global)) (g : Equation) (v : V) →
      IsKept (all_kept buckets) g v → HasAny buckets g v
  any_of_kept [] g v kept = let (k, inner, _) = kept in absurd (omega arith)
  any_of_kept (bucket ∷ buckets) g v kept =
      elim (Contains-append_cases bucket.items (all_kept buckets)
      (record { goal = g; value = v }) kept) [
        | inl here ↦
            record {
              bucket = bucket;
              there = Contains-append_left (bucket ∷ []) buckets bucket (0, lit< tt, refl);
              has = here;
            }
        | inr later ↦
            let any = any_of_kept buckets g v later in
            record {
              bucket = any.bucket;
              there = Contains-append_right (bucket ∷ []) buckets any.bucket any.there;
              has = any.has;
            }
      ]

  -- ---- a bucket with more in its place

  module _ (buckets : List (Vec (Kept V) Global)) (at : ℕ) (old row : Vec (Kept V) Global)
      (inner : at < length buckets) (was : old ≡ get_or buckets at old) (goal : Equation)
      (value : V) (g : Equation) (v : V) where
    abbrev IsOneOf : Vec (Kept V) Global → Type 0
    IsOneOf bucket = IsKept bucket.items g v → HasAny buckets g v ⊎ IsThat goal value g v

    pub put_in : (IsKept row.items g v → IsKept old.items g v ⊎ IsThat goal value g v) →
        HasAny (set buckets at row) g v → HasAny buckets g v ⊎ IsThat goal value g v
    put_in more any =
        All-contains IsOneOf (set buckets at row) any.bucket
        (All-set IsOneOf buckets at row
        (λ has. elim (more has) [
          | inl before ↦
              inl (record { bucket = old; there = (at, inner, sym was); has = before })
          | inr that ↦ inr that
        ])
        (λ k d there has.
        inl (record {
          bucket = get_or buckets k d;
          there = Contains-get_or buckets k d there;
          has = has;
        })))
        any.there any.has

    abbrev StaysIn : Vec (Kept V) Global → Type 0
    StaysIn bucket = IsKept bucket.items g v → HasAny (set buckets at row) g v

    put_back : set (set buckets at row) at old ≡ buckets
    put_back =
        set-set buckets at row old ∙ ap (set buckets at) was ∙ set-get_or buckets at old

    pub stays_in : (IsKept old.items g v → IsKept row.items g v) → HasAny buckets g v →
        HasAny (set buckets at row) g v
    stays_in more any =
        let new = set buckets at row in
        let long : at < length new = omega (arith, length-set buckets at row) in
        All-contains StaysIn buckets any.bucket
        (subst (All StaysIn) put_back (All-set StaysIn new at old
        (λ has. record {
          bucket = row;
          there = (at, long, get_or-set_same buckets at row row inner);
          has = more has;
        })
        (λ k d there has. record {
          bucket = get_or new k d;
          there = Contains-get_or new k d there;
          has = has;
        })))
        any.there any.has

  -- what a bucket that is got has
  pub found_any : (buckets got : List (Vec (Kept V) Global)) (at : ℕ) (bucket : Vec (Kept V) Global)
      (items : List (Kept V)) → got ≡ buckets → at < length got → bucket ≡ get_or got at bucket →
      items ≡ bucket.items → (goal : Equation) (found : Option V) → IfSome found (IsKept items goal) →
      IfSome found (IsKept (all_kept buckets) goal)
  found_any buckets got at bucket items whole inner is same goal None has = tt
  found_any buckets got at bucket items whole inner is same goal (Some v) has =
      kept_in_any buckets goal v (record {
        bucket = bucket;
        there = subst (λ all. Contains all bucket) whole (at, inner, sym is);
        has = subst (λ xs. IsKept xs goal v) same has;
      })

  -- ---- a memo with one more

  module _ (before after : List (Vec (Kept V) Global)) (old new : List (Kept V))
      (was : all_kept before ≡ old) (is : all_kept after ≡ new) (g : Equation) (v : V) where
    pub kept_only : (goal : Equation) (value : V) →
        (HasAny after g v → HasAny before g v ⊎ IsThat goal value g v) → IsKept new g v →
        IsKept old g v ⊎ IsThat goal value g v
    kept_only goal value only kept =
        elim (only (any_of_kept after g v (subst (λ xs. IsKept xs g v) (sym is) kept))) [
          | inl any ↦ inl (subst (λ xs. IsKept xs g v) was (kept_in_any before g v any))
          | inr that ↦ inr that
        ]

    pub kept_stays : (HasAny before g v → HasAny after g v) → IsKept old g v → IsKept new g v
    kept_stays stays kept =
        subst (λ xs. IsKept xs g v) is
        (kept_in_any after g v (stays
        (any_of_kept before g v (subst (λ xs. IsKept xs g v) (sym was) kept))))

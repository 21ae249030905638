-- What a look-up of rows finds among the entries of a cache.
use Rattle.std.proofs.Common.{◌≡◌, ◌∙◌, ap, sym, refl, Bool, true, false, is_some, slice_get, take, ◌-◌, Some, None, List, [], ◌∷◌, ◌++◌}
use Rattle.std.proofs.lemmas.List.Elements.{All-cons, All-head, All-nil, All-tail}
use Rattle.std.specs.Cmp.Lexicographic.{pointwise}
use Rattle.std.specs.Map.{lookup, lookup_entry, remove_entry}
use Rattle.lru.specs.LruCache.{LruCache, promoted, put_entries}
use Rattle.rx_row.specs.declared.row.Row.{Row}
use Rattle.rx_row.proofs.Same.{row_eq, known_same_rows, known_themselves}
use Rattle.rx_cache.specs.Cache.{Entry, IsPromoted, NoneHas}
use Rattle.rx_cache.specs.declared.cached_answer.CachedAnswer.{CachedAnswer}

-- what `==` of two lists of rows computes
abbrev pub same_rows : List Row → List Row → Bool
same_rows = pointwise row_eq

module _ (rows : List Row) where
  -- the first entry that has the rows has that answer
  pub record Found (es : List Entry) (cached : CachedAnswer) : Type 0 where
    pub newer : List Entry
    pub older : List Entry
    pub first : NoneHas rows newer
    pub was : es ≡ newer ++ (rows, cached) ∷ older
    pub entry : lookup_entry (same_rows rows) es ≡ Some (rows, cached)
    pub others : remove_entry (same_rows rows) es ≡ newer ++ older

  abbrev Other : Entry → Type 0
  Other e = ¬ (e.0 ≡ rows)

  apart : (other : List Row) → same_rows rows other ≡ false → ¬ (other ≡ rows)
  apart other differ e =
      let same_there : same_rows rows other ≡ true = ap (same_rows rows) e ∙ known_themselves rows in
      cc

  found_here : (e : Entry) (es : List Entry) (cached : CachedAnswer) → same_rows rows e.0 ≡ true →
      e.1 ≡ cached → Found (e ∷ es) cached
  found_here e es cached same_there value =
      let same : e ≡ (rows, cached) = λ i. (sym (known_same_rows rows e.0 same_there) i, value i) in
      record {
        newer = [];
        older = es;
        first = All-nil Other;
        was = ap (λ (x : Entry). x ∷ es) same;
        entry = rw same_there (ap Some same);
        others = rw same_there refl;
      }

  found_after : (e : Entry) (es : List Entry) (cached : CachedAnswer) → same_rows rows e.0 ≡ false →
      Found es cached → Found (e ∷ es) cached
  found_after e es cached differ f = record {
    newer = e ∷ f.newer;
    older = f.older;
    first = All-cons Other e f.newer (apart e.0 differ) f.first;
    was = ap (λ (xs : List Entry). e ∷ xs) f.was;
    entry = rw differ f.entry;
    others = rw differ (ap (λ (xs : List Entry). e ∷ xs) f.others);
  }

  -- a look-up that finds an answer finds that of the first entry that has the rows
  pub found : (es : List Entry) (cached : CachedAnswer) → lookup (same_rows rows) es ≡ Some cached →
      Found es cached
  found [] cached h = cc
  found (e ∷ es) cached h =
      (elim (same_rows rows e.0) as (λ b. same_rows rows e.0 ≡ b → Found (e ∷ es) cached) [
        | true ↦ λ t. let h' = rw t at h in found_here e es cached t cc
        | false ↦ λ t. found_after e es cached t (found es cached (rw t at h))
      ]) refl

  -- where it finds none, no entry has them
  pub none_has : (es : List Entry) → lookup (same_rows rows) es ≡ None → NoneHas rows es
  none_has [] h = All-nil Other
  none_has (e ∷ es) h =
      (elim (same_rows rows e.0) as (λ b. same_rows rows e.0 ≡ b → NoneHas rows (e ∷ es)) [
        | true ↦ λ t. let h' = rw t at h in cc
        | false ↦ λ t. All-cons Other e es (apart e.0 t) (none_has es (rw t at h))
      ]) refl

  -- the entry that is found goes to the front
  pub promoted_found : (es : List Entry) (cached : CachedAnswer) → Found es cached →
      IsPromoted rows cached es (promoted (same_rows rows) es)
  promoted_found es cached f = record {
    newer = f.newer;
    older = f.older;
    first = f.first;
    was = f.was;
    becomes = rw f.entry (ap (λ (xs : List Entry). (rows, cached) ∷ xs) f.others);
  }

  no_entry : (es : List Entry) → NoneHas rows es → lookup_entry (same_rows rows) es ≡ None
  no_entry [] none = refl
  no_entry (e ∷ es) none =
      (elim (same_rows rows e.0) as (λ b. same_rows rows e.0 ≡ b →
      lookup_entry (same_rows rows) (e ∷ es) ≡ None) [
        | true ↦ λ t. absurd (All-head Other e es none (sym (known_same_rows rows e.0 t)))
        | false ↦ λ t. rw t (no_entry es (All-tail Other e es none))
      ]) refl

  -- where a look-up finds an answer, the first entry that has the rows has one
  pub hit : (es : List Entry) → is_some (lookup (same_rows rows) es) ≡ true →
      (cached : CachedAnswer) × Found es cached
  hit es t =
      (elim (lookup (same_rows rows) es) as (λ o. lookup (same_rows rows) es ≡ o → is_some o ≡
      true → (cached : CachedAnswer) × Found es cached) [
        | Some cached ↦ λ look some. (cached, found es cached look)
        | None ↦ λ look some. cc
      ]) refl t

  -- where it finds none, no entry has them, and nothing goes to the front
  pub missed : (es : List Entry) → is_some (lookup (same_rows rows) es) ≡ false → NoneHas rows es ×
      (promoted (same_rows rows) es ≡ es)
  missed es t =
      (elim (lookup (same_rows rows) es) as (λ o. lookup (same_rows rows) es ≡ o → is_some o ≡
      false → NoneHas rows es × (promoted (same_rows rows) es ≡ es)) [
        | Some cached ↦ λ look some. cc
        | None ↦ λ look some. let none = none_has es look in (none, rw (no_entry es none) refl)
      ]) refl t

  -- what is in front after that is the entry that was found
  front : (es after : List Entry) (cached : CachedAnswer) → Found es cached → after ≡
      promoted (same_rows rows) es → slice_get after 0 ≡ Some (rows, cached)
  front es after cached f e =
      ap (λ (xs : List Entry). slice_get xs 0) (e ∙ (promoted_found es cached f).becomes)

  pub never_empty : (es after : List Entry) (cached : CachedAnswer) → Found es cached → after ≡
      promoted (same_rows rows) es → None ≡ slice_get after 0 → ⊥
  never_empty es after cached f e none = let is = none ∙ front es after cached f e in cc

  pub found_in_front : (es after : List Entry) (cached : CachedAnswer) → Found es cached → after ≡
      promoted (same_rows rows) es → (first : Entry) → Some first ≡ slice_get after 0 → first.1 ≡
      cached
  found_in_front es after cached f e first some = let is = some ∙ front es after cached f e in cc

  -- where no entry has the rows, the new one is inserted before the others, and a full cache drops
  -- its last
  pub put_new : (c : LruCache (List Row) CachedAnswer) (cached : CachedAnswer) →
      NoneHas rows c.entries → put_entries same_rows c rows cached ≡ (rows, cached) ∷
      take (c.cap - 1) c.entries
  put_new c cached none = rw (no_entry c.entries none) refl

-- The symbols of a component, from a place on.
use Rattle.std.proofs.Common.{◌≡◌, ◌∙◌, ap, sym, cond, arith, ℕ, suc, ◌+◌, ◌-◌, ◌==◌, ◌<◌, false, Some, List, [], ◌∷◌, ◌++◌, append_assoc, length, slice_get}
use Rattle.std.proofs.lemmas.Bool.{eq-eqb, ne_eqb}
use Rattle.std.specs.List.{filter, range_with_len}
use Rattle.std.specs.Option.{option_map_or}
use Rattle.rx_anchors.specs.Members.{is_member}

-- the next symbol is of the component, or isn't
pub next_member : (names : List ℕ) (c i name : ℕ) → i < length names → slice_get names i ≡ Some name
    → filter (is_member names c) (range_with_len i (length names - i))
    ≡ cond (name == c) (i ∷ filter (is_member names c)
    (range_with_len (i + 1) (length names - (i + 1))))
    (filter (is_member names c) (range_with_len (i + 1) (length names - (i + 1))))
next_member names c i name h there =
    let one_more : length names - i ≡ suc (length names - (i + 1)) = omega (arith, h) in
    let rest = filter (is_member names c) (range_with_len (i + 1) (length names - (i + 1))) in
    ap (λ k. filter (is_member names c) (range_with_len i k)) one_more
    ∙ ap (λ o. cond (option_map_or (λ n. n == c) o false) (i ∷ rest) rest) there

module _ (names : List ℕ) (c i name : ℕ) (done whole : List ℕ) (h : i < length names)
    (there : slice_get names i ≡ Some name)
    (is : done ++ filter (is_member names c) (range_with_len i (length names - i)) ≡ whole) where
  abbrev later_members : List ℕ
  later_members = filter (is_member names c) (range_with_len (i + 1) (length names - (i + 1)))

  -- one that isn't of the component is left out
  pub skip_member : (name ≡ c → ⊥) → done ++ later_members ≡ whole
  skip_member other =
      sym (ap (λ fs. done ++ fs) (next_member names c i name h there ∙
      ap (λ b. cond b (i ∷ later_members) later_members) (ne_eqb name c other))) ∙ is

  -- and one that is comes next
  pub take_member : name ≡ c → (more : List ℕ) (symbol : ℕ) → symbol ≡ i → more ≡ done ++ symbol ∷
      [] → more ++ later_members ≡ whole
  take_member same more symbol number made =
      ap (λ fs. fs ++ later_members) (made ∙ ap (λ k. done ++ k ∷ []) number) ∙
      append_assoc done (i ∷ []) later_members
      ∙ sym (ap (λ fs. done ++ fs) (next_member names c i name h there ∙
      ap (λ b. cond b (i ∷ later_members) later_members) (eq-eqb name c same))) ∙ is

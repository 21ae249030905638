-- The slots that are in both of two sets, slot by slot.
use Rattle.std.proofs.Common.{◌≡◌, ◌∙◌, ap, ℕ, suc, ◌+◌, ◌-◌, ◌<◌, ◌≤◌, Bool, false, ◌&&◌, refl, sym, List, [], ◌∷◌, ◌++◌, length, take, drop, get_or, set, drop_of_length-le, append_assoc, arith}
use Rattle.std.proofs.lemmas.List.{append-nil, take_more, length-take, length-drop}
use Rattle.std.proofs.Math.Seq.{drop-cons, set-append_seam, get_or-append_seam, take-length}
use Rattle.std.proofs.Common.{length-append}
use Rattle.c_assigned.specs.Sets.{intersection}

length-intersection : (xs ys : List Bool) → length xs ≤ length ys → length (intersection xs ys) ≡
    length xs
length-intersection [] ys h = refl
length-intersection (x ∷ xs) [] h = absurd (omega arith)
length-intersection (x ∷ xs) (y ∷ ys) h =
    let rest : length (intersection xs ys) ≡ length xs = length-intersection xs ys (omega arith) in
    omega (arith, rest)

intersection-last : (xs ys : List Bool) (x y : Bool) → length xs ≡ length ys →
    intersection (xs ++ x ∷ []) (ys ++ y ∷ []) ≡ intersection xs ys ++ (x && y) ∷ []
intersection-last [] [] x y e = refl
intersection-last [] (v ∷ ys) x y e = absurd (omega arith)
intersection-last (u ∷ xs) [] x y e = absurd (omega arith)
intersection-last (u ∷ xs) (v ∷ ys) x y e =
    ap (λ zs. (u && v) ∷ zs) (intersection-last xs ys x y (omega arith))

-- slots that the second hasn't are in neither
intersection-cut : (xs ys : List Bool) → intersection (take (length ys) xs) ys ≡ intersection xs ys
intersection-cut [] [] = refl
intersection-cut [] (y ∷ ys) = refl
intersection-cut (x ∷ xs) [] = refl
intersection-cut (x ∷ xs) (y ∷ ys) = ap (λ zs. (x && y) ∷ zs) (intersection-cut xs ys)

intersection-short : (xs ys : List Bool) → intersection xs (take (length xs) ys) ≡
    intersection xs ys
intersection-short [] ys = refl
intersection-short (x ∷ xs) [] = refl
intersection-short (x ∷ xs) (y ∷ ys) = ap (λ zs. (x && y) ∷ zs) (intersection-short xs ys)

-- the flags where the first i slots were met
pub record Meeting (xs ys flags : List Bool) (i : ℕ) : Type 0 where
  pub within : i ≤ length xs
  pub shorter : length xs ≤ length ys
  pub made : flags ≡ intersection (take i xs) (take i ys) ++ drop i xs

taken : (xs : List Bool) (i : ℕ) → i ≤ length xs → length (take i xs) ≡ i
taken xs i h = grind (arith, length-take)

module _ (xs ys flags : List Bool) (i : ℕ) (m : Meeting xs ys flags i) where
  done : length (intersection (take i xs) (take i ys)) ≡ i
  done =
      let a = taken xs i m.within in
      let b = taken ys i (omega (arith, m.within, m.shorter)) in
      length-intersection (take i xs) (take i ys) (omega (arith, a, b)) ∙ a

  pub as_long : length flags ≡ length xs
  as_long =
      let d = done in
      let whole : length flags ≡ length (intersection (take i xs) (take i ys)) +
      length (drop i xs) =
      ap length m.made ∙ length-append (intersection (take i xs) (take i ys)) (drop i xs) in
      let rest : length (drop i xs) ≡ length xs - i = length-drop i xs in
      omega (arith, d, whole, rest, m.within)

  -- the slot that is met next
  pub met_next : i < length xs → (x v : Bool) → x ≡ get_or flags i x → v ≡
      (x && get_or ys i false) → Meeting xs ys (set flags i v) (i + 1)
  met_next h x v xe ve =
      let front = intersection (take i xs) (take i ys) in
      let here = get_or xs i x in
      let there = get_or ys i false in
      let hy : i < length ys = omega (arith, h, m.shorter) in
      let rest = drop (suc i) xs in
      let next : suc i ≡ i + 1 = omega arith in
      let split : flags ≡ front ++ here ∷ rest = m.made ∙
      ap (λ zs. front ++ zs) (drop-cons xs i x h) in
      let seam : get_or (front ++ here ∷ rest) i x ≡ here =
      ap (λ k. get_or (front ++ here ∷ rest) k x) (sym done) ∙
      get_or-append_seam front here rest x in
      let held : x ≡ here = xe ∙ ap (λ zs. get_or zs i x) split ∙ seam in
      let value : v ≡ (here && there) = ve ∙ ap (λ u. u && there) held in
      let both_more : intersection (take (i + 1) xs) (take (i + 1) ys) ≡ front ++ (here && there) ∷
      [] =
      (λ k. intersection (take_more xs i x h k) (take_more ys i false hy k))
      ∙ intersection-last (take i xs) (take i ys) here there
      (taken xs i m.within ∙ sym (taken ys i (omega (arith, m.within, m.shorter)))) in
      record {
        within = omega (arith, h);
        shorter = m.shorter;
        made =
            ap (λ zs. set zs i v) split ∙ ap (λ k. set (front ++ here ∷ rest) k v) (sym done) ∙
            set-append_seam front here rest v
            ∙ ap (λ u. front ++ u ∷ rest) value ∙
            sym (append_assoc front ((here && there) ∷ []) rest)
            ∙ (λ k. sym both_more k ++ drop (next k) xs);
      }

  -- where all were met, the flags are those in both
  pub met_all : length xs ≤ i → flags ≡ intersection xs ys
  met_all h =
      let e : i ≡ length xs = omega (arith, h, m.within) in
      let all : length xs ≤ length xs = omega arith in
      m.made ∙ (λ k. intersection (take (e k) xs) (take (e k) ys) ++ drop (e k) xs)
      ∙ (λ k. intersection (take-length xs k) (take (length xs) ys) ++ drop_of_length-le xs all k)
      ∙ append-nil (intersection xs (take (length xs) ys)) ∙ intersection-short xs ys

-- at the start nothing is met
pub met_none : (xs ys : List Bool) → Meeting (take (length ys) xs) ys (take (length ys) xs) 0
met_none xs ys = record { within = omega arith; shorter = short; made = refl }
  where
    short : length (take (length ys) xs) ≤ length ys
    short = grind (arith, length-take)

-- and at the end the slots of both are found
pub met_both : (xs ys flags : List Bool) (i : ℕ) → Meeting (take (length ys) xs) ys flags i →
    length flags ≤ i → flags ≡ intersection xs ys
met_both xs ys flags i m h =
    let long = as_long (take (length ys) xs) ys flags i m in
    met_all (take (length ys) xs) ys flags i m (omega (arith, long, h)) ∙ intersection-cut xs ys

-- Parts of stacks, and walks down two stacks of one depth to their largest common part.
use Rattle.std.proofs.Common.{◌≡◌, ◌∙◌, inl, inr, ap, sym, subst, refl, ℕ, zero, suc, ◌+◌, ◌-◌, ◌≤◌, arith, Option, Some, None, List}
use Rattle.std.proofs.lemmas.Option.{none-some, same_Some}
use Rattle.std.proofs.lemmas.Bool.{cases_lt}
use Rattle.rx_poly.specs.declared.body.Body.{Body}
use Rattle.rx_term.specs.Stacks.{suffix_at, depth_of, under_frame}
use Rattle.rx_term.specs.declared.term.Sym.{Sym}
use Rattle.rx_term.specs.declared.term.Term.{Term, Term-F, out-Term}
use Rattle.rx_term.specs.declared.term.Term.TheVariants.{Frame, outs-Return, outs-Fail, outs-Call, outs-Frame}
use Rattle.rx_term.proofs.Equations.{Form, AReturn, AFail, ACall, AFrame, form, suffix_at-Frame, depth-Return, depth-Fail, depth-Call, depth-Frame}
use Rattle.rx_term.proofs.KeepingLaws.{depth_after}
use Rattle.rx_pairs.specs.Common.{IsCommon, IsLargest, IsPart}

-- ---- parts

-- the whole is one
pub whole_part : (t : Term) → IsPart t t
whole_part t = (0, refl)

-- what is under its frame is one
pub inner_part : (f : Sym) (ps : List Body) (t : Term) → IsPart (Frame f ps t) t
inner_part f ps t = (1, suffix_at-Frame 0 f ps t)

abbrev Further : ℕ → Term → Type 0
Further n t = (s u : Term) → suffix_at n t ≡ Some s → IsPart s u → IsPart t u

further : (n : ℕ) → ((u : Term) → Further n u) → (t : Term) → Form t → Further (suc n) t
further n inner _ (AReturn p) s u h in_s =
    absurd (none-some s (sym (ap (λ (x : Term-F Term). under_frame x (suffix_at n)) (outs-Return p))
    ∙
    h))
further n inner _ (AFail c) s u h in_s =
    absurd (none-some s (sym (ap (λ (x : Term-F Term). under_frame x (suffix_at n)) (outs-Fail c)) ∙
    h))
further n inner _ (ACall f ps) s u h in_s =
    absurd (none-some s (sym (ap (λ (x : Term-F Term). under_frame x (suffix_at n))
    (outs-Call f ps)) ∙
    h))
further n inner _ (AFrame f ps t) s u h in_s =
    let (k, is) = inner t s u (sym (suffix_at-Frame n f ps t) ∙ h) in_s in
    (suc k, suffix_at-Frame k f ps t ∙ is)

along : (n : ℕ) (t : Term) → Further n t
along zero t = λ s u h in_s. subst (λ w. IsPart w u) (sym (same_Some t s h)) in_s
along (suc n) t = further n (λ u. along n u) t (form t)

-- a part of a part is a part
pub part_of_part : (t s u : Term) → IsPart t s → IsPart s u → IsPart t u
part_of_part t s u (n, h) in_s = along n t s u h in_s

-- a part is no deeper
pub part_depth : (t s : Term) → IsPart t s → depth_of s ≤ depth_of t
part_depth t s (n, h) = let d = depth_after n t s h in omega (arith, d)

-- parts of one depth are one
pub one_part : (t s u : Term) → IsPart t s → IsPart t u → depth_of s ≡ depth_of u → s ≡ u
one_part t s u (n, h) (m, g) same =
    let d = depth_after n t s h in
    let e = depth_after m t u g in
    let places : n ≡ m = omega (arith, d, e, same) in
    same_Some s u (sym h ∙ ap (λ k. suffix_at k t) places ∙ g)

-- under fewer frames is what more frames lead to
abbrev Behind : ℕ → Term → Type 0
Behind n t =
    (m : ℕ) (s u : Term) → suffix_at n t ≡ Some s → suffix_at (n + m) t ≡ Some u → suffix_at m s ≡
    Some u

behind_one : (n : ℕ) → ((u : Term) → Behind n u) → (t : Term) → Form t → Behind (suc n) t
behind_one n inner _ (AReturn p) m s u h g =
    absurd (none-some s (sym (ap (λ (x : Term-F Term). under_frame x (suffix_at n)) (outs-Return p))
    ∙
    h))
behind_one n inner _ (AFail c) m s u h g =
    absurd (none-some s (sym (ap (λ (x : Term-F Term). under_frame x (suffix_at n)) (outs-Fail c)) ∙
    h))
behind_one n inner _ (ACall f ps) m s u h g =
    absurd (none-some s (sym (ap (λ (x : Term-F Term). under_frame x (suffix_at n))
    (outs-Call f ps)) ∙
    h))
behind_one n inner _ (AFrame f ps t) m s u h g =
    let more : suc n + m ≡ suc (n + m) = omega arith in
    inner t m s u (sym (suffix_at-Frame n f ps t) ∙ h)
    (sym (suffix_at-Frame (n + m) f ps t) ∙ ap (λ k. suffix_at k (Frame f ps t)) (sym more) ∙ g)

behind_more : (n : ℕ) (t : Term) → Behind n t
behind_more zero t = λ m s u h g.
    let none : 0 + m ≡ m = omega arith in
    ap (suffix_at m) (sym (same_Some t s h)) ∙ ap (λ k. suffix_at k t) (sym none) ∙ g
behind_more (suc n) t = behind_one n (λ u. behind_more n u) t (form t)

-- of two parts the less deep is a part of the other
pub part_below : (t s u : Term) → IsPart t s → IsPart t u → depth_of u ≤ depth_of s → IsPart s u
part_below t s u (n, h) (m, g) most =
    let d = depth_after n t s h in
    let e = depth_after m t u g in
    let places : m ≡ n + (m - n) = omega (arith, d, e, most) in
    (m - n, behind_more n t (m - n) s u h (ap (λ k. suffix_at k t) (sym places) ∙ g))

-- ---- frames

module _ (f g : Sym) (ps qs : List Body) (t u : Term) (e : Frame f ps t ≡ Frame g qs u) where
  opened : Term-F.Frame f ps t ≡ Term-F.Frame g qs u
  opened = sym (outs-Frame f ps t) ∙ ap out-Term e ∙ outs-Frame g qs u

  -- two frames that are one have the same symbol, arguments, and part under them
  pub frame_symbol : f ≡ g
  frame_symbol = let o = opened in cc

  pub frame_arguments : ps ≡ qs
  frame_arguments = let o = opened in cc

  pub frame_inner : t ≡ u
  frame_inner = let o = opened in cc

module _ (a b here there h t : Term) (f g : Sym) (ps qs : List Body) (inner further : Term)
    (is : here ≡ Frame f ps inner) (other : there ≡ Frame g qs further) (at : h ≡ inner)
    (to : t ≡ further) where
  -- one frame of both stepped over
  pub step_over : (IsPart a here → IsPart a h) ×
      (depth_of here - depth_of there ≡ depth_of a - depth_of b → depth_of h - depth_of t ≡
      depth_of a - depth_of b)
  step_over =
      let first : depth_of here ≡ 1 + depth_of h = ap depth_of is ∙ depth-Frame f ps inner ∙
      ap (λ u. 1 + depth_of u) (sym at) in
      let second : depth_of there ≡ 1 + depth_of t = ap depth_of other ∙ depth-Frame g qs further ∙
      ap (λ u. 1 + depth_of u) (sym to) in
      let under : IsPart here h = subst (λ x. IsPart x h) (sym is)
      (subst (IsPart (Frame f ps inner)) (sym at) (inner_part f ps inner)) in
      (λ in_a. part_of_part a here h in_a under, λ level. omega (arith, first, second, level))

-- ---- walks down two stacks of one depth

-- both are at one depth; where what is left is the same, all from the start on is common; and no
-- part of both is larger than the start, or as large as what is left where that differs
pub record Walk (a b here there start : Term) : Type 0 where
  pub level : depth_of here ≡ depth_of there
  pub first : IsPart a here
  pub second : IsPart b there
  pub begins : IsPart b start
  pub common : here ≡ there → IsPart a start
  pub largest : (u : Term) → IsPart a u → IsPart b u → depth_of u ≤ depth_of start
  pub ends : (u : Term) → IsPart a u → IsPart b u → depth_of here ≤ depth_of u → here ≡ there

-- it begins at the whole
pub begin : (a b : Term) → depth_of a ≡ depth_of b → Walk a b a b b
begin a b level = record {
  level = level;
  first = whole_part a;
  second = whole_part b;
  begins = whole_part b;
  common = λ same. subst (IsPart a) same (whole_part a);
  largest = λ u in_a in_b. part_depth b u in_b;
  ends = λ u in_a in_b deep.
      let most = part_depth a u in_a in
      let here = one_part a a u (whole_part a) in_a (omega (arith, deep, most)) in
      let there = one_part b b u (whole_part b) in_b (omega (arith, deep, most, level)) in
      here ∙ sym there;
}

module _ (a b : Term) (f g : Sym) (ps qs : List Body) (h t start : Term)
    (w : Walk a b (Frame f ps h) (Frame g qs t) start) where
  abbrev left_depth : depth_of (Frame f ps h) ≡ 1 + depth_of h
  left_depth = depth-Frame f ps h

  abbrev right_depth : depth_of (Frame g qs t) ≡ 1 + depth_of t
  right_depth = depth-Frame g qs t

  level_under : depth_of h ≡ depth_of t
  level_under = let l = w.level in omega (arith, l, left_depth, right_depth)

  first_under : IsPart a h
  first_under = part_of_part a (Frame f ps h) h w.first (inner_part f ps h)

  second_under : IsPart b t
  second_under = part_of_part b (Frame g qs t) t w.second (inner_part g qs t)

  ends_under : (u : Term) → IsPart a u → IsPart b u → depth_of h ≤ depth_of u → h ≡ t
  ends_under u in_a in_b deep = elim (cases_lt (depth_of h) (depth_of u)) [
    | inl less ↦ frame_inner f g ps qs h t (w.ends u in_a in_b (omega (arith, less, left_depth)))
    | inr not ↦
        one_part a h u first_under in_a (omega (arith, deep, not))
        ∙ sym (one_part b t u second_under in_b (omega (arith, deep, not, level_under)))
  ]

  -- after two frames that are the same the start stays
  pub after_same : f ≡ g → ps ≡ qs → Walk a b h t start
  after_same symbols arguments = record {
    level = level_under;
    first = first_under;
    second = second_under;
    begins = w.begins;
    common = λ same. w.common (λ i. Frame (symbols i) (arguments i) (same i));
    largest = w.largest;
    ends = ends_under;
  }

  -- after two that differ is a new one
  pub after_different : ((f ≡ g) × (ps ≡ qs) → ⊥) → Walk a b h t t
  after_different differ = record {
    level = level_under;
    first = first_under;
    second = second_under;
    begins = second_under;
    common = λ same. subst (IsPart a) same first_under;
    largest = λ u in_a in_b. elim (cases_lt (depth_of h) (depth_of u)) [
      | inl less ↦
          let same = w.ends u in_a in_b (omega (arith, less, left_depth)) in
          absurd (differ (frame_symbol f g ps qs h t same, frame_arguments f g ps qs h t same))
      | inr not ↦ omega (arith, not, level_under)
    ];
    ends = ends_under;
  }

-- one turn of the walk, with what it reads
module _ (a b here there h t start : Term) (f g : Sym) (ps qs : List Body) (inner further : Term)
    (w : Walk a b here there start)
    (is : here ≡ Frame f ps inner) (other : there ≡ Frame g qs further) (at : h ≡ inner)
    (to : t ≡ further) where
  read : Walk a b (Frame f ps inner) (Frame g qs further) start
  read =
      subst (λ x. Walk a b x (Frame g qs further) start) is
      (subst (λ y. Walk a b here y start) other w)

  pub next_same : (f ≡ g) × (ps ≡ qs) → Walk a b h t start
  next_same same =
      subst (λ x. Walk a b x t start) (sym at)
      (subst (λ y. Walk a b inner y start) (sym to)
      (after_same a b f g ps qs inner further start read same.0 same.1))

  pub next_different : ((f ≡ g) × (ps ≡ qs) → ⊥) → Walk a b h t t
  next_different differ =
      subst (λ x. Walk a b x t t) (sym at)
      (subst (λ y. Walk a b inner y y) (sym to)
      (after_different a b f g ps qs inner further start read differ))

-- it ends where nothing is left of either
module _ (a b here there start : Term) (w : Walk a b here there start) (none : depth_of here ≡ 0)
  where
    pub found_common : here ≡ there → IsLargest a b start
    found_common same =
        record { of_first = w.common same; of_second = w.begins; largest = w.largest }

    pub found_none : (here ≡ there → ⊥) → (u : Term) → IsPart a u → IsPart b u → ⊥
    found_none differ u in_a in_b = differ (w.ends u in_a in_b (omega (arith, none)))

-- ---- stacks of two depths

-- a common part of two stacks is one of their parts that are as deep
module _ (a b here there : Term) (in_a : IsPart a here) (in_b : IsPart b there)
    (level : depth_of here ≡ depth_of there)
    (deep : (u : ℕ) → u ≤ depth_of a → u ≤ depth_of b → u ≤ depth_of here) where
  of_both : (u : Term) → IsPart a u → IsPart b u → IsPart here u × IsPart there u
  of_both u of_a of_b =
      let most = deep (depth_of u) (part_depth a u of_a) (part_depth b u of_b) in (
        part_below a here u in_a of_a most,
        part_below b there u in_b of_b
            (omega (arith, most, level)),
      )

  pub at_level : (found : Option Term) → IsCommon here there found → IsCommon a b found
  at_level None none = λ u of_a of_b. let both = of_both u of_a of_b in none u both.0 both.1
  at_level (Some t) one = record {
    of_first = part_of_part a here t in_a one.of_first;
    of_second = part_of_part b there t in_b one.of_second;
    largest = λ u of_a of_b. let both = of_both u of_a of_b in one.largest u both.0 both.1;
  }

-- ---- ends

abbrev pub IsEnd : Term → Type 0
IsEnd t = (f : Sym) (ps : List Body) (u : Term) → t ≡ Frame f ps u → ⊥

-- what is no frame has none
no_depth : (t : Term) → Form t → IsEnd t → depth_of t ≡ 0
no_depth _ (AReturn p) end = depth-Return p
no_depth _ (AFail c) end = depth-Fail c
no_depth _ (ACall f ps) end = depth-Call f ps
no_depth _ (AFrame f ps t) end = absurd (end f ps t refl)

pub end_depth : (t : Term) → IsEnd t → depth_of t ≡ 0
end_depth t end = no_depth t (form t) end

pub none_deep : (m d : ℕ) → d ≡ m - m → d ≡ 0
none_deep m d is = omega (arith, is)

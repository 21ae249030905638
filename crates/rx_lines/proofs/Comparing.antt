-- A text begins with lines in one way.
use Rattle.std.proofs.Common.{◌≡◌, ◌∙◌, ap, refl, sym, ◌⊎◌, inl, inr, ℕ, true, false, Bool, List, [], ◌∷◌, ◌++◌, ◌&&◌, eqb, not, append_assoc}
use Rattle.std.proofs.lemmas.Bool.{and_parts}
use Rattle.std.proofs.lemmas.List.{append-nil}
use Rattle.std.proofs.lemmas.List.Folds.{list_all-append}
use Rattle.std.specs.List.{list_all}
use Rattle.rx_lines.specs.Texts.{ended, is_one_line}
use Rattle.rx_lines.proofs.Cuts.{cut_once}

-- these lines are the other ones and then more, which begin what is left after the other ones
pub record GoesOn (xs ys : List (List ℕ)) (left rest : List ℕ) : Type 0 where
  pub more : List (List ℕ)
  pub whole : ys ≡ xs ++ more
  pub one_by_one : list_all is_one_line more ≡ true
  pub is : left ≡ ended more ++ rest

pub regroup : (x : List ℕ) (xs : List (List ℕ)) (left : List ℕ)
    → ended (x ∷ xs) ++ left ≡ x ++ 10 ∷ (ended xs ++ left)
regroup x xs left = simp append_assoc

behind : (x : List ℕ) {xs ys : List ℕ} → x ++ 10 ∷ xs ≡ x ++ 10 ∷ ys → xs ≡ ys
behind [] e = cc
behind (b ∷ x) {xs} {ys} e =
    let f : x ++ 10 ∷ xs ≡ x ++ 10 ∷ ys = cc in behind x f

one_more : {x y : List ℕ} {xs ys : List (List ℕ)} {left rest : List ℕ} → x ≡ y
    → GoesOn xs ys left rest → GoesOn (x ∷ xs) (y ∷ ys) left rest
one_more {x} {y} {xs} e g = record {
  more = g.more;
  whole = (λ i. sym e i ∷ g.whole i);
  one_by_one = g.one_by_one;
  is = g.is;
}

-- where the same text begins with two lists of lines, one of them goes on with the other
pub compared : (xs ys : List (List ℕ)) (left rest : List ℕ) → list_all is_one_line xs ≡ true
    → list_all is_one_line ys ≡ true → ended xs ++ left ≡ ended ys ++ rest
    → GoesOn xs ys left rest ⊎ GoesOn ys xs rest left
compared [] ys left rest p q e =
    inl (record { more = ys; whole = refl; one_by_one = q; is = e })
compared (x ∷ xs) [] left rest p q e =
    inr (record { more = x ∷ xs; whole = refl; one_by_one = p; is = sym e })
compared (x ∷ xs) (y ∷ ys) left rest p q e =
    let a = and_parts (is_one_line x) (list_all is_one_line xs) p in
    let b = and_parts (is_one_line y) (list_all is_one_line ys) q in
    let f : x ++ 10 ∷ (ended xs ++ left) ≡ y ++ 10 ∷ (ended ys ++ rest) =
    sym (regroup x xs left) ∙ e ∙ regroup y ys rest in
    let same : x ≡ y = cut_once x y (ended xs ++ left) (ended ys ++ rest) a.0 b.0 f in
    let g : x ++ 10 ∷ (ended xs ++ left) ≡ x ++ 10 ∷ (ended ys ++ rest) =
    f ∙ ap (λ z. z ++ 10 ∷ (ended ys ++ rest)) (sym same) in
    elim (compared xs ys left rest a.1 b.1 (behind x g)) [
      | inl h ↦ inl (one_more same h)
      | inr h ↦ inr (one_more (sym same) h)
    ]

-- ---- what no line is

pub nothing_ended : (next rest : List ℕ) → [] ≡ next ++ 10 ∷ rest → ⊥
nothing_ended [] rest e = cc
nothing_ended (byte ∷ next) rest e = cc

never_true : (b : Bool) → (b && false) ≡ true → ⊥
never_true true e = cc
never_true false e = cc

-- one line has no line feed in it
pub not_one_line : (left next rest : List ℕ) → is_one_line left ≡ true → left ≡ next ++ 10 ∷ rest →
    ⊥
not_one_line left next rest one e =
    let split : is_one_line (next ++ 10 ∷ rest) ≡ (is_one_line next && false) =
    list_all-append (λ byte. not (eqb byte 10)) next (10 ∷ rest) in
    let f : is_one_line next && false ≡ true = sym split ∙ ap is_one_line (sym e) ∙ one in
    never_true (is_one_line next) f

-- ---- whole texts

same_whole : {xs ys : List (List ℕ)} → GoesOn xs ys [] [] → xs ≡ ys
same_whole {xs} {ys} g = by g.more g.whole g.is
  where
    by : (more : List (List ℕ)) → ys ≡ xs ++ more → [] ≡ ended more ++ [] → xs ≡ ys
    by [] whole is = sym (append-nil xs) ∙ sym whole
    by (next ∷ more) whole is = absurd
        (nothing_ended next (ended more ++ []) (is ∙ regroup next more []))

-- a text is that of one list of lines
pub same_texts : (xs ys : List (List ℕ)) → list_all is_one_line xs ≡ true
    → list_all is_one_line ys ≡ true → ended xs ≡ ended ys → xs ≡ ys
same_texts xs ys p q e =
    let both : ended xs ++ [] ≡ ended ys ++ [] = ap (λ (text : List ℕ). text ++ []) e in
    elim (compared xs ys [] [] p q both) [
      | inl g ↦ same_whole g
      | inr g ↦ sym (same_whole g)
    ]

-- one line more
pub ended-push : (texts : List (List ℕ)) (next rest : List ℕ) → ended texts ++ (next ++ 10 ∷ rest) ≡
    ended (texts ++ next ∷ []) ++ rest
ended-push [] next rest = simp (append_assoc, append-nil)
ended-push (t ∷ ts) next rest = simp (append_assoc, ended-push ts next rest)

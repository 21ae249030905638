-- One pair more that stays or is closed, and which pairs are closed in the end.
use Rattle.std.proofs.Common.{◌≡◌, ◌∙◌, ap, refl, sym, cond, ℕ, Bool, true, false, Option, Some, None, List, [], ◌∷◌, ◌++◌, append-nil, length, set}
use Rattle.std.specs.List.{filter}
use Rattle.std.proofs.lemmas.List.{length-set}
use Rattle.std.proofs.lemmas.List.Elements.{filter-append}
use Rattle.rx_pairs.specs.declared.pair_cert.PairCert.{PairCert}
use Rattle.rx_find_ranks.specs.Closing.{Fitted, close_all, closing, fallen, left_open, with_certs}
use Rattle.rx_find_ranks.specs.declared.open_pair.OpenPair.{OpenPair}

pub filter_one : {A : Type 0} (p : A → Bool) (xs : List A) (x : A) → p x ≡ true →
    filter p (xs ++ x ∷ []) ≡ filter p xs ++ x ∷ []
filter_one p xs x e = filter-append p xs (x ∷ []) ∙ ap (λ b. filter p xs ++ cond b (x ∷ []) []) e

pub filter_skip : {A : Type 0} (p : A → Bool) (xs : List A) (x : A) → p x ≡ false →
    filter p (xs ++ x ∷ []) ≡ filter p xs
filter_skip p xs x e =
    filter-append p xs (x ∷ []) ∙ ap (λ b. filter p xs ++ cond b (x ∷ []) []) e ∙
    append-nil (filter p xs)

pub close_more : (column : ℕ) (closed : List (Option PairCert)) (os : List OpenPair) (o : OpenPair)
    → close_all column closed (os ++ o ∷ []) ≡
    set (close_all column closed os) o.number (Some (closing column o))
close_more column closed [] o = refl
close_more column closed (x ∷ os) o =
    close_more column (set closed x.number (Some (closing column x))) os o

-- some pairs and then others
pub close_both : (column : ℕ) (closed : List (Option PairCert)) (os ps : List OpenPair) →
    close_all column closed (os ++ ps) ≡ close_all column (close_all column closed os) ps
close_both column closed [] ps = refl
close_both column closed (x ∷ os) ps =
    close_both column (set closed x.number (Some (closing column x))) os ps

pub close_count : (column : ℕ) (closed : List (Option PairCert)) (os : List OpenPair) →
    length (close_all column closed os) ≡ length closed
close_count column closed [] = refl
close_count column closed (o ∷ os) =
    close_count column (set closed o.number (Some (closing column o))) os ∙
    length-set closed o.number (Some (closing column o))

-- ---- one pair more at a column of polynomials

left_append : (xs ys : List Fitted) → left_open (xs ++ ys) ≡ left_open xs ++ left_open ys
left_append [] ys = refl
left_append (((o, held), None) ∷ xs) ys = ap (λ os. with_certs o held ∷ os) (left_append xs ys)
left_append (((o, held), Some more) ∷ xs) ys = left_append xs ys

fallen_append : (xs ys : List Fitted) → fallen (xs ++ ys) ≡ fallen xs ++ fallen ys
fallen_append [] ys = refl
fallen_append (((o, held), None) ∷ xs) ys = fallen_append xs ys
fallen_append (((o, held), Some more) ∷ xs) ys =
    ap (λ os. with_certs o more ∷ os) (fallen_append xs ys)

-- the pair at hand stays or falls after those before it
module _ (xs : List Fitted) (x : Fitted) where
  pub one_stays : left_open xs ++ left_open (x ∷ []) ≡ left_open (xs ++ x ∷ [])
  one_stays = sym (left_append xs (x ∷ []))

  pub one_falls : (column : ℕ) (closed : List (Option PairCert)) →
      close_all column (close_all column closed (fallen xs)) (fallen (x ∷ [])) ≡
      close_all column closed (fallen (xs ++ x ∷ []))
  one_falls column closed =
      sym (close_both column closed (fallen xs) (fallen (x ∷ []))) ∙
      ap (close_all column closed) (sym (fallen_append xs (x ∷ [])))

-- The order of weights is well-founded: nested induction over the rank taken out, the rest, and the
-- ranks inserted.
use Rattle.std.proofs.Common.{◌≡◌, ◌<◌, Bool, true, false, inl, inr, [], ◌∷◌, ◌++◌, refl, ap, arith}
use mathlib.Core.WellFounded.{Acc}
use mathlib.Core.WellFounded.Acc
use Rattle.rx_rewriting.specs.Ranks.{Rank, RankLess, same_rank, Weight, times, IsPermutation, AllBelow, Smaller}
use Rattle.rx_rewriting.proofs.Counting.{same_rank-true, times-append, times-first, without, IsPermutation-without, IsPermutation-trans, not_Alike-nil}
use Rattle.rx_rewriting.proofs.RankOrder.{rank_accessible}

-- each of these ranks is below the one rank
abbrev pub BelowThis : Rank → Weight → Type 0
BelowThis a [] = Unit {0}
BelowThis a (r ∷ put) = RankLess r a × BelowThis a put

-- v comes from w by taking out one rank and inserting finitely many below it
pub record OneOut (v w : Weight) : Type 0 where
  pub out : Rank
  pub kept : Weight
  pub put : Weight
  pub old : IsPermutation w (out ∷ kept)
  pub new : IsPermutation v (put ++ kept)
  pub below : BelowThis out put

-- accessibility does not see the order of a list
same_accessible : (v w : Weight) → IsPermutation v w → Acc OneOut v → Acc OneOut w
same_accessible v w same (Acc.intro at smaller) =
    Acc.intro w (λ u one. smaller u (record {
      out = one.out;
      kept = one.kept;
      put = one.put;
      old = IsPermutation-trans at w (one.out ∷ one.kept) same one.old;
      new = one.new;
      below = one.below;
    }))

-- where any lower rank may be added on top of an accessible weight, finitely many may
put_accessible : (a : Rank) → ((b : Rank) → RankLess b a → (w : Weight) → Acc OneOut w →
    Acc OneOut (b ∷ w))
    → (put : Weight) → BelowThis a put → (w : Weight) → Acc OneOut w → Acc OneOut (put ++ w)
put_accessible a lesser [] below w rest = rest
put_accessible a lesser (b ∷ put) below w rest =
    lesser b below.0 (put ++ w) (put_accessible a lesser put below.1 w rest)

-- one more rank on top of an accessible weight, where all lesser ranks may be added on top of any
on_top : (a : Rank) → ((b : Rank) → RankLess b a → (w : Weight) → Acc OneOut w → Acc OneOut (b ∷ w))
    → (w : Weight) → Acc OneOut w → Acc OneOut (a ∷ w)
on_top a lesser w (Acc.intro at smaller) =
    Acc.intro (a ∷ at) (λ v one. go v one (same_rank one.out a) refl
    (λ u o. on_top a lesser u (smaller u o)))
  where
    go : (v : Weight) (one : OneOut v (a ∷ at)) (b : Bool) → same_rank one.out a ≡ b
        → ((u : Weight) → OneOut u at → Acc OneOut (a ∷ u)) → Acc OneOut v
    go v one true e again =
        let equal : one.out ≡ a = same_rank-true one.out a e in
        let below : BelowThis a one.put = rw equal at one.below in
        same_accessible (one.put ++ at) v
        (λ r. omega (
          arith,
          one.new r,
          (rw equal at one.old) r,
          times-append r one.put one.kept,
          times-append r one.put at,
        ))
        (put_accessible a lesser one.put below at (Acc.intro at smaller))
    go v one false e again =
        let there : 0 < times one.out at =
        omega (arith, rw e at (one.old one.out), times-first one.out one.kept) in
        let rest : Weight = without one.out at in
        let moved : IsPermutation at (one.out ∷ rest) = IsPermutation-without one.out at there in
        same_accessible (a ∷ (one.put ++ rest)) v
        (λ r. omega (
          arith,
          one.new r,
          one.old r,
          moved r,
          times-append r one.put one.kept,
          times-append r one.put rest,
        ))
        (again (one.put ++ rest) (record {
          out = one.out;
          kept = rest;
          put = one.put;
          old = moved;
          new = λ r. refl;
          below = one.below;
        }))

-- any rank may be added on top of an accessible weight
any_on_top : (a : Rank) → Acc RankLess a → (w : Weight) → Acc OneOut w → Acc OneOut (a ∷ w)
any_on_top a (Acc.intro top smaller) w rest =
    on_top top (λ b less. any_on_top b (smaller b less)) w rest

-- single exchanges end
pub one_out_accessible : (w : Weight) → Acc OneOut w
one_out_accessible [] = Acc.intro [] (λ v one. absurd (not_Alike-nil one.out one.kept one.old))
one_out_accessible (a ∷ w) = any_on_top a (rank_accessible a) w (one_out_accessible w)

-- one or more single exchanges, from the right weight to the left one
pub data Exchanges : Weight → Weight → Type 0 where
  LastOne : {v w : Weight} → OneOut v w → Exchanges v w
  OneBefore : {u v w : Weight} → Exchanges u v → OneOut v w → Exchanges u w

-- what is accessible by single exchanges is so by rows of them
exchanges_accessible : (w : Weight) → Acc OneOut w → Acc Exchanges w
exchanges_accessible w (Acc.intro at smaller) =
    Acc.intro at (λ u row. go u at row (λ v one. exchanges_accessible v (smaller v one)))
  where
    go : (u w : Weight) → Exchanges u w → ((v : Weight) → OneOut v w → Acc Exchanges v) →
        Acc Exchanges u
    go u w (LastOne one) again = again u one
    go u w (OneBefore {v = v} row one) again = Acc.inv (again v one) row

-- ranks, each below the first or below one of the others, cut into those below the first and those
-- below another
pub record Split (first : Rank) (others put : Weight) : Type 0 where
  pub mine : Weight
  pub theirs : Weight
  pub together : IsPermutation put (mine ++ theirs)
  pub below_first : BelowThis first mine
  pub below_others : AllBelow others theirs

-- ranks below one of those taken out can be cut so
split : (first : Rank) (others put : Weight) → AllBelow (first ∷ others) put →
    Split first others put
split first others [] below =
    record { mine = []; theirs = []; together = λ r. refl; below_first = tt; below_others = tt }
split first others (r ∷ put) (inl less, below) =
    let s = split first others put below in
    record {
      mine = r ∷ s.mine;
      theirs = s.theirs;
      together = λ q. omega (arith, s.together q);
      below_first = (less, s.below_first);
      below_others = s.below_others;
    }
split first others (r ∷ put) (inr less, below) =
    let s = split first others put below in
    record {
      mine = s.mine;
      theirs = r ∷ s.theirs;
      together = λ q. omega (
        arith,
        s.together q,
        times-append q s.mine s.theirs,
        times-append q s.mine (r ∷ s.theirs),
      );
      below_first = s.below_first;
      below_others = (less, s.below_others);
    }

-- where nothing may be below, nothing is inserted
none_below : (put : Weight) → AllBelow [] put → put ≡ []
none_below [] below = refl
none_below (r ∷ put) below = absurd below.0

-- taking out some ranks and inserting lower ones is a row of single exchanges
row : (first : Rank) (others kept put v w : Weight) → IsPermutation w ((first ∷ others) ++ kept) →
    IsPermutation v (put ++ kept)
    → AllBelow (first ∷ others) put → Exchanges v w
row first [] kept put v w old new below =
    let s = split first [] put below in
    let empty = none_below s.theirs s.below_others in
    LastOne (record {
      out = first;
      kept = kept;
      put = s.mine;
      old = old;
      new = λ r. omega (
        arith,
        new r,
        s.together r,
        times-append r put kept,
        times-append r s.mine s.theirs,
        times-append r s.mine kept,
        ap (times r) empty,
      );
      below = s.below_first;
    })
row first (next ∷ others) kept put v w old new below =
    let s = split first (next ∷ others) put below in
    let middle : Weight = (next ∷ others) ++ (s.mine ++ kept) in
    OneBefore {v = middle}
    (row next others (s.mine ++ kept) s.theirs v middle (λ r. refl)
    (λ r. omega (
      arith,
      new r,
      s.together r,
      times-append r put kept,
      times-append r s.mine s.theirs,
      times-append r s.mine kept,
      times-append r s.theirs (s.mine ++ kept),
    ))
    s.below_others)
    (record {
      out = first;
      kept = (next ∷ others) ++ kept;
      put = s.mine;
      old = old;
      new = λ r. omega (
        arith,
        times-append r (next ∷ others) (s.mine ++ kept),
        times-append r (next ∷ others) kept,
        times-append r s.mine kept,
        times-append r s.mine ((next ∷ others) ++ kept),
      );
      below = s.below_first;
    })

-- a smaller weight comes by a row of single exchanges
pub Smaller-exchanges : (v w : Weight) → Smaller v w → Exchanges v w
Smaller-exchanges v w less =
    row less.first less.others less.kept less.put v w less.old less.new less.below

-- what is accessible by rows of exchanges is so by the order of weights
smaller_accessible : (w : Weight) → Acc Exchanges w → Acc Smaller w
smaller_accessible w (Acc.intro at lesser) =
    Acc.intro at (λ v less. smaller_accessible v (lesser v (Smaller-exchanges v at less)))

-- the order of weights is well-founded
pub weight_accessible : (w : Weight) → Acc Smaller w
weight_accessible w = smaller_accessible w (exchanges_accessible w (one_out_accessible w))

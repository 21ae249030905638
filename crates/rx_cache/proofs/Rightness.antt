-- Entries whose answers are right stay so.
use Rattle.std.proofs.Common.{sym, subst, take, Option, Result, Ok, Err, List, [], ◌∷◌, ◌++◌}
use Rattle.std.proofs.lemmas.List.Elements.{All-append, All-cons, All-head, All-nil, All-tail, All-take}
use Rattle.rx_row.specs.declared.row.Row.{Row}
use Rattle.rx_cert.specs.declared.cert.Cert.{Cert}
use Rattle.rx_fm.specs.declared.fm_end.FmEnd.{FmEnd}
use Rattle.rx_solve.specs.Answers.{Answers}
use Rattle.rx_cache.specs.Cache.{AreRight, Entry, IsPromoted, Repeats, answer_of}
use Rattle.rx_cache.specs.declared.cached_answer.CachedAnswer.{CachedAnswer}
use Rattle.rx_cache.specs.declared.cached_answer.CachedAnswer.TheVariants.{Refuted, NotRefuted, TooLarge}

abbrev IsRight : Entry → Type 0
IsRight e = Answers e.0 (answer_of e.1)

-- of entries before and after others
parts : (xs ys : List Entry) → AreRight (xs ++ ys) → AreRight xs × AreRight ys
parts [] ys right = (All-nil IsRight, right)
parts (x ∷ xs) ys right =
    let rest = parts xs ys (All-tail IsRight x (xs ++ ys) right) in
    (All-cons IsRight x xs (All-head IsRight x (xs ++ ys) right) rest.0, rest.1)

module _ (rows : List Row) (cached : CachedAnswer) where
  -- the answer of an entry that goes to the front is right
  pub promoted_right : (before after : List Entry) → AreRight before →
      IsPromoted rows cached before after → Answers rows (answer_of cached)
  promoted_right before after right p =
      All-head IsRight (rows, cached) p.older
      (parts p.newer ((rows, cached) ∷ p.older) (subst AreRight p.was right)).1

  -- and all are right again
  pub right_then : (before after : List Entry) → AreRight before →
      IsPromoted rows cached before after → AreRight after
  right_then before after right p =
      let both = parts p.newer ((rows, cached) ∷ p.older) (subst AreRight p.was right) in
      let rest : AreRight (p.newer ++ p.older) =
      All-append IsRight p.newer p.older both.0 (All-tail IsRight (rows, cached) p.older both.1)
      in
      subst AreRight (sym p.becomes) (All-cons IsRight (rows, cached) (p.newer ++ p.older)
      (All-head IsRight (rows, cached) p.older both.1) rest)

  -- all are right with a new one in front
  pub right_with : (n : _) (es : List Entry) → AreRight es → Answers rows (answer_of cached) →
      AreRight ((rows, cached) ∷ take n es)
  right_with n es right answer =
      All-cons IsRight (rows, cached) (take n es) answer (All-take IsRight n es right)

-- a right answer is right when it is given once more
pub repeated_right : (rows : List Row) (cached : CachedAnswer) (result : Result (Option Cert) FmEnd)
    → Answers rows (answer_of cached) → Repeats cached result → Answers rows result
repeated_right rows (Refuted cert) (Ok answer) right again =
    subst (λ a. Answers rows (Ok a)) (sym again) right
repeated_right rows (Refuted cert) (Err e) right again = λ large. cc
repeated_right rows NotRefuted result right again = subst (Answers rows) (sym again) right
repeated_right rows TooLarge result right again = subst (Answers rows) (sym again) right

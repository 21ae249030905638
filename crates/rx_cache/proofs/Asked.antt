-- What becomes of a cache where an answer is kept in it, or memory runs out for that.
use Rattle.std.proofs.Common.{◌≡◌, ◌⊎◌, ap, sym, subst, ◌-◌, Option, Result, Ok, Err, List, inl, inr}
use Rattle.std.specs.Prelude.{OnOk, OnErr}
use Rattle.lru.specs.LruCache.{LruCache}
use Rattle.rx_row.specs.declared.row.Row.{Row}
use Rattle.rx_cert.specs.declared.cert.Cert.{Cert}
use Rattle.rx_fm.specs.declared.fm_end.FmEnd.{FmEnd}
use Rattle.rx_solve.specs.Answers.{Answers}
use Rattle.rx_cache.specs.Cache.{AreRight, IsKept}
use Rattle.rx_cache.specs.declared.cached_answer.CachedAnswer.{CachedAnswer}
use Rattle.rx_cache.proofs.Rightness.{right_with}

-- a cache of answers
abbrev pub Cache : Type 0
Cache = LruCache (List Row) CachedAnswer

module _ (rows : List Row) (answer : Result (Option Cert) FmEnd) (before after : Cache) where
  -- the entries are right after a right answer, whether it is kept or not
  pub kept_right : {A E : Type 0} (r : Result A E) → OnOk r (IsKept rows before answer after) →
      OnErr r (after ≡ before) → AreRight before.entries → Answers rows answer →
      AreRight after.entries
  kept_right (Ok x) k same right says =
      let entries = sym (ap (λ (m : Cache). m.entries) k.2) in
      subst AreRight entries (right_with rows k.0 (before.cap - 1) before.entries right
      (subst (Answers rows) k.1 says))
  kept_right (Err e) k same right says = subst (λ (m : Cache). AreRight m.entries) (sym same) right

  -- the answer becomes an entry, or the cache stays as it was
  pub stored_or_not : {A E : Type 0} (r : Result A E) → OnOk r (IsKept rows before answer after) →
      OnErr r (after ≡ before) → IsKept rows before answer after ⊎ (after ≡ before)
  stored_or_not (Ok x) k same = inl k
  stored_or_not (Err e) k same = inr same

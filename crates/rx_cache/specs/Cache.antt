-- Entries of a cache of answers, the most recently used first.
use Rattle.std.specs.Prelude.{◌≡◌, ◌-◌, All, take, Option, Some, None, Result, Ok, Err, List, ◌∷◌, ◌++◌}
use Rattle.lru.specs.LruCache.{LruCache, lru_cache}
use Rattle.rx_row.specs.declared.row.Row.{Row}
use Rattle.rx_cert.specs.declared.cert.Cert.{Cert}
use Rattle.rx_fm.specs.declared.fm_end.FmEnd.{FmEnd}
use Rattle.rx_fm.specs.declared.fm_end.FmEnd.TheVariants.{Large, NoMemory}
use Rattle.rx_solve.specs.Answers.{Answers}
use Rattle.rx_cache.specs.declared.cached_answer.CachedAnswer.{CachedAnswer}
use Rattle.rx_cache.specs.declared.cached_answer.CachedAnswer.TheVariants.{Refuted, NotRefuted, TooLarge}

-- ---- answers

-- the answer that is cached
abbrev pub answer_of : CachedAnswer → Result (Option Cert) FmEnd
answer_of (Refuted cert) = Ok (Some cert)
answer_of NotRefuted = Ok None
answer_of TooLarge = Err Large

-- it is given once more; memory may run out where there is a certificate to copy
abbrev pub Repeats : CachedAnswer → Result (Option Cert) FmEnd → Type 0
Repeats (Refuted cert) (Ok answer) = answer ≡ Some cert
Repeats (Refuted cert) (Err e) = e ≡ NoMemory
Repeats NotRefuted result = result ≡ Ok None
Repeats TooLarge result = result ≡ Err Large

-- ---- entries

-- rows, and what was answered of them
abbrev pub Entry : Type 0
Entry = List Row × CachedAnswer

-- each entry's answer is right for its rows
abbrev pub AreRight : List Entry → Type 0
AreRight = All (λ (e : Entry). Answers e.0 (answer_of e.1))

-- no entry has the rows
abbrev pub NoneHas : List Row → List Entry → Type 0
NoneHas rows = All (λ (e : Entry). ¬ (e.0 ≡ rows))

-- an entry has the rows and that answer; it goes to the front, and the others keep their order
pub record IsPromoted (rows : List Row) (cached : CachedAnswer) (before after : List Entry) : Type 0
  where
    pub newer : List Entry
    pub older : List Entry
    pub first : NoneHas rows newer
    pub was : before ≡ newer ++ (rows, cached) ∷ older
    pub becomes : after ≡ (rows, cached) ∷ (newer ++ older)

-- ---- caches

-- the answer of the entry that has the rows is given once more, and the entry goes to the front; or
-- none has them
abbrev pub AfterRecall : List Row → LruCache (List Row) CachedAnswer →
    LruCache (List Row) CachedAnswer → Option (Result (Option Cert) FmEnd) → Type 0
AfterRecall rows before after None = NoneHas rows before.entries × (after ≡ before)
AfterRecall rows before after (Some result) =
    (cached : CachedAnswer) × IsPromoted rows cached before.entries after.entries ×
    Repeats cached result × (after.cap ≡ before.cap)

-- the answer becomes that of the rows, in front, and from a full cache the last entry goes
abbrev pub IsKept : List Row → LruCache (List Row) CachedAnswer → Result (Option Cert) FmEnd →
    LruCache (List Row) CachedAnswer → Type 0
IsKept rows before answer after =
    (cached : CachedAnswer) × (answer ≡ answer_of cached) ×
    (after ≡ lru_cache ((rows, cached) ∷ take (before.cap - 1) before.entries) before.cap)

-- Where an entry has the rows it goes to the front, and what is in front then is it.
use Rattle.std.proofs.Common.{◌∙◌, ap, subst, sym, List}
use Rattle.lru.specs.LruCache.{lru_cache}
use Rattle.rx_cache.specs.Cache.{Entry, IsPromoted, Repeats}
use Rattle.rx_cache.specs.declared.cached_answer.CachedAnswer.{CachedAnswer}
use Rattle.rx_cache.proofs.LookUps.{found_in_front, hit, missed, never_empty, promoted_found}
use Rattle.rx_cache.proofs.cache.recall.Goals as goal

pub returns-then-not-promote : goal.returns-then-not-promote
returns-then-not-promote c =
    let before = c.args.cache.now in
    let none = missed c.args.rows.now before.entries
    (sym c.promote.ensures.value ∙ c.if-not-promote.true) in
    (none.0, c.promote.ensures.entries ∙ ap (λ (es : List Entry). lru_cache es before.cap) none.1)

pub returns-in_err-cached : goal.returns-in_err-cached
returns-in_err-cached c =
    let rows = c.args.rows.now in
    let before = c.args.cache.now.entries in
    let found = hit rows before (sym c.promote.ensures.value ∙ c.if-not-promote.false) in
    absurd (never_empty rows before c.promote.new.self.entries found.0 found.1
    (ap (λ m. m.entries) c.promote.ensures.entries) c.in_err-cached.ensures)

pub returns : goal.returns
returns c =
    let rows = c.args.rows.now in
    let before = c.args.cache.now.entries in
    let after = c.promote.new.self.entries in
    let found = hit rows before (sym c.promote.ensures.value ∙ c.if-not-promote.false) in
    let moved = promoted_found rows before found.0 found.1 in
    let same = found_in_front rows before after found.0 found.1
    (ap (λ m. m.entries) c.promote.ensures.entries) _ c.in_ok-cached.ensures in (
      found.0,
      subst (λ (es : List Entry). IsPromoted rows found.0 before es)
          (sym (ap (λ m. m.entries) c.promote.ensures.entries)) moved,
      subst (λ (cached : CachedAnswer). Repeats cached c.repeat.result) same c.repeat.ensures,
      ap (λ m. m.cap) c.promote.ensures.entries,
    )

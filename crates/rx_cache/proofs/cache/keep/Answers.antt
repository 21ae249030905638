-- No entry has the rows, so the new one is inserted in front.
use Rattle.std.proofs.Common.{◌∙◌, ap, List}
use Rattle.lru.specs.LruCache.{lru_cache, put_entries}
use Rattle.rx_row.specs.declared.row.Row.{Row}
use Rattle.rx_cache.specs.Cache.{Entry}
use Rattle.rx_cache.proofs.LookUps.{put_new, same_rows}
use Rattle.rx_cache.proofs.cache.keep.Goals as goal

pub returns-clause-ok : goal.returns-clause-ok
returns-clause-ok c =
    let before = c.args.cache.now in
    let cached = c.in_ok-cached.cached in
    let copied = ap (λ (rows : List Row). put_entries same_rows before rows cached)
    c.in_ok-copy.ensures in
    let entries = copied ∙ put_new c.args.rows.now before cached c.requires in (
      cached,
      c.in_ok-cached.ensures,
      c.in_ok-put.ensures.entries ∙
          ap (λ (es : List Entry). lru_cache es before.cap) entries,
    )

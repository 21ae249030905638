-- Whether a column holds at a pair, or falls there, with its polynomials for the left and for the
-- right symbol, as the refuter shows it. Each instance is formed when it is asked for.
use Rattle.rx_plain.specs.Formed.{Formed, ◌>>=◌, ◌<$>◌}
use Rattle.rx_poly.specs.declared.body.Body.{Body}
use Rattle.rx_row.specs.declared.row.Row.{Row}
use Rattle.rx_row.specs.declared.row.Row.TheVariants.{Ge}
use Rattle.rx_cert.specs.Findings.{Said, and_also, guard}
use Rattle.rx_cert.specs.Showing.{all_shown, shown}
use Rattle.rx_solve.specs.Refuter.{refuted}
use Rattle.rx_pairs.specs.Columns.{at_left, at_right, holds_rows, one_less}
use Rattle.rx_pairs.specs.declared.pair.Pair.{Pair}

-- the row is formed, and then follows from the pair's
abbrev pub row_said : Pair → Formed Row → Said
row_said pair row = guard row.within (shown refuted pair.phi row.form)

-- it holds: the right instance is a number below 0, or at most the left one
abbrev pub holds : Pair → Body → Body → Said
holds pair p q =
    guard (holds_rows pair p q).within (all_shown refuted pair.phi (holds_rows pair p q).form)

-- l >= 0 for the left instance l, and then l - r - 1 >= 0 for the right instance r, which is formed
-- only then
abbrev pub not_negative : Pair → Body → Formed Row
not_negative pair p = Ge <$> at_left pair p

abbrev pub less_by_one : Pair → Body → Body → Formed Row
less_by_one pair l q = do
  r ← at_right pair q
  Ge <$> one_less l r

-- it falls
abbrev pub falls : Pair → Body → Body → Said
falls pair p q =
    and_also (row_said pair (not_negative pair p))
    (row_said pair (less_by_one pair (at_left pair p).form q))

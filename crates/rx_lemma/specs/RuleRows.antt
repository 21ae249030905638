-- The rows of rules at the calls of an equation, and which of them are added to rows.
use Rattle.std.specs.Prelude.{◌≡◌, ℕ, Bool, true, false, if◌then◌else◌, Option, Some, None, Result, Ok, Err, List, [], ◌∷◌, ◌++◌, option_and_then}
use Rattle.rx_plain.specs.Formed.{Formed, pure, ◌>>=◌, ◌<$>◌}
use Rattle.rx_poly.specs.Substitution.{numbered}
use Rattle.rx_poly.specs.declared.body.Body.{Body}
use Rattle.rx_row.specs.Membership.{pushed}
use Rattle.rx_row.specs.Substitution.{subst_row, row_within, rows_with}
use Rattle.rx_row.specs.declared.row.Row.{Row}
use Rattle.rx_cert.specs.Findings.{Said, Yes, No, Beyond, guard}
use Rattle.rx_cert.specs.Showing.{shown}
use Rattle.rx_fm.specs.declared.fm_end.FmEnd.{FmEnd}
use Rattle.rx_fm.specs.declared.fm_end.FmEnd.TheVariants.{Large}
use Rattle.rx_solve.specs.Refuter.{refuted}
use Rattle.rx_term.specs.Paired.{rules_of_shape}
use Rattle.rx_term.specs.Shapes.{Call}
use Rattle.rx_term.specs.declared.rule.Equation.{Equation}
use Rattle.rx_term.specs.declared.rule.Rule.{Rule}
use Rattle.rx_lemma.specs.Calls.{Applied, call_of}

-- ---- rows of rules at calls

-- the rows of the rules, with those polynomials in place of their variables
abbrev pub rows_by : List Body → List Rule → Formed (List Row)
rows_by ps [] = pure []
rows_by ps (rule ∷ rules) = do
  rows ← rows_with (numbered ps) rule.rows
  (λ more. rows ++ more) <$> rows_by ps rules

module _ (rules : List Rule) where
  -- those of the rules at a call, with its polynomials in place of their variables
  abbrev pub rows_at : Option Applied → Formed (List Row)
  rows_at None = pure []
  rows_at (Some call) = rows_by call.arguments (rules_of_shape (Call call.symbol) rules)

  -- at both calls, the left one first
  abbrev pub rule_rows : Equation → Formed (List Row)
  rule_rows goal = do
    left ← rows_at (call_of goal.left)
    (λ right. left ++ right) <$> rows_at (call_of goal.right)

-- ---- rows that are added

module _ (ws : List (ℕ × Body)) (old : List Row) where
  -- whether the old rows show the instance of the row, which is formed first
  unfoldable pub instance_said : Row → Said
  instance_said r = guard (row_within ws r) (shown refuted old (subst_row ws r))

  -- the rows with the row, the rows alone, or none where something passes the limits
  abbrev pub added_if : Said → Row → List Row → Option (List Row)
  added_if Yes r rows = Some (pushed rows r)
  added_if No r rows = Some rows
  added_if Beyond r rows = None

  unfoldable pub row_added : Row → List Row → Option (List Row)
  row_added r rows = added_if (instance_said r) r rows

  -- all that are shown, one after the other
  abbrev pub rows_added : List Row → List Row → Option (List Row)
  rows_added [] rows = Some rows
  rows_added (r ∷ rs) rows = option_and_then (rows_added rs) (row_added r rows)

  -- of formed rows
  abbrev pub formed_added : Formed (List Row) → List Row → Option (List Row)
  formed_added more rows = if more.within then rows_added more.form rows else None

-- ---- answers

-- an answer that says whether rows are shown
abbrev pub SaysShown : Said → Result Bool FmEnd → Type 0
SaysShown said (Ok true) = said ≡ Yes
SaysShown said (Ok false) = said ≡ No
SaysShown said (Err e) = e ≡ Large → said ≡ Beyond

-- an answer that has what was made, or says that something passes the limits; that memory runs out
-- is free
abbrev pub Makes : {A : Type 0} → Option A → Result A FmEnd → Type 0
Makes made (Ok x) = made ≡ Some x
Makes made (Err e) = e ≡ Large → made ≡ None

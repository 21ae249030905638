-- What two sides keep while they are unfolded side by side: an equation of the shape of a goal whose
-- rows hold at each goal that comes of it again.
use Rattle.std.specs.Prelude.{ℕ, zero, suc, ◌-◌, nat_le, nat_lt, Bool, true, false, not, ◌&&◌, ◌||◌, Option, Some, None, if◌then◌else◌, List, [], ◌∷◌, ◌++◌, length, slice_get}
use Rattle.std.specs.List.{find, list_all, list_any, range_with_len}
use Rattle.rx_term.specs.declared.rule.Equation.{Equation}
use Rattle.rx_term.specs.declared.rule_set.RuleParts.{RuleParts}
use Rattle.rx_inference.specs.declared.step.Side.{Side}
use Rattle.rx_shapes.specs.Following.{follow_all, followed_from, followed_of, is_of}
use Rattle.rx_shapes.specs.Generalising.{first_generalised, taken}
use Rattle.rx_shapes.specs.Goals.{is_empty, known_goal, placed_later, put, put_all}
use Rattle.rx_shapes.specs.Inside.{with_inside}
use Rattle.rx_shapes.specs.Options.{◌>>=◌, try_fold, try_map}
use Rattle.rx_shapes.specs.Remainders.{with_remainder_places}
use Rattle.rx_shapes.specs.Shown.{shows}
use Rattle.rx_shapes.specs.declared.followed.Followed.{Followed}
use Rattle.rx_shapes.specs.declared.followed.KnownGoal.{KnownGoal}
use Rattle.rx_shapes.specs.declared.followed.PlacedGoal.{PlacedGoal}
use Rattle.rx_shapes.specs.declared.gathering.Gathering.{Gathering}
use Rattle.rx_shapes.specs.declared.offering.Turn.{Turn}

-- ---- whether a shape takes a goal

-- the goal is of the shape, and the first one, or it doesn't show all rows of the general equation
abbrev pub is_missed : PlacedGoal → Followed → Bool
is_missed goal f = is_empty f.goals || not (list_all (shows goal) f.general.rows)

abbrev pub takes : PlacedGoal → Followed → Bool
takes goal f = is_of goal.equation f && is_missed goal f

-- ---- one goal

-- a shape after the others, and whether it took a goal
abbrev pub after_others : Turn → Followed → Bool → Turn
after_others turn f grows =
    record { shapes = turn.shapes ++ f ∷ []; grown = turn.grown || grows }

-- a shape that is offered the goal
abbrev pub offered : KnownGoal → Turn → Followed → Option Turn
offered known turn f =
    if takes known.goal f then (do
      g ← taken known f
      Some (after_others turn g true))
    else Some (after_others turn f false)

-- each of the shapes is offered the goal
abbrev pub offered_all : KnownGoal → Turn → Option Turn
offered_all known turn = try_fold (offered known) (record turn { shapes = [] }) turn.shapes

-- so with an equation, whose values are formed first
abbrev pub met : Turn → Equation → Option Turn
met turn e = do
  known ← known_goal (placed_later turn.shapes e)
  offered_all known turn

-- ---- remainders

-- the shape has remainder places
abbrev pub has_places : Option Followed → Bool
has_places None = false
has_places (Some f) = not (is_empty f.remainders)

-- the equation is of such a shape
abbrev pub has_remainders : List Followed → Equation → Bool
has_remainders fs e = has_places (find (is_of e) fs)

-- one of these equations, which all came of the shape at place i, is of a shape with remainder
-- places, and i isn't the place of that shape, which is 0: what stands there isn't known then
abbrev pub come_from_elsewhere : ℕ → List Followed → List Equation → Bool
come_from_elsewhere i fs es = nat_lt 0 i && list_any (has_remainders fs) es

-- each of the equations is met, unless that is so
abbrev pub met_unless : Bool → Turn → List Equation → Option Turn
met_unless true turn es = None
met_unless false turn es = try_fold met turn es

-- ---- the goals at first

module _ (descend : List Side → Equation → Option (List Equation)) where
  -- what comes of an equation under the task of its shape
  abbrev pub descended_in : Option Followed → Equation → Option (List Equation)
  descended_in None e = Some []
  descended_in (Some f) e = descend f.task e

  -- so of each of the equations
  abbrev pub descended : List Followed → List Equation → Equation → Option (List Equation)
  descended fs found e = do
    more ← descended_in (find (is_of e) fs) e
    Some (found ++ more)

  abbrev pub descended_all : List Followed → List Equation → Option (List Equation)
  descended_all fs es = try_fold (descended fs) [] es

  -- what comes of the general equation of a shape; of one without a goal nothing comes
  abbrev pub unfolded : Option Followed → Option (List Equation)
  unfolded None = Some []
  unfolded (Some f) = if is_empty f.goals then Some [] else descend f.task f.general

-- these are goals of their shapes too, all or none: there is room for only so many
abbrev pub gathered : ℕ → List Followed → List Equation → Option Gathering
gathered room fs es =
    if nat_le (length es) room then (do
      gs ← put_all fs es
      Some (record { shapes = gs; last = es; room = room - length es }))
    else Some (record { shapes = fs; last = []; room = room })

module _ (parts : RuleParts) (plan : List Side) (goal : Equation) where
  -- so with those of the equations whose shapes are followed
  abbrev pub gathered_of : ℕ → List Followed → List Equation → Option Gathering
  gathered_of room fs es = do
    gs ← follow_all parts plan goal fs es
    gathered room gs (followed_of gs es)

  -- shapes that come up are followed, and each equation of a followed shape is offered to it, unless
  -- what it leaves isn't known
  abbrev pub reached : ℕ → Turn → List Equation → Option Turn
  reached i turn es = do
    fs ← follow_all parts plan goal turn.shapes es
    met_unless (come_from_elsewhere i fs es) (record turn { shapes = fs }) (followed_of fs es)

-- the general equation of the goal's shape, which is the first one
abbrev pub first_equation : List Followed → Option Equation
first_equation [] = None
first_equation (f ∷ fs) = Some f.general

module _ (parts : RuleParts) (descend : List Side → Equation → Option (List Equation))
    (plan : List Side) (goal : Equation) where
  -- what comes of the goals that were added last
  abbrev pub gather : Gathering → Option Gathering
  gather so_far = do
    es ← descended_all descend so_far.shapes so_far.last
    gathered_of parts plan goal so_far.room so_far.shapes es

  -- so many times
  unfoldable pub gather_times : ℕ → Gathering → Option Gathering
  gather_times zero so_far = Some so_far
  gather_times (suc n) so_far = do
    next ← gather so_far
    gather_times n next

  -- ---- turns

  -- the shape at that place
  abbrev pub turned_at : Turn → ℕ → Option Turn
  turned_at turn i = do
    es ← unfolded descend (slice_get turn.shapes i)
    reached parts plan goal i turn es

  -- each shape that was there, in order
  abbrev pub turned : List Followed → Option Turn
  turned fs =
      try_fold turned_at (record { shapes = fs; grown = false }) (range_with_len 0 (length fs))

  -- turns, up to the first in which no goal is added; there is none among so many
  unfoldable pub turns : ℕ → List Followed → Option Equation
  turns zero fs = None
  turns (suc n) fs = do
    turn ← turned fs
    if turn.grown then turns n turn.shapes else first_equation turn.shapes

-- ---- the kept equation

-- how often what comes of goals is added to them, how many goals there are then at most besides the
-- first, and how many turns
abbrev pub most_times : ℕ
most_times = 4

abbrev pub most_others : ℕ
most_others = 9

abbrev pub most_turns : ℕ
most_turns = 8

-- the goal is the first one
abbrev pub gathering_from : Equation → List Followed → Gathering
gathering_from goal fs = record { shapes = fs; last = goal ∷ []; room = most_others }

-- its shape, with remainder places
abbrev pub followed_first : RuleParts → List Side → Equation → Option Followed
followed_first parts plan goal = do
  f ← followed_from parts plan goal
  g ← with_remainder_places goal f
  with_inside parts g

abbrev pub begun : RuleParts → List Side → Equation → Option Gathering
begun parts plan goal = do
  first ← followed_first parts plan goal
  fs ← put (first ∷ []) goal
  Some (gathering_from goal fs)

-- the equation that the sides of the plan keep when they are unfolded in the goal; `descend` says at
-- which goals settling sticks
abbrev pub kept : RuleParts → (List Side → Equation → Option (List Equation)) → List Side →
    Equation → Option Equation
kept parts descend plan goal = do
  first ← begun parts plan goal
  all ← gather_times parts descend plan goal most_times first
  fs ← try_map first_generalised all.shapes
  turns parts descend plan goal most_turns fs

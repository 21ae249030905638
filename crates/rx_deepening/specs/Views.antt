-- What is seen of nodes, where a tree says how a node is seen: what shows that a step applies may
-- be left out, say.
use Rattle.std.specs.Prelude.{map}
use Rattle.rx_deepening.specs.Visits.{Visit}
use Rattle.rx_deepening.specs.declared.outcome.Outcome.{Outcome}
use Rattle.rx_deepening.specs.declared.outcome.Outcome.TheVariants.{Closed, Noted, Spent, Through}
use Rattle.rx_deepening.specs.declared.counter.Ended.{Ended}
use Rattle.rx_deepening.specs.declared.counter.Ended.TheVariants.{Going, Found, Over}
use Rattle.rx_deepening.specs.declared.counter.Counter.{Counter}
use Rattle.rx_deepening.specs.declared.tree.Choice.{Choice}
use Rattle.rx_deepening.specs.declared.tree.Menu.{Menu}
use Rattle.rx_deepening.specs.declared.tree.Settled.{Settled}

module _ {N V : Type 0} (view : N → V) where
  -- of a settled node
  abbrev pub seen_settled : {R : Type 0} → Settled N R → Settled V R
  seen_settled s = record { node = view s.node; closed = s.closed; note = s.note }

  -- of a choice, and of all at a node
  abbrev pub seen_choice : Choice N → Choice V
  seen_choice c = record { number = c.number; node = view c.node }

  abbrev pub seen_menu : {R : Type 0} → Menu N R → Menu V R
  seen_menu m = record { choices = map seen_choice m.choices; note = m.note }

  -- of a visit
  abbrev pub seen_visit : {R : Type 0} → Visit N R → Visit V R
  seen_visit v = record { path = v.path; node = view v.node; closed = v.closed; note = v.note }

  -- of an outcome
  abbrev pub seen_outcome : {R : Type 0} → Outcome N R → Outcome V R
  seen_outcome (Closed node) = Closed (view node)
  seen_outcome (Noted note) = Noted note
  seen_outcome Spent = Spent
  seen_outcome Through = Through

  -- of a counter
  abbrev pub seen_ended : Ended N → Ended V
  seen_ended Going = Going
  seen_ended (Found node) = Found (view node)
  seen_ended Over = Over

  abbrev pub seen_counter : {R : Type 0} → Counter N R → Counter V R
  seen_counter t = record { left = t.left; note = t.note; ended = seen_ended t.ended }

module _ {N : Type 0} (P : N → Type 0) where
  -- a node that was found is so
  abbrev pub IfFound : Ended N → Type 0
  IfFound Going = Unit {0}
  IfFound (Found node) = P node
  IfFound Over = Unit {0}

  -- so of an outcome
  abbrev pub IfClosed : {R : Type 0} → Outcome N R → Type 0
  IfClosed (Closed node) = P node
  IfClosed (Noted note) = Unit {0}
  IfClosed Spent = Unit {0}
  IfClosed Through = Unit {0}

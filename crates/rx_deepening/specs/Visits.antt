-- The visits of a tree: the tree cut at no choice, then at one, and so on, each in preorder. A node
-- is settled, and then, where more choices may come and it isn't closed, its choices lead to more
-- nodes.
use Rattle.std.specs.Prelude.{ℕ, zero, suc, Bool, if◌then◌else◌, Option, List, [], ◌∷◌, ◌++◌}
use Rattle.std.specs.List.{flat_map}
use Rattle.std.specs.Option.{option_or}
use Rattle.rx_deepening.specs.declared.tree.Choice.{Choice}
use Rattle.rx_deepening.specs.declared.tree.Menu.{Menu}
use Rattle.rx_deepening.specs.declared.tree.Settled.{Settled}

-- a visit: the choices on the path to the node by their numbers, the node as it is settled, whether
-- it is closed, and what was noted first
pub record Visit (N R : Type 0) : Type 0 where
  pub path : List ℕ
  pub node : N
  pub closed : Bool
  pub note : Option R

-- a visit that settles the node alone
abbrev pub alone : {N R : Type 0} → List ℕ → Settled N R → Visit N R
alone path s = record { path = path; node = s.node; closed = s.closed; note = s.note }

-- one that also finds the choices there
abbrev pub choosing : {N R : Type 0} → List ℕ → Settled N R → Menu N R → Visit N R
choosing path s m =
    record { path = path; node = s.node; closed = s.closed; note = option_or s.note m.note }

module _ {N R : Type 0} (settled : N → Settled N R) (menu : N → Menu N R) where
  -- the visits from a node on, with at most n choices to come
  unfoldable pub visits : ℕ → List ℕ → N → List (Visit N R)
  visits zero path node = alone path (settled node) ∷ []
  visits (suc more) path node =
      if (settled node).closed then alone path (settled node) ∷ []
      else choosing path (settled node) (menu (settled node).node)
      ∷ flat_map (λ (c : Choice N). visits more (path ++ c.number ∷ []) c.node)
      (menu (settled node).node).choices

  -- those from the nodes on that the choices at a node lead to
  abbrev pub visits_of : ℕ → List ℕ → List (Choice N) → List (Visit N R)
  visits_of more path choices =
      flat_map (λ (c : Choice N). visits more (path ++ c.number ∷ []) c.node) choices

  -- n rounds one after the other, the first with at most the given number of choices on a path
  unfoldable pub lists : ℕ → ℕ → N → List (Visit N R)
  lists zero more start = []
  lists (suc n) more start = visits more [] start ++ lists n (suc more) start

  -- all visits with at most n choices on a path
  abbrev pub all_visits : ℕ → N → List (Visit N R)
  all_visits depth start = lists (suc depth) 0 start

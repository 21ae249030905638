-- What a recursive type needs to know of `Items` to hold itself through it: seen from outside,
-- `Items` over a type is a list over it.
use Rattle.rx_plain.specs.contracts.items.Items as seen
use Rattle.rx_plain.specs.contracts.items.Items.TheInside as inner
use Rattle.rx_plain.specs.declared.items.Items.TheInside.{Inside}
use Rattle.rx_plain.specs.declared.items.Items.TheView.{view, invariant}
use Rattle.std.specs.contracts.alloc.Global as global
use Rattle.std.specs.contracts.impls.GlobalAllocator.TheImpl.{ghosts}
use Rattle.std.specs.declared.alloc.Global.{Global}
use Rattle.std.specs.formers.vec.Vec as stored
use base.Stored.{code_map}
use denote.Hole.Carrier.{listed, list-listed}
use denote.Hole.Fix.{over}
use denote.HoleLaws.{Alike}
use denote.HolePlaces.{Recodes, struct_places, laid}
use denote.Model.Placed.{view_places}
use denote.Param.Weighed.{Weighed, w_list}
use denote.RattleType.{RattleType}
use mathlib.Core.Former.{Former, this, list, via, children}
use mathlib.Core.List.{List, []}
use mathlib.Core.Path.{◌≡◌, refl, sym}

-- the values: lists
abbrev pub the_former : Former {0} → Former {0}
the_former element = list element

-- a list weighs what its elements weigh
abbrev pub the_weighed : {element : Former {0}} → Weighed element → Weighed (the_former element)
the_weighed weighed = w_list weighed

-- a value that holds no element at all
pub the_empty : List ⊥
the_empty = []

-- the elements of a value, in order
abbrev pub the_items : (X : Type 0) → List X → List X
the_items X xs = xs

pub the_items_listed : (X : Type 0) (xs : List X) → listed _ (children (the_former this) X xs) ≡
    the_items X xs
the_items_listed X xs = list-listed X xs

-- the fields behind the value: one vector of the elements
abbrev vector : Former {0}
vector = stored.the_former this Global

abbrev behind : Former {0}
behind =
    via vector Inside (λ X u. u.items) (λ X v. record { items = v }) (λ X u. refl) (λ X v. refl)

module _ (From To : RattleType) (f : From.Denot → To.Denot) where
  -- the list of the values, each taken along f
  abbrev along : List From.Denot → List To.Denot
  along = (the_former this).map From.Denot To.Denot f

  -- the one field is laid out alike at both types
  field_places : Alike From To f → Alike (inner.the_row From) (inner.the_row To)
      (behind.map From.Denot To.Denot f)
  field_places alike =
      let vectors = stored.the_places global.the_row ghosts From To f alike in
      struct_places (inner.the_type From) (inner.the_type To) (stored.mapped f, tt) _ (λ u. refl)
      refl (laid _ _ _ vectors, tt)

  pub the_places : Alike From To f → Alike (seen.the_row From) (seen.the_row To) along
  the_places alike =
      view_places behind (list this) view (λ X Y g u. refl) (λ X u. refl)
      From.Denot To.Denot f (seen.the_row From).coded (seen.the_row To).coded
      (invariant From.Denot) (invariant To.Denot) (λ u p q. refl) (λ u p q. refl) (λ u h. tt)
      (λ u h. tt)
      (over (inner.the_row From)) (over (inner.the_row To)) (field_places alike)

  pub the_codes_placed : Recodes From To f → Recodes (seen.the_row From) (seen.the_row To) along
  the_codes_placed recodes xs =
      sym (code_map From.coded.code To.coded.code f (λ x. sym (recodes x)) xs)

-- What a recursive type needs to know of `Graded` to hold itself through it: a list of values, and
-- that its order is that of the values.
use Rattle.rx_plain.specs.Graded.{graded_cmp, graded_partial_cmp}
use Rattle.rx_plain.specs.contracts.graded.Graded as seen
use Rattle.rx_plain.specs.contracts.graded.Graded.TheInside as inner
use Rattle.rx_plain.specs.declared.graded.Graded.TheInside.{Inside}
use Rattle.rx_plain.specs.declared.graded.Graded.TheView.{view, invariant}
use Rattle.std.proofs.lemmas.List.{length-map}
use Rattle.std.specs.declared.cmp.Ordering.{Ordering}
use Rattle.std.specs.Ordering.{nat_cmp, ordering_then, partial_ordering_then}
use Rattle.std.specs.Prelude.{Option, Some, map, ◌∷◌}
use Rattle.std.specs.Cmp.Lexicographic.{slice_cmp, slice_partial_cmp}
use Rattle.std.specs.contracts.alloc.Global as global
use Rattle.std.specs.contracts.impls.GlobalAllocator.TheImpl.{ghosts}
use Rattle.std.specs.declared.alloc.Global.{Global}
use Rattle.std.specs.declared.cmp.Ord as ord
use Rattle.std.specs.declared.cmp.PartialEq as equal
use Rattle.std.specs.declared.cmp.PartialOrd as partial
use Rattle.std.specs.formers.vec.Vec as stored
use base.Stored.{code_map}
use denote.Hole.Carrier.{listed, list-listed}
use denote.Hole.Fix.{over}
use denote.HoleLaws.{Alike}
use denote.HolePlaces.{Recodes, struct_places, laid}
use denote.Model.Placed.{view_places}
use denote.Param.Weighed.{Weighed, w_list}
use denote.RattleType.{RattleType}
use mathlib.Core.Former.{Former, this, list, via, children}
use mathlib.Core.List.{List, []}
use mathlib.Core.Path.{◌≡◌, refl, sym, ap}

-- the values: lists
abbrev pub the_former : Former {0} → Former {0}
the_former element = list element

-- a list weighs what its elements weigh
abbrev pub the_weighed : {element : Former {0}} → Weighed element → Weighed (the_former element)
the_weighed weighed = w_list weighed

-- a value that holds no element at all
pub the_empty : List ⊥
the_empty = []

-- the elements of a value, in order
abbrev pub the_items : (X : Type 0) → List X → List X
the_items X xs = xs

pub the_items_listed : (X : Type 0) (xs : List X) → listed _ (children (the_former this) X xs) ≡
    the_items X xs
the_items_listed X xs = list-listed X xs

-- the fields behind the value: one vector of the elements
abbrev vector : Former {0}
vector = stored.the_former this Global

abbrev behind : Former {0}
behind =
    via vector Inside (λ X u. u.items) (λ X v. record { items = v }) (λ X u. refl) (λ X v. refl)

module _ (From To : RattleType) (f : From.Denot → To.Denot) where
  -- the list of the values, each taken along f
  abbrev along : List From.Denot → List To.Denot
  along = (the_former this).map From.Denot To.Denot f

  -- the one field is laid out alike at both types
  field_places : Alike From To f → Alike (inner.the_row From) (inner.the_row To)
      (behind.map From.Denot To.Denot f)
  field_places alike =
      let vectors = stored.the_places global.the_row ghosts From To f alike in
      struct_places (inner.the_type From) (inner.the_type To) (stored.mapped f, tt) _ (λ u. refl)
      refl (laid _ _ _ vectors, tt)

  pub the_places : Alike From To f → Alike (seen.the_row From) (seen.the_row To) along
  the_places alike =
      view_places behind (list this) view (λ X Y g u. refl) (λ X u. refl)
      From.Denot To.Denot f (seen.the_row From).coded (seen.the_row To).coded
      (invariant From.Denot) (invariant To.Denot) (λ u p q. refl) (λ u p q. refl) (λ u h. tt)
      (λ u h. tt)
      (over (inner.the_row From)) (over (inner.the_row To)) (field_places alike)

  pub the_codes_placed : Recodes From To f → Recodes (seen.the_row From) (seen.the_row To) along
  the_codes_placed recodes xs =
      sym (code_map From.coded.code To.coded.code f (λ x. sym (recodes x)) xs)

module _ (X Y : Type 0) (f : X → Y) where
  -- element by element, lists taken along f compare as their elements do along f
  slices_partial : (C : Y → Y → Option Ordering) (xs ys : List X) →
      slice_partial_cmp C (map f xs) (map f ys) ≡ slice_partial_cmp (λ x y. C (f x) (f y)) xs ys
  slices_partial C [] [] = refl
  slices_partial C [] (y ∷ ys) = refl
  slices_partial C (x ∷ xs) [] = refl
  slices_partial C (x ∷ xs) (y ∷ ys) =
      ap (partial_ordering_then (C (f x) (f y))) (slices_partial C xs ys)

  slices : (R : Y → Y → Ordering) (xs ys : List X) → slice_cmp R (map f xs) (map f ys) ≡
      slice_cmp (λ x y. R (f x) (f y)) xs ys
  slices R [] [] = refl
  slices R [] (y ∷ ys) = refl
  slices R (x ∷ xs) [] = refl
  slices R (x ∷ xs) (y ∷ ys) = ap (ordering_then (R (f x) (f y))) (slices R xs ys)

  pub the_partial_cmp_natural : (G : partial.Ghosts Y) (G' : equal.Ghosts Y) (xs ys : List X) →
      graded_partial_cmp G.partial_cmp (map f xs) (map f ys) ≡
      graded_partial_cmp (λ x y. G.partial_cmp (f x) (f y)) xs ys
  the_partial_cmp_natural G G' xs ys =
      λ i. partial_ordering_then (Some (nat_cmp (length-map ys f i) (length-map xs f i)))
      (slices_partial G.partial_cmp xs ys i)

  pub the_cmp_natural : (G : ord.Ghosts Y) (G' : equal.Ghosts Y) (G'' : partial.Ghosts Y)
      (xs ys : List X) → graded_cmp G.cmp (map f xs) (map f ys) ≡
      graded_cmp (λ x y. G.cmp (f x) (f y)) xs ys
  the_cmp_natural G G' G'' xs ys =
      λ i. ordering_then (nat_cmp (length-map ys f i) (length-map xs f i)) (slices G.cmp xs ys i)

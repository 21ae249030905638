-- What a recursive type needs to know of `Boxed` to hold itself through it: seen from outside, a
-- box is the value in it.
use Rattle.rx_plain.specs.contracts.boxed.Boxed as seen
use Rattle.rx_plain.specs.contracts.boxed.Boxed.TheInside as inner
use Rattle.rx_plain.specs.declared.boxed.Boxed.TheInside.{Inside}
use Rattle.rx_plain.specs.declared.boxed.Boxed.TheView.{view, invariant}
use Rattle.std.specs.contracts.alloc.Global as global
use Rattle.std.specs.contracts.boxed.Box as heap_box
use Rattle.std.specs.contracts.impls.GlobalAllocator.TheImpl.{ghosts}
use Rattle.std.specs.declared.alloc.Global.{Global}
use Rattle.std.specs.declared.boxed.Box.{Box}
use base.Fml.{ftrue}
use base.Stored.{gnil}
use denote.Hole.Fix.{over}
use denote.HoleLaws.{Alike}
use denote.HolePlaces.{Recodes, struct_places, laid, one_value}
use denote.Memory.{part_of}
use denote.Model.Placed.{view_places}
use denote.Param.Weighed.{Weighed}
use denote.RawPtr.{Ptr}
use denote.RattleType.{RattleType}
use denote.Sharing.{nothing}
use mathlib.Core.Former.{Former, this, const, pair, via}
use mathlib.Core.Path.{refl}

-- the values: those of the type in the box
abbrev pub the_former : Former {0} → Former {0}
the_former content = content

-- a box weighs what its content weighs
abbrev pub the_weighed : {content : Former {0}} → Weighed content → Weighed (the_former content)
the_weighed weighed = weighed

-- the fields behind the value: an address, an allocator and the content
abbrev place : Type 0
place = Ptr × Global

abbrev behind : Former {0}
behind = via (pair (const place) this) Inside
    (λ X u. ((u.inner.ptr, u.inner.alloc), u.inner.value))
    (λ X v. record { inner = record { value = v.1; ptr = v.0.0; alloc = v.0.1 } })
    (λ X u. refl) (λ X v. refl)

-- the same box with another content
abbrev refilled : {X Y : Type 0} → Box X Global → Y → Box Y Global
refilled b content = record { value = content; ptr = b.ptr; alloc = b.alloc }

-- the type of the boxes over a type
abbrev boxes : RattleType → RattleType
boxes content = heap_box.the_row content global.the_row ghosts

module _ (From To : RattleType) (f : From.Denot → To.Denot) where
  -- a box whose content owns and borrows the same is laid out, owns and borrows the same
  box_places : Alike From To f → Alike (boxes From) (boxes To) (λ b. refilled b (f b.value))
  unfolding part_of
  box_places alike = record {
    mir_same =
        λ i. (boxes (one_value From (alike.mir_same i) (λ _. ftrue) (λ _ _. nothing) gnil)).mir;
    own_same =
        λ b i. (boxes (one_value From (alike.mir_same i) (alike.own_same b.value i)
        (alike.shr_same b.value i) gnil)).own_val (refilled b tt);
    shr_same =
        λ b i. (boxes (one_value From (alike.mir_same i) (alike.own_same b.value i)
        (alike.shr_same b.value i) gnil)).shr_at (refilled b tt);
  }

  field_places : Alike From To f → Alike (inner.the_row From) (inner.the_row To)
      (behind.map From.Denot To.Denot f)
  field_places alike =
      struct_places (inner.the_type From) (inner.the_type To) ((λ b. refilled b (f b.value)), tt) _
      (λ u. refl) refl (laid _ _ _ (box_places alike), tt)

  pub the_places : Alike From To f → Alike (seen.the_row From) (seen.the_row To)
      ((the_former this).map From.Denot To.Denot f)
  the_places alike =
      view_places behind this view (λ X Y g u. refl) (λ X u. refl)
      From.Denot To.Denot f (seen.the_row From).coded (seen.the_row To).coded
      (invariant From.Denot) (invariant To.Denot) (λ u p q. refl) (λ u p q. refl) (λ u h. tt)
      (λ u h. tt)
      (over (inner.the_row From)) (over (inner.the_row To)) (field_places alike)

  pub the_codes_placed : Recodes From To f → Recodes (seen.the_row From) (seen.the_row To)
      ((the_former this).map From.Denot To.Denot f)
  the_codes_placed recodes content = recodes content

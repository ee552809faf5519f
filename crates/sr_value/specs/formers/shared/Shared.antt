-- How a `Shared` stores its value, so that a type may hold itself through one.
use mathlib.Core.Path.{refl}
use mathlib.Core.Former.{Former, this, const, pair, via}
use base.Stored.{gnil}
use base.Fml.{ftrue}
use denote.RattleType.{RattleType}
use denote.Memory.{part_of}
use denote.RawPtr.{Ptr}
use denote.Sharing.{nothing}
use denote.HoleLaws.{Alike}
use denote.HolePlaces.{Recodes, struct_places, laid, one_value}
use denote.Hole.Fix.{over}
use denote.Param.Weighed.{Weighed}
use denote.Model.Placed.{view_places}
use Rattle.std.specs.declared.sync.Arc.{Arc}
use Rattle.std.specs.contracts.sync.Arc as arc
use Rattle.std.specs.declared.alloc.Global.{Global}
use Rattle.std.specs.contracts.alloc.Global as global
use Rattle.std.specs.contracts.impls.GlobalAllocator.TheImpl.{ghosts}
use Rattle.sr_value.specs.declared.shared.Shared.TheInside.{Inside}
use Rattle.sr_value.specs.declared.shared.Shared.TheView.{view, invariant}
use Rattle.sr_value.specs.contracts.shared.Shared as shared
use Rattle.sr_value.specs.contracts.shared.Shared.TheInside as inside

-- contracts see it as the value itself
abbrev pub the_former : Former {0} → Former {0}
the_former g = g

abbrev pub the_weighed : {g : Former {0}} → Weighed g → Weighed (the_former g)
the_weighed w = w

-- its one field is an `Arc`: a pointer and the value
abbrev its_field : Former {0}
its_field = via (pair (const Ptr) this) Inside (λ X a. (a.inner.ptr, a.inner.value))
    (λ X v. record { inner = record { ptr = v.0; value = v.1 } }) (λ X a. refl) (λ X v. refl)

-- the same count with another value
abbrev holding : {X Y : Type 0} → Arc X Global → Y → Arc Y Global
holding b y = record { ptr = b.ptr; value = y }

abbrev arc_of : RattleType → RattleType
arc_of R = arc.the_row R global.the_row ghosts

module _ (R S : RattleType) (h : R.Denot → S.Denot) where
  arc_places : Alike R S h → Alike (arc_of R) (arc_of S) (λ b. holding b (h b.value))
  unfolding part_of
  arc_places a = record {
    mir_same = λ i. (arc_of (one_value R (a.mir_same i) (λ _. ftrue) (λ _ _. nothing) gnil)).mir;
    own_same = λ b i. (arc_of (one_value R (a.mir_same i) (a.own_same b.value i) (a.shr_same b.value i) gnil)).own_val (holding b tt);
    shr_same = λ b i. (arc_of (one_value R (a.mir_same i) (a.own_same b.value i) (a.shr_same b.value i) gnil)).shr_at (holding b tt);
  }

  pub the_places : Alike R S h → Alike (shared.the_row R) (shared.the_row S) ((the_former this).map R.Denot S.Denot h)
  the_places same =
      view_places its_field this view (λ X Y k u. refl) (λ X u. refl) R.Denot S.Denot h
      (shared.the_row R).coded (shared.the_row S).coded
      (invariant R.Denot) (invariant S.Denot) (λ u p q. refl) (λ u p q. refl) (λ u e. tt) (λ u e. tt)
      (over (inside.the_row R)) (over (inside.the_row S))
      (struct_places (inside.the_type R) (inside.the_type S) ((λ b. holding b (h b.value)), tt) _ (λ d. refl) refl
      (laid _ _ _ (arc_places same), tt))

  pub the_codes_placed : Recodes R S h → Recodes (shared.the_row R) (shared.the_row S) ((the_former this).map R.Denot S.Denot h)
  the_codes_placed same value = same value

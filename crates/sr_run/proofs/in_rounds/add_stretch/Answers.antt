-- Its stretch comes after an item, or there is no room for one.
use Rattle.std.proofs.Common.{◌≡◌, ◌≢◌, ◌↔◌, ◌+◌, ◌-◌, ◌<◌, ◌≤◌, ℕ, List, [], ◌∷◌, ◌++◌, length, ap, arith, sym, ◌∙◌, subst, length-append}
use Rattle.std.specs.Prelude.{Result, Ok, Err, IfOk, OnOk}
use Rattle.std.specs.List.{AllByRecursion}
use Rattle.std.specs.declared.alloc.Global.{Global}
use Rattle.std.specs.declared.boxed.Box.{Box}
use Rattle.sr_ask.specs.declared.answer.Answer.{Answer}
use Rattle.sr_ask.specs.declared.ask.Asks.{Asks}
use Rattle.sr_ask.specs.declared.item.Item.{Item}
use Rattle.sr_core.specs.declared.component.Core.{Core}
use Rattle.sr_classes.specs.Classes.{class_of}
use Rattle.sr_plain.specs.Engine.{IsEngine}
use Rattle.sr_plain.specs.Passing.{AddsItems, FitsItem, HasPassed}
use Rattle.sr_plain.specs.declared.plain.Plain.{Plain}
use Rattle.sr_run.proofs.Rounding.{full, rounded}
use Rattle.sr_run.specs.Arranged.{InRounds}
use Rattle.sr_run.specs.Runs.{Call, Devices}
use Rattle.sr_run.specs.UnderWay.{IsUnderWay, Open, Whole, as_of}
use Rattle.sr_run.specs.declared.intake.Intake.{Intake}
use Rattle.sr_run.specs.declared.stretch.Stretch.{Stretch}
use Rattle.sr_value.specs.declared.memory.NoMemory.{NoMemory}
use Rattle.sr_world.specs.Runs.{Event, State}
use Rattle.sr_run.proofs.in_rounds.add_stretch.Goals as goal

on-ok : {T E P Q : Type 0} (result : Result T E) → (P → Q) → OnOk result P → OnOk result Q
on-ok (Ok value) follows holds = follows holds
on-ok (Err error) follows holds = tt

-- how many items there are then
longer : (room : ℕ) (old new : List Item) → AddsItems room old new → length old ≤ length new
longer room old new adds = omega (arith, ap (λ is. length is) adds.added, length-append old adds.items)

not-too-long : (room most : ℕ) (old new : List Item) → length old + room ≤ most → AddsItems room old new → length new ≤ most
not-too-long room most old new fits adds =
    let both : length new ≡ length old + length adds.items = ap (λ is. length is) adds.added ∙ length-append old adds.items in
    let within = adds.within in
    omega (arith, both, within, fits)

all-fit : (olds news : List Item) → AllByRecursion FitsItem olds → AllByRecursion FitsItem news → AllByRecursion FitsItem (olds ++ news)
all-fit [] news old new = new
all-fit (item ∷ olds) news old new = (old.0, all-fit olds news old.1 new)

still-fit : (room : ℕ) (old new : List Item) → AddsItems room old new → AllByRecursion FitsItem old → AllByRecursion FitsItem new
still-fit room old new adds fit = subst (AllByRecursion FitsItem) (sym adds.added) (all-fit old adds.items fit adds.fit)

module _ {A : Type 0} (after : A → List Answer → Asks) (can_feed : A → Type 0) (core : Core) (class : ℕ → ℕ) (workers steps room : ℕ) (plain : Plain A) (old new : List Item) (stretches stretches_now : List Stretch) where
  goes-on : 1 ≤ room → length old + workers ≤ steps → (result : Result (Box (Plain A) Global) NoMemory)
      → IfOk result (λ later. (limit : ℕ) (state : State) (events : List Event) → IsEngine after can_feed core limit state events plain → HasPassed after can_feed core class limit state events room old new later.value)
      → OnOk result (stretches_now ≡ stretches ++ record { from = length old; count = length new - length old } ∷ [])
      → IfOk result (λ later. (call : Call) (now : Devices) (intake : Intake) → call.steps ≡ steps
      → IsUnderWay after can_feed (InRounds class workers stretches) Open (as_of call core now old) intake plain
      → IsUnderWay after can_feed (InRounds class workers stretches_now) Whole (as_of call core now new) intake later.value)
  goes-on some fits (Ok later) passed is = λ call now intake same under_way.
      subst (λ ss. IsUnderWay after can_feed (InRounds class workers ss) Whole (as_of call core now new) intake later.value) (sym is)
      (rounded after can_feed class workers stretches (as_of call core now old) intake plain under_way room some (omega (arith, fits, same)) new later.value
      (passed call.ticks under_way.state under_way.events under_way.engine))
  goes-on some fits (Err error) passed is = tt

-- where there is room, there are as many items left as workers
fits-in : (steps made workers room : ℕ) → made ≤ steps → (room ≡ 0 → ⊥) → (steps - made < workers → room ≡ 0) → made + workers ≤ steps
fits-in steps made workers room within some none = let enough : steps - made < workers → ⊥ = λ fewer. some (none fewer) in omega (arith, within, enough)

pub returns-then-room-eq0-clause-goes_on : goal.returns-then-room-eq0-clause-goes_on
returns-then-room-eq0-clause-goes_on g c = λ call now intake steps under_way.
    full (g.A.Actor.asks_after c.args.program.now) g.A.Actor.can_feed (class_of c.args.classes.now.of) c.args.workers c.args.stretches.now (as_of call (g.A.Actor.core_of c.args.program.now) now c.args.items.now) intake c.args.plain.value under_way
    (let fewer = c.room_of-room.ensures.none.0 c.if-room-eq0.true in omega (arith, fewer, steps, c.len.ensures))

pub returns-clause-goes_on : goal.returns-clause-goes_on
returns-clause-goes_on g c =
    let fits = fits-in c.args.steps c.len.result c.args.workers c.room_of-room.result (omega arith) c.if-room-eq0.false c.room_of-room.ensures.none.1 in
    goes-on (g.A.Actor.asks_after c.args.program.now) g.A.Actor.can_feed (g.A.Actor.core_of c.args.program.now) (class_of c.args.classes.now.of) c.args.workers c.args.steps c.room_of-room.result c.args.plain.value
    c.args.items.now c.make_stretch.new.items c.args.stretches.now c.make_stretch.new.stretches (omega arith) (omega (arith, fits, c.len.ensures)) c.make_stretch.result c.make_stretch.ensures.passed c.make_stretch.ensures.stretches

pub returns-clause-within : goal.returns-clause-within
returns-clause-within g c =
    on-ok c.make_stretch.result (not-too-long c.room_of-room.result c.args.steps c.args.items.now c.make_stretch.new.items (let within = c.room_of-room.ensures.within in omega (arith, within, c.len.ensures, c.requires.within))) c.make_stretch.ensures.added

pub returns-clause-no_fewer : goal.returns-clause-no_fewer
returns-clause-no_fewer g c = on-ok c.make_stretch.result (longer c.room_of-room.result c.args.items.now c.make_stretch.new.items) c.make_stretch.ensures.added

pub returns-clause-fit : goal.returns-clause-fit
returns-clause-fit g c = on-ok c.make_stretch.result (still-fit c.room_of-room.result c.args.items.now c.make_stretch.new.items) c.make_stretch.ensures.added

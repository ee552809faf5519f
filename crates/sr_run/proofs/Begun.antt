-- The beginning of a run.
use Rattle.std.proofs.Common.{◌≡◌, ℕ, false, List, [], ◌∷◌, refl, subst, sym, arith, true≢false}
use Rattle.sr_ask.specs.declared.answer.Answer.{Answer}
use Rattle.sr_ask.specs.declared.ask.Asks.{Asks}
use Rattle.sr_ask.specs.declared.item.Item.{Item}
use Rattle.sr_core.specs.declared.component.Core.{Core}
use Rattle.sr_plain.specs.Engine.{IsEngine}
use Rattle.sr_plain.specs.declared.plain.Plain.{Plain}
use Rattle.sr_ports.proofs.Growth.{append_known-nil}
use Rattle.sr_world.specs.Runs.{first}
use Rattle.sr_run.proofs.Known.{prepend_known-nil}
use Rattle.sr_run.proofs.Reached.{early}
use Rattle.sr_run.specs.Arranged.{Arrangement, InTurn, InRounds, IsArranged}
use Rattle.sr_run.specs.Causes.{EndsEarly, NoFaults}
use Rattle.sr_run.specs.Runs.{Call, Devices}
use Rattle.sr_run.specs.UnderWay.{ArrangedSoFar, HasCome, IsUnderWay, Whole}
use Rattle.sr_run.specs.declared.intake.Intake.{Intake}
use Rattle.sr_run.specs.declared.stretch.Stretch.{Stretch}

-- nothing was taken
abbrev pub nothing_taken : Intake
nothing_taken = record { taken = 0; ended = false }

-- there is no stretch
abbrev pub IsFresh : Arrangement → Type 0
IsFresh InTurn = Unit {0}
IsFresh (InRounds class workers []) = Unit {0}
IsFresh (InRounds class workers (stretch ∷ stretches)) = ⊥

pub fresh : (class : ℕ → ℕ) (workers : ℕ) (stretches : List Stretch) → stretches ≡ [] → IsFresh (InRounds class workers stretches)
fresh class workers [] none = tt
fresh class workers (stretch ∷ stretches) none = absurd (cc)

module _ (arrangement : Arrangement) (is_fresh : IsFresh arrangement) (core : Core) (steps ticks : ℕ) (devices : Devices) (items : List Item) (none : items ≡ []) where
  abbrev pub begun_call : Call
  begun_call = record { core = core; steps = steps; ticks = ticks; before = devices; now = devices; items = items }

  begun-arranged : (a : Arrangement) → IsFresh a → ArrangedSoFar a Whole core ticks steps [] items
  begun-arranged InTurn is = tt
  begun-arranged (InRounds class workers []) is = λ more last.
      subst (λ made. IsArranged (InRounds class workers []) core ticks steps false more made) (sym none) tt
  begun-arranged (InRounds class workers (stretch ∷ stretches)) is = absurd is

  begun_come : HasCome arrangement Whole begun_call nothing_taken first []
  begun_come = record {
    leads = refl;
    arranged = begun-arranged arrangement is_fresh;
    makes = sym none;
    took = record { passed = prepend_known-nil devices.left; at_end = λ e. absurd (true≢false (sym e)); most = omega arith };
    count = refl;
    closed = refl;
    ended = refl;
    put = sym (append_known-nil devices.held);
  }

  no_faults : NoFaults begun_call
  no_faults = record { read = refl; write = refl }

  pub begun : {A : Type 0} (after : A → List Answer → Asks) (can_feed : A → Type 0) (plain : Plain A) → IsEngine after can_feed core ticks first [] plain
      → IsUnderWay after can_feed arrangement Whole begun_call nothing_taken plain
  begun after can_feed plain engine = record { state = first; events = []; come = begun_come; no_faults = no_faults; engine = engine }

  -- memory ran out at once
  pub begun_early : EndsEarly arrangement begun_call
  begun_early = early arrangement begun_call nothing_taken first [] Whole begun_come no_faults

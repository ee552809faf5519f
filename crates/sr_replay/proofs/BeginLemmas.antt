-- A process that begins, and what processes ask of a replay.
use Rattle.std.proofs.Common.{◌≡◌, ℕ, List, Option, Some, None, IsSome, refl, ap, sym, ◌∙◌, subst, true≢false}
use Rattle.sr_actor.specs.Crew.{Begins, Looks}
use Rattle.sr_ask.specs.declared.answer.Answer.{Answer}
use Rattle.sr_ask.specs.declared.ask.Asks.{Asks}
use Rattle.sr_ask.specs.declared.start.Start.{Start}
use Rattle.sr_core.specs.declared.component.Core.{Core}
use Rattle.sr_meaning.specs.Processes.{ask}
use Rattle.sr_world.specs.Runs.{State}
use Rattle.sr_world.specs.Worlds.{World, started}
use Rattle.sr_replay.specs.Living.{KeepsLiving}
use Rattle.sr_replay.specs.Replaying.{StandsAt}
use Rattle.sr_replay.specs.declared.replayer.Replayer.{Replayer}
use Rattle.sr_replay.proofs.CrewLemmas.{begins-looks}
use Rattle.sr_replay.proofs.MemberLemmas.{kept-members, looked-members}
use Rattle.sr_replay.proofs.StepLemmas.{found-number}

-- one of a crew isn't none
pub some-member : {A : Type 0} (o : Option A) → None ≡ o → IsSome o → ⊥
some-member None is some = true≢false (sym some)
some-member (Some a) is some = absurd (cc)

-- a living process was started with something
pub started-with : (o : Option Start) → IsSome o → (s : Start) × (o ≡ Some s)
started-with None some = absurd (true≢false (sym some))
started-with (Some s) some = (s, refl)

-- a process that has begun under its number has one
pub begun-member : (w : World) (p : ℕ) (s : Start) → Some s ≡ started w p → (P : ℕ → Type 0) → P s.process → P p
begun-member w p s found P holds = subst P (sym (found-number w.live p s (sym found))) holds

module _ {A P : Type 0} (after : P → A → List Answer → Asks) (core_of : P → Core) (program : P) (limit : ℕ) (state : State) (old new : Replayer A)
    (stands : StandsAt (after program) (core_of program) limit state old) where
  -- one that lives may begin
  pub begun-at : (p : ℕ) (s : Start) → Some s ≡ started old.world p → Begins after core_of s old.ticks old.crew new.crew
      → StandsAt (after program) (core_of program) limit state (record old { crew = new.crew })
  begun-at p s found begins =
      let here : started state.world p ≡ Some s = sym (found ∙ ap (λ (w : World). started w p) stands.world) in
      let lives : started state.world s.process ≡ Some s = subst (λ n. started state.world n ≡ Some s) (found-number state.world.live p s here) here in
      record {
        valid = stands.valid;
        world = stands.world;
        ticks = stands.ticks;
        names = stands.names;
        members = looked-members (after program) (core_of program) limit state stands.valid s old.crew new.crew stands.members lives
            (subst (λ t. Looks (after program) (ask (core_of program) s t) s.process old.crew new.crew) stands.ticks (begins-looks after core_of s old.ticks program old.crew new.crew begins));
      }

  -- those who live are kept
  pub swept-at : KeepsLiving old.world old.crew new.crew → StandsAt (after program) (core_of program) limit state (record old { crew = new.crew })
  swept-at keeps = record {
    valid = stands.valid;
    world = stands.world;
    ticks = stands.ticks;
    names = stands.names;
    members = kept-members (after program) (core_of program) limit state stands.valid old.crew new.crew stands.members (subst (λ (w : World). KeepsLiving w old.crew new.crew) stands.world keeps);
  }

-- What comes of a run in which no process can make a step.
use Rattle.std.proofs.Common.{◌≡◌, ℕ, Bool, true, false, cond, List, [], Option, Some, None, refl, ap, sym, ◌∙◌, subst, eq-eqb}
use Rattle.std.specs.Prelude.{Ok, Err}
use Rattle.sr_ask.specs.declared.answer.Answer.{Answer}
use Rattle.sr_ask.specs.declared.ask.Asks.{Asks}
use Rattle.sr_ask.specs.declared.item.Item.TheVariants.{Quiesce}
use Rattle.sr_core.specs.declared.component.Core.{Core}
use Rattle.sr_instances.specs.Instances.{Instance}
use Rattle.sr_value.specs.declared.memory.NoMemory.{NoMemory}
use Rattle.sr_world.specs.Acting.{Acts}
use Rattle.sr_world.specs.Does.{Does, Did, Makes, Cannot, Ends, Undecided}
use Rattle.sr_world.specs.Endings.{close_or, main_instance, may_close, quiesce, rest_of}
use Rattle.sr_world.specs.Runs.{Event, Makes_item, Goes, Over as run_over, State, next, no_step, rested, where_true}
use Rattle.sr_world.specs.Worlds.{World}
use Rattle.sr_world.specs.declared.acted.Acted.TheVariants as acted
use Rattle.sr_world.specs.declared.ends.End.{End}
use Rattle.sr_world.proofs.FoundLemmas.{AtRest, at-rest}
use Rattle.sr_plain.specs.Engine.{Comes, IsEngine}
use Rattle.sr_plain.specs.Leaving.{Leaves, LeavesIf}
use Rattle.sr_plain.specs.Order.{IsNext}
use Rattle.sr_plain.specs.declared.plain.Plain.{Plain}
use Rattle.sr_plain.specs.declared.plainly.Plainly.TheVariants as plainly
use Rattle.sr_plain.specs.declared.change.Change.TheVariants.{Everything}
use Rattle.sr_plain.specs.declared.change.Woken.{Woken}
use Rattle.sr_plain.proofs.AnswerLemmas.{next-name}
use Rattle.sr_plain.proofs.EngineLemmas.{everyone}
use Rattle.sr_plain.proofs.LeaveLemmas.{leaves_at_rest}
use Rattle.sr_plain.proofs.LedLemmas.{last-more, led-more, next-new, next-unused}
use Rattle.sr_plain.proofs.LivingLemmas.{living-everyone, named-after}
use Rattle.sr_plain.proofs.OrderLemmas.{ordered-after}
use Rattle.sr_plain.proofs.TurnLemmas.{rested-stands}

-- where memory ran out all is as before
pub failed-same : (d : Does) (old new : World) (e : NoMemory) → Acts d old new (Err e) → new ≡ old
failed-same (Did w a) old new e same = same
failed-same (Makes w a) old new e same = same
failed-same Cannot old new e same = same
failed-same (Ends ending) old new e same = same
failed-same Undecided old new e same = same

-- nothing that comes to rest waits
pub never_cannot : (core : Core) (name : ℕ) (w w' : World) → Acts (quiesce core name w) w w' (Ok acted.Cannot) → ⊥
never_cannot core name w w' acts = by (quiesce core name w) (at-rest core name w) acts
  where
    by : (d : Does) → AtRest d → Acts d w w' (Ok acted.Cannot) → ⊥
    by (Did x a) rest h = h
    by (Makes x a) rest h = h
    by Cannot rest h = rest
    by (Ends ending) rest h = h
    by Undecided rest h = h

pub never_undecided : (core : Core) (name : ℕ) (w w' : World) → Acts (quiesce core name w) w w' (Ok acted.Undecided) → ⊥
never_undecided core name w w' acts = by (quiesce core name w) (at-rest core name w) acts
  where
    by : (d : Does) → AtRest d → Acts d w w' (Ok acted.Undecided) → ⊥
    by (Did x a) rest h = h
    by (Makes x a) rest h = h
    by Cannot rest h = h
    by (Ends ending) rest h = h
    by Undecided rest h = rest

-- an end doesn't depend on the number
ends-any : (core : Core) (name other : ℕ) (w : World) (ending : End) → quiesce core name w ≡ Ends ending → quiesce core other w ≡ Ends ending
ends-any core name other w ending is = by (main_instance core w) is
  where
    closing : (b : Bool) (x y : World) (a : Answer) (e : End) → cond b (Makes x a) (Ends e) ≡ Ends ending → cond b (Makes y a) (Ends e) ≡ Ends ending
    closing true x y a e h = absurd (cc)
    closing false x y a e h = h

    by : (main : Option Instance) → close_or core name None (rest_of w.fixed) w main ≡ Ends ending → close_or core other None (rest_of w.fixed) w main ≡ Ends ending
    by None h = h
    by (Some m) h = closing (may_close core m) _ _ _ _ h

module _ {A : Type 0} (after : A → List Answer → Asks) (can_feed : A → Type 0) (core : Core) (limit : ℕ) (state : State) (events : List Event) (none : no_step core limit state ≡ true) where
  next-is : (name : ℕ) (d : Does) → quiesce core name state.world ≡ d → next core limit state (Quiesce name) ≡ rested state name d
  next-is name d e = ap (λ b. where_true b (rested state name (quiesce core name state.world))) none ∙ ap (rested state name) e

  module _ (name : ℕ) (plain : Plain A) (engine : IsEngine after can_feed core limit state events plain) where
    begins : (w' : World) (a : Answer) (d : Does) → quiesce core name state.world ≡ d → AtRest d → Acts d state.world w' (Ok (acted.Done a)) → IsNext state.world.used name
        → (next core limit state (Quiesce name) ≡ Goes (record state { world = w' })) × Leaves name [] state.world w'
    begins w' a (Did w g) e rest acts following = absurd rest
    begins w' a (Makes w g) e rest acts following = (
      next-is name (Makes w g) e ∙ ap (λ b. where_true b (Goes (record state { world = w }))) (next-new state.world name following) ∙ ap (λ v. Goes (record state { world = v })) (sym acts.0),
      subst (λ v. Leaves name [] state.world v) (sym acts.0) (subst (LeavesIf name [] state.world) e (leaves_at_rest name state.world core)),
    )
    begins w' a Cannot e rest acts following = absurd rest
    begins w' a (Ends ending) e rest acts following = absurd acts
    begins w' a Undecided e rest acts following = absurd rest

    pub rest_begins : (w' : World) (a : Answer) → Acts (quiesce core name plain.world) plain.world w' (Ok (acted.Done a)) → IsNext plain.world.used name
        → (woken : Woken) → woken.change ≡ Everything → woken.gone ≡ None → Comes after can_feed core limit state events None (plainly.Stepped (Quiesce name) []) (record plain { world = w'; woken = Some woken })
    rest_begins w' a acts following woken all nobody =
        let acts' : Acts (quiesce core name state.world) state.world w' (Ok (acted.Done a)) = subst (λ v. Acts (quiesce core name v) v w' (Ok (acted.Done a))) engine.world acts in
        let following' : IsNext state.world.used name = subst (λ (v : World). IsNext v.used name) engine.world following in
        let b = begins w' a (quiesce core name state.world) refl (at-rest core name state.world) acts' following' in
        let rested_state : State = record state { world = w' } in
        let order = ordered-after core limit events state rested_state (Quiesce name) engine.stands.leads (led-more core limit events state rested_state (Makes_item (Quiesce name)) engine.stands.leads b.0) engine.stands.next engine.stands.order name
        [] refl (next-name state.world name following') b.1 in
        record {
          later = record state { world = w' };
          goes = b.0;
          turn_of = tt;
          named = next-name state.world name following';
          written = b.1.output;
          engine = record {
            world = refl;
            ticks = engine.ticks;
            last = engine.last ∙ sym (last-more events (Makes_item (Quiesce name)));
            stands = rested-stands after can_feed core limit state events plain.crew engine.stands (record state { world = w' }) name [] (Quiesce name) refl b.1 (next-unused state.world name following') b.0 order.0 order.1;
            living = living-everyone w' plain.crew (Some woken) woken refl all nobody (named-after state.world w' plain.crew engine.stands.unborn name [] b.1 (next-unused state.world name following') plain.woken engine.living);
            aside = everyone core limit rested_state plain.waiters (Some woken) woken refl all;
          };
        }

    ends : (w' : World) (given : End) (d : Does) → quiesce core name state.world ≡ d → AtRest d → Acts d state.world w' (Ok (acted.Ends given)) → (w' ≡ state.world) × (next core limit state (Quiesce 0) ≡ run_over given state)
    ends w' given (Did w g) e rest acts = absurd rest
    ends w' given (Makes w g) e rest acts = absurd acts
    ends w' given Cannot e rest acts = absurd rest
    ends w' given (Ends ending) e rest acts = (
      acts.0,
      next-is 0 (Ends ending) (ends-any core name 0 state.world ending e) ∙ ap (λ b. where_true b (run_over ending state)) (eq-eqb 0 0 refl) ∙ ap (λ v. run_over v state) (sym acts.1),
    )
    ends w' given Undecided e rest acts = absurd rest

    pub rest_ends : (w' : World) (ending : End) → Acts (quiesce core name plain.world) plain.world w' (Ok (acted.Ends ending))
        → (woken : Woken) → woken.change ≡ Everything → woken.gone ≡ None → Comes after can_feed core limit state events None (plainly.Ended (Quiesce 0) ending) (record plain { world = w'; woken = Some woken })
    rest_ends w' ending acts woken all nobody =
        let acts' : Acts (quiesce core name state.world) state.world w' (Ok (acted.Ends ending)) = subst (λ v. Acts (quiesce core name v) v w' (Ok (acted.Ends ending))) engine.world acts in
        let f = ends w' ending (quiesce core name state.world) refl (at-rest core name state.world) acts' in (
          record { ends = f.1; turn_of = tt; named = tt },
          record {
            world = f.0;
            ticks = engine.ticks;
            last = engine.last;
            stands = engine.stands;
            living = living-everyone state.world plain.crew (Some woken) woken refl all nobody engine.living.named;
            aside = everyone core limit state plain.waiters (Some woken) woken refl all;
          },
        )

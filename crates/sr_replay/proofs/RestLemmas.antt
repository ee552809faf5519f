-- What the beginning, a rest and the passing of time do to a replay.
use Rattle.std.proofs.Common.{◌≡◌, ◌==◌, ◌&&◌, ◌||◌, inl, ℕ, Bool, true, false, not, List, [], ◌++◌, Some, None, refl, ap, sym, ◌∙◌, subst, eqb-true, append-nil}
use Rattle.std.specs.HashMap.{HashMap}
use Rattle.std.specs.Map.{lookup}
use Rattle.std.specs.Prelude.{Ok, nat_eq}
use Rattle.sr_actor.specs.Crew.{member_of}
use Rattle.sr_actor.specs.declared.member.Member.{Member}
use Rattle.sr_ask.specs.declared.answer.Answer.{Answer}
use Rattle.sr_ask.specs.declared.ask.Asks.{Asks}
use Rattle.sr_ask.specs.declared.item.Item.TheVariants.{Quiesce, Tick}
use Rattle.sr_core.specs.declared.component.Core.{Core}
use Rattle.sr_meaning.specs.Processes.{ask}
use Rattle.sr_world.specs.Acting.{Acts}
use Rattle.sr_world.specs.Does.{Does, Did, Makes, Cannot, Ends, Undecided}
use Rattle.sr_world.specs.Endings.{quiesce}
use Rattle.sr_world.specs.Runs.{Goes, Illegal, Over, State, begun, comes_after, heeds_time, is_new, next, no_step, rested, where_true}
use Rattle.sr_world.specs.Sound.{given_out}
use Rattle.sr_world.specs.Updates.{pass_to}
use Rattle.sr_world.specs.Worlds.{World}
use Rattle.sr_world.specs.declared.acted.Acted.{Acted}
use Rattle.sr_world.specs.declared.acted.Acted.TheVariants as acted
use Rattle.sr_world.specs.declared.ends.End.{End}
use Rattle.sr_world.proofs.RunLemmas.{new-number}
use Rattle.sr_world.proofs.FoundLemmas.{AtRest, at-rest}
use Rattle.sr_replay.specs.Carrying.{Rests}
use Rattle.sr_replay.specs.Living.{AreMembers, Leaves, LeavesIf, StandsFor}
use Rattle.sr_replay.specs.Names.{Notes, is_kept}
use Rattle.sr_replay.specs.Replaying.{Follows, StandsAt}
use Rattle.sr_replay.specs.declared.replayer.Replayer.{Replayer}
use Rattle.sr_replay.proofs.LeaveLemmas.{leaves_at_rest}
use Rattle.sr_replay.proofs.LedLemmas.{sound, used-grown, valid-first, valid-more}
use Rattle.sr_replay.proofs.MemberLemmas.{rested-members}
use Rattle.sr_replay.proofs.NameLemmas.{noted-knows, unkept-new}
use Rattle.sr_replay.proofs.StepLemmas.{follows-as, follows-none}

-- ---- main's final code begins, or the run ends

module _ {A : Type 0} (after : A → List Answer → Asks) (core : Core) (limit : ℕ) where
  module _ (state : State) (none : no_step core limit state ≡ true) (old carried : Replayer A) (stands : StandsAt after core limit state old) (name : ℕ) (ticks : carried.ticks ≡ limit)
      (notes : Notes name old.names carried.names) (crew : carried.crew ≡ old.crew) where
    next-is : (d : Does) → quiesce core name state.world ≡ d → next core limit state (Quiesce name) ≡ rested state name d
    next-is d e = ap (λ b. where_true b (rested state name (quiesce core name state.world))) none ∙ ap (rested state name) e

    module _ (k : Core) (core-is : k ≡ core) where
      acts-is : (came : Acted) → Acts (quiesce k name old.world) old.world carried.world (Ok came) → Acts (quiesce core name state.world) state.world carried.world (Ok came)
      acts-is came acts =
          subst (λ (v : World). Acts (quiesce core name v) v carried.world (Ok came)) stands.world
          (subst (λ (x : Core). Acts (quiesce x name old.world) old.world carried.world (Ok came)) core-is acts)

      -- the final code begins, if its number is new
      begins : (given : Answer) (w : World) (a : Answer) → quiesce core name state.world ≡ Makes w a → carried.world ≡ w → carried.ending ≡ None → (b : Bool) → is_new state.world name ≡ b
          → Follows after core limit (next core limit state (Quiesce name)) b carried
      begins given w a e world going true new =
          let later : State = record state { world = w } in
          let goes : next core limit state (Quiesce name) ≡ Goes later = next-is (Makes w a) e ∙ ap (λ b. where_true b (Goes later)) new in
          let valid = valid-more core limit state stands.valid (Quiesce name) later goes in
          let left : Leaves name state.world w = subst (LeavesIf name state.world) e (leaves_at_rest name state.world core) in
          follows-as after core limit (next core limit state (Quiesce name)) (Goes later) true carried goes (
            refl,
            (
              going,
              record {
                valid = valid;
                world = world;
                ticks = ticks;
                names = noted-knows state.world w name (used-grown core limit state stands.valid (Quiesce name) later goes) old.names carried.names stands.names (sound core limit later valid).numbers notes;
                members = subst (AreMembers after core limit later) (sym crew)
                    (rested-members after core limit state stands.valid old.crew stands.members later name (Quiesce name) left (new-number state.world name new).1 goes refl);
              },
            ),
          )
      begins given w a e world going false used =
          follows-none after core limit (next core limit state (Quiesce name)) false carried (next-is (Makes w a) e ∙ ap (λ b. where_true b (Goes (record state { world = w }))) used) refl

      done : (given : Answer) (unused : Bool) → unused ≡ is_new state.world name → carried.ending ≡ None → (d : Does) → quiesce core name state.world ≡ d → AtRest d
          → Acts d state.world carried.world (Ok (acted.Done given)) → Follows after core limit (next core limit state (Quiesce name)) unused carried
      done given unused is going (Did w a) e rest acts = absurd rest
      done given unused is going (Makes w a) e rest acts = begins given w a e acts.0 going unused (sym is)
      done given unused is going Cannot e rest acts = absurd acts
      done given unused is going (Ends end) e rest acts = absurd acts
      done given unused is going Undecided e rest acts = absurd acts

      rest-done : (given : Answer) (unused : Bool) → unused ≡ (not (name == 0) && not (is_kept old.names name)) → carried.ending ≡ None
          → Acts (quiesce k name old.world) old.world carried.world (Ok (acted.Done given)) → Follows after core limit (next core limit state (Quiesce name)) unused carried
      rest-done given unused is going acts =
          done given unused (is ∙ unkept-new old.names state.world stands.names name) going (quiesce core name state.world) refl (at-rest core name state.world) (acts-is (acted.Done given) acts)

      -- the run ends, if it has no number
      ends : (end : End) → quiesce core name state.world ≡ Ends end → carried.world ≡ state.world → carried.ending ≡ Some end → (b : Bool) → (name == 0) ≡ b
          → Follows after core limit (next core limit state (Quiesce name)) b carried
      ends end e world ended true is =
          follows-as after core limit (next core limit state (Quiesce name)) (Over end state) true carried (next-is (Ends end) e ∙ ap (λ b. where_true b (Over end state)) is) (
            refl,
            (
              ended,
              record {
                valid = stands.valid;
                world = world;
                ticks = ticks;
                names = noted-knows state.world state.world name (sym (ap (λ n. state.world.used ++ given_out n) (eqb-true name 0 is) ∙ append-nil state.world.used)) old.names carried.names stands.names stands.names.sound notes;
                members = subst (AreMembers after core limit state) (sym crew) stands.members;
              },
            ),
          )
      ends end e world ended false is =
          follows-none after core limit (next core limit state (Quiesce name)) false carried (next-is (Ends end) e ∙ ap (λ b. where_true b (Over end state)) is) refl

      over : (given : End) → carried.ending ≡ Some given → (d : Does) → quiesce core name state.world ≡ d → Acts d state.world carried.world (Ok (acted.Ends given))
          → Follows after core limit (next core limit state (Quiesce name)) (name == 0) carried
      over given ended (Did w a) e acts = absurd acts
      over given ended (Makes w a) e acts = absurd acts
      over given ended Cannot e acts = absurd acts
      over given ended (Ends end) e acts = ends end e acts.0 (ended ∙ ap Some acts.1) (name == 0) refl
      over given ended Undecided e acts = absurd acts

      rest-ends : (given : End) → carried.ending ≡ Some given → Acts (quiesce k name old.world) old.world carried.world (Ok (acted.Ends given))
          → Follows after core limit (next core limit state (Quiesce name)) (name == 0) carried
      rest-ends given ended acts = over given ended (quiesce core name state.world) refl (acts-is (acted.Ends given) acts)

      waits : (d : Does) → AtRest d → Acts d state.world carried.world (Ok acted.Cannot) → ⊥
      waits (Did w a) rest acts = rest
      waits (Makes w a) rest acts = acts
      waits Cannot rest acts = rest
      waits (Ends end) rest acts = acts
      waits Undecided rest acts = rest

      rest-waits : Acts (quiesce k name old.world) old.world carried.world (Ok acted.Cannot) → ⊥
      rest-waits acts = waits (quiesce core name state.world) (at-rest core name state.world) (acts-is acted.Cannot acts)

      wants : (d : Does) → AtRest d → Acts d state.world carried.world (Ok acted.Undecided) → ⊥
      wants (Did w a) rest acts = rest
      wants (Makes w a) rest acts = acts
      wants Cannot rest acts = rest
      wants (Ends end) rest acts = acts
      wants Undecided rest acts = rest

      rest-wants : Acts (quiesce k name old.world) old.world carried.world (Ok acted.Undecided) → ⊥
      rest-wants acts = wants (quiesce core name state.world) (at-rest core name state.world) (acts-is acted.Undecided acts)

      -- what comes of a rest
      pub rest-follows : (came : Acted) (unused legal : Bool) → unused ≡ (not (name == 0) && not (is_kept old.names name)) → old.ending ≡ None → Rests came unused name old.ending carried.ending legal
          → Acts (quiesce k name old.world) old.world carried.world (Ok came) → Follows after core limit (next core limit state (Quiesce name)) legal carried
      rest-follows (acted.Done given) unused legal is going rests acts =
          subst (λ b. Follows after core limit (next core limit state (Quiesce name)) b carried) (sym rests.1) (rest-done given unused is (rests.0 ∙ going) acts)
      rest-follows acted.Cannot unused legal is going rests acts = absurd (rest-waits acts)
      rest-follows (acted.Ends given) unused legal is going rests acts =
          subst (λ b. Follows after core limit (next core limit state (Quiesce name)) b carried) (sym rests.1) (rest-ends given rests.0 acts)
      rest-follows acted.Undecided unused legal is going rests acts = absurd (rest-wants acts)

  pub no-rest : (state : State) (name : ℕ) → no_step core limit state ≡ false → next core limit state (Quiesce name) ≡ Illegal
  no-rest state name some = ap (λ b. where_true b (rested state name (quiesce core name state.world))) some

  -- ---- time passes

  pub no-tick : (state : State) (to : ℕ) → (comes_after state.world.moment to && heeds_time core limit state) ≡ false → next core limit state (Tick to) ≡ Illegal
  no-tick state to off = ap (λ b. where_true b (Goes (record state { world = pass_to to state.world }))) off

  pub ticked : (state : State) (old : Replayer A) → StandsAt after core limit state old → old.ending ≡ None → (to : ℕ) → (comes_after state.world.moment to && heeds_time core limit state) ≡ true
      → (w : World) → w ≡ pass_to to old.world → Follows after core limit (next core limit state (Tick to)) true (record old { world = w })
  ticked state old stands going to on w is =
      let later : State = record state { world = pass_to to state.world } in
      let goes : next core limit state (Tick to) ≡ Goes later = ap (λ b. where_true b (Goes later)) on in
      let valid = valid-more core limit state stands.valid (Tick to) later goes in
      let left : Leaves 0 state.world later.world = record { lives = λ q s h. inl h } in
      follows-as after core limit (next core limit state (Tick to)) (Goes later) true (record old { world = w }) goes (
        refl,
        (
          going,
          record {
            valid = valid;
            world = is ∙ ap (pass_to to) stands.world;
            ticks = stands.ticks;
            names = record { given = stands.names.given; sound = (sound core limit later valid).numbers };
            members = rested-members after core limit state stands.valid old.crew stands.members later 0 (Tick to) left stands.names.sound.zero_never goes refl;
          },
        ),
      )

  -- ---- the beginning

  nobody : {S : Type 0} (crew : HashMap ℕ (Member A) S) → crew.entries ≡ [] → (q : ℕ) → member_of crew q ≡ None
  nobody crew empty q = ap (lookup (nat_eq q)) empty

  one-used : (b : Bool) → b ≡ (b || false)
  one-used true = refl
  one-used false = refl

  pub begun-stands : (input : List ℕ) (new : Replayer A) → new.world ≡ (begun input).world → new.ticks ≡ limit → ((name : ℕ) → is_kept new.names name ≡ (1 == name)) → new.crew.entries ≡ []
      → StandsAt after core limit (begun input) new
  begun-stands input new world ticks names empty =
      let valid = valid-first core limit input in
      record {
        valid = valid;
        world = world;
        ticks = ticks;
        names = record { given = λ name. names name ∙ one-used (1 == name); sound = (sound core limit (begun input) valid).numbers };
        members = record {
          living = λ q s is. subst (λ o. StandsFor after (ask core s limit) [] o) (sym (nobody new.crew empty q)) refl;
          unborn = λ q unused. nobody new.crew empty q;
        };
      }

-- What a step of a process does to a replay.
use Rattle.std.proofs.Common.{◌≡◌, ℕ, Bool, true, false, List, [], ◌++◌, Option, Some, None, refl, ap, sym, ◌∙◌, subst, eqb-true, append-nil}
use Rattle.std.specs.HashMap.{WritesThrough}
use Rattle.std.specs.Prelude.{IfSome, Ok, find, is_some, nat_eq}
use Rattle.sr_actor.specs.Crew.{Answers, IsFed, IsSame, Looks, member_of}
use Rattle.sr_actor.specs.declared.member.Member.{Member}
use Rattle.sr_ask.specs.declared.answer.Answer.{Answer}
use Rattle.sr_ask.specs.declared.ask.Ask.{Ask}
use Rattle.sr_ask.specs.declared.ask.Asks.{Asks}
use Rattle.sr_ask.specs.declared.ask.Asks.TheVariants.{Asked, OverTicks}
use Rattle.sr_ask.specs.declared.item.Item.TheVariants.{Step}
use Rattle.sr_ask.specs.declared.start.Start.{Start}
use Rattle.sr_core.specs.declared.component.Core.{Core}
use Rattle.sr_meaning.specs.Processes.{ask}
use Rattle.sr_processes.specs.Living.{is_process}
use Rattle.sr_world.specs.Acting.{Acts}
use Rattle.sr_world.specs.Does.{Does, Did, Makes, Cannot, Ends, Undecided}
use Rattle.sr_world.specs.Runs.{Goes, Illegal, Next, Over, State, asks_for, asks_next, next, step_of, stepped, where_true, with_answer}
use Rattle.sr_world.specs.Sound.{given_out, times_used}
use Rattle.sr_world.specs.Steps.{does}
use Rattle.sr_world.specs.Worlds.{World, started}
use Rattle.sr_world.specs.declared.acted.Acted.{Acted}
use Rattle.sr_world.specs.declared.acted.Acted.TheVariants as acted
use Rattle.sr_world.specs.declared.ends.End.{End}
use Rattle.sr_world.proofs.CountLemmas.{find-passes}
use Rattle.sr_world.proofs.RunLemmas.{new-number}
use Rattle.sr_replay.specs.Carrying.{Carries, Hears}
use Rattle.sr_replay.specs.Living.{AreMembers, Leaves, LeavesIf}
use Rattle.sr_replay.specs.Names.{KnowsNames, Notes, is_named}
use Rattle.sr_replay.specs.Naming.{named_at, number_acted, number_by, number_from, number_in}
use Rattle.sr_replay.specs.Replaying.{Follows, StandsAt}
use Rattle.sr_replay.specs.declared.replayer.Replayer.{Replayer}
use Rattle.sr_replay.proofs.CrewLemmas.{answers-written, looks-written, written-itself}
use Rattle.sr_replay.proofs.LeaveLemmas.{leaves}
use Rattle.sr_replay.proofs.LedLemmas.{sound, used-grown, valid-more}
use Rattle.sr_replay.proofs.MemberLemmas.{answered-members, asks-meant, looked-members}
use Rattle.sr_replay.proofs.NameLemmas.{noted-knows}

-- a process is found under its number
pub found-number : (live : List Start) (p : ℕ) (s : Start) → find (is_process p) live ≡ Some s → p ≡ s.process
found-number live p s is = eqb-true p s.process (find-passes (is_process p) live s is)

-- ---- which invocation an answer names

acts-number : (d : Does) (v w : World) (came : Acted) → Acts d v w (Ok came) → number_acted came ≡ number_by d
acts-number (Did later a) v w (acted.Done given) acts = ap number_in acts.1
acts-number (Did later a) v w acted.Cannot acts = absurd acts
acts-number (Did later a) v w (acted.Ends given) acts = absurd acts
acts-number (Did later a) v w acted.Undecided acts = absurd acts
acts-number (Makes later a) v w (acted.Done given) acts = ap number_in acts.1
acts-number (Makes later a) v w acted.Cannot acts = absurd acts
acts-number (Makes later a) v w (acted.Ends given) acts = absurd acts
acts-number (Makes later a) v w acted.Undecided acts = absurd acts
acts-number Cannot v w (acted.Done given) acts = absurd acts
acts-number Cannot v w acted.Cannot acts = refl
acts-number Cannot v w (acted.Ends given) acts = refl
acts-number Cannot v w acted.Undecided acts = refl
acts-number (Ends end) v w (acted.Done given) acts = absurd acts
acts-number (Ends end) v w acted.Cannot acts = refl
acts-number (Ends end) v w (acted.Ends given) acts = refl
acts-number (Ends end) v w acted.Undecided acts = refl
acts-number Undecided v w (acted.Done given) acts = absurd acts
acts-number Undecided v w acted.Cannot acts = refl
acts-number Undecided v w (acted.Ends given) acts = refl
acts-number Undecided v w acted.Undecided acts = refl

carried-number : {A : Type 0} (after : A → List Answer → Asks) (can_feed : A → Type 0) (m m' : Member A) (before now : Option End) (b : Bool) (d : Does) (v w : World) (came : Acted)
    → Carries b d v w came → Hears after can_feed came m m' before now true → number_acted came ≡ number_by d
carried-number after can_feed m m' before now true d v w came carries hears = acts-number d v w came carries
carried-number after can_feed m m' before now false d v w came carries hears =
    absurd (let no : true ≡ false = subst (λ (x : Acted). Hears after can_feed x m m' before now true) carries hears in cc)

-- a number is named where there was a step
pub named-where : (named : Option ℕ) (legal : Bool) (number meant : ℕ) → is_some named ≡ legal → IfSome named (λ n. n ≡ number) → (legal ≡ true → number ≡ meant)
    → IfSome named (λ n. n ≡ meant)
named-where None legal number meant is same more = tt
named-where (Some n) legal number meant is same more = same ∙ more (sym is)

module _ {A : Type 0} (after : A → List Answer → Asks) (core : Core) (limit : ℕ) where
  -- where there is no such item
  pub follows-none : (now : Next) (legal : Bool) (replayer : Replayer A) → now ≡ Illegal → legal ≡ false → Follows after core limit now legal replayer
  follows-none now legal replayer is none = subst (λ n. Follows after core limit n legal replayer) (sym is) none

  pub follows-as : (now now' : Next) (legal : Bool) (replayer : Replayer A) → now ≡ now' → Follows after core limit now' legal replayer → Follows after core limit now legal replayer
  follows-as now now' legal replayer is follows = subst (λ n. Follows after core limit n legal replayer) (sym is) follows

  module _ (state : State) where
    -- who doesn't live makes no step
    pub dead-step : (p name : ℕ) → started state.world p ≡ None → next core limit state (Step p name) ≡ Illegal
    dead-step p name none = ap (step_of core limit state p name) none

    pub over-step : (p name : ℕ) (start : Start) → started state.world p ≡ Some start → OverTicks ≡ asks_next core limit state start → next core limit state (Step p name) ≡ Illegal
    over-step p name start found over =
        ap (step_of core limit state p name) found ∙ ap (λ a. stepped state p name (asks_for core state.world p name a)) (sym over)

    asked-step : (p name : ℕ) (start : Start) (asks : Ask) → started state.world p ≡ Some start → Asked asks ≡ asks_next core limit state start
        → next core limit state (Step p name) ≡ stepped state p name (does core state.world p asks name)
    asked-step p name start asks found is = ap (step_of core limit state p name) found ∙ ap (λ a. stepped state p name (asks_for core state.world p name a)) (sym is)

    number-step : (p name : ℕ) (start : Start) (asks : Ask) → started state.world p ≡ Some start → Asked asks ≡ asks_next core limit state start
        → named_at core limit state (Step p name) ≡ number_by (does core state.world p asks name)
    number-step p name start asks found is = ap (number_from core limit state p name) found ∙ ap (λ a. number_by (asks_for core state.world p name a)) (sym is)

    -- ---- a number that the step may not have, and one that it may

    unnamed : (p name : ℕ) (d : Does) → is_named state.world name d ≡ false → stepped state p name d ≡ Illegal
    unnamed p name (Did w a) off = ap (λ b. where_true b (Goes (record { world = w; given = with_answer p a state.given }))) off
    unnamed p name (Makes w a) off = ap (λ b. where_true b (Goes (record { world = w; given = with_answer p a state.given }))) off
    unnamed p name Cannot off = refl
    unnamed p name (Ends ending) off = ap (λ b. where_true b (Over ending state)) off
    unnamed p name Undecided off = refl

  -- ---- a look at one that has begun

  module _ (can_feed : A → Type 0) (state : State) (old carried : Replayer A) (stands : StandsAt after core limit state old) (lent : Member A → Replayer A) (p : ℕ) (start : Start)
      (found : started state.world p ≡ Some start) (m m' : Member A) (here : Some m ≡ member_of old.crew p) (same : IsSame after m m')
      (holds : (x : Member A) → WritesThrough nat_eq (nat_eq p) old.crew x (lent x).crew) where
    number : p ≡ start.process
    number = found-number state.world.live p start found

    lives : started state.world start.process ≡ Some start
    lives = subst (λ n. started state.world n ≡ Some start) number found

    looked : AreMembers after core limit state (lent m').crew
    looked =
        looked-members after core limit state stands.valid start old.crew (lent m').crew stands.members lives
        (subst (λ q. Looks after (ask core start limit) q old.crew (lent m').crew) number (looks-written p after can_feed (ask core start limit) old.crew (lent m').crew m m' here (holds m') same))

    there : member_of (lent m').crew start.process ≡ Some m'
    there = subst (λ q. member_of (lent m').crew q ≡ Some m') number (written-itself p old.crew (lent m').crew m m' here (holds m'))

    -- it asks what is meant
    pub looked-asks : (asks : Asks) → asks ≡ after m'.actor [] → asks ≡ asks_next core limit state start
    looked-asks asks is = asks-meant after core limit state stands.valid start (lent m').crew m' looked lives there asks is

    pub looked-stands : StandsAt after core limit state (record old { crew = (lent m').crew })
    looked-stands = record { valid = stands.valid; world = stands.world; ticks = stands.ticks; names = stands.names; members = looked }

    -- ---- what the machine did

    module _ (ticks : carried.ticks ≡ limit) (name : ℕ) (asks : Ask) (known : Asked asks ≡ after m'.actor []) (may : can_feed m'.actor) (notes : Notes name old.names carried.names) (m'' : Member A)
        (ending : Option End) (legal : Bool) where
      replayed : Replayer A
      replayed = record carried { crew = (lent m'').crew; ending = ending }

      next-is : (d : Does) → does core state.world p asks name ≡ d → next core limit state (Step p name) ≡ stepped state p name d
      next-is d e = asked-step state p name start asks found (looked-asks (Asked asks) known) ∙ ap (stepped state p name) e

      goes-on : (w : World) (a given : Answer) → carried.world ≡ w → given ≡ a → next core limit state (Step p name) ≡ Goes (record { world = w; given = with_answer p a state.given })
          → Leaves name state.world w → times_used state.world name ≡ 0 → IsFed after can_feed given m' m'' → StandsAt after core limit (record { world = w; given = with_answer p a state.given }) replayed
      unfolding replayed
      goes-on w a given world is goes left new fed =
          let later : State = record { world = w; given = with_answer p a state.given } in
          let valid = valid-more core limit state stands.valid (Step p name) later goes in
          record {
            valid = valid;
            world = world;
            ticks = ticks;
            names = noted-knows state.world w name (used-grown core limit state stands.valid (Step p name) later goes) old.names carried.names stands.names (sound core limit later valid).numbers notes;
            members = answered-members after core limit state stands.valid (lent m').crew looked later name (Step p name) left new goes start m' lives there can_feed may a (lent m'').crew
                (subst (λ (x : Answer). Answers after can_feed start.process x m' (lent m').crew (lent m'').crew) is
                (subst (λ q. Answers after can_feed q given m' (lent m').crew (lent m'').crew) number
                (answers-written p after can_feed given old.crew (lent m').crew (lent m'').crew m m' m'' here (holds m') (holds m'') fed)))
                (ap (λ q. with_answer q a state.given) number);
          }

      left-by : (d : Does) → does core state.world p asks name ≡ d → LeavesIf name state.world d
      left-by d e = subst (LeavesIf name state.world) e (leaves name state.world core p asks.place asks.role asks.request)

      -- where the run has ended the world is as before, and so is the process
      ends-so : (given : End) → carried.world ≡ state.world → name ≡ 0 → m'' ≡ m' → StandsAt after core limit state replayed
      unfolding replayed
      ends-so given world none same-member = record {
        valid = stands.valid;
        world = world;
        ticks = ticks;
        names = noted-knows state.world state.world name (sym (ap (λ n. state.world.used ++ given_out n) none ∙ append-nil state.world.used)) old.names carried.names stands.names stands.names.sound notes;
        members = subst (λ x. AreMembers after core limit state (lent x).crew) (sym same-member) looked;
      }

      named-step : (d : Does) → does core state.world p asks name ≡ d → is_named state.world name d ≡ true → (came : Acted) → Acts d state.world carried.world (Ok came)
          → Hears after can_feed came m' m'' None ending legal → Follows after core limit (next core limit state (Step p name)) legal replayed
      unfolding replayed
      named-step (Did w a) e named (acted.Done given) acts hears =
          let later : State = record { world = w; given = with_answer p a state.given } in
          let goes : next core limit state (Step p name) ≡ Goes later = next-is (Did w a) e ∙ ap (λ b. where_true b (Goes later)) named in
          let unused : times_used state.world name ≡ 0 = subst (λ n. times_used state.world n ≡ 0) (sym (eqb-true name 0 named)) stands.names.sound.zero_never in
          follows-as (next core limit state (Step p name)) (Goes later) legal replayed goes (hears.2, (hears.1, goes-on w a given acts.0 acts.1 goes (left-by (Did w a) e) unused hears.0))
      named-step (Did w a) e named acted.Cannot acts hears = absurd acts
      named-step (Did w a) e named (acted.Ends given) acts hears = absurd acts
      named-step (Did w a) e named acted.Undecided acts hears = absurd acts
      named-step (Makes w a) e named (acted.Done given) acts hears =
          let later : State = record { world = w; given = with_answer p a state.given } in
          let goes : next core limit state (Step p name) ≡ Goes later = next-is (Makes w a) e ∙ ap (λ b. where_true b (Goes later)) named in
          follows-as (next core limit state (Step p name)) (Goes later) legal replayed goes
          (hears.2, (hears.1, goes-on w a given acts.0 acts.1 goes (left-by (Makes w a) e) (new-number state.world name named).1 hears.0))
      named-step (Makes w a) e named acted.Cannot acts hears = absurd acts
      named-step (Makes w a) e named (acted.Ends given) acts hears = absurd acts
      named-step (Makes w a) e named acted.Undecided acts hears = absurd acts
      named-step Cannot e named (acted.Done given) acts hears = absurd acts
      named-step Cannot e named acted.Cannot acts hears = follows-none (next core limit state (Step p name)) legal replayed (next-is Cannot e) hears
      named-step Cannot e named (acted.Ends given) acts hears = absurd acts
      named-step Cannot e named acted.Undecided acts hears = absurd acts
      named-step (Ends end) e named (acted.Done given) acts hears = absurd acts
      named-step (Ends end) e named acted.Cannot acts hears = absurd acts
      named-step (Ends end) e named (acted.Ends given) acts hears =
          follows-as (next core limit state (Step p name)) (Over end state) legal replayed (next-is (Ends end) e ∙ ap (λ b. where_true b (Over end state)) named)
          (hears.2, (hears.1 ∙ ap Some acts.1, ends-so given acts.0 (eqb-true name 0 named) hears.0))
      named-step (Ends end) e named acted.Undecided acts hears = absurd acts
      named-step Undecided e named (acted.Done given) acts hears = absurd acts
      named-step Undecided e named acted.Cannot acts hears = absurd acts
      named-step Undecided e named (acted.Ends given) acts hears = absurd acts
      named-step Undecided e named acted.Undecided acts hears = follows-none (next core limit state (Step p name)) legal replayed (next-is Undecided e) hears

      carried-step : (b : Bool) → is_named state.world name (does core state.world p asks name) ≡ b → (came : Acted) → Carries b (does core state.world p asks name) state.world carried.world came
          → Hears after can_feed came m' m'' None ending legal → Follows after core limit (next core limit state (Step p name)) legal replayed
      carried-step true named came carries hears = named-step (does core state.world p asks name) refl named came carries hears
      carried-step false off came carries hears =
          follows-none (next core limit state (Step p name)) legal replayed (next-is (does core state.world p asks name) refl ∙ unnamed state p name (does core state.world p asks name) off)
          (subst (λ (x : Acted). Hears after can_feed x m' m'' None ending legal) carries hears)

      -- the step of a process that has begun
      pub step-follows : (k : Core) → k ≡ core → (came : Acted) → (KnowsNames old.names old.world → Carries (is_named old.world name (does k old.world p asks name)) (does k old.world p asks name) old.world carried.world came)
          → old.ending ≡ None → Hears after can_feed came m' m'' old.ending ending legal → Follows after core limit (next core limit state (Step p name)) legal (record carried { crew = (lent m'').crew; ending = ending })
      unfolding replayed
      step-follows k core-is came carries going hears =
          carried-step (is_named state.world name (does core state.world p asks name)) refl came
          (subst (λ (v : World). Carries (is_named v name (does core v p asks name)) (does core v p asks name) v carried.world came) stands.world
          (subst (λ (x : Core). Carries (is_named old.world name (does x old.world p asks name)) (does x old.world p asks name) old.world carried.world came) core-is
          (carries (subst (λ (v : World). KnowsNames old.names v) (sym stands.world) stands.names))))
          (subst (λ o. Hears after can_feed came m' m'' o ending legal) going hears)

      -- what its answer names
      pub step-names : (k : Core) → k ≡ core → (came : Acted) → (KnowsNames old.names old.world → Carries (is_named old.world name (does k old.world p asks name)) (does k old.world p asks name) old.world carried.world came)
          → (before now : Option End) → Hears after can_feed came m' m'' before now legal → legal ≡ true → number_acted came ≡ named_at core limit state (Step p name)
      step-names k core-is came carries before now hears is =
          carried-number after can_feed m' m'' before now (is_named state.world name (does core state.world p asks name)) (does core state.world p asks name) state.world carried.world came
          (subst (λ (v : World). Carries (is_named v name (does core v p asks name)) (does core v p asks name) v carried.world came) stands.world
          (subst (λ (x : Core). Carries (is_named old.world name (does x old.world p asks name)) (does x old.world p asks name) old.world carried.world came) core-is
          (carries (subst (λ (v : World). KnowsNames old.names v) (sym stands.world) stands.names))))
          (subst (λ b. Hears after can_feed came m' m'' before now b) is hears)
          ∙ sym (number-step state p name start asks found (looked-asks (Asked asks) known))

-- Each living process stands for its answers, whatever is done.
use Rattle.std.proofs.Common.{◌≡◌, ◌⊎◌, inl, inr, ◌≤◌, ◌==◌, ℕ, Bool, true, false, cond, List, [], ◌∷◌, ◌++◌, Option, Some, None, is_some, refl, ap, sym, ◌∙◌, subst, arith, eq-eqb, eqb-true, true≢false, append-nil, append_assoc}
use Rattle.std.specs.HashMap.{HashMap}
use Rattle.sr_actor.specs.Crew.{Answers, LooksAt, Looks, Plays, member_of}
use Rattle.sr_actor.specs.declared.member.Member.{Member}
use Rattle.sr_ask.specs.declared.answer.Answer.{Answer}
use Rattle.sr_ask.specs.declared.ask.Asks.{Asks}
use Rattle.sr_ask.specs.declared.item.Item.{Item}
use Rattle.sr_ask.specs.declared.start.Start.{Start}
use Rattle.sr_core.specs.declared.component.Core.{Core}
use Rattle.sr_meaning.specs.Processes.{ask}
use Rattle.sr_world.specs.Runs.{Goes, IsValid, State, asks_next, next, with_answer}
use Rattle.sr_world.specs.Sound.{times_used}
use Rattle.sr_world.specs.Worlds.{started}
use Rattle.sr_replay.specs.Living.{AreMembers, KeepsLiving, Leaves, StandsFor}
use Rattle.sr_replay.proofs.LedLemmas.{lives-used, sound, used-more}

module _ {A : Type 0} (after : A → List Answer → Asks) (core : Core) (limit : ℕ) (state : State) (valid : IsValid core limit state) where
  -- ---- a look

  looked-for : (s : Start) (answers : List Answer) (old new : Option (Member A)) → LooksAt after (ask core s limit) old new
      → StandsFor after (ask core s limit) answers old → StandsFor after (ask core s limit) answers new
  looked-for s answers None None looks stands = stands
  looked-for s answers None (Some m) looks stands = record { actor = λ more. looks.actor more ∙ ap (λ xs. ask core s limit (xs ++ more)) (sym stands) }
  looked-for s answers (Some m) None looks stands = absurd looks
  looked-for s answers (Some m) (Some m') looks stands = record { actor = λ more. looks.actor more ∙ stands.actor more }

  -- after a look at a living process each stands as before
  pub looked-members : {S : Type 0} (start : Start) (crew crew' : HashMap ℕ (Member A) S) → AreMembers after core limit state crew → started state.world start.process ≡ Some start
      → Looks after (ask core start limit) start.process crew crew' → AreMembers after core limit state crew'
  looked-members start crew crew' stands lives looks = record { living = living; unborn = unborn }
    where
      living-by : (q : ℕ) (s : Start) (b : Bool) → (start.process == q) ≡ b → started state.world q ≡ Some s → StandsFor after (ask core s limit) (state.given q) (member_of crew' q)
      living-by q s false off is = subst (StandsFor after (ask core s limit) (state.given q)) (sym (looks.others q off)) (stands.living q s is)
      living-by q s true same is =
          let q-is : start.process ≡ q = eqb-true start.process q same in
          let found : started state.world start.process ≡ Some s = subst (λ n. started state.world n ≡ Some s) (sym q-is) is in
          let s-is : start ≡ s = cc in
          let here : StandsFor after (ask core start limit) (state.given start.process) (member_of crew' start.process) =
          looked-for start (state.given start.process) (member_of crew start.process) (member_of crew' start.process) looks.itself (stands.living start.process start lives) in
          subst (λ n. StandsFor after (ask core s limit) (state.given n) (member_of crew' n)) q-is
          (subst (λ t. StandsFor after (ask core t limit) (state.given start.process) (member_of crew' start.process)) s-is here)

      living : (q : ℕ) (s : Start) → started state.world q ≡ Some s → StandsFor after (ask core s limit) (state.given q) (member_of crew' q)
      living q s is = living-by q s (start.process == q) refl is

      unborn-by : (q : ℕ) (b : Bool) → (start.process == q) ≡ b → times_used state.world q ≡ 0 → member_of crew' q ≡ None
      unborn-by q false off none = looks.others q off ∙ stands.unborn q none
      unborn-by q true same none =
          let q-is : start.process ≡ q = eqb-true start.process q same in
          let used : 1 ≤ times_used state.world q = subst (λ n. 1 ≤ times_used state.world n) q-is (lives-used core limit state valid start.process start lives) in
          absurd (omega arith)

      unborn : (q : ℕ) → times_used state.world q ≡ 0 → member_of crew' q ≡ None
      unborn q none = unborn-by q (start.process == q) refl none

  -- where those who live are kept each stands as before
  pub kept-members : {S : Type 0} (crew crew' : HashMap ℕ (Member A) S) → AreMembers after core limit state crew → KeepsLiving state.world crew crew' → AreMembers after core limit state crew'
  kept-members crew crew' stands keeps = record {
    living = λ q s is. subst (StandsFor after (ask core s limit) (state.given q)) (sym (keeps.living q (ap is_some is))) (stands.living q s is);
    unborn = λ q none. still q (stands.unborn q none) (member_of crew' q) refl;
  }
    where
      still : (q : ℕ) → member_of crew q ≡ None → (o : Option (Member A)) → member_of crew' q ≡ o → o ≡ None
      still q none None is = refl
      still q none (Some m) is = let was : member_of crew q ≡ Some m = keeps.stays q m is in absurd (cc)

  -- ---- an item

  module _ {S : Type 0} (crew : HashMap ℕ (Member A) S) (stands : AreMembers after core limit state crew) (later : State) (name : ℕ) (item : Item)
      (left : Leaves name state.world later.world) (new : times_used state.world name ≡ 0) (goes : next core limit state item ≡ Goes later) where
    unborn-then : (q : ℕ) → times_used later.world q ≡ 0 → times_used state.world q ≡ 0
    unborn-then q none = omega (arith, used-more core limit state valid item later goes q, none)

    nothing-heard : (q : ℕ) → q ≡ name → state.given q ≡ []
    nothing-heard q made = (sound core limit state valid).processes.hearers q (subst (λ n. times_used state.world n ≡ 0) (sym made) new)

    nobody-begun : (q : ℕ) → q ≡ name → member_of crew q ≡ None
    nobody-begun q made = stands.unborn q (subst (λ n. times_used state.world n ≡ 0) (sym made) new)

    -- nobody was answered
    pub rested-members : later.given ≡ state.given → AreMembers after core limit later crew
    rested-members given = record { living = λ q s is. by q s (left.lives q s is); unborn = λ q none. stands.unborn q (unborn-then q none) }
      where
        same : (q : ℕ) → later.given q ≡ state.given q
        same q = ap (λ (f : ℕ → List Answer). f q) given

        by : (q : ℕ) (s : Start) → (started state.world q ≡ Some s) ⊎ (q ≡ name) → StandsFor after (ask core s limit) (later.given q) (member_of crew q)
        by q s (inl was) = subst (λ xs. StandsFor after (ask core s limit) xs (member_of crew q)) (sym (same q)) (stands.living q s was)
        by q s (inr made) = subst (λ o. StandsFor after (ask core s limit) (later.given q) o) (sym (nobody-begun q made)) (same q ∙ nothing-heard q made)

    -- one process was answered
    module _ (start : Start) (m : Member A) (lives : started state.world start.process ≡ Some start) (here : member_of crew start.process ≡ Some m) (can_feed : A → Type 0) (may : can_feed m.actor) (a : Answer)
        (crew' : HashMap ℕ (Member A) S) (answers : Answers after can_feed start.process a m crew crew') (given : later.given ≡ with_answer start.process a state.given) where
      plays : Plays after (λ more. ask core start limit (state.given start.process ++ more)) m
      plays = subst (StandsFor after (ask core start limit) (state.given start.process)) here (stands.living start.process start lives)

      given-itself : later.given start.process ≡ state.given start.process ++ a ∷ []
      given-itself = ap (λ (f : ℕ → List Answer). f start.process) given ∙ ap (λ b. cond b (state.given start.process ++ a ∷ []) (state.given start.process)) (eq-eqb start.process start.process refl)

      given-other : (q : ℕ) → (start.process == q) ≡ false → later.given q ≡ state.given q
      given-other q off = ap (λ (f : ℕ → List Answer). f q) given ∙ by (q == start.process) refl
        where
          by : (b : Bool) → (q == start.process) ≡ b → cond b (state.given q ++ a ∷ []) (state.given q) ≡ state.given q
          by false is = refl
          by true is = absurd (true≢false (sym (eq-eqb start.process q (sym (eqb-true q start.process is))) ∙ off))

      answered-for : StandsFor after (ask core start limit) (later.given start.process) (member_of crew' start.process)
      answered-for =
          let fed = answers.is_fed in
          let played : Plays after (λ more. ask core start limit ((state.given start.process ++ a ∷ []) ++ more)) answers.fed = record {
            actor = λ more. fed.actor may more ∙ plays.actor (a ∷ more) ∙ ap (ask core start limit) (sym (append_assoc (state.given start.process) (a ∷ []) more));
          } in
          subst (λ o. StandsFor after (ask core start limit) (later.given start.process) o) (sym answers.itself)
          (subst (λ (xs : List Answer). Plays after (λ more. ask core start limit (xs ++ more)) answers.fed) (sym given-itself) played)

      used-itself : 1 ≤ times_used state.world start.process
      used-itself = lives-used core limit state valid start.process start lives

      living-by : (q : ℕ) (s : Start) (b : Bool) → (start.process == q) ≡ b → (started state.world q ≡ Some s) ⊎ (q ≡ name)
          → StandsFor after (ask core s limit) (later.given q) (member_of crew' q)
      living-by q s true same (inl was) =
          let q-is : start.process ≡ q = eqb-true start.process q same in
          let found : started state.world start.process ≡ Some s = subst (λ n. started state.world n ≡ Some s) (sym q-is) was in
          let s-is : start ≡ s = cc in
          subst (λ n. StandsFor after (ask core s limit) (later.given n) (member_of crew' n)) q-is
          (subst (λ t. StandsFor after (ask core t limit) (later.given start.process) (member_of crew' start.process)) s-is answered-for)
      living-by q s false off (inl was) =
          subst (λ o. StandsFor after (ask core s limit) (later.given q) o) (sym (answers.others q off))
          (subst (λ xs. StandsFor after (ask core s limit) xs (member_of crew q)) (sym (given-other q off)) (stands.living q s was))
      living-by q s true same (inr made) =
          let q-is : start.process ≡ q = eqb-true start.process q same in
          let unused : times_used state.world start.process ≡ 0 = subst (λ n. times_used state.world n ≡ 0) (sym (q-is ∙ made)) new in absurd (omega (arith, used-itself, unused))
      living-by q s false off (inr made) =
          subst (λ o. StandsFor after (ask core s limit) (later.given q) o) (sym (answers.others q off ∙ nobody-begun q made)) (given-other q off ∙ nothing-heard q made)

      unborn-by : (q : ℕ) (b : Bool) → (start.process == q) ≡ b → times_used state.world q ≡ 0 → member_of crew' q ≡ None
      unborn-by q false off none = answers.others q off ∙ stands.unborn q none
      unborn-by q true same none =
          let q-is : start.process ≡ q = eqb-true start.process q same in
          let unused : times_used state.world start.process ≡ 0 = subst (λ n. times_used state.world n ≡ 0) (sym q-is) none in absurd (omega (arith, used-itself, unused))

      pub answered-members : AreMembers after core limit later crew'
      answered-members = record { living = λ q s is. living-by q s (start.process == q) refl (left.lives q s is); unborn = λ q none. unborn-by q (start.process == q) refl (unborn-then q none) }

  -- ---- what is asked

  -- what a process asks is what it is meant to ask
  pub asks-meant : {S : Type 0} (start : Start) (crew : HashMap ℕ (Member A) S) (m : Member A) → AreMembers after core limit state crew → started state.world start.process ≡ Some start
      → member_of crew start.process ≡ Some m → (asks : Asks) → asks ≡ after m.actor [] → asks ≡ asks_next core limit state start
  asks-meant start crew m stands lives here asks is =
      let plays : Plays after (λ more. ask core start limit (state.given start.process ++ more)) m = subst (StandsFor after (ask core start limit) (state.given start.process)) here (stands.living start.process start lives) in
      is ∙ plays.actor [] ∙ ap (ask core start limit) (append-nil (state.given start.process))

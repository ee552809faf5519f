-- Each that has begun lives, unless it may have ended by the last step.
use Rattle.std.proofs.Common.{◌≡◌, ◌==◌, ◌||◌, ◌⊎◌, inl, inr, ℕ, Bool, true, false, List, Option, Some, None, IsSome, is_some, refl, ap, sym, ◌∙◌, subst, eqb-true, true≢false}
use Rattle.std.specs.HashMap.{HashMap}
use Rattle.std.specs.Prelude.{find}
use Rattle.std.proofs.lemmas.Bool.{or_parts as neither}
use Rattle.sr_ask.specs.declared.answer.Answer.{Answer}
use Rattle.sr_ask.specs.declared.ask.Asks.{Asks}
use Rattle.sr_ask.specs.declared.start.Start.{Start}
use Rattle.sr_core.specs.declared.component.Core.{Core}
use Rattle.sr_processes.specs.Living.{is_process}
use Rattle.sr_world.specs.Sound.{times_used}
use Rattle.sr_world.specs.Worlds.{World, started}
use Rattle.sr_plain.specs.Changes.{is_everything}
use Rattle.sr_plain.specs.Crew.{AreLiving, Begins, HasEnded, KeepsLiving, KeepsOthers, LetsGo, is_gone, may_leave, member_of}
use Rattle.sr_plain.specs.Leaving.{Leaves, LiveOn}
use Rattle.sr_plain.specs.declared.change.Change.TheVariants.{Everything}
use Rattle.sr_plain.specs.declared.change.Woken.{Woken}
use Rattle.sr_actor.specs.declared.member.Member.{Member}

ended-same : (old new : World) (gone : Option ℕ) → new.live ≡ old.live → HasEnded old gone → HasEnded new gone
ended-same old new None same h = tt
ended-same old new (Some p) same h = ap (find (is_process p)) same ∙ h

module _ {A S : Type 0} where
  -- ---- the same world

  module _ (world : World) (woken : Option Woken) where
    -- one that has begun is as it was named
    pub living-at : (p : ℕ) (old new : HashMap ℕ (Member A) S) (m m' : Member A) → member_of old p ≡ Some m → member_of new p ≡ Some m' → m'.instance ≡ m.instance → KeepsOthers p old new
        → AreLiving world woken old → AreLiving world woken new
    living-at p old new m m' here there same others are = record { live = λ q x at off. live q x (p == q) refl at off; named = λ q s x lives at. named q s x (p == q) refl lives at; gone = are.gone }
      where
        live : (q : ℕ) (x : Member A) (b : Bool) → (p == q) ≡ b → member_of new q ≡ Some x → may_leave woken q ≡ false → IsSome (started world q)
        live q x true is at off = are.live q m (subst (λ n. member_of old n ≡ Some m) (eqb-true p q is) here) off
        live q x false is at off = are.live q x (sym (others q is) ∙ at) off

        named : (q : ℕ) (s : Start) (x : Member A) (b : Bool) → (p == q) ≡ b → started world q ≡ Some s → member_of new q ≡ Some x → x.instance ≡ s.instance
        named q s x true is lives at =
            let number : p ≡ q = eqb-true p q is in
            let itself : member_of new q ≡ Some m' = subst (λ n. member_of new n ≡ Some m') number there in
            let x-is : x ≡ m' = cc in
            ap (λ (y : Member A). y.instance) x-is ∙ same ∙ are.named q s m lives (subst (λ n. member_of old n ≡ Some m) number here)
        named q s x false is lives at = are.named q s x lives (sym (others q is) ∙ at)

    -- one that lives has begun
    pub living-begun : {P : Type 0} (after : P → A → List Answer → Asks) (core_of : P → Core) (start : Start) (limit : ℕ) (old new : HashMap ℕ (Member A) S) → started world start.process ≡ Some start
        → Begins after core_of start limit old new → AreLiving world woken old → AreLiving world woken new
    living-begun after core_of start limit old new lives (inl same) are = subst (λ ms. AreLiving world woken ms) (sym same) are
    living-begun after core_of start limit old new lives (inr (none, begun)) are = record {
      live = λ q x at off. live q x (start.process == q) refl at off;
      named = λ q s x is at. named q s x (start.process == q) refl is at;
      gone = are.gone;
    }
      where
        live : (q : ℕ) (x : Member A) (b : Bool) → (start.process == q) ≡ b → member_of new q ≡ Some x → may_leave woken q ≡ false → IsSome (started world q)
        live q x true is at off = subst (λ n. IsSome (started world n)) (eqb-true start.process q is) (ap is_some lives)
        live q x false is at off = are.live q x (sym (begun.others q is) ∙ at) off

        named : (q : ℕ) (s : Start) (x : Member A) (b : Bool) → (start.process == q) ≡ b → started world q ≡ Some s → member_of new q ≡ Some x → x.instance ≡ s.instance
        named q s x true is found at =
            let number : start.process ≡ q = eqb-true start.process q is in
            let found' : started world start.process ≡ Some s = subst (λ n. started world n ≡ Some s) (sym number) found in
            let s-is : start ≡ s = cc in
            let itself : member_of new q ≡ Some begun.member = subst (λ n. member_of new n ≡ Some begun.member) number begun.itself in
            let x-is : x ≡ begun.member = cc in
            ap (λ (y : Member A). y.instance) x-is ∙ begun.instance ∙ ap (λ (y : Start). y.instance) s-is
        named q s x false is found at = are.named q s x found (sym (begun.others q is) ∙ at)

  -- who ended has left
  pub living-left : (world : World) (woken : Woken) (old new : HashMap ℕ (Member A) S) → LetsGo world woken old new → AreLiving world (Some woken) old → AreLiving world None new
  living-left world woken old new goes are = record { live = λ q x at off. live q x at (goes.live q x at); named = λ q s x lives at. are.named q s x lives (keeps.stays q x at); gone = none }
    where
      keeps : KeepsLiving world old new
      keeps = goes.keeps (are.gone woken refl)

      live : (q : ℕ) (x : Member A) → member_of new q ≡ Some x → (may_leave (Some woken) q ≡ false) ⊎ IsSome (started world q) → IsSome (started world q)
      live q x at (inl off) = are.live q x (keeps.stays q x at) off
      live q x at (inr lives) = lives

      none : (last : Woken) → None ≡ Some last → HasEnded world last.gone
      none last is = absurd (cc)

  -- who is aside of a step in which anything may have changed
  pub living-everyone : (world : World) (crew : HashMap ℕ (Member A) S) (woken : Option Woken) (w : Woken) → woken ≡ Some w → w.change ≡ Everything → w.gone ≡ None
      → ((q : ℕ) (s : Start) (x : Member A) → started world q ≡ Some s → member_of crew q ≡ Some x → x.instance ≡ s.instance) → AreLiving world woken crew
  living-everyone world crew woken w is everything nobody named = record { live = λ q x at off. absurd (true≢false (sym (leaves-all q) ∙ off)); named = named; gone = gone }
    where
      leaves-all : (q : ℕ) → may_leave woken q ≡ true
      leaves-all q = ap (λ o. may_leave o q) is ∙ ap (λ c. is_everything c || is_gone w.gone q) everything

      gone : (last : Woken) → woken ≡ Some last → HasEnded world last.gone
      gone last at =
          let same : w ≡ last = cc in
          let none : last.gone ≡ None = ap (λ (x : Woken). x.gone) (sym same) ∙ nobody in subst (λ g. HasEnded world g) (sym none) tt

  -- ---- another world

  -- where the same processes live
  pub living-same : (old new : World) (woken : Option Woken) (crew : HashMap ℕ (Member A) S) → new.live ≡ old.live → AreLiving old woken crew → AreLiving new woken crew
  living-same old new woken crew same are = record {
    live = λ q x at off. ap (λ live. is_some (find (is_process q) live)) same ∙ are.live q x at off;
    named = λ q s x lives at. are.named q s x (sym (ap (find (is_process q)) same) ∙ lives) at;
    gone = λ last is. ended-same old new last.gone same (are.gone last is);
  }

  module _ (old new : World) (crew : HashMap ℕ (Member A) S) (unborn : (q : ℕ) → times_used old q ≡ 0 → member_of crew q ≡ None) (name : ℕ) (text : List ℕ) (left : Leaves name text old new) (unused : times_used old name ≡ 0) where
    -- who began with the step's number hasn't begun to run
    pub named-after : (woken : Option Woken) → AreLiving old woken crew → (q : ℕ) (s : Start) (x : Member A) → started new q ≡ Some s → member_of crew q ≡ Some x → x.instance ≡ s.instance
    named-after woken are q s x lives at = by (left.lives q s lives)
      where
        by : (started old q ≡ Some s) ⊎ (q ≡ name) → x.instance ≡ s.instance
        by (inl was) = are.named q s x was at
        by (inr is) = let nobody : member_of crew q ≡ None = unborn q (subst (λ n. times_used old n ≡ 0) (sym is) unused) in absurd (cc)

    -- after a step of a process
    pub living-after : AreLiving old None crew → (woken : Woken) → LiveOn woken.change woken.gone old new → AreLiving new (Some woken) crew
    living-after are woken on = record { live = live; named = named-after None are; gone = gone }
      where
        live : (q : ℕ) (x : Member A) → member_of crew q ≡ Some x → may_leave (Some woken) q ≡ false → IsSome (started new q)
        live q x at off = by (started old q) refl (are.live q x at refl)
          where
            by : (o : Option Start) → started old q ≡ o → IsSome o → IsSome (started new q)
            by None is some = absurd (true≢false (sym some))
            by (Some s) is some = let both = neither (is_everything woken.change) (is_gone woken.gone q) off in ap is_some (on.stay both.0 q s is both.1)

        gone : (last : Woken) → Some woken ≡ Some last → HasEnded new last.gone
        gone last is = let same : woken ≡ last = cc in subst (λ (w : Woken). HasEnded new w.gone) same on.ended

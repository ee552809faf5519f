-- What changes one process of a crew.
use Rattle.std.proofs.Common.{◌≡◌, ◌⊎◌, inl, inr, ◌==◌, ◌||◌, ℕ, Bool, true, false, List, Option, Some, None, IsSome, is_some, refl, ap, sym, ◌∙◌, subst, cond, eqb-true, true≢false}
use Rattle.std.proofs.lemmas.Map.Entries.{lookup-filter-keys}
use Rattle.std.specs.HashMap.{HashMap, UpdatesBy, WritesThrough}
use Rattle.std.specs.Map.{lookup}
use Rattle.std.specs.Prelude.{filter, nat_eq}
use Rattle.sr_ask.specs.declared.answer.Answer.{Answer}
use Rattle.sr_ask.specs.declared.ask.Asks.{Asks}
use Rattle.sr_world.specs.Worlds.{World, started}
use Rattle.sr_plain.specs.Changes.{is_everything}
use Rattle.sr_plain.specs.Crew.{AllLive, Answers, HasEnded, IsFed, IsSame, KeepsLiving, KeepsOthers, LetsGo, LooksAt, Looks, Plays, is_gone, may_leave, member_of}
use Rattle.sr_plain.specs.declared.change.Woken.{Woken}
use Rattle.sr_actor.specs.declared.member.Member.{Member}

-- one leaves, or nobody does
abbrev pub LeavesOne : {A S : Type 0} → Option ℕ → HashMap ℕ (Member A) S → HashMap ℕ (Member A) S → Type 0
LeavesOne None old new = new ≡ old
LeavesOne (Some p) old new = UpdatesBy nat_eq (nat_eq p) old new None

module _ {A S : Type 0} (p : ℕ) where
  pub updated-others : (old new : HashMap ℕ (Member A) S) (w : Option (Member A)) → UpdatesBy nat_eq (nat_eq p) old new w → KeepsOthers p old new
  updated-others old new w updates = λ q off. updates.2 q off

  pub written-itself : (old new : HashMap ℕ (Member A) S) (m m' : Member A) → Some m ≡ member_of old p → WritesThrough nat_eq (nat_eq p) old m' new → member_of new p ≡ Some m'
  written-itself old new m m' here written = (written.3 (sym (ap is_some here))).1

  pub written-others : (old new : HashMap ℕ (Member A) S) (m m' : Member A) → Some m ≡ member_of old p → WritesThrough nat_eq (nat_eq p) old m' new → KeepsOthers p old new
  written-others old new m m' here written = updated-others old new (Some m') (written.3 (sym (ap is_some here)))

  module _ (after : A → List Answer → Asks) (can_feed : A → Type 0) where
    module _ (meant : List Answer → Asks) where
      pub looks-same : (ms : HashMap ℕ (Member A) S) → Looks after meant p ms ms
      looks-same ms = record { itself = by (member_of ms p); others = λ q off. refl }
        where
          by : (o : Option (Member A)) → LooksAt after meant o o
          by None = tt
          by (Some m) = record { instance = refl; actor = λ more. refl }

      pub looks-written : (old new : HashMap ℕ (Member A) S) (m m' : Member A) → Some m ≡ member_of old p → WritesThrough nat_eq (nat_eq p) old m' new → IsSame after m m'
          → Looks after meant p old new
      looks-written old new m m' here written same = record {
        itself = subst (λ o. LooksAt after meant o (member_of new p)) here (subst (λ o. LooksAt after meant (Some m) o) (sym (written-itself old new m m' here written)) same);
        others = written-others old new m m' here written;
      }

      pub looks-begun : (old new : HashMap ℕ (Member A) S) (m : Member A) → member_of old p ≡ None → member_of new p ≡ Some m → KeepsOthers p old new → Plays after meant m
          → Looks after meant p old new
      looks-begun old new m none here others plays = record {
        itself = subst (λ o. LooksAt after meant o (member_of new p)) (sym none) (subst (λ o. LooksAt after meant None o) (sym here) plays);
        others = others;
      }

    -- one that went on as it would have, and then got an answer
    pub answers-written : (answer : Answer) (old looked new : HashMap ℕ (Member A) S) (m m' m'' : Member A) → Some m ≡ member_of old p → WritesThrough nat_eq (nat_eq p) old m' looked
        → WritesThrough nat_eq (nat_eq p) old m'' new → IsFed after can_feed answer m' m'' → (member : Member A) → member_of looked p ≡ Some member → Answers after can_feed p answer member looked new
    answers-written answer old looked new m m' m'' here looks written fed member there =
        let at : member_of looked p ≡ Some m' = written-itself old looked m m' here looks in
        let same : m' ≡ member = cc in
        record {
          fed = m'';
          itself = written-itself old new m m'' here written;
          is_fed = subst (λ x. IsFed after can_feed answer x m'') same fed;
          others = λ q off. written-others old new m m'' here written q off ∙ sym (written-others old looked m m' here looks q off);
        }

module _ {A S : Type 0} (world : World) where
  keeps-same : (old : HashMap ℕ (Member A) S) → KeepsLiving world old old
  keeps-same old = record { living = λ q lives. refl; stays = λ q x here. here }

  -- nobody ended, or one that lives no more leaves
  pub lets-go : (woken : Woken) (old new : HashMap ℕ (Member A) S) (gone : Option ℕ) → woken.gone ≡ gone → is_everything woken.change ≡ false → LeavesOne gone old new → LetsGo world woken old new
  lets-go woken old new None is small same = record {
    keeps = λ ended. subst (λ ms. KeepsLiving world old ms) (sym same) (keeps-same old);
    live = λ q x here. inl (ap (λ b. b || is_gone woken.gone q) small ∙ ap (λ g. is_gone g q) is);
  }
  lets-go woken old new (Some p) is small updates = record { keeps = λ ended. keeps (subst (λ g. HasEnded world g) is ended); live = λ q x here. live q x (p == q) refl here }
    where
      keeps : started world p ≡ None → KeepsLiving world old new
      keeps ended = record { living = λ q lives. by q lives (p == q) refl; stays = λ q x here. stays q x (p == q) refl here }
        where
          by : (q : ℕ) → IsSome (started world q) → (b : Bool) → (p == q) ≡ b → member_of new q ≡ member_of old q
          by q lives false off = updates.2 q off
          by q lives true same = absurd (true≢false (sym lives ∙ ap is_some (ap (started world) (sym (eqb-true p q same)) ∙ ended)))

          stays : (q : ℕ) (x : Member A) (b : Bool) → (p == q) ≡ b → member_of new q ≡ Some x → member_of old q ≡ Some x
          stays q x false off here = sym (updates.2 q off) ∙ here
          stays q x true same here = let none : member_of new q ≡ None = updates.0 q ∙ ap (λ b. cond b None (member_of old q)) same in absurd (cc)

      live : (q : ℕ) (x : Member A) (b : Bool) → (p == q) ≡ b → member_of new q ≡ Some x → (may_leave (Some woken) q ≡ false) ⊎ IsSome (started world q)
      live q x false off here = inl (ap (λ b. b || is_gone woken.gone q) small ∙ ap (λ g. is_gone g q) is ∙ off)
      live q x true same here = let none : member_of new q ≡ None = updates.0 q ∙ ap (λ b. cond b None (member_of old q)) same in absurd (cc)

  -- after a step in which anything may have changed
  pub lets-all-go : (woken : Woken) (old new : HashMap ℕ (Member A) S) → KeepsLiving world old new → AllLive world new → LetsGo world woken old new
  lets-all-go woken old new keeps live = record { keeps = λ ended. keeps; live = λ q x here. inr (live q x here) }

  -- ---- those who live are kept

  module _ (old new : HashMap ℕ (Member A) S) (kept : new.entries ≡ filter (λ e. is_some (started world e.0)) old.entries) where
    kept-at : (q : ℕ) → member_of new q ≡ cond (is_some (started world q)) (member_of old q) None
    kept-at q =
        ap (lookup (nat_eq q)) kept
        ∙ lookup-filter-keys (nat_eq q) (λ k. is_some (started world k)) (is_some (started world q)) (λ k same. ap (λ n. is_some (started world n)) (sym (eqb-true q k same))) old.entries

    pub keeps-living : KeepsLiving world old new
    keeps-living = record { living = λ q lives. kept-at q ∙ ap (λ b. cond b (member_of old q) None) lives; stays = λ q x here. by q x (is_some (started world q)) (sym (kept-at q) ∙ here) }
      where
        by : (q : ℕ) (x : Member A) (b : Bool) → cond b (member_of old q) None ≡ Some x → member_of old q ≡ Some x
        by q x true here = here
        by q x false here = absurd (cc)

    pub keeps-none : AllLive world new
    keeps-none = λ q x here. by q x (is_some (started world q)) refl (sym (kept-at q) ∙ here)
      where
        by : (q : ℕ) (x : Member A) (b : Bool) → is_some (started world q) ≡ b → cond b (member_of old q) None ≡ Some x → IsSome (started world q)
        by q x true is here = is
        by q x false is here = absurd (cc)

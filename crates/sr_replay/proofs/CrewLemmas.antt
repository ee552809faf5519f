-- What changes one process of a crew, and who is kept.
use Rattle.std.proofs.Common.{◌≡◌, inl, inr, ℕ, Bool, true, false, cond, List, Option, Some, None, is_some, refl, ap, sym, ◌∙◌, subst, eqb-true}
use Rattle.std.proofs.lemmas.Map.Entries.{lookup-filter-keys}
use Rattle.std.specs.HashMap.{HashMap, WritesThrough}
use Rattle.std.specs.Map.{lookup}
use Rattle.std.specs.Prelude.{Result, Ok, Err, IfOk, OnOk, filter, nat_eq}
pub use Rattle.std.proofs.lemmas.Result.{on_ok_weaker as on_ok}
use Rattle.sr_actor.proofs.CrewLemmas.{updated-others}
use Rattle.sr_actor.specs.Crew.{Answers, Begins, IsFed, IsSame, KeepsOthers, LooksAt, Looks, Plays, member_of}
use Rattle.sr_actor.specs.declared.member.Member.{Member}
use Rattle.sr_ask.specs.declared.answer.Answer.{Answer}
use Rattle.sr_ask.specs.declared.ask.Asks.{Asks}
use Rattle.sr_ask.specs.declared.start.Start.{Start}
use Rattle.sr_core.specs.declared.component.Core.{Core}
use Rattle.sr_meaning.specs.Processes.{ask}
use Rattle.sr_world.specs.Worlds.{World, started}
use Rattle.sr_replay.specs.Living.{KeepsLiving}

-- ---- one that has begun

module _ {A S : Type 0} (p : ℕ) where
  pub written-itself : (old new : HashMap ℕ (Member A) S) (m m' : Member A) → Some m ≡ member_of old p → WritesThrough nat_eq (nat_eq p) old m' new → member_of new p ≡ Some m'
  written-itself old new m m' here written = (written.3 (sym (ap is_some here))).1

  written-others : (old new : HashMap ℕ (Member A) S) (m m' : Member A) → Some m ≡ member_of old p → WritesThrough nat_eq (nat_eq p) old m' new → KeepsOthers p old new
  written-others old new m m' here written = updated-others p old new (Some m') (written.3 (sym (ap is_some here)))

  module _ (after : A → List Answer → Asks) (can_feed : A → Type 0) where
    -- it went on as it would have
    pub looks-written : (meant : List Answer → Asks) (old new : HashMap ℕ (Member A) S) (m m' : Member A) → Some m ≡ member_of old p → WritesThrough nat_eq (nat_eq p) old m' new → IsSame after m m'
        → Looks after meant p old new
    looks-written meant old new m m' here written same = record {
      itself = subst (λ o. LooksAt after meant o (member_of new p)) here (subst (λ o. LooksAt after meant (Some m) o) (sym (written-itself old new m m' here written)) same);
      others = written-others old new m m' here written;
    }

    -- it went on as it would have, and then got an answer
    pub answers-written : (answer : Answer) (old looked new : HashMap ℕ (Member A) S) (m m' m'' : Member A) → Some m ≡ member_of old p → WritesThrough nat_eq (nat_eq p) old m' looked
        → WritesThrough nat_eq (nat_eq p) old m'' new → IsFed after can_feed answer m' m'' → Answers after can_feed p answer m' looked new
    answers-written answer old looked new m m' m'' here looks written fed = record {
      fed = m'';
      itself = written-itself old new m m'' here written;
      is_fed = fed;
      others = λ q off. written-others old new m m'' here written q off ∙ sym (written-others old looked m m' here looks q off);
    }

-- ---- one that begins

module _ {A P : Type 0} (after : P → A → List Answer → Asks) (core_of : P → Core) (start : Start) (limit : ℕ) (program : P) where
  same-looks : {S : Type 0} (ms : HashMap ℕ (Member A) S) → Looks (after program) (ask (core_of program) start limit) start.process ms ms
  same-looks ms = record { itself = by (member_of ms start.process); others = λ q off. refl }
    where
      by : (o : Option (Member A)) → LooksAt (after program) (ask (core_of program) start limit) o o
      by None = tt
      by (Some m) = record { instance = refl; actor = λ more. refl }

  pub begins-looks : {S : Type 0} (old new : HashMap ℕ (Member A) S) → Begins after core_of start limit old new → Looks (after program) (ask (core_of program) start limit) start.process old new
  begins-looks old new (inl same) = subst (λ xs. Looks (after program) (ask (core_of program) start limit) start.process old xs) (sym same) (same-looks old)
  begins-looks old new (inr (none, begun)) =
      let plays : Plays (after program) (ask (core_of program) start limit) begun.member = record { actor = λ more. begun.actor program more } in
      record {
        itself = subst (λ o. LooksAt (after program) (ask (core_of program) start limit) o (member_of new start.process)) (sym none)
            (subst (λ o. LooksAt (after program) (ask (core_of program) start limit) None o) (sym begun.itself) plays);
        others = begun.others;
      }

-- ---- who is kept

module _ {A S : Type 0} (world : World) where
  pub keeps-same : (old : HashMap ℕ (Member A) S) → KeepsLiving world old old
  keeps-same old = record { living = λ q lives. refl; stays = λ q x here. here }

  module _ (old new : HashMap ℕ (Member A) S) (kept : new.entries ≡ filter (λ e. is_some (started world e.0)) old.entries) where
    kept-at : (q : ℕ) → member_of new q ≡ cond (is_some (started world q)) (member_of old q) None
    kept-at q =
        ap (lookup (nat_eq q)) kept
        ∙ lookup-filter-keys (nat_eq q) (λ k. is_some (started world k)) (is_some (started world q)) (λ k same. ap (λ n. is_some (started world n)) (sym (eqb-true q k same))) old.entries

    pub keeps-living : KeepsLiving world old new
    keeps-living = record { living = λ q lives. kept-at q ∙ ap (λ b. cond b (member_of old q) None) lives; stays = λ q x here. by q x (is_some (started world q)) (sym (kept-at q) ∙ here) }
      where
        by : (q : ℕ) (x : Member A) (b : Bool) → cond b (member_of old q) None ≡ Some x → member_of old q ≡ Some x
        by q x true here = here
        by q x false here = absurd (cc)

-- ---- what a call that may fail leaves

pub if_ok : {B E : Type 0} {P Q : B → Type 0} (r : Result B E) → ((b : B) → P b → Q b) → IfOk r P → IfOk r Q
if_ok (Ok b) f h = f b h
if_ok (Err e) f h = h

pub on_any : {B E : Type 0} {P : Type 0} (r : Result B E) → P → OnOk r P
on_any (Ok b) h = h
on_any (Err e) h = tt

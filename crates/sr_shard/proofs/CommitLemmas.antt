-- A shard with one more entry.
use Rattle.std.proofs.Common.{◌≡◌, ◌==◌, ℕ, ◌<◌, true, List, [], ◌∷◌, ◌++◌, Option, None, Some, refl, ap, sym, ◌∙◌, subst}
use Rattle.std.proofs.lemmas.List.Concat.{flat_map-append}
use Rattle.std.proofs.lemmas.List.Elements.{All-push, filter-append}
use Rattle.std.proofs.lemmas.List.Quantifiers.{all_pairs_push}
use Rattle.std.specs.Prelude.{filter, flat_map, is_some}
use Rattle.sr_buckets.specs.Parts.{home}
use Rattle.sr_processes.specs.Living.{start_of}
use Rattle.sr_ask.specs.declared.entry.Entry.{Entry}
use Rattle.sr_ask.specs.declared.start.Start.{Start}
use Rattle.sr_core.specs.declared.component.Core.{Core}
use Rattle.sr_world.specs.Worlds.{World}
use Rattle.sr_shard.specs.Acts.{Act, apply, part}
use Rattle.sr_shard.specs.Changes.{all_changed}
use Rattle.sr_shard.specs.Committing.{FitsPresent, IsLaterThan}
use Rattle.sr_shard.specs.Entries.{acts_of}
use Rattle.sr_shard.specs.Laws.{ReplaysIn, is_touched_by, world_after}
use Rattle.sr_shard.specs.Dividing.{without_moved}
use Rattle.sr_shard.specs.Presents.{AreReady, IsBase, IsReady, live_in, present_in}
use Rattle.sr_shard.specs.Shards.{HasRoom, IsReplay, Opened, Sharded, acts_on, opened_part, shown}
use Rattle.sr_shard.specs.declared.change.Change.{Change}
use Rattle.sr_shard.specs.declared.change.Change.TheVariants as change
use Rattle.sr_shard.specs.declared.present.Present.{Present}
use Rattle.sr_shard.proofs.ApartLemmas.{changes_on}
use Rattle.sr_shard.proofs.ChangeLemmas.{all_changed_as}

module _ (core : Core) (class : ℕ → ℕ) where
  replays_more : (acts more : List Act) (world : World) → ReplaysIn core class acts world → ReplaysIn core class more (world_after core class acts world) → ReplaysIn core class (acts ++ more) world
  replays_more [] more world before then = then
  replays_more (act ∷ acts) more world before then = (before.0, replays_more acts more (apply core act world) before.1 then)

  after_more : (acts more : List Act) (world : World) → world_after core class (acts ++ more) world ≡ world_after core class more (world_after core class acts world)
  after_more [] more world = refl
  after_more (act ∷ acts) more world = after_more acts more (apply core act world)

acts_more : (opened : Opened) (number : ℕ) (entries : List Entry) (entry : Entry) → acts_on opened number (entries ++ entry ∷ []) ≡ acts_on opened number entries ++ acts_on opened number (entry ∷ [])
acts_more opened number entries entry =
    ap (filter (λ act. part opened.class act == number)) (flat_map-append (acts_of opened.core) entries (entry ∷ []))
    ∙ filter-append (λ act. part opened.class act == number) (flat_map (acts_of opened.core) entries) (flat_map (acts_of opened.core) (entry ∷ []))

pub replay_more : (opened : Opened) (shard : Sharded) (entry : Entry) (present : World) (planned : Option (List Change)) → IsReplay opened shard → is_touched_by opened.core opened.class shard.number entry ≡ true → FitsPresent opened shard entry
    → IsLaterThan shard.journal entry.stamp → present ≡ world_after opened.core opened.class (acts_on opened shard.number (entry ∷ [])) shard.present
    → IsReplay opened (record { number = shard.number; journal = shard.journal ++ entry ∷ []; present = present; planned = planned })
replay_more opened shard entry present planned replay touches fits later is = record {
  number = replay.number;
  touched = All-push (λ e. is_touched_by opened.core opened.class shard.number e ≡ true) shard.journal entry replay.touched touches;
  fits = subst (λ acts. ReplaysIn opened.core opened.class acts (opened_part opened shard.number)) (sym (acts_more opened shard.number shard.journal entry))
      (replays_more opened.core opened.class (acts_on opened shard.number shard.journal) (acts_on opened shard.number (entry ∷ [])) (opened_part opened shard.number) replay.fits (subst (λ w. ReplaysIn opened.core opened.class (acts_on opened shard.number (entry ∷ [])) w) replay.present fits));
  present = is ∙ ap (world_after opened.core opened.class (acts_on opened shard.number (entry ∷ []))) replay.present
      ∙ sym (after_more opened.core opened.class (acts_on opened shard.number shard.journal) (acts_on opened shard.number (entry ∷ [])) (opened_part opened shard.number))
      ∙ ap (λ acts. world_after opened.core opened.class acts (opened_part opened shard.number)) (sym (acts_more opened shard.number shard.journal entry));
  rising = all_pairs_push (λ e f. e.stamp < f.stamp) shard.journal entry replay.rising (λ k d less. later k d less);
}

-- ---- the standing world

pub standing_base : (opened : Opened) (standing : World) (number : ℕ) → standing ≡ without_moved opened.world → IsBase number standing (opened_part opened number)
standing_base opened standing number same = ap (λ (live : List Start). filter (λ start. home start.process == number) live) (sym (ap (λ (w : World). w.live) same))

-- what is ready depends on those who live alone
ready_alike : (one other : World) (present : Present) (made : Change) → one.live ≡ other.live → IsReady one present made → IsReady other present made
ready_alike one other present (change.Declare block var shape value) same ready = ready
ready_alike one other present (change.Store block var path value) same ready = ready
ready_alike one other present (change.Arrive invocation) same ready = ready
ready_alike one other present (change.Depart owner op id) same ready = ready
ready_alike one other present (change.Hold process held) same ready = ready
ready_alike one other present (change.Free process id) same ready = ready
ready_alike one other present (change.Answer process id results) same ready =
    λ lives. ready (ap (λ (live : List Start). is_some (start_of (live_in live present.ended.keys present.born.starts) process)) same ∙ lives)
ready_alike one other present (change.Take process ids) same ready = ready
ready_alike one other present (change.Begin start) same ready = ready
ready_alike one other present (change.End process) same ready = ready

are_ready_alike : (one other : World) (present : Present) (changes : List Change) → one.live ≡ other.live → AreReady one present changes → AreReady other present changes
are_ready_alike one other present [] same ready = tt
are_ready_alike one other present (made ∷ changes) same ready = (ready_alike one other present made same ready.0, are_ready_alike one other present changes same ready.1)

pub ready_beside : (opened : Opened) (standing base : World) (present : Present) (changes : List Change) → standing ≡ without_moved opened.world → AreReady (opened_part opened present.portion.number) present changes
    → IsBase present.portion.number standing base → AreReady base present changes
ready_beside opened standing base present changes same ready is =
    are_ready_alike (opened_part opened present.portion.number) base present changes (standing_base opened standing present.portion.number same ∙ sym is) ready

-- ---- the changes of an entry

pub present_more : (opened : Opened) (standing : World) (old new : Present) (entry : Entry) (changes : List Change) → standing ≡ without_moved opened.world → changes ≡ changes_on opened old.portion.number entry
    → new.portion.number ≡ old.portion.number → ((base : World) → IsBase old.portion.number standing base → present_in base new ≡ all_changed changes (present_in base old))
    → present_in (opened_part opened new.portion.number) new ≡ world_after opened.core opened.class (acts_on opened old.portion.number (entry ∷ [])) (present_in (opened_part opened old.portion.number) old)
present_more opened standing old new entry changes same planned number made =
    ap (λ n. present_in (opened_part opened n) new) number
    ∙ made (opened_part opened old.portion.number) (standing_base opened standing old.portion.number same)
    ∙ ap (λ c. all_changed c (present_in (opened_part opened old.portion.number) old)) planned
    ∙ all_changed_as opened.core opened.class (acts_on opened old.portion.number (entry ∷ [])) opened.world.places (present_in (opened_part opened old.portion.number) old) refl

pub replay_after : (opened : Opened) (journal later : List Entry) (planned nothing : Option (List Change)) (old new : Present) (entry : Entry) → IsReplay opened (shown opened journal planned old)
    → is_touched_by opened.core opened.class old.portion.number entry ≡ true → FitsPresent opened (shown opened journal planned old) entry → IsLaterThan journal entry.stamp
    → later ≡ journal ++ entry ∷ [] → new.portion.number ≡ old.portion.number
    → present_in (opened_part opened new.portion.number) new ≡ world_after opened.core opened.class (acts_on opened old.portion.number (entry ∷ [])) (present_in (opened_part opened old.portion.number) old)
    → IsReplay opened (shown opened later nothing new)
replay_after opened journal later planned nothing old new entry replay touches fits rising more number made =
    subst (λ (shard : Sharded). IsReplay opened shard) (let n = sym number in let j = sym more in λ k. record { number = n k; journal = j k; present = present_in (opened_part opened new.portion.number) new; planned = nothing })
    (replay_more opened (shown opened journal planned old) entry (present_in (opened_part opened new.portion.number) new) nothing replay touches fits rising made)

pub none_planned : (planned : Option (List Change)) (changes : List Change) → planned ≡ None → planned ≡ Some changes → ⊥
none_planned planned changes none some = cc

pub planned_is : (planned : Option (List Change)) (changes other : List Change) → planned ≡ Some changes → planned ≡ Some other → changes ≡ other
planned_is planned changes other one two = cc

pub planned_room : (opened : Opened) (room : ℕ) (planned : Option (List Change)) (changes : List Change) (present : Present) → planned ≡ Some changes → HasRoom opened room planned present
    → (0 < room) × AreReady (opened_part opened present.portion.number) present changes
planned_room opened room planned changes present is has = subst (λ p. HasRoom opened room p present) is has

pub none_fits : (opened : Opened) (room : ℕ) (planned : Option (List Change)) (present : Present) → planned ≡ None → HasRoom opened room planned present
none_fits opened room planned present none = subst (λ p. HasRoom opened room p present) (sym none) tt

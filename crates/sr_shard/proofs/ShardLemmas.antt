-- The journal of a shard replays to what it has.
use Rattle.std.proofs.Common.{◌≡◌, ◌==◌, ℕ, ◌<◌, Bool, List, [], length, Option, Some, refl, ap, sym, ◌∙◌, subst, arith}
use Rattle.std.proofs.lemmas.Option.{slice_get_within}
use Rattle.std.specs.Prelude.{filter, flat_map, slice_get}
use Rattle.sr_ask.specs.declared.entry.Entry.{Entry}
use Rattle.sr_orders.proofs.ListLemmas.{filter_twice}
use Rattle.sr_orders.proofs.OrderLemmas as order
use Rattle.sr_world.specs.Worlds.{World}
use Rattle.sr_shard.specs.Acts.{Act, Fits, apply, part}
use Rattle.sr_shard.specs.Dividing.{Moved, moved_in, moved_part, moved_to, with_moved}
use Rattle.sr_shard.specs.Entries.{acts_of}
use Rattle.sr_shard.specs.Laws.{ReplaysIn, is_touched_by, world_after}
use Rattle.sr_shard.specs.Masks.{mask}
use Rattle.sr_shard.specs.Presents.{IsSame, present_in}
use Rattle.sr_shard.specs.declared.change.Change.{Change}
use Rattle.sr_shard.specs.declared.portion.Portion.{Portion}
use Rattle.sr_shard.specs.declared.present.Present.{Present}
use Rattle.sr_shard.specs.Shards.{IsReplay, JoiningUndoesDividing, Opened, Sharded, ShardsHaveAHistory, acts_on, opened_part, shown}
use Rattle.sr_shard.proofs.LocalLemmas.{acts_are_local}
use Rattle.sr_shard.proofs.LawProofs.{journals_in_parts}
use Rattle.sr_shard.proofs.SplitLemmas.{at_place, masked_twice}

-- ---- at first

pub begins : (opened : Opened) (journal : List Entry) (planned : Option (List Change)) (present : Present) → present.portion.number < 32 → journal ≡ []
    → present_in (opened_part opened present.portion.number) present ≡ opened_part opened present.portion.number → IsReplay opened (shown opened journal planned present)
begins opened journal planned present less none same =
    subst (λ entries. IsReplay opened (shown opened entries planned present)) (sym none) (record {
      number = less;
      touched = λ k d inside. absurd (omega arith);
      fits = tt;
      present = same;
      rising = λ j k d less' inside. absurd (omega arith);
    })

module _ (opened : Opened) (portion : Portion) (present : Present) (is : present.portion ≡ portion) (moved : moved_to portion ≡ moved_part opened.class portion.number (moved_in opened.world))
    (shows : (base : World) → present_in base present ≡ with_moved (moved_to portion) base) where
  pub begun_present : present_in (opened_part opened present.portion.number) present ≡ opened_part opened portion.number
  begun_present =
      shows (opened_part opened present.portion.number)
      ∙ ap (λ (p : Portion). with_moved (moved_to portion) (opened_part opened p.number)) is
      ∙ ap (λ (m : Moved). with_moved m (opened_part opened portion.number)) moved

  pub begun_replay : (journal : List Entry) (planned : Option (List Change)) → portion.number < 32 → journal ≡ [] → IsReplay opened (shown opened journal planned present)
  begun_replay journal planned less none =
      begins opened journal planned present (subst (λ (p : Portion). p.number < 32) (sym is) less) none (begun_present ∙ ap (λ (p : Portion). opened_part opened p.number) (sym is))

-- room for changes changes nothing else

pub same_present : (opened : Opened) (old new : Present) → IsSame old new → present_in (opened_part opened new.portion.number) new ≡ present_in (opened_part opened old.portion.number) old
same_present opened old new same = ap (λ n. present_in (opened_part opened n) new) same.number ∙ same.present (opened_part opened old.portion.number)

pub replay_same : (opened : Opened) (journal later : List Entry) (planned other : Option (List Change)) (old new : Present) → IsSame old new → later ≡ journal → IsReplay opened (shown opened journal planned old)
    → IsReplay opened (shown opened later other new)
replay_same opened journal later planned other old new same more replay =
    let number = sym same.number in
    let entries = sym more in
    let present = sym (same_present opened old new same) in
    subst (λ (shard : Sharded). IsReplay opened shard) (λ k. record { number = number k; journal = entries k; present = present k; planned = other })
    (record { number = replay.number; touched = replay.touched; fits = replay.fits; present = replay.present; rising = replay.rising })

-- ---- what it has stands in its part

module _ (opened : Opened) (number : ℕ) where
  abbrev on : Act → Bool
  on act = part opened.class act == number

  stays : (acts : List Act) (world : World) → mask opened.class number world ≡ world
      → mask opened.class number (world_after opened.core opened.class (filter on acts) world) ≡ world_after opened.core opened.class (filter on acts) world
  stays acts world is =
      order.parts_end 32 (part opened.class) (mask opened.class) (Fits opened.core opened.class) (apply opened.core) (acts_are_local opened.core opened.class) (filter on acts) world number
      ∙ ap (λ (all : List Act). world_after opened.core opened.class all (mask opened.class number world)) (filter_twice on acts)
      ∙ ap (world_after opened.core opened.class (filter on acts)) is

pub present_part : (opened : Opened) (shard : Sharded) → IsReplay opened shard → mask opened.class shard.number shard.present ≡ shard.present
present_part opened shard replay =
    ap (mask opened.class shard.number) replay.present
    ∙ stays opened shard.number (flat_map (acts_of opened.core) shard.journal) (opened_part opened shard.number) (masked_twice opened.class shard.number opened.world)
    ∙ sym replay.present

-- ---- laws

abbrev kept_by : Opened → List Entry → ℕ → List Entry
kept_by opened history s = filter (is_touched_by opened.core opened.class s) history

pub shards_have_a_history : ShardsHaveAHistory
shards_have_a_history opened shards history numbered replay kept = (both.0, λ i shard at. ends i shard at)
  where
    at_number : (i : ℕ) (shard : Sharded) → slice_get shards i ≡ Some shard → (shard.number ≡ i) × (shard.journal ≡ kept_by opened history i)
    at_number i shard at = (numbered.each i shard at, kept i shard at)

    inside : (i : ℕ) → i < 32 → i < length shards
    inside i less = let l = numbered.all in omega arith

    fits : (i : ℕ) (shard : Sharded) → slice_get shards i ≡ Some shard → ReplaysIn opened.core opened.class (acts_on opened i (kept_by opened history i)) (opened_part opened i)
    fits i shard at =
        subst (λ entries. ReplaysIn opened.core opened.class (acts_on opened i entries) (opened_part opened i)) (at_number i shard at).1
        (subst (λ n. ReplaysIn opened.core opened.class (acts_on opened n shard.journal) (opened_part opened n)) (at_number i shard at).0 (replay i shard at).fits)

    both : ReplaysIn opened.core opened.class (flat_map (acts_of opened.core) history) opened.world
        × ((s : ℕ) → s < 32 → mask opened.class s (world_after opened.core opened.class (flat_map (acts_of opened.core) history) opened.world)
        ≡ world_after opened.core opened.class (acts_on opened s (kept_by opened history s)) (opened_part opened s))
    both = journals_in_parts opened.core opened.class history (kept_by opened history) opened.world (λ s less. refl)
        (λ s less. let found = at_place shards s (inside s less) in fits s found.0 found.1)

    ends : (i : ℕ) (shard : Sharded) → slice_get shards i ≡ Some shard → mask opened.class i (world_after opened.core opened.class (flat_map (acts_of opened.core) history) opened.world) ≡ shard.present
    ends i shard at =
        both.1 i (let l = numbered.all in let within = slice_get_within shards i shard at in omega arith)
        ∙ sym (ap (λ entries. world_after opened.core opened.class (acts_on opened i entries) (opened_part opened i)) (at_number i shard at).1)
        ∙ sym (ap (λ n. world_after opened.core opened.class (acts_on opened n shard.journal) (opened_part opened n)) (at_number i shard at).0)
        ∙ sym (replay i shard at).present

pub joining_undoes_dividing : JoiningUndoesDividing
joining_undoes_dividing opened shards are order = (
  record { all = are.all; each = λ i shard at. (are.each i shard at).number },
  record { parts = λ i shard at. sym (are.each i shard at).present; rest = refl; order = order },
)

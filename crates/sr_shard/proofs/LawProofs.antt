-- The laws of entries and the parts that they touch.
use Rattle.std.proofs.Common.{◌≡◌, ℕ, ◌==◌, Bool, true, false, List, None, Some, refl, ap, sym, ◌∙◌, subst, cond}
use Rattle.std.specs.List.{list_any}
use Rattle.std.specs.Prelude.{filter}
use Rattle.sr_orders.proofs.ListLemmas.{filter_none}
use Rattle.sr_orders.proofs.OrderLemmas as order
use Rattle.sr_touch.specs.Touched.{is_wide, parts_of}
use Rattle.sr_shard.specs.Acts.{Act, Fits, apply, part}
use Rattle.sr_shard.specs.Entries.{acts_of, me_in}
use Rattle.sr_shard.specs.Laws.{EntriesInAnyOrder, JournalsInParts, OthersStay, OthersTellNothing, ReplaysIn, TouchedIsAll, world_after}
use Rattle.sr_shard.specs.Masks.{mask}
use Rattle.sr_shard.proofs.LocalLemmas.{acts_are_local}
use Rattle.sr_shard.proofs.TouchedLemmas.{among, contained, touched_by}

pub entries_in_any_order : EntriesInAnyOrder
entries_in_any_order core class = order.orders_agree 32 (part class) (mask class) (Fits core class) (apply core) (acts_are_local core class) (acts_of core)

pub journals_in_parts : JournalsInParts
journals_in_parts core class = order.journals_replay 32 (part class) (mask class) (Fits core class) (apply core) (acts_are_local core class) (acts_of core)

pub narrow : (b : Bool) (touched parts : List ℕ) → cond b None (Some touched) ≡ Some parts → (b ≡ false) × (touched ≡ parts)
narrow true touched parts is = absurd (cc is)
narrow false touched parts is = (refl, cc is)

pub touched_is_all : TouchedIsAll
touched_is_all core class entry parts is s h =
    let found = narrow (is_wide core class (me_in entry) entry.ask) (parts_of core class (me_in entry) entry.name entry.ask.request) parts is in
    contained parts s (subst (λ ps. among ps s ≡ true) found.1 (touched_by core class entry s found.0 h))

abbrev on : (ℕ → ℕ) → ℕ → Act → Bool
on class s act = part class act == s

pub others_stay : OthersStay
others_stay core class entry parts world is s apart =
    order.parts_end 32 (part class) (mask class) (Fits core class) (apply core) (acts_are_local core class) (acts_of core entry) world s
    ∙ ap (λ (acts : List Act). world_after core class acts (mask class s world)) (filter_none (on class s) (acts_of core entry) (by (list_any (on class s) (acts_of core entry)) refl))
  where
    by : (b : Bool) → list_any (on class s) (acts_of core entry) ≡ b → b ≡ false
    by true h = absurd (apart (touched_is_all core class entry parts is s h))
    by false h = refl

pub others_tell_nothing : OthersTellNothing
others_tell_nothing core class entry parts world other is same h =
    order.all_replay 32 (part class) (mask class) (Fits core class) (apply core) (acts_are_local core class) (acts_of core entry) other
    (λ s lt. by s (list_any (on class s) (acts_of core entry)) refl)
  where
    by : (s : ℕ) (b : Bool) → list_any (on class s) (acts_of core entry) ≡ b → ReplaysIn core class (filter (on class s) (acts_of core entry)) (mask class s other)
    by s true touched = subst (λ v. ReplaysIn core class (filter (on class s) (acts_of core entry)) v) (same s (touched_is_all core class entry parts is s touched))
        (order.parts_replay 32 (part class) (mask class) (Fits core class) (apply core) (acts_are_local core class) (acts_of core entry) world h s)
    by s false apart = subst (λ acts. ReplaysIn core class acts (mask class s other)) (sym (filter_none (on class s) (acts_of core entry) apart)) tt

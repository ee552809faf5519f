-- One more entry of a shard.
use Rattle.std.specs.Prelude.{◌<◌, ℕ, List, [], ◌∷◌, All}
use Rattle.sr_ask.specs.declared.entry.Entry.{Entry}
use Rattle.sr_shard.specs.Laws.{ReplaysIn}
use Rattle.sr_shard.specs.Shards.{Opened, Sharded, acts_on}

-- its acts on the part replay from what the part has now
abbrev pub FitsPresent : Opened → Sharded → Entry → Type 0
FitsPresent opened shard entry = ReplaysIn opened.core opened.class (acts_on opened shard.number (entry ∷ [])) shard.present

-- its stamp is greater than those of all entries
abbrev pub IsLaterThan : List Entry → ℕ → Type 0
IsLaterThan entries stamp = All (λ entry. entry.stamp < stamp) entries

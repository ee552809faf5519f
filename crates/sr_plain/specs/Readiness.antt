-- The processes that are asked in turn. Who was taken out last stays among them, and is passed over.
use Rattle.std.specs.Prelude.{◌≡◌, ◌+◌, ◌≤◌, ◌==◌, ◌&&◌, ℕ, Bool, not, true, false, if◌then◌else◌, Option, Some, None}
use Rattle.std.specs.BTreeSet.{BTreeSet, btree_set_len, contains}
use Rattle.std.specs.Ordering.{nat_cmp}
use Rattle.sr_plain.specs.declared.ready.Ready.{Ready}

-- who is passed over
abbrev pub is_resting : Option ℕ → ℕ → Bool
is_resting None process = false
is_resting (Some resting) process = resting == process

abbrev pub rests : Ready → ℕ → Bool
rests ready process = is_resting ready.resting process

-- who is asked
abbrev pub holds : Ready → ℕ → Bool
holds ready process = contains nat_cmp ready.processes process && not (rests ready process)

-- whether one of them is passed over
abbrev pub passes_over : Option ℕ → BTreeSet ℕ → Bool
passes_over None processes = false
passes_over (Some resting) processes = contains nat_cmp processes resting

-- one more than are asked
abbrev pub ready_len : Ready → ℕ
ready_len ready = btree_set_len ready.processes + (if passes_over ready.resting ready.processes then 0 else 1)

-- one more is asked
pub record IsPutIn (process : ℕ) (old new : Ready) : Type 0 where
  pub itself : holds new process ≡ true
  pub others : (q : ℕ) → (process == q) ≡ false → holds new q ≡ holds old q
  pub more : ready_len new ≤ ready_len old + 1

-- one isn't asked any more
pub record IsPutOut (process : ℕ) (old new : Ready) : Type 0 where
  pub out : holds new process ≡ false
  pub others : (q : ℕ) → (process == q) ≡ false → holds new q ≡ holds old q

-- each that passes is asked, and who was asked is
pub record ArePutIn (passes : ℕ → Bool) (old new : Ready) : Type 0 where
  pub ready : (q : ℕ) → holds new q ≡ false → holds old q ≡ false
  pub joined : (q : ℕ) → holds new q ≡ false → passes q ≡ false

-- nobody else is asked
pub record IsSole (ready : Ready) (process : ℕ) : Type 0 where
  pub goes : holds ready process ≡ true
  pub only : (other : ℕ) → holds ready other ≡ true → other ≡ process

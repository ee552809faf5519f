-- The entries of several workers in one order: by stamp, and then by worker.
use Rattle.std.specs.Prelude.{◌≡◌, ◌==◌, ℕ, ◌<◌, ◌⊎◌, Bool, List, filter, AllPairs}

module _ {E : Type 0} (by stamp : E → ℕ) where
  abbrev pub is_by : ℕ → E → Bool
  is_by worker entry = by entry == worker

  -- an earlier stamp, or the same and a lower worker
  abbrev pub ComesBefore : E → E → Type 0
  ComesBefore e f = (stamp e < stamp f) ⊎ ((stamp e ≡ stamp f) × (by e < by f))

  -- these entries are what the workers' lists are in one order
  pub record IsMerged (lists : ℕ → List E) (entries : List E) : Type 0 where
    pub sorted : AllPairs ComesBefore entries
    pub same : (worker : ℕ) → filter (is_by worker) entries ≡ lists worker

  abbrev pub MergeIsOne : Type 0
  MergeIsOne = (lists : ℕ → List E) (entries others : List E) → IsMerged lists entries → IsMerged lists others → entries ≡ others

  -- Where a history has these lists, and stamps rise in one of its parts, the merged entries have that part as the history has it.
  abbrev pub SameParts : (ℕ → E → Bool) → Type 0
  SameParts touches = (lists : ℕ → List E) (history entries : List E) → IsMerged lists entries → ((worker : ℕ) → filter (is_by worker) history ≡ lists worker)
      → (s : ℕ) → AllPairs (λ e f. stamp e < stamp f) (filter (touches s) history) → filter (touches s) entries ≡ filter (touches s) history

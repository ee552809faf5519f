-- Maps by number in 32 parts.
use Rattle.std.specs.Prelude.{◌≡◌, ℕ, suc, ◌%◌, ◌==◌, List, [], ◌∷◌, ◌++◌, Some, slice_get}
use Rattle.std.specs.FinMap as map
use Rattle.std.specs.Ordering.{nat_cmp}

abbrev pub ByNumber : Type 0 → Type 0
ByNumber A = map.FinMap nat_cmp A

-- the part in which a thing of this number stands
abbrev pub home : ℕ → ℕ
home number = number % 32

-- the entries of a map that stand in a part
abbrev pub part : {A : Type 0} → ℕ → ByNumber A → ByNumber A
part i all = map.retain_keys all (λ number. home number == i)

abbrev pub union : {A : Type 0} → ByNumber A → ByNumber A → ByNumber A
union one other = map.from_entries (map.entries one ++ map.entries other)

-- what stands in its part, in buckets that are those of the parts from one on
abbrev pub gathered_from : {A B : Type 0} → (B → ByNumber A) → ℕ → List B → ByNumber A
gathered_from entries at [] = map.empty
gathered_from entries at (bucket ∷ buckets) = union (part at (entries bucket)) (gathered_from entries (suc at) buckets)

-- what stands in all parts
abbrev pub gathered : {A B : Type 0} → (B → ByNumber A) → List B → ByNumber A
gathered entries buckets = gathered_from entries 0 buckets

-- each bucket has only what stands in its part
abbrev pub AreInPlace : {A B : Type 0} → (B → ByNumber A) → List B → Type 0
AreInPlace {A} {B} entries buckets = (i : ℕ) (bucket : B) → slice_get buckets i ≡ Some bucket → part i (entries bucket) ≡ entries bucket

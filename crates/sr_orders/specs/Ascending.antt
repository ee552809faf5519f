-- Lists that ascend by a key.
use Rattle.std.specs.Prelude.{◌≡◌, ◌==◌, ℕ, ◌<◌, List, AllPairs, filter}

module _ {A : Type 0} (key : A → ℕ) where
  abbrev pub Ascends : List A → Type 0
  Ascends items = AllPairs (λ a b. key a < key b) items

  -- two lists that ascend are the same where they have the same items in each place
  abbrev pub PlacesGiveAll : (A → ℕ) → Type 0
  PlacesGiveAll place = (items others : List A) → Ascends items → Ascends others
      → ((s : ℕ) → filter (λ a. place a == s) items ≡ filter (λ a. place a == s) others) → items ≡ others

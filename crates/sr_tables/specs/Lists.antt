-- Lists of parts.
use Rattle.std.specs.Prelude.{Bool, List, [], ◌∷◌, ◌++◌, Option, Some, None, flat_map, if◌then◌else◌}
use Rattle.std.specs.List.{list_any}

abbrev pub maybe : {A B : Type 0} → (A → List B) → Option A → List B
maybe parts None = []
maybe parts (Some thing) = parts thing

abbrev pub lists : {A : Type 0} → List (List A) → List A
lists all = flat_map (λ some. some) all

abbrev pub maybe_lists : {A : Type 0} → Option (List (List A)) → List A
maybe_lists all = maybe lists all

-- a list with one more item, unless it has it
abbrev pub with_new : {A : Type 0} → (A → A → Bool) → List A → A → List A
with_new same items item = if list_any (same item) items then items else items ++ item ∷ []

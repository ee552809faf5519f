-- How many components show a name.
use Rattle.std.specs.Prelude.{Bool, true, false, List, [], ◌∷◌, Option, Some, None}
use Rattle.sr_names.specs.declared.meaning.Decl.{Decl}
use Rattle.sr_names.specs.declared.place.Shown.{Shown}
use Rattle.sr_names.specs.declared.place.Shown.TheVariants.{Nowhere, Once, Often}

abbrev pub counted : List Decl → Shown
counted [] = Nowhere
counted (decl ∷ []) = Once decl
counted (decl ∷ other ∷ more) = Often

abbrev pub met : Shown → Option Decl → Shown
met seen None = seen
met Nowhere (Some decl) = Once decl
met (Once first) (Some decl) = Often
met Often (Some decl) = Often

abbrev pub is_often : Shown → Bool
is_often Nowhere = false
is_often (Once decl) = false
is_often Often = true

-- Where the names of the components of a program stand.
use Rattle.std.specs.Prelude.{List, map}
use Rattle.std.specs.List.{IsDistinct}
use Rattle.sr_names.specs.Spots.{same_spot}
use Rattle.sr_tables.specs.Parts.{components_in, component_spot}
use Rattle.sr_tree.specs.declared.component.File.{File}

-- the names of no two components stand at one spot
abbrev pub ComponentsApart : List File → Type 0
ComponentsApart files = IsDistinct same_spot (map component_spot (components_in files))

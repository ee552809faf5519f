-- What the laws of the core are stated with.
use Rattle.std.specs.Prelude.{List, flat_map}
use Rattle.std.specs.List.{IsDistinct}
use Rattle.sr_check_expr.specs.declared.facts.Facts.{Facts}
use Rattle.sr_names.specs.Spots.{same_spot}
use Rattle.sr_outline.specs.Numbers.{component_sites}
use Rattle.sr_tables.specs.Parts.{components_in}
use Rattle.sr_tree.specs.declared.component.File.{File}

-- statements that wait stand at different spots
abbrev pub WaitApart : List File → Facts → Type 0
WaitApart files facts = IsDistinct same_spot (flat_map (component_sites facts) (components_in files))

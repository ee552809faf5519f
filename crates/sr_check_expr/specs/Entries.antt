-- What a contract sees of the declared names: by the spot of a declaration, what it declares.
use Rattle.std.specs.Prelude.{List}
use Rattle.sr_names.specs.declared.spot.Spot.{Spot}
use Rattle.sr_check_expr.specs.declared.info.Info.{Info}

abbrev pub Entries : Type 0
Entries = List (Spot × Info)

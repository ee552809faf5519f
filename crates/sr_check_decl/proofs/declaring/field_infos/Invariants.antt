-- The fields so far and those of the rest are those of all.
use Rattle.std.proofs.Common.{◌≡◌, ◌++◌, map, drop}
use Rattle.sr_check_decl.specs.Declaring.{field_info}
use Rattle.sr_check_decl.proofs.declaring.field_infos.Given as goal

abbrev pub invariant-loop-param : goal.invariant-loop-param
invariant-loop-param l = l.fields ++ map field_info (drop l.param-index l.params) ≡ map field_info l.params

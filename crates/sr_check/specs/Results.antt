-- The results of operations, which `forward` hands on.
use Rattle.std.specs.Prelude.{Bool, true, false, ◌&&◌, List, [], ◌∷◌, ◌++◌, Option, Some, None}
use Rattle.sr_types.specs.declared.signature.Mode.{Mode}
use Rattle.sr_types.specs.declared.signature.Mode.TheVariants.{Val, Var, Res}
use Rattle.sr_types.specs.declared.signature.Param.{Param}
use Rattle.sr_types.specs.declared.signature.Signature.{Signature}
use Rattle.sr_types.specs.declared.ty.Ty.{Ty}
use Rattle.sr_types.specs.Types.{fits_type}

abbrev pub result_after : Mode → Ty → List Ty → List Ty
result_after Val ty types = types
result_after Var ty types = ty ∷ types
result_after Res ty types = ty ∷ types

-- what `var` and `res` formals bring back
abbrev pub formal_results : List Param → List Ty
formal_results [] = []
formal_results (formal ∷ formals) = result_after formal.mode formal.ty (formal_results formals)

abbrev pub returned_types : Option Ty → List Ty
returned_types None = []
returned_types (Some ty) = ty ∷ []

-- the types of all results, in one row
abbrev pub result_types : Signature → List Ty
result_types signature = formal_results signature.params ++ returned_types signature.returns

abbrev pub are_equal : List Ty → List Ty → Bool
are_equal [] [] = true
are_equal [] (ty ∷ types) = false
are_equal (ty ∷ types) [] = false
are_equal (ty ∷ types) (ty' ∷ types') = fits_type ty ty' && are_equal types types'

-- `forward` is to an operation whose result types are equal
abbrev pub results_rule : Signature → Signature → Bool
results_rule own other = are_equal (result_types own) (result_types other)

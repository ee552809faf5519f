-- The places in a value.
use Rattle.std.specs.Prelude.{List, [], ◌∷◌, Result, Ok}
use Rattle.sr_value.specs.declared.fault.Fault.{Fault}
use Rattle.sr_value.specs.declared.fault.Fault.TheVariants.{Index}
use Rattle.sr_value.specs.declared.shape.Sel.{Sel}
use Rattle.sr_value.specs.declared.shape.Shape.{Shape, out-Shape}
use Rattle.sr_value.specs.declared.value.Value.{Value, out-Value}
use Rattle.sr_value.specs.Parts.{layer_parts, or_fault, with_ok}

-- what the place at the end of a path can hold, in a place of this shape that holds `old`
abbrev pub shape_at : Shape → Value → List Sel → Result Shape Fault
shape_at shape old [] = Ok shape
shape_at shape old (step ∷ path) =
    with_ok (or_fault Index (layer_parts (out-Shape shape) (out-Value old) step)) (λ part. shape_at part.shape part.value path)

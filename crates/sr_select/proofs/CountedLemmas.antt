-- Records as a guard sees them: field by field.
use Rattle.std.proofs.Common.{◌≡◌, map, List, Result, Ok, ap, sym, ◌∙◌}
use Rattle.sr_value.specs.declared.fault.Fault.{Fault}
use Rattle.sr_value.specs.declared.shape.Shape.{Shape, fold-roll-Shape}
use Rattle.sr_value.specs.declared.shape.Shape.TheOpen.{Shape-F}
use Rattle.sr_value.specs.declared.shape.Shape.TheVariants.{Rec as rec_shape, rolls-Rec}
use Rattle.sr_value.specs.declared.value.Value.{Value, out-Value}
use Rattle.sr_value.specs.declared.value.Value.TheOpen.{Value-F}
use Rattle.sr_value.specs.declared.value.Value.TheVariants.{Rec}
use Rattle.sr_value.specs.Parts.{each_fits, with_ok}
use Rattle.sr_value.proofs.FitLemmas.{out-rec}
use Rattle.sr_select.specs.Guards.{counted_in, layer_counted}

counted-rec : (shapes : List Shape) (v : Value) → counted_in (rec_shape shapes) v ≡ layer_counted (Shape-F.Rec (map counted_in shapes)) v (out-Value v)
counted-rec shapes v =
    ap (λ s. counted_in s v) (sym (rolls-Rec shapes))
    ∙ ap (λ f. f v) (fold-roll-Shape (Value → Result Value Fault) (λ layer value. layer_counted layer value (out-Value value)) (Shape-F.Rec shapes))

pub counted-record : (shapes : List Shape) (fields : List Value) → counted_in (rec_shape shapes) (Rec fields) ≡ with_ok (each_fits (map counted_in shapes) fields) (λ parts. Ok (Rec parts))
counted-record shapes fields = counted-rec shapes (Rec fields) ∙ ap (layer_counted (Shape-F.Rec (map counted_in shapes)) (Rec fields)) (out-rec fields)

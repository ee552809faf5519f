use Rattle.std.proofs.Common.{◌≡◌, map, List, Result, Ok, ap, sym, ◌∙◌}
use Rattle.sr_value.specs.declared.shape.Shape.{Shape, fold-roll-Shape}
use Rattle.sr_value.specs.declared.shape.Shape.TheOpen.{Shape-F}
use Rattle.sr_value.specs.declared.shape.Shape.TheVariants.{Rec as rec_shape, rolls-Rec, Char as char_shape, rolls-Char}
use Rattle.sr_value.specs.declared.value.Value.{Value, out-Value, out-roll-Value}
use Rattle.sr_value.specs.declared.value.Value.TheOpen.{Value-F}
use Rattle.sr_value.specs.declared.value.Value.TheVariants.{Rec, rolls-Rec as rolls-rec-value}
use Rattle.sr_value.specs.declared.fault.Fault.{Fault}
use Rattle.sr_value.specs.Parts.{each_fits, fitted_in, with_ok, fit_layer}

-- fields fit in order
pub fitted-rec : (shapes : List Shape) (v : Value) → fitted_in (rec_shape shapes) v ≡ fit_layer (Shape-F.Rec (map fitted_in shapes)) v (out-Value v)
fitted-rec shapes v =
    ap (λ s. fitted_in s v) (sym (rolls-Rec shapes))
    ∙ ap (λ f. f v) (fold-roll-Shape (Value → Result Value Fault) (λ layer value. fit_layer layer value (out-Value value)) (Shape-F.Rec shapes))

pub out-rec : (fields : List Value) → out-Value (Rec fields) ≡ Value-F.Rec fields
out-rec fields = ap out-Value (sym (rolls-rec-value fields)) ∙ out-roll-Value (Value-F.Rec fields)

pub fitted-record : (shapes : List Shape) (fields : List Value) → fitted_in (rec_shape shapes) (Rec fields) ≡ with_ok (each_fits (map fitted_in shapes) fields) (λ held. Ok (Rec held))
fitted-record shapes fields = fitted-rec shapes (Rec fields) ∙ ap (fit_layer (Shape-F.Rec (map fitted_in shapes)) (Rec fields)) (out-rec fields)

-- the place of a char
pub fitted-char : (v : Value) → fitted_in char_shape v ≡ fit_layer Shape-F.Char v (out-Value v)
fitted-char v =
    ap (λ s. fitted_in s v) (sym rolls-Char)
    ∙ ap (λ f. f v) (fold-roll-Shape (Value → Result Value Fault) (λ layer value. fit_layer layer value (out-Value value)) Shape-F.Char)

-- A variable of numbers is 0 at first.
use Rattle.std.proofs.Common.{◌≡◌, Bool, true, ◌&&◌, ℕ, pos, List, Option, Some, None, Result, Ok, ap, sym, ◌∙◌, nat_le, if◌then◌else◌, slice_set}
use Rattle.sr_value.specs.declared.fault.Fault.{Fault}
use Rattle.sr_value.specs.declared.fault.Fault.TheVariants.{Range, TooLarge}
use Rattle.sr_value.specs.declared.shape.Shape.{Shape, fold-roll-Shape}
use Rattle.sr_value.specs.declared.shape.Shape.TheOpen.{Shape-F}
use Rattle.sr_value.specs.declared.shape.Shape.TheVariants.{Int as int_shape, rolls-Int}
use Rattle.sr_value.specs.declared.value.Value.{Value}
use Rattle.sr_value.specs.declared.value.Value.TheVariants.{Int}
use Rattle.sr_value.specs.Shapes.{bounds_in_range, cell_count, default_value, has_size, layer_cells, layer_in_range, layer_strings, layer_unset, shape_fault, strings_in_range, unless_fault, unset_value}
use Rattle.sr_ask.specs.declared.environment.Own.{Own}
use Rattle.sr_ask.specs.declared.environment.Spot.TheVariants.{Own as an_own}
use Rattle.sr_frame.specs.Variables.{number_own}
use Rattle.sr_execute.specs.Executes.{Went, makes, settled, went, with_own}
use Rattle.sr_execute.specs.declared.frame.Frame.{Frame}

in_bounds : bounds_in_range int_shape ≡ true
in_bounds = ap bounds_in_range (sym rolls-Int) ∙ fold-roll-Shape Bool layer_in_range Shape-F.Int

one_cell : cell_count int_shape ≡ 1
one_cell = ap cell_count (sym rolls-Int) ∙ fold-roll-Shape ℕ layer_cells Shape-F.Int

no_strings : strings_in_range int_shape ≡ true
no_strings = ap strings_in_range (sym rolls-Int) ∙ fold-roll-Shape Bool layer_strings Shape-F.Int

unset_number : unset_value int_shape ≡ Int (pos 0)
unset_number = ap unset_value (sym rolls-Int) ∙ fold-roll-Shape Value layer_unset Shape-F.Int

small : has_size int_shape ≡ true
small = ap (λ (n : ℕ). nat_le n 1048576 && strings_in_range int_shape) one_cell ∙ ap (λ (b : Bool). nat_le 1 1048576 && b) no_strings

no_fault : shape_fault int_shape ≡ None
no_fault =
    ap (λ (b : Bool). if b then (if has_size int_shape then None else Some TooLarge) else Some Range) in_bounds
    ∙ ap (λ (b : Bool). if b then None else Some TooLarge) small

default_number : default_value int_shape ≡ Ok (Int (pos 0))
default_number = ap (λ (f : Option Fault). unless_fault f (unset_value int_shape)) no_fault ∙ ap (λ (v : Value). Ok v) unset_number

pub number_made : (var next : ℕ) (shape : Shape) (own : List (Option Own)) (frame : Frame) → shape ≡ int_shape → own ≡ slice_set frame.own var (Some (number_own (pos 0)))
    → makes (an_own var) shape next frame.operands frame ≡ Went next (record frame { own = own })
number_made var next shape own frame is set =
    ap (λ (s : Shape). makes (an_own var) s next frame.operands frame) is
    ∙ (ap (λ (r : Result Value Fault). settled r (λ value. went next frame.operands (with_own (slice_set frame.own var (Some (record { shape = int_shape; value = value }))) frame))) default_number
    ∙ ap (λ (o : List (Option Own)). Went next (record frame { own = o })) (sym set))

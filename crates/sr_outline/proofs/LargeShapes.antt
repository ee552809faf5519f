-- The shape that stands for one of too many cells has too many beside any others, and as the item of an array.
use Rattle.std.proofs.Common.{◌≡◌, ◌∙◌, refl, sym, ap, ℕ, zero, suc, ◌+◌, ◌*◌, ◌<◌, pos, Bool, true, false, if◌then◌else◌, [], ◌∷◌, nat_le, arith}
use Rattle.std.proofs.lemmas.Bool.{leb-false, lt-leb}
use native.Mathlib.Nat.{suc-mul, zero-mul}
use Rattle.sr_value.specs.declared.shape.Dims.{Dims}
use Rattle.sr_value.specs.declared.shape.Dims.TheVariants.{One}
use Rattle.sr_value.specs.declared.shape.Shape.{Shape, fold-Shape, fold-roll-Shape}
use Rattle.sr_value.specs.declared.shape.Shape.TheOpen.{Shape-F}
use Rattle.sr_value.specs.declared.shape.Shape.TheVariants as shape
use Rattle.sr_value.specs.Shapes.{bounds_in_range, cell_count, layer_cells, layer_in_range, layer_strings, strings_in_range}
use Rattle.sr_outline.specs.Shapes.{KeepsFault, too_large}

-- ---- a record of an array and a string

module _ (A : Type 0) (layer : Shape-F A → A) where
  of_ints : (dims : Dims) → fold-Shape A layer (shape.Arr dims shape.Int) ≡ layer (Shape-F.Arr dims (layer Shape-F.Int))
  of_ints dims =
      ap (fold-Shape A layer) (sym (shape.rolls-Arr dims shape.Int))
      ∙ fold-roll-Shape A layer (Shape-F.Arr dims shape.Int)
      ∙ ap (λ item. layer (Shape-F.Arr dims item)) (ap (fold-Shape A layer) (sym shape.rolls-Int) ∙ fold-roll-Shape A layer Shape-F.Int)

  of_string : (most : ℕ) → fold-Shape A layer (shape.Str most) ≡ layer (Shape-F.Str most)
  of_string most = ap (fold-Shape A layer) (sym (shape.rolls-Str most)) ∙ fold-roll-Shape A layer (Shape-F.Str most)

  of_both : (dims : Dims) (most : ℕ)
      → fold-Shape A layer (shape.Rec (shape.Arr dims shape.Int ∷ shape.Str most ∷ []))
      ≡ layer (Shape-F.Rec (layer (Shape-F.Arr dims (layer Shape-F.Int)) ∷ layer (Shape-F.Str most) ∷ []))
  of_both dims most =
      ap (fold-Shape A layer) (sym (shape.rolls-Rec (shape.Arr dims shape.Int ∷ shape.Str most ∷ [])))
      ∙ fold-roll-Shape A layer (Shape-F.Rec (shape.Arr dims shape.Int ∷ shape.Str most ∷ []))
      ∙ (λ i. layer (Shape-F.Rec (of_ints dims i ∷ of_string most i ∷ [])))

abbrev bounds : Dims
bounds = One (pos 1) (pos 1048577)

large-cells : (strings_fit : Bool) → cell_count (too_large strings_fit) ≡ 1048578
large-cells strings_fit = of_both ℕ layer_cells bounds (if strings_fit then 0 else 65536)

large-many : (strings_fit : Bool) → 1048576 < cell_count (too_large strings_fit)
large-many strings_fit = omega (arith, large-cells strings_fit)

large-bounds : (strings_fit : Bool) → bounds_in_range (too_large strings_fit) ≡ true
large-bounds strings_fit = of_both Bool layer_in_range bounds (if strings_fit then 0 else 65536)

large-strings : (strings_fit : Bool) → strings_in_range (too_large strings_fit) ≡ strings_fit
large-strings true = of_both Bool layer_strings bounds 0
large-strings false = of_both Bool layer_strings bounds 65536

-- ---- too many beside others

too_many : (cells items others : ℕ) → 1048576 < cells → nat_le (suc items * cells + others) 1048576 ≡ false
too_many cells items others many = lt-leb (suc items * cells + others) 1048576 (omega (arith, many, suc-mul items cells))

alike : (cells kept items others : ℕ) → 1048576 < cells → 1048576 < kept → nat_le (items * kept + others) 1048576 ≡ nat_le (items * cells + others) 1048576
alike cells kept zero others many large = ap (λ n. nat_le (n + others) 1048576) (zero-mul kept ∙ sym (zero-mul cells))
alike cells kept (suc items) others many large = too_many kept items others large ∙ sym (too_many cells items others many)

-- ---- the law

abbrev chosen : Shape → Bool → Shape
chosen shape few = if few then shape else too_large (strings_in_range shape)

abbrev Alike : Shape → Shape → Type 0
Alike shape kept =
    (bounds_in_range kept ≡ true)
    × (strings_in_range kept ≡ strings_in_range shape)
    × ((items others : ℕ) → nat_le (items * cell_count kept + others) 1048576 ≡ nat_le (items * cell_count shape + others) 1048576)

chosen-alike : (shape : Shape) (few : Bool) → bounds_in_range shape ≡ true → nat_le (cell_count shape) 1048576 ≡ few → Alike shape (chosen shape few)
chosen-alike shape true in_range is = (in_range, refl, λ items others. refl)
chosen-alike shape false in_range is =
    let fit = strings_in_range shape in
    let many = leb-false (cell_count shape) 1048576 is in
    (large-bounds fit, large-strings fit, λ items others. alike (cell_count shape) (cell_count (too_large fit)) items others many (large-many fit))

pub keeps-fault : KeepsFault
keeps-fault shape in_range = chosen-alike shape (nat_le (cell_count shape) 1048576) in_range refl

-- The values of the constants in specs have types, where each component is looked at.
use Rattle.std.proofs.Common.{◌≡◌, true, false, List, [], ◌∷◌}
use Rattle.sr_tree.specs.declared.component.Component.{Component}
use Rattle.sr_tree.specs.declared.component.SpecItem.{SpecItem}
use Rattle.sr_tree.specs.declared.component.SpecItem.TheVariants as spec
use Rattle.sr_tree.specs.Parts.{spec_of}
use Rattle.sr_types.specs.Types.{is_no_type}
use Rattle.sr_check_expr.specs.declared.facts.Facts.{Facts}
use Rattle.sr_check_expr.specs.Exprs.{infer_expr}
use Rattle.sr_check_expr.specs.Typings.{valued}
use Rattle.sr_check_decl.specs.Constants.{written_found}
use Rattle.sr_check_decl.specs.Declarations.{spec_item_found, spec_items_found}
use Rattle.sr_check_decl.specs.Declaring.{standing}
use Rattle.sr_check_decl.specs.Parts.{component_decl}
use Rattle.sr_check.specs.Components.{component_read, head_found}
use Rattle.sr_check.specs.ErrorFree.{ErrorFree}
use Rattle.sr_check.proofs.Each.{Each}
use Rattle.sr_check.proofs.ErrorFree.{error_free_first, error_free_second}
use Rattle.sr_front.proofs.Typed.Typed.{AllTyped, not_untyped, typed_test}
use Rattle.sr_front.proofs.Typed.TypedCode.{Good}
use Rattle.sr_front.proofs.Typed.PassingExprs.{value_passes}
use Rattle.sr_front.proofs.Typed.TypedItems.{standing_good}

-- the value of a constant has a type
abbrev pub ConstTyped : Facts → SpecItem → Type 0
ConstTyped here (spec.Const constant) = is_no_type (infer_expr constant.value here).typed_expr.typed.ty ≡ false
ConstTyped here _ = Unit {0}

item_typed : (here : Facts) → AllTyped here → (one : SpecItem) → ErrorFree (spec_item_found true here one) → ConstTyped here one
item_typed here all (spec.Const constant) whole =
    let value = infer_expr constant.value here in
    not_untyped value.typed_expr.typed.ty (value_passes typed_test here all constant.value (error_free_first (valued value) _ (error_free_second (written_found here constant.ty) _ whole)))
item_typed here all _ whole = tt

spec_typed : (here : Facts) → AllTyped here → (items : List SpecItem) → ErrorFree (spec_items_found here items) → Each (ConstTyped here) items
spec_typed here all [] whole = tt
spec_typed here all (one ∷ items) whole = (
  item_typed here all one (error_free_first (spec_item_found true here one) _ whole),
  spec_typed here all items (error_free_second (spec_item_found true here one) _ whole),
)

abbrev pub SpecTyped : Component → Facts → Type 0
SpecTyped component here = Each (ConstTyped here) (spec_of component)

pub component_typed : (component : Component) (facts : Facts) → Good facts → ErrorFree (component_read component facts).found → SpecTyped component (standing facts (component_decl component))
component_typed component facts good whole =
    let here = standing facts (component_decl component) in
    spec_typed here (standing_good facts (component_decl component) good).typed (spec_of component) (error_free_first (spec_items_found here (spec_of component)) _ (error_free_first (head_found component here) _ whole))

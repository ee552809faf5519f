-- Which constants and variables have no type of their own. They have the type of their value.
use Rattle.std.specs.Prelude.{Bool, true, false, List, [], ◌∷◌, ◌++◌, Option, Some, None}
use Rattle.sr_value.specs.declared.place.Span.{Span}
use Rattle.sr_names.specs.declared.meaning.Decl.{Decl}
use Rattle.sr_names.specs.declared.spot.Spot.{Spot}
use Rattle.sr_names.specs.Spots.{spot_of}
use Rattle.sr_tree.specs.declared.component.Component.{Component}
use Rattle.sr_tree.specs.declared.component.File.{File}
use Rattle.sr_tree.specs.declared.component.Item.{Item}
use Rattle.sr_tree.specs.declared.component.Item.TheVariants as item
use Rattle.sr_tree.specs.declared.component.SpecItem.{SpecItem}
use Rattle.sr_tree.specs.declared.component.SpecItem.TheVariants as spec
use Rattle.sr_tree.specs.declared.declaration.ConstDecl.{ConstDecl}
use Rattle.sr_tree.specs.declared.expr.Expr.{Expr}
use Rattle.sr_tree.specs.declared.types.Decl.{Decl as DeclTree}
use Rattle.sr_tree.specs.declared.types.TypeTree.{TypeTree}
use Rattle.sr_check_decl.specs.Parts.{component_decl}
use Rattle.sr_tree.specs.Parts.{spec_of, body_of}
use Rattle.sr_check_decl.specs.Variables.{has_no_dims}

-- a declaration that waits for the type of its value
pub record Waiting : Type 0 where
  pub span : Span
  pub spot : Spot
  pub component : Decl
  pub is_constant : Bool
  pub in_spec : Bool
  pub value : Expr

abbrev pub const_waiting : Bool → Decl → ConstDecl → Waiting
const_waiting in_spec component constant = record {
  span = constant.span;
  spot = spot_of constant.name.span;
  component = component;
  is_constant = true;
  in_spec = in_spec;
  value = constant.value;
}

abbrev pub unless_typed : {A : Type 0} → Option TypeTree → List A → List A
unless_typed None things = things
unless_typed (Some ty) things = []

abbrev pub var_waiting : Decl → Span → DeclTree → Expr → Waiting
var_waiting component span decl value = record {
  span = span;
  spot = spot_of decl.name.span;
  component = component;
  is_constant = false;
  in_spec = false;
  value = value;
}

abbrev pub waits_if : Bool → Waiting → List Waiting
waits_if true waiting = waiting ∷ []
waits_if false waiting = []

-- one name and one value
abbrev pub vars_waiting : Decl → Span → List DeclTree → List Expr → List Waiting
vars_waiting component span (decl ∷ []) (value ∷ []) = waits_if (has_no_dims decl.dims) (var_waiting component span decl value)
vars_waiting component span _ _ = []

abbrev pub spec_item_waiting : Bool → Decl → SpecItem → List Waiting
spec_item_waiting in_spec component (spec.Const constant) = unless_typed constant.ty (const_waiting in_spec component constant ∷ [])
spec_item_waiting in_spec component (spec.Var variables) =
    unless_typed variables.ty (vars_waiting component variables.span variables.decls variables.values)
spec_item_waiting in_spec component _ = []

abbrev pub spec_items_waiting : Decl → List SpecItem → List Waiting
spec_items_waiting component [] = []
spec_items_waiting component (inner ∷ more) = spec_item_waiting true component inner ++ spec_items_waiting component more

abbrev pub item_waiting : Decl → Item → List Waiting
item_waiting component (item.Spec inner) = spec_item_waiting false component inner
item_waiting component _ = []

abbrev pub items_waiting : Decl → List Item → List Waiting
items_waiting component [] = []
items_waiting component (inner ∷ more) = item_waiting component inner ++ items_waiting component more

abbrev pub component_waiting : Component → List Waiting
component_waiting component =
    spec_items_waiting (component_decl component) (spec_of component) ++ items_waiting (component_decl component) (body_of component)

abbrev pub components_waiting : List Component → List Waiting
components_waiting [] = []
components_waiting (component ∷ more) = component_waiting component ++ components_waiting more

abbrev pub files_waiting : List File → List Waiting
files_waiting [] = []
files_waiting (file ∷ files) = components_waiting file.components ++ files_waiting files

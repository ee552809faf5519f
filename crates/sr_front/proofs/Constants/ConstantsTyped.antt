-- The values of the constants in specs have types where their components are checked, where all that is known before code is read has one.
use Rattle.std.proofs.Common.{◌≡◌, false, List, ◌∷◌, None}
use Rattle.sr_check.specs.Checked.{first_refused}
use Rattle.sr_check.specs.Components.{component_read}
use Rattle.sr_check.specs.ErrorFree.{ErrorFree}
use Rattle.sr_check_decl.specs.Declaring.{standing}
use Rattle.sr_check_decl.specs.Inferring.{program_known}
use Rattle.sr_check_decl.specs.Parts.{component_decl}
use Rattle.sr_check_expr.specs.declared.facts.Facts.{Facts}
use Rattle.sr_check_expr.specs.Exprs.{infer_expr}
use Rattle.sr_names.specs.Noted.{Meanings}
use Rattle.sr_names.specs.Specs.{Specs}
use Rattle.sr_scope.specs.Uses.{IsIn}
use Rattle.sr_tables.specs.Parts.{components_in}
use Rattle.sr_tree.specs.declared.component.Component.{Component}
use Rattle.sr_tree.specs.declared.component.File.{File}
use Rattle.sr_tree.specs.declared.component.SpecItem.TheVariants as spec
use Rattle.sr_tree.specs.declared.declaration.ConstDecl.{ConstDecl}
use Rattle.sr_tree.specs.Parts.{spec_of}
use Rattle.sr_types.specs.Types.{is_no_type}
use Rattle.sr_front.proofs.Known.FreeBlocks.{FreeComponents}
use Rattle.sr_front.proofs.Constants.ConstantsChecked.{checked_at, held_at}
use Rattle.sr_front.proofs.Lists.Lists.{each_at}
use Rattle.sr_front.proofs.Typed.TypedCode.{Good}
use Rattle.sr_front.proofs.Typed.TypedItems.{component_good}
use Rattle.sr_front.proofs.Typed.TypedSpecs.{ConstTyped, component_typed}

-- what is free and good from a component on
abbrev Along : List Component → Facts → Type 0
Along components facts = FreeComponents components facts × Good facts

goes_on : (one : Component) (more : List Component) (facts : Facts) → Along (one ∷ more) facts → ErrorFree (component_read one facts).found → Along more (component_read one facts).facts
goes_on one more facts along whole = (along.0.1, component_good one facts along.0.0 along.1 whole)

module _ (uses : Meanings) (specs : Specs) (files : List File) (none : first_refused uses specs files ≡ None) (free : FreeComponents (components_in files) (program_known uses specs files))
    (good : Good (program_known uses specs files)) (component : Component) (there : IsIn component (components_in files)) where
  -- all that is known where a component is checked has a type
  pub good_checked : Good (checked_at uses specs files none component there).facts
  good_checked = held_at Good Along (λ one more facts along. along.1) goes_on uses specs files none (free, good) component there

  -- and so has the value of each constant in its spec
  pub constant_typed : (constant : ConstDecl) → IsIn (spec.Const constant) (spec_of component)
      → is_no_type (infer_expr constant.value (standing (checked_at uses specs files none component there).facts (component_decl component))).typed_expr.typed.ty ≡ false
  constant_typed constant among =
      each_at (ConstTyped (standing (checked_at uses specs files none component there).facts (component_decl component))) (spec_of component)
      (component_typed component (checked_at uses specs files none component there).facts good_checked (checked_at uses specs files none component there).whole) (spec.Const constant) among

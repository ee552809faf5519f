-- Along the walk over what is declared outside of code: where a written type is declared, its names mean what they mean where
-- it is checked, and its signatures have the same numbers.
use Rattle.std.proofs.Common.{true, List, [], ◌∷◌, map, Option, Some, None}
use Rattle.sr_tree.specs.declared.component.Component.{Component}
use Rattle.sr_tree.specs.declared.component.File.{File}
use Rattle.sr_tree.specs.declared.component.Item.{Item}
use Rattle.sr_tree.specs.declared.component.Item.TheVariants as item
use Rattle.sr_tree.specs.declared.component.SpecItem.{SpecItem}
use Rattle.sr_tree.specs.declared.component.SpecItem.TheVariants as spec
use Rattle.sr_tree.specs.declared.declaration.TypeDecl.{TypeDecl}
use Rattle.sr_tree.specs.declared.name.QualifiedName.{QualifiedName}
use Rattle.sr_tree.specs.declared.types.Formal.{Formal}
use Rattle.sr_tree.specs.declared.types.Returned.{Returned}
use Rattle.sr_tree.specs.declared.types.Signature.{Signature as SignatureTree}
use Rattle.sr_tree.specs.declared.types.TypeTree.{TypeTree, out-TypeTree}
use Rattle.sr_tree.specs.declared.types.TypeTree.TheOpen.{TypeTree-F}
use Rattle.sr_tree.specs.Nested.{types_within}
use Rattle.sr_tree.specs.Parts.{body_of, formals_of, spec_of}
use Rattle.sr_check_expr.specs.declared.facts.Facts.{Facts}
use Rattle.sr_check_decl.specs.declared.tally.Tally.{Tally}
use Rattle.sr_check_decl.specs.Declaring.{at_facts, component_declared, components_declared, head_declared, item_declared, layer_declared, spec_item_declared, spec_items_declared, standing, types_declared}
use Rattle.sr_check_decl.specs.Entering.{formals_entered, signature_entered, type_entered}
use Rattle.sr_check_decl.specs.Parts.{component_decl}
use Rattle.sr_check.proofs.Each.{Each}
use Rattle.sr_front.proofs.Typed.TypedTypes.{Agrees, Counts, all_uses, formal_uses, signature_uses, type_uses}

-- `Ending` says of facts that declarations may be checked with them
module _ (Ending : Facts → Type 1) where
  -- these names, where the table has the numbers of signatures after
  abbrev pub NamesAgree : List QualifiedName → Facts → Facts → Type 1
  NamesAgree names facts after = (end : Facts) → Ending end → Each (Agrees facts end) names × Counts after end

  abbrev pub TypeAgrees : TypeTree → Facts → Type 1
  TypeAgrees tree facts = NamesAgree (type_uses tree) facts (type_entered tree facts)

  abbrev pub WrittenAgrees : Option TypeTree → Facts → Type 1
  WrittenAgrees None facts = Unit {1}
  WrittenAgrees (Some tree) facts = TypeAgrees tree facts

  abbrev pub SignatureAgrees : SignatureTree → Facts → Type 1
  SignatureAgrees tree facts = NamesAgree (signature_uses tree) facts (signature_entered tree facts)

  abbrev pub FormalsAgree : List Formal → Facts → Type 1
  FormalsAgree formals facts = NamesAgree (all_uses (map formal_uses formals)) facts (formals_entered formals facts)

  -- ---- the declaration of a type

  -- the signatures in the fields of a record that is written in the type have numbers already
  abbrev pub LayerAgrees : TypeTree-F TypeTree Formal Returned SignatureTree → Facts → Type 1
  LayerAgrees (TypeTree-F.Rec span fields) facts = FormalsAgree fields facts × Counts (formals_entered fields facts) facts
  LayerAgrees _ facts = Unit {1}

  abbrev pub TypesAgree : List TypeTree → Tally → Type 1
  TypesAgree [] tally = Unit {1}
  TypesAgree (tree ∷ trees) tally = LayerAgrees (out-TypeTree tree) tally.facts × TypesAgree trees (layer_declared (out-TypeTree tree) tally)

  -- the type is entered, what is written in it is declared, and then its name
  abbrev pub entering : TypeDecl → Tally → Tally
  entering named tally = at_facts tally (type_entered named.ty tally.facts)

  abbrev pub naming : TypeDecl → Tally → Tally
  naming named tally = types_declared (types_within named.ty) (entering named tally)

  pub record NamedAgrees (named : TypeDecl) (tally : Tally) : Type 1 where
    pub entered : TypeAgrees named.ty tally.facts
    pub within : TypesAgree (types_within named.ty) (entering named tally)
    pub name : TypeAgrees named.ty (naming named tally).facts
    pub numbered : Counts (type_entered named.ty (naming named tally).facts) (naming named tally).facts

  -- ---- items, components and files: nothing is asked of operations

  abbrev pub SpecAgrees : SpecItem → Tally → Type 1
  SpecAgrees (spec.Const constant) tally = WrittenAgrees constant.ty tally.facts
  SpecAgrees (spec.«Type» named) tally = NamedAgrees named tally
  SpecAgrees (spec.OpType named) tally = SignatureAgrees named.signature tally.facts
  SpecAgrees (spec.Var variables) tally = WrittenAgrees variables.ty tally.facts
  SpecAgrees _ tally = Unit {1}

  abbrev pub ItemAgrees : Item → Tally → Type 1
  ItemAgrees (item.Spec inner) tally = SpecAgrees inner tally
  ItemAgrees _ tally = Unit {1}

  abbrev pub SpecsAgree : List SpecItem → Tally → Type 1
  SpecsAgree [] tally = Unit {1}
  SpecsAgree (inner ∷ more) tally = SpecAgrees inner tally × SpecsAgree more (spec_item_declared true inner tally)

  abbrev pub ItemsAgree : List Item → Tally → Type 1
  ItemsAgree [] tally = Unit {1}
  ItemsAgree (inner ∷ more) tally = ItemAgrees inner tally × ItemsAgree more (item_declared inner tally)

  abbrev pub HeadAgrees : Component → Facts → Type 1
  HeadAgrees component facts = FormalsAgree (formals_of component) facts

  -- where the spec, the head and the body of a component are declared
  abbrev pub at_spec : Component → Tally → Tally
  at_spec component tally = at_facts tally (standing tally.facts (component_decl component))

  abbrev pub at_head : Component → Tally → Tally
  at_head component tally = spec_items_declared (spec_of component) (at_spec component tally)

  abbrev pub at_body : Component → Tally → Tally
  at_body component tally = at_facts (at_head component tally) (head_declared component (at_head component tally).facts)

  pub record ComponentAgrees (component : Component) (tally : Tally) : Type 1 where
    pub specs : SpecsAgree (spec_of component) (at_spec component tally)
    pub head : HeadAgrees component (at_head component tally).facts
    pub items : ItemsAgree (body_of component) (at_body component tally)

  abbrev pub ComponentsAgree : List Component → Tally → Type 1
  ComponentsAgree [] tally = Unit {1}
  ComponentsAgree (component ∷ more) tally = ComponentAgrees component tally × ComponentsAgree more (component_declared component tally)

  abbrev pub FilesAgree : List File → Tally → Type 1
  FilesAgree [] tally = Unit {1}
  FilesAgree (file ∷ files) tally = ComponentsAgree file.components tally × FilesAgree files (components_declared file.components tally)

-- What is kept by all that enters signatures, and by any declaration where its name may stand, is kept where what is outside of
-- procs and blocks is declared: also what is known of an operation.
use Rattle.std.proofs.Common.{ℕ, ◌+◌, Bool, true, false, List, [], ◌∷◌, Option, Some, None, flat_map}
use Rattle.sr_names.specs.declared.meaning.Decl.{Decl}
use Rattle.sr_names.specs.declared.spot.Spot.{Spot}
use Rattle.sr_names.specs.Spots.{spot_of}
use Rattle.sr_order.specs.Names.{component_names, const_names, decl_names, file_names, formal_names, item_names, names_spans, op_item_names, semaphore_names, spec_item_names, type_decl_names, var_names}
use Rattle.sr_tree.specs.declared.component.Component.{Component}
use Rattle.sr_tree.specs.declared.component.File.{File}
use Rattle.sr_tree.specs.declared.component.Item.{Item}
use Rattle.sr_tree.specs.declared.component.Item.TheVariants as item
use Rattle.sr_tree.specs.declared.component.SpecItem.{SpecItem}
use Rattle.sr_tree.specs.declared.component.SpecItem.TheVariants as spec
use Rattle.sr_tree.specs.declared.declaration.ConstDecl.{ConstDecl}
use Rattle.sr_tree.specs.declared.declaration.OpItem.{OpItem}
use Rattle.sr_tree.specs.declared.declaration.OpItem.TheVariants.{Signed as OfSignature, Typed as OfType}
use Rattle.sr_tree.specs.declared.declaration.Semaphore.{Semaphore}
use Rattle.sr_tree.specs.declared.declaration.TypeDecl.{TypeDecl}
use Rattle.sr_tree.specs.declared.declaration.VarDecl.{VarDecl}
use Rattle.sr_tree.specs.declared.name.Name.{Name}
use Rattle.sr_tree.specs.declared.types.Decl.{Decl as DeclTree}
use Rattle.sr_tree.specs.declared.types.Formal.{Formal}
use Rattle.sr_tree.specs.declared.types.Returned.{Returned}
use Rattle.sr_tree.specs.declared.types.Signature.{Signature as SignatureTree}
use Rattle.sr_tree.specs.declared.types.TypeTree.{TypeTree, out-TypeTree}
use Rattle.sr_tree.specs.declared.types.TypeTree.TheOpen.{TypeTree-F}
use Rattle.sr_tree.specs.Nested.{types_within}
use Rattle.sr_tree.specs.Parts.{name_of, spec_of, formals_of, body_of}
use Rattle.sr_types.specs.declared.signature.Signature.{Signature}
use Rattle.sr_types.specs.declared.ty.Ty.{Ty}
use Rattle.sr_types.specs.declared.ty.Ty.TheVariants as ty
use Rattle.sr_types.specs.declared.typed.Typed.{Typed}
use Rattle.sr_value.specs.declared.place.Span.{Span}
use Rattle.sr_check_expr.specs.declared.facts.Facts.{Facts}
use Rattle.sr_check_expr.specs.declared.info.Info.{Info}
use Rattle.sr_check_expr.specs.declared.info.Info.TheVariants as info
use Rattle.sr_check_decl.specs.declared.kind.NamedParam.{NamedParam}
use Rattle.sr_check_decl.specs.declared.tally.Tally.{Tally}
use Rattle.sr_check_decl.specs.Declaring.{declared_if, const_declared, untyped_vars_declared, var_declared, var_declared_by, literals_declared, at_facts, layer_declared, types_declared, type_declared, ops_declared, operation, op_item_name, op_type, sems_declared, semaphore_signature, process_signature, spec_item_declared, spec_items_declared, item_declared, items_declared, params_declared, head_declared, component_typed, making, component_formals, component_declared, components_declared, files_declared, standing}
use Rattle.sr_check_decl.specs.Entering.{entered, signed_entered, type_entered, formals_entered, signature_entered}
use Rattle.sr_check_decl.specs.Parts.{component_decl}
use Rattle.sr_check_decl.specs.Variables.{declare, vars_declared}
use Rattle.sr_check.proofs.Each.{Each, each-left, each-right, each-parts}
use Rattle.sr_check.proofs.Entered.{keeps_signed, keeps_type, keeps_signature, keeps_written, keeps_formals, keeps_ops}
use Rattle.sr_front.proofs.Known.KeptFormals.{component_params_free}
use Rattle.sr_front.proofs.Lists.Sharing.{first_each}
use Rattle.sr_front.proofs.Names.WordShares.{layer_words, words_of, words_share}

-- anything may be declared at the spots that are free
pub record KeepsAll (Q : Facts → Type 0) (Free : Spot → Type 0) : Type 0 where
  pub entered : (facts : Facts) (signature : Signature) → Q facts → Q (entered signature facts)
  pub put : (facts : Facts) (spot : Spot) (one : Info) → Free spot → Q facts → Q (declare facts spot one)
  pub standing : (facts : Facts) (component : Decl) → Q facts → Q (standing facts component)

module _ (Q : Facts → Type 0) (Free : Spot → Type 0) (declares : KeepsAll Q Free) where
  abbrev FreeName : Span → Type 0
  FreeName span = Free (spot_of span)

  abbrev AllFree : List Span → Type 0
  AllFree = Each FreeName

  -- ---- constants, variables and types

  keeps_vars : (type : Ty) (decls : List DeclTree) (facts : Facts) → Each (λ decl. AllFree (decl_names decl)) decls → Q facts → Q (vars_declared type decls facts)
  keeps_vars type [] facts free h = h
  keeps_vars type (decl ∷ decls) facts free h = keeps_vars type decls _ free.1 (declares.put facts (spot_of decl.name.span) _ free.0.0 h)

  keeps_if : (b : Bool) (name : Name) (typed : Typed) (facts : Facts) → FreeName name.span → Q facts → Q (declared_if b name typed facts)
  keeps_if true name typed facts free h = declares.put facts (spot_of name.span) (info.Value typed) free h
  keeps_if false name typed facts free h = h

  keeps_const : (in_spec : Bool) (constant : ConstDecl) (facts : Facts) → AllFree (const_names constant) → Q facts → Q (const_declared in_spec constant facts)
  keeps_const in_spec constant facts free h = keeps_if _ constant.name _ _ free.0 (keeps_written Q declares.entered constant.ty facts h)

  keeps_untyped : (b : Bool) (decls : List DeclTree) (facts : Facts) → Each (λ decl. AllFree (decl_names decl)) decls → Q facts → Q (untyped_vars_declared b decls facts)
  keeps_untyped true decls facts free h = h
  keeps_untyped false decls facts free h = keeps_vars ty.Untyped decls facts free h

  keeps_var_by : (tree : Option TypeTree) (variables : VarDecl) (facts : Facts) → Each (λ decl. AllFree (decl_names decl)) variables.decls → Q facts → Q (var_declared_by tree variables facts)
  keeps_var_by None variables facts free h = keeps_untyped _ variables.decls facts free h
  keeps_var_by (Some tree) variables facts free h = keeps_vars _ variables.decls facts free h

  decls_free : (variables : VarDecl) → AllFree (var_names variables) → Each (λ decl. AllFree (decl_names decl)) variables.decls
  decls_free variables free = each-parts FreeName decl_names variables.decls (each-left FreeName (flat_map decl_names variables.decls) _ free)

  keeps_var : (variables : VarDecl) (facts : Facts) → AllFree (var_names variables) → Q facts → Q (var_declared variables facts)
  keeps_var variables facts free h = keeps_var_by variables.ty variables _ (decls_free variables free) (keeps_written Q declares.entered variables.ty facts h)

  keeps_literals : (at : Spot) (number index : ℕ) (names : List Name) (facts : Facts) → AllFree (names_spans names) → Q facts → Q (literals_declared at number index names facts)
  keeps_literals at number index [] facts free h = h
  keeps_literals at number index (name ∷ names) facts free h = keeps_literals at number (index + 1) names _ free.1 (declares.put facts (spot_of name.span) _ free.0 h)

  keeps_layer : (layer : TypeTree-F TypeTree Formal Returned SignatureTree) (tally : Tally) → AllFree (layer_words layer) → Q tally.facts → Q (layer_declared layer tally).facts
  keeps_layer (TypeTree-F.Enum span literals) tally free h = keeps_literals _ _ _ literals _ free.1 (declares.put tally.facts (spot_of span) _ free.0 h)
  keeps_layer (TypeTree-F.Rec span fields) tally free h = declares.put tally.facts (spot_of span) _ free.0 h
  keeps_layer _ tally free h = h

  keeps_types : (trees : List TypeTree) (tally : Tally) → AllFree (flat_map words_of trees) → Q tally.facts → Q (types_declared trees tally).facts
  keeps_types [] tally free h = h
  keeps_types (tree ∷ trees) tally free h =
      keeps_types trees _ (each-right FreeName (words_of tree) (flat_map words_of trees) free) (keeps_layer (out-TypeTree tree) tally (each-left FreeName (words_of tree) (flat_map words_of trees) free) h)

  keeps_named_type : (named : TypeDecl) (tally : Tally) → AllFree (type_decl_names named) → Q tally.facts → Q (type_declared named tally).facts
  keeps_named_type named tally free h =
      let entering = at_facts tally (type_entered named.ty tally.facts) in
      let written = types_declared (types_within named.ty) entering in
      declares.put written.facts (spot_of named.name.span) _ free.0
      (keeps_types (types_within named.ty) entering (first_each FreeName (words_share named.ty) free.1) (keeps_type Q declares.entered named.ty tally.facts h))

  -- ---- operations

  op_free : (op : OpItem) → AllFree (op_item_names op) → Free (spot_of (op_item_name op).span)
  op_free (OfSignature span name signature) free = free.0
  op_free (OfType span name optype) free = free.0

  pub keeps_ops_declared : (is_local : Bool) (ops : List OpItem) (facts : Facts) → AllFree (flat_map op_item_names ops) → Q facts → Q (ops_declared is_local ops facts)
  keeps_ops_declared is_local [] facts free h = h
  keeps_ops_declared is_local (op ∷ ops) facts free h =
      keeps_ops_declared is_local ops _ (each-right FreeName (op_item_names op) _ free)
      (declares.put facts (spot_of (op_item_name op).span) (operation facts is_local (op_type facts op)) (op_free op (each-left FreeName (op_item_names op) _ free)) h)

  pub keeps_sems_declared : (is_local : Bool) (semaphores : List Semaphore) (facts : Facts) → AllFree (flat_map semaphore_names semaphores) → Q facts → Q (sems_declared is_local semaphores facts)
  keeps_sems_declared is_local [] facts free h = h
  keeps_sems_declared is_local (semaphore ∷ more) facts free h =
      keeps_sems_declared is_local more _ (each-right FreeName (semaphore_names semaphore) _ free)
      (declares.put (entered semaphore_signature facts) (spot_of semaphore.name.span) _ free.0 (declares.entered facts semaphore_signature h))

  -- ---- items

  pub keeps_spec_item : (in_spec : Bool) (inner : SpecItem) (tally : Tally) → AllFree (spec_item_names inner) → Q tally.facts → Q (spec_item_declared in_spec inner tally).facts
  keeps_spec_item in_spec (spec.Import imports) tally free h = h
  keeps_spec_item in_spec (spec.Const constant) tally free h = keeps_const in_spec constant tally.facts free h
  keeps_spec_item in_spec (spec.«Type» named) tally free h = keeps_named_type named tally free h
  keeps_spec_item in_spec (spec.OpType named) tally free h =
      declares.put (signature_entered named.signature tally.facts) (spot_of named.name.span) _ free.0 (keeps_signature Q declares.entered named.signature tally.facts h)
  keeps_spec_item in_spec (spec.Op operations) tally free h = keeps_ops_declared false operations.items _ free (keeps_ops Q declares.entered operations.items tally.facts h)
  keeps_spec_item in_spec (spec.Var variables) tally free h = keeps_var variables tally.facts free h
  keeps_spec_item in_spec (spec.Sem semaphores) tally free h = keeps_sems_declared false semaphores.semaphores tally.facts free h

  pub keeps_item : (inner : Item) (tally : Tally) → AllFree (item_names inner) → Q tally.facts → Q (item_declared inner tally).facts
  keeps_item (item.Spec inner) tally free h = keeps_spec_item false inner tally free h
  keeps_item (item.Procedure procedure) tally free h =
      declares.put (signature_entered procedure.signature tally.facts) (spot_of procedure.name.span) _ free.0 (keeps_signature Q declares.entered procedure.signature tally.facts h)
  keeps_item (item.Process process) tally free h =
      declares.put (entered (process_signature process.quantifiers) tally.facts) (spot_of process.name.span) _ free.0 (declares.entered tally.facts (process_signature process.quantifiers) h)
  keeps_item _ tally free h = h

  pub keeps_spec : (items : List SpecItem) (tally : Tally) → AllFree (flat_map spec_item_names items) → Q tally.facts → Q (spec_items_declared items tally).facts
  keeps_spec [] tally free h = h
  keeps_spec (inner ∷ more) tally free h =
      keeps_spec more _ (each-right FreeName (spec_item_names inner) _ free) (keeps_spec_item true inner tally (each-left FreeName (spec_item_names inner) _ free) h)

  pub keeps_items : (items : List Item) (tally : Tally) → AllFree (flat_map item_names items) → Q tally.facts → Q (items_declared items tally).facts
  keeps_items [] tally free h = h
  keeps_items (inner ∷ more) tally free h =
      keeps_items more _ (each-right FreeName (item_names inner) _ free) (keeps_item inner tally (each-left FreeName (item_names inner) _ free) h)

  -- ---- components

  pub keeps_params : (params : List NamedParam) (facts : Facts) → Each (λ param. Free param.spot) params → Q facts → Q (params_declared params facts)
  keeps_params [] facts free h = h
  keeps_params (param ∷ params) facts free h = keeps_params params _ free.1 (declares.put facts param.spot _ free.0 h)

  pub keeps_head : (tree : Component) (facts : Facts) → FreeName (name_of tree).span → AllFree (flat_map formal_names (formals_of tree)) → Q facts → Q (head_declared tree facts)
  keeps_head tree facts free formals h =
      let entering = formals_entered (formals_of tree) facts in
      let params = component_formals entering (formals_of tree) in
      let made = signed_entered (making params) entering in
      let after = keeps_signed Q declares.entered (making params) entering (keeps_formals Q declares.entered (formals_of tree) facts h) in
      keeps_params params (component_typed (name_of tree) (making params) made) (component_params_free Free (formals_of tree) entering formals)
      (declares.put made (spot_of (name_of tree).span) _ free after)

  pub keeps_component : (component : Component) (tally : Tally) → AllFree (component_names component) → Q tally.facts → Q (component_declared component tally).facts
  keeps_component component tally free h =
      let specs = flat_map spec_item_names (spec_of component) in
      let formals = flat_map formal_names (formals_of component) in
      let after = each-right FreeName specs _ free.1 in
      keeps_items (body_of component) _ (each-right FreeName formals _ after)
      (keeps_head component _ free.0 (each-left FreeName formals _ after)
      (keeps_spec (spec_of component) _ (each-left FreeName specs _ free.1) (declares.standing tally.facts (component_decl component) h)))

  pub keeps_components : (components : List Component) (tally : Tally) → AllFree (flat_map component_names components) → Q tally.facts → Q (components_declared components tally).facts
  keeps_components [] tally free h = h
  keeps_components (component ∷ more) tally free h =
      keeps_components more _ (each-right FreeName (component_names component) _ free) (keeps_component component tally (each-left FreeName (component_names component) _ free) h)

  pub keeps_files : (files : List File) (tally : Tally) → AllFree (flat_map file_names files) → Q tally.facts → Q (files_declared files tally).facts
  keeps_files [] tally free h = h
  keeps_files (file ∷ files) tally free h =
      keeps_files files _ (each-right FreeName (file_names file) _ free) (keeps_components file.components tally (each-left FreeName (file_names file) _ free) h)

-- ---- from one place to the end

-- what is kept where these names are free is kept from here to there
abbrev pub LeadsAll : List Span → Facts → Facts → Type 1
LeadsAll names here there = (Q : Facts → Type 0) (Free : Spot → Type 0) → KeepsAll Q Free → Each (λ span. Free (spot_of span)) names → Q here → Q there

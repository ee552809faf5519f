-- Before any statement is looked at operations and types of operations are known at the names of their declarations alone,
-- and no operation of a block is.
use Rattle.std.proofs.Common.{◌≡◌, ℕ, suc, zero, ◌+◌, Bool, true, false, List, [], ◌∷◌, Option, Some, None, refl, length}
use Rattle.std.specs.List.{filter}
use Rattle.sr_names.specs.declared.spot.Spot.{Spot}
use Rattle.sr_names.specs.Noted.{Meanings}
use Rattle.sr_names.specs.Specs.{Specs}
use Rattle.sr_names.specs.Spots.{spot_of}
use Rattle.sr_tables.specs.Parts.{components_in}
use Rattle.sr_tree.specs.declared.component.Component.{Component}
use Rattle.sr_tree.specs.declared.component.File.{File}
use Rattle.sr_tree.specs.declared.component.Item.{Item}
use Rattle.sr_tree.specs.declared.component.Item.TheVariants as item
use Rattle.sr_tree.specs.declared.component.SpecItem.{SpecItem}
use Rattle.sr_tree.specs.declared.component.SpecItem.TheVariants as spec
use Rattle.sr_tree.specs.declared.declaration.ConstDecl.{ConstDecl}
use Rattle.sr_tree.specs.declared.declaration.OpItem.{OpItem}
use Rattle.sr_tree.specs.declared.declaration.Semaphore.{Semaphore}
use Rattle.sr_tree.specs.declared.declaration.TypeDecl.{TypeDecl}
use Rattle.sr_tree.specs.declared.declaration.VarDecl.{VarDecl}
use Rattle.sr_tree.specs.declared.name.Name.{Name}
use Rattle.sr_tree.specs.declared.types.Decl.{Decl as DeclTree}
use Rattle.sr_tree.specs.declared.types.Formal.{Formal}
use Rattle.sr_tree.specs.declared.types.Returned.{Returned}
use Rattle.sr_tree.specs.declared.types.Signature.{Signature as SignatureTree}
use Rattle.sr_tree.specs.declared.types.TypeTree.{TypeTree, out-TypeTree}
use Rattle.sr_tree.specs.declared.types.TypeTree.TheOpen.{TypeTree-F}
use Rattle.sr_tree.specs.Nested.{types_within}
use Rattle.sr_tree.specs.Parts.{name_of, spec_of, formals_of, body_of}
use Rattle.sr_types.specs.declared.signature.Signature.{Signature}
use Rattle.sr_types.specs.declared.ty.Ty.{Ty}
use Rattle.sr_types.specs.declared.ty.Ty.TheVariants as ty
use Rattle.sr_types.specs.declared.typed.Typed.{Typed}
use Rattle.sr_check_expr.specs.declared.facts.Facts.{Facts}
use Rattle.sr_check_expr.specs.declared.info.Info.{Info}
use Rattle.sr_check_expr.specs.declared.info.Info.TheVariants as info
use Rattle.sr_check_expr.specs.Infos.{info_at}
use Rattle.sr_check_decl.specs.declared.kind.NamedParam.{NamedParam}
use Rattle.sr_check_decl.specs.declared.tally.Tally.{Tally}
use Rattle.sr_check_decl.specs.Declaring.{declared_if, const_declared, untyped_vars_declared, var_declared, var_declared_by, literals_declared, at_facts, layer_declared, types_declared, type_declared, ops_declared, op_item_name, op_type, operation, sems_declared, semaphore_signature, process_signature, spec_item_declared, spec_items_declared, item_declared, items_declared, params_declared, head_declared, component_typed, making, component_formals, component_declared, components_declared, files_declared, components_named, files_named, no_facts, program_declared}
use Rattle.sr_check_decl.specs.Entering.{entered, signed_entered, type_entered, formals_entered, signature_entered}
use Rattle.sr_check_decl.specs.Inferring.{is_settled, info_by, all_settled, can_settle, wave, waves, given_up, given_up_if, program_inferred, program_known}
use Rattle.sr_check_decl.specs.TypeTrees.{decl_type}
use Rattle.sr_check_decl.specs.Variables.{declare, variable, vars_declared}
use Rattle.sr_check_decl.specs.Waiting.{Waiting, files_waiting}
use Rattle.sr_check.proofs.Each.{Each, each-parts}
use Rattle.sr_check.proofs.Entered.{keeps_signed, keeps_type, keeps_signature, keeps_written, keeps_formals, keeps_ops}
use Rattle.sr_front.proofs.Lists.Put.{put_known}

module _ (Op Optype : Spot → Type 0) where
  -- what may be known at a spot
  abbrev pub Right : Spot → Info → Type 0
  Right spot (info.Operation ty component is_local) = (is_local ≡ false) × Op spot
  Right spot (info.OpType ty) = Optype spot
  Right spot _ = Unit {0}

  abbrev pub Knows : Facts → Type 0
  Knows facts = (spot : Spot) (one : Info) → info_at facts.infos spot ≡ Some one → Right spot one

  -- what the items of a component declare outside of blocks
  abbrev pub SpecRight : SpecItem → Type 0
  SpecRight (spec.OpType named) = Optype (spot_of named.name.span)
  SpecRight (spec.Op operations) = Each (λ op. Op (spot_of (op_item_name op).span)) operations.items
  SpecRight (spec.Sem semaphores) = Each (λ semaphore. Op (spot_of semaphore.name.span)) semaphores.semaphores
  SpecRight _ = Unit {0}

  abbrev pub ItemRight : Item → Type 0
  ItemRight (item.Spec declared) = SpecRight declared
  ItemRight (item.Procedure procedure) = Op (spot_of procedure.name.span)
  ItemRight (item.Process process) = Op (spot_of process.name.span)
  ItemRight _ = Unit {0}

  abbrev pub ComponentRight : Component → Type 0
  ComponentRight component = Each SpecRight (spec_of component) × Each ItemRight (body_of component)

  right_with : (facts : Facts) (spot : Spot) (one : Info) → Right spot one → Knows facts → Knows (declare facts spot one)
  right_with facts spot one right h other known is = put_known facts spot one Right right other known is (h other known)

  knows_signatures : (facts : Facts) (signature : Signature) → Knows facts → Knows (entered signature facts)
  knows_signatures facts signature h = h

  -- ---- constants, variables and types

  knows_vars : (type : Ty) (decls : List DeclTree) (facts : Facts) → Knows facts → Knows (vars_declared type decls facts)
  knows_vars type [] facts h = h
  knows_vars type (decl ∷ decls) facts h = knows_vars type decls _ (right_with facts (spot_of decl.name.span) (variable (decl_type decl.dims type)) tt h)

  knows_if : (b : Bool) (name : Name) (typed : Typed) (facts : Facts) → Knows facts → Knows (declared_if b name typed facts)
  knows_if true name typed facts h = right_with facts (spot_of name.span) (info.Value typed) tt h
  knows_if false name typed facts h = h

  knows_const : (in_spec : Bool) (constant : ConstDecl) (facts : Facts) → Knows facts → Knows (const_declared in_spec constant facts)
  knows_const in_spec constant facts h = knows_if _ constant.name _ _ (keeps_written Knows knows_signatures constant.ty facts h)

  knows_untyped : (b : Bool) (decls : List DeclTree) (facts : Facts) → Knows facts → Knows (untyped_vars_declared b decls facts)
  knows_untyped true decls facts h = h
  knows_untyped false decls facts h = knows_vars ty.Untyped decls facts h

  knows_var_by : (tree : Option TypeTree) (variables : VarDecl) (facts : Facts) → Knows facts → Knows (var_declared_by tree variables facts)
  knows_var_by None variables facts h = knows_untyped _ variables.decls facts h
  knows_var_by (Some tree) variables facts h = knows_vars _ variables.decls facts h

  knows_var : (variables : VarDecl) (facts : Facts) → Knows facts → Knows (var_declared variables facts)
  knows_var variables facts h = knows_var_by variables.ty variables _ (keeps_written Knows knows_signatures variables.ty facts h)

  knows_literals : (at : Spot) (number index : ℕ) (names : List Name) (facts : Facts) → Knows facts → Knows (literals_declared at number index names facts)
  knows_literals at number index [] facts h = h
  knows_literals at number index (name ∷ names) facts h = knows_literals at number (index + 1) names _ (right_with facts (spot_of name.span) _ tt h)

  knows_layer : (layer : TypeTree-F TypeTree Formal Returned SignatureTree) (tally : Tally) → Knows tally.facts → Knows (layer_declared layer tally).facts
  knows_layer (TypeTree-F.Enum span literals) tally h = knows_literals _ _ _ literals _ (right_with tally.facts (spot_of span) _ tt h)
  knows_layer (TypeTree-F.Rec span fields) tally h = right_with tally.facts (spot_of span) _ tt h
  knows_layer _ tally h = h

  knows_types : (trees : List TypeTree) (tally : Tally) → Knows tally.facts → Knows (types_declared trees tally).facts
  knows_types [] tally h = h
  knows_types (tree ∷ trees) tally h = knows_types trees _ (knows_layer (out-TypeTree tree) tally h)

  knows_type : (named : TypeDecl) (tally : Tally) → Knows tally.facts → Knows (type_declared named tally).facts
  knows_type named tally h =
      let entering = at_facts tally (type_entered named.ty tally.facts) in
      let written = types_declared (types_within named.ty) entering in
      right_with written.facts (spot_of named.name.span) _ tt (knows_types (types_within named.ty) entering (keeps_type Knows knows_signatures named.ty tally.facts h))

  -- ---- operations

  knows_ops : (ops : List OpItem) (facts : Facts) → Each (λ op. Op (spot_of (op_item_name op).span)) ops → Knows facts → Knows (ops_declared false ops facts)
  knows_ops [] facts right h = h
  knows_ops (op ∷ ops) facts right h = knows_ops ops _ right.1 (right_with facts (spot_of (op_item_name op).span) (operation facts false (op_type facts op)) (refl, right.0) h)

  knows_sems : (semaphores : List Semaphore) (facts : Facts) → Each (λ semaphore. Op (spot_of semaphore.name.span)) semaphores → Knows facts → Knows (sems_declared false semaphores facts)
  knows_sems [] facts right h = h
  knows_sems (semaphore ∷ more) facts right h = knows_sems more _ right.1 (right_with (entered semaphore_signature facts) (spot_of semaphore.name.span) _ (refl, right.0) h)

  -- ---- items

  knows_spec_item : (in_spec : Bool) (inner : SpecItem) (tally : Tally) → SpecRight inner → Knows tally.facts → Knows (spec_item_declared in_spec inner tally).facts
  knows_spec_item in_spec (spec.Import imports) tally right h = h
  knows_spec_item in_spec (spec.Const constant) tally right h = knows_const in_spec constant tally.facts h
  knows_spec_item in_spec (spec.«Type» named) tally right h = knows_type named tally h
  knows_spec_item in_spec (spec.OpType named) tally right h =
      right_with (signature_entered named.signature tally.facts) (spot_of named.name.span) _ right (keeps_signature Knows knows_signatures named.signature tally.facts h)
  knows_spec_item in_spec (spec.Op operations) tally right h = knows_ops operations.items _ right (keeps_ops Knows knows_signatures operations.items tally.facts h)
  knows_spec_item in_spec (spec.Var variables) tally right h = knows_var variables tally.facts h
  knows_spec_item in_spec (spec.Sem semaphores) tally right h = knows_sems semaphores.semaphores tally.facts right h

  knows_item : (inner : Item) (tally : Tally) → ItemRight inner → Knows tally.facts → Knows (item_declared inner tally).facts
  knows_item (item.Spec inner) tally right h = knows_spec_item false inner tally right h
  knows_item (item.Procedure procedure) tally right h =
      right_with (signature_entered procedure.signature tally.facts) (spot_of procedure.name.span) _ (refl, right) (keeps_signature Knows knows_signatures procedure.signature tally.facts h)
  knows_item (item.Process process) tally right h = right_with (entered (process_signature process.quantifiers) tally.facts) (spot_of process.name.span) _ (refl, right) h
  knows_item _ tally right h = h

  knows_spec : (items : List SpecItem) (tally : Tally) → Each SpecRight items → Knows tally.facts → Knows (spec_items_declared items tally).facts
  knows_spec [] tally right h = h
  knows_spec (inner ∷ more) tally right h = knows_spec more _ right.1 (knows_spec_item true inner tally right.0 h)

  knows_items : (items : List Item) (tally : Tally) → Each ItemRight items → Knows tally.facts → Knows (items_declared items tally).facts
  knows_items [] tally right h = h
  knows_items (inner ∷ more) tally right h = knows_items more _ right.1 (knows_item inner tally right.0 h)

  -- ---- components

  knows_params : (params : List NamedParam) (facts : Facts) → Knows facts → Knows (params_declared params facts)
  knows_params [] facts h = h
  knows_params (param ∷ params) facts h = knows_params params _ (right_with facts param.spot (variable param.ty) tt h)

  knows_head : (tree : Component) (facts : Facts) → Knows facts → Knows (head_declared tree facts)
  knows_head tree facts h =
      let entering = formals_entered (formals_of tree) facts in
      let params = component_formals entering (formals_of tree) in
      let made = signed_entered (making params) entering in
      let after = keeps_signed Knows knows_signatures (making params) entering (keeps_formals Knows knows_signatures (formals_of tree) facts h) in
      knows_params params (component_typed (name_of tree) (making params) made) (right_with made (spot_of (name_of tree).span) _ tt after)

  knows_component : (component : Component) (tally : Tally) → ComponentRight component → Knows tally.facts → Knows (component_declared component tally).facts
  knows_component component tally right h = knows_items (body_of component) _ right.1 (knows_head component _ (knows_spec (spec_of component) _ right.0 h))

  knows_components : (components : List Component) (tally : Tally) → Each ComponentRight components → Knows tally.facts → Knows (components_declared components tally).facts
  knows_components [] tally right h = h
  knows_components (component ∷ more) tally right h = knows_components more _ right.1 (knows_component component tally right.0 h)

  knows_files : (files : List File) (tally : Tally) → Each (λ file. Each ComponentRight file.components) files → Knows tally.facts → Knows (files_declared files tally).facts
  knows_files [] tally right h = h
  knows_files (file ∷ files) tally right h = knows_files files _ right.1 (knows_components file.components tally right.0 h)

  knows_named : (components : List Component) (facts : Facts) → Knows facts → Knows (components_named components facts)
  knows_named [] facts h = h
  knows_named (component ∷ more) facts h = knows_named more _ (right_with facts (spot_of (name_of component).span) _ tt h)

  knows_files_named : (files : List File) (facts : Facts) → Knows facts → Knows (files_named files facts)
  knows_files_named [] facts h = h
  knows_files_named (file ∷ files) facts h = knows_files_named files _ (knows_named file.components facts h)

  none_known : (spot : Spot) (one : Info) → info_at [] spot ≡ Some one → ⊥
  none_known spot one e = cc

  knows_declared : (uses : Meanings) (specs : Specs) (files : List File) → Each (λ file. Each ComponentRight file.components) files → Knows (program_declared uses specs files)
  knows_declared uses specs files right = knows_files files _ right (knows_files_named files (no_facts uses specs) (λ spot one is. absurd (none_known spot one is)))

  -- ---- types that are inferred

  right_by : (spot : Spot) (is_constant in_spec : Bool) (value : Typed) → Right spot (info_by is_constant in_spec value)
  right_by spot true in_spec value = tt
  right_by spot false in_spec value = tt

  knows_settled : (waiting : List Waiting) (facts : Facts) → Knows facts → Knows (all_settled waiting facts)
  knows_settled [] facts h = h
  knows_settled (w ∷ more) facts h = knows_settled more _ (right_with facts w.spot _ (right_by w.spot w.is_constant w.in_spec _) h)

  knows_waves : (n : ℕ) (waiting : List Waiting) (facts : Facts) → Knows facts → Knows (waves n waiting facts)
  knows_waves zero waiting facts h = h
  knows_waves (suc n) waiting facts h = knows_waves n waiting (wave waiting facts) (knows_settled (filter (can_settle facts) waiting) facts h)

  knows_given_up : (waiting : List Waiting) (facts : Facts) → Knows facts → Knows (given_up waiting facts)
  knows_given_up [] facts h = h
  knows_given_up (w ∷ more) facts h = knows_given_up more _ (by (is_settled facts w))
    where
      by : (b : Bool) → Knows (given_up_if b facts w)
      by true = h
      by false = right_with facts w.spot _ tt h

  right_files : (files : List File) → Each ComponentRight (components_in files) → Each (λ file. Each ComponentRight file.components) files
  right_files files right = each-parts ComponentRight (λ file. file.components) files right

  -- what is known before any statement is looked at is known where it is declared
  pub first_known : (uses : Meanings) (specs : Specs) (files : List File) → Each ComponentRight (components_in files) → Knows (program_known uses specs files)
  first_known uses specs files right =
      knows_given_up (files_waiting files) (program_inferred uses specs files)
      (knows_waves (length (files_waiting files)) (files_waiting files) (program_declared uses specs files) (knows_declared uses specs files (right_files files right)))

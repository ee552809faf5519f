-- What is kept by all that enters signatures, by the declaration of an operation, and by any other declaration where its
-- name may stand, is kept where what is outside of procs and blocks is declared.
use Rattle.std.proofs.Common.{ℕ, suc, zero, ◌+◌, Bool, true, false, List, [], ◌∷◌, Option, Some, None, length, flat_map, if◌then◌else◌}
use Rattle.std.specs.List.{filter}
use Rattle.sr_names.specs.declared.meaning.Decl.{Decl}
use Rattle.sr_names.specs.declared.spot.Spot.{Spot}
use Rattle.sr_names.specs.Noted.{Meanings}
use Rattle.sr_names.specs.Specs.{Specs}
use Rattle.sr_names.specs.Spots.{spot_of}
use Rattle.sr_order.specs.Names.{const_names, decl_names, formal_names, names_spans, type_decl_names, var_names}
use Rattle.sr_tables.specs.Parts.{components_in}
use Rattle.sr_tree.specs.declared.component.Component.{Component}
use Rattle.sr_tree.specs.declared.component.File.{File}
use Rattle.sr_tree.specs.declared.component.Item.{Item}
use Rattle.sr_tree.specs.declared.component.Item.TheVariants as item
use Rattle.sr_tree.specs.declared.component.SpecItem.{SpecItem}
use Rattle.sr_tree.specs.declared.component.SpecItem.TheVariants as spec
use Rattle.sr_tree.specs.declared.declaration.ConstDecl.{ConstDecl}
use Rattle.sr_tree.specs.declared.declaration.OpItem.{OpItem}
use Rattle.sr_tree.specs.declared.declaration.Semaphore.{Semaphore}
use Rattle.sr_tree.specs.declared.declaration.TypeDecl.{TypeDecl}
use Rattle.sr_tree.specs.declared.declaration.VarDecl.{VarDecl}
use Rattle.sr_tree.specs.declared.expr.Expr.{Expr}
use Rattle.sr_tree.specs.declared.name.Name.{Name}
use Rattle.sr_tree.specs.declared.types.Decl.{Decl as DeclTree}
use Rattle.sr_tree.specs.declared.types.Formal.{Formal}
use Rattle.sr_tree.specs.declared.types.Returned.{Returned}
use Rattle.sr_tree.specs.declared.types.Signature.{Signature as SignatureTree}
use Rattle.sr_tree.specs.declared.types.TypeTree.{TypeTree, out-TypeTree}
use Rattle.sr_tree.specs.declared.types.TypeTree.TheOpen.{TypeTree-F}
use Rattle.sr_tree.specs.Nested.{types_within}
use Rattle.sr_tree.specs.Parts.{name_of, spec_of, formals_of, body_of}
use Rattle.sr_types.specs.declared.signature.Signature.{Signature}
use Rattle.sr_types.specs.declared.ty.Ty.{Ty}
use Rattle.sr_types.specs.declared.ty.Ty.TheVariants as ty
use Rattle.sr_types.specs.declared.typed.Typed.{Typed}
use Rattle.sr_value.specs.declared.place.Span.{Span}
use Rattle.sr_check_expr.specs.declared.facts.Facts.{Facts}
use Rattle.sr_check_expr.specs.declared.info.Info.{Info}
use Rattle.sr_check_expr.specs.declared.info.Info.TheVariants as info
use Rattle.sr_check_decl.specs.declared.kind.NamedParam.{NamedParam}
use Rattle.sr_check_decl.specs.declared.tally.Tally.{Tally}
use Rattle.sr_check_decl.specs.Declaring.{declared_if, const_declared, untyped_vars_declared, var_declared, var_declared_by, literals_declared, at_facts, layer_declared, types_declared, type_declared, ops_declared, op_item_name, op_type, sems_declared, semaphore_signature, process_signature, spec_item_declared, spec_items_declared, item_declared, items_declared, params_declared, head_declared, component_typed, making, component_formals, component_declared, components_declared, files_declared, components_named, files_named, no_facts, program_declared, standing}
use Rattle.sr_check_decl.specs.Entering.{entered, signed_entered, type_entered, formals_entered, signature_entered}
use Rattle.sr_check_decl.specs.Inferring.{is_settled, all_settled, can_settle, wave, waves, given_up, given_up_if, program_inferred, program_known}
use Rattle.sr_check_decl.specs.Parts.{component_decl}
use Rattle.sr_check_decl.specs.Variables.{declare, vars_declared}
use Rattle.sr_check_decl.specs.Waiting.{Waiting, components_waiting, component_waiting, files_waiting, item_waiting, items_waiting, spec_item_waiting, spec_items_waiting, unless_typed, var_waiting, vars_waiting, waits_if}
use Rattle.sr_check.proofs.Each.{Each, each-append, each-left, each-right, each-parts}
use Rattle.sr_check.proofs.Entered.{keeps_signed, keeps_type, keeps_signature, keeps_written, keeps_formals, keeps_ops}
use Rattle.sr_front.proofs.Known.KeptFormals.{component_params_free}
use Rattle.sr_front.proofs.Names.PlainNames.{component_plain, item_plain, spec_plain}
use Rattle.sr_front.proofs.Lists.Sharing.{first_each}
use Rattle.sr_front.proofs.Names.WordShares.{layer_words, words_of, words_share}

-- any operation may be declared, and all else at the spots that are free
pub record Declares (Q : Facts → Type 0) (Free : Spot → Type 0) : Type 0 where
  pub entered : (facts : Facts) (signature : Signature) → Q facts → Q (entered signature facts)
  pub put : (facts : Facts) (spot : Spot) (one : Info) → Free spot → Q facts → Q (declare facts spot one)
  pub operation : (facts : Facts) (spot : Spot) (ty : Ty) (component : Spot) (is_local : Bool) → Q facts → Q (declare facts spot (info.Operation ty component is_local))
  pub standing : (facts : Facts) (component : Decl) → Q facts → Q (standing facts component)

module _ (Q : Facts → Type 0) (Free : Spot → Type 0) (declares : Declares Q Free) where
  abbrev pub FreeName : Span → Type 0
  FreeName span = Free (spot_of span)

  abbrev pub AllFree : List Span → Type 0
  AllFree = Each FreeName

  -- ---- constants, variables and types

  pub keeps_vars : (type : Ty) (decls : List DeclTree) (facts : Facts) → Each (λ decl. AllFree (decl_names decl)) decls → Q facts → Q (vars_declared type decls facts)
  keeps_vars type [] facts free h = h
  keeps_vars type (decl ∷ decls) facts free h = keeps_vars type decls _ free.1 (declares.put facts (spot_of decl.name.span) _ free.0.0 h)

  pub keeps_if : (b : Bool) (name : Name) (typed : Typed) (facts : Facts) → FreeName name.span → Q facts → Q (declared_if b name typed facts)
  keeps_if true name typed facts free h = declares.put facts (spot_of name.span) (info.Value typed) free h
  keeps_if false name typed facts free h = h

  keeps_const : (in_spec : Bool) (constant : ConstDecl) (facts : Facts) → AllFree (const_names constant) → Q facts → Q (const_declared in_spec constant facts)
  keeps_const in_spec constant facts free h = keeps_if _ constant.name _ _ free.0 (keeps_written Q declares.entered constant.ty facts h)

  keeps_untyped : (b : Bool) (decls : List DeclTree) (facts : Facts) → Each (λ decl. AllFree (decl_names decl)) decls → Q facts → Q (untyped_vars_declared b decls facts)
  keeps_untyped true decls facts free h = h
  keeps_untyped false decls facts free h = keeps_vars ty.Untyped decls facts free h

  keeps_var_by : (tree : Option TypeTree) (variables : VarDecl) (facts : Facts) → Each (λ decl. AllFree (decl_names decl)) variables.decls → Q facts → Q (var_declared_by tree variables facts)
  keeps_var_by None variables facts free h = keeps_untyped _ variables.decls facts free h
  keeps_var_by (Some tree) variables facts free h = keeps_vars _ variables.decls facts free h

  decls_free : (variables : VarDecl) → AllFree (var_names variables) → Each (λ decl. AllFree (decl_names decl)) variables.decls
  decls_free variables free = each-parts FreeName decl_names variables.decls (each-left FreeName (flat_map decl_names variables.decls) _ free)

  keeps_var : (variables : VarDecl) (facts : Facts) → AllFree (var_names variables) → Q facts → Q (var_declared variables facts)
  keeps_var variables facts free h = keeps_var_by variables.ty variables _ (decls_free variables free) (keeps_written Q declares.entered variables.ty facts h)

  pub keeps_literals : (at : Spot) (number index : ℕ) (names : List Name) (facts : Facts) → AllFree (names_spans names) → Q facts → Q (literals_declared at number index names facts)
  keeps_literals at number index [] facts free h = h
  keeps_literals at number index (name ∷ names) facts free h = keeps_literals at number (index + 1) names _ free.1 (declares.put facts (spot_of name.span) _ free.0 h)

  pub keeps_layer : (layer : TypeTree-F TypeTree Formal Returned SignatureTree) (tally : Tally) → AllFree (layer_words layer) → Q tally.facts → Q (layer_declared layer tally).facts
  keeps_layer (TypeTree-F.Enum span literals) tally free h = keeps_literals _ _ _ literals _ free.1 (declares.put tally.facts (spot_of span) _ free.0 h)
  keeps_layer (TypeTree-F.Rec span fields) tally free h = declares.put tally.facts (spot_of span) _ free.0 h
  keeps_layer _ tally free h = h

  pub keeps_types : (trees : List TypeTree) (tally : Tally) → AllFree (flat_map words_of trees) → Q tally.facts → Q (types_declared trees tally).facts
  keeps_types [] tally free h = h
  keeps_types (tree ∷ trees) tally free h =
      keeps_types trees _ (each-right FreeName (words_of tree) (flat_map words_of trees) free) (keeps_layer (out-TypeTree tree) tally (each-left FreeName (words_of tree) (flat_map words_of trees) free) h)

  keeps_named_type : (named : TypeDecl) (tally : Tally) → AllFree (type_decl_names named) → Q tally.facts → Q (type_declared named tally).facts
  keeps_named_type named tally free h =
      let entering = at_facts tally (type_entered named.ty tally.facts) in
      let written = types_declared (types_within named.ty) entering in
      declares.put written.facts (spot_of named.name.span) _ free.0
      (keeps_types (types_within named.ty) entering (first_each FreeName (words_share named.ty) free.1) (keeps_type Q declares.entered named.ty tally.facts h))

  -- ---- operations

  pub keeps_declared_ops : (ops : List OpItem) (facts : Facts) → Q facts → Q (ops_declared false ops facts)
  keeps_declared_ops [] facts h = h
  keeps_declared_ops (op ∷ ops) facts h = keeps_declared_ops ops _ (declares.operation facts (spot_of (op_item_name op).span) (op_type facts op) facts.here.component.spot false h)

  pub keeps_sems : (semaphores : List Semaphore) (facts : Facts) → Q facts → Q (sems_declared false semaphores facts)
  keeps_sems [] facts h = h
  keeps_sems (semaphore ∷ more) facts h =
      keeps_sems more _ (declares.operation (entered semaphore_signature facts) (spot_of semaphore.name.span) _ _ false (declares.entered facts semaphore_signature h))

  -- ---- items

  pub keeps_spec_item : (in_spec : Bool) (inner : SpecItem) (tally : Tally) → AllFree (spec_plain inner) → Q tally.facts → Q (spec_item_declared in_spec inner tally).facts
  keeps_spec_item in_spec (spec.Import imports) tally free h = h
  keeps_spec_item in_spec (spec.Const constant) tally free h = keeps_const in_spec constant tally.facts free h
  keeps_spec_item in_spec (spec.«Type» named) tally free h = keeps_named_type named tally free h
  keeps_spec_item in_spec (spec.OpType named) tally free h =
      declares.put (signature_entered named.signature tally.facts) (spot_of named.name.span) _ free.0 (keeps_signature Q declares.entered named.signature tally.facts h)
  keeps_spec_item in_spec (spec.Op operations) tally free h = keeps_declared_ops operations.items _ (keeps_ops Q declares.entered operations.items tally.facts h)
  keeps_spec_item in_spec (spec.Var variables) tally free h = keeps_var variables tally.facts free h
  keeps_spec_item in_spec (spec.Sem semaphores) tally free h = keeps_sems semaphores.semaphores tally.facts h

  pub keeps_item : (inner : Item) (tally : Tally) → AllFree (item_plain inner) → Q tally.facts → Q (item_declared inner tally).facts
  keeps_item (item.Spec inner) tally free h = keeps_spec_item false inner tally free h
  keeps_item (item.Procedure procedure) tally free h =
      declares.operation (signature_entered procedure.signature tally.facts) (spot_of procedure.name.span) _ _ false (keeps_signature Q declares.entered procedure.signature tally.facts h)
  keeps_item (item.Process process) tally free h =
      declares.operation (entered (process_signature process.quantifiers) tally.facts) (spot_of process.name.span) _ _ false (declares.entered tally.facts (process_signature process.quantifiers) h)
  keeps_item _ tally free h = h

  pub keeps_spec : (items : List SpecItem) (tally : Tally) → AllFree (flat_map spec_plain items) → Q tally.facts → Q (spec_items_declared items tally).facts
  keeps_spec [] tally free h = h
  keeps_spec (inner ∷ more) tally free h =
      keeps_spec more _ (each-right FreeName (spec_plain inner) _ free) (keeps_spec_item true inner tally (each-left FreeName (spec_plain inner) _ free) h)

  pub keeps_items : (items : List Item) (tally : Tally) → AllFree (flat_map item_plain items) → Q tally.facts → Q (items_declared items tally).facts
  keeps_items [] tally free h = h
  keeps_items (inner ∷ more) tally free h =
      keeps_items more _ (each-right FreeName (item_plain inner) _ free) (keeps_item inner tally (each-left FreeName (item_plain inner) _ free) h)

  -- ---- components

  pub keeps_params : (params : List NamedParam) (facts : Facts) → Each (λ param. Free param.spot) params → Q facts → Q (params_declared params facts)
  keeps_params [] facts free h = h
  keeps_params (param ∷ params) facts free h = keeps_params params _ free.1 (declares.put facts param.spot _ free.0 h)

  pub keeps_head : (tree : Component) (facts : Facts) → FreeName (name_of tree).span → AllFree (flat_map formal_names (formals_of tree)) → Q facts → Q (head_declared tree facts)
  keeps_head tree facts free formals h =
      let entering = formals_entered (formals_of tree) facts in
      let params = component_formals entering (formals_of tree) in
      let made = signed_entered (making params) entering in
      let after = keeps_signed Q declares.entered (making params) entering (keeps_formals Q declares.entered (formals_of tree) facts h) in
      keeps_params params (component_typed (name_of tree) (making params) made) (component_params_free Free (formals_of tree) entering formals)
      (declares.put made (spot_of (name_of tree).span) _ free after)

  pub keeps_component : (component : Component) (tally : Tally) → AllFree (component_plain component) → Q tally.facts → Q (component_declared component tally).facts
  keeps_component component tally free h =
      let specs = flat_map spec_plain (spec_of component) in
      let formals = flat_map formal_names (formals_of component) in
      let after = each-right FreeName specs _ free.1 in
      keeps_items (body_of component) _ (each-right FreeName formals _ after)
      (keeps_head component _ free.0 (each-left FreeName formals _ after)
      (keeps_spec (spec_of component) _ (each-left FreeName specs _ free.1) (declares.standing tally.facts (component_decl component) h)))

  abbrev pub ComponentFree : Component → Type 0
  ComponentFree component = AllFree (component_plain component)

  pub keeps_components : (components : List Component) (tally : Tally) → Each ComponentFree components → Q tally.facts → Q (components_declared components tally).facts
  keeps_components [] tally free h = h
  keeps_components (component ∷ more) tally free h = keeps_components more _ free.1 (keeps_component component tally free.0 h)

  abbrev pub FilesFree : List File → Type 0
  FilesFree = Each (λ file. Each ComponentFree file.components)

  pub keeps_files : (files : List File) (tally : Tally) → FilesFree files → Q tally.facts → Q (files_declared files tally).facts
  keeps_files [] tally free h = h
  keeps_files (file ∷ files) tally free h = keeps_files files _ free.1 (keeps_components file.components tally free.0 h)

  pub keeps_named : (components : List Component) (facts : Facts) → Each ComponentFree components → Q facts → Q (components_named components facts)
  keeps_named [] facts free h = h
  keeps_named (component ∷ more) facts free h = keeps_named more _ free.1 (declares.put facts (spot_of (name_of component).span) _ free.0.0 h)

  pub keeps_files_named : (files : List File) (facts : Facts) → FilesFree files → Q facts → Q (files_named files facts)
  keeps_files_named [] facts free h = h
  keeps_files_named (file ∷ files) facts free h = keeps_files_named files _ free.1 (keeps_named file.components facts free.0 h)

  -- ---- types that are inferred

  abbrev Settles : List Waiting → Type 0
  Settles = Each (λ waiting. Free waiting.spot)

  unless_settles : (type : Option TypeTree) (waiting : List Waiting) → Settles waiting → Settles (unless_typed type waiting)
  unless_settles None waiting free = free
  unless_settles (Some tree) waiting free = tt

  waits_settle : (b : Bool) (waiting : Waiting) → Free waiting.spot → Settles (waits_if b waiting)
  waits_settle true waiting free = (free, tt)
  waits_settle false waiting free = tt

  vars_settle : (component : Decl) (span : Span) (decls : List DeclTree) (values : List Expr) → Each (λ decl. AllFree (decl_names decl)) decls → Settles (vars_waiting component span decls values)
  vars_settle component span (decl ∷ []) (value ∷ []) free = waits_settle _ (var_waiting component span decl value) free.0.0
  vars_settle component span _ _ free = tt

  spec_item_settles : (in_spec : Bool) (component : Decl) (one : SpecItem) → AllFree (spec_plain one) → Settles (spec_item_waiting in_spec component one)
  spec_item_settles in_spec component (spec.Const constant) free = unless_settles constant.ty _ (free.0, tt)
  spec_item_settles in_spec component (spec.Var variables) free =
      unless_settles variables.ty _ (vars_settle component variables.span variables.decls variables.values (decls_free variables free))
  spec_item_settles in_spec component _ free = tt

  spec_settles : (component : Decl) (items : List SpecItem) → AllFree (flat_map spec_plain items) → Settles (spec_items_waiting component items)
  spec_settles component [] free = tt
  spec_settles component (one ∷ more) free =
      each-append (λ (waiting : Waiting). Free waiting.spot) (spec_item_waiting true component one) _ (spec_item_settles true component one (each-left FreeName (spec_plain one) _ free))
      (spec_settles component more (each-right FreeName (spec_plain one) _ free))

  item_settles : (component : Decl) (one : Item) → AllFree (item_plain one) → Settles (item_waiting component one)
  item_settles component (item.Spec inner) free = spec_item_settles false component inner free
  item_settles component _ free = tt

  items_settle : (component : Decl) (items : List Item) → AllFree (flat_map item_plain items) → Settles (items_waiting component items)
  items_settle component [] free = tt
  items_settle component (one ∷ more) free =
      each-append (λ (waiting : Waiting). Free waiting.spot) (item_waiting component one) _ (item_settles component one (each-left FreeName (item_plain one) _ free))
      (items_settle component more (each-right FreeName (item_plain one) _ free))

  components_settle : (components : List Component) → Each ComponentFree components → Settles (components_waiting components)
  components_settle [] free = tt
  components_settle (component ∷ more) free =
      let specs = flat_map spec_plain (spec_of component) in
      let formals = flat_map formal_names (formals_of component) in
      each-append (λ (waiting : Waiting). Free waiting.spot) (component_waiting component) _
      (each-append (λ (waiting : Waiting). Free waiting.spot) (spec_items_waiting (component_decl component) (spec_of component)) _
      (spec_settles (component_decl component) (spec_of component) (each-left FreeName specs _ free.0.1))
      (items_settle (component_decl component) (body_of component) (each-right FreeName formals _ (each-right FreeName specs _ free.0.1))))
      (components_settle more free.1)

  files_settle : (files : List File) → FilesFree files → Settles (files_waiting files)
  files_settle [] free = tt
  files_settle (file ∷ files) free =
      each-append (λ (waiting : Waiting). Free waiting.spot) (components_waiting file.components) _ (components_settle file.components free.0) (files_settle files free.1)

  filtered_if : (b : Bool) (w : Waiting) (more : List Waiting) → Free w.spot → Settles more → Settles (if b then w ∷ more else more)
  filtered_if true w more free rest = (free, rest)
  filtered_if false w more free rest = rest

  filtered : (test : Waiting → Bool) (waiting : List Waiting) → Settles waiting → Settles (filter test waiting)
  filtered test [] free = tt
  filtered test (w ∷ more) free = filtered_if (test w) w (filter test more) free.0 (filtered test more free.1)

  keeps_settled : (waiting : List Waiting) (facts : Facts) → Settles waiting → Q facts → Q (all_settled waiting facts)
  keeps_settled [] facts free h = h
  keeps_settled (w ∷ more) facts free h = keeps_settled more _ free.1 (declares.put facts w.spot _ free.0 h)

  keeps_waves : (n : ℕ) (waiting : List Waiting) (facts : Facts) → Settles waiting → Q facts → Q (waves n waiting facts)
  keeps_waves zero waiting facts free h = h
  keeps_waves (suc n) waiting facts free h = keeps_waves n waiting (wave waiting facts) free (keeps_settled (filter (can_settle facts) waiting) facts (filtered (can_settle facts) waiting free) h)

  keeps_given_up : (waiting : List Waiting) (facts : Facts) → Settles waiting → Q facts → Q (given_up waiting facts)
  keeps_given_up [] facts free h = h
  keeps_given_up (w ∷ more) facts free h = keeps_given_up more _ free.1 (by (is_settled facts w))
    where
      by : (b : Bool) → Q (given_up_if b facts w)
      by true = h
      by false = declares.put facts w.spot _ free.0 h

  each_file : (files : List File) → AllFree (flat_map component_plain (components_in files)) → FilesFree files
  each_file files free = each-parts ComponentFree (λ file. file.components) files (each-parts FreeName component_plain (components_in files) free)

  -- it is kept where a program is declared
  pub keeps_known : (uses : Meanings) (specs : Specs) (files : List File) → AllFree (flat_map component_plain (components_in files)) → Q (no_facts uses specs) → Q (program_known uses specs files)
  keeps_known uses specs files names h =
      let free = each_file files names in
      keeps_given_up (files_waiting files) (program_inferred uses specs files) (files_settle files free)
      (keeps_waves (length (files_waiting files)) (files_waiting files) (program_declared uses specs files) (files_settle files free)
      (keeps_files files _ free (keeps_files_named files (no_facts uses specs) free h)))

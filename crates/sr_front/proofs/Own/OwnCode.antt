-- Where no rule is broken, the formals of services are own variables of the code that services: procs, components and files.
use Rattle.std.proofs.Common.{◌≡◌, ℕ, ◌+◌, ◌<◌, ◌≤◌, Bool, true, false, List, [], ◌∷◌, ◌++◌, Option, Some, None, IsTrue, is_some, length, map, flat_map, refl, sym, ap, subst, ◌∙◌, arith}
use Rattle.std.proofs.lemmas.Bool.{and_from, false≢true}
use Rattle.std.proofs.lemmas.List.{length-map}
use Rattle.std.specs.List.{list_all}
use Rattle.sr_check.proofs.Each.{Each}
use Rattle.sr_check.proofs.ErrorFree.{error_free_first, error_free_second, rule_met}
use Rattle.sr_check.proofs.Owners.{Meets, Sound}
use Rattle.sr_check.specs.declared.operation.Operation.{Operation as Serviced}
use Rattle.sr_check.specs.declared.serving.Serving.TheVariants.{SetsUp, Ends, Serves}
use Rattle.sr_check.specs.Components.{beginning, block_read, component_read, components_read, head_found, item_read, items_procs, items_read, proc_item_read, proc_rules, quantifiers_formal, signed_declared}
use Rattle.sr_check.specs.Contexts.{Context, with_facts}
use Rattle.sr_check.specs.ErrorFree.{ErrorFree}
use Rattle.sr_check.specs.Owners.{component_at}
use Rattle.sr_check.specs.Procs.{Procs}
use Rattle.sr_check.specs.Quantifying.{quantifiers_found, quantifiers_known}
use Rattle.sr_check.specs.Services.{head_rule, operation_named, service_bound, spot_or, type_of}
use Rattle.sr_check.specs.Statements.{statement_read}
use Rattle.sr_check_decl.specs.declared.kind.Signed.{Signed}
use Rattle.sr_check_decl.specs.Declaring.{standing}
use Rattle.sr_check_decl.specs.Parts.{component_decl}
use Rattle.sr_check_decl.specs.TypeTrees.{signature_read}
use Rattle.sr_check_expr.specs.declared.facts.Facts.{Facts}
use Rattle.sr_check_expr.specs.Meanings.{meant_by}
use Rattle.sr_check_expr.specs.Typings.{broken_unless}
use Rattle.sr_core.specs.declared.component.Operation.{Operation}
use Rattle.sr_desugar.specs.Bodies.{all_procs, in_body, inner_made, item_output, item_outputs}
use Rattle.sr_desugar.specs.Core.{procs_in, scene_of, whole_of, wholes_from}
use Rattle.sr_desugar.specs.Statements.{all_sites}
use Rattle.sr_lower_expr.specs.declared.scene.Scene.{Scene}
use Rattle.sr_lower_expr.specs.Places.{parameters_at, returns_at}
use Rattle.sr_lower_expr.proofs.Each.{both_pass}
use Rattle.sr_lower_expr.proofs.Within.{once_some}
use Rattle.sr_names.specs.declared.finding.Rule.TheVariants.{BadType}
use Rattle.sr_names.specs.declared.spot.Spot.{Spot}
use Rattle.sr_names.specs.Noted.{Meanings}
use Rattle.sr_names.specs.Spots.{spot_of}
use Rattle.sr_outline.specs.Numbers.{formal_names, inner_names, item_names, own_spots, quantifier_names, returned_names, signature_returned}
use Rattle.sr_tables.specs.declared.tables.Tables.{Tables}
use Rattle.sr_tables.specs.Lists.{maybe}
use Rattle.sr_tables.specs.Parts.{spot_named}
use Rattle.sr_tables.specs.Tables.{found_at}
use Rattle.sr_tree.specs.declared.component.Component.{Component}
use Rattle.sr_tree.specs.declared.component.Item.{Item}
use Rattle.sr_tree.specs.declared.component.Item.TheVariants as item
use Rattle.sr_tree.specs.declared.component.Proc.{Proc}
use Rattle.sr_tree.specs.declared.component.ProcItem.{ProcItem}
use Rattle.sr_tree.specs.declared.component.ProcItem.TheVariants as inner
use Rattle.sr_tree.specs.declared.name.Name.{Name}
use Rattle.sr_tree.specs.declared.statement.Quantifier.{Quantifier}
use Rattle.sr_tree.specs.declared.statement.Statement.{Statement}
use Rattle.sr_tree.specs.declared.types.Returned.{Returned, out-Returned}
use Rattle.sr_tree.specs.declared.types.Signature.{out-Signature}
use Rattle.sr_tree.specs.Parts.{body_of}
use Rattle.sr_types.specs.declared.ty.Ty.{Ty}
use Rattle.sr_front.specs.Formals.{arms_own, proc_own}
use Rattle.sr_front.proofs.Known.FreeBlocks.{FreeBlock, FreeCode, FreeComponent, FreeComponents, FreeItem, FreeItems}
use Rattle.sr_front.proofs.Own.OwnFormals.{HasRoom, Room, own_formals_pass, room_left, room_right}
use Rattle.sr_front.proofs.Own.OwnServices.{Fitting, rule_room}
use Rattle.sr_front.proofs.Own.OwnSites.{statement_owns}
use Rattle.sr_desugar.proofs.WaitsCode.{ComponentsOkay, ItemOkay, ItemsOkay}

-- What is known of operations is carried through the code of components: by what is known within one, and between them. What
-- a block declares may be entered where this is so of it.
pub record Carries (P : Meets) (uses : Meanings) (Local : Spot → ProcItem → Type 0) (Between : Facts → Type 0) (Within : Spot → Facts → Type 0) : Type 0 where
  pub sound : (component : Spot) (facts : Facts) → Within component facts → Sound P uses component facts
  pub begins : (tree : Component) (facts : Facts) → Between facts → Within (component_at tree) (standing facts (component_decl tree))
  pub ends : (component : Spot) (facts : Facts) → Within component facts → Between facts
  pub service : (component : Spot) (formals : List Name) (returned : Option Name) (type : Ty) (facts : Facts) → Within component facts → Within component (service_bound formals returned type facts)
  pub signed : (component : Spot) (signed : Signed) (facts : Facts) → Within component facts → Within component (signed_declared signed facts)
  pub quantifiers : (component : Spot) (quantifiers : List Quantifier) (facts : Facts) → Within component facts → Within component (quantifiers_known facts quantifiers)
  pub formal_quantifiers : (component : Spot) (quantifiers : List Quantifier) (facts : Facts) → Within component facts → Within component (quantifiers_formal quantifiers facts)
  pub statement : (component : Spot) (statement : Statement) (context : Context) → Within component context.facts → Within component (statement_read statement context).facts
  pub inner : (component : Spot) (item : ProcItem) (context : Context) → Local component item → FreeItem item context.facts → Within component context.facts → ErrorFree (proc_item_read item context).found
      → Within component (proc_item_read item context).facts

-- an operation of the table has so many parameters, and returns or not
pub record IsPut (table : List (Spot × Operation)) (spot : Spot) (parameters : ℕ) (returns : Bool) : Type 0 where
  pub operation : Operation
  pub found : found_at table spot ≡ Some operation
  pub params : length operation.parameters ≡ parameters
  pub returned : is_some operation.returns ≡ returns

-- a procedure and a process are operations by their own heads
abbrev pub OwnHead : List (Spot × Operation) → Item → Type 0
OwnHead table (item.Procedure procedure) =
    IsPut table (spot_named procedure.name) (length (formal_names (out-Signature procedure.signature).formals)) (is_some (out-Signature procedure.signature).returned)
OwnHead table (item.Process process) = IsPut table (spot_named process.name) (length process.quantifiers) false
OwnHead table _ = Unit {0}

abbrev pub LocalItem : (Spot → ProcItem → Type 0) → Spot → Item → Type 0
LocalItem Local component (item.Proc proc) = Each (Local component) proc.block
LocalItem Local component (item.Procedure procedure) = Each (Local component) procedure.block
LocalItem Local component (item.Process process) = Each (Local component) process.block
LocalItem Local component (item.Final final) = Each (Local component) final.block
LocalItem Local component _ = Unit {0}

-- the name of what a signature returns
signature_room : (owns : ℕ) (returned : Option Returned) → Room owns (maybe (λ one. spot_named (out-Returned one).decl.name ∷ []) returned) → is_some returned ≡ true → 0 < owns
signature_room owns None room is = absurd (false≢true is)
signature_room owns (Some one) room is = room (omega arith)

put_room : (scene : Scene) (owns : ℕ) (spot : Spot) (parameters : ℕ) (returns : Bool) → IsPut scene.tables.operations spot parameters returns → (0 < parameters → 0 < owns) → (returns ≡ true → 0 < owns)
    → HasRoom scene owns spot
put_room scene owns spot parameters returns put few one = record {
  parameters = λ some.
      let same = ap length (parameters_are put.found) in
      let params = put.params in
      few (omega (arith, same, params, some));
  returns = λ is. one (sym put.returned ∙ sym (ap is_some (returns_are put.found)) ∙ is);
}
  where
    parameters_are : found_at scene.tables.operations spot ≡ Some put.operation → parameters_at scene spot ≡ put.operation.parameters
    parameters_are found = rw found refl

    returns_are : found_at scene.tables.operations spot ≡ Some put.operation → returns_at scene spot ≡ put.operation.returns
    returns_are found = rw found refl

module _ (P : Meets) (uses : Meanings) (Local : Spot → ProcItem → Type 0) (Between : Facts → Type 0) (Within : Spot → Facts → Type 0) (carries : Carries P uses Local Between Within) where
  -- ---- blocks

  module _ (scene : Scene) (same : scene.facts.uses ≡ uses) (owns : ℕ) (some : length scene.own ≤ owns) (fitting : Fitting P scene.facts scene.tables.operations) (component : Spot) where
    sound : (facts : Facts) → Within component facts → Sound P scene.facts.uses component facts
    sound facts h = subst (λ names. Sound P names component facts) (sym same) (carries.sound component facts h)

    inner_good : (one : ProcItem) (context : Context) → Within component context.facts → ErrorFree (proc_item_read one context).found → Room owns (inner_names scene.facts one)
        → IsTrue (list_all (arms_own owns) (inner_made scene one).sites)
    inner_good (inner.Statement statement) context h whole room = statement_owns P scene owns some fitting component statement context (sound context.facts h) whole room
    inner_good _ context h whole room = refl

    inners_good : (items : List ProcItem) (context : Context) → Each (Local component) items → FreeBlock items context → Within component context.facts → ErrorFree (block_read items context).found
        → Room owns (flat_map (inner_names scene.facts) items) → IsTrue (list_all (arms_own owns) (all_sites (map (inner_made scene) items)))
    inners_good [] context local types h whole room = refl
    inners_good (one ∷ items) context local types h whole room =
        let step = proc_item_read one context in
        let first = error_free_first step.found _ whole in
        let names = inner_names scene.facts one in
        let more = flat_map (inner_names scene.facts) items in
        both_pass (arms_own owns) (inner_made scene one).sites (all_sites (map (inner_made scene) items)) (inner_good one context h first (room_left owns names more room))
        (inners_good items (with_facts context step.facts) local.1 types.1 (carries.inner component one context local.0 types.0 h first) (error_free_second step.found _ whole) (room_right owns names more room))

  keeps_block : (component : Spot) (items : List ProcItem) (context : Context) → Each (Local component) items → FreeBlock items context → Within component context.facts → ErrorFree (block_read items context).found
      → Within component (block_read items context).facts
  keeps_block component [] context local types h whole = h
  keeps_block component (one ∷ items) context local types h whole =
      let step = proc_item_read one context in
      keeps_block component items (with_facts context step.facts) local.1 types.1 (carries.inner component one context local.0 types.0 h (error_free_first step.found _ whole)) (error_free_second step.found _ whole)

  keeps_item : (component : Spot) (procs : Procs) (one : Item) (facts : Facts) → LocalItem Local component one → FreeCode procs one facts → Within component facts → ErrorFree (item_read procs one facts).found
      → Within component (item_read procs one facts).facts
  keeps_item component procs (item.Spec declared) facts local types h whole = h
  keeps_item component procs (item.Proc proc) facts local types h whole =
      let found = operation_named facts proc.name in
      keeps_block component proc.block (beginning procs (Serves (spot_or (spot_of proc.name.span) found)) (service_bound proc.formals proc.returned (type_of found) facts)) local types
      (carries.service component proc.formals proc.returned (type_of found) facts h) (error_free_second (proc_rules facts proc found) _ whole)
  keeps_item component procs (item.Procedure procedure) facts local types h whole =
      let signed = (signature_read procedure.signature facts).signed in
      keeps_block component procedure.block (beginning procs (Serves (spot_of procedure.name.span)) (signed_declared signed facts)) local types.1 (carries.signed component signed facts h)
      (error_free_second (signature_read procedure.signature facts).found _ whole)
  keeps_item component procs (item.Process process) facts local types h whole =
      let known = quantifiers_known facts process.quantifiers in
      keeps_block component process.block (beginning procs (Serves (spot_of process.name.span)) (quantifiers_formal process.quantifiers known)) local types
      (carries.formal_quantifiers component process.quantifiers known (carries.quantifiers component process.quantifiers facts h)) (error_free_second (quantifiers_found facts process.quantifiers) _ whole)
  keeps_item component procs (item.Final final) facts local types h whole = keeps_block component final.block (beginning procs Ends facts) local types h whole
  keeps_item component procs (item.Statement statement) facts local types h whole = carries.statement component statement (beginning procs SetsUp facts) h

  keeps_items : (component : Spot) (procs : Procs) (items : List Item) (facts : Facts) → Each (LocalItem Local component) items → FreeItems procs items facts → Within component facts → ErrorFree (items_read procs items facts).found
      → Within component (items_read procs items facts).facts
  keeps_items component procs [] facts local types h whole = h
  keeps_items component procs (one ∷ items) facts local types h whole =
      let step = item_read procs one facts in
      keeps_items component procs items step.facts local.1 types.1 (keeps_item component procs one facts local.0 types.0 h (error_free_first step.found _ whole)) (error_free_second step.found _ whole)

  -- a component of which the blocks declare what may be entered
  abbrev pub LocalTree : Component → Type 0
  LocalTree tree = Each (LocalItem Local (component_at tree)) (body_of tree)

  keeps_tree : (tree : Component) (facts : Facts) → LocalTree tree → FreeComponent tree facts → Between facts → ErrorFree (component_read tree facts).found → Between (component_read tree facts).facts
  keeps_tree tree facts local types h whole =
      let start = standing facts (component_decl tree) in
      carries.ends (component_at tree) (component_read tree facts).facts
      (keeps_items (component_at tree) (items_procs start (body_of tree) []) (body_of tree) start local types (carries.begins tree facts h) (error_free_second (head_found tree start) _ whole))

  pub keeps_components : (trees : List Component) (facts : Facts) → Each LocalTree trees → FreeComponents trees facts → Between facts → ErrorFree (components_read trees facts).found → Between (components_read trees facts).facts
  keeps_components [] facts local types h whole = h
  keeps_components (tree ∷ more) facts local types h whole =
      let step = component_read tree facts in
      keeps_components more step.facts local.1 types.1 (keeps_tree tree facts local.0 types.0 h (error_free_first step.found _ whole)) (error_free_second step.found _ whole)

  -- ---- items of components

  module _ (scene : Scene) (same : scene.facts.uses ≡ uses) (fitting : Fitting P scene.facts scene.tables.operations) (component : Spot) where
    -- of the code of a proc, the sites and the proc itself
    body_owns : (formals returned : List Spot) (block : List ProcItem) (context : Context) → Each (Local component) block → FreeBlock block context → Within component context.facts
        → ErrorFree (block_read block context).found
        → (let own = own_spots scene.facts formals returned block in IsTrue (list_all (arms_own (length own)) (all_sites (map (inner_made (in_body scene own)) block))))
    body_owns formals returned block context local types h whole =
        let own = own_spots scene.facts formals returned block in
        let names = flat_map (inner_names scene.facts) block in
        let all = once_some (formals ++ (returned ++ names)) in
        inners_good (in_body scene own) same (length own) (omega arith) fitting component block context local types h whole
        (room_right (length own) returned names (room_right (length own) formals (returned ++ names) all))

    -- its own formals, where its head leaves variables for them
    service_owns : (formals returned : List Spot) (operation : Spot) (block : List ProcItem)
        → (let own = own_spots scene.facts formals returned block in (Room (length own) formals → Room (length own) returned → HasRoom (in_body scene own) (length own) operation))
        → (let own = own_spots scene.facts formals returned block in HasRoom (in_body scene own) (length own) operation)
    service_owns formals returned operation block head =
        let own = own_spots scene.facts formals returned block in
        let names = flat_map (inner_names scene.facts) block in
        let all = once_some (formals ++ (returned ++ names)) in
        head (room_left (length own) formals (returned ++ names) all) (room_left (length own) returned names (room_right (length own) formals (returned ++ names) all))

    proc_room : (owns : ℕ) (own : List Spot) (facts : Facts) → Within component facts → (proc : Proc) (found : Option Serviced) → operation_named facts proc.name ≡ found → ErrorFree (proc_rules facts proc found)
        → Room owns (map spot_named proc.formals) → Room owns (returned_names proc.returned) → HasRoom (in_body scene own) owns (meant_by scene.facts proc.name)
    proc_room owns own facts h proc None is whole formals returned = absurd whole
    proc_room owns own facts h proc (Some operation) is whole formals returned =
        let rule = head_rule facts.signatures proc.formals (is_some proc.returned) operation.ty in
        rule_room P (in_body scene own) owns fitting component facts (subst (λ names. Sound P names component facts) (sym same) (carries.sound component facts h)) proc.name operation is proc.formals proc.returned
        (rule_met rule BadType proc.span (error_free_first (broken_unless rule BadType proc.span) _ whole)) formals returned

    abbrev Owned : Item → Type 0
    Owned one = ItemOkay (λ owns. arms_own owns) scene one × IsTrue (list_all proc_own (item_output scene one).procs)

    item_owns : (procs : Procs) (one : Item) (facts : Facts) → LocalItem Local component one → OwnHead scene.tables.operations one → FreeCode procs one facts → Within component facts → ErrorFree (item_read procs one facts).found
        → Room (length scene.own) (item_names scene.facts one) → Owned one
    item_owns procs (item.Spec declared) facts local head types h whole room = (refl, refl)
    item_owns procs (item.Proc proc) facts local head types h whole room =
        let found = operation_named facts proc.name in
        let context = beginning procs (Serves (spot_or (spot_of proc.name.span) found)) (service_bound proc.formals proc.returned (type_of found) facts) in
        let formals = map spot_named proc.formals in
        let returned = returned_names proc.returned in
        let operation = meant_by scene.facts proc.name in
        let own = own_spots scene.facts formals returned proc.block in
        let rules = error_free_first (proc_rules facts proc found) _ whole in (
          body_owns formals returned proc.block context local types (carries.service component proc.formals proc.returned (type_of found) facts h) (error_free_second (proc_rules facts proc found) _ whole),
          and_from _ _
              (own_formals_pass (in_body scene own) (length own) (omega arith) formals returned operation
              (service_owns formals returned operation proc.block (proc_room (length own) own facts h proc found refl rules))) refl,
        )
    item_owns procs (item.Procedure procedure) facts local head types h whole room =
        let signed = (signature_read procedure.signature facts).signed in
        let context = beginning procs (Serves (spot_of procedure.name.span)) (signed_declared signed facts) in
        let formals = formal_names (out-Signature procedure.signature).formals in
        let returned = signature_returned procedure.signature in
        let operation = spot_named procedure.name in
        let own = own_spots scene.facts formals returned procedure.block in (
          body_owns formals returned procedure.block context local types.1 (carries.signed component signed facts h) (error_free_second (signature_read procedure.signature facts).found _ whole),
          and_from _ _
              (own_formals_pass (in_body scene own) (length own) (omega arith) formals returned operation
              (service_owns formals returned operation procedure.block
              (λ few one. put_room (in_body scene own) (length own) operation _ _ head few (signature_room (length own) (out-Signature procedure.signature).returned one)))) refl,
        )
    item_owns procs (item.Process process) facts local head types h whole room =
        let known = quantifiers_known facts process.quantifiers in
        let context = beginning procs (Serves (spot_of process.name.span)) (quantifiers_formal process.quantifiers known) in
        let formals = quantifier_names process.quantifiers in
        let operation = spot_named process.name in
        let own = own_spots scene.facts formals [] process.block in (
          body_owns formals [] process.block context local types (carries.formal_quantifiers component process.quantifiers known (carries.quantifiers component process.quantifiers facts h))
              (error_free_second (quantifiers_found facts process.quantifiers) _ whole),
          and_from _ _
              (own_formals_pass (in_body scene own) (length own) (omega arith) formals [] operation
              (service_owns formals [] operation process.block
              (λ few one. put_room (in_body scene own) (length own) operation _ _ head (λ some. few (let many = length-map process.quantifiers (λ (quantifier : Quantifier). spot_named quantifier.name) in omega (arith, some, many))) (λ is. absurd (false≢true is))))) refl,
        )
    item_owns procs (item.Final final) facts local head types h whole room = (body_owns [] [] final.block (beginning procs Ends facts) local types h whole, refl)
    item_owns procs (item.Statement statement) facts local head types h whole room =
        (statement_owns P scene (length scene.own) (omega arith) fitting component statement (beginning procs SetsUp facts) (subst (λ names. Sound P names component facts) (sym same) (carries.sound component facts h)) whole room, refl)

    items_own : (procs : Procs) (items : List Item) (facts : Facts) → Each (LocalItem Local component) items → Each (OwnHead scene.tables.operations) items → FreeItems procs items facts → Within component facts
        → ErrorFree (items_read procs items facts).found → Room (length scene.own) (flat_map (item_names scene.facts) items)
        → ItemsOkay (λ owns. arms_own owns) scene items × IsTrue (list_all proc_own (all_procs (item_outputs scene items)))
    items_own procs [] facts local heads types h whole room = (tt, refl)
    items_own procs (one ∷ items) facts local heads types h whole room =
        let step = item_read procs one facts in
        let found = error_free_first step.found _ whole in
        let names = item_names scene.facts one in
        let more = flat_map (item_names scene.facts) items in
        let first = item_owns procs one facts local.0 heads.0 types.0 h found (room_left (length scene.own) names more room) in
        let rest = items_own procs items step.facts local.1 heads.1 types.1 (keeps_item component procs one facts local.0 types.0 h found) (error_free_second step.found _ whole) (room_right (length scene.own) names more room) in
        ((first.0, rest.0), both_pass proc_own (item_output scene one).procs (all_procs (item_outputs scene items)) first.1 rest.1)

  -- ---- components

  module _ (final : Facts) (same : final.uses ≡ uses) (tables : Tables) (fitting : Fitting P final tables.operations) (imports : List (List ℕ)) where
    -- where a component is looked at the same is known
    standing_fits : (number : ℕ) (tree : Component) → Fitting P (scene_of final tables imports number tree).facts tables.operations
    standing_fits number tree signatures spot ty component is_local meets =
        let one = fitting signatures spot ty component is_local meets in
        record { operation = one.operation; found = one.found; signature = one.signature; at = one.at; params = one.params; returns = one.returns; lasts = one.lasts }

    pub components_own : (number : ℕ) (trees : List Component) (facts : Facts) → Each LocalTree trees → Each (λ tree. Each (OwnHead tables.operations) (body_of tree)) trees → FreeComponents trees facts → Between facts
        → ErrorFree (components_read trees facts).found
        → ComponentsOkay (λ number count owns. arms_own owns) final tables imports number trees × IsTrue (list_all proc_own (procs_in (wholes_from final tables imports number trees)))
    components_own number [] facts local heads types h whole = (tt, refl)
    components_own number (tree ∷ more) facts local heads types h whole =
        let step = component_read tree facts in
        let scene : Scene = scene_of final tables imports number tree in
        let start = standing facts (component_decl tree) in
        let read = error_free_first step.found _ whole in
        let first = items_own scene same (standing_fits number tree) (component_at tree) (items_procs start (body_of tree) []) (body_of tree) start local.0 heads.0 types.0 (carries.begins tree facts h)
        (error_free_second (head_found tree start) _ read) (once_some (flat_map (item_names scene.facts) (body_of tree))) in
        let rest = components_own (number + 1) more step.facts local.1 heads.1 types.1 (keeps_tree tree facts local.0 types.0 h read) (error_free_second step.found _ whole) in
        ((first.0, rest.0), both_pass proc_own (whole_of final tables imports (number, tree)).procs (procs_in (wholes_from final tables imports (number + 1) more)) first.1 rest.1)

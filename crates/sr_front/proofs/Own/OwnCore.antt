-- In the core of accepted files the formals of services are own variables of the code that services.
use Rattle.std.proofs.Common.{◌≡◌, ℕ, suc, ◌+◌, Bool, true, true≢false, List, [], ◌∷◌, Option, Some, None, is_some, length, map, flat_map, unwrap_or, refl, sym, ap, subst, ◌∙◌, arith}
use Rattle.std.proofs.lemmas.List.{length-append, length-map}
use Rattle.std.proofs.lemmas.Option.{same_Some}
use Rattle.std.specs.List.{IsDistinct, enumerate_from, list_all}
use Rattle.std.specs.Option.{option_map}
use Rattle.std.specs.Prelude.{IsTrue}
use Rattle.sr_check.proofs.Each.{Each, each-parts, each-right, each-weaker}
use Rattle.sr_check.proofs.ErrorFree.{error_free_second}
use Rattle.sr_check.proofs.Kept.{none_found}
use Rattle.sr_check.proofs.Owners.{Allows, Meets, Plain, Sound, known_now, standing_sound}
use Rattle.sr_check.proofs.Programs.{program_plain}
use Rattle.sr_check.proofs.Reading.{keeps_formal_quantifiers, keeps_inner, keeps_quantifiers, keeps_service, keeps_signed_declared, keeps_statement}
use Rattle.sr_check.specs.Checked.{checked, first_refused}
use Rattle.sr_check.specs.Components.{components_read, files_read, proc_item_read}
use Rattle.sr_check.specs.ErrorFree.{ErrorFree}
use Rattle.sr_check.specs.Owners.{Declared, Owned, component_at, component_owned, declared_operations, inner_owned, item_owned, spec_item_owned}
use Rattle.sr_check_decl.specs.Cycles.{leads_left, type_cycles_found}
use Rattle.sr_check_decl.specs.Inferring.{program_inferred, program_known}
use Rattle.sr_check_decl.specs.Waiting.{files_waiting}
use Rattle.sr_check_expr.specs.declared.facts.Facts.{Facts}
use Rattle.sr_check_expr.specs.declared.info.Info.{Info}
use Rattle.sr_check_expr.specs.declared.info.Info.TheVariants as info
use Rattle.sr_check_expr.specs.Infos.{info_at}
use Rattle.sr_check_expr.specs.Meanings.{info_type, returned_by, returned_in, type_at}
use Rattle.sr_core.specs.declared.component.Operation.{Operation}
use Rattle.sr_desugar.proofs.WaitsCode.{ComponentsOkay}
use Rattle.sr_names.specs.declared.spot.Spot.{Spot}
use Rattle.sr_names.specs.Noted.{Meanings}
use Rattle.sr_names.specs.Searches.{At}
use Rattle.sr_names.specs.Specs.{Specs}
use Rattle.sr_names.specs.Spots.{same_spot, spot_of}
use Rattle.sr_names.proofs.Places.{at-right}
use Rattle.sr_order.specs.Names.{file_names}
use Rattle.sr_outline.specs.Heads.{DeclaredOperation, Heads, component_opened, inner_opened, int_parameter, item_opened, operation_entry, operation_of, parameters_in, parameters_of, process_opened, procedure_opened, returned_shape, spec_item_opened}
use Rattle.sr_outline.specs.Numbers.{formal_names, formal_spots, served_spots}
use Rattle.sr_outline.specs.Outline.{component_entries}
use Rattle.sr_tables.specs.Parts.{components_in, spot_named}
use Rattle.sr_tables.specs.Shapes.{Shapes}
use Rattle.sr_tables.specs.Tables.{found_at}
use Rattle.sr_tree.specs.declared.component.Component.{Component}
use Rattle.sr_tree.specs.declared.component.File.{File}
use Rattle.sr_tree.specs.declared.component.Item.{Item}
use Rattle.sr_tree.specs.declared.component.Item.TheVariants as item
use Rattle.sr_tree.specs.declared.component.ProcItem.{ProcItem}
use Rattle.sr_tree.specs.declared.types.Decl.{Decl}
use Rattle.sr_tree.specs.declared.types.Formal.{Formal, out-Formal}
use Rattle.sr_tree.specs.declared.types.Returned.{Returned}
use Rattle.sr_tree.specs.declared.types.Signature.{out-Signature}
use Rattle.sr_tree.specs.Parts.{body_of, spec_of}
use Rattle.sr_types.specs.declared.signature.Signature.{Signature}
use Rattle.sr_types.specs.declared.ty.Ty.TheVariants.{Untyped}
use Rattle.sr_front.specs.Formals.{arms_own, proc_own}
use Rattle.sr_front.proofs.Known.FreeBlocks.{FreeComponents}
use Rattle.sr_front.proofs.EffectFree.AllowedCode.{files_error_free}
use Rattle.sr_front.proofs.Known.Declared.{Apart, entries, keys_apart, table_is}
use Rattle.sr_front.proofs.Lists.Distinct.{found_there}
use Rattle.sr_front.proofs.EffectFree.EffectFreeCode.{files_facts}
use Rattle.sr_front.proofs.Headed.Headed.{Headed, IsHeaded}
use Rattle.sr_front.proofs.Headed.Holding.{Holding, all_opened, holding_formal_quantifiers, holding_quantifiers, holding_service, holding_signed_declared, holding_statement, local_headed}
use Rattle.sr_front.proofs.Known.Lasting.{Away, Lasts, is_operation}
use Rattle.sr_front.proofs.Known.LastingCode.{EndsLocal, components_end, components_lasts}
use Rattle.sr_front.proofs.Lists.Members.{Among, among_each, among_parts, at_contained, at_map, at_numbered, parts_of_parts}
use Rattle.sr_front.proofs.Names.OperationsApart.{operations_apart}
use Rattle.sr_front.proofs.Served.Operations.{components, core, imports, tables}
use Rattle.sr_front.proofs.Headed.Optypes.{OptypesHeaded}
use Rattle.sr_front.proofs.Own.OwnCode.{Carries, LocalItem, LocalTree, OwnHead, components_own, keeps_components}
use Rattle.sr_front.proofs.Names.PlainNames.{component_code_plain}
use Rattle.sr_front.proofs.Own.OwnServices.{Fitting}

-- ---- lists

each_from : {A : Type 0} (P : A → Type 0) (xs : List A) → ((place : ℕ) (x : A) → At xs place x → P x) → Each P xs
each_from P [] each = tt
each_from P (x ∷ xs) each = (each 0 x refl, each_from P xs (λ place. each (suc place)))

-- ---- what blocks declare

-- what holds of all that an item declares holds of what its block declares
item_local : (Q : Owned → Type 0) (component : Spot) (one : Item) → Each Q (item_owned component one) → LocalItem (λ at inner. Each Q (inner_owned at inner)) component one
item_local Q component (item.Spec declared) all = tt
item_local Q component (item.Proc proc) all = each-parts Q (inner_owned component) proc.block all
item_local Q component (item.Procedure procedure) all = each-parts Q (inner_owned component) procedure.block all.1
item_local Q component (item.Process process) all = each-parts Q (inner_owned component) process.block all.1
item_local Q component (item.Final final) all = each-parts Q (inner_owned component) final.block all
item_local Q component (item.Statement statement) all = tt

trees_local : (Q : Owned → Type 0) (trees : List Component) → Each Q (flat_map component_owned trees) → Each (λ tree. Each (LocalItem (λ at inner. Each Q (inner_owned at inner)) (component_at tree)) (body_of tree)) trees
trees_local Q trees all =
    each-weaker (λ tree. Each Q (component_owned tree)) (λ tree. Each (LocalItem (λ at inner. Each Q (inner_owned at inner)) (component_at tree)) (body_of tree)) in_tree trees
    (each-parts Q component_owned trees all)
  where
    in_tree : (tree : Component) → Each Q (component_owned tree) → Each (LocalItem (λ at inner. Each Q (inner_owned at inner)) (component_at tree)) (body_of tree)
    in_tree tree own =
        let at = component_at tree in
        each-weaker (λ one. Each Q (item_owned at one)) (LocalItem (λ spot inner. Each Q (inner_owned spot inner)) at) (item_local Q at) (body_of tree)
        (each-parts Q (item_owned at) (body_of tree) (each-right Q (flat_map (spec_item_owned at) (spec_of tree)) (flat_map (item_owned at) (body_of tree)) own))

-- what holds of the operations that blocks open
opened_local : (Q : DeclaredOperation → Type 0) (facts : Facts) (shapes : Shapes) (heads : Heads) (component : Spot) (one : Item) → Each Q (item_opened facts shapes heads one)
    → LocalItem (λ at inner. Each Q (inner_opened facts shapes heads inner)) component one
opened_local Q facts shapes heads component (item.Spec declared) all = tt
opened_local Q facts shapes heads component (item.Proc proc) all = each-parts Q (inner_opened facts shapes heads) proc.block all
opened_local Q facts shapes heads component (item.Procedure procedure) all = each-parts Q (inner_opened facts shapes heads) procedure.block all.1
opened_local Q facts shapes heads component (item.Process process) all = each-parts Q (inner_opened facts shapes heads) process.block all.1
opened_local Q facts shapes heads component (item.Final final) all = each-parts Q (inner_opened facts shapes heads) final.block all
opened_local Q facts shapes heads component (item.Statement statement) all = tt

-- two of one item, and what follows of both
local_both : (P Q R : Spot → ProcItem → Type 0) (component : Spot) → ((one : ProcItem) → P component one → Q component one → R component one) → (one : Item) → LocalItem P component one → LocalItem Q component one
    → LocalItem R component one
local_both P Q R component joins one = by one
  where
    block : (items : List ProcItem) → Each (P component) items → Each (Q component) items → Each (R component) items
    block [] first second = tt
    block (inner ∷ items) first second = (joins inner first.0 second.0, block items first.1 second.1)

    by : (one : Item) → LocalItem P component one → LocalItem Q component one → LocalItem R component one
    by (item.Spec declared) first second = tt
    by (item.Proc proc) first second = block proc.block first second
    by (item.Procedure procedure) first second = block procedure.block first second
    by (item.Process process) first second = block process.block first second
    by (item.Final final) first second = block final.block first second
    by (item.Statement statement) first second = tt

items_both : (P Q R : Spot → ProcItem → Type 0) (component : Spot) → ((one : ProcItem) → P component one → Q component one → R component one) → (items : List Item) → Each (LocalItem P component) items
    → Each (LocalItem Q component) items → Each (LocalItem R component) items
items_both P Q R component joins [] first second = tt
items_both P Q R component joins (one ∷ items) first second = (local_both P Q R component joins one first.0 second.0, items_both P Q R component joins items first.1 second.1)

-- ---- the heads of procedures and processes

params_length : (facts : Facts) (shapes : Shapes) (formals : List Formal) → length (parameters_of facts shapes formals) ≡ length (formal_names formals)
params_length facts shapes [] = refl
params_length facts shapes (formal ∷ formals) =
    let rest = params_length facts shapes formals in
    let params = length-append (parameters_in facts shapes formal) (parameters_of facts shapes formals) in
    let names = length-append (formal_spots formal) (formal_names formals) in
    let here = decls_length formal in
    omega (arith, rest, params, names, here)
  where
    decls_length : (one : Formal) → length (parameters_in facts shapes one) ≡ length (formal_spots one)
    decls_length one = length-map (out-Formal one).decls _ ∙ sym (length-map (out-Formal one).decls (λ (decl : Decl). spot_named decl.name))

returned_same : (facts : Facts) (shapes : Shapes) (returned : Option Returned) → is_some (option_map (returned_shape facts shapes) returned) ≡ is_some returned
returned_same facts shapes None = refl
returned_same facts shapes (Some returned) = refl

module _ (files : List File) (facts : Facts) (apart : Apart files) where
  abbrev shapes : Shapes
  shapes = (tables files facts).shapes

  abbrev heads : Heads
  heads = (tables files facts).heads

  abbrev procs : List Spot
  procs = served_spots facts (components files facts)

  -- what an item opens is in the table
  item_put : (number place k : ℕ) (tree : Component) (one : Item) (opened : DeclaredOperation) → At (components_in files) number tree → At (body_of tree) place one → At (item_opened facts shapes heads one) k opened
      → found_at (tables files facts).operations (spot_named opened.name) ≡ Some (operation_of procs number opened)
  item_put number place k tree one opened there here at =
      let in_body : Among (flat_map (item_opened facts shapes heads) (body_of tree)) opened = among_parts (item_opened facts shapes heads) (body_of tree) place one opened here (k, at) in
      let in_spec : List DeclaredOperation = flat_map (spec_item_opened facts shapes heads) (spec_of tree) in
      let among : Among (component_opened facts shapes heads tree) opened =
      (length in_spec + in_body.0, at-right in_spec (flat_map (item_opened facts shapes heads) (body_of tree)) in_body.0 (length in_spec + in_body.0) opened refl in_body.1) in
      let entry : Among (component_entries facts shapes heads procs (number, tree)) (spot_named opened.name, operation_of procs number opened) =
      (among.0, at_map (operation_entry procs number) (component_opened facts shapes heads tree) among.0 opened among.1) in
      let placed = among_parts (component_entries facts shapes heads procs) (enumerate_from 0 (components_in files)) number (number, tree) (spot_named opened.name, operation_of procs number opened)
      (at_numbered 0 (components_in files) number number tree (omega arith) there) entry in
      ap (λ (table : List (Spot × Operation)). found_at table (spot_named opened.name)) (table_is facts shapes heads procs files apart)
      ∙ found_there (entries facts shapes heads procs files apart) placed.0 (spot_named opened.name) (operation_of procs number opened) (keys_apart facts shapes heads procs files apart) placed.1

  own_head : (number place : ℕ) (tree : Component) (one : Item) → At (components_in files) number tree → At (body_of tree) place one → OwnHead (tables files facts).operations one
  own_head number place tree (item.Procedure procedure) there here = record {
    operation = operation_of procs number (procedure_opened facts shapes procedure);
    found = item_put number place 0 tree (item.Procedure procedure) (procedure_opened facts shapes procedure) there here refl;
    params = params_length facts shapes (out-Signature procedure.signature).formals;
    returned = returned_same facts shapes (out-Signature procedure.signature).returned;
  }
  own_head number place tree (item.Process process) there here = record {
    operation = operation_of procs number (process_opened process);
    found = item_put number place 0 tree (item.Process process) (process_opened process) there here refl;
    params = length-map process.quantifiers int_parameter;
    returned = refl;
  }
  own_head number place tree _ there here = tt

  own_heads : Each (λ tree. Each (OwnHead (tables files facts).operations) (body_of tree)) (components_in files)
  own_heads = each_from _ (components_in files) (λ number tree there. each_from _ (body_of tree) (λ place one here. own_head number place tree one there here))

-- ---- all that is known

-- what a block of a component declares, and that it is known in the end
pub record LocalIn (files : List File) (facts : Facts) (shapes : Shapes) (heads : Heads) (component : Spot) (inner : ProcItem) : Type 0 where
  pub number : ℕ
  pub tree : Component
  pub there : At (components_in files) number tree
  pub at : component_at tree ≡ component
  pub among : Each (Among (component_opened facts shapes heads tree)) (inner_opened facts shapes heads inner)
  pub lasts : Each (λ (owned : Owned). Lasts owned.0 facts) (inner_owned component inner)

module _ (uses : Meanings) (specs : Specs) (files : List File) (facts : Facts) (kept : facts.uses ≡ uses) (final : facts ≡ (checked uses specs files).facts) (none : first_refused uses specs files ≡ None)
    (apart : Apart files) (names_apart : IsDistinct same_spot (map spot_of (flat_map file_names files))) where
  abbrev known : Facts
  known = program_known uses specs files

  abbrev own_heads_of : Heads
  own_heads_of = heads files facts apart

  abbrev own_shapes : Shapes
  own_shapes = shapes files facts apart

  abbrev own_procs : List Spot
  own_procs = procs files facts apart

  abbrev pub Heading : Meets
  Heading = Headed (components_in files) own_procs (tables files facts).operations

  abbrev Lasting : Meets
  Lasting signatures spot ty component is_local = Lasts spot facts

  abbrev Both : Meets
  Both signatures spot ty component is_local = IsHeaded (components_in files) own_procs (tables files facts).operations signatures spot ty component is_local × Lasts spot facts

  final_is : facts ≡ (components_read (components_in files) known).facts
  final_is = final ∙ files_facts files known

  -- ---- operations last

  abbrev IsApart : Spot → Type 0
  IsApart spot = Away spot (flat_map component_code_plain (components_in files))

  all_apart : Each (λ (owned : Owned). IsApart owned.0) (flat_map component_owned (components_in files))
  all_apart = operations_apart files names_apart

  declared_apart : (spot component : Spot) (is_local : Bool) → Declared files spot component is_local → IsApart spot
  declared_apart spot component is_local declared =
      let all : declared_operations files ≡ flat_map component_owned (components_in files) = sym (parts_of_parts (λ (file : File). file.components) component_owned files) in
      let among : Among (declared_operations files) (spot, (component, is_local)) = at_contained (declared_operations files) (spot, (component, is_local)) declared in
      among_each (λ (owned : Owned). IsApart owned.0) (flat_map component_owned (components_in files)) among.0 (spot, (component, is_local)) all_apart
      (subst (λ list. At list among.0 (spot, (component, is_local))) all among.1)

  known_lasts : Plain Lasting uses known
  known_lasts = (
    (program_plain uses specs files).0,
    λ spot ty component is_local is more keeps.
        subst (Lasts spot) (sym final_is)
        (components_lasts spot (components_in files) known (declared_apart spot component is_local ((program_plain uses specs files).1 spot ty component is_local is more keeps)) (ap is_operation is)),
  )

  locals_last : Each (λ tree. Each (LocalItem (EndsLocal IsApart facts) (component_at tree)) (body_of tree)) (components_in files)
  locals_last =
      components_end IsApart facts (components_in files) known (λ spot away. away) (trees_local (λ (owned : Owned). IsApart owned.0) (components_in files) all_apart)
      (λ spot away lasts. subst (Lasts spot) (sym final_is) lasts)

  -- ---- what is carried

  abbrev Local : Spot → ProcItem → Type 0
  Local component inner = LocalIn files facts own_shapes own_heads_of component inner

  abbrev Holds : Spot → Facts → Type 0
  Holds component now = Holding uses files facts kept own_shapes own_heads_of own_procs apart component now

  abbrev Between : Facts → Type 0
  Between now = (Plain Heading uses now × OptypesHeaded own_heads_of now) × Plain Lasting uses now

  abbrev Within : Spot → Facts → Type 0
  Within component now = Holds component now × Sound Lasting uses component now

  carries : Carries Both uses Local Between Within
  carries = record {
    sound = λ component now h. (h.0.0.0, (h.0.0.1.0, λ spot ty owner is_local is more keeps. (h.0.0.1.1 spot ty owner is_local is more keeps, h.1.1.1 spot ty owner is_local is more keeps)));
    begins = λ tree now h. ((standing_sound Heading uses now tree h.0.0, h.0.1), standing_sound Lasting uses now tree h.1);
    ends = λ component now h. ((h.0.0.1, h.0.1), h.1.1);
    service = λ component formals returned type now h. (
      holding_service uses files facts kept own_shapes own_heads_of own_procs apart component formals returned type now h.0,
      keeps_service Lasting uses component formals returned type now h.1,
    );
    signed = λ component signed now h. (
      holding_signed_declared uses files facts kept own_shapes own_heads_of own_procs apart component signed now h.0,
      keeps_signed_declared Lasting uses component signed now h.1,
    );
    quantifiers = λ component quantifiers now h. (
      holding_quantifiers uses files facts kept own_shapes own_heads_of own_procs apart component quantifiers now h.0,
      keeps_quantifiers Lasting uses component quantifiers now h.1,
    );
    formal_quantifiers = λ component quantifiers now h. (
      holding_formal_quantifiers uses files facts kept own_shapes own_heads_of own_procs apart component quantifiers now h.0,
      keeps_formal_quantifiers Lasting uses component quantifiers now h.1,
    );
    statement = λ component statement context h. (
      holding_statement uses files facts kept own_shapes own_heads_of own_procs apart component statement context h.0,
      keeps_statement Lasting uses component statement context h.1,
    );
    inner = λ component inner context local types h whole. (
      subst (λ at. Holds at (proc_item_read inner context).facts) local.at
          (local_headed uses files facts kept own_shapes own_heads_of own_procs apart local.number local.tree local.there inner context local.among types
          (subst (λ at. Holds at context.facts) (sym local.at) h.0) whole),
      keeps_inner Lasting uses component inner (each-weaker (λ (owned : Owned). Lasts owned.0 facts) (Allows Lasting) (λ owned lasts signatures ty. lasts) (inner_owned component inner) local.lasts) context h.1,
    );
  }

  all_local : Each (LocalTree Both uses Local Between Within carries) (components_in files)
  all_local = each_from _ (components_in files) (λ number tree there.
      let spec = flat_map (spec_item_opened facts own_shapes own_heads_of) (spec_of tree) in
      let opened = each-parts (Among (component_opened facts own_shapes own_heads_of tree)) (item_opened facts own_shapes own_heads_of) (body_of tree)
      (each-right (Among (component_opened facts own_shapes own_heads_of tree)) spec (flat_map (item_opened facts own_shapes own_heads_of) (body_of tree))
      (all_opened uses files facts kept own_shapes own_heads_of own_procs apart tree)) in
      items_both (λ at inner. Each (Among (component_opened facts own_shapes own_heads_of tree)) (inner_opened facts own_shapes own_heads_of inner)) (EndsLocal IsApart facts) Local (component_at tree)
      (λ inner among lasts. record { number = number; tree = tree; there = there; at = refl; among = among; lasts = lasts }) (body_of tree)
      (each-weaker (λ one. Each (Among (component_opened facts own_shapes own_heads_of tree)) (item_opened facts own_shapes own_heads_of one))
      (LocalItem (λ at inner. Each (Among (component_opened facts own_shapes own_heads_of tree)) (inner_opened facts own_shapes own_heads_of inner)) (component_at tree))
      (opened_local (Among (component_opened facts own_shapes own_heads_of tree)) facts own_shapes own_heads_of (component_at tree)) (body_of tree) opened)
      (among_each (λ one. Each (LocalItem (EndsLocal IsApart facts) (component_at one)) (body_of one)) (components_in files) number tree locals_last there))

  whole : ErrorFree (components_read (components_in files) known).found
  whole =
      files_error_free files known
      (error_free_second (type_cycles_found (leads_left (program_inferred uses specs files) (files_waiting files))) (files_read files known).found (none_found uses specs files none))

  module _ (plain : Plain Heading uses known) (optypes : OptypesHeaded own_heads_of known) (types : FreeComponents (components_in files) known) where
    begins : Between known
    begins = ((plain, optypes), known_lasts)

    -- in the end every operation that is known has its head
    after : Between facts
    after = subst Between (sym final_is) (keeps_components Both uses Local Between Within carries (components_in files) known all_local types begins whole)

    returns_last : (spot : Spot) (operation : Operation) → found_at (tables files facts).operations spot ≡ Some operation → (found : Option Info) → info_at facts.infos spot ≡ found → is_operation found ≡ true
        → is_some (returned_by facts (type_at facts spot)) ≡ is_some operation.returns
    returns_last spot operation there (Some (info.Operation ty component is_local)) at is =
        let headed = known_now Heading facts after.0.0.1 spot ty component is_local at in
        let same : headed.entered.operation ≡ operation = same_Some headed.entered.operation operation (sym headed.entered.found ∙ there) in
        ap (λ (one : Option Info). is_some (returned_by facts (unwrap_or (option_map info_type one) Untyped))) at
        ∙ ap (λ (one : Option Signature). is_some (returned_in one)) headed.head.at
        ∙ headed.head.fits.returns
        ∙ ap (λ (one : Operation). is_some one.returns) same
    returns_last spot operation there None at is = absurd (true≢false (sym is))
    returns_last spot operation there (Some _) at is = absurd (true≢false (sym is))

    fitting : Fitting Both facts (tables files facts).operations
    fitting signatures spot ty component is_local meets = record {
      operation = meets.0.entered.operation;
      found = meets.0.entered.found;
      signature = meets.0.head.signature;
      at = meets.0.head.at;
      params = meets.0.head.fits.params;
      returns = meets.0.head.fits.returns;
      lasts = returns_last spot meets.0.entered.operation meets.0.entered.found (info_at facts.infos spot) refl meets.1;
    }

    -- the formals of all services are own variables
    pub all_own : ComponentsOkay (λ number count owns. arms_own owns) facts (tables files facts) (imports files facts) 0 (components files facts) × IsTrue (list_all proc_own (core files facts).procs)
    all_own =
        components_own Both uses Local Between Within carries facts kept (tables files facts) fitting (imports files facts) 0 (components_in files) known all_local (own_heads files facts apart) types begins whole

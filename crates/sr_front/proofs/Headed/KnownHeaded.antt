-- What is known of an operation before any statement is looked at has a signature that fits its head.
use Rattle.std.proofs.Common.{◌≡◌, ℕ, Bool, false, List, [], ◌∷◌, ◌++◌, Some, map, flat_map, sym, ap, ◌∙◌, subst, true≢false}
use Rattle.sr_names.specs.declared.spot.Spot.{Spot}
use Rattle.sr_names.specs.Noted.{Meanings}
use Rattle.sr_names.specs.Searches.{At}
use Rattle.sr_names.specs.Specs.{Specs}
use Rattle.sr_tree.specs.declared.component.Component.{Component}
use Rattle.sr_tree.specs.declared.component.File.{File}
use Rattle.sr_tree.specs.declared.component.Item.{Item}
use Rattle.sr_tree.specs.declared.component.Item.TheVariants as item
use Rattle.sr_tree.specs.declared.component.ProcItem.{ProcItem}
use Rattle.sr_tree.specs.declared.component.ProcItem.TheVariants as inner
use Rattle.sr_tree.specs.declared.component.SpecItem.{SpecItem}
use Rattle.sr_tree.specs.declared.component.SpecItem.TheVariants as spec
use Rattle.sr_tree.specs.declared.declaration.OpItem.{OpItem}
use Rattle.sr_tree.specs.declared.declaration.OpItem.TheVariants.{Signed, Typed}
use Rattle.sr_tree.specs.declared.declaration.Semaphore.{Semaphore}
use Rattle.sr_tree.specs.Parts.{body_of, name_of, spec_of}
use Rattle.sr_types.specs.declared.signature.Signature.{Signature}
use Rattle.sr_types.specs.declared.ty.Ty.{Ty}
use Rattle.sr_types.specs.Signatures.{KeepsNumbers}
use Rattle.sr_check.specs.ErrorFree.{ErrorFree}
use Rattle.sr_check.specs.Owners.{Declared, Owned, component_at}
use Rattle.sr_check.proofs.Each.{Each, each-append, each-weaker}
use Rattle.sr_check.proofs.ErrorFree.{error_free_first, error_free_second}
use Rattle.sr_check.proofs.Owners.{Plain}
use Rattle.sr_check.proofs.Programs.{program_plain}
use Rattle.sr_check_expr.specs.declared.facts.Facts.{Facts}
use Rattle.sr_check_expr.specs.declared.info.Info.TheVariants as info
use Rattle.sr_check_expr.specs.Infos.{info_at}
use Rattle.sr_check_decl.specs.Declaring.{op_item_name, op_type, process_signature, semaphore_signature, written_type}
use Rattle.sr_front.proofs.Headed.Heads.{component_headed, components_headed, declared_type, files_headed, head_found, heads_found, item_headed, items_headed, making_type, ops_headed, sems_headed, spec_item_headed, spec_items_headed}
use Rattle.sr_check_decl.specs.Inferring.{program_known}
use Rattle.sr_check_decl.specs.TypeTrees.{operation_type}
use Rattle.sr_core.specs.declared.component.Operation.{Operation}
use Rattle.sr_core.specs.declared.statement.Scope.{Scope}
use Rattle.sr_core.specs.declared.statement.Scope.TheVariants.{Own, Shared}
use Rattle.sr_outline.specs.Heads.{DeclaredOperation, Heads, block_opened, component_opened, head_of, inner_opened, int_parameter, item_opened, named_head, op_head, ops_opened, sems_opened, sent_head, spec_item_opened}
use Rattle.sr_outline.specs.Outline.{operations_of}
use Rattle.sr_tables.specs.Parts.{components_in, op_item_name as table_name, spot_named}
use Rattle.sr_tables.specs.Shapes.{Shapes}
use Rattle.sr_front.proofs.Known.Declared.{Apart, entries, is_own, opened_of, owned_by, put_opened, put_operation, table_is}
use Rattle.sr_front.proofs.Known.FirstNames.{first_outer}
use Rattle.sr_front.proofs.Headed.Headed.{FitsHead, Headed, IsHeaded}
use Rattle.sr_front.proofs.Headed.HeadCounts.{HasTable}
use Rattle.sr_front.proofs.Headed.HeadTrees.{process_fits, semaphore_fits, written_fits}
use Rattle.sr_front.proofs.Lists.Members.{Among, among_each}
use Rattle.sr_front.proofs.Headed.Optypes.{OptypesHeaded, known_fits, op_fits, table_stays}

-- ---- an operation that is in the table with a head that its type fits

module _ (facts : Facts) (shapes : Shapes) (heads : Heads) (procs : List Spot) (files : List File) (apart : Apart files) where
  abbrev pub table : List (Spot × Operation)
  table = operations_of facts shapes heads procs (components_in files)

  put_headed : (number : ℕ) (tree : Component) (opened : DeclaredOperation) (spot component : Spot) (is_local : Bool) (signatures : List Signature) (ty : Ty)
      → At (components_in files) number tree → Among (component_opened facts shapes heads tree) opened → owned_by (component_at tree) opened ≡ (spot, (component, is_local))
      → HasTable signatures opened.head ty → IsHeaded (components_in files) procs (entries facts shapes heads procs files apart) signatures spot ty component is_local
  put_headed number tree opened spot component is_local signatures ty there among same has = record {
    entered = put_opened facts shapes heads procs files apart number tree opened spot component is_local there among same;
    head = record {
      signature = has.signature;
      at = has.at;
      fits =
          subst (λ operation. FitsHead operation has.signature) (put_operation facts shapes heads procs files apart number tree opened spot component is_local there among same)
          (record { params = has.fits.params; returns = has.fits.returns; call = has.fits.call; send = has.fits.send });
    };
  }

  pub opened_headed : (number : ℕ) (tree : Component) (opened : DeclaredOperation) (spot component : Spot) (is_local : Bool) (signatures : List Signature) (ty : Ty)
      → At (components_in files) number tree → Among (component_opened facts shapes heads tree) opened → owned_by (component_at tree) opened ≡ (spot, (component, is_local))
      → HasTable signatures opened.head ty → IsHeaded (components_in files) procs table signatures spot ty component is_local
  opened_headed number tree opened spot component is_local signatures ty there among same has =
      subst (λ known. IsHeaded (components_in files) procs known signatures spot ty component is_local) (sym (table_is facts shapes heads procs files apart))
      (put_headed number tree opened spot component is_local signatures ty there among same has)

-- ---- what is known of the operations of a component

module _ (facts : Facts) (shapes : Shapes) (heads : Heads) (now : Facts) (uses : now.uses ≡ facts.uses) (optypes : OptypesHeaded heads now) where
  -- what is known at the name of an operation has a signature that fits its head
  abbrev pub KnownAs : DeclaredOperation → Type 0
  KnownAs opened = (ty : Ty) (component : Spot) (is_local : Bool) → info_at now.infos (spot_named opened.name) ≡ Some (info.Operation ty component is_local) → HasTable now.signatures opened.head ty

  abbrev KnownOutside : DeclaredOperation → Type 0
  KnownOutside opened = is_own opened.scope ≡ false → KnownAs opened

  abbrev opened_op : Scope → OpItem → DeclaredOperation
  opened_op scope op = record { name = table_name op; scope = scope; head = op_head facts shapes heads op }

  pub op_known : (scope : Scope) (op : OpItem) → ErrorFree (head_found now (op_item_name op) (op_type now op)) → KnownAs (opened_op scope op)
  op_known scope (Signed span name tree) nothing ty component is_local is =
      known_fits now name (head_of facts shapes tree) (written_type tree now) ty (written_fits facts shapes tree now) nothing (ap declared_type is)
  op_known scope (Typed span name optype) nothing ty component is_local is =
      known_fits now name (named_head facts heads optype) (op_type now (Typed span name optype)) ty (op_fits facts shapes heads now uses optypes (Typed span name optype)) nothing (ap declared_type is)

  ops_known : (scope : Scope) (ops : List OpItem) → ErrorFree (ops_headed now ops) → Each KnownAs (ops_opened facts shapes heads scope ops)
  ops_known scope [] nothing = tt
  ops_known scope (op ∷ ops) nothing =
      let first = head_found now (op_item_name op) (op_type now op) in
      (op_known scope op (error_free_first first (ops_headed now ops) nothing), ops_known scope ops (error_free_second first (ops_headed now ops) nothing))

  pub sems_known : (scope : Scope) (semaphores : List Semaphore) → ErrorFree (sems_headed now semaphores) → Each KnownAs (sems_opened scope semaphores)
  sems_known scope [] nothing = tt
  sems_known scope (semaphore ∷ more) nothing = (
    λ ty component is_local is. known_fits now semaphore.name (sent_head []) (operation_type now semaphore_signature) ty (semaphore_fits now)
        (error_free_first (head_found now semaphore.name (operation_type now semaphore_signature)) (sems_headed now more) nothing) (ap declared_type is),
    sems_known scope more (error_free_second (head_found now semaphore.name (operation_type now semaphore_signature)) (sems_headed now more) nothing),
  )

  spec_item_known : (one : SpecItem) → ErrorFree (spec_item_headed now one) → Each KnownAs (spec_item_opened facts shapes heads one)
  spec_item_known (spec.Op operations) nothing = ops_known Shared operations.items nothing
  spec_item_known (spec.Sem semaphores) nothing = sems_known Shared semaphores.semaphores nothing
  spec_item_known _ nothing = tt

  outside : (opened : DeclaredOperation) → KnownAs opened → KnownOutside opened
  outside opened known own = known

  spec_item_outside : (one : SpecItem) → ErrorFree (spec_item_headed now one) → Each KnownOutside (spec_item_opened facts shapes heads one)
  spec_item_outside one nothing = each-weaker KnownAs KnownOutside outside (spec_item_opened facts shapes heads one) (spec_item_known one nothing)

  -- what a block declares is its own
  own_ops : (ops : List OpItem) → Each KnownOutside (ops_opened facts shapes heads Own ops)
  own_ops [] = tt
  own_ops (op ∷ ops) = (λ own. absurd (true≢false own), own_ops ops)

  own_sems : (semaphores : List Semaphore) → Each KnownOutside (sems_opened Own semaphores)
  own_sems [] = tt
  own_sems (semaphore ∷ more) = (λ own. absurd (true≢false own), own_sems more)

  own_inner : (one : ProcItem) → Each KnownOutside (inner_opened facts shapes heads one)
  own_inner (inner.Op operations) = own_ops operations.items
  own_inner (inner.Sem semaphores) = own_sems semaphores.semaphores
  own_inner _ = tt

  own_block : (block : List ProcItem) → Each KnownOutside (block_opened facts shapes heads block)
  own_block [] = tt
  own_block (one ∷ block) = each-append KnownOutside (inner_opened facts shapes heads one) (block_opened facts shapes heads block) (own_inner one) (own_block block)

  item_outside : (one : Item) → ErrorFree (item_headed now one) → Each KnownOutside (item_opened facts shapes heads one)
  item_outside (item.Spec declared) nothing = spec_item_outside declared nothing
  item_outside (item.Proc proc) nothing = own_block proc.block
  item_outside (item.Procedure procedure) nothing = (
    λ own ty component is_local is. known_fits now procedure.name (head_of facts shapes procedure.signature) (written_type procedure.signature now) ty
        (written_fits facts shapes procedure.signature now) nothing (ap declared_type is),
    own_block procedure.block,
  )
  item_outside (item.Process process) nothing = (
    λ own ty component is_local is. known_fits now process.name (sent_head (map int_parameter process.quantifiers)) (operation_type now (process_signature process.quantifiers)) ty
        (process_fits process.quantifiers now) nothing (ap declared_type is),
    own_block process.block,
  )
  item_outside (item.Final final) nothing = own_block final.block
  item_outside (item.Statement statement) nothing = tt

  spec_outside : (items : List SpecItem) → ErrorFree (spec_items_headed now items) → Each KnownOutside (flat_map (spec_item_opened facts shapes heads) items)
  spec_outside [] nothing = tt
  spec_outside (one ∷ more) nothing =
      each-append KnownOutside (spec_item_opened facts shapes heads one) (flat_map (spec_item_opened facts shapes heads) more)
      (spec_item_outside one (error_free_first (spec_item_headed now one) (spec_items_headed now more) nothing))
      (spec_outside more (error_free_second (spec_item_headed now one) (spec_items_headed now more) nothing))

  items_outside : (items : List Item) → ErrorFree (items_headed now items) → Each KnownOutside (flat_map (item_opened facts shapes heads) items)
  items_outside [] nothing = tt
  items_outside (one ∷ more) nothing =
      each-append KnownOutside (item_opened facts shapes heads one) (flat_map (item_opened facts shapes heads) more)
      (item_outside one (error_free_first (item_headed now one) (items_headed now more) nothing))
      (items_outside more (error_free_second (item_headed now one) (items_headed now more) nothing))

  component_outside : (tree : Component) → ErrorFree (component_headed now tree) → Each KnownOutside (component_opened facts shapes heads tree)
  component_outside tree nothing =
      let made = head_found now (name_of tree) (making_type now tree) in
      let both = error_free_second made (spec_items_headed now (spec_of tree) ++ items_headed now (body_of tree)) nothing in
      each-append KnownOutside (flat_map (spec_item_opened facts shapes heads) (spec_of tree)) (flat_map (item_opened facts shapes heads) (body_of tree))
      (spec_outside (spec_of tree) (error_free_first (spec_items_headed now (spec_of tree)) (items_headed now (body_of tree)) both))
      (items_outside (body_of tree) (error_free_second (spec_items_headed now (spec_of tree)) (items_headed now (body_of tree)) both))

-- ---- the heads of components of a program

components_each : (now : Facts) (components : List Component) → ErrorFree (components_headed now components) → Each (λ tree. ErrorFree (component_headed now tree)) components
components_each now [] nothing = tt
components_each now (tree ∷ more) nothing = (
  error_free_first (component_headed now tree) (components_headed now more) nothing,
  components_each now more (error_free_second (component_headed now tree) (components_headed now more) nothing),
)

pub files_each : (now : Facts) (files : List File) → ErrorFree (files_headed now files) → Each (λ tree. ErrorFree (component_headed now tree)) (components_in files)
files_each now [] nothing = tt
files_each now (file ∷ files) nothing =
    each-append (λ tree. ErrorFree (component_headed now tree)) file.components (components_in files)
    (components_each now file.components (error_free_first (components_headed now file.components) (files_headed now files) nothing))
    (files_each now files (error_free_second (components_headed now file.components) (files_headed now files) nothing))

-- ---- what is known of operations before any statement is looked at

module _ (uses : Meanings) (specs : Specs) (files : List File) (facts : Facts) (kept : facts.uses ≡ uses) (shapes : Shapes) (heads : Heads) (procs : List Spot) (apart : Apart files) (headed : ErrorFree (heads_found uses specs files))
    (optypes : OptypesHeaded heads (program_known uses specs files)) where
  abbrev known : Facts
  known = program_known uses specs files

  same_uses : known.uses ≡ facts.uses
  same_uses = (program_plain uses specs files).0 ∙ sym kept

  one_headed : (spot : Spot) (ty : Ty) (component : Spot) (is_local : Bool) → info_at known.infos spot ≡ Some (info.Operation ty component is_local)
      → (more : List Signature) → KeepsNumbers known.signatures more → Declared files spot component is_local
      → IsHeaded (components_in files) procs (table facts shapes heads procs files apart) more spot ty component is_local
  one_headed spot ty component is_local is more keeps declared =
      let one = opened_of facts shapes heads procs files apart spot component is_local declared in
      let nothing = among_each (λ tree. ErrorFree (component_headed known tree)) (components_in files) one.number one.tree (files_each known files headed) one.there in
      let own : is_own one.opened.scope ≡ false = ap (λ (owned : Owned). owned.1.1) one.same ∙ first_outer uses specs files spot ty component is_local is in
      let name : spot_named one.opened.name ≡ spot = ap (λ (owned : Owned). owned.0) one.same in
      let fits = among_each (λ opened. is_own opened.scope ≡ false → KnownAs facts shapes heads known same_uses optypes opened) (component_opened facts shapes heads one.tree) one.among.0 one.opened
      (component_outside facts shapes heads known same_uses optypes one.tree nothing) one.among.1 own ty component is_local (ap (info_at known.infos) name ∙ is) in
      opened_headed facts shapes heads procs files apart one.number one.tree one.opened spot component is_local more ty one.there one.among one.same (table_stays known.signatures more one.opened.head ty keeps fits)

  -- each operation that is known is in the table, and its type has a signature that fits
  pub known_headed : Plain (Headed (components_in files) procs (table facts shapes heads procs files apart)) uses known
  known_headed = (
    (program_plain uses specs files).0,
    λ spot ty component is_local is more keeps. one_headed spot ty component is_local is more keeps ((program_plain uses specs files).1 spot ty component is_local is more keeps),
  )

-- An operation that is declared is in the table of operations, with the number of its component.
use Rattle.std.proofs.Common.{◌≡◌, ℕ, ◌+◌, Bool, true, false, List, [], ◌∷◌, ◌++◌, Some, map, flat_map, position, slice_get, refl, sym, ap, ◌∙◌, subst, arith}
use Rattle.std.specs.List.{IsDistinct, enumerate_from}
use Rattle.std.proofs.lemmas.List.{map-append}
use Rattle.sr_check.specs.Owners.{Declared, Owned, block_owned, component_at, component_owned, declared_operations, inner_owned, item_owned, ops_owned, owned, sems_owned, spec_item_owned}
use Rattle.sr_check_expr.specs.declared.facts.Facts.{Facts}
use Rattle.sr_core.specs.declared.component.Operation.{Operation}
use Rattle.sr_core.specs.declared.statement.Scope.{Scope}
use Rattle.sr_core.specs.declared.statement.Scope.TheVariants.{Own, Shared}
use Rattle.sr_names.specs.declared.spot.Spot.{Spot}
use Rattle.sr_names.specs.Searches.{At}
use Rattle.sr_names.specs.Spots.{same_spot, spot_of}
use Rattle.sr_order.specs.Spans.{block_operations, component_operations, component_span, component_spans, inner_operations, item_operations, op_item_span, operation_spans, spec_operations}
use Rattle.sr_outline.specs.Heads.{Heads, DeclaredOperation, block_opened, component_opened, inner_opened, item_opened, operation_entry, operation_of, ops_opened, sems_opened, spec_item_opened}
use Rattle.sr_outline.specs.Outline.{component_entries, operations_of}
use Rattle.sr_tables.specs.Shapes.{Shapes}
use Rattle.sr_tables.specs.Parts.{components_in, spot_named}
use Rattle.sr_tables.specs.Tables.{found_at, keys_of, number_in, things_in}
use Rattle.sr_tree.specs.declared.component.Component.{Component}
use Rattle.sr_tree.specs.declared.component.File.{File}
use Rattle.sr_tree.specs.declared.component.Item.{Item}
use Rattle.sr_tree.specs.declared.component.Item.TheVariants as item
use Rattle.sr_tree.specs.declared.component.ProcItem.{ProcItem}
use Rattle.sr_tree.specs.declared.component.ProcItem.TheVariants as inner
use Rattle.sr_tree.specs.declared.component.SpecItem.{SpecItem}
use Rattle.sr_tree.specs.declared.component.SpecItem.TheVariants as spec
use Rattle.sr_tree.specs.declared.declaration.OpItem.{OpItem}
use Rattle.sr_tree.specs.declared.declaration.OpItem.TheVariants.{Signed, Typed}
use Rattle.sr_tree.specs.declared.declaration.Semaphore.{Semaphore}
use Rattle.sr_tree.specs.Parts.{body_of, spec_of}
use Rattle.sr_value.specs.declared.place.Span.{Span}
use Rattle.sr_front.proofs.Lists.Members.{Among, among_parts, at_contained, at_get, at_made, at_map, at_numbered, map_parts, part_of, parts_of_parts}
use Rattle.sr_front.proofs.Lists.Distinct.{entries_apart, found_there, number_is, one_place}

-- ---- operations of a component

abbrev pub is_own : Scope → Bool
is_own Own = true
is_own Shared = false

abbrev pub scope_of : Bool → Scope
scope_of true = Own
scope_of false = Shared

own_scope : (scope : Scope) (is_local : Bool) → is_own scope ≡ is_local → scope ≡ scope_of is_local
own_scope Own is_local e = ap scope_of e
own_scope Shared is_local e = ap scope_of e

-- where an operation is declared, and whose it is
abbrev pub owned_by : Spot → DeclaredOperation → Owned
owned_by at opened = (spot_named opened.name, (at, is_own opened.scope))

abbrev span_of : DeclaredOperation → Span
span_of opened = opened.name.span

module _ (facts : Facts) (shapes : Shapes) (heads : Heads) (at : Spot) where
  ops_owned_is : (scope : Scope) (ops : List OpItem) → map (owned_by at) (ops_opened facts shapes heads scope ops) ≡ ops_owned at (is_own scope) ops
  ops_owned_is scope [] = refl
  ops_owned_is scope (Signed span name signature ∷ ops) = ap (λ more. owned at (is_own scope) name ∷ more) (ops_owned_is scope ops)
  ops_owned_is scope (Typed span name optype ∷ ops) = ap (λ more. owned at (is_own scope) name ∷ more) (ops_owned_is scope ops)

  sems_owned_is : (scope : Scope) (semaphores : List Semaphore) → map (owned_by at) (sems_opened scope semaphores) ≡ sems_owned at (is_own scope) semaphores
  sems_owned_is scope [] = refl
  sems_owned_is scope (semaphore ∷ semaphores) = ap (λ more. owned at (is_own scope) semaphore.name ∷ more) (sems_owned_is scope semaphores)

  spec_owned_is : (one : SpecItem) → map (owned_by at) (spec_item_opened facts shapes heads one) ≡ spec_item_owned at one
  spec_owned_is (spec.Op operations) = ops_owned_is Shared operations.items
  spec_owned_is (spec.Sem semaphores) = sems_owned_is Shared semaphores.semaphores
  spec_owned_is _ = refl

  pub inner_owned_is : (one : ProcItem) → map (owned_by at) (inner_opened facts shapes heads one) ≡ inner_owned at one
  inner_owned_is (inner.Op operations) = ops_owned_is Own operations.items
  inner_owned_is (inner.Sem semaphores) = sems_owned_is Own semaphores.semaphores
  inner_owned_is _ = refl

  block_owned_is : (block : List ProcItem) → map (owned_by at) (block_opened facts shapes heads block) ≡ block_owned at block
  block_owned_is block = map_parts (owned_by at) (inner_opened facts shapes heads) (inner_owned at) inner_owned_is block

  item_owned_is : (one : Item) → map (owned_by at) (item_opened facts shapes heads one) ≡ item_owned at one
  item_owned_is (item.Spec declared) = spec_owned_is declared
  item_owned_is (item.Proc proc) = block_owned_is proc.block
  item_owned_is (item.Procedure procedure) = ap (λ more. owned at false procedure.name ∷ more) (block_owned_is procedure.block)
  item_owned_is (item.Process process) = ap (λ more. owned at false process.name ∷ more) (block_owned_is process.block)
  item_owned_is (item.Final final) = block_owned_is final.block
  item_owned_is (item.Statement statement) = refl

component_owned_is : (facts : Facts) (shapes : Shapes) (heads : Heads) (component : Component)
    → map (owned_by (component_at component)) (component_opened facts shapes heads component) ≡ component_owned component
component_owned_is facts shapes heads component =
    let at = component_at component in
    map-append (owned_by at) (flat_map (spec_item_opened facts shapes heads) (spec_of component)) (flat_map (item_opened facts shapes heads) (body_of component))
    ∙ (λ i. map_parts (owned_by at) (spec_item_opened facts shapes heads) (spec_item_owned at) (spec_owned_is facts shapes heads at) (spec_of component) i
    ++ map_parts (owned_by at) (item_opened facts shapes heads) (item_owned at) (item_owned_is facts shapes heads at) (body_of component) i)

-- ---- where the operations of a component stand

module _ (facts : Facts) (shapes : Shapes) (heads : Heads) where
  ops_spans_are : (scope : Scope) (ops : List OpItem) → map span_of (ops_opened facts shapes heads scope ops) ≡ map op_item_span ops
  ops_spans_are scope [] = refl
  ops_spans_are scope (Signed span name signature ∷ ops) = ap (λ more. name.span ∷ more) (ops_spans_are scope ops)
  ops_spans_are scope (Typed span name optype ∷ ops) = ap (λ more. name.span ∷ more) (ops_spans_are scope ops)

  sems_spans_are : (scope : Scope) (semaphores : List Semaphore) → map span_of (sems_opened scope semaphores) ≡ map (λ semaphore. semaphore.name.span) semaphores
  sems_spans_are scope [] = refl
  sems_spans_are scope (semaphore ∷ semaphores) = ap (λ more. semaphore.name.span ∷ more) (sems_spans_are scope semaphores)

  spec_spans_are : (one : SpecItem) → map span_of (spec_item_opened facts shapes heads one) ≡ spec_operations one
  spec_spans_are (spec.Op operations) = ops_spans_are Shared operations.items
  spec_spans_are (spec.Sem semaphores) = sems_spans_are Shared semaphores.semaphores
  spec_spans_are _ = refl

  inner_spans_are : (one : ProcItem) → map span_of (inner_opened facts shapes heads one) ≡ inner_operations one
  inner_spans_are (inner.Op operations) = ops_spans_are Own operations.items
  inner_spans_are (inner.Sem semaphores) = sems_spans_are Own semaphores.semaphores
  inner_spans_are _ = refl

  block_spans_are : (block : List ProcItem) → map span_of (block_opened facts shapes heads block) ≡ block_operations block
  block_spans_are block = map_parts span_of (inner_opened facts shapes heads) inner_operations inner_spans_are block

  item_spans_are : (one : Item) → map span_of (item_opened facts shapes heads one) ≡ item_operations one
  item_spans_are (item.Spec declared) = spec_spans_are declared
  item_spans_are (item.Proc proc) = block_spans_are proc.block
  item_spans_are (item.Procedure procedure) = ap (λ more. procedure.name.span ∷ more) (block_spans_are procedure.block)
  item_spans_are (item.Process process) = ap (λ more. process.name.span ∷ more) (block_spans_are process.block)
  item_spans_are (item.Final final) = block_spans_are final.block
  item_spans_are (item.Statement statement) = refl

  component_spans_are : (component : Component) → map span_of (component_opened facts shapes heads component) ≡ component_operations component
  component_spans_are component =
      map-append span_of (flat_map (spec_item_opened facts shapes heads) (spec_of component)) (flat_map (item_opened facts shapes heads) (body_of component))
      ∙ (λ i. map_parts span_of (spec_item_opened facts shapes heads) spec_operations spec_spans_are (spec_of component) i
      ++ map_parts span_of (item_opened facts shapes heads) item_operations item_spans_are (body_of component) i)

  -- ---- the table

  entry_keys : (procs : List Spot) (number : ℕ) (opened : List DeclaredOperation) → keys_of (map (operation_entry procs number) opened) ≡ map spot_of (map span_of opened)
  entry_keys procs number [] = refl
  entry_keys procs number (one ∷ opened) = ap (λ more. spot_named one.name ∷ more) (entry_keys procs number opened)

  entries_keys : (procs : List Spot) (first : ℕ) (components : List Component)
      → keys_of (flat_map (component_entries facts shapes heads procs) (enumerate_from first components)) ≡ map spot_of (flat_map component_operations components)
  entries_keys procs first [] = refl
  entries_keys procs first (component ∷ components) =
      map-append (λ (entry : Spot × Operation). entry.0) (component_entries facts shapes heads procs (first, component)) (flat_map (component_entries facts shapes heads procs) (enumerate_from (first + 1) components))
      ∙ (λ i. (entry_keys procs first (component_opened facts shapes heads component) ∙ ap (map spot_of) (component_spans_are component)) i ++ entries_keys procs (first + 1) components i)
      ∙ sym (map-append spot_of (component_operations component) (flat_map component_operations components))

-- ---- the table of a program

-- no two operations of a program stand at one spot, and no two components
pub record Apart (files : List File) : Type 0 where
  pub operations : IsDistinct same_spot (map spot_of (flat_map operation_spans files))
  pub components : IsDistinct same_spot (map spot_of (flat_map component_spans files))

-- a component that stands at a place of a program, by where its name stands
pub record ComponentAt (components : List Component) (spot : Spot) : Type 0 where
  pub number : ℕ
  pub tree : Component
  pub there : At components number tree
  pub at : component_at tree ≡ spot

-- An operation that is declared is in the table of operations: it is its component's, or its processes' where it is
-- declared in a block of a proc, and has the proc that serves it.
pub record Entered (components : List Component) (procs : List Spot) (table : List (Spot × Operation)) (spot component : Spot) (is_local : Bool) : Type 0 where
  pub whose : ComponentAt components component
  pub operation : Operation
  pub found : found_at table spot ≡ Some operation
  pub numbered : slice_get (things_in table) (number_in (keys_of table) spot) ≡ Some operation
  pub scope : operation.scope ≡ scope_of is_local
  pub owner : operation.component ≡ whose.number
  pub proc : operation.proc ≡ position (same_spot spot) procs

-- what is declared of an operation, in a component of the program
pub record Opened (facts : Facts) (shapes : Shapes) (heads : Heads) (components : List Component) (spot component : Spot) (is_local : Bool) : Type 0 where
  pub number : ℕ
  pub tree : Component
  pub there : At components number tree
  pub opened : DeclaredOperation
  pub among : Among (component_opened facts shapes heads tree) opened
  pub same : owned_by (component_at tree) opened ≡ (spot, (component, is_local))

component_keys : (components : List Component) → map spot_of (map component_span components) ≡ map component_at components
component_keys [] = refl
component_keys (component ∷ components) = ap (λ more. component_at component ∷ more) (component_keys components)

pub all_component_keys : (files : List File) → map spot_of (flat_map component_spans files) ≡ map component_at (components_in files)
all_component_keys [] = refl
all_component_keys (file ∷ files) =
    map-append spot_of (map component_span file.components) (flat_map component_spans files)
    ∙ (λ i. component_keys file.components i ++ all_component_keys files i)
    ∙ sym (map-append component_at file.components (components_in files))

-- components whose names stand at one spot are one
pub one_component : (files : List File) (a b : ℕ) (one other : Component) → Apart files → At (components_in files) a one → At (components_in files) b other → component_at one ≡ component_at other → a ≡ b
one_component files a b one other apart p q same =
    let components = components_in files in
    one_place (map component_at components) a b (component_at one) (subst (IsDistinct same_spot) (all_component_keys files) apart.components)
    (at_map component_at components a one p)
    (subst (At (map component_at components) b) (sym same) (at_map component_at components b other q))

module _ (facts : Facts) (shapes : Shapes) (heads : Heads) (procs : List Spot) (files : List File) (apart : Apart files) where
  abbrev pub components : List Component
  components = components_in files

  abbrev pub entries : List (Spot × Operation)
  entries = flat_map (component_entries facts shapes heads procs) (enumerate_from 0 components)

  pub all_keys : keys_of entries ≡ map spot_of (flat_map operation_spans files)
  all_keys =
      entries_keys facts shapes heads procs 0 components
      ∙ ap (map spot_of) (parts_of_parts (λ (file : File). file.components) component_operations files)

  pub keys_apart : IsDistinct same_spot (keys_of entries)
  keys_apart = subst (IsDistinct same_spot) (sym all_keys) apart.operations

  -- the table of operations is what is declared
  pub table_is : operations_of facts shapes heads procs components ≡ entries
  table_is = entries_apart entries keys_apart

  abbrev pub Put : List (Spot × Operation) → Spot → Spot → Bool → Type 0
  Put table spot component is_local = Entered components procs table spot component is_local

  pub put_opened : (number : ℕ) (tree : Component) (opened : DeclaredOperation) (spot component : Spot) (is_local : Bool)
      → At components number tree → Among (component_opened facts shapes heads tree) opened → owned_by (component_at tree) opened ≡ (spot, (component, is_local))
      → Put entries spot component is_local
  put_opened number tree opened spot component is_local there among same =
      let operation : Operation = operation_of procs number opened in
      let name : spot_named opened.name ≡ spot = ap (λ (one : Owned). one.0) same in
      let own : is_own opened.scope ≡ is_local = ap (λ (one : Owned). one.1.1) same in
      let here : Among (component_entries facts shapes heads procs (number, tree)) (spot_named opened.name, operation) =
      (among.0, at_map (operation_entry procs number) (component_opened facts shapes heads tree) among.0 opened among.1) in
      let placed : Among entries (spot_named opened.name, operation) =
      among_parts (component_entries facts shapes heads procs) (enumerate_from 0 components) number (number, tree) (spot_named opened.name, operation)
      (at_numbered 0 components number number tree (omega arith) there) here in
      let entry : At entries placed.0 (spot, operation) = subst (λ key. At entries placed.0 (key, operation)) name placed.1 in
      let key : At (keys_of entries) placed.0 spot = at_map (λ (one : Spot × Operation). one.0) entries placed.0 (spot, operation) entry in
      record {
        whose = record { number = number; tree = tree; there = there; at = ap (λ (one : Owned). one.1.0) same };
        operation = operation;
        found = found_there entries placed.0 spot operation keys_apart entry;
        numbered =
            ap (slice_get (things_in entries)) (number_is (keys_of entries) placed.0 spot keys_apart key)
            ∙ at_get (things_in entries) placed.0 operation (at_map (λ (one : Spot × Operation). one.1) entries placed.0 (spot, operation) entry);
        scope = own_scope opened.scope is_local own;
        owner = refl;
        proc = ap (λ at. position (same_spot at) procs) name;
      }

  -- the table has it as it is declared
  pub put_operation : (number : ℕ) (tree : Component) (opened : DeclaredOperation) (spot component : Spot) (is_local : Bool)
      (there : At components number tree) (among : Among (component_opened facts shapes heads tree) opened) (same : owned_by (component_at tree) opened ≡ (spot, (component, is_local)))
      → operation_of procs number opened ≡ (put_opened number tree opened spot component is_local there among same).operation
  unfolding put_opened
  put_operation number tree opened spot component is_local there among same = refl

  opened_in : (number : ℕ) (tree : Component) (spot component : Spot) (is_local : Bool)
      → At components number tree → Among (component_owned tree) (spot, (component, is_local)) → Opened facts shapes heads components spot component is_local
  opened_in number tree spot component is_local there among =
      let opened = component_opened facts shapes heads tree in
      let made = at_made (owned_by (component_at tree)) opened among.0 (spot, (component, is_local))
      (subst (λ all. At all among.0 (spot, (component, is_local))) (sym (component_owned_is facts shapes heads tree)) among.1) in
      record { number = number; tree = tree; there = there; opened = made.0; among = (among.0, made.1); same = made.2 }

  pub opened_of : (spot component : Spot) (is_local : Bool) → Declared files spot component is_local → Opened facts shapes heads components spot component is_local
  opened_of spot component is_local declared =
      let all : declared_operations files ≡ flat_map component_owned components = sym (parts_of_parts (λ (file : File). file.components) component_owned files) in
      let among : Among (declared_operations files) (spot, (component, is_local)) = at_contained (declared_operations files) (spot, (component, is_local)) declared in
      let part = part_of component_owned components among.0 (spot, (component, is_local)) (subst (λ list. At list among.0 (spot, (component, is_local))) all among.1) in
      opened_in part.0 part.1 spot component is_local part.2 part.3

  -- an operation that is declared is in the table
  pub entered : (spot component : Spot) (is_local : Bool) → Declared files spot component is_local
      → Entered components procs (operations_of facts shapes heads procs components) spot component is_local
  entered spot component is_local declared =
      let one = opened_of spot component is_local declared in
      subst (λ table. Put table spot component is_local) (sym table_is) (put_opened one.number one.tree one.opened spot component is_local one.there one.among one.same)

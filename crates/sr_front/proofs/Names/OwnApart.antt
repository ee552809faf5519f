-- What a component declares stands at the names of variables, formals and operations, or at those of constants and types, which are ordered.
use Rattle.std.proofs.Common.{◌≡◌, ◌⊎◌, inl, inr, refl, ◌∙◌, true, List, [], ◌∷◌, ◌++◌, flat_map, map, sym, ap, subst}
use Rattle.sr_check.proofs.Each.{Each}
use Rattle.sr_names.specs.declared.meaning.Sort.{Sort}
use Rattle.sr_names.specs.declared.meaning.Sort.TheVariants.{Constant, Literal, Operation, OpType as optype_sort, «Type» as type_sort, Variable}
use Rattle.sr_names.specs.declared.spot.Spot.{Spot}
use Rattle.sr_names.specs.Sorts.{needs_order}
use Rattle.sr_names.specs.Spots.{spot_of}
use Rattle.sr_order.specs.Names.{formal_names, spec_item_names, type_names}
use Rattle.sr_order.specs.Spans.{op_item_span}
use Rattle.sr_scope.proofs.Findings.{in_either}
use Rattle.sr_scope.proofs.Operations.{from_flat}
use Rattle.sr_scope.proofs.OwnNames.{formal_fewer, formal_own, item_own, of_each, own_names, spec_fewer, spec_own}
use Rattle.sr_scope.proofs.Tables.{sorted}
use Rattle.sr_scope.specs.Declares.{op_name}
use Rattle.sr_scope.specs.Literals.{literals_of}
use Rattle.sr_scope.specs.Uses.{IsIn}
use Rattle.sr_tables.specs.Parts.{spot_named}
use Rattle.sr_tree.specs.declared.component.Component.{Component}
use Rattle.sr_tree.specs.declared.component.Item.{Item}
use Rattle.sr_tree.specs.declared.component.Item.TheVariants as item
use Rattle.sr_tree.specs.declared.component.SpecItem.{SpecItem}
use Rattle.sr_tree.specs.declared.component.SpecItem.TheVariants as spec
use Rattle.sr_tree.specs.declared.declaration.OpItem.{OpItem}
use Rattle.sr_tree.specs.declared.declaration.OpItem.TheVariants.{Signed, Typed}
use Rattle.sr_tree.specs.declared.declaration.Semaphore.{Semaphore}
use Rattle.sr_tree.specs.declared.declaration.TypeDecl.{TypeDecl}
use Rattle.sr_tree.specs.declared.name.Name.{Name}
use Rattle.sr_tree.specs.declared.types.Decl.{Decl as DeclTree}
use Rattle.sr_tree.specs.declared.types.TypeTree.{TypeTree}
use Rattle.sr_tree.specs.Parts.{body_of, formals_of, spec_of}
use Rattle.sr_value.specs.declared.place.Span.{Span}
use Rattle.sr_front.proofs.Own.DeclaredIn.{Stands, stands_left, stands_right}
use Rattle.sr_front.proofs.Names.FirmNames.{component_firm, component_loose, component_with, item_loose, item_with, spec_loose, spec_with}
use Rattle.sr_front.proofs.Own.OwnOrShared.{stands_among}
use Rattle.sr_front.proofs.Lists.NamesStand.{fewer_stands}

-- among the loose names, or among the firm ones and ordered
abbrev pub IsPlaced : List Span → List Span → Sort × Name → Type 0
IsPlaced loose firm one = Stands (spot_named one.1) loose ⊎ (Stands (spot_named one.1) firm × (needs_order one.0 ≡ true))

pub sorted_is : (sort : Sort) (names : List Name) (one : Sort × Name) → IsIn one (sorted sort names) → sort ≡ one.0
sorted_is sort [] one k = absurd k
sorted_is sort (name ∷ names) one (inl e) = ap (λ (pair : Sort × Name). pair.0) e
sorted_is sort (name ∷ names) one (inr k) = sorted_is sort names one k

pub ops_placed : (ops : List OpItem) (one : Sort × Name) → IsIn one (sorted Operation (map op_name ops)) → Stands (spot_named one.1) (map op_item_span ops)
ops_placed [] one k = absurd k
ops_placed (Signed span name signature ∷ ops) one (inl e) = inl (ap (λ (pair : Sort × Name). spot_named pair.1) e)
ops_placed (Signed span name signature ∷ ops) one (inr k) = inr (ops_placed ops one k)
ops_placed (Typed span name optype ∷ ops) one (inl e) = inl (ap (λ (pair : Sort × Name). spot_named pair.1) e)
ops_placed (Typed span name optype ∷ ops) one (inr k) = inr (ops_placed ops one k)

pub sems_placed : (some : List Semaphore) (one : Sort × Name) → IsIn one (sorted Operation (map (λ (semaphore : Semaphore). semaphore.name) some)) → Stands (spot_named one.1) (map (λ (semaphore : Semaphore). semaphore.name.span) some)
sems_placed [] one k = absurd k
sems_placed (semaphore ∷ some) one (inl e) = inl (ap (λ (pair : Sort × Name). spot_named pair.1) e)
sems_placed (semaphore ∷ some) one (inr k) = inr (sems_placed some one k)

vars_placed : (decls : List DeclTree) (one : Sort × Name) → IsIn one (sorted Variable (map (λ (decl : DeclTree). decl.name) decls)) → Stands (spot_named one.1) (map (λ (decl : DeclTree). decl.name.span) decls)
vars_placed [] one k = absurd k
vars_placed (decl ∷ decls) one (inl e) = inl (ap (λ (pair : Sort × Name). spot_named pair.1) e)
vars_placed (decl ∷ decls) one (inr k) = inr (vars_placed decls one k)

parts_placed : {A : Type 0} (own : A → List (Sort × Name)) (loose firm : A → List Span) → ((part : A) (one : Sort × Name) → IsIn one (own part) → IsPlaced (loose part) (firm part) one) → (all : List A) (one : Sort × Name)
    → IsIn one (flat_map own all) → IsPlaced (flat_map loose all) (flat_map firm all) one
parts_placed {A = A} own loose firm each all one k =
    let part = from_flat own one all k in
    by part.0 part.1 (each part.0 one part.2)
  where
    by : (part : A) → IsIn part all → IsPlaced (loose part) (firm part) one → IsPlaced (flat_map loose all) (flat_map firm all) one
    by part among (inl h) = inl (stands_among loose all part (spot_named one.1) among h)
    by part among (inr h) = inr (stands_among firm all part (spot_named one.1) among h.0, h.1)

-- the first of these names
first_placed : (loose more : List Span) (sort : Sort) (name : Name) (one : Sort × Name) → (sort, name) ≡ one → needs_order sort ≡ true → IsPlaced loose (name.span ∷ more) one
first_placed loose more sort name one e ordered = inr (inl (ap (λ (pair : Sort × Name). spot_named pair.1) e), sym (ap (λ (pair : Sort × Name). needs_order pair.0) e) ∙ ordered)

-- where the literals of a type are among what is given of it
module _ (inside : TypeTree → List Span) (literals : (named : TypeDecl) (one : Sort × Name) → IsIn one (sorted Literal (literals_of named.ty)) → Stands (spot_named one.1) (named.name.span ∷ inside named.ty)) where
  spec_placed : (item : SpecItem) (one : Sort × Name) → IsIn one (spec_own item) → IsPlaced (spec_loose item) (spec_with inside item) one
  spec_placed (spec.Import declared) one k = absurd k
  spec_placed (spec.Const constant) one (inl e) = first_placed [] [] Constant constant.name one e refl
  spec_placed (spec.Const constant) one (inr k) = absurd k
  spec_placed (spec.«Type» named) one (inl e) = first_placed [] (inside named.ty) type_sort named.name one e refl
  spec_placed (spec.«Type» named) one (inr k) = inr (literals named one k, sym (ap needs_order (sorted_is Literal (literals_of named.ty) one k)))
  spec_placed (spec.OpType named) one (inl e) = first_placed [] [] optype_sort named.name one e refl
  spec_placed (spec.OpType named) one (inr k) = absurd k
  spec_placed (spec.Op operations) one k = inl (ops_placed operations.items one k)
  spec_placed (spec.Var variables) one k = inl (vars_placed variables.decls one k)
  spec_placed (spec.Sem declared) one k = inl (sems_placed declared.semaphores one k)

  item_placed : (one : Item) (own : Sort × Name) → IsIn own (item_own one) → IsPlaced (item_loose one) (item_with inside one) own
  item_placed (item.Spec declared) own k = spec_placed declared own k
  item_placed (item.Procedure procedure) own (inl e) = inl (inl (ap (λ (pair : Sort × Name). spot_named pair.1) e))
  item_placed (item.Procedure procedure) own (inr k) = absurd k
  item_placed (item.Process process) own (inl e) = inl (inl (ap (λ (pair : Sort × Name). spot_named pair.1) e))
  item_placed (item.Process process) own (inr k) = absurd k
  item_placed _ own k = absurd k

  -- what a component declares
  pub placed_with : (component : Component) (one : Sort × Name) → IsIn one (own_names component) → IsPlaced (component_loose component) (component_with inside component) one
  placed_with component one k = by (in_either one (flat_map spec_own (spec_of component)) _ k)
    where
      spot : Spot
      spot = spot_named one.1

      loose_specs : List Span
      loose_specs = flat_map spec_loose (spec_of component)

      formals : List Span
      formals = flat_map formal_names (formals_of component)

      with_specs : List Span
      with_specs = flat_map (spec_with inside) (spec_of component)

      in_spec : IsPlaced loose_specs with_specs one → IsPlaced (component_loose component) (component_with inside component) one
      in_spec (inl h) = inl (stands_left spot loose_specs _ h)
      in_spec (inr h) = inr (stands_left spot with_specs _ h.0, h.1)

      in_body : IsPlaced (flat_map item_loose (body_of component)) (flat_map (item_with inside) (body_of component)) one → IsPlaced (component_loose component) (component_with inside component) one
      in_body (inl h) = inl (stands_right spot loose_specs _ (stands_right spot formals _ h))
      in_body (inr h) = inr (stands_right spot with_specs _ h.0, h.1)

      last : IsIn one (flat_map formal_own (formals_of component)) ⊎ IsIn one (flat_map item_own (body_of component)) → IsPlaced (component_loose component) (component_with inside component) one
      last (inl h) = inl (stands_right spot loose_specs _ (stands_left spot formals _ (fewer_stands (flat_map formal_own (formals_of component)) formals (of_each formal_own formal_names formal_fewer (formals_of component)) one h)))
      last (inr h) = in_body (parts_placed item_own item_loose (item_with inside) item_placed (body_of component) one h)

      by : IsIn one (flat_map spec_own (spec_of component)) ⊎ IsIn one (flat_map formal_own (formals_of component) ++ flat_map item_own (body_of component)) → IsPlaced (component_loose component) (component_with inside component) one
      by (inl h) = in_spec (parts_placed spec_own spec_loose (spec_with inside) spec_placed (spec_of component) one h)
      by (inr h) = last (in_either one (flat_map formal_own (formals_of component)) (flat_map item_own (body_of component)) h)

-- at these names or at the names in types
pub own_placed : (component : Component) (one : Sort × Name) → IsIn one (own_names component) → IsPlaced (component_loose component) (component_firm component) one
own_placed = placed_with type_names (λ named one k. fewer_stands (spec_own (spec.«Type» named)) (spec_item_names (spec.«Type» named)) (spec_fewer (spec.«Type» named)) one (inr k))

-- what holds at all names holds where one of them stands
pub each_stands : (P : Spot → Type 0) (names : List Span) → Each (λ span. P (spot_of span)) names → (spot : Spot) → Stands spot names → P spot
each_stands P [] all spot k = absurd k
each_stands P (name ∷ names) all spot (inl e) = subst P e all.0
each_stands P (name ∷ names) all spot (inr k) = each_stands P names all.1 spot k

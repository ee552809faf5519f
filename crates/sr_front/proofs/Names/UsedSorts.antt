-- Each name that is used in an accepted program, and means neither a variable nor a constant, means a static constant, or an
-- operation of the table, or nothing that may stand for a value.
use Rattle.std.proofs.Common.{◌≡◌, ◌⊎◌, inl, inr, Bool, true, false, cond, List, [], ◌∷◌, ◌++◌, flat_map, map, Option, Some, None, Ok, refl, sym, ap, subst, ◌∙◌}
use Rattle.std.proofs.lemmas.Bool.{false≢true}
use Rattle.std.proofs.lemmas.Option.{none-some}
use Rattle.std.specs.List.{IsDistinct}
use Rattle.std.specs.Option.{option_map}
use Rattle.sr_check.proofs.Each.{Each}
use Rattle.sr_check.specs.Checked.{checked}
use Rattle.sr_check_expr.specs.declared.facts.Facts.{Facts}
use Rattle.sr_check_expr.specs.Infos.{info_at}
use Rattle.sr_check_expr.specs.Meanings.{constant_at, is_constant}
use Rattle.sr_core.specs.declared.component.Operation.{Operation}
use Rattle.sr_names.proofs.LinkLemmas.{same_spot-refl}
use Rattle.sr_names.specs.declared.finding.Finding.{Finding}
use Rattle.sr_names.specs.declared.finding.Finding.TheVariants.{Use}
use Rattle.sr_names.specs.declared.meaning.Decl.{Decl}
use Rattle.sr_names.specs.declared.meaning.Meaning.TheVariants.{Declared}
use Rattle.sr_names.specs.declared.meaning.Sort.{Sort}
use Rattle.sr_names.specs.declared.meaning.Sort.TheVariants.{Constant, Operation as operation_sort, Variable, Quantifier as quantifier_sort}
use Rattle.sr_names.specs.declared.place.Place.{Place}
use Rattle.sr_names.specs.declared.spot.Spot.{Spot}
use Rattle.sr_names.specs.Readings.{declaration, reading}
use Rattle.sr_names.specs.Scopes.{no_blocks}
use Rattle.sr_names.specs.Specs.{Specs}
use Rattle.sr_names.specs.Spots.{same_spot, spot_of}
use Rattle.sr_names.specs.Tables.{declared_as}
use Rattle.sr_order.specs.Names.{file_names}
use Rattle.sr_order.specs.Spans.{block_operations, component_operations, inner_operations, item_operations, op_item_span, operation_spans, spec_operations}
use Rattle.sr_outline.specs.Heads.{heads_of}
use Rattle.sr_outline.specs.Numbers.{served_spots}
use Rattle.sr_scope.proofs.Findings.{in_either, in_left}
use Rattle.sr_scope.proofs.Operations.{from_flat}
use Rattle.sr_scope.proofs.OwnNames.{formal_own, item_own, own_names, spec_own}
use Rattle.sr_scope.specs.Components.{component_found, decl_of, imports_found, imports_of, own_twice, place_of}
use Rattle.sr_scope.specs.Declares.{op_name}
use Rattle.sr_scope.specs.declared.program.Names.{Names}
use Rattle.sr_scope.specs.Items.{inside, item_found, item_within, items_found, served_twice, spec_found, spec_within, specs_found}
use Rattle.sr_scope.specs.Literals.{literals_of}
use Rattle.sr_scope.specs.Names.{is_component}
use Rattle.sr_scope.specs.Procs.{semaphore_names}
use Rattle.sr_scope.specs.Resolved.{program, resolved}
use Rattle.sr_scope.specs.Types.{formal_read, formals_found}
use Rattle.sr_scope.specs.Uses.{IsIn}
use Rattle.sr_tables.specs.Parts.{component_spot, components_in, spot_named}
use Rattle.sr_tables.specs.Tables.{found_at, keys_of}
use Rattle.sr_tree.specs.declared.component.Component.{Component}
use Rattle.sr_tree.specs.declared.component.File.{File}
use Rattle.sr_tree.specs.declared.component.Item.{Item}
use Rattle.sr_tree.specs.declared.component.Item.TheVariants as item
use Rattle.sr_tree.specs.declared.component.ProcItem.{ProcItem}
use Rattle.sr_tree.specs.declared.component.ProcItem.TheVariants as inner
use Rattle.sr_tree.specs.declared.component.SpecItem.{SpecItem}
use Rattle.sr_tree.specs.declared.component.SpecItem.TheVariants as spec
use Rattle.sr_tree.specs.declared.declaration.OpItem.{OpItem}
use Rattle.sr_tree.specs.declared.declaration.OpItem.TheVariants.{Signed, Typed}
use Rattle.sr_tree.specs.declared.declaration.Semaphore.{Semaphore}
use Rattle.sr_tree.specs.declared.name.Name.{Name}
use Rattle.sr_tree.specs.Parts.{body_of, formals_of, spec_of}
use Rattle.sr_value.specs.declared.place.Span.{Span}
use Rattle.sr_front.proofs.Known.Declared.{Apart, all_keys, table_is}
use Rattle.sr_front.proofs.Own.DeclaredIn.{Stands, item_operations as inner_spots, item_variables, stands_left, stands_right}
use Rattle.sr_front.proofs.Own.DeclaredIn as declared_in
use Rattle.sr_front.proofs.Known.FixedNames.{NoVariable, component_fixed, component_no, item_fixed, own_no, spec_fixed}
use Rattle.sr_front.proofs.Names.Globals.{declared_component}
use Rattle.sr_front.proofs.Known.KeptNames.{Anywhere, all_fit}
use Rattle.sr_front.proofs.Lists.Lists.{each_at, first_same, none_listed, rest_same}
use Rattle.sr_front.proofs.Lists.Members.{parts_of_parts}
use Rattle.sr_front.proofs.Served.Operations.{tables}
use Rattle.sr_front.proofs.Names.OwnApart.{ops_placed, sems_placed, sorted_is}
use Rattle.sr_front.proofs.Own.OwnOrShared.{inner_not, is_variable, stands_among}
use Rattle.sr_front.proofs.Lists.Rising.{Rises}
use Rattle.sr_front.proofs.Mentioned.RootedParts.{means_value}
use Rattle.sr_front.proofs.Names.UsesInExprs as exprs
use Rattle.sr_front.proofs.Names.UsesInFiles.{own_not}
use Rattle.sr_front.proofs.Names.UsesInItems as items
use Rattle.sr_front.proofs.Names.UsesInStatements.{is_inner}
use Rattle.sr_front.proofs.Names.UsesTwice as twice
use Rattle.sr_front.proofs.Names.UsesVisible as visible
use Rattle.sr_front.proofs.Names.UsesVisible.{IsSeen}
use Rattle.sr_front.proofs.Names.WordsApart.{literals_named}

-- ---- what a component declares

-- a name that is none of a variable or a constant is a fixed one, or that of an operation
abbrev Placed : List Span → List Span → Sort × Name → Type 0
Placed fixed operations one = is_variable one.0 ≡ false → Stands (spot_named one.1) fixed ⊎ Stands (spot_named one.1) operations

spec_placed : (part : SpecItem) (one : Sort × Name) → IsIn one (spec_own part) → Placed (spec_fixed part) (spec_operations part) one
spec_placed (spec.Import declared) one k not = absurd k
spec_placed (spec.Const constant) one (inl e) not = absurd (false≢true (sym not ∙ sym (ap (λ (pair : Sort × Name). is_variable pair.0) e)))
spec_placed (spec.Const constant) one (inr k) not = absurd k
spec_placed (spec.«Type» named) one (inl e) not = inl (inl (ap (λ (pair : Sort × Name). spot_named pair.1) e))
spec_placed (spec.«Type» named) one (inr k) not = inl (inr (literals_named (literals_of named.ty) one k))
spec_placed (spec.OpType named) one (inl e) not = inl (inl (ap (λ (pair : Sort × Name). spot_named pair.1) e))
spec_placed (spec.OpType named) one (inr k) not = absurd k
spec_placed (spec.Op operations) one k not = inr (ops_placed operations.items one k)
spec_placed (spec.Var variables) one k not = absurd (false≢true (sym not ∙ sym (ap is_variable (sorted_is Variable _ one k))))
spec_placed (spec.Sem declared) one k not = inr (sems_placed declared.semaphores one k)

item_placed : (part : Item) (one : Sort × Name) → IsIn one (item_own part) → Placed (item_fixed part) (item_operations part) one
item_placed (item.Spec declared) one k not = spec_placed declared one k not
item_placed (item.Procedure procedure) one (inl e) not = inr (inl (ap (λ (pair : Sort × Name). spot_named pair.1) e))
item_placed (item.Procedure procedure) one (inr k) not = absurd k
item_placed (item.Process process) one (inl e) not = inr (inl (ap (λ (pair : Sort × Name). spot_named pair.1) e))
item_placed (item.Process process) one (inr k) not = absurd k
item_placed _ one k not = absurd k

parts_placed : {A : Type 0} (own : A → List (Sort × Name)) (fixed operations : A → List Span) → ((part : A) (one : Sort × Name) → IsIn one (own part) → Placed (fixed part) (operations part) one) → (all : List A) (one : Sort × Name)
    → IsIn one (flat_map own all) → Placed (flat_map fixed all) (flat_map operations all) one
parts_placed {A = A} own fixed operations each all one k not =
    let part = from_flat own one all k in
    by part.0 part.1 (each part.0 one part.2 not)
  where
    by : (part : A) → IsIn part all → Stands (spot_named one.1) (fixed part) ⊎ Stands (spot_named one.1) (operations part) → Stands (spot_named one.1) (flat_map fixed all) ⊎ Stands (spot_named one.1) (flat_map operations all)
    by part among (inl h) = inl (stands_among fixed all part (spot_named one.1) among h)
    by part among (inr h) = inr (stands_among operations all part (spot_named one.1) among h)

own_placed : (component : Component) (one : Sort × Name) → IsIn one (own_names component) → Placed (component_fixed component) (component_operations component) one
own_placed component one k not = by (in_either one (flat_map spec_own (spec_of component)) _ k)
  where
    spot : Spot
    spot = spot_named one.1

    specs : List Span
    specs = flat_map spec_fixed (spec_of component)

    in_spec : Stands spot specs ⊎ Stands spot (flat_map spec_operations (spec_of component)) → Stands spot (component_fixed component) ⊎ Stands spot (component_operations component)
    in_spec (inl h) = inl (inr (stands_left spot specs _ h))
    in_spec (inr h) = inr (stands_left spot (flat_map spec_operations (spec_of component)) _ h)

    in_body : Stands spot (flat_map item_fixed (body_of component)) ⊎ Stands spot (flat_map item_operations (body_of component)) → Stands spot (component_fixed component) ⊎ Stands spot (component_operations component)
    in_body (inl h) = inl (inr (stands_right spot specs _ h))
    in_body (inr h) = inr (stands_right spot (flat_map spec_operations (spec_of component)) _ h)

    last : IsIn one (flat_map formal_own (formals_of component)) ⊎ IsIn one (flat_map item_own (body_of component)) → Stands spot (component_fixed component) ⊎ Stands spot (component_operations component)
    last (inl h) = let part = from_flat formal_own one (formals_of component) h in absurd (false≢true (sym not ∙ sym (ap is_variable (sorted_is Variable _ one part.2))))
    last (inr h) = in_body (parts_placed item_own item_fixed item_operations item_placed (body_of component) one h not)

    by : IsIn one (flat_map spec_own (spec_of component)) ⊎ IsIn one (flat_map formal_own (formals_of component) ++ flat_map item_own (body_of component)) → Stands spot (component_fixed component) ⊎ Stands spot (component_operations component)
    by (inl h) = in_spec (parts_placed spec_own spec_fixed spec_operations spec_placed (spec_of component) one h not)
    by (inr h) = last (in_either one (flat_map formal_own (formals_of component)) _ h)

-- ---- operations of blocks

ops_stand : (some : List OpItem) (spot : Spot) → IsIn spot (map spot_named (map op_name some)) → Stands spot (map op_item_span some)
ops_stand [] spot k = absurd k
ops_stand (Signed span name signature ∷ some) spot (inl e) = inl e
ops_stand (Typed span name optype ∷ some) spot (inl e) = inl e
ops_stand (one ∷ some) spot (inr k) = inr (ops_stand some spot k)

sems_stand : (some : List Semaphore) (spot : Spot) → IsIn spot (map spot_named (semaphore_names some)) → Stands spot (map (λ (semaphore : Semaphore). semaphore.name.span) some)
sems_stand [] spot k = absurd k
sems_stand (one ∷ some) spot (inl e) = inl e
sems_stand (one ∷ some) spot (inr k) = inr (sems_stand some spot k)

inner_stand : (one : ProcItem) (spot : Spot) → IsIn spot (declared_in.inner_operations one) → Stands spot (inner_operations one)
inner_stand (inner.Op operations) spot k = ops_stand operations.items spot k
inner_stand (inner.Sem declared) spot k = sems_stand declared.semaphores spot k
inner_stand _ spot k = absurd k

block_stand : (block : List ProcItem) (spot : Spot) → IsIn spot (flat_map declared_in.inner_operations block) → Stands spot (block_operations block)
block_stand block spot k = let part = from_flat declared_in.inner_operations spot block k in stands_among inner_operations block part.0 spot part.1 (inner_stand part.0 spot part.2)

item_stand : (one : Item) (spot : Spot) → IsIn spot (inner_spots one) → Stands spot (item_operations one)
item_stand (item.Spec declared) spot k = absurd k
item_stand (item.Statement statement) spot k = absurd k
item_stand (item.Proc proc) spot k = block_stand proc.block spot k
item_stand (item.Procedure procedure) spot k = inr (block_stand procedure.block spot k)
item_stand (item.Process process) spot k = inr (block_stand process.block spot k)
item_stand (item.Final final) spot k = block_stand final.block spot k

-- ---- operations are in the table

not_found : (entries : List (Spot × Operation)) (spans : List Span) (spot : Spot) → keys_of entries ≡ map spot_of spans → Stands spot spans → found_at entries spot ≡ None → ⊥
not_found entries [] spot keys stands none = stands
not_found [] (span ∷ spans) spot keys stands none = none_listed (spot_of span) (map spot_of spans) (sym keys)
not_found (entry ∷ entries) (span ∷ spans) spot keys stands none = by (same_spot spot entry.0) refl (not_found entries spans spot (rest_same entry.0 (spot_of span) (keys_of entries) (map spot_of spans) keys)) stands none
  where
    by : (b : Bool) → same_spot spot entry.0 ≡ b → (Stands spot spans → found_at entries spot ≡ None → ⊥) → Stands spot (span ∷ spans) → cond b (Some entry.1) (found_at entries spot) ≡ None → ⊥
    by true is rest stands none = none-some entry.1 (sym none)
    by false is rest (inl e) none =
        false≢true (sym is ∙ subst (λ at. same_spot spot at ≡ true) (sym (first_same entry.0 (spot_of span) (keys_of entries) (map spot_of spans) keys ∙ e)) (same_spot-refl spot))
    by false is rest (inr k) none = rest k none

-- ---- what names mean

module _ (files : List File) (names : Names) (named : resolved files ≡ Ok names) (distinct : IsDistinct same_spot (map spot_of (flat_map file_names files))) (rises : Rises (flat_map file_names files)) (specs : Specs)
    (facts : Facts) (apart : Apart files) (final : facts ≡ (checked names.uses specs files).facts) where
  abbrev all : List Component
  all = components_in files

  abbrev NoOperation : Spot → Type 0
  NoOperation spot = found_at (tables files facts).operations spot ≡ None

  -- it is an operation's
  abbrev Operated : Spot → Type 0
  Operated spot = NoOperation spot → ⊥

  -- no value that isn't static, and no operation that isn't in the table
  abbrev pub NoShared : Spot → Type 0
  NoShared spot = means_value (info_at facts.infos spot) ≡ true → constant_at facts spot ≡ None → found_at (tables files facts).operations spot ≡ None → ⊥

  operation_there : (component : Component) → IsIn component all → (spot : Spot) → Stands spot (component_operations component) → Operated spot
  operation_there component there spot stands none =
      let shapes = (tables files facts).shapes in
      let heads = heads_of facts shapes all in
      let procs = served_spots facts all in
      not_found (tables files facts).operations (flat_map operation_spans files) spot
      (ap keys_of (table_is facts shapes heads procs files apart) ∙ all_keys facts shapes heads procs files apart)
      (subst (Stands spot) (parts_of_parts (λ (file : File). file.components) component_operations files) (stands_among component_operations all component spot there stands)) none

  no_shared : (spot : Spot) → NoVariable files names named distinct rises specs facts final spot → NoShared spot
  no_shared spot never value constant none = never value constant

  operated : (spot : Spot) → Operated spot → NoShared spot
  operated spot there value constant none = there none

  own_shared : (component : Component) → IsIn component all → (one : Sort × Name) → IsIn one (own_names component) → is_variable one.0 ≡ false → NoShared (spot_named one.1)
  own_shared component there one among not = by (own_placed component one among not)
    where
      by : Stands (spot_named one.1) (component_fixed component) ⊎ Stands (spot_named one.1) (component_operations component) → NoShared (spot_named one.1)
      by (inl h) = no_shared (spot_named one.1) (own_no files names named distinct rises specs facts final component there one among h)
      by (inr h) = operated (spot_named one.1) (operation_there component there (spot_named one.1) h)

  -- ---- in a component

  module _ (here : Component) (there : IsIn here all) where
    abbrev outer : Place
    outer = place_of (program files).components (program files).specs here

    abbrev P : Spot → Decl → Type 0
    P at decl = (is_variable decl.sort ≡ false → NoShared decl.spot) × (is_component decl.sort ≡ true → IsSeen files here decl)

    abbrev All : List Finding → Type 0
    All = exprs.AllFit P

    component_may : (d : Decl) → IsSeen files here d → (component : Component) → IsIn component all → d ≡ decl_of component → (at : Spot) → P at d
    component_may d seen component among is at = (
      λ not. subst (λ (one : Decl). NoShared one.spot) (sym is) (no_shared (component_spot component) (component_no files names named distinct rises specs facts final component among)),
      λ sort. seen,
    )

    own_may : (one : Sort × Name) → IsIn one (own_names here) → (at : Spot) → P at (declaration one.0 one.1.span)
    own_may one among at = (own_shared here there one among, λ component. absurd (false≢true (sym (own_not here one among) ∙ component)))

    shown_may : (shower : Decl) → IsSeen files here shower → (component : Component) → IsIn component all → component_spot component ≡ shower.spot
        → (one : Sort × Name) → IsIn one (flat_map spec_own (spec_of component)) → (at : Spot) → P at (declaration one.0 one.1.span)
    shown_may shower seen component among place one k at =
        let own = in_left one (flat_map spec_own (spec_of component)) _ k in
        (own_shared component among one own, λ is. absurd (false≢true (sym (own_not component one own) ∙ is)))

    inner_variable : (sort : Sort) → is_inner sort ≡ true → is_variable sort ≡ true
    inner_variable Constant h = refl
    inner_variable Variable h = refl
    inner_variable quantifier_sort h = refl
    inner_variable _ h = absurd (false≢true h)

    owned_may : (at : Spot) (sort : Sort) (span : Span) → is_inner sort ≡ true → Anywhere (spot_of span) → P at (declaration sort span)
    owned_may at sort span is owned = (λ not. absurd (false≢true (sym not ∙ inner_variable sort is)), λ component. absurd (false≢true (sym (inner_not sort is) ∙ component)))

    static_may : (at : Spot) (span : Span) → is_constant facts (spot_of span) ≡ true → P at (declaration Constant span)
    static_may at span is = (λ not. absurd (false≢true (sym not)), λ component. absurd (false≢true component))

    operation_may : (at : Spot) (span : Span) → Operated (spot_of span) → P at (declaration operation_sort span)
    operation_may at span is = (λ not. operated (spot_of span) is, λ component. absurd (false≢true component))

    place_fits : (within : Option Spot) → exprs.PlaceFits P (inside outer within)
    place_fits = visible.place_fits files here there P component_may own_may shown_may (λ at d is may. may.1 is)

    each_in : (spots : List Spot) → ((spot : Spot) → IsIn spot spots → Operated spot) → Each Operated spots
    each_in [] are = tt
    each_in (spot ∷ spots) are = (are spot (inl refl), each_in spots (λ one k. are one (inr k)))

    specs_fit : (some : List SpecItem) → All (specs_found some outer no_blocks)
    specs_fit [] = tt
    specs_fit (one ∷ some) =
        exprs.both P (spec_found one (inside outer (spec_within one)) no_blocks) _
        (items.spec_fits P facts Anywhere Operated owned_may static_may operation_may (inside outer (spec_within one)) (place_fits (spec_within one)) one) (specs_fit some)

    item_spot : (one : Item) → IsIn one (body_of here) → (spot : Spot) → IsIn spot (inner_spots one) → Operated spot
    item_spot one among spot k =
        operation_there here there spot (stands_right spot (flat_map spec_operations (spec_of here)) _ (stands_among item_operations (body_of here) one spot among (item_stand one spot k)))

    items_fit : (some : List Item) → ((one : Item) → IsIn one some → IsIn one (body_of here)) → All (items_found some (inside outer None) no_blocks)
    items_fit [] among = tt
    items_fit (one ∷ some) among =
        exprs.both P (item_found one (inside outer (item_within one)) no_blocks) _
        (items.item_fits P facts Anywhere Operated owned_may static_may operation_may (inside outer (item_within one)) (place_fits (item_within one)) one
        (all_fit (λ spot. spot) (item_variables facts one)) (each_in (inner_spots one) (item_spot one (among one (inl refl)))))
        (items_fit some (λ other k. among other (inr k)))

    imports_fit : (some : List Name) → ((name : Name) → IsIn name some → IsIn name (imports_of here)) → All (imports_found (program files).components some)
    imports_fit [] among = tt
    imports_fit (name ∷ some) among =
        exprs.both P (reading (option_map Declared (declared_as (program files).components name.text)) name.span ∷ []) _ (by (declared_as (program files).components name.text) refl)
        (imports_fit some (λ other k. among other (inr k)))
      where
        by : (found : Option Decl) → declared_as (program files).components name.text ≡ found → All (reading (option_map Declared found) name.span ∷ [])
        by None is = (tt, tt)
        by (Some d) is =
            let one = declared_component files name.text d is in
            (component_may d (inr (record { name = name; among = among name (inl refl); is = is })) one.0 one.1 (sym one.2) (spot_of name.span), tt)

    component_fits : All (component_found (program files).components (program files).specs here)
    component_fits =
        exprs.both P (own_twice here) _ (twice.own_twice_fit P here)
        (exprs.both P (imports_found (program files).components (imports_of here)) _ (imports_fit (imports_of here) (λ name k. k))
        (exprs.both P (served_twice (body_of here) outer no_blocks []) _ (twice.served_twice_fit P (body_of here) outer no_blocks [])
        (exprs.both P (specs_found (spec_of here) outer no_blocks) _ (specs_fit (spec_of here))
        (exprs.both P (formals_found (map formal_read (formals_of here)) (inside outer None) no_blocks) _
        (items.formals_fit P facts Anywhere Operated owned_may static_may operation_may (inside outer None) (place_fits None) (formals_of here))
        (items_fit (body_of here) (λ one k. k))))))

  -- each name that is used in a component
  pub used_sort : (component : Component) → IsIn component (components_in files) → (spot : Spot) (decl : Decl)
      → IsIn (Use spot (Declared decl)) (component_found (program files).components (program files).specs component) → is_variable decl.sort ≡ false → NoShared decl.spot
  used_sort component there spot decl k =
      (each_at (exprs.FindingFits (P component there)) (component_found (program files).components (program files).specs component) (component_fits component there) (Use spot (Declared decl)) k).0

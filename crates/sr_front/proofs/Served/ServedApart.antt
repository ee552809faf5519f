-- No two items of a program serve one operation, and the name of a proc means nothing that is declared in a block.
use Rattle.std.proofs.Common.{◌≡◌, ◌⊎◌, ℕ, zero, suc, Bool, true, false, List, [], ◌∷◌, ◌++◌, Option, None, Some, Ok, map, flat_map, get_or, refl, sym, ap, ◌∙◌, subst, inl, inr, is_some, arith}
use Rattle.std.specs.Prelude.{All}
use Rattle.std.specs.List.{AllByRecursion, IsDistinct}
use Rattle.std.proofs.lemmas.Bool.{false≢true}
use Rattle.std.proofs.lemmas.List.{map-append}
use Rattle.sr_check.specs.Owners.{Declared, Owned, block_owned, component_at, component_owned, declared_operations, file_owned, inner_owned, item_owned, ops_owned, sems_owned, spec_item_owned}
use Rattle.sr_check.specs.Servicing.{AllServiceOwn, OneOwner, Served, ServesShared, component_served as component_meant, item_served as item_meant, meant_at}
use Rattle.sr_check_expr.specs.declared.facts.Facts.{Facts}
use Rattle.sr_check_expr.specs.Naming.{decl_of}
use Rattle.sr_names.proofs.LinkLemmas.{same_spot-eq}
use Rattle.sr_names.specs.declared.meaning.Decl.{Decl}
use Rattle.sr_names.specs.declared.meaning.Meaning.{Meaning}
use Rattle.sr_names.specs.declared.meaning.Meaning.TheVariants.{Predefined, Declared as DeclaredAs}
use Rattle.sr_names.specs.declared.spot.Spot.{Spot}
use Rattle.sr_names.specs.Searches.{At}
use Rattle.sr_names.specs.Spots.{same_spot, spot_of}
use Rattle.sr_names.specs.Uses.{meaning_at}
use Rattle.sr_order.specs.Names.{file_names}
use Rattle.sr_order.specs.Spans.{block_operations, component_operations, inner_operations, item_operations, op_item_span, operation_spans, spec_operations}
use Rattle.sr_check_expr.specs.Meanings.{meant_by}
use Rattle.sr_outline.specs.Numbers.{component_served, item_served}
use Rattle.sr_scope.specs.declared.program.Names.{Names}
use Rattle.sr_scope.specs.Resolved.{resolved}
use Rattle.sr_scope.specs.Served.{AllMeanOperations, inner_operations_of, item_serves, ItemMeansOperation, locals_in, locals_of, MeansOperation}
use Rattle.sr_scope.specs.Uses.{IsIn}
use Rattle.sr_scope.proofs.Findings.{in_either, in_flat}
use Rattle.sr_scope.proofs.Operations.{from_flat, from_map, means_operation, means_shared}
use Rattle.sr_scope.proofs.Served.{served_once}
use Rattle.sr_tables.specs.Parts.{components_in}
use Rattle.sr_tree.specs.declared.component.Component.{Component}
use Rattle.sr_tree.specs.declared.component.File.{File}
use Rattle.sr_tree.specs.declared.component.Item.{Item}
use Rattle.sr_tree.specs.declared.component.Item.TheVariants as item
use Rattle.sr_tree.specs.declared.component.Proc.{Proc}
use Rattle.sr_tree.specs.declared.component.ProcItem.{ProcItem}
use Rattle.sr_tree.specs.declared.component.ProcItem.TheVariants as inner
use Rattle.sr_tree.specs.declared.component.SpecItem.{SpecItem}
use Rattle.sr_tree.specs.declared.component.SpecItem.TheVariants as spec
use Rattle.sr_tree.specs.declared.declaration.OpItem.{OpItem}
use Rattle.sr_tree.specs.declared.declaration.OpItem.TheVariants.{Signed, Typed}
use Rattle.sr_tree.specs.declared.declaration.Semaphore.{Semaphore}
use Rattle.sr_tree.specs.Parts.{body_of, spec_of}
use Rattle.sr_value.specs.declared.place.Span.{Span}
use Rattle.sr_front.proofs.Known.Declared.{Apart, one_component}
use Rattle.sr_front.proofs.Lists.Distinct.{one_place}
use Rattle.sr_front.proofs.Lists.Lists.{in_mapped}
use Rattle.sr_front.proofs.Lists.Members.{Among, all_at, among_parts, at_contained, at_get, at_map, at_read, part_of}
use Rattle.sr_front.proofs.Served.Services.{meant_is, serves_own, services_own}

-- ---- lists

is_in : {A : Type 0} (items : List A) (place : ℕ) (one : A) → At items place one → IsIn one items
is_in [] place one h = absurd h
is_in (first ∷ items) zero one h = inl h
is_in (first ∷ items) (suc place) one h = inr (is_in items place one h)

among_in : {A : Type 0} (items : List A) (one : A) → IsIn one items → Among items one
among_in [] one h = absurd h
among_in (first ∷ items) one (inl h) = (0, h)
among_in (first ∷ items) one (inr h) = let more = among_in items one h in (suc more.0, more.1)

-- where a part stands, there the whole stands
in_spots : {A : Type 0} (spans : A → List Span) (items : List A) (one : A) (spot : Spot) → IsIn one items → IsIn spot (map spot_of (spans one)) → IsIn spot (map spot_of (flat_map spans items))
in_spots spans items one spot among h =
    let at = from_map spot (spans one) h in
    subst (λ other. IsIn other (map spot_of (flat_map spans items))) at.2 (in_mapped spot_of (flat_map spans items) at.0 (in_flat spans one at.0 items among at.1))

flat_same : {A B : Type 0} (f g : A → List B) → ((one : A) → f one ≡ g one) → (items : List A) → flat_map f items ≡ flat_map g items
flat_same f g same [] = refl
flat_same f g same (one ∷ items) = λ i. same one i ++ flat_same f g same items i

-- ---- distinct spots

all_else : (spot : Spot) (xs ys : List Spot) → AllByRecursion (λ at. same_spot spot at ≡ false) xs → (IsIn spot ys → ⊥) → AllByRecursion (λ at. same_spot spot at ≡ false) (xs ++ ys)
all_else spot [] [] all apart = tt
all_else spot [] (at ∷ ys) all apart = (by (same_spot spot at) refl, all_else spot [] ys tt (λ h. apart (inr h)))
  where
    by : (b : Bool) → same_spot spot at ≡ b → same_spot spot at ≡ false
    by false e = e
    by true e = absurd (apart (inl (sym (same_spot-eq spot at e))))
all_else spot (at ∷ xs) ys all apart = (all.0, all_else spot xs ys all.1 apart)

distinct_both : (xs ys : List Spot) → IsDistinct same_spot xs → IsDistinct same_spot ys → ((spot : Spot) → IsIn spot xs → IsIn spot ys → ⊥) → IsDistinct same_spot (xs ++ ys)
unfolding IsDistinct
distinct_both [] ys p q apart = q
distinct_both (spot ∷ xs) ys p q apart = (all_else spot xs ys p.0 (apart spot (inl refl)), distinct_both xs ys p.1 q (λ at h. apart at (inr h)))

-- the spots of several things, where no two of these have one in common
distinct_parts : {A : Type 0} (spots : A → List Spot) (items : List A) → ((one : A) → IsIn one items → IsDistinct same_spot (spots one))
    → ((a b : ℕ) (one other : A) (spot : Spot) → At items a one → At items b other → IsIn spot (spots one) → IsIn spot (spots other) → a ≡ b)
    → IsDistinct same_spot (flat_map spots items)
unfolding IsDistinct
distinct_parts spots [] each cross = tt
distinct_parts spots (one ∷ items) each cross =
    distinct_both (spots one) (flat_map spots items) (each one (inl refl))
    (distinct_parts spots items (λ other h. each other (inr h)) (λ a b first second spot p q h k. let same = cross (suc a) (suc b) first second spot p q h k in omega (arith, same)))
    (λ spot h k.
    let part = from_flat spots spot items k in
    let there = among_in items part.0 part.1 in
    let same = cross 0 (suc there.0) one part.0 spot refl there.1 h part.2 in
    absurd (omega (arith, same)))

-- ---- where operations are declared

abbrev spot_owned : Owned → Spot
spot_owned owned = owned.0

ops_spots : (component : Spot) (is_local : Bool) (items : List OpItem) → map spot_owned (ops_owned component is_local items) ≡ map spot_of (map op_item_span items)
ops_spots component is_local [] = refl
ops_spots component is_local (Signed span name signature ∷ items) = ap (λ more. spot_of name.span ∷ more) (ops_spots component is_local items)
ops_spots component is_local (Typed span name optype ∷ items) = ap (λ more. spot_of name.span ∷ more) (ops_spots component is_local items)

sems_spots : (component : Spot) (is_local : Bool) (semaphores : List Semaphore)
    → map spot_owned (sems_owned component is_local semaphores) ≡ map spot_of (map (λ semaphore. semaphore.name.span) semaphores)
sems_spots component is_local [] = refl
sems_spots component is_local (semaphore ∷ semaphores) = ap (λ more. spot_of semaphore.name.span ∷ more) (sems_spots component is_local semaphores)

spec_spots : (component : Spot) (one : SpecItem) → map spot_owned (spec_item_owned component one) ≡ map spot_of (spec_operations one)
spec_spots component (spec.Op operations) = ops_spots component false operations.items
spec_spots component (spec.Sem semaphores) = sems_spots component false semaphores.semaphores
spec_spots component _ = refl

inner_spots : (component : Spot) (one : ProcItem) → map spot_owned (inner_owned component one) ≡ map spot_of (inner_operations one)
inner_spots component (inner.Op operations) = ops_spots component true operations.items
inner_spots component (inner.Sem semaphores) = sems_spots component true semaphores.semaphores
inner_spots component _ = refl

-- told of the parts it holds of the whole
whole_spots : {A : Type 0} (owned : A → List Owned) (spans : A → List Span) → ((one : A) → map spot_owned (owned one) ≡ map spot_of (spans one))
    → (items : List A) → map spot_owned (flat_map owned items) ≡ map spot_of (flat_map spans items)
whole_spots owned spans each [] = refl
whole_spots owned spans each (one ∷ items) =
    map-append spot_owned (owned one) (flat_map owned items)
    ∙ (λ i. each one i ++ whole_spots owned spans each items i)
    ∙ sym (map-append spot_of (spans one) (flat_map spans items))

block_spots : (component : Spot) (block : List ProcItem) → map spot_owned (block_owned component block) ≡ map spot_of (block_operations block)
block_spots component block = whole_spots (inner_owned component) inner_operations (inner_spots component) block

item_spots : (component : Spot) (one : Item) → map spot_owned (item_owned component one) ≡ map spot_of (item_operations one)
item_spots component (item.Spec declared) = spec_spots component declared
item_spots component (item.Proc proc) = block_spots component proc.block
item_spots component (item.Procedure procedure) = ap (λ more. spot_of procedure.name.span ∷ more) (block_spots component procedure.block)
item_spots component (item.Process process) = ap (λ more. spot_of process.name.span ∷ more) (block_spots component process.block)
item_spots component (item.Final final) = block_spots component final.block
item_spots component (item.Statement statement) = refl

component_spots : (component : Component) → map spot_owned (component_owned component) ≡ map spot_of (component_operations component)
component_spots component =
    let at = component_at component in
    map-append spot_owned (flat_map (spec_item_owned at) (spec_of component)) (flat_map (item_owned at) (body_of component))
    ∙ (λ i. whole_spots (spec_item_owned at) spec_operations (spec_spots at) (spec_of component) i ++ whole_spots (item_owned at) item_operations (item_spots at) (body_of component) i)
    ∙ sym (map-append spot_of (flat_map spec_operations (spec_of component)) (flat_map item_operations (body_of component)))

operation_spots : (files : List File) → map spot_owned (declared_operations files) ≡ map spot_of (flat_map operation_spans files)
operation_spots files = whole_spots file_owned operation_spans (λ file. whole_spots component_owned component_operations component_spots file.components) files

owned_in : (files : List File) (spot component : Spot) (is_local : Bool) → Declared files spot component is_local → IsIn (spot, (component, is_local)) (declared_operations files)
owned_in files spot component is_local h =
    let among = at_contained (declared_operations files) (spot, (component, is_local)) h in
    is_in (declared_operations files) among.0 (spot, (component, is_local)) among.1

-- an operation that is declared stands among those of the files
declared_there : (files : List File) (spot component : Spot) (is_local : Bool) → Declared files spot component is_local → IsIn spot (map spot_of (flat_map operation_spans files))
declared_there files spot component is_local h =
    subst (IsIn spot) (operation_spots files) (in_mapped spot_owned (declared_operations files) (spot, (component, is_local)) (owned_in files spot component is_local h))

-- where no two operations stand at one spot each is declared once
pub one_owner : (files : List File) → IsDistinct same_spot (map spot_of (flat_map operation_spans files)) → OneOwner files
one_owner files distinct spot a b k l h m =
    let all = declared_operations files in
    let first = at_contained all (spot, (a, k)) h in
    let second = at_contained all (spot, (b, l)) m in
    let same_place : first.0 ≡ second.0 =
    one_place (map spot_owned all) first.0 second.0 spot (subst (IsDistinct same_spot) (sym (operation_spots files)) distinct)
    (at_map spot_owned all first.0 (spot, (a, k)) first.1) (at_map spot_owned all second.0 (spot, (b, l)) second.1) in
    let same : Some (spot, (a, k)) ≡ Some (spot, (b, l)) =
    sym (at_get all first.0 (spot, (a, k)) first.1) ∙ at_get all first.0 (spot, (b, l)) (subst (λ place. At all place (spot, (b, l))) (sym same_place) second.1) in
    (ap (λ o. owner_in o) same, ap (λ o. is_local_in o) same)
  where
    owner_in : Option Owned → Spot
    owner_in None = spot
    owner_in (Some owned) = owned.1.0

    is_local_in : Option Owned → Bool
    is_local_in None = true
    is_local_in (Some owned) = owned.1.1

-- ---- operations in blocks

-- what a spec declares is in no block
ops_shared : (component at : Spot) (spot : Spot) (items : List OpItem) → IsIn (spot, (at, true)) (ops_owned component false items) → ⊥
ops_shared component at spot [] h = h
ops_shared component at spot (one ∷ items) (inl e) = false≢true (ap (λ (owned : Owned). owned.1.1) e)
ops_shared component at spot (one ∷ items) (inr h) = ops_shared component at spot items h

sems_shared : (component at : Spot) (spot : Spot) (semaphores : List Semaphore) → IsIn (spot, (at, true)) (sems_owned component false semaphores) → ⊥
sems_shared component at spot [] h = h
sems_shared component at spot (one ∷ semaphores) (inl e) = false≢true (ap (λ (owned : Owned). owned.1.1) e)
sems_shared component at spot (one ∷ semaphores) (inr h) = sems_shared component at spot semaphores h

spec_shared : (component at : Spot) (spot : Spot) (one : SpecItem) → IsIn (spot, (at, true)) (spec_item_owned component one) → ⊥
spec_shared component at spot (spec.Op operations) h = ops_shared component at spot operations.items h
spec_shared component at spot (spec.Sem semaphores) h = sems_shared component at spot semaphores.semaphores h
spec_shared component at spot _ h = h

block_local : (component at : Spot) (spot : Spot) (block : List ProcItem) → IsIn (spot, (at, true)) (block_owned component block) → IsIn spot (map spot_of (block_operations block))
block_local component at spot block h = subst (IsIn spot) (block_spots component block) (in_mapped spot_owned (block_owned component block) (spot, (at, true)) h)

item_local : (component at : Spot) (spot : Spot) (one : Item) → IsIn (spot, (at, true)) (item_owned component one) → IsIn spot (map spot_of (inner_operations_of one))
item_local component at spot (item.Spec declared) h = absurd (spec_shared component at spot declared h)
item_local component at spot (item.Proc proc) h = block_local component at spot proc.block h
item_local component at spot (item.Procedure procedure) (inl e) = absurd (false≢true (ap (λ (owned : Owned). owned.1.1) e))
item_local component at spot (item.Procedure procedure) (inr h) = block_local component at spot procedure.block h
item_local component at spot (item.Process process) (inl e) = absurd (false≢true (ap (λ (owned : Owned). owned.1.1) e))
item_local component at spot (item.Process process) (inr h) = block_local component at spot process.block h
item_local component at spot (item.Final final) h = block_local component at spot final.block h
item_local component at spot (item.Statement statement) h = absurd h

component_local : (at : Spot) (spot : Spot) (component : Component) → IsIn (spot, (at, true)) (component_owned component) → IsIn spot (map spot_of (locals_of component))
component_local at spot component h = by (in_either (spot, (at, true)) (flat_map (spec_item_owned here) (spec_of component)) (flat_map (item_owned here) (body_of component)) h)
  where
    here : Spot
    here = component_at component

    by : IsIn (spot, (at, true)) (flat_map (spec_item_owned here) (spec_of component)) ⊎ IsIn (spot, (at, true)) (flat_map (item_owned here) (body_of component))
        → IsIn spot (map spot_of (locals_of component))
    by (inl k) = let part = from_flat (spec_item_owned here) (spot, (at, true)) (spec_of component) k in absurd (spec_shared here at spot part.0 part.2)
    by (inr k) =
        let part = from_flat (item_owned here) (spot, (at, true)) (body_of component) k in
        in_spots inner_operations_of (body_of component) part.0 spot part.1 (item_local here at spot part.0 part.2)

declared_local : (files : List File) (spot component : Spot) → Declared files spot component true → IsIn spot (map spot_of (locals_in files))
declared_local files spot component h =
    let in_file = from_flat file_owned (spot, (component, true)) files (owned_in files spot component true h) in
    let in_component = from_flat component_owned (spot, (component, true)) in_file.0.components in_file.2 in
    in_spots (λ (file : File). flat_map locals_of file.components) files in_file.0 spot in_file.1
    (in_spots locals_of in_file.0.components in_component.0 spot in_component.1 (component_local component spot in_component.0 in_component.2))

-- ---- procs

-- what declares a name is what it means
declared_means : (found : Option Meaning) (decl : Decl) → decl_of found ≡ Some decl → found ≡ Some (DeclaredAs decl)
declared_means None decl e = absurd (false≢true (ap is_some e))
declared_means (Some (Predefined name)) decl e = absurd (false≢true (ap is_some e))
declared_means (Some (DeclaredAs other)) decl e = ap (λ found. option_as other found) e
  where
    option_as : Decl → Option Decl → Option Meaning
    option_as other None = Some (DeclaredAs other)
    option_as other (Some one) = Some (DeclaredAs one)

module _ (files : List File) (names : Names) (accepted : resolved files ≡ Ok names) (distinct : IsDistinct same_spot (map spot_of (flat_map file_names files))) where
  -- the names of the procs of a component mean nothing that is declared in a block
  component_shared : (component : Component) → IsIn component (components_in files) → ServesShared names.uses files component
  component_shared component there decl served local =
      let among = at_contained (component_meant names.uses component) (Some decl) served in
      let part = part_of (item_meant names.uses) (body_of component) among.0 (Some decl) among.1 in
      by part.1 (is_in (body_of component) part.0 part.1 part.2) part.3
    where
      by : (one : Item) → IsIn one (body_of component) → Among (item_meant names.uses one) (Some decl) → ⊥
      by (item.Proc proc) here (zero, is) =
          means_shared files names accepted distinct component there proc here decl (declared_means (meaning_at names.uses (spot_of proc.name.span)) decl is)
          (declared_local files decl.spot (component_at component) local)
      by (item.Proc proc) here (suc k, is) = is
      by _ here (k, is) = is

  pub all_serve_shared : All (ServesShared names.uses files) (components_in files)
  all_serve_shared k d h =
      component_shared (get_or (components_in files) k d) (is_in (components_in files) k (get_or (components_in files) k d) (at_read (components_in files) k d h))

  module _ (known facts : Facts) (same : facts.uses ≡ names.uses) (services : AllServiceOwn names.uses files known) where
    -- the name of a proc means an operation
    proc_means : (number place : ℕ) (component : Component) (proc : Proc) → At (components_in files) number component → At (body_of component) place (item.Proc proc)
        → MeansOperation names.uses proc.name (meant_by facts proc.name)
    proc_means number place component proc there here =
        let own = services_own names.uses files known facts same services number component there in
        let among : Among (component_meant names.uses component) (meant_at names.uses proc.name.span) =
        among_parts (item_meant names.uses) (body_of component) place (item.Proc proc) (meant_at names.uses proc.name.span) here (0, refl) in
        let serving = all_at (Served files known (component_at component) own.procs) (component_meant names.uses component) among.0 (meant_at names.uses proc.name.span) own.by_procs among.1 in
        let decl = serving.own.decl in
        let means : meaning_at names.uses (spot_of proc.name.span) ≡ Some (DeclaredAs decl) = declared_means (meaning_at names.uses (spot_of proc.name.span)) decl serving.own.means in (
          decl,
          means,
          means_operation files names accepted distinct component (is_in (components_in files) number component there) proc (is_in (body_of component) place (item.Proc proc) here) decl means
              (declared_there files decl.spot (component_at component) serving.is_local serving.own.declared),
          sym (meant_is names.uses facts proc.name decl same serving.own.means),
        )

    item_means : (number place : ℕ) (component : Component) (one : Item) → At (components_in files) number component → At (body_of component) place one
        → ItemMeansOperation names.uses (meant_by facts) one
    item_means number place component (item.Proc proc) there here = proc_means number place component proc there here
    item_means number place component _ there here = tt

    all_mean : (number : ℕ) (component : Component) → At (components_in files) number component → (items : List Item)
        → ((one : Item) → IsIn one items → IsIn one (body_of component)) → AllMeanOperations names.uses (meant_by facts) items
    all_mean number component there [] among = tt
    all_mean number component there (one ∷ items) among =
        let here = among_in (body_of component) one (among one (inl refl)) in
        (item_means number here.0 component one there here.1, all_mean number component there items (λ other h. among other (inr h)))

    item_same : (one : Item) → item_serves (meant_by facts) one ≡ item_served facts one
    item_same (item.Proc proc) = refl
    item_same _ = refl

    -- no two items of a component serve one operation
    component_apart : (component : Component) → IsIn component (components_in files) → IsDistinct same_spot (component_served facts component)
    component_apart component there =
        let at = among_in (components_in files) component there in
        subst (IsDistinct same_spot) (flat_same (item_serves (meant_by facts)) (item_served facts) item_same (body_of component))
        (served_once files names (meant_by facts) component accepted distinct there (all_mean at.0 component at.1 (body_of component) (λ one h. h)))

    -- nor do two of a program
    pub served_apart : Apart files → IsDistinct same_spot (flat_map (component_served facts) (components_in files))
    served_apart apart = distinct_parts (component_served facts) (components_in files) component_apart one_serves
      where
        one_serves : (a b : ℕ) (one other : Component) (spot : Spot) → At (components_in files) a one → At (components_in files) b other
            → IsIn spot (component_served facts one) → IsIn spot (component_served facts other) → a ≡ b
        one_serves a b one other spot p q h k =
            let first = serves_own names.uses files known facts same services a one spot p (among_in (component_served facts one) spot h) in
            let second = serves_own names.uses files known facts same services b other spot q (among_in (component_served facts other) spot k) in
            one_component files a b one other apart p q
            (one_owner files apart.operations spot (component_at one) (component_at other) first.0 second.0 first.1 second.1).0

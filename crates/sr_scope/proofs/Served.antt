-- In a program in which no rule of names is broken no two items of a component serve one operation.
use Rattle.std.proofs.Common.{◌≡◌, ◌⊎◌, ℕ, ◌≤◌, Bool, true, false, List, [], ◌∷◌, ◌++◌, Option, None, Some, Ok, refl, ap, sym, ◌∙◌, subst, inl, inr, map, flat_map, if◌then◌else◌, arith}
use Rattle.std.specs.List.{IsDistinct, AllByRecursion}
use Rattle.std.proofs.lemmas.Bool.{false≢true}
use Rattle.sr_names.proofs.LinkLemmas.{same_spot-refl, same_spot-eq}
use Rattle.sr_names.specs.declared.finding.Finding.{Finding}
use Rattle.sr_names.specs.declared.meaning.Decl.{Decl}
use Rattle.sr_names.specs.declared.meaning.Meaning.{Meaning}
use Rattle.sr_names.specs.declared.meaning.Meaning.TheVariants.{Declared}
use Rattle.sr_names.specs.declared.meaning.Sort.{Sort}
use Rattle.sr_names.specs.declared.meaning.Sort.TheVariants.{Operation}
use Rattle.sr_names.specs.declared.place.Blocks.{Blocks}
use Rattle.sr_names.specs.declared.place.Place.{Place}
use Rattle.sr_names.specs.declared.spot.Spot.{Spot}
use Rattle.sr_names.specs.Entries.{Entries}
use Rattle.sr_names.specs.Readings.{declaration, reading}
use Rattle.sr_names.specs.Scopes.{no_blocks, denotes}
use Rattle.sr_names.specs.Spots.{same_spot, spot_of}
use Rattle.sr_names.specs.Tables.{declared_as}
use Rattle.sr_names.specs.Uses.{meaning_at}
use Rattle.sr_tree.specs.declared.component.Component.{Component}
use Rattle.sr_tree.specs.declared.component.Component.TheVariants.{Resource, SplitResource, Global}
use Rattle.sr_tree.specs.declared.component.File.{File}
use Rattle.sr_tree.specs.declared.component.Item.{Item}
use Rattle.sr_tree.specs.declared.component.Item.TheVariants as item
use Rattle.sr_tree.specs.declared.component.Proc.{Proc}
use Rattle.sr_tree.specs.declared.name.Name.{Name}
use Rattle.sr_tree.specs.Parts.{spec_of, formals_of, body_of}
use Rattle.sr_order.specs.Names.{file_names}
use Rattle.sr_scope.specs.declared.program.Names.{Names}
use Rattle.sr_scope.specs.Components.{sort_of, own_twice, imports_of, imports_found, place_of, component_found}
use Rattle.sr_scope.specs.Declares.{name_declared, name_twice}
use Rattle.sr_scope.specs.Items.{inside, item_found, item_within, items_found, is_operation, name_served, name_served_twice, served_name, served_twice, serves, specs_found}
use Rattle.sr_scope.specs.Resolved.{findings, program, resolved}
use Rattle.sr_scope.specs.Served.{item_serves, MeansOperation, ItemMeansOperation, AllMeanOperations}
use Rattle.sr_scope.specs.Types.{formal_read, formals_found}
use Rattle.sr_scope.specs.Uses.{IsIn}
use Rattle.sr_scope.proofs.Among.{names_at, one_if, at_most_one}
use Rattle.sr_scope.proofs.Findings.{ErrorFree, is_use, all_at, all_uses, component_error_free, in_either, in_flat, in_left, in_right, in_program, error_free_after, error_free_first, use_means}
use Rattle.sr_scope.proofs.FoundFiles.{one_meaning}
use Rattle.sr_scope.proofs.Meant.{IsComponent, IsDeclared, means, own_meaning}
use Rattle.sr_scope.proofs.OwnNames.{names_fewer, names_in, names_of, own_is, own_names, own_twice_is, spans_of, item_own, formal_own, spec_own}
use Rattle.sr_scope.proofs.Tables.{all_twice, each_declared, none_before, something, twice_new}

-- ---- names that are declared at one spot

pub counted_name : (spot : Spot) (names : List (Sort × Name)) (one : Sort × Name) → IsIn one names → spot_of one.1.span ≡ spot → 1 ≤ names_at spot (spans_of names)
counted_name spot [] one among at = absurd among
counted_name spot (name ∷ names) one (inl is) at =
    let here : same_spot spot (spot_of name.1.span) ≡ true =
    ap (λ (other : Sort × Name). same_spot spot (spot_of other.1.span)) is ∙ ap (same_spot spot) at ∙ same_spot-refl spot in
    omega (arith, ap one_if here)
counted_name spot (name ∷ names) one (inr among) at = omega (arith, counted_name spot names one among at)

-- where at most one stands at a spot these are one
pub one_name : (spot : Spot) (names : List (Sort × Name)) → names_at spot (spans_of names) ≤ 1 → (a b : Sort × Name) → IsIn a names → IsIn b names
    → spot_of a.1.span ≡ spot → spot_of b.1.span ≡ spot → a ≡ b
one_name spot [] most a b first second here there = absurd first
one_name spot (name ∷ names) most a b (inl first) (inl second) here there = sym first ∙ second
one_name spot (name ∷ names) most a b (inl first) (inr second) here there =
    let one : same_spot spot (spot_of name.1.span) ≡ true =
    ap (λ (other : Sort × Name). same_spot spot (spot_of other.1.span)) first ∙ ap (same_spot spot) here ∙ same_spot-refl spot in
    absurd (omega (arith, most, ap one_if one, counted_name spot names b second there))
one_name spot (name ∷ names) most a b (inr first) (inl second) here there =
    let one : same_spot spot (spot_of name.1.span) ≡ true =
    ap (λ (other : Sort × Name). same_spot spot (spot_of other.1.span)) second ∙ ap (same_spot spot) there ∙ same_spot-refl spot in
    absurd (omega (arith, most, ap one_if one, counted_name spot names a first here))
one_name spot (name ∷ names) most a b (inr first) (inr second) here there = one_name spot names (omega (arith, most)) a b first second here there

-- ---- names that items serve

module _ (place : Place) where
  abbrev after : Option Name → Entries → Entries
  after name served = name_served place no_blocks name served

  -- a name that isn't served then wasn't before
  not_before : (name : Option Name) (served : Entries) (text : List ℕ) → declared_as (after name served) text ≡ None → declared_as served text ≡ None
  not_before None served text e = e
  not_before (Some name) served text e = by (serves place no_blocks name) e
    where
      by : (b : Bool) → declared_as (if b then name_declared Operation name served else served) text ≡ None → declared_as served text ≡ None
      by true h = none_before served name.text text (declaration Operation name.span) h
      by false h = h

  served_new : (name : Name) (served : Entries) → serves place no_blocks name ≡ true → ErrorFree (name_served_twice place no_blocks (Some name) served) → declared_as served name.text ≡ None
  served_new name served serving error_free =
      twice_new Operation name served (subst (λ b. ErrorFree (if b then name_twice Operation name served else [])) serving error_free)

  -- a name that is served was not served before
  not_served : (items : List Item) (served : Entries) → ErrorFree (served_twice items place no_blocks served)
      → (name : Name) → IsIn (Some name) (map served_name items) → serves place no_blocks name ≡ true → declared_as served name.text ≡ None
  not_served [] served error_free name among serving = absurd among
  not_served (one ∷ items) served error_free name (inl is) serving =
      served_new name served serving
      (subst (λ other. ErrorFree (name_served_twice place no_blocks other served)) is
      (error_free_first (name_served_twice place no_blocks (served_name one) served) _ error_free))
  not_served (one ∷ items) served error_free name (inr among) serving =
      not_before (served_name one) served name.text
      (not_served items (after (served_name one) served) (error_free_after (name_served_twice place no_blocks (served_name one) served) _ error_free) name among serving)

  -- a name that an item serves is no name that a later one serves
  differs : (one : Item) (items : List Item) (served : Entries) → ErrorFree (served_twice (one ∷ items) place no_blocks served)
      → (name : Name) → served_name one ≡ Some name → serves place no_blocks name ≡ true
      → (other : Name) → IsIn (Some other) (map served_name items) → serves place no_blocks other ≡ true → name.text ≡ other.text → ⊥
  differs one items served error_free name is serving other among also same =
      something served name.text (declaration Operation name.span)
      (subst (λ b. declared_as (if b then name_declared Operation name served else served) name.text ≡ None) serving
      (subst (λ what. declared_as (after what served) name.text ≡ None) is
      (subst (λ text. declared_as (after (served_name one) served) text ≡ None) (sym same)
      (not_served items (after (served_name one) served) (error_free_after (name_served_twice place no_blocks (served_name one) served) _ error_free) other among also))))

  -- ---- what they mean

  -- what an item serves by a name is an operation that is declared under that name
  record Operational (names : List (Sort × Name)) (name : Name) (spot : Spot) : Type 0 where
    serving : serves place no_blocks name ≡ true
    other : Name
    among : IsIn (Operation, other) names
    stands : spot_of other.span ≡ spot
    spelled : name.text ≡ other.text

  data Service (names : List (Sort × Name)) (meant : Name → Spot) (one : Item) : Type 0 where
    no_service : item_serves meant one ≡ [] → Service names meant one
    service : (name : Name) (spot : Spot) → served_name one ≡ Some name → item_serves meant one ≡ spot ∷ [] → Operational names name spot → Service names meant one

  module _ (names : List (Sort × Name)) (meant : Name → Spot) (most : (spot : Spot) → names_at spot (spans_of names) ≤ 1) where
    -- operations at one spot have one name
    same_text : (name other : Name) (spot : Spot) → Operational names name spot → Operational names other spot → name.text ≡ other.text
    same_text name other spot a b =
        a.spelled
        ∙ ap (λ (one : Sort × Name). one.1.text) (one_name spot names (most spot) (Operation, a.other) (Operation, b.other) a.among b.among a.stands b.stands)
        ∙ sym b.spelled

    apart : (name : Name) (spot : Spot) → Operational names name spot → (items : List Item) → AllByRecursion (Service names meant) items
        → ((other : Name) → IsIn (Some other) (map served_name items) → serves place no_blocks other ≡ true → name.text ≡ other.text → ⊥)
        → AllByRecursion (λ at. same_spot spot at ≡ false) (flat_map (item_serves meant) items)
    apart name spot here [] all different = tt
    apart name spot here (one ∷ items) all different = by all.0 (apart name spot here items all.1 (λ other among. different other (inr among)))
      where
        other_spot : (other : Name) (at : Spot) → served_name one ≡ Some other → Operational names other at → (b : Bool) → same_spot spot at ≡ b → same_spot spot at ≡ false
        other_spot other at is there false e = e
        other_spot other at is there true e =
            absurd (different other (inl is) there.serving
            (same_text name other spot here (subst (Operational names other) (sym (same_spot-eq spot at e)) there)))

        by : Service names meant one → AllByRecursion (λ at. same_spot spot at ≡ false) (flat_map (item_serves meant) items)
            → AllByRecursion (λ at. same_spot spot at ≡ false) (item_serves meant one ++ flat_map (item_serves meant) items)
        by (no_service is) rest = subst (λ spots. AllByRecursion (λ at. same_spot spot at ≡ false) (spots ++ flat_map (item_serves meant) items)) (sym is) rest
        by (service other at is serving there) rest =
            subst (λ spots. AllByRecursion (λ at. same_spot spot at ≡ false) (spots ++ flat_map (item_serves meant) items)) (sym serving)
            (other_spot other at is there (same_spot spot at) refl, rest)

    distinct_services : (items : List Item) (served : Entries) → ErrorFree (served_twice items place no_blocks served) → AllByRecursion (Service names meant) items
        → IsDistinct same_spot (flat_map (item_serves meant) items)
    unfolding IsDistinct
    distinct_services [] served error_free all = tt
    distinct_services (one ∷ items) served error_free all =
        by all.0 (distinct_services items (after (served_name one) served) (error_free_after (name_served_twice place no_blocks (served_name one) served) _ error_free) all.1)
      where
        by : Service names meant one → IsDistinct same_spot (flat_map (item_serves meant) items) → IsDistinct same_spot (item_serves meant one ++ flat_map (item_serves meant) items)
        by (no_service is) rest = subst (λ spots. IsDistinct same_spot (spots ++ flat_map (item_serves meant) items)) (sym is) rest
        by (service name spot is serving here) rest =
            subst (λ spots. IsDistinct same_spot (spots ++ flat_map (item_serves meant) items)) (sym serving)
            (apart name spot here items all.1 (differs one items served error_free name is here.serving), rest)

-- ---- procs, procedures and processes

-- an operation is none of the components
no_component : (component : Component) → sort_of component ≡ Operation → ⊥
no_component (Resource span name formals items) e = cc
no_component (SplitResource span name spec formals items) e = cc
no_component (Global span name spec body) e = cc

-- what is found of the name of a proc
proc_found_in : (proc : Proc) (finding : Finding) (items : List Item) (place : Place) (blocks : Blocks) → IsIn (item.Proc proc) items
    → IsIn finding (item_found (item.Proc proc) (inside place None) blocks) → IsIn finding (items_found items place blocks)
proc_found_in proc finding [] place blocks there among = absurd there
proc_found_in proc finding (one ∷ items) place blocks (inl is) among =
    in_left finding (item_found one (inside place (item_within one)) blocks) _
    (subst (λ other. IsIn finding (item_found other (inside place (item_within other)) blocks)) (sym is) among)
proc_found_in proc finding (one ∷ items) place blocks (inr there) among =
    in_right finding (item_found one (inside place (item_within one)) blocks) _ (proc_found_in proc finding items place blocks there among)

pub in_names : (files : List File) (component : Component) (one : Sort × Name) → IsIn component (flat_map (λ file. file.components) files) → IsIn one (names_of component) → IsIn one (names_in files)
in_names [] component one there among = absurd there
in_names (file ∷ files) component one there among =
    by (in_either component file.components (flat_map (λ other. other.components) files) there) (λ k. in_names files component one k among)
  where
    by : IsIn component file.components ⊎ IsIn component (flat_map (λ other. other.components) files) → (IsIn component (flat_map (λ other. other.components) files) → IsIn one (names_in files))
        → IsIn one (names_in (file ∷ files))
    by (inl k) more = in_left one (flat_map names_of file.components) (names_in files) (in_flat names_of component one file.components k among)
    by (inr k) more = in_right one (flat_map names_of file.components) (names_in files) (more k)

module _ (files : List File) (names : Names) (accepted : resolved files ≡ Ok names) (distinct : IsDistinct same_spot (map spot_of (flat_map file_names files)))
    (component : Component) (there : IsIn component (flat_map (λ file. file.components) files)) where
  abbrev place : Place
  place = place_of (program files).components (program files).specs component

  error_free : ErrorFree (component_found (program files).components (program files).specs component)
  error_free = component_error_free files names accepted component there

  own_error_free : ErrorFree (all_twice (own_names component) [])
  own_error_free = subst ErrorFree (own_twice_is component) (error_free_first (own_twice component) _ error_free)

  services_error_free : ErrorFree (served_twice (body_of component) place no_blocks [])
  services_error_free =
      error_free_first (served_twice (body_of component) place no_blocks []) _
      (error_free_after (imports_found (program files).components (imports_of component)) _ (error_free_after (own_twice component) _ error_free))

  -- a name that the component itself declares as an operation
  own_serves : (name : Name) → IsIn (Operation, name) (own_names component) → serves place no_blocks name ≡ true
  own_serves name among =
      ap (λ found. is_operation (own_meaning place name.text (spot_of name.span) found))
      (ap (λ table. declared_as table name.text) (own_is component) ∙ each_declared (own_names component) [] own_error_free Operation name among)

  -- the name of a proc means what it denotes
  pub proc_denotes : (proc : Proc) → IsIn (item.Proc proc) (body_of component) → (decl : Decl) → meaning_at names.uses (spot_of proc.name.span) ≡ Some (Declared decl)
      → denotes place no_blocks proc.name.text (spot_of proc.name.span) ≡ Some (Declared decl)
  proc_denotes proc among decl e =
      by (denotes place no_blocks proc.name.text (spot_of proc.name.span)) refl
      (all_at is_use (findings files) (all_uses files names accepted) finding here)
    where
      finding : Finding
      finding = reading (denotes place no_blocks proc.name.text (spot_of proc.name.span)) proc.name.span

      here : IsIn finding (findings files)
      here =
          in_program files component there finding
          (in_right finding (own_twice component) _
          (in_right finding (imports_found (program files).components (imports_of component)) _
          (in_right finding (served_twice (body_of component) place no_blocks []) _
          (in_right finding (specs_found (spec_of component) place no_blocks) _
          (in_right finding (formals_found (map formal_read (formals_of component)) (inside place None) no_blocks) _
          (proc_found_in proc finding (body_of component) (inside place None) no_blocks among (inl refl)))))))

      by : (found : Option Meaning) → denotes place no_blocks proc.name.text (spot_of proc.name.span) ≡ found → is_use (reading found proc.name.span) ≡ true
          → found ≡ Some (Declared decl)
      by None is used = absurd (false≢true used)
      by (Some meaning) is used =
          sym (use_means files names accepted (one_meaning files distinct) (spot_of proc.name.span) meaning
          (subst (λ found. IsIn (reading found proc.name.span) (findings files)) is here)) ∙ e

  own_item : (one : Item) (name : Name) → IsIn one (body_of component) → IsIn (Operation, name) (item_own one) → IsIn (Operation, name) (own_names component)
  own_item one name among own =
      in_right (Operation, name) (flat_map spec_own (spec_of component)) _
      (in_right (Operation, name) (flat_map formal_own (formals_of component)) _ (in_flat item_own one (Operation, name) (body_of component) among own))

  own_service : (name : Name) → IsIn (Operation, name) (own_names component) → Operational place (names_in files) name (spot_of name.span)
  own_service name among = record {
    serving = own_serves name among;
    other = name;
    among = in_names files component (Operation, name) there (inr among);
    stands = refl;
    spelled = refl;
  }

  proc_service : (proc : Proc) (spot : Spot) → IsIn (item.Proc proc) (body_of component) → MeansOperation names.uses proc.name spot → Operational place (names_in files) proc.name spot
  proc_service proc spot among (decl, e, operation, at) =
      by (means files component there proc.name.text (spot_of proc.name.span) decl (proc_denotes proc among decl e))
    where
      by : IsComponent (flat_map (λ file. file.components) files) decl ⊎ IsDeclared (flat_map (λ file. file.components) files) proc.name.text decl
          → Operational place (names_in files) proc.name spot
      by (inl one) = absurd (no_component one.component (ap (λ d. d.sort) (sym one.is) ∙ operation))
      by (inr one) = record {
        serving = ap is_operation (proc_denotes proc among decl e) ∙ ap (λ sort. is_operation (Some (Declared (record { sort = sort; spot = decl.spot })))) operation;
        other = one.name;
        among = subst (λ sort. IsIn (sort, one.name) (names_in files)) (ap (λ d. d.sort) (sym one.is) ∙ operation)
            (in_names files one.component (one.sort, one.name) one.there (inr one.among));
        stands = ap (λ d. d.spot) (sym one.is) ∙ at;
        spelled = one.spelled;
      }

  module _ (meant : Name → Spot) where
    item_service : (one : Item) → IsIn one (body_of component) → ItemMeansOperation names.uses meant one → Service place (names_in files) meant one
    item_service (item.Proc proc) among h = service proc.name (meant proc.name) refl refl (proc_service proc (meant proc.name) among h)
    item_service (item.Procedure procedure) among h =
        service procedure.name (spot_of procedure.name.span) refl refl (own_service procedure.name (own_item (item.Procedure procedure) procedure.name among (inl refl)))
    item_service (item.Process process) among h =
        service process.name (spot_of process.name.span) refl refl (own_service process.name (own_item (item.Process process) process.name among (inl refl)))
    item_service (item.Spec declared) among h = no_service refl
    item_service (item.Final final) among h = no_service refl
    item_service (item.Statement statement) among h = no_service refl

    all_services : (items : List Item) → ((one : Item) → IsIn one items → IsIn one (body_of component)) → AllMeanOperations names.uses meant items
        → AllByRecursion (Service place (names_in files) meant) items
    all_services [] among all = tt
    all_services (one ∷ items) among all = (item_service one (among one (inl refl)) all.0, all_services items (λ other k. among other (inr k)) all.1)

    services_apart : AllMeanOperations names.uses meant (body_of component) → IsDistinct same_spot (flat_map (item_serves meant) (body_of component))
    services_apart all =
        distinct_services place (names_in files) meant (λ spot. omega (arith, (names_fewer files).at spot, at_most_one spot (flat_map file_names files) distinct))
        (body_of component) [] services_error_free (all_services (body_of component) (λ one k. k) all)

pub served_once : (files : List File) (names : Names) (meant : Name → Spot) (component : Component) → resolved files ≡ Ok names
    → IsDistinct same_spot (map spot_of (flat_map file_names files)) → IsIn component (flat_map (λ file. file.components) files)
    → AllMeanOperations names.uses meant (body_of component) → IsDistinct same_spot (flat_map (item_serves meant) (body_of component))
served_once files names meant component accepted distinct there = services_apart files names accepted distinct component there meant

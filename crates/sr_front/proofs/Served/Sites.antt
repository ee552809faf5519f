-- Statements that wait service operations of one owner, which have no procs.
use Rattle.std.proofs.Common.{◌≡◌, ℕ, zero, suc, Bool, true, false, true≢false, ◌&&◌, List, [], ◌∷◌, Option, Some, None, flat_map, get_or, position, is_some, slice_get, refl, sym, ap, ◌∙◌, subst, arith}
use Rattle.std.specs.Prelude.{All, Contains, IsTrue, ◌==◌}
use Rattle.std.specs.List.{AllByRecursion, AllZip, IsDistinct, enumerate_from, list_all}
use Rattle.std.proofs.lemmas.Bool.{and_from, eq-eqb}
use Rattle.std.proofs.lemmas.List.Elements.{All-from_recursion, recursion_from_All}
use Rattle.std.proofs.lemmas.List.Quantifiers.{position-Some}
use Rattle.std.proofs.lemmas.Option.{same_Some}
use Rattle.sr_check.specs.Owners.{Declared, component_at}
use Rattle.sr_check.specs.Procs.{proc_of}
use Rattle.sr_check.specs.Servicing.{AllServiceOwn, AreWaited, Served, ServesShared, ServicesOwn, Together, Waited, component_procedures, component_served as component_meant, component_waits, item_procedures, item_served as item_meant, meant_at}
use Rattle.sr_check_expr.specs.declared.facts.Facts.{Facts}
use Rattle.sr_core.specs.declared.component.Core.{Core}
use Rattle.sr_core.specs.declared.component.Operation.{Operation}
use Rattle.sr_core.specs.declared.site.Arm.{Arm as CoreArm}
use Rattle.sr_core.specs.declared.site.Site.{Site}
use Rattle.sr_core.specs.declared.statement.Scope.{Scope}
use Rattle.sr_core.specs.declared.statement.Scope.TheVariants.{Own as own_scope, Shared as shared_scope}
use Rattle.sr_core.specs.Serving.{arm_ok, arms_ok, names_formals, scope_eq}
use Rattle.sr_core.specs.Tests.{same_there, with_operation}
use Rattle.sr_lower_expr.specs.Places.{scope_in}
use Rattle.sr_desugar.specs.Core.{LoweredComponent, standing, whole_of}
use Rattle.sr_names.specs.declared.meaning.Decl.{Decl}
use Rattle.sr_names.specs.declared.spot.Spot.{Spot}
use Rattle.sr_names.specs.Noted.{Meanings}
use Rattle.sr_names.specs.Searches.{At}
use Rattle.sr_names.specs.Spots.{same_spot}
use Rattle.sr_names.proofs.LinkLemmas.{same_spot-eq}
use Rattle.sr_names.proofs.Places.{at-same}
use Rattle.sr_outline.specs.Numbers.{component_served, item_served, served_spots}
use Rattle.sr_tables.specs.Parts.{components_in, spot_named}
use Rattle.sr_tree.specs.declared.component.Component.{Component}
use Rattle.sr_tree.specs.declared.component.File.{File}
use Rattle.sr_tree.specs.declared.component.Item.{Item}
use Rattle.sr_tree.specs.declared.component.Item.TheVariants as item
use Rattle.sr_tree.specs.Parts.{body_of}
use Rattle.sr_value.specs.declared.place.Span.{Span}
use Rattle.sr_core.specs.Sites.{has_scope, is_of}
use Rattle.sr_front.specs.Sites.{IsListed}
use Rattle.sr_front.proofs.Served.Serviced.{IsClear, arm_effect_free, arm_serves, arms_serve, component_calls, sites_effect_free, sites_serve}
use Rattle.sr_front.proofs.Known.Declared.{Apart, Entered, one_component, scope_of}
use Rattle.sr_front.proofs.Lists.Numbered.{each_once_apart}
use Rattle.sr_front.proofs.Lists.Members.{Among, all_at, among_parts, at_made, at_read, contained, every_at, numbered_at, part_of, passed, passes_at, zip_at}
use Rattle.sr_front.proofs.Served.Operations.{components, core, imports, served, table, tables, wholes}
use Rattle.sr_front.proofs.Served.Services.{meant_is, put, serves_own, services_own}
use Rattle.sr_front.proofs.Served.Waiting.{ArmServes, FirstScope, SiteServes}
use Rattle.sr_front.proofs.Served.WaitingCode.{sites_good}

-- ---- arms of one owner

-- an arm services an operation without a proc of an owner
record ArmOf (core : Core) (component : ℕ) (scope : Scope) (arm : CoreArm) : Type 0 where
  operation : Operation
  there : slice_get core.operations arm.op ≡ Some operation
  whose : operation.component ≡ component
  whole : operation.scope ≡ scope
  free : operation.proc ≡ None
  names : IsTrue (names_formals arm.formals operation.parameters && same_there arm.returned operation.returns)

same_scope : (a b scope : Scope) → a ≡ scope → b ≡ scope → IsTrue (scope_eq a b)
same_scope own_scope own_scope scope p q = refl
same_scope shared_scope shared_scope scope p q = refl
same_scope own_scope shared_scope scope p q = cc
same_scope shared_scope own_scope scope p q = cc

with_there : (core : Core) (op : ℕ) (operation : Operation) (test : Operation → Bool) → slice_get core.operations op ≡ Some operation → IsTrue (test operation) → IsTrue (with_operation core op test)
with_there core op operation test there passes = rw there passes

module _ (core : Core) (component : ℕ) (scope : Scope) where
  arm_is_served : (first : Operation) (arm : CoreArm) → first.component ≡ component → first.scope ≡ scope → ArmOf core component scope arm → IsTrue (arm_serves core first arm)
  arm_is_served first arm whose whole serving =
      rw (serving.there, serving.free)
      (and_from _ _
      (and_from (first.component == serving.operation.component) _ (eq-eqb _ _ (whose ∙ sym serving.whose)) (same_scope first.scope serving.operation.scope scope whole serving.whole))
      serving.names)

  arms_are_served : (arms : List CoreArm) → ((place : ℕ) (arm : CoreArm) → At arms place arm → ArmOf core component scope arm) → IsTrue (arms_serve core arms)
  arms_are_served [] serving = refl
  arms_are_served (arm ∷ arms) serving =
      let first = serving 0 arm refl in
      with_there core arm.op first.operation (λ one. list_all (arm_serves core one) (arm ∷ arms)) first.there
      (passed (arm_serves core first.operation) (arm ∷ arms) (λ place one h. arm_is_served first.operation one first.whose first.whole (serving place one h)))

  -- its operation is of the owner
  arm_is_own : (arm : CoreArm) → ArmOf core component scope arm → IsTrue (with_operation core arm.op (λ operation. operation.component == component))
  arm_is_own arm serving = with_there core arm.op serving.operation (λ operation. operation.component == component) serving.there (eq-eqb _ _ serving.whose)

  arm_has_scope : (other : Scope) (arm : CoreArm) → other ≡ scope → ArmOf core component scope arm → IsTrue (with_operation core arm.op (λ operation. scope_eq operation.scope other))
  arm_has_scope other arm same serving =
      with_there core arm.op serving.operation (λ operation. scope_eq operation.scope other) serving.there (same_scope serving.operation.scope other scope serving.whole same)

-- A site services operations without procs of one owner, which is of this component and as the site says.
pub record SiteFits (core : Core) (component : ℕ) (site : Site) : Type 0 where
  pub served : IsTrue (arms_serve core site.arms)
  pub own : IsTrue (is_of core component site)
  pub scoped : IsTrue (has_scope core site)
  pub lists : IsListed site

each_listed : (sites : List Site) → ((place : ℕ) (site : Site) → At sites place site → IsListed site) → AllByRecursion IsListed sites
each_listed [] each = tt
each_listed (site ∷ sites) each = (each 0 site refl, each_listed sites (λ place. each (suc place)))

-- ---- what is waited for has no proc

is_or : {A : Type 0} (found : Option A) → ((thing : A) → found ≡ Some thing → ⊥) → found ≡ None
is_or None never = refl
is_or (Some thing) never = absurd (never thing refl)

not_none : (found : Option Span) → found ≡ None → is_some found ≡ true → ⊥
not_none None e f = true≢false (sym f)
not_none (Some span) e f = cc

module _ (files : List File) (known facts : Facts) (services : AllServiceOwn facts.uses files known) (apart : Apart files)
    (once : IsDistinct same_spot (flat_map (component_served facts) (components_in files)))
    (shared : All (ServesShared facts.uses files) (components_in files)) where
  abbrev all : List Component
  all = components files facts

  abbrev uses : Meanings
  uses = facts.uses

  -- what a component serves has a proc there
  item_has_one : (number place : ℕ) (component : Component) (one : Item) (spot : Spot) → At all number component → At (body_of component) place one → Among (item_served facts one) spot
      → (own : ServicesOwn uses files known component) → is_some (proc_of own.procs spot) ≡ true
  item_has_one number place component (item.Proc proc) spot there here (zero, is) own =
      let among : Among (component_meant uses component) (meant_at uses proc.name.span) =
      among_parts (item_meant uses) (body_of component) place (item.Proc proc) (meant_at uses proc.name.span) here (0, refl) in
      let serving = all_at (Served files known (component_at component) own.procs) (component_meant uses component) among.0 (meant_at uses proc.name.span) own.by_procs among.1 in
      let named : Contains (component_meant uses component) (Some serving.own.decl) =
      contained (component_meant uses component) among.0 (Some serving.own.decl) (subst (At (component_meant uses component) among.0) serving.own.means among.1) in
      let same : serving.own.decl.spot ≡ spot = sym (meant_is uses facts proc.name serving.own.decl refl serving.own.means) ∙ is in
      ap (λ at. is_some (proc_of own.procs at)) (sym same)
      ∙ serving.has_one (never_local serving.is_local (λ local.
      all_at (ServesShared uses files) all number component shared there serving.own.decl named (subst (Declared files serving.own.decl.spot (component_at component)) local serving.own.declared)))
    where
      never_local : (is_local : Bool) → (is_local ≡ true → ⊥) → is_local ≡ false
      never_local true never = absurd (never refl)
      never_local false never = refl
  item_has_one number place component (item.Proc proc) spot there here (suc k, is) own = absurd is
  item_has_one number place component (item.Procedure procedure) spot there here (zero, is) own =
      let among : Among (component_procedures component) (spot_named procedure.name) = among_parts item_procedures (body_of component) place (item.Procedure procedure) (spot_named procedure.name) here (0, refl) in
      ap (λ at. is_some (proc_of own.procs at)) (sym is)
      ∙ all_at (λ at. is_some (proc_of own.procs at) ≡ true) (component_procedures component) among.0 (spot_named procedure.name) own.by_procedures among.1
  item_has_one number place component (item.Procedure procedure) spot there here (suc k, is) own = absurd is
  item_has_one number place component (item.Process process) spot there here (zero, is) own =
      let among : Among (component_procedures component) (spot_named process.name) = among_parts item_procedures (body_of component) place (item.Process process) (spot_named process.name) here (0, refl) in
      ap (λ at. is_some (proc_of own.procs at)) (sym is)
      ∙ all_at (λ at. is_some (proc_of own.procs at) ≡ true) (component_procedures component) among.0 (spot_named process.name) own.by_procedures among.1
  item_has_one number place component (item.Process process) spot there here (suc k, is) own = absurd is
  item_has_one number place component _ spot there here (k, is) own = absurd is

  has_one : (number : ℕ) (component : Component) (spot : Spot) → At all number component → Among (component_served facts component) spot
      → (own : ServicesOwn uses files known component) → is_some (proc_of own.procs spot) ≡ true
  has_one number component spot there among own =
      let part = part_of (item_served facts) (body_of component) among.0 spot among.1 in
      item_has_one number part.0 component part.1 spot there part.2 part.3 own

  abbrev Put : Spot → Spot → Bool → Type 0
  Put = Entered all (served_spots facts all) (table files facts)

  number_of : (spot : Spot) (is_local : Bool) (number : ℕ) (component : Component) → At all number component → (entry : Put spot (component_at component) is_local) → entry.operation.component ≡ number
  number_of spot is_local number component there entry = entry.owner ∙ one_component files entry.whose.number number entry.whose.tree component apart entry.whose.there there entry.whose.at

  -- an operation of a component that has a proc has it there
  served_in : (number other : ℕ) (component tree : Component) (spot : Spot) (is_local : Bool) → At all number component → At all other tree
      → Declared files spot (component_at component) is_local → Among (component_served facts tree) spot → Among (component_served facts component) spot
  served_in number other component tree spot is_local there place declared among =
      let entry = put files facts apart spot (component_at component) is_local declared in
      let elsewhere = serves_own uses files known facts refl services other tree spot place among in
      let second = put files facts apart spot (component_at tree) elsewhere.0 elsewhere.1 in
      let operations : entry.operation ≡ second.operation = same_Some entry.operation second.operation (sym entry.found ∙ second.found) in
      let numbers : other ≡ number =
      sym (number_of spot elsewhere.0 other tree place second) ∙ ap (λ (operation : Operation). operation.component) (sym operations) ∙ number_of spot is_local number component there entry in
      let same : tree ≡ component = at-same all number tree component (subst (λ at. At all at tree) numbers place) there in
      subst (λ one. Among (component_served facts one) spot) same among

  -- an operation of a component that has no proc there has none
  no_proc : (number : ℕ) (component : Component) (spot : Spot) (is_local : Bool) → At all number component → (own : ServicesOwn uses files known component)
      → Declared files spot (component_at component) is_local → proc_of own.procs spot ≡ None → position (same_spot spot) (served_spots facts all) ≡ None
  no_proc number component spot is_local there own declared none = is_or (position (same_spot spot) (served_spots facts all)) (λ place found. not_none (proc_of own.procs spot) none (by place found))
    where
      by : (place : ℕ) → position (same_spot spot) (served_spots facts all) ≡ Some place → is_some (proc_of own.procs spot) ≡ true
      by place found =
          let at : position (same_spot spot) (served files facts) ≡ Some place = ap (position (same_spot spot)) (sym (each_once_apart (served files facts) once)) ∙ found in
          let there_is = position-Some (same_spot spot) (served files facts) place spot at in
          let same : spot ≡ get_or (served files facts) place spot = same_spot-eq _ _ there_is.1 in
          let stands : At (served files facts) place spot = subst (At (served files facts) place) (sym same) (at_read (served files facts) place spot there_is.0) in
          let part = part_of (component_served facts) all place spot stands in
          has_one number component spot there (served_in number part.0 component part.1 spot is_local there part.2 declared part.3) own

  -- ---- sites

  arm_of : (number : ℕ) (component : Component) (is_local : Bool) (arm : CoreArm) (meant : Option Decl) → At all number component → (own : ServicesOwn uses files known component)
      → Waited files known (component_at component) own.procs is_local meant → ArmServes (table files facts) arm meant → ArmOf (core files facts) number (scope_of is_local) arm
  arm_of number component is_local arm meant there own waited serving =
      let spot : Spot = waited.own.decl.spot in
      let entry = put files facts apart spot (component_at component) is_local waited.own.declared in
      let served_by = serving waited.own.decl waited.own.means in
      record {
        operation = entry.operation;
        there = ap (slice_get (core files facts).operations) served_by.is ∙ entry.numbered;
        whose = number_of spot is_local number component there entry;
        whole = entry.scope;
        free = entry.proc ∙ no_proc number component spot is_local there own waited.own.declared waited.has_none;
        names = served_by.names entry.operation entry.found;
      }

  -- the scope of a site is that of its first operation
  scope_is : (number : ℕ) (component : Component) (is_local : Bool) (scope : Scope) (arms : List CoreArm) (together : Together) → At all number component → (own : ServicesOwn uses files known component)
      → All (Waited files known (component_at component) own.procs is_local) together → AllZip (ArmServes (table files facts)) arms together → FirstScope (table files facts) scope together
      → (place : ℕ) (arm : CoreArm) → At arms place arm → scope ≡ scope_of is_local
  scope_is number component is_local scope [] [] there own waited zip first place arm h = absurd h
  scope_is number component is_local scope [] (meant ∷ together) there own waited zip first place arm h = absurd zip
  scope_is number component is_local scope (one ∷ arms) [] there own waited zip first place arm h = absurd zip
  scope_is number component is_local scope (one ∷ arms) (meant ∷ together) there own waited zip first place arm h =
      let head = all_at (Waited files known (component_at component) own.procs is_local) (meant ∷ together) 0 meant waited refl in
      let entry = put files facts apart head.own.decl.spot (component_at component) is_local head.own.declared in
      first head.own.decl head.own.means ∙ ap scope_in entry.found ∙ entry.scope

  site_fits : (number : ℕ) (component : Component) (site : Site) → At all number component → (own : ServicesOwn uses files known component)
      → SiteServes (AreWaited files known (component_at component) own.procs) (table files facts) site → SiteFits (core files facts) number site
  site_fits number component site there own serving = record {
    served = arms_are_served (core files facts) number (scope_of serving.holds.0) site.arms each;
    own = passed (λ arm. with_operation (core files facts) arm.op (λ operation. operation.component == number)) site.arms
        (λ place arm h. arm_is_own (core files facts) number (scope_of serving.holds.0) arm (each place arm h));
    scoped = passed (λ arm. with_operation (core files facts) arm.op (λ operation. scope_eq operation.scope site.scope)) site.arms
        (λ place arm h. arm_has_scope (core files facts) number (scope_of serving.holds.0) site.scope arm
        (scope_is number component serving.holds.0 site.scope site.arms serving.together there own serving.holds.1 serving.arms serving.scope place arm h) (each place arm h));
    lists = serving.lists;
  }
    where
      by : (place : ℕ) (arm : CoreArm) → (meant : Option Decl) × At serving.together place meant × ArmServes (table files facts) arm meant → ArmOf (core files facts) number (scope_of serving.holds.0) arm
      by place arm zipped =
          arm_of number component serving.holds.0 arm zipped.0 there own
          (all_at (Waited files known (component_at component) own.procs serving.holds.0) serving.together place zipped.0 serving.holds.1 zipped.1) zipped.2

      each : (place : ℕ) (arm : CoreArm) → At site.arms place arm → ArmOf (core files facts) number (scope_of serving.holds.0) arm
      each place arm h = by place arm (zip_at (ArmServes (table files facts)) site.arms serving.together place arm serving.arms h)

  module _ (clear : All (λ component. All (IsClear (standing facts component)) (component_calls component)) (components_in files)) where
    component_sites : (number place : ℕ) (component : Component) (site : Site) → At all number component
        → At (whole_of facts (tables files facts) (imports files facts) (number, component)).sites place site → SiteFits (core files facts) number site
    component_sites number place component site there h =
        let own = services_own uses files known facts refl services number component there in
        let P = AreWaited files known (component_at component) own.procs in
        site_fits number component site there own
        (every_at (SiteServes P (table files facts)) (whole_of facts (tables files facts) (imports files facts) (number, component)).sites place site
        (sites_good P facts (tables files facts) (imports files facts) number component
        (recursion_from_All P (component_waits uses component) own.by_statements)
        (recursion_from_All (IsClear (standing facts component)) (component_calls component)
        (all_at (λ one. All (IsClear (standing facts one)) (component_calls one)) all number component clear there)))
        h)

    -- the sites of a component name its own operations
    pub sites_are_own : (number : ℕ) (component : Component) → At all number component
        → IsTrue (list_all (is_of (core files facts) number) (whole_of facts (tables files facts) (imports files facts) (number, component)).sites)
    sites_are_own number component there =
        passed (is_of (core files facts) number) (whole_of facts (tables files facts) (imports files facts) (number, component)).sites
        (λ place site h. (component_sites number place component site there h).own)

    every_site : (place : ℕ) (site : Site) → At (core files facts).sites place site → (number : ℕ) × SiteFits (core files facts) number site
    every_site place site h =
        let part = part_of (λ (whole : LoweredComponent). whole.sites) (wholes files facts) place site h in
        let made = at_made (whole_of facts (tables files facts) (imports files facts)) (enumerate_from 0 all) part.0 part.1 part.2 in
        let there = numbered_at 0 all part.0 made.0 made.1 in
        let number : made.0.0 ≡ part.0 = omega (arith, there.0) in (
          made.0.0,
          component_sites made.0.0 part.3.0 made.0.1 site (subst (λ at. At all at made.0.1) (sym number) there.1)
              (subst (λ (one : LoweredComponent). At one.sites part.3.0 site) (sym made.2) part.3.1),
        )

    -- clause `sites` of `IsWellFormed`, but for guards
    pub sites_are_served : IsTrue (sites_serve (core files facts))
    sites_are_served = passed (λ site. arms_serve (core files facts) site.arms) (core files facts).sites (λ place site h. (every_site place site h).1.served)

    -- clause `scopes` of `HasSites`
    pub sites_have_scopes : IsTrue (list_all (has_scope (core files facts)) (core files facts).sites)
    sites_have_scopes = passed (has_scope (core files facts)) (core files facts).sites (λ place site h. (every_site place site h).1.scoped)

    -- clause `lists` of `HasSites`
    pub sites_are_listed : All IsListed (core files facts).sites
    sites_are_listed = All-from_recursion IsListed (core files facts).sites (each_listed (core files facts).sites (λ place site h. (every_site place site h).1.lists))

-- ---- guards

-- where a test of an operation passes, the operation is there
with_some : (written : Core) (op : ℕ) (test : Operation → Bool) → IsTrue (with_operation written op test) → (operation : Operation) × (slice_get written.operations op ≡ Some operation) × IsTrue (test operation)
with_some written op test passes = by (slice_get written.operations op) refl passes
  where
    by : (found : Option Operation) → slice_get written.operations op ≡ found → IsTrue (with_operation written op test)
        → (operation : Operation) × (slice_get written.operations op ≡ Some operation) × IsTrue (test operation)
    by None is holds = absurd (true≢false (sym holds ∙ rw is refl))
    by (Some operation) is holds = (operation, is, rw is at holds)

-- where no guard waits an arm that services its operation is well formed
arms_well : (written : Core) (arms : List CoreArm) → IsTrue (arms_serve written arms) → IsTrue (list_all arm_effect_free arms) → IsTrue (arms_ok written arms)
arms_well written [] serving effect_free = refl
arms_well written (arm ∷ arms) serving effect_free =
    let first = with_some written arm.op (λ one. list_all (arm_serves written one) (arm ∷ arms)) serving in
    with_there written arm.op first.0 (λ one. list_all (arm_ok written one) (arm ∷ arms)) first.1
    (passed (arm_ok written first.0) (arm ∷ arms) (λ place one h.
    and_from _ _ (passes_at (arm_serves written first.0) (arm ∷ arms) place one first.2 h) (passes_at arm_effect_free (arm ∷ arms) place one effect_free h)))

-- clause `sites` of `IsWellFormed`
pub sites_well : (written : Core) → IsTrue (sites_serve written) → IsTrue (sites_effect_free written) → IsTrue (list_all (λ site. arms_ok written site.arms) written.sites)
sites_well written serving effect_free = passed (λ site. arms_ok written site.arms) written.sites (λ place site h.
    arms_well written site.arms (passes_at (λ one. arms_serve written one.arms) written.sites place site serving h) (passes_at (λ one. list_all arm_effect_free one.arms) written.sites place site effect_free h))

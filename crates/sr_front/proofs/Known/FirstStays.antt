-- What is known before any statement is looked at stays as it is: no name in procs and statements stands where it is known.
use Rattle.std.proofs.Common.{◌≡◌, Bool, false, List, [], ◌∷◌, ◌++◌, Some, refl, ◌∙◌, ap, map, flat_map}
use Rattle.std.proofs.lemmas.Option.{none-some}
use Rattle.std.specs.List.{AllByRecursion, IsDistinct}
use Rattle.sr_value.specs.declared.place.Span.{Span}
use Rattle.sr_names.specs.declared.spot.Spot.{Spot}
use Rattle.sr_names.specs.Noted.{Meanings}
use Rattle.sr_names.specs.Specs.{Specs}
use Rattle.sr_names.specs.Spots.{same_spot, spot_of}
use Rattle.sr_order.specs.Names.{component_names, file_names, formal_names, item_names, spec_item_names}
use Rattle.sr_order.specs.Spans.{op_item_span, spec_operations}
use Rattle.sr_tables.specs.Parts.{components_in}
use Rattle.sr_tree.specs.declared.component.Component.{Component}
use Rattle.sr_tree.specs.declared.component.File.{File}
use Rattle.sr_tree.specs.declared.component.Item.{Item}
use Rattle.sr_tree.specs.declared.component.Item.TheVariants as item
use Rattle.sr_tree.specs.declared.component.SpecItem.{SpecItem}
use Rattle.sr_tree.specs.declared.component.SpecItem.TheVariants as spec
use Rattle.sr_tree.specs.declared.declaration.OpItem.{OpItem}
use Rattle.sr_tree.specs.declared.declaration.OpItem.TheVariants.{Signed, Typed}
use Rattle.sr_tree.specs.declared.declaration.Semaphore.{Semaphore}
use Rattle.sr_tree.specs.Parts.{body_of, formals_of, name_of, spec_of}
use Rattle.sr_types.specs.declared.ty.Ty.{Ty}
use Rattle.sr_check_expr.specs.declared.facts.Facts.{Facts}
use Rattle.sr_check_expr.specs.declared.info.Info.{Info}
use Rattle.sr_check_expr.specs.declared.info.Info.TheVariants as info
use Rattle.sr_check_expr.specs.Infos.{info_at}
use Rattle.sr_check_decl.specs.Declaring.{op_item_name}
use Rattle.sr_check_decl.specs.Inferring.{program_known}
use Rattle.sr_check_decl.specs.Variables.{declare}
use Rattle.sr_check.specs.Components.{components_read}
use Rattle.sr_check.proofs.Each.{Each, each-append, each-left, each-right}
use Rattle.sr_front.proofs.Known.FirstKnown.{ComponentRight, ItemRight, Knows, SpecRight, first_known}
use Rattle.sr_front.proofs.Known.InfosStay.{Fresh, KnownIn, Settled, stays_itself}
use Rattle.sr_front.proofs.Known.KeptDeclared.{Declares, keeps_known}
use Rattle.sr_front.proofs.Known.KeptNames.{Anywhere}
use Rattle.sr_front.proofs.Known.Lasting.{Away}
use Rattle.sr_front.proofs.Names.PlainNames.{component_plain, item_plain, spec_plain}
use Rattle.sr_front.proofs.Lists.Put.{put_known}
use Rattle.sr_front.proofs.Mentioned.ReadsCode.{component_inside, item_inside, ops_share, parts_share, sems_share}
use Rattle.sr_front.proofs.Names.Shares.{files_share, shares_apart}
use Rattle.sr_front.proofs.Lists.Sharing.{Shares, all_first, all_left_out, all_second, both_share, first_each, in_first, in_second, left_out, none}

-- ---- the names outside of procs and statements

abbrev item_outside : Item → List Span
item_outside (item.Spec declared) = spec_item_names declared
item_outside (item.Procedure procedure) = procedure.name.span ∷ []
item_outside (item.Process process) = process.name.span ∷ []
item_outside _ = []

abbrev component_outside : Component → List Span
component_outside component = (name_of component).span ∷ (flat_map spec_item_names (spec_of component) ++ (flat_map formal_names (formals_of component) ++ flat_map item_outside (body_of component)))

-- the operations among them
abbrev item_outer : Item → List Span
item_outer (item.Spec declared) = spec_operations declared
item_outer (item.Procedure procedure) = procedure.name.span ∷ []
item_outer (item.Process process) = process.name.span ∷ []
item_outer _ = []

-- the names in code, and those outside
item_shares : (one : Item) → Shares (item_names one) (item_inside one) (item_outside one)
item_shares (item.Spec declared) = all_second _
item_shares (item.Procedure procedure) = in_second procedure.name.span (all_first _)
item_shares (item.Process process) = in_second process.name.span (all_first _)
item_shares _ = all_first _

component_shares : (component : Component) → Shares (component_names component) (component_inside component) (component_outside component)
component_shares component =
    in_second _ (both_share (all_second (flat_map spec_item_names (spec_of component))) (both_share (all_second (flat_map formal_names (formals_of component)))
    (parts_share item_names item_inside item_outside item_shares (body_of component))))

-- ---- plain names and operations among the names outside

spec_plain_share : (one : SpecItem) → Shares (spec_item_names one) (spec_plain one) []
spec_plain_share (spec.Op declared) = all_left_out _
spec_plain_share (spec.Sem declared) = all_left_out _
spec_plain_share _ = all_first _

spec_operations_share : (one : SpecItem) → Shares (spec_item_names one) (spec_operations one) []
spec_operations_share (spec.Op declared) = ops_share declared.items
spec_operations_share (spec.Sem declared) = sems_share declared.semaphores
spec_operations_share _ = all_left_out _

outside_plain : (one : Item) → Shares (item_outside one) (item_plain one) []
outside_plain (item.Spec declared) = spec_plain_share declared
outside_plain (item.Procedure procedure) = left_out procedure.name.span none
outside_plain (item.Process process) = left_out process.name.span none
outside_plain _ = none

outside_outer : (one : Item) → Shares (item_outside one) (item_outer one) []
outside_outer (item.Spec declared) = spec_operations_share declared
outside_outer (item.Procedure procedure) = in_first procedure.name.span none
outside_outer (item.Process process) = in_first process.name.span none
outside_outer _ = none

module _ (P : Spot → Type 0) where
  abbrev AtName : Span → Type 0
  AtName span = P (spot_of span)

  parts_each : {A : Type 0} (xs ys : A → List Span) → ((a : A) → Shares (xs a) (ys a) []) → (all : List A) → Each AtName (flat_map xs all) → Each AtName (flat_map ys all)
  parts_each xs ys shares [] h = tt
  parts_each xs ys shares (a ∷ all) h =
      each-append AtName (ys a) (flat_map ys all) (first_each AtName (shares a) (each-left AtName (xs a) (flat_map xs all) h)) (parts_each xs ys shares all (each-right AtName (xs a) (flat_map xs all) h))

  component_plain_each : (component : Component) → Each AtName (component_outside component) → Each AtName (component_plain component)
  component_plain_each component h =
      let specs = flat_map spec_item_names (spec_of component) in
      let formals = flat_map formal_names (formals_of component) in
      let after = each-right AtName specs _ h.1 in (
        h.0,
        each-append AtName (flat_map spec_plain (spec_of component)) _ (parts_each spec_item_names spec_plain spec_plain_share (spec_of component) (each-left AtName specs _ h.1))
            (each-append AtName formals _ (each-left AtName formals _ after) (parts_each item_outside item_plain outside_plain (body_of component) (each-right AtName formals _ after))),
      )

  plain_each : (components : List Component) → Each AtName (flat_map component_outside components) → Each AtName (flat_map component_plain components)
  plain_each [] h = tt
  plain_each (component ∷ more) h =
      each-append AtName (component_plain component) (flat_map component_plain more) (component_plain_each component (each-left AtName (component_outside component) _ h))
      (plain_each more (each-right AtName (component_outside component) _ h))

  -- ---- what is right where operations stand

  abbrev OpRight : OpItem → Type 0
  OpRight op = P (spot_of (op_item_name op).span)

  ops_right : (ops : List OpItem) → Each AtName (map op_item_span ops) → Each OpRight ops
  ops_right [] h = tt
  ops_right (Signed span name signature ∷ ops) h = (h.0, ops_right ops h.1)
  ops_right (Typed span name optype ∷ ops) h = (h.0, ops_right ops h.1)

  sems_right : (semaphores : List Semaphore) → Each AtName (map (λ semaphore. semaphore.name.span) semaphores) → Each (λ semaphore. AtName semaphore.name.span) semaphores
  sems_right [] h = tt
  sems_right (semaphore ∷ more) h = (h.0, sems_right more h.1)

  spec_right : (one : SpecItem) → Each AtName (spec_operations one) → SpecRight P Anywhere one
  spec_right (spec.Op operations) h = ops_right operations.items h
  spec_right (spec.Sem semaphores) h = sems_right semaphores.semaphores h
  spec_right _ h = tt

  item_right : (one : Item) → Each AtName (item_outer one) → ItemRight P Anywhere one
  item_right (item.Spec declared) h = spec_right declared h
  item_right (item.Procedure procedure) h = h.0
  item_right (item.Process process) h = h.0
  item_right _ h = tt

  parts_right : {A : Type 0} (xs : A → List Span) (Right : A → Type 0) → ((a : A) → Each AtName (xs a) → Right a) → (all : List A) → Each AtName (flat_map xs all) → Each Right all
  parts_right xs Right right [] h = tt
  parts_right xs Right right (a ∷ all) h = (right a (each-left AtName (xs a) (flat_map xs all) h), parts_right xs Right right all (each-right AtName (xs a) (flat_map xs all) h))

  component_right : (component : Component) → Each AtName (component_outside component) → ComponentRight P Anywhere component
  component_right component h =
      let specs = flat_map spec_item_names (spec_of component) in
      let formals = flat_map formal_names (formals_of component) in
      let after = each-right AtName specs _ h.1 in (
        parts_right spec_operations (SpecRight P Anywhere) spec_right (spec_of component) (parts_each spec_item_names spec_operations spec_operations_share (spec_of component) (each-left AtName specs _ h.1)),
        parts_right item_outer (ItemRight P Anywhere) item_right (body_of component) (parts_each item_outside item_outer outside_outer (body_of component) (each-right AtName formals _ after)),
      )

  -- ---- what is known stands at names outside

  abbrev PlainRight : Spot → Info → Type 0
  PlainRight spot (info.Operation ty component is_local) = Unit {0}
  PlainRight spot _ = P spot

  plain_right : (spot : Spot) (one : Info) → P spot → PlainRight spot one
  plain_right spot (info.Operation ty component is_local) h = tt
  plain_right spot _ h = h

  abbrev KnowsPlain : Facts → Type 0
  KnowsPlain facts = (spot : Spot) (one : Info) → info_at facts.infos spot ≡ Some one → PlainRight spot one

  plain_with : (facts : Facts) (spot : Spot) (one : Info) → PlainRight spot one → KnowsPlain facts → KnowsPlain (declare facts spot one)
  plain_with facts spot one right h other known is = put_known facts spot one PlainRight right other known is (h other known)

  plain_declares : Declares KnowsPlain P
  plain_declares = record {
    entered = λ facts signature h. h;
    put = λ facts spot one free h. plain_with facts spot one (plain_right spot one free) h;
    operation = λ facts spot ty component is_local h. plain_with facts spot (info.Operation ty component is_local) tt h;
    standing = λ facts component h. h;
  }

  known_right : (spot : Spot) (one : Info) → PlainRight spot one → ((ty : Ty) (component : Spot) (is_local : Bool) → one ≡ info.Operation ty component is_local → P spot) → P spot
  known_right spot (info.Operation ty component is_local) plain operation = operation ty component is_local refl
  known_right spot _ plain operation = plain

  -- what holds of the names outside of code holds of all spots where something is known at first
  pub first_in : (uses : Meanings) (specs : Specs) (files : List File) → Each AtName (flat_map component_outside (components_in files)) → KnownIn P (program_known uses specs files)
  first_in uses specs files outside spot one is =
      let operations : Knows P Anywhere (program_known uses specs files) = first_known P Anywhere uses specs files (parts_right component_outside (ComponentRight P Anywhere) component_right (components_in files) outside) in
      let plain : KnowsPlain (program_known uses specs files) = keeps_known KnowsPlain P plain_declares uses specs files (plain_each (components_in files) outside) (λ other known at. absurd (none-some known at)) in
      known_right spot one (plain spot one is) (λ ty component is_local same. (operations spot (info.Operation ty component is_local) (is ∙ ap Some same)).1)

-- ---- it stays

-- all names of the first list are after a span as all names are
first_after : {xs ys zs : List Span} (span : Span) → Shares xs ys zs → AllByRecursion (λ other. same_spot (spot_of span) other ≡ false) (map spot_of xs) → AllByRecursion (λ other. same_spot (spot_of span) other ≡ false) (map spot_of ys)
first_after span none apart = tt
first_after span (left_out x shares) apart = first_after span shares apart.1
first_after span (in_first x shares) apart = (apart.0, first_after span shares apart.1)
first_after span (in_second x shares) apart = first_after span shares apart.1

first_distinct : {xs ys zs : List Span} → Shares xs ys zs → IsDistinct same_spot (map spot_of xs) → IsDistinct same_spot (map spot_of ys)
unfolding IsDistinct
first_distinct none distinct = tt
first_distinct (left_out x shares) distinct = first_distinct shares distinct.1
first_distinct (in_first x shares) distinct = (first_after x shares distinct.0, first_distinct shares distinct.1)
first_distinct (in_second x shares) distinct = first_distinct shares distinct.1

module _ (uses : Meanings) (specs : Specs) (files : List File) (distinct : IsDistinct same_spot (map spot_of (flat_map file_names files))) where
  abbrev first : Facts
  first = program_known uses specs files

  abbrev inside : List Span
  inside = flat_map component_inside (components_in files)

  -- nothing is known at first where a name in code stands
  pub inside_fresh : Fresh inside first
  inside_fresh = first_in (λ spot. Away spot inside) uses specs files (shares_apart (files_share component_inside component_outside component_shares files) distinct)

  -- what is known at first is known in the end, and so on for each part of the code
  pub all_settled : Settled (components_read (components_in files) first).facts inside first (components_read (components_in files) first).facts
  all_settled = record {
    apart = first_distinct (files_share component_inside component_outside component_shares files) distinct;
    fresh = inside_fresh;
    stays = stays_itself (components_read (components_in files) first).facts;
  }

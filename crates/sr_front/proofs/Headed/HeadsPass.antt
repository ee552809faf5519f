-- Where no rule is broken, each operation that is declared outside of blocks, each type of
-- operations and each component is known by the type that its head makes, and this type has a signature.
use Rattle.std.proofs.Common.{◌≡◌, true, false, List, [], ◌∷◌, ◌++◌, flat_map, map, Some, Ok, inl, inr, refl, sym, ap, subst, ◌∙◌}
use Rattle.std.specs.List.{IsDistinct}
use Rattle.sr_check.specs.Checked.{checked}
use Rattle.sr_check.specs.Components.{head_found as component_found, item_read, items_procs, items_read}
use Rattle.sr_check.specs.ErrorFree.{ErrorFree}
use Rattle.sr_check.specs.Procs.{Procs}
use Rattle.sr_check.proofs.Each.{Each, each-append, each-left, each-right}
use Rattle.sr_check.proofs.ErrorFree.{error_free_both, error_free_first, error_free_second}
use Rattle.sr_front.proofs.Headed.Heads.{component_headed, components_headed, files_headed, head_found, heads_found, item_headed, items_headed, making_type, spec_item_headed, spec_items_headed}
use Rattle.sr_check_decl.specs.TypeTrees.{signature_read}
use Rattle.sr_check_decl.specs.Inferring.{program_known}
use Rattle.sr_check_decl.specs.Parts.{component_decl}
use Rattle.sr_check_expr.specs.declared.facts.Facts.{Facts}
use Rattle.sr_check_expr.specs.declared.info.Info.TheVariants as info
use Rattle.sr_check_expr.specs.Infos.{info_at}
use Rattle.sr_names.specs.declared.spot.Spot.{Spot}
use Rattle.sr_names.specs.Noted.{Meanings}
use Rattle.sr_names.specs.Specs.{Specs}
use Rattle.sr_names.specs.Spots.{same_spot, spot_of}
use Rattle.sr_order.specs.Names.{file_names, formal_names}
use Rattle.sr_outline.specs.Heads.{spec_item_optypes}
use Rattle.sr_outline.specs.Outline.{all_optypes}
use Rattle.sr_scope.proofs.Findings.{in_left, in_right}
use Rattle.sr_scope.specs.declared.program.Names.{Names}
use Rattle.sr_scope.specs.Resolved.{resolved}
use Rattle.sr_scope.specs.Uses.{IsIn}
use Rattle.sr_tables.specs.Parts.{components_in, in_component, in_item}
use Rattle.sr_tree.specs.declared.component.Component.{Component}
use Rattle.sr_tree.specs.declared.component.File.{File}
use Rattle.sr_tree.specs.declared.component.Item.{Item}
use Rattle.sr_tree.specs.declared.component.Item.TheVariants as item
use Rattle.sr_tree.specs.declared.component.Procedure.{Procedure}
use Rattle.sr_tree.specs.declared.component.SpecItem.{SpecItem}
use Rattle.sr_tree.specs.declared.component.SpecItem.TheVariants as spec
use Rattle.sr_tree.specs.Parts.{body_of, formals_of, name_of, spec_of}
use Rattle.sr_types.specs.declared.ty.Ty.{Ty}
use Rattle.sr_value.specs.declared.place.Span.{Span}
use Rattle.sr_front.proofs.Constants.ConstantsChecked.{CheckedAt, checked_whole, checking, part_free}
use Rattle.sr_front.proofs.Own.DeclaredIn.{stands_left, stands_right}
use Rattle.sr_front.proofs.Lists.EachThen.{ComponentThen, each_then}
use Rattle.sr_front.proofs.Known.FilesInOrder.{declared_agrees, final}
use Rattle.sr_front.proofs.Names.FirmNames.{component_loose, item_loose, spec_loose}
use Rattle.sr_front.proofs.Known.FirstNames.{optype_first}
use Rattle.sr_front.proofs.Known.HalfProgram.{Ending, Within, component_met}
use Rattle.sr_front.proofs.Known.HalfWalk.{ComponentMet, Met, half_program}
use Rattle.sr_front.proofs.Headed.HeadMade.{HasNumber}
use Rattle.sr_front.proofs.Known.InfosStay.{Reads}
use Rattle.sr_front.proofs.Known.ItemsInOrder.{body_sites, spec_sites}
use Rattle.sr_front.proofs.Headed.ItemsPass.{making_pass, procedure_pass, process_pass}
use Rattle.sr_front.proofs.Lists.Members.{among_each}
use Rattle.sr_front.proofs.Headed.OptypesPass.{OptypeMade, before_name, before_none, last, optype_made}
use Rattle.sr_front.proofs.Own.OwnOrShared.{stands_among}
use Rattle.sr_front.proofs.Mentioned.ReadsCode.{component_inside, item_inside, reads_item}
use Rattle.sr_front.proofs.Lists.Rising.{Rises}
use Rattle.sr_front.proofs.Headed.SpecsPass.{spec_item_pass}
use Rattle.sr_front.proofs.Typed.TypedHalf.{half_types}
use Rattle.sr_front.proofs.Typed.TypedTypes.{InfosTyped}

-- ---- where the signature of a procedure is checked

module _ (names : List Span) (first : Facts) where
  abbrev Reading : Facts → Type 1
  Reading facts = Reads names first facts

  abbrev ProcedureMet : Procedure → Type 1
  ProcedureMet procedure = Met Reading (λ facts. (signature_read procedure.signature facts).found)

  procedure_at : (procs : Procs) (one : Item) (facts : Facts) → Reading facts → ErrorFree (item_read procs one facts).found → (procedure : Procedure) → one ≡ item.Procedure procedure → ProcedureMet procedure
  procedure_at procs one facts ends whole procedure is =
      record { end = facts; ends = ends; whole = error_free_first (signature_read procedure.signature facts).found _ (subst (λ it. ErrorFree (item_read procs it facts).found) is whole) }

  procedure_met : (procs : Procs) (items : List Item) (facts : Facts) → Within names items → Reading facts → ErrorFree (items_read procs items facts).found → (procedure : Procedure) → IsIn (item.Procedure procedure) items → ProcedureMet procedure
  procedure_met procs [] facts within ends whole procedure k = absurd k
  procedure_met procs (head ∷ items) facts within ends whole procedure (inl e) = procedure_at procs head facts ends (error_free_first (item_read procs head facts).found _ whole) procedure e
  procedure_met procs (head ∷ items) facts within ends whole procedure (inr k) =
      procedure_met procs items (item_read procs head facts).facts
      (λ Free free. each-right (λ span. Free (spot_of span)) (item_inside head) (flat_map item_inside items) (within Free free))
      (λ Q Free steady free h. reads_item procs head facts Q Free steady (each-left (λ span. Free (spot_of span)) (item_inside head) (flat_map item_inside items) (within Free free)) (ends Q Free steady free h))
      (error_free_second (item_read procs head facts).found _ whole) procedure k

-- ---- lists

parts_all : {A B : Type 0} (P : B → Type 0) (parts : A → List B) (all : List A) → ((one : A) → IsIn one all → Each P (parts one)) → Each P (flat_map parts all)
parts_all P parts [] each = tt
parts_all P parts (one ∷ all) each = each-append P (parts one) (flat_map parts all) (each one (inl refl)) (parts_all P parts all (λ other k. each other (inr k)))

specs_all : (facts : Facts) (items : List SpecItem) → ((one : SpecItem) → IsIn one items → ErrorFree (spec_item_headed facts one)) → ErrorFree (spec_items_headed facts items)
specs_all facts [] each = tt
specs_all facts (one ∷ items) each = error_free_both (spec_item_headed facts one) (spec_items_headed facts items) (each one (inl refl)) (specs_all facts items (λ other k. each other (inr k)))

items_all : (facts : Facts) (items : List Item) → ((one : Item) → IsIn one items → ErrorFree (item_headed facts one)) → ErrorFree (items_headed facts items)
items_all facts [] each = tt
items_all facts (one ∷ items) each = error_free_both (item_headed facts one) (items_headed facts items) (each one (inl refl)) (items_all facts items (λ other k. each other (inr k)))

components_all : (facts : Facts) (some : List Component) → ((one : Component) → IsIn one some → ErrorFree (component_headed facts one)) → ErrorFree (components_headed facts some)
components_all facts [] each = tt
components_all facts (one ∷ some) each = error_free_both (component_headed facts one) (components_headed facts some) (each one (inl refl)) (components_all facts some (λ other k. each other (inr k)))

files_all : (facts : Facts) (files : List File) → ((one : Component) → IsIn one (components_in files) → ErrorFree (component_headed facts one)) → ErrorFree (files_headed facts files)
files_all facts [] each = tt
files_all facts (file ∷ files) each =
    error_free_both (components_headed facts file.components) (files_headed facts files) (components_all facts file.components (λ one k. each one (in_left one file.components (components_in files) k)))
    (files_all facts files (λ one k. each one (in_right one file.components (components_in files) k)))

same_optype : (a b : Ty) → Some (info.OpType a) ≡ Some (info.OpType b) → a ≡ b
same_optype a b e = cc

-- what is checked outside of blocks in a component breaks no rule, but for those of heads
pub record Seen (names : List Span) (first : Facts) (component : Component) : Type 1 where
  pub met : ComponentMet (Reads names first) component
  pub procedures : (procedure : Procedure) → IsIn (item.Procedure procedure) (body_of component) → Met (Reads names first) (λ facts. (signature_read procedure.signature facts).found)

-- where all that is checked breaks no rule
seen_in : (all : List Component) (first : Facts) (here : Component) → IsIn here all → CheckedAt all first here → Seen (flat_map component_inside all) first here
seen_in all first here there seen = record { met = component_met all first here there seen; procedures = procedures }
  where
    reading : Facts
    reading = checking all first here seen

    procedures : (procedure : Procedure) → IsIn (item.Procedure procedure) (body_of here) → Met (Reads (flat_map component_inside all) first) (λ facts. (signature_read procedure.signature facts).found)
    procedures =
        procedure_met (flat_map component_inside all) first (items_procs reading (body_of here) []) (body_of here) reading (λ Free free. part_free Free all here there free)
        (λ Q Free steady free h. steady.standing seen.facts (component_decl here) (seen.reads Q Free steady free h)) (error_free_second (component_found here reading) _ seen.whole)

pub seen_whole : (uses : Meanings) (specs : Specs) (files : List File) → ErrorFree (checked uses specs files).found → (component : Component) → IsIn component (components_in files)
    → Seen (flat_map component_inside (components_in files)) (program_known uses specs files) component
seen_whole uses specs files whole component there = seen_in (components_in files) (program_known uses specs files) component there (checked_whole uses specs files whole component there)

module _ (files : List File) (names : Names) (named : resolved files ≡ Ok names) (distinct : IsDistinct same_spot (map spot_of (flat_map file_names files))) (rises : Rises (flat_map file_names files)) (specs : Specs)
    (seen : (component : Component) → IsIn component (components_in files) → Seen (flat_map component_inside (components_in files)) (program_known names.uses specs files) component) where
  abbrev all : List Component
  all = components_in files

  -- all types that are declared are typed
  pub typed : InfosTyped (final files names named distinct rises specs)
  typed =
      half_types (final files names named distinct rises specs)
      (half_program (Ending names.uses specs files) names.uses specs files (declared_agrees files names named distinct rises specs) (λ component there. (seen component there).met))

  abbrev known : Facts
  known = last files names named distinct rises specs typed

  abbrev Ends : Facts → Type 1
  Ends = Reads (flat_map component_inside all) known

  module _ (here : Component) (there : IsIn here all) where
    met : ComponentMet Ends here
    met = (seen here there).met

    at : ComponentThen files names named distinct rises specs here
    at = each_then files names named distinct rises specs here there

    -- ---- types of operations

    spec_optypes : (one : SpecItem) → IsIn one (spec_of here) → Each (OptypeMade files names named distinct rises specs typed) (spec_item_optypes one)
    spec_optypes (spec.OpType declared) k =
        let then = at.in_spec (spec.OpType declared) k in
        let checking_it = met.specs (spec.OpType declared) k in (
          optype_made files names named distinct rises specs typed here there ((name_of here).span ∷ []) (before_name files names named distinct rises specs typed here there) true declared then.0 then.1
              (spec_sites files names named distinct rises specs here there (spec.OpType declared) k) (record { end = checking_it.end; ends = checking_it.ends; whole = checking_it.whole }),
          tt,
        )
    spec_optypes _ k = tt

    item_optypes : (one : Item) → IsIn one (body_of here) → Each (OptypeMade files names named distinct rises specs typed) (in_item spec_item_optypes one)
    item_optypes (item.Spec (spec.OpType declared)) k =
        let then = at.in_body (item.Spec (spec.OpType declared)) k in
        let checking_it = met.items (item.Spec (spec.OpType declared)) k in (
          optype_made files names named distinct rises specs typed here there [] (before_none files names named distinct rises specs typed here) false declared then.0 then.1
              (body_sites files names named distinct rises specs here there (spec.OpType declared) k) (record { end = checking_it.end; ends = checking_it.ends; whole = checking_it.whole }),
          tt,
        )
    item_optypes _ k = tt

    component_optypes : Each (OptypeMade files names named distinct rises specs typed) (in_component spec_item_optypes here)
    component_optypes =
        each-append (OptypeMade files names named distinct rises specs typed) (flat_map spec_item_optypes (spec_of here)) (flat_map (in_item spec_item_optypes) (body_of here))
        (parts_all (OptypeMade files names named distinct rises specs typed) spec_item_optypes (spec_of here) spec_optypes)
        (parts_all (OptypeMade files names named distinct rises specs typed) (in_item spec_item_optypes) (body_of here) item_optypes)

  pub optypes : (spot : Spot) (type : Ty) → info_at known.infos spot ≡ Some (info.OpType type) → HasNumber known type
  optypes spot type is =
      let one = (optype_first names.uses specs files spot type is).1 in
      let made = among_each (OptypeMade files names named distinct rises specs typed) (all_optypes all) one.1.0 one.0
      (parts_all (OptypeMade files names named distinct rises specs typed) (in_component spec_item_optypes) all component_optypes) one.1.1 in
      subst (HasNumber known) (same_optype _ type (sym made.is ∙ ap (info_at known.infos) one.2 ∙ is)) made.has

  -- ---- components

  module _ (here : Component) (there : IsIn here all) where
    spec_pass : (one : SpecItem) → IsIn one (spec_of here) → ErrorFree (spec_item_headed known one)
    spec_pass one k =
        let then = (at here there).in_spec one k in
        spec_item_pass files names named distinct rises specs typed here ((name_of here).span ∷ []) (before_name files names named distinct rises specs typed here there) there optypes true one then.0 then.1
        (spec_sites files names named distinct rises specs here there one k) ((met here there).specs one k)
        (λ spot stands. stands_among component_loose all here spot there (stands_left spot (flat_map spec_loose (spec_of here)) _ (stands_among spec_loose (spec_of here) one spot k stands)))

    item_pass : (one : Item) → IsIn one (body_of here) → ErrorFree (item_headed known one)
    item_pass (item.Spec one) k =
        let then = (at here there).in_body (item.Spec one) k in
        spec_item_pass files names named distinct rises specs typed here [] (before_none files names named distinct rises specs typed here) there optypes false one then.0 then.1
        (body_sites files names named distinct rises specs here there one k) ((met here there).items (item.Spec one) k)
        (λ spot stands.
        stands_among component_loose all here spot there
        (stands_right spot (flat_map spec_loose (spec_of here)) _ (stands_right spot (flat_map formal_names (formals_of here)) _ (stands_among item_loose (body_of here) (item.Spec one) spot k stands))))
    item_pass (item.Procedure procedure) k =
        let then = (at here there).in_body (item.Procedure procedure) k in
        procedure_pass files names named distinct rises specs typed here there procedure k then.0 then.1 ((seen here there).procedures procedure k)
    item_pass (item.Process process) k = let then = (at here there).in_body (item.Process process) k in process_pass files names named distinct rises specs typed here there process then.0 then.1
    item_pass _ k = tt

    component_pass : ErrorFree (component_headed known here)
    component_pass =
        let head = (at here there).head in
        error_free_both (head_found known (name_of here) (making_type known here)) (spec_items_headed known (spec_of here) ++ items_headed known (body_of here))
        (making_pass files names named distinct rises specs typed here there head.0 head.1 (met here there).head)
        (error_free_both (spec_items_headed known (spec_of here)) (items_headed known (body_of here)) (specs_all known (spec_of here) spec_pass) (items_all known (body_of here) item_pass))

  -- nothing is found in heads
  pub heads_free : ErrorFree (heads_found names.uses specs files)
  heads_free = files_all known files component_pass

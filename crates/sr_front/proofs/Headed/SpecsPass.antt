-- What stands in a spec, or in a body outside of code, is known in the end by the type that its head makes then: operations,
-- semaphores and types of operations.
use Rattle.std.proofs.Common.{◌≡◌, inl, ℕ, Bool, false, List, [], ◌∷◌, ◌++◌, append_assoc, flat_map, map, None, Some, Ok, refl, ap, subst}
use Rattle.std.specs.List.{IsDistinct}
use Rattle.sr_check.specs.ErrorFree.{ErrorFree}
use Rattle.sr_check.proofs.Each.{Each, each-left, each-right}
use Rattle.sr_check.proofs.Entered.{keeps_ops}
use Rattle.sr_check.proofs.ErrorFree.{error_free_both}
use Rattle.sr_check_decl.specs.declared.tally.Tally.{Tally}
use Rattle.sr_check_decl.specs.Declaring.{operation, semaphore_signature, sems_declared, spec_item_declared}
use Rattle.sr_check_decl.specs.Entering.{entered, ops_entered}
use Rattle.sr_front.proofs.Headed.Heads.{declared_type, head_found, ops_headed, sems_headed, spec_item_headed}
use Rattle.sr_check_decl.specs.TypeTrees.{operation_type}
use Rattle.sr_check_decl.specs.Variables.{declare}
use Rattle.sr_check_expr.specs.declared.facts.Facts.{Facts}
use Rattle.sr_check_expr.specs.declared.info.Info.{Info}
use Rattle.sr_check_expr.specs.Infos.{info_at}
use Rattle.sr_names.specs.declared.spot.Spot.{Spot}
use Rattle.sr_names.specs.Specs.{Specs}
use Rattle.sr_names.specs.Spots.{same_spot, spot_of}
use Rattle.sr_names.proofs.Marking.{entry-same}
use Rattle.sr_order.specs.Names.{file_names, op_names, semaphore_names, spec_item_names}
use Rattle.sr_scope.specs.declared.program.Names.{Names}
use Rattle.sr_scope.specs.Resolved.{resolved}
use Rattle.sr_scope.specs.Uses.{IsIn}
use Rattle.sr_tables.specs.Parts.{components_in}
use Rattle.sr_tree.specs.declared.component.Component.{Component}
use Rattle.sr_tree.specs.declared.component.File.{File}
use Rattle.sr_tree.specs.declared.component.SpecItem.{SpecItem}
use Rattle.sr_tree.specs.declared.component.SpecItem.TheVariants as spec
use Rattle.sr_tree.specs.declared.declaration.OpDecl.{OpDecl}
use Rattle.sr_tree.specs.declared.declaration.Semaphore.{Semaphore}
use Rattle.sr_tree.specs.Parts.{name_of}
use Rattle.sr_types.specs.Signatures.{number_of}
use Rattle.sr_value.specs.declared.place.Span.{Span}
use Rattle.sr_front.proofs.Own.DeclaredIn.{Stands}
use Rattle.sr_front.proofs.Known.FilesInOrder.{SitesOf, final}
use Rattle.sr_front.proofs.Names.FirmNames.{spec_loose}
use Rattle.sr_front.proofs.Known.HalfWalk.{SpecMet}
use Rattle.sr_front.proofs.Headed.HeadMade.{HasNumber, head_free, operation_made}
use Rattle.sr_front.proofs.Known.ItemsInOrder.{Fine, LastsBy, Same, same_all, sited_all}
use Rattle.sr_front.proofs.Known.KeptAll.{LeadsAll, keeps_ops_declared, keeps_sems_declared}
use Rattle.sr_front.proofs.Known.KeptDeclared as declares
use Rattle.sr_front.proofs.Known.KeptNames.{Anywhere, anywhere}
use Rattle.sr_front.proofs.Headed.OpsPass.{OptypesSigned, each_op, ops_pass}
use Rattle.sr_front.proofs.Headed.OptypesPass.{Ending, OwnBefore, Then, from_spec, last, last_ends, optype_headed, optype_made, stays_known}
use Rattle.sr_front.proofs.Known.OrderKept.{Other, StillPart, part_lasts, still_part}
use Rattle.sr_front.proofs.Lists.Rising.{BeforeAll, IsBefore, Rises, before_away, rises_right}
use Rattle.sr_front.proofs.Known.ThenKnown.{counts_keeps, counts_known, info_keeps, plain_leads, typed_now}
use Rattle.sr_front.proofs.Typed.TypedTypes.{Counts, InfosTyped, counts_itself, counts_through, entered_number, later_itself}
use Rattle.sr_front.proofs.Known.TypeSites.{Reached, end_counts, loose, part_at, reached}

module _ (files : List File) (names : Names) (named : resolved files ≡ Ok names) (distinct : IsDistinct same_spot (map spot_of (flat_map file_names files))) (rises : Rises (flat_map file_names files)) (specs : Specs)
    (typed : InfosTyped (final files names named distinct rises specs)) where
  abbrev end : Facts
  end = final files names named distinct rises specs

  abbrev known : Facts
  known = last files names named distinct rises specs typed

  abbrev Ends : Facts → Type 1
  Ends = Ending files names named distinct rises specs typed

  abbrev Means : Facts → Facts → Span → Type 0
  Means = Same files names named distinct rises specs

  module _ (here : Component) (own : List Span) (own_before : OwnBefore files names named distinct rises specs typed here own) where
    abbrev Before : List Span → Type 0
    Before = BeforeAll (spot_of (name_of here).span)

    abbrev At : List Span → Facts → Facts → Type 1
    At = Then files names named distinct rises specs typed here own

    -- ---- semaphores

    pub sems_pass : (semaphores : List Semaphore) (now : Facts) (rest : List Span) → Rises (flat_map semaphore_names semaphores ++ rest) → Before (flat_map semaphore_names semaphores) → LeadsAll (own ++ rest) (sems_declared false semaphores now) end
        → ErrorFree (sems_headed known semaphores)
    sems_pass [] now rest rising first leads = tt
    sems_pass (semaphore ∷ semaphores) now rest rising first leads =
        error_free_both (head_found known semaphore.name (operation_type known semaphore_signature)) (sems_headed known semaphores)
        (head_free known semaphore.name (operation_type known semaphore_signature) (operation_type before semaphore_signature) made.0 made.1 (ap declared_type is))
        (sems_pass semaphores after rest (rises_right part (more ++ rest) rising_here) (each-right (λ span. IsBefore (spot_of (name_of here).span) (spot_of span)) part more first) leads)
      where
        part : List Span
        part = semaphore_names semaphore

        more : List Span
        more = flat_map semaphore_names semaphores

        spot : Spot
        spot = spot_of semaphore.name.span

        before : Facts
        before = entered semaphore_signature now

        one : Info
        one = operation before false (operation_type before semaphore_signature)

        after : Facts
        after = declare before spot one

        rising_here : Rises (part ++ (more ++ rest))
        rising_here = subst Rises (append_assoc part more rest) rising

        before_more : BeforeAll spot (more ++ rest)
        before_more = each-right (λ span. IsBefore spot (spot_of span)) _ (more ++ rest) rising_here.0

        number : (n : ℕ) × (number_of before.signatures semaphore_signature ≡ Some n)
        number = entered_number now.signatures semaphore_signature

        counts : Counts before known
        counts =
            counts_known files names named distinct rises specs (own ++ rest) before (sems_declared false semaphores after) leads
            (keeps_sems_declared (Counts before) Anywhere (counts_keeps before) false semaphores after (anywhere more) (counts_itself before))

        made : HasNumber known (operation_type known semaphore_signature) × (operation_type before semaphore_signature ≡ operation_type known semaphore_signature)
        made = operation_made semaphore_signature before before known number.0 number.1 (counts_itself before) counts

        is : info_at known.infos spot ≡ Some one
        is =
            stays_known files names named distinct rises specs typed here own own_before rest (sems_declared false semaphores after) spot one leads first.0
            (each-right (λ span. IsBefore spot (spot_of span)) more rest before_more)
            (keeps_sems_declared (λ facts. info_at facts.infos spot ≡ Some one) (λ at. same_spot spot at ≡ false) (info_keeps spot one) false semaphores after
            (before_away spot more (each-left (λ span. IsBefore spot (spot_of span)) more rest before_more)) (entry-same before.infos spot one))

    -- ---- operations

    module _ (there : IsIn here (components_in files)) (optypes : OptypesSigned known) where
      op_decl_pass : (in_spec : Bool) (operations : OpDecl) (tally : Tally) → At (op_names operations) tally.facts (spec_item_declared in_spec (spec.Op operations) tally).facts
          → SitesOf files names named distinct rises specs here there (spec.Op operations) → SpecMet Ends in_spec (spec.Op operations)
          → ((spot : Spot) → Stands spot (spec_loose (spec.Op operations)) → Stands spot (loose files names named distinct rises specs)) → ErrorFree (ops_headed known operations.items)
      op_decl_pass in_spec operations tally at sites met among =
          ops_pass files names named distinct rises specs typed optypes here own own_before before operations.items before (later_itself before)
          (each_op files names named distinct rises specs typed optypes met.end met.ends operations.items now
          (typed_now files names named distinct rises specs own (part ++ at.rest) now own_before.components at.inv (from_spec files names named distinct rises specs typed here own in_spec (spec.Op operations) tally at) typed)
          there_now.uses (same met.end met.ends) (same known (last_ends files names named distinct rises specs typed)) met.whole (counts met.end met.ends) (counts known (last_ends files names named distinct rises specs typed)))
          at.rest at.rising (each-left (λ span. IsBefore (spot_of (name_of here).span) (spot_of span)) part at.rest at.before) at.leads
          (λ spot stands. keeps_ops (λ facts. part_at facts spot ≡ None) (λ facts signature h. h) operations.items now (there_now.none spot (among spot stands)))
        where
          now : Facts
          now = tally.facts

          part : List Span
          part = op_names operations

          before : Facts
          before = ops_entered operations.items now

          there_now : Reached files names named distinct rises specs now
          there_now = reached files names named distinct rises specs (part ++ at.rest) now at.inv.0

          lasts : LastsBy files names named distinct rises specs (Fine files names named distinct rises specs at.rest None) now
          lasts spot stands fine =
              let known_part = part_at now spot in
              part_lasts files names named distinct rises specs at.rest (spec_item_declared in_spec (spec.Op operations) tally).facts spot known_part
              (plain_leads files names named distinct rises specs own at.rest (spec_item_declared in_spec (spec.Op operations) tally).facts own_before.components at.leads) stands fine.0
              (declares.keeps_spec_item (StillPart spot known_part) (Other spot known_part) (still_part spot known_part) in_spec (spec.Op operations) tally tt (inl refl))

          same : (facts : Facts) → Ends facts → Each (Means now facts) part
          same facts ends =
              same_all files names named distinct rises specs here there (Fine files names named distinct rises specs at.rest None) now facts ends there_now lasts part
              (sited_all files names named distinct rises specs here there None at.rest part at.rising (sites.right refl))

          counts : (facts : Facts) → Ends facts → Counts before facts
          counts facts ends =
              counts_through before end facts
              (at.leads (Counts before) Anywhere (counts_keeps before) (anywhere (own ++ at.rest)) (keeps_ops_declared (Counts before) Anywhere (counts_keeps before) false operations.items before (anywhere part) (counts_itself before)))
              (end_counts files names named distinct rises specs facts ends)

      -- each item of a spec
      pub spec_item_pass : (in_spec : Bool) (one : SpecItem) (tally : Tally) → At (spec_item_names one) tally.facts (spec_item_declared in_spec one tally).facts → SitesOf files names named distinct rises specs here there one
          → SpecMet Ends in_spec one → ((spot : Spot) → Stands spot (spec_loose one) → Stands spot (loose files names named distinct rises specs)) → ErrorFree (spec_item_headed known one)
      spec_item_pass in_spec (spec.OpType declared) tally at sites met among =
          optype_headed files names named distinct rises specs typed declared
          (optype_made files names named distinct rises specs typed here there own own_before in_spec declared tally at sites (record { end = met.end; ends = met.ends; whole = met.whole }))
      spec_item_pass in_spec (spec.Op operations) tally at sites met among = op_decl_pass in_spec operations tally at sites met among
      spec_item_pass in_spec (spec.Sem semaphores) tally at sites met among =
          sems_pass semaphores.semaphores tally.facts at.rest at.rising (each-left (λ span. IsBefore (spot_of (name_of here).span) (spot_of span)) (flat_map semaphore_names semaphores.semaphores) at.rest at.before) at.leads
      spec_item_pass in_spec _ tally at sites met among = tt

-- Procedures, processes and what makes instances are known in the end by the types that their heads make then.
use Rattle.std.proofs.Common.{◌≡◌, inl, ℕ, Bool, false, List, [], ◌∷◌, ◌++◌, append_assoc, flat_map, map, None, Some, Ok, refl, sym, ap, subst, ◌∙◌, if◌then◌else◌}
use Rattle.std.specs.List.{IsDistinct}
use Rattle.sr_check.specs.ErrorFree.{ErrorFree}
use Rattle.sr_check.proofs.Each.{Each, each-left, each-right}
use Rattle.sr_check_decl.specs.declared.kind.NamedParam.{NamedParam}
use Rattle.sr_check_decl.specs.declared.kind.Signed.{Signed}
use Rattle.sr_check_decl.specs.declared.tally.Tally.{Tally}
use Rattle.sr_check_decl.specs.Declaring.{component_formals, component_typed, head_declared, item_declared, making, operation, process_signature, written_type}
use Rattle.sr_check_decl.specs.Entering.{entered, formal_read_in, formals_entered, in_turn, signature_entered, signed_entered}
use Rattle.sr_front.proofs.Headed.Heads.{declared_type, head_found, making_type}
use Rattle.sr_check_decl.specs.TypeTrees.{formal_read, formals_at, formals_found, is_refused, operation_type, signature_read, signature_type, whole_signature}
use Rattle.sr_check_expr.specs.declared.facts.Facts.{Facts}
use Rattle.sr_check_expr.specs.declared.info.Info.{Info}
use Rattle.sr_check_expr.specs.declared.info.Info.TheVariants as info
use Rattle.sr_check_expr.specs.Infos.{info_at}
use Rattle.sr_names.specs.declared.spot.Spot.{Spot}
use Rattle.sr_names.specs.Specs.{Specs}
use Rattle.sr_names.specs.Spots.{same_spot, spot_of}
use Rattle.sr_names.proofs.Marking.{entry-same}
use Rattle.sr_order.specs.Names.{block_names, file_names, formal_names, item_names, signature_names}
use Rattle.sr_scope.specs.declared.program.Names.{Names}
use Rattle.sr_scope.specs.Resolved.{resolved}
use Rattle.sr_scope.specs.Uses.{IsIn}
use Rattle.sr_tables.specs.Parts.{components_in}
use Rattle.sr_tree.specs.declared.component.Component.{Component}
use Rattle.sr_tree.specs.declared.component.File.{File}
use Rattle.sr_tree.specs.declared.component.Item.{Item}
use Rattle.sr_tree.specs.declared.component.Item.TheVariants as item
use Rattle.sr_tree.specs.declared.component.Procedure.{Procedure}
use Rattle.sr_tree.specs.declared.component.Process.{Process}
use Rattle.sr_tree.specs.Parts.{body_of, formals_of, name_of}
use Rattle.sr_types.specs.declared.ty.Ty.TheVariants as ty
use Rattle.sr_types.specs.Signatures.{number_of}
use Rattle.sr_value.specs.declared.place.Span.{Span}
use Rattle.sr_front.proofs.Known.DeclaredAgrees.{HeadAgrees}
use Rattle.sr_front.proofs.Known.FilesInOrder.{final}
use Rattle.sr_front.proofs.Known.HalfWalk.{Met}
use Rattle.sr_front.proofs.Headed.HeadMade.{HasNumber, WrittenMade, head_free, operation_made, written_made}
use Rattle.sr_front.proofs.Known.ItemsInOrder.{Fine, LastsBy, Same, head_agrees, same_all, sited_all}
use Rattle.sr_front.proofs.Known.KeptAll.{LeadsAll, keeps_head, keeps_item, keeps_params}
use Rattle.sr_front.proofs.Known.KeptDeclared as declares
use Rattle.sr_front.proofs.Known.KeptFormals.{component_params_free}
use Rattle.sr_front.proofs.Known.KeptNames.{Anywhere, anywhere}
use Rattle.sr_front.proofs.Headed.OptypesPass.{Ending, Then, before_none, last, last_ends, stays_known}
use Rattle.sr_front.proofs.Known.OrderKept.{Other, StillPart, part_lasts, still_part}
use Rattle.sr_front.proofs.Names.ProcedureNames.{procedure_names_right}
use Rattle.sr_front.proofs.Lists.Rising.{IsBefore, Rises, before_away}
use Rattle.sr_front.proofs.Known.ThenKnown.{counts_keeps, counts_known, info_keeps, known_stays, own_name, own_none, plain_leads, typed_now}
use Rattle.sr_front.proofs.Typed.TypedTypes.{Agrees, Counts, FormalsRead, InfosTyped, ParamsTyped, counts_itself, counts_through, entered_number, formals_agree, formals_typed, later_itself, signature_uses, signed_is, signed_kept}
use Rattle.sr_front.proofs.Known.TypeSites.{Reached, agrees_each, end_counts, end_uses, part_at, reached}
use Rattle.sr_front.proofs.Names.UsesAmong.{uses_of_signature}

module _ (files : List File) (names : Names) (named : resolved files ≡ Ok names) (distinct : IsDistinct same_spot (map spot_of (flat_map file_names files))) (rises : Rises (flat_map file_names files)) (specs : Specs)
    (typed : InfosTyped (final files names named distinct rises specs)) where
  abbrev end : Facts
  end = final files names named distinct rises specs

  abbrev known : Facts
  known = last files names named distinct rises specs typed

  abbrev Ends : Facts → Type 1
  Ends = Ending files names named distinct rises specs typed

  abbrev ends_known : Ends known
  ends_known = last_ends files names named distinct rises specs typed

  abbrev Means : Facts → Facts → Span → Type 0
  Means = Same files names named distinct rises specs

  module _ (here : Component) (there : IsIn here (components_in files)) where
    abbrev At : List Span → Facts → Facts → Type 1
    At = Then files names named distinct rises specs typed here []

    from_item : (one : Item) (tally : Tally) (at : At (item_names one) tally.facts (item_declared one tally).facts) → LeadsAll (item_names one ++ at.rest) tally.facts end
    from_item one tally at Q Free declared free h =
        at.leads Q Free declared (each-right (λ span. Free (spot_of span)) (item_names one) at.rest free)
        (keeps_item Q Free declared one tally (each-left (λ span. Free (spot_of span)) (item_names one) at.rest free) h)

    -- ---- procedures

    pub procedure_pass : (procedure : Procedure) → IsIn (item.Procedure procedure) (body_of here) → (tally : Tally) → At (item_names (item.Procedure procedure)) tally.facts (item_declared (item.Procedure procedure) tally).facts
        → Met Ends (λ facts. (signature_read procedure.signature facts).found) → ErrorFree (head_found known procedure.name (written_type procedure.signature known))
    procedure_pass procedure among tally at met = head_free known procedure.name (written_type procedure.signature known) (written_type procedure.signature before) made.has made.same (ap declared_type is)
      where
        now : Facts
        now = tally.facts

        signed : List Span
        signed = signature_names procedure.signature

        part : List Span
        part = item_names (item.Procedure procedure)

        inside : List Span
        inside = signed ++ block_names procedure.block

        after : Facts
        after = (item_declared (item.Procedure procedure) tally).facts

        before : Facts
        before = signature_entered procedure.signature now

        spot : Spot
        spot = spot_of procedure.name.span

        one : Info
        one = operation before false (written_type procedure.signature before)

        there_now : Reached files names named distinct rises specs now
        there_now = reached files names named distinct rises specs (part ++ at.rest) now at.inv.0

        all : InfosTyped now
        all = typed_now files names named distinct rises specs [] (part ++ at.rest) now (own_none files names named distinct rises specs) at.inv (from_item (item.Procedure procedure) tally at) typed

        lasts : LastsBy files names named distinct rises specs (Fine files names named distinct rises specs (block_names procedure.block ++ at.rest) None) now
        lasts at_spot stands fine =
            let known_part = part_at now at_spot in
            part_lasts files names named distinct rises specs at.rest after at_spot known_part (plain_leads files names named distinct rises specs [] at.rest after (own_none files names named distinct rises specs) at.leads) stands
            (each-right (λ span. same_spot at_spot (spot_of span) ≡ false) (block_names procedure.block) at.rest fine.0)
            (declares.keeps_item (StillPart at_spot known_part) (Other at_spot known_part) (still_part at_spot known_part) (item.Procedure procedure) tally tt (inl refl))

        rising_signed : Rises (signed ++ (block_names procedure.block ++ at.rest))
        rising_signed = subst Rises (append_assoc signed (block_names procedure.block) at.rest) at.rising.1

        same : (facts : Facts) → Ends facts → Each (Means now facts) signed
        same facts ends =
            same_all files names named distinct rises specs here there (Fine files names named distinct rises specs (block_names procedure.block ++ at.rest) None) now facts ends there_now lasts signed
            (sited_all files names named distinct rises specs here there None (block_names procedure.block ++ at.rest) signed rising_signed (procedure_names_right files names named distinct here there procedure among))

        agree : (facts : Facts) → Ends facts → Each (Agrees now facts) (signature_uses procedure.signature)
        agree facts ends =
            agrees_each files names named distinct rises specs now facts there_now.uses (end_uses files names named distinct rises specs facts ends) (signature_uses procedure.signature)
            (uses_of_signature (Means now facts) procedure.signature (same facts ends))

        counts : (facts : Facts) → Ends facts → Counts before facts
        counts facts ends = counts_through before end facts (at.leads (Counts before) Anywhere (counts_keeps before) (anywhere at.rest) (counts_itself before)) (end_counts files names named distinct rises specs facts ends)

        made : WrittenMade procedure.signature before known
        made =
            written_made procedure.signature now before met.end known all (later_itself before) (agree met.end met.ends) (counts met.end met.ends) met.whole (agree known ends_known) (counts known ends_known)

        is : info_at known.infos spot ≡ Some one
        is =
            stays_known files names named distinct rises specs typed here [] (before_none files names named distinct rises specs typed here) at.rest after spot one at.leads at.before.0
            (each-right (λ span. IsBefore spot (spot_of span)) inside at.rest at.rising.0) (entry-same before.infos spot one)

    -- ---- processes

    pub process_pass : (process : Process) (tally : Tally) → At (item_names (item.Process process)) tally.facts (item_declared (item.Process process) tally).facts
        → ErrorFree (head_found known process.name (operation_type known (process_signature process.quantifiers)))
    process_pass process tally at = head_free known process.name (operation_type known (process_signature process.quantifiers)) (operation_type before (process_signature process.quantifiers)) made.0 made.1 (ap declared_type is)
      where
        before : Facts
        before = entered (process_signature process.quantifiers) tally.facts

        after : Facts
        after = (item_declared (item.Process process) tally).facts

        spot : Spot
        spot = spot_of process.name.span

        one : Info
        one = operation before false (operation_type before (process_signature process.quantifiers))

        number : (n : ℕ) × (number_of before.signatures (process_signature process.quantifiers) ≡ Some n)
        number = entered_number tally.facts.signatures (process_signature process.quantifiers)

        made : HasNumber known (operation_type known (process_signature process.quantifiers)) × (operation_type before (process_signature process.quantifiers) ≡ operation_type known (process_signature process.quantifiers))
        made =
            operation_made (process_signature process.quantifiers) before before known number.0 number.1 (counts_itself before)
            (counts_known files names named distinct rises specs at.rest before after at.leads (counts_itself before))

        is : info_at known.infos spot ≡ Some one
        is =
            stays_known files names named distinct rises specs typed here [] (before_none files names named distinct rises specs typed here) at.rest after spot one at.leads at.before.0
            (each-right (λ span. IsBefore spot (spot_of span)) _ at.rest at.rising.0) (entry-same before.infos spot one)

    -- ---- what makes an instance

    pub making_pass : (now : Facts) → At (flat_map formal_names (formals_of here)) now (head_declared here now) → Met Ends (λ facts. formals_found (formals_at (map formal_read (formals_of here)) facts false))
        → ErrorFree (head_found known (name_of here) (making_type known here))
    making_pass now at met = head_free known (name_of here) (making_type known here) (signature_type made signed) (record { number = number.0; signature = whole_signature signed; is = last_is; at = counts_last (whole_signature signed) number.0 number.1 })
        (made_is ∙ sym last_is) (ap declared_type is)
      where
        formals : List Span
        formals = flat_map formal_names (formals_of here)

        before : Facts
        before = formals_entered (formals_of here) now

        params : List NamedParam
        params = component_formals before (formals_of here)

        signed : Signed
        signed = making params

        made : Facts
        made = signed_entered signed before

        after : Facts
        after = head_declared here now

        spot : Spot
        spot = spot_of (name_of here).span

        one : Info
        one = info.Component (signature_type made signed)

        from_now : LeadsAll (((name_of here).span ∷ []) ++ (formals ++ at.rest)) now end
        from_now Q Free declared free h =
            at.leads Q Free declared (each-right (λ span. Free (spot_of span)) formals at.rest free.1) (keeps_head Q Free declared here now free.0 (each-left (λ span. Free (spot_of span)) formals at.rest free.1) h)

        all : InfosTyped now
        all = typed_now files names named distinct rises specs ((name_of here).span ∷ []) (formals ++ at.rest) now (own_name files names named distinct rises specs here there) at.inv from_now typed

        agrees : HeadAgrees Ends here now
        agrees =
            head_agrees files names named distinct rises specs here there now at.rest (reached files names named distinct rises specs (formals ++ at.rest) now at.inv.0) at.rising
            (plain_leads files names named distinct rises specs [] at.rest after (own_none files names named distinct rises specs) at.leads)

        read : (facts : Facts) → Ends facts → FormalsRead now (in_turn (map formal_read_in (formals_of here)) now) (component_formals facts (formals_of here)) (formals_found (formals_at (map formal_read (formals_of here)) facts false))
        read facts ends = let agree = agrees facts ends in formals_agree (formals_of here) now facts false all agree.0 agree.1

        same_params : params ≡ (in_turn (map formal_read_in (formals_of here)) now).read
        same_params = (formals_typed (formals_of here) now before false all (later_itself before)).same

        params_typed : ParamsTyped params
        params_typed = subst ParamsTyped (sym same_params) ((read met.end met.ends).typed met.whole)

        kept : is_refused signed ≡ false
        kept = signed_kept signed (record { params = params_typed; returned = tt })

        number : (n : ℕ) × (number_of made.signatures (whole_signature signed) ≡ Some n)
        number =
            let at_entered = entered_number before.signatures (whole_signature signed) in
            (at_entered.0, ap (λ (met : Bool). number_of (if met then before else entered (whole_signature signed) before).signatures (whole_signature signed)) kept ∙ at_entered.1)

        params_free : (Free : Spot → Type 0) → Each (λ span. Free (spot_of span)) formals → Each (λ (param : NamedParam). Free param.spot) params
        params_free Free free = component_params_free Free (formals_of here) before free

        counts_last : Counts made known
        counts_last =
            counts_known files names named distinct rises specs at.rest made after at.leads
            (keeps_params (Counts made) Anywhere (counts_keeps made) params (component_typed (name_of here) signed made) (params_free Anywhere (anywhere formals)) (counts_itself made))

        last_params : component_formals known (formals_of here) ≡ params
        last_params = (read known ends_known).same ∙ sym same_params

        last_is : making_type known here ≡ ty.Op number.0
        last_is = ap (λ some. signature_type known (making some)) last_params ∙ signed_is known signed number.0 kept (counts_last (whole_signature signed) number.0 number.1)

        made_is : signature_type made signed ≡ ty.Op number.0
        made_is = signed_is made signed number.0 kept number.1

        is : info_at known.infos spot ≡ Some one
        is =
            known_stays files names named distinct rises specs at.rest after spot one at.leads (before_away spot at.rest (each-right (λ span. IsBefore spot (spot_of span)) formals at.rest at.before))
            (keeps_params (λ facts. info_at facts.infos spot ≡ Some one) (λ other. same_spot spot other ≡ false) (info_keeps spot one) params (component_typed (name_of here) signed made)
            (params_free (λ other. same_spot spot other ≡ false) (before_away spot formals (each-left (λ span. IsBefore spot (spot_of span)) formals at.rest at.before))) (entry-same made.infos spot one))

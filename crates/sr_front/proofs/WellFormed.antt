-- The core of a program that is accepted is well formed.
use Rattle.std.proofs.Common.{◌≡◌, ℕ, List, map, None, sym, ap, ◌∙◌, subst}
use Rattle.std.specs.Prelude.{All, flat_map, IsTrue}
use Rattle.std.specs.List.{IsDistinct, list_all}
use Rattle.sr_scope.specs.Uses.{IsIn}
use Rattle.sr_tree.specs.declared.component.Component.{Component}
use Rattle.sr_check.specs.ErrorFree.{ErrorFree}
use Rattle.sr_check.specs.Checked.{checked, first_refused}
use Rattle.sr_check.specs.Servicing.{AllServiceOwn, ServesShared}
use Rattle.sr_check.proofs.Kept.{all_service_own, facts_known, none_found, none_refused, uses_kept}
use Rattle.sr_check_decl.specs.Inferring.{program_known}
use Rattle.sr_check_expr.specs.declared.facts.Facts.{Facts}
use Rattle.sr_core.specs.WellFormed.{IsWellFormed}
use Rattle.sr_names.specs.Noted.{Meanings}
use Rattle.sr_names.specs.Spots.{same_spot, spot_of}
use Rattle.sr_order.specs.Names.{file_names}
use Rattle.sr_order.specs.Spans.{statement_spans, operation_spans, component_spans}
use Rattle.sr_order.proofs.FileNames.{names-picked}
use Rattle.sr_order.proofs.Files.{statements-picked, operations-picked, components-picked}
use Rattle.sr_outline.specs.Numbers.{component_served, served_spots}
use Rattle.sr_scope.proofs.FoundFiles.{one_meaning}
use Rattle.sr_tables.specs.Parts.{components_in}
use Rattle.sr_tree.specs.declared.component.File.{File}
use Rattle.sr_desugar.specs.Core.{core_of}
use Rattle.sr_desugar.specs.Laws.{WaitApart}
use Rattle.sr_desugar.proofs.CoreNumbers.{codes, procs}
use Rattle.sr_desugar.proofs.WaitsEach.{core_waits}
use Rattle.sr_front.specs.declared.program.Checked.{Checked}
use Rattle.sr_front.specs.Formals.{HasFormals, arms_own, proc_own}
use Rattle.sr_front.specs.Imports.{HasImports}
use Rattle.sr_front.specs.Invocations.{HasInvocations}
use Rattle.sr_front.specs.Program.{IsAccepted}
use Rattle.sr_front.specs.Sites.{HasSites}
use Rattle.sr_front.specs.Variables.{HasVariables}
use Rattle.sr_front.proofs.Mentioned.ReadsCode.{component_inside}
use Rattle.sr_front.proofs.Known.ThenKnown.{known_typed}
use Rattle.sr_front.proofs.Typed.TypedTypes.{InfosTyped}
use Rattle.sr_front.proofs.Headed.Heads.{heads_found}
use Rattle.sr_front.proofs.Headed.HeadsPass.{Seen, heads_free, optypes as optypes_numbered, seen_whole, typed}
use Rattle.sr_front.proofs.Known.FreeBlocks.{FreeComponents}
use Rattle.sr_front.proofs.EffectFree.AllowedCode.{accepted_allowed}
use Rattle.sr_front.proofs.Served.Clear.{all_clear}
use Rattle.sr_front.proofs.Known.Declared.{Apart, all_component_keys}
use Rattle.sr_front.proofs.Names.Findings.{has_main}
use Rattle.sr_front.proofs.CoreComponents.{main_is}
use Rattle.sr_front.proofs.Invoked.Invokes.{called_ok, forwarded_ok, made_ok, sent_ok}
use Rattle.sr_front.proofs.Served.Operations.{operations_ok, components, core, imports, tables}
use Rattle.sr_front.proofs.Served.ProcNumbers.{numbers_are_ok}
use Rattle.sr_front.proofs.Constants.ConstantsTyped.{constant_typed}
use Rattle.sr_front.proofs.Constants.ConstantTypes.{typed_static}
use Rattle.sr_front.proofs.EffectFree.EffectFreeCode.{files_facts}
use Rattle.sr_front.proofs.EffectFree.EffectFreeCore.{accepted_effect_free}
use Rattle.sr_front.proofs.Known.FilesInOrder.{declared_agrees}
use Rattle.sr_front.proofs.Known.FreeFiles.{free_components}
use Rattle.sr_front.proofs.Lists.Rising.{Rises, names_rise}
use Rattle.sr_front.proofs.Typed.TypedCode.{Good}
use Rattle.sr_front.proofs.Typed.TypedProgram.{program_good}
use Rattle.sr_front.proofs.Names.UsedSorts.{used_sort}
use Rattle.sr_front.proofs.Served.ServedApart.{all_serve_shared, served_apart}
use Rattle.sr_front.proofs.Served.Services.{procs_serve_own}
use Rattle.sr_front.proofs.Served.Sites.{sites_are_listed, sites_are_own, sites_are_served, sites_have_scopes, sites_well}
use Rattle.sr_front.proofs.Served.SiteCode.{arms_own_ok, code_imported_ok, guards_ok, imported_ok, otherwise_ok, own_ok}
use Rattle.sr_front.proofs.Names.Spelled.{no_final_in_globals}
use Rattle.sr_front.proofs.Names.SpotsApart.{spots-apart}
use Rattle.sr_front.proofs.Own.OwnOrShared.{ConstantsStatic}
use Rattle.sr_front.proofs.Constants.SharedRulesMet.{no_vars_met, values_met}
use Rattle.sr_front.proofs.Mentioned.VariablesStand.{variables_stand}
use Rattle.sr_front.proofs.Served.WaitApart.{waits_apart}
use Rattle.sr_front.proofs.CoreParts.{well_made}
use Rattle.sr_check.proofs.Owners.{Plain}
use Rattle.sr_names.specs.declared.spot.Spot.{Spot}
use Rattle.sr_desugar.proofs.WaitsCode.{ComponentsOkay}
use Rattle.sr_front.proofs.Headed.Headed.{Headed}
use Rattle.sr_front.proofs.Headed.KnownHeaded.{known_headed}
use Rattle.sr_front.proofs.Headed.Optypes.{OptypesHeaded}
use Rattle.sr_front.proofs.Headed.OptypesKnown.{optypes_known}
use Rattle.sr_front.proofs.Own.OwnCore.{all_own}

module _ (contents : List (List ℕ)) (accepted : Checked) (is : IsAccepted contents accepted) where
  abbrev trees : List File
  trees = accepted.trees

  abbrev facts : Facts
  facts = accepted.facts

  abbrev uses : Meanings
  uses = is.names.uses

  abbrev known : Facts
  known = program_known uses is.names.specs trees

  -- what names mean stays when types are looked at
  kept : facts.uses ≡ uses
  kept = ap (λ (f : Facts). f.uses) (facts_known uses is.names.specs trees facts is.checked) ∙ uses_kept uses is.names.specs trees

  none : first_refused uses is.names.specs trees ≡ None
  none = none_refused uses is.names.specs trees facts is.checked

  services : AllServiceOwn uses trees known
  services = all_service_own uses is.names.specs trees none

  apart : Apart trees
  apart = record { operations = spots-apart operation_spans operations-picked contents trees is.read; components = spots-apart component_spans components-picked contents trees is.read }

  names_apart : IsDistinct same_spot (map spot_of (flat_map file_names trees))
  names_apart = spots-apart file_names names-picked contents trees is.read

  -- the operations that procs serve are different, also over components
  once : IsDistinct same_spot (flat_map (component_served facts) (components_in trees))
  once = served_apart trees is.names is.named names_apart known facts kept services apart

  -- what a proc serves is declared outside of blocks
  shared : All (ServesShared facts.uses trees) (components_in trees)
  shared = subst (λ meanings. All (ServesShared meanings trees) (components_in trees)) (sym kept) (all_serve_shared trees is.names is.named names_apart)

  own_services : AllServiceOwn facts.uses trees known
  own_services = subst (λ meanings. AllServiceOwn meanings trees known) (sym kept) services

  -- statements that wait stand at different spots
  wait_apart : WaitApart trees facts
  wait_apart = waits_apart trees facts (spots-apart statement_spans statements-picked contents trees is.read)

  pub accepted_well_formed : IsWellFormed (core_of trees facts)
  accepted_well_formed = record {
    main = main_is trees facts (has_main trees is.names is.named);
    components =
        well_made trees facts is.names is.named kept (subst (IsDistinct same_spot) (all_component_keys trees) apart.components) (one_meaning trees names_apart)
        (no_final_in_globals is.read.parsed);
    operations = operations_ok trees facts apart;
    procs = procs_serve_own uses trees known facts kept services apart once;
    sites =
        sites_well (core_of trees facts) (sites_are_served trees known facts own_services apart once shared (all_clear facts (components_in trees)))
        (accepted_effect_free uses is.names.specs contents trees facts is.read is.checked);
    numbers = numbers_are_ok uses trees known facts kept services apart (codes trees facts) (procs trees facts);
    allowed = accepted_allowed uses is.names.specs trees facts none;
    waits = core_waits trees facts wait_apart;
  }

  -- what each site says fits its operations, and where its `in` stands
  pub accepted_sites : HasSites (core_of trees facts)
  accepted_sites = record {
    otherwise = otherwise_ok uses trees known facts kept services apart wait_apart;
    own = own_ok uses trees known facts kept services apart wait_apart (sites_are_own trees known facts own_services apart once shared (all_clear facts (components_in trees)));
    scopes = sites_have_scopes trees known facts own_services apart once shared (all_clear facts (components_in trees));
    guards = guards_ok uses trees known facts kept services apart wait_apart;
    lists = sites_are_listed trees known facts own_services apart once shared (all_clear facts (components_in trees));
  }

  -- ---- heads

  -- names stand in the order of the text
  rises : Rises (flat_map file_names trees)
  rises = names_rise contents trees is.read

  -- what is checked outside of blocks
  seen : (component : Component) → IsIn component (components_in trees) → Seen (flat_map component_inside (components_in trees)) known component
  seen = seen_whole uses is.names.specs trees (none_found uses is.names.specs trees none)

  -- all that is declared outside of blocks is known by the types that heads make
  heads_known : ErrorFree (heads_found uses is.names.specs trees)
  heads_known = heads_free trees is.names is.named names_apart rises is.names.specs seen

  infos_typed : InfosTyped known
  infos_typed = known_typed trees is.names is.named names_apart rises is.names.specs (typed trees is.names is.named names_apart rises is.names.specs seen)

  -- so it is in blocks, and no type is known where code declares operations
  free : FreeComponents (components_in trees) known
  free =
      free_components uses is.names.specs trees names_apart heads_known rises infos_typed (λ spot type at. optypes_numbered trees is.names is.named names_apart rises is.names.specs seen spot type at)
      is.read.parsed

  abbrev served : List Spot
  served = served_spots facts (components_in trees)

  -- each type of operations that is declared has a signature that fits its head
  optypes : OptypesHeaded (tables trees facts).heads known
  optypes = optypes_known uses is.names.specs trees facts (tables trees facts).shapes heads_known names_apart

  -- and so has each operation that is known at first
  headed : Plain (Headed (components_in trees) served (tables trees facts).operations) uses known
  headed = known_headed uses is.names.specs trees facts kept (tables trees facts).shapes (tables trees facts).heads served apart heads_known optypes

  services_owned : ComponentsOkay (λ number count owns. arms_own owns) facts (tables trees facts) (imports trees facts) 0 (components trees facts) × IsTrue (list_all proc_own (core trees facts).procs)
  services_owned = all_own uses is.names.specs trees facts kept (facts_known uses is.names.specs trees facts is.checked) none apart names_apart headed optypes free

  -- the variables that stand for formals are own ones
  pub accepted_formals : HasFormals (core_of trees facts)
  accepted_formals = record { arms = arms_own_ok uses trees known facts kept services apart wait_apart services_owned.0; procs = services_owned.1 }

  -- the imported globals that code and sites name are imported
  pub accepted_imports : HasImports (core_of trees facts)
  accepted_imports = record {
    code = code_imported_ok uses trees known facts kept services apart wait_apart;
    sites = imported_ok uses trees known facts kept services apart wait_apart;
  }

  known_facts : facts ≡ (checked uses is.names.specs trees).facts
  known_facts = facts_known uses is.names.specs trees facts is.checked

  -- what its code invokes may be invoked
  pub accepted_invocations : HasInvocations (core_of trees facts)
  accepted_invocations =
      let components_apart = subst (IsDistinct same_spot) (all_component_keys trees) apart.components in
      record {
        made = made_ok is.names.specs trees facts is.names is.named kept services apart components_apart names_apart none heads_known free known_facts;
        called = called_ok is.names.specs trees facts is.names is.named kept services apart components_apart names_apart none heads_known free known_facts;
        sent = sent_ok is.names.specs trees facts is.names is.named kept services apart components_apart names_apart none heads_known free known_facts;
        forwarded = forwarded_ok is.names.specs trees facts is.names is.named kept services apart components_apart names_apart none heads_known free known_facts;
      }

  -- ---- types

  -- all that is known before code is read has a type
  good : Good known
  good = program_good trees is.names is.named names_apart apart none heads_known (declared_agrees trees is.names is.named names_apart rises is.names.specs)

  -- the constants in the specs of resources are static
  specs_static : ConstantsStatic trees facts
  specs_static =
      subst (ConstantsStatic trees) (sym (known_facts ∙ files_facts trees known))
      (typed_static trees is.names is.named names_apart rises is.names.specs none
      (λ component there constant among resource. constant_typed uses is.names.specs trees none free good component there constant among))

  -- each shared variable that code and sites name is one that the component has which is meant
  pub accepted_variables : HasVariables (core_of trees facts)
  accepted_variables =
      variables_stand is.names.specs trees facts is.names is.named kept services apart names_apart none heads_known free known_facts wait_apart
      (record { specs = record { static = specs_static; no_vars = no_vars_met is.read.parsed }; values = values_met uses is.names.specs trees none })
      (λ component there spot decl. used_sort trees is.names is.named names_apart rises is.names.specs facts apart known_facts component there spot decl) good

-- In an accepted program what waits for its type gets nothing static: what is known before code is read is known after the declarations, or isn't static.
use Rattle.std.proofs.Common.{◌≡◌, ◌⊎◌, inl, inr, Bool, true, false, List, [], ◌∷◌, flat_map, map, Option, Some, None, Ok, is_some, refl, sym, ap, subst, ◌∙◌}
use Rattle.std.proofs.lemmas.Bool.{false≢true}
use Rattle.std.specs.List.{IsDistinct}
use Rattle.sr_check.proofs.Each.{Each}
use Rattle.sr_check.proofs.Entered.{keeps_written}
use Rattle.sr_check_decl.specs.Declaring.{files_named, no_facts, program_declared, standing}
use Rattle.sr_check_decl.specs.Inferring.{program_known}
use Rattle.sr_check_expr.specs.declared.facts.Facts.{Facts}
use Rattle.sr_check_expr.specs.declared.info.Info.{Info}
use Rattle.sr_check_expr.specs.Infos.{info_at}
use Rattle.sr_names.specs.declared.spot.Spot.{Spot}
use Rattle.sr_names.specs.Specs.{Specs}
use Rattle.sr_names.specs.Spots.{same_spot, spot_of}
use Rattle.sr_names.specs.Uses.{meaning_at}
use Rattle.sr_order.specs.Names.{const_names, expr_names, file_names, type_names, where_some}
use Rattle.sr_scope.specs.declared.program.Names.{Names}
use Rattle.sr_scope.specs.Resolved.{resolved}
use Rattle.sr_scope.specs.Uses.{IsIn}
use Rattle.sr_tables.specs.Parts.{component_spot, components_in}
use Rattle.sr_tree.specs.declared.component.Component.{Component}
use Rattle.sr_tree.specs.declared.component.File.{File}
use Rattle.sr_tree.specs.declared.component.Item.TheVariants as item
use Rattle.sr_tree.specs.declared.component.SpecItem.TheVariants as spec
use Rattle.sr_tree.specs.declared.declaration.ConstDecl.{ConstDecl}
use Rattle.sr_tree.specs.Parts.{body_of, spec_of}
use Rattle.sr_value.specs.declared.place.Span.{Span}
use Rattle.sr_front.proofs.Known.ComponentsKnown.{AllKnown, KnownInv, known_kept, named_known, named_uses}
use Rattle.sr_front.proofs.Constants.ConstantNames.{Ends, IsComponentInfo, types_same, value_same}
use Rattle.sr_front.proofs.Constants.ConstantsThen.{reading}
use Rattle.sr_front.proofs.Constants.ConstantsWait.{AllRead, ReadThen, gets_unknown}
use Rattle.sr_front.proofs.Own.DeclaredIn.{stands_left, stands_right, Stands}
use Rattle.sr_front.proofs.Known.DeclaredThen.{ComponentFits, KeepsInv, ThenAt, ThenIn, inv_declared, names_of_components, then_declared}
use Rattle.sr_front.proofs.Names.FirmNames.{component_firm, component_loose, component_own, firm_from_own, item_firm, spec_firm}
use Rattle.sr_front.proofs.Known.FirstFits.{HeadFits}
use Rattle.sr_front.proofs.Known.Lasting.{Away}
use Rattle.sr_front.proofs.Names.OwnApart.{each_stands}
use Rattle.sr_front.proofs.Own.OwnOrShared.{stands_among}
use Rattle.sr_front.proofs.Known.ProgramDeclared.{OuterFits, first_fit, good}
use Rattle.sr_front.proofs.Known.ProgramFits.{PartsGood}
use Rattle.sr_front.proofs.Names.ProgramWords.{ProgramWord, firm_plain, firm_words}
use Rattle.sr_front.proofs.Lists.Rising.{Rises}
use Rattle.sr_front.proofs.Constants.StaticExprs.{SameUses}
use Rattle.sr_front.proofs.Constants.StaticNames.{SameMeaning}
use Rattle.sr_front.proofs.Known.TypesBefore.{Inv, ItemGood, SpecGood, inv_kept}
use Rattle.sr_front.proofs.Names.RightNames.{RightAt, body_names_right, spec_names_right}
use Rattle.sr_front.proofs.Constants.WavedEnds.{Outer, not_away, own_map, own_stands, waved_ends}
use Rattle.sr_front.proofs.Constants.WavesIdle.{Waved, waved_known, waved_standing}

module _ (files : List File) (names : Names) (named : resolved files ≡ Ok names) (distinct : IsDistinct same_spot (map spot_of (flat_map file_names files))) (rises : Rises (flat_map file_names files)) (specs : Specs) where
  abbrev pub all : List Component
  all = components_in files

  abbrev pub own : List Span
  own = flat_map component_own all

  abbrev pub firm : List Span
  firm = flat_map component_firm all

  abbrev pub components : List Span
  components = names_of_components files

  abbrev pub last : Facts
  last = program_declared names.uses specs files

  abbrev pub Word : Spot → Type 0
  Word = ProgramWord files distinct rises names.uses specs last

  abbrev pub Fits : Spot → Info → Type 0
  Fits = OuterFits files distinct Word

  abbrev pub Base : List Span → Facts → Type 0
  Base = Inv Word Fits

  abbrev pub Whole : List Span → Facts → Type 0
  Whole = KnownInv files names.uses Base (SpecGood Word Fits) (ItemGood Word Fits) (HeadFits Fits) (inv_kept Word Fits)

  abbrev pub keeps : KeepsInv Whole (SpecGood Word Fits) (ItemGood Word Fits) (HeadFits Fits)
  keeps = known_kept files names.uses Base (SpecGood Word Fits) (ItemGood Word Fits) (HeadFits Fits) (inv_kept Word Fits)

  abbrev pub Fit : Component → Type 0
  Fit = ComponentFits Whole (SpecGood Word Fits) (ItemGood Word Fits) (HeadFits Fits) keeps components last

  fit_each : (some : List Component) → Each (PartsGood (flat_map component_loose all) own firm Word) some → Each Fit some
  fit_each [] parts = tt
  fit_each (one ∷ some) parts = (record { specs = parts.0.specs; head = parts.0.head; items = parts.0.items }, fit_each some parts.1)

  pub fits : Each Fit all
  fits = fit_each all (good files distinct Word (firm_words files distinct rises names.uses specs last) names.uses specs)

  pub first_whole : Whole (flat_map file_names files) (files_named files (no_facts names.uses specs))
  first_whole = (first_fit files distinct Word (firm_words files distinct rises names.uses specs last) names.uses specs (flat_map file_names files), (named_known files names.uses specs, named_uses files names.uses specs))

  pub whole_last : Whole [] last
  whole_last = inv_declared Whole (SpecGood Word Fits) (ItemGood Word Fits) (HeadFits Fits) keeps names.uses specs files fits first_whole rises

  pub last_uses : last.uses ≡ names.uses
  last_uses = whole_last.1.1

  -- a component is known at its name
  pub component_info_at : (facts : Facts) → ((spot : Spot) (one : Info) → info_at facts.infos spot ≡ Some one → IsComponentInfo (Some one) ⊎ Away spot own) → AllKnown files facts
      → (component : Component) → IsIn component all → IsComponentInfo (info_at facts.infos (component_spot component))
  component_info_at facts fit known component there = by (info_at facts.infos (component_spot component)) refl (known component there)
    where
      is_component : (one : Info) → IsComponentInfo (Some one) ⊎ Away (component_spot component) own → IsComponentInfo (Some one)
      is_component one (inl h) = h
      is_component one (inr away) = absurd (not_away (component_spot component) own (own_stands all component there) away)

      by : (found : Option Info) → info_at facts.infos (component_spot component) ≡ found → is_some found ≡ true → IsComponentInfo (info_at facts.infos (component_spot component))
      by None is h = absurd (false≢true h)
      by (Some one) is h = subst IsComponentInfo (sym is) (is_component one (fit (component_spot component) one is))

  -- the end of waves
  pub ends_after : (end : Facts) → Waved last end → Ends files components Fits (Outer files distinct last) last end
  ends_after end waved = waved_ends files distinct last (λ spot one is. let h = whole_last.0 spot one is in (h.0.0, h.1)) whole_last.1.0 end waved

  module _ (here : Component) (there : IsIn here all) (in_spec : Bool) (constant : ConstDecl) (whole : ThenAt Whole components last in_spec constant) where
    abbrev pub declared : ThenAt Base components last in_spec constant
    declared = record { now = whole.now; after = whole.after; inv = whole.inv.0; rises = whole.rises; leads = whole.leads }

    pub known_then : (component : Component) → IsIn component all → IsComponentInfo (info_at declared.now.infos (component_spot component))
    known_then = component_info_at whole.now (λ spot one is. (whole.inv.0 spot one is).0.0.1.0) whole.inv.1.0

    pub reading_uses : (reading Base components last in_spec constant declared).uses ≡ names.uses
    reading_uses = keeps_written (λ facts. facts.uses ≡ names.uses) (λ facts signature h. h) constant.ty whole.now whole.inv.1.1

    -- the names in its value tell the same
    pub uses_same : (end : Facts) → Ends files components Fits (Outer files distinct last) last end → end.uses ≡ names.uses
        → ((used : Span) → IsIn used (const_names constant) → RightAt files names named distinct here there (Some (spot_of constant.name.span)) used)
        → SameUses (reading Base components last in_spec constant declared) end (expr_names constant.value)
    uses_same end ends uses right =
        value_same files components Fits (Outer files distinct last) last end ends in_spec constant declared known_then
        (λ used k decl means. let so = right used k decl (ap (λ meanings. meaning_at meanings (spot_of used)) (sym uses) ∙ means) in (so.0.0, so.1)) (reading_uses ∙ sym uses)

    -- the names in its type mean the same
    pub meanings_then : (end : Facts) → Ends files components Fits (Outer files distinct last) last end → end.uses ≡ names.uses
        → ((used : Span) → IsIn used (const_names constant) → RightAt files names named distinct here there (Some (spot_of constant.name.span)) used)
        → Each (λ used. SameMeaning (reading Base components last in_spec constant declared) end (meaning_at end.uses (spot_of used))) (where_some type_names constant.ty)
    meanings_then end ends uses right =
        types_same files components Fits (Outer files distinct last) last end ends in_spec constant declared known_then
        (λ used k decl means. let so = right used k decl (ap (λ meanings. meaning_at meanings (spot_of used)) (sym uses) ∙ means) in (so.0.0, so.1))

    abbrev pub read_then : Away (spot_of constant.name.span) components → Stands (spot_of constant.name.span) firm
        → ((used : Span) → IsIn used (const_names constant) → RightAt files names named distinct here there (Some (spot_of constant.name.span)) used) → ReadThen Base components last in_spec constant
    read_then away stands right = record {
      declared = declared;
      away = away;
      plain = firm_plain files distinct rises names.uses specs (spot_of constant.name.span) stands;
      same = λ facts component waved.
          uses_same (standing facts component) (ends_after (standing facts component) (waved_standing last facts component waved)) (waved.uses ∙ last_uses) right;
    }

  -- where the constants of a component are declared
  pub wholes : (component : Component) → IsIn component all → ThenIn Whole (SpecGood Word Fits) (ItemGood Word Fits) (HeadFits Fits) keeps components last component
  wholes = then_declared Whole (SpecGood Word Fits) (ItemGood Word Fits) (HeadFits Fits) keeps names.uses specs files fits first_whole rises

  pub spec_stands : (component : Component) → IsIn component all → (constant : ConstDecl) → IsIn (spec.Const constant) (spec_of component) → Stands (spot_of constant.name.span) firm
  spec_stands component there constant among =
      let spot = spot_of constant.name.span in
      stands_among component_firm all component spot there (stands_left spot (flat_map spec_firm (spec_of component)) _ (stands_among spec_firm (spec_of component) (spec.Const constant) spot among (inl refl)))

  body_stands : (component : Component) → IsIn component all → (constant : ConstDecl) → IsIn (item.Spec (spec.Const constant)) (body_of component) → Stands (spot_of constant.name.span) firm
  body_stands component there constant among =
      let spot = spot_of constant.name.span in
      stands_among component_firm all component spot there
      (stands_right spot (flat_map spec_firm (spec_of component)) _ (stands_among item_firm (body_of component) (item.Spec (spec.Const constant)) spot among (inl refl)))

  pub firm_away : (spot : Spot) → Stands spot firm → Away spot components
  firm_away spot stands = own_map spot all (each_stands (λ at. Away at own) firm (firm_from_own files distinct) spot stands)

  pub spec_read : (component : Component) → IsIn component all → (constant : ConstDecl) → IsIn (spec.Const constant) (spec_of component) → ReadThen Base components last true constant
  spec_read component there constant among =
      let stands = spec_stands component there constant among in
      read_then component there true constant ((wholes component there).specs constant among) (firm_away (spot_of constant.name.span) stands) stands (spec_names_right files names named distinct component there (spec.Const constant) refl among)

  body_read : (component : Component) → IsIn component all → (constant : ConstDecl) → IsIn (item.Spec (spec.Const constant)) (body_of component) → ReadThen Base components last false constant
  body_read component there constant among =
      let stands = body_stands component there constant among in
      read_then component there false constant ((wholes component there).body constant among) (firm_away (spot_of constant.name.span) stands) stands (body_names_right files names named distinct component there (spec.Const constant) refl among)

  all_read : (component : Component) → IsIn component all → AllRead Base components last component
  all_read component there = record { specs = spec_read component there; body = body_read component there }

  -- what is known before code is read
  pub known_waved : Waved last (program_known names.uses specs files)
  known_waved = waved_known names.uses specs files (gets_unknown Base components last files all_read)

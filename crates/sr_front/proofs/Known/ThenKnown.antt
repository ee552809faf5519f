-- Where an item is declared its types are typed if they are in the end, and what is declared stays known in the end.
use Rattle.std.proofs.Common.{◌≡◌, ◌⊎◌, inl, inr, false, List, [], ◌∷◌, ◌++◌, flat_map, map, Option, Some, None, Ok, refl, sym, ap, subst, ◌∙◌}
use Rattle.std.specs.List.{IsDistinct}
use Rattle.sr_check.proofs.Each.{Each, each-append}
use Rattle.sr_check_decl.specs.Inferring.{program_known}
use Rattle.sr_check_expr.specs.declared.facts.Facts.{Facts}
use Rattle.sr_check_expr.specs.declared.info.Info.{Info}
use Rattle.sr_check_expr.specs.Infos.{info_at}
use Rattle.sr_names.specs.declared.spot.Spot.{Spot}
use Rattle.sr_names.specs.Specs.{Specs}
use Rattle.sr_names.specs.Spots.{same_spot, spot_of}
use Rattle.sr_names.proofs.Marking.{entry-other}
use Rattle.sr_order.specs.Names.{file_names}
use Rattle.sr_scope.specs.declared.program.Names.{Names}
use Rattle.sr_scope.specs.Resolved.{resolved}
use Rattle.sr_scope.specs.Uses.{IsIn}
use Rattle.sr_tables.specs.Parts.{component_spot, components_in}
use Rattle.sr_tree.specs.declared.component.Component.{Component}
use Rattle.sr_tree.specs.declared.component.File.{File}
use Rattle.sr_tree.specs.Parts.{name_of}
use Rattle.sr_types.specs.Signatures.{number_of}
use Rattle.sr_value.specs.declared.place.Span.{Span}
use Rattle.sr_front.proofs.Own.DeclaredIn.{Stands}
use Rattle.sr_front.proofs.Known.DeclaredThen.{Leads, in_map, names_of_components, one_free}
use Rattle.sr_front.proofs.Known.FilesInOrder.{Inv, final}
use Rattle.sr_front.proofs.Known.KeptAll.{KeepsAll, LeadsAll}
use Rattle.sr_front.proofs.Known.KeptNames.{Anywhere, anywhere}
use Rattle.sr_front.proofs.Known.Lasting.{Away}
use Rattle.sr_front.proofs.Known.ProgramReads.{known_waved}
use Rattle.sr_front.proofs.Lists.Rising.{Rises}
use Rattle.sr_front.proofs.Typed.Typed.{FoundTyped}
use Rattle.sr_front.proofs.Typed.TypedTypes.{Counts, InfosTyped, entered_counts, type_part}
use Rattle.sr_front.proofs.Known.TypeSites.{Reached, part_at, reached, waiting_part}
use Rattle.sr_front.proofs.Known.TypesInOrder.{away_or_stands}
use Rattle.sr_front.proofs.Constants.WavesIdle.{Waved}

-- ---- what stays

module _ (spot : Spot) where
  abbrev Other : Spot → Type 0
  Other at = same_spot spot at ≡ false

  pub info_keeps : (one : Info) → KeepsAll (λ facts. info_at facts.infos spot ≡ Some one) Other
  info_keeps one = record { entered = λ facts signature h. h; put = λ facts at other apart h. entry-other facts.infos at other spot apart ∙ h; standing = λ facts component h. h }

  pub part_keeps : (part : Option Info) → KeepsAll (λ facts. part_at facts spot ≡ part) Other
  part_keeps part = record { entered = λ facts signature h. h; put = λ facts at other apart h. ap type_part (entry-other facts.infos at other spot apart) ∙ h; standing = λ facts component h. h }

pub counts_keeps : (before : Facts) → KeepsAll (Counts before) Anywhere
counts_keeps before = record { entered = entered_counts before; put = λ facts spot one free h. h; standing = λ facts component h. h }

module _ (files : List File) (names : Names) (named : resolved files ≡ Ok names) (distinct : IsDistinct same_spot (map spot_of (flat_map file_names files))) (rises : Rises (flat_map file_names files)) (specs : Specs) where
  abbrev all : List Component
  all = components_in files

  abbrev components : List Span
  components = names_of_components files

  abbrev end : Facts
  end = final files names named distinct rises specs

  abbrev pub known : Facts
  known = program_known names.uses specs files

  waves : Waved end known
  waves = known_waved files names named distinct rises specs

  -- what is declared stays known in the end, where its name isn't declared again
  pub known_stays : (after : List Span) (now : Facts) (spot : Spot) (one : Info) → LeadsAll after now end → Away spot after → info_at now.infos spot ≡ Some one → info_at known.infos spot ≡ Some one
  known_stays after now spot one leads away is = waves.kept spot one (leads (λ facts. info_at facts.infos spot ≡ Some one) (λ at. same_spot spot at ≡ false) (info_keeps spot one) away is)

  pub counts_known : (after : List Span) (before now : Facts) → LeadsAll after now end → Counts before now → Counts before known
  counts_known after before now leads counts signature n at =
      ap (λ signatures. number_of signatures signature) waves.signatures ∙ leads (Counts before) Anywhere (counts_keeps before) (anywhere after) counts signature n at

  -- names of components alone
  abbrev pub Own : List Span → Type 1
  Own own = (Free : Spot → Type 0) → Each (λ span. Free (spot_of span)) components → Each (λ span. Free (spot_of span)) own

  pub own_none : Own []
  own_none Free all_named = tt

  pub own_name : (here : Component) → IsIn here all → Own ((name_of here).span ∷ [])
  own_name here there Free all_named = (one_free Free components (name_of here).span (in_map all here there) all_named, tt)

  pub plain_leads : (own rest : List Span) (now : Facts) → Own own → LeadsAll (own ++ rest) now end → Leads components rest now end
  plain_leads own rest now named_own leads Q Free declares all_named free h =
      leads Q Free (record { entered = declares.entered; put = declares.put; standing = declares.standing }) (each-append (λ span. Free (spot_of span)) own rest (named_own Free all_named) free) h

  -- ---- types are typed before, too

  component_there : (some : List Component) (spot : Spot) → Stands spot (map (λ (one : Component). (name_of one).span) some) → (component : Component) × IsIn component some × (spot ≡ component_spot component)
  component_there [] spot k = absurd k
  component_there (one ∷ some) spot (inl e) = (one, inl refl, sym e)
  component_there (one ∷ some) spot (inr k) = let found = component_there some spot k in (found.0, inr found.1, found.2)

  pub typed_now : (own after : List Span) (now : Facts) → Own own → Inv files names named distinct rises specs after now → LeadsAll (own ++ after) now end → InfosTyped end → InfosTyped now
  typed_now own after now named_own inv leads typed spot = by (away_or_stands spot components) (away_or_stands spot after)
    where
      there : Reached files names named distinct rises specs now
      there = reached files names named distinct rises specs after now inv.0

      by : Away spot components ⊎ Stands spot components → Away spot after ⊎ Stands spot after → FoundTyped (part_at now spot)
      by (inr stands) found =
          let component = component_there all spot stands in
          subst FoundTyped (sym (ap (part_at now) component.2 ∙ there.components component.0 component.1)) tt
      by (inl away) (inr stands) = subst FoundTyped (sym (inv.1 spot stands away)) tt
      by (inl away) (inl far) =
          let same : part_at end spot ≡ part_at now spot =
          leads (λ facts. part_at facts spot ≡ part_at now spot) (λ at. same_spot spot at ≡ false) (part_keeps spot (part_at now spot))
          (each-append (λ span. same_spot spot (spot_of span) ≡ false) own after (named_own (λ at. same_spot spot at ≡ false) away) far) refl in
          subst FoundTyped same (typed spot)

  -- in the end types are typed as after the declarations
  pub known_typed : InfosTyped end → InfosTyped known
  known_typed typed spot = subst FoundTyped (sym (known_part spot (info_at end.infos spot) refl)) (typed spot)
    where
      known_part : (at : Spot) (found : Option Info) → info_at end.infos at ≡ found → part_at known at ≡ part_at end at
      known_part at None is = waiting_part (info_at known.infos at) (waves.others at is) ∙ sym (ap type_part is)
      known_part at (Some one) is = ap type_part (waves.kept at one is ∙ sym is)

-- After waves the end is as names in constants need it.
use Rattle.std.proofs.Common.{◌≡◌, ◌⊎◌, inl, inr, true, false, List, [], ◌∷◌, flat_map, map, Option, Some, None, is_some, refl, sym, ap, subst, ◌∙◌}
use Rattle.std.proofs.lemmas.Bool.{false≢true}
use Rattle.std.specs.List.{IsDistinct}
use Rattle.sr_check.proofs.Each.{Each}
use Rattle.sr_check_expr.specs.declared.facts.Facts.{Facts}
use Rattle.sr_check_expr.specs.declared.info.Info.{Info}
use Rattle.sr_check_expr.specs.Infos.{info_at}
use Rattle.sr_names.proofs.LinkLemmas.{same_spot-refl}
use Rattle.sr_names.specs.declared.meaning.Sort.{Sort}
use Rattle.sr_names.specs.declared.spot.Spot.{Spot}
use Rattle.sr_names.specs.Sorts.{needs_order}
use Rattle.sr_names.specs.Spots.{same_spot, spot_of}
use Rattle.sr_order.specs.Names.{file_names}
use Rattle.sr_scope.proofs.OwnNames.{own_names}
use Rattle.sr_scope.specs.Uses.{IsIn}
use Rattle.sr_tables.specs.Parts.{component_spot, components_in, spot_named}
use Rattle.sr_tree.specs.declared.component.Component.{Component}
use Rattle.sr_tree.specs.declared.component.File.{File}
use Rattle.sr_tree.specs.declared.name.Name.{Name}
use Rattle.sr_tree.specs.Parts.{name_of}
use Rattle.sr_value.specs.declared.place.Span.{Span}
use Rattle.sr_front.proofs.Known.ComponentsKnown.{AllKnown}
use Rattle.sr_front.proofs.Constants.ConstantNames.{Ends, IsComponentInfo}
use Rattle.sr_front.proofs.Own.DeclaredIn.{Stands}
use Rattle.sr_front.proofs.Known.DeclaredThen.{names_of_components}
use Rattle.sr_front.proofs.Names.FirmNames.{component_firm, component_loose, component_own, firm_from_own, firm_outer, loose_from_own, loose_outer}
use Rattle.sr_front.proofs.Known.FirstFits.{AllFit}
use Rattle.sr_front.proofs.Known.Lasting.{Away}
use Rattle.sr_front.proofs.Names.OwnApart.{IsPlaced, each_stands, own_placed}
use Rattle.sr_front.proofs.Own.OwnOrShared.{stands_among}
use Rattle.sr_front.proofs.Known.ProgramFits.{ProgramFits}
use Rattle.sr_front.proofs.Mentioned.ReadsCode.{component_inside}
use Rattle.sr_front.proofs.Known.SameThen.{waiting_idle}
use Rattle.sr_front.proofs.Constants.StaticNames.{IsIdle, IsSound}
use Rattle.sr_front.proofs.Constants.WavesIdle.{Waved}

-- no spot is away from itself
pub not_away : (spot : Spot) (names : List Span) → Stands spot names → Away spot names → ⊥
not_away spot [] k away = k
not_away spot (name ∷ names) (inl e) away = false≢true (sym away.0 ∙ ap (same_spot spot) e ∙ same_spot-refl spot)
not_away spot (name ∷ names) (inr k) away = not_away spot names k away.1

pub own_map : (spot : Spot) (all : List Component) → Away spot (flat_map component_own all) → Away spot (map (λ (one : Component). (name_of one).span) all)
own_map spot [] away = tt
own_map spot (one ∷ all) away = (away.0, own_map spot all away.1)

pub own_stands : (all : List Component) (component : Component) → IsIn component all → Stands (component_spot component) (flat_map component_own all)
own_stands [] component k = absurd k
own_stands (one ∷ all) component (inl e) = inl (ap component_spot e)
own_stands (one ∷ all) component (inr k) = inr (own_stands all component k)

module _ (files : List File) (distinct : IsDistinct same_spot (map spot_of (flat_map file_names files))) (last : Facts) where
  abbrev all : List Component
  all = components_in files

  abbrev loose : List Span
  loose = flat_map component_loose all

  abbrev own : List Span
  own = flat_map component_own all

  abbrev firm : List Span
  firm = flat_map component_firm all

  -- a name outside of code
  abbrev pub Outer : Spot → Type 0
  Outer spot = Away spot (flat_map component_inside all)

  placed : (component : Component) → IsIn component all → (one : Sort × Name) → IsIn one (own_names component) → IsPlaced loose firm one
  placed component there one among = by (own_placed component one among)
    where
      by : IsPlaced (component_loose component) (component_firm component) one → IsPlaced loose firm one
      by (inl h) = inl (stands_among component_loose all component (spot_named one.1) there h)
      by (inr h) = inr (stands_among component_firm all component (spot_named one.1) there h.0, h.1)

  at_own : (P : Spot → Type 0) → Each (λ span. P (spot_of span)) loose → Each (λ span. P (spot_of span)) firm → (component : Component) → IsIn component all → (one : Sort × Name) → IsIn one (own_names component) → P (spot_named one.1)
  at_own P at_loose at_firm component there one among = by (placed component there one among)
    where
      by : IsPlaced loose firm one → P (spot_named one.1)
      by (inl h) = each_stands P loose at_loose (spot_named one.1) h
      by (inr h) = each_stands P firm at_firm (spot_named one.1) h.0

  module _ (fit : AllFit (ProgramFits loose own firm) last) (known : AllKnown files last) where
    sound : (spot : Spot) → IsSound (info_at last.infos spot)
    sound spot = by (info_at last.infos spot) refl
      where
        by : (found : Option Info) → info_at last.infos spot ≡ found → IsSound found
        by None is = tt
        by (Some one) is = (fit spot one is).1

    component_at : (component : Component) → IsIn component all → (one : Info) × (info_at last.infos (component_spot component) ≡ Some one) × IsComponentInfo (Some one)
    component_at component there = by (info_at last.infos (component_spot component)) refl (known component there)
      where
        is_component : (one : Info) → IsComponentInfo (Some one) ⊎ Away (component_spot component) own → IsComponentInfo (Some one)
        is_component one (inl h) = h
        is_component one (inr away) = absurd (not_away (component_spot component) own (own_stands all component there) away)

        by : (found : Option Info) → info_at last.infos (component_spot component) ≡ found → is_some found ≡ true → (one : Info) × (info_at last.infos (component_spot component) ≡ Some one) × IsComponentInfo (Some one)
        by None is h = absurd (false≢true h)
        by (Some one) is h = (one, is, is_component one (fit (component_spot component) one is).0.1.0)

    module _ (end : Facts) (waved : Waved last end) where
      loose_idle : (spot : Spot) → Stands spot loose → IsIdle (info_at end.infos spot)
      loose_idle spot stands = by (info_at last.infos spot) refl
        where
          idle : (one : Info) → IsIdle (Some one) ⊎ Away spot loose → IsIdle (Some one)
          idle one (inl h) = h
          idle one (inr away) = absurd (not_away spot loose stands away)

          by : (found : Option Info) → info_at last.infos spot ≡ found → IsIdle (info_at end.infos spot)
          by None is = waiting_idle (info_at end.infos spot) (waved.others spot is)
          by (Some one) is = subst IsIdle (sym (waved.kept spot one is)) (idle one (fit spot one is).0.0)

      idle_own : (component : Component) → IsIn component all → (one : Sort × Name) → IsIn one (own_names component) → needs_order one.0 ≡ false → IsIdle (info_at end.infos (spot_named one.1))
      idle_own component there one among unordered = by (placed component there one among)
        where
          by : IsPlaced loose firm one → IsIdle (info_at end.infos (spot_named one.1))
          by (inl h) = loose_idle (spot_named one.1) h
          by (inr h) = absurd (false≢true (sym unordered ∙ h.1))

      -- the end of waves
      pub waved_ends : Ends files (names_of_components files) (ProgramFits loose own firm) Outer last end
      waved_ends = record {
        waved = λ now spot outer. record { kept = waved.kept spot; others = waved.others spot };
        sound = sound;
        outer = at_own Outer (loose_outer files distinct) (firm_outer files distinct);
        away = λ component there one among. own_map (spot_named one.1) all (at_own (λ spot. Away spot own) (loose_from_own files distinct) (firm_from_own files distinct) component there one among);
        idle = idle_own;
        known = λ component there.
            let at = component_at component there in
            subst IsComponentInfo (sym (waved.kept (component_spot component) at.0 at.1)) at.2;
      }

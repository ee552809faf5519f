-- Words of enumerations may stand at the names of constants and types: elsewhere than components, outside of code, and no operation is known there.
use Rattle.std.proofs.Common.{◌≡◌, ◌⊎◌, inl, inr, false, List, [], ◌∷◌, flat_map, map, Option, Some, None, refl, ap, ◌∙◌}
use Rattle.std.specs.List.{IsDistinct}
use Rattle.sr_check.proofs.Each.{Each}
use Rattle.sr_check_decl.specs.Declaring.{program_declared}
use Rattle.sr_check_expr.specs.declared.facts.Facts.{Facts}
use Rattle.sr_check_expr.specs.declared.info.Info.{Info}
use Rattle.sr_check_expr.specs.Infos.{info_at}
use Rattle.sr_names.specs.declared.spot.Spot.{Spot}
use Rattle.sr_names.specs.Noted.{Meanings}
use Rattle.sr_names.specs.Specs.{Specs}
use Rattle.sr_names.specs.Spots.{same_spot, spot_of}
use Rattle.sr_order.specs.Names.{file_names}
use Rattle.sr_tables.specs.Parts.{components_in}
use Rattle.sr_tree.specs.declared.component.File.{File}
use Rattle.sr_value.specs.declared.place.Span.{Span}
use Rattle.sr_front.proofs.Constants.ConstantNames.{Word}
use Rattle.sr_front.proofs.Own.DeclaredIn.{Stands}
use Rattle.sr_front.proofs.Known.DeclaredThen.{names_of_components}
use Rattle.sr_front.proofs.Names.FirmNames.{component_firm, component_own, firm_from_own, firm_outer}
use Rattle.sr_front.proofs.Known.KeptNames.{Anywhere, anywhere}
use Rattle.sr_front.proofs.Known.Lasting.{Away, is_operation}
use Rattle.sr_front.proofs.Known.ProgramDeclared.{OuterFits, declared_fits}
use Rattle.sr_front.proofs.Lists.Rising.{Rises}
use Rattle.sr_front.proofs.Constants.WavedEnds.{Outer, not_away, own_map}

module _ (files : List File) (distinct : IsDistinct same_spot (map spot_of (flat_map file_names files))) (rises : Rises (flat_map file_names files)) (uses : Meanings) (specs : Specs) where
  abbrev firm : List Span
  firm = flat_map component_firm (components_in files)

  abbrev last : Facts
  last = program_declared uses specs files

  -- no operation is known at a firm name
  pub firm_plain : (spot : Spot) → Stands spot firm → is_operation (info_at last.infos spot) ≡ false
  firm_plain spot stands = by (info_at last.infos spot) refl
    where
      plain : (one : Info) → (is_operation (Some one) ≡ false) ⊎ Away spot firm → is_operation (Some one) ≡ false
      plain one (inl h) = h
      plain one (inr away) = absurd (not_away spot firm stands away)

      by : (found : Option Info) → info_at last.infos spot ≡ found → is_operation (info_at last.infos spot) ≡ false
      by None is = ap is_operation is
      by (Some one) is = ap is_operation is ∙ plain one (declared_fits files distinct Anywhere (anywhere firm) uses specs rises spot one is).0.0.1.1

  module _ (end : Facts) where
    abbrev pub ProgramWord : Spot → Type 0
    ProgramWord = Word files (names_of_components files) (OuterFits files distinct Anywhere) (Outer files distinct last) last end

    words_at : (names : List Span) → ((spot : Spot) → Stands spot names → Stands spot firm) → Each (λ span. Away (spot_of span) (flat_map component_own (components_in files))) names
        → Each (λ span. Outer files distinct last (spot_of span)) names → Each (λ span. ProgramWord (spot_of span)) names
    words_at [] among own outer = tt
    words_at (name ∷ names) among own outer = (
      (own_map (spot_of name) (components_in files) own.0, (firm_plain (spot_of name) (among (spot_of name) (inl refl)), outer.0)),
      words_at names (λ spot k. among spot (inr k)) own.1 outer.1,
    )

    pub firm_words : Each (λ span. ProgramWord (spot_of span)) firm
    firm_words = words_at firm (λ spot k. k) (firm_from_own files distinct) (firm_outer files distinct)

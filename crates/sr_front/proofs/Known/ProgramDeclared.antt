-- What is known after the declarations of a program fits, and so does what is known where each constant is declared.
use Rattle.std.proofs.Common.{inl, inr, List, [], ◌∷◌, ◌++◌, flat_map, map, refl}
use Rattle.std.proofs.lemmas.Option.{none-some}
use Rattle.std.specs.List.{IsDistinct}
use Rattle.sr_check.proofs.Each.{Each, each-left, each-right}
use Rattle.sr_check_decl.specs.Declaring.{components_named, files_named, no_facts, program_declared}
use Rattle.sr_check_expr.specs.declared.facts.Facts.{Facts}
use Rattle.sr_check_expr.specs.declared.info.Info.{Info}
use Rattle.sr_check_expr.specs.declared.info.Info.TheVariants as info
use Rattle.sr_names.specs.declared.spot.Spot.{Spot}
use Rattle.sr_names.specs.Noted.{Meanings}
use Rattle.sr_names.specs.Specs.{Specs}
use Rattle.sr_names.specs.Spots.{same_spot, spot_of}
use Rattle.sr_order.specs.Names.{file_names}
use Rattle.sr_tables.specs.Parts.{components_in}
use Rattle.sr_tree.specs.declared.component.Component.{Component}
use Rattle.sr_tree.specs.declared.component.File.{File}
use Rattle.sr_tree.specs.Parts.{name_of}
use Rattle.sr_types.specs.declared.ty.Ty.TheVariants as ty
use Rattle.sr_value.specs.declared.place.Span.{Span}
use Rattle.sr_front.proofs.Known.DeclaredThen.{ComponentFits, inv_declared, names_of_components}
use Rattle.sr_front.proofs.Names.FirmNames.{component_firm, component_loose, component_own, firm_from_loose, firm_from_own, loose_from_firm, loose_from_own, own_from_loose}
use Rattle.sr_front.proofs.Known.FirstFits.{HeadFits, fits_with}
use Rattle.sr_front.proofs.Known.Lasting.{Away}
use Rattle.sr_front.proofs.Known.ProgramFits.{FirmAt, LooseAt, PartsGood, ProgramFits, component_good}
use Rattle.sr_front.proofs.Lists.Rising.{Rises}
use Rattle.sr_front.proofs.Known.TypesBefore.{FitsBefore, Inv, ItemGood, SpecGood, inv_kept}

module _ (files : List File) (distinct : IsDistinct same_spot (map spot_of (flat_map file_names files))) (Word : Spot → Type 0) where
  abbrev all : List Component
  all = components_in files

  abbrev loose : List Span
  loose = flat_map component_loose all

  abbrev own : List Span
  own = flat_map component_own all

  abbrev firm : List Span
  firm = flat_map component_firm all

  abbrev pub OuterFits : Spot → Info → Type 0
  OuterFits = ProgramFits loose own firm

  both_at : (names : List Span) → Each (λ span. Away (spot_of span) loose) names → Each (λ span. Away (spot_of span) own) names → Each (λ span. Word (spot_of span)) names → Each (FirmAt loose own firm Word) names
  both_at [] a b words = tt
  both_at (name ∷ names) a b words = (((a.0, b.0), words.0), both_at names a.1 b.1 words.1)

  loose_at : (names : List Span) → Each (λ span. Away (spot_of span) own) names → Each (λ span. Away (spot_of span) firm) names → Each (LooseAt loose own firm Word) names
  loose_at [] a b = tt
  loose_at (name ∷ names) a b = ((a.0, b.0), loose_at names a.1 b.1)

  parts_good : (some : List Component) → Each (λ span. Away (spot_of span) loose) (flat_map component_own some) → Each (LooseAt loose own firm Word) (flat_map component_loose some)
      → Each (FirmAt loose own firm Word) (flat_map component_firm some) → Each (PartsGood loose own firm Word) some
  parts_good [] named away at = tt
  parts_good (one ∷ some) named away at = (
    component_good loose own firm Word one named.0 (each-left (LooseAt loose own firm Word) (component_loose one) _ away) (each-left (FirmAt loose own firm Word) (component_firm one) _ at),
    parts_good some named.1 (each-right (LooseAt loose own firm Word) (component_loose one) _ away) (each-right (FirmAt loose own firm Word) (component_firm one) _ at),
  )

  -- where words stand at all firm names
  module _ (words : Each (λ span. Word (spot_of span)) firm) (uses : Meanings) (specs : Specs) where
    abbrev pub last : Facts
    last = program_declared uses specs files

    abbrev Fit : Component → Type 0
    Fit = ComponentFits (Inv Word OuterFits) (SpecGood Word OuterFits) (ItemGood Word OuterFits) (HeadFits OuterFits) (inv_kept Word OuterFits) (names_of_components files) last

    fit_each : (some : List Component) → Each (PartsGood loose own firm Word) some → Each Fit some
    fit_each [] good = tt
    fit_each (one ∷ some) good = (record { specs = good.0.specs; head = good.0.head; items = good.0.items }, fit_each some good.1)

    pub good : Each (PartsGood loose own firm Word) all
    good = parts_good all (own_from_loose files distinct) (loose_at loose (loose_from_own files distinct) (loose_from_firm files distinct)) (both_at firm (firm_from_loose files distinct) (firm_from_own files distinct) words)

    fits : Each Fit all
    fits = fit_each all good

    -- ---- at first the names of components alone are known

    named_fit : (after : List Span) (some : List Component) (facts : Facts) → Each (λ span. Away (spot_of span) loose) (flat_map component_own some) → Inv Word OuterFits after facts
        → Inv Word OuterFits after (components_named some facts)
    named_fit after [] facts away inv = inv
    named_fit after (one ∷ some) facts away inv =
        named_fit after some _ away.1 (fits_with (FitsBefore Word OuterFits after) facts (spot_of (name_of one).span) (info.Component ty.Untyped) ((inr away.0, (inl tt, inl refl)), tt) tt inv)

    files_fit : (after : List Span) (some : List File) (facts : Facts) → Each (λ span. Away (spot_of span) loose) (flat_map component_own (components_in some)) → Inv Word OuterFits after facts
        → Inv Word OuterFits after (files_named some facts)
    files_fit after [] facts away inv = inv
    files_fit after (file ∷ some) facts away inv =
        let split = own_split file.components (components_in some) away in
        files_fit after some (components_named file.components facts) split.1 (named_fit after file.components facts split.0 inv)
      where
        own_split : (xs ys : List Component) → Each (λ span. Away (spot_of span) loose) (flat_map component_own (xs ++ ys))
            → (Each (λ span. Away (spot_of span) loose) (flat_map component_own xs)) × (Each (λ span. Away (spot_of span) loose) (flat_map component_own ys))
        own_split [] ys h = (tt, h)
        own_split (x ∷ xs) ys h = let rest = own_split xs ys h.1 in ((h.0, rest.0), rest.1)

    pub first_fit : (after : List Span) → Inv Word OuterFits after (files_named files (no_facts uses specs))
    first_fit after = files_fit after files (no_facts uses specs) (own_from_loose files distinct) (λ spot one is. absurd (none-some one is))

    -- what is known after all declarations fits
    pub declared_fits : Rises (flat_map file_names files) → Inv Word OuterFits [] last
    declared_fits rises =
        inv_declared (Inv Word OuterFits) (SpecGood Word OuterFits) (ItemGood Word OuterFits) (HeadFits OuterFits) (inv_kept Word OuterFits) uses specs files fits (first_fit (flat_map file_names files)) rises

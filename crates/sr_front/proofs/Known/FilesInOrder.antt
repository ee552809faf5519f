-- In an accepted program the names in what is declared outside of code mean where they stand what they mean where they are
-- checked, and signatures keep their numbers: the walk over files.
use Rattle.std.proofs.Common.{◌≡◌, inl, inr, Bool, true, false, List, [], ◌∷◌, ◌++◌, append_assoc, flat_map, map, None, Ok, refl, sym, ap, subst, ◌∙◌}
use Rattle.std.specs.List.{IsDistinct}
use Rattle.sr_check.proofs.Each.{Each, each-left, each-right}
use Rattle.sr_check_decl.specs.declared.tally.Tally.{Tally}
use Rattle.sr_check_decl.specs.Declaring.{component_declared, components_declared, components_named, files_declared, files_named, item_declared, items_declared, no_facts, spec_item_declared, spec_items_declared}
use Rattle.sr_check_decl.specs.Variables.{declare}
use Rattle.sr_check_expr.specs.declared.facts.Facts.{Facts}
use Rattle.sr_check_expr.specs.declared.info.Info.{Info}
use Rattle.sr_check_expr.specs.declared.info.Info.TheVariants as info
use Rattle.sr_names.specs.declared.spot.Spot.{Spot}
use Rattle.sr_names.specs.Specs.{Specs}
use Rattle.sr_names.specs.Spots.{same_spot, spot_of}
use Rattle.sr_names.proofs.Marking.{entry-other}
use Rattle.sr_order.specs.Names.{component_names, file_names, formal_names, item_names, spec_item_names}
use Rattle.sr_scope.proofs.Findings.{in_left, in_right}
use Rattle.sr_scope.specs.declared.program.Names.{Names}
use Rattle.sr_scope.specs.Resolved.{resolved}
use Rattle.sr_scope.specs.Uses.{IsIn}
use Rattle.sr_tables.specs.Parts.{components_in}
use Rattle.sr_tree.specs.declared.component.Component.{Component}
use Rattle.sr_tree.specs.declared.component.File.{File}
use Rattle.sr_tree.specs.declared.component.Item.{Item}
use Rattle.sr_tree.specs.declared.component.Item.TheVariants as item
use Rattle.sr_tree.specs.declared.component.SpecItem.{SpecItem}
use Rattle.sr_tree.specs.declared.component.SpecItem.TheVariants as spec
use Rattle.sr_tree.specs.Parts.{body_of, formals_of, name_of, spec_of}
use Rattle.sr_types.specs.declared.ty.Ty.{Ty}
use Rattle.sr_types.specs.declared.ty.Ty.TheVariants as ty
use Rattle.sr_value.specs.declared.place.Span.{Span}
use Rattle.sr_front.proofs.Known.DeclaredAgrees.{ComponentAgrees, ComponentsAgree, FilesAgree, HeadAgrees, ItemAgrees, ItemsAgree, SpecAgrees, SpecsAgree}
use Rattle.sr_front.proofs.Own.DeclaredIn.{Stands, stands_right}
use Rattle.sr_front.proofs.Known.DeclaredThen.{ComponentFits, KeepsInv, at_body, at_head, at_spec, components_free, files_free, from_body, from_formals, from_specs, in_map, inv_at_body, inv_at_head, inv_at_spec, inv_component, inv_components, item_plain_free, names_of_components, one_free, parts_free, rises_assoc, spec_plain_free}
use Rattle.sr_front.proofs.Known.FirstFits.{HeadFits}
use Rattle.sr_front.proofs.Known.HalfProgram.{Ending}
use Rattle.sr_front.proofs.Known.ItemsInOrder.{Leads, Sites, body_sites, const_agrees, head_agrees, optype_agrees, spec_sites, var_agrees}
use Rattle.sr_front.proofs.Known.KeptDeclared.{Declares, keeps_components, keeps_files, keeps_head, keeps_item, keeps_items, keeps_spec, keeps_spec_item}
use Rattle.sr_front.proofs.Known.Lasting.{Away}
use Rattle.sr_front.proofs.Names.PlainNames.{item_plain, spec_plain}
use Rattle.sr_front.proofs.Known.ProgramReads.{Fits, Whole, Word, first_whole, fits, keeps}
use Rattle.sr_front.proofs.Lists.Put.{put_holds}
use Rattle.sr_front.proofs.Lists.Rising.{BeforeAll, IsBefore, Rises, before_other, rises_right}
use Rattle.sr_front.proofs.Names.Shares.{other_way}
use Rattle.sr_front.proofs.Known.TypeSites.{last, part_at, reached}
use Rattle.sr_front.proofs.Typed.TypedTypes.{type_part}
use Rattle.sr_front.proofs.Known.TypesBefore.{ItemGood, SpecGood}
use Rattle.sr_front.proofs.Known.TypesInOrder.{type_in_order}

-- ---- names that follow stand elsewhere

pub before_stands : (at : Spot) (names : List Span) → BeforeAll at names → (spot : Spot) → Stands spot names → IsBefore at spot
before_stands at [] before spot k = absurd k
before_stands at (name ∷ names) before spot (inl e) = subst (IsBefore at) e before.0
before_stands at (name ∷ names) before spot (inr k) = before_stands at names before.1 spot k

pub rises_apart : (names after : List Span) → Rises (names ++ after) → (spot : Spot) → Stands spot after → Away spot names
rises_apart [] after rises spot stands = tt
rises_apart (name ∷ names) after rises spot stands = (
  other_way (spot_of name) spot (before_other (spot_of name) spot (before_stands (spot_of name) after (each-right (λ span. IsBefore (spot_of name) (spot_of span)) names after rises.0) spot stands)),
  rises_apart names after rises.1 spot stands,
)

module _ (spot : Spot) where
  -- no type is known there
  abbrev NoPart : Facts → Type 0
  NoPart facts = part_at facts spot ≡ None

  abbrev Other : Spot → Type 0
  Other at = same_spot spot at ≡ false

  none_with : (facts : Facts) (at : Spot) (one : Info) → Other at → NoPart facts → NoPart (declare facts at one)
  none_with facts at one apart h = ap type_part (entry-other facts.infos at one spot apart) ∙ h

  none_operation : (facts : Facts) (at : Spot) (type : Ty) (component : Spot) (is_local : Bool) → NoPart facts → NoPart (declare facts at (info.Operation type component is_local))
  none_operation facts at type component is_local h = put_holds facts at (info.Operation type component is_local) (λ other found. type_part found ≡ None) refl spot (λ apart. h)

  pub none_declares : Declares NoPart Other
  none_declares = record { entered = λ facts signature h. h; put = none_with; operation = none_operation; standing = λ facts component h. h }

  named_none : (all : List Component) (facts : Facts) → ((one : Component) → IsIn one all → Other (spot_of (name_of one).span)) → NoPart facts → NoPart (components_named all facts)
  named_none [] facts other h = h
  named_none (one ∷ all) facts other h =
      named_none all _ (λ more k. other more (inr k)) (none_with facts (spot_of (name_of one).span) (info.Component ty.Untyped) (other one (inl refl)) h)

  files_none : (files : List File) (facts : Facts) → ((one : Component) → IsIn one (components_in files) → Other (spot_of (name_of one).span)) → NoPart facts → NoPart (files_named files facts)
  files_none [] facts other h = h
  files_none (file ∷ files) facts other h =
      files_none files _ (λ one k. other one (in_right one file.components (components_in files) k)) (named_none file.components facts (λ one k. other one (in_left one file.components (components_in files) k)) h)

module _ (files : List File) (names : Names) (named : resolved files ≡ Ok names) (distinct : IsDistinct same_spot (map spot_of (flat_map file_names files))) (rises : Rises (flat_map file_names files)) (specs : Specs) where
  abbrev pub all : List Component
  all = components_in files

  abbrev pub components : List Span
  components = names_of_components files

  abbrev pub final : Facts
  final = last files names named distinct rises specs

  abbrev pub Ends : Facts → Type 1
  Ends = Ending names.uses specs files

  abbrev pub Leading : List Span → Facts → Type 1
  Leading = Leads files names named distinct rises specs

  abbrev pub Base : List Span → Facts → Type 0
  Base = Whole files names named distinct rises specs

  abbrev pub SpecFine : SpecItem → Type 0
  SpecFine = SpecGood (Word files names named distinct rises specs) (Fits files names named distinct rises specs)

  abbrev pub ItemFine : Item → Type 0
  ItemFine = ItemGood (Word files names named distinct rises specs) (Fits files names named distinct rises specs)

  abbrev pub HeadFine : Component → Type 0
  HeadFine component = HeadFits (Fits files names named distinct rises specs) component × IsIn (name_of component).span components

  -- no type is known where names stand that follow, but components
  abbrev pub Unknown : List Span → Facts → Type 0
  Unknown after facts = (spot : Spot) → Stands spot after → Away spot components → part_at facts spot ≡ None

  abbrev pub Inv : List Span → Facts → Type 0
  Inv after facts = Base after facts × Unknown after facts

  abbrev base_kept : KeepsInv Base SpecFine ItemFine (HeadFits (Fits files names named distinct rises specs))
  base_kept = keeps files names named distinct rises specs

  abbrev pub kept : KeepsInv Inv SpecFine ItemFine HeadFine
  kept = record {
    spec_item = λ in_spec one tally after fine rising inv. (
      base_kept.spec_item in_spec one tally after fine rising inv.0,
      λ spot stands away.
          keeps_spec_item (NoPart spot) (Other spot) (none_declares spot) in_spec one tally (spec_plain_free (Other spot) one (rises_apart (spec_item_names one) after rising spot stands))
          (inv.1 spot (stands_right spot (spec_item_names one) after stands) away),
    );
    item = λ one tally after fine rising inv. (
      base_kept.item one tally after fine rising inv.0,
      λ spot stands away.
          keeps_item (NoPart spot) (Other spot) (none_declares spot) one tally (item_plain_free (Other spot) one (rises_apart (item_names one) after rising spot stands))
          (inv.1 spot (stands_right spot (item_names one) after stands) away),
    );
    head = λ component facts after fine rising inv. (
      base_kept.head component facts after fine.0 rising inv.0,
      λ spot stands away.
          keeps_head (NoPart spot) (Other spot) (none_declares spot) component facts (one_free (Other spot) components (name_of component).span fine.1 away)
          (rises_apart (flat_map formal_names (formals_of component)) after rising spot stands) (inv.1 spot (stands_right spot (flat_map formal_names (formals_of component)) after stands) away),
    );
    standing = λ facts component after inv. (base_kept.standing facts component after inv.0, inv.1);
    name = λ facts name after inv. (base_kept.name facts name after inv.0, λ spot stands away. inv.1 spot (inr stands) away);
  }

  abbrev pub Fit : Component → Type 0
  Fit = ComponentFits Inv SpecFine ItemFine HeadFine kept components final

  fit_each : (some : List Component) → ((one : Component) → IsIn one some → IsIn (name_of one).span components) → Each (ComponentFits Base SpecFine ItemFine (HeadFits (Fits files names named distinct rises specs)) base_kept components final) some → Each Fit some
  fit_each [] among each = tt
  fit_each (one ∷ some) among each =
      (record { specs = each.0.specs; head = (each.0.head, among one (inl refl)); items = each.0.items }, fit_each some (λ other k. among other (inr k)) each.1)

  pub all_fit : Each Fit all
  all_fit = fit_each all (in_map all) (fits files names named distinct rises specs)

  pub first_inv : Inv (flat_map file_names files) (files_named files (no_facts names.uses specs))
  first_inv = (
    first_whole files names named distinct rises specs,
    λ spot stands away. files_none spot files (no_facts names.uses specs) (λ one k. one_free (Other spot) components (name_of one).span (in_map all one k) away) refl,
  )

  -- ---- a component

  module _ (here : Component) (there : IsIn here all) where
    abbrev pub SitesOf : SpecItem → Type 0
    SitesOf = Sites files names named distinct rises specs here there

    spec_agrees : (in_spec : Bool) (one : SpecItem) (tally : Tally) (rest : List Span) → SitesOf one → Inv (spec_item_names one ++ rest) tally.facts → Rises (spec_item_names one ++ rest) → Leading rest (spec_item_declared in_spec one tally).facts
        → SpecAgrees Ends one tally
    spec_agrees in_spec (spec.Const constant) tally rest sites inv rising leads =
        const_agrees files names named distinct rises specs here there in_spec constant tally.facts rest sites (reached files names named distinct rises specs (spec_item_names (spec.Const constant) ++ rest) tally.facts inv.0) rising leads
    spec_agrees in_spec (spec.«Type» named_type) tally rest sites inv rising leads =
        type_in_order files names named distinct rises specs here there named_type tally rest sites (reached files names named distinct rises specs (spec_item_names (spec.«Type» named_type) ++ rest) tally.facts inv.0) inv.1 rising leads
    spec_agrees in_spec (spec.OpType named_type) tally rest sites inv rising leads =
        optype_agrees files names named distinct rises specs here there named_type tally.facts rest sites (reached files names named distinct rises specs (spec_item_names (spec.OpType named_type) ++ rest) tally.facts inv.0) rising leads
    spec_agrees in_spec (spec.Var variables) tally rest sites inv rising leads =
        var_agrees files names named distinct rises specs here there variables tally.facts rest sites (reached files names named distinct rises specs (spec_item_names (spec.Var variables) ++ rest) tally.facts inv.0) rising leads
    spec_agrees in_spec _ tally rest sites inv rising leads = tt

    specs_agree : (items : List SpecItem) (tally : Tally) (after : List Span) → ((one : SpecItem) → IsIn one items → SitesOf one) → Each SpecFine items → Inv (flat_map spec_item_names items ++ after) tally.facts
        → Rises (flat_map spec_item_names items ++ after) → Leading after (spec_items_declared items tally).facts → SpecsAgree Ends items tally
    specs_agree [] tally after sites fine inv rising leads = tt
    specs_agree (one ∷ items) tally after sites fine inv rising leads =
        let own = spec_item_names one in
        let more = flat_map spec_item_names items in
        let here_inv : Inv (own ++ (more ++ after)) tally.facts = subst (λ some. Inv some tally.facts) (append_assoc own more after) inv in
        let here_rising = rises_assoc own more after rising in (
          spec_agrees true one tally (more ++ after) (sites one (inl refl)) here_inv here_rising
              (λ Q Free declares all_named free h.
              leads Q Free declares all_named (each-right (λ span. Free (spot_of span)) more after free)
              (keeps_spec Q Free declares items (spec_item_declared true one tally) (parts_free Free spec_item_names spec_plain (spec_plain_free Free) items (each-left (λ span. Free (spot_of span)) more after free)) h)),
          specs_agree items (spec_item_declared true one tally) after (λ other k. sites other (inr k)) fine.1 (kept.spec_item true one tally (more ++ after) fine.0 here_rising here_inv) (rises_right own (more ++ after) here_rising) leads,
        )

    item_agrees : (one : Item) (tally : Tally) (rest : List Span) → ((inner : SpecItem) → item.Spec inner ≡ one → SitesOf inner) → Inv (item_names one ++ rest) tally.facts → Rises (item_names one ++ rest) → Leading rest (item_declared one tally).facts
        → ItemAgrees Ends one tally
    item_agrees (item.Spec inner) tally rest sites inv rising leads = spec_agrees false inner tally rest (sites inner refl) inv rising leads
    item_agrees _ tally rest sites inv rising leads = tt

    items_agree : (items : List Item) (tally : Tally) (after : List Span) → ((inner : SpecItem) → IsIn (item.Spec inner) items → SitesOf inner) → Each ItemFine items → Inv (flat_map item_names items ++ after) tally.facts
        → Rises (flat_map item_names items ++ after) → Leading after (items_declared items tally).facts → ItemsAgree Ends items tally
    items_agree [] tally after sites fine inv rising leads = tt
    items_agree (one ∷ items) tally after sites fine inv rising leads =
        let own = item_names one in
        let more = flat_map item_names items in
        let here_inv : Inv (own ++ (more ++ after)) tally.facts = subst (λ some. Inv some tally.facts) (append_assoc own more after) inv in
        let here_rising = rises_assoc own more after rising in (
          item_agrees one tally (more ++ after) (λ inner e. sites inner (inl (sym e))) here_inv here_rising
              (λ Q Free declares all_named free h.
              leads Q Free declares all_named (each-right (λ span. Free (spot_of span)) more after free)
              (keeps_items Q Free declares items (item_declared one tally) (parts_free Free item_names item_plain (item_plain_free Free) items (each-left (λ span. Free (spot_of span)) more after free)) h)),
          items_agree items (item_declared one tally) after (λ inner k. sites inner (inr k)) fine.1 (kept.item one tally (more ++ after) fine.0 here_rising here_inv) (rises_right own (more ++ after) here_rising) leads,
        )

    component_agrees : (tally : Tally) (after : List Span) → Fit here → Inv (component_names here ++ after) tally.facts → Rises (component_names here ++ after) → Leading after (component_declared here tally).facts → ComponentAgrees Ends here tally
    component_agrees tally after fit inv rising leads = record { specs = in_spec; head = at_formals; items = in_body }
      where
        formals : List Span
        formals = flat_map formal_names (formals_of here)

        body : List Span
        body = flat_map item_names (body_of here)

        spec_tally : Tally
        spec_tally = at_spec Inv SpecFine ItemFine HeadFine kept components final here tally

        head_tally : Tally
        head_tally = at_head Inv SpecFine ItemFine HeadFine kept components final here tally

        body_tally : Tally
        body_tally = at_body Inv SpecFine ItemFine HeadFine kept components final here tally

        body_free : (Free : Spot → Type 0) → Each (λ span. Free (spot_of span)) body → Each (λ span. Free (spot_of span)) (flat_map item_plain (body_of here))
        body_free Free = parts_free Free item_names item_plain (item_plain_free Free) (body_of here)

        in_spec : SpecsAgree Ends (spec_of here) spec_tally
        in_spec =
            specs_agree (spec_of here) spec_tally ((formals ++ body) ++ after) (spec_sites files names named distinct rises specs here there) fit.specs
            (inv_at_spec Inv SpecFine ItemFine HeadFine kept components final here tally after fit rising inv) (from_specs Inv SpecFine ItemFine HeadFine kept components final here tally after fit rising inv)
            (λ Q Free declares all_named free h.
            let inner = each-left (λ span. Free (spot_of span)) (formals ++ body) after free in
            leads Q Free declares all_named (each-right (λ span. Free (spot_of span)) (formals ++ body) after free)
            (keeps_items Q Free declares (body_of here) body_tally (body_free Free (each-right (λ span. Free (spot_of span)) formals body inner))
            (keeps_head Q Free declares here head_tally.facts (one_free Free components (name_of here).span (in_map all here there) all_named) (each-left (λ span. Free (spot_of span)) formals body inner) h)))

        at_formals : HeadAgrees Ends here head_tally.facts
        at_formals =
            head_agrees files names named distinct rises specs here there head_tally.facts (body ++ after)
            (reached files names named distinct rises specs (formals ++ (body ++ after)) head_tally.facts (inv_at_head Inv SpecFine ItemFine HeadFine kept components final here tally after fit rising inv).0)
            (from_formals Inv SpecFine ItemFine HeadFine kept components final here tally after fit rising inv)
            (λ Q Free declares all_named free h.
            leads Q Free declares all_named (each-right (λ span. Free (spot_of span)) body after free)
            (keeps_items Q Free declares (body_of here) body_tally (body_free Free (each-left (λ span. Free (spot_of span)) body after free)) h))

        in_body : ItemsAgree Ends (body_of here) body_tally
        in_body =
            items_agree (body_of here) body_tally after (body_sites files names named distinct rises specs here there) fit.items
            (inv_at_body Inv SpecFine ItemFine HeadFine kept components final here tally after fit rising inv) (from_body Inv SpecFine ItemFine HeadFine kept components final here tally after fit rising inv) leads

  -- ---- all of them

  components_agree : (some : List Component) (tally : Tally) (after : List Span) → ((one : Component) → IsIn one some → IsIn one all) → Each Fit some → Inv (flat_map component_names some ++ after) tally.facts
      → Rises (flat_map component_names some ++ after) → Leading after (components_declared some tally).facts → ComponentsAgree Ends some tally
  components_agree [] tally after among fit inv rising leads = tt
  components_agree (one ∷ some) tally after among fit inv rising leads =
      let own = component_names one in
      let more = flat_map component_names some in
      let here_inv : Inv (own ++ (more ++ after)) tally.facts = subst (λ others. Inv others tally.facts) (append_assoc own more after) inv in
      let here_rising = rises_assoc own more after rising in (
        component_agrees one (among one (inl refl)) tally (more ++ after) fit.0 here_inv here_rising
            (λ Q Free declares all_named free h.
            leads Q Free declares all_named (each-right (λ span. Free (spot_of span)) more after free)
            (keeps_components Q Free declares some (component_declared one tally) (components_free Free some (each-left (λ span. Free (spot_of span)) more after free)) h)),
        components_agree some (component_declared one tally) after (λ other k. among other (inr k)) fit.1 (inv_component Inv SpecFine ItemFine HeadFine kept components final one tally (more ++ after) fit.0 here_rising here_inv)
            (rises_right own (more ++ after) here_rising) leads,
      )

  files_agree : (some : List File) (tally : Tally) → ((one : Component) → IsIn one (components_in some) → IsIn one all) → Each Fit (components_in some) → Inv (flat_map file_names some) tally.facts → Rises (flat_map file_names some)
      → (files_declared some tally).facts ≡ final → FilesAgree Ends some tally
  files_agree [] tally among fit inv rising is = tt
  files_agree (file ∷ some) tally among fit inv rising is = (
    components_agree file.components tally (flat_map file_names some) (λ one k. among one (in_left one file.components (components_in some) k)) (each-left Fit file.components (components_in some) fit) inv rising
        (λ Q Free declares all_named free q. subst Q is (keeps_files Q Free declares some (components_declared file.components tally) (files_free Free some free) q)),
    files_agree some (components_declared file.components tally) (λ one k. among one (in_right one file.components (components_in some) k)) (each-right Fit file.components (components_in some) fit)
        (inv_components Inv SpecFine ItemFine HeadFine kept components final file.components tally (flat_map file_names some) (each-left Fit file.components (components_in some) fit) rising inv)
        (rises_right (file_names file) (flat_map file_names some) rising) is,
  )

  -- all that is declared outside of code
  pub declared_agrees : FilesAgree Ends files (record { facts = files_named files (no_facts names.uses specs); enumerations = 0 })
  declared_agrees = files_agree files (record { facts = files_named files (no_facts names.uses specs); enumerations = 0 }) (λ one k. k) all_fit first_inv rises refl

-- In an accepted program each constant or variable without a type gets the type of its value: what isn't settled names something else that isn't, and no links between these lead back.
use Rattle.std.proofs.Common.{◌≡◌, ◌⊎◌, inl, inr, ℕ, suc, zero, Bool, true, false, not, ◌&&◌, List, [], ◌∷◌, ◌++◌, flat_map, length, map, Option, Some, None, Ok, is_some, refl, sym, ap, subst, ◌∙◌, if◌then◌else◌}
use Rattle.std.proofs.lemmas.Bool.{false≢true}
use Rattle.std.specs.List.{IsDistinct, filter, list_all}
use Rattle.sr_check.proofs.ErrorFree.{error_free, error_free_first, error_free_second}
use Rattle.sr_check.proofs.Kept.{none_found}
use Rattle.sr_check.specs.Checked.{first_refused}
use Rattle.sr_check.specs.Components.{files_read}
use Rattle.sr_check.specs.ErrorFree.{ErrorFree}
use Rattle.sr_check_decl.proofs.Known.{known_stays, uses_stay}
use Rattle.sr_check_decl.specs.Cycles.{leads_left, leads_of, leads_to, leads_unless, refused_by, type_cycles_found}
use Rattle.sr_check_decl.specs.Declaring.{files_named, no_facts, program_declared}
use Rattle.sr_check_decl.specs.Inferring.{can_settle, given_up, given_up_if, is_settled, program_inferred, program_known, wave, waves}
use Rattle.sr_check_decl.specs.NamesIn.{is_declared, is_named_declared, names_in}
use Rattle.sr_check_decl.specs.Waiting.{Waiting, files_waiting}
use Rattle.sr_check_expr.specs.declared.facts.Facts.{Facts}
use Rattle.sr_check_expr.specs.Infos.{info_at}
use Rattle.sr_check_expr.specs.Naming.{decl_of}
use Rattle.sr_names.specs.declared.cycles.Import.{Import}
use Rattle.sr_names.specs.declared.finding.Diagnostic.{Diagnostic}
use Rattle.sr_names.specs.declared.finding.Rule.TheVariants.{Cycle}
use Rattle.sr_names.specs.declared.links.Link.{Link}
use Rattle.sr_names.specs.declared.meaning.Decl.{Decl}
use Rattle.sr_names.specs.declared.meaning.Meaning.{Meaning}
use Rattle.sr_names.specs.declared.meaning.Meaning.TheVariants.{Declared, Predefined as MeansPredefined}
use Rattle.sr_names.specs.declared.meaning.Sort.{Sort}
use Rattle.sr_names.specs.declared.spot.Spot.{Spot}
use Rattle.sr_names.proofs.LinkLemmas.{connects-refl}
use Rattle.sr_names.specs.Cycles.{all_cycles_found, cycle_found, cycles_found, links_of}
use Rattle.sr_names.specs.Diagnostics.{all_noted, nothing}
use Rattle.sr_names.specs.Links.{Among, connects}
use Rattle.sr_names.specs.Noted.{Meanings}
use Rattle.sr_names.specs.Readings.{broken, declaration}
use Rattle.sr_names.specs.Specs.{Specs}
use Rattle.sr_names.specs.Spots.{same_spot, spot_of}
use Rattle.sr_names.specs.Uses.{meaning_at}
use Rattle.sr_order.specs.Names.{const_names, decl_names, expr_names, file_names, spec_item_names, var_names, where_some, type_names}
use Rattle.sr_scope.proofs.Findings.{in_left, in_right}
use Rattle.sr_scope.proofs.OwnNames.{own_names}
use Rattle.sr_scope.specs.Components.{decl_of as decl_of_component}
use Rattle.sr_scope.specs.declared.program.Names.{Names}
use Rattle.sr_scope.specs.Resolved.{resolved}
use Rattle.sr_scope.specs.Uses.{IsIn}
use Rattle.sr_tables.specs.Parts.{component_spot, components_in}
use Rattle.sr_tree.specs.declared.component.Component.{Component}
use Rattle.sr_tree.specs.declared.component.File.{File}
use Rattle.sr_tree.specs.declared.component.SpecItem.{SpecItem}
use Rattle.sr_tree.specs.declared.declaration.ConstDecl.{ConstDecl}
use Rattle.sr_tree.specs.declared.declaration.VarDecl.{VarDecl}
use Rattle.sr_tree.specs.declared.expr.Expr.{Expr}
use Rattle.sr_tree.specs.declared.name.Name.{Name}
use Rattle.sr_value.specs.declared.place.Span.{Span}
use Rattle.sr_front.proofs.Known.ComponentsKnown.{IsKnown, UsesAre, files_free, known_declares, named_known, named_uses, uses_declares}
use Rattle.sr_front.proofs.Names.Globals.{link_among}
use Rattle.sr_front.proofs.Known.KeptDeclared.{keeps_files}
use Rattle.sr_front.proofs.Known.KeptNames.{Anywhere}
use Rattle.sr_front.proofs.Known.KnownOrWaits.{KnownOrWaits, known_or_waits}
use Rattle.sr_front.proofs.Lists.LinksBack.{LeadsTo, NoneBack, none_leads}
use Rattle.sr_front.proofs.Names.NamesAmong.{needs_among_names}
use Rattle.sr_front.proofs.Names.OutsideNames.{IsNoImport, body_name_outside, spec_name_outside}
use Rattle.sr_front.proofs.Names.UsableNames.{IsOutside}
use Rattle.sr_front.proofs.Constants.WaitingItems.{Stands, WaitsAs, as_const, as_var, of_body, of_spec, waiting_stands}
use Rattle.sr_front.proofs.Constants.WavesSettle.{all_idle, filter_in, in_filter, is_left, left_unready}

-- ---- no cycle is found

cycles_free : (leads : List Import) → ErrorFree (type_cycles_found leads) → ErrorFree (cycles_found leads)
cycles_free leads whole = error_free (cycles_found leads) (by (all_noted nothing (cycles_found leads)).first whole)
  where
    by : (first : Option Diagnostic) → ErrorFree (refused_by first) → first ≡ None
    by None h = refl
    by (Some diagnostic) h = absurd h

no_cycle_found : (links : List Link) (import : Import) → ErrorFree (cycle_found links import) → connects links import.link.to import.link.from ≡ false
no_cycle_found links import = by (connects links import.link.to import.link.from)
  where
    by : (b : Bool) → ErrorFree (if b then broken Cycle import.span ∷ [] else []) → b ≡ false
    by true h = absurd h
    by false h = refl

none_back_in : (links : List Link) (imports : List Import) → ErrorFree (all_cycles_found links imports) → (link : Link) → Among (links_of imports) link → connects links link.to link.from ≡ false
none_back_in links [] whole link k = absurd k
none_back_in links (first ∷ imports) whole link (inl e) =
    subst (λ (it : Link). connects links it.to it.from ≡ false) e (no_cycle_found links first (error_free_first (cycle_found links first) (all_cycles_found links imports) whole))
none_back_in links (first ∷ imports) whole link (inr k) = none_back_in links imports (error_free_second (cycle_found links first) (all_cycles_found links imports) whole) link k

-- ---- links

abbrev lead : Waiting → Decl → Import
lead waiting decl = record { link = record { from = waiting.spot; to = decl.spot }; span = waiting.span }

lead_of : (facts : Facts) (waiting : Waiting) (spans : List Span) (span : Span) (decl : Decl) → IsIn span spans → decl_of (meaning_at facts.uses (spot_of span)) ≡ Some decl → IsIn (lead waiting decl) (leads_of facts waiting spans)
lead_of facts waiting [] span decl k is = absurd k
lead_of facts waiting (first ∷ spans) span decl (inl e) is =
    in_left (lead waiting decl) (leads_to waiting (decl_of (meaning_at facts.uses (spot_of first)))) (leads_of facts waiting spans)
    (subst (λ (found : Option Decl). IsIn (lead waiting decl) (leads_to waiting found)) (sym (ap (λ (it : Span). decl_of (meaning_at facts.uses (spot_of it))) e ∙ is)) (inl refl))
lead_of facts waiting (first ∷ spans) span decl (inr k) is =
    in_right (lead waiting decl) (leads_to waiting (decl_of (meaning_at facts.uses (spot_of first)))) (leads_of facts waiting spans) (lead_of facts waiting spans span decl k is)

lead_left : (facts : Facts) (all : List Waiting) (waiting : Waiting) (import : Import) → IsIn waiting all → is_settled facts waiting ≡ false → IsIn import (leads_of facts waiting (names_in waiting.value)) → IsIn import (leads_left facts all)
lead_left facts [] waiting import k unsettled h = absurd k
lead_left facts (one ∷ all) waiting import (inl e) unsettled h =
    in_left import (leads_unless (is_settled facts one) facts one) (leads_left facts all)
    (subst (λ (it : Waiting). IsIn import (leads_unless (is_settled facts it) facts it)) (sym e) (subst (λ b. IsIn import (leads_unless b facts waiting)) (sym unsettled) h))
lead_left facts (one ∷ all) waiting import (inr k) unsettled h = in_right import (leads_unless (is_settled facts one) facts one) (leads_left facts all) (lead_left facts all waiting import k unsettled h)

-- ---- what isn't ready names what isn't declared

pub record Unready (facts : Facts) (names : List Span) : Type 0 where
  pub span : Span
  pub among : IsIn span names
  pub decl : Decl
  pub means : meaning_at facts.uses (spot_of span) ≡ Some (Declared decl)
  pub unknown : is_some (info_at facts.infos decl.spot) ≡ false

unready_at : (facts : Facts) (names : List Span) (span : Span) → IsIn span names → is_named_declared facts span ≡ false → Unready facts names
unready_at facts names span among = by (meaning_at facts.uses (spot_of span)) refl
  where
    by : (meaning : Option Meaning) → meaning_at facts.uses (spot_of span) ≡ meaning → is_declared facts (decl_of meaning) ≡ false → Unready facts names
    by None is h = absurd (false≢true (sym h))
    by (Some (MeansPredefined name)) is h = absurd (false≢true (sym h))
    by (Some (Declared decl)) is h = record { span = span; among = among; decl = decl; means = is; unknown = h }

unready : (facts : Facts) (all names : List Span) → ((span : Span) → IsIn span names → IsIn span all) → list_all (is_named_declared facts) names ≡ false → Unready facts all
unready facts all [] among h = absurd (false≢true (sym h))
unready facts all (span ∷ names) among fails = by (is_named_declared facts span) refl (unready facts all names (λ other k. among other (inr k))) fails
  where
    by : (b : Bool) → is_named_declared facts span ≡ b → (list_all (is_named_declared facts) names ≡ false → Unready facts all) → (b && list_all (is_named_declared facts) names) ≡ false → Unready facts all
    by true is more h = more h
    by false is more h = unready_at facts all span (among span (inl refl)) is

-- ---- waves keep what is known

pub waves_know : (n : ℕ) (all : List Waiting) (facts : Facts) (spot : Spot) → IsKnown spot facts → IsKnown spot (waves n all facts)
waves_know zero all facts spot h = h
waves_know (suc n) all facts spot h = waves_know n all (wave all facts) spot (known_stays (filter (can_settle facts) all) facts spot h)

pub waves_use : (n : ℕ) (all : List Waiting) (facts : Facts) → (waves n all facts).uses ≡ facts.uses
waves_use zero all facts = refl
waves_use (suc n) all facts = waves_use n all (wave all facts) ∙ uses_stay (filter (can_settle facts) all) facts

pub declared_uses : (uses : Meanings) (specs : Specs) (files : List File) → (program_declared uses specs files).uses ≡ uses
declared_uses uses specs files =
    keeps_files (UsesAre files uses) Anywhere (uses_declares files uses) files (record { facts = files_named files (no_facts uses specs); enumerations = 0 }) (files_free (record { file = 0; from = 0 }) files) (named_uses files uses specs)

pub declared_known : (uses : Meanings) (specs : Specs) (files : List File) (component : Component) → IsIn component (components_in files) → IsKnown (component_spot component) (program_declared uses specs files)
declared_known uses specs files component there =
    keeps_files (IsKnown (component_spot component)) Anywhere (known_declares (component_spot component)) files (record { facts = files_named files (no_facts uses specs); enumerations = 0 })
    (files_free (component_spot component) files) (named_known files uses specs component there)

-- ---- the names in the value of an item

const_value : (constant : ConstDecl) (used : Span) → IsIn used (names_in constant.value) → IsIn used (const_names constant)
const_value constant used k = inr (in_right used (where_some type_names constant.ty) (expr_names constant.value) (needs_among_names constant.value used k))

var_value : (variables : VarDecl) (value : Expr) → variables.values ≡ value ∷ [] → (used : Span) → IsIn used (names_in value) → IsIn used (var_names variables)
var_value variables value is used k =
    in_right used (flat_map decl_names variables.decls) (where_some type_names variables.ty ++ flat_map expr_names variables.values)
    (in_right used (where_some type_names variables.ty) (flat_map expr_names variables.values)
    (subst (λ (values : List Expr). IsIn used (flat_map expr_names values)) (sym is) (in_left used (expr_names value) [] (needs_among_names value used k))))

module _ (files : List File) (names : Names) (named : resolved files ≡ Ok names) (distinct : IsDistinct same_spot (map spot_of (flat_map file_names files))) (specs : Specs) where
  abbrev all : List Waiting
  all = files_waiting files

  abbrev first : Facts
  first = program_declared names.uses specs files

  abbrev known : Facts
  known = program_inferred names.uses specs files

  abbrev NamesOutside : Expr → Type 0
  NamesOutside value = (used : Span) → IsIn used (names_in value) → (decl : Decl) → meaning_at names.uses (spot_of used) ≡ Some (Declared decl) → IsOutside files decl

  abbrev ItemOutside : SpecItem → Type 0
  ItemOutside one = (used : Span) → IsIn used (spec_item_names one) → (decl : Decl) → meaning_at names.uses (spot_of used) ≡ Some (Declared decl) → IsOutside files decl

  value_outside : (in_spec : Bool) (component : Decl) (one : SpecItem) (waiting : Waiting) → (IsNoImport one → ItemOutside one) → WaitsAs in_spec component one waiting → NamesOutside waiting.value
  value_outside in_spec component one waiting outside (as_const constant is untyped same) =
      subst (λ (it : Waiting). NamesOutside it.value) same
      (λ used k. outside (subst IsNoImport is refl) used (subst (λ (it : SpecItem). IsIn used (spec_item_names it)) is (const_value constant used k)))
  value_outside in_spec component one waiting outside (as_var variables decl value is untyped single only same) =
      subst (λ (it : Waiting). NamesOutside it.value) same
      (λ used k. outside (subst IsNoImport is refl) used (subst (λ (it : SpecItem). IsIn used (spec_item_names it)) is (var_value variables value only used k)))

  stands_outside : (waiting : Waiting) (component : Component) → IsIn component (components_in files) → Stands waiting component → NamesOutside waiting.value
  stands_outside waiting component there (of_spec one among waits) =
      value_outside true _ one waiting (λ no_import. spec_name_outside files names named distinct component there one no_import among) waits
  stands_outside waiting component there (of_body one among waits) =
      value_outside false _ one waiting (λ no_import. body_name_outside files names named distinct component there one no_import among) waits

  pub waiting_outside : (waiting : Waiting) → IsIn waiting all → NamesOutside waiting.value
  waiting_outside waiting k = let found = waiting_stands waiting files k in stands_outside waiting found.component found.there found.stands

  -- what stands outside of code is known after the declarations, or waits
  pub outside_known : (decl : Decl) → IsOutside files decl → KnownOrWaits first all decl.spot
  outside_known decl outside = by outside.is
    where
      by : (decl ≡ decl_of_component outside.component) ⊎ ((one : Sort × Name) × IsIn one (own_names outside.component) × (decl ≡ declaration one.0 one.1.span)) → KnownOrWaits first all decl.spot
      by (inl e) = inl (subst (λ (it : Decl). IsKnown it.spot first) (sym e) (declared_known names.uses specs files outside.component outside.there))
      by (inr own) = subst (λ (it : Decl). KnownOrWaits first all it.spot) (sym own.2) (known_or_waits names.uses specs files outside.component outside.there own.0 own.1)

  pub known_uses : known.uses ≡ names.uses
  known_uses = waves_use (length all) all first ∙ declared_uses names.uses specs files

  abbrev leads : List Import
  leads = leads_left known all

  abbrev links : List Link
  links = links_of leads

  abbrev left : List Waiting
  left = filter (is_left known) all

  unsettled_of : (waiting : Waiting) → is_left known waiting ≡ true → is_settled known waiting ≡ false
  unsettled_of waiting = by (is_settled known waiting)
    where
      by : (b : Bool) → not b ≡ true → b ≡ false
      by true h = absurd (false≢true h)
      by false h = refl

  -- each that is left leads to one that is
  left_leads : (waiting : Waiting) → IsIn waiting left → LeadsTo links (λ (it : Waiting). it.spot) left waiting
  left_leads waiting k = to (outside_known without.decl (waiting_outside waiting among.0 without.span without.among without.decl (ap (λ meanings. meaning_at meanings (spot_of without.span)) (sym known_uses) ∙ without.means)))
    where
      among : IsIn waiting all × (is_left known waiting ≡ true)
      among = in_filter (is_left known) all waiting k

      unsettled : is_settled known waiting ≡ false
      unsettled = unsettled_of waiting among.1

      without : Unready known (names_in waiting.value)
      without = unready known (names_in waiting.value) (names_in waiting.value) (λ span h. h) (left_unready known waiting (all_idle all first waiting among.0) unsettled)

      to : KnownOrWaits first all without.decl.spot → LeadsTo links (λ (it : Waiting). it.spot) left waiting
      to (inl h) = absurd (false≢true (sym without.unknown ∙ waves_know (length all) all first without.decl.spot h))
      to (inr waits) = (
        waits.waiting,
        filter_in (is_left known) all waits.waiting waits.among (ap not (ap (λ spot. is_some (info_at known.infos spot)) waits.is ∙ without.unknown)),
        record {
          link = record { from = waiting.spot; to = without.decl.spot };
          among =
              link_among leads (lead waiting without.decl)
              (lead_left known all waiting (lead waiting without.decl) among.0 unsettled (lead_of known waiting (names_in waiting.value) without.span without.decl without.among (ap decl_of without.means)));
          begins = refl;
          leads = ap (connects links without.decl.spot) waits.is ∙ connects-refl links without.decl.spot;
        },
      )

  module _ (none : first_refused names.uses specs files ≡ None) where
    none_back : NoneBack links
    none_back = none_back_in links leads (cycles_free leads (error_free_first (type_cycles_found leads) (files_read files (program_known names.uses specs files)).found (none_found names.uses specs files none)))

    -- all that waits is settled
    pub all_settled_then : (waiting : Waiting) → IsIn waiting all → is_settled known waiting ≡ true
    all_settled_then waiting k = by (is_settled known waiting) refl
      where
        by : (b : Bool) → is_settled known waiting ≡ b → is_settled known waiting ≡ true
        by true is = is
        by false is = absurd (none_leads links (λ (it : Waiting). it.spot) none_back left left_leads waiting (filter_in (is_left known) all waiting k (ap not is)))

    none_given_up : (some : List Waiting) → ((waiting : Waiting) → IsIn waiting some → is_settled known waiting ≡ true) → given_up some known ≡ known
    none_given_up [] settled = refl
    none_given_up (waiting ∷ some) settled =
        ap (given_up some) (ap (λ b. given_up_if b known waiting) (settled waiting (inl refl))) ∙ none_given_up some (λ other k. settled other (inr k))

    -- so nothing is given up
    pub known_is_inferred : program_known names.uses specs files ≡ known
    known_is_inferred = none_given_up all all_settled_then

-- What a name in a declaration may mean as a type is the same where it is declared and where it is checked, where what is
-- named stands before it.
use Rattle.std.proofs.Common.{◌≡◌, ◌⊎◌, ◌||◌, ◌&&◌, inl, inr, Bool, true, false, not, List, [], ◌∷◌, ◌++◌, flat_map, map, Option, Some, None, Ok, refl, sym, ap, subst, ◌∙◌}
use Rattle.std.proofs.lemmas.Bool.{and_parts, false≢true}
use Rattle.std.specs.List.{IsDistinct}
use Rattle.sr_check.proofs.Each.{Each}
use Rattle.sr_check_decl.specs.Inferring.{program_known}
use Rattle.sr_check_decl.specs.TypeTrees.{capability_by, named_decl, type_by}
use Rattle.sr_check_expr.specs.declared.facts.Facts.{Facts}
use Rattle.sr_check_expr.specs.declared.info.Info.{Info}
use Rattle.sr_check_expr.specs.declared.info.Info.TheVariants as info
use Rattle.sr_check_expr.specs.Infos.{info_at}
use Rattle.sr_check_expr.specs.Naming.{decl_info, decl_of as meant_decl, deciding}
use Rattle.sr_names.specs.declared.meaning.Decl.{Decl}
use Rattle.sr_names.specs.declared.meaning.Meaning.{Meaning}
use Rattle.sr_names.specs.declared.meaning.Meaning.TheVariants.{Declared, Predefined as MeansPredefined}
use Rattle.sr_names.specs.declared.meaning.Sort.{Sort}
use Rattle.sr_names.specs.declared.spot.Spot.{Spot}
use Rattle.sr_names.specs.Readings.{declaration}
use Rattle.sr_names.specs.Scopes.{is_usable, is_within}
use Rattle.sr_names.specs.Sorts.{needs_order}
use Rattle.sr_names.specs.Specs.{Specs}
use Rattle.sr_names.specs.Spots.{same_spot, spot_before, spot_of}
use Rattle.sr_names.specs.Uses.{meaning_at}
use Rattle.sr_order.specs.Names.{file_names}
use Rattle.sr_scope.specs.Components.{decl_of}
use Rattle.sr_scope.specs.declared.program.Names.{Names}
use Rattle.sr_scope.specs.Resolved.{resolved}
use Rattle.sr_scope.specs.Uses.{IsIn}
use Rattle.sr_scope.proofs.OwnNames.{own_names}
use Rattle.sr_tables.specs.Parts.{component_spot, components_in, spot_named}
use Rattle.sr_tree.specs.declared.component.Component.{Component}
use Rattle.sr_tree.specs.declared.component.File.{File}
use Rattle.sr_tree.specs.declared.component.Item.{Item}
use Rattle.sr_tree.specs.declared.component.Item.TheVariants as item
use Rattle.sr_tree.specs.declared.component.SpecItem.{SpecItem}
use Rattle.sr_tree.specs.declared.component.SpecItem.TheVariants as spec
use Rattle.sr_tree.specs.declared.name.Name.{Name}
use Rattle.sr_tree.specs.declared.name.QualifiedName.{QualifiedName}
use Rattle.sr_tree.specs.Parts.{body_of, spec_of}
use Rattle.sr_types.specs.declared.ty.Ty.{Ty}
use Rattle.sr_types.specs.declared.ty.Ty.TheVariants as ty
use Rattle.sr_types.specs.Signatures.{number_of}
use Rattle.sr_value.specs.declared.place.Span.{Span}
use Rattle.sr_front.proofs.Constants.ConstantNames.{IsComponentInfo}
use Rattle.sr_front.proofs.Constants.ConstantsMet.{uses_steady}
use Rattle.sr_front.proofs.Own.DeclaredIn.{Stands, stands_left, stands_right}
use Rattle.sr_front.proofs.Names.FirmNames.{component_firm, component_loose, component_own, firm_outer, item_firm, loose_outer, own_outer, spec_firm}
use Rattle.sr_front.proofs.Known.HalfProgram.{Ending}
use Rattle.sr_front.proofs.Known.InfosStay.{Steady, same_elsewhere}
use Rattle.sr_front.proofs.Known.KeptNames.{Anywhere, anywhere}
use Rattle.sr_front.proofs.Known.Lasting.{Away}
use Rattle.sr_front.proofs.Names.OwnApart.{each_stands}
use Rattle.sr_front.proofs.Own.OwnOrShared.{stands_among}
use Rattle.sr_front.proofs.Known.ProgramReads.{Whole, component_info_at, known_waved, last as last_of, last_uses, whole_last}
use Rattle.sr_front.proofs.Mentioned.ReadsCode.{component_inside}
use Rattle.sr_front.proofs.Lists.Rising.{Rises}
use Rattle.sr_front.proofs.Lists.Sharing.{Shares, in_first, in_second, left_out, none}
use Rattle.sr_front.proofs.Constants.StaticNames.{IsIdle}
use Rattle.sr_front.proofs.Typed.TypedTypes.{Agrees, Counts, capability_of_part, entered_counts, type_of_part, type_part}
use Rattle.sr_front.proofs.Names.UsableNames.{IsRight}
use Rattle.sr_front.proofs.Constants.WavedEnds.{not_away, own_stands}
use Rattle.sr_front.proofs.Constants.WavesIdle.{IsWaiting, Waved}
use Rattle.sr_front.proofs.Names.WordsApart.{component_named, item_named, own_named, spec_named, type_shares}

-- ---- parts of what is known

abbrev pub part_at : Facts → Spot → Option Info
part_at facts spot = type_part (info_at facts.infos spot)

idle_part : (found : Option Info) → IsIdle found → type_part found ≡ None
idle_part None h = refl
idle_part (Some (info.Value typed)) h = refl
idle_part (Some (info.Operation type component is_local)) h = refl
idle_part (Some _) h = absurd h

pub waiting_part : (found : Option Info) → IsWaiting found → type_part found ≡ None
waiting_part None h = refl
waiting_part (Some (info.Value typed)) h = refl
waiting_part (Some _) h = absurd h

abbrev pub a_component : Option Info
a_component = Some (info.Component ty.Untyped)

component_part : (found : Option Info) → IsComponentInfo found → type_part found ≡ a_component
component_part (Some (info.Component type)) h = refl
component_part _ h = absurd h

-- ---- the names of constants, types and literals are firm

second_stands : {xs ys zs : List Span} (spot : Spot) → Shares xs ys zs → Stands spot zs → Stands spot xs
second_stands spot none k = absurd k
second_stands spot (left_out x shares) k = inr (second_stands spot shares k)
second_stands spot (in_first x shares) k = inr (second_stands spot shares k)
second_stands spot (in_second x shares) (inl e) = inl e
second_stands spot (in_second x shares) (inr k) = inr (second_stands spot shares k)

spec_is_firm : (spot : Spot) (one : SpecItem) → Stands spot (spec_named one) → Stands spot (spec_firm one)
spec_is_firm spot (spec.Const constant) k = k
spec_is_firm spot (spec.«Type» named) (inl e) = inl e
spec_is_firm spot (spec.«Type» named) (inr k) = inr (second_stands spot (type_shares named.ty) k)
spec_is_firm spot (spec.OpType named) k = k
spec_is_firm spot _ k = absurd k

item_is_firm : (spot : Spot) (one : Item) → Stands spot (item_named one) → Stands spot (item_firm one)
item_is_firm spot (item.Spec declared) k = spec_is_firm spot declared k
item_is_firm spot _ k = absurd k

stands_either : (spot : Spot) (xs ys : List Span) → Stands spot (xs ++ ys) → Stands spot xs ⊎ Stands spot ys
stands_either spot [] ys k = inr k
stands_either spot (x ∷ xs) ys (inl e) = inl (inl e)
stands_either spot (x ∷ xs) ys (inr k) = by (stands_either spot xs ys k)
  where
    by : Stands spot xs ⊎ Stands spot ys → Stands spot (x ∷ xs) ⊎ Stands spot ys
    by (inl h) = inl (inr h)
    by (inr h) = inr h

parts_are_firm : {A : Type 0} (spot : Spot) (some others : A → List Span) → ((one : A) → Stands spot (some one) → Stands spot (others one)) → (all : List A) → Stands spot (flat_map some all) → Stands spot (flat_map others all)
parts_are_firm spot some others each [] k = absurd k
parts_are_firm spot some others each (one ∷ all) k = by (stands_either spot (some one) (flat_map some all) k) (parts_are_firm spot some others each all)
  where
    by : Stands spot (some one) ⊎ Stands spot (flat_map some all) → (Stands spot (flat_map some all) → Stands spot (flat_map others all)) → Stands spot (flat_map others (one ∷ all))
    by (inl h) more = stands_left spot (others one) (flat_map others all) (each one h)
    by (inr h) more = stands_right spot (others one) (flat_map others all) (more h)

component_is_firm : (spot : Spot) (component : Component) → Stands spot (component_named component) → Stands spot (component_firm component)
component_is_firm spot component k = by (stands_either spot (flat_map spec_named (spec_of component)) (flat_map item_named (body_of component)) k)
  where
    by : Stands spot (flat_map spec_named (spec_of component)) ⊎ Stands spot (flat_map item_named (body_of component)) → Stands spot (component_firm component)
    by (inl h) = stands_left spot (flat_map spec_firm (spec_of component)) _ (parts_are_firm spot spec_named spec_firm (spec_is_firm spot) (spec_of component) h)
    by (inr h) = stands_right spot (flat_map spec_firm (spec_of component)) _ (parts_are_firm spot item_named item_firm (item_is_firm spot) (body_of component) h)

pub all_are_firm : (spot : Spot) (all : List Component) → Stands spot (flat_map component_named all) → Stands spot (flat_map component_firm all)
all_are_firm spot all = parts_are_firm spot component_named component_firm (component_is_firm spot) all

counts_steady : (before : Facts) → Steady (Counts before) Anywhere Anywhere
counts_steady before = record {
  closed = record { entered = entered_counts before; put = λ facts at typed free h. h; operation = λ facts spot type component is_local free h. h };
  standing = λ facts component h. h;
}

module _ (files : List File) (names : Names) (named : resolved files ≡ Ok names) (distinct : IsDistinct same_spot (map spot_of (flat_map file_names files))) (rises : Rises (flat_map file_names files)) (specs : Specs) where
  abbrev pub all : List Component
  all = components_in files

  abbrev pub loose : List Span
  loose = flat_map component_loose all

  abbrev pub firm : List Span
  firm = flat_map component_firm all

  -- those of constants, types and literals
  abbrev pub typing : List Span
  typing = flat_map component_named all

  abbrev pub inside : List Span
  inside = flat_map component_inside all

  abbrev pub last : Facts
  last = last_of files names named distinct rises specs

  abbrev pub known : Facts
  known = program_known names.uses specs files

  waves : Waved last known
  waves = known_waved files names named distinct rises specs

  -- ---- what is known of types where a declaration is checked is known after the declarations

  module _ (end : Facts) (ends : Ending names.uses specs files end) where
    pub end_uses : end.uses ≡ names.uses
    end_uses = ends (λ facts. facts.uses ≡ names.uses) Anywhere (uses_steady names.uses) (anywhere inside) (waves.uses ∙ last_uses files names named distinct rises specs)

    pub end_counts : Counts last end
    end_counts = ends (Counts last) Anywhere (counts_steady last) (anywhere inside) (λ signature n at. ap (λ signatures. number_of signatures signature) waves.signatures ∙ at)

    known_part : (spot : Spot) (found : Option Info) → info_at last.infos spot ≡ found → part_at known spot ≡ part_at last spot
    known_part spot None is = waiting_part (info_at known.infos spot) (waves.others spot is) ∙ sym (ap type_part is)
    known_part spot (Some one) is = ap type_part (waves.kept spot one is ∙ sym is)

    end_part : (spot : Spot) → Away spot inside → part_at end spot ≡ part_at last spot
    end_part spot away = ap type_part (same_elsewhere inside known end ends spot away) ∙ known_part spot (info_at last.infos spot) refl

  -- ---- where a declaration is

  -- a component, a name of no type, or a name that is fine
  abbrev pub Sited : (Spot → Type 0) → Spot → Type 0
  Sited Fine spot = ((component : Component) × IsIn component all × (spot ≡ component_spot component)) ⊎ (Stands spot loose ⊎ (Stands spot typing × Fine spot))

  pub record Reached (now : Facts) : Type 0 where
    pub uses : now.uses ≡ names.uses
    pub components : (component : Component) → IsIn component all → part_at now (component_spot component) ≡ a_component
    pub none : (spot : Spot) → Stands spot loose → part_at now spot ≡ None

  abbrev pub Lasts : (Spot → Type 0) → Facts → Type 0
  Lasts Fine now = (spot : Spot) → Stands spot typing → Fine spot → part_at last spot ≡ part_at now spot

  -- where a declaration is read
  pub reached : (after : List Span) (now : Facts) → Whole files names named distinct rises specs after now → Reached now
  reached after now whole = record {
    uses = whole.1.1;
    components = λ component there.
        component_part (info_at now.infos (component_spot component))
        (component_info_at files names named distinct rises specs now (λ spot one is. (whole.0 spot one is).0.0.1.0) whole.1.0 component there);
    none = λ spot stands. none_at spot stands (info_at now.infos spot) refl;
  }
    where
      none_at : (spot : Spot) → Stands spot loose → (found : Option Info) → info_at now.infos spot ≡ found → part_at now spot ≡ None
      none_at spot stands None is = ap type_part is
      none_at spot stands (Some one) is = ap type_part is ∙ idle_part (Some one) (by (whole.0 spot one is).0.0.0)
        where
          by : IsIdle (Some one) ⊎ Away spot loose → IsIdle (Some one)
          by (inl idle) = idle
          by (inr away) = absurd (not_away spot loose stands away)

  reached_last : Reached last
  reached_last = reached [] last (whole_last files names named distinct rises specs)

  -- what is known there is known where it is checked
  pub sited_end : (Fine : Spot → Type 0) (now end : Facts) → Ending names.uses specs files end → Reached now → Lasts Fine now → (spot : Spot) → Sited Fine spot → part_at end spot ≡ part_at now spot
  sited_end Fine now end ends here lasts spot (inl own) =
      let at = component_spot own.0 in
      let outer = each_stands (λ one. Away one inside) (flat_map component_own all) (own_outer files distinct) at (own_stands all own.0 own.1) in
      ap (part_at end) own.2 ∙ end_part end ends at outer ∙ reached_last.components own.0 own.1 ∙ sym (here.components own.0 own.1) ∙ ap (part_at now) (sym own.2)
  sited_end Fine now end ends here lasts spot (inr (inl stands)) =
      end_part end ends spot (each_stands (λ one. Away one inside) loose (loose_outer files distinct) spot stands) ∙ reached_last.none spot stands ∙ sym (here.none spot stands)
  sited_end Fine now end ends here lasts spot (inr (inr fine)) =
      end_part end ends spot (each_stands (λ one. Away one inside) firm (firm_outer files distinct) spot (all_are_firm spot all fine.0)) ∙ lasts spot fine.0 fine.1

  -- ---- names

  -- what the name means is known there as here
  abbrev pub SameMeant : Facts → Facts → Span → Type 0
  SameMeant now end used = (decl : Decl) → meaning_at names.uses (spot_of used) ≡ Some (Declared decl) → part_at end decl.spot ≡ part_at now decl.spot

  pub told_same : (told : Option Decl → Option Info → Option Ty) → ((decl : Option Decl) (found : Option Info) → told decl found ≡ told decl (type_part found)) → (now end : Facts) → now.uses ≡ names.uses → end.uses ≡ names.uses
      → (name : QualifiedName) → SameMeant now end (deciding name).span
      → told (named_decl end name) (decl_info end.infos (named_decl end name)) ≡ told (named_decl now name) (decl_info now.infos (named_decl now name))
  told_same told part now end here there name same =
      ap (λ uses. told (meant_decl (meaning_at uses spot)) (decl_info end.infos (meant_decl (meaning_at uses spot)))) there
      ∙ by (meaning_at names.uses spot) refl
      ∙ sym (ap (λ uses. told (meant_decl (meaning_at uses spot)) (decl_info now.infos (meant_decl (meaning_at uses spot)))) here)
    where
      spot : Spot
      spot = spot_of (deciding name).span

      by : (meaning : Option Meaning) → meaning_at names.uses spot ≡ meaning → told (meant_decl meaning) (decl_info end.infos (meant_decl meaning)) ≡ told (meant_decl meaning) (decl_info now.infos (meant_decl meaning))
      by None is = refl
      by (Some (MeansPredefined one)) is = refl
      by (Some (Declared decl)) is = part (Some decl) (info_at end.infos decl.spot) ∙ ap (told (Some decl)) (same decl is) ∙ sym (part (Some decl) (info_at now.infos decl.spot))

  pub agrees_at : (now end : Facts) → now.uses ≡ names.uses → end.uses ≡ names.uses → (name : QualifiedName) → SameMeant now end (deciding name).span → Agrees now end name
  agrees_at now end here there name same = (told_same type_by type_of_part now end here there name same, told_same capability_by capability_of_part now end here there name same)

  pub agrees_each : (now end : Facts) → now.uses ≡ names.uses → end.uses ≡ names.uses → (uses : List QualifiedName) → Each (λ name. SameMeant now end (deciding name).span) uses → Each (Agrees now end) uses
  agrees_each now end here there [] same = tt
  agrees_each now end here there (name ∷ uses) same = (agrees_at now end here there name same.0, agrees_each now end here there uses same.1)

  -- ---- what is usable

  not_true : (b : Bool) → not b ≡ true → b ≡ false
  not_true true h = absurd (false≢true h)
  not_true false h = refl

  usable_parts : (within : Option Spot) (at : Spot) (decl : Decl) → needs_order decl.sort ≡ true → is_usable within at decl ≡ true → (spot_before decl.spot at ≡ true) × (is_within within decl.spot ≡ false)
  usable_parts within at decl needs usable =
      let both = and_parts (spot_before decl.spot at) (not (is_within within decl.spot)) (sym (ap (λ b. not b || (spot_before decl.spot at && not (is_within within decl.spot))) needs) ∙ usable) in
      (both.0, not_true (is_within within decl.spot) both.1)

  -- what a name means that is right is a component, or no type, or it stands before
  pub sited : (Fine : Spot → Type 0) (here : Component) (there : IsIn here all) (within : Option Spot) (at : Spot) (decl : Decl) → IsRight files here there within at decl
      → ((spot : Spot) → spot_before spot at ≡ true → is_within within spot ≡ false → Fine spot) → Sited Fine decl.spot
  sited Fine here there within at decl right fine = by right.0.0.is
    where
      outside : Component
      outside = right.0.0.component

      own_sited : (one : Sort × Name) → is_usable within at (declaration one.0 one.1.span) ≡ true → Stands (spot_named one.1) (component_loose outside) ⊎ (Stands (spot_named one.1) (component_named outside) × (needs_order one.0 ≡ true))
          → Sited Fine (spot_named one.1)
      own_sited one usable (inl stands) = inr (inl (stands_among component_loose all outside (spot_named one.1) right.0.0.there stands))
      own_sited one usable (inr stands) =
          let parts = usable_parts within at (declaration one.0 one.1.span) stands.1 usable in
          inr (inr (stands_among component_named all outside (spot_named one.1) right.0.0.there stands.0, fine (spot_named one.1) parts.0 parts.1))

      by : (decl ≡ decl_of outside) ⊎ ((one : Sort × Name) × IsIn one (own_names outside) × (decl ≡ declaration one.0 one.1.span)) → Sited Fine decl.spot
      by (inl same) = inl (outside, right.0.0.there, ap (λ (one : Decl). one.spot) same)
      by (inr own) =
          subst (λ (one : Decl). Sited Fine one.spot) (sym own.2)
          (own_sited own.0 (subst (λ one. is_usable within at one ≡ true) own.2 right.1) (own_named outside own.0 own.1))

-- What the names of a component may mean: a component, or what one declares outside of code, that is usable there.
use Rattle.std.proofs.Common.{◌≡◌, ◌⊎◌, inl, inr, ℕ, ◌+◌, ◌≤◌, Bool, true, false, not, ◌||◌, List, [], ◌∷◌, ◌++◌, flat_map, map, Option, Some, None, if◌then◌else◌, refl, sym, ap, subst, ◌∙◌, arith}
use Rattle.std.specs.Option.{option_and_then, option_map}
use Rattle.std.proofs.lemmas.Bool.{false≢true}
use Rattle.std.proofs.lemmas.Option.{none-some}
use Rattle.sr_names.specs.declared.finding.Finding.{Finding}
use Rattle.sr_names.specs.declared.finding.Finding.TheVariants.{Use}
use Rattle.sr_names.specs.declared.meaning.Decl.{Decl}
use Rattle.sr_names.specs.declared.meaning.Meaning.{Meaning}
use Rattle.sr_names.specs.declared.meaning.Meaning.TheVariants.{Declared, Predefined as MeansPredefined}
use Rattle.sr_names.specs.declared.meaning.Sort.{Sort}
use Rattle.sr_names.specs.declared.place.Place.{Place}
use Rattle.sr_names.specs.declared.predefined.Predefined.{Predefined as PredefinedName}
use Rattle.sr_names.specs.declared.spot.Spot.{Spot}
use Rattle.sr_names.specs.Predefined.{predefined_named}
use Rattle.sr_names.specs.Readings.{declaration}
use Rattle.sr_names.specs.Scopes.{candidates, denotes, from_imports, is_usable, member, no_blocks, ready, shown, visible_named}
use Rattle.sr_names.specs.Shown.{counted}
use Rattle.sr_names.specs.Sorts.{needs_order}
use Rattle.sr_names.specs.Spots.{same_spot, spot_of}
use Rattle.sr_names.specs.Tables.{declared_as}
use Rattle.sr_names.specs.Visible.{component_at}
use Rattle.sr_order.specs.Names.{component_names, file_names, formal_names, item_names, spec_item_names}
use Rattle.sr_names.proofs.LinkLemmas.{same_spot-refl}
use Rattle.sr_scope.proofs.Among.{names_at, names_both, one_if}
use Rattle.sr_scope.proofs.Findings.{in_either, in_left}
use Rattle.sr_scope.proofs.FoundTypes.{formals_among}
use Rattle.sr_scope.proofs.OwnNames.{own_names, spec_own}
use Rattle.sr_scope.specs.Components.{component_found, decl_of, imports_found, imports_of, own_twice, place_of, sort_of}
use Rattle.sr_scope.specs.Items.{inside, item_found, item_within, items_found, served_twice, spec_found, spec_within, specs_found}
use Rattle.sr_scope.specs.Names.{is_component}
use Rattle.sr_scope.specs.Resolved.{program}
use Rattle.sr_scope.specs.Types.{formal_read, formals_found}
use Rattle.sr_scope.specs.Uses.{IsIn}
use Rattle.sr_tables.specs.Parts.{component_spot, components_in}
use Rattle.sr_tree.specs.declared.component.Component.{Component}
use Rattle.sr_tree.specs.declared.component.Component.TheVariants.{Global, Resource, SplitResource}
use Rattle.sr_tree.specs.declared.component.File.{File}
use Rattle.sr_tree.specs.declared.component.Item.{Item}
use Rattle.sr_tree.specs.declared.component.SpecItem.{SpecItem}
use Rattle.sr_tree.specs.declared.name.Name.{Name}
use Rattle.sr_tree.specs.Parts.{body_of, formals_of, name_of, spec_of}
use Rattle.sr_value.specs.declared.place.Span.{Span}
use Rattle.sr_front.proofs.Names.FoundInParts as part
use Rattle.sr_front.proofs.Names.FoundInParts.{part_fewer, part_stands}
use Rattle.sr_front.proofs.Names.Globals.{declared_component}
use Rattle.sr_front.proofs.Names.UsesInExprs as exprs
use Rattle.sr_front.proofs.Names.UsesInFiles.{own_not}
use Rattle.sr_front.proofs.Names.UsesTwice as twice
use Rattle.sr_front.proofs.Names.UsesVisible as visible
use Rattle.sr_front.proofs.Names.UsesVisible.{IsSeen, all_seen, found_visible, own_meaning, visible_meaning}
use Rattle.sr_front.proofs.Names.UsesWithin.{IsFound, Stands, by_among, item_stands, never, spec_stands, stands_left, stands_right}

-- a component, or what one declares outside of code
pub record IsOutside (files : List File) (d : Decl) : Type 0 where
  pub component : Component
  pub there : IsIn component (components_in files)
  pub is : (d ≡ decl_of component) ⊎ ((one : Sort × Name) × IsIn one (own_names component) × (d ≡ declaration one.0 one.1.span))

unordered : (component : Component) → needs_order (sort_of component) ≡ false
unordered (Resource span name formals items) = refl
unordered (SplitResource span name spec formals items) = refl
unordered (Global span name spec body) = refl

-- ---- a meaning of which two things hold

both_hold : (P Q : Spot → Decl → Type 0) (at : Spot) (meaning : Option Meaning) → exprs.Fits P at meaning → exprs.Fits Q at meaning → exprs.Fits (λ at d. P at d × Q at d) at meaning
both_hold P Q at None p q = tt
both_hold P Q at (Some (MeansPredefined name)) p q = tt
both_hold P Q at (Some (Declared d)) p q = (p, q)

module _ (files : List File) (here : Component) (there : IsIn here (components_in files)) (within : Option Spot) where
  abbrev outer : Place
  outer = place_of (program files).components (program files).specs here

  abbrev pub around : Place
  around = inside outer within

  -- ---- what is usable

  abbrev Usable : Spot → Decl → Type 0
  Usable at d = is_usable within at d ≡ true

  ready_usable : (at : Spot) (d : Decl) → exprs.Fits Usable at (ready within at d)
  ready_usable at d = by (is_usable within at d) refl
    where
      by : (b : Bool) → is_usable within at d ≡ b → exprs.Fits Usable at (if b then Some (Declared d) else None)
      by true is = is
      by false is = tt

  shown_usable : (text : List ℕ) (at : Spot) (decls : List Decl) → exprs.Fits Usable at (from_imports within text at (counted decls))
  shown_usable text at [] = by (predefined_named text)
    where
      by : (found : Option PredefinedName) → exprs.Fits Usable at (option_map MeansPredefined found)
      by None = tt
      by (Some name) = tt
  shown_usable text at (decl ∷ []) = ready_usable at decl
  shown_usable text at (decl ∷ other ∷ decls) = tt

  -- a component may be used anywhere
  seen_unordered : (d : Decl) → IsSeen files here d → needs_order d.sort ≡ false
  seen_unordered d (inl e) = ap (λ (one : Decl). needs_order one.sort) e ∙ unordered here
  seen_unordered d (inr k) = let one = declared_component files k.name.text d k.is in ap (λ (one : Decl). needs_order one.sort) (sym one.2) ∙ unordered one.0

  seen_usable : (at : Spot) (d : Decl) → IsSeen files here d → Usable at d
  seen_usable at d seen = by (needs_order d.sort) _ (seen_unordered d seen)
    where
      by : (needs other : Bool) → needs ≡ false → (not needs || other) ≡ true
      by true other is = absurd (false≢true (sym is))
      by false other is = refl

  names_usable : (text : List ℕ) (at : Spot) → exprs.Fits Usable at (denotes around no_blocks text at)
  names_usable text at = by_own (declared_as outer.own text)
    where
      among : (found : Option Decl) (component : Decl) → option_and_then (λ one. component_at outer.visible one.spot) found ≡ Some component → IsIn component outer.visible
      among None component h = absurd (none-some _ h)
      among (Some one) component h = found_visible outer.visible one.spot component h

      by_visible : (found : Option Decl) → visible_named outer text ≡ found → exprs.Fits Usable at (visible_meaning around text at found)
      by_visible (Some component) is = seen_usable at component (all_seen files here component (among (declared_as outer.components text) component is))
      by_visible None is = shown_usable text at (candidates outer.specs outer.visible text)

      by_own : (found : Option Decl) → exprs.Fits Usable at (own_meaning around text at found)
      by_own (Some d) = ready_usable at d
      by_own None = by_visible (visible_named outer text) refl

  members_usable : (component : Decl) (text : List ℕ) (at : Spot) → exprs.Fits Usable at (member around component text at)
  members_usable component text at = by (shown outer.specs component text)
    where
      by : (found : Option Decl) → exprs.Fits Usable at (option_and_then (ready within at) found)
      by None = tt
      by (Some d) = ready_usable at d

  -- ---- what is declared outside of code

  abbrev pub Outside : Spot → Decl → Type 0
  Outside at d = IsOutside files d × (is_component d.sort ≡ true → IsSeen files here d)

  component_may : (d : Decl) → IsSeen files here d → (component : Component) → IsIn component (components_in files) → d ≡ decl_of component → (at : Spot) → Outside at d
  component_may d seen component among is at = (record { component = component; there = among; is = inl is }, λ sort. seen)

  own_may : (one : Sort × Name) → IsIn one (own_names here) → (at : Spot) → Outside at (declaration one.0 one.1.span)
  own_may one among at = (record { component = here; there = there; is = inr (one, among, refl) }, λ component. absurd (false≢true (sym (own_not here one among) ∙ component)))

  shown_may : (shower : Decl) → IsSeen files here shower → (component : Component) → IsIn component (components_in files) → component_spot component ≡ shower.spot
      → (one : Sort × Name) → IsIn one (flat_map spec_own (spec_of component)) → (at : Spot) → Outside at (declaration one.0 one.1.span)
  shown_may shower seen component among place one k at =
      let own = in_left one (flat_map spec_own (spec_of component)) _ k in
      (record { component = component; there = among; is = inr (one, own, refl) }, λ is. absurd (false≢true (sym (own_not component one own) ∙ is)))

  pub outside_fits : exprs.PlaceFits Outside around
  outside_fits = visible.place_fits files here there Outside component_may own_may shown_may (λ at d is may. may.1 is) within

  -- ---- both

  abbrev pub IsRight : Spot → Decl → Type 0
  IsRight at d = Outside at d × Usable at d

  right_named : (component : Decl) → exprs.IsNamed IsRight component → exprs.IsNamed Outside component
  right_named component named = record { at = named.at; may = named.may.0; is = named.is }

  pub right_fits : exprs.PlaceFits IsRight around
  right_fits = record {
    names = λ text at. both_hold Outside Usable at (denotes around no_blocks text at) (outside_fits.names text at) (names_usable text at);
    members = λ component named text at. both_hold Outside Usable at (member around component text at) (outside_fits.members component (right_named component named) text at) (members_usable component text at);
  }

-- ---- what is found of a component is found of its spec, its formals or its body

module _ (spot : Spot) (decl : Decl) where
  abbrev Found : List Finding → Type 0
  Found = IsFound spot decl

  abbrev Here : List Span → Type 0
  Here = Stands spot decl

  pub spec_among : (items : List SpecItem) (one : SpecItem) → IsIn one items → Here (spec_item_names one) → Here (flat_map spec_item_names items)
  spec_among = part_stands spot spec_item_names

  pub item_among : (items : List Item) (one : Item) → IsIn one items → Here (item_names one) → Here (flat_map item_names items)
  item_among = part_stands spot item_names

  pub in_spec : (items : List SpecItem) (one : SpecItem) (place : Place) → IsIn one items → Here (spec_item_names one) → names_at spot (flat_map spec_item_names items) ≤ 1
      → Found (specs_found items place no_blocks) → Found (spec_found one (inside place (spec_within one)) no_blocks)
  in_spec items one place =
      part.in_part spot spec_item_names (Use spot (Declared decl)) (λ it. spec_found it (inside place (spec_within it)) no_blocks) (λ all. specs_found all place no_blocks) (λ k. k)
      (λ first all. in_either (Use spot (Declared decl)) (spec_found first (inside place (spec_within first)) no_blocks) (specs_found all place no_blocks))
      (λ it. spec_stands spot decl it (inside place (spec_within it)) no_blocks) items one

  pub in_body : (items : List Item) (one : Item) (place : Place) → IsIn one items → Here (item_names one) → names_at spot (flat_map item_names items) ≤ 1
      → Found (items_found items place no_blocks) → Found (item_found one (inside place (item_within one)) no_blocks)
  in_body items one place =
      part.in_part spot item_names (Use spot (Declared decl)) (λ it. item_found it (inside place (item_within it)) no_blocks) (λ all. items_found all place no_blocks) (λ k. k)
      (λ first all. in_either (Use spot (Declared decl)) (item_found first (inside place (item_within first)) no_blocks) (items_found all place no_blocks))
      (λ it. item_stands spot decl it (inside place (item_within it)) no_blocks) items one

  module _ (files : List File) (here : Component) (once : names_at spot (component_names here) ≤ 1) where
    abbrev pub place : Place
    place = place_of (program files).components (program files).specs here

    abbrev pub of_spec : List Span
    of_spec = flat_map spec_item_names (spec_of here)

    abbrev pub of_formals : List Span
    of_formals = flat_map formal_names (formals_of here)

    abbrev pub of_body : List Span
    of_body = flat_map item_names (body_of here)

    abbrev pub formals : List Finding
    formals = formals_found (map formal_read (formals_of here)) (inside place None) no_blocks

    abbrev pub body : List Finding
    body = items_found (body_of here) (inside place None) no_blocks

    abbrev pub Whole : Type 0
    Whole = Found (component_found (program files).components (program files).specs here)

    -- nothing else than what is found in the spec, the formals, the body, or of an import
    pub in_part : {A : Type 0} → (Found (imports_found (program files).components (imports_of here)) → A) → (Found (specs_found (spec_of here) place no_blocks) → A) → (Found formals → A) → (Found body → A) → Whole → A
    in_part {A = A} imported specs of_formal of_item k = first (in_either one (own_twice here) _ k)
      where
        one : Finding
        one = Use spot (Declared decl)

        fourth : Found formals ⊎ Found body → A
        fourth (inl h) = of_formal h
        fourth (inr h) = of_item h

        third : Found (specs_found (spec_of here) place no_blocks) ⊎ Found (formals ++ body) → A
        third (inl h) = specs h
        third (inr h) = fourth (in_either one formals body h)

        second : Found (served_twice (body_of here) place no_blocks []) ⊎ Found (specs_found (spec_of here) place no_blocks ++ (formals ++ body)) → A
        second (inl h) = never spot decl _ (twice.served_twice_fit (λ at d. ⊥) (body_of here) place no_blocks []) h
        second (inr h) = third (in_either one (specs_found (spec_of here) place no_blocks) _ h)

        after : Found (imports_found (program files).components (imports_of here)) ⊎ Found (served_twice (body_of here) place no_blocks [] ++ (specs_found (spec_of here) place no_blocks ++ (formals ++ body))) → A
        after (inl h) = imported h
        after (inr h) = second (in_either one (served_twice (body_of here) place no_blocks []) _ h)

        first : Found (own_twice here) ⊎ Found (imports_found (program files).components (imports_of here) ++ (served_twice (body_of here) place no_blocks [] ++ (specs_found (spec_of here) place no_blocks ++ (formals ++ body)))) → A
        first (inl h) = never spot decl _ (twice.own_twice_fit (λ at d. ⊥) here) h
        first (inr h) = after (in_either one (imports_found (program files).components (imports_of here)) _ h)

    pub all_names : names_at spot of_spec + (names_at spot of_formals + names_at spot of_body) ≤ 1
    all_names = omega (arith, once, names_both spot ((name_of here).span ∷ []) (of_spec ++ (of_formals ++ of_body)), names_both spot of_spec (of_formals ++ of_body), names_both spot of_formals of_body)

    pub formal_stands : Found formals → Here of_formals
    formal_stands h = by_among spot decl _ _ (formals_among (formals_of here) (inside place None) no_blocks) h

-- ---- where the names of a component stand

pub stands_in : (spot : Spot) (decl : Decl) (names : List Span) (span : Span) → spot ≡ spot_of span → IsIn span names → Stands spot decl names
stands_in spot decl [] span same k = absurd k
stands_in spot decl (first ∷ names) span same (inl e) =
    stands_left spot decl (first ∷ []) names
    (subst (λ b. 1 ≤ one_if b + 0) (sym (ap (λ at. same_spot at (spot_of first)) (same ∙ ap spot_of (sym e)) ∙ same_spot-refl (spot_of first))) (omega arith))
stands_in spot decl (first ∷ names) span same (inr k) = stands_right spot decl (first ∷ []) names (stands_in spot decl names span same k)

pub file_fewer : (spot : Spot) (files : List File) (one : Component) → IsIn one (components_in files) → names_at spot (component_names one) ≤ names_at spot (flat_map file_names files)
file_fewer spot [] one k = absurd k
file_fewer spot (file ∷ files) one k = by (in_either one file.components (components_in files) k) (file_fewer spot files one)
  where
    by : IsIn one file.components ⊎ IsIn one (components_in files) → (IsIn one (components_in files) → names_at spot (component_names one) ≤ names_at spot (flat_map file_names files))
        → names_at spot (component_names one) ≤ names_at spot (flat_map file_names (file ∷ files))
    by (inl h) more = omega (arith, names_both spot (file_names file) (flat_map file_names files), part_fewer spot component_names file.components one h)
    by (inr h) more = omega (arith, names_both spot (file_names file) (flat_map file_names files), more h)

-- What the name means that stands at a spot of a component is found in the component.
use Rattle.std.proofs.Common.{◌≡◌, ◌⊎◌, inl, inr, ◌+◌, ◌≤◌, suc, false, List, [], ◌∷◌, ◌++◌, None, Some, Ok, map, flat_map, sym, ap, subst, ◌∙◌, arith}
use Rattle.std.proofs.lemmas.Option.{none-some, same_Some}
use Rattle.std.specs.List.{IsDistinct}
use Rattle.sr_names.proofs.LinkLemmas.{same_spot-refl}
use Rattle.sr_names.proofs.Marking.{entry-same, entry-other, same_spot-cases}
use Rattle.sr_names.specs.declared.cycles.Import.{Import as GlobalImport}
use Rattle.sr_names.specs.declared.diagnostics.Diagnostics.{Diagnostics}
use Rattle.sr_names.specs.declared.finding.Finding.{Finding}
use Rattle.sr_names.specs.declared.finding.Finding.TheVariants.{Use, Broken}
use Rattle.sr_names.specs.declared.meaning.Meaning.{Meaning}
use Rattle.sr_names.specs.declared.meaning.Meaning.TheVariants.{Declared}
use Rattle.sr_names.specs.declared.place.Blocks.{Blocks}
use Rattle.sr_names.specs.declared.place.Place.{Place}
use Rattle.sr_names.specs.declared.spot.Spot.{Spot}
use Rattle.sr_names.specs.Cycles.{all_cycles_found, links_of}
use Rattle.sr_names.specs.Diagnostics.{all_noted, noted, nothing as nothing_noted}
use Rattle.sr_names.specs.Entries.{Entries}
use Rattle.sr_names.specs.Scopes.{no_blocks}
use Rattle.sr_names.specs.Specs.{Specs}
use Rattle.sr_names.specs.Spots.{same_spot, spot_of}
use Rattle.sr_names.specs.Tables.{declared_as}
use Rattle.sr_names.specs.Uses.{meaning_at, with_use}
use Rattle.std.specs.Option.{option_map}
use Rattle.sr_order.specs.Names.{component_names, file_names, formal_names, item_names, names_spans, spec_item_names}
use Rattle.sr_tables.specs.Parts.{components_in}
use Rattle.sr_tree.specs.declared.component.Component.{Component}
use Rattle.sr_tree.specs.declared.component.File.{File}
use Rattle.sr_tree.specs.declared.component.Item.{Item}
use Rattle.sr_tree.specs.declared.component.Item.TheVariants as item
use Rattle.sr_tree.specs.declared.component.SpecItem.{SpecItem}
use Rattle.sr_tree.specs.declared.component.SpecItem.TheVariants as spec
use Rattle.sr_tree.specs.declared.name.Name.{Name}
use Rattle.sr_tree.specs.Parts.{name_of, spec_of, formals_of, body_of}
use Rattle.sr_value.specs.declared.place.Span.{Span}
use Rattle.sr_scope.specs.Components.{component_found, components_found, files_collected_twice, files_found, files_imports, imported_names, imports_found, imports_of, item_imports, items_imports, main_found, own_twice, place_of, specs_imports}
use Rattle.sr_scope.specs.declared.program.Names.{Names}
use Rattle.sr_scope.specs.Items.{inside, item_found, item_within, items_found, served_twice, spec_found, spec_within, specs_found}
use Rattle.sr_scope.specs.Resolved.{findings, no_place, program, resolved}
use Rattle.sr_scope.specs.Types.{formal_read, formals_found}
use Rattle.sr_scope.specs.Uses.{IsIn}
use Rattle.sr_scope.proofs.Among.{Among, at_most_one, one_if, names_at, names_both, uses_at}
use Rattle.sr_scope.proofs.Findings.{in_either, uses_noted}
use Rattle.sr_front.proofs.Names.UsesInExprs as exprs
use Rattle.sr_front.proofs.Names.UsesTwice as twice
use Rattle.sr_names.specs.declared.meaning.Decl.{Decl}
use Rattle.sr_scope.proofs.FoundExprs.{reading_among}
use Rattle.sr_scope.proofs.FoundStatements.{final_among, proc_among, procedure_among, process_among, statement_among}
use Rattle.sr_scope.proofs.FoundTypes.{const_among, formals_among, op_items_among, semaphores_among, signature_among, type_among, var_among}

module _ (spot : Spot) (decl : Decl) where
  -- the use of the name is found
  abbrev pub IsFound : List Finding → Type 0
  IsFound = IsIn (Use spot (Declared decl))

  -- one of these names stands there
  abbrev pub Stands : List Span → Type 0
  Stands spans = 1 ≤ names_at spot spans

  used : (finding : Finding) (found : List Finding) → finding ≡ Use spot (Declared decl) → uses_at spot (finding ∷ found) ≡ suc (uses_at spot found)
  used finding found is = ap (λ first. uses_at spot (first ∷ found)) is ∙ ap (λ b. one_if b + uses_at spot found) (same_spot-refl spot) ∙ omega arith

  not_fewer : (finding : Finding) (found : List Finding) → uses_at spot found ≤ uses_at spot (finding ∷ found)
  not_fewer (Use at other) found = omega arith
  not_fewer (Broken diagnostic) found = omega arith

  counted : (found : List Finding) → IsFound found → 1 ≤ uses_at spot found
  counted [] k = absurd k
  counted (finding ∷ found) (inl is) = omega (arith, used finding found is)
  counted (finding ∷ found) (inr k) = omega (arith, counted found k, not_fewer finding found)

  pub by_among : (found : List Finding) (spans : List Span) → Among found spans → IsFound found → Stands spans
  by_among found spans among k = omega (arith, counted found k, among.at spot)

  -- nothing is used here
  abbrev NoUse : Spot → Decl → Type 0
  NoUse at one = ⊥

  pub never : {A : Type 0} (found : List Finding) → exprs.AllFit NoUse found → IsFound found → A
  never [] all k = absurd k
  never (finding ∷ found) all (inl is) = absurd (subst (exprs.FindingFits NoUse) is all.0)
  never (finding ∷ found) all (inr k) = never found all.1 k

  pub stands_left : (xs ys : List Span) → Stands xs → Stands (xs ++ ys)
  stands_left xs ys h = omega (arith, h, names_both spot xs ys)

  pub stands_right : (xs ys : List Span) → Stands ys → Stands (xs ++ ys)
  stands_right xs ys h = omega (arith, h, names_both spot xs ys)

  pub stands_after : (span : Span) (spans : List Span) → Stands spans → Stands (span ∷ spans)
  stands_after span spans h = omega (arith, h)

  -- what follows from either part
  in_part : {A : Type 0} (found more : List Finding) → IsFound (found ++ more) → (IsFound found → A) → (IsFound more → A) → A
  in_part {A = A} found more k first second = by (in_either (Use spot (Declared decl)) found more k)
    where
      by : IsFound found ⊎ IsFound more → A
      by (inl h) = first h
      by (inr h) = second h

  part_stands : (found more : List Finding) (names rest : List Span) → (IsFound found → Stands names) → (IsFound more → Stands rest) → IsFound (found ++ more) → Stands (names ++ rest)
  part_stands found more names rest first second k = in_part found more k (λ h. stands_left names rest (first h)) (λ h. stands_right names rest (second h))

  -- ---- what is found in a component stands in it

  pub spec_stands : (one : SpecItem) (place : Place) (blocks : Blocks) → IsFound (spec_found one place blocks) → Stands (spec_item_names one)
  spec_stands (spec.Import imports) place blocks k = absurd k
  spec_stands (spec.Const constant) place blocks k = by_among _ _ (const_among constant place blocks) k
  spec_stands (spec.Type named) place blocks k = stands_after named.name.span _ (by_among _ _ (type_among named.ty place blocks) k)
  spec_stands (spec.OpType named) place blocks k = stands_after named.name.span _ (by_among _ _ (signature_among named.signature place blocks) k)
  spec_stands (spec.Op operations) place blocks k = by_among _ _ (op_items_among operations.items place blocks) k
  spec_stands (spec.Var variables) place blocks k = by_among _ _ (var_among variables place blocks) k
  spec_stands (spec.Sem declared) place blocks k = by_among _ _ (semaphores_among declared.semaphores place blocks) k

  pub item_stands : (one : Item) (place : Place) (blocks : Blocks) → IsFound (item_found one place blocks) → Stands (item_names one)
  item_stands (item.Spec declared) place blocks = spec_stands declared place blocks
  item_stands (item.Proc proc) place blocks = by_among _ _ (proc_among proc place blocks)
  item_stands (item.Procedure procedure) place blocks = by_among _ _ (procedure_among procedure place blocks)
  item_stands (item.Process process) place blocks = by_among _ _ (process_among process place blocks)
  item_stands (item.Final final) place blocks = by_among _ _ (final_among final place blocks)
  item_stands (item.Statement statement) place blocks = by_among _ _ (statement_among statement place blocks)

  pub specs_stand : (items : List SpecItem) (place : Place) (blocks : Blocks) → IsFound (specs_found items place blocks) → Stands (flat_map spec_item_names items)
  specs_stand [] place blocks k = absurd k
  specs_stand (one ∷ items) place blocks k =
      part_stands (spec_found one (inside place (spec_within one)) blocks) (specs_found items place blocks) (spec_item_names one) (flat_map spec_item_names items) (spec_stands one (inside place (spec_within one)) blocks) (specs_stand items place blocks) k

  pub items_stand : (items : List Item) (place : Place) (blocks : Blocks) → IsFound (items_found items place blocks) → Stands (flat_map item_names items)
  items_stand [] place blocks k = absurd k
  items_stand (one ∷ items) place blocks k =
      part_stands (item_found one (inside place (item_within one)) blocks) (items_found items place blocks) (item_names one) (flat_map item_names items) (item_stands one (inside place (item_within one)) blocks) (items_stand items place blocks) k

  -- ---- imports

  pub imports_among : (components : Entries) (names : List Name) → IsFound (imports_found components names) → Stands (names_spans names)
  imports_among components [] k = absurd k
  imports_among components (name ∷ names) (inl is) =
      stands_left (name.span ∷ []) (names_spans names) (by_among _ _ (reading_among (option_map Declared (declared_as components name.text)) name.span) (inl is))
  imports_among components (name ∷ names) (inr k) = stands_after name.span (names_spans names) (imports_among components names k)

  pub spans_both : (names more : List Name) → names_at spot (names_spans (names ++ more)) ≡ names_at spot (names_spans names) + names_at spot (names_spans more)
  spans_both [] more = omega arith
  spans_both (name ∷ names) more = omega (arith, spans_both names more)

  pub spec_imports_fewer : (one : SpecItem) → names_at spot (names_spans (imported_names one)) ≤ names_at spot (spec_item_names one)
  spec_imports_fewer (spec.Import imports) = omega arith
  spec_imports_fewer _ = omega arith

  pub specs_imports_fewer : (items : List SpecItem) → names_at spot (names_spans (specs_imports items)) ≤ names_at spot (flat_map spec_item_names items)
  specs_imports_fewer [] = omega arith
  specs_imports_fewer (one ∷ items) =
      omega (arith, spans_both (imported_names one) (specs_imports items), names_both spot (spec_item_names one) (flat_map spec_item_names items), spec_imports_fewer one, specs_imports_fewer items)

  pub item_imports_fewer : (one : Item) → names_at spot (names_spans (item_imports one)) ≤ names_at spot (item_names one)
  item_imports_fewer (item.Spec declared) = spec_imports_fewer declared
  item_imports_fewer _ = omega arith

  pub items_imports_fewer : (items : List Item) → names_at spot (names_spans (items_imports items)) ≤ names_at spot (flat_map item_names items)
  items_imports_fewer [] = omega arith
  items_imports_fewer (one ∷ items) =
      omega (arith, spans_both (item_imports one) (items_imports items), names_both spot (item_names one) (flat_map item_names items), item_imports_fewer one, items_imports_fewer items)

  -- ---- components

  module _ (components : Entries) (specs : Specs) where
    component_stands : (component : Component) → IsFound (component_found components specs component) → Stands (component_names component)
    component_stands component k =
        in_part (own_twice component) _ k (never _ (twice.own_twice_fit NoUse component)) (λ k.
        in_part (imports_found components (imports_of component)) _ k (λ h. whole (imported (imports_among components (imports_of component) h))) (λ k.
        in_part (served_twice (body_of component) place no_blocks []) _ k (never _ (twice.served_twice_fit NoUse (body_of component) place no_blocks [])) (λ k.
        in_part (specs_found (spec_of component) place no_blocks) _ k (λ h. whole (stands_left of_spec _ (specs_stand (spec_of component) place no_blocks h))) (λ k.
        in_part formals body k (λ h. whole (stands_right of_spec _ (stands_left of_formals _ (by_among _ _ (formals_among (formals_of component) (inside place None) no_blocks) h))))
        (λ h. whole (stands_right of_spec _ (stands_right of_formals _ (items_stand (body_of component) (inside place None) no_blocks h))))))))
      where
        place : Place
        place = place_of components specs component

        of_spec : List Span
        of_spec = flat_map spec_item_names (spec_of component)

        of_formals : List Span
        of_formals = flat_map formal_names (formals_of component)

        of_body : List Span
        of_body = flat_map item_names (body_of component)

        formals : List Finding
        formals = formals_found (map formal_read (formals_of component)) (inside place None) no_blocks

        body : List Finding
        body = items_found (body_of component) (inside place None) no_blocks

        whole : Stands (of_spec ++ (of_formals ++ of_body)) → Stands (component_names component)
        whole h = stands_after (name_of component).span _ h

        imported : Stands (names_spans (imports_of component)) → Stands (of_spec ++ (of_formals ++ of_body))
        imported h =
            omega (
              arith,
              h,
              spans_both (specs_imports (spec_of component)) (items_imports (body_of component)),
              specs_imports_fewer (spec_of component),
              items_imports_fewer (body_of component),
              names_both spot of_spec (of_formals ++ of_body),
              names_both spot of_formals of_body,
            )

    components_stand : (all : List Component) → IsFound (components_found components specs all) → Stands (flat_map component_names all)
    components_stand [] k = absurd k
    components_stand (component ∷ all) k =
        part_stands (component_found components specs component) (components_found components specs all) (component_names component) (flat_map component_names all) (component_stands component) (components_stand all) k

    files_stand : (files : List File) → IsFound (files_found components specs files) → Stands (flat_map file_names files)
    files_stand [] k = absurd k
    files_stand (file ∷ files) k =
        part_stands (components_found components specs file.components) (files_found components specs files) (file_names file) (flat_map file_names files) (components_stand file.components) (files_stand files) k

    -- ---- and where it stands once, it is found there

    -- no two of these names stand there
    abbrev Once : List Span → Type 0
    Once spans = names_at spot spans ≤ 1

    component_among : (all : List Component) (component : Component) → IsIn component all → Stands (component_names component) → Stands (flat_map component_names all)
    component_among [] component there h = absurd there
    component_among (first ∷ all) component (inl is) h = stands_left (component_names first) _ (subst (λ one. Stands (component_names one)) (sym is) h)
    component_among (first ∷ all) component (inr k) h = stands_right (component_names first) _ (component_among all component k h)

    in_components : (all : List Component) (component : Component) → IsIn component all → Stands (component_names component) → Once (flat_map component_names all)
        → IsFound (components_found components specs all) → IsFound (component_found components specs component)
    in_components [] component there h once k = absurd there
    in_components (first ∷ all) component there h once k =
        by there (in_either (Use spot (Declared decl)) (component_found components specs first) _ k) (λ there. in_components all component there h (omega (arith, once, names_both spot (component_names first) (flat_map component_names all))))
      where
        by : (first ≡ component) ⊎ IsIn component all → IsFound (component_found components specs first) ⊎ IsFound (components_found components specs all)
            → (IsIn component all → IsFound (components_found components specs all) → IsFound (component_found components specs component)) → IsFound (component_found components specs component)
        by (inl is) (inl found) more = subst (λ one. IsFound (component_found components specs one)) is found
        by (inl is) (inr found) more =
            absurd (omega (arith, once, names_both spot (component_names first) (flat_map component_names all), subst (λ one. Stands (component_names one)) (sym is) h, components_stand all found))
        by (inr there) (inl found) more =
            absurd (omega (arith, once, names_both spot (component_names first) (flat_map component_names all), component_stands first found, component_among all component there h))
        by (inr there) (inr found) more = more there found

    in_files : (files : List File) (component : Component) → IsIn component (components_in files) → Stands (component_names component) → Once (flat_map file_names files)
        → IsFound (files_found components specs files) → IsFound (component_found components specs component)
    in_files [] component there h once k = absurd there
    in_files (file ∷ files) component there h once k =
        by (in_either component file.components (components_in files) there) (in_either (Use spot (Declared decl)) (components_found components specs file.components) _ k)
        (λ there. in_files files component there h (omega (arith, once, names_both spot (file_names file) (flat_map file_names files))))
      where
        among : (files : List File) → IsIn component (components_in files) → Stands (flat_map file_names files)
        among [] there = absurd there
        among (one ∷ more) there = last (in_either component one.components (components_in more) there) (among more)
          where
            last : IsIn component one.components ⊎ IsIn component (components_in more) → (IsIn component (components_in more) → Stands (flat_map file_names more)) → Stands (flat_map file_names (one ∷ more))
            last (inl k) rest = stands_left (file_names one) _ (component_among one.components component k h)
            last (inr k) rest = stands_right (file_names one) _ (rest k)

        by : IsIn component file.components ⊎ IsIn component (components_in files) → IsFound (components_found components specs file.components) ⊎ IsFound (files_found components specs files)
            → (IsIn component (components_in files) → IsFound (files_found components specs files) → IsFound (component_found components specs component)) → IsFound (component_found components specs component)
        by (inl there) (inl found) more = in_components file.components component there h (omega (arith, once, names_both spot (file_names file) (flat_map file_names files))) found
        by (inl there) (inr found) more =
            absurd (omega (arith, once, names_both spot (file_names file) (flat_map file_names files), component_among file.components component there h, files_stand files found))
        by (inr there) (inl found) more =
            absurd (omega (arith, once, names_both spot (file_names file) (flat_map file_names files), components_stand file.components found, among files there))
        by (inr there) (inr found) more = more there found

  -- ---- programs

  -- a use of the program at a name of a component is found in the component
  found_within : (files : List File) → IsDistinct same_spot (map spot_of (flat_map file_names files)) → (component : Component) → IsIn component (components_in files) → Stands (component_names component)
      → IsFound (findings files) → IsFound (component_found (program files).components (program files).specs component)
  found_within files distinct component there stands k =
      in_part (files_collected_twice files no_place) _ k (never _ (twice.files_collected_twice_fit NoUse files no_place)) (λ k.
      in_part (main_found files) _ k (never _ (twice.main_fits NoUse files)) (λ k.
      in_part (all_cycles_found (links_of imports) imports) found k (never _ (twice.cycles_fit NoUse (links_of imports) imports))
      (in_files (program files).components (program files).specs files component there stands (at_most_one spot (flat_map file_names files) distinct))))
    where
      imports : List GlobalImport
      imports = files_imports (program files).components files

      found : List Finding
      found = files_found (program files).components (program files).specs files

-- ---- what names mean is found

-- what is noted of a name is found
noted_found : (found : List Finding) (diagnostics : Diagnostics) (spot : Spot) (meaning : Meaning) → meaning_at (all_noted diagnostics found).uses spot ≡ Some meaning
    → IsIn (Use spot meaning) found ⊎ (meaning_at diagnostics.uses spot ≡ Some meaning)
noted_found [] diagnostics spot meaning e = inr e
noted_found (Broken diagnostic ∷ found) diagnostics spot meaning e = by (noted_found found (noted diagnostics (Broken diagnostic)) spot meaning e)
  where
    by : IsIn (Use spot meaning) found ⊎ (meaning_at diagnostics.uses spot ≡ Some meaning) → IsIn (Use spot meaning) (Broken diagnostic ∷ found) ⊎ (meaning_at diagnostics.uses spot ≡ Some meaning)
    by (inl k) = inl (inr k)
    by (inr h) = inr h
noted_found (Use there other ∷ found) diagnostics spot meaning e = by (noted_found found (noted diagnostics (Use there other)) spot meaning e)
  where
    last : (spot ≡ there) ⊎ (same_spot spot there ≡ false) → meaning_at (with_use diagnostics.uses there other) spot ≡ Some meaning
        → IsIn (Use spot meaning) (Use there other ∷ found) ⊎ (meaning_at diagnostics.uses spot ≡ Some meaning)
    last (inl same) h =
        let here : other ≡ meaning = same_Some other meaning (sym (entry-same diagnostics.uses there other) ∙ ap (λ at. meaning_at (with_use diagnostics.uses there other) at) (sym same) ∙ h) in
        inl (inl (λ i. Use (sym same i) (here i)))
    last (inr apart) h = inr (sym (entry-other diagnostics.uses there other spot apart) ∙ h)

    by : IsIn (Use spot meaning) found ⊎ (meaning_at (with_use diagnostics.uses there other) spot ≡ Some meaning) → IsIn (Use spot meaning) (Use there other ∷ found) ⊎ (meaning_at diagnostics.uses spot ≡ Some meaning)
    by (inl k) = inl (inr k)
    by (inr h) = last (same_spot-cases spot there) h

-- what a name of a component means is found in the component
pub meant_within : (files : List File) (names : Names) → resolved files ≡ Ok names → IsDistinct same_spot (map spot_of (flat_map file_names files)) → (component : Component) → IsIn component (components_in files)
    → (spot : Spot) (decl : Decl) → Stands spot decl (component_names component) → meaning_at names.uses spot ≡ Some (Declared decl)
    → IsIn (Use spot (Declared decl)) (component_found (program files).components (program files).specs component)
meant_within files names named distinct component there spot decl stands e =
    by (noted_found (findings files) nothing_noted spot (Declared decl) (ap (λ uses. meaning_at uses spot) (sym (uses_noted files names named)) ∙ e))
  where
    by : IsIn (Use spot (Declared decl)) (findings files) ⊎ (meaning_at nothing_noted.uses spot ≡ Some (Declared decl))
        → IsIn (Use spot (Declared decl)) (component_found (program files).components (program files).specs component)
    by (inl k) = found_within spot decl files distinct component there stands k
    by (inr h) = absurd (none-some (Declared decl) h)

-- Each type of operations that is known before any statement is looked at has a signature that fits the head of its
-- declaration.
use Rattle.std.proofs.Common.{◌≡◌, List, [], ◌∷◌, ◌++◌, unwrap_or, map, flat_map, refl, sym, ap, ◌∙◌, subst}
use Rattle.std.specs.List.{IsDistinct}
use Rattle.sr_names.specs.Noted.{Meanings}
use Rattle.sr_names.specs.Specs.{Specs}
use Rattle.sr_names.specs.Spots.{same_spot, spot_of}
use Rattle.sr_order.specs.Names.{file_names}
use Rattle.sr_tree.specs.declared.component.Component.{Component}
use Rattle.sr_tree.specs.declared.component.File.{File}
use Rattle.sr_tree.specs.declared.component.Item.{Item}
use Rattle.sr_tree.specs.declared.component.Item.TheVariants as item
use Rattle.sr_tree.specs.declared.component.SpecItem.{SpecItem}
use Rattle.sr_tree.specs.declared.component.SpecItem.TheVariants as spec
use Rattle.sr_tree.specs.declared.declaration.OpTypeDecl.{OpTypeDecl}
use Rattle.sr_tree.specs.Parts.{body_of, name_of, spec_of}
use Rattle.sr_check.specs.ErrorFree.{ErrorFree}
use Rattle.sr_check.proofs.Each.{Each, each-append}
use Rattle.sr_check.proofs.ErrorFree.{error_free_first, error_free_second}
use Rattle.sr_check_expr.specs.declared.facts.Facts.{Facts}
use Rattle.sr_check_expr.specs.Infos.{info_at}
use Rattle.sr_check_decl.specs.Declaring.{written_type}
use Rattle.sr_front.proofs.Headed.Heads.{component_headed, declared_type, head_found, heads_found, item_headed, items_headed, making_type, spec_item_headed, spec_items_headed}
use Rattle.sr_check_decl.specs.Inferring.{program_known}
use Rattle.sr_outline.specs.Heads.{head_at, head_entry, head_of, heads_of, sent_head, spec_item_optypes}
use Rattle.sr_outline.specs.Outline.{all_optypes}
use Rattle.sr_tables.specs.Parts.{components_in, in_component, in_item, spot_named}
use Rattle.sr_tables.specs.Shapes.{Shapes}
use Rattle.sr_tables.specs.Tables.{keys_of}
use Rattle.sr_front.proofs.Lists.Distinct.{entries_apart, found_there}
use Rattle.sr_front.proofs.Known.FirstNames.{optype_first}
use Rattle.sr_front.proofs.Names.FirstShares.{optypes_apart}
use Rattle.sr_front.proofs.Headed.HeadCounts.{HasTable}
use Rattle.sr_front.proofs.Headed.HeadTrees.{written_fits}
use Rattle.sr_front.proofs.Headed.KnownHeaded.{files_each}
use Rattle.sr_front.proofs.Lists.Members.{Among, among_each, at_map}
use Rattle.sr_front.proofs.Headed.Optypes.{OptypesHeaded, known_fits, table_stays}

-- ---- each type of operations is known by the type of its head

module _ (now : Facts) where
  abbrev NamedHeaded : OpTypeDecl → Type 0
  NamedHeaded named = ErrorFree (head_found now named.name (written_type named.signature now))

  spec_item_named : (one : SpecItem) → ErrorFree (spec_item_headed now one) → Each NamedHeaded (spec_item_optypes one)
  spec_item_named (spec.OpType named) nothing = (nothing, tt)
  spec_item_named _ nothing = tt

  item_named : (one : Item) → ErrorFree (item_headed now one) → Each NamedHeaded (in_item spec_item_optypes one)
  item_named (item.Spec declared) nothing = spec_item_named declared nothing
  item_named _ nothing = tt

  specs_named : (items : List SpecItem) → ErrorFree (spec_items_headed now items) → Each NamedHeaded (flat_map spec_item_optypes items)
  specs_named [] nothing = tt
  specs_named (one ∷ more) nothing =
      each-append NamedHeaded (spec_item_optypes one) (flat_map spec_item_optypes more)
      (spec_item_named one (error_free_first (spec_item_headed now one) (spec_items_headed now more) nothing))
      (specs_named more (error_free_second (spec_item_headed now one) (spec_items_headed now more) nothing))

  items_named : (items : List Item) → ErrorFree (items_headed now items) → Each NamedHeaded (flat_map (in_item spec_item_optypes) items)
  items_named [] nothing = tt
  items_named (one ∷ more) nothing =
      each-append NamedHeaded (in_item spec_item_optypes one) (flat_map (in_item spec_item_optypes) more)
      (item_named one (error_free_first (item_headed now one) (items_headed now more) nothing))
      (items_named more (error_free_second (item_headed now one) (items_headed now more) nothing))

  component_named : (tree : Component) → ErrorFree (component_headed now tree) → Each NamedHeaded (in_component spec_item_optypes tree)
  component_named tree nothing =
      let both = error_free_second (head_found now (name_of tree) (making_type now tree)) (spec_items_headed now (spec_of tree) ++ items_headed now (body_of tree)) nothing in
      each-append NamedHeaded (flat_map spec_item_optypes (spec_of tree)) (flat_map (in_item spec_item_optypes) (body_of tree))
      (specs_named (spec_of tree) (error_free_first (spec_items_headed now (spec_of tree)) (items_headed now (body_of tree)) both))
      (items_named (body_of tree) (error_free_second (spec_items_headed now (spec_of tree)) (items_headed now (body_of tree)) both))

  all_named : (components : List Component) → Each (λ tree. ErrorFree (component_headed now tree)) components → Each NamedHeaded (all_optypes components)
  all_named [] nothing = tt
  all_named (tree ∷ more) nothing = each-append NamedHeaded (in_component spec_item_optypes tree) (all_optypes more) (component_named tree nothing.0) (all_named more nothing.1)

-- ---- the table of heads

module _ (facts : Facts) (shapes : Shapes) where
  head_keys : (optypes : List OpTypeDecl) → keys_of (map (head_entry facts shapes) optypes) ≡ map spot_of (map (λ (named : OpTypeDecl). named.name.span) optypes)
  head_keys [] = refl
  head_keys (named ∷ more) = ap (λ keys. spot_named named.name ∷ keys) (head_keys more)

  -- each type of operations has its head in the table
  head_there : (files : List File) → IsDistinct same_spot (map spot_of (flat_map file_names files)) → (named : OpTypeDecl) → Among (all_optypes (components_in files)) named
      → head_at (heads_of facts shapes (components_in files)) (spot_named named.name) ≡ head_of facts shapes named.signature
  head_there files distinct named among =
      let optypes = all_optypes (components_in files) in
      let entries = map (head_entry facts shapes) optypes in
      let apart : IsDistinct same_spot (keys_of entries) = subst (IsDistinct same_spot) (sym (head_keys optypes)) (optypes_apart files distinct) in
      ap (λ heads. head_at heads (spot_named named.name)) (entries_apart entries apart)
      ∙ ap (λ found. unwrap_or found (sent_head []))
      (found_there entries among.0 (spot_named named.name) (head_of facts shapes named.signature) apart (at_map (head_entry facts shapes) optypes among.0 named among.1))

module _ (uses : Meanings) (specs : Specs) (files : List File) (facts : Facts) (shapes : Shapes) (headed : ErrorFree (heads_found uses specs files)) (distinct : IsDistinct same_spot (map spot_of (flat_map file_names files))) where
  abbrev known : Facts
  known = program_known uses specs files

  pub optypes_known : OptypesHeaded (heads_of facts shapes (components_in files)) known
  optypes_known spot ty is more keeps =
      let one = (optype_first uses specs files spot ty is).1 in
      let named = one.0 in
      let headed = among_each (NamedHeaded known) (all_optypes (components_in files)) one.1.0 named (all_named known (components_in files) (files_each known files headed)) one.1.1 in
      let has = known_fits known named.name (head_of facts shapes named.signature) (written_type named.signature known) ty (written_fits facts shapes named.signature known) headed
      (ap declared_type (ap (info_at known.infos) one.2 ∙ is)) in
      subst (λ head. HasTable more head ty) (sym (head_there facts shapes files distinct named one.1) ∙ ap (head_at (heads_of facts shapes (components_in files))) one.2)
      (table_stays known.signatures more (head_of facts shapes named.signature) ty keeps has)

-- What a name means that stands in an item of a component, or in its formals, is found there.
use Rattle.std.proofs.Common.{◌≡◌, ◌⊎◌, inl, inr, ◌+◌, ◌≤◌, List, [], ◌∷◌, ◌++◌, flat_map, map, None, ap, arith}
use Rattle.sr_names.specs.declared.finding.Finding.{Finding}
use Rattle.sr_names.specs.declared.finding.Finding.TheVariants.{Use}
use Rattle.sr_names.specs.declared.meaning.Decl.{Decl}
use Rattle.sr_names.specs.declared.meaning.Meaning.TheVariants.{Declared}
use Rattle.sr_names.specs.declared.spot.Spot.{Spot}
use Rattle.sr_names.specs.Scopes.{no_blocks, opened}
use Rattle.sr_names.specs.declared.place.Place.{Place}
use Rattle.sr_order.specs.Names.{component_names, formal_names, item_names, names_spans, block_names, proc_item_names, quantifier_names, spec_item_names}
use Rattle.sr_scope.proofs.Among.{names_at, names_both, Among, and_twice, both, nothing as none_among}
use Rattle.sr_scope.specs.Components.{component_found, imported_names, imports_found, imports_of, item_imports, items_imports, specs_imports}
use Rattle.sr_scope.specs.Items.{inside, item_found, item_within, spec_found, spec_within}
use Rattle.sr_scope.specs.Resolved.{program}
use Rattle.sr_scope.specs.Types.{formal_read, formals_found}
use Rattle.sr_scope.specs.Uses.{IsIn}
use Rattle.sr_tree.specs.declared.component.Component.{Component}
use Rattle.sr_tree.specs.declared.component.File.{File}
use Rattle.sr_tree.specs.declared.component.Item.{Item}
use Rattle.sr_tree.specs.declared.component.SpecItem.{SpecItem}
use Rattle.sr_tree.specs.Parts.{body_of, formals_of, name_of, spec_of}
use Rattle.sr_value.specs.declared.place.Span.{Span}
use Rattle.sr_front.proofs.Names.FoundInParts.{imports_but, part_fewer}
use Rattle.sr_front.proofs.Names.UsableNames.{all_names, formal_stands, in_body, in_part, in_spec, item_among, of_body, of_formals, of_spec, place, spec_among}
use Rattle.sr_front.proofs.Names.UsesWithin.{IsFound, Stands, by_among, imports_among, item_imports_fewer, items_imports_fewer, items_stand, never, spans_both, spec_imports_fewer, specs_imports_fewer, specs_stand, stands_left, stands_right}
use Rattle.sr_names.specs.declared.place.Blocks.{Blocks}
use Rattle.sr_names.specs.declared.meaning.Sort.TheVariants.{Constant, Variable, Operation}
use Rattle.sr_scope.specs.Declares.{names_declared, op_name, names_twice}
use Rattle.sr_scope.specs.Declarations.{with_inner, var_names, quantifiers_found}
use Rattle.sr_scope.specs.Procs.{proc_item_read, proc_items_found, process_found, quantifier_names as quantified, semaphore_names}
use Rattle.sr_scope.proofs.Findings.{in_either}
use Rattle.sr_scope.proofs.FoundExprs.{names_twice_among, twice_among}
use Rattle.sr_scope.proofs.FoundStatements.{statement_among}
use Rattle.sr_scope.proofs.FoundTypes.{const_among, op_items_among, semaphores_among, var_among}
use Rattle.sr_tree.specs.declared.component.ProcItem.{ProcItem}
use Rattle.sr_tree.specs.declared.component.Process.{Process}
use Rattle.sr_front.proofs.Names.UsesInExprs as exprs
use Rattle.sr_tree.specs.declared.component.ProcItem.TheVariants as inner

-- ---- blocks of procs

proc_item_among : (one : ProcItem) (place : Place) (blocks : Blocks) → Among (proc_item_read one place blocks).found (proc_item_names one)
proc_item_among (inner.Const constant) place blocks = and_twice (const_among constant place blocks) (twice_among Constant constant.name blocks.inner)
proc_item_among (inner.Var variables) place blocks = and_twice (var_among variables place blocks) (names_twice_among Variable (var_names variables) blocks.inner)
proc_item_among (inner.Op operations) place blocks = and_twice (op_items_among operations.items place blocks) (names_twice_among Operation (map op_name operations.items) blocks.inner)
proc_item_among (inner.Sem declared) place blocks = and_twice (semaphores_among declared.semaphores place blocks) (names_twice_among Operation (semaphore_names declared.semaphores) blocks.inner)
proc_item_among (inner.Statement statement) place blocks = statement_among statement place blocks

pub block_among : (block : List ProcItem) (place : Place) (blocks : Blocks) → Among (proc_items_found block place blocks) (block_names block)
block_among [] where_is blocks = none_among
block_among (one ∷ block) where_is blocks = both (proc_item_among one where_is blocks) (block_among block where_is (with_inner blocks (proc_item_read one where_is blocks).inner))

module _ (spot : Spot) (decl : Decl) where
  abbrev Found : List Finding → Type 0
  Found = IsFound spot decl

  abbrev Here : List Span → Type 0
  Here = Stands spot decl

  abbrev NoUse : Spot → Decl → Type 0
  NoUse at one = ⊥

  -- what stands in the head of an item is found there, as its names aren't those of the block
  pub in_head : (head again block : List Finding) (names rest : List Span) → exprs.AllFit NoUse again → Among block rest → names_at spot (names ++ rest) ≤ 1 → Here names → Found (head ++ (again ++ block)) → Found head
  in_head head again block names rest none among once stands found = first (in_either one head _ found)
    where
      one : Finding
      one = Use spot (Declared decl)

      second : Found again ⊎ Found block → Found head
      second (inl h) = never spot decl again none h
      second (inr h) = absurd (omega (arith, once, stands, by_among spot decl block rest among h, names_both spot names rest))

      first : Found head ⊎ Found (again ++ block) → Found head
      first (inl h) = h
      first (inr h) = second (in_either one again block h)

  pub in_quantifiers : (process : Process) (place : Place) → names_at spot (flat_map quantifier_names process.quantifiers ++ block_names process.block) ≤ 1 → Here (flat_map quantifier_names process.quantifiers)
      → Found (process_found process place no_blocks) → Found (quantifiers_found process.quantifiers place (opened no_blocks))
  in_quantifiers process place =
      let within = with_inner (opened no_blocks) (names_declared Variable (quantified process.quantifiers) []) in
      in_head (quantifiers_found process.quantifiers place (opened no_blocks)) (names_twice Variable (quantified process.quantifiers) []) (proc_items_found process.block place within)
      (flat_map quantifier_names process.quantifiers) (block_names process.block) (exprs.names_twice_fit NoUse Variable (quantified process.quantifiers) []) (block_among process.block place within)

  -- ---- where the parts of a component stand

  pub spec_in_component : (here : Component) (one : SpecItem) → IsIn one (spec_of here) → Here (spec_item_names one) → Here (component_names here)
  spec_in_component here one among stands = stands_right spot decl ((name_of here).span ∷ []) _ (stands_left spot decl (flat_map spec_item_names (spec_of here)) _ (spec_among spot decl (spec_of here) one among stands))

  pub formals_in_component : (here : Component) → Here (flat_map formal_names (formals_of here)) → Here (component_names here)
  formals_in_component here stands =
      stands_right spot decl ((name_of here).span ∷ []) _ (stands_right spot decl (flat_map spec_item_names (spec_of here)) _ (stands_left spot decl (flat_map formal_names (formals_of here)) _ stands))

  pub item_in_component : (here : Component) (one : Item) → IsIn one (body_of here) → Here (item_names one) → Here (component_names here)
  item_in_component here one among stands =
      stands_right spot decl ((name_of here).span ∷ []) _
      (stands_right spot decl (flat_map spec_item_names (spec_of here)) _ (stands_right spot decl (flat_map formal_names (formals_of here)) _ (item_among spot decl (body_of here) one among stands)))

  -- ---- what is found in them

  spec_imports_but : (all : List SpecItem) (one : SpecItem) → imported_names one ≡ [] → IsIn one all → names_at spot (spec_item_names one) + names_at spot (names_spans (specs_imports all)) ≤ names_at spot (flat_map spec_item_names all)
  spec_imports_but all one none =
      imports_but spot spec_item_names (λ it. names_at spot (names_spans (imported_names it))) (λ them. names_at spot (names_spans (specs_imports them)))
      (λ first them. spans_both spot decl (imported_names first) (specs_imports them)) (spec_imports_fewer spot decl) (specs_imports_fewer spot decl) all one (ap (λ some. names_at spot (names_spans some)) none)

  item_imports_but : (all : List Item) (one : Item) → item_imports one ≡ [] → IsIn one all → names_at spot (item_names one) + names_at spot (names_spans (items_imports all)) ≤ names_at spot (flat_map item_names all)
  item_imports_but all one none =
      imports_but spot item_names (λ it. names_at spot (names_spans (item_imports it))) (λ them. names_at spot (names_spans (items_imports them)))
      (λ first them. spans_both spot decl (item_imports first) (items_imports them)) (item_imports_fewer spot decl) (items_imports_fewer spot decl) all one (ap (λ some. names_at spot (names_spans some)) none)

  module _ (files : List File) (here : Component) (once : names_at spot (component_names here) ≤ 1) where
    abbrev Whole : Type 0
    Whole = Found (component_found (program files).components (program files).specs here)

    abbrev at : Place
    at = place spot decl files here once

    total : names_at spot (of_spec spot decl files here once) + (names_at spot (of_formals spot decl files here once) + names_at spot (of_body spot decl files here once)) ≤ 1
    total = all_names spot decl files here once

    pub item_once : (one : Item) → IsIn one (body_of here) → names_at spot (item_names one) ≤ 1
    item_once one among = omega (arith, total, part_fewer spot item_names (body_of here) one among)

    in_imports : Found (imports_found (program files).components (imports_of here)) → 1 ≤ names_at spot (names_spans (specs_imports (spec_of here))) + names_at spot (names_spans (items_imports (body_of here)))
    in_imports h = omega (arith, imports_among spot decl (program files).components (imports_of here) h, spans_both spot decl (specs_imports (spec_of here)) (items_imports (body_of here)))

    pub spec_found_in : (one : SpecItem) → imported_names one ≡ [] → IsIn one (spec_of here) → Here (spec_item_names one) → Whole → Found (spec_found one (inside at (spec_within one)) no_blocks)
    spec_found_in one none among stands =
        let here_in = spec_among spot decl (spec_of here) one among stands in
        in_part spot decl files here once
        (λ h. absurd (omega (arith, total, stands, in_imports h, spec_imports_but (spec_of here) one none among, items_imports_fewer spot decl (body_of here))))
        (λ h. in_spec spot decl (spec_of here) one at among stands (omega (arith, total)) h)
        (λ h. absurd (omega (arith, total, here_in, formal_stands spot decl files here once h)))
        (λ h. absurd (omega (arith, total, here_in, items_stand spot decl (body_of here) (inside at None) no_blocks h)))

    pub formals_found_in : Here (flat_map formal_names (formals_of here)) → Whole → Found (formals_found (map formal_read (formals_of here)) (inside at None) no_blocks)
    formals_found_in stands =
        in_part spot decl files here once
        (λ h. absurd (omega (arith, total, stands, in_imports h, specs_imports_fewer spot decl (spec_of here), items_imports_fewer spot decl (body_of here))))
        (λ h. absurd (omega (arith, total, stands, specs_stand spot decl (spec_of here) at no_blocks h)))
        (λ h. h)
        (λ h. absurd (omega (arith, total, stands, items_stand spot decl (body_of here) (inside at None) no_blocks h)))

    pub item_found_in : (one : Item) → item_imports one ≡ [] → IsIn one (body_of here) → Here (item_names one) → Whole → Found (item_found one (inside at (item_within one)) no_blocks)
    item_found_in one none among stands =
        let here_in = item_among spot decl (body_of here) one among stands in
        in_part spot decl files here once
        (λ h. absurd (omega (arith, total, stands, in_imports h, item_imports_but (body_of here) one none among, specs_imports_fewer spot decl (spec_of here))))
        (λ h. absurd (omega (arith, total, here_in, specs_stand spot decl (spec_of here) at no_blocks h)))
        (λ h. absurd (omega (arith, total, here_in, formal_stands spot decl files here once h)))
        (λ h. in_body spot decl (body_of here) one (inside at None) among stands (omega (arith, total)) h)

-- The tables that come of one component after another are those of all.
use Rattle.std.proofs.Common.{◌≡◌, ℕ, ◌+◌, List, [], ◌∷◌, fold, flat_map, map, refl, ap, ◌∙◌, Result, Ok, Err, OnOk}
use Rattle.std.specs.List.{enumerate_from}
use Rattle.sr_check_expr.specs.declared.facts.Facts.{Facts}
use Rattle.sr_names.specs.declared.spot.Spot.{Spot}
use Rattle.sr_tree.specs.declared.component.Component.{Component}
use Rattle.sr_tables.specs.declared.tables.SharedVariable.{SharedVariable}
use Rattle.sr_tables.specs.declared.tables.Tables.{Tables}
use Rattle.sr_tables.specs.Parts.{component_spot, in_component}
use Rattle.sr_tables.specs.Tables.{with_entries, with_spots}
use Rattle.sr_tables.proofs.Appends.{entries_append, spots_append}
use Rattle.sr_outline.specs.Numbers.{component_served, component_shared, component_sites}
use Rattle.sr_outline.specs.Heads.{Heads, with_heads}
use Rattle.sr_outline.specs.Outline.{all_optypes, component_entries, no_tables, tables_of, with_component}
use Rattle.sr_outline.specs.Shapes.{spec_item_types, with_types}
use Rattle.sr_tables.specs.Shapes.{Shapes}
use Rattle.sr_outline.proofs.Appends.{types_append}

abbrev pub numbered_shared : Facts → ℕ × Component → List (Spot × SharedVariable)
numbered_shared facts numbered = component_shared facts numbered.0 numbered.1

abbrev pub tables_after : Facts → Tables → ℕ → List Component → Tables
tables_after facts tables n components = record tables {
  components = with_spots tables.components (map component_spot components);
  procs = with_spots tables.procs (flat_map (component_served facts) components);
  sites = with_spots tables.sites (flat_map (component_sites facts) components);
  shared = with_entries tables.shared (flat_map (numbered_shared facts) (enumerate_from n components));
  shapes = with_types facts tables.shapes (flat_map (in_component spec_item_types) components);
}

-- tables with these parts
abbrev with_parts : Tables → List Spot → List Spot → List Spot → List (Spot × SharedVariable) → Shapes → Tables
with_parts tables components procs sites shared shapes =
    record tables { components = components; procs = procs; sites = sites; shared = shared; shapes = shapes }

same_parts : (tables : Tables) (components p p' s s' : List Spot) (x x' : List (Spot × SharedVariable)) (h h' : Shapes)
    → p ≡ p' → s ≡ s' → x ≡ x' → h ≡ h' → with_parts tables components p s x h ≡ with_parts tables components p' s' x' h'
same_parts tables components p p' s s' x x' h h' procs sites shared shapes =
    ap (λ (q : List Spot). with_parts tables components q s x h) procs
    ∙ ap (λ (q : List Spot). with_parts tables components p' q x h) sites
    ∙ ap (λ (q : List (Spot × SharedVariable)). with_parts tables components p' s' q h) shared
    ∙ ap (λ (q : Shapes). with_parts tables components p' s' x' q) shapes

pub together : (facts : Facts) (tables : Tables) (n : ℕ) (components : List Component)
    → fold (with_component facts) tables (enumerate_from n components) ≡ tables_after facts tables n components
together facts tables n [] = refl
together facts tables n (c ∷ cs) =
    together facts (with_component facts tables (n, c)) (n + 1) cs
    ∙ same_parts tables (with_spots tables.components (map component_spot (c ∷ cs))) _ _ _ _ _ _ _ _
    (spots_append tables.procs (component_served facts c) (flat_map (component_served facts) cs))
    (spots_append tables.sites (component_sites facts c) (flat_map (component_sites facts) cs))
    (entries_append tables.shared (component_shared facts n c) (flat_map (numbered_shared facts) (enumerate_from (n + 1) cs)))
    (types_append facts tables.shapes (in_component spec_item_types c) (flat_map (in_component spec_item_types) cs))

-- with the operations
abbrev pub with_operations : Facts → List Component → Tables → Tables
with_operations facts components tables =
    record tables { operations = with_entries tables.operations (flat_map (component_entries facts tables.shapes tables.heads tables.procs) (enumerate_from 0 components)) }

-- with the signatures that have names, and with the operations
abbrev pub with_rest : Facts → List Component → Tables → Tables
with_rest facts components tables =
    with_operations facts components (record tables { heads = with_heads facts tables.shapes tables.heads (all_optypes components) })

pub whole : {A E : Type 0} (result : Result A E) (facts : Facts) (components : List Component) (start noted made : Tables) (heads : Heads)
    → start ≡ no_tables
    → noted ≡ fold (with_component facts) start (enumerate_from 0 components)
    → heads ≡ with_heads facts noted.shapes noted.heads (all_optypes components)
    → OnOk result (made ≡ with_operations facts components (record noted { heads = heads }))
    → OnOk result (made ≡ tables_of facts components)
whole (Ok _) facts components start noted made heads s e h m =
    m
    ∙ ap (λ (hs : Heads). with_operations facts components (record noted { heads = hs })) h
    ∙ ap (with_rest facts components) (e ∙ ap (λ (t : Tables). fold (with_component facts) t (enumerate_from 0 components)) s ∙ together facts no_tables 0 components)
whole (Err error) facts components start noted made heads s e h m = tt

-- The core of checked files.
use Rattle.std.specs.Prelude.{ℕ, false, List, None, ◌++◌, map, flat_map, length}
use Rattle.std.specs.List.{enumerate_from}
use Rattle.sr_check_expr.specs.declared.facts.Facts.{Facts}
use Rattle.sr_core.specs.declared.component.Component.{Component}
use Rattle.sr_core.specs.declared.component.Core.{Core}
use Rattle.sr_core.specs.declared.component.Proc.{Proc}
use Rattle.sr_core.specs.declared.formal.Formal.{Formal}
use Rattle.sr_core.specs.declared.site.Site.{Site}
use Rattle.sr_core.specs.declared.statement.Scope.TheVariants.{Shared}
use Rattle.sr_tree.specs.declared.component.Component.{Component as ComponentTree}
use Rattle.sr_tree.specs.declared.component.File.{File}
use Rattle.sr_tree.specs.declared.component.SpecItem.{SpecItem}
use Rattle.sr_desugar.specs.declared.bodies.Codes.{Codes}
use Rattle.sr_desugar.specs.declared.bodies.Gathered.{Gathered}
use Rattle.sr_lower_expr.specs.declared.scene.Scene.{Scene}
use Rattle.sr_tables.specs.declared.tables.Tables.{Tables}
use Rattle.sr_desugar.specs.Bodies.{item_outputs, all_procs, output_sites, spec_item_core, with_codes}
use Rattle.sr_desugar.specs.Declarations.{var_number}
use Rattle.sr_outline.specs.Heads.{parameters_of}
use Rattle.sr_outline.specs.Numbers.{initial_spots, formal_names}
use Rattle.sr_tables.specs.Parts.{components_in, component_decl, kind_of, line_of}
use Rattle.sr_tree.specs.Parts.{name_of, span_of, spec_of, formals_of, body_of}
use Rattle.sr_lower_expr.specs.Places.{formals_of as formals_in}
use Rattle.sr_desugar.specs.Statements.{Block}
use Rattle.sr_tables.specs.Tables.{things_in}
use Rattle.sr_outline.specs.Outline.{tables_of, imports_of, imports_at, needs_of, enumerations_of}

-- ---- components

abbrev pub standing : Facts → ComponentTree → Facts
standing facts component = record facts { here = record { component = component_decl component; in_guard = false } }

abbrev pub scene_of : Facts → Tables → List (List ℕ) → ℕ → ComponentTree → Scene
scene_of facts tables imports number component = record {
  facts = standing facts component;
  component = number;
  imports = imports_at imports number;
  own = initial_spots (standing facts component) component;
  tables = tables;
}

-- the initial code is that of the spec, and then that of the body
abbrev pub spec_code : Scene → List SpecItem → Block
spec_code scene items = flat_map (spec_item_core scene) items

-- the formals of a component are shared variables
abbrev pub component_formals : Scene → ComponentTree → List Formal
component_formals scene component =
    formals_in (map (var_number scene Shared) (formal_names (formals_of component))) (parameters_of scene.facts scene.tables.shapes (formals_of component))

abbrev pub component_codes : Scene → ComponentTree → Codes
component_codes scene component = with_codes (record { initial = spec_code scene (spec_of component); last = None }) (item_outputs scene (body_of component))

abbrev pub component_with : Scene → List (List ℕ) → ComponentTree → Codes → Component
component_with scene imports component codes = record {
  name = (name_of component).text;
  place = line_of (span_of component);
  kind = kind_of component;
  formals = component_formals scene component;
  imports = scene.imports;
  needs = needs_of imports scene.component;
  initial = record { owns = length scene.own; block = codes.initial };
  final_code = codes.last;
}

-- ---- the whole

-- a component in the core, with its procs and its sites
pub record LoweredComponent : Type 0 where
  pub component : Component
  pub procs : List Proc
  pub sites : List Site

abbrev pub whole_in : Scene → List (List ℕ) → ComponentTree → LoweredComponent
whole_in scene imports component = record {
  component = component_with scene imports component (component_codes scene component);
  procs = all_procs (item_outputs scene (body_of component));
  sites = output_sites (item_outputs scene (body_of component));
}

abbrev pub all_components : List LoweredComponent → List Component
all_components wholes = map (λ whole. whole.component) wholes

abbrev pub procs_in : List LoweredComponent → List Proc
procs_in wholes = flat_map (λ whole. whole.procs) wholes

abbrev pub sites_in : List LoweredComponent → List Site
sites_in wholes = flat_map (λ whole. whole.sites) wholes

abbrev pub with_wholes : Gathered → List LoweredComponent → Gathered
with_wholes gathered wholes = record { procs = gathered.procs ++ procs_in wholes; sites = gathered.sites ++ sites_in wholes }

abbrev pub whole_of : Facts → Tables → List (List ℕ) → ℕ × ComponentTree → LoweredComponent
whole_of facts tables imports numbered = whole_in (scene_of facts tables imports numbered.0 numbered.1) imports numbered.1

-- components in order, the first of which has this number
abbrev pub wholes_from : Facts → Tables → List (List ℕ) → ℕ → List ComponentTree → List LoweredComponent
wholes_from facts tables imports first components = map (whole_of facts tables imports) (enumerate_from first components)

abbrev pub wholes_of : Facts → List ComponentTree → Tables → List LoweredComponent
wholes_of facts components tables = wholes_from facts tables (map (imports_of facts tables.components) components) 0 components

abbrev pub core_with : List ComponentTree → Tables → List LoweredComponent → Core
core_with components tables wholes = record {
  components = all_components wholes;
  operations = things_in tables.operations;
  procs = procs_in wholes;
  sites = sites_in wholes;
  names = enumerations_of components;
}

abbrev pub core_by : Facts → List ComponentTree → Tables → Core
core_by facts components tables = core_with components tables (wholes_of facts components tables)

-- the core of the components of all files, by what is known of the program
abbrev pub core_of : List File → Facts → Core
core_of files facts = core_by facts (components_in files) (tables_of facts (components_in files))

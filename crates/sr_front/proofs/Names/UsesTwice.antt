-- What is found where a name is declared twice, where no component can be main, and where globals import each other, is no use of a name.
use Rattle.std.proofs.Common.{Bool, true, false, List, [], ◌∷◌, ◌++◌, Option, Some, None, map, if◌then◌else◌}
use Rattle.sr_names.specs.declared.cycles.Import.{Import as GlobalImport}
use Rattle.sr_names.specs.declared.finding.Finding.{Finding}
use Rattle.sr_names.specs.declared.links.Link.{Link}
use Rattle.sr_names.specs.declared.meaning.Decl.{Decl}
use Rattle.sr_names.specs.declared.meaning.Sort.{Sort}
use Rattle.sr_names.specs.declared.meaning.Sort.TheVariants.{Constant, Literal, «Type» as type_sort, OpType as optype_sort, Variable, Operation}
use Rattle.sr_names.specs.declared.place.Blocks.{Blocks}
use Rattle.sr_names.specs.declared.place.Place.{Place}
use Rattle.sr_names.specs.declared.spot.Spot.{Spot}
use Rattle.sr_names.specs.Cycles.{all_cycles_found}
use Rattle.sr_names.specs.Entries.{Entries}
use Rattle.sr_names.specs.Links.{connects}
use Rattle.sr_scope.specs.Components.{all_collected, all_collected_twice, can_be_main, collected, collected_twice, files_collected_twice, last_component, main_found, own_twice, sort_of}
use Rattle.sr_scope.specs.Declarations.{var_names}
use Rattle.sr_scope.specs.Declares.{name_declared, name_twice, names_twice, op_name}
use Rattle.sr_scope.specs.Items.{item_declared, item_twice, items_twice, name_served, name_served_twice, served_name, served_twice, serves, spec_declared, spec_twice, specs_declared, specs_twice}
use Rattle.sr_scope.specs.Literals.{literals_of}
use Rattle.sr_scope.specs.Procs.{semaphore_names}
use Rattle.sr_scope.specs.Types.{formal_read, formals_declared, formals_twice}
use Rattle.sr_tree.specs.declared.component.Component.{Component}
use Rattle.sr_tree.specs.declared.component.File.{File}
use Rattle.sr_tree.specs.declared.component.Item.{Item}
use Rattle.sr_tree.specs.declared.component.Item.TheVariants as item
use Rattle.sr_tree.specs.declared.component.SpecItem.{SpecItem}
use Rattle.sr_tree.specs.declared.component.SpecItem.TheVariants as spec
use Rattle.sr_tree.specs.declared.name.Name.{Name}
use Rattle.sr_tree.specs.Parts.{body_of, formals_of, name_of, spec_of}
use Rattle.sr_front.proofs.Names.UsesInExprs as exprs

-- `P at decl`: a name at this spot may mean this declaration
module _ (P : Spot → Decl → Type 0) where
  abbrev All : List Finding → Type 0
  All = exprs.AllFit P

  both : (f g : List Finding) → All f → All g → All (f ++ g)
  both = exprs.both P

  twice : (sort : Sort) (name : Name) (table : Entries) → All (name_twice sort name table)
  twice = exprs.twice_fits P

  names_twice_fit : (sort : Sort) (names : List Name) (table : Entries) → All (names_twice sort names table)
  names_twice_fit = exprs.names_twice_fit P

  spec_twice_fits : (one : SpecItem) (table : Entries) → All (spec_twice one table)
  spec_twice_fits (spec.Import imports) table = tt
  spec_twice_fits (spec.Const constant) table = twice Constant constant.name table
  spec_twice_fits (spec.Type named) table = both (name_twice type_sort named.name table) _ (twice type_sort named.name table) (names_twice_fit Literal (literals_of named.ty) (name_declared type_sort named.name table))
  spec_twice_fits (spec.OpType named) table = twice optype_sort named.name table
  spec_twice_fits (spec.Op operations) table = names_twice_fit Operation (map op_name operations.items) table
  spec_twice_fits (spec.Var variables) table = names_twice_fit Variable (var_names variables) table
  spec_twice_fits (spec.Sem declared) table = names_twice_fit Operation (semaphore_names declared.semaphores) table

  specs_twice_fit : (items : List SpecItem) (table : Entries) → All (specs_twice items table)
  specs_twice_fit [] table = tt
  specs_twice_fit (one ∷ items) table = both (spec_twice one table) _ (spec_twice_fits one table) (specs_twice_fit items (spec_declared one table))

  item_twice_fits : (one : Item) (table : Entries) → All (item_twice one table)
  item_twice_fits (item.Spec declared) table = spec_twice_fits declared table
  item_twice_fits (item.Procedure procedure) table = twice Operation procedure.name table
  item_twice_fits (item.Process process) table = twice Operation process.name table
  item_twice_fits _ table = tt

  items_twice_fit : (items : List Item) (table : Entries) → All (items_twice items table)
  items_twice_fit [] table = tt
  items_twice_fit (one ∷ items) table = both (item_twice one table) _ (item_twice_fits one table) (items_twice_fit items (item_declared one table))

  pub own_twice_fit : (component : Component) → All (own_twice component)
  own_twice_fit component =
      let formals = map formal_read (formals_of component) in
      let known = specs_declared (spec_of component) [] in
      both (specs_twice (spec_of component) []) _ (specs_twice_fit (spec_of component) [])
      (both (formals_twice formals known) _ (exprs.formals_twice_fit P formals known) (items_twice_fit (body_of component) (formals_declared formals known)))

  if_served : (test : Bool) (name : Name) (served : Entries) → All (if test then name_twice Operation name served else [])
  if_served true name served = twice Operation name served
  if_served false name served = tt

  name_served_fits : (place : Place) (blocks : Blocks) (name : Option Name) (served : Entries) → All (name_served_twice place blocks name served)
  name_served_fits place blocks None served = tt
  name_served_fits place blocks (Some name) served = if_served (serves place blocks name) name served

  pub served_twice_fit : (items : List Item) (place : Place) (blocks : Blocks) (served : Entries) → All (served_twice items place blocks served)
  served_twice_fit [] place blocks served = tt
  served_twice_fit (one ∷ items) place blocks served =
      both (name_served_twice place blocks (served_name one) served) _ (name_served_fits place blocks (served_name one) served)
      (served_twice_fit items place blocks (name_served place blocks (served_name one) served))

  collected_twice_fit : (component : Component) (place : Place) → All (collected_twice component place)
  collected_twice_fit component place =
      both (name_twice (sort_of component) (name_of component) place.components) _ (twice (sort_of component) (name_of component) place.components) (specs_twice_fit (spec_of component) [])

  all_collected_twice_fit : (components : List Component) (place : Place) → All (all_collected_twice components place)
  all_collected_twice_fit [] place = tt
  all_collected_twice_fit (component ∷ components) place =
      both (collected_twice component place) _ (collected_twice_fit component place) (all_collected_twice_fit components (collected component place))

  pub files_collected_twice_fit : (files : List File) (place : Place) → All (files_collected_twice files place)
  files_collected_twice_fit [] place = tt
  files_collected_twice_fit (file ∷ files) place =
      both (all_collected_twice file.components place) _ (all_collected_twice_fit file.components place) (files_collected_twice_fit files (all_collected file.components place))

  unless_main : (test : Bool) (finding : Finding) → All (finding ∷ []) → All (if test then [] else finding ∷ [])
  unless_main true finding fits = tt
  unless_main false finding fits = fits

  pub main_fits : (files : List File) → All (main_found files)
  main_fits files = unless_main (can_be_main (last_component files)) _ (tt, tt)

  where_cycle : (test : Bool) (finding : Finding) → All (finding ∷ []) → All (if test then finding ∷ [] else [])
  where_cycle true finding fits = fits
  where_cycle false finding fits = tt

  pub cycles_fit : (links : List Link) (imports : List GlobalImport) → All (all_cycles_found links imports)
  cycles_fit links [] = tt
  cycles_fit links (import ∷ imports) = both _ _ (where_cycle (connects links import.link.to import.link.from) _ (tt, tt)) (cycles_fit links imports)

-- Where no rule is broken in a declaration, what its core mentions passes.
use Rattle.std.proofs.Common.{Bool, List, ◌++◌, IsTrue, flat_map, refl}
use Rattle.std.specs.List.{list_all}
use Rattle.sr_value.specs.declared.place.Span.{Span}
use Rattle.sr_tables.specs.Lists.{maybe}
use Rattle.sr_tables.specs.Parts.{spot_named}
use Rattle.sr_lower_expr.specs.declared.scene.Scene.{Scene}
use Rattle.sr_lower_expr.specs.Places.{operation_expr}
use Rattle.sr_desugar.specs.Statements.{semaphores_core}
use Rattle.sr_core.specs.declared.statement.DimsExpr.{DimsExpr}
use Rattle.sr_core.specs.declared.statement.Scope.{Scope}
use Rattle.sr_core.specs.declared.statement.Setup.{Setup}
use Rattle.sr_tree.specs.declared.declaration.ConstDecl.{ConstDecl}
use Rattle.sr_tree.specs.declared.declaration.Semaphore.{Semaphore}
use Rattle.sr_tree.specs.declared.declaration.VarDecl.{VarDecl}
use Rattle.sr_order.specs.Names.{const_names, semaphore_names, var_names}
use Rattle.sr_tables.specs.declared.sites.Mention.{Mention}
use Rattle.sr_tables.specs.Sites.{mentions_in}
use Rattle.sr_desugar.specs.Declarations.{const_core, var_core}
use Rattle.sr_lower_expr.proofs.Each.{both_pass}
use Rattle.sr_front.specs.Imports.{dims_mentions, item_mentions, range_mentions, setup_mentions}
use Rattle.sr_front.proofs.Mentioned.CodeRules.{declare_rule, one_passes, sends_rule}
use Rattle.sr_front.proofs.Mentioned.MentionRules.{all_pass, leaf_rule}
use Rattle.sr_check.specs.ErrorFree.{ErrorFree}
use Rattle.sr_check_decl.specs.Constants.{const_found}
use Rattle.sr_check_decl.specs.Declarations.{sems_found}
use Rattle.sr_check_decl.specs.Variables.{var_found}
use Rattle.sr_check_expr.specs.declared.facts.Facts.{Facts}
use Rattle.sr_core.specs.declared.statement.DimsExpr.TheVariants as dims
use Rattle.sr_core.specs.declared.expression.Leaf.TheVariants as leaf
use Rattle.sr_front.proofs.Mentioned.RootedActions.{value}
use Rattle.sr_front.proofs.Mentioned.RootedExprs.{AllHad, operation_expr_passes}
use Rattle.sr_front.proofs.Mentioned.RootedParts.{Had, Others, nothing_passes}
use Rattle.sr_front.proofs.Typed.TypedPlaces.{AtPlace}
use Rattle.sr_core.specs.declared.statement.ItemShape.{ItemShape}
use Rattle.sr_core.specs.declared.statement.ItemShape.TheVariants as item
use Rattle.sr_core.specs.declared.statement.Setup.TheVariants as setup
use Rattle.sr_front.proofs.Known.KeptNames.{Anywhere, all_fit}
use Rattle.sr_front.proofs.Made.MadeDecls.{DeclRules, DimsFit, ItemFits, SetupFits, const_passes as every_const, semaphores_pass as all_semaphores, vars_pass as all_vars}
use Rattle.sr_front.proofs.Mentioned.RootedFits.{maybe_pass, mention_tests}

module _ (scene : Scene) (test : Mention → Bool) (others : Others scene test) (known : Facts) (at : AtPlace scene known) where
  abbrev HadName : Span → Type 0
  HadName = Had scene test

  abbrev Names : List Span → Type 0
  Names = AllHad scene test others

  both : (xs ys : List Mention) → IsTrue (all_pass test xs) → IsTrue (all_pass test ys) → IsTrue (all_pass test (xs ++ ys))
  both = both_pass test

  dims_by : (one : DimsExpr) → DimsFit (mention_tests test) one → IsTrue (all_pass test (dims_mentions one))
  dims_by dims.None fits = refl
  dims_by (dims.One range) fits = both (mentions_in range.lo) (mentions_in range.hi) fits.0 fits.1
  dims_by (dims.Two range second) fits = both (range_mentions range) (range_mentions second) (both (mentions_in range.lo) (mentions_in range.hi) fits.0.0 fits.0.1) (both (mentions_in second.lo) (mentions_in second.hi) fits.1.0 fits.1.1)

  item_by : (one : ItemShape) → ItemFits (mention_tests test) one → IsTrue (all_pass test (item_mentions one))
  item_by (item.Fixed shape) fits = refl
  item_by (item.Str most) fits = fits

  setup_by : (one : Setup) → SetupFits (mention_tests test) one → IsTrue (all_pass test (setup_mentions one))
  setup_by (setup.Typed shape value) fits =
      both (dims_mentions shape.dims ++ item_mentions shape.item) (maybe mentions_in value)
      (both (dims_mentions shape.dims) (item_mentions shape.item) (dims_by shape.dims fits.0.0) (item_by shape.item fits.0.1)) (maybe_pass test value fits.1)
  setup_by (setup.Untyped shape value) fits = fits

  decl_rules : DeclRules scene (mention_tests test) Anywhere
  decl_rules = record {
    int = leaf_rule test (leaf.Constant _) refl;
    none = nothing_passes scene test;
    declare_rule = λ place declaration fits. declare_rule test place declaration (setup_by declaration.setup fits);
    sends_rule = λ place spot count sent ok. sends_rule test place (operation_expr scene spot) count (operation_expr_passes scene test others spot) ok;
  }

  pub vars_pass : (scope : Scope) (variables : VarDecl) → Names (var_names variables) → ErrorFree (var_found known variables) → IsTrue (list_all (one_passes test) (var_core scene scope variables))
  vars_pass = all_vars scene (mention_tests test) Anywhere decl_rules known HadName (value scene test others known at)

  pub const_passes : (in_spec : Bool) (scope : Scope) (constant : ConstDecl) → Names (const_names constant) → ErrorFree (const_found in_spec known constant) → IsTrue (list_all (one_passes test) (const_core scene scope constant))
  const_passes = every_const scene (mention_tests test) Anywhere decl_rules known HadName (value scene test others known at)

  pub semaphores_pass : (span : Span) (semaphores : List Semaphore) → Names (flat_map semaphore_names semaphores) → ErrorFree (sems_found known semaphores) → IsTrue (list_all (one_passes test) (semaphores_core scene span semaphores))
  semaphores_pass span semaphores had =
      all_semaphores scene (mention_tests test) Anywhere decl_rules known HadName (value scene test others known at) span semaphores had (all_fit (λ semaphore. spot_named semaphore.name) semaphores)

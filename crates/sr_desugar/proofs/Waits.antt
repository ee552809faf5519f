-- Each `in` that statements and their parts are in the core finds its own site, with a block for each arm of it.
use Rattle.std.proofs.Common.{◌≡◌, refl, sym, ap, subst, ◌∙◌, ℕ, suc, Bool, true, false, true≢false, ◌&&◌, List, [], ◌∷◌, ◌++◌, length, Option, Some, None, unwrap_or, map}
use Rattle.std.specs.Prelude.{IsTrue, if◌then◌else◌}
use Rattle.std.specs.List.{list_all}
use Rattle.std.proofs.lemmas.Bool.{eq-eqb}
use Rattle.std.proofs.lemmas.List.Folds.{list_all-append}
use Rattle.std.proofs.lemmas.List.{map-append}
use Rattle.sr_core.specs.declared.expression.Expr.{Expr as CoreExpr}
use Rattle.sr_core.specs.declared.site.Site.{Site}
use Rattle.sr_core.specs.declared.statement.Action.{Action}
use Rattle.sr_core.specs.declared.statement.CoArm.{CoArm as CoreCoArm, out-CoArm}
use Rattle.sr_core.specs.declared.statement.Guarded.{Guarded}
use Rattle.sr_core.specs.declared.statement.Scope.{Scope}
use Rattle.sr_core.specs.declared.statement.Scope.TheVariants.{Own}
use Rattle.sr_core.specs.declared.statement.Setup.{Setup}
use Rattle.sr_core.specs.declared.statement.Statement.{Statement as CoreStatement, roll-Statement as roll_core, map-Statement as map_core}
use Rattle.sr_core.specs.declared.statement.Statement.TheFolds.{fold-Statement as fold_core, fold-CoArm as fold_core_arm, fold-Guarded, fold-roll-Statement as fold_roll_core, fold-roll-CoArm as fold_roll_core_arm, fold-roll-Guarded, map-CoArm as map_core_arm}
use Rattle.sr_core.specs.declared.statement.Statement.TheOpen.{Statement-F as Core-F, CoArm-F as CoreArm-F}
use Rattle.sr_core.specs.declared.statement.Statement.TheVariants as core
use Rattle.sr_names.specs.declared.predefined.Predefined.{Predefined}
use Rattle.sr_names.specs.declared.spot.Spot.{Spot}
use Rattle.sr_names.specs.Spots.{spot_of}
use Rattle.sr_check_expr.specs.declared.facts.Facts.{Facts}
use Rattle.sr_check_expr.specs.Meanings.{function_called, is_constant, meant_by}
use Rattle.sr_outline.specs.Numbers.{arm_sites, block_item_in_sites, branch_sites, co_arm_sites, is_p, is_wait, sites_in, wait_operation}
use Rattle.sr_tables.specs.Lists.{lists}
use Rattle.sr_tables.specs.Parts.{line_of, spot_named}
use Rattle.sr_tables.specs.Sites.{site_of}
use Rattle.sr_tables.specs.Tables.{number_in}
use Rattle.sr_tree.specs.declared.declaration.ConstDecl.{ConstDecl}
use Rattle.sr_tree.specs.declared.declaration.VarDecl.{VarDecl}
use Rattle.sr_tree.specs.declared.expr.Expr.{Expr}
use Rattle.sr_tree.specs.declared.expr.Invocation.{Invocation}
use Rattle.sr_tree.specs.declared.statement.BlockItem.TheOpen.{BlockItem-F, Statement-F}
use Rattle.sr_tree.specs.declared.statement.Statement.{Statement}
use Rattle.sr_tree.specs.declared.types.Decl.{Decl}
use Rattle.sr_tree.specs.declared.types.TypeTree.{TypeTree}
use Rattle.sr_value.specs.declared.place.Place.{Place}
use Rattle.sr_value.specs.declared.place.Span.{Span}
use Rattle.sr_lower_expr.specs.declared.scene.Scene.{Scene}
use Rattle.sr_desugar.specs.Declarations.{after_first, const_core, declare, first_of, typed, typed_vars, untyped, untyped_vars, var_core}
use Rattle.sr_lower_expr.specs.Places.{scope_of_operation, site_number}
use Rattle.sr_desugar.specs.Statements.{LoweredArm, Block, WithSites, all_made, all_sites, alone, arms_of, block_made, blocks_of, call_action, call_made, core_arm, core_block_item, core_branch, core_co_arm, core_statement, quantifiers_core, receive_arm, receive_assign, receive_made, scope_of_arms}
use Rattle.sr_core.specs.Tests.{all_true}
use Rattle.sr_core.specs.Blocks.{co_arm_waits, guarded_waits}
use Rattle.sr_core.specs.Sites.{has_blocks}
use Rattle.sr_core.specs.Waiting.{SiteTest, block_waits, is_filled, site_found, site_passes, statement_waits}
use Rattle.sr_tree.proofs.StatementFolds.{BranchNode, ByParts, Claim, CoArmNode, Fold, ItemNode, Known, StatementNode, arm_folds, bare_arm, bare_branch, bare_co_arm, bare_item, bare_statement, branch_folds, co_arm_folds, each_statement, from_branch, from_co_arm, from_item, from_statement, item_folds, statement_folds}
use Rattle.sr_outline.proofs.NumberFolds.{waiting}
use Rattle.sr_desugar.proofs.CodeFold.{making}
use Rattle.sr_desugar.proofs.Numbered.{At, Waits, none_waits, waits_both, waits_by}

-- ---- lists of tests

never : IsTrue false → ⊥
never is = true≢false (sym is)

pub both : (a b : Bool) → IsTrue a → IsTrue b → IsTrue (a && b)
both true b first second = second
both false b first second = absurd (never first)

pub all_appended : {A : Type 0} (test : A → Bool) (xs ys : List A) → IsTrue (list_all test xs) → IsTrue (list_all test ys) → IsTrue (list_all test (xs ++ ys))
all_appended test xs ys first second = subst IsTrue (sym (list_all-append test xs ys)) (both (list_all test xs) (list_all test ys) first second)

-- what is asked of a site that is made, and what of each `in` that finds it
abbrev pub Enough : (Site → Bool) → SiteTest → Type 0
Enough okay test = (site : Site) (blocks : ℕ) (other : Bool) → IsTrue (okay site) → IsTrue (has_blocks site blocks other) → IsTrue (test site blocks other)

module _ (okay : Site → Bool) (test : SiteTest) (enough : Enough okay test) where
  -- two tests that both fit
  pub waits_and : {table : List Spot} {spots : List Spot} {made : List Site} {more : List Spot} {rest : List Site} (test other : List Site → Bool)
      → Waits okay table (λ sites. IsTrue (test sites)) spots made → Waits okay table (λ sites. IsTrue (other sites)) more rest
      → Waits okay table (λ sites. IsTrue (test sites && other sites)) (spots ++ more) (made ++ rest)
  waits_and test other first second = waits_by (λ sites fits. both (test sites) (other sites) fits.0 fits.1) (waits_both first second)

  -- what isn't written waits nowhere
  nothing_waits : (table : List Spot) → Waits okay table (λ sites. IsTrue true) [] []
  nothing_waits table = none_waits (λ sites. refl)

  -- ---- the core

  abbrev pub waits : List Site → CoreStatement → Bool
  waits sites = fold_core Bool Bool Bool (statement_waits test sites) co_arm_waits guarded_waits

  abbrev arm_fits : List Site → CoreCoArm → Bool
  arm_fits sites = fold_core_arm Bool Bool Bool (statement_waits test sites) co_arm_waits guarded_waits

  abbrev guarded_fits : List Site → Guarded → Bool
  guarded_fits sites = fold-Guarded Bool Bool Bool (statement_waits test sites) co_arm_waits guarded_waits

  abbrev pub opened : List Site → Core-F CoreStatement CoreCoArm Guarded → Core-F Bool Bool Bool
  opened sites = map_core CoreStatement CoreCoArm Guarded Bool Bool Bool (waits sites) (arm_fits sites) (guarded_fits sites)

  abbrev opened_arm : List Site → CoreArm-F CoreStatement CoreCoArm Guarded → CoreArm-F Bool Bool Bool
  opened_arm sites = map_core_arm CoreStatement CoreCoArm Guarded Bool Bool Bool (waits sites) (arm_fits sites) (guarded_fits sites)

  -- a statement fits, part by part
  pub rolled : (sites : List Site) (made : CoreStatement) (parts : Core-F CoreStatement CoreCoArm Guarded) → roll_core parts ≡ made
      → IsTrue (statement_waits test sites (opened sites parts)) → IsTrue (waits sites made)
  rolled sites made parts is fits =
      subst (λ one. IsTrue (waits sites one)) is
      (subst IsTrue (sym (fold_roll_core Bool Bool Bool (statement_waits test sites) co_arm_waits guarded_waits parts)) fits)

  -- what does something has no sites
  pub act_fits : (sites : List Site) (place : Place) (action : Action) → IsTrue (waits sites (core.Act place action))
  act_fits sites place action = rolled sites (core.Act place action) (Core-F.Act place action) (core.rolls-Act place action) refl

  -- and so have the sends of a semaphore
  pub sends_fit : (sites : List Site) (place : Place) (target count : CoreExpr) → IsTrue (waits sites (core.Sends place target count))
  sends_fit sites place target count = rolled sites _ (Core-F.Sends place target count) (core.rolls-Sends _ _ _) refl

  pub block_appended : (sites : List Site) (a b : List CoreStatement) → IsTrue (block_waits test sites a) → IsTrue (block_waits test sites b) → IsTrue (block_waits test sites (a ++ b))
  block_appended sites a b first second =
      subst (λ tests. IsTrue (all_true tests)) (sym (map-append (waits sites) a b)) (all_appended (λ one. one) (map (waits sites) a) (map (waits sites) b) first second)

  -- ---- an `in` finds its site

  site_there : (table : List Spot) (sites : List Site) (spot : Spot) (site : Site) (blocks : ℕ) (other : Bool) → IsTrue (has_blocks site blocks other)
      → At okay table sites spot site → IsTrue (site_passes test sites (number_in table spot) blocks other)
  site_there table sites spot site blocks other has there =
      ap (λ found. site_passes test sites (unwrap_or found 0) blocks other) there.1 ∙ ap (site_found test blocks other) there.2 ∙ enough site blocks other there.3 has

  -- the site of an `in` stands before those in its parts
  in_waits : {table : List Spot} {Fits : List Site → Type 0} {spots : List Spot} {made : List Site} (spot : Spot) (site : Site) (blocks : ℕ) (other : Bool)
      → IsTrue (has_blocks site blocks other) → Waits okay table Fits spots made
      → Waits okay table (λ sites. IsTrue (site_passes test sites (number_in table spot) blocks other) × Fits sites) (spot ∷ spots) (site ∷ made)
  in_waits {table} spot site blocks other has waits = record {
    as_many = waits.as_many;
    fits = λ sites numbered. (site_there table sites spot site blocks other has numbered.0, waits.fits sites numbered.1);
  }

  -- an arm has one block
  one_block_each : {A : Type 0} (test : Block → A) (arms : List (WithSites LoweredArm)) → length (arms_of arms) ≡ length (map test (blocks_of arms))
  one_block_each test [] = refl
  one_block_each test (arm ∷ arms) = ap suc (one_block_each test arms)

  -- and a test of each statement leaves as many
  filled_each : {A B : Type 0} (make : A → B) (things : List A) → is_filled things ≡ is_filled (map make things)
  filled_each make [] = refl
  filled_each make (thing ∷ things) = refl

  -- ---- declarations

  declared_fits : (sites : List Site) (scope : Scope) (place : Place) (scene : Scene) (spot : Spot) (setup : Setup) → IsTrue (waits sites (declare scene scope place spot setup))
  declared_fits sites scope place scene spot setup = rolled sites _ (Core-F.Declare _ _) (core.rolls-Declare _ _) refl

  typed_fit : (sites : List Site) (scene : Scene) (scope : Scope) (place : Place) (ty : TypeTree) (decls : List Decl) (values : List Expr)
      → IsTrue (block_waits test sites (typed_vars scene scope place ty decls values))
  typed_fit sites scene scope place ty [] values = refl
  typed_fit sites scene scope place ty (decl ∷ decls) values =
      both (waits sites (declare scene scope place (spot_named decl.name) (typed scene decl ty (first_of values)))) _
      (declared_fits sites scope place scene _ _)
      (typed_fit sites scene scope place ty decls (after_first values))

  untyped_fit : (sites : List Site) (scene : Scene) (scope : Scope) (place : Place) (decls : List Decl) (values : List Expr)
      → IsTrue (block_waits test sites (untyped_vars scene scope place decls values))
  untyped_fit sites scene scope place [] values = refl
  untyped_fit sites scene scope place (decl ∷ decls) [] = refl
  untyped_fit sites scene scope place (decl ∷ decls) (value ∷ values) =
      both (waits sites (declare scene scope place (spot_named decl.name) (untyped scene (spot_named decl.name) value))) _
      (declared_fits sites scope place scene _ _)
      (untyped_fit sites scene scope place decls values)

  pub const_fits : (sites : List Site) (scene : Scene) (scope : Scope) (constant : ConstDecl) → IsTrue (block_waits test sites (const_core scene scope constant))
  const_fits sites scene scope constant = by (is_constant scene.facts (spot_named constant.name))
    where
      by : (static : Bool)
          → IsTrue (block_waits test sites (if static then [] else (declare scene scope (line_of constant.span) (spot_named constant.name) (untyped scene (spot_named constant.name) constant.value) ∷ [])))
      by true = refl
      by false = both _ true (declared_fits sites scope (line_of constant.span) scene _ _) refl

  pub var_fits : (sites : List Site) (scene : Scene) (scope : Scope) (variables : VarDecl) → IsTrue (block_waits test sites (var_core scene scope variables))
  var_fits sites scene scope variables = by variables.ty
    where
      by : (ty : Option TypeTree) → IsTrue (block_waits test sites (var_core scene scope (record variables { ty = ty })))
      by None = untyped_fit sites scene scope (line_of variables.span) variables.decls variables.values
      by (Some ty) = typed_fit sites scene scope (line_of variables.span) ty variables.decls variables.values

  -- ---- `receive` and `P`

  assigns_fit : (sites : List Site) (scene : Scene) (span : Span) (places : List Expr) → IsTrue (block_waits test sites (map (receive_assign scene span) places))
  assigns_fit sites scene span [] = refl
  assigns_fit sites scene span (place ∷ places) =
      both (waits sites (receive_assign scene span place)) (block_waits test sites (map (receive_assign scene span) places)) (act_fits sites _ _) (assigns_fit sites scene span places)

  receive_waits : (scene : Scene) (span : Span) (operation : Spot) (places : List Expr)
      → Waits okay scene.tables.sites (λ sites. IsTrue (waits sites (receive_made scene span operation places).made)) (spot_of span ∷ []) (receive_made scene span operation places).sites
  receive_waits scene span operation places =
      waits_by
      (λ sites fits.
      rolled sites _ (Core-F.In (line_of span) (site_number scene (spot_of span)) (map (receive_assign scene span) places ∷ []) []) (core.rolls-In _ _ _ _)
      (both (site_passes test sites (site_number scene (spot_of span)) 1 false) _ fits.0 (both _ true (both (block_waits test sites (map (receive_assign scene span) places)) true fits.1 refl) refl)))
      (in_waits (spot_of span) (site_of (scope_of_operation scene operation) (receive_arm scene span operation places ∷ []) false) 1 false refl (none_waits (λ sites. assigns_fit sites scene span places)))

  -- it waits where it calls `P`
  call_waits : (scene : Scene) (span : Span) (invocation : Invocation) (function : Option Predefined) (wait : Bool) → is_p function ≡ wait
      → Waits okay scene.tables.sites (λ sites. IsTrue (waits sites (call_made scene span invocation function).made)) (if wait then spot_of span ∷ [] else []) (call_made scene span invocation function).sites
  call_waits scene span invocation function wait is =
      subst (λ test. Waits okay scene.tables.sites (λ sites. IsTrue (waits sites (made test).made)) (if wait then spot_of span ∷ [] else []) (made test).sites) (sym is) (by wait)
    where
      made : Bool → WithSites CoreStatement
      made test = if test then receive_made scene span (wait_operation scene.facts span invocation) [] else alone (core.Act (line_of span) (call_action scene invocation function))

      by : (wait : Bool) → Waits okay scene.tables.sites (λ sites. IsTrue (waits sites (made wait).made)) (if wait then spot_of span ∷ [] else []) (made wait).sites
      by true = receive_waits scene span (wait_operation scene.facts span invocation) []
      by false = none_waits (λ sites. act_fits sites (line_of span) (call_action scene invocation function))

  -- ---- trees

  module _ (facts : Facts) (scene : Scene) (agree : (invocation : Invocation) → is_wait scene.facts invocation ≡ is_wait facts invocation) where
    abbrev table : List Spot
    table = scene.tables.sites

    abbrev sited : Fold (List Spot) (List Spot) (List Spot) (List Spot) (List Spot)
    sited = waiting facts

    abbrev core_of : Fold (WithSites Block) (WithSites CoreStatement) (WithSites LoweredArm) (WithSites Guarded) (WithSites CoreCoArm)
    core_of = making scene

    -- a tree waits where its own sites are
    abbrev ItemGood : List Spot → WithSites Block → Type 0
    ItemGood spots lowered = Waits okay table (λ sites. IsTrue (block_waits test sites lowered.made)) spots lowered.sites

    abbrev StatementGood : List Spot → WithSites CoreStatement → Type 0
    StatementGood spots lowered = Waits okay table (λ sites. IsTrue (waits sites lowered.made)) spots lowered.sites

    abbrev ArmGood : List Spot → WithSites LoweredArm → Type 0
    ArmGood spots lowered = Waits okay table (λ sites. IsTrue (block_waits test sites lowered.made.block)) spots lowered.sites

    abbrev BranchGood : List Spot → WithSites Guarded → Type 0
    BranchGood spots lowered = Waits okay table (λ sites. IsTrue (guarded_fits sites lowered.made)) spots lowered.sites

    abbrev CoArmGood : List Spot → WithSites CoreCoArm → Type 0
    CoArmGood spots lowered = Waits okay table (λ sites. IsTrue (arm_fits sites lowered.made)) spots lowered.sites

    abbrev good : Claim
    good = record {
      item = λ tree. ItemGood (block_item_in_sites facts tree) (core_block_item scene tree);
      statement = λ tree. StatementGood (sites_in facts tree) (core_statement scene tree);
      arm = λ tree. ArmGood (arm_sites facts tree) (core_arm scene tree);
      branch = λ tree. BranchGood (branch_sites facts tree) (core_branch scene tree);
      co_arm = λ tree. CoArmGood (co_arm_sites facts tree) (core_co_arm scene tree);
    }

    abbrev I : Type 0
    I = Known good.item

    abbrev A : Type 0
    A = Known good.arm

    abbrev B : Type 0
    B = Known good.branch

    abbrev C : Type 0
    C = Known good.co_arm

    -- lists of parts in the core
    abbrev items_core : List I → WithSites Block
    items_core items = block_made (map (core_block_item scene) (map (λ e. e.0) items))

    abbrev branches_core : List B → List (WithSites Guarded)
    branches_core branches = map (core_branch scene) (map (λ e. e.0) branches)

    abbrev arms_core : List A → List (WithSites LoweredArm)
    arms_core arms = map (core_arm scene) (map (λ e. e.0) arms)

    abbrev co_arms_core : List C → List (WithSites CoreCoArm)
    co_arms_core arms = map (core_co_arm scene) (map (λ e. e.0) arms)

    items_good : (items : List I)
        → Waits okay table (λ sites. IsTrue (block_waits test sites (items_core items).made)) (lists (map (block_item_in_sites facts) (map (λ e. e.0) items))) (items_core items).sites
    items_good [] = none_waits (λ sites. refl)
    items_good (item ∷ items) = waits_by (λ sites fits. block_appended sites (core_block_item scene item.0).made (items_core items).made fits.0 fits.1) (waits_both item.1 (items_good items))

    branches_good : (branches : List B)
        → Waits okay table (λ sites. IsTrue (all_true (map (guarded_fits sites) (all_made (branches_core branches))))) (lists (map (branch_sites facts) (map (λ e. e.0) branches))) (all_sites (branches_core branches))
    branches_good [] = none_waits (λ sites. refl)
    branches_good (branch ∷ branches) = waits_and (λ sites. guarded_fits sites (core_branch scene branch.0).made) (λ sites. all_true (map (guarded_fits sites) (all_made (branches_core branches)))) branch.1 (branches_good branches)

    co_arms_good : (arms : List C)
        → Waits okay table (λ sites. IsTrue (all_true (map (arm_fits sites) (all_made (co_arms_core arms))))) (lists (map (co_arm_sites facts) (map (λ e. e.0) arms))) (all_sites (co_arms_core arms))
    co_arms_good [] = none_waits (λ sites. refl)
    co_arms_good (arm ∷ arms) = waits_and (λ sites. arm_fits sites (core_co_arm scene arm.0).made) (λ sites. all_true (map (arm_fits sites) (all_made (co_arms_core arms)))) arm.1 (co_arms_good arms)

    arms_good : (arms : List A)
        → Waits okay table (λ sites. IsTrue (list_all all_true (map (map (waits sites)) (blocks_of (arms_core arms))))) (lists (map (arm_sites facts) (map (λ e. e.0) arms))) (all_sites (arms_core arms))
    arms_good [] = none_waits (λ sites. refl)
    arms_good (arm ∷ arms) = waits_and (λ sites. block_waits test sites (core_arm scene arm.0).made.block) (λ sites. list_all all_true (map (map (waits sites)) (blocks_of (arms_core arms)))) arm.1 (arms_good arms)

    -- ---- each kind of tree from its parts

    statement_good : (y : StatementNode good) → StatementGood (from_statement sited (bare_statement good y)) (from_statement core_of (bare_statement good y))
    statement_good (Statement-F.Skip span) = none_waits (λ sites. act_fits sites _ _)
    statement_good (Statement-F.Exit span) = none_waits (λ sites. act_fits sites _ _)
    statement_good (Statement-F.Next span) = none_waits (λ sites. act_fits sites _ _)
    statement_good (Statement-F.Return span) = none_waits (λ sites. act_fits sites _ _)
    statement_good (Statement-F.Reply span) = none_waits (λ sites. act_fits sites _ _)
    statement_good (Statement-F.Stop span status) = none_waits (λ sites. act_fits sites _ _)
    statement_good (Statement-F.Call span with_call invocation) = call_waits scene span invocation (function_called scene.facts invocation) (is_wait facts invocation) (agree invocation)
    statement_good (Statement-F.Send span invocation) = none_waits (λ sites. act_fits sites _ _)
    statement_good (Statement-F.Forward span invocation) = none_waits (λ sites. act_fits sites _ _)
    statement_good (Statement-F.Receive span operation places) = receive_waits scene span (meant_by scene.facts operation) places
    statement_good (Statement-F.Assign span target value) = none_waits (λ sites. act_fits sites _ _)
    statement_good (Statement-F.Exchange span left right) = none_waits (λ sites. act_fits sites _ _)
    statement_good (Statement-F.Increment span target) = none_waits (λ sites. act_fits sites _ _)
    statement_good (Statement-F.Decrement span target) = none_waits (λ sites. act_fits sites _ _)
    statement_good (Statement-F.If span branches None) =
        waits_by
        (λ sites fits. rolled sites _ (Core-F.If (line_of span) (all_made (branches_core branches)) []) (core.rolls-If _ _ _) (both _ true fits.0 refl))
        (waits_both (branches_good branches) (nothing_waits table))
    statement_good (Statement-F.If span branches (Some otherwise)) =
        waits_by
        (λ sites fits. rolled sites _ (Core-F.If (line_of span) (all_made (branches_core branches)) (items_core otherwise).made) (core.rolls-If _ _ _) (both _ _ fits.0 fits.1))
        (waits_both (branches_good branches) (items_good otherwise))
    statement_good (Statement-F.Do span branches None) =
        waits_by
        (λ sites fits. rolled sites _ (Core-F.Do (line_of span) (all_made (branches_core branches)) None) (core.rolls-Do _ _ _) (both _ true fits.0 refl))
        (waits_both (branches_good branches) (nothing_waits table))
    statement_good (Statement-F.Do span branches (Some otherwise)) =
        waits_by
        (λ sites fits. rolled sites _ (Core-F.Do (line_of span) (all_made (branches_core branches)) (Some (items_core otherwise).made)) (core.rolls-Do _ _ _) (both _ _ fits.0 fits.1))
        (waits_both (branches_good branches) (items_good otherwise))
    statement_good (Statement-F.ForAll span quantifiers block) =
        waits_by (λ sites fits. rolled sites _ (Core-F.Fa (line_of span) (quantifiers_core scene quantifiers) (items_core block).made) (core.rolls-Fa _ _ _) fits) (items_good block)
    statement_good (Statement-F.In span arms None) =
        waits_by
        (λ sites fits.
        rolled sites _ (Core-F.In (line_of span) (site_number scene (spot_of span)) (blocks_of (arms_core arms)) []) (core.rolls-In _ _ _ _)
        (both _ _ (subst (λ count. IsTrue (site_passes test sites (site_number scene (spot_of span)) count false)) (one_block_each (map (waits sites)) (arms_core arms)) fits.0) (both _ true fits.1.0 refl)))
        (in_waits (spot_of span) (site_of (scope_of_arms (arms_core arms)) (arms_of (arms_core arms)) false) (length (arms_of (arms_core arms))) false (both _ true (eq-eqb (length (arms_of (arms_core arms))) (length (arms_of (arms_core arms))) refl) refl) (waits_both (arms_good arms) (nothing_waits table)))
    statement_good (Statement-F.In span arms (Some otherwise)) =
        waits_by
        (λ sites fits.
        rolled sites _ (Core-F.In (line_of span) (site_number scene (spot_of span)) (blocks_of (arms_core arms)) (items_core otherwise).made) (core.rolls-In _ _ _ _)
        (both _ _
        (subst (λ filled. IsTrue (site_passes test sites (site_number scene (spot_of span)) (length (map (map (waits sites)) (blocks_of (arms_core arms)))) filled)) (filled_each (waits sites) (items_core otherwise).made)
        (subst (λ count. IsTrue (site_passes test sites (site_number scene (spot_of span)) count (is_filled (items_core otherwise).made))) (one_block_each (map (waits sites)) (arms_core arms)) fits.0))
        (both _ _ fits.1.0 fits.1.1)))
        (in_waits (spot_of span) (site_of (scope_of_arms (arms_core arms)) (arms_of (arms_core arms)) true) (length (arms_of (arms_core arms))) (is_filled (items_core otherwise).made) (both _ true (eq-eqb (length (arms_of (arms_core arms))) (length (arms_of (arms_core arms))) refl) refl) (waits_both (arms_good arms) (items_good otherwise)))
    statement_good (Statement-F.Co span arms) =
        waits_by (λ sites fits. rolled sites _ (Core-F.Co (line_of span) (all_made (co_arms_core arms))) (core.rolls-Co _ _) fits) (co_arms_good arms)
    statement_good (Statement-F.Destroy span target) = none_waits (λ sites. act_fits sites _ _)
    statement_good (Statement-F.Create span create) = none_waits (λ sites. act_fits sites _ _)

    item_good : (y : ItemNode good) → ItemGood (from_item sited (bare_item good y)) (from_item core_of (bare_item good y))
    item_good (BlockItem-F.Const constant) = none_waits (λ sites. const_fits sites scene Own constant)
    item_good (BlockItem-F.Var variables) = none_waits (λ sites. var_fits sites scene Own variables)
    item_good (BlockItem-F.Statement statement) = waits_by (λ sites fits. both (waits sites (core_statement scene statement.0).made) true fits refl) statement.1

    branch_good : (y : BranchNode good) → BranchGood (from_branch sited (bare_branch good y)) (from_branch core_of (bare_branch good y))
    branch_good y =
        waits_by (λ sites fits. subst IsTrue (sym (fold-roll-Guarded Bool Bool Bool (statement_waits test sites) co_arm_waits guarded_waits _)) fits) (items_good y.block)

    co_arm_by : (y : CoArmNode good) (block : Option (List I))
        → Waits okay table (λ sites. IsTrue (co_arm_waits (opened_arm sites (out-CoArm (from_co_arm core_of (bare_co_arm good (record y { block = block }))).made))))
        (from_co_arm sited (bare_co_arm good (record y { block = block }))) (from_co_arm core_of (bare_co_arm good (record y { block = block }))).sites
    co_arm_by y None = none_waits (λ sites. refl)
    co_arm_by y (Some items) = items_good items

    co_arm_good : (y : CoArmNode good) → CoArmGood (from_co_arm sited (bare_co_arm good y)) (from_co_arm core_of (bare_co_arm good y))
    co_arm_good y = waits_by (λ sites fits. subst IsTrue (sym (fold_roll_core_arm Bool Bool Bool (statement_waits test sites) co_arm_waits guarded_waits _)) fits) (co_arm_by y y.block)

    -- ---- all trees

    by_parts : ByParts good
    by_parts = record {
      item = λ y. subst (λ t. t) (λ i. ItemGood (item_folds sited (bare_item good y) i) (item_folds core_of (bare_item good y) i)) (item_good y);
      statement = λ y. subst (λ t. t) (λ i. StatementGood (statement_folds sited (bare_statement good y) i) (statement_folds core_of (bare_statement good y) i)) (statement_good y);
      arm = λ y. subst (λ t. t) (λ i. ArmGood (arm_folds sited (bare_arm good y) i) (arm_folds core_of (bare_arm good y) i)) (items_good y.block);
      branch = λ y. subst (λ t. t) (λ i. BranchGood (branch_folds sited (bare_branch good y) i) (branch_folds core_of (bare_branch good y) i)) (branch_good y);
      co_arm = λ y. subst (λ t. t) (λ i. CoArmGood (co_arm_folds sited (bare_co_arm good y) i) (co_arm_folds core_of (bare_co_arm good y) i)) (co_arm_good y);
    }

    pub statement_fits : (tree : Statement) → Waits okay table (λ sites. IsTrue (waits sites (core_statement scene tree).made)) (sites_in facts tree) (core_statement scene tree).sites
    statement_fits = each_statement good by_parts

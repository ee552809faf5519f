-- Each statement that waits is a site of the core that services what the statement means.
use Rattle.std.proofs.Common.{◌≡◌, Bool, true, false, List, [], ◌∷◌, ◌++◌, Option, Some, None, map, refl, ap, subst}
use Rattle.std.specs.List.{AllByRecursion, AllZip}
use Rattle.sr_check.specs.Servicing.{ArmWaits, Together, Waits, arm_step, arm_waits, arms_meant, arms_waits, block_item_waits, branch_step, branch_waits, call_waits, co_arm_step, co_arm_waits, item_step, joined, meant_at, statement_step, statement_waits}
use Rattle.sr_core.specs.declared.component.Operation.{Operation}
use Rattle.sr_core.specs.declared.site.Arm.{Arm as CoreArm}
use Rattle.sr_core.specs.declared.site.Site.{Site}
use Rattle.sr_core.specs.declared.statement.Scope.{Scope}
use Rattle.sr_names.specs.declared.meaning.Decl.{Decl}
use Rattle.sr_names.specs.declared.spot.Spot.{Spot}
use Rattle.sr_names.specs.Noted.{Meanings}
use Rattle.sr_names.specs.Spots.{spot_of}
use Rattle.sr_check_expr.specs.Meanings.{function_called, meant_by}
use Rattle.sr_outline.specs.Numbers.{is_p, receive_returned, returned_names, wait_operation}
use Rattle.sr_tables.specs.Lists.{lists}
use Rattle.sr_tables.specs.Parts.{spot_named}
use Rattle.sr_tables.specs.Tables.{found_at}
use Rattle.sr_tree.specs.declared.expr.Expr.{Expr}
use Rattle.sr_tree.specs.declared.expr.Invocation.{Invocation}
use Rattle.sr_tree.specs.declared.statement.Arm.{Arm}
use Rattle.sr_tree.specs.declared.statement.BlockItem.{BlockItem}
use Rattle.sr_tree.specs.declared.statement.BlockItem.TheOpen.{BlockItem-F, Statement-F}
use Rattle.sr_tree.specs.declared.statement.Branch.{Branch}
use Rattle.sr_tree.specs.declared.statement.CoArm.{CoArm}
use Rattle.sr_tree.specs.declared.statement.Statement.{Statement}
use Rattle.sr_tree.specs.Expressions.{expr_span}
use Rattle.sr_value.specs.declared.place.Span.{Span}
use Rattle.sr_lower_expr.specs.declared.scene.Scene.{Scene}
use Rattle.sr_lower_expr.specs.Places.{scope_in}
use Rattle.sr_desugar.specs.Statements.{LoweredArm, WithSites, all_sites, arms_of, call_made, core_arm, core_block_item, core_branch, core_co_arm, core_statement, receive_made, scope_of_arms}
use Rattle.sr_front.specs.Sites.{IsListed}
use Rattle.sr_desugar.proofs.CodeFold.{making}
use Rattle.sr_tree.proofs.StatementFolds.{ArmNode, BranchNode, ByParts, Claim, CoArmNode, Fold, ItemNode, Known, StatementNode, arm_folds, bare_arm, bare_branch, bare_co_arm, bare_item, bare_statement, branch_folds, co_arm_folds, each_statement, from_arm, from_branch, from_co_arm, from_item, from_statement, item_folds, statement_folds}
use Rattle.sr_front.proofs.Served.Serviced.{Called, IsClear, WaitsFor, arm_calls, block_item_calls, branch_calls, co_arm_calls, statement_calls, item_step as item_called, statement_step as statement_called, arm_step as arm_called, branch_step as branch_called, co_arm_step as co_arm_called}
use Rattle.sr_front.proofs.Served.Procs.{Serves, serves}
use Rattle.sr_front.proofs.Served.Services.{meant_is}

-- ---- what holds of each of a list

abbrev pub Each : {A : Type 0} → (A → Type 0) → List A → Type 0
Each = AllByRecursion

module _ {A : Type 0} (Q : A → Type 0) where
  pub each_append : (xs ys : List A) → Each Q xs → Each Q ys → Each Q (xs ++ ys)
  each_append [] ys first second = second
  each_append (x ∷ xs) ys first second = (first.0, each_append xs ys first.1 second)

  pub each_first : (xs ys : List A) → Each Q (xs ++ ys) → Each Q xs
  each_first [] ys all = tt
  each_first (x ∷ xs) ys all = (all.0, each_first xs ys all.1)

  pub each_second : (xs ys : List A) → Each Q (xs ++ ys) → Each Q ys
  each_second [] ys all = all
  each_second (x ∷ xs) ys all = each_second xs ys all.1

-- ---- sites

-- an arm services the operation that is meant
abbrev pub ArmServes : List (Spot × Operation) → CoreArm → Option Decl → Type 0
ArmServes table arm meant = (decl : Decl) → meant ≡ Some decl → Serves table arm.op arm.formals arm.returned decl.spot

-- and its scope is that of the operation
abbrev pub ScopeServes : List (Spot × Operation) → Scope → Option Decl → Type 0
ScopeServes table scope meant = (decl : Decl) → meant ≡ Some decl → scope ≡ scope_in (found_at table decl.spot)

-- the scope of a site is that of the first
abbrev pub FirstScope : List (Spot × Operation) → Scope → Together → Type 0
FirstScope table scope [] = Unit {0}
FirstScope table scope (meant ∷ more) = ScopeServes table scope meant

-- what waits in trees, and the calls in them
abbrev waiting : Meanings → Fold Waits Waits ArmWaits Waits Waits
waiting uses = record { item = item_step; statement = statement_step uses; arm = arm_step uses; branch = branch_step; co_arm = co_arm_step }

abbrev calling : Fold (List Called) (List Called) (List Called) (List Called) (List Called)
calling = record { item = item_called; statement = statement_called; arm = arm_called; branch = branch_called; co_arm = co_arm_called }

module _ (P : Together → Type 0) where
  -- a site services what is meant together
  pub record SiteServes (table : List (Spot × Operation)) (site : Site) : Type 0 where
    pub together : Together
    pub holds : P together
    pub arms : AllZip (ArmServes table) site.arms together
    pub scope : FirstScope table site.scope together
    pub lists : IsListed site

  -- each site of what is made services what is meant, and calls are clear
  abbrev pub Good : Scene → List Site → Waits → List Called → Type 0
  Good scene sites waits calls = Each P waits → Each (IsClear scene.facts) calls → Each (SiteServes scene.tables.operations) sites

  -- ---- trees

  abbrev ItemGood : BlockItem → Type 0
  ItemGood tree = (scene : Scene) → Good scene (core_block_item scene tree).sites (block_item_waits scene.facts.uses tree) (block_item_calls tree)

  abbrev pub StatementGood : Statement → Type 0
  StatementGood tree = (scene : Scene) → Good scene (core_statement scene tree).sites (statement_waits scene.facts.uses tree) (statement_calls tree)

  abbrev ArmParts : Scene → WithSites LoweredArm → ArmWaits → List Called → Type 0
  ArmParts scene made waits calls =
      (ArmServes scene.tables.operations made.made.arm waits.0 × ScopeServes scene.tables.operations made.made.scope waits.0) × Good scene made.sites waits.1 calls

  abbrev ArmGood : Arm → Type 0
  ArmGood tree = (scene : Scene) → ArmParts scene (core_arm scene tree) (arm_waits scene.facts.uses tree) (arm_calls tree)

  abbrev BranchGood : Branch → Type 0
  BranchGood tree = (scene : Scene) → Good scene (core_branch scene tree).sites (branch_waits scene.facts.uses tree) (branch_calls tree)

  abbrev CoArmGood : CoArm → Type 0
  CoArmGood tree = (scene : Scene) → Good scene (core_co_arm scene tree).sites (co_arm_waits scene.facts.uses tree) (co_arm_calls tree)

  abbrev good : Claim
  good = record { item = ItemGood; statement = StatementGood; arm = ArmGood; branch = BranchGood; co_arm = CoArmGood }

  -- what is good one after another is good together
  pub good_append : (scene : Scene) (sites more : List Site) (waits others : Waits) (calls rest : List Called)
      → Good scene sites waits calls → Good scene more others rest → Good scene (sites ++ more) (waits ++ others) (calls ++ rest)
  good_append scene sites more waits others calls rest first second hold clear =
      each_append (SiteServes scene.tables.operations) sites more
      (first (each_first P waits others hold) (each_first (IsClear scene.facts) calls rest clear))
      (second (each_second P waits others hold) (each_second (IsClear scene.facts) calls rest clear))

  -- trees one after another
  row_good : {X M : Type 0} (make : Scene → X → WithSites M) (waits : Meanings → X → Waits) (calls : X → List Called) (scene : Scene)
      (xs : List ((x : X) × ((scene : Scene) → Good scene (make scene x).sites (waits scene.facts.uses x) (calls x))))
      → Good scene (all_sites (map (make scene) (map (λ e. e.0) xs))) (joined (map (waits scene.facts.uses) (map (λ e. e.0) xs))) (lists (map calls (map (λ e. e.0) xs)))
  row_good make waits calls scene [] = λ hold clear. tt
  row_good make waits calls scene (x ∷ xs) =
      good_append scene (make scene x.0).sites (all_sites (map (make scene) (map (λ e. e.0) xs)))
      (waits scene.facts.uses x.0) (joined (map (waits scene.facts.uses) (map (λ e. e.0) xs))) (calls x.0) (lists (map calls (map (λ e. e.0) xs)))
      (x.1 scene) (row_good make waits calls scene xs)

  items_good : (scene : Scene) (items : List (Known ItemGood))
      → Good scene (all_sites (map (core_block_item scene) (map (λ e. e.0) items))) (joined (map (block_item_waits scene.facts.uses) (map (λ e. e.0) items))) (lists (map block_item_calls (map (λ e. e.0) items)))
  items_good = row_good core_block_item block_item_waits block_item_calls

  branches_good : (scene : Scene) (branches : List (Known BranchGood))
      → Good scene (all_sites (map (core_branch scene) (map (λ e. e.0) branches))) (joined (map (branch_waits scene.facts.uses) (map (λ e. e.0) branches))) (lists (map branch_calls (map (λ e. e.0) branches)))
  branches_good = row_good core_branch branch_waits branch_calls

  arms_good : (scene : Scene) (arms : List (Known ArmGood))
      → Good scene (all_sites (map (core_arm scene) (map (λ e. e.0) arms))) (arms_waits (map (arm_waits scene.facts.uses) (map (λ e. e.0) arms))) (lists (map arm_calls (map (λ e. e.0) arms)))
  arms_good scene [] = λ hold clear. tt
  arms_good scene (arm ∷ arms) =
      good_append scene (core_arm scene arm.0).sites (all_sites (map (core_arm scene) (map (λ e. e.0) arms)))
      (arm_waits scene.facts.uses arm.0).1 (arms_waits (map (arm_waits scene.facts.uses) (map (λ e. e.0) arms)))
      (arm_calls arm.0) (lists (map arm_calls (map (λ e. e.0) arms)))
      ((arm.1 scene).1) (arms_good scene arms)

  arms_serve : (scene : Scene) (arms : List (Known ArmGood))
      → AllZip (ArmServes scene.tables.operations) (arms_of (map (core_arm scene) (map (λ e. e.0) arms))) (arms_meant (map (arm_waits scene.facts.uses) (map (λ e. e.0) arms)))
  arms_serve scene [] = tt
  arms_serve scene (arm ∷ arms) = ((arm.1 scene).0.0, arms_serve scene arms)

  first_scope : (scene : Scene) (arms : List (Known ArmGood))
      → FirstScope scene.tables.operations (scope_of_arms (map (core_arm scene) (map (λ e. e.0) arms))) (arms_meant (map (arm_waits scene.facts.uses) (map (λ e. e.0) arms)))
  first_scope scene [] = tt
  first_scope scene (arm ∷ arms) = (arm.1 scene).0.1

  -- ---- `receive` and `P`

  receive_good : (scene : Scene) (span : Span) (operation : Spot) (places : List Expr) (meant : Option Decl) → ((decl : Decl) → meant ≡ Some decl → operation ≡ decl.spot) → P (meant ∷ [])
      → Each (SiteServes scene.tables.operations) (receive_made scene span operation places).sites
  receive_good scene span operation places meant same holds = (
    record {
      together = meant ∷ [];
      holds = holds;
      arms = (λ decl is. subst (Serves scene.tables.operations _ _ _) (same decl is) (serves scene (map (λ place. spot_of (expr_span place)) places) (receive_returned scene.facts span operation) operation), tt);
      scope = λ decl is. ap (λ spot. scope_in (found_at scene.tables.operations spot)) (same decl is);
      lists = refl;
    },
    tt,
  )

  call_good : (scene : Scene) (span : Span) (invocation : Invocation)
      → Good scene (call_made scene span invocation (function_called scene.facts invocation)).sites (call_waits scene.facts.uses invocation) ((span, invocation) ∷ [])
  call_good scene span invocation hold clear = by (is_p (function_called scene.facts invocation)) refl
    where
      by : (waits : Bool) → is_p (function_called scene.facts invocation) ≡ waits
          → Each (SiteServes scene.tables.operations) (call_made scene span invocation (function_called scene.facts invocation)).sites
      by true is =
          let found : WaitsFor scene.facts (span, invocation) = clear.0 is in
          rw is (receive_good scene span (wait_operation scene.facts span invocation) [] found.meant found.operation (subst (Each P) found.waits hold).0)
      by false is = rw is tt

  -- ---- statements

  -- parts, and after them a block that may be left out
  with_none : (scene : Scene) (sites : List Site) (waits : Waits) (calls : List Called) → Good scene sites waits calls → Good scene (sites ++ []) (waits ++ []) (calls ++ [])
  with_none scene sites waits calls good = good_append scene sites [] waits [] calls [] good (λ hold clear. tt)

  statement_good : (y : StatementNode good) (scene : Scene)
      → Good scene (from_statement (making scene) (bare_statement good y)).sites (from_statement (waiting scene.facts.uses) (bare_statement good y)) (from_statement calling (bare_statement good y))
  statement_good (Statement-F.Call span with_call invocation) scene = call_good scene span invocation
  statement_good (Statement-F.Receive span operation places) scene = λ hold clear.
      receive_good scene span (meant_by scene.facts operation) places (meant_at scene.facts.uses operation.span) (λ decl means. meant_is scene.facts.uses scene.facts operation decl refl means) hold.0
  statement_good (Statement-F.If span branches None) scene = with_none scene _ _ _ (branches_good scene branches)
  statement_good (Statement-F.If span branches (Some otherwise)) scene = good_append scene _ _ _ _ _ _ (branches_good scene branches) (items_good scene otherwise)
  statement_good (Statement-F.Do span branches None) scene = with_none scene _ _ _ (branches_good scene branches)
  statement_good (Statement-F.Do span branches (Some otherwise)) scene = good_append scene _ _ _ _ _ _ (branches_good scene branches) (items_good scene otherwise)
  statement_good (Statement-F.ForAll span quantifiers block) scene = items_good scene block
  statement_good (Statement-F.In span arms None) scene = λ hold clear.
      (record { together = _; holds = hold.0; arms = arms_serve scene arms; scope = first_scope scene arms; lists = refl }, with_none scene _ _ _ (arms_good scene arms) hold.1 clear)
  statement_good (Statement-F.In span arms (Some otherwise)) scene = λ hold clear.
      (record { together = _; holds = hold.0; arms = arms_serve scene arms; scope = first_scope scene arms; lists = refl }, good_append scene _ _ _ _ _ _ (arms_good scene arms) (items_good scene otherwise) hold.1 clear)
  statement_good (Statement-F.Co span arms) scene = row_good core_co_arm co_arm_waits co_arm_calls scene arms
  statement_good _ scene = λ hold clear. tt

  -- ---- arms, branches and items

  item_good : (y : ItemNode good) (scene : Scene)
      → Good scene (from_item (making scene) (bare_item good y)).sites (from_item (waiting scene.facts.uses) (bare_item good y)) (from_item calling (bare_item good y))
  item_good (BlockItem-F.Statement statement) scene = statement.1 scene
  item_good _ scene = λ hold clear. tt

  arm_good : (y : ArmNode good) (scene : Scene)
      → ArmParts scene (from_arm (making scene) (bare_arm good y)) (from_arm (waiting scene.facts.uses) (bare_arm good y)) (from_arm calling (bare_arm good y))
  arm_good y scene = (
    (
      (λ decl means.
          subst (Serves scene.tables.operations _ _ _) (meant_is scene.facts.uses scene.facts y.operation decl refl means)
          (serves scene (map spot_named y.formals) (returned_names y.returned) (meant_by scene.facts y.operation))),
      λ decl means. ap (λ spot. scope_in (found_at scene.tables.operations spot)) (meant_is scene.facts.uses scene.facts y.operation decl refl means),
    ),
    items_good scene y.block,
  )

  branch_good : (y : BranchNode good) (scene : Scene)
      → Good scene (from_branch (making scene) (bare_branch good y)).sites (from_branch (waiting scene.facts.uses) (bare_branch good y)) (from_branch calling (bare_branch good y))
  branch_good y scene = items_good scene y.block

  abbrev CoArmParts : Scene → CoArmNode good → Type 0
  CoArmParts scene y = Good scene (from_co_arm (making scene) (bare_co_arm good y)).sites (from_co_arm (waiting scene.facts.uses) (bare_co_arm good y)) (from_co_arm calling (bare_co_arm good y))

  co_arm_good : (y : CoArmNode good) (scene : Scene) → CoArmParts scene y
  co_arm_good y scene = by y.block
    where
      by : (block : Option (List (Known ItemGood))) → CoArmParts scene (record y { block = block })
      by None = λ hold clear. tt
      by (Some items) = items_good scene items

  -- ---- all trees

  by_parts : ByParts good
  by_parts = record {
    item = λ y scene. subst (λ t. t) (λ i. Good scene (item_folds (making scene) (bare_item good y) i).sites (item_folds (waiting scene.facts.uses) (bare_item good y) i) (item_folds calling (bare_item good y) i)) (item_good y scene);
    statement = λ y scene. subst (λ t. t) (λ i. Good scene (statement_folds (making scene) (bare_statement good y) i).sites (statement_folds (waiting scene.facts.uses) (bare_statement good y) i) (statement_folds calling (bare_statement good y) i)) (statement_good y scene);
    arm = λ y scene. subst (λ t. t) (λ i. ArmParts scene (arm_folds (making scene) (bare_arm good y) i) (arm_folds (waiting scene.facts.uses) (bare_arm good y) i) (arm_folds calling (bare_arm good y) i)) (arm_good y scene);
    branch = λ y scene. subst (λ t. t) (λ i. Good scene (branch_folds (making scene) (bare_branch good y) i).sites (branch_folds (waiting scene.facts.uses) (bare_branch good y) i) (branch_folds calling (bare_branch good y) i)) (branch_good y scene);
    co_arm = λ y scene. subst (λ t. t) (λ i. Good scene (co_arm_folds (making scene) (bare_co_arm good y) i).sites (co_arm_folds (waiting scene.facts.uses) (bare_co_arm good y) i) (co_arm_folds calling (bare_co_arm good y) i)) (co_arm_good y scene);
  }

  -- each statement that waits in a statement services what it means
  pub statement_serves : (tree : Statement) → StatementGood tree
  statement_serves = each_statement good by_parts

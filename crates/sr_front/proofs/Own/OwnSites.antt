-- Where no rule is broken in a statement, the formals of the arms of its sites are own variables where it stands.
use Rattle.std.proofs.Common.{◌≡◌, ℕ, ◌≤◌, Bool, true, false, List, [], ◌∷◌, ◌++◌, Option, Some, None, IsTrue, is_some, length, map, if◌then◌else◌, refl, subst}
use Rattle.std.proofs.lemmas.Bool.{and_from}
use Rattle.std.specs.List.{list_all}
use Rattle.sr_check.proofs.ErrorFree.{error_free_first, error_free_second}
use Rattle.sr_check.proofs.Owners.{Meets, Sound}
use Rattle.sr_check.proofs.Reading.{keeps_arm, keeps_block_item, keeps_branch, keeps_co_arm, keeps_quantifiers, keeps_service}
use Rattle.sr_check.specs.Contexts.{Context, Steps, in_order, looping, with_facts}
use Rattle.sr_check.specs.ErrorFree.{ErrorFree}
use Rattle.sr_check.specs.Invoking.{started_found}
use Rattle.sr_check.specs.Quantifying.{expr_with, quantifiers_found, quantifiers_known}
use Rattle.sr_check.specs.Services.{head_found, operation_named, type_of}
use Rattle.sr_check.specs.Statements.{ArmSteps, arm_context, arm_read, arms_at, block_item_read, branch_read, co_arm_read, co_arms_at, guards_found, mixture_found, statement_read}
use Rattle.sr_check.specs.Uses.{condition_rule}
use Rattle.sr_check_expr.specs.declared.facts.Facts.{Facts}
use Rattle.sr_check_expr.specs.Exprs.{infer_invocation}
use Rattle.sr_check_expr.specs.Meanings.{function_called, meant_by}
use Rattle.sr_core.specs.declared.site.Arm.{Arm as CoreArm}
use Rattle.sr_core.specs.declared.site.Site.{Site}
use Rattle.sr_desugar.specs.Statements.{LoweredArm, WithSites, act, all_sites, alone, arms_of, call_action, core_arm, core_block_item, core_branch, core_co_arm, core_statement, receive_made}
use Rattle.sr_lower_expr.specs.declared.scene.Scene.{Scene}
use Rattle.sr_lower_expr.proofs.Each.{both_pass}
use Rattle.sr_names.specs.declared.spot.Spot.{Spot}
use Rattle.sr_names.specs.Spots.{spot_of}
use Rattle.sr_outline.specs.Numbers.{arm_in, branch_in, call_names, co_arm_in, is_p, is_wait, item_in, names_in, place_spots, quantifier_names, receive_names, receive_returned, received_names, returned_names, wait_operation}
use Rattle.sr_tables.specs.Lists.{lists}
use Rattle.sr_tables.specs.Parts.{spot_named}
use Rattle.sr_tree.specs.declared.expr.Expr.{Expr}
use Rattle.sr_tree.specs.declared.expr.Invocation.{Invocation}
use Rattle.sr_tree.specs.declared.name.Name.{Name}
use Rattle.sr_tree.specs.declared.statement.BlockItem.TheOpen.{BlockItem-F, Statement-F}
use Rattle.sr_tree.specs.declared.statement.Statement.{Statement}
use Rattle.sr_value.specs.declared.place.Span.{Span}
use Rattle.sr_front.specs.Formals.{arms_own, formals_own}
use Rattle.sr_desugar.proofs.CodeFold.{making}
use Rattle.sr_check.proofs.ReadFolds.{reading}
use Rattle.sr_outline.proofs.NumberFolds.{owned}
use Rattle.sr_front.proofs.Own.OwnFormals.{HasRoom, Room, own_formals_pass, room_left, room_right}
use Rattle.sr_front.proofs.Own.OwnServices.{Fitting, call_room, head_room, receive_room}
use Rattle.sr_tree.proofs.StatementFolds.{ArmNode, BranchNode, ByParts, Claim, CoArmNode, ItemNode, Known, StatementNode, arm_folds, bare_arm, bare_branch, bare_co_arm, bare_item, bare_statement, branch_folds, co_arm_folds, each_statement, from_arm, from_branch, from_co_arm, from_item, from_statement, item_folds, statement_folds}

-- what is received has the names of its places, and of what is returned
received_room : (facts : Facts) (owns : ℕ) (span : Span) (operation : Name) (places : List Expr) → Room owns (received_names facts span operation places) → Room owns (receive_names facts span (meant_by facts operation) places)
unfolding received_names
received_room facts owns span operation places room = room

-- and so has what `P` waits for
called_room : (facts : Facts) (owns : ℕ) (span : Span) (invocation : Invocation) → is_wait facts invocation ≡ true → Room owns (call_names facts span invocation)
    → Room owns (receive_names facts span (wait_operation facts span invocation) [])
unfolding call_names
called_room facts owns span invocation is room =
    subst (λ (b : Bool). Room owns (if b then receive_names facts span (wait_operation facts span invocation) [] else [])) is room

module _ (P : Meets) (scene : Scene) (owns : ℕ) (some : length scene.own ≤ owns) (fitting : Fitting P scene.facts scene.tables.operations) (component : Spot) where
  abbrev pub Holds : Facts → Type 0
  Holds = Sound P scene.facts.uses component

  abbrev pub AllOwn : List Site → Type 0
  AllOwn sites = IsTrue (list_all (arms_own owns) sites)

  abbrev ArmOwn : CoreArm → Type 0
  ArmOwn arm = IsTrue (formals_own owns arm.formals arm.returned)

  abbrev Fits : List Spot → Type 0
  Fits = Room owns

  -- ---- `receive` and `P`

  receive_good : (span : Span) (operation : Spot) (places : List Expr) → HasRoom scene owns operation → AllOwn (receive_made scene span operation places).sites
  receive_good span operation places room =
      and_from _ _ (and_from _ _ (own_formals_pass scene owns some (place_spots places) (receive_returned scene.facts span operation) operation room) refl) refl

  call_good : (span : Span) (invocation : Invocation) (b : Bool) → (b ≡ true → HasRoom scene owns (wait_operation scene.facts span invocation))
      → AllOwn (if b then receive_made scene span (wait_operation scene.facts span invocation) [] else alone (act span (call_action scene invocation (function_called scene.facts invocation)))).sites
  call_good span invocation true room = receive_good span (wait_operation scene.facts span invocation) [] (room refl)
  call_good span invocation false room = refl

  -- ---- trees

  -- one after another
  abbrev pub Good : Steps → List Spot → List Site → Type 0
  Good steps names sites = (context : Context) → Holds context.facts → ErrorFree (steps context).found → Fits names → AllOwn sites

  abbrev pub StatementGood : Statement → Type 0
  StatementGood tree = Good (statement_read tree) (names_in scene.facts tree) (core_statement scene tree).sites

  -- an arm, with its own formals
  abbrev ArmGoodIn : ArmSteps → List Spot → WithSites LoweredArm → Type 0
  ArmGoodIn arm names made = (span : Span) (context : Context) → Holds context.facts → ErrorFree (arm.steps span context).found → Fits names → ArmOwn made.made.arm × AllOwn made.sites

  abbrev sites_own : Claim
  sites_own = record {
    item = λ tree. Good (block_item_read tree) (item_in scene.facts tree) (core_block_item scene tree).sites;
    statement = StatementGood;
    arm = λ tree. ArmGoodIn (arm_read tree) (arm_in scene.facts tree) (core_arm scene tree);
    branch = λ tree. Good (branch_read tree) (branch_in scene.facts tree) (core_branch scene tree).sites;
    co_arm = λ tree. (span : Span) → Good (co_arm_read tree span) (co_arm_in scene.facts tree) (core_co_arm scene tree).sites;
  }

  abbrev I : Type 0
  I = Known sites_own.item

  abbrev A : Type 0
  A = Known sites_own.arm

  abbrev B : Type 0
  B = Known sites_own.branch

  abbrev C : Type 0
  C = Known sites_own.co_arm

  items_good : (items : List I)
      → Good (in_order (map block_item_read (map (λ e. e.0) items))) (lists (map (item_in scene.facts) (map (λ e. e.0) items))) (all_sites (map (core_block_item scene) (map (λ e. e.0) items)))
  items_good [] context h whole room = refl
  items_good (item ∷ items) context h whole room =
      let step = block_item_read item.0 context in
      let names = item_in scene.facts item.0 in
      let more = lists (map (item_in scene.facts) (map (λ (e : I). e.0) items)) in
      both_pass (arms_own owns) (core_block_item scene item.0).sites (all_sites (map (core_block_item scene) (map (λ (e : I). e.0) items)))
      (item.1 context h (error_free_first step.found _ whole) (room_left owns names more room))
      (items_good items (with_facts context step.facts) (keeps_block_item P scene.facts.uses component item.0 context h) (error_free_second step.found _ whole) (room_right owns names more room))

  branches_good : (branches : List B)
      → Good (in_order (map branch_read (map (λ e. e.0) branches))) (lists (map (branch_in scene.facts) (map (λ e. e.0) branches))) (all_sites (map (core_branch scene) (map (λ e. e.0) branches)))
  branches_good [] context h whole room = refl
  branches_good (branch ∷ branches) context h whole room =
      let step = branch_read branch.0 context in
      let names = branch_in scene.facts branch.0 in
      let more = lists (map (branch_in scene.facts) (map (λ (e : B). e.0) branches)) in
      both_pass (arms_own owns) (core_branch scene branch.0).sites (all_sites (map (core_branch scene) (map (λ (e : B). e.0) branches)))
      (branch.1 context h (error_free_first step.found _ whole) (room_left owns names more room))
      (branches_good branches (with_facts context step.facts) (keeps_branch P scene.facts.uses component branch.0 context h) (error_free_second step.found _ whole) (room_right owns names more room))

  branches_keep : (branches : List B) (context : Context) → Holds context.facts → Holds (in_order (map branch_read (map (λ e. e.0) branches)) context).facts
  branches_keep [] context h = h
  branches_keep (branch ∷ branches) context h = branches_keep branches (with_facts context (branch_read branch.0 context).facts) (keeps_branch P scene.facts.uses component branch.0 context h)

  co_arms_good : (span : Span) (arms : List C)
      → Good (in_order (co_arms_at span (map co_arm_read (map (λ e. e.0) arms)))) (lists (map (co_arm_in scene.facts) (map (λ e. e.0) arms))) (all_sites (map (core_co_arm scene) (map (λ e. e.0) arms)))
  co_arms_good span [] context h whole room = refl
  co_arms_good span (arm ∷ arms) context h whole room =
      let step = co_arm_read arm.0 span context in
      let names = co_arm_in scene.facts arm.0 in
      let more = lists (map (co_arm_in scene.facts) (map (λ (e : C). e.0) arms)) in
      both_pass (arms_own owns) (core_co_arm scene arm.0).sites (all_sites (map (core_co_arm scene) (map (λ (e : C). e.0) arms)))
      (arm.1 span context h (error_free_first step.found _ whole) (room_left owns names more room))
      (co_arms_good span arms (with_facts context step.facts) (keeps_co_arm P scene.facts.uses component arm.0 span context h) (error_free_second step.found _ whole) (room_right owns names more room))

  arms_good : (span : Span) (arms : List A) (context : Context) → Holds context.facts → ErrorFree (in_order (arms_at span (map arm_read (map (λ e. e.0) arms))) context).found
      → Fits (lists (map (arm_in scene.facts) (map (λ e. e.0) arms)))
      → IsTrue (list_all (λ (arm : CoreArm). formals_own owns arm.formals arm.returned) (arms_of (map (core_arm scene) (map (λ e. e.0) arms)))) × AllOwn (all_sites (map (core_arm scene) (map (λ e. e.0) arms)))
  arms_good span [] context h whole room = (refl, refl)
  arms_good span (arm ∷ arms) context h whole room =
      let step = (arm_read arm.0).steps span context in
      let names = arm_in scene.facts arm.0 in
      let more = lists (map (arm_in scene.facts) (map (λ (e : A). e.0) arms)) in
      let first = arm.1 span context h (error_free_first step.found _ whole) (room_left owns names more room) in
      let rest = arms_good span arms (with_facts context step.facts) (keeps_arm P scene.facts.uses component arm.0 span context h) (error_free_second step.found _ whole) (room_right owns names more room) in (
        and_from _ _ first.0 rest.0,
        both_pass (arms_own owns) (core_arm scene arm.0).sites (all_sites (map (core_arm scene) (map (λ (e : A). e.0) arms))) first.1 rest.1,
      )

  arms_keep : (span : Span) (arms : List A) (context : Context) → Holds context.facts → Holds (in_order (arms_at span (map arm_read (map (λ e. e.0) arms))) context).facts
  arms_keep span [] context h = h
  arms_keep span (arm ∷ arms) context h = arms_keep span arms (with_facts context ((arm_read arm.0).steps span context).facts) (keeps_arm P scene.facts.uses component arm.0 span context h)

  -- ---- each tree, when its parts are so

  item_good : (y : ItemNode sites_own) → Good (from_item reading (bare_item sites_own y)) (from_item (owned scene.facts) (bare_item sites_own y)) (from_item (making scene) (bare_item sites_own y)).sites
  item_good (BlockItem-F.Const constant) context h whole room = refl
  item_good (BlockItem-F.Var variables) context h whole room = refl
  item_good (BlockItem-F.Statement statement) context h whole room = statement.1 context h whole room

  -- what stands after `else`
  otherwise_good : {X M : Type 0} (make : X → WithSites M) (steps : Steps) (names : List Spot) (parts : List X) (items : List I) → Good steps names (all_sites (map make parts))
      → ((context : Context) → Holds context.facts → Holds (steps context).facts) → (context : Context) → Holds context.facts
      → ErrorFree ((steps context).found ++ (in_order (map block_item_read (map (λ e. e.0) items)) (with_facts context (steps context).facts)).found)
      → Fits (names ++ lists (map (item_in scene.facts) (map (λ e. e.0) items)))
      → AllOwn (all_sites (map make parts) ++ all_sites (map (core_block_item scene) (map (λ e. e.0) items)))
  otherwise_good make steps names parts items good keeps context h whole room =
      let more = lists (map (item_in scene.facts) (map (λ (e : I). e.0) items)) in
      both_pass (arms_own owns) (all_sites (map make parts)) (all_sites (map (core_block_item scene) (map (λ (e : I). e.0) items)))
      (good context h (error_free_first (steps context).found _ whole) (room_left owns names more room))
      (items_good items (with_facts context (steps context).facts) (keeps context h) (error_free_second (steps context).found _ whole) (room_right owns names more room))

  -- nothing stands after it
  alone_good : {X M : Type 0} (make : X → WithSites M) (steps : Steps) (names : List Spot) (parts : List X) → Good steps names (all_sites (map make parts)) → (context : Context) → Holds context.facts
      → ErrorFree ((steps context).found ++ []) → Fits (names ++ []) → AllOwn (all_sites (map make parts) ++ [])
  alone_good make steps names parts good context h whole room =
      both_pass (arms_own owns) (all_sites (map make parts)) [] (good context h (error_free_first (steps context).found [] whole) (room_left owns names [] room)) refl

  statement_good : (y : StatementNode sites_own) → Good (from_statement reading (bare_statement sites_own y)) (from_statement (owned scene.facts) (bare_statement sites_own y)) (from_statement (making scene) (bare_statement sites_own y)).sites
  statement_good (Statement-F.Call span with_call invocation) context h whole room =
      call_good span invocation (is_p (function_called scene.facts invocation))
      (λ is. call_room P scene owns fitting component context h span invocation is whole (called_room scene.facts owns span invocation is room))
  statement_good (Statement-F.Receive span operation places) context h whole room =
      receive_good span (meant_by scene.facts operation) places
      (receive_room P scene owns fitting component context h span operation places whole (received_room scene.facts owns span operation places room))
  statement_good (Statement-F.If span branches None) context h whole room =
      alone_good (core_branch scene) (in_order (map branch_read (map (λ (e : B). e.0) branches))) (lists (map (branch_in scene.facts) (map (λ (e : B). e.0) branches))) (map (λ (e : B). e.0) branches)
      (branches_good branches) context h whole room
  statement_good (Statement-F.If span branches (Some items)) context h whole room =
      otherwise_good (core_branch scene) (in_order (map branch_read (map (λ (e : B). e.0) branches))) (lists (map (branch_in scene.facts) (map (λ (e : B). e.0) branches))) (map (λ (e : B). e.0) branches)
      items (branches_good branches) (branches_keep branches) context h whole room
  statement_good (Statement-F.Do span branches None) context h whole room =
      alone_good (core_branch scene) (in_order (map branch_read (map (λ (e : B). e.0) branches))) (lists (map (branch_in scene.facts) (map (λ (e : B). e.0) branches))) (map (λ (e : B). e.0) branches)
      (branches_good branches) (looping context) h whole room
  statement_good (Statement-F.Do span branches (Some items)) context h whole room =
      otherwise_good (core_branch scene) (in_order (map branch_read (map (λ (e : B). e.0) branches))) (lists (map (branch_in scene.facts) (map (λ (e : B). e.0) branches))) (map (λ (e : B). e.0) branches)
      items (branches_good branches) (branches_keep branches) (looping context) h whole room
  statement_good (Statement-F.ForAll span quantifiers block) context h whole room =
      items_good block (looping (with_facts context (quantifiers_known context.facts quantifiers))) (keeps_quantifiers P scene.facts.uses component quantifiers context.facts h)
      (error_free_second (quantifiers_found context.facts quantifiers) _ whole) (room_right owns (quantifier_names quantifiers) _ room)
  statement_good (Statement-F.In span arms None) context h whole room =
      let found = error_free_second (mixture_found context.facts span (map arm_read (map (λ (e : A). e.0) arms))) _ whole in
      let step = in_order (arms_at span (map arm_read (map (λ (e : A). e.0) arms))) context in
      let names = lists (map (arm_in scene.facts) (map (λ (e : A). e.0) arms)) in
      let good = arms_good span arms context h (error_free_first step.found [] found) (room_left owns names [] room) in
      and_from _ _ good.0 (both_pass (arms_own owns) (all_sites (map (core_arm scene) (map (λ (e : A). e.0) arms))) [] good.1 refl)
  statement_good (Statement-F.In span arms (Some items)) context h whole room =
      let found = error_free_second (mixture_found context.facts span (map arm_read (map (λ (e : A). e.0) arms))) _ whole in
      let step = in_order (arms_at span (map arm_read (map (λ (e : A). e.0) arms))) context in
      let names = lists (map (arm_in scene.facts) (map (λ (e : A). e.0) arms)) in
      let more = lists (map (item_in scene.facts) (map (λ (e : I). e.0) items)) in
      let good = arms_good span arms context h (error_free_first step.found _ found) (room_left owns names more room) in
      let rest = items_good items (with_facts context step.facts) (arms_keep span arms context h) (error_free_second step.found _ found) (room_right owns names more room) in
      and_from _ _ good.0 (both_pass (arms_own owns) (all_sites (map (core_arm scene) (map (λ (e : A). e.0) arms))) (all_sites (map (core_block_item scene) (map (λ (e : I). e.0) items))) good.1 rest)
  statement_good (Statement-F.Co span arms) context h whole room = co_arms_good span arms context h whole room
  statement_good _ context h whole room = refl

  arm_good : (y : ArmNode sites_own) → ArmGoodIn (from_arm reading (bare_arm sites_own y)) (from_arm (owned scene.facts) (bare_arm sites_own y)) (from_arm (making scene) (bare_arm sites_own y))
  arm_good y span context h whole room =
      let operation = operation_named context.facts y.operation in
      let inner = arm_context context (spot_of y.operation.span) y.formals y.returned operation in
      let head = head_found context.facts context.procs span y.formals (is_some y.returned) operation in
      let formals = map spot_named y.formals in
      let returned = returned_names y.returned in
      let block = lists (map (item_in scene.facts) (map (λ (e : I). e.0) y.block)) in
      let after = room_right owns formals (returned ++ block) room in
      let has = head_room P scene owns fitting component context.facts h context.procs span y.operation y.formals y.returned (error_free_first head _ whole)
      (room_left owns formals (returned ++ block) room) (room_left owns returned block after) in (
        own_formals_pass scene owns some formals returned (meant_by scene.facts y.operation) has,
        items_good y.block inner (keeps_service P scene.facts.uses component y.formals y.returned (type_of operation) context.facts h)
            (error_free_second (guards_found inner.facts y.condition y.order) _ (error_free_second head _ whole)) (room_right owns returned block after),
      )

  branch_good : (y : BranchNode sites_own) → Good (from_branch reading (bare_branch sites_own y)) (from_branch (owned scene.facts) (bare_branch sites_own y)) (from_branch (making scene) (bare_branch sites_own y)).sites
  branch_good y context h whole room = items_good y.block context h (error_free_second (expr_with condition_rule context.facts y.guard) _ whole) room

  co_arm_by : (y : CoArmNode sites_own) (block : Option (List I)) → (span : Span) → Good (from_co_arm reading (bare_co_arm sites_own (record y { block = block })) span) (from_co_arm (owned scene.facts) (bare_co_arm sites_own (record y { block = block }))) (from_co_arm (making scene) (bare_co_arm sites_own (record y { block = block }))).sites
  co_arm_by y None span context h whole room = refl
  co_arm_by y (Some items) span context h whole room =
      let known = quantifiers_known context.facts y.quantifiers in
      let after = error_free_second (quantifiers_found context.facts y.quantifiers) _ whole in
      items_good items (looping (with_facts context known)) (keeps_quantifiers P scene.facts.uses component y.quantifiers context.facts h)
      (error_free_second (started_found known span y.target (infer_invocation y.invocation known)) _ after) (room_right owns (quantifier_names y.quantifiers) _ room)

  co_arm_good : (y : CoArmNode sites_own) → (span : Span) → Good (from_co_arm reading (bare_co_arm sites_own y) span) (from_co_arm (owned scene.facts) (bare_co_arm sites_own y)) (from_co_arm (making scene) (bare_co_arm sites_own y)).sites
  co_arm_good y = co_arm_by y y.block

  by_parts : ByParts sites_own
  by_parts = record {
    item = λ y. subst (λ t. t) (λ i. Good (item_folds reading (bare_item sites_own y) i) (item_folds (owned scene.facts) (bare_item sites_own y) i) (item_folds (making scene) (bare_item sites_own y) i).sites) (item_good y);
    statement = λ y. subst (λ t. t) (λ i. Good (statement_folds reading (bare_statement sites_own y) i) (statement_folds (owned scene.facts) (bare_statement sites_own y) i) (statement_folds (making scene) (bare_statement sites_own y) i).sites) (statement_good y);
    arm = λ y. subst (λ t. t) (λ i. ArmGoodIn (arm_folds reading (bare_arm sites_own y) i) (arm_folds (owned scene.facts) (bare_arm sites_own y) i) (arm_folds (making scene) (bare_arm sites_own y) i)) (arm_good y);
    branch = λ y. subst (λ t. t) (λ i. Good (branch_folds reading (bare_branch sites_own y) i) (branch_folds (owned scene.facts) (bare_branch sites_own y) i) (branch_folds (making scene) (bare_branch sites_own y) i).sites) (branch_good y);
    co_arm = λ y. subst (λ t. t) (λ i. (span : Span) → Good (co_arm_folds reading (bare_co_arm sites_own y) i span) (co_arm_folds (owned scene.facts) (bare_co_arm sites_own y) i) (co_arm_folds (making scene) (bare_co_arm sites_own y) i).sites) (co_arm_good y);
  }

  pub statement_owns : (tree : Statement) → StatementGood tree
  statement_owns = each_statement sites_own by_parts

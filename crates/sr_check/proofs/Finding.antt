-- Where nothing is found in statements, what they service is their component's own.
use Rattle.std.proofs.Common.{◌≡◌, ◌⊎◌, inl, inr, Bool, true, false, not, ◌&&◌, ◌||◌, true≢false, List, [], ◌∷◌, ◌++◌, Option, Some, None, refl, sym, ◌∙◌, ap, subst, map, is_some}
use Rattle.std.specs.List.{list_any}
use Rattle.sr_value.specs.declared.place.Span.{Span}
use Rattle.sr_names.specs.declared.finding.Rule.TheVariants.{BadUse}
use Rattle.sr_names.specs.declared.meaning.Decl.{Decl}
use Rattle.sr_names.specs.declared.meaning.Meaning.{Meaning}
use Rattle.sr_names.specs.declared.meaning.Meaning.TheVariants.{Predefined as MeansPredefined, Declared}
use Rattle.sr_names.specs.declared.predefined.Predefined.TheVariants as predefined
use Rattle.sr_names.specs.declared.spot.Spot.{Spot}
use Rattle.sr_names.specs.Noted.{Meanings}
use Rattle.sr_names.specs.Spots.{spot_of}
use Rattle.sr_names.specs.Uses.{meaning_at}
use Rattle.sr_names.proofs.LinkLemmas.{same_spot-eq}
use Rattle.sr_tree.specs.declared.expr.Create.{Create}
use Rattle.sr_tree.specs.declared.expr.Create.TheFolds.{map-Expr, fold_out-Expr, fold_out-Invocation}
use Rattle.sr_tree.specs.declared.expr.Create.TheOpen.{Expr-F}
use Rattle.sr_tree.specs.declared.expr.Expr.{Expr, out-Expr}
use Rattle.sr_tree.specs.declared.expr.Invocation.{Invocation, out-Invocation}
use Rattle.sr_tree.specs.declared.expr.Part.{Part}
use Rattle.sr_tree.specs.declared.name.Name.{Name}
use Rattle.sr_tree.specs.declared.statement.Arm.{Arm}
use Rattle.sr_tree.specs.declared.statement.BlockItem.TheOpen.{BlockItem-F, Statement-F}
use Rattle.sr_tree.specs.declared.statement.Statement.{Statement}
use Rattle.sr_types.specs.declared.signature.Signature.{Signature}
use Rattle.sr_types.specs.declared.ty.Ty.{Ty}
use Rattle.sr_check_expr.specs.declared.facts.Facts.{Facts}
use Rattle.sr_check_expr.specs.declared.info.Info.TheVariants as info
use Rattle.sr_check_expr.specs.Exprs.{Inferrer, CalledInferrer, PartInferrer, create_step, expr_step, invocation_step, part_step, infer_create, infer_expr, infer_invocation, infer_part}
use Rattle.sr_check_expr.specs.Infos.{info_at}
use Rattle.sr_check_expr.specs.Typings.{broken_unless, typed_exprs_of}
use Rattle.sr_check_expr.specs.declared.typed_expr.TypedExpr.{TypedExpr}
use Rattle.sr_check_expr.specs.Arguments.{all_found, all_valued, takes_as_many}
use Rattle.sr_check_expr.specs.Naming.{decl_info, meaning_typing}
use Rattle.sr_check_decl.specs.Variables.{typings_of}
use Rattle.sr_check.specs.declared.operation.Operation.{Operation}
use Rattle.sr_check.specs.Contexts.{Context, Steps, with_facts, looping, in_order, with_more}
use Rattle.sr_check.specs.Invoking.{call_found, called_found, named_operation, p_found, semaphore_found, started_found}
use Rattle.sr_check.specs.Procs.{Procs, proc_of}
use Rattle.sr_check.specs.Quantifying.{expr_with, quantifiers_found, quantifiers_known}
use Rattle.sr_check.specs.Receiving.{receive_found, receive_by, received_found, takes_all}
use Rattle.sr_check.specs.Services.{operation_at, operation_named, decl_named, is_local_info, is_shared_info, is_local_name, is_shared_name, is_own, params_of, head_rule, proc_found, service_found, head_found, type_of}
use Rattle.sr_check.specs.Servicing.{meant_at, expr_meant, first_meant, waits_by, layer_waits, Together, Waits, ArmWaits, joined, call_waits, arms_meant, arms_waits, statement_waits, block_item_waits, arm_waits, branch_waits, co_arm_waits}
use Rattle.sr_check.specs.Statements.{ArmSteps, CoArmSteps, arm_context, guards_found, mixture_found, is_mixture, then_step, maybe_block, arms_at, co_arms_at, statement_read, block_item_read, arm_read, branch_read, co_arm_read}
use Rattle.sr_check.specs.Uses.{condition_rule}
use Rattle.sr_tree.proofs.StatementFolds.{ArmNode, BranchNode, ByParts, Claim, CoArmNode, ItemNode, Known, StatementNode, arm_folds, bare_arm, bare_branch, bare_co_arm, bare_item, bare_statement, branch_folds, co_arm_folds, each_statement, from_arm, from_branch, from_co_arm, from_item, from_statement, item_folds, statement_folds}
use Rattle.sr_check.proofs.Each.{Each, each-append}
use Rattle.sr_check.specs.ErrorFree.{ErrorFree}
use Rattle.sr_check.proofs.ErrorFree.{rule_met, same_error_free, error_free_first, error_free_second}
use Rattle.sr_check.proofs.Named.{Meant, meant_by, by_expr}
use Rattle.sr_check.proofs.Owners.{Meets, Sound, known_now}
use Rattle.sr_check.proofs.ReadFolds.{reading, servicing}
use Rattle.sr_check.proofs.Reading.{keeps_service, keeps_quantifiers, keeps_block_item, keeps_branch, keeps_arm, keeps_co_arm}

-- ---- what is found where a rule is broken

no_proc : (span : Span) (proc : Option Span) → ErrorFree (proc_found span proc) → proc ≡ None
no_proc span None e = refl
no_proc span (Some proc) e = absurd e

either_false : (a b : Bool) → (a || b) ≡ false → (a ≡ false) × (b ≡ false)
either_false true b e = absurd (true≢false e)
either_false false b e = (refl, e)

-- what other facts know at a spot, whatever signatures are known
abbrev IsAt : Facts → Meets
IsAt start signatures spot ty owner is_local = info_at start.infos spot ≡ Some (info.Operation ty owner is_local)

module _ (P : Meets) (uses : Meanings) (component : Spot) (procs : Procs) where
  abbrev Holds : Facts → Type 0
  Holds = Sound P uses component

  -- an operation of the component without a proc, by some facts
  pub record At (facts : Facts) (is_local : Bool) (meant : Option Decl) : Type 0 where
    pub decl : Decl
    pub means : meant ≡ Some decl
    pub ty : Ty
    pub is : info_at facts.infos decl.spot ≡ Some (info.Operation ty component is_local)
    pub unserved : proc_of procs decl.spot ≡ None

  -- an operation of the component without a proc
  pub record Waiting (is_local : Bool) (meant : Option Decl) : Type 0 where
    pub decl : Decl
    pub means : meant ≡ Some decl
    pub ty : Ty
    pub signatures : List Signature
    pub meets : P signatures decl.spot ty component is_local
    pub unserved : proc_of procs decl.spot ≡ None

  abbrev pub Right : Together → Type 0
  Right together = (is_local : Bool) × Each (Waiting is_local) together

  waiting : (facts : Facts) (is_local : Bool) (meant : Option Decl) → Holds facts → At facts is_local meant → Waiting is_local meant
  waiting facts is_local meant h at = record {
    decl = at.decl;
    means = at.means;
    ty = at.ty;
    signatures = facts.signatures;
    meets = known_now P facts h.1.1 at.decl.spot at.ty component is_local at.is;
    unserved = at.unserved;
  }

  -- what is serviced is the component's own, and has no proc
  pub at_by : (facts : Facts) (span : Span) (meant : Option Decl) (operation : Operation) → Holds facts → Meant facts meant operation → ErrorFree (service_found facts procs span operation)
      → At facts operation.is_local meant
  at_by facts span meant operation h m nothing =
      let own = rule_met (is_own facts operation) BadUse span (error_free_first (broken_unless (is_own facts operation) BadUse span) (proc_found span (proc_of procs operation.spot)) nothing) in
      let free = no_proc span (proc_of procs operation.spot) (error_free_second (broken_unless (is_own facts operation) BadUse span) (proc_found span (proc_of procs operation.spot)) nothing) in
      let whose : operation.component ≡ component = same_spot-eq operation.component facts.here.component.spot own ∙ h.0 in
      record {
        decl = m.decl;
        means = m.means;
        ty = operation.ty;
        is = m.is ∙ ap (λ c. Some (info.Operation operation.ty c operation.is_local)) whose;
        unserved = ap (λ s. proc_of procs s) m.same ∙ free;
      }

  abbrev pub AtSome : Facts → Option Decl → Type 0
  AtSome facts meant = (is_local : Bool) × At facts is_local meant

  head_at : {X : Type 0} (facts : Facts) (span : Span) (formals : List X) (returns : Bool) (meant : Option Decl) (found : Option Operation) → Holds facts → operation_at facts meant ≡ found
      → ErrorFree (head_found facts procs span formals returns found) → AtSome facts meant
  head_at facts span formals returns meant None h is nothing = absurd nothing
  head_at facts span formals returns meant (Some operation) h is nothing =
      (operation.is_local, at_by facts span meant operation h (meant_by facts meant operation is) (error_free_second (broken_unless (head_rule facts.signatures formals returns operation.ty) _ span) _ nothing))

  receive_at : (context : Context) (span : Span) (places : List TypedExpr) (meant : Option Decl) (found : Option Operation) → context.procs ≡ procs → Holds context.facts → operation_at context.facts meant ≡ found
      → ErrorFree (receive_by context span places found) → AtSome context.facts meant
  receive_at context span places meant None of h is nothing = absurd nothing
  receive_at context span places meant (Some operation) of h is nothing =
      let services = error_free_second (received_found (params_of context.facts.signatures operation.ty) places) _ (error_free_second (broken_unless (takes_all context.facts operation.ty places) _ span) _ nothing) in
      (operation.is_local, at_by context.facts span meant operation h (meant_by context.facts meant operation is) (same_error_free (ap (λ p. service_found context.facts p span operation) (sym of)) services))

  -- ---- one `in`

  -- operations that other facts know are those of these facts
  abbrev Since : Facts → Facts → Type 0
  Since start = Sound (IsAt start) uses component

  at_start : (start facts : Facts) (is_local : Bool) (meant : Option Decl) → Since start facts → At facts is_local meant → At start is_local meant
  at_start start facts is_local meant since at =
      record { decl = at.decl; means = at.means; ty = at.ty; is = known_now (IsAt start) facts since.1.1 at.decl.spot at.ty component is_local at.is; unserved = at.unserved }

  local_is : (facts : Facts) (name : Name) (is_local : Bool) → At facts is_local (decl_named facts name) → is_local_name facts name ≡ is_local
  local_is facts name is_local at = ap (λ d. is_local_info (decl_info facts.infos d)) at.means ∙ ap is_local_info at.is

  shared_is : (facts : Facts) (name : Name) (is_local : Bool) → At facts is_local (decl_named facts name) → is_shared_name facts name ≡ not is_local
  shared_is facts name is_local at = ap (λ d. is_shared_info (decl_info facts.infos d)) at.means ∙ ap is_shared_info at.is

  not_false : (b : Bool) → not b ≡ false → b ≡ true
  not_false true e = refl
  not_false false e = absurd (true≢false e)

  -- ---- trees

  abbrev pub Finds : Steps → Waits → Type 0
  Finds steps waits = (context : Context) → context.procs ≡ procs → Holds context.facts → ErrorFree ((steps context).found) → Each Right waits

  -- what an arm names, and what is found in it
  abbrev pub ArmFinds : ArmSteps → ArmWaits → Type 0
  ArmFinds arm waits =
      (meant_at uses arm.operation.span ≡ waits.0)
      × ((span : Span) (context : Context) → context.procs ≡ procs → Holds context.facts → ErrorFree ((arm.steps span context).found) → AtSome context.facts waits.0 × Each Right waits.1)

  abbrev CoArmFinds : CoArmSteps → Waits → Type 0
  CoArmFinds arm waits = (span : Span) → Finds (arm span) waits

  abbrev served : Claim
  served = record {
    item = λ tree. Finds (block_item_read tree) (block_item_waits uses tree);
    statement = λ tree. Finds (statement_read tree) (statement_waits uses tree);
    arm = λ tree. ArmFinds (arm_read tree) (arm_waits uses tree);
    branch = λ tree. Finds (branch_read tree) (branch_waits uses tree);
    co_arm = λ tree. CoArmFinds (co_arm_read tree) (co_arm_waits uses tree);
  }

  abbrev I : Type 0
  I = Known served.item

  abbrev A : Type 0
  A = Known served.arm

  abbrev B : Type 0
  B = Known served.branch

  abbrev C : Type 0
  C = Known served.co_arm

  finds_row : {X : Type 0} (read : X → Steps) (waits : X → Waits) → ((x : X) (context : Context) → Holds context.facts → Holds (read x context).facts) → (xs : List ((tree : X) × Finds (read tree) (waits tree)))
      → Finds (in_order (map read (map (λ x. x.0) xs))) (joined (map waits (map (λ x. x.0) xs)))
  finds_row read waits keeps [] context of h nothing = tt
  finds_row read waits keeps (x ∷ xs) context of h nothing =
      let next = with_facts context (read x.0 context).facts in
      let rest = in_order (map read (map (λ x. x.0) xs)) in
      each-append Right (waits x.0) (joined (map waits (map (λ x. x.0) xs))) (x.1 context of h (error_free_first (read x.0 context).found (rest next).found nothing))
      (finds_row read waits keeps xs next of (keeps x.0 context h) (error_free_second (read x.0 context).found (rest next).found nothing))

  finds_items : (xs : List I) → Finds (in_order (map block_item_read (map (λ x. x.0) xs))) (joined (map (block_item_waits uses) (map (λ x. x.0) xs)))
  finds_items = finds_row block_item_read (block_item_waits uses) (keeps_block_item P uses component)

  -- the arms of a `co`
  finds_co_arms : (span : Span) (xs : List C) → Finds (in_order (co_arms_at span (map co_arm_read (map (λ x. x.0) xs)))) (joined (map (co_arm_waits uses) (map (λ x. x.0) xs)))
  finds_co_arms span [] context of h nothing = tt
  finds_co_arms span (x ∷ xs) context of h nothing =
      let first = co_arm_read x.0 span context in
      let next = with_facts context first.facts in
      let rest = in_order (co_arms_at span (map co_arm_read (map (λ x. x.0) xs))) next in
      each-append Right (co_arm_waits uses x.0) (joined (map (co_arm_waits uses) (map (λ x. x.0) xs))) (x.1 span context of h (error_free_first first.found rest.found nothing))
      (finds_co_arms span xs next of (keeps_co_arm P uses component x.0 span context h) (error_free_second first.found rest.found nothing))

  -- the arms of an `in`, by what is known at it
  finds_arms : (start : Facts) (span : Span) (xs : List A) (context : Context) → context.procs ≡ procs → Holds context.facts → Since start context.facts
      → ErrorFree ((in_order (arms_at span (map arm_read (map (λ x. x.0) xs))) context).found)
      → Each (AtSome start) (arms_meant (map (arm_waits uses) (map (λ x. x.0) xs))) × Each Right (arms_waits (map (arm_waits uses) (map (λ x. x.0) xs)))
  finds_arms start span [] context of h since nothing = (tt, tt)
  finds_arms start span (x ∷ xs) context of h since nothing =
      let first = (arm_read x.0).steps span context in
      let next = with_facts context first.facts in
      let rest = in_order (arms_at span (map arm_read (map (λ x. x.0) xs))) next in
      let here = x.1.1 span context of h (error_free_first first.found rest.found nothing) in
      let more = finds_arms start span xs next of (keeps_arm P uses component x.0 span context h)
      (keeps_arm (IsAt start) uses component x.0 span context since)
      (error_free_second first.found rest.found nothing) in (
        ((here.0.0, at_start start context.facts here.0.0 (arm_waits uses x.0).0 since here.0.1), more.0),
        each-append Right (arm_waits uses x.0).1 (arms_waits (map (arm_waits uses) (map (λ x. x.0) xs))) here.1 more.1,
      )

  at_named : (facts : Facts) (x : A) (is_local : Bool) → Holds facts → At facts is_local (arm_waits uses x.0).0 → At facts is_local (decl_named facts (arm_read x.0).operation)
  at_named facts x is_local h at =
      subst (λ d. At facts is_local d) (sym x.1.0 ∙ ap (λ u. meant_at u (arm_read x.0).operation.span) (sym h.1.0)) at

  all_shared : (facts : Facts) (xs : List A) → Holds facts → list_any (λ arm. is_local_name facts arm.operation) (map arm_read (map (λ x. x.0) xs)) ≡ false
      → Each (AtSome facts) (arms_meant (map (arm_waits uses) (map (λ x. x.0) xs))) → Each (Waiting false) (arms_meant (map (arm_waits uses) (map (λ x. x.0) xs)))
  all_shared facts [] h none ats = tt
  all_shared facts (x ∷ xs) h none ats =
      let both = either_false (is_local_name facts (arm_read x.0).operation) (list_any (λ arm. is_local_name facts arm.operation) (map arm_read (map (λ x. x.0) xs))) none in
      let is : ats.0.0 ≡ false = sym (local_is facts (arm_read x.0).operation ats.0.0 (at_named facts x ats.0.0 h ats.0.1)) ∙ both.0 in
      (subst (λ b. Waiting b (arm_waits uses x.0).0) is (waiting facts ats.0.0 (arm_waits uses x.0).0 h ats.0.1), all_shared facts xs h both.1 ats.1)

  all_local : (facts : Facts) (xs : List A) → Holds facts → list_any (λ arm. is_shared_name facts arm.operation) (map arm_read (map (λ x. x.0) xs)) ≡ false
      → Each (AtSome facts) (arms_meant (map (arm_waits uses) (map (λ x. x.0) xs))) → Each (Waiting true) (arms_meant (map (arm_waits uses) (map (λ x. x.0) xs)))
  all_local facts [] h none ats = tt
  all_local facts (x ∷ xs) h none ats =
      let both = either_false (is_shared_name facts (arm_read x.0).operation) (list_any (λ arm. is_shared_name facts arm.operation) (map arm_read (map (λ x. x.0) xs))) none in
      let is : ats.0.0 ≡ true = not_false ats.0.0 (sym (shared_is facts (arm_read x.0).operation ats.0.0 (at_named facts x ats.0.0 h ats.0.1)) ∙ both.0) in
      (subst (λ b. Waiting b (arm_waits uses x.0).0) is (waiting facts ats.0.0 (arm_waits uses x.0).0 h ats.0.1), all_local facts xs h both.1 ats.1)

  not_both : (a b : Bool) → not (a && b) ≡ true → (a ≡ false) ⊎ (b ≡ false)
  not_both true true e = absurd (true≢false (sym e))
  not_both true false e = inr refl
  not_both false b e = inl refl

  -- the operations of one `in` are all of the component or all of procs
  of_one_sort : (facts : Facts) (span : Span) (xs : List A) → Holds facts → ErrorFree (mixture_found facts span (map arm_read (map (λ x. x.0) xs)))
      → Each (AtSome facts) (arms_meant (map (arm_waits uses) (map (λ x. x.0) xs))) → Right (arms_meant (map (arm_waits uses) (map (λ x. x.0) xs)))
  of_one_sort facts span xs h nothing ats =
      by (not_both (list_any (λ arm. is_local_name facts arm.operation) (map arm_read (map (λ x. x.0) xs))) (list_any (λ arm. is_shared_name facts arm.operation) (map arm_read (map (λ x. x.0) xs)))
      (rule_met (not (is_mixture facts (map arm_read (map (λ x. x.0) xs)))) BadUse span nothing))
    where
      by : (list_any (λ arm. is_local_name facts arm.operation) (map arm_read (map (λ x. x.0) xs)) ≡ false) ⊎ (list_any (λ arm. is_shared_name facts arm.operation) (map arm_read (map (λ x. x.0) xs)) ≡ false)
          → Right (arms_meant (map (arm_waits uses) (map (λ x. x.0) xs)))
      by (inl none) = (false, all_shared facts xs h none ats)
      by (inr none) = (true, all_local facts xs h none ats)

  -- ---- one after another

  keeps_trees : {X : Type 0} (read : X → Steps) → ((x : X) (context : Context) → Holds context.facts → Holds (read x context).facts) → (trees : List X) (context : Context) → Holds context.facts
      → Holds (in_order (map read trees) context).facts
  keeps_trees read keeps [] context h = h
  keeps_trees read keeps (x ∷ xs) context h = keeps_trees read keeps xs (with_facts context (read x context).facts) (keeps x context h)

  keeps_arm_trees : (span : Span) (trees : List Arm) (context : Context) → Holds context.facts → Holds (in_order (arms_at span (map arm_read trees)) context).facts
  keeps_arm_trees span [] context h = h
  keeps_arm_trees span (x ∷ xs) context h = keeps_arm_trees span xs (with_facts context ((arm_read x).steps span context).facts) (keeps_arm P uses component x span context h)

  finds_then : (first second : Steps) (a b : Waits) → ((context : Context) → Holds context.facts → Holds (first context).facts) → Finds first a → Finds second b → Finds (then_step first second) (a ++ b)
  finds_then first second a b keeps f g context of h nothing =
      let next = with_facts context (first context).facts in
      each-append Right a b (f context of h (error_free_first (first context).found (second next).found nothing)) (g next of (keeps context h) (error_free_second (first context).found (second next).found nothing))

  finds_none : Finds (maybe_block None) []
  finds_none context of h nothing = tt

  finds_branches : (xs : List B) → Finds (in_order (map branch_read (map (λ x. x.0) xs))) (joined (map (branch_waits uses) (map (λ x. x.0) xs)))
  finds_branches = finds_row branch_read (branch_waits uses) (keeps_branch P uses component)

  keeps_branches : (xs : List B) (context : Context) → Holds context.facts → Holds (in_order (map branch_read (map (λ x. x.0) xs)) context).facts
  keeps_branches xs = keeps_trees branch_read (keeps_branch P uses component) (map (λ x. x.0) xs)

  finds_in : (span : Span) (xs : List A) (otherwise : Steps) (more : Waits) → Finds otherwise more
      → (context : Context) → context.procs ≡ procs → Holds context.facts
      → ErrorFree ((with_more (mixture_found context.facts span (map arm_read (map (λ x. x.0) xs))) (then_step (in_order (arms_at span (map arm_read (map (λ x. x.0) xs)))) otherwise context)).found)
      → Each Right (arms_meant (map (arm_waits uses) (map (λ x. x.0) xs)) ∷ (arms_waits (map (arm_waits uses) (map (λ x. x.0) xs)) ++ more))
  finds_in span xs otherwise more finds context of h nothing =
      let arms = map arm_read (map (λ x. x.0) xs) in
      let first = in_order (arms_at span arms) context in
      let next = with_facts context first.facts in
      let unmixed = error_free_first (mixture_found context.facts span arms) (first.found ++ (otherwise next).found) nothing in
      let rest = error_free_second (mixture_found context.facts span arms) (first.found ++ (otherwise next).found) nothing in
      let found = finds_arms context.facts span xs context of h (h.0, (h.1.0, λ spot type owner is_local is more keeps. is)) (error_free_first first.found (otherwise next).found rest) in (
        of_one_sort context.facts span xs h unmixed found.0,
        each-append Right (arms_waits (map (arm_waits uses) (map (λ x. x.0) xs))) more found.1
            (finds next of (keeps_arm_trees span (map (λ x. x.0) xs) context h) (error_free_second first.found (otherwise next).found rest)),
      )

  -- ---- nodes of trees

  item_node : (y : ItemNode served) → Finds (from_item reading (bare_item served y)) (from_item (servicing uses) (bare_item served y))
  item_node (BlockItem-F.Const constant) context of h nothing = tt
  item_node (BlockItem-F.Var variables) context of h nothing = tt
  item_node (BlockItem-F.Statement statement) context of h nothing = statement.1 context of h nothing

  receive_node : (context : Context) (span : Span) (operation : Name) (places : List Expr) → context.procs ≡ procs → Holds context.facts → ErrorFree (receive_found context span operation places)
      → Each Right ((meant_at uses operation.span ∷ []) ∷ [])
  receive_node context span operation places of h nothing =
      let typed_places = typed_exprs_of (typings_of context.facts places) in
      let last = receive_by context span typed_places (operation_named context.facts operation) in
      let services = error_free_second (all_valued typed_places) last (error_free_second (all_found (typings_of context.facts places)) (all_valued typed_places ++ last) nothing) in
      let at = receive_at context span typed_places (decl_named context.facts operation) (operation_named context.facts operation) of h refl services in
      ((at.0, (subst (λ u. Waiting at.0 (meant_at u operation.span)) h.1.0 (waiting context.facts at.0 (decl_named context.facts operation) h at.1), tt)), tt)

  -- ---- `P`

  semaphore_node : (context : Context) (span : Span) (expr : Expr) (found : Option Operation) → context.procs ≡ procs → Holds context.facts
      → named_operation context.facts (infer_expr expr context.facts).typed_expr.named ≡ found → ErrorFree (semaphore_found context span found) → Right (expr_meant context.facts.uses expr ∷ [])
  semaphore_node context span expr None of h is nothing = absurd nothing
  semaphore_node context span expr (Some operation) of h is nothing =
      let services = error_free_second (broken_unless (takes_as_many context.facts.signatures operation.ty []) _ span) (service_found context.facts context.procs span operation) nothing in
      let meant = expr_meant context.facts.uses expr in
      let at = at_by context.facts span meant operation h (by_expr context.facts operation expr is) (same_error_free (ap (λ p. service_found context.facts p span operation) (sym of)) services) in
      (operation.is_local, (waiting context.facts operation.is_local meant h at, tt))

  arguments_node : (context : Context) (span : Span) (arguments : List Expr) → context.procs ≡ procs → Holds context.facts
      → ErrorFree (p_found context span (typed_exprs_of (typings_of context.facts arguments))) → Right (first_meant context.facts.uses arguments ∷ [])
  arguments_node context span [] of h nothing = absurd nothing
  arguments_node context span (expr ∷ []) of h nothing = semaphore_node context span expr (named_operation context.facts (infer_expr expr context.facts).typed_expr.named) of h refl nothing
  arguments_node context span (expr ∷ (other ∷ more)) of h nothing = absurd nothing

  meaning_node : (context : Context) (span used : Span) (arguments : List Expr) (meaning : Option Meaning) → context.procs ≡ procs → Holds context.facts
      → ErrorFree (called_found context span (meaning_typing context.facts.infos used meaning).typed_expr (typed_exprs_of (typings_of context.facts arguments)) (meaning_typing context.facts.infos used meaning).typed_expr.named)
      → Each Right (waits_by context.facts.uses arguments meaning)
  meaning_node context span used arguments (Some (MeansPredefined predefined.P)) of h nothing = (
    arguments_node context span arguments of h
        (error_free_second (all_valued (typed_exprs_of (typings_of context.facts arguments))) (p_found context span (typed_exprs_of (typings_of context.facts arguments))) nothing),
    tt,
  )
  meaning_node context span used arguments None of h nothing = tt
  meaning_node context span used arguments (Some (Declared decl)) of h nothing = tt
  meaning_node context span used arguments (Some (MeansPredefined _)) of h nothing = tt

  abbrev infer_layer : Expr-F Create Expr Invocation Part → Expr-F Inferrer Inferrer CalledInferrer PartInferrer
  infer_layer = map-Expr Create Expr Invocation Part Inferrer Inferrer CalledInferrer PartInferrer infer_create infer_expr infer_invocation infer_part

  layer_node : (context : Context) (span : Span) (arguments : List Expr) (layer : Expr-F Create Expr Invocation Part) → context.procs ≡ procs → Holds context.facts
      → ErrorFree (called_found context span (expr_step (infer_layer layer) context.facts).typed_expr (typed_exprs_of (typings_of context.facts arguments)) (expr_step (infer_layer layer) context.facts).typed_expr.named)
      → Each Right (layer_waits context.facts.uses arguments layer)
  layer_node context span arguments (Expr-F.Name name) of h nothing = meaning_node context span name.span arguments (meaning_at context.facts.uses (spot_of name.span)) of h nothing
  layer_node context span arguments _ of h nothing = tt

  call_node : (context : Context) (span : Span) (invocation : Invocation) → context.procs ≡ procs → Holds context.facts → ErrorFree (call_found context span (infer_invocation invocation context.facts))
      → Each Right (call_waits uses invocation)
  call_node context span invocation of h nothing =
      let facts = context.facts in
      let callee = (out-Invocation invocation).callee in
      let arguments = (out-Invocation invocation).arguments in
      let opened = ap (λ infer. call_found context span (infer facts)) (fold_out-Invocation Inferrer Inferrer CalledInferrer PartInferrer create_step expr_step invocation_step part_step invocation) in
      let called = error_free_second ((infer_expr callee facts).found ++ all_found (typings_of facts arguments))
      (called_found context span (infer_expr callee facts).typed_expr (typed_exprs_of (typings_of facts arguments)) (infer_expr callee facts).typed_expr.named) (same_error_free (sym opened) nothing) in
      let layer = ap (λ infer. called_found context span (infer facts).typed_expr (typed_exprs_of (typings_of facts arguments)) (infer facts).typed_expr.named)
      (fold_out-Expr Inferrer Inferrer CalledInferrer PartInferrer create_step expr_step invocation_step part_step callee) in
      subst (λ u. Each Right (call_waits u invocation)) h.1.0 (layer_node context span arguments (out-Expr callee) of h (same_error_free (sym layer) called))

  statement_node : (y : StatementNode served) → Finds (from_statement reading (bare_statement served y)) (from_statement (servicing uses) (bare_statement served y))
  statement_node (Statement-F.If span branches None) context of h nothing =
      finds_then (in_order (map branch_read (map (λ x. x.0) branches))) (maybe_block None) (joined (map (branch_waits uses) (map (λ x. x.0) branches))) [] (keeps_branches branches) (finds_branches branches) finds_none context of h nothing
  statement_node (Statement-F.If span branches (Some items)) context of h nothing =
      finds_then (in_order (map branch_read (map (λ x. x.0) branches))) (in_order (map block_item_read (map (λ x. x.0) items))) (joined (map (branch_waits uses) (map (λ x. x.0) branches)))
      (joined (map (block_item_waits uses) (map (λ x. x.0) items))) (keeps_branches branches) (finds_branches branches) (finds_items items) context of h nothing
  statement_node (Statement-F.Do span branches None) context of h nothing =
      finds_then (in_order (map branch_read (map (λ x. x.0) branches))) (maybe_block None) (joined (map (branch_waits uses) (map (λ x. x.0) branches))) [] (keeps_branches branches) (finds_branches branches) finds_none
      (looping context) of h nothing
  statement_node (Statement-F.Do span branches (Some items)) context of h nothing =
      finds_then (in_order (map branch_read (map (λ x. x.0) branches))) (in_order (map block_item_read (map (λ x. x.0) items))) (joined (map (branch_waits uses) (map (λ x. x.0) branches)))
      (joined (map (block_item_waits uses) (map (λ x. x.0) items))) (keeps_branches branches) (finds_branches branches) (finds_items items) (looping context) of h nothing
  statement_node (Statement-F.ForAll span quantifiers block) context of h nothing =
      let inside = looping (with_facts context (quantifiers_known context.facts quantifiers)) in
      finds_items block inside of (keeps_quantifiers P uses component quantifiers context.facts h)
      (error_free_second (quantifiers_found context.facts quantifiers) (in_order (map block_item_read (map (λ x. x.0) block)) inside).found nothing)
  statement_node (Statement-F.In span arms None) context of h nothing = finds_in span arms (maybe_block None) [] finds_none context of h nothing
  statement_node (Statement-F.In span arms (Some items)) context of h nothing =
      finds_in span arms (in_order (map block_item_read (map (λ x. x.0) items))) (joined (map (block_item_waits uses) (map (λ x. x.0) items))) (finds_items items) context of h nothing
  statement_node (Statement-F.Co span arms) context of h nothing = finds_co_arms span arms context of h nothing
  statement_node (Statement-F.Receive span operation places) context of h nothing = receive_node context span operation places of h nothing
  statement_node (Statement-F.Call span with_call invocation) context of h nothing = call_node context span invocation of h nothing
  statement_node _ context of h nothing = tt

  arm_node : (y : ArmNode served) → ArmFinds (from_arm reading (bare_arm served y)) (from_arm (servicing uses) (bare_arm served y))
  arm_node y = (refl, by)
    where
      by : (span : Span) (context : Context) → context.procs ≡ procs → Holds context.facts → ErrorFree (((from_arm reading (bare_arm served y)).steps span context).found)
          → AtSome context.facts (meant_at uses y.operation.span) × Each Right (joined (map (block_item_waits uses) (map (λ x. x.0) y.block)))
      by span context of h nothing =
          let facts = context.facts in
          let operation = operation_named facts y.operation in
          let inside = arm_context context (spot_of y.operation.span) y.formals y.returned operation in
          let inner = in_order (map block_item_read (map (λ x. x.0) y.block)) inside in
          let head = head_found facts context.procs span y.formals (is_some y.returned) operation in
          let guards = guards_found inside.facts y.condition y.order in
          let at = head_at facts span y.formals (is_some y.returned) (decl_named facts y.operation) operation h refl
          (same_error_free (ap (λ p. head_found facts p span y.formals (is_some y.returned) operation) (sym of)) (error_free_first head (guards ++ inner.found) nothing)) in (
            (at.0, subst (λ u. At facts at.0 (meant_at u y.operation.span)) h.1.0 at.1),
            finds_items y.block inside of (keeps_service P uses component y.formals y.returned (type_of operation) facts h)
                (error_free_second guards inner.found (error_free_second head (guards ++ inner.found) nothing)),
          )

  branch_node : (y : BranchNode served) → Finds (from_branch reading (bare_branch served y)) (from_branch (servicing uses) (bare_branch served y))
  branch_node y context of h nothing =
      finds_items y.block context of h (error_free_second (expr_with condition_rule context.facts y.guard) (in_order (map block_item_read (map (λ x. x.0) y.block)) context).found nothing)

  co_arm_by : (y : CoArmNode served) (block : Option (List I)) → CoArmFinds (from_co_arm reading (bare_co_arm served (record y { block = block }))) (from_co_arm (servicing uses) (bare_co_arm served (record y { block = block })))
  co_arm_by y None span context of h nothing = tt
  co_arm_by y (Some items) span context of h nothing =
      let inside = with_facts context (quantifiers_known context.facts y.quantifiers) in
      let inner = in_order (map block_item_read (map (λ x. x.0) items)) (looping inside) in
      let started = started_found inside.facts span y.target (infer_invocation y.invocation inside.facts) in
      finds_items items (looping inside) of (keeps_quantifiers P uses component y.quantifiers context.facts h)
      (error_free_second started inner.found (error_free_second (quantifiers_found context.facts y.quantifiers) (started ++ inner.found) nothing))

  co_arm_node : (y : CoArmNode served) → CoArmFinds (from_co_arm reading (bare_co_arm served y)) (from_co_arm (servicing uses) (bare_co_arm served y))
  co_arm_node y = co_arm_by y y.block

  by_parts : ByParts served
  by_parts = record {
    item = λ y. subst (λ t. t) (λ i. Finds (item_folds reading (bare_item served y) i) (item_folds (servicing uses) (bare_item served y) i)) (item_node y);
    statement = λ y. subst (λ t. t) (λ i. Finds (statement_folds reading (bare_statement served y) i) (statement_folds (servicing uses) (bare_statement served y) i)) (statement_node y);
    arm = λ y. subst (λ t. t) (λ i. ArmFinds (arm_folds reading (bare_arm served y) i) (arm_folds (servicing uses) (bare_arm served y) i)) (arm_node y);
    branch = λ y. subst (λ t. t) (λ i. Finds (branch_folds reading (bare_branch served y) i) (branch_folds (servicing uses) (bare_branch served y) i)) (branch_node y);
    co_arm = λ y. subst (λ t. t) (λ i. CoArmFinds (co_arm_folds reading (bare_co_arm served y) i) (co_arm_folds (servicing uses) (bare_co_arm served y) i)) (co_arm_node y);
  }

  -- what statements service is right where nothing is found in them
  pub finds_statement : (tree : Statement) → Finds (statement_read tree) (statement_waits uses tree)
  finds_statement = each_statement served by_parts

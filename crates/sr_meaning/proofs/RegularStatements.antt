-- The pieces of statements are regular.
use Rattle.std.proofs.Common.{◌≡◌, ℕ, zero, suc, ℤ, pos, Bool, true, false, List, [], ◌∷◌, ◌++◌, length, Option, Some, None, Ok, refl, ap, map}
use Rattle.std.specs.List.{slice_get}
use Rattle.sr_value.specs.declared.capability.Cap.{Cap}
use Rattle.sr_value.specs.declared.shape.Dims.TheVariants.{One as one_dim, Two as two_dims}
use Rattle.sr_value.specs.declared.shape.Shape.{Shape}
use Rattle.sr_value.specs.declared.shape.Shape.TheVariants.{Arr as an_array}
use Rattle.sr_value.specs.declared.value.Value.{Value}
use Rattle.sr_value.specs.declared.value.Value.TheVariants.{Int}
use Rattle.sr_value.specs.Operators.{value_of}
use Rattle.sr_value.specs.Shapes.{default_value}
use Rattle.sr_value.specs.Parts.{with_ok}
use Rattle.sr_ask.specs.Asking.{done, made, moment, selected}
use Rattle.sr_ask.specs.Behaviors.{Doing, give, ◌>>=◌, ◌>>◌}
use Rattle.sr_ask.specs.declared.environment.Gives.{Gives}
use Rattle.sr_ask.specs.declared.environment.Gives.TheVariants.{Values, Instance}
use Rattle.sr_ask.specs.declared.environment.Located.{Located}
use Rattle.sr_ask.specs.declared.environment.Out.{Out}
use Rattle.sr_ask.specs.declared.environment.Own.{Own}
use Rattle.sr_ask.specs.declared.environment.Service.{Service}
use Rattle.sr_ask.specs.declared.environment.Spot.{Spot}
use Rattle.sr_ask.specs.declared.environment.Spot.TheVariants.{Own as an_own, Shared as a_shared}
use Rattle.sr_ask.specs.declared.forms.Pick.{Pick}
use Rattle.sr_ask.specs.declared.forms.Selection.{Selection}
use Rattle.sr_ask.specs.declared.forms.Selection.TheVariants.{Service as a_service, Otherwise}
use Rattle.sr_ask.specs.declared.request.Request.TheVariants.{Declare, Invoke, Select, Take, Reply, Forward as forward_request, Write as write_request, Destroy as destroy_request, Stop as stop_request, Wake, Age}
use Rattle.sr_core.specs.declared.expression.Argument.{Argument}
use Rattle.sr_core.specs.declared.expression.Expr.{Expr}
use Rattle.sr_core.specs.declared.expression.PlaceExpr.{PlaceExpr}
use Rattle.sr_core.specs.declared.formal.Formal.{Formal}
use Rattle.sr_core.specs.declared.formal.Returned.{Returned}
use Rattle.sr_core.specs.declared.site.Arm.{Arm}
use Rattle.sr_core.specs.declared.site.Named.{Named}
use Rattle.sr_core.specs.declared.site.Named.TheVariants.{Own as named_own, Home as named_home, Machine as named_machine}
use Rattle.sr_core.specs.declared.site.Site.{Site}
use Rattle.sr_core.specs.declared.statement.Action.{Action}
use Rattle.sr_core.specs.declared.statement.Action.TheVariants.{Skip, Evaluate, Send, Forward, Assign, Swap, Bump, Write, Stop, Destroy, Until, Exit, Next, Return, Reply as reply_action}
use Rattle.sr_core.specs.declared.statement.Declaration.{Declaration}
use Rattle.sr_core.specs.declared.statement.DimsExpr.{DimsExpr}
use Rattle.sr_core.specs.declared.statement.DimsExpr.TheVariants.{None as no_dims, One as one_range, Two as two_ranges}
use Rattle.sr_core.specs.declared.statement.ItemShape.{ItemShape}
use Rattle.sr_core.specs.declared.statement.ItemShape.TheVariants.{Fixed as fixed_item, Str as string_item}
use Rattle.sr_core.specs.declared.statement.Quantifier.{Quantifier}
use Rattle.sr_core.specs.declared.statement.Scope.{Scope}
use Rattle.sr_core.specs.declared.statement.Scope.TheVariants.{Own as own_scope, Shared as shared_scope}
use Rattle.sr_core.specs.declared.statement.Setup.{Setup}
use Rattle.sr_core.specs.declared.statement.Setup.TheVariants.{Typed, Untyped}
use Rattle.sr_meaning.specs.declared.ending.Ending.{Ending}
use Rattle.sr_meaning.specs.declared.ending.Ending.TheVariants.{Through, Left, Turned, Returned as returned}
use Rattle.sr_meaning.specs.Expressions.{Meaning, choice}
use Rattle.sr_meaning.specs.Here.{Here, request, settle}
use Rattle.sr_meaning.specs.Statements.{forward_unless, gives_now, CoPart, action_meaning, after_turn, arguments, before, block_meaning, bump_operator, cap_expr, complete, complete_all, complete_outs, condition_meaning, continue, declaration_meaning, dims_shape, drop_out, first_true, first_value, for_values, forward_meaning, in_meaning, int_own, item_shape, make, make_formals, make_returned, named_value, no_guard, do_meaning, do_turn, co_meaning, if_meaning, left, number_expr, optional_place, or_try, quantified, reply_meaning, reply_unless, selection_meaning, sends, sends_meaning, served, service_for, service_meaning, set_turn, setup_meaning, site_at, spot_in, start_call, start_calls, status_meaning, store_sent, store_value, take_one, through, time_of, truth_expr, turn_end, turn_now, wake_at}
use Rattle.sr_core.specs.Values.{truth_of, number_of, cap_of, count_of, values_of, texts_of, written, bounded_by, formal_shape}
use Rattle.sr_meaning.proofs.Regular.{Regular, RegularMeaning, AllRegular, with_limit, regular_then, regular_give, regular_equal, regular_choice, regular_service, regular_out, regular_by, regular_tick, regular_request, regular_last, regular_settle, regular_looped, regular_in_order}
use Rattle.sr_meaning.proofs.RegularExpressions.{regular_declare, regular_load, regular_store, regular_give_back, regular_taken}
use Rattle.sr_meaning.proofs.RegularTrees.{regular_expr, regular_exprs, regular_place, regular_arguments}
use Rattle.sr_ask.specs.Invocations.{values_sent, places_back}
use Rattle.sr_ask.specs.Places.{number_held, own_at, string_of_length, whole}
use Rattle.sr_ask.specs.Replies.{Completion, mark_answered, push_out, set_out, set_service, took_one, without_out}
use Rattle.sr_core.specs.Formals.{sent_after, sent_to}

-- ---- endings

regular_before : (ending : Ending) {next : ℕ → Doing Ending} → Regular next → Regular (λ limit. before ending (next limit))
regular_before Through h = h
regular_before Left h = regular_give Left
regular_before Turned h = regular_give Turned
regular_before returned h = regular_give returned

regular_continue : (end : Option Ending) {next : ℕ → Doing Ending} → Regular next → Regular (λ limit. continue end (next limit))
regular_continue None h = h
regular_continue (Some ending) h = regular_give ending

pub regular_through : {A : Type 0} {doing : ℕ → Doing A} → Regular doing → Regular (λ limit. through (doing limit))
regular_through h = regular_then h (λ _. regular_give Through)

pub regular_block : (block : List (Meaning Ending)) (here : Here) → AllRegular block → Regular (λ limit. block_meaning block (with_limit limit here))
regular_block [] here h = regular_give Through
regular_block (statement ∷ statements) here h = regular_then (h.0.at here) (λ ending. regular_before ending (regular_block statements here h.1))

-- ---- expressions of a type

regular_truth : (expr : Expr) (here : Here) → Regular (λ limit. truth_expr expr (with_limit limit here))
regular_truth expr here = regular_then ((regular_expr expr).at here) (λ value. regular_settle here (truth_of value))

regular_number : (expr : Expr) (here : Here) → Regular (λ limit. number_expr expr (with_limit limit here))
regular_number expr here = regular_then ((regular_expr expr).at here) (λ value. regular_settle here (number_of value))

regular_cap : (expr : Expr) (here : Here) → Regular (λ limit. cap_expr expr (with_limit limit here))
regular_cap expr here = regular_then ((regular_expr expr).at here) (λ value. regular_settle here (cap_of value))

regular_sent : (args : List Argument) (here : Here) → Regular (λ limit. arguments args (with_limit limit here))
regular_sent args here = regular_in_order _ here (regular_arguments args)

-- ---- variables

regular_item_shape : (item : ItemShape) (here : Here) → Regular (λ limit. item_shape item (with_limit limit here))
regular_item_shape (fixed_item shape) here = regular_give shape
regular_item_shape (string_item most) here = regular_then (regular_number most here) (λ n. regular_settle here (string_of_length n))

regular_dims_shape : (dims : DimsExpr) (item : ItemShape) (here : Here) → Regular (λ limit. dims_shape dims item (with_limit limit here))
regular_dims_shape no_dims item here = regular_item_shape item here
regular_dims_shape (one_range range) item here =
    regular_then (regular_number range.lo here) (λ lo. regular_then (regular_number range.hi here) (λ hi.
    regular_then (regular_item_shape item here) (λ shape. regular_give (an_array (one_dim lo hi) shape))))
regular_dims_shape (two_ranges range range2) item here =
    regular_then (regular_number range.lo here) (λ lo. regular_then (regular_number range.hi here) (λ hi.
    regular_then (regular_number range2.lo here) (λ lo2. regular_then (regular_number range2.hi here) (λ hi2.
    regular_then (regular_item_shape item here) (λ shape. regular_give (an_array (two_dims lo hi lo2 hi2) shape))))))

regular_make : (spot : Spot) (shape : Shape) (here : Here) → Regular (λ limit. make spot shape (with_limit limit here))
regular_make (an_own var) shape here = regular_then (regular_settle here (default_value shape)) (λ value. regular_declare var (record { shape = shape; value = value }))
regular_make (a_shared block var) shape here = regular_request here done (Declare block var shape) refl

regular_first_value : (value : Option Expr) (spot : Spot) (here : Here) → Regular (λ limit. first_value value spot (with_limit limit here))
regular_first_value None spot here = regular_give tt
regular_first_value (Some expr) spot here = regular_then ((regular_expr expr).at here) (λ value. regular_store (whole spot) value here)

regular_setup : (setup : Setup) (spot : Spot) (here : Here) → Regular (λ limit. setup_meaning setup spot (with_limit limit here))
regular_setup (Typed shape value) spot here =
    regular_then (regular_dims_shape shape.dims shape.item here) (λ found. regular_then (regular_make spot found here) (λ _. regular_first_value value spot here))
regular_setup (Untyped shape expr) spot here =
    regular_then ((regular_expr expr).at here) (λ value. regular_then (regular_make spot (bounded_by shape value) here) (λ _. regular_store (whole spot) value here))

regular_setup_in : (scope : Scope) (var : ℕ) (setup : Setup) (here : Here) → Regular (λ limit. setup_meaning setup (spot_in scope var (with_limit limit here)) (with_limit limit here))
regular_setup_in own_scope var setup here = regular_setup setup (an_own var) here
regular_setup_in shared_scope var setup here = regular_setup setup (a_shared here.start.instance var) here

pub regular_declaration : (declaration : Declaration) (here : Here) → Regular (λ limit. declaration_meaning declaration (with_limit limit here))
regular_declaration declaration here = regular_setup_in declaration.scope declaration.var declaration.setup here

-- ---- formals

regular_store_sent : (sent : Option Value) (spot : Spot) (here : Here) → Regular (λ limit. store_sent sent spot (with_limit limit here))
regular_store_sent None spot here = regular_give tt
regular_store_sent (Some value) spot here = regular_store (whole spot) value here

regular_make_in : (scope : Scope) (var : ℕ) (shape : Shape) (here : Here) → Regular (λ limit. make (spot_in scope var (with_limit limit here)) shape (with_limit limit here))
regular_make_in own_scope var shape here = regular_make (an_own var) shape here
regular_make_in shared_scope var shape here = regular_make (a_shared here.start.instance var) shape here

regular_store_in : (scope : Scope) (var : ℕ) (sent : Option Value) (here : Here)
    → Regular (λ limit. store_sent sent (spot_in scope var (with_limit limit here)) (with_limit limit here))
regular_store_in own_scope var sent here = regular_store_sent sent (an_own var) here
regular_store_in shared_scope var sent here = regular_store_sent sent (a_shared here.start.instance var) here

pub regular_formals : (scope : Scope) (formals : List Formal) (args : List Value) (here : Here) → Regular (λ limit. make_formals scope formals args (with_limit limit here))
regular_formals scope [] args here = regular_give tt
regular_formals scope (formal ∷ formals) args here =
    regular_then (regular_settle here (formal_shape formal.shape (sent_to formal.mode args))) (λ shape.
    regular_then (regular_make_in scope formal.var shape here) (λ _.
    regular_then (regular_store_in scope formal.var (sent_to formal.mode args) here) (λ _.
    regular_formals scope formals (sent_after formal.mode args) here)))

pub regular_returned : (name : Option Returned) (here : Here) → Regular (λ limit. make_returned name (with_limit limit here))
regular_returned None here = regular_give tt
regular_returned (Some name) here = regular_make (an_own name.var) name.shape here

-- ---- services

pub same_gives : (gives : Gives) (own : List (Option Own)) (here : Here) (limit : ℕ) → gives_now gives own (with_limit limit here) ≡ gives_now gives own here
same_gives (Values vars) own here limit = refl
same_gives Instance own here limit = refl

regular_mark : Regular (λ limit. mark_answered)
regular_mark = regular_service (λ service. record service { answered = true })

regular_gives : (service : Service) (own : List (Option Own)) (here : Here)
    → Regular (λ limit. request done (Reply service.held service.back (gives_now service.gives own (with_limit limit here))) (with_limit limit here))
regular_gives service own here =
    regular_equal _ (λ limit. request done (Reply service.held service.back (gives_now service.gives own here)) (with_limit limit here))
    (λ limit. ap (λ results. request done (Reply service.held service.back results) (with_limit limit here)) (same_gives service.gives own here limit))
    (regular_request here done (Reply service.held service.back (gives_now service.gives own here)) refl)

regular_reply_unless : (answered : Bool) (here : Here) → Regular (λ limit. reply_unless answered (with_limit limit here))
regular_reply_unless true here = regular_give tt
regular_reply_unless false here =
    regular_by (λ own service out limit. request done (Reply service.held service.back (gives_now service.gives own (with_limit limit here))) (with_limit limit here) >> mark_answered)
    (λ own service out. regular_then (regular_gives service own here) (λ _. regular_mark))

pub regular_reply : (here : Here) → Regular (λ limit. reply_meaning (with_limit limit here))
regular_reply here = regular_by (λ own service out limit. reply_unless service.answered (with_limit limit here)) (λ own service out. regular_reply_unless service.answered here)

regular_forward_unless : (answered : Bool) (target : Cap) (args : List Value) (here : Here) → Regular (λ limit. forward_unless answered target args (with_limit limit here))
regular_forward_unless true target args here = regular_then (regular_request here made (Invoke target args false) refl) (λ _. regular_give tt)
regular_forward_unless false target args here =
    regular_by (λ own service out limit. request made (forward_request service.held service.back target args) (with_limit limit here) >> mark_answered)
    (λ own service out. regular_then (regular_request here made (forward_request service.held service.back target args) refl) (λ _. regular_mark))

regular_forward : (target : Cap) (args : List Value) (here : Here) → Regular (λ limit. forward_meaning target args (with_limit limit here))
regular_forward target args here =
    regular_by (λ own service out limit. forward_unless service.answered target args (with_limit limit here)) (λ own service out. regular_forward_unless service.answered target args here)

-- ---- statements without blocks

regular_status : (status : Option Expr) (here : Here) → Regular (λ limit. status_meaning status (with_limit limit here))
regular_status None here = regular_give (pos 0)
regular_status (Some expr) here = regular_number expr here

pub regular_action : (action : Action) (here : Here) → Regular (λ limit. action_meaning action (with_limit limit here))
regular_action Skip here = regular_give Through
regular_action (Evaluate expr) here = regular_through ((regular_expr expr).at here)
regular_action (Send target args) here =
    regular_then (regular_cap target here) (λ cap. regular_then (regular_sent args here) (λ sent. regular_through (regular_request here made (Invoke cap (values_sent sent) false) refl)))
regular_action (Forward target args) here =
    regular_then (regular_cap target here) (λ cap. regular_then (regular_sent args here) (λ sent. regular_through (regular_forward cap (values_sent sent) here)))
regular_action (Assign place value) here =
    regular_then ((regular_place place).at here) (λ at. regular_then ((regular_expr value).at here) (λ x. regular_through (regular_store at x here)))
regular_action (Swap left right) here =
    regular_then ((regular_place left).at here) (λ at. regular_then ((regular_place right).at here) (λ at'.
    regular_then (regular_load at here) (λ x. regular_then (regular_load at' here) (λ y.
    regular_then (regular_store at y here) (λ _. regular_through (regular_store at' x here))))))
regular_action (Bump place bump) here =
    regular_then ((regular_place place).at here) (λ at. regular_then (regular_load at here) (λ x.
    regular_then (regular_settle here (value_of (bump_operator bump) x (Int (pos 1)))) (λ y. regular_through (regular_store at y here))))
regular_action (Write args line) here =
    regular_then (regular_in_order _ here (regular_exprs args)) (λ values. regular_then (regular_settle here (texts_of here.core.names values)) (λ texts.
    regular_through (regular_request here done (write_request (written line texts)) refl)))
regular_action (Stop status) here = regular_then (regular_status status here) (λ n. regular_last here (stop_request n))
regular_action (Destroy target) here =
    regular_then (regular_cap target here) (λ cap. regular_then (regular_request here made (destroy_request cap) refl) (λ name. regular_through (regular_taken name here)))
regular_action (Until time) here =
    regular_then (regular_number time here) (λ n. regular_then (regular_settle here (time_of n)) (λ wait. regular_then (regular_request here moment Age refl) (λ now.
    regular_then (regular_settle here (wake_at now wait)) (λ until. regular_through (regular_request here done (Wake until) refl)))))
regular_action Exit here = regular_give Left
regular_action Next here = regular_give Turned
regular_action Return here = regular_give returned
regular_action reply_action here = regular_through (regular_reply here)

-- ---- semaphores

regular_all_sends : (target : Expr) (times : ℕ) (here : Here) → Regular (λ limit. sends target times (with_limit limit here))
regular_all_sends target zero here = regular_give tt
regular_all_sends target (suc left) here =
    regular_then regular_tick (λ _. regular_then (regular_action (Send target []) here) (λ _. regular_all_sends target left here))

pub regular_sends : (target count : Expr) (here : Here) → Regular (λ limit. sends_meaning target count (with_limit limit here))
regular_sends target count here =
    regular_then (regular_number count here) (λ n. regular_then (regular_settle here (count_of n)) (λ times. regular_through (regular_all_sends target times here)))

-- ---- guards

regular_or_try : (end : Option Ending) {next : ℕ → Doing (Option Ending)} → Regular next → Regular (λ limit. or_try end (next limit))
regular_or_try (Some ending) h = regular_give (Some ending)
regular_or_try None h = h

pub regular_guarded : (condition : Expr) (body : List (Meaning Ending)) (here : Here) → AllRegular body
    → Regular (λ limit. truth_expr condition (with_limit limit here) >>= λ truth. choice truth (block_meaning body (with_limit limit here) >>= λ ending. give (Some ending)) (give None))
regular_guarded condition body here h =
    regular_then (regular_truth condition here) (λ truth.
    regular_choice truth (regular_then (regular_block body here h) (λ ending. regular_give (Some ending))) (regular_give None))

regular_first_true : (guards : List (Meaning (Option Ending))) (here : Here) → AllRegular guards → Regular (λ limit. first_true guards (with_limit limit here))
regular_first_true [] here h = regular_give None
regular_first_true (guarded ∷ rest) here h = regular_then (h.0.at here) (λ end. regular_or_try end (regular_first_true rest here h.1))

pub regular_if : (guards : List (Meaning (Option Ending))) (otherwise : List (Meaning Ending)) (here : Here) → AllRegular guards → AllRegular otherwise
    → Regular (λ limit. if_meaning guards otherwise (with_limit limit here))
regular_if guards otherwise here g o = regular_then (regular_first_true guards here g) (λ end. regular_continue end (regular_block otherwise here o))

-- what stands after `else`, where it is there
abbrev pub OptionRegular : Option (List (Meaning Ending)) → Type 0
OptionRegular None = Unit {0}
OptionRegular (Some block) = AllRegular block

regular_no_guard : (otherwise : Option (List (Meaning Ending))) (here : Here) → OptionRegular otherwise → Regular (λ limit. no_guard otherwise (with_limit limit here))
regular_no_guard None here h = regular_give (Some Through)
regular_no_guard (Some otherwise) here h = regular_then (regular_block otherwise here h) (λ ending. regular_give (after_turn ending))

regular_turn_end : (end : Option Ending) {next : ℕ → Doing (Option Ending)} → Regular next → Regular (λ limit. turn_end end (next limit))
regular_turn_end (Some ending) h = regular_give (after_turn ending)
regular_turn_end None h = h

pub regular_do_turn : (guards : List (Meaning (Option Ending))) (otherwise : Option (List (Meaning Ending))) (here : Here) → AllRegular guards → OptionRegular otherwise
    → Regular (λ limit. do_turn guards otherwise (with_limit limit here))
regular_do_turn guards otherwise here g o = regular_then (regular_first_true guards here g) (λ end. regular_turn_end end (regular_no_guard otherwise here o))

pub regular_do : (guards : List (Meaning (Option Ending))) (otherwise : Option (List (Meaning Ending))) (here : Here) → AllRegular guards → OptionRegular otherwise
    → Regular (λ limit. do_meaning guards otherwise (with_limit limit here))
regular_do guards otherwise here g o = regular_then (regular_looped (regular_do_turn guards otherwise here g o)) (λ ending. regular_give (left ending))

-- ---- quantifiers

regular_condition : (condition : Option Expr) (here : Here) → Regular (λ limit. condition_meaning condition (with_limit limit here))
regular_condition None here = regular_give true
regular_condition (Some expr) here = regular_truth expr here

regular_values : (var : ℕ) (condition : Option Expr) (inner : Meaning Ending) (values : List ℤ) (here : Here) → RegularMeaning inner
    → Regular (λ limit. for_values var condition inner values (with_limit limit here))
regular_values var condition inner [] here h = regular_give Through
regular_values var condition inner (n ∷ rest) here h =
    regular_then regular_tick (λ _. regular_then (regular_declare var (int_own n)) (λ _. regular_then (regular_condition condition here) (λ truth.
    regular_then (regular_choice truth (h.at here) (regular_give Through)) (λ ending. regular_continue (after_turn ending) (regular_values var condition inner rest here h)))))

pub regular_quantified : (quantifiers : List Quantifier) (inner : Meaning Ending) → RegularMeaning inner → RegularMeaning (quantified quantifiers inner)
regular_quantified [] inner h = h
regular_quantified (q ∷ rest) inner h = record {
  at = λ here.
      regular_then (regular_number q.from here) (λ from. regular_then (regular_number q.to here) (λ to. regular_then (regular_number q.by here) (λ by.
      regular_then (regular_settle here (values_of q.direction from to by)) (λ values. regular_values q.var q.condition (quantified rest inner) values here (regular_quantified rest inner h)))));
}

-- ---- in

regular_named : (name : Named) (here : Here) → Regular (λ limit. named_value name (with_limit limit here))
regular_named (named_own var) here =
    regular_by (λ own service out limit. settle (with_ok (own_at own var) (λ o. Ok o.value)) (with_limit limit here)) (λ own service out. regular_settle here _)
regular_named (named_home at) here = regular_give _
regular_named named_machine here = regular_give _

regular_names : (names : List Named) → AllRegular (map named_value names)
regular_names [] = tt
regular_names (name ∷ names) = (record { at = regular_named name }, regular_names names)

regular_set_service : (service : Service) → Regular (λ limit. set_service service)
regular_set_service service = regular_service (λ _. service)

regular_service_of : (pick : Pick) (arm : Option Arm) (block : Option (List (Meaning Ending))) (here : Here) → OptionRegular block
    → Regular (λ limit. service_meaning pick arm block (with_limit limit here))
regular_service_of pick None block here h = regular_give Through
regular_service_of pick (Some arm) None here h = regular_give Through
regular_service_of pick (Some arm) (Some block) here h =
    regular_by (λ own service out limit.
    set_service (service_for pick arm) >>= λ _.
    make_formals own_scope arm.formals pick.args (with_limit limit here) >>= λ _.
    make_returned arm.returned (with_limit limit here) >>= λ _.
    block_meaning block (with_limit limit here) >>= λ ending.
    reply_meaning (with_limit limit here) >>= λ _.
    set_service service >>= λ _.
    give (served ending))
    (λ own service out.
    regular_then (regular_set_service (service_for pick arm)) (λ _.
    regular_then (regular_formals own_scope arm.formals pick.args here) (λ _.
    regular_then (regular_returned arm.returned here) (λ _.
    regular_then (regular_block block here h) (λ ending.
    regular_then (regular_reply here) (λ _.
    regular_then (regular_set_service service) (λ _. regular_give (served ending))))))))

-- each block is
abbrev pub EachRegular : List (List (Meaning Ending)) → Type 0
EachRegular [] = Unit {0}
EachRegular (block ∷ blocks) = AllRegular block × EachRegular blocks

regular_at : (blocks : List (List (Meaning Ending))) (at : ℕ) → EachRegular blocks → OptionRegular (slice_get blocks at)
regular_at [] at h = tt
regular_at (block ∷ blocks) zero h = h.0
regular_at (block ∷ blocks) (suc at) h = regular_at blocks at h.1

regular_selection : (site : Site) (blocks : List (List (Meaning Ending))) (otherwise : List (Meaning Ending)) (selection : Selection) (here : Here) → EachRegular blocks → AllRegular otherwise
    → Regular (λ limit. selection_meaning site blocks otherwise selection (with_limit limit here))
regular_selection site blocks otherwise (a_service pick) here b o = regular_service_of pick (slice_get site.arms pick.arm) (slice_get blocks pick.arm) here (regular_at blocks pick.arm b)
regular_selection site blocks otherwise Otherwise here b o = regular_block otherwise here o

pub regular_in : (site : ℕ) (blocks : List (List (Meaning Ending))) (otherwise : List (Meaning Ending)) (here : Here) → EachRegular blocks → AllRegular otherwise
    → Regular (λ limit. in_meaning site blocks otherwise (with_limit limit here))
regular_in site blocks otherwise here b o =
    regular_then (regular_in_order _ here (regular_names (site_at site here).names)) (λ env.
    regular_then (regular_request here (selected (length blocks) (site_at site here).has_else) (Select site env) refl) (λ selection.
    regular_selection (site_at site here) blocks otherwise selection here b o))

-- ---- co

regular_optional_place : (place : Option PlaceExpr) (here : Here) → Regular (λ limit. optional_place place (with_limit limit here))
regular_optional_place None here = regular_give None
regular_optional_place (Some place) here = regular_then ((regular_place place).at here) (λ at. regular_give (Some at))

regular_push_out : (out : Out) → Regular (λ limit. push_out out)
regular_push_out out = regular_out (λ outs. outs ++ out ∷ [])

regular_set_out : (outs : List Out) → Regular (λ limit. set_out outs)
regular_set_out outs = regular_out (λ _. outs)

regular_turn_now : (quantifiers : List Quantifier) → Regular (λ limit. turn_now quantifiers)
regular_turn_now quantifiers = regular_by (λ own service out limit. give (map (λ q. number_held own q.var) quantifiers)) (λ own service out. regular_give _)

regular_start_call : (arm : ℕ) (part : CoPart) → RegularMeaning (start_call arm part)
regular_start_call arm part = record {
  at = λ here.
      regular_then (regular_optional_place part.call.place here) (λ place. regular_then (regular_cap part.call.target here) (λ cap.
      regular_then (regular_sent part.call.args here) (λ sent. regular_then (regular_request here made (Invoke cap (values_sent sent) true) refl) (λ id.
      regular_then (regular_turn_now part.quantifiers) (λ turn.
      regular_through (regular_push_out (record { id = id; arm = arm; place = place; backs = places_back sent; turn = turn })))))));
}

-- the block after each arm is
abbrev pub PartsRegular : List CoPart → Type 0
PartsRegular [] = Unit {0}
PartsRegular (part ∷ parts) = RegularMeaning part.body × PartsRegular parts

regular_start_calls : (arm : ℕ) (parts : List CoPart) (here : Here) → Regular (λ limit. start_calls arm parts (with_limit limit here))
regular_start_calls arm [] here = regular_give tt
regular_start_calls arm (part ∷ parts) here =
    regular_then ((regular_quantified part.quantifiers (start_call arm part) (regular_start_call arm part)).at here) (λ _. regular_start_calls (suc arm) parts here)

regular_take_one : (here : Here) → Regular (λ limit. take_one (with_limit limit here))
regular_take_one here =
    regular_by (λ own service out limit. request (took_one out) (Take (map (λ o. o.id) out)) (with_limit limit here)) (λ own service out. regular_request here (took_one out) (Take (map (λ o. o.id) out)) refl)

regular_drop_out : (id : ℕ) → Regular (λ limit. drop_out id)
regular_drop_out id = regular_out (λ outs. without_out outs id)

regular_set_turn : (quantifiers : List Quantifier) (turn : List ℤ) → Regular (λ limit. set_turn quantifiers turn)
regular_set_turn [] turn = regular_give tt
regular_set_turn (q ∷ quantifiers) [] = regular_give tt
regular_set_turn (q ∷ quantifiers) (n ∷ turn) = regular_then (regular_declare q.var (int_own n)) (λ _. regular_set_turn quantifiers turn)

regular_store_value : (place : Option Located) (value : Value) (here : Here) → Regular (λ limit. store_value place value (with_limit limit here))
regular_store_value None value here = regular_give tt
regular_store_value (Some place) value here = regular_store place value here

abbrev PartRegular : Option CoPart → Type 0
PartRegular None = Unit {0}
PartRegular (Some part) = RegularMeaning part.body

regular_part_at : (parts : List CoPart) (at : ℕ) → PartsRegular parts → PartRegular (slice_get parts at)
regular_part_at [] at h = tt
regular_part_at (part ∷ parts) zero h = h.0
regular_part_at (part ∷ parts) (suc at) h = regular_part_at parts at h.1

regular_complete : (completion : Completion) (part : Option CoPart) (here : Here) → PartRegular part → Regular (λ limit. complete completion part (with_limit limit here))
regular_complete completion None here h = regular_give Through
regular_complete completion (Some part) here h =
    regular_then (regular_drop_out completion.out.id) (λ _. regular_then (regular_set_turn part.quantifiers completion.out.turn) (λ _.
    regular_then (regular_give_back completion.out.backs part.call.returns completion.results here) (λ value.
    regular_then (regular_store_value completion.out.place value here) (λ _. h.at here))))

regular_complete_all : (count : ℕ) (parts : List CoPart) (here : Here) → PartsRegular parts → Regular (λ limit. complete_all count parts (with_limit limit here))
regular_complete_all zero parts here h = regular_give Through
regular_complete_all (suc count) parts here h =
    regular_then (regular_take_one here) (λ completion.
    regular_then (regular_complete completion (slice_get parts completion.out.arm) here (regular_part_at parts completion.out.arm h)) (λ ending.
    regular_continue (after_turn ending) (regular_complete_all count parts here h)))

regular_complete_outs : (parts : List CoPart) (here : Here) → PartsRegular parts → Regular (λ limit. complete_outs parts (with_limit limit here))
regular_complete_outs parts here h =
    regular_by (λ own service out limit. complete_all (length out) parts (with_limit limit here)) (λ own service out. regular_complete_all (length out) parts here h)

pub regular_co : (parts : List CoPart) (here : Here) → PartsRegular parts → Regular (λ limit. co_meaning parts (with_limit limit here))
regular_co parts here h =
    regular_by (λ own service out limit.
    set_out [] >>= λ _. start_calls 0 parts (with_limit limit here) >>= λ _. complete_outs parts (with_limit limit here) >>= λ ending.
    set_out out >>= λ _. give (left ending))
    (λ own service out.
    regular_then (regular_set_out []) (λ _. regular_then (regular_start_calls 0 parts here) (λ _. regular_then (regular_complete_outs parts here h) (λ ending.
    regular_then (regular_set_out out) (λ _. regular_give (left ending))))))

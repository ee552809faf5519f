-- What a statement asks, and how it ends: of each node, from what its parts ask and how they end.
use Rattle.std.specs.Prelude.{ℕ, zero, suc, ℤ, pos, negsuc, ◌+◌, ◌+ℤ◌, Bool, true, false, List, [], ◌∷◌, length, map, Option, Some, None, Result, Ok, Err, unwrap_or, slice_get}
use Rattle.sr_value.specs.declared.capability.Cap.{Cap}
use Rattle.sr_value.specs.declared.capability.Cap.TheVariants.{Vm}
use Rattle.sr_value.specs.declared.fault.Fault.{Fault}
use Rattle.sr_value.specs.declared.fault.Fault.TheVariants.{Range}
use Rattle.sr_value.specs.declared.operator.Operator.{Operator}
use Rattle.sr_value.specs.declared.operator.Operator.TheVariants.{Add, Sub}
use Rattle.sr_value.specs.declared.shape.Dims.TheVariants.{One as one_dim, Two as two_dims}
use Rattle.sr_value.specs.declared.shape.Shape.{Shape}
use Rattle.sr_value.specs.declared.shape.Shape.TheVariants.{Int as an_int, Arr as an_array}
use Rattle.sr_value.specs.declared.value.Value.{Value}
use Rattle.sr_value.specs.declared.value.Value.TheVariants.{Int, Capa}
use Rattle.sr_value.specs.Operators.{value_of}
use Rattle.sr_value.specs.Parts.{with_ok}
use Rattle.sr_ask.specs.Asking.{none_takes, done, made, moment, selected, until_moment}
use Rattle.sr_ask.specs.Behaviors.{Stage, Doing, Came, give, ◌>>=◌, ◌>>◌, tick, looped}
use Rattle.sr_ask.specs.Invocations.{values_sent, places_back}
use Rattle.sr_ask.specs.Places.{own_at, declare_own, number_held, string_of_length, whole, make as made_at}
use Rattle.sr_ask.specs.Replies.{Completion, without_out, set_service, push_out, set_out, reply_unless as reply_where, reply_meaning as reply_at, results_now as results_at, gives_now as gives_at, forward_unless as forward_where, forward_meaning as forward_at, take_one as take_at}
use Rattle.sr_ask.specs.declared.forms.Pick.{Pick}
use Rattle.sr_ask.specs.declared.forms.Selection.{Selection}
use Rattle.sr_ask.specs.declared.forms.Selection.TheVariants.{Otherwise}
use Rattle.sr_ask.specs.declared.environment.Gives.{Gives}
use Rattle.sr_ask.specs.declared.environment.Gives.TheVariants.{Values}
use Rattle.sr_ask.specs.declared.environment.Located.{Located}
use Rattle.sr_ask.specs.declared.environment.Own.{Own}
use Rattle.sr_ask.specs.declared.environment.Sent.{Sent}
use Rattle.sr_ask.specs.declared.environment.Service.{Service}
use Rattle.sr_ask.specs.declared.environment.Spot.{Spot}
use Rattle.sr_ask.specs.declared.request.Request.TheVariants.{Invoke, Select, Write as write_request, Destroy as destroy_request, Stop as stop_request, Wake, Age}
use Rattle.sr_core.specs.Formals.{sent_to, sent_after, result_vars}
use Rattle.sr_core.specs.Values.{truth_of, number_of, cap_of, count_of, values_of, texts_of, written, bounded_by, formal_shape}
use Rattle.sr_core.specs.declared.expression.Argument.{Argument}
use Rattle.sr_core.specs.declared.expression.Expr.{Expr}
use Rattle.sr_core.specs.declared.expression.PlaceExpr.{PlaceExpr}
use Rattle.sr_core.specs.declared.formal.Formal.{Formal}
use Rattle.sr_core.specs.declared.formal.Mode.TheVariants.{Res}
use Rattle.sr_core.specs.declared.formal.Returned.{Returned}
use Rattle.sr_core.specs.declared.site.Arm.{Arm}
use Rattle.sr_core.specs.declared.site.Named.{Named}
use Rattle.sr_core.specs.declared.site.Site.{Site}
use Rattle.sr_core.specs.declared.statement.Action.{Action}
use Rattle.sr_core.specs.declared.statement.Action.TheVariants.{Skip, Evaluate, Send, Forward, Assign, Swap, Bump, Write, Stop, Destroy, Until, Exit, Next, Return}
use Rattle.sr_core.specs.declared.statement.Bump.{Bump as Bumps}
use Rattle.sr_core.specs.declared.statement.Bump.TheVariants.{Increase, Decrease}
use Rattle.sr_core.specs.declared.statement.CoCall.{CoCall}
use Rattle.sr_core.specs.declared.statement.Declaration.{Declaration}
use Rattle.sr_core.specs.declared.statement.DimsExpr.{DimsExpr}
use Rattle.sr_core.specs.declared.statement.ItemShape.{ItemShape}
use Rattle.sr_core.specs.declared.statement.Quantifier.{Quantifier}
use Rattle.sr_core.specs.declared.statement.Scope.{Scope}
use Rattle.sr_core.specs.declared.statement.Setup.{Setup}
use Rattle.sr_core.specs.declared.statement.Setup.TheVariants.{Typed, Untyped}
use Rattle.sr_core.specs.declared.statement.ShapeExpr.{ShapeExpr}
use Rattle.sr_core.specs.declared.statement.Statement.{Statement}
use Rattle.sr_core.specs.declared.statement.Statement.TheFolds.{fold-Statement}
use Rattle.sr_core.specs.declared.statement.Statement.TheOpen.{CoArm-F, Guarded-F, Statement-F}
use Rattle.sr_meaning.specs.declared.ending.Ending.{Ending}
use Rattle.sr_meaning.specs.declared.ending.Ending.TheVariants.{Through, Left, Turned}
use Rattle.sr_meaning.specs.Expressions.{Meaning, in_order, choice, expr_meaning, place_of_expr, argument_of, give_back, taken}
use Rattle.sr_meaning.specs.Here.{Here, asker, at_line, request, settle}
use Rattle.sr_meaning.specs.Places.{load_place, store_place}

-- ---- endings

-- a statement after another comes only where that one ends through
abbrev pub before : Ending → Doing Ending → Doing Ending
before Through next = next
before ending next = give ending

-- after a turn of a loop: another turn, or how the loop ends
abbrev pub after_turn : Ending → Option Ending
after_turn Through = None
after_turn Turned = None
after_turn Left = Some Left
after_turn Ending.Returned = Some Ending.Returned

abbrev pub continue : Option Ending → Doing Ending → Doing Ending
continue None next = next
continue (Some ending) next = give ending

-- `exit` goes no further than the loop that it leaves
abbrev pub left : Ending → Ending
left Left = Through
left ending = ending

-- `return` goes no further than the service that it ends
abbrev pub served : Ending → Ending
served Ending.Returned = Through
served ending = ending

abbrev pub block_meaning : List (Meaning Ending) → Meaning Ending
block_meaning [] here = give Through
block_meaning (statement ∷ statements) here = statement here >>= λ ending. before ending (block_meaning statements here)

-- ---- expressions of a type

abbrev pub truth_expr : Expr → Meaning Bool
truth_expr expr here = expr_meaning expr here >>= λ value. settle (truth_of value) here

abbrev pub number_expr : Expr → Meaning ℤ
number_expr expr here = expr_meaning expr here >>= λ value. settle (number_of value) here

abbrev pub cap_expr : Expr → Meaning Cap
cap_expr expr here = expr_meaning expr here >>= λ value. settle (cap_of value) here

abbrev pub arguments : List Argument → Meaning (List Sent)
arguments args here = in_order (map argument_of args) here

-- ---- variables

abbrev pub item_shape : ItemShape → Meaning Shape
item_shape (ItemShape.Fixed shape) here = give shape
item_shape (ItemShape.Str most) here = number_expr most here >>= λ n. settle (string_of_length n) here

-- the bounds from left to right, and then the length of a string
abbrev pub dims_shape : DimsExpr → ItemShape → Meaning Shape
dims_shape DimsExpr.None item here = item_shape item here
dims_shape (DimsExpr.One range) item here =
    number_expr range.lo here >>= λ lo. number_expr range.hi here >>= λ hi.
    item_shape item here >>= λ shape. give (an_array (one_dim lo hi) shape)
dims_shape (DimsExpr.Two range range2) item here =
    number_expr range.lo here >>= λ lo. number_expr range.hi here >>= λ hi.
    number_expr range2.lo here >>= λ lo2. number_expr range2.hi here >>= λ hi2.
    item_shape item here >>= λ shape. give (an_array (two_dims lo hi lo2 hi2) shape)

abbrev pub shape_meaning : ShapeExpr → Meaning Shape
shape_meaning shape here = dims_shape shape.dims shape.item here

-- an own variable is made with its default; a shared one is declared
abbrev pub make : Spot → Shape → Meaning (Unit {0})
make spot shape here = made_at spot shape (asker here)

abbrev pub spot_in : Scope → ℕ → Here → Spot
spot_in Scope.Own var here = Spot.Own var
spot_in Scope.Shared var here = Spot.Shared here.start.instance var

abbrev pub first_value : Option Expr → Spot → Meaning (Unit {0})
first_value None spot here = give tt
first_value (Some expr) spot here = expr_meaning expr here >>= λ value. store_place (whole spot) value here

-- With a type: the bounds, the variable, and then its value. Without one: the value, the variable with the
-- value's bounds, and the store.
abbrev pub setup_meaning : Setup → Spot → Meaning (Unit {0})
setup_meaning (Typed shape value) spot here = shape_meaning shape here >>= λ found. make spot found here >>= λ _. first_value value spot here
setup_meaning (Untyped shape expr) spot here =
    expr_meaning expr here >>= λ value. make spot (bounded_by shape value) here >>= λ _. store_place (whole spot) value here

abbrev pub declaration_meaning : Declaration → Meaning (Unit {0})
declaration_meaning declaration here = setup_meaning declaration.setup (spot_in declaration.scope declaration.var here) here

-- ---- formals

abbrev pub store_sent : Option Value → Spot → Meaning (Unit {0})
store_sent None spot here = give tt
store_sent (Some value) spot here = store_place (whole spot) value here

-- The formals are made in order, and the argument of each is stored in it as it is made.
abbrev pub make_formals : Scope → List Formal → List Value → Meaning (Unit {0})
make_formals scope [] args here = give tt
make_formals scope (formal ∷ formals) args here =
    settle (formal_shape formal.shape (sent_to formal.mode args)) here >>= λ shape.
    make (spot_in scope formal.var here) shape here >>= λ _.
    store_sent (sent_to formal.mode args) (spot_in scope formal.var here) here >>= λ _.
    make_formals scope formals (sent_after formal.mode args) here

abbrev pub make_returned : Option Returned → Meaning (Unit {0})
make_returned None here = give tt
make_returned (Some name) here = make (Spot.Own name.var) name.shape here

-- ---- services

abbrev pub gives_now : Gives → List (Option Own) → Here → List Value
gives_now gives own here = gives_at gives own (asker here)

-- a reply gives the present results, where none was given before
abbrev pub reply_unless : Bool → Meaning (Unit {0})
reply_unless answered here = reply_where answered (asker here)

abbrev pub reply_meaning : Meaning (Unit {0})
reply_meaning here = reply_at (asker here)

-- the present results of the invocation in service
abbrev pub results_now : Here → Stage → List Value
results_now here stage = results_at (asker here) stage

abbrev pub forward_unless : Bool → Cap → List Value → Meaning (Unit {0})
forward_unless answered target args here = forward_where answered target args (asker here)

-- the duty to answer goes to another operation; where it is answered already, that is only sent to
abbrev pub forward_meaning : Cap → List Value → Meaning (Unit {0})
forward_meaning target args here = forward_at target args (asker here)

-- ---- statements without blocks

abbrev pub bump_operator : Bumps → Operator
bump_operator Increase = Add
bump_operator Decrease = Sub

abbrev pub status_meaning : Option Expr → Meaning ℤ
status_meaning None here = give (pos 0)
status_meaning (Some expr) here = number_expr expr here

-- a time below 0 is E6
abbrev pub time_of : ℤ → Result ℤ Fault
time_of (pos n) = Ok (pos n)
time_of (negsuc n) = Err Range

abbrev pub wake_at : ℤ → ℤ → Result ℕ Fault
wake_at now time = until_moment (now +ℤ time)

abbrev pub through : {A : Type 0} → Doing A → Doing Ending
through doing = doing >>= λ _. give Through

-- what a statement without blocks asks
abbrev pub action_meaning : Action → Meaning Ending
action_meaning Skip here = give Through
action_meaning (Evaluate expr) here = through (expr_meaning expr here)
action_meaning (Send target args) here =
    cap_expr target here >>= λ cap. arguments args here >>= λ sent. through (request made (Invoke cap (values_sent sent) false) here)
action_meaning (Forward target args) here =
    cap_expr target here >>= λ cap. arguments args here >>= λ sent. through (forward_meaning cap (values_sent sent) here)
action_meaning (Assign place value) here =
    place_of_expr place here >>= λ at. expr_meaning value here >>= λ x. through (store_place at x here)
action_meaning (Swap left right) here =
    place_of_expr left here >>= λ at. place_of_expr right here >>= λ at'.
    load_place at here >>= λ x. load_place at' here >>= λ y.
    store_place at y here >>= λ _. through (store_place at' x here)
action_meaning (Bump place bump) here =
    place_of_expr place here >>= λ at. load_place at here >>= λ x.
    settle (value_of (bump_operator bump) x (Int (pos 1))) here >>= λ y. through (store_place at y here)
action_meaning (Write args line) here =
    in_order (map expr_meaning args) here >>= λ values. settle (texts_of here.core.names values) here >>= λ texts.
    through (request done (write_request (written line texts)) here)
action_meaning (Stop status) here = status_meaning status here >>= λ n. request none_takes (stop_request n) here
action_meaning (Destroy target) here =
    cap_expr target here >>= λ cap. request made (destroy_request cap) here >>= λ name. through (taken name here)
action_meaning (Until time) here =
    number_expr time here >>= λ n. settle (time_of n) here >>= λ wait. request moment Age here >>= λ now.
    settle (wake_at now wait) here >>= λ until. through (request done (Wake until) here)
action_meaning Exit here = give Left
action_meaning Next here = give Turned
action_meaning Return here = give Ending.Returned
action_meaning Action.Reply here = through (reply_meaning here)

-- ---- parts of statements

-- An arm of a `co`: its quantifiers, its invocation, and what runs after the reply.
pub record CoPart : Type 0 where
  pub quantifiers : List Quantifier
  pub call : CoCall
  pub body : Meaning Ending

-- ---- guards

-- a guarded block runs where its condition holds, and says how it ended
abbrev pub guarded_meaning : Guarded-F (Meaning Ending) CoPart (Meaning (Option Ending)) → Meaning (Option Ending)
guarded_meaning guarded here =
    truth_expr guarded.condition here >>= λ truth.
    choice truth (block_meaning guarded.body here >>= λ ending. give (Some ending)) (give None)

abbrev pub or_try : Option Ending → Doing (Option Ending) → Doing (Option Ending)
or_try (Some ending) next = give (Some ending)
or_try None next = next

-- the first guarded block in the text whose condition holds
abbrev pub first_true : List (Meaning (Option Ending)) → Meaning (Option Ending)
first_true [] here = give None
first_true (guarded ∷ rest) here = guarded here >>= λ end. or_try end (first_true rest here)

-- `if` without a true guard runs its `else`
abbrev pub if_meaning : List (Meaning (Option Ending)) → List (Meaning Ending) → Meaning Ending
if_meaning guards otherwise here = first_true guards here >>= λ end. continue end (block_meaning otherwise here)

-- `do` without a true guard ends; with `else` that runs, and the `do` goes on
abbrev pub no_guard : Option (List (Meaning Ending)) → Meaning (Option Ending)
no_guard None here = give (Some Through)
no_guard (Some otherwise) here = block_meaning otherwise here >>= λ ending. give (after_turn ending)

abbrev pub turn_end : Option Ending → Doing (Option Ending) → Doing (Option Ending)
turn_end (Some ending) next = give (after_turn ending)
turn_end None next = next

abbrev pub do_turn : List (Meaning (Option Ending)) → Option (List (Meaning Ending)) → Meaning (Option Ending)
do_turn guards otherwise here = first_true guards here >>= λ end. turn_end end (no_guard otherwise here)

abbrev pub do_meaning : List (Meaning (Option Ending)) → Option (List (Meaning Ending)) → Meaning Ending
do_meaning guards otherwise here = looped here.limit (do_turn guards otherwise here) >>= λ ending. give (left ending)

-- ---- quantifiers

abbrev pub condition_meaning : Option Expr → Meaning Bool
condition_meaning None here = give true
condition_meaning (Some expr) here = truth_expr expr here

abbrev pub int_own : ℤ → Own
int_own n = record { shape = an_int; value = Int n }

-- Each value takes a tick. The work is done for those that meet the condition.
abbrev pub for_values : ℕ → Option Expr → Meaning Ending → List ℤ → Meaning Ending
for_values var condition inner [] here = give Through
for_values var condition inner (n ∷ rest) here =
    tick >>= λ _. declare_own var (int_own n) >>= λ _. condition_meaning condition here >>= λ truth.
    choice truth (inner here) (give Through) >>= λ ending. continue (after_turn ending) (for_values var condition inner rest here)

-- The bounds and the step are evaluated once, each time that the quantifier starts.
abbrev pub quantified : List Quantifier → Meaning Ending → Meaning Ending
quantified [] inner here = inner here
quantified (q ∷ rest) inner here =
    number_expr q.from here >>= λ from. number_expr q.to here >>= λ to. number_expr q.by here >>= λ by.
    settle (values_of q.direction from to by) here >>= λ values.
    for_values q.var q.condition (quantified rest inner) values here

-- ---- in

-- what goes with a `Select` of what the guards name; a process of an accepted program has a home for each import of its component
abbrev pub named_value : Named → Meaning Value
named_value (Named.Own var) here stage = settle (with_ok (own_at stage.own var) (λ own. Ok own.value)) here stage
named_value (Named.Home at) here stage = Came (Capa (Cap.Res (unwrap_or (slice_get here.start.homes at) 0))) stage
named_value Named.Machine here stage = Came (Capa (Vm here.start.vm)) stage

-- what a site that isn't there has: no arms; each `in` of an accepted program finds its site
abbrev pub no_site : Site
no_site = record { scope = Scope.Shared; arms = []; has_else = false; names = []; reads = []; counts = [] }

abbrev pub site_at : ℕ → Here → Site
site_at site here = unwrap_or (slice_get here.core.sites site) no_site

abbrev pub service_for : Pick → Arm → Service
service_for pick arm = record {
  held = pick.id;
  back = pick.back;
  answered = false;
  gives = Values (result_vars arm.formals arm.returned);
}

-- The formals and the returned name are made, then the block runs. However it ends, the service ends with it:
-- it replies if it hasn't. An arm or a block that isn't there, as in no accepted program, does nothing.
abbrev pub service_meaning : Pick → Option Arm → Option (List (Meaning Ending)) → Meaning Ending
service_meaning pick (Some arm) (Some block) here stage =
    (set_service (service_for pick arm) >>= λ _.
    make_formals Scope.Own arm.formals pick.args here >>= λ _.
    make_returned arm.returned here >>= λ _.
    block_meaning block here >>= λ ending.
    reply_meaning here >>= λ _.
    set_service stage.service >>= λ _.
    give (served ending)) stage
service_meaning pick arm block here stage = give Through stage

abbrev pub selection_meaning : Site → List (List (Meaning Ending)) → List (Meaning Ending) → Selection → Meaning Ending
selection_meaning site blocks otherwise (Selection.Service pick) here = service_meaning pick (slice_get site.arms pick.arm) (slice_get blocks pick.arm) here
selection_meaning site blocks otherwise Otherwise here = block_meaning otherwise here

abbrev pub in_meaning : ℕ → List (List (Meaning Ending)) → List (Meaning Ending) → Meaning Ending
in_meaning site blocks otherwise here =
    in_order (map named_value (site_at site here).names) here >>= λ env.
    request (selected (length blocks) (site_at site here).has_else) (Select site env) here >>= λ selection.
    selection_meaning (site_at site here) blocks otherwise selection here

-- ---- co

abbrev pub co_arm_meaning : CoArm-F (Meaning Ending) CoPart (Meaning (Option Ending)) → CoPart
co_arm_meaning arm = record { quantifiers = arm.quantifiers; call = arm.call; body = block_meaning arm.body }

abbrev pub optional_place : Option PlaceExpr → Meaning (Option Located)
optional_place None here = give None
optional_place (Some place) here = place_of_expr place here >>= λ at. give (Some at)

-- the values of the quantifiers at this turn
abbrev pub turn_now : List Quantifier → Doing (List ℤ)
turn_now quantifiers stage = Came (map (λ q. number_held stage.own q.var) quantifiers) stage

-- one invocation: its place, its target, its arguments
abbrev pub start_call : ℕ → CoPart → Meaning Ending
start_call arm part here =
    optional_place part.call.place here >>= λ place.
    cap_expr part.call.target here >>= λ cap.
    arguments part.call.args here >>= λ sent.
    request made (Invoke cap (values_sent sent) true) here >>= λ id.
    turn_now part.quantifiers >>= λ turn.
    through (push_out (record { id = id; arm = arm; place = place; backs = places_back sent; turn = turn }))

-- all invocations, in the order of the text and of the quantifiers
abbrev pub start_calls : ℕ → List CoPart → Meaning (Unit {0})
start_calls arm [] here = give tt
start_calls arm (part ∷ parts) here = quantified part.quantifiers (start_call arm part) here >>= λ _. start_calls (suc arm) parts here

abbrev pub take_one : Meaning Completion
take_one here = take_at (asker here)

abbrev pub drop_out : ℕ → Doing (Unit {0})
drop_out id stage = Came tt (record stage { out = without_out stage.out id })

abbrev pub set_turn : List Quantifier → List ℤ → Doing (Unit {0})
set_turn (q ∷ quantifiers) (n ∷ turn) = declare_own q.var (int_own n) >>= λ _. set_turn quantifiers turn
set_turn quantifiers turn = give tt

abbrev pub store_value : Option Located → Value → Meaning (Unit {0})
store_value None value here = give tt
store_value (Some place) value here = store_place place value here

-- the stores of a reply, and then the block of its arm; an arm that isn't there, as in no accepted program, does nothing
abbrev pub complete : Completion → Option CoPart → Meaning Ending
complete completion None here = give Through
complete completion (Some part) here =
    drop_out completion.out.id >>= λ _.
    set_turn part.quantifiers completion.out.turn >>= λ _.
    give_back completion.out.backs part.call.returns completion.results here >>= λ value.
    store_value completion.out.place value here >>= λ _.
    part.body here

-- replies are taken until none is out, or the statement is left
abbrev pub complete_all : ℕ → List CoPart → Meaning Ending
complete_all zero parts here = give Through
complete_all (suc count) parts here =
    take_one here >>= λ completion. complete completion (slice_get parts completion.out.arm) here >>= λ ending.
    continue (after_turn ending) (complete_all count parts here)

abbrev pub complete_outs : List CoPart → Meaning Ending
complete_outs parts here stage = complete_all (length stage.out) parts here stage

abbrev pub co_meaning : List CoPart → Meaning Ending
co_meaning parts here stage =
    (set_out [] >>= λ _. start_calls 0 parts here >>= λ _. complete_outs parts here >>= λ ending.
    set_out stage.out >>= λ _. give (left ending)) stage

-- ---- semaphores

-- So many sends without arguments, each a statement begun.
abbrev pub sends : Expr → ℕ → Meaning (Unit {0})
sends target zero here = give tt
sends target (suc left) here = tick >>= λ _. action_meaning (Send target []) here >>= λ _. sends target left here

-- The number is evaluated once, and no send is begun before that. Below 0 it is E6.
abbrev pub sends_meaning : Expr → Expr → Meaning Ending
sends_meaning target count here = number_expr count here >>= λ n. settle (count_of n) here >>= λ times. through (sends target times here)

-- ---- nodes

-- A statement is one tick, and a declaration none; the sends of a `sem` are as many statements.
abbrev pub statement_meaning : Statement-F (Meaning Ending) CoPart (Meaning (Option Ending)) → Meaning Ending
statement_meaning (Statement-F.Declare place declaration) here = through (declaration_meaning declaration (at_line place here))
statement_meaning (Statement-F.Act place action) here = tick >>= λ _. action_meaning action (at_line place here)
statement_meaning (Statement-F.If place guards otherwise) here = tick >>= λ _. if_meaning guards otherwise (at_line place here)
statement_meaning (Statement-F.Do place guards otherwise) here = tick >>= λ _. do_meaning guards otherwise (at_line place here)
statement_meaning (Statement-F.Fa place quantifiers body) here =
    tick >>= λ _. quantified quantifiers (block_meaning body) (at_line place here) >>= λ ending. give (left ending)
statement_meaning (Statement-F.In place site arms otherwise) here = tick >>= λ _. in_meaning site arms otherwise (at_line place here)
statement_meaning (Statement-F.Co place arms) here = tick >>= λ _. co_meaning arms (at_line place here)
statement_meaning (Statement-F.Sends place target count) here = sends_meaning target count (at_line place here)

-- what a statement asks, and how it ends
abbrev pub meaning_of : Statement → Meaning Ending
meaning_of = fold-Statement (Meaning Ending) CoPart (Meaning (Option Ending)) statement_meaning co_arm_meaning guarded_meaning

abbrev pub block_of : List Statement → Meaning Ending
block_of statements = block_meaning (map meaning_of statements)

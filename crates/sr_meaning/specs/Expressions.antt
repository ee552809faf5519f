-- What an expression asks, and what it gives: of each node, from what its parts ask and give.
use Rattle.std.specs.Prelude.{ℕ, Bool, true, false, List, [], ◌∷◌, Option, Some, None, unwrap_or, option_map, slice_get}
use Rattle.sr_value.specs.declared.capability.Cap.{Cap}
use Rattle.sr_value.specs.declared.capability.Cap.TheVariants.{Op, Vm}
use Rattle.sr_value.specs.declared.capability.Owner.{Owner}
use Rattle.sr_value.specs.declared.capability.Owner.TheVariants.{Inst, Proc as of_process}
use Rattle.sr_value.specs.declared.operator.Operator.TheVariants.{And as both, Or as either}
use Rattle.sr_value.specs.declared.shape.Sel.{Sel}
use Rattle.sr_value.specs.declared.shape.Sel.TheVariants.{At as at_one, At2 as at_two, Field as at_field}
use Rattle.sr_value.specs.declared.shape.Shape.{Shape}
use Rattle.sr_value.specs.declared.value.Value.{Value}
use Rattle.sr_value.specs.declared.value.Value.TheVariants.{Int, Bool as truth_value, Capa}
use Rattle.sr_value.specs.Operators.{value_of, value_of_one}
use Rattle.sr_value.specs.Parts.{part_of}
use Rattle.sr_ask.specs.Asking.{made, number, moment}
use Rattle.sr_ask.specs.Behaviors.{Doing, give, ◌>>=◌}
use Rattle.sr_ask.specs.Invocations.{values_sent, places_back, default_given as default_of, give_back as results_given, taken as reply_to, ensured as globals_ensured, created as instance_created, number_read as items_counted, at_end as counted_at_end, read_all as items_read}
use Rattle.sr_ask.specs.declared.environment.ReadTarget.{ReadTarget}
use Rattle.sr_ask.specs.declared.environment.Located.{Located}
use Rattle.sr_ask.specs.declared.environment.Sent.{Sent}
use Rattle.sr_ask.specs.declared.request.ReadKind.{ReadKind}
use Rattle.sr_ask.specs.declared.request.Request.TheVariants.{Invoke, Count, MakeVm, Age}
use Rattle.sr_core.specs.Applied.{applied}
use Rattle.sr_core.specs.Values.{truth_of, number_of, cap_of, member_of, count_of, array_of}
use Rattle.sr_core.specs.declared.component.Core.{Core}
use Rattle.sr_core.specs.declared.piece.Piece.{Piece}
use Rattle.sr_core.specs.declared.expression.Argument.TheFolds.{fold-Expr, fold-Argument, fold-Part, fold-PlaceExpr, fold-Reading, fold-Step}
use Rattle.sr_core.specs.declared.expression.Argument.TheOpen.{Argument-F, Expr-F, Part-F, Step-F, PlaceExpr-F, Reading-F}
use Rattle.sr_core.specs.declared.expression.Argument.{Argument}
use Rattle.sr_core.specs.declared.expression.Expr.{Expr}
use Rattle.sr_core.specs.declared.expression.Part.{Part}
use Rattle.sr_core.specs.declared.expression.Reading.{Reading}
use Rattle.sr_core.specs.declared.expression.Step.{Step}
use Rattle.sr_core.specs.declared.expression.PlaceExpr.{PlaceExpr}
use Rattle.sr_core.specs.declared.expression.Leaf.{Leaf}
use Rattle.sr_core.specs.declared.expression.Leaf.TheVariants.{Constant, Operation, MyResource, MyMachine, MakeMachine, Moment}
use Rattle.sr_core.specs.declared.expression.Readable.{Readable}
use Rattle.sr_core.specs.declared.owner.OperationOwner.{OperationOwner}
use Rattle.sr_core.specs.declared.owner.OperationOwner.TheVariants.{Mine, Imported, Process}
use Rattle.sr_meaning.specs.Here.{Here, asker, request, settle}
use Rattle.sr_meaning.specs.Places.{spot_of, load_place}

-- what each kind of part of an expression means
abbrev pub Meaning : Type 0 → Type 0
Meaning A = Here → Doing A

-- parts are evaluated from left to right
abbrev pub in_order : {A : Type 0} → List (Meaning A) → Meaning (List A)
in_order [] here = give []
in_order (part ∷ parts) here = part here >>= λ first. in_order parts here >>= λ rest. give (first ∷ rest)

abbrev pub choice : {A : Type 0} → Bool → Doing A → Doing A → Doing A
choice true one other = one
choice false one other = other

-- ---- leaves

-- An operation's capability names its owner. A process of an accepted program has a home for each import of its component.
abbrev pub owner_of : OperationOwner → Here → Owner
owner_of Mine here = Inst here.start.instance
owner_of (Imported at) here = Inst (unwrap_or (slice_get here.start.homes at) 0)
owner_of Process here = of_process here.start.process

abbrev pub leaf_meaning : Leaf → Meaning Value
leaf_meaning (Constant value) here = give value
leaf_meaning (Operation whose op) here = give (Capa (Op (owner_of whose here) op))
leaf_meaning MyResource here = give (Capa (Cap.Res here.start.instance))
leaf_meaning MyMachine here = give (Capa (Vm here.start.vm))
leaf_meaning (Leaf.Count op) here = request number (Count op) here >>= λ n. give (Int n)
leaf_meaning MakeMachine here = request made MakeVm here >>= λ name. give (Capa (Vm name))
leaf_meaning Moment here = request moment Age here >>= λ now. give (Int now)

-- ---- invocations

-- a call of `noop` gives the default of the returned type
abbrev pub default_given : Option Shape → Meaning Value
default_given returns here = default_of returns (asker here)

-- after a reply the results are stored in the order of the formals; `noop` leaves the arguments as they are
abbrev pub give_back : List Located → Option Shape → Option (List Value) → Meaning Value
give_back places returns results here = results_given places returns results (asker here)

-- the reply to one invocation
abbrev pub taken : ℕ → Meaning (Option (List Value))
taken id here = reply_to id (asker here)

-- the target, then the arguments, the invocation, its reply, and then the stores
abbrev pub called : Meaning Value → List (Meaning Sent) → Option Shape → Meaning Value
called target args returns here =
    target here >>= λ operation. settle (cap_of operation) here >>= λ cap.
    in_order args here >>= λ sent.
    request made (Invoke cap (values_sent sent) true) here >>= λ id.
    taken id here >>= λ reply.
    give_back (places_back sent) returns reply here

-- ---- create

-- each global is asked for until it is ready
abbrev pub ensured : List ℕ → Cap → Meaning (Unit {0})
ensured globals vm here = globals_ensured globals vm (asker here)

-- the globals that a component needs, each after those that it imports; a number without a component, as in no accepted program, needs none
abbrev pub needs_of : Core → ℕ → List ℕ
needs_of core component = unwrap_or (option_map (λ c. c.needs) (slice_get core.components component)) []

abbrev pub created : ℕ → List Value → Cap → Meaning Value
created resource args vm here = instance_created resource (needs_of here.core resource) args vm (asker here)

-- ---- read

abbrev pub kind_of : Readable → ReadKind
kind_of Readable.Int = ReadKind.Int
kind_of Readable.Bool = ReadKind.Bool
kind_of Readable.Char = ReadKind.Char
kind_of Readable.Str = ReadKind.Str

-- the number of items read, or -1 where the input had ended before the first
abbrev pub number_read : ℕ → Meaning Value
number_read count here = items_counted count (asker here)

abbrev pub at_end : ℕ → Meaning Value
at_end count here = counted_at_end count (asker here)

-- items are read and stored one after another, up to the first that isn't there or doesn't fit
abbrev pub read_all : ℕ → List ReadTarget → Meaning Value
read_all count read_targets here = items_read count read_targets (asker here)

-- ---- nodes

-- `and` doesn't evaluate the right side after false, nor `or` after true
abbrev pub node_meaning : Expr-F (Meaning Sent) (Meaning Value) (Meaning Piece) (Meaning Sel) (Meaning Located) (Meaning ReadTarget) → Meaning Value
node_meaning (Expr-F.Leaf leaf) here = leaf_meaning leaf here
node_meaning (Expr-F.Load place) here = place here >>= λ at. load_place at here
node_meaning (Expr-F.Unary op operand) here = operand here >>= λ x. settle (value_of_one op x) here
node_meaning (Expr-F.Binary op left right) here = left here >>= λ x. right here >>= λ y. settle (value_of op x y) here
node_meaning (Expr-F.And left right) here =
    left here >>= λ x. settle (truth_of x) here >>= λ truth.
    choice truth (right here >>= λ y. settle (value_of both x y) here) (give (truth_value false))
node_meaning (Expr-F.Or left right) here =
    left here >>= λ x. settle (truth_of x) here >>= λ truth.
    choice truth (give (truth_value true)) (right here >>= λ y. settle (value_of either x y) here)
node_meaning (Expr-F.Apply function args) here = in_order args here >>= λ values. settle (applied here.core.names function values) here
node_meaning (Expr-F.Array parts) here = in_order parts here >>= λ pieces. settle (array_of pieces) here
node_meaning (Expr-F.Of whole step) here = whole here >>= λ value. step here >>= λ sel. settle (part_of value sel) here
node_meaning (Expr-F.Member of op) here = of here >>= λ value. settle (cap_of value) here >>= λ cap. settle (member_of op cap) here
node_meaning (Expr-F.Call target args returns) here = called target args returns here
node_meaning (Expr-F.Create resource args machine) here =
    in_order args here >>= λ values. machine here >>= λ value. settle (cap_of value) here >>= λ vm. created resource values vm here
node_meaning (Expr-F.Read readings) here = in_order readings here >>= λ read_targets. read_all 0 read_targets here

-- the indices of a place are evaluated once
abbrev pub place_meaning : PlaceExpr-F (Meaning Sent) (Meaning Value) (Meaning Piece) (Meaning Sel) (Meaning Located) (Meaning ReadTarget) → Meaning Located
place_meaning place here = in_order place.path here >>= λ path. give (record { spot = spot_of place.root here; path = path })

abbrev pub step_meaning : Step-F (Meaning Sent) (Meaning Value) (Meaning Piece) (Meaning Sel) (Meaning Located) (Meaning ReadTarget) → Meaning Sel
step_meaning (Step-F.At index) here = index here >>= λ x. settle (number_of x) here >>= λ i. give (at_one i)
step_meaning (Step-F.At2 row column) here =
    row here >>= λ x. settle (number_of x) here >>= λ i. column here >>= λ y. settle (number_of y) here >>= λ j. give (at_two i j)
step_meaning (Step-F.Field field) here = give (at_field field)

-- `[n] e`: the count and then the value, once
abbrev pub part_meaning : Part-F (Meaning Sent) (Meaning Value) (Meaning Piece) (Meaning Sel) (Meaning Located) (Meaning ReadTarget) → Meaning Piece
part_meaning (Part-F.One value) here = value here >>= λ x. give (record { count = 1; value = x })
part_meaning (Part-F.Repeated count value) here =
    count here >>= λ n. settle (number_of n) here >>= λ number.
    value here >>= λ x. settle (count_of number) here >>= λ times. give (record { count = times; value = x })

-- a `var` argument sends what its place holds; a `res` argument sends nothing
abbrev pub argument_meaning : Argument-F (Meaning Sent) (Meaning Value) (Meaning Piece) (Meaning Sel) (Meaning Located) (Meaning ReadTarget) → Meaning Sent
argument_meaning (Argument-F.Val value) here = value here >>= λ x. give (record { value = Some x; back = None })
argument_meaning (Argument-F.Var place) here = place here >>= λ at. load_place at here >>= λ x. give (record { value = Some x; back = Some at })
argument_meaning (Argument-F.Res place) here = place here >>= λ at. give (record { value = None; back = Some at })

abbrev pub reading_meaning : Reading-F (Meaning Sent) (Meaning Value) (Meaning Piece) (Meaning Sel) (Meaning Located) (Meaning ReadTarget) → Meaning ReadTarget
reading_meaning reading here = reading.place here >>= λ at. give (record { kind = kind_of reading.kind; place = at })

-- ---- trees

-- what an expression asks and gives
abbrev pub expr_meaning : Expr → Meaning Value
expr_meaning = fold-Expr (Meaning Sent) (Meaning Value) (Meaning Piece) (Meaning Sel) (Meaning Located) (Meaning ReadTarget) argument_meaning node_meaning part_meaning step_meaning place_meaning reading_meaning

-- what a place asks, and the place
abbrev pub place_of_expr : PlaceExpr → Meaning Located
place_of_expr = fold-PlaceExpr (Meaning Sent) (Meaning Value) (Meaning Piece) (Meaning Sel) (Meaning Located) (Meaning ReadTarget) argument_meaning node_meaning part_meaning step_meaning place_meaning reading_meaning

-- what an argument asks, and what it sends
abbrev pub argument_of : Argument → Meaning Sent
argument_of = fold-Argument (Meaning Sent) (Meaning Value) (Meaning Piece) (Meaning Sel) (Meaning Located) (Meaning ReadTarget) argument_meaning node_meaning part_meaning step_meaning place_meaning reading_meaning

-- the same of one step of a place, of one part of a bracketed list, and of one place of a `read`
abbrev pub step_of_expr : Step → Meaning Sel
step_of_expr = fold-Step (Meaning Sent) (Meaning Value) (Meaning Piece) (Meaning Sel) (Meaning Located) (Meaning ReadTarget) argument_meaning node_meaning part_meaning step_meaning place_meaning reading_meaning

abbrev pub part_of_expr : Part → Meaning Piece
part_of_expr = fold-Part (Meaning Sent) (Meaning Value) (Meaning Piece) (Meaning Sel) (Meaning Located) (Meaning ReadTarget) argument_meaning node_meaning part_meaning step_meaning place_meaning reading_meaning

abbrev pub reading_of : Reading → Meaning ReadTarget
reading_of = fold-Reading (Meaning Sent) (Meaning Value) (Meaning Piece) (Meaning Sel) (Meaning Located) (Meaning ReadTarget) argument_meaning node_meaning part_meaning step_meaning place_meaning reading_meaning

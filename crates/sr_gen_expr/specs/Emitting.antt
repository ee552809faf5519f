-- What emitted code asks and does.
use Rattle.std.specs.Prelude.{◌≡◌, ℕ, true, false, List, [], ◌∷◌, length, Option, Some, None}
use Rattle.sr_value.specs.declared.operator.Operator.{Operator}
use Rattle.sr_value.specs.declared.operator.Operator.TheVariants.{And as both, Or as either}
use Rattle.sr_value.specs.declared.place.Place.{Place}
use Rattle.sr_value.specs.declared.shape.Sel.{Sel}
use Rattle.sr_value.specs.declared.shape.Shape.{Shape}
use Rattle.sr_value.specs.declared.value.Value.{Value}
use Rattle.sr_value.specs.declared.value.Value.TheVariants.{Bool as truth_value}
use Rattle.sr_value.specs.Operators.{value_of}
use Rattle.sr_value.specs.Parts.{part_of}
use Rattle.sr_ask.specs.Asking.{made}
use Rattle.sr_ask.specs.Behaviors.{give, ◌>>=◌}
use Rattle.sr_ask.specs.Invocations.{values_sent, places_back}
use Rattle.sr_ask.specs.declared.environment.Located.{Located}
use Rattle.sr_ask.specs.declared.environment.ReadTarget.{ReadTarget}
use Rattle.sr_ask.specs.declared.environment.Sent.{Sent}
use Rattle.sr_ask.specs.declared.request.Request.TheVariants.{Invoke}
use Rattle.sr_core.specs.Values.{cap_of, truth_of}
use Rattle.sr_core.specs.declared.component.Core.{Core}
use Rattle.sr_core.specs.declared.expression.Leaf.{Leaf}
use Rattle.sr_core.specs.declared.expression.Leaf.TheVariants.{Constant as leaf_constant, Operation as leaf_operation, MyResource as leaf_resource, MyMachine as leaf_machine, Count as leaf_count, MakeMachine as leaf_make, Moment as leaf_moment}
use Rattle.sr_code.specs.Acts.{point}
use Rattle.sr_code.specs.Operands.{join_argument, join_place, put_list, put_name, put_reading, put_targets, put_value}
use Rattle.sr_code.specs.Runs.{Machine, go}
use Rattle.sr_code.specs.Stretches.{Extends, Follows, Has}
use Rattle.sr_code.specs.declared.code.Coded.{Coded}
use Rattle.sr_code.specs.declared.instruction.Instruction.{Instruction}
use Rattle.sr_code.specs.declared.instruction.Instruction.TheVariants.{Constant, Operation, MyResource, MyMachine, Count, MakeMachine, Moment}
use Rattle.sr_code.specs.declared.operands.Operands.{Operands}
use Rattle.sr_meaning.specs.Expressions.{Meaning, choice, created, give_back, in_order, taken}
use Rattle.sr_meaning.specs.Here.{Here, request, settle}

-- the process of a machine at a line, as its trees are read
abbrev pub tree_here : Machine → Place → Here
tree_here m line = record { core = m.core; start = m.start; limit = m.limit; place = line }

-- The code between `old` and `new` asks what is meant, and goes on after it with the result put on the operands: in
-- any program of this core that has the code there, at every stage, whatever operands there are.
pub record Gives {A : Type 0} (put : A → Operands → Operands) (core : Core) (line : Place) (meaning : Meaning A) (old new : List Coded) : Type 0 where
  pub grows : Extends old new
  pub runs : (m : Machine) → m.core ≡ core → Has new (length old) (length new) m.code → (on : Operands)
      → Follows (go m (point (length new) on)) (meaning (tree_here m line)) (λ a. go m (point (length old) (put a on)))

-- nothing is put
abbrev pub put_nothing : {A : Type 0} → A → Operands → Operands
put_nothing a on = on

-- results one after another, each joined to the operand on top
abbrev pub join_all : {A : Type 0} → (A → Operands → Operands) → List A → Operands → Operands
join_all join [] on = on
join_all join (a ∷ rest) on = join_all join rest (join a on)

abbrev pub join_sent_value : Option Value → Operands → Operands
join_sent_value None on = on
join_sent_value (Some value) on = join_argument value on

abbrev pub join_sent_place : Option Located → Operands → Operands
join_sent_place None on = on
join_sent_place (Some place) on = join_place place on

-- what an argument adds to a call
abbrev pub join_sent : Sent → Operands → Operands
join_sent sent on = join_sent_place sent.back (join_sent_value sent.value on)

-- The same for code that begins with an operand on top.
pub record Takes {A B : Type 0} (held : A → Operands → Operands) (put : A → B → Operands → Operands) (core : Core) (line : Place) (work : A → Meaning B) (old new : List Coded) : Type 0 where
  pub grows : Extends old new
  pub runs : (m : Machine) → m.core ≡ core → Has new (length old) (length new) m.code → (a : A) (on : Operands)
      → Follows (go m (point (length new) (held a on))) (work a (tree_here m line)) (λ b. go m (point (length old) (put a b on)))

-- only the result is left
abbrev pub put_only : {A B : Type 0} → (B → Operands → Operands) → A → B → Operands → Operands
put_only put a b on = put b on

-- what was on top stays there
abbrev pub keep_top : {A B : Type 0} → (A → Operands → Operands) → A → B → Operands → Operands
keep_top held a b on = held a on

-- ---- parts of constructs

-- an operator whose left operand is there
abbrev pub operand_meaning : Operator → Meaning Value → Value → Meaning Value
operand_meaning op right x here = right here >>= λ y. settle (value_of op x y) here

-- `and`, and `or`, whose left side is there
abbrev pub and_meaning : Meaning Value → Value → Meaning Value
and_meaning right x here = settle (truth_of x) here >>= λ truth. choice truth (operand_meaning both right x here) (give (truth_value false))

abbrev pub or_meaning : Meaning Value → Value → Meaning Value
or_meaning right x here = settle (truth_of x) here >>= λ truth. choice truth (give (truth_value true)) (operand_meaning either right x here)

-- the part of a value that a step selects
abbrev pub part_meaning_of : Meaning Sel → Value → Meaning Value
part_meaning_of step value here = step here >>= λ sel. settle (part_of value sel) here

-- the number of an invocation, and the places for its results
abbrev pub put_invoked : ℕ × List Located → Operands → Operands
put_invoked invoked on = put_name invoked.0 (put_targets invoked.1 on)

-- the reply to an invocation, and what follows it
abbrev pub answer_meaning : Option Shape → ℕ × List Located → Meaning Value
answer_meaning returns invoked here = taken invoked.0 here >>= λ reply. give_back invoked.1 returns reply here

-- a call whose target is there
abbrev pub call_meaning : List (Meaning Sent) → Option Shape → Value → Meaning Value
call_meaning args returns target here =
    settle (cap_of target) here >>= λ cap.
    in_order args here >>= λ sent.
    request made (Invoke cap (values_sent sent) true) here >>= λ id.
    answer_meaning returns (id, places_back sent) here

-- places that are still to be read into
abbrev pub put_places : List ReadTarget → Operands → Operands
put_places targets on = put_reading (record { targets = targets; count = 0 }) on

-- a list of arguments, and the machine of a `create`
abbrev pub put_arguments : List Value × Value → Operands → Operands
put_arguments arguments on = put_value arguments.1 (put_list arguments.0 on)

-- a `create` whose arguments and machine are there
abbrev pub create_meaning : ℕ → List Value × Value → Meaning Value
create_meaning resource arguments here = settle (cap_of arguments.1) here >>= λ vm. created resource arguments.0 vm here

-- ---- leaves

-- the instruction of a leaf
abbrev pub instruction_of : Leaf → Instruction
instruction_of (leaf_constant value) = Constant value
instruction_of (leaf_operation whose op) = Operation whose op
instruction_of leaf_resource = MyResource
instruction_of leaf_machine = MyMachine
instruction_of (leaf_count op) = Count op
instruction_of leaf_make = MakeMachine
instruction_of leaf_moment = Moment

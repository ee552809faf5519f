-- What the reference interpreter holds, as a stage of the process, and what it has found.
use Rattle.std.specs.Prelude.{◌≡◌, ℕ, true, false, List, [], ◌∷◌, reverse, Option, Some, None, Result, Ok, Err}
use Rattle.sr_value.specs.declared.operator.Operator.{Operator}
use Rattle.sr_value.specs.declared.operator.Operator.TheVariants.{And as both, Or as either}
use Rattle.sr_value.specs.declared.shape.Sel.{Sel}
use Rattle.sr_value.specs.declared.shape.Shape.{Shape}
use Rattle.sr_value.specs.declared.value.Value.{Value}
use Rattle.sr_value.specs.declared.value.Value.TheVariants.{Bool as truth_value}
use Rattle.sr_value.specs.Operators.{value_of}
use Rattle.sr_value.specs.Parts.{part_of}
use Rattle.sr_ask.specs.Behaviors.{Stage, Outcome, Came, Stops, asking, give, ◌>>=◌}
use Rattle.sr_ask.specs.declared.answer.Answer.{Answer}
use Rattle.sr_ask.specs.declared.ask.Asks.{Asks}
use Rattle.sr_meaning.specs.Expressions.{Meaning, choice, created, in_order}
use Rattle.sr_meaning.specs.Here.{Here, settle}
use Rattle.sr_meaning.specs.Laws.{after_arguments}
use Rattle.sr_core.specs.Values.{cap_of, member_of, truth_of}
use Rattle.sr_core.specs.declared.component.Core.{Core}
use Rattle.sr_ask.specs.declared.environment.Sent.{Sent}
use Rattle.sr_interpreter_expr.specs.declared.scene.Scene.{Scene}
use Rattle.sr_interpreter_expr.specs.declared.stop.Stop.{Stop}
use Rattle.sr_interpreter_expr.specs.declared.stop.Stop.TheVariants.{Asks as stopped, NoMemory as out_of_memory}
use Rattle.sr_interpreter_expr.specs.declared.interpreter.Interpreter.{Interpreter}

-- the reference interpreter keeps its answers with the next one last
abbrev pub stage_of : Interpreter → Stage
stage_of interpreter = record {
  ticks = interpreter.ticks;
  answers = reverse interpreter.answers;
  own = interpreter.own;
  service = interpreter.service;
  out = interpreter.out;
}

-- of a program that has a core
abbrev pub here_of : {C : Type 0} → (C → Core) → Scene C → Here
here_of core_of scene = record { core = core_of scene.program.now; start = scene.start.now; limit = scene.limit; place = scene.place }

-- it found what is meant, unless memory ran out
abbrev pub Agrees : {A : Type 0} → Outcome A → Result A Stop → Stage → Type 0
Agrees meant (Ok a) stage = meant ≡ Came a stage
Agrees meant (Err (stopped asks)) stage = meant ≡ Stops asks
Agrees meant (Err out_of_memory) stage = Unit {0}

-- the next answer is used, where there is one
abbrev pub UsesNextAnswer : Stage → Option Answer → Stage → Type 0
UsesNextAnswer old None new = (old.answers ≡ []) × (new ≡ old)
UsesNextAnswer old (Some answer) new = old ≡ record new { answers = answer ∷ new.answers }

-- whatever was asked, the first answer of the form is what the process hears
abbrev pub HearsAnswer : {A : Type 0} → (Answer → Option A) → ℕ → Stage → Option A → Stage → Type 0
HearsAnswer takes limit old None new = (asks : Asks) → asking takes asks limit old ≡ Stops asks
HearsAnswer takes limit old (Some a) new = (asks : Asks) → asking takes asks limit old ≡ Came a new

-- ---- pieces of expressions

-- an operator whose left operand is there
abbrev pub after_operand : Operator → Value → Meaning Value → Meaning Value
after_operand op x right here = right here >>= λ y. settle (value_of op x y) here

-- `and`, and `or`, whose left side is there
abbrev pub after_and : Value → Meaning Value → Meaning Value
after_and x right here =
    settle (truth_of x) here >>= λ truth. choice truth (after_operand both x right here) (give (truth_value false))

abbrev pub after_or : Value → Meaning Value → Meaning Value
after_or x right here =
    settle (truth_of x) here >>= λ truth. choice truth (give (truth_value true)) (after_operand either x right here)

-- a part of a value that is there
abbrev pub after_whole : Value → Meaning Sel → Meaning Value
after_whole value step here = step here >>= λ sel. settle (part_of value sel) here

-- `r.f`, where `r` is there
abbrev pub after_resource : ℕ → Value → Meaning Value
after_resource op value here = settle (cap_of value) here >>= λ cap. settle (member_of op cap) here

-- a call whose target is there
abbrev pub after_target : Value → List (Meaning Sent) → Option Shape → Meaning Value
after_target target args returns here =
    settle (cap_of target) here >>= λ cap. in_order args here >>= λ sent. after_arguments cap sent returns here

-- `create` whose arguments are there
abbrev pub after_values : ℕ → List Value → Meaning Value → Meaning Value
after_values resource values machine here =
    machine here >>= λ value. settle (cap_of value) here >>= λ vm. created resource values vm here

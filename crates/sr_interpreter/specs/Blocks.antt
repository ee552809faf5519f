-- Blocks, and what runs them, as the reference interpreter carries them out.
use Rattle.std.specs.Prelude.{ℕ, ℤ, List, Option, slice_get}
use Rattle.sr_value.specs.declared.value.Value.{Value}
use Rattle.sr_ask.specs.Behaviors.{give, ◌>>=◌, tick}
use Rattle.sr_ask.specs.declared.environment.Out.{Out}
use Rattle.sr_core.specs.declared.expression.Expr.{Expr}
use Rattle.sr_meaning.specs.declared.ending.Ending.{Ending}
use Rattle.sr_meaning.specs.declared.ending.Ending.TheVariants.{Through}
use Rattle.sr_interpreter.specs.declared.inner.Inner.{Inner}
use Rattle.sr_interpreter.specs.declared.inner.Inner.TheVariants.{Block, Call}
use Rattle.sr_meaning.specs.Expressions.{Meaning, choice}
use Rattle.sr_meaning.specs.Statements.{CoPart, after_turn, block_of, complete, condition_meaning, int_own, start_call, take_one}
use Rattle.sr_ask.specs.Places.{declare_own}
use Rattle.sr_meaning.specs.Pieces.{call_part}

-- one value of a quantifier, with its tick: whether the loop ends, and how
abbrev pub value_turn : ℕ → Option Expr → Meaning Ending → ℤ → Meaning (Option Ending)
value_turn var condition inner n here =
    tick >>= λ _. declare_own var (int_own n) >>= λ _. condition_meaning condition here >>= λ truth.
    choice truth (inner here) (give Through) >>= λ ending. give (after_turn ending)

-- what stands after quantifiers
abbrev pub inner_meaning : Inner → Meaning Ending
inner_meaning (Block statements) = block_of statements.now
inner_meaning (Call arm call quantifiers) = start_call arm (call_part quantifiers.now call.now)

-- a reply to an invocation that is out, and what it leads to
abbrev pub completing : Out → Option (List Value) → Option CoPart → Meaning (Option Ending)
completing out results part here = complete (record { out = out; results = results }) part here >>= λ ending. give (after_turn ending)

-- the next reply of a `co`, and what it leads to
abbrev pub next_completion : List CoPart → Meaning (Option Ending)
next_completion parts here = take_one here >>= λ completion. completing completion.out completion.results (slice_get parts completion.out.arm) here

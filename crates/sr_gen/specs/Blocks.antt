-- Blocks, and what stands after quantifiers, as code is emitted for them.
use Rattle.std.specs.Prelude.{ℤ, List}
use Rattle.sr_ask.specs.Behaviors.{give, ◌>>=◌}
use Rattle.sr_core.specs.Values.{values_of}
use Rattle.sr_core.specs.declared.statement.Quantifier.{Quantifier}
use Rattle.sr_gen.specs.declared.inner.Inner.{Inner}
use Rattle.sr_gen.specs.declared.inner.Inner.TheVariants.{Block, Call}
use Rattle.sr_meaning.specs.declared.ending.Ending.{Ending}
use Rattle.sr_meaning.specs.Expressions.{Meaning}
use Rattle.sr_meaning.specs.Here.{settle}
use Rattle.sr_meaning.specs.Pieces.{call_part}
use Rattle.sr_meaning.specs.Statements.{block_meaning, block_of, left, number_expr, quantified, start_call}

-- what stands after quantifiers
abbrev pub inner_meaning : Inner → Meaning Ending
inner_meaning (Block statements) = block_of statements.now
inner_meaning (Call arm call quantifiers) = start_call arm (call_part quantifiers.now call.now)

-- what a `fa` asks after its tick
abbrev pub fa_meaning : List Quantifier → List (Meaning Ending) → Meaning Ending
fa_meaning quantifiers body here = quantified quantifiers (block_meaning body) here >>= λ ending. give (left ending)

-- the bounds and the step of a quantifier, and its values
abbrev pub bounds_meaning : Quantifier → Meaning (List ℤ)
bounds_meaning q here =
    number_expr q.from here >>= λ from. number_expr q.to here >>= λ to. number_expr q.by here >>= λ by. settle (values_of q.direction from to by) here

-- How much there is to carry out after quantifiers.
use Rattle.std.proofs.Common.{ℕ}
use Rattle.sr_interpreter.specs.declared.inner.Inner.{Inner}
use Rattle.sr_interpreter.specs.declared.inner.Inner.TheVariants.{Block, Call}
use Rattle.sr_meaning.proofs.Weights.{weight_of_block}

abbrev pub weight_of_inner : Inner → ℕ
weight_of_inner (Block statements) = weight_of_block statements.now
weight_of_inner (Call arm call quantifiers) = 0

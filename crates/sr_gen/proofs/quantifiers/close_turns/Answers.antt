use Rattle.std.proofs.Common.{ap, refl}
use Rattle.sr_code.specs.declared.instruction.Instruction.TheVariants.{Each}
use Rattle.sr_gen.proofs.Enclosed.{encloses_turns}
use Rattle.sr_gen.proofs.Loops.{patches_with}
use Rattle.sr_gen.proofs.quantifiers.close_turns.Goals as goal

pub returns : goal.returns
returns c =
    encloses_turns c.args.quantifier.now c.args.turns c.in_ok-gen_condition.ensures (patches_with (ap (Each c.args.quantifier.now.var) c.len.ensures) refl c.patch.ensures) c.in_ok-emit.ensures c.in_ok-gen_bounds.ensures

-- What the blocks of a statement mean, each by itself.
use Rattle.std.specs.Prelude.{List, map, Option, option_map}
use Rattle.sr_ask.specs.Behaviors.{give}
use Rattle.sr_core.specs.declared.statement.CoArm.{CoArm}
use Rattle.sr_core.specs.declared.statement.CoCall.{CoCall}
use Rattle.sr_core.specs.declared.statement.Guarded.{Guarded}
use Rattle.sr_core.specs.declared.statement.Quantifier.{Quantifier}
use Rattle.sr_core.specs.declared.statement.Statement.{Statement}
use Rattle.sr_core.specs.declared.statement.Statement.TheFolds.{fold-CoArm, fold-Guarded}
use Rattle.sr_meaning.specs.declared.ending.Ending.{Ending}
use Rattle.sr_meaning.specs.declared.ending.Ending.TheVariants.{Through}
use Rattle.sr_meaning.specs.Expressions.{Meaning}
use Rattle.sr_meaning.specs.Statements.{CoPart, co_arm_meaning, guarded_meaning, meaning_of, statement_meaning}

-- what a guarded block means
abbrev pub guarded_of : Guarded → Meaning (Option Ending)
guarded_of = fold-Guarded (Meaning Ending) CoPart (Meaning (Option Ending)) statement_meaning co_arm_meaning guarded_meaning

-- what an arm of a `co` means
abbrev pub co_part_of : CoArm → CoPart
co_part_of = fold-CoArm (Meaning Ending) CoPart (Meaning (Option Ending)) statement_meaning co_arm_meaning guarded_meaning

-- what the block after `else` means, where there is one
abbrev pub optional_block : Option (List Statement) → Option (List (Meaning Ending))
optional_block block = option_map (map meaning_of) block

-- what the blocks of the arms of an `in` mean
abbrev pub each_block : List (List Statement) → List (List (Meaning Ending))
each_block blocks = map (map meaning_of) blocks

-- the quantifiers and the invocation of an arm of a `co`
abbrev pub call_part : List Quantifier → CoCall → CoPart
call_part quantifiers call = record { quantifiers = quantifiers; call = call; body = λ here. give Through }

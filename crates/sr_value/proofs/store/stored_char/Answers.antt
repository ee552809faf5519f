use Rattle.std.proofs.Common.{rules}
use Rattle.sr_value.proofs.FitLemmas.{fitted-char}
use Rattle.sr_value.proofs.store.stored_char.Goals as goal

pub returns-in-Char : goal.returns-in-Char
returns-in-Char c = let e = fitted-char c.args.value.now in search rules

pub returns-in_default : goal.returns-in_default
returns-in_default c = let e = fitted-char c.args.value.now in search rules

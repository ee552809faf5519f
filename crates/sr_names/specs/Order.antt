-- Which of two broken rules counts.
use Rattle.std.specs.Prelude.{ℕ, Bool, ◌&&◌, ◌||◌, nat_lt}
use Rattle.sr_names.specs.declared.finding.Rule.{Rule}
use Rattle.sr_names.specs.declared.finding.Rule.TheVariants.{Name, Twice, BadType, BadUse, Guard, Main, Cycle}
use Rattle.sr_names.specs.declared.finding.Diagnostic.{Diagnostic}
use Rattle.sr_names.specs.Spots.{spot_of, same_spot, spot_before}

abbrev pub rule_number : Rule → ℕ
rule_number Name = 4
rule_number Twice = 5
rule_number BadType = 6
rule_number BadUse = 7
rule_number Guard = 8
rule_number Main = 9
rule_number Cycle = 12

-- the first by file and byte counts, and at one token the lowest number
abbrev pub goes_before : Diagnostic → Diagnostic → Bool
goes_before a b = spot_before (spot_of a.span) (spot_of b.span) || (same_spot (spot_of a.span) (spot_of b.span) && nat_lt (rule_number a.rule) (rule_number b.rule))

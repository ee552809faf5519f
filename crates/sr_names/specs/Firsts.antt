-- Of several broken rules the first counts.
use Rattle.std.specs.Prelude.{Option, Some, None, if◌then◌else◌}
use Rattle.sr_names.specs.declared.finding.Diagnostic.{Diagnostic}
use Rattle.sr_names.specs.Order.{goes_before}

abbrev pub first_of_both : Option Diagnostic → Diagnostic → Diagnostic
first_of_both None diagnostic = diagnostic
first_of_both (Some kept) diagnostic = if goes_before diagnostic kept then diagnostic else kept

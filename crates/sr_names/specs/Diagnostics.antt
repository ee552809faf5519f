-- What findings leave.
use Rattle.std.specs.Prelude.{List, [], Some, None, fold}
use Rattle.sr_names.specs.declared.finding.Finding.{Finding}
use Rattle.sr_names.specs.declared.finding.Finding.TheVariants.{Use, Broken}
use Rattle.sr_names.specs.declared.diagnostics.Diagnostics.{Diagnostics}
use Rattle.sr_names.specs.Firsts.{first_of_both}
use Rattle.sr_names.specs.Uses.{with_use}

abbrev pub nothing : Diagnostics
nothing = record { uses = []; first = None }

-- a use is kept with its meaning, and of the broken rules the first is kept
abbrev pub noted : Diagnostics → Finding → Diagnostics
noted diagnostics (Use spot meaning) = record diagnostics { uses = with_use diagnostics.uses spot meaning }
noted diagnostics (Broken diagnostic) = record diagnostics { first = Some (first_of_both diagnostics.first diagnostic) }

-- what a list of findings leaves
abbrev pub all_noted : Diagnostics → List Finding → Diagnostics
all_noted diagnostics findings = fold noted diagnostics findings

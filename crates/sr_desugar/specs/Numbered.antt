-- That each number in the code of a core names something.
use Rattle.std.specs.Prelude.{Bool}
use Rattle.std.specs.List.{list_all}
use Rattle.sr_core.specs.declared.component.Core.{Core}
use Rattle.sr_core.specs.Numbers.{numbers_ok}
use Rattle.sr_core.specs.Tests.{codes_of}
use Rattle.sr_desugar.specs.Core.{LoweredComponent}

-- the initial and the final code of every component
abbrev pub codes_numbered : Core → Bool
codes_numbered core = list_all (λ component. list_all (numbers_ok core component) (codes_of component)) core.components

-- each proc that stands in a component
abbrev pub procs_numbered : Core → LoweredComponent → Bool
procs_numbered core whole = list_all (λ proc. numbers_ok core whole.component proc.body) whole.procs

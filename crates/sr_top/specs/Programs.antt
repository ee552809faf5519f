-- What the files of a program are compiled to.
use Rattle.sr_compiled.specs.declared.compiled.Compiled.{Compiled}
use Rattle.sr_core.specs.declared.component.Core.{Core}
use Rattle.sr_core.specs.declared.owner.Classes.{Classes}

-- the core of a program
abbrev pub core_in : Compiled → Core
core_in compiled = compiled.program.core

-- the classes of its operations
abbrev pub classes_in : Compiled → Classes
classes_in compiled = compiled.program.classes

-- The core of the files of a program that is accepted, and the classes of its operations.
use Rattle.std.specs.Prelude.{◌≡◌, ℕ, List, length}
use Rattle.sr_classes.specs.Classes.{AreClasses, groups_of}
use Rattle.sr_core.specs.declared.component.Core.{Core}
use Rattle.sr_core.specs.declared.owner.Classes.{Classes}
use Rattle.sr_desugar.specs.Core.{core_of}
use Rattle.sr_front.specs.declared.program.Checked.{Checked}
use Rattle.sr_front.specs.Program.{IsAccepted}

-- the trees with each abbreviation written out, and the least classes in which operations of one `in` are together
pub record IsWrittenOut (accepted : Checked) (made : Core × Classes) : Type 0 where
  pub core : made.0 ≡ core_of accepted.trees accepted.facts
  pub classes : AreClasses (groups_of made.0) (length made.0.operations) made.1.of

-- the files are accepted, and this is their program written out
pub record IsCoreOf (contents : List (List ℕ)) (made : Core × Classes) : Type 0 where
  pub accepted : Checked
  pub is_accepted : IsAccepted contents accepted
  pub written_out : IsWrittenOut accepted made

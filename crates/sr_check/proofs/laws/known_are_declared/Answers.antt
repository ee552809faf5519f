-- What is entered of operations is what is declared.
use Rattle.std.proofs.Common.{false, refl}
use Rattle.sr_check_decl.specs.Inferring.{program_known}
use Rattle.sr_check.proofs.Kept.{after_known, uses_kept}
use Rattle.sr_check.proofs.Owners.{known_now}
use Rattle.sr_check.proofs.Programs.{IsDeclaredIn, program_plain}
use Rattle.sr_check.proofs.laws.known_are_declared.Goals as goal

pub returns : goal.returns
returns c = record {
  before = λ uses specs files spot component is_local ty is. known_now (IsDeclaredIn files) (program_known uses specs files) (program_plain uses specs files).1 spot ty component is_local is;
  after = λ uses specs files spot component is_local ty is. (after_known uses specs files spot ty component is_local is).0;
  shared = λ uses specs files spot component ty is. (after_known uses specs files spot ty component false is).1 refl;
  uses = uses_kept;
}

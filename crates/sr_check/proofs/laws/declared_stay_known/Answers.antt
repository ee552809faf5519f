-- What is read enters no operation, but in blocks of procs.
use Rattle.std.proofs.Common.{Bool, List, refl}
use Rattle.sr_names.specs.declared.spot.Spot.{Spot}
use Rattle.sr_tree.specs.declared.component.File.{File}
use Rattle.sr_types.specs.declared.ty.Ty.{Ty}
use Rattle.sr_check_expr.specs.declared.facts.Facts.{Facts}
use Rattle.sr_check.specs.Owners.{Known}
use Rattle.sr_check.specs.Quantifying.{quantifiers_known}
use Rattle.sr_check.specs.Services.{service_bound}
use Rattle.sr_check.specs.Statements.{arm_read, block_item_read, statement_read}
use Rattle.sr_check.proofs.Owners.{Sound, known_now}
use Rattle.sr_check.proofs.Programs.{IsDeclaredIn}
use Rattle.sr_check.proofs.Reading.{keeps_arm, keeps_block_item, keeps_quantifiers, keeps_service, keeps_statement}
use Rattle.sr_check.proofs.laws.declared_stay_known.Goals as goal

abbrev Here : List File → Facts → Facts → Type 0
Here files facts = Sound (IsDeclaredIn files) facts.uses facts.here.component.spot

stays : (files : List File) (before after : Facts) → (Here files before before → Here files before after) → Known files before → Known files after
stays files before after keeps k spot component is_local ty is =
    known_now (IsDeclaredIn files) after (keeps (refl, (refl, λ s t c l e more keeps. k s c l t e))).1.1 spot ty component is_local is

pub returns : goal.returns
returns c = record {
  statement = λ files tree context. stays files context.facts (statement_read tree context).facts (keeps_statement (IsDeclaredIn files) context.facts.uses context.facts.here.component.spot tree context);
  item = λ files tree context. stays files context.facts (block_item_read tree context).facts (keeps_block_item (IsDeclaredIn files) context.facts.uses context.facts.here.component.spot tree context);
  arm = λ files tree span context. stays files context.facts ((arm_read tree).steps span context).facts (keeps_arm (IsDeclaredIn files) context.facts.uses context.facts.here.component.spot tree span context);
  service = λ files formals returned ty facts. stays files facts (service_bound formals returned ty facts) (keeps_service (IsDeclaredIn files) facts.uses facts.here.component.spot formals returned ty facts);
  quantifiers = λ files quantifiers facts. stays files facts (quantifiers_known facts quantifiers) (keeps_quantifiers (IsDeclaredIn files) facts.uses facts.here.component.spot quantifiers facts);
}

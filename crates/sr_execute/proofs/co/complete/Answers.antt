use Rattle.std.proofs.Common.{Option, refl, sym, ap, subst, ◌∙◌}
use Rattle.sr_ask.specs.declared.answer.Answer.{Answer}
use Rattle.sr_code.specs.declared.instruction.Instruction.TheVariants.{TakeReply}
use Rattle.sr_execute.specs.Executes.{Leads, Moved}
use Rattle.sr_execute.specs.Meant.{resumes}
use Rattle.sr_frame.proofs.Drops.{first_out}
use Rattle.sr_execute.proofs.Taking.{took_at, took_none}
use Rattle.sr_execute.proofs.co.complete.Goals as goal

pub complete_at-requires-clause-first : goal.complete_at-requires-clause-first
complete_at-requires-clause-first c =
    first_out c.in-Took.id c.args.frame.now.out c.in-Some.at c.in-Some.ensures

pub returns-in-Some : goal.returns-in-Some
returns-in-Some c =
    let found = c.in-Some.ensures in
    let leads = ap (λ (answer : Answer). resumes (TakeReply c.args.arms.now) c.args.next c.args.frame.now answer) c.in-Took.is
    ∙ took_at c.args.arms.now c.args.next c.args.frame.now c.in-Took.id c.in-Some.at c.in-Took.results found in
    subst (λ (meant : Option Moved). Leads c.complete_at.result c.args.frame.now c.complete_at.new.frame meant) (sym leads) c.complete_at.ensures

pub returns-in-Took : goal.returns-in-Took
returns-in-Took c =
    let found = c.in-None.ensures in (
      ap (λ (answer : Answer). resumes (TakeReply c.args.arms.now) c.args.next c.args.frame.now answer) c.in-Took.is
          ∙ took_none c.args.arms.now c.args.next c.args.frame.now c.in-Took.id c.in-Took.results found,
      refl,
    )

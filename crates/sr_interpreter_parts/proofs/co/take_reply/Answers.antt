-- The numbers that were asked for are those of the invocations that are out.
use Rattle.std.proofs.Common.{map, ap, ◌∙◌}
use Rattle.sr_ask.specs.declared.environment.Out.{Out}
use Rattle.sr_ask.specs.declared.request.Request.TheVariants.{Take}
use Rattle.sr_meaning.specs.Here.{ask_of}
use Rattle.sr_interpreter_expr.specs.Interpreters.{here_of, stage_of}
use Rattle.sr_interpreter_parts.proofs.Replies.{reply_first_ids}
use Rattle.sr_interpreter_parts.proofs.co.take_reply.Goals as goal

pub returns-clause-first : goal.returns-clause-first
returns-clause-first g c =
    let here = here_of g.C.HasCore.core_of c.args.scene.now in
    let same = c.in_ok-ids.ensures ∙ ap (map (λ (out : Out). out.id)) c.as_slice.ensures in
    reply_first_ids c.in_ok-ids.ids (ask_of (Take c.in_ok-copy.field-0) here) here.limit (stage_of c.args.interpreter.now) c.ask.result (stage_of c.ask.new.interpreter) same c.ask.ensures

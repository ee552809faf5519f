use Rattle.std.proofs.Common.{ap, ◌∙◌, length}
use Rattle.std.specs.List.{count_by}
use Rattle.sr_queue.specs.Classes.{same_class}
use Rattle.sr_queue.specs.Lines.{numbers_of}
use Rattle.sr_queue.proofs.IndexLemmas.{length-numbers_in}
use Rattle.sr_queue.proofs.index.Index.count.Goals as goal

pub returns-in-Some : goal.returns-in-Some
returns-in-Some c =
    c.len.ensures ∙ c.in-Some.line.now.ok.0
    ∙ ap length (ap numbers_of c.in-Some.ensures.value ∙ c.self.invariant.lines c.args.class)
    ∙ length-numbers_in c.args.class c.self.inside.entries.items ∙ ap (count_by (same_class c.args.class)) c.self.view_is

pub returns-in-None : goal.returns-in-None
returns-in-None c =
    ap length (ap numbers_of c.in-None.ensures.value ∙ c.self.invariant.lines c.args.class)
    ∙ length-numbers_in c.args.class c.self.inside.entries.items ∙ ap (count_by (same_class c.args.class)) c.self.view_is

-- The mentions so far and those of the rest are those of all.
use Rattle.std.proofs.Common.{◌≡◌, ◌++◌, drop, map}
use Rattle.sr_tables.specs.Lists.{lists}
use Rattle.sr_tables.specs.Sites.{mentions_in, mentions_in_step, mentions_in_part, mentions_in_argument, mentions_in_reading}
use Rattle.sr_tables.proofs.sites.+mentions.Given as goal

abbrev pub invariant-note_exprs-loop-expr : goal.invariant-note_exprs-loop-expr
invariant-note_exprs-loop-expr l = l.all ++ lists (map mentions_in (drop l.expr-index l.exprs)) ≡ l.fn.all ++ lists (map mentions_in l.exprs)

abbrev pub invariant-note_steps-loop-step : goal.invariant-note_steps-loop-step
invariant-note_steps-loop-step l = l.all ++ lists (map mentions_in_step (drop l.step-index l.steps)) ≡ l.fn.all ++ lists (map mentions_in_step l.steps)

abbrev pub invariant-note_parts-loop-part : goal.invariant-note_parts-loop-part
invariant-note_parts-loop-part l = l.all ++ lists (map mentions_in_part (drop l.part-index l.parts)) ≡ l.fn.all ++ lists (map mentions_in_part l.parts)

abbrev pub invariant-note_arguments-loop-arg : goal.invariant-note_arguments-loop-arg
invariant-note_arguments-loop-arg l = l.all ++ lists (map mentions_in_argument (drop l.arg-index l.args)) ≡ l.fn.all ++ lists (map mentions_in_argument l.args)

abbrev pub invariant-note_readings-loop-reading : goal.invariant-note_readings-loop-reading
invariant-note_readings-loop-reading l = l.all ++ lists (map mentions_in_reading (drop l.reading-index l.readings)) ≡ l.fn.all ++ lists (map mentions_in_reading l.readings)

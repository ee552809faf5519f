-- The spans of a file are picked from its tokens.
use Rattle.sr_order.proofs.Files.{statements-picked, operations-picked, components-picked}
use Rattle.sr_order.proofs.laws.spans_are_picked.Goals as goal

pub returns : goal.returns
returns c = record { statements = statements-picked; operations = operations-picked; components = components-picked }

-- The spans of a file are picked from its tokens, which are in order.
use Rattle.sr_order.specs.Names.{file_names}
use Rattle.sr_order.specs.Spans.{statement_spans, operation_spans, component_spans}
use Rattle.sr_order.proofs.FileNames.{names-picked}
use Rattle.sr_order.proofs.Files.{statements-picked, operations-picked, components-picked}
use Rattle.sr_front.proofs.Names.SpotsApart.{spots-apart}
use Rattle.sr_front.proofs.laws.spots_apart.Goals as goal

pub returns : goal.returns
returns c = record {
  statements = spots-apart statement_spans statements-picked;
  operations = spots-apart operation_spans operations-picked;
  components = spots-apart component_spans components-picked;
  names = spots-apart file_names names-picked;
}

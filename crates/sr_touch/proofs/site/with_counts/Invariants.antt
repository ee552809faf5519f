-- The parts so far and those of the rest give all.
use Rattle.std.proofs.Common.{◌≡◌, drop}
use Rattle.std.specs.Prelude.{IfSome, filter_map, option_map}
use Rattle.sr_classes.specs.Classes.{class_of}
use Rattle.sr_touch.specs.Orders.{IsAscending, all_added, parts_in}
use Rattle.sr_touch.specs.Touched.{count_part}
use Rattle.sr_touch.proofs.site.with_counts.Given as goal

abbrev pub invariant-loop-op : goal.invariant-loop-op
invariant-loop-op l = record {
  rest : all_added (option_map parts_in l.parts) (filter_map (count_part l.core (class_of l.classes.of) l.me) (drop l.op-index l.counts))
      ≡ all_added (option_map parts_in l.initial.parts) (filter_map (count_part l.core (class_of l.classes.of) l.me) l.counts);
  ascending : IfSome l.parts IsAscending;
}

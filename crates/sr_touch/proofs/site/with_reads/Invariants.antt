-- The parts so far and those of the rest give all.
use Rattle.std.proofs.Common.{◌≡◌, drop}
use Rattle.std.specs.Prelude.{IfSome, filter_map, option_map}
use Rattle.sr_touch.specs.Orders.{IsAscending, all_added, parts_in}
use Rattle.sr_touch.specs.Touched.{read_part}
use Rattle.sr_touch.proofs.site.with_reads.Given as goal

abbrev pub invariant-loop-read : goal.invariant-loop-read
invariant-loop-read l = record {
  rest : all_added (option_map parts_in l.parts) (filter_map (read_part l.me l.names l.env) (drop l.read-index l.reads))
      ≡ all_added (option_map parts_in l.initial.parts) (filter_map (read_part l.me l.names l.env) l.reads);
  ascending : IfSome l.parts IsAscending;
}

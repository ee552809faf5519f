-- The file that failed comes after those that were read.
use Rattle.std.proofs.Common.{rules, subst, sym}
use Rattle.std.specs.List.{AllByRecursion}
use Rattle.sr_top.proofs.Readings.{all_pushed, failed_at, named_on, read_of, reads-more}
use Rattle.sr_top.specs.Reading.{IsRead, IsUnread, reads_by}
use Rattle.sr_top.proofs.reading.read_files.Goals as goal

pub returns-in-Err-Failed-clause-ends : goal.returns-in-Err-Failed-clause-ends
returns-in-Err-Failed-clause-ends g c = (
  subst (IsUnread _ _) (sym c.loop-name.invariant.1) (record { within = c.loop-name-test.true; before = _; read = c.loop-name.invariant.0 }),
  failed_at _ c.loop-name.name-index _ (reads_by (g.F.Files.readings c.loop-name.files) (g.F.Files.faults c.loop-name.files)) (reads_by (g.F.Files.readings c.read_file.new.files) (g.F.Files.faults c.read_file.new.files))
      c.loop-name.invariant.1 c.loop-name.invariant.4 c.loop-name.invariant.3 (search rules) (search rules) (search rules),
)

pub loop-name-preserved : goal.loop-name-preserved
loop-name-preserved g c = (
  record {
    named = named_on c.args.names.now c.loop-name.name-index _ _ c.loop-name.texts _ c.loop-name-test.true c.name-item.is c.loop-name.invariant.0.named c.in-Ok.ensures.read.added;
    each =
        subst (AllByRecursion (IsRead _)) (sym c.in-Ok.ensures.read.added)
        (all_pushed (IsRead _) c.loop-name.texts _ c.loop-name.invariant.0.each (read_of _ _ _ c.loop-name.invariant.2 c.in-Ok.ensures.read.is));
  },
  search rules,
  search rules,
  search rules,
  reads-more _ c.loop-name.name-index _ _ c.loop-name.invariant.4 c.in-Ok.ensures.reads,
)

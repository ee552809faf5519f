-- The bytes at which the spans so far begin have their marks.
use Rattle.std.proofs.Common.{◌≡◌, take, length}
use Rattle.sr_fmt.specs.Marks.{AreMarked}
use Rattle.sr_fmt.proofs.marks.marks_at.Given as goal

abbrev pub invariant-loop-span : goal.invariant-loop-span
invariant-loop-span l = record {
  size : length l.marks.items ≡ l.len;
  marked : AreMarked l.len (take l.span-index l.spans) l.marks.items;
}

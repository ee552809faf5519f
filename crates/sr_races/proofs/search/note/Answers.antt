use Rattle.std.proofs.Common.{◌∙◌, arith, length, refl, subst, sym, true≢false}
use Rattle.std.proofs.lemmas.Result.{on_ok_weaker}
use Rattle.sr_races.specs.Marks.{AddsAll, all_noted_at}
use Rattle.sr_races.specs.Walks.{IsEntry}
use Rattle.sr_races.proofs.MarkLemmas.{item-noted, nothing-noted}
use Rattle.sr_races.proofs.PairLemmas.{entry-at}
use Rattle.sr_races.proofs.search.note.Goals as goal

pub add_item-requires : goal.add_item-requires
add_item-requires c = record { some = omega arith; size = c.requires.size }

pub returns-then-is_empty : goal.returns-then-is_empty
returns-then-is_empty c = record {
  size = refl;
  noted = λ r read noted.
      nothing-noted r c.args.clocks.now (length c.args.entries.now) read.rows (length c.args.entries.now) c.args.second c.requires.within c.index-entries-second.result
      (subst (IsEntry r c.args.clocks.now c.args.second) (sym c.index-entries-second.is) (entry-at r c.args.clocks.now c.args.entries.now read c.args.second c.index-entries-second.result c.requires.within)) c.args.spots.now
      (c.is_empty.ensures.0 c.if-is_empty.true) noted;
}

pub returns : goal.returns
returns c = record {
  size = on_ok_weaker c.add_item.result (λ added. added.size) c.add_item.ensures;
  noted = λ r read noted.
      on_ok_weaker c.add_item.result
      (λ added.
      item-noted r c.args.clocks.now (length c.args.entries.now) read.rows (length c.args.entries.now) c.args.second c.requires.within c.index-entries-second.result
      (subst (IsEntry r c.args.clocks.now c.args.second) (sym c.index-entries-second.is) (entry-at r c.args.clocks.now c.args.entries.now read c.args.second c.index-entries-second.result c.requires.within))
      (record { item = c.args.second; count = c.count-count.result }) c.args.spots.now c.add_item.new.spots (λ empty. true≢false (sym (c.is_empty.ensures.1 empty) ∙ c.if-is_empty.false)) refl c.count-count.ensures
      (subst (λ accesses. AddsAll (all_noted_at (length c.args.entries.now) accesses) c.index-entries-second.result.column (record { item = c.args.second; count = c.count-count.result }) c.args.spots.now c.add_item.new.spots)
      c.as_slice.ensures added) noted)
      c.add_item.ensures;
}

use Rattle.std.proofs.Common.{rules, arith, ◌∙◌, sym}
use Rattle.std.specs.Mem.Slots.{slots_counts, slots_items}
use Rattle.sr_board.proofs.CloseLemmas.{history_of, history_out, none_out, one_more_out}
use Rattle.sr_board.proofs.board.Board.close.Goals as goal

pub loop-i-init : goal.loop-i-init
loop-i-init g c = let wide = c.close_with-closed.ensures.counts.1 ∙ sym c.slot_count-count.ensures in record {
  out = none_out _ _ _ _ (λ k le lt. c.close_with-closed.ensures.values.1 k le (omega arith)) c.args.self.kept_room.0;
  room = search rules;
  wide = wide;
}

pub take-requires : goal.take-requires
take-requires g c = let i = c.loop-i.invariant in let out = i.out in let wide = i.wide in let less = c.loop-i-test.true in (omega arith, out.left _ (omega arith) (omega arith))

pub loop-i-preserved : goal.loop-i-preserved
loop-i-preserved g c = let i = c.loop-i.invariant in let o = c.take.ensures.others in record {
  out = one_more_out _ _ _ _ _ _ _ _ _ _ i.out c.loop-i-test.true (sym i.wide ∙ (slots_counts c.loop-i.closed.slots).1) c.take.ensures.value o.0 o.1 c.push_reserved.ensures.items;
  room = c.push_reserved.ensures.capacity ∙ i.room;
  wide = o.2 ∙ i.wide;
}

pub push_reserved-requires : goal.push_reserved-requires
push_reserved-requires g c = let out = c.loop-i.invariant.out in let taken = out.taken in let capacity = c.loop-i.invariant.room in let room = c.args.self.kept_room.1 in let less = c.loop-i-test.true in let count = c.slot_count-count.ensures in omega arith

pub free-requires : goal.free-requires
free-requires g c = let i = c.loop-i.invariant in let out = i.out in let wide = i.wide in let over = c.loop-i-test.false in λ k less. out.gone k (omega arith)

pub returns-clause-parts : goal.returns-clause-parts
returns-clause-parts g c = let out = c.loop-i.invariant.out in let taken = out.taken in let count = c.slot_count-count.ensures in let over = c.loop-i-test.false in let end = c.loop-i.auto.i-end in omega arith

pub returns-clause-history : goal.returns-clause-history
returns-clause-history g c = let seat = c.args.seat in
    history_out g.P.Journals.journal g.P.Journals.belongs g.P.Journals.seat g.P.Journals.stamp g.P.Journals.touches _ (slots_items c.close_with-closed.result.slots) _
    (history_of g.P.Journals.journal g.P.Journals.belongs g.P.Journals.seat g.P.Journals.stamp g.P.Journals.touches _ _ _ _ seat.live c.requires.all.0.0 c.requires.all.1 c.close_with-closed.ensures.values.2) c.loop-i.invariant.out.same

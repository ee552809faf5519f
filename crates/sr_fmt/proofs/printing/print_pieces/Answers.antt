-- A piece each time: a gap, or the next token.
use Rattle.std.proofs.Common.{◌+◌, ◌++◌, take, Some, slice_index_or, ap, sym, ◌∙◌, arith}
use Rattle.sr_tree.specs.declared.token.TokenKind.TheVariants.{Name}
use Rattle.sr_lexer.proofs.ChainLemmas.{rest_is}
use Rattle.sr_fmt.specs.Gaps.{gap_at, pen_past}
use Rattle.sr_fmt.specs.Layout.{written, pen_after}
use Rattle.sr_fmt.specs.Marks.{marked}
use Rattle.sr_fmt.proofs.WalkLemmas.{gap_fits, walk_gap, token_there, token_fits, read_twice, walk_told, part_len, walk_ends}
use Rattle.sr_fmt.proofs.printing.print_pieces.Goals as goal

pub slice_bounds-take_gap-end : goal.slice_bounds-take_gap-end
slice_bounds-take_gap-end c =
    let fits = gap_fits c.args.source.now c.args.told.now (marked c.args.marks.now) c.loop-at.at c.loop-at.next c.loop-at.printer c.in-Some.gap c.loop-at.invariant c.loop-at-test.true (sym (c.in-Some.ensures ∙ ap gap_at (rest_is c.loop-at.at c.args.source.now))) in
    part_len c.args.source.now c.loop-at.at c.in-Some.gap.len fits.1

pub overflow_add-at : goal.overflow_add-at
overflow_add-at c =
    let fits = gap_fits c.args.source.now c.args.told.now (marked c.args.marks.now) c.loop-at.at c.loop-at.next c.loop-at.printer c.in-Some.gap c.loop-at.invariant c.loop-at-test.true (sym (c.in-Some.ensures ∙ ap gap_at (rest_is c.loop-at.at c.args.source.now))) in
    omega (arith, fits.1, c.requires.small)

pub loop-at-preserved-in-Some : goal.loop-at-preserved-in-Some
loop-at-preserved-in-Some c =
    walk_gap c.args.source.now c.args.told.now (marked c.args.marks.now) c.loop-at.at c.loop-at.next c.loop-at.printer c.take_gap.new.self c.in-Some.gap c.loop-at.invariant c.loop-at-test.true (sym (c.in-Some.ensures ∙ ap gap_at (rest_is c.loop-at.at c.args.source.now)))
    c.in_ok-take_gap.ensures.text
    (c.in_ok-take_gap.ensures.pen ∙ ap (λ rest. pen_past c.in-Some.gap.is_comment c.loop-at.printer.pen (take c.in-Some.gap.len rest)) (rest_is c.loop-at.at c.args.source.now))

pub offset_bounds-told-next : goal.offset_bounds-told-next
offset_bounds-told-next c = omega (arith, c.loop-at.invariant.count, c.loop-at.invariant.within, c.requires.small)

pub bounds-told-next : goal.bounds-told-next
bounds-told-next c = token_there c.args.source.now c.args.told.now (marked c.args.marks.now) c.loop-at.at c.loop-at.next c.loop-at.printer c.loop-at.invariant c.loop-at-test.true (sym (c.in_default.ensures ∙ ap gap_at (rest_is c.loop-at.at c.args.source.now)))

pub slice_bounds-take_token-end : goal.slice_bounds-take_token-end
slice_bounds-take_token-end c =
    let fits = token_fits c.args.source.now c.args.told.now (marked c.args.marks.now) c.loop-at.at c.loop-at.next c.loop-at.printer (slice_index_or c.args.told.now c.loop-at.next (record { kind = Name; len = 0 })) c.loop-at.invariant c.loop-at-test.true (sym (c.in_default.ensures ∙ ap gap_at (rest_is c.loop-at.at c.args.source.now))) (read_twice c.args.told.now c.loop-at.next (record { kind = Name; len = 0 })) in
    part_len c.args.source.now c.loop-at.at _ fits.1

pub overflow_add-at-in-loop-at : goal.overflow_add-at-in-loop-at
overflow_add-at-in-loop-at c =
    let fits = token_fits c.args.source.now c.args.told.now (marked c.args.marks.now) c.loop-at.at c.loop-at.next c.loop-at.printer (slice_index_or c.args.told.now c.loop-at.next (record { kind = Name; len = 0 })) c.loop-at.invariant c.loop-at-test.true (sym (c.in_default.ensures ∙ ap gap_at (rest_is c.loop-at.at c.args.source.now))) (read_twice c.args.told.now c.loop-at.next (record { kind = Name; len = 0 })) in
    omega (arith, fits.1, c.requires.small)

pub overflow_add-next : goal.overflow_add-next
overflow_add-next c = omega (arith, c.loop-at.invariant.count, c.loop-at.invariant.within, c.requires.small)

pub loop-at-smaller : goal.loop-at-smaller
loop-at-smaller c =
    let fits = token_fits c.args.source.now c.args.told.now (marked c.args.marks.now) c.loop-at.at c.loop-at.next c.loop-at.printer (slice_index_or c.args.told.now c.loop-at.next (record { kind = Name; len = 0 })) c.loop-at.invariant c.loop-at-test.true (sym (c.in_default.ensures ∙ ap gap_at (rest_is c.loop-at.at c.args.source.now))) (read_twice c.args.told.now c.loop-at.next (record { kind = Name; len = 0 })) in
    omega (arith, fits.0, fits.1)

pub loop-at-preserved : goal.loop-at-preserved
loop-at-preserved c =
    let token = (slice_index_or c.args.told.now c.loop-at.next (record { kind = Name; len = 0 })) in
    walk_told c.args.source.now c.args.told.now (marked c.args.marks.now) c.loop-at.at c.loop-at.next c.loop-at.printer c.take_token.new.self token c.loop-at.invariant c.loop-at-test.true (sym (c.in_default.ensures ∙ ap gap_at (rest_is c.loop-at.at c.args.source.now))) (read_twice c.args.told.now c.loop-at.next (record { kind = Name; len = 0 }))
    (c.in_ok-take_token.ensures.text ∙ ap (λ rest. c.loop-at.printer.text ++ written c.loop-at.printer.pen (marked c.args.marks.now c.loop-at.at) (Some token.kind) (take token.len rest)) (rest_is c.loop-at.at c.args.source.now))
    (c.in_ok-take_token.ensures.pen ∙ ap (λ rest. pen_after c.loop-at.printer.pen (marked c.args.marks.now c.loop-at.at) (Some token.kind) (take token.len rest)) (rest_is c.loop-at.at c.args.source.now))

pub returns : goal.returns
returns c = walk_ends c.args.source.now c.args.told.now c.args.marks.now c.loop-at.at c.loop-at.next c.loop-at.printer c.loop-at.invariant c.loop-at-test.false

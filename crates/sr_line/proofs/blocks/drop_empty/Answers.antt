use Rattle.std.proofs.Common.{◌≡◌, ◌<◌, [], ◌∙◌, length, sym}
use Rattle.std.proofs.lemmas.Bool.{eqb-true}
use Rattle.std.proofs.lemmas.List.{nil_from_length}
use Rattle.sr_line.proofs.BlockLemmas.{dropped, taken-rest}
use Rattle.sr_line.proofs.blocks.drop_empty.Goals as goal

pub returns-then-is_empty : goal.returns-then-is_empty
returns-then-is_empty g c =
    let blocks = c.args.blocks.now in
    let b = c.in-Some.items.now in
    let low : c.args.block < length blocks.items = c.in-Some.ensures.item.3.0 in
    let none : b.items ≡ [] = nil_from_length b.items (sym b.ok.0 ∙ eqb-true b.len 0 (sym c.is_empty.ensures ∙ c.if-is_empty.true)) in
    dropped blocks.items c.take_at.new.list.items b c.args.block low c.in-Some.ensures.lookup none
    (taken-rest blocks.items c.args.block blocks.len c.take_at.result blocks.ok.0 low c.take_at.ensures.succeeds c.take_at.ensures.items)

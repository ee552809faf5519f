use Rattle.std.proofs.Common.{◌≡◌, ◌<◌, ◌++◌, length, ap, ◌∙◌, arith}
use Rattle.std.proofs.lemmas.List.{length-append}
use Rattle.sr_line.specs.Lines.{joined, room_in, spare}
use Rattle.sr_line.proofs.BlockLemmas.{err_then, ok_then, same-items, same-lined, same-room}
use Rattle.sr_line.proofs.line.Line.reserve.Goals as goal

pub invariant_of-self : goal.invariant_of-self
invariant_of-self g c =
    let blocks = c.make_room.new.blocks.items in
    let last = c.make_room.new.last.items in
    omega (arith, ap length c.make_room.ensures.items, length-append (joined blocks) last, length-append (joined c.self.inside.blocks.items) c.self.inside.last.items, c.self.invariant)

pub returns-clause-ok : goal.returns-clause-ok
returns-clause-ok g c =
    ok_then c.make_room.result (λ (some : 0 < spare c.make_room.new.last). omega (arith, some)) c.make_room.ensures.ok

pub returns-clause-items : goal.returns-clause-items
returns-clause-items g c = c.make_room.ensures.items ∙ same-items _ _ c.self.view_is

pub returns-clause-room : goal.returns-clause-room
returns-clause-room g c = let room = same-room _ _ c.self.view_is in omega (arith, room, c.make_room.ensures.room)

pub returns-clause-succeeds : goal.returns-clause-succeeds
returns-clause-succeeds g c = λ some.
    let room = same-room _ _ c.self.view_is in
    let more : 0 < spare c.self.inside.last = omega (arith, room, some) in
    c.make_room.ensures.succeeds more

pub returns-clause-err : goal.returns-clause-err
returns-clause-err g c =
    let old = c.self.inside in
    let new = c.make_room.new in
    err_then c.make_room.result (λ (same : spare new.last ≡ spare old.last).
    let room : room_in new.last old.len ≡ room_in old.last old.len = omega (arith, same) in
    same-lined (joined new.blocks.items ++ new.last.items) (joined old.blocks.items ++ old.last.items) (room_in new.last old.len) (room_in old.last old.len) c.make_room.ensures.items room ∙ c.self.view_is) c.make_room.ensures.err

pub returns-then-len-clause-succeeds : goal.returns-then-len-clause-succeeds
returns-then-len-clause-succeeds g c = λ some. let room = same-room _ _ c.self.view_is in absurd (omega (arith, room, c.if-len.true, some))

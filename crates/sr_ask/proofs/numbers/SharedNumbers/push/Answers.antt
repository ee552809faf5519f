use Rattle.std.proofs.Common.{◌++◌, length, ap, ◌∙◌, arith}
use Rattle.std.proofs.lemmas.List.{length_push}
use Rattle.sr_ask.specs.Numbers.{joined}
use Rattle.sr_ask.proofs.NumberLemmas.{kept_length}
use Rattle.sr_ask.proofs.numbers.SharedNumbers.push.Goals as goal

pub invariant_of-self : goal.invariant_of-self
invariant_of-self c =
    kept_length c.self.inside.blocks c.make_room.new.blocks c.self.inside.last c.make_room.new.last c.self.inside.len c.make_room.ensures c.self.invariant

pub invariant_of-self-in_err-push : goal.invariant_of-self-in_err-push
invariant_of-self-in_err-push c =
    kept_length c.self.inside.blocks c.make_room.new.blocks c.self.inside.last c.push.new.self c.self.inside.len
    (ap (λ xs. joined c.make_room.new.blocks ++ xs) c.in_err-push.ensures.err ∙ c.make_room.ensures) c.self.invariant

pub invariant_of-self-2 : goal.invariant_of-self-2
invariant_of-self-2 c =
    let room = kept_length c.self.inside.blocks c.make_room.new.blocks c.self.inside.last c.make_room.new.last c.self.inside.len c.make_room.ensures c.self.invariant in
    omega (arith, room, ap length c.in_ok-push.ensures.ok, length_push c.make_room.new.last c.args.number)

use Rattle.std.proofs.Common.{[], ◌∷◌, ◌++◌, length, ap, sym, ◌∙◌, arith}
use Rattle.std.proofs.lemmas.List.{append_assoc, length_push}
use Rattle.sr_line.specs.Lines.{joined}
use Rattle.sr_line.proofs.BlockLemmas.{same-items, same-room}
use Rattle.sr_line.proofs.line.Line.push_reserved.Goals as goal

pub push_back_reserved-requires : goal.push_back_reserved-requires
push_back_reserved-requires g c = let room = same-room _ _ c.self.view_is in omega (arith, room, c.requires, c.self.inside.last.ok.0)

pub overflow_add-len : goal.overflow_add-len
overflow_add-len g c = let room = same-room _ _ c.self.view_is in omega (arith, room, c.requires)

pub invariant_of-self : goal.invariant_of-self
invariant_of-self g c = omega (arith, ap length c.push_back_reserved.ensures.items, length_push c.self.inside.last.items c.args.item, c.self.invariant)

pub returns : goal.returns
returns g c =
    let front = joined c.self.inside.blocks.items in
    let last = c.self.inside.last.items in
    ap (λ xs. front ++ xs) c.push_back_reserved.ensures.items ∙ sym (append_assoc front last (c.args.item ∷ [])) ∙ ap (λ xs. xs ++ c.args.item ∷ []) (same-items _ _ c.self.view_is)

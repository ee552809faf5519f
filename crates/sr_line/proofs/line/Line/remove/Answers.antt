use Rattle.std.proofs.Common.{◌≡◌, ℕ, ◌+◌, ◌-◌, ◌<◌, length, ap, sym, ◌∙◌, arith}
use Rattle.std.specs.List.{remove, slice_get}
use Rattle.std.proofs.lemmas.List.{length-append}
use Rattle.std.proofs.lemmas.List.Edits.{length-remove}
use Rattle.std.proofs.lemmas.Option.{slice_get_past}
use Rattle.sr_line.specs.Lines.{joined}
use Rattle.sr_line.proofs.BlockLemmas.{same-items, same-room, some_then, stands-nowhere, taken-rest, taken-value}
use Rattle.sr_line.proofs.JoinedLemmas.{after-front, in-front, removed-after, removed-front}
use Rattle.sr_line.proofs.line.Line.remove.Goals as goal

pub returns-then-place-len-clause-item : goal.returns-then-place-len-clause-item
returns-then-place-len-clause-item g c =
    let past = length-append (joined c.self.inside.blocks.items) c.self.inside.last.items in
    sym (slice_get_past c.args.self.now.items c.args.place (omega (arith, past, c.self.invariant, c.if-place-len.true, ap length (same-items _ _ c.self.view_is))))

-- from the last block
pub invariant_of-self : goal.invariant_of-self
invariant_of-self g c =
    let last = c.self.inside.last in
    let blocks = c.self.inside.blocks.items in
    let k : ℕ = c.args.place - (c.self.inside.len - c.len-last.result) in
    let low : k < length last.items = omega (arith, c.if-place-len.false, c.if-place-before.true, c.len-last.ensures, last.ok.0, c.self.invariant) in
    let rest = taken-rest last.items k last.len c.take_at.result last.ok.0 low c.take_at.ensures.succeeds c.take_at.ensures.items in
    omega (arith, ap length rest, length-remove last.items k low, c.self.invariant)

pub returns-then-place-before-clause-item : goal.returns-then-place-before-clause-item
returns-then-place-before-clause-item g c =
    let last = c.self.inside.last in
    let blocks = c.self.inside.blocks.items in
    let k : ℕ = c.args.place - (c.self.inside.len - c.len-last.result) in
    let low : k < length last.items = omega (arith, c.if-place-len.false, c.if-place-before.true, c.len-last.ensures, last.ok.0, c.self.invariant) in
    let sum : length (joined blocks) + k ≡ c.args.place = omega (arith, c.if-place-before.true, c.len-last.ensures, last.ok.0, c.self.invariant) in
    taken-value last.items k last.len c.take_at.result last.ok.0 low c.take_at.ensures.succeeds ∙ sym (after-front (joined blocks) last.items c.args.place k sum) ∙ ap (λ xs. slice_get xs c.args.place) (same-items _ _ c.self.view_is)

pub returns-then-place-before-clause-others : goal.returns-then-place-before-clause-others
returns-then-place-before-clause-others g c =
    let last = c.self.inside.last in
    let blocks = c.self.inside.blocks.items in
    let k : ℕ = c.args.place - (c.self.inside.len - c.len-last.result) in
    let low : k < length last.items = omega (arith, c.if-place-len.false, c.if-place-before.true, c.len-last.ensures, last.ok.0, c.self.invariant) in
    let sum : length (joined blocks) + k ≡ c.args.place = omega (arith, c.if-place-before.true, c.len-last.ensures, last.ok.0, c.self.invariant) in
    let rest = taken-rest last.items k last.len c.take_at.result last.ok.0 low c.take_at.ensures.succeeds c.take_at.ensures.items in
    some_then c.take_at.result (removed-after (joined blocks) last.items c.take_at.new.list.items c.args.place k sum rest ∙ ap (λ xs. remove xs c.args.place) (same-items _ _ c.self.view_is))

pub returns-then-place-before-clause-room : goal.returns-then-place-before-clause-room
returns-then-place-before-clause-room g c =
    let last = c.self.inside.last in
    let k : ℕ = c.args.place - (c.self.inside.len - c.len-last.result) in
    let low : k < length last.items = omega (arith, c.if-place-len.false, c.if-place-before.true, c.len-last.ensures, last.ok.0, c.self.invariant) in
    let rest = taken-rest last.items k last.len c.take_at.result last.ok.0 low c.take_at.ensures.succeeds c.take_at.ensures.items in
    omega (arith, ap length rest, length-remove last.items k low, c.take_at.ensures.capacity, same-room _ _ c.self.view_is)

pub returns-then-place-before-clause-none : goal.returns-then-place-before-clause-none
returns-then-place-before-clause-none g c = λ none.
    let last = c.self.inside.last in
    let blocks = c.self.inside.blocks.items in
    let k : ℕ = c.args.place - (c.self.inside.len - c.len-last.result) in
    let low : k < length last.items = omega (arith, c.if-place-len.false, c.if-place-before.true, c.len-last.ensures, last.ok.0, c.self.invariant) in
    absurd (stands-nowhere last.items k low (sym none ∙ taken-value last.items k last.len c.take_at.result last.ok.0 low c.take_at.ensures.succeeds))

-- from another block
pub invariant_of-self-2 : goal.invariant_of-self-2
invariant_of-self-2 g c =
    let blocks = c.self.inside.blocks.items in
    let low : c.args.place < length (joined blocks) = omega (arith, c.if-place-before.false, c.len-last.ensures, c.self.inside.last.ok.0, c.self.invariant) in
    omega (arith, ap length c.take_in.ensures.others, length-remove (joined blocks) c.args.place low, c.self.invariant)

pub returns-clause-item : goal.returns-clause-item
returns-clause-item g c =
    let blocks = c.self.inside.blocks.items in
    let low : c.args.place < length (joined blocks) = omega (arith, c.if-place-before.false, c.len-last.ensures, c.self.inside.last.ok.0, c.self.invariant) in
    c.take_in.ensures.item ∙ sym (in-front (joined blocks) c.self.inside.last.items c.args.place low) ∙ ap (λ xs. slice_get xs c.args.place) (same-items _ _ c.self.view_is)

pub returns-clause-others : goal.returns-clause-others
returns-clause-others g c =
    let blocks = c.self.inside.blocks.items in
    let low : c.args.place < length (joined blocks) = omega (arith, c.if-place-before.false, c.len-last.ensures, c.self.inside.last.ok.0, c.self.invariant) in
    some_then c.take_in.result (removed-front (joined blocks) c.self.inside.last.items (joined c.take_in.new.blocks.items) c.args.place low c.take_in.ensures.others ∙ ap (λ xs. remove xs c.args.place) (same-items _ _ c.self.view_is))

pub returns-clause-none : goal.returns-clause-none
returns-clause-none g c = λ none.
    let blocks = c.self.inside.blocks.items in
    let low : c.args.place < length (joined blocks) = omega (arith, c.if-place-before.false, c.len-last.ensures, c.self.inside.last.ok.0, c.self.invariant) in
    absurd (stands-nowhere (joined blocks) c.args.place low (sym none ∙ c.take_in.ensures.item))

pub returns-clause-room : goal.returns-clause-room
returns-clause-room g c = let room = same-room _ _ c.self.view_is in omega (arith, room)

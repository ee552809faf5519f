use Rattle.std.proofs.Common.{◌≡◌, ◌+◌, [], ◌∷◌, ◌++◌, ap, sym, subst, ◌∙◌, arith}
use Rattle.sr_queue.specs.Indexes.{IsIndex}
use Rattle.sr_queue.specs.Lines.{line_in}
use Rattle.sr_queue.specs.declared.index.Numbered.{Numbered}
use Rattle.sr_queue.proofs.IndexLemmas.{index-pushed}
use Rattle.sr_queue.proofs.index.Index.push.Goals as goal

pub invariant_of-self-2 : goal.invariant_of-self-2
invariant_of-self-2 c =
    let entries = c.self.inside.entries.items in
    let next = c.self.inside.next in
    let e : Numbered = record { number = next; class = c.args.class } in
    let items : c.push_reserved.new.self.items ≡ entries ++ e ∷ [] = c.push_reserved.ensures ∙ ap (λ es. es ++ e ∷ []) c.in_ok-reserve.ensures.items in
    subst (λ es. IsIndex es (next + 1) (line_in c.note.new.lines.entries)) (sym items)
    (index-pushed entries next c.self.inside.lines.entries c.note.new.lines.entries c.self.invariant c.args.class (next + 1) (omega arith) c.in_ok-note.ensures.ok)

use Rattle.std.proofs.Common.{ℕ, Some, ap, sym, ◌∙◌}
use Rattle.sr_queue.specs.declared.index.Numbered.{Numbered}
use Rattle.sr_line.proofs.SearchLemmas.{one_place}
use Rattle.sr_queue.proofs.index.place_of.Goals as goal

pub returns-in-Some : goal.returns-in-Some
returns-in-Some c = λ place e at is.
    let number : Numbered → ℕ = λ x. x.number in
    let there = c.in-Some.ensures in
    ap Some (one_place number c.args.entries.now.items c.requires c.in-Some.place place there.0 e there.1 at (there.2 ∙ sym is))

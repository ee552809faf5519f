use Rattle.std.proofs.Common.{rules, ltb, ◌≤◌, length, ◌∙◌, arith}
use Rattle.std.proofs.lemmas.List.Sorted.{IsPartitionPoint-from_clause, IsPartitionedBy-ltb}
use Rattle.sr_line.proofs.JoinedLemmas.{copied_item}
use Rattle.sr_line.proofs.SearchLemmas.{non_decreasing}
use Rattle.sr_queue.proofs.SearchLemmas.{first_at}
use Rattle.sr_queue.proofs.index.first_from.Goals as goal

pub returns : goal.returns
returns c =
    let deque = c.args.line.now in
    let facts = c.partition_point-at.ensures in
    let low : c.partition_point-at.result ≤ length deque.items = omega (arith, facts.bound, deque.ok.0) in
    let parted = IsPartitionPoint-from_clause (λ y. ltb y c.args.least) deque.items c.partition_point-at.result facts.partitioned
    (IsPartitionedBy-ltb (λ x. x) deque.items c.args.least (non_decreasing (λ x. x) deque.items c.requires)) (λ a r f called. search rules) in
    c.copied.ensures ∙ copied_item deque.items c.partition_point-at.result c.get.result c.get.ensures.item ∙ first_at c.args.least deque.items c.partition_point-at.result parted low

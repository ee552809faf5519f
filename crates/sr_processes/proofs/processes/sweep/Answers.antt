use Rattle.std.proofs.Common.{◌≡◌, ap, filter, rules, ◌∙◌}
use Rattle.indexmap.proofs.CallerLemmas.{filter-RetainsPairs}
use Rattle.sr_processes.specs.Tables.{starts_in}
use Rattle.sr_processes.proofs.SeatLemmas.{is_taken, starts-swept, table-swept}
use Rattle.sr_processes.proofs.processes.sweep.Goals as goal

swept : (c : goal.After-retain) → c.retain.new.self.entries ≡ filter is_taken c.args.seats.now.entries
swept c = filter-RetainsPairs _ _ _ (λ k v b w g call. search rules) _ _ c.retain.ensures.filtered

pub returns-clause-table : goal.returns-clause-table
returns-clause-table c = table-swept c.args.seats.now.entries c.retain.new.self.entries c.requires (swept c) c.retain.ensures.unique

pub returns-clause-starts : goal.returns-clause-starts
returns-clause-starts c = ap starts_in (swept c) ∙ starts-swept c.args.seats.now.entries

use Rattle.std.proofs.Common.{◌≡◌, ◌++◌, ◌∷◌, [], IsOk, OnOk, Result, Ok, Err, Some, arith, nat_eq, sym, true≢false, ◌∙◌}
use Rattle.indexmap.proofs.CallerLemmas.{insert_entry-new}
use Rattle.sr_processes.proofs.SeatLemmas.{few-starts, starts-put, table-put}
use Rattle.sr_processes.proofs.processes.put.Goals as goal

on_ok : {T E P : Type 0} (r : Result T E) → IsOk r → OnOk r P → P
on_ok (Ok x) is h = h
on_ok (Err e) is h = absurd (true≢false (sym is))

pushed : (c : goal.After-len-len) → c.insert.new.self.entries ≡ c.shift_remove.new.self.entries ++ (c.args.start.process, Some c.args.start) ∷ []
pushed c =
    on_ok c.insert.result (c.insert.ensures.succeeds (omega arith)) c.insert.ensures.entries
    ∙ insert_entry-new nat_eq c.shift_remove.new.self c.args.start.process (Some c.args.start) c.shift_remove.ensures.updates.1

pub returns-clause-table : goal.returns-clause-table
returns-clause-table c =
    table-put c.args.start c.args.seats.now.entries c.shift_remove.new.self.entries c.insert.new.self.entries c.requires.table c.shift_remove.ensures.entries (pushed c) c.insert.ensures.unique

pub returns-clause-starts : goal.returns-clause-starts
returns-clause-starts c =
    starts-put c.args.start c.args.seats.now.entries c.shift_remove.new.self.entries c.insert.new.self.entries c.requires.table c.shift_remove.ensures.entries (pushed c) c.requires.new

pub returns-clause-few : goal.returns-clause-few
returns-clause-few c = omega (arith, few-starts c.insert.new.self.entries)

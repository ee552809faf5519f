use Rattle.std.proofs.Common.{◌≡◌, ◌∙◌, ℕ, List, [], ◌∷◌, ◌++◌, ap}
use Rattle.std.proofs.lemmas.Result.{on_ok_weaker}
use Rattle.std.specs.Prelude.{unwrap_or}
use Rattle.sr_clock_rows.specs.Columns.{column_in}
use Rattle.sr_races.specs.Accesses.{accesses_by}
use Rattle.sr_races.specs.declared.access.Access.{Access}
use Rattle.sr_races.specs.declared.walk.Entry.{Entry}
use Rattle.sr_world.specs.Worlds.{World}
use Rattle.sr_races.proofs.walk.Walk.push_entry.Goals as goal

pub returns-clause-entry : goal.returns-clause-entry
returns-clause-entry g c =
    let entry : ℕ → List Access → Entry = λ column accesses. record { process = c.args.process; column = column; place = c.args.ask.now.place; accesses = accesses } in
    let column-is : c.unwrap_or-column.result ≡ unwrap_or (column_in c.args.self.now.clocks.columns c.args.process) 0 = c.unwrap_or-column.ensures ∙ ap (λ o. unwrap_or o 0) c.column.ensures in
    let accesses-are : c.in_ok-accesses.accesses ≡ accesses_by c.args.core.now c.args.self.now.replayer.world c.args.process c.args.ask.now.request =
    c.in_ok-accesses.ensures ∙ ap (λ (w : World). accesses_by c.args.core.now w c.args.process c.args.ask.now.request) c.world.ensures in
    on_ok_weaker c.push.result
    (λ is.
    is ∙ ap (λ column. c.args.self.now.entries ++ entry column c.in_ok-accesses.accesses ∷ []) column-is
    ∙ ap (λ accesses. c.args.self.now.entries ++ entry (unwrap_or (column_in c.args.self.now.clocks.columns c.args.process) 0) accesses ∷ []) accesses-are)
    c.push.ensures.ok

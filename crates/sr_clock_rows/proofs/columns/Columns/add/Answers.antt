use Rattle.std.proofs.Common.{◌≡◌, ◌+◌, ◌∙◌, ◌⊎◌, inl, inr, arith, is_some, refl, sym, true}
use Rattle.sr_clock_rows.proofs.ColumnLemmas.{none-added, one-added}
use Rattle.sr_clock_rows.specs.Columns.{column_in}
use Rattle.sr_clock_rows.proofs.columns.Columns.add.Goals as goal
use Rattle.sr_clock_rows.proofs.columns.Columns.add.Goals.{then-owner-eq0-via-then-owner-eq0, then-owner-eq0-via-else-owner-eq0+then-contains_key}

pub returns-then-owner-eq0-clause-columns : goal.returns-then-owner-eq0-clause-columns
returns-then-owner-eq0-clause-columns c = λ owners columns.
    let why : (c.args.owner ≡ 0) ⊎ (is_some (column_in c.args.self.now c.args.owner) ≡ true) =
    elim c.then-owner-eq0.branch [ then-owner-eq0-via-then-owner-eq0 w ↦ inl w.if-owner-eq0.true | then-owner-eq0-via-else-owner-eq0+then-contains_key w ↦ inr (sym w.contains_key.ensures ∙ w.if-contains_key.true) ] in
    none-added owners c.args.owner c.args.self.now columns why

pub returns-clause-columns : goal.returns-clause-columns
returns-clause-columns c = λ owners columns.
    one-added owners c.args.owner c.args.self.now columns (record c.args.self.now { places = c.insert.new.self; width = c.args.self.now.width + 1 }) (omega (arith, c.if-owner-eq0.false)) (sym c.contains_key.ensures ∙ c.if-contains_key.false)
    c.in_ok-insert.ensures.updates refl

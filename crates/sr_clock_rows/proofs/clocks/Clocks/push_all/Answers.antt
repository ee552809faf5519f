use Rattle.std.proofs.Common.{◌≡◌, ◌≤◌, ◌+◌, ◌∙◌, ℕ, List, ap, length, refl, subst, sym}
use Rattle.std.specs.Prelude.{slice_index}
use Rattle.sr_clock_rows.proofs.RowLemmas.{adds-row, on_ok, one-more-length, one-more-small, still-sound, whole-row}
use Rattle.sr_clock_rows.specs.Columns.{column_in}
use Rattle.sr_clock_rows.specs.Rows.{item_count, with_one}
use Rattle.sr_clock_rows.specs.declared.clocks.Clocks.{Clocks}
use Rattle.sr_clock_rows.proofs.clocks.Clocks.push_all.Goals as goal

pub returns-clause-sound : goal.returns-clause-sound
returns-clause-sound c =
    let old = c.args.self.now in
    let owner = c.args.owner in
    let row = c.in_ok-row.row in
    let new : Clocks = record old { rows = c.push.new.self; made = c.count_one.new.row } in
    let made : c.count_one.new.row ≡ with_one (column_in old.columns owner) old.made = c.count_one.ensures ∙ ap (λ o. with_one o old.made) c.of-column.ensures in
    let is : row ≡ with_one (column_in old.columns owner) old.made = c.in_ok-row.ensures ∙ made in
    on_ok c.push.result
    (λ rows. still-sound owner old new c.requires.sound row refl made rows c.requires.owner (ap length is ∙ one-more-length owner old old.made ∙ c.requires.sound.made_wide)
    (λ column. subst (λ (r : List ℕ). slice_index r column ≤ item_count old + 1) (sym is) (one-more-small owner old c.requires.sound old.made c.requires.sound.made_wide (item_count old) c.requires.sound.made_small column)))
    c.push.ensures.ok

pub returns-clause-adds : goal.returns-clause-adds
returns-clause-adds c =
    let old = c.args.self.now in
    let new : Clocks = record old { rows = c.push.new.self; made = c.count_one.new.row } in
    on_ok c.push.result
    (λ rows. adds-row c.args.owner old new c.requires.sound c.in_ok-row.row refl (c.count_one.ensures ∙ ap (λ o. with_one o old.made) c.of-column.ensures) rows c.requires.owner) c.push.ensures.ok

pub returns-clause-row : goal.returns-clause-row
returns-clause-row c =
    let old = c.args.self.now in
    let new : Clocks = record old { rows = c.push.new.self; made = c.count_one.new.row } in
    on_ok c.push.result
    (λ rows. whole-row c.args.owner old new c.requires.sound c.in_ok-row.row refl (c.count_one.ensures ∙ ap (λ o. with_one o old.made) c.of-column.ensures) rows c.requires.owner c.in_ok-row.ensures) c.push.ensures.ok

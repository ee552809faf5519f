use Rattle.std.proofs.Common.{◌≤◌, ◌+◌, ◌∙◌, ap, subst, sym}
use Rattle.sr_clock_rows.proofs.RowLemmas.{adds-row, greatest-most, greatest-row, on_both, one-more-at, one-more-length, one-more-small, one_at, still-sound}
use Rattle.sr_clock_rows.specs.Columns.{column_in}
use Rattle.sr_clock_rows.specs.Rows.{count_at, item_count, with_one}
use Rattle.sr_clock_rows.proofs.clocks.Clocks.push.Goals as goal

pub add-requires-clause-small : goal.add-requires-clause-small
add-requires-clause-small c = λ column.
    subst (λ n. n ≤ item_count c.args.self.now) (sym (c.raise_all.ensures.greatest column))
    (greatest-most (λ i. count_at c.args.self.now.rows i column) c.args.origins.now (item_count c.args.self.now) (λ i. c.requires.sound.small i column))

pub returns-clause-sound : goal.returns-clause-sound
returns-clause-sound c =
    let old = c.args.self.now in
    let owner = c.args.owner in
    let row = c.raise_all.new.row in
    on_both c.add.result
    (λ made rows. still-sound owner old c.add.new.self c.requires.sound (with_one (column_in old.columns owner) row) c.add.ensures.columns made rows c.requires.owner
    (one-more-length owner old row ∙ c.raise_all.ensures.length)
    (one-more-small owner old c.requires.sound row c.raise_all.ensures.length (item_count old)
    (λ column. subst (λ n. n ≤ item_count old) (sym (c.raise_all.ensures.greatest column))
    (greatest-most (λ i. count_at old.rows i column) c.args.origins.now (item_count old) (λ i. c.requires.sound.small i column)))))
    c.add.ensures.made c.add.ensures.rows

pub returns-clause-adds : goal.returns-clause-adds
returns-clause-adds c =
    let old = c.args.self.now in
    let owner = c.args.owner in
    on_both c.add.result
    (λ made rows. adds-row owner old c.add.new.self c.requires.sound (with_one (column_in old.columns owner) c.raise_all.new.row) c.add.ensures.columns made rows c.requires.owner)
    c.add.ensures.made c.add.ensures.rows

pub returns-clause-row : goal.returns-clause-row
returns-clause-row c =
    let old = c.args.self.now in
    let owner = c.args.owner in
    let row = c.raise_all.new.row in
    on_both c.add.result
    (λ made rows. greatest-row owner old c.add.new.self c.requires.sound (with_one (column_in old.columns owner) row) c.add.ensures.columns made rows c.requires.owner c.args.origins.now
    (λ column. one-more-at owner old c.requires.sound row c.raise_all.ensures.length column ∙ ap (λ n. n + one_at (column_in old.columns owner) column) (c.raise_all.ensures.greatest column)))
    c.add.ensures.made c.add.ensures.rows

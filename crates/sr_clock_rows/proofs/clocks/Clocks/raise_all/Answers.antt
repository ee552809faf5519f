use Rattle.std.proofs.Common.{◌≡◌, ◌∙◌, [], ap, arith, get_or, length, max, sym}
use Rattle.std.specs.Prelude.{slice_index, unwrap_or}
use Rattle.sr_clock_rows.proofs.RowLemmas.{greatest-more, zeros-length, zeros-none}
use Rattle.sr_clock_rows.specs.Rows.{count_at}
use Rattle.sr_clock_rows.proofs.clocks.Clocks.raise_all.Goals as goal
use Rattle.sr_clock_rows.proofs.clocks.Clocks.raise_all.Goals.{in-Some, in-None}

pub loop-origin-init : goal.loop-origin-init
loop-origin-init c = record {
  length = zeros-length c.args.self.now.columns.width c.args.row.now c.requires.zeros;
  greatest = λ column. zeros-none c.args.self.now.columns.width c.args.row.now c.requires.zeros column;
}

pub raise-requires : goal.raise-requires
raise-requires c = c.loop-origin.invariant.length ∙ sym (c.requires.sound.wide _ c.in-Some.other.now (sym c.in-Some.ensures.value)) ∙ sym (ap length c.as_slice.ensures)

pub loop-origin-preserved : goal.loop-origin-preserved
loop-origin-preserved c =
    let rows = c.args.self.now.rows in
    let index = c.loop-origin.origin-index in
    let origin = get_or c.args.origins.now index 0 in
    elim c.match-get.branch [
      | in-Some w ↦ record {
        length = ap length w.row-is ∙ w.raise.ensures.length ∙ c.loop-origin.invariant.length;
        greatest = λ column.
            let other : slice_index w.as_slice.result.now column ≡ count_at rows origin column =
            ap (λ r. slice_index r column) w.as_slice.ensures ∙ ap (λ o. slice_index (unwrap_or o []) column) w.in-Some.ensures.value in
            greatest-more rows c.args.origins.now index column (slice_index c.loop-origin.row column) _ (omega arith) (c.loop-origin.invariant.greatest column)
            (ap (λ r. slice_index r column) w.row-is ∙ w.raise.ensures.greater column ∙ ap (λ n. max (slice_index c.loop-origin.row column) n) other);
      }
      | in-None w ↦ record {
        length = ap length w.row-is ∙ c.loop-origin.invariant.length;
        greatest = λ column.
            let none : 0 ≡ count_at rows origin column = ap (λ o. slice_index (unwrap_or o []) column) w.in-None.ensures.value in
            greatest-more rows c.args.origins.now index column (slice_index c.loop-origin.row column) _ (omega arith) (c.loop-origin.invariant.greatest column)
            (let same = ap (λ r. slice_index r column) w.row-is in omega (arith, same, none));
      }
    ]

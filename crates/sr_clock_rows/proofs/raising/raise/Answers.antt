use Rattle.std.proofs.Common.{◌+◌, ◌<◌, ◌≤◌, ◌∙◌, ap, arith, length, refl, subst, sym}
use Rattle.std.specs.Prelude.{slice_index}
use Rattle.sr_clock_rows.proofs.RowLemmas.{IsRaised, raised-all, raised-kept, raised-none, raised-set}
use Rattle.sr_clock_rows.proofs.raising.raise.Goals as goal
use Rattle.sr_clock_rows.proofs.raising.raise.Goals.{then-as_slice-place, else-as_slice-place}

pub loop-place-init : goal.loop-place-init
loop-place-init c = raised-none c.args.row.now c.args.other.now

pub loop-place-preserved : goal.loop-place-preserved
loop-place-preserved c =
    let old = c.args.row.now in
    let other = c.args.other.now in
    let row = c.loop-place.row in
    let place = c.loop-place.place in
    let same = ap (λ r. slice_index r place) c.as_slice.ensures in
    let within : place < length row = omega (arith, c.loop-place.invariant.length, c.requires) in
    elim c.if-as_slice-place.branch [
      | then-as_slice-place w ↦
          let more : slice_index row place < slice_index other place = omega (arith, w.if-as_slice-place.true, same) in
          subst (IsRaised old other (place + 1)) (sym (w.row-is ∙ w.replace.ensures.others)) (raised-set old other row place (slice_index other place) c.loop-place.invariant within refl more)
      | else-as_slice-place w ↦
          let less : slice_index other place ≤ slice_index row place = omega (arith, w.if-as_slice-place.false, same) in
          subst (IsRaised old other (place + 1)) (sym w.row-is) (raised-kept old other row place (slice_index other place) c.loop-place.invariant refl less)
    ]

pub returns-clause-greater : goal.returns-clause-greater
returns-clause-greater c = λ place. raised-all c.args.row.now c.args.other.now c.loop-place.row c.loop-place.place c.loop-place.invariant c.requires (omega arith) place

-- One more file is the same; or the journal tells more files.
use Rattle.std.proofs.Common.{◌≡◌, arith, length, refl, subst, take}
use Rattle.sr_top.proofs.Sizes.{other_after, same_further, told_further}
use Rattle.sr_top.specs.Reading.{size_of, sizes_of}
use Rattle.sr_top.proofs.told_files.first_other.Goals as goal

pub loop-place-preserved : goal.loop-place-preserved
loop-place-preserved c =
    let known = c.is_told.ensures.0 c.if-not-is_told.false in (
      same_further c.args.texts.now c.args.told.now c.loop-place.place c.index-texts-place.result c.loop-place-test.true c.index-texts-place.is known c.loop-place.invariant.0,
      told_further c.args.told.now c.loop-place.place (size_of c.index-texts-place.result) known,
    )

pub returns-then-texts-told-clause-other : goal.returns-then-texts-told-clause-other
returns-then-texts-told-clause-other c =
    let past = c.loop-place-test.false in
    let end = c.loop-place.auto.place-end in
    let same : c.loop-place.place ≡ length c.args.texts.now = omega arith in
    other_after c.args.texts.now c.args.told.now (length c.args.texts.now) refl c.if-texts-told.true
    (subst (λ n. take n (sizes_of c.args.texts.now) ≡ take n c.args.told.now) same c.loop-place.invariant.0)

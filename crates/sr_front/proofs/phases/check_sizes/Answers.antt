-- Each file passes, or is the first that is refused.
use Rattle.std.proofs.Common.{◌+◌, ◌≤◌, ◌<◌, ◌++◌, ◌∷◌, [], take, length, refl, sym, ap, subst, ◌∙◌}
use Rattle.std.proofs.lemmas.List.{take_more, take_all}
use Rattle.sr_front.specs.Phases.{AllPass}
use Rattle.sr_front.specs.Reading.{HasItsSize, IsTooLarge, contents_of}
use Rattle.sr_front.proofs.Lists.FileByFile.{goes_on, is_refused, all_passed, each}
use Rattle.sr_front.proofs.phases.check_sizes.Goals as goal

pub returns-then-len-gt-MOST_BYTES-clause-refused : goal.returns-then-len-gt-MOST_BYTES-clause-refused
returns-then-len-gt-MOST_BYTES-clause-refused c = is_refused HasItsSize IsTooLarge (λ file. file.1) (λ file. file.1) c.args.files.now
    c.loop-content.content-index (take c.loop-content.content-index c.args.files.now) c.loop-content-item.result c.loop-content.number
    c.loop-content-item.result.1 c.too_large.result c.loop-content.invariant.1 c.loop-content-test.true c.loop-content-item.is
    c.loop-content.invariant.0 refl
    (record { large = subst (λ n. 1048576 < n) c.len.ensures c.if-len-gt-MOST_BYTES.true; told = c.too_large.ensures })

pub loop-content-preserved : goal.loop-content-preserved
loop-content-preserved c = (
  ap (λ n. n + 1) c.loop-content.invariant.0,
  goes_on HasItsSize IsTooLarge (λ file. file.1) (λ file. file.1) c.args.files.now c.loop-content.content-index
      (take c.loop-content.content-index c.args.files.now) c.loop-content-item.result c.loop-content-item.result c.loop-content.number
      (c.loop-content.content-index + 1) c.loop-content-item.result.1 (take (c.loop-content.content-index + 1) c.args.files.now)
      c.loop-content.invariant.1 c.loop-content-test.true c.loop-content-item.is c.loop-content.invariant.0 refl
      (record { unchanged = refl; small = subst (λ n. n ≤ 1048576) c.len.ensures c.if-len-gt-MOST_BYTES.false }) refl
      (take_more c.args.files.now c.loop-content.content-index c.loop-content-item.result c.loop-content-test.true
      ∙ ap (λ x. take c.loop-content.content-index c.args.files.now ++ x ∷ []) (sym c.loop-content-item.is)),
)

pub returns-clause-ok : goal.returns-clause-ok
returns-clause-ok c = subst (λ files. AllPass HasItsSize 0 (contents_of c.args.files.now) (contents_of files))
    (take_all c.loop-content.content-index c.args.files.now c.loop-content-test.false)
    (all_passed HasItsSize IsTooLarge (λ file. file.1) (λ file. file.1) c.args.files.now c.loop-content.content-index
    (take c.loop-content.content-index c.args.files.now) c.loop-content.invariant.1 c.loop-content-test.false)

pub returns-clause-small : goal.returns-clause-small
returns-clause-small c = each HasItsSize (λ file. file.1) (λ file. length file.1 ≤ 1048576) (λ number x made passed. passed.small) 0 c.args.files.now
    (contents_of c.args.files.now) (returns-clause-ok c)

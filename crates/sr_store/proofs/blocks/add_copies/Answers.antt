use Rattle.std.proofs.Common.{◌≡◌, ap, arith, get_or, length}
use Rattle.std.proofs.lemmas.Option.{slice_get_within}
use Rattle.sr_buckets.proofs.PartLemmas.{put-copied, put-long}
use Rattle.sr_store.specs.Variables.{Stored}
use Rattle.sr_store.proofs.blocks.add_copies.Goals as goal

pub loop-place-preserved : goal.loop-place-preserved
loop-place-preserved c = record {
  long = put-long (λ (bucket copy : Stored). copy.variables ≡ bucket.variables) c.args.from.now c.loop-place.to c.loop-place.place c.index-from-place.result c.in_ok-bucket.bucket (length c.args.to.now) c.loop-place.invariant.long;
  copied = put-copied (λ (bucket copy : Stored). copy.variables ≡ bucket.variables) c.args.from.now c.loop-place.to c.loop-place.place
      (get_or c.args.from.now c.loop-place.place c.index-from-place.result) c.in_ok-bucket.bucket c.loop-place.invariant.copied
      (ap (get_or c.args.from.now c.loop-place.place) c.index-from-place.is) c.in_ok-bucket.ensures;
}

pub returns-clause-copied : goal.returns-clause-copied
returns-clause-copied c = λ i bucket copy at there.
    let within = slice_get_within c.args.from.now i bucket at in
    c.loop-place.invariant.copied i bucket copy (omega (arith, within, c.type_inv.from, c.loop-place-test.false)) at there

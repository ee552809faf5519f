use Rattle.std.proofs.Common.{inl, inr, refl, subst}
use Rattle.std.proofs.lemmas.Result.{on_ok_weaker}
use Rattle.sr_races.specs.Marks.{HasItem}
use Rattle.sr_races.proofs.marks.add_to.Goals as goal

pub returns-then-ends_with : goal.returns-then-ends_with
returns-then-ends_with c = record { column = refl; marks = inr (refl, subst (λ ms. HasItem ms c.args.mark.item) c.as_slice.ensures (c.ends_with.ensures c.if-ends_with.true)) }

pub returns : goal.returns
returns c = on_ok_weaker c.push.result (λ pushed. record { column = refl; marks = inl pushed }) c.push.ensures.ok

-- The stretch is there before its items are made, and is told how many they are.
use Rattle.std.proofs.Common.{◌≡◌, ◌-◌, ℕ, List, [], ◌∷◌, ◌++◌, length, ap, ◌∙◌, slice_set}
use Rattle.std.proofs.Math.Seq.{set-append_seam}
use Rattle.sr_run.specs.declared.stretch.Stretch.{Stretch}
use Rattle.sr_run.proofs.in_rounds.make_stretch.Goals as goal

replaced : (old pushed now : List Stretch) (first last : Stretch) (place : ℕ) → pushed ≡ old ++ first ∷ [] → place ≡ length old → now ≡ slice_set pushed place last → now ≡ old ++ last ∷ []
replaced old pushed now first last place is at then =
    then ∙ ap (λ xs. slice_set xs place last) is ∙ ap (λ n. slice_set (old ++ first ∷ []) n last) at ∙ set-append_seam old first [] last

pub returns-in-Ok-clause-stretches : goal.returns-in-Ok-clause-stretches
returns-in-Ok-clause-stretches g c =
    let told : ℕ → ℕ → Stretch = λ from count. record { from = from; count = count - from } in
    replaced c.args.stretches.now c.push.new.self c.replace.new.self (record { from = c.len-from.result; count = 0 }) (told c.len-from.result c.len.result) c.len-place.result
    c.in_ok-push.ensures.ok c.len-place.ensures c.replace.ensures.others
    ∙ ap (λ from. c.args.stretches.now ++ told from c.len.result ∷ []) c.len-from.ensures
    ∙ ap (λ count. c.args.stretches.now ++ told (length c.args.items.now) count ∷ []) c.len.ensures

-- Waves, one after another.
use Rattle.std.proofs.Common.{◌≡◌, ℕ, ◌+◌, ◌-◌, ◌<◌, suc, zero, List, refl, ◌∙◌, ap, arith}
use Rattle.sr_check_expr.specs.declared.facts.Facts.{Facts}
use Rattle.sr_check_decl.specs.Inferring.{wave, waves}
use Rattle.sr_check_decl.specs.Waiting.{Waiting}

-- after a wave that changes nothing no other changes anything
pub waves_stay : (n : ℕ) (waiting : List Waiting) (facts : Facts) → wave waiting facts ≡ facts → waves n waiting facts ≡ facts
waves_stay zero waiting facts same = refl
waves_stay (suc n) waiting facts same = ap (λ (f : Facts). waves n waiting f) same ∙ waves_stay n waiting facts same

-- the waves that are left are one, and those left after it
pub waves_step : (n i : ℕ) (waiting : List Waiting) (facts : Facts) → i < n → waves (n - i) waiting facts ≡ waves (n - (i + 1)) waiting (wave waiting facts)
waves_step n i waiting facts within =
    let one_more : n - i ≡ suc (n - (i + 1)) = omega arith in ap (λ (k : ℕ). waves k waiting facts) one_more

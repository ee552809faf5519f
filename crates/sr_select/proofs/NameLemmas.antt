-- Where no value is left, no name has one.
use Rattle.std.proofs.Common.{◌≡◌, ℕ, ◌<◌, List, [], ◌∷◌, Option, None, length, refl, arith}
use Rattle.sr_value.specs.declared.value.Value.{Value}
use Rattle.sr_core.specs.declared.site.Named.{Named}
use Rattle.sr_select.specs.Guards.{home_seen, machine_seen, named_seen}

pub named-none : (names : List Named) (rest : List Value) (var : ℕ) → length rest < 1 → named_seen names rest var ≡ None
named-none [] rest var short = refl
named-none (name ∷ names) [] var short = refl
named-none (name ∷ names) (value ∷ rest) var short = absurd (omega arith)

pub home-none : (names : List Named) (rest : List Value) (import : ℕ) → length rest < 1 → home_seen names rest import ≡ None
home-none [] rest import short = refl
home-none (name ∷ names) [] import short = refl
home-none (name ∷ names) (value ∷ rest) import short = absurd (omega arith)

pub machine-none : (names : List Named) (rest : List Value) → length rest < 1 → machine_seen names rest ≡ None
machine-none [] rest short = refl
machine-none (name ∷ names) [] short = refl
machine-none (name ∷ names) (value ∷ rest) short = absurd (omega arith)

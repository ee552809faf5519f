-- The first invocation of a number that is out.
use Rattle.std.proofs.Common.{◌≡◌, ℕ, suc, ◌+◌, ◌<◌, ◌≤◌, Bool, true, false, cond, not, eqb, ltb, List, [], ◌∷◌, length, get_or, Some, None, refl, sym, ap, ◌∙◌, inl, inr, arith}
use Rattle.std.specs.List.{slice_get, remove, position, position_or_len}
use Rattle.std.proofs.lemmas.Bool.{eqb-true}
use Rattle.std.proofs.lemmas.Bool.Decides.{nat_tests}
use Rattle.std.proofs.lemmas.List.Sums.{passes_at_first}
use Rattle.std.proofs.lemmas.Option.{slice_get_cases}
use Rattle.sr_ask.specs.declared.environment.Out.{Out}
use Rattle.sr_frame.specs.Outs.{IsFirstOut}
use Rattle.sr_ask.specs.Replies.{without_out}

position_at : (b : Bool) (n m at : ℕ) → ltb n m ≡ b → Some at ≡ cond b (Some n) None → (at ≡ n) × (at < m)
position_at true n m at e found = let same : at ≡ n = cc in (same, grind (arith, nat_tests))
position_at false n m at e found = cc

pub position_found : {X : Type 0} (p : X → Bool) (xs : List X) (at : ℕ) → Some at ≡ position p xs → (at ≡ position_or_len p xs) × (at < length xs)
position_found p xs at found = position_at (ltb (position_or_len p xs) (length xs)) (position_or_len p xs) (length xs) at refl found

position_past : (b : Bool) (n m : ℕ) → ltb n m ≡ b → None ≡ cond b (Some n) None → m ≤ n
position_past true n m e none = cc
position_past false n m e none = grind (arith, nat_tests)

pub position_none : {X : Type 0} (p : X → Bool) (xs : List X) → None ≡ position p xs → length xs ≤ position_or_len p xs
position_none p xs none = position_past (ltb (position_or_len p xs) (length xs)) (position_or_len p xs) (length xs) refl none

first_passes : {X : Type 0} (p : X → Bool) (xs : List X) (at : ℕ) (x : X) → at ≡ position_or_len p xs → at < length xs → get_or xs at x ≡ x → p x ≡ true
first_passes p xs at x e within is =
    let first = passes_at_first p xs x (omega arith) in
    sym (ap p is) ∙ ap (λ n. p (get_or xs n x)) e ∙ first

-- what stands at the first place of a number has that number
numbered : (id : ℕ) (outs : List Out) (at : ℕ) (out : Out) → Some at ≡ position (λ (other : Out). eqb other.id id) outs → slice_get outs at ≡ Some out → out.id ≡ id
numbered id outs at out found is =
    let f = position_found (λ (other : Out). eqb other.id id) outs at found in
    elim (slice_get_cases outs at).1 [
      | inl w ↦
          let same : w.0 ≡ out = cc (w.2, is) in
          ap (λ (other : Out). other.id) (sym same) ∙ eqb-true w.0.id id (first_passes (λ (other : Out). eqb other.id id) outs at w.0 f.0 w.1 w.3)
      | inr w ↦ absurd (omega arith)
    ]

-- the first of a number is the first of its own
pub first_out : (id : ℕ) (outs : List Out) (at : ℕ) → Some at ≡ position (λ (out : Out). eqb out.id id) outs → IsFirstOut outs at
first_out id outs at found = record {
  within = (position_found (λ (out : Out). eqb out.id id) outs at found).1;
  first = λ out is. ap (λ i. position (λ (other : Out). eqb other.id i) outs) (numbered id outs at out found is) ∙ sym found;
}

one_more : (n : ℕ) → suc n ≡ 1 + n
one_more n = omega arith

-- without the first of a number all others are there
without_first : (id : ℕ) (outs : List Out) → position_or_len (λ (out : Out). eqb out.id id) outs < length outs
    → without_out outs id ≡ remove outs (position_or_len (λ (out : Out). eqb out.id id) outs)
without_first id [] h = absurd (omega arith)
without_first id (out ∷ outs) h =
    (elim (eqb out.id id) as (λ b. cond (not b) (1 + position_or_len (λ (other : Out). eqb other.id id) outs) 0 < length (out ∷ outs)
    → cond b outs (out ∷ without_out outs id) ≡ remove (out ∷ outs) (cond (not b) (1 + position_or_len (λ (other : Out). eqb other.id id) outs) 0)) [
      | true ↦ λ h'. refl
      | false ↦ λ h'. ap (λ rest. out ∷ rest) (without_first id outs (omega arith)) ∙ ap (remove (out ∷ outs)) (one_more (position_or_len (λ (other : Out). eqb other.id id) outs))
    ]) h

-- the first of its number is taken out
pub dropped : (outs rest : List Out) (at : ℕ) (out : Out) → IsFirstOut outs at → slice_get outs at ≡ Some out → rest ≡ remove outs at → without_out outs out.id ≡ rest
dropped outs rest at out first is e =
    let found = position_found (λ (other : Out). eqb other.id out.id) outs at (sym (first.first out is)) in
    let place : position_or_len (λ (other : Out). eqb other.id out.id) outs ≡ at = sym found.0 in
    let without = without_first out.id outs (omega (arith, found.0, found.1)) in
    without ∙ ap (remove outs) place ∙ sym e

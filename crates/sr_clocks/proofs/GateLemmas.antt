-- Items that come after all before them, and before all after them: of these the last alone needs a link to an item.
use Rattle.std.proofs.Common.{◌≡◌, ◌<◌, ◌⊎◌, inl, inr, ⊎_elim, ℕ, zero, suc, Bool, true, false, refl, sym, subst, arith}
use Rattle.sr_clocks.specs.Clocks.{Before, linked, through}
use Rattle.sr_clocks.proofs.ClockLemmas.{order}

-- the last of the first items, so many, that passes the test
pub record IsLastGate (gate : ℕ → Bool) (n g : ℕ) : Type 0 where
  pub earlier : g < n
  pub passes : gate g ≡ true
  pub none : (k : ℕ) → g < k → k < n → gate k ≡ false

either : (b : Bool) → (b ≡ true) ⊎ (b ≡ false)
either true = inl refl
either false = inr refl

pub last_gate : (gate : ℕ → Bool) (n i : ℕ) → i < n → gate i ≡ true → (g : ℕ) × IsLastGate gate n g
last_gate gate zero i less passes = absurd (omega arith)
last_gate gate (suc n) i less passes = ⊎_elim here (before (λ short. last_gate gate n i short passes)) (either (gate n))
  where
    here : gate n ≡ true → (g : ℕ) × IsLastGate gate (suc n) g
    here is = (n, record { earlier = omega arith; passes = is; none = λ k more short. absurd (omega arith) })

    none_more : (g : ℕ) → IsLastGate gate n g → gate n ≡ false → (k : ℕ) → g < k → k < suc n → gate k ≡ false
    none_more g last fails k more short =
        ⊎_elim (λ l. last.none k more l) (⊎_elim (λ e. subst (λ i. gate i ≡ false) (sym e) fails) (λ l. absurd (omega arith))) (order k n)

    longer : gate n ≡ false → ((g : ℕ) × IsLastGate gate n g) → (g : ℕ) × IsLastGate gate (suc n) g
    longer fails last = (last.0, record { earlier = omega (arith, last.1.earlier); passes = last.1.passes; none = none_more last.0 last.1 fails })

    earlier_one : gate n ≡ false → i < n
    earlier_one fails = ⊎_elim (λ l. l) (⊎_elim (λ e. absurd (let same : gate n ≡ true = subst (λ k. gate k ≡ true) e passes in cc)) (λ l. absurd (omega arith))) (order i n)

    before : (i < n → (g : ℕ) × IsLastGate gate n g) → gate n ≡ false → (g : ℕ) × IsLastGate gate (suc n) g
    before known fails = longer fails (known (earlier_one fails))

-- an item that passes is before each later one, by the last that passes before it
pub gate_way : (Fewer : ℕ → ℕ → Type 0) (gate : ℕ → Bool) (i j : ℕ) → ((k g : ℕ) → k < g → gate g ≡ true → Fewer k g)
    → ((g : ℕ) → IsLastGate gate j g → Fewer g j) → i < j → gate i ≡ true → Before Fewer i j
gate_way Fewer gate i j ends begins less passes = along (last_gate gate j i less passes)
  where
    along : ((g : ℕ) × IsLastGate gate j g) → Before Fewer i j
    along last =
        ⊎_elim (λ l. through i last.0 j (linked i last.0 (ends i last.0 l last.1.passes)) (linked last.0 j (begins last.0 last.1)))
        (⊎_elim (λ e. linked i j (subst (λ k. Fewer k j) (sym e) (begins last.0 last.1))) (λ l. absurd (let fails : gate i ≡ false = last.1.none i l less in cc)))
        (order i last.0)

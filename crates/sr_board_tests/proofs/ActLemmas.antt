-- Parts in hand, and an entry that touches them.
use Rattle.std.proofs.Common.{◌≡◌, ℕ, ◌<◌, ◌⊎◌, Bool, true, false, List, [], ◌∷◌, map, sym, refl, ap, ◌∙◌, subst, ⊎_elim, inl, inr, arith, eqb-true, zero, suc}
use Rattle.std.specs.Prelude.{All, ◌||◌}
use mathlib.Core.Option.{some, some-injective}
use lib.ListN.{get_elem?}
use Rattle.atomic_table.proofs.Lists.{at_map}
use Rattle.sr_board.specs.declared.view.Held.{Held}
use Rattle.sr_board.specs.declared.view.View.{View}
use Rattle.sr_board.specs.Views.{HasPart, HasTouched, IsAfter}
use Rattle.sr_board.proofs.Lists.{mapped, none_in, not_true}
use Rattle.sr_board_tests.specs.declared.parts.Entry.{Entry}
use Rattle.sr_board_tests.specs.declared.parts.Part.{Part}
use Rattle.sr_board_tests.specs.Hands.{held_of}
use Rattle.sr_board_tests.specs.Slots.{touches}

-- a stamp is above all that these parts have
abbrev pub AreBelow : ℕ → List Part → Type 0
AreBelow n [] = Unit {0}
AreBelow n (p ∷ ps) = (p.last < n) × AreBelow n ps

below_at : (n : ℕ) (ps : List Part) (i : ℕ) (p : Part) → AreBelow n ps → get_elem? ps i ≡ some p → p.last < n
below_at n [] i p all at = absurd (none_in i p at)
below_at n (q ∷ ps) zero p all at = subst (λ (x : Part). x.last < n) (some-injective q p at) all.0
below_at n (q ∷ ps) (suc i) p all at = below_at n ps i p all.1 at

pub after_parts : (v : View Entry) (ps : List Part) (n : ℕ) → v.held ≡ map held_of ps → v.clock < n → AreBelow n ps → IsAfter (λ e. e.stamp) v n
after_parts v ps n held clock all = record {
  own = clock;
  in_hand = λ i h at.
      let m = mapped held_of ps i h (ap (λ (l : List (Held Entry)). get_elem? l i) (sym held) ∙ at) in
      let less : m.0.last < n = below_at n ps i m.0 all m.1 in
      subst (λ (x : Held Entry). All (λ e. e.stamp < n) x.journal) m.2 (λ k d within. let low = m.0.low k d within in omega arith);
}

or_true : (a b : Bool) → (a || b) ≡ true → (a ≡ true) ⊎ (b ≡ true)
or_true true b e = inl refl
or_true false b e = inr e

-- the entry touches these three parts, which are in hand
pub touched_parts : (v : View Entry) (ps : List Part) (e : Entry) (i j l : ℕ) (p q r : Part) → v.held ≡ map held_of ps
    → get_elem? ps i ≡ some p → p.number ≡ e.first → get_elem? ps j ≡ some q → q.number ≡ e.second → get_elem? ps l ≡ some r → r.number ≡ e.third
    → HasTouched touches v e
touched_parts v ps e i j l p q r held at_p first at_q second at_r third k hits = subst (λ (hs : List (Held Entry)). HasPart hs k) (sym held)
    (⊎_elim (λ is. (i, held_of p, at_map held_of ps i p at_p, first ∙ eqb-true e.first k is))
    (λ other. ⊎_elim (λ is. (j, held_of q, at_map held_of ps j q at_q, second ∙ eqb-true e.second k is))
    (λ is. (l, held_of r, at_map held_of ps l r at_r, third ∙ eqb-true e.third k is)) (or_true _ _ other))
    (or_true _ _ hits))

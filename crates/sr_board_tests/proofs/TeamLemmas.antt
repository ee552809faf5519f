-- Parts that are made one after the other.
use Rattle.std.proofs.Common.{◌≡◌, ℕ, ◌+◌, List, [], ◌∷◌, ◌++◌, length, sym, ap, ◌∙◌, subst, ⊎_elim, length-append}
use lib.ListN.{get_elem?}
use Rattle.sr_board.proofs.Lists.{at_end}
use Rattle.sr_board.specs.Rule.{AreNew}
use Rattle.sr_board_tests.specs.declared.parts.Part.{Part}
use Rattle.sr_board_tests.specs.declared.slots.Slot.{Slot}
use Rattle.sr_board_tests.specs.declared.slots.Slot.TheVariants.{Here}
use Rattle.sr_board_tests.specs.Slots.{IsHere, journal_in}

-- so many parts, each at its place with no entry
pub record ArePartsBelow (slots : List Slot) (n : ℕ) : Type 0 where
  pub count : length slots ≡ n
  pub new : AreNew journal_in IsHere slots

pub one_part_more : (slots slots' : List Slot) (n : ℕ) (part : Part) → ArePartsBelow slots n → part.number ≡ n → part.journal.items ≡ [] → slots' ≡ slots ++ Here part ∷ [] → ArePartsBelow slots' (n + 1)
one_part_more slots slots' n part old number empty is = record {
  count = ap length is ∙ (length-append slots (Here part ∷ []) ∙ ap (λ (k : ℕ). k + 1) old.count);
  new = λ k x at. ⊎_elim (λ before. old.new k x before)
      (λ (t : (k ≡ length slots) × (Here part ≡ x)). subst (λ (s : Slot). IsHere k s × (journal_in s ≡ [])) t.1 (number ∙ sym (t.0 ∙ old.count), empty))
      (at_end slots (Here part) x k (ap (λ (l : List Slot). get_elem? l k) (sym is) ∙ at));
}

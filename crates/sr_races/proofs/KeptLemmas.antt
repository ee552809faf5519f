-- The links that a search keeps have the same closure.
use Rattle.std.proofs.Common.{◌≡◌, ◌↔◌, ◌+◌, ◌<◌, ◌≤◌, ℕ, true, refl, length}
use Rattle.std.proofs.lemmas.Option.{slice_get_within}
use Rattle.std.specs.Prelude.{Option, Some, None, slice_get, slice_index}
use Rattle.sr_ask.specs.declared.item.Item.{Item}
use Rattle.sr_clocks.proofs.ClockLemmas.{rows_tell, same_closure}
use Rattle.sr_clocks.proofs.GateLemmas.{IsLastGate, gate_way}
use Rattle.sr_clocks.specs.Clocks.{AreInLine, AreRows, Before, IsNext, Rows, linked, made}
use Rattle.sr_races.proofs.LinkLemmas.{within}
use Rattle.sr_races.specs.Items.{Run, actors, asked_at}
use Rattle.sr_races.specs.Kept.{IsKept, IsLastEnding}
use Rattle.sr_races.specs.Links.{IsBefore, IsOfKind, Linked, begins_final, ends_all}
use Rattle.sr_races.specs.declared.link.LinkKind.{LinkKind}
use Rattle.sr_races.specs.declared.link.LinkKind.TheVariants as kind

module _ (r : Run) where
  pub gate_is : (j i : ℕ) → IsLastEnding r j i → IsLastGate (ends_all r) j i
  gate_is j i last = record { earlier = last.earlier; passes = last.ends; none = last.none }

  pub is_gate : (j i : ℕ) → IsLastGate (ends_all r) j i → IsLastEnding r j i
  is_gate j i last = record { earlier = last.earlier; ends = last.passes; none = last.none }

  pub ends_kept : (i j : ℕ) → i < j → j < length r.items → ends_all r j ≡ true → IsKept r i j
  ends_kept i j less inside ends = record { link = record { kind = kind.Ends; link = record { later = less; second = inside; is = ends } }; last = λ e. absurd (cc e) }

  pub begins_kept : (i j : ℕ) → j < length r.items → IsLastEnding r j i → IsKept r i j
  begins_kept i j within last = record { link = record { kind = kind.Begins; link = record { later = last.earlier; second = within; is = last.ends } }; last = λ _. last }

  -- an item that ends all is in the run
  ending_within : (j : ℕ) → ends_all r j ≡ true → j < length r.items
  ending_within j ends = by (slice_get r.items j) refl ends
    where
      by : (o : Option Item) → slice_get r.items j ≡ o → begins_final o (asked_at r j) ≡ true → j < length r.items
      by None is h = absurd (cc)
      by (Some item) is h = slice_get_within r.items j item is

  kept : (i j : ℕ) (k : LinkKind) → i < j → j < length r.items → IsOfKind r i j k → (k ≡ kind.Begins → ⊥) → IsKept r i j
  kept i j k less within is other = record { link = record { kind = k; link = record { later = less; second = within; is = is } }; last = λ e. absurd (other e) }

  keeps : (i j : ℕ) (k : LinkKind) → i < j → j < length r.items → IsOfKind r i j k → Before (IsKept r) i j
  keeps i j kind.Begins less within is =
      gate_way (IsKept r) (ends_all r) i j (λ k g less passes. ends_kept k g less (ending_within g passes) passes) (λ g last. begins_kept g j within (is_gate j g last)) less is
  keeps i j kind.Next less within is = linked i j (kept i j kind.Next less within is (λ e. cc))
  keeps i j kind.Makes less within is = linked i j (kept i j kind.Makes less within is (λ e. cc))
  keeps i j kind.Services less within is = linked i j (kept i j kind.Services less within is (λ e. cc))
  keeps i j kind.Answers less within is = linked i j (kept i j kind.Answers less within is (λ e. cc))
  keeps i j kind.Readies less within is = linked i j (kept i j kind.Readies less within is (λ e. cc))
  keeps i j kind.Ends less within is = linked i j (kept i j kind.Ends less within is (λ e. cc))

  pub kept_closure : (i j : ℕ) → IsBefore r i j ↔ Before (IsKept r) i j
  kept_closure i j = same_closure (Linked r) (IsKept r) (λ i j kept. kept.link) (λ i j l. keeps i j l.kind l.link.later l.link.second l.link.is) i j

  kept_next : (i j : ℕ) → IsNext (actors r) i j → IsKept r i j
  kept_next i j next = kept i j kind.Next next.later (within r.items j next.some) next (λ e. cc)

  pub kept_in_line : AreInLine (IsKept r) (actors r)
  kept_in_line = record { forward = λ i j kept. kept.link.link.later; in_line = kept_next }

  -- the law of clocks, by the rows of the links that are kept
  pub kept_clocks_tell : (count : ℕ) (row : Rows) → AreRows (IsKept r) (actors r) count row → (k j : ℕ) → 0 < slice_index (actors r) k → k < j → j < count
      → IsBefore r k j ↔ (made (actors r) (slice_index (actors r) k) (k + 1) ≤ row j (slice_index (actors r) k))
  kept_clocks_tell count row rows k j some less inside =
      let told = rows_tell (IsKept r) (actors r) count row kept_in_line rows k j some less inside in
      (λ before. told.0 ((kept_closure k j).0 before), λ least. (kept_closure k j).1 (told.1 least))

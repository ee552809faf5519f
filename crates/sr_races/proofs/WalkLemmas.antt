-- One row more for the next item of a run.
use Rattle.std.proofs.Common.{◌≡◌, ◌<◌, ◌≤◌, ◌+◌, ◌⊎◌, inl, inr, ⊎_elim, ℕ, List, map, length, ap, sym, ◌∙◌, subst, arith, add-one}
use Rattle.std.specs.Prelude.{Contains, true}
use Rattle.sr_clocks.proofs.ClockLemmas.{made_suc, next_above, next_reached, rows_more}
use Rattle.sr_clocks.proofs.OriginLemmas.{above, reached}
use Rattle.sr_clocks.specs.Clocks.{AreRows, Rows, greatest, made, own}
use Rattle.sr_clock_rows.specs.Rows.{AddsRow, AreClocks, IsGreatestRow, IsSound, IsWholeRow, count_of, item_count, made_by}
use Rattle.sr_clock_rows.specs.Columns.{AreColumns}
use Rattle.sr_clock_rows.specs.declared.clocks.Clocks.{Clocks}
use Rattle.sr_races.specs.Items.{Run, actor_at, actors}
use Rattle.sr_races.specs.Kept.{HasRows, IsKept}
use Rattle.sr_races.specs.Links.{ends_all}
use Rattle.sr_races.proofs.KeptLemmas.{ends_kept, kept_in_line}

-- rows that are the same so far
same-rows : (Links : ℕ → ℕ → Type 0) (owners : List ℕ) (count : ℕ) (row row' : Rows) → ((i j : ℕ) → Links i j → i < j) → AreRows Links owners count row
    → ((i p : ℕ) → i < count → row' i p ≡ row i p) → AreRows Links owners count row'
same-rows Links owners count row row' forward rows same = record {
  above = λ i j p inside some link.
      let less = forward i j link in omega (arith, rows.above i j p inside some link, same i p (omega arith), same j p inside);
  reached = λ j p inside some. ⊎_elim (λ e. inl (same j p inside ∙ e))
      (λ found. inr (found.0, found.1, let less = forward found.0 j found.1 in omega (arith, found.2, same j p inside, same found.0 p (omega arith))))
      (rows.reached j p inside some);
}

module _ (r : Run) (m : ℕ) (old new : Clocks) (has : HasRows r m old) (adds : AddsRow (actor_at r m) old new) (sound : IsSound new) where
  count-is : item_count old ≡ m
  count-is = has.are.items

  still : (i p : ℕ) → i < m → count_of new i p ≡ count_of old i p
  still i p less = adds.rows i p (omega (arith, count-is))

  made-more : (p : ℕ) → 0 < p → made_by new p ≡ made (actors r) p m + own (actors r) p m
  made-more p some = omega (arith, adds.made p some, has.are.made p some)

  clocks-more : AreClocks (actors r) (m + 1) new
  clocks-more = record {
    sound = sound;
    columns = subst (λ columns. AreColumns (actors r) columns) (sym adds.columns) has.are.columns;
    items = adds.items ∙ ap (λ n. n + 1) count-is;
    made = λ p some. made-more p some ∙ sym (made_suc (actors r) p m some) ∙ ap (made (actors r) p) (sym (add-one m));
  }

  rows-before : AreRows (IsKept r) (actors r) m (count_of new)
  rows-before = same-rows (IsKept r) (actors r) m (count_of old) (count_of new) (λ i j kept. kept.link.link.later) has.rows still

  at-last : (p : ℕ) → count_of new (item_count old) p ≡ count_of new m p
  at-last p = ap (λ n. count_of new n p) count-is

  -- the row of an item that these are linked to
  pub step-rows : (origins : List ℕ) → IsGreatestRow origins (actor_at r m) old new → ((i : ℕ) → Contains origins i → IsKept r i m) → ((i : ℕ) → IsKept r i m → Contains origins i)
      → HasRows r (m + 1) new
  step-rows origins row of-origin in-origins = record {
    are = clocks-more;
    rows = subst (λ n. AreRows (IsKept r) (actors r) n (count_of new)) (sym (add-one m)) (rows_more (IsKept r) (actors r) (kept_in_line r) m (count_of new) rows-before higher from);
  }
    where
      row-is : (p : ℕ) → 0 < p → count_of new m p ≡ greatest (map (λ i. count_of old i p) origins) + own (actors r) p m
      row-is p some = sym (at-last p) ∙ row p some

      higher : (i p : ℕ) → 0 < p → IsKept r i m → count_of new i p + own (actors r) p m ≤ count_of new m p
      higher i p some kept =
          let among = in-origins i kept in
          omega (arith, row-is p some, above (λ k. count_of old k p) origins among.0 i among.1 among.2, still i p kept.link.link.later)

      from : (p : ℕ) → 0 < p → (count_of new m p ≡ own (actors r) p m) ⊎ ((i : ℕ) × IsKept r i m × (count_of new m p ≡ count_of new i p + own (actors r) p m))
      from p some = ⊎_elim (λ none. inl (omega (arith, row-is p some, none)))
          (λ found.
          let kept = of-origin found.0 found.1 in
          inr (found.0, kept, omega (arith, row-is p some, found.2, still found.0 p kept.link.link.later)))
          (reached (λ k. count_of old k p) origins)

  -- the row of an item that ends all
  pub ending-rows : IsWholeRow old new → m < length r.items → ends_all r m ≡ true → HasRows r (m + 1) new
  ending-rows whole within ends = record {
    are = clocks-more;
    rows = subst (λ n. AreRows (IsKept r) (actors r) n (count_of new)) (sym (add-one m))
        (rows_more (IsKept r) (actors r) (kept_in_line r) m (count_of new) rows-before
        (next_above (IsKept r) (actors r) (kept_in_line r) m (count_of new) rows-before all is)
        (next_reached (IsKept r) (actors r) (kept_in_line r) m (count_of new) rows-before all is));
  }
    where
      all : (i : ℕ) → i < m → IsKept r i m
      all i less = ends_kept r i m less within ends

      is : (p : ℕ) → 0 < p → count_of new m p ≡ made (actors r) p m + own (actors r) p m
      is p some = sym (at-last p) ∙ whole p some ∙ made-more p some

-- What stays the same where one seat's view changes.
use Rattle.std.proofs.Common.{◌≡◌, ◌≢◌, ℕ, Bool, true, List, [], ◌∷◌, ◌++◌, map, set, sym, refl, ap, ◌∙◌, subst, ⊎_elim, arith, ne_eqb, zero, suc, Option, Some, None}
use mathlib.Core.Logic.{dite}
use mathlib.Core.Option as maybe
use mathlib.Core.Option.{none, some, some-ne-none, some-injective}
use native.Mathlib.Decide.{ℕ_discrete}
use lib.ListN.{get_elem?}
use Rattle.atomic_table.proofs.Lists.{at_set, set_else, at_map}
use Rattle.sr_board.specs.declared.view.Held.{Held}
use Rattle.sr_board.specs.declared.view.View.{View}
use Rattle.sr_board.specs.Rule.{IsFree, IsTaken, Once, is_of}
use Rattle.sr_board.specs.Views.{HasPart, held_after}
use Rattle.sr_board.proofs.Lists.{filter_away, here, mapped, put, put_else, put_here}

module _ {E : Type 0} where
  -- what holds of the changed view and of all others holds of each
  pub each : (K : ℕ → View E → Type 0) (vs : List (View E)) (me : ℕ) (w : View E) → K me w → ((j : ℕ) (d : View E) → j ≢ me → get_elem? vs j ≡ some d → K j d)
      → (j : ℕ) (d : View E) → get_elem? (set vs me w) j ≡ some d → K j d
  each K vs me w mine others j d e = ⊎_elim (λ (t : (j ≡ me) × (w ≡ d)). subst (λ (x : ℕ × View E). K x.0 x.1) (λ i. (sym t.0 i, t.1 i)) mine)
      (λ (t : (j ≢ me) × (get_elem? vs j ≡ some d)). others j d t.0 t.1) (at_set vs me j w d e)

  pub first_or_rest : (C : Held E → Type 0) (g : Held E) (gs : List (Held E)) (i : ℕ) (h : Held E) → get_elem? (g ∷ gs) i ≡ some h → C g → ((j : ℕ) (h' : Held E) → get_elem? gs j ≡ some h' → C h') → C h
  first_or_rest C g gs zero h e one more = subst C (some-injective g h e) one
  first_or_rest C g gs (suc i) h e one more = more i h e

  abbrev pub entry_or : E → Option E → E
  entry_or d (Some e) = e
  entry_or d None = d

  -- ---- parts in hand

  pub held_longer : (h : Held E) (hs : List (Held E)) (k : ℕ) → HasPart hs k → HasPart (h ∷ hs) k
  held_longer h hs k t = (suc t.0, t.1, t.2, t.3)

  pub held_mapped : (touches : ℕ → E → Bool) (e : E) (hs : List (Held E)) (k : ℕ) → HasPart hs k → HasPart (map (held_after touches e) hs) k
  held_mapped touches e hs k t = (t.0, held_after touches e t.1, at_map (held_after touches e) hs t.0 t.1 t.2, t.3)

  pub held_later : (h : Held E) (hs : List (Held E)) (k : ℕ) → HasPart (h ∷ hs) k → h.part ≢ k → HasPart hs k
  held_later h hs k (zero, g, at, same) ne = absurd (ne (ap (λ (x : Held E). x.part) (some-injective h g at) ∙ same))
  held_later h hs k (suc i, g, at, same) ne = (i, g, at, same)

  pub once_more : (g : Held E) (hs : List (Held E)) → ((i : ℕ) (h : Held E) → get_elem? hs i ≡ some h → h.part ≢ g.part) → Once hs → Once (g ∷ hs)
  once_more g hs apart old zero zero x y a b same = refl
  once_more g hs apart old zero (suc j) x y a b same = absurd (apart j y b (sym same ∙ ap (λ (z : Held E). z.part) (sym (some-injective g x a))))
  once_more g hs apart old (suc i) zero x y a b same = absurd (apart i x a (same ∙ ap (λ (z : Held E). z.part) (sym (some-injective g y b))))
  once_more g hs apart old (suc i) (suc j) x y a b same = ap suc (old i j x y a b same)

  pub once_mapped : (touches : ℕ → E → Bool) (e : E) (hs : List (Held E)) → Once hs → Once (map (held_after touches e) hs)
  once_mapped touches e hs old i j x y a b same =
      let p = mapped (held_after touches e) hs i x a in let q = mapped (held_after touches e) hs j y b in
      old i j p.0 q.0 p.1 q.1 (ap (λ (z : Held E). z.part) p.2 ∙ (same ∙ ap (λ (z : Held E). z.part) (sym q.2)))

  pub once_rest : (g : Held E) (hs : List (Held E)) → Once (g ∷ hs) → Once hs
  once_rest g hs old i j x y a b same = let e : suc i ≡ suc j = old (suc i) (suc j) x y a b same in omega arith

  pub once_apart : (g : Held E) (hs : List (Held E)) → Once (g ∷ hs) → HasPart hs g.part → ⊥
  once_apart g hs old has = let e : suc has.0 ≡ 0 = old (suc has.0) 0 has.1 g has.2 refl has.3 in omega arith

  -- ---- turns that are taken

  pub same_view : (vs : List (View E)) (id k : ℕ) (v : View E) (t : IsTaken vs k) → get_elem? vs id ≡ some v → t.id ≡ id → v ≡ t.view
  same_view vs id k v t at is = some-injective v t.view (sym at ∙ (ap (get_elem? vs) (sym is) ∙ t.there))

  pub taken_else : (vs : List (View E)) (id k : ℕ) (w : View E) (t : IsTaken vs k) → t.id ≢ id → IsTaken (set vs id w) k
  taken_else vs id k w t ne = record { id = t.id; view = t.view; there = set_else vs id t.id w ne ∙ t.there; live = t.live; has = t.has }

  pub taken_here : (vs : List (View E)) (id k : ℕ) (v w : View E) → get_elem? vs id ≡ some v → w.live ≡ true → HasPart w.held k → IsTaken (set vs id w) k
  taken_here vs id k v w at live has = record { id = id; view = w; there = here vs id v w at; live = live; has = has }

  -- where the seat keeps the part in hand, the turn stays with whom it was
  pub taken_kept : (vs : List (View E)) (id k : ℕ) (v w : View E) → get_elem? vs id ≡ some v → w.live ≡ true → (HasPart v.held k → HasPart w.held k) → IsTaken vs k → IsTaken (set vs id w) k
  taken_kept vs id k v w at live keep t = dite (ℕ_discrete t.id id)
      (λ is. taken_here vs id k v w at live (keep (subst (λ (x : View E). HasPart x.held k) (sym (same_view vs id k v t at is)) t.has)))
      (λ ne. taken_else vs id k w t ne)

  -- ---- numbers that nobody has

  pub free_stays : (seat : E → ℕ) (sits : ℕ → maybe.Option ℕ) (es : List E) (e : E) (who id : ℕ) (l : List E) → sits (seat e) ≡ some id → IsFree seat sits es who l → IsFree seat sits (es ++ e ∷ []) who l
  free_stays seat sits es e who id l own n = (n.0, filter_away (is_of seat who) es e (ne_eqb (seat e) who (λ is. some-ne-none id (sym own ∙ (ap sits is ∙ n.0)))) ∙ n.1)

  pub free_off : (seat : E → ℕ) (sits : ℕ → maybe.Option ℕ) (es : List E) (at who : ℕ) (l : List E) → IsFree seat sits es who l → IsFree seat (put sits at none) es who l
  free_off seat sits es at who l n = (dite (ℕ_discrete who at) (λ is. put_here sits at none who is) (λ ne. put_else sits at none who ne ∙ n.0), n.1)

  pub free_else : (seat : E → ℕ) (sits : ℕ → maybe.Option ℕ) (es : List E) (at who id : ℕ) (l : List E) → who ≢ at → IsFree seat sits es who l → IsFree seat (put sits at (some id)) es who l
  free_else seat sits es at who id l ne n = (put_else sits at (some id) who ne ∙ n.0, n.1)

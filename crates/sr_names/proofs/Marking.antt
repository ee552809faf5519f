-- The marks of spots, one by one.
use Rattle.std.proofs.Common.{◌≡◌, ◌⊎◌, ℕ, zero, suc, Bool, true, false, cond, List, [], ◌∷◌, Option, Some, None, refl, ap, sym, ◌∙◌, subst, inl, inr, if◌then◌else◌, true≢false}
use Rattle.std.specs.Map.{lookup}
use Rattle.indexmap.specs.IndexMap.{insert_entry}
use Rattle.sr_names.specs.declared.marks.Mark.{Mark}
use Rattle.sr_names.specs.declared.marks.Mark.TheVariants.{Settled}
use Rattle.sr_names.specs.declared.spot.Spot.{Spot}
use Rattle.sr_names.specs.Marks.{mark_of, with_mark, with_settled}
use Rattle.sr_names.specs.Searches.{At}
use Rattle.sr_names.specs.Spots.{same_spot}
use Rattle.sr_names.proofs.LinkLemmas.{same_spot-eq, same_spot-refl}

pub same_spot-cases : (a b : Spot) → (a ≡ b) ⊎ (same_spot a b ≡ false)
same_spot-cases a b = by (same_spot a b) refl
  where
    by : (test : Bool) → same_spot a b ≡ test → (a ≡ b) ⊎ (same_spot a b ≡ false)
    by true e = inl (same_spot-eq a b e)
    by false e = inr e

module _ {V : Type 0} where
  pub entry-same : (entries : List (Spot × V)) (spot : Spot) (value : V) → lookup (same_spot spot) (insert_entry same_spot entries spot value) ≡ Some value
  entry-same [] spot value = ap (λ b. cond b (Some value) None) (same_spot-refl spot)
  entry-same (e ∷ es) spot value = by (same_spot spot e.0) refl (entry-same es spot value)
    where
      by : (b : Bool) → same_spot spot e.0 ≡ b → lookup (same_spot spot) (insert_entry same_spot es spot value) ≡ Some value
          → lookup (same_spot spot) (if same_spot spot e.0 then (e.0, value) ∷ es else e ∷ insert_entry same_spot es spot value) ≡ Some value
      by true is more =
          ap (λ b. lookup (same_spot spot) (if b then (e.0, value) ∷ es else e ∷ insert_entry same_spot es spot value)) is ∙ ap (λ b. cond b (Some value) (lookup (same_spot spot) es)) is
      by false is more =
          ap (λ b. lookup (same_spot spot) (if b then (e.0, value) ∷ es else e ∷ insert_entry same_spot es spot value)) is
          ∙ ap (λ b. cond b (Some e.1) (lookup (same_spot spot) (insert_entry same_spot es spot value))) is ∙ more

  pub entry-other : (entries : List (Spot × V)) (spot : Spot) (value : V) (other : Spot) → same_spot other spot ≡ false
      → lookup (same_spot other) (insert_entry same_spot entries spot value) ≡ lookup (same_spot other) entries
  entry-other [] spot value other h = ap (λ b. cond b (Some value) None) h
  entry-other (e ∷ es) spot value other h = by (same_spot spot e.0) refl (entry-other es spot value other h)
    where
      by : (b : Bool) → same_spot spot e.0 ≡ b → lookup (same_spot other) (insert_entry same_spot es spot value) ≡ lookup (same_spot other) es
          → lookup (same_spot other) (if same_spot spot e.0 then (e.0, value) ∷ es else e ∷ insert_entry same_spot es spot value) ≡ lookup (same_spot other) (e ∷ es)
      by true is more =
          let apart : same_spot other e.0 ≡ false = subst (λ x. same_spot other x ≡ false) (same_spot-eq spot e.0 is) h in
          ap (λ b. lookup (same_spot other) (if b then (e.0, value) ∷ es else e ∷ insert_entry same_spot es spot value)) is
          ∙ ap (λ b. cond b (Some value) (lookup (same_spot other) es)) apart
          ∙ sym (ap (λ b. cond b (Some e.1) (lookup (same_spot other) es)) apart)
      by false is more =
          ap (λ b. lookup (same_spot other) (if b then (e.0, value) ∷ es else e ∷ insert_entry same_spot es spot value)) is
          ∙ ap (λ m. cond (same_spot other e.0) (Some e.1) m) more

pub mark-same : (marks : List (Spot × Mark)) (spot : Spot) (mark : Mark) → mark_of (with_mark marks spot mark) spot ≡ Some mark
mark-same marks spot mark = entry-same marks spot mark

pub mark-other : (marks : List (Spot × Mark)) (spot : Spot) (mark : Mark) (other : Spot) → same_spot other spot ≡ false → mark_of (with_mark marks spot mark) other ≡ mark_of marks other
mark-other marks spot mark other h = entry-other marks spot mark other h

-- what a spot is marked as after a marking
pub mark-either : (marks : List (Spot × Mark)) (spot : Spot) (mark : Mark) (other : Spot) (found : Option Mark) → mark_of (with_mark marks spot mark) other ≡ found
    → ((spot ≡ other) × (found ≡ Some mark)) ⊎ (mark_of marks other ≡ found)
mark-either marks spot mark other found h = by (same_spot-cases other spot)
  where
    by : ((other ≡ spot) ⊎ (same_spot other spot ≡ false)) → ((spot ≡ other) × (found ≡ Some mark)) ⊎ (mark_of marks other ≡ found)
    by (inl e) = inl (sym e, sym h ∙ ap (λ s. mark_of (with_mark marks spot mark) s) e ∙ mark-same marks spot mark)
    by (inr e) = inr (sym (mark-other marks spot mark other e) ∙ h)

some-none : {A : Type 0} (x : A) (o : Option A) → o ≡ Some x → o ≡ None → ⊥
some-none x None h k = cc
some-none x (Some y) h k = cc

-- a spot that wasn't marked leaves the others as they were
pub mark-keeps : (marks : List (Spot × Mark)) (spot : Spot) (mark : Mark) → mark_of marks spot ≡ None → (other : Spot) (found : Mark) → mark_of marks other ≡ Some found
    → mark_of (with_mark marks spot mark) other ≡ Some found
mark-keeps marks spot mark none other found h = by (same_spot-cases other spot)
  where
    by : ((other ≡ spot) ⊎ (same_spot other spot ≡ false)) → mark_of (with_mark marks spot mark) other ≡ Some found
    by (inl e) = absurd (some-none found (mark_of marks spot) (ap (λ s. mark_of marks s) (sym e) ∙ h) none)
    by (inr e) = mark-other marks spot mark other e ∙ h

find : (spots : List Spot) (spot : Spot) → ((place : ℕ) × At spots place spot) ⊎ ((place : ℕ) → At spots place spot → ⊥)
find [] spot = inr (λ place h. h)
find (first ∷ spots) spot = by (same_spot-cases first spot) (find spots spot)
  where
    none : same_spot first spot ≡ false → ((place : ℕ) → At spots place spot → ⊥) → (place : ℕ) → At (first ∷ spots) place spot → ⊥
    none e more zero h = true≢false (sym (subst (λ s. same_spot first s ≡ true) h (same_spot-refl first)) ∙ e)
    none e more (suc place) h = more place h

    by : ((first ≡ spot) ⊎ (same_spot first spot ≡ false)) → (((place : ℕ) × At spots place spot) ⊎ ((place : ℕ) → At spots place spot → ⊥))
        → ((place : ℕ) × At (first ∷ spots) place spot) ⊎ ((place : ℕ) → At (first ∷ spots) place spot → ⊥)
    by (inl e) more = inl (0, e)
    by (inr e) (inl k) = inl (suc k.0, k.1)
    by (inr e) (inr k) = inr (none e k)

settled-keeps : (marks : List (Spot × Mark)) (spots : List Spot) (number : ℕ) (spot : Spot) → mark_of marks spot ≡ Some (Settled number) → mark_of (with_settled marks spots number) spot ≡ Some (Settled number)
settled-keeps marks [] number spot h = h
settled-keeps marks (first ∷ spots) number spot h = settled-keeps (with_mark marks first (Settled number)) spots number spot (by (same_spot-cases spot first))
  where
    by : ((spot ≡ first) ⊎ (same_spot spot first ≡ false)) → mark_of (with_mark marks first (Settled number)) spot ≡ Some (Settled number)
    by (inl e) = ap (λ s. mark_of (with_mark marks first (Settled number)) s) e ∙ mark-same marks first (Settled number)
    by (inr e) = mark-other marks first (Settled number) spot e ∙ h

pub settled-in : (marks : List (Spot × Mark)) (spots : List Spot) (number place : ℕ) (spot : Spot) → At spots place spot → mark_of (with_settled marks spots number) spot ≡ Some (Settled number)
settled-in marks [] number place spot h = absurd h
settled-in marks (first ∷ spots) number zero spot h =
    settled-keeps (with_mark marks first (Settled number)) spots number spot (subst (λ s. mark_of (with_mark marks first (Settled number)) s ≡ Some (Settled number)) h (mark-same marks first (Settled number)))
settled-in marks (first ∷ spots) number (suc place) spot h = settled-in (with_mark marks first (Settled number)) spots number place spot h

pub settled-out : (marks : List (Spot × Mark)) (spots : List Spot) (number : ℕ) (spot : Spot) → ((place : ℕ) → At spots place spot → ⊥) → mark_of (with_settled marks spots number) spot ≡ mark_of marks spot
settled-out marks [] number spot out = refl
settled-out marks (first ∷ spots) number spot out =
    settled-out (with_mark marks first (Settled number)) spots number spot (λ place h. out (suc place) h) ∙ by (same_spot-cases spot first)
  where
    by : ((spot ≡ first) ⊎ (same_spot spot first ≡ false)) → mark_of (with_mark marks first (Settled number)) spot ≡ mark_of marks spot
    by (inl e) = absurd (out 0 (sym e))
    by (inr e) = mark-other marks first (Settled number) spot e

-- what a spot is marked as after a settling
pub settled-either : (marks : List (Spot × Mark)) (spots : List Spot) (number : ℕ) (spot : Spot) (found : Option Mark) → mark_of (with_settled marks spots number) spot ≡ found
    → ((place : ℕ) × At spots place spot × (found ≡ Some (Settled number))) ⊎ (((place : ℕ) → At spots place spot → ⊥) × (mark_of marks spot ≡ found))
settled-either marks spots number spot found h = by (find spots spot)
  where
    by : (((place : ℕ) × At spots place spot) ⊎ ((place : ℕ) → At spots place spot → ⊥))
        → ((place : ℕ) × At spots place spot × (found ≡ Some (Settled number))) ⊎ (((place : ℕ) → At spots place spot → ⊥) × (mark_of marks spot ≡ found))
    by (inl k) = inl (k.0, k.1, sym h ∙ settled-in marks spots number k.0 spot k.1)
    by (inr k) = inr (k, sym (settled-out marks spots number spot k) ∙ h)

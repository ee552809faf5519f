-- Blocks: where an item stands, and what is left once it is out.
use Rattle.std.proofs.Common.{◌≡◌, ℕ, zero, suc, ◌+◌, ◌-◌, ◌<◌, ◌≤◌, List, [], ◌∷◌, ◌++◌, Option, None, Some, OnSome, Result, Ok, Err, OnErr, OnOk, Bor, length, get_or, set, take, ap, sym, ◌∙◌, arith}
use Rattle.std.specs.List.{remove, slice_get}
use Rattle.std.specs.Option.{option_copied}
use Rattle.std.specs.Slice.{IsItemAt}
use Rattle.std.specs.declared.collections.VecDeque.{VecDeque}
use Rattle.std.specs.declared.alloc.Global.{Global}
use Rattle.std.proofs.lemmas.List.{get_or_default, take_all}
use Rattle.std.proofs.lemmas.Option.{none-some, slice_get-get_or}
use Rattle.sr_line.specs.Lines.{IsSpot, Lined, joined}
use Rattle.sr_line.proofs.JoinedLemmas.{after-front, copied_item, emptied, in-block, length-more, taken}
use Rattle.sr_line.proofs.SearchLemmas.{on_some}

module _ {T : Type 0} where
  abbrev pub items_of : VecDeque T Global → List T
  items_of block = block.items

  abbrev count_of : VecDeque T Global → ℕ
  count_of block = length block.items

  pub joined-more : (bs : List (VecDeque T Global)) (i : ℕ) (b : VecDeque T Global) → i < length bs → b ≡ get_or bs i b → length (joined (take (i + 1) bs)) ≡ length (joined (take i bs)) + length b.items
  joined-more bs i b low is = length-more items_of bs i b low ∙ ap (λ (x : VecDeque T Global). length (joined (take i bs)) + length x.items) (sym is)

  -- ---- the search for a place

  pub spot-more : (bs : List (VecDeque T Global)) (i left len place : ℕ) (b : VecDeque T Global) → i < length bs → b ≡ get_or bs i b → len ≡ length b.items → len ≤ left → length (joined (take i bs)) + left ≡ place → length (joined (take (i + 1) bs)) + (left - len) ≡ place
  spot-more bs i left len place b low is long past sum = omega (arith, joined-more bs i b low is)

  pub spot-here : (bs : List (VecDeque T Global)) (i left len place : ℕ) (b : VecDeque T Global) → i < length bs → b ≡ get_or bs i b → len ≡ length b.items → left < len → length (joined (take i bs)) + left ≡ place → IsSpot bs place i left
  spot-here bs i left len place b low is long inside sum = record {
    block_within = low;
    place_within = λ other. omega (arith, ap count_of is, ap count_of (get_or_default bs i b other low));
    sum = sum;
  }

  pub spot-past : (bs : List (VecDeque T Global)) (i left place : ℕ) → length bs ≤ i → place < length (joined bs) → length (joined (take i bs)) + left ≡ place → ⊥
  spot-past bs i left place past within sum = omega (arith, ap (λ (xs : List (VecDeque T Global)). length (joined xs)) (take_all i bs past))

  -- ---- the item at a spot

  module _ (bs : List (VecDeque T Global)) (b : VecDeque T Global) (place i k : ℕ) (spot : IsSpot bs place i k) (is : b ≡ get_or bs i b) where
    pub spot-inside : k < length b.items
    spot-inside = omega (arith, spot.place_within b, ap count_of is)

    pub spot-item : slice_get (joined bs) place ≡ slice_get b.items k
    spot-item = in-block items_of bs i k place b spot.block_within (spot.place_within b) spot.sum ∙ ap (λ (x : VecDeque T Global). slice_get x.items k) (sym is)

    pub spot-taken : (w : VecDeque T Global) → w.items ≡ remove b.items k → joined (set bs i w) ≡ remove (joined bs) place
    spot-taken w rest = taken items_of bs i k place b w spot.block_within (spot.place_within b) spot.sum (rest ∙ ap (λ (x : VecDeque T Global). remove x.items k) is)

  pub dropped : (bs bs' : List (VecDeque T Global)) (b : VecDeque T Global) (i : ℕ) → i < length bs → b ≡ get_or bs i b → b.items ≡ [] → bs' ≡ remove bs i → joined bs' ≡ joined bs
  dropped bs bs' b i low is none rest = ap joined rest ∙ emptied items_of bs i b low (ap items_of (sym is) ∙ none)

  -- ---- the last block

  pub got-last : (bs : List (VecDeque T Global)) (last : VecDeque T Global) (place k : ℕ) (r : Option (Bor T)) → IsItemAt last.items k r → length (joined bs) + k ≡ place → option_copied r ≡ slice_get (joined bs ++ last.items) place
  got-last bs last place k r item sum = copied_item last.items k r item ∙ sym (after-front (joined bs) last.items place k sum)

-- what a view says
module _ {T : Type 0} where
  pub same-items : (l l' : Lined T) → l ≡ l' → l.items ≡ l'.items
  same-items l l' same = ap (λ (x : Lined T). x.items) same

  pub same-room : (l l' : Lined T) → l ≡ l' → l.room ≡ l'.room
  same-room l l' same = ap (λ (x : Lined T). x.room) same

  pub same-lined : (items items' : List T) (room room' : ℕ) → items ≡ items' → room ≡ room' → ◌≡◌ {A = Lined T} (record { items = items; room = room }) (record { items = items'; room = room' })
  same-lined items items' room room' is same = ap (λ xs. record { items = xs; room = room }) is ∙ ap (λ n. record { items = items'; room = n }) same

pub ok_then : {T E P Q : Type 0} (r : Result T E) → (P → Q) → OnOk r P → OnOk r Q
ok_then (Ok x) f p = f p
ok_then (Err e) f p = p

pub err_then : {T E P Q : Type 0} (r : Result T E) → (P → Q) → OnErr r P → OnErr r Q
err_then (Ok x) f p = p
err_then (Err e) f p = f p

-- where there is an item, one is found
pub stands-nowhere : {A : Type 0} (xs : List A) (i : ℕ) → i < length xs → None ≡ slice_get xs i → ⊥
stands-nowhere [] i low none = absurd (omega arith)
stands-nowhere (x ∷ xs) zero low none = none-some x none
stands-nowhere (x ∷ xs) (suc i) low none = stands-nowhere xs i (omega arith) none

pub some_then : {A P : Type 0} (r : Option A) → P → OnSome r P
some_then None p = tt
some_then (Some x) p = p

-- what `take_at` takes where there is an item
module _ {A : Type 0} where
  pub taken-value : (xs : List A) (k n : ℕ) (r : Option A) → n ≡ length xs → k < length xs → ((other : A) → k < n → r ≡ Some (get_or xs k other)) → r ≡ slice_get xs k
  taken-value [] k n r long low gives = absurd (omega arith)
  taken-value (x ∷ xs) k n r long low gives = gives x (omega arith) ∙ sym (slice_get-get_or (x ∷ xs) k x low)

  pub taken-rest : {P : Type 0} (xs : List A) (k n : ℕ) (r : Option A) → n ≡ length xs → k < length xs → ((other : A) → k < n → r ≡ Some (get_or xs k other)) → OnSome r P → P
  taken-rest [] k n r long low gives p = absurd (omega arith)
  taken-rest (x ∷ xs) k n r long low gives p = on_some r (gives x (omega arith)) p

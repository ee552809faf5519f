-- A queue against its index.
use Rattle.std.proofs.Common.{◌≡◌, ℕ, ◌+◌, ◌<◌, ◌≤◌, Bool, true, false, ◌&&◌, ◌==◌, cond, List, [], ◌∷◌, ◌++◌, Option, None, Some, IfSome, length, get_or, take, drop, map, refl, ap, sym, subst, ◌∙◌, is_some, true≢false, arith}
use Rattle.std.specs.List.{position_from, remove}
use Rattle.std.specs.Option.{option_map}
use Rattle.std.specs.Cmp.{nat_eq_equiv}
use Rattle.std.proofs.lemmas.List.{drop-map, drop_all, drop_more, length-drop, take_more}
use Rattle.std.proofs.lemmas.Option.{none-some, same_Some}
use Rattle.sr_value.specs.declared.capability.Owner.{Owner}
use Rattle.sr_value.specs.declared.capability.Owner.TheVariants.{Inst, Proc as of_process}
use Rattle.sr_value.specs.Operators.{owner_eq}
use Rattle.sr_queue.specs.Classes.{class_in, class_of, next_among, next_waiting, same_class}
use Rattle.sr_queue.specs.Indexed.{IsIndexed}
use Rattle.sr_queue.specs.Queues.{is_of}
use Rattle.sr_queue.specs.declared.class.Class.{Class}
use Rattle.sr_queue.specs.declared.pending.Pending.{Pending}
use Rattle.sr_queue.proofs.IndexLemmas.{map-remove}

both-turned : (a b : Bool) → (a && b) ≡ (b && a)
both-turned true true = refl
both-turned true false = refl
both-turned false true = refl
both-turned false false = refl

never : (a : Bool) → (a && false) ≡ false
never true = refl
never false = refl

same_operation : (a b : Owner) (m n : ℕ) → same_class (class_of a m) (class_of b n) ≡ ((n == m) && owner_eq b a)
same_operation (Inst a) (Inst b) m n = ap (λ t. t && (m == n)) (nat_eq_equiv.symm a b) ∙ ap (λ t. (b == a) && t) (nat_eq_equiv.symm m n) ∙ both-turned (b == a) (n == m)
same_operation (of_process a) (of_process b) m n = ap (λ t. t && (m == n)) (nat_eq_equiv.symm a b) ∙ ap (λ t. (b == a) && t) (nat_eq_equiv.symm m n) ∙ both-turned (b == a) (n == m)
same_operation (Inst a) (of_process b) m n = sym (never (n == m))
same_operation (of_process a) (Inst b) m n = sym (never (n == m))

same_as-is_of : (owner : Owner) (op : ℕ) (p : Pending) → same_class (class_of owner op) (class_in p) ≡ is_of owner op p
same_as-is_of owner op p = same_operation owner p.owner op p.op

position-mapped : {X Y : Type 0} (p : Y → Bool) (q : X → Bool) (f : X → Y) → ((x : X) → p (f x) ≡ q x) → (start : ℕ) (xs : List X) → position_from p start (map f xs) ≡ position_from q start xs
position-mapped p q f same start [] = refl
position-mapped p q f same start (x ∷ xs) =
    ap (λ b. cond b (Some start) (position_from p (start + 1) (map f xs))) (same x) ∙ ap (λ o. cond (q x) (Some start) o) (position-mapped p q f same (start + 1) xs)

pub next-indexed : (owner : Owner) (op from : ℕ) (items : List Pending) → next_among (class_of owner op) from (map class_in items) ≡ next_waiting owner op from items
next-indexed owner op from items =
    ap (position_from (same_class (class_of owner op)) from) (drop-map class_in from items) ∙ position-mapped (same_class (class_of owner op)) (is_of owner op) class_in (same_as-is_of owner op) from (drop from items)

-- ---- places

pub position-within : {X : Type 0} (p : X → Bool) (start : ℕ) (xs : List X) (i : ℕ) → position_from p start xs ≡ Some i → (start ≤ i) × (i < start + length xs)
position-within p start [] i at = absurd (none-some i at)
position-within p start (x ∷ xs) i at = by (p x) (position-within p (start + 1) xs i) at
  where
    by : (b : Bool) → (position_from p (start + 1) xs ≡ Some i → (start + 1 ≤ i) × (i < start + 1 + length xs)) → cond b (Some start) (position_from p (start + 1) xs) ≡ Some i → (start ≤ i) × (i < start + length (x ∷ xs))
    by true more at = let here : start ≡ i = same_Some start i at in (omega (arith, here), omega (arith, here))
    by false more at = let there = more at in (omega (arith, there.0), omega (arith, there.1))

pub next-within : (owner : Owner) (op from : ℕ) (items : List Pending) (i : ℕ) → next_waiting owner op from items ≡ Some i → i < length items
next-within owner op from items i at =
    let there = position-within (is_of owner op) from (drop from items) i at in
    omega (arith, there.0, there.1, length-drop from items)

pub next-small : (owner : Owner) (op from : ℕ) (items : List Pending) (r : Option ℕ) → r ≡ next_waiting owner op from items → length items ≤ 2100000000 → IfSome r (λ i. i < 4294967296)
next-small owner op from items None at few = tt
next-small owner op from items (Some i) at few = let low = next-within owner op from items i (sym at) in omega (arith, low, few)

pub next-here : (owner : Owner) (op i : ℕ) (items : List Pending) (d : Pending) → i < length items → is_of owner op (get_or items i d) ≡ true → next_waiting owner op i items ≡ Some i
next-here owner op i items d low is = ap (position_from (is_of owner op) i) (drop_more items i d low) ∙ ap (λ b. cond b (Some i) (position_from (is_of owner op) (i + 1) (drop (i + 1) items))) is

pub next-later : (owner : Owner) (op i : ℕ) (items : List Pending) (d : Pending) → i < length items → is_of owner op (get_or items i d) ≡ false → next_waiting owner op i items ≡ next_waiting owner op (i + 1) items
next-later owner op i items d low apart = ap (position_from (is_of owner op) i) (drop_more items i d low) ∙ ap (λ b. cond b (Some i) (position_from (is_of owner op) (i + 1) (drop (i + 1) items))) apart

pub next-past : (owner : Owner) (op i : ℕ) (items : List Pending) → length items ≤ i → next_waiting owner op i items ≡ None
next-past owner op i items past = ap (position_from (is_of owner op) i) (drop_all i items past)

-- ---- the index after a change

pub indexed-removed : (items : List Pending) (index index' : Option (List Class)) (place : ℕ) → IsIndexed items index → index' ≡ option_map (λ classes. remove classes place) index → IsIndexed (remove items place) index'
indexed-removed items None index' place is same = subst (IsIndexed (remove items place)) (sym same) tt
indexed-removed items (Some classes) index' place is same = subst (IsIndexed (remove items place)) (sym same) (ap (λ cs. remove cs place) is ∙ sym (map-remove class_in items place))

-- what has no index needs none
pub unindexed : (items : List Pending) (index : Option (List Class)) → is_some index ≡ false → IsIndexed items index
unindexed items None none = tt
unindexed items (Some classes) none = absurd (true≢false none)

pub indexed-more : (items : List Pending) (index : Option (List Class)) (i : ℕ) (p : Pending) → i < length items → p ≡ get_or items i p → IsIndexed (take i items ++ p ∷ []) index → IsIndexed (take (i + 1) items) index
indexed-more items index i p low is more = subst (λ ps. IsIndexed ps index) (ap (λ x. take i items ++ x ∷ []) is ∙ sym (take_more items i p low)) more

-- A queue that is divided, and queues that are joined.
use Rattle.std.proofs.Common.{◌≡◌, ◌⊎◌, inl, inr, ◌<◌, ◌≤◌, ℕ, zero, suc, ◌+◌, ◌==◌, Bool, true, false, List, [], ◌∷◌, ◌++◌, Option, None, Some, get_or, drop, length, refl, ap, sym, ◌∙◌, subst, arith, add-one, append-nil, append_assoc, eq-eqb, eqb-true, true≢false}
use Rattle.std.proofs.Math.Seq.{drop-cons}
use Rattle.std.proofs.lemmas.Bool.{leb-false, leb-true}
use Rattle.std.proofs.lemmas.List.Sums.{sum_by-set}
use Rattle.std.proofs.lemmas.Option.{get_or_from_slice_get, slice_get-get_or, slice_get_within}
use Rattle.std.specs.List.{sum_by}
use Rattle.std.specs.Option.{option_map}
use Rattle.std.specs.Prelude.{if◌then◌else◌, nat_le, remove, slice_get, slice_set}
use Rattle.sr_buckets.specs.Parts.{home}
use Rattle.sr_queue.specs.Dividing.{AreInOrder, AreParts, IsFirst, earlier_of, first_id, items_in}
use Rattle.sr_queue.specs.Queues.{Queued}
use Rattle.sr_queue.specs.declared.dividing.Head.{Head}
use Rattle.sr_queue.specs.declared.pending.Pending.{Pending}

-- ---- lists

first-rest : (items : List Pending) (x : Pending) → slice_get items 0 ≡ Some x → items ≡ x ∷ remove items 0
first-rest [] x at = absurd (cc)
first-rest (y ∷ ys) x at = let same : y ≡ x = cc in ap (λ z. z ∷ ys) same

-- what is read after a write is what was written, or what was there
written : {X : Type 0} (xs : List X) (place i : ℕ) (new y : X) → slice_get (slice_set xs place new) i ≡ Some y
    → ((place ≡ i) × ((new ≡ y) × (place < length xs))) ⊎ ((place ≡ i → ⊥) × (slice_get xs i ≡ Some y))
written [] place i new y at = absurd (cc)
written (x ∷ xs) zero zero new y at = inl (refl, (let same : new ≡ y = cc in same, omega arith))
written (x ∷ xs) zero (suc i) new y at = inr ((λ (e : 0 ≡ suc i). absurd (omega (arith, e))), at)
written (x ∷ xs) (suc place) zero new y at = inr ((λ (e : suc place ≡ 0). absurd (omega (arith, e))), at)
written (x ∷ xs) (suc place) (suc i) new y at = more (written xs place i new y at)
  where
    more : ((place ≡ i) × ((new ≡ y) × (place < length xs))) ⊎ ((place ≡ i → ⊥) × (slice_get xs i ≡ Some y))
        → ((suc place ≡ suc i) × ((new ≡ y) × (suc place < suc (length xs)))) ⊎ ((suc place ≡ suc i → ⊥) × (slice_get xs i ≡ Some y))
    more (inl here) = let inside = here.1.1 in inl (ap suc here.0, (here.1.0, omega (arith, inside)))
    more (inr there) = inr ((λ (e : suc place ≡ suc i). there.0 (omega (arith, e))), there.1)

-- ---- one number and one invocation are of one part

here-in : (i n : ℕ) (ns : List ℕ) (x : Pending) (xs : List Pending) → home n ≡ i → items_in i (n ∷ ns) (x ∷ xs) ≡ x ∷ items_in i ns xs
here-in i n ns x xs here = ap (λ (b : Bool). if b then x ∷ items_in i ns xs else items_in i ns xs) (eq-eqb (home n) i here)

not-in : (i n : ℕ) (ns : List ℕ) (x : Pending) (xs : List Pending) → (home n ≡ i → ⊥) → items_in i (n ∷ ns) (x ∷ xs) ≡ items_in i ns xs
not-in i n ns x xs ne = by (home n == i) refl
  where
    by : (b : Bool) → (home n == i) ≡ b → (if b then x ∷ items_in i ns xs else items_in i ns xs) ≡ items_in i ns xs
    by true same = absurd (ne (eqb-true (home n) i same))
    by false off = refl

-- ---- a queue that is divided

-- queues have what is dealt so far, and the rest is still to come
pub record Dealt (numbers : List ℕ) (k : ℕ) (queues : List Queued) (left : List Pending) (items : List Pending) : Type 0 where
  pub all : length numbers ≡ length items
  pub as_long : k + length left ≡ length numbers
  pub dealt : (i : ℕ) (queue : Queued) → slice_get queues i ≡ Some queue → queue.items ++ items_in i (drop k numbers) left ≡ items_in i numbers items

pub deal-none : (numbers : List ℕ) (queues : List Queued) (items : List Pending) → length numbers ≡ length items → ((i : ℕ) (queue : Queued) → slice_get queues i ≡ Some queue → queue.items ≡ []) → Dealt numbers 0 queues items items
deal-none numbers queues items all none = record { all = all; as_long = omega (arith, all); dealt = λ i queue at. ap (λ xs. xs ++ items_in i numbers items) (none i queue at) }

pub left-first : (numbers : List ℕ) (k : ℕ) (queues : List Queued) (left items : List Pending) → Dealt numbers k queues left items → k < length numbers → 0 < length left
left-first numbers k queues left items was inside = let long = was.as_long in omega (arith, long, inside)

pub deal-more : (numbers : List ℕ) (k : ℕ) (queues : List Queued) (left items : List Pending) (x : Pending) (place : ℕ) (other new : Queued)
    → Dealt numbers k queues left items → k < length numbers → slice_get left 0 ≡ Some x → place ≡ home (get_or numbers k 0) → new.items ≡ (get_or queues place other).items ++ x ∷ []
    → Dealt numbers (k + 1) (slice_set queues place new) (remove left 0) items
deal-more numbers k queues left items x place other new was inside first at-home grown = record {
  all = was.all;
  as_long = (let long = was.as_long in let shorter : length left ≡ suc (length (remove left 0)) = ap length (first-rest left x first) in omega (arith, long, shorter));
  dealt = λ i queue at. by i queue (written queues place i new queue at);
}
  where
    n : ℕ
    n = get_or numbers k 0

    ns : List ℕ
    ns = drop (k + 1) numbers

    opened : (i : ℕ) → items_in i (drop k numbers) left ≡ items_in i (get_or numbers k 0 ∷ drop (k + 1) numbers) (x ∷ remove left 0)
    opened i =
        ap (λ ms. items_in i ms left) (drop-cons numbers k 0 inside ∙ ap (λ j. get_or numbers k 0 ∷ drop j numbers) (sym (add-one k)))
        ∙ ap (items_in i (get_or numbers k 0 ∷ drop (k + 1) numbers)) (first-rest left x first)

    by : (i : ℕ) (queue : Queued) → ((place ≡ i) × ((new ≡ queue) × (place < length queues))) ⊎ ((place ≡ i → ⊥) × (slice_get queues i ≡ Some queue))
        → queue.items ++ items_in i (drop (k + 1) numbers) (remove left 0) ≡ items_in i numbers items
    by i queue (inl here) =
        let old : Queued = get_or queues place other in
        let rest : List Pending = items_in i (drop (k + 1) numbers) (remove left 0) in
        let read : slice_get queues i ≡ Some (get_or queues place other) = ap (slice_get queues) (sym here.0) ∙ slice_get-get_or queues place other here.1.1 in
        let split : items_in i (drop k numbers) left ≡ x ∷ items_in i (drop (k + 1) numbers) (remove left 0)
        = opened i ∙ here-in i (get_or numbers k 0) (drop (k + 1) numbers) x (remove left 0) (sym at-home ∙ here.0) in
        ap (λ (q : Queued). q.items ++ items_in i (drop (k + 1) numbers) (remove left 0)) (sym here.1.0)
        ∙ ap (λ xs. xs ++ items_in i (drop (k + 1) numbers) (remove left 0)) grown
        ∙ append_assoc (get_or queues place other).items (x ∷ []) (items_in i (drop (k + 1) numbers) (remove left 0))
        ∙ ap (λ xs. (get_or queues place other).items ++ xs) (sym split)
        ∙ was.dealt i (get_or queues place other) read
    by i queue (inr there) =
        let split : items_in i (drop k numbers) left ≡ items_in i (drop (k + 1) numbers) (remove left 0)
        = opened i ∙ not-in i (get_or numbers k 0) (drop (k + 1) numbers) x (remove left 0) (λ e. there.0 (at-home ∙ e)) in
        ap (λ xs. queue.items ++ xs) (sym split) ∙ was.dealt i queue there.1

pub deal-all : (numbers : List ℕ) (k : ℕ) (queues : List Queued) (left items : List Pending) → Dealt numbers k queues left items → length numbers ≤ k → AreParts queues numbers items
deal-all numbers k queues left items was past = record {
  all = was.all;
  each = λ i queue at.
      let none : left ≡ [] = empty left (let long = was.as_long in omega (arith, long, past)) in
      sym (append-nil queue.items) ∙ ap (λ xs. queue.items ++ xs) (sym (nothing-in i (drop k numbers)) ∙ ap (items_in i (drop k numbers)) (sym none)) ∙ was.dealt i queue at;
}
  where
    empty : (xs : List Pending) → length xs ≡ 0 → xs ≡ []
    empty [] long = refl
    empty (y ∷ ys) long = absurd (omega (arith, long))

    nothing-in : (i : ℕ) (ms : List ℕ) → items_in i ms [] ≡ []
    nothing-in i [] = refl
    nothing-in i (m ∷ ms) = refl

-- ---- the least of what queues begin with

pub no-first : (queues : List Queued) → IsFirst 0 queues None
no-first queues i queue less at = absurd (omega (arith, less))

-- a queue of no invocations comes next
pub first-same : (place : ℕ) (queues : List Queued) (first : Option Head) (other : Queued) → place < length queues → IsFirst place queues first → first_id (get_or queues place other) ≡ None
    → IsFirst (place + 1) queues first
first-same place queues None other inside was none = λ i queue less at. by i queue less at (i == place) refl
  where
    by : (i : ℕ) (queue : Queued) → i < place + 1 → slice_get queues i ≡ Some queue → (b : Bool) → (i == place) ≡ b → first_id queue ≡ None
    by i queue less at true same =
        let here : i ≡ place = eqb-true i place same in
        let read : slice_get queues i ≡ Some (get_or queues place other) = ap (slice_get queues) here ∙ slice_get-get_or queues place other inside in
        let queue-is : get_or queues place other ≡ queue = cc in
        ap first_id (sym queue-is) ∙ none
    by i queue less at false off = was i queue (let ne : i ≡ place → ⊥ = (λ e. true≢false (sym (eq-eqb i place e) ∙ off)) in omega (arith, less, ne)) at
first-same place queues (Some head) other inside was none = (let less = was.0 in omega (arith, less), was.1, least)
  where
    least : (i : ℕ) (queue : Queued) (id : ℕ) → i < place + 1 → slice_get queues i ≡ Some queue → first_id queue ≡ Some id → head.id ≤ id
    least i queue id less at begins = by (i == place) refl
      where
        by : (b : Bool) → (i == place) ≡ b → head.id ≤ id
        by true same =
            let here : i ≡ place = eqb-true i place same in
            let read : slice_get queues i ≡ Some (get_or queues place other) = ap (slice_get queues) here ∙ slice_get-get_or queues place other inside in
            let queue-is : get_or queues place other ≡ queue = cc in
            let nothing : first_id queue ≡ None = ap first_id (sym queue-is) ∙ none in absurd (cc)
        by false off = was.2 i queue id (let ne : i ≡ place → ⊥ = (λ e. true≢false (sym (eq-eqb i place e) ∙ off)) in omega (arith, less, ne)) at begins

-- a queue that begins with a number comes next
pub first-more : (place : ℕ) (queues : List Queued) (first : Option Head) (head result : Head) (other : Queued) → place < length queues → IsFirst place queues first → head.place ≡ place
    → first_id (get_or queues place other) ≡ Some head.id → result ≡ earlier_of first head → IsFirst (place + 1) queues (Some result)
first-more place queues None head result other inside was at-place begins is =
    subst (λ h. IsFirst (place + 1) queues (Some h)) (sym is) (omega (arith, at-place), there, least)
  where
    there : (queue : Queued) → slice_get queues head.place ≡ Some queue → first_id queue ≡ Some head.id
    there queue at =
        let read : slice_get queues head.place ≡ Some (get_or queues place other) = ap (slice_get queues) at-place ∙ slice_get-get_or queues place other inside in
        let queue-is : get_or queues place other ≡ queue = cc in
        ap first_id (sym queue-is) ∙ begins

    least : (i : ℕ) (queue : Queued) (id : ℕ) → i < place + 1 → slice_get queues i ≡ Some queue → first_id queue ≡ Some id → head.id ≤ id
    least i queue id less at has = by (i == place) refl
      where
        by : (b : Bool) → (i == place) ≡ b → head.id ≤ id
        by true same =
            let here : i ≡ place = eqb-true i place same in
            let found : first_id queue ≡ Some head.id = there queue (ap (slice_get queues) (at-place ∙ sym here) ∙ at) in
            let equal : head.id ≡ id = cc in omega (arith, equal)
        by false off =
            let nothing : first_id queue ≡ None = was i queue (let ne : i ≡ place → ⊥ = (λ e. true≢false (sym (eq-eqb i place e) ∙ off)) in omega (arith, less, ne)) at in absurd (cc)
first-more place queues (Some first) head result other inside was at-place begins is = by (nat_le first.id head.id) refl
  where
    there : (queue : Queued) → slice_get queues head.place ≡ Some queue → first_id queue ≡ Some head.id
    there queue at =
        let read : slice_get queues head.place ≡ Some (get_or queues place other) = ap (slice_get queues) at-place ∙ slice_get-get_or queues place other inside in
        let queue-is : get_or queues place other ≡ queue = cc in
        ap first_id (sym queue-is) ∙ begins

    -- one that is no greater than both is the least
    least : (n : ℕ) → n ≤ first.id → n ≤ head.id → (i : ℕ) (queue : Queued) (id : ℕ) → i < place + 1 → slice_get queues i ≡ Some queue → first_id queue ≡ Some id → n ≤ id
    least n below-first below-head i queue id less at has = test (i == place) refl
      where
        test : (b : Bool) → (i == place) ≡ b → n ≤ id
        test true same =
            let here : i ≡ place = eqb-true i place same in
            let found : first_id queue ≡ Some head.id = there queue (ap (slice_get queues) (at-place ∙ sym here) ∙ at) in
            let equal : head.id ≡ id = cc in omega (arith, equal, below-head)
        test false off =
            let more : first.id ≤ id = was.2 i queue id (let ne : i ≡ place → ⊥ = (λ e. true≢false (sym (eq-eqb i place e) ∙ off)) in omega (arith, less, ne)) at has in omega (arith, more, below-first)

    by : (b : Bool) → nat_le first.id head.id ≡ b → IsFirst (place + 1) queues (Some result)
    by true less =
        let same : result ≡ first = is ∙ ap (λ (b : Bool). if b then first else head) less in
        let no-less : first.id ≤ head.id = leb-true first.id head.id less in
        subst (λ h. IsFirst (place + 1) queues (Some h)) (sym same) ((let within = was.0 in omega (arith, within)), was.1, least first.id (omega arith) no-less)
    by false greater =
        let same : result ≡ head = is ∙ ap (λ (b : Bool). if b then first else head) greater in
        let less : head.id < first.id = leb-false first.id head.id greater in
        subst (λ h. IsFirst (place + 1) queues (Some h)) (sym same) (omega (arith, at-place), there, least head.id (omega (arith, less)) (omega arith))

-- ---- queues that are joined

-- the invocations so far begin these, and the queues have the parts of the rest
pub record Rest (queues : List Queued) (joined items : List Pending) : Type 0 where
  pub numbers : List ℕ
  pub rest : List Pending
  pub whole : joined ++ rest ≡ items
  pub in_order : AreInOrder rest
  pub parts : AreParts queues numbers rest

order-tail : (x : Pending) (xs : List Pending) → AreInOrder (x ∷ xs) → AreInOrder xs
order-tail x xs order i j d less inside = order (suc i) (suc j) d (omega (arith, less)) (omega (arith, inside))

order-later : (x : Pending) (xs : List Pending) → AreInOrder (x ∷ xs) → (j : ℕ) (p : Pending) → slice_get xs j ≡ Some p → x.id < p.id
order-later x xs order j p at =
    subst (λ (q : Pending). x.id < q.id) (get_or_from_slice_get xs j p x at) (order 0 (suc j) x (omega arith) (let inside = slice_get_within xs j p at in omega (arith, inside)))

-- the first of a part stands somewhere
found-in : (i : ℕ) (ns : List ℕ) (xs : List Pending) (p : Pending) → slice_get (items_in i ns xs) 0 ≡ Some p → (j : ℕ) × (slice_get xs j ≡ Some p)
found-in i [] xs p at = absurd (cc)
found-in i (n ∷ ns) [] p at = absurd (cc)
found-in i (n ∷ ns) (x ∷ xs) p at = by (home n == i) at (λ there. found-in i ns xs p there)
  where
    by : (b : Bool) → slice_get (if b then x ∷ items_in i ns xs else items_in i ns xs) 0 ≡ Some p → (slice_get (items_in i ns xs) 0 ≡ Some p → (j : ℕ) × (slice_get xs j ≡ Some p)) → (j : ℕ) × (slice_get (x ∷ xs) j ≡ Some p)
    by true here more = (0, here)
    by false there more = let found = more there in (suc found.0, found.1)

-- the least of what queues begin with is the first of all
module _ (queues : List Queued) (all : length queues ≡ 32) where
  queue-of : (n : ℕ) (other : Queued) → slice_get queues (home n) ≡ Some (get_or queues (home n) other)
  queue-of n other = slice_get-get_or queues (home n) other (omega (arith, all))

  record Begins (numbers : List ℕ) (rest : List Pending) (place : ℕ) (x : Pending) : Type 0 where
    pub n : ℕ
    pub ns : List ℕ
    pub xs : List Pending
    pub numbers_are : numbers ≡ n ∷ ns
    pub rest_is : rest ≡ x ∷ xs
    pub here : home n ≡ place

  begins : (numbers : List ℕ) (rest : List Pending) (head : Head) (was : Queued) (x : Pending) → AreInOrder rest → AreParts queues numbers rest → IsFirst 32 queues (Some head)
      → slice_get queues head.place ≡ Some was → slice_get was.items 0 ≡ Some x → Begins numbers rest head.place x
  begins [] rest head was x order parts first at x-first = let items : was.items ≡ [] = parts.each head.place was at in absurd (cc)
  begins (n ∷ ns) [] head was x order parts first at x-first = let items : was.items ≡ [] = parts.each head.place was at in absurd (cc)
  begins (n ∷ ns) (y ∷ ys) head was x order parts first at x-first = by (home n == head.place) refl
    where
      q : Queued
      q = get_or queues (home n) was

      q-items : (get_or queues (home n) was).items ≡ y ∷ items_in (home n) ns ys
      q-items = parts.each (home n) (get_or queues (home n) was) (queue-of n was) ∙ here-in (home n) n ns y ys refl

      least : head.id ≤ y.id
      least = first.2 (home n) (get_or queues (home n) was) y.id (omega arith) (queue-of n was) (ap (λ xs. option_map (λ (p : Pending). p.id) (slice_get xs 0)) q-items)

      x-id : x.id ≡ head.id
      x-id = let one : first_id was ≡ Some head.id = first.1 was at in let other : first_id was ≡ Some x.id = ap (option_map (λ (p : Pending). p.id)) x-first in cc

      by : (b : Bool) → (home n == head.place) ≡ b → Begins (n ∷ ns) (y ∷ ys) head.place x
      by true same =
          let here : home n ≡ head.place = eqb-true (home n) head.place same in
          let items : was.items ≡ y ∷ items_in head.place ns ys = parts.each head.place was at ∙ here-in head.place n ns y ys here in
          let y-first : slice_get was.items 0 ≡ Some y = ap (λ zs. slice_get zs 0) items in
          let x-is : y ≡ x = cc in
          record { n = n; ns = ns; xs = ys; numbers_are = refl; rest_is = ap (λ z. z ∷ ys) x-is; here = here }
      by false off =
          let items : was.items ≡ items_in head.place ns ys = parts.each head.place was at ∙ not-in head.place n ns y ys (λ e. true≢false (sym (eq-eqb (home n) head.place e) ∙ off)) in
          let x-there : slice_get (items_in head.place ns ys) 0 ≡ Some x = ap (λ zs. slice_get zs 0) (sym items) ∙ x-first in
          let stands = found-in head.place ns ys x x-there in
          let later : y.id < x.id = order-later y ys order stands.0 x stands.1 in
          absurd (omega (arith, later, x-id, least))

  -- it is taken out and put after the others
  pub rest-more : (head : Head) (other new : Queued) (x : Pending) (joined next items : List Pending) → IsFirst 32 queues (Some head)
      → slice_get (get_or queues head.place other).items 0 ≡ Some x → new.items ≡ remove (get_or queues head.place other).items 0 → next ≡ joined ++ x ∷ []
      → Rest queues joined items → Rest (slice_set queues head.place new) next items
  rest-more head other new x joined next items first x-first shorter grown left = record {
    numbers = found.ns;
    rest = found.xs;
    whole = ap (λ zs. zs ++ found.xs) grown ∙ append_assoc joined (x ∷ []) found.xs ∙ ap (λ zs. joined ++ zs) (sym found.rest_is) ∙ left.whole;
    in_order = order-tail x found.xs (subst AreInOrder found.rest_is left.in_order);
    parts = record {
      all = (let long : length (found.n ∷ found.ns) ≡ length (x ∷ found.xs) = ap length (sym found.numbers_are) ∙ left.parts.all ∙ ap length found.rest_is in omega (arith, long));
      each = λ i queue at. by i queue (written queues head.place i new queue at);
    };
  }
    where
      was : Queued
      was = get_or queues head.place other

      read : slice_get queues head.place ≡ Some (get_or queues head.place other)
      read = slice_get-get_or queues head.place other (let less = first.0 in omega (arith, all, less))

      found : Begins left.numbers left.rest head.place x
      found = begins left.numbers left.rest head (get_or queues head.place other) x left.in_order left.parts first read x-first

      each : (i : ℕ) (queue : Queued) → slice_get queues i ≡ Some queue → queue.items ≡ items_in i (found.n ∷ found.ns) (x ∷ found.xs)
      each i queue at = left.parts.each i queue at ∙ ap (λ ms. items_in i ms left.rest) found.numbers_are ∙ ap (items_in i (found.n ∷ found.ns)) found.rest_is

      by : (i : ℕ) (queue : Queued) → ((head.place ≡ i) × ((new ≡ queue) × (head.place < length queues))) ⊎ ((head.place ≡ i → ⊥) × (slice_get queues i ≡ Some queue)) → queue.items ≡ items_in i found.ns found.xs
      by i queue (inl here) =
          let items : (get_or queues head.place other).items ≡ x ∷ items_in head.place found.ns found.xs
          = each head.place (get_or queues head.place other) read ∙ here-in head.place found.n found.ns x found.xs found.here in
          ap (λ (q : Queued). q.items) (sym here.1.0) ∙ shorter ∙ ap (λ zs. remove zs 0) items ∙ ap (λ k. items_in k found.ns found.xs) here.0
      by i queue (inr there) = each i queue there.1 ∙ not-in i found.n found.ns x found.xs (λ e. there.0 (sym found.here ∙ e))

  -- where no queue has any, all are joined
  pub rest-none : (joined items : List Pending) → IsFirst 32 queues None → Rest queues joined items → joined ≡ items
  rest-none joined items first left = sym (append-nil joined) ∙ ap (λ zs. joined ++ zs) (sym (none left.numbers left.rest left.parts)) ∙ left.whole
    where
      none : (numbers : List ℕ) (rest : List Pending) → AreParts queues numbers rest → rest ≡ []
      none numbers [] parts = refl
      none [] (y ∷ ys) parts = absurd (let long = parts.all in omega (arith, long))
      none (n ∷ ns) (y ∷ ys) parts =
          let empty : Queued = record { items = []; room = 0 } in
          let items : (get_or queues (home n) (record { items = []; room = 0 })).items ≡ y ∷ items_in (home n) ns ys
          = parts.each (home n) (get_or queues (home n) (record { items = []; room = 0 })) (queue-of n (record { items = []; room = 0 })) ∙ here-in (home n) n ns y ys refl in
          let one : first_id (get_or queues (home n) (record { items = []; room = 0 })) ≡ Some y.id = ap (λ zs. option_map (λ (p : Pending). p.id) (slice_get zs 0)) items in
          let other : first_id (get_or queues (home n) (record { items = []; room = 0 })) ≡ None
          = first (home n) (get_or queues (home n) (record { items = []; room = 0 })) (omega arith) (queue-of n (record { items = []; room = 0 })) in
          absurd (cc)

pub rest-first : (queues : List Queued) (joined items : List Pending) (numbers : List ℕ) → joined ≡ [] → AreInOrder items → AreParts queues numbers items → Rest queues joined items
rest-first queues joined items numbers none order parts = record { numbers = numbers; rest = items; whole = ap (λ zs. zs ++ items) none; in_order = order; parts = parts }

-- ---- how many are left to be joined

abbrev pub left_in : List Queued → ℕ
left_in queues = sum_by (λ queue. length queue.items) queues

pub one-less : (queues : List Queued) (place : ℕ) (other new : Queued) (x : Pending) → place < length queues → slice_get (get_or queues place other).items 0 ≡ Some x → new.items ≡ remove (get_or queues place other).items 0
    → left_in (slice_set queues place new) < left_in queues
one-less queues place other new x inside first shorter =
    let sums : left_in (slice_set queues place new) + length (get_or queues place other).items ≡ left_in queues + length new.items = sum_by-set (λ (q : Queued). length q.items) queues place new other inside in
    let long : length (get_or queues place other).items ≡ suc (length (remove (get_or queues place other).items 0)) = ap length (first-rest (get_or queues place other).items x first) in
    let less : length new.items ≡ length (remove (get_or queues place other).items 0) = ap length shorter in
    omega (arith, sums, long, less)

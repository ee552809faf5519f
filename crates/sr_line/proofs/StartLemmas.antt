-- The search for a number among blocks whose items have ascending numbers.
use Rattle.std.proofs.Common.{◌≡◌, ℕ, ◌+◌, ◌-◌, ◌<◌, ◌≤◌, List, ◌++◌, Some, length, get_or, take, ap, sym, subst, ◌∙◌, zero-add, ⊎_elim, arith}
use Rattle.std.specs.List.{AllPairs, slice_get}
use Rattle.std.specs.declared.collections.VecDeque.{VecDeque}
use Rattle.std.specs.declared.alloc.Global.{Global}
use Rattle.std.proofs.lemmas.Bool.{cases_lt}
use Rattle.std.proofs.lemmas.List.{get_or-append-add, get_or_append_left, get_or_default, length-append, take_all}
use Rattle.std.proofs.lemmas.List.Concat.{get_or-flat_map}
use Rattle.std.proofs.lemmas.Option.{get_or_from_slice_get, slice_get-get_or, slice_get_within}
use Rattle.sr_line.specs.Lines.{AllLesser, IsNumbered, IsStart, Reaches, joined}
use Rattle.sr_line.proofs.JoinedLemmas.{in-front, length-front}
use Rattle.sr_line.proofs.BlockLemmas.{items_of, joined-more}

-- a part of a list stands after this many items
pub record IsPart {A : Type 0} (whole : List A) (before : ℕ) (part : List A) : Type 0 where
  pub within : before + length part ≤ length whole
  pub same : (k : ℕ) (d : A) → k < length part → get_or whole (before + k) d ≡ get_or part k d

module _ {A : Type 0} where
  pub front-part : (xs ys : List A) → IsPart (xs ++ ys) 0 xs
  front-part xs ys = record {
    within = omega (arith, length-append xs ys);
    same = λ k d low. ap (λ n. get_or (xs ++ ys) n d) (zero-add k) ∙ get_or_append_left xs ys d k low;
  }

  pub last-part : (xs ys : List A) → IsPart (xs ++ ys) (length xs) ys
  last-part xs ys = record {
    within = omega (arith, length-append xs ys);
    same = λ k d low. get_or-append-add xs ys k d;
  }

  pub part-in-front : (xs ys part : List A) (before : ℕ) → IsPart xs before part → IsPart (xs ++ ys) before part
  part-in-front xs ys part before p = record {
    within = omega (arith, length-append xs ys, p.within);
    same = λ k d low. get_or_append_left xs ys d (before + k) (omega (arith, p.within)) ∙ p.same k d low;
  }

  pub block-part : (bs : List (VecDeque A Global)) (i before : ℕ) (b : VecDeque A Global) → i < length bs → b ≡ get_or bs i b → length (joined (take i bs)) ≡ before → IsPart (joined bs) before b.items
  block-part bs i before b low is sum = record {
    within = omega (arith, joined-more bs i b low is, length-front items_of bs (i + 1));
    same = λ k d inside.
        let here : k < length (get_or bs i b).items = omega (arith, ap (λ (x : VecDeque A Global). length x.items) is) in
        ap (λ n. get_or (joined bs) (n + k) d) (sym sum) ∙ get_or-flat_map items_of bs i k b d low here ∙ ap (λ (x : VecDeque A Global). get_or x.items k d) (sym is);
  }

  module _ (number_of : A → ℕ) where
    -- a number that stands in a part stands in the whole
    pub part-numbered : (whole : List A) (before : ℕ) (part : List A) → IsPart whole before part → (number place : ℕ) → (before ≤ place) × IsNumbered number_of part number (place - before) → IsNumbered number_of whole number place
    part-numbered whole before part p number place there =
        let low : place - before < length part = there.1.0 in
        let sum : before + (place - before) ≡ place = omega (arith, there.0) in
        (omega (arith, low, there.0, p.within), λ d. ap (λ k. number_of (get_or whole k d)) (sym sum) ∙ ap number_of (p.same (place - before) d low) ∙ there.1.1 d)

    pub front-numbered : (xs ys : List A) (number place : ℕ) → IsNumbered number_of xs number place → IsNumbered number_of (xs ++ ys) number place
    front-numbered xs ys number place there = (omega (arith, there.0, length-append xs ys), λ d. ap number_of (get_or_append_left xs ys d place there.0) ∙ there.1 d)

    pub lesser-in-front : (xs ys : List A) (before number : ℕ) → before ≤ length xs → AllLesser number_of xs before number → AllLesser number_of (xs ++ ys) before number
    lesser-in-front xs ys before number few lesser k other low = omega (arith, ap number_of (get_or_append_left xs ys other k (omega arith)), lesser k other low)

    module _ (whole : List A) (up : AllPairs (λ a b. number_of a < number_of b) whole) (before : ℕ) (part : List A) (p : IsPart whole before part) where
      pub part-ascends : AllPairs (λ a b. number_of a < number_of b) part
      part-ascends i j d less low = omega (arith, up (before + i) (before + j) d (omega arith) (omega (arith, p.within)), ap number_of (p.same i d (omega arith)), ap number_of (p.same j d low))

      module _ (number : ℕ) (lesser : AllLesser number_of whole before number) where
        pub lesser-more : (0 < length part → (other : A) → number_of (get_or part (length part - 1) other) < number) → AllLesser number_of whole (before + length part) number
        lesser-more ends k other low = ⊎_elim (λ less. lesser k other less) (λ from. inside from) (cases_lt k before)
          where
            inside : before ≤ k → number_of (get_or whole k other) < number
            inside from =
                let some : 0 < length part = omega arith in
                let last = ap number_of (p.same (length part - 1) other (omega arith)) in
                let least = ends some other in
                ⊎_elim
                (λ less. omega (arith, up k (before + (length part - 1)) other less (omega (arith, p.within)), last, least))
                (λ past. let at : k ≡ before + (length part - 1) = omega arith in omega (arith, ap (λ n. number_of (get_or whole n other)) at, last, least))
                (cases_lt k (before + (length part - 1)))

        pub found-from : (place : ℕ) (x : A) → slice_get whole place ≡ Some x → number_of x ≡ number → before ≤ place
        found-from place x at is =
            let here = ap number_of (get_or_from_slice_get whole place x x at) in
            ⊎_elim (λ less. absurd (omega (arith, lesser place x less, here))) (λ from. from) (cases_lt place before)

        pub found-upto : Reaches number_of part number → (place : ℕ) (x : A) → slice_get whole place ≡ Some x → number_of x ≡ number → place < before + length part
        found-upto reaches place x at is =
            let here = ap number_of (get_or_from_slice_get whole place x x at) in
            let some : 0 < length part = reaches.0 in
            let last = ap number_of (p.same (length part - 1) x (omega arith)) in
            ⊎_elim (λ less. less) (λ past. absurd (omega (arith, up (before + (length part - 1)) place x (omega arith) (slice_get_within whole place x at), here, last, reaches.1 x))) (cases_lt place (before + length part))

      pub found-in : (place : ℕ) (x : A) → slice_get whole place ≡ Some x → before ≤ place → place < before + length part → slice_get part (place - before) ≡ Some x
      found-in place x at from upto =
          let low : place - before < length part = omega arith in
          let sum : before + (place - before) ≡ place = omega arith in
          slice_get-get_or part (place - before) x low ∙ ap Some (sym (p.same (place - before) x low) ∙ ap (λ n. get_or whole n x) sum ∙ get_or_from_slice_get whole place x x at)

-- ---- the block to search

module _ {A : Type 0} (number_of : A → ℕ) (bs : List (VecDeque A Global)) (number : ℕ) where
  abbrev counted : List (VecDeque A Global) → ℕ
  counted xs = length (joined xs)

  pub start-end : (i end before : ℕ) → length bs ≤ i → end ≡ length bs → length (joined (take i bs)) ≡ before → AllLesser number_of (joined bs) before number → IsStart number_of bs number end before
  start-end i end before past all sum lesser = record {
    at = omega arith;
    sum = ap counted (take_all end bs (omega arith)) ∙ sym (ap counted (take_all i bs past)) ∙ sum;
    lesser = lesser;
    reached = λ low other. absurd (omega arith);
  }

  module _ (i before : ℕ) (b : VecDeque A Global) (low : i < length bs) (is : b ≡ get_or bs i b) (sum : length (joined (take i bs)) ≡ before) where
    pub start-here : AllLesser number_of (joined bs) before number → Reaches number_of b.items number → IsStart number_of bs number i before
    start-here lesser reaches = record {
      at = omega arith;
      sum = sum;
      lesser = lesser;
      reached = λ below other. subst (λ (x : VecDeque A Global). Reaches number_of x.items number) (is ∙ get_or_default bs i b other low) reaches;
    }

    pub start-fits : (len : ℕ) → len ≡ length b.items → before + len ≤ length (joined bs)
    start-fits len long = omega (arith, (block-part bs i before b low is sum).within)

    pub start-more : (len : ℕ) → len ≡ length b.items → AllPairs (λ x y. number_of x < number_of y) (joined bs) → AllLesser number_of (joined bs) before number
        → (0 < length b.items → (other : A) → number_of (get_or b.items (length b.items - 1) other) < number) → (length (joined (take (i + 1) bs)) ≡ before + len) × AllLesser number_of (joined bs) (before + len) number
    start-more len long up lesser ends = (
      omega (arith, joined-more bs i b low is),
      subst (λ n. AllLesser number_of (joined bs) (before + n) number) (sym long) (lesser-more number_of (joined bs) up before b.items (block-part bs i before b low is sum) number lesser ends),
    )

-- ---- where the item is found

module _ {A : Type 0} (number_of : A → ℕ) (bs : List (VecDeque A Global)) (up : AllPairs (λ x y. number_of x < number_of y) (joined bs)) (number i before : ℕ) (start : IsStart number_of bs number i before) where
  module _ (b : VecDeque A Global) (low : i < length bs) (is : b ≡ get_or bs i b) where
    start-part : IsPart (joined bs) before b.items
    start-part = block-part bs i before b low is start.sum

    pub block-fits : before + length b.items ≤ length (joined bs)
    block-fits = start-part.within

    pub block-ascends : AllPairs (λ x y. number_of x < number_of y) b.items
    block-ascends = part-ascends number_of (joined bs) up before b.items start-part

    pub block-found : (place : ℕ) (x : A) → slice_get (joined bs) place ≡ Some x → number_of x ≡ number → (slice_get b.items (place - before) ≡ Some x) × (before + (place - before) ≡ place)
    block-found place x at found =
        let reaches : Reaches number_of b.items number = subst (λ (y : VecDeque A Global). Reaches number_of y.items number) (sym is) (start.reached low b) in
        let from : before ≤ place = found-from number_of (joined bs) up before b.items start-part number start.lesser place x at found in
        let upto : place < before + length b.items = found-upto number_of (joined bs) up before b.items start-part number start.lesser reaches place x at found in
        (found-in number_of (joined bs) up before b.items start-part place x at from upto, omega arith)

  pub none-found : length bs ≤ i → (place : ℕ) (x : A) → slice_get (joined bs) place ≡ Some x → number_of x ≡ number → ⊥
  none-found past place x at found =
      let all : before ≡ length (joined bs) = sym start.sum ∙ ap (counted number_of bs number) (take_all i bs past) in
      let within : place < length (joined bs) = slice_get_within (joined bs) place x at in
      let here = ap number_of (get_or_from_slice_get (joined bs) place x x at) in
      omega (arith, start.lesser place x (omega arith), here)

-- the items of two lists ascend, one list after the other
module _ {A : Type 0} (number_of : A → ℕ) (xs ys : List A) (up : AllPairs (λ x y. number_of x < number_of y) (xs ++ ys)) where
  pub front-ascends : AllPairs (λ x y. number_of x < number_of y) xs
  front-ascends = part-ascends number_of (xs ++ ys) up 0 xs (front-part xs ys)

  pub last-ascends : AllPairs (λ x y. number_of x < number_of y) ys
  last-ascends = part-ascends number_of (xs ++ ys) up (length xs) ys (last-part xs ys)

  pub last-found : (number : ℕ) → (0 < length ys) × ((other : A) → number_of (get_or ys 0 other) ≤ number) → (place : ℕ) (x : A) → slice_get (xs ++ ys) place ≡ Some x → number_of x ≡ number
      → (slice_get ys (place - length xs) ≡ Some x) × (length xs + (place - length xs) ≡ place)
  last-found number first place x at found =
      let here = ap number_of (get_or_from_slice_get (xs ++ ys) place x x at) in
      let some : 0 < length ys = first.0 in
      let least = ap number_of ((last-part xs ys).same 0 x some) in
      let within : place < length (xs ++ ys) = slice_get_within (xs ++ ys) place x at in
      let upto : place < length xs + length ys = omega (arith, within, length-append xs ys) in
      let from : length xs ≤ place = ⊎_elim
      (λ less. absurd (omega (arith, up place (length xs + 0) x (omega arith) (omega (arith, length-append xs ys)), here, least, first.1 x)))
      (λ past. past) (cases_lt place (length xs)) in
      (found-in number_of (xs ++ ys) up (length xs) ys (last-part xs ys) place x at from upto, omega arith)

  pub front-found : (number : ℕ) → (0 < length ys → (other : A) → number < number_of (get_or ys 0 other)) → (place : ℕ) (x : A) → slice_get (xs ++ ys) place ≡ Some x → number_of x ≡ number → slice_get xs place ≡ Some x
  front-found number later place x at found =
      let here = ap number_of (get_or_from_slice_get (xs ++ ys) place x x at) in
      let within : place < length (xs ++ ys) = slice_get_within (xs ++ ys) place x at in
      let upto : place < length xs + length ys = omega (arith, within, length-append xs ys) in
      ⊎_elim (λ less. sym (in-front xs ys place less) ∙ at) (λ past. absurd (outside here upto past)) (cases_lt place (length xs))
    where
      outside : number_of (get_or (xs ++ ys) place x) ≡ number_of x → place < length xs + length ys → length xs ≤ place → ⊥
      outside here upto past =
          let some : 0 < length ys = omega arith in
          let least = ap number_of ((last-part xs ys).same 0 x some) in
          let more = later some x in
          ⊎_elim
          (λ before. omega (arith, up (length xs + 0) place x before (omega (arith, length-append xs ys)), here, least, more))
          (λ same. let is : place ≡ length xs + 0 = omega arith in omega (arith, ap (λ n. number_of (get_or (xs ++ ys) n x)) is, here, least, more))
          (cases_lt (length xs + 0) place)

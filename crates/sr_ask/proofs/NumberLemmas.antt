-- A list of numbers in blocks: where a number stands, and what is left once one is out.
use Rattle.std.proofs.Common.{◌≡◌, ℕ, zero, suc, ◌+◌, ◌-◌, ◌<◌, ◌≤◌, ◌⊎◌, Bool, true, false, cond, ◌||◌, eqb, List, [], ◌∷◌, ◌++◌, Option, None, Some, length, get_or, set, take, drop, refl, ap, sym, subst, ◌∙◌, ⊎_elim, true≢false, zero-add, arith}
use Rattle.std.specs.Prelude.{unwrap_or}
use Rattle.std.specs.List.{list_any, position, position_from, remove, slice_get}
use Rattle.std.specs.Option.{option_map}
use Rattle.std.proofs.lemmas.Bool.{ne_eqb}
use Rattle.std.proofs.lemmas.List.{get_or_default, length-append, take_all}
use Rattle.std.proofs.lemmas.List.Folds.{list_any-append}
use Rattle.std.proofs.lemmas.Iterator.Adapters.{position_from-zero}
use Rattle.std.proofs.lemmas.Option.{none-some}
use Rattle.sr_line.proofs.JoinedLemmas.{in-block, length-more, removed-after, removed-front, taken}
use Rattle.sr_ask.specs.Numbers.{AreBetween, IsSpot, is_number, joined}

-- ---- whether a number stands in a list

apart : (x number least greatest : ℕ) → least ≤ x → x ≤ greatest → (number < least) ⊎ (greatest < number) → x ≡ number → ⊥
apart x number least greatest low high out is = ⊎_elim (λ less. omega (arith, less, low, is)) (λ more. omega (arith, more, high, is)) out

-- bounds of each number are bounds of the list
pub between : (xs : List ℕ) (least greatest : ℕ) → ((k : ℕ) → k < length xs → least ≤ get_or xs k 0) → ((k : ℕ) → k < length xs → get_or xs k 0 ≤ greatest) → AreBetween least greatest xs
between [] least greatest low high number out = refl
between (x ∷ xs) least greatest low high number out =
    let other : eqb x number ≡ false = ne_eqb x number (apart x number least greatest (low 0 (omega arith)) (high 0 (omega arith)) out) in
    ap (λ b. b || list_any (is_number number) xs) other
    ∙ between xs least greatest (λ k less. low (suc k) (omega (arith, less))) (λ k less. high (suc k) (omega (arith, less))) number out

neither : (a b : Bool) → (a || b) ≡ false → (a ≡ false) × (b ≡ false)
neither true b is = absurd (true≢false is)
neither false b is = (refl, is)

module _ (test : ℕ → Bool) where
  -- what lacks a number lacks it once another is out
  pub lacks_still : (xs : List ℕ) (i : ℕ) → list_any test xs ≡ false → list_any test (remove xs i) ≡ false
  lacks_still [] zero none = refl
  lacks_still [] (suc i) none = refl
  lacks_still (x ∷ xs) zero none = (neither (test x) (list_any test xs) none).1
  lacks_still (x ∷ xs) (suc i) none =
      let both = neither (test x) (list_any test xs) none in
      ap (λ b. b || list_any test (remove xs i)) both.0 ∙ lacks_still xs i both.1

  pub any_joined : (blocks : List (List ℕ)) → list_any (list_any test) blocks ≡ list_any test (joined blocks)
  any_joined [] = refl
  any_joined (b ∷ bs) = ap (λ rest. list_any test b || rest) (any_joined bs) ∙ sym (list_any-append test b (joined bs))

  pub any_in_two : (blocks : List (List ℕ)) (last : List ℕ) → (list_any (list_any test) blocks || list_any test last) ≡ list_any test (joined blocks ++ last)
  any_in_two blocks last = ap (λ b. b || list_any test last) (any_joined blocks) ∙ sym (list_any-append test (joined blocks) last)

  -- ---- where it first stands

  from_front : (n : ℕ) (xs ys : List ℕ) (i : ℕ) → position_from test n xs ≡ Some i → position_from test n (xs ++ ys) ≡ Some i
  from_front n [] ys i is = absurd (none-some i is)
  from_front n (x ∷ xs) ys i is = by (test x) (λ more. from_front (n + 1) xs ys i more) is
    where
      by : (b : Bool) → (position_from test (n + 1) xs ≡ Some i → position_from test (n + 1) (xs ++ ys) ≡ Some i) → cond b (Some n) (position_from test (n + 1) xs) ≡ Some i → cond b (Some n) (position_from test (n + 1) (xs ++ ys)) ≡ Some i
      by true more h = h
      by false more h = more h

  from_past : (n : ℕ) (xs ys : List ℕ) → position_from test n xs ≡ None → position_from test n (xs ++ ys) ≡ position_from test (n + length xs) ys
  from_past n [] ys none = let same : n ≡ n + 0 = omega arith in ap (λ m. position_from test m ys) same
  from_past n (x ∷ xs) ys none = by (test x) (λ more. from_past (n + 1) xs ys more) none
    where
      by : (b : Bool) → (position_from test (n + 1) xs ≡ None → position_from test (n + 1) (xs ++ ys) ≡ position_from test (n + 1 + length xs) ys) → cond b (Some n) (position_from test (n + 1) xs) ≡ None
          → cond b (Some n) (position_from test (n + 1) (xs ++ ys)) ≡ position_from test (n + suc (length xs)) ys
      by true more h = absurd (none-some n (sym h))
      by false more h = let same : n + 1 + length xs ≡ n + suc (length xs) = omega arith in more h ∙ ap (λ m. position_from test m ys) same

  from_more : (n m : ℕ) (xs : List ℕ) → position_from test (n + m) xs ≡ option_map (λ k. n + k) (position_from test m xs)
  from_more n m [] = refl
  from_more n m (x ∷ xs) = by (test x) (from_more n (m + 1) xs)
    where
      by : (b : Bool) → position_from test (n + (m + 1)) xs ≡ option_map (λ k. n + k) (position_from test (m + 1) xs) → cond b (Some (n + m)) (position_from test (n + m + 1) xs) ≡ option_map (λ k. n + k) (cond b (Some m) (position_from test (m + 1) xs))
      by true more = refl
      by false more = let same : n + m + 1 ≡ n + (m + 1) = omega arith in ap (λ j. position_from test j xs) same ∙ more

  from_lacking : (n : ℕ) (xs : List ℕ) → list_any test xs ≡ false → position_from test n xs ≡ None
  from_lacking n [] none = refl
  from_lacking n (x ∷ xs) none =
      let both = neither (test x) (list_any test xs) none in
      ap (λ b. cond b (Some n) (position_from test (n + 1) xs)) both.0 ∙ from_lacking (n + 1) xs both.1

  pub place_lacking : (xs : List ℕ) → list_any test xs ≡ false → position test xs ≡ None
  place_lacking xs none = position_from-zero test xs ∙ from_lacking 0 xs none

  pub place_front : (xs ys : List ℕ) (i : ℕ) → position test xs ≡ Some i → position test (xs ++ ys) ≡ Some i
  place_front xs ys i is = position_from-zero test (xs ++ ys) ∙ from_front 0 xs ys i (sym (position_from-zero test xs) ∙ is)

  pub place_past : (xs ys : List ℕ) → position test xs ≡ None → position test (xs ++ ys) ≡ option_map (λ k. length xs + k) (position test ys)
  place_past xs ys none =
      let start : 0 + length xs ≡ length xs + 0 = omega arith in
      position_from-zero test (xs ++ ys)
      ∙ from_past 0 xs ys (sym (position_from-zero test xs) ∙ none)
      ∙ ap (λ n. position_from test n ys) start
      ∙ from_more (length xs) 0 ys
      ∙ ap (option_map (λ k. length xs + k)) (sym (position_from-zero test ys))

  -- what is left to look through, after so many numbers among which it isn't
  abbrev pub Searches : List (List ℕ) → ℕ → List (List ℕ) → Type 0
  Searches blocks before rest =
      (before + length (joined rest) ≡ length (joined blocks)) × (position test (joined blocks) ≡ option_map (λ k. before + k) (position test (joined rest)))

  mapped_zero : (o : Option ℕ) → o ≡ option_map (λ k. 0 + k) o
  mapped_zero None = refl
  mapped_zero (Some k) = ap Some (sym (zero-add k))

  mapped_twice : (n m : ℕ) (o : Option ℕ) → option_map (λ k. n + k) (option_map (λ k. m + k) o) ≡ option_map (λ k. n + m + k) o
  mapped_twice n m None = refl
  mapped_twice n m (Some k) = let same : n + (m + k) ≡ n + m + k = omega arith in ap Some same

  pub search_begins : (blocks : List (List ℕ)) → Searches blocks 0 blocks
  search_begins blocks = (zero-add (length (joined blocks)), mapped_zero (position test (joined blocks)))

  goes_on : (blocks : List (List ℕ)) (before : ℕ) (block : List ℕ) (others : List (List ℕ)) → Searches blocks before (block ∷ others) → position test block ≡ None → Searches blocks (before + length block) others
  goes_on blocks before block others so_far none = (
    omega (arith, so_far.0, length-append block (joined others)),
    so_far.1 ∙ ap (option_map (λ k. before + k)) (place_past block (joined others) none) ∙ mapped_twice before (length block) (position test (joined others)),
  )

  pub search_goes_on : (blocks : List (List ℕ)) (before : ℕ) (rest : List (List ℕ)) (block seen : List ℕ) → 1 ≤ length rest → block ≡ get_or rest 0 block → seen ≡ block → Searches blocks before rest → position test block ≡ None
      → Searches blocks (before + length seen) (take (length rest - 1) (drop 1 rest))
  search_goes_on blocks before [] block seen some is same so_far none = absurd (omega (arith, some))
  search_goes_on blocks before (b ∷ bs) block seen some is same so_far none =
      let all : take (length (b ∷ bs) - 1) bs ≡ bs = take_all (length (b ∷ bs) - 1) bs (omega arith) in
      let first : Searches blocks before (block ∷ bs) = subst (λ x. Searches blocks before (x ∷ bs)) (sym is) so_far in
      subst (λ xs. Searches blocks (before + length seen) xs) (sym all) (subst (λ x. Searches blocks (before + length x) bs) (sym same) (goes_on blocks before block bs first none))

  pub search_ends : (blocks : List (List ℕ)) (before : ℕ) (rest : List (List ℕ)) (block : List ℕ) (i : ℕ) → 1 ≤ length rest → block ≡ get_or rest 0 block → Searches blocks before rest → position test block ≡ Some i
      → position test (joined blocks) ≡ Some (before + i)
  search_ends blocks before [] block i some is so_far found = absurd (omega (arith, some))
  search_ends blocks before (b ∷ bs) block i some is so_far found =
      so_far.1 ∙ ap (option_map (λ k. before + k)) (place_front b (joined bs) i (ap (position test) (sym is) ∙ found))

-- ---- the number at a place

abbrev whole : List ℕ → List ℕ
whole block = block

module _ (bs : List (List ℕ)) (i : ℕ) (b : List ℕ) (low : i < length bs) (is : b ≡ get_or bs i b) where
  joined_more : length (joined (take (i + 1) bs)) ≡ length (joined (take i bs)) + length b
  joined_more = length-more whole bs i b low ∙ ap (λ (x : List ℕ). length (joined (take i bs)) + length x) (sym is)

  as_listed : get_or bs i [] ≡ b
  as_listed = sym (is ∙ get_or_default bs i b [] low)

  pub spot_more : (left at : ℕ) → length b ≤ left → length (joined (take i bs)) + left ≡ at → length (joined (take (i + 1) bs)) + (left - length b) ≡ at
  spot_more left at past sum = omega (arith, joined_more, past, sum)

  pub spot_here : (left at : ℕ) → left < length b → length (joined (take i bs)) + left ≡ at → IsSpot bs at i left
  spot_here left at inside sum = record {
    block_within = low;
    place_within = omega (arith, inside, ap length as_listed);
    sum = sum;
  }

pub spot_past : (bs : List (List ℕ)) (i left at : ℕ) → length bs ≤ i → at < length (joined bs) → length (joined (take i bs)) + left ≡ at → ⊥
spot_past bs i left at past within sum = omega (arith, ap (λ (xs : List (List ℕ)). length (joined xs)) (take_all i bs past), within, sum)

-- a block of one number goes with it
one_gone : (b : List ℕ) (k : ℕ) → length b ≡ 1 → k < length b → [] ≡ remove b k
one_gone [] k one within = absurd (omega (arith, within))
one_gone (x ∷ []) zero one within = refl
one_gone (x ∷ []) (suc k) one within = absurd (omega (arith, within))
one_gone (x ∷ y ∷ zs) k one within = absurd (omega (arith, one))

block_gone : (bs : List (List ℕ)) (i k at : ℕ) → i < length bs → k < length (get_or bs i []) → length (joined (take i bs)) + k ≡ at → length (get_or bs i []) ≡ 1 → joined (remove bs i) ≡ remove (joined bs) at
block_gone [] i k at low within sum one = absurd (omega (arith, low))
block_gone (b ∷ bs) zero k at low within sum one =
    let same : k ≡ at = omega (arith, sum) in
    removed-front b (joined bs) [] k within (one_gone b k one within) ∙ ap (remove (b ++ joined bs)) same
block_gone (b ∷ bs) (suc i) k at low within sum one =
    let inner : length (joined (take i bs)) + k ≡ at - length b = omega (arith, sum, length-append b (joined (take i bs))) in
    removed-after b (joined bs) (joined (remove bs i)) at (at - length b) (omega (arith, sum, length-append b (joined (take i bs)))) (block_gone bs i k (at - length b) (omega (arith, low)) within inner one)

module _ (bs : List (List ℕ)) (b : List ℕ) (at i k : ℕ) (spot : IsSpot bs at i k) (is : b ≡ get_or bs i b) where
  stands : get_or bs i [] ≡ b
  stands = sym (is ∙ get_or_default bs i b [] spot.block_within)

  pub spot_inside : k < length b
  spot_inside = omega (arith, spot.place_within, ap length stands)

  pub spot_number : slice_get (joined bs) at ≡ slice_get b k
  spot_number = in-block whole bs i k at [] spot.block_within spot.place_within spot.sum ∙ ap (λ (x : List ℕ). slice_get x k) stands

  pub spot_taken : (w : List ℕ) → w ≡ remove b k → joined (set bs i w) ≡ remove (joined bs) at
  spot_taken w rest = taken whole bs i k at [] w spot.block_within spot.place_within spot.sum (rest ∙ ap (λ (x : List ℕ). remove x k) (sym stands))

  pub spot_emptied : length b ≡ 1 → joined (remove bs i) ≡ remove (joined bs) at
  spot_emptied one = block_gone bs i k at spot.block_within spot.place_within spot.sum (ap length stands ∙ one)

-- ---- how many there are

-- other blocks with the same numbers
pub kept_length : (bs cs : List (List ℕ)) (xs ys : List ℕ) (n : ℕ) → joined cs ++ ys ≡ joined bs ++ xs → n ≡ length (joined bs) + length xs → n ≡ length (joined cs) + length ys
kept_length bs cs xs ys n same long = omega (arith, long, ap length same, length-append (joined bs) xs, length-append (joined cs) ys)

-- ---- lists that agree at each place

same_item : (x y : ℕ) → Some x ≡ Some y → x ≡ y
same_item x y is = ap (λ o. unwrap_or o x) is

pub same_lists : (xs ys : List ℕ) → length xs ≡ length ys → ((at : ℕ) → at < length xs → slice_get xs at ≡ slice_get ys at) → xs ≡ ys
same_lists [] [] long same = refl
same_lists [] (y ∷ ys) long same = absurd (omega (arith, long))
same_lists (x ∷ xs) [] long same = absurd (omega (arith, long))
same_lists (x ∷ xs) (y ∷ ys) long same =
    ap (λ z. z ∷ xs) (same_item x y (same 0 (omega arith))) ∙ ap (λ zs. y ∷ zs) (same_lists xs ys (omega (arith, long)) (λ at within. same (suc at) (omega (arith, within))))

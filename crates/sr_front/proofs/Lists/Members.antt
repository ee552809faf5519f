-- What stands at the places of lists.
use Rattle.std.proofs.Common.{◌≡◌, ◌⊎◌, ℕ, zero, suc, ◌+◌, ◌<◌, Bool, true, false, ◌&&◌, List, [], ◌∷◌, ◌++◌, Some, length, map, flat_map, slice_get, get_or, refl, sym, ap, ◌∙◌, subst, inl, inr, arith}
use Rattle.std.specs.Prelude.{All, Contains, IsTrue}
use Rattle.std.specs.List.{AllByRecursion, AllZip, enumerate_from, list_all}
use Rattle.std.proofs.lemmas.Bool.{and_from}
use Rattle.std.proofs.lemmas.List.Elements.{All-append, All-head, All-nil, All-tail}
use Rattle.std.proofs.lemmas.List.Concat.{flat_map-append}
use Rattle.std.proofs.lemmas.List.{map-append}
use Rattle.sr_names.specs.Searches.{At}
use Rattle.sr_check.proofs.Each.{Each}
use Rattle.sr_names.proofs.Places.{at-either, at-left, at-right, at-within}

-- something stands in a list
abbrev pub Among : {A : Type 0} → List A → A → Type 0
Among items item = (place : ℕ) × At items place item

module _ {A : Type 0} where
  pub at_get : (items : List A) (place : ℕ) (item : A) → At items place item → slice_get items place ≡ Some item
  at_get [] place item h = absurd h
  at_get (first ∷ items) zero item h = ap Some h
  at_get (first ∷ items) (suc place) item h = at_get items place item h

  pub at_read : (items : List A) (place : ℕ) (d : A) → place < length items → At items place (get_or items place d)
  at_read [] place d h = absurd (omega arith)
  at_read (first ∷ items) zero d h = refl
  at_read (first ∷ items) (suc place) d h = at_read items place d (omega arith)

  pub at_contained : (items : List A) (item : A) → Contains items item → Among items item
  at_contained items item h = (h.0, subst (At items h.0) h.2 (at_read items h.0 item h.1))

  pub contained : (items : List A) (place : ℕ) (item : A) → At items place item → Contains items item
  contained items place item h = (place, at-within items place item h, read items place item item h)
    where
      read : (things : List A) (at : ℕ) (thing d : A) → At things at thing → get_or things at d ≡ thing
      read [] at thing d is = absurd is
      read (first ∷ things) zero thing d is = is
      read (first ∷ things) (suc at) thing d is = read things at thing d is

  pub all_at : (P : A → Type 0) (items : List A) (place : ℕ) (item : A) → All P items → At items place item → P item
  all_at P [] place item all h = absurd h
  all_at P (first ∷ items) zero item all h = subst P h (All-head P first items all)
  all_at P (first ∷ items) (suc place) item all h = all_at P items place item (All-tail P first items all) h

  pub every_at : (P : A → Type 0) (items : List A) (place : ℕ) (item : A) → AllByRecursion P items → At items place item → P item
  every_at P [] place item all h = absurd h
  every_at P (first ∷ items) zero item all h = subst P h all.0
  every_at P (first ∷ items) (suc place) item all h = every_at P items place item all.1 h

  -- a test that each thing of a list passes
  pub passed : (test : A → Bool) (items : List A) → ((place : ℕ) (item : A) → At items place item → IsTrue (test item)) → IsTrue (list_all test items)
  passed test [] passes = refl
  passed test (first ∷ items) passes = and_from _ _ (passes 0 first refl) (passed test items (λ place. passes (suc place)))

  pub passes_at : (test : A → Bool) (items : List A) (place : ℕ) (item : A) → IsTrue (list_all test items) → At items place item → IsTrue (test item)
  passes_at test [] place item all h = absurd h
  passes_at test (first ∷ items) zero item all h = subst (λ one. IsTrue (test one)) h (first_of (test first) _ all)
    where
      first_of : (a b : Bool) → IsTrue (a && b) → IsTrue a
      first_of true b is = refl
      first_of false b is = is
  passes_at test (first ∷ items) (suc place) item all h = passes_at test items place item (rest_of (test first) _ all) h
    where
      rest_of : (a b : Bool) → IsTrue (a && b) → IsTrue b
      rest_of true b is = is
      rest_of false b is = cc

module _ {A B : Type 0} where
  pub at_map : (make : A → B) (items : List A) (place : ℕ) (item : A) → At items place item → At (map make items) place (make item)
  at_map make [] place item h = absurd h
  at_map make (first ∷ items) zero item h = ap make h
  at_map make (first ∷ items) (suc place) item h = at_map make items place item h

  -- what is made stands where that stands of which it is made
  pub at_made : (make : A → B) (items : List A) (place : ℕ) (made : B) → At (map make items) place made → (item : A) × At items place item × (make item ≡ made)
  at_made make [] place made h = absurd h
  at_made make (first ∷ items) zero made h = (first, refl, h)
  at_made make (first ∷ items) (suc place) made h = at_made make items place made h

  -- what is among the parts of one thing of a list is among those of all
  pub among_parts : (parts : A → List B) (items : List A) (place : ℕ) (item : A) (part : B) → At items place item → Among (parts item) part → Among (flat_map parts items) part
  among_parts parts [] place item part h among = absurd h
  among_parts parts (first ∷ items) zero item part h among =
      let here : Among (parts first) part = subst (λ one. Among (parts one) part) (sym h) among in
      (here.0, at-left (parts first) (flat_map parts items) here.0 part here.1)
  among_parts parts (first ∷ items) (suc place) item part h among =
      let later : Among (flat_map parts items) part = among_parts parts items place item part h among in
      (length (parts first) + later.0, at-right (parts first) (flat_map parts items) later.0 (length (parts first) + later.0) part refl later.1)

  -- what is among the parts of all is among those of one
  pub part_of : (parts : A → List B) (items : List A) (place : ℕ) (part : B) → At (flat_map parts items) place part → (n : ℕ) × (item : A) × At items n item × Among (parts item) part
  part_of parts [] place part h = absurd h
  part_of parts (first ∷ items) place part h = by (at-either (parts first) (flat_map parts items) place part h) (λ after. part_of parts items after part)
    where
      Found : Type 0
      Found = (n : ℕ) × (item : A) × At (first ∷ items) n item × Among (parts item) part

      by : (At (parts first) place part ⊎ ((after : ℕ) × (place ≡ length (parts first) + after) × At (flat_map parts items) after part))
          → ((after : ℕ) → At (flat_map parts items) after part → (n : ℕ) × (item : A) × At items n item × Among (parts item) part)
          → Found
      by (inl here) later = (0, first, refl, (place, here))
      by (inr there) later = let found = later there.0 there.2 in (suc found.0, found.1, found.2, found.3)

  -- what is made of the parts of things
  pub map_parts : {C : Type 0} (make : B → C) (parts : A → List B) (others : A → List C) → ((item : A) → map make (parts item) ≡ others item)
      → (items : List A) → map make (flat_map parts items) ≡ flat_map others items
  map_parts make parts others same [] = refl
  map_parts make parts others same (first ∷ items) =
      map-append make (parts first) (flat_map parts items) ∙ (λ i. same first i ++ map_parts make parts others same items i)

-- what holds of the parts of all things holds of all parts
pub all_parts : {A B : Type 0} (P : B → Type 0) (parts : A → List B) (items : List A) → All (λ item. All P (parts item)) items → All P (flat_map parts items)
all_parts P parts [] all = All-nil P
all_parts P parts (first ∷ items) all =
    All-append P (parts first) (flat_map parts items)
    (All-head (λ item. All P (parts item)) first items all) (all_parts P parts items (All-tail (λ item. All P (parts item)) first items all))

among_more : {A : Type 0} (first : A) (all : List A) (things : List A) → Each (Among all) things → Each (Among (first ∷ all)) things
among_more first all [] each = tt
among_more first all (thing ∷ things) each = ((suc each.0.0, each.0.1), among_more first all things each.1)

-- each thing of a list is among them
pub all_among : {A : Type 0} (things : List A) → Each (Among things) things
all_among [] = tt
all_among (thing ∷ things) = ((zero, refl), among_more thing things things (all_among things))

-- what holds of each thing holds of one of them
pub among_each : {A : Type 0} (P : A → Type 0) (things : List A) (place : ℕ) (thing : A) → Each P things → At things place thing → P thing
among_each P [] place thing each at = absurd at
among_each P (first ∷ things) zero thing each at = subst P at each.0
among_each P (first ∷ things) (suc place) thing each at = among_each P things place thing each.1 at

-- ---- numbers of things

module _ {A : Type 0} where
  pub at_numbered : (first : ℕ) (items : List A) (place number : ℕ) (item : A) → number ≡ first + place → At items place item → At (enumerate_from first items) place (number, item)
  at_numbered first [] place number item e h = absurd h
  at_numbered first (one ∷ items) zero number item e h =
      let same : first ≡ number = omega arith in
      (λ i. (same i, h i))
  at_numbered first (one ∷ items) (suc place) number item e h = at_numbered (first + 1) items place number item (omega arith) h

  pub numbered_at : (first : ℕ) (items : List A) (place : ℕ) (numbered : ℕ × A) → At (enumerate_from first items) place numbered → (numbered.0 ≡ first + place) × At items place numbered.1
  numbered_at first [] place numbered h = absurd h
  numbered_at first (one ∷ items) zero numbered h =
      let same : first ≡ numbered.0 = ap (λ (pair : ℕ × A). pair.0) h in
      (omega arith, ap (λ (pair : ℕ × A). pair.1) h)
  numbered_at first (one ∷ items) (suc place) numbered h =
      let later = numbered_at (first + 1) items place numbered h in
      let same : numbered.0 ≡ (first + 1) + place = later.0 in
      (omega arith, later.1)

-- ---- parts of parts

module _ {A B C : Type 0} where
  pub parts_of_parts : (parts : A → List B) (pieces : B → List C) (items : List A) → flat_map pieces (flat_map parts items) ≡ flat_map (λ item. flat_map pieces (parts item)) items
  parts_of_parts parts pieces [] = refl
  parts_of_parts parts pieces (first ∷ items) =
      flat_map-append pieces (parts first) (flat_map parts items) ∙ ap (λ rest. flat_map pieces (parts first) ++ rest) (parts_of_parts parts pieces items)

-- ---- two lists side by side

module _ {A B : Type 0} (R : A → B → Type 0) where
  pub zip_append : (xs : List A) (ys : List B) (more : List A) (others : List B) → AllZip R xs ys → AllZip R more others → AllZip R (xs ++ more) (ys ++ others)
  zip_append [] [] more others first second = second
  zip_append [] (y ∷ ys) more others first second = absurd first
  zip_append (x ∷ xs) [] more others first second = absurd first
  zip_append (x ∷ xs) (y ∷ ys) more others first second = (first.0, zip_append xs ys more others first.1 second)

  pub zip_length : (xs : List A) (ys : List B) → AllZip R xs ys → length xs ≡ length ys
  zip_length [] [] all = refl
  zip_length [] (y ∷ ys) all = absurd all
  zip_length (x ∷ xs) [] all = absurd all
  zip_length (x ∷ xs) (y ∷ ys) all = ap suc (zip_length xs ys all.1)

  pub zip_at : (xs : List A) (ys : List B) (place : ℕ) (x : A) → AllZip R xs ys → At xs place x → (y : B) × At ys place y × R x y
  zip_at [] [] place x all h = absurd h
  zip_at [] (y ∷ ys) place x all h = absurd all
  zip_at (first ∷ xs) [] place x all h = absurd all
  zip_at (first ∷ xs) (y ∷ ys) zero x all h = (y, refl, subst (λ one. R one y) h all.0)
  zip_at (first ∷ xs) (y ∷ ys) (suc place) x all h = zip_at xs ys place x all.1 h

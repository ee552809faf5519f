-- Lists joined end to end: where an item stands, and what is left once it is out.
use Rattle.std.proofs.Common.{◌≡◌, ℕ, zero, suc, ◌+◌, ◌-◌, ◌<◌, ◌≤◌, List, [], ◌∷◌, ◌++◌, Option, None, Some, Bor, length, get_or, set, take, drop, refl, ap, sym, ◌∙◌, arith}
use Rattle.std.specs.List.{flat_map, remove, slice_get}
use Rattle.std.specs.Slice.{IsItemAt}
use Rattle.std.specs.Option.{option_copied}
use Rattle.std.proofs.lemmas.List.{append-nil, length-append, take-append-drop, take_more}
use Rattle.std.proofs.lemmas.List.Concat.{flat_map-append}
use Rattle.std.proofs.lemmas.List.Edits.{remove-append_left, remove-append_right}
use Rattle.std.proofs.lemmas.Option.{slice_get-get_or, slice_get_past}

-- ---- two lists

module _ {A : Type 0} where
  pub in-front : (xs ys : List A) (place : ℕ) → place < length xs → slice_get (xs ++ ys) place ≡ slice_get xs place
  in-front [] ys place low = absurd (omega arith)
  in-front (x ∷ xs) ys zero low = refl
  in-front (x ∷ xs) ys (suc place) low = in-front xs ys place (omega arith)

  pub after-front : (xs ys : List A) (place k : ℕ) → length xs + k ≡ place → slice_get (xs ++ ys) place ≡ slice_get ys k
  after-front [] ys place k sum = let same : place ≡ k = omega arith in ap (slice_get ys) same
  after-front (x ∷ xs) ys zero k sum = absurd (omega arith)
  after-front (x ∷ xs) ys (suc place) k sum = after-front xs ys place k (omega arith)

  pub removed-front : (xs ys zs : List A) (place : ℕ) → place < length xs → zs ≡ remove xs place → zs ++ ys ≡ remove (xs ++ ys) place
  removed-front xs ys zs place low is = ap (λ us. us ++ ys) is ∙ sym (remove-append_left xs ys place low)

  pub removed-after : (xs ys zs : List A) (place k : ℕ) → length xs + k ≡ place → zs ≡ remove ys k → xs ++ zs ≡ remove (xs ++ ys) place
  removed-after xs ys zs place k sum is =
      let same : k ≡ place - length xs = omega arith in
      ap (λ us. xs ++ us) (is ∙ ap (remove ys) same) ∙ sym (remove-append_right xs ys (length xs) place refl (omega arith))

  -- what `get` lends, as a value
  pub copied_item : (xs : List A) (i : ℕ) (r : Option (Bor A)) → IsItemAt xs i r → option_copied r ≡ slice_get xs i
  copied_item xs i None item = sym (slice_get_past xs i item.3)
  copied_item xs i (Some x) item = ap Some (item.3.1 x.now) ∙ sym (slice_get-get_or xs i x.now item.3.0)

-- ---- many lists

module _ {X A : Type 0} (f : X → List A) where
  -- the lists up to one, and that one
  pub length-more : (bs : List X) (i : ℕ) (d : X) → i < length bs → length (flat_map f (take (i + 1) bs)) ≡ length (flat_map f (take i bs)) + length (f (get_or bs i d))
  length-more bs i d low =
      ap (λ xs. length (flat_map f xs)) (take_more bs i d low)
      ∙ ap length (flat_map-append f (take i bs) (get_or bs i d ∷ []))
      ∙ length-append (flat_map f (take i bs)) (f (get_or bs i d) ++ [])
      ∙ ap (λ xs. length (flat_map f (take i bs)) + length xs) (append-nil (f (get_or bs i d)))

  pub length-front : (bs : List X) (i : ℕ) → length (flat_map f (take i bs)) ≤ length (flat_map f bs)
  length-front bs i =
      let whole = ap length (ap (flat_map f) (sym (take-append-drop i bs)) ∙ flat_map-append f (take i bs) (drop i bs)) in
      omega (arith, whole, length-append (flat_map f (take i bs)) (flat_map f (drop i bs)))

  pub in-block : (bs : List X) (i k place : ℕ) (d : X) → i < length bs → k < length (f (get_or bs i d)) → length (flat_map f (take i bs)) + k ≡ place → slice_get (flat_map f bs) place ≡ slice_get (f (get_or bs i d)) k
  in-block [] i k place d low at sum = absurd (omega arith)
  in-block (b ∷ bs) zero k place d low at sum =
      let same : place ≡ k = omega arith in
      ap (slice_get (f b ++ flat_map f bs)) same ∙ in-front (f b) (flat_map f bs) k at
  in-block (b ∷ bs) (suc i) k place d low at sum =
      let inner : length (flat_map f (take i bs)) + k ≡ place - length (f b) = omega (arith, sum, length-append (f b) (flat_map f (take i bs))) in
      after-front (f b) (flat_map f bs) place (place - length (f b)) (omega (arith, sum, length-append (f b) (flat_map f (take i bs))))
      ∙ in-block bs i k (place - length (f b)) d (omega arith) at inner

  pub taken : (bs : List X) (i k place : ℕ) (d w : X) → i < length bs → k < length (f (get_or bs i d)) → length (flat_map f (take i bs)) + k ≡ place → f w ≡ remove (f (get_or bs i d)) k → flat_map f (set bs i w) ≡ remove (flat_map f bs) place
  taken [] i k place d w low at sum is = absurd (omega arith)
  taken (b ∷ bs) zero k place d w low at sum is =
      let same : k ≡ place = omega arith in
      removed-front (f b) (flat_map f bs) (f w) k at is ∙ ap (remove (f b ++ flat_map f bs)) same
  taken (b ∷ bs) (suc i) k place d w low at sum is =
      let inner : length (flat_map f (take i bs)) + k ≡ place - length (f b) = omega (arith, sum, length-append (f b) (flat_map f (take i bs))) in
      removed-after (f b) (flat_map f bs) (flat_map f (set bs i w)) place (place - length (f b)) (omega (arith, sum, length-append (f b) (flat_map f (take i bs))))
      (taken bs i k (place - length (f b)) d w (omega arith) at inner is)

  pub emptied : (bs : List X) (i : ℕ) (d : X) → i < length bs → f (get_or bs i d) ≡ [] → flat_map f (remove bs i) ≡ flat_map f bs
  emptied [] i d low none = absurd (omega arith)
  emptied (b ∷ bs) zero d low none = sym (ap (λ xs. xs ++ flat_map f bs) none)
  emptied (b ∷ bs) (suc i) d low none = ap (λ xs. f b ++ xs) (emptied bs i d (omega arith) none)

-- What a bucket that changes means for the whole map.
use Rattle.std.proofs.Common.{◌≡◌, ℕ, zero, suc, ◌+◌, ◌<◌, ◌==◌, Bool, true, false, cond, List, [], ◌∷◌, ◌++◌, Option, None, Some, get_or, length, refl, ap, sym, ◌∙◌, subst, arith, eq-eqb, eqb-true, true≢false}
use Rattle.std.proofs.lemmas.Option.{slice_get-get_or, slice_get_within}
use Rattle.std.specs.Cmp.{nat_cmp_total, ranked}
use Rattle.std.specs.FinMap as map
use Rattle.std.specs.FinMap.Entries.{find}
use Rattle.std.specs.Ordering.{eq_by_cmp, is_eq, nat_cmp}
use Rattle.std.specs.Prelude.{slice_get, slice_set}
use Rattle.std.specs.declared.cmp.Ordering.TheVariants.{Equal}
use denote.Param.Members.{Called, Mut}
use Rattle.sr_buckets.specs.Parts.{AreInPlace, ByNumber, gathered, gathered_from, home, part, union}
use Rattle.sr_buckets.proofs.NumberLemmas.{same_number}

-- a number of another part is another
elsewhere : (p q i : ℕ) → home p ≡ i → (home q == i) ≡ false → is_eq (nat_cmp q p) ≡ false
elsewhere p q i here off = by (is_eq (nat_cmp q p)) refl
  where
    by : (b : Bool) → is_eq (nat_cmp q p) ≡ b → b ≡ false
    by true is = absurd (true≢false (sym (eq-eqb (home q) i (ap home (same_number q p is) ∙ here)) ∙ off))
    by false is = refl

-- ---- a part of a map

module _ {A : Type 0} where
  pub get-part : (i : ℕ) (all : ByNumber A) (q : ℕ) → map.get (part i all) q ≡ cond (home q == i) (map.get all q) None
  get-part i all q = map.get-retain_keys all (λ number. home number == i) q (λ x is. ap (λ n. home n == i) (sym (ranked q x Equal (sym is))))

  abbrev or : Option A → Option A → Option A
  or None later = later
  or (Some a) later = Some a

  or-none : (o : Option A) → or o None ≡ o
  or-none None = refl
  or-none (Some a) = refl

  find-both : (xs ys : List (ℕ × A)) (q : ℕ) → find nat_cmp q (xs ++ ys) ≡ or (find nat_cmp q xs) (find nat_cmp q ys)
  find-both [] ys q = refl
  find-both (x ∷ xs) ys q = by (eq_by_cmp nat_cmp q x.0) (find-both xs ys q)
    where
      by : (b : Bool) → find nat_cmp q (xs ++ ys) ≡ or (find nat_cmp q xs) (find nat_cmp q ys)
          → cond b (Some x.1) (find nat_cmp q (xs ++ ys)) ≡ or (cond b (Some x.1) (find nat_cmp q xs)) (find nat_cmp q ys)
      by true more = refl
      by false more = more

  get-union : (one other : ByNumber A) (q : ℕ) → map.get (union one other) q ≡ or (map.get one q) (map.get other q)
  get-union one other q =
      map.get-from_entries nat_cmp_total (map.entries one ++ map.entries other) q ∙ find-both (map.entries one) (map.entries other) q
      ∙ ap (λ o. or o (find nat_cmp q (map.entries other))) (sym (map.get-entries one q)) ∙ ap (or (map.get one q)) (sym (map.get-entries other q))

  same-map : (one other : ByNumber A) → ((q : ℕ) → map.get one q ≡ map.get other q) → one ≡ other
  same-map one other same = map.same_map nat_cmp_total map.nat_cmp-IsAntisymmetric one other same

  get-here : (i : ℕ) (all : ByNumber A) (q : ℕ) → home q ≡ i → map.get (part i all) q ≡ map.get all q
  get-here i all q here = get-part i all q ∙ ap (λ b. cond b (map.get all q) None) (eq-eqb (home q) i here)

  get-there : (i : ℕ) (all : ByNumber A) (q : ℕ) → (home q == i) ≡ false → map.get (part i all) q ≡ None
  get-there i all q off = get-part i all q ∙ ap (λ b. cond b (map.get all q) None) off

  -- maps are the same where their parts are
  pub same-parts : (one other : ByNumber A) → ((i : ℕ) → i < 32 → part i one ≡ part i other) → one ≡ other
  same-parts one other each =
      same-map one other
      (λ q. sym (get-here (home q) one q refl) ∙ ap (λ (m : ByNumber A). map.get m q) (each (home q) (omega arith)) ∙ get-here (home q) other q refl)

-- ---- a look at one number

-- the numbers of a map are as before, but one
abbrev pub Sets : {A : Type 0} → ℕ → Option A → ByNumber A → ByNumber A → Type 0
Sets p o old new = (q : ℕ) → map.get new q ≡ cond (is_eq (nat_cmp q p)) o (map.get old q)

-- one bucket is another now
pub record IsSet {B : Type 0} (old new : List B) (i : ℕ) (bucket : B) : Type 0 where
  pub here : slice_get new i ≡ Some bucket
  pub others : (k : ℕ) → (k == i) ≡ false → slice_get new k ≡ slice_get old k
  pub long : length new ≡ length old

get-set : {B : Type 0} (bs : List B) (i : ℕ) (b : B) → i < length bs → slice_get (slice_set bs i b) i ≡ Some b
get-set [] i b inside = absurd (omega arith)
get-set (x ∷ xs) zero b inside = refl
get-set (x ∷ xs) (suc i) b inside = get-set xs i b (omega arith)

get-set_other : {B : Type 0} (bs : List B) (i k : ℕ) (b : B) → (k == i) ≡ false → slice_get (slice_set bs i b) k ≡ slice_get bs k
get-set_other [] i k b off = refl
get-set_other (x ∷ xs) zero zero b off = absurd (true≢false off)
get-set_other (x ∷ xs) zero (suc k) b off = refl
get-set_other (x ∷ xs) (suc i) zero b off = refl
get-set_other (x ∷ xs) (suc i) (suc k) b off = get-set_other xs i k b (by (k == i) refl)
  where
    by : (c : Bool) → (k == i) ≡ c → c ≡ false
    by true is = absurd (true≢false (sym (eq-eqb (suc k) (suc i) (ap suc (eqb-true k i is))) ∙ off))
    by false is = refl

length-set : {B : Type 0} (bs : List B) (i : ℕ) (b : B) → length (slice_set bs i b) ≡ length bs
length-set [] i b = refl
length-set (x ∷ xs) zero b = refl
length-set (x ∷ xs) (suc i) b = let more = length-set xs i b in omega (arith, more)

pub is-set : {B : Type 0} (bs : List B) (i : ℕ) (b : B) → i < length bs → IsSet bs (slice_set bs i b) i b
is-set bs i b inside = record { here = get-set bs i b inside; others = λ k off. get-set_other bs i k b off; long = length-set bs i b }

-- the bucket of a number
module _ {B : Type 0} (buckets : List B) (p i : ℕ) (all : length buckets ≡ 32) (is : i ≡ home p) where
  pub at-home : (other : B) → slice_get buckets (home p) ≡ Some (get_or buckets i other)
  at-home other = subst (λ k. slice_get buckets k ≡ Some (get_or buckets i other)) is (slice_get-get_or buckets i other (omega (arith, all, is)))

  pub set-home : (bucket : B) → IsSet buckets (slice_set buckets i bucket) (home p) bucket
  set-home bucket = subst (λ k. IsSet buckets (slice_set buckets i bucket) k bucket) is (is-set buckets i bucket (omega (arith, all, is)))

module _ {A B : Type 0} (entries : B → ByNumber A) where
  abbrev pub got : Option B → ℕ → Option A
  got None q = None
  got (Some b) q = map.get (entries b) q

  none-before : (at : ℕ) (bs : List B) (q : ℕ) → home q < at → map.get (gathered_from entries at bs) q ≡ None
  none-before at [] q less = map.get-empty nat_cmp q
  none-before at (b ∷ bs) q less =
      get-union (part at (entries b)) (gathered_from entries (suc at) bs) q
      ∙ ap (λ o. or o (map.get (gathered_from entries (suc at) bs) q)) (get-there at (entries b) q (not-equal (home q) at less))
      ∙ none-before (suc at) bs q (omega arith)
    where
      not-equal : (m n : ℕ) → m < n → (m == n) ≡ false
      not-equal m n l = by (m == n) refl
        where
          by : (b' : Bool) → (m == n) ≡ b' → b' ≡ false
          by true is = let same : m ≡ n = eqb-true m n is in absurd (omega arith)
          by false is = refl

  look-from : (at i : ℕ) (bs : List B) (q : ℕ) → home q ≡ at + i → map.get (gathered_from entries at bs) q ≡ got (slice_get bs i) q
  look-from at i [] q is = map.get-empty nat_cmp q
  look-from at zero (b ∷ bs) q is =
      get-union (part at (entries b)) (gathered_from entries (suc at) bs) q
      ∙ ap (or (map.get (part at (entries b)) q)) (none-before (suc at) bs q (omega (arith, is)))
      ∙ or-none (map.get (part at (entries b)) q)
      ∙ get-here at (entries b) q (omega (arith, is))
  look-from at (suc i) (b ∷ bs) q is =
      get-union (part at (entries b)) (gathered_from entries (suc at) bs) q
      ∙ ap (λ o. or o (map.get (gathered_from entries (suc at) bs) q)) (get-there at (entries b) q (off (home q == at) refl))
      ∙ look-from (suc at) i bs q (omega (arith, is))
    where
      off : (b' : Bool) → (home q == at) ≡ b' → b' ≡ false
      off true same = let equal : home q ≡ at = eqb-true (home q) at same in absurd (omega (arith, is, equal))
      off false other = refl

  -- what stands at a number stands so in its bucket
  pub look : (bs : List B) (q : ℕ) → map.get (gathered entries bs) q ≡ got (slice_get bs (home q)) q
  look bs q = look-from 0 (home q) bs q (omega arith)

  pub look-at : (bs : List B) (q : ℕ) (b : B) → slice_get bs (home q) ≡ Some b → map.get (gathered entries bs) q ≡ map.get (entries b) q
  look-at bs q b at = look bs q ∙ ap (λ o. got o q) at

  -- where a bucket is as it was, so is what stands in it
  pub same-at : (old new : List B) (q : ℕ) → slice_get new (home q) ≡ slice_get old (home q) → map.get (gathered entries new) q ≡ map.get (gathered entries old) q
  same-at old new q same = look new q ∙ ap (λ o. got o q) same ∙ sym (look old q)

  -- nothing stands in buckets of which each is empty
  pub none-gathered : (bs : List B) → ((i : ℕ) (b : B) → slice_get bs i ≡ Some b → entries b ≡ map.empty) → gathered entries bs ≡ map.empty
  none-gathered bs empty = same-map (gathered entries bs) map.empty (λ q. look bs q ∙ by q (slice_get bs (home q)) refl ∙ sym (map.get-empty nat_cmp q))
    where
      by : (q : ℕ) (o : Option B) → slice_get bs (home q) ≡ o → got o q ≡ None
      by q None is = refl
      by q (Some b) is = ap (λ (m : ByNumber A). map.get m q) (empty (home q) b is) ∙ map.get-empty nat_cmp q

  pub empty-in-place : (bs : List B) → ((i : ℕ) (b : B) → slice_get bs i ≡ Some b → entries b ≡ map.empty) → AreInPlace entries bs
  empty-in-place bs empty i b at = same-map (part i (entries b)) (entries b) (λ q. get-part i (entries b) q ∙ by q (home q == i) ∙ sym (none q))
    where
      none : (q : ℕ) → map.get (entries b) q ≡ None
      none q = ap (λ (m : ByNumber A). map.get m q) (empty i b at) ∙ map.get-empty nat_cmp q

      by : (q : ℕ) (c : Bool) → cond c (map.get (entries b) q) None ≡ None
      by q true = none q
      by q false = refl

  -- the part of all is the bucket
  pub part-gathered : (bs : List B) → AreInPlace entries bs → (i : ℕ) (b : B) → slice_get bs i ≡ Some b → part i (gathered entries bs) ≡ entries b
  part-gathered bs placed i b at = same-map (part i (gathered entries bs)) (entries b) (λ q. get-part i (gathered entries bs) q ∙ by q (home q == i) refl)
    where
      by : (q : ℕ) (c : Bool) → (home q == i) ≡ c → cond c (map.get (gathered entries bs) q) None ≡ map.get (entries b) q
      by q true is = look-at bs q b (ap (slice_get bs) (eqb-true (home q) i is) ∙ at)
      by q false is = sym (ap (λ (m : ByNumber A). map.get m q) (sym (placed i b at)) ∙ get-there i (entries b) q is)

  -- buckets that have the same make the same
  pub same-gathered : (bs cs : List B) → ((i : ℕ) → (q : ℕ) → got (slice_get bs i) q ≡ got (slice_get cs i) q) → gathered entries bs ≡ gathered entries cs
  same-gathered bs cs same = same-map (gathered entries bs) (gathered entries cs) (λ q. look bs q ∙ same (home q) q ∙ sym (look cs q))

  -- copies of buckets
  module _ (bs cs : List B) (long : length cs ≡ length bs) (copies : (i : ℕ) (b c : B) → slice_get bs i ≡ Some b → slice_get cs i ≡ Some c → entries c ≡ entries b) where
    never : (i : ℕ) (b : B) → slice_get bs i ≡ Some b → slice_get cs i ≡ None → ⊥
    never i b at none =
        let inside : i < length cs = (let within = slice_get_within bs i b at in omega (arith, long)) in
        let there : slice_get cs i ≡ Some (get_or cs i b) = slice_get-get_or cs i b inside in cc

    pub copied : gathered entries cs ≡ gathered entries bs
    copied = same-map (gathered entries cs) (gathered entries bs) (λ q. look cs q ∙ by q (slice_get cs (home q)) (slice_get bs (home q)) refl refl ∙ sym (look bs q))
      where
        by : (q : ℕ) (c b : Option B) → slice_get cs (home q) ≡ c → slice_get bs (home q) ≡ b → got c q ≡ got b q
        by q None None none gone = refl
        by q None (Some b) none at = absurd (never (home q) b at none)
        by q (Some c) None at none =
            let inside : home q < length bs = (let within = slice_get_within cs (home q) c at in omega (arith, long)) in
            let there : slice_get bs (home q) ≡ Some (get_or bs (home q) c) = slice_get-get_or bs (home q) c inside in absurd (cc)
        by q (Some c) (Some b) at there = ap (λ (m : ByNumber A). map.get m q) (copies (home q) b c there at)

    pub copied-placed : AreInPlace entries bs → AreInPlace entries cs
    copied-placed placed i c at = by (slice_get bs i) refl
      where
        by : (o : Option B) → slice_get bs i ≡ o → part i (entries c) ≡ entries c
        by None none =
            let inside : i < length bs = (let within = slice_get_within cs i c at in omega (arith, long)) in
            let there : slice_get bs i ≡ Some (get_or bs i c) = slice_get-get_or bs i c inside in absurd (cc)
        by (Some b) there = subst (λ (m : ByNumber A). part i m ≡ m) (sym (copies i b c there at)) (placed i b there)

  module _ (old new : List B) (i : ℕ) (was bucket : B) (at : slice_get old i ≡ Some was) (set : IsSet old new i bucket) where
    -- a bucket that has what it had
    pub gathered-same : entries bucket ≡ entries was → gathered entries new ≡ gathered entries old
    gathered-same same = same-gathered new old (λ k q. by k q (k == i) refl)
      where
        by : (k q : ℕ) (c : Bool) → (k == i) ≡ c → got (slice_get new k) q ≡ got (slice_get old k) q
        by k q true is =
            let here : k ≡ i = eqb-true k i is in
            ap (λ n. got (slice_get new n) q) here ∙ ap (λ o. got o q) set.here ∙ ap (λ (m : ByNumber A). map.get m q) same ∙ sym (ap (λ o. got o q) at) ∙ ap (λ n. got (slice_get old n) q) (sym here)
        by k q false is = ap (λ o. got o q) (set.others k is)

    pub placed-same : entries bucket ≡ entries was → AreInPlace entries old → AreInPlace entries new
    placed-same same placed k b there = by (k == i) refl
      where
        by : (c : Bool) → (k == i) ≡ c → part k (entries b) ≡ entries b
        by true is =
            let here : k ≡ i = eqb-true k i is in
            let found : Some bucket ≡ Some b = sym set.here ∙ ap (slice_get new) (sym here) ∙ there in
            let is-bucket : bucket ≡ b = cc in
            let contents : entries b ≡ entries was = ap entries (sym is-bucket) ∙ same in
            subst (λ (m : ByNumber A). part k m ≡ m) (sym contents) (placed k was (ap (slice_get old) here ∙ at))
        by false is = placed k b (sym (set.others k is) ∙ there)

    -- what stays so at a number in its bucket stays so of all
    pub kept-at : (P : Option A → Type 0) (q : ℕ) → (P (map.get (entries was) q) → P (map.get (entries bucket) q)) → P (map.get (gathered entries old) q) → P (map.get (gathered entries new) q)
    kept-at P q kept can = by (home q == i) refl
      where
        by : (c : Bool) → (home q == i) ≡ c → P (map.get (gathered entries new) q)
        by true is =
            let here : home q ≡ i = eqb-true (home q) i is in
            subst P (sym (look-at new q bucket (ap (slice_get new) here ∙ set.here))) (kept (subst P (look-at old q was (ap (slice_get old) here ∙ at)) can))
        by false is = subst P (sym (same-at old new q (set.others (home q) is))) can

    -- one number of a bucket changes
    module _ (p : ℕ) (home-is : home p ≡ i) (o : Option A) (sets : Sets p o (entries was) (entries bucket)) where
      pub gathered-set : (all : ByNumber A) → Sets p o (gathered entries old) all → gathered entries new ≡ all
      gathered-set all whole = same-map (gathered entries new) all (λ q. by q (home q == i) refl ∙ sym (whole q))
        where
          by : (q : ℕ) (c : Bool) → (home q == i) ≡ c → map.get (gathered entries new) q ≡ cond (is_eq (nat_cmp q p)) o (map.get (gathered entries old) q)
          by q true is =
              let here : home q ≡ i = eqb-true (home q) i is in
              look-at new q bucket (ap (slice_get new) here ∙ set.here) ∙ sets q
              ∙ ap (cond (is_eq (nat_cmp q p)) o) (sym (look-at old q was (ap (slice_get old) here ∙ at)))
          by q false is =
              look new q ∙ ap (λ x. got x q) (set.others (home q) is) ∙ sym (look old q)
              ∙ ap (λ b. cond b o (map.get (gathered entries old) q)) (sym (elsewhere p q i home-is is))

      pub placed-set : AreInPlace entries old → AreInPlace entries new
      placed-set placed k b there = by (k == i) refl
        where
          each : (q : ℕ) (c : Bool) → (home q == i) ≡ c → cond c (map.get (entries bucket) q) None ≡ map.get (entries bucket) q
          each q true is = refl
          each q false is =
              sym (sets q ∙ ap (λ b. cond b o (map.get (entries was) q)) (elsewhere p q i home-is is)
              ∙ ap (λ (m : ByNumber A). map.get m q) (sym (placed i was at)) ∙ get-there i (entries was) q is)

          by : (c : Bool) → (k == i) ≡ c → part k (entries b) ≡ entries b
          by true is =
              let here : k ≡ i = eqb-true k i is in
              let found : Some bucket ≡ Some b = sym set.here ∙ ap (slice_get new) (sym here) ∙ there in
              let is-bucket : bucket ≡ b = cc in
              subst (λ c'. part k (entries c') ≡ entries c') is-bucket
              (subst (λ n. part n (entries bucket) ≡ entries bucket) (sym here) (same-map (part i (entries bucket)) (entries bucket) (λ q. get-part i (entries bucket) q ∙ each q (home q == i) refl)))
          by false is = placed k b (sym (set.others k is) ∙ there)

-- ---- buckets that are made one by one

module _ {F B : Type 0} (g : Mut F (ℕ × Unit {0}) B) (P : B → Type 0) where
  -- what holds of each that is made holds of all
  pub filled : (ys : List B) (n : ℕ) → length ys ≡ n → ((i : ℕ) (e : B) → i < n → (p : F) × (q : F) × Called g p (i, tt) (get_or ys i e) q)
      → ((p q : F) (i : ℕ) (b : B) → Called g p (i, tt) b q → P b) → (i : ℕ) (b : B) → slice_get ys i ≡ Some b → P b
  filled ys n long each made i b at =
      let inside : i < length ys = slice_get_within ys i b at in
      let call : (p : F) × (q : F) × Called g p (i, tt) (get_or ys i b) q = each i b (omega (arith, long, inside)) in
      let there : slice_get ys i ≡ Some (get_or ys i b) = slice_get-get_or ys i b inside in
      let same : get_or ys i b ≡ b = cc in
      subst P same (made call.0 call.1 i (get_or ys i b) call.2)

-- ---- copies that are put in their places one by one

module _ {A B : Type 0} (IsCopy : A → B → Type 0) (from : List A) (to : List B) (place : ℕ) (a : A) (b : B) where
  pub put-long : (n : ℕ) → length to ≡ n → length (slice_set to place b) ≡ n
  put-long n long = length-set to place b ∙ long

  pub put-copied : ((k : ℕ) (x : A) (y : B) → k < place → slice_get from k ≡ Some x → slice_get to k ≡ Some y → IsCopy x y) → a ≡ get_or from place a → IsCopy a b
      → (k : ℕ) (x : A) (y : B) → k < place + 1 → slice_get from k ≡ Some x → slice_get (slice_set to place b) k ≡ Some y → IsCopy x y
  put-copied before is here k x y less at copy = by (k == place) refl
    where
      by : (c : Bool) → (k == place) ≡ c → IsCopy x y
      by true same =
          let there : k ≡ place = eqb-true k place same in
          let inside : k < length (slice_set to place b) = slice_get_within (slice_set to place b) k y copy in
          let within : place < length to = (let long = length-set to place b in omega (arith, inside, long, there)) in
          let put : slice_get (slice_set to place b) place ≡ Some b = get-set to place b within in
          let copy-there : slice_get (slice_set to place b) place ≡ Some y = ap (slice_get (slice_set to place b)) (sym there) ∙ copy in
          let copy-is : b ≡ y = cc in
          let read : slice_get from k ≡ Some (get_or from k a) = slice_get-get_or from k a (slice_get_within from k x at) in
          let read-there : get_or from k a ≡ a = ap (λ n. get_or from n a) there ∙ sym is in
          let from-is : a ≡ x = cc in
          subst (λ v. IsCopy v y) from-is (subst (λ v. IsCopy a v) copy-is here)
      by false off =
          let ne : k ≡ place → ⊥ = λ e. true≢false (sym (eq-eqb k place e) ∙ off) in
          before k x y (omega (arith, less, ne)) at (sym (get-set_other to place k b off) ∙ copy)

-- That rows of counts tell what comes before what.
use Rattle.std.proofs.Common.{◌≡◌, ◌≢◌, ◌==◌, ◌↔◌, ℕ, zero, suc, ◌+◌, ◌<◌, ◌≤◌, ◌⊎◌, inl, inr, ⊎_elim, List, [], ◌∷◌, refl, ap, sym, subst, ◌∙◌, true, false, cond, arith, add-one}
use Rattle.std.proofs.lemmas.Bool.{eq-eqb, ne_eqb}
use Rattle.std.proofs.lemmas.Bool.Decides.{eqb_tells}
use Rattle.std.proofs.lemmas.List.Sums.{sum_by-cons}
use Rattle.std.specs.Prelude.{slice_index, take}
use Rattle.sr_clocks.specs.Clocks.{AreInLine, AreRows, Before, FirstPart, IsLeast, LastLink, Rows, RowsTell, linked, through, made, own}

-- ---- numbers

pub order : (k j : ℕ) → (k < j) ⊎ ((k ≡ j) ⊎ (j < k))
order zero zero = inr (inl refl)
order zero (suc j) = inl (omega arith)
order (suc k) zero = inr (inr (omega arith))
order (suc k) (suc j) = ⊎_elim (λ l. inl (omega arith)) (⊎_elim (λ e. inr (inl (ap suc e))) (λ l. inr (inr (omega arith)))) (order k j)

at_most : (m n : ℕ) → m ≤ suc n → (m ≤ n) ⊎ (m ≡ suc n)
at_most m n le = ⊎_elim (λ l. inl (omega arith)) (⊎_elim (λ e. inr e) (λ l. absurd (omega arith))) (order m (suc n))

-- ---- how many items a process made

own_yes : (owners : List ℕ) (a i : ℕ) → slice_index owners i ≡ a → own owners a i ≡ 1
own_yes owners a i e = ap (λ b. cond b 1 0) (eq-eqb (slice_index owners i) a e)

own_no : (owners : List ℕ) (a i : ℕ) → slice_index owners i ≢ a → own owners a i ≡ 0
own_no owners a i other = ap (λ b. cond b 1 0) (ne_eqb (slice_index owners i) a other)

nobody : (a : ℕ) → 0 < a → 0 ≢ a
nobody a pos e = omega arith

pub made_suc : (owners : List ℕ) (a n : ℕ) → 0 < a → made owners a (suc n) ≡ made owners a n + own owners a n
made_suc [] a zero pos = omega (arith, own_no [] a 0 (nobody a pos))
made_suc [] a (suc n) pos = omega (arith, own_no [] a (suc n) (nobody a pos))
made_suc (x ∷ xs) a zero pos = omega arith
made_suc (x ∷ xs) a (suc n) pos =
    let longer : made (x ∷ xs) a (suc (suc n)) ≡ cond (x == a) 1 0 + made xs a (suc n) = sum_by-cons (λ owner. cond (owner == a) 1 0) x (take (suc n) xs) in
    let shorter : made (x ∷ xs) a (suc n) ≡ cond (x == a) 1 0 + made xs a n = sum_by-cons (λ owner. cond (owner == a) 1 0) x (take n xs) in
    let same : own (x ∷ xs) a (suc n) ≡ own xs a n = refl in
    omega (arith, made_suc xs a n pos)

made_up : (owners : List ℕ) (a : ℕ) → 0 < a → (m n : ℕ) → m ≤ n → made owners a m ≤ made owners a n
made_up owners a pos zero zero le = omega arith
made_up owners a pos (suc m) zero le = absurd (omega arith)
made_up owners a pos m (suc n) le =
    ⊎_elim (λ less. omega (arith, made_up owners a pos m n less, made_suc owners a n pos)) (λ e. subst (λ k. made owners a m ≤ made owners a k) e (omega arith)) (at_most m n le)

-- the last of the first items, so many, that is of a process
record IsLast (owners : List ℕ) (a n p : ℕ) : Type 0 where
  earlier : p < n
  its : slice_index owners p ≡ a
  none : (k : ℕ) → p < k → k < n → slice_index owners k ≢ a
  count : made owners a n ≡ made owners a (suc p)

last_of : (owners : List ℕ) (a : ℕ) → 0 < a → (n : ℕ) → (made owners a n ≡ 0) ⊎ ((p : ℕ) × IsLast owners a n p)
last_of owners a pos zero = inl refl
last_of owners a pos (suc n) = ⊎_elim yes (other (last_of owners a pos n)) (eqb_tells (slice_index owners n) a)
  where
    yes : ((slice_index owners n == a) ≡ true) × (slice_index owners n ≡ a) → (made owners a (suc n) ≡ 0) ⊎ ((p : ℕ) × IsLast owners a (suc n) p)
    yes is = inr (n, record { earlier = omega arith; its = is.1; none = λ k l h. absurd (omega arith); count = refl })

    later : (p : ℕ) → IsLast owners a n p → slice_index owners n ≢ a → (k : ℕ) → p < k → k < suc n → slice_index owners k ≢ a
    later p l not k more less = ⊎_elim (λ h. l.none k more h) (⊎_elim (λ e. subst (λ i. slice_index owners i ≢ a) (sym e) not) (λ h. absurd (omega arith))) (order k n)

    other : (made owners a n ≡ 0) ⊎ ((p : ℕ) × IsLast owners a n p) → ((slice_index owners n == a) ≡ false) × (slice_index owners n ≢ a)
        → (made owners a (suc n) ≡ 0) ⊎ ((p : ℕ) × IsLast owners a (suc n) p)
    other before is =
        let same : made owners a (suc n) ≡ made owners a n = omega (arith, made_suc owners a n pos, own_no owners a n is.1) in
        ⊎_elim (λ e. inl (same ∙ e))
        (λ found. inr (found.0, record { earlier = omega (arith, found.1.earlier); its = found.1.its; none = later found.0 found.1 is.1; count = same ∙ found.1.count }))
        before

-- an item that a process makes is one more
made_own : (owners : List ℕ) (a k : ℕ) → 0 < a → slice_index owners k ≡ a → made owners a (suc k) ≡ made owners a k + 1
made_own owners a k pos its = omega (arith, made_suc owners a k pos, own_yes owners a k its)

-- ---- before

pub before_forward : {Links : ℕ → ℕ → Type 0} → ((i j : ℕ) → Links i j → i < j) → (i j : ℕ) → Before Links i j → i < j
before_forward forward _ _ (linked i j e) = forward i j e
before_forward forward _ _ (through i j k a b) = omega (arith, before_forward forward i j a, before_forward forward j k b)

pub before_least : (Links R : ℕ → ℕ → Type 0) → IsLeast Links R
before_least Links R has goes _ _ (linked i j e) = has i j e
before_least Links R has goes _ _ (through i j k a b) = goes i j k (before_least Links R has goes i j a) (before_least Links R has goes j k b)

pub last_link : (Links : ℕ → ℕ → Type 0) → LastLink Links
last_link Links _ _ (linked k j e) = (k, e, inl refl)
last_link Links _ _ (through k m j a b) =
    let last = last_link Links m j b in
    (last.0, last.1, inr (⊎_elim (λ e. subst (λ i. Before Links k i) e a) (λ more. through k m last.0 a more) last.2))

module _ (Links : ℕ → ℕ → Type 0) (owners : List ℕ) (lines : AreInLine Links owners) where
  abbrev InLine : ℕ → Type 0
  InLine n = (j : ℕ) → j < n → (i : ℕ) → i < j → 0 < slice_index owners j → slice_index owners i ≡ slice_index owners j → Before Links i j

  -- each item of a process is before each later one
  in_line : (n j : ℕ) → j < n → (i : ℕ) → i < j → 0 < slice_index owners j → slice_index owners i ≡ slice_index owners j → Before Links i j
  in_line zero j short i less some same = absurd (omega arith)
  in_line (suc n) j short i less some same = ⊎_elim none (one (in_line n)) (last_of owners (slice_index owners j) some j)
    where
      none : made owners (slice_index owners j) j ≡ 0 → Before Links i j
      none e = absurd (omega (arith, made_own owners (slice_index owners j) i some same, made_up owners (slice_index owners j) some (suc i) j less))

      one : InLine n → ((p : ℕ) × IsLast owners (slice_index owners j) j p) → Before Links i j
      one known found =
          let step : Before Links found.0 j = linked found.0 j (lines.in_line found.0 j
          (record { later = found.1.earlier; some = some; same = found.1.its; none_between = found.1.none })) in
          let in_time : found.0 < n = omega (arith, found.1.earlier) in
          let some_too : 0 < slice_index owners found.0 = subst (λ o. 0 < o) (sym found.1.its) some in
          ⊎_elim (λ l. through i found.0 j (known found.0 in_time i l some_too (same ∙ sym found.1.its)) step)
          (⊎_elim (λ e. subst (λ p. Before Links p j) (sym e) step) (λ l. absurd (found.1.none i l less same)))
          (order i found.0)

  module _ (m : ℕ) (row : Rows) (rows : AreRows Links owners m row) where
    own_least : (a j : ℕ) → 0 < a → j < m → own owners a j ≤ row j a
    own_least a j pos inside = ⊎_elim (λ e. omega arith) (λ found. omega (arith, found.2)) (rows.reached j a inside pos)

    -- rows grow along what is before
    row_up : (a : ℕ) → 0 < a → (i j : ℕ) → j < m → Before Links i j → row i a ≤ row j a
    row_up a pos _ _ inside (linked i j e) = omega (arith, rows.above i j a inside pos e)
    row_up a pos _ _ inside (through i j k b more) =
        let between : j < m = omega (arith, before_forward lines.forward j k more) in
        omega (arith, row_up a pos i j between b, row_up a pos j k inside more)

    -- an item's own row has the item and all of its process before it
    pub row_own : (a n k : ℕ) → 0 < a → k < n → n ≤ m → slice_index owners k ≡ a → made owners a (suc k) ≤ row k a
    row_own a zero k pos short most its = absurd (omega arith)
    row_own a (suc n) k pos short most its = ⊎_elim none (one (λ p some less is. row_own a n p some less (omega arith) is)) (last_of owners a pos k)
      where
        none : made owners a k ≡ 0 → made owners a (suc k) ≤ row k a
        none e = omega (arith, made_own owners a k pos its, own_least a k pos (omega arith), own_yes owners a k its)

        one : ((p : ℕ) → 0 < a → p < n → slice_index owners p ≡ a → made owners a (suc p) ≤ row p a) → ((p : ℕ) × IsLast owners a k p)
            → made owners a (suc k) ≤ row k a
        one known found =
            let same : slice_index owners found.0 ≡ slice_index owners k = found.1.its ∙ sym its in
            let some : 0 < slice_index owners k = subst (λ o. 0 < o) (sym its) pos in
            let between : (i : ℕ) → found.0 < i → i < k → slice_index owners i ≢ slice_index owners k = λ i l h e. found.1.none i l h (e ∙ its) in
            let step : Links found.0 k = lines.in_line found.0 k (record { later = found.1.earlier; some = some; same = same; none_between = between }) in
            let in_time : found.0 < n = omega (arith, found.1.earlier) in
            omega (arith, made_own owners a k pos its, found.1.count, known found.0 pos in_time found.1.its, rows.above found.0 k a (omega arith) pos step, own_yes owners a k its)

    -- no row has more of a process than it made up to the item
    pub row_most : (a n j : ℕ) → 0 < a → j < n → n ≤ m → row j a ≤ made owners a (suc j)
    row_most a zero j pos short most = absurd (omega arith)
    row_most a (suc n) j pos short most = ⊎_elim (λ e. omega (arith, made_suc owners a j pos)) (one (λ i some less. row_most a n i some less (omega arith))) (rows.reached j a (omega arith) pos)
      where
        one : ((i : ℕ) → 0 < a → i < n → row i a ≤ made owners a (suc i)) → ((i : ℕ) × Links i j × (row j a ≡ row i a + own owners a j))
            → row j a ≤ made owners a (suc j)
        one known found =
            let earlier : found.0 < j = lines.forward found.0 j found.1 in
            let in_time : found.0 < n = omega arith in
            omega (arith, found.2, known found.0 pos in_time, made_up owners a pos (suc found.0) j earlier, made_suc owners a j pos)

    abbrev Counted : ℕ → ℕ → Type 0
    Counted a n = (j : ℕ) → 0 < a → j < n → (k : ℕ) → slice_index owners k ≡ a → made owners a (suc k) ≤ row j a → (k ≡ j) ⊎ Before Links k j

    -- what a row counts is the item itself or before it
    counted : (a n j : ℕ) → 0 < a → j < n → n ≤ m → (k : ℕ) → slice_index owners k ≡ a → made owners a (suc k) ≤ row j a → (k ≡ j) ⊎ Before Links k j
    counted a zero j pos short most k its within = absurd (omega arith)
    counted a (suc n) j pos short most k its within = ⊎_elim yes (other (λ i some less c is more. counted a n i some less (omega arith) c is more)) (eqb_tells (slice_index owners j) a)
      where
        yes : ((slice_index owners j == a) ≡ true) × (slice_index owners j ≡ a) → (k ≡ j) ⊎ Before Links k j
        yes is =
            ⊎_elim (λ l. inr (in_line (suc j) j (omega arith) k l (subst (λ o. 0 < o) (sym is.1) pos) (its ∙ sym is.1)))
            (⊎_elim (λ e. inl e)
            (λ l. absurd (omega (arith, made_own owners a k pos its, made_up owners a pos (suc j) k l, row_most a (suc j) j pos (omega arith) (omega arith)))))
            (order k j)

        from : Counted a n → ((i : ℕ) × Links i j × (row j a ≡ row i a + own owners a j)) → own owners a j ≡ 0 → (k ≡ j) ⊎ Before Links k j
        from known found none =
            let earlier : found.0 < j = lines.forward found.0 j found.1 in
            let in_time : found.0 < n = omega arith in
            let enough : made owners a (suc k) ≤ row found.0 a = omega (arith, found.2) in
            inr (⊎_elim (λ e. linked k j (subst (λ i. Links i j) (sym e) found.1)) (λ b. through k found.0 j b (linked found.0 j found.1))
            (known found.0 pos in_time k its enough))

        other : Counted a n → ((slice_index owners j == a) ≡ false) × (slice_index owners j ≢ a) → (k ≡ j) ⊎ Before Links k j
        other known is = ⊎_elim (λ e. absurd (omega (arith, made_own owners a k pos its, own_no owners a j is.1))) (λ found. from known found (own_no owners a j is.1)) (rows.reached j a (omega arith) pos)

    -- an item to which all earlier ones are linked has in its row how many items each process made
    pub row_all : (a j : ℕ) → 0 < a → j < m → ((i : ℕ) → i < j → Links i j) → row j a ≡ made owners a j + own owners a j
    row_all a j pos inside all = ⊎_elim none one (last_of owners a pos j)
      where
        none : made owners a j ≡ 0 → row j a ≡ made owners a j + own owners a j
        none e = omega (arith, own_least a j pos inside, row_most a (suc j) j pos (omega arith) (omega arith), made_suc owners a j pos)

        one : ((p : ℕ) × IsLast owners a j p) → row j a ≡ made owners a j + own owners a j
        one found =
            let step : row found.0 a + own owners a j ≤ row j a = rows.above found.0 j a inside pos (all found.0 found.1.earlier) in
            let its : made owners a (suc found.0) ≤ row found.0 a = row_own a (suc found.0) found.0 pos (omega arith) (omega (arith, found.1.earlier)) found.1.its in
            omega (arith, found.1.count, row_most a (suc j) j pos (omega arith) (omega arith), made_suc owners a j pos)

    -- ---- one row more

    -- the row of the next item, to which all earlier ones are linked, is how many items each process made
    pub next_above : ((i : ℕ) → i < m → Links i m) → ((a : ℕ) → 0 < a → row m a ≡ made owners a m + own owners a m)
        → (i a : ℕ) → 0 < a → Links i m → row i a + own owners a m ≤ row m a
    next_above all is i a pos link =
        let earlier : i < m = lines.forward i m link in
        omega (arith, is a pos, row_most a (suc i) i pos (omega arith) earlier, made_up owners a pos (suc i) m earlier)

    pub next_reached : ((i : ℕ) → i < m → Links i m) → ((a : ℕ) → 0 < a → row m a ≡ made owners a m + own owners a m)
        → (a : ℕ) → 0 < a → (row m a ≡ own owners a m) ⊎ ((i : ℕ) × Links i m × (row m a ≡ row i a + own owners a m))
    next_reached all is a pos = ⊎_elim (λ e. inl (omega (arith, is a pos))) one (last_of owners a pos m)
      where
        one : ((p : ℕ) × IsLast owners a m p) → (row m a ≡ own owners a m) ⊎ ((i : ℕ) × Links i m × (row m a ≡ row i a + own owners a m))
        one found =
            let its : made owners a (suc found.0) ≤ row found.0 a = row_own a (suc found.0) found.0 pos (omega arith) found.1.earlier found.1.its in
            let most : row found.0 a ≤ made owners a (suc found.0) = row_most a (suc found.0) found.0 pos (omega arith) found.1.earlier in
            inr (found.0, all found.0 found.1.earlier, omega (arith, is a pos, found.1.count))

    -- the rows with one more
    pub rows_more : ((i a : ℕ) → 0 < a → Links i m → row i a + own owners a m ≤ row m a)
        → ((a : ℕ) → 0 < a → (row m a ≡ own owners a m) ⊎ ((i : ℕ) × Links i m × (row m a ≡ row i a + own owners a m)))
        → AreRows Links owners (suc m) row
    rows_more higher from = record {
      above = λ i j a inside pos link. ⊎_elim (λ less. rows.above i j a less pos link)
          (λ e. subst (λ n. Links i n → row i a + own owners a n ≤ row n a) (sym e) (higher i a pos) link) (up_to j inside);
      reached = λ j a inside pos. ⊎_elim (λ less. rows.reached j a less pos)
          (λ e. subst (λ n. (row n a ≡ own owners a n) ⊎ ((i : ℕ) × Links i n × (row n a ≡ row i a + own owners a n))) (sym e) (from a pos)) (up_to j inside);
    }
      where
        up_to : (j : ℕ) → j < suc m → (j < m) ⊎ (j ≡ m)
        up_to j inside = ⊎_elim (λ l. inl l) (⊎_elim (λ e. inr e) (λ l. absurd (omega arith))) (order j m)

-- ---- fewer links

-- Some of the links have the same closure where each link is a way along them.
pub same_closure : (Links Fewer : ℕ → ℕ → Type 0) → ((i j : ℕ) → Fewer i j → Links i j) → ((i j : ℕ) → Links i j → Before Fewer i j)
    → (i j : ℕ) → Before Links i j ↔ Before Fewer i j
same_closure Links Fewer some ways i j = (before_least Links (Before Fewer) ways (λ i j k a b. through i j k a b) i j, before_least Fewer (Before Links) (λ i j e. linked i j (some i j e)) (λ i j k a b. through i j k a b) i j)

-- ---- the law

pub rows_tell : (Links : ℕ → ℕ → Type 0) → RowsTell Links
rows_tell Links owners m row lines rows k j some less inside = (told, tells)
  where
    told : Before Links k j → made owners (slice_index owners k) (k + 1) ≤ row j (slice_index owners k)
    told b = rw add-one (omega (arith, row_own Links owners lines m row rows (slice_index owners k) (suc k) k some (omega arith) (omega arith) refl, row_up Links owners lines m row rows (slice_index owners k) some k j inside b))

    tells : made owners (slice_index owners k) (k + 1) ≤ row j (slice_index owners k) → Before Links k j
    tells h =
        let within : made owners (slice_index owners k) (suc k) ≤ row j (slice_index owners k) = subst (λ n. made owners (slice_index owners k) n ≤ row j (slice_index owners k)) (add-one k) h in
        ⊎_elim (λ e. absurd (omega arith)) (λ b. b) (counted Links owners lines m row rows (slice_index owners k) (suc j) j some (omega arith) (omega arith) k refl within)

pub first_part : (Links : ℕ → ℕ → Type 0) → FirstPart Links
first_part Links owners lines i k j some same less b = through i k j (in_line Links owners lines (suc k) k (omega arith) i less some same) b

-- Items that are marked at spots, and what is found there.
use Rattle.std.proofs.Common.{◌≡◌, ◌<◌, ◌≤◌, ◌+◌, ◌⊎◌, inl, inr, ⊎_elim, ℕ, zero, suc, List, [], ◌∷◌, ◌++◌, get_or, length, Option, Some, None, replicate, take, refl, ap, sym, ◌∙◌, subst, arith, add-one, eqb-true, length-set}
use Rattle.std.proofs.lemmas.Bool.{cases_eq, cases_lt}
use Rattle.std.proofs.lemmas.List.{take_more}
use Rattle.std.proofs.lemmas.List.Elements.{Contains-append_cases, Contains-append_left, Contains-append_right, Contains-push, Contains-push_cases}
use Rattle.std.proofs.lemmas.List.Quantifiers.{position-Some}
use Rattle.std.proofs.lemmas.Option.{slice_get-get_or, slice_get_within}
use Rattle.std.specs.Prelude.{◌==◌, Contains, IfSome, position, slice_get, slice_set}
use Rattle.sr_clocks.proofs.ClockLemmas.{made_suc}
use Rattle.sr_clocks.specs.Clocks.{made}
use Rattle.sr_clock_rows.specs.Columns.{column_in}
use Rattle.sr_clock_rows.specs.Rows.{count_at, count_in}
use Rattle.sr_clock_rows.specs.declared.clocks.Clocks.{Clocks}
use Rattle.sr_races.specs.Accesses.{accesses_at}
use Rattle.sr_races.specs.Items.{Run, actor_at, actors}
use Rattle.sr_races.specs.Kept.{HasRows}
use Rattle.sr_races.specs.Marks.{AddsAll, AddsAmong, AddsAt, AddsMark, AreLines, AreNoted, AreRising, AreSpots, GrowsLine, HasColumn, HasItem, IsLine, IsMark, IsMarked, IsMarkedAt, LooksAlong, LooksAmong, LooksAt, all_looked_at, all_noted_at}
use Rattle.sr_races.specs.Races.{IsRace}
use Rattle.sr_races.specs.Spots.{looked_at, noted_at}
use Rattle.sr_races.specs.Walks.{IsEntry}
use Rattle.sr_races.specs.declared.access.Access.{Access}
use Rattle.sr_races.specs.declared.marks.Line.{Line}
use Rattle.sr_races.specs.declared.marks.Mark.{Mark}
use Rattle.sr_races.specs.declared.walk.Entry.{Entry}
use Rattle.sr_races.proofs.ActorLemmas.{acting, own-place, race-tells}
use Rattle.sr_races.proofs.SpotLemmas.{meets}

-- ---- lists

module _ {A : Type 0} where
  in-got : (xs : List A) (x : A) → Contains xs x → (k : ℕ) × (slice_get xs k ≡ Some x)
  in-got xs x (k, less, is) = (k, slice_get-get_or xs k x less ∙ ap Some is)

  same-item : (o : Option A) (x y : A) → o ≡ Some x → o ≡ Some y → x ≡ y
  same-item o x y one other = let both : Some x ≡ Some y = sym one ∙ other in cc

  set-same : (xs : List A) (k : ℕ) (x y : A) → slice_get xs k ≡ Some x → slice_get (slice_set xs k y) k ≡ Some y
  set-same [] k x y is = absurd (cc)
  set-same (z ∷ xs) zero x y is = refl
  set-same (z ∷ xs) (suc k) x y is = set-same xs k x y is

  set-other : (xs : List A) (k j : ℕ) (y : A) → (j ≡ k → ⊥) → slice_get (slice_set xs k y) j ≡ slice_get xs j
  set-other [] k j y apart = refl
  set-other (z ∷ xs) zero zero y apart = absurd (apart refl)
  set-other (z ∷ xs) zero (suc j) y apart = refl
  set-other (z ∷ xs) (suc k) zero y apart = refl
  set-other (z ∷ xs) (suc k) (suc j) y apart = set-other xs k j y (λ same. apart (ap suc same))

  push-left : (xs ys : List A) (k : ℕ) (x : A) → slice_get xs k ≡ Some x → slice_get (xs ++ ys) k ≡ Some x
  push-left [] ys k x is = absurd (cc)
  push-left (z ∷ xs) ys zero x is = is
  push-left (z ∷ xs) ys (suc k) x is = push-left xs ys k x is

  push-last : (xs : List A) (y : A) → slice_get (xs ++ y ∷ []) (length xs) ≡ Some y
  push-last [] y = refl
  push-last (z ∷ xs) y = push-last xs y

  push-cases : (xs : List A) (y : A) (k : ℕ) (x : A) → slice_get (xs ++ y ∷ []) k ≡ Some x → (slice_get xs k ≡ Some x) ⊎ ((k ≡ length xs) × (y ≡ x))
  push-cases [] y zero x is = inr (refl, cc)
  push-cases [] y (suc k) x is = absurd (cc)
  push-cases (z ∷ xs) y zero x is = inl is
  push-cases (z ∷ xs) y (suc k) x is = ⊎_elim (λ old. inl old) (λ new. inr (ap suc new.0, new.1)) (push-cases xs y k x is)

  copies : (n k : ℕ) (x y : A) → slice_get (replicate n x) k ≡ Some y → y ≡ x
  copies zero k x y is = absurd (cc)
  copies (suc n) zero x y is = let both : Some x ≡ Some y = is in cc
  copies (suc n) (suc k) x y is = copies n k x y is

  pub take-next : (xs : List A) (k : ℕ) (x : A) → k < length xs → x ≡ get_or xs k x → take (k + 1) xs ≡ take k xs ++ x ∷ []
  take-next xs k x less is = take_more xs k x less ∙ ap (λ y. take k xs ++ y ∷ []) (sym is)

  one-copy : (n : ℕ) (x : A) → x ∷ replicate n x ≡ replicate n x ++ x ∷ []
  one-copy zero x = refl
  one-copy (suc n) x = ap (λ xs. x ∷ xs) (one-copy n x)

  pub copies-more : (n : ℕ) (x : A) → replicate (n + 1) x ≡ replicate n x ++ x ∷ []
  copies-more n x = ap (λ m. replicate m x) (add-one n) ∙ one-copy n x

nil-right : (xs : List ℕ) → xs ++ [] ≡ xs
nil-right [] = refl
nil-right (x ∷ xs) = ap (λ more. x ∷ more) (nil-right xs)

regroup : (xs ys zs : List ℕ) → (xs ++ ys) ++ zs ≡ xs ++ (ys ++ zs)
regroup [] ys zs = refl
regroup (x ∷ xs) ys zs = ap (λ more. x ∷ more) (regroup xs ys zs)

-- ---- spots of some accesses

pub noted-push : (size : ℕ) (xs : List Access) (x : Access) → all_noted_at size (xs ++ x ∷ []) ≡ all_noted_at size xs ++ noted_at size x
noted-push size [] x = nil-right (noted_at size x)
noted-push size (y ∷ xs) x = ap (λ more. noted_at size y ++ more) (noted-push size xs x) ∙ sym (regroup (noted_at size y) (all_noted_at size xs) (noted_at size x))

pub looked-push : (size : ℕ) (xs : List Access) (x : Access) → all_looked_at size (xs ++ x ∷ []) ≡ all_looked_at size xs ++ looked_at size x
looked-push size [] x = nil-right (looked_at size x)
looked-push size (y ∷ xs) x = ap (λ more. looked_at size y ++ more) (looked-push size xs x) ∙ sym (regroup (looked_at size y) (all_looked_at size xs) (looked_at size x))

among-noted : (size : ℕ) (xs : List Access) (x : Access) (k : ℕ) → slice_get xs k ≡ Some x → (spot : ℕ) → Contains (noted_at size x) spot → Contains (all_noted_at size xs) spot
among-noted size [] x k is spot here = absurd (cc)
among-noted size (y ∷ xs) x zero is spot here =
    let same : y ≡ x = same-item (Some y) y x refl is in
    Contains-append_left (noted_at size y) (all_noted_at size xs) spot (subst (λ (a : Access). Contains (noted_at size a) spot) (sym same) here)
among-noted size (y ∷ xs) x (suc k) is spot here = Contains-append_right (noted_at size y) (all_noted_at size xs) spot (among-noted size xs x k is spot here)

among-looked : (size : ℕ) (xs : List Access) (x : Access) (k : ℕ) → slice_get xs k ≡ Some x → (spot : ℕ) → Contains (looked_at size x) spot → Contains (all_looked_at size xs) spot
among-looked size [] x k is spot here = absurd (cc)
among-looked size (y ∷ xs) x zero is spot here =
    let same : y ≡ x = same-item (Some y) y x refl is in
    Contains-append_left (looked_at size y) (all_looked_at size xs) spot (subst (λ (a : Access). Contains (looked_at size a) spot) (sym same) here)
among-looked size (y ∷ xs) x (suc k) is spot here = Contains-append_right (looked_at size y) (all_looked_at size xs) spot (among-looked size xs x k is spot here)

-- ---- what was marked still is

module _ (mark : Mark) (old new : Line) (adds : AddsMark mark old new) where
  item-stays : (item : ℕ) → HasItem old.marks item → HasItem new.marks item
  item-stays item has = ⊎_elim longer same adds.marks
    where
      longer : new.marks ≡ old.marks ++ mark ∷ [] → HasItem new.marks item
      longer is = record { at = has.at; mark = has.mark; here = ap (λ ms. slice_get ms has.at) is ∙ push-left old.marks (mark ∷ []) has.at has.mark has.here; is = has.is }

      same : (new.marks ≡ old.marks) × HasItem old.marks mark.item → HasItem new.marks item
      same both = record { at = has.at; mark = has.mark; here = ap (λ ms. slice_get ms has.at) both.0 ∙ has.here; is = has.is }

  item-marked : HasItem new.marks mark.item
  item-marked = ⊎_elim longer same adds.marks
    where
      longer : new.marks ≡ old.marks ++ mark ∷ [] → HasItem new.marks mark.item
      longer is = record { at = length old.marks; mark = mark; here = ap (λ ms. slice_get ms (length old.marks)) is ∙ push-last old.marks mark; is = refl }

      same : (new.marks ≡ old.marks) × HasItem old.marks mark.item → HasItem new.marks mark.item
      same both = subst (λ ms. HasItem ms mark.item) (sym both.0) both.1

module _ (column : ℕ) (mark : Mark) (old new : List Line) where
  abbrev fresh : Line
  fresh = record { column = column; marks = mark ∷ [] }

  stays-among : AddsAmong column mark old new → (item : ℕ) → IsMarked old item → IsMarked new item
  stays-among (inl grows) item m = ⊎_elim here-too other (cases_eq m.at grows.at)
    where
      here-too : m.at ≡ grows.at → IsMarked new item
      here-too same =
          let line : m.line ≡ grows.line = same-item (slice_get old grows.at) m.line grows.line (ap (slice_get old) (sym same) ∙ m.here) grows.here in
          record {
            at = grows.at;
            line = grows.longer;
            here = ap (λ ls. slice_get ls grows.at) grows.is ∙ set-same old grows.at grows.line grows.longer grows.here;
            has = item-stays mark grows.line grows.longer grows.adds item (subst (λ (l : Line). HasItem l.marks item) line m.has);
          }

      other : (m.at ≡ grows.at → ⊥) → IsMarked new item
      other apart = record { at = m.at; line = m.line; here = ap (λ ls. slice_get ls m.at) grows.is ∙ set-other old grows.at m.at grows.longer apart ∙ m.here; has = m.has }
  stays-among (inr is) item m = record { at = m.at; line = m.line; here = ap (λ ls. slice_get ls m.at) is ∙ push-left old (fresh ∷ []) m.at m.line m.here; has = m.has }

  marked-among : AddsAmong column mark old new → IsMarked new mark.item
  marked-among (inl grows) = record {
    at = grows.at;
    line = grows.longer;
    here = ap (λ ls. slice_get ls grows.at) grows.is ∙ set-same old grows.at grows.line grows.longer grows.here;
    has = item-marked mark grows.line grows.longer grows.adds;
  }
  marked-among (inr is) = record {
    at = length old;
    line = fresh;
    here = ap (λ ls. slice_get ls (length old)) is ∙ push-last old fresh;
    has = record { at = 0; mark = mark; here = refl; is = refl };
  }

module _ (spot column : ℕ) (mark : Mark) (old new : List (List Line)) (adds : AddsAt spot column mark old new) where
  marked-at : IsMarkedAt new spot mark.item
  marked-at = record {
    lines = adds.longer;
    here = ap (λ ss. slice_get ss spot) adds.is ∙ set-same old spot adds.lines adds.longer adds.here;
    marked = marked-among column mark adds.lines adds.longer adds.adds;
  }

  stays-at : (other item : ℕ) → IsMarkedAt old other item → IsMarkedAt new other item
  stays-at other item m = ⊎_elim here-too apart (cases_eq other spot)
    where
      here-too : other ≡ spot → IsMarkedAt new other item
      here-too same =
          let lines : m.lines ≡ adds.lines = same-item (slice_get old spot) m.lines adds.lines (ap (slice_get old) (sym same) ∙ m.here) adds.here in
          record {
            lines = adds.longer;
            here = ap (slice_get new) same ∙ ap (λ ss. slice_get ss spot) adds.is ∙ set-same old spot adds.lines adds.longer adds.here;
            marked = stays-among column mark adds.lines adds.longer adds.adds item (subst (λ ls. IsMarked ls item) lines m.marked);
          }

      apart : (other ≡ spot → ⊥) → IsMarkedAt new other item
      apart differ = record { lines = m.lines; here = ap (λ ss. slice_get ss other) adds.is ∙ set-other old spot other adds.longer differ ∙ m.here; marked = m.marked }

-- ---- places rise along a process

made-rises : (owners : List ℕ) (a : ℕ) → 0 < a → (m n : ℕ) → m ≤ n → made owners a m ≤ made owners a n
made-rises owners a some m zero most = let e : m ≡ 0 = omega arith in subst (λ k. made owners a k ≤ made owners a 0) (sym e) (omega arith)
made-rises owners a some m (suc n) most = ⊎_elim
    (λ less. omega (arith, made-rises owners a some m n (omega arith), made_suc owners a n some))
    (λ more. let e : m ≡ suc n = omega arith in subst (λ k. made owners a m ≤ made owners a k) e (omega arith))
    (cases_lt m (suc n))

module _ (r : Run) (clocks : Clocks) (rows : ℕ) (has : HasRows r rows clocks) (column count : ℕ) (less : count < rows) where
  place-is : (mark : Mark) → IsMark r clocks (count + 1) column mark → mark.count ≡ made (actors r) (actor_at r mark.item) (mark.item + 1)
  place-is mark is = let early = is.earlier in is.place ∙ sym (ap (count_in clocks.rows mark.item) is.column) ∙ own-place r rows clocks has mark.item is.some (omega (arith, early))

  rises-to : (one other : Mark) → IsMark r clocks (count + 1) column one → IsMark r clocks (count + 1) column other → one.item ≤ other.item → one.count ≤ other.count
  rises-to one other is-one is-other most =
      let same : actor_at r one.item ≡ actor_at r other.item = has.are.sound.places.apart (actor_at r one.item) (actor_at r other.item) column is-one.column is-other.column in
      let turned : made (actors r) (actor_at r one.item) (one.item + 1) ≡ made (actors r) (actor_at r other.item) (one.item + 1) = ap (λ p. made (actors r) p (one.item + 1)) same in
      omega (arith, place-is one is-one, place-is other is-other, turned, made-rises (actors r) (actor_at r other.item) is-other.some (one.item + 1) (other.item + 1) (omega arith))

-- ---- lines stay sound

later-mark : (r : Run) (clocks : Clocks) (count more column : ℕ) (mark : Mark) → count ≤ more → IsMark r clocks count column mark → IsMark r clocks more column mark
later-mark r clocks count more column mark most is = record { earlier = let early = is.earlier in omega (arith, early, most); some = is.some; column = is.column; place = is.place }

later-spots : (r : Run) (clocks : Clocks) (count more : ℕ) (spots : List (List Line)) → count ≤ more → AreSpots r clocks count spots → AreSpots r clocks more spots
later-spots r clocks count more spots most sound = record {
  each = λ k lines got. record {
    each = λ i line here.
        let is = (sound.each k lines got).each i line here in
        record { each = λ j mark there. later-mark r clocks count more line.column mark most (is.each j mark there); rising = is.rising };
  };
}

module _ (r : Run) (clocks : Clocks) (rows : ℕ) (has : HasRows r rows clocks) (column : ℕ) (mark : Mark) (less : mark.item < rows) (is-mark : IsMark r clocks (mark.item + 1) column mark) where
  fresh-line : IsLine r clocks (mark.item + 1) (record { column = column; marks = mark ∷ [] })
  fresh-line = record {
    each = λ i m got. subst (λ (x : Mark). IsMark r clocks (mark.item + 1) column x) (only i m got) is-mark;
    rising = record { each = λ i j one other got got' most. let same : one.count ≡ other.count = ap (λ (x : Mark). x.count) (sym (only i one got) ∙ only j other got') in omega (arith, same) };
  }
    where
      only : (i : ℕ) (m : Mark) → slice_get (mark ∷ []) i ≡ Some m → mark ≡ m
      only i m got = ⊎_elim (λ old. absurd (let none : None ≡ Some m = old in cc)) (λ new. new.1) (push-cases [] mark i m got)

  module _ (line longer : Line) (same : line.column ≡ column) (adds : AddsMark mark line longer) (is : IsLine r clocks (mark.item + 1) line) where
    column-of : longer.column ≡ column
    column-of = adds.column ∙ same

    as-before : (m : Mark) → IsMark r clocks (mark.item + 1) line.column m → IsMark r clocks (mark.item + 1) column m
    as-before m known = subst (λ c. IsMark r clocks (mark.item + 1) c m) same known

    each-longer : longer.marks ≡ line.marks ++ mark ∷ [] → (i : ℕ) (m : Mark) → slice_get longer.marks i ≡ Some m → IsMark r clocks (mark.item + 1) column m
    each-longer more i m got = ⊎_elim
        (λ old. as-before m (is.each i m old))
        (λ new. subst (λ (x : Mark). IsMark r clocks (mark.item + 1) column x) new.1 is-mark)
        (push-cases line.marks mark i m (ap (λ ms. slice_get ms i) (sym more) ∙ got))

    rising-longer : longer.marks ≡ line.marks ++ mark ∷ [] → AreRising longer.marks
    rising-longer more = record { each = λ i j one other got got' most. by i j one other most (cases i one got) (cases j other got') }
      where
        cases : (i : ℕ) (m : Mark) → slice_get longer.marks i ≡ Some m → (slice_get line.marks i ≡ Some m) ⊎ ((i ≡ length line.marks) × (mark ≡ m))
        cases i m got = push-cases line.marks mark i m (ap (λ ms. slice_get ms i) (sym more) ∙ got)

        last-most : (m : Mark) → IsMark r clocks (mark.item + 1) column m → m.count ≤ mark.count
        last-most m known = let early = known.earlier in rises-to r clocks rows has column mark.item less m mark known is-mark (omega (arith, early))

        by : (i j : ℕ) (one other : Mark) → i ≤ j → (slice_get line.marks i ≡ Some one) ⊎ ((i ≡ length line.marks) × (mark ≡ one)) → (slice_get line.marks j ≡ Some other) ⊎ ((j ≡ length line.marks) × (mark ≡ other)) → one.count ≤ other.count
        by i j one other most (inl old) (inl old') = is.rising.each i j one other old old' most
        by i j one other most (inl old) (inr new) = subst (λ (x : Mark). one.count ≤ x.count) new.1 (last-most one (as-before one (is.each i one old)))
        by i j one other most (inr new) (inl old) = absurd (omega (arith, new.0, most, slice_get_within line.marks j other old))
        by i j one other most (inr new) (inr new') = let even : one.count ≡ other.count = ap (λ (x : Mark). x.count) (sym new.1 ∙ new'.1) in omega (arith, even)

    longer-line : IsLine r clocks (mark.item + 1) longer
    longer-line = ⊎_elim
        (λ more. record { each = λ i m got. subst (λ c. IsMark r clocks (mark.item + 1) c m) (sym column-of) (each-longer more i m got); rising = rising-longer more })
        (λ even. record {
          each = λ i m got. subst (λ c. IsMark r clocks (mark.item + 1) c m) (sym adds.column) (is.each i m (ap (λ ms. slice_get ms i) (sym even.0) ∙ got));
          rising = subst AreRising (sym even.0) is.rising;
        })
        adds.marks

  lines-sound : (old new : List Line) → AddsAmong column mark old new → AreLines r clocks (mark.item + 1) old → AreLines r clocks (mark.item + 1) new
  lines-sound old new (inl grows) sound = record { each = λ i line got. ⊎_elim (here-too i line got) (other i line got) (cases_eq i grows.at) }
    where
      here-too : (i : ℕ) (line : Line) → slice_get new i ≡ Some line → i ≡ grows.at → IsLine r clocks (mark.item + 1) line
      here-too i line got same =
          let is : grows.longer ≡ line =
          same-item (slice_get new grows.at) grows.longer line (ap (λ ls. slice_get ls grows.at) grows.is ∙ set-same old grows.at grows.line grows.longer grows.here) (ap (slice_get new) (sym same) ∙ got) in
          subst (IsLine r clocks (mark.item + 1)) is (longer-line grows.line grows.longer grows.same grows.adds (sound.each grows.at grows.line grows.here))

      other : (i : ℕ) (line : Line) → slice_get new i ≡ Some line → (i ≡ grows.at → ⊥) → IsLine r clocks (mark.item + 1) line
      other i line got apart = sound.each i line (sym (ap (λ ls. slice_get ls i) grows.is ∙ set-other old grows.at i grows.longer apart) ∙ got)
  lines-sound old new (inr is) sound = record {
    each = λ i line got. ⊎_elim (λ here. sound.each i line here) (λ last. subst (IsLine r clocks (mark.item + 1)) last.1 fresh-line)
        (push-cases old (record { column = column; marks = mark ∷ [] }) i line (ap (λ ls. slice_get ls i) (sym is) ∙ got));
  }

  spots-sound : (spot : ℕ) (old new : List (List Line)) → AddsAt spot column mark old new → AreSpots r clocks (mark.item + 1) old → AreSpots r clocks (mark.item + 1) new
  spots-sound spot old new adds sound = record { each = λ i lines got. ⊎_elim (here-too i lines got) (other i lines got) (cases_eq i spot) }
    where
      here-too : (i : ℕ) (lines : List Line) → slice_get new i ≡ Some lines → i ≡ spot → AreLines r clocks (mark.item + 1) lines
      here-too i lines got same =
          let is : adds.longer ≡ lines = same-item (slice_get new spot) adds.longer lines (ap (λ ss. slice_get ss spot) adds.is ∙ set-same old spot adds.lines adds.longer adds.here) (ap (slice_get new) (sym same) ∙ got) in
          subst (AreLines r clocks (mark.item + 1)) is (lines-sound adds.lines adds.longer adds.adds (sound.each spot adds.lines adds.here))

      other : (i : ℕ) (lines : List Line) → slice_get new i ≡ Some lines → (i ≡ spot → ⊥) → AreLines r clocks (mark.item + 1) lines
      other i lines got apart = sound.each i lines (sym (ap (λ ss. slice_get ss i) adds.is ∙ set-other old spot i adds.longer apart) ∙ got)

-- ---- at one spot more

module _ (column : ℕ) (mark : Mark) where
  pub none-added : (spots : List (List Line)) → AddsAll [] column mark spots spots
  none-added spots = record { size = refl; stays = λ spot item m. m; marked = λ spot none. absurd (nowhere spot none); sound = λ r clocks rows has less is sound. sound }
    where
      nowhere : (spot : ℕ) → Contains [] spot → ⊥
      nowhere spot (k, less, is) = omega arith

  pub one-added : (spot : ℕ) (old new : List (List Line)) → AddsAt spot column mark old new → AddsAll (spot ∷ []) column mark old new
  one-added spot old new adds = record {
    size = ap length adds.is ∙ length-set old spot adds.longer;
    stays = stays-at spot column mark old new adds;
    marked = λ other here. subst (λ k. IsMarkedAt new k mark.item) (⊎_elim (λ none. absurd (nowhere other none)) (λ same. same) (Contains-push_cases [] spot other here)) (marked-at spot column mark old new adds);
    sound = λ r clocks rows has less is. spots-sound r clocks rows has column mark less is spot old new adds;
  }
    where
      nowhere : (k : ℕ) → Contains [] k → ⊥
      nowhere k (at, less, is) = omega arith

  pub more-added : (xs ys : List ℕ) (old between new : List (List Line)) → AddsAll xs column mark old between → AddsAll ys column mark between new → AddsAll (xs ++ ys) column mark old new
  more-added xs ys old between new one two = record {
    size = two.size ∙ one.size;
    stays = λ spot item m. two.stays spot item (one.stays spot item m);
    marked = λ spot here. ⊎_elim (λ first. two.stays spot mark.item (one.marked spot first)) (λ second. two.marked spot second) (Contains-append_cases xs ys spot here);
    sound = λ r clocks rows has less is sound. two.sound r clocks rows has less is (one.sound r clocks rows has less is sound);
  }

-- ---- one item more

pub none-noted : (r : Run) (clocks : Clocks) (size : ℕ) (spots : List (List Line)) → spots ≡ replicate size [] → AreNoted r clocks size 0 spots
none-noted r clocks size spots is = record {
  sound = record { each = λ i lines got. subst (AreLines r clocks 0) (sym (copies size i [] lines (ap (λ ss. slice_get ss i) (sym is) ∙ got))) (record { each = λ k line here. absurd (let none : None ≡ Some line = here in cc) }) };
  each = λ item less. absurd (omega arith);
}

module _ (r : Run) (clocks : Clocks) (rows : ℕ) (has : HasRows r rows clocks) (size second : ℕ) (less : second < rows) (entry : Entry) (is-entry : IsEntry r clocks second entry) where
  up-to : (item : ℕ) → item < second + 1 → (item < second) ⊎ (item ≡ second)
  up-to item short = ⊎_elim (λ l. inl l) (λ more. inr (omega arith)) (cases_lt item second)

  pub nothing-noted : (spots : List (List Line)) → entry.accesses ≡ [] → AreNoted r clocks size second spots → AreNoted r clocks size (second + 1) spots
  nothing-noted spots empty noted = record {
    sound = later-spots r clocks second (second + 1) spots (omega arith) noted.sound;
    each = λ item short access among. ⊎_elim (λ before. noted.each item before access among) (λ here. absurd (none access (subst (λ k. Contains (accesses_at r k) access) here among))) (up-to item short);
  }
    where
      none : (access : Access) → Contains (accesses_at r second) access → ⊥
      none access among =
          let got = in-got (accesses_at r second) access among in
          let nowhere : None ≡ Some access = ap (λ xs. slice_get xs got.0) (sym (sym is-entry.accesses ∙ empty)) ∙ got.1 in
          cc

  some-access : (xs : List Access) → (xs ≡ [] → ⊥) → (x : Access) × Contains xs x
  some-access [] not = absurd (not refl)
  some-access (x ∷ xs) not = (x, (0, omega arith, refl))

  pub item-noted : (mark : Mark) (old new : List (List Line)) → (entry.accesses ≡ [] → ⊥) → mark.item ≡ second → mark.count ≡ count_at clocks.rows second entry.column
      → AddsAll (all_noted_at size entry.accesses) entry.column mark old new → AreNoted r clocks size second old → AreNoted r clocks size (second + 1) new
  item-noted mark old new not-empty item count adds noted = record {
    sound = subst (λ n. AreSpots r clocks (n + 1) new) item
        (adds.sound r clocks rows has (omega (arith, item, less)) is-mark (subst (λ n. AreSpots r clocks (n + 1) old) (sym item) (later-spots r clocks second (second + 1) old (omega arith) noted.sound)));
    each = λ i short access among spot here. ⊎_elim
        (λ before. adds.stays spot i (noted.each i before access among spot here))
        (λ same. now i same access (subst (λ k. Contains (accesses_at r k) access) same among) spot here)
        (up-to i short);
  }
    where
      now : (i : ℕ) → i ≡ second → (access : Access) → Contains (accesses_at r second) access → (spot : ℕ) → Contains (noted_at size access) spot → IsMarkedAt new spot i
      now i same access among spot here =
          let got = in-got entry.accesses access (subst (λ xs. Contains xs access) (sym is-entry.accesses) among) in
          subst (λ k. IsMarkedAt new spot k) (item ∙ sym same) (adds.marked spot (among-noted size entry.accesses access got.0 got.1 spot here))

      some : 0 < actor_at r second
      some = let found = some-access entry.accesses not-empty in acting r second found.0 (subst (λ xs. Contains xs found.0) is-entry.accesses found.1)

      is-mark : IsMark r clocks (mark.item + 1) entry.column mark
      is-mark = record {
        earlier = omega arith;
        some = subst (λ k. 0 < actor_at r k) (sym item) some;
        column = subst (λ k. column_in clocks.columns (actor_at r k) ≡ Some entry.column) (sym item)
            (subst (λ p. column_in clocks.columns p ≡ Some entry.column) is-entry.process (is-entry.column (subst (λ p. 0 < p) (sym is-entry.process) some)));
        place = count ∙ ap (λ k. count_at clocks.rows k entry.column) (sym item);
      }

-- ---- along a line, from its end

-- all from a place on were found
pub record HasLooked (marks : List Mark) (left : ℕ) (old new : List ℕ) : Type 0 where
  pub stays : (item : ℕ) → Contains old item → Contains new item
  pub from : (item : ℕ) → Contains new item → Contains old item ⊎ HasItem marks item
  pub all : (i : ℕ) (mark : Mark) → left ≤ i → slice_get marks i ≡ Some mark → Contains new mark.item

pub look-begins : (marks : List Mark) (old : List ℕ) → HasLooked marks (length marks) old old
look-begins marks old = record { stays = λ item here. here; from = λ item here. inl here; all = λ i mark most got. absurd (omega (arith, most, slice_get_within marks i mark got)) }

module _ (marks : List Mark) (left : ℕ) (old found : List ℕ) (mark : Mark) (here : slice_get marks left ≡ Some mark) (looked : HasLooked marks (left + 1) old found) where
  here-is : (i : ℕ) (m : Mark) → left ≤ i → slice_get marks i ≡ Some m → (left + 1 ≤ i) ⊎ (mark ≡ m)
  here-is i m most got = ⊎_elim (λ less. inl (omega arith)) (λ more. let same : i ≡ left = omega arith in inr (same-item (slice_get marks left) mark m here (ap (slice_get marks) (sym same) ∙ got))) (cases_lt left i)

  pub look-more : HasLooked marks left old (found ++ mark.item ∷ [])
  look-more = record {
    stays = λ item old-one. Contains-append_left found (mark.item ∷ []) item (looked.stays item old-one);
    from = λ item new-one. ⊎_elim (λ before. looked.from item before) (λ same. inr (record { at = left; mark = mark; here = here; is = same })) (Contains-push_cases found mark.item item new-one);
    all = λ i m most got. ⊎_elim
        (λ later. Contains-append_left found (mark.item ∷ []) m.item (looked.all i m later got))
        (λ same. subst (λ (x : Mark). Contains (found ++ mark.item ∷ []) x.item) same (Contains-push found mark.item))
        (here-is i m most got);
  }

  pub look-ends : (count : ℕ) → mark.count ≤ count → LooksAlong count marks old found
  look-ends count most = record { stays = looked.stays; from = looked.from; finds = λ rising i m got more. ⊎_elim (λ later. looked.all i m later got) (λ early. absurd (before rising i m got early more)) (at i) }
    where
      at : (i : ℕ) → (left + 1 ≤ i) ⊎ (i ≤ left)
      at i = ⊎_elim (λ less. inl (omega arith)) (λ more. inr more) (cases_lt left i)

      before : AreRising marks → (i : ℕ) (m : Mark) → slice_get marks i ≡ Some m → i ≤ left → count < m.count → ⊥
      before rising i m got early more = let up = rising.each i left m mark got here early in omega (arith, up, most, more)

pub look-all : (marks : List Mark) (count : ℕ) (old found : List ℕ) → HasLooked marks 0 old found → LooksAlong count marks old found
look-all marks count old found looked = record { stays = looked.stays; from = looked.from; finds = λ rising i mark got more. looked.all i mark (omega arith) got }

-- ---- along lines, and at spots

module _ (clocks : Clocks) (second : ℕ) where
  pub no-lines : (old : List ℕ) → LooksAmong clocks second [] old old
  no-lines old = record { stays = λ item here. here; from = λ item here. inl here; finds = λ i line got. absurd (let none : None ≡ Some line = got in cc) }

  pub one-line : (lines : List Line) (line : Line) (old between new : List ℕ) → LooksAmong clocks second lines old between → LooksAlong (count_at clocks.rows second line.column) line.marks between new
      → LooksAmong clocks second (lines ++ line ∷ []) old new
  one-line lines line old between new one two = record {
    stays = λ item here. two.stays item (one.stays item here);
    from = λ item here. ⊎_elim (λ before. ⊎_elim (λ first. inl first) (λ m. inr (earlier item m)) (one.from item before)) (λ has. inr (record { at = length lines; line = line; here = push-last lines line; has = has })) (two.from item here);
    finds = λ i l got rising j mark there more. ⊎_elim
        (λ before. two.stays mark.item (one.finds i l before rising j mark there more))
        (λ last. now l last.1 rising j mark there more)
        (push-cases lines line i l got);
  }
    where
      earlier : (item : ℕ) → IsMarked lines item → IsMarked (lines ++ line ∷ []) item
      earlier item m = record { at = m.at; line = m.line; here = push-left lines (line ∷ []) m.at m.line m.here; has = m.has }

      now : (l : Line) → line ≡ l → AreRising l.marks → (j : ℕ) (mark : Mark) → slice_get l.marks j ≡ Some mark → count_at clocks.rows second l.column < mark.count → Contains new mark.item
      now l same rising j mark there more =
          two.finds (subst (λ (x : Line). AreRising x.marks) (sym same) rising) j mark (subst (λ (x : Line). slice_get x.marks j ≡ Some mark) (sym same) there)
          (subst (λ (x : Line). count_at clocks.rows second x.column < mark.count) (sym same) more)

  module _ (spots : List (List Line)) where
    nowhere : (spot : ℕ) → Contains [] spot → ⊥
    nowhere spot (k, less, is) = omega arith

    only : (spot other : ℕ) → Contains (spot ∷ []) other → spot ≡ other
    only spot other here = ⊎_elim (λ none. absurd (nowhere other none)) (λ same. same) (Contains-push_cases [] spot other here)

    pub no-spots : (old : List ℕ) → LooksAt clocks second spots [] old old
    no-spots old = record { stays = λ item here. here; from = λ item here. inl here; finds = λ spot here. absurd (nowhere spot here) }

    pub no-such-spot : (spot : ℕ) (old : List ℕ) → slice_get spots spot ≡ None → LooksAt clocks second spots (spot ∷ []) old old
    no-such-spot spot old none = record {
      stays = λ item here. here;
      from = λ item here. inl here;
      finds = λ other here lines got. absurd (let both : None ≡ Some lines = sym none ∙ ap (slice_get spots) (only spot other here) ∙ got in cc);
    }

    pub one-spot : (spot : ℕ) (lines : List Line) (old new : List ℕ) → slice_get spots spot ≡ Some lines → LooksAmong clocks second lines old new → LooksAt clocks second spots (spot ∷ []) old new
    one-spot spot lines old new is looks = record {
      stays = looks.stays;
      from = λ item here. ⊎_elim (λ before. inl before) (λ m. inr (record { spot = spot; marked = record { lines = lines; here = is; marked = m } })) (looks.from item here);
      finds = λ other here ls got.
          let same : lines ≡ ls = same-item (slice_get spots spot) lines ls is (ap (slice_get spots) (only spot other here) ∙ got) in
          λ i line there. looks.finds i line (ap (λ xs. slice_get xs i) same ∙ there);
    }

    pub more-spots : (xs ys : List ℕ) (old between new : List ℕ) → LooksAt clocks second spots xs old between → LooksAt clocks second spots ys between new → LooksAt clocks second spots (xs ++ ys) old new
    more-spots xs ys old between new one two = record {
      stays = λ item here. two.stays item (one.stays item here);
      from = λ item here. ⊎_elim (λ before. one.from item before) (λ m. inr m) (two.from item here);
      finds = λ spot here lines got i line there rising j mark at more. ⊎_elim
          (λ first. two.stays mark.item (one.finds spot first lines got i line there rising j mark at more))
          (λ last. two.finds spot last lines got i line there rising j mark at more)
          (Contains-append_cases xs ys spot here);
    }

-- ---- what is found

module _ (r : Run) (clocks : Clocks) (rows : ℕ) (has : HasRows r rows clocks) (size second : ℕ) (less : second < rows) (spots : List (List Line)) (noted : AreNoted r clocks size second spots)
    (accesses : List Access) (is : accesses ≡ accesses_at r second) (found : List ℕ) (looks : LooksAt clocks second spots (all_looked_at size accesses) [] found) where
  pub found-below : (item : ℕ) → Contains found item → item < second
  found-below item here = ⊎_elim (λ none. absurd (nothing item none)) (λ m. at m.spot m.marked) (looks.from item here)
    where
      nothing : (k : ℕ) → Contains [] k → ⊥
      nothing k (at, short, same) = omega arith

      at : (spot : ℕ) → IsMarkedAt spots spot item → item < second
      at spot m =
          let mark = ((noted.sound.each spot m.lines m.here).each m.marked.at m.marked.line m.marked.here).each m.marked.has.at m.marked.has.mark m.marked.has.here in
          subst (λ k. k < second) m.marked.has.is mark.earlier

  pub found-complete : (item : ℕ) → IsRace r item second → Contains found item
  found-complete item race =
      let one = race.conflicts.one in
      let other = race.conflicts.conflict.other in
      let meet = meets size one other race.conflicts.conflict.conflict in
      let m = noted.each item race.earlier one race.conflicts.among meet.spot meet.noted in
      let got = in-got accesses other (subst (λ xs. Contains xs other) (sym is) race.conflicts.conflict.among) in
      let line = (noted.sound.each meet.spot m.lines m.here).each m.marked.at m.marked.line m.marked.here in
      let mark = line.each m.marked.has.at m.marked.has.mark m.marked.has.here in
      subst (λ k. Contains found k) m.marked.has.is
      (looks.finds meet.spot (among-looked size accesses other got.0 got.1 meet.spot meet.looked) m.lines m.here m.marked.at m.marked.line m.marked.here line.rising m.marked.has.at m.marked.has.mark m.marked.has.here
      (more m.marked.has.mark m.marked.line.column m.marked.has.is mark))
    where
      more : (mark : Mark) (column : ℕ) → mark.item ≡ item → IsMark r clocks second column mark → count_at clocks.rows second column < mark.count
      more mark column same known =
          let fewer = race-tells r rows clocks has item second column (subst (λ k. 0 < actor_at r k) same known.some) race.earlier less (subst (λ k. column_in clocks.columns (actor_at r k) ≡ Some column) same known.column) race in
          let place : mark.count ≡ count_at clocks.rows item column = known.place ∙ ap (λ k. count_at clocks.rows k column) same in
          omega (arith, fewer, place)

-- ---- lines by their columns

pub within-lines : (lines seen : List Line) (column place : ℕ) → seen ≡ lines → HasColumn seen column place → place < length lines
within-lines lines seen column place same has = slice_get_within lines place has.line (ap (λ ls. slice_get ls place) (sym same) ∙ has.here)

pub grows-so : (lines seen : List Line) (column place : ℕ) (mark : Mark) → seen ≡ lines → HasColumn seen column place → (line longer : Line) → slice_get lines place ≡ Some line → AddsMark mark line longer
    → GrowsLine column mark lines (slice_set lines place longer)
grows-so lines seen column place mark same has line longer here adds = record {
  at = place;
  line = line;
  longer = longer;
  here = here;
  same =
      let is : has.line ≡ line = same-item (slice_get lines place) has.line line (ap (λ ls. slice_get ls place) (sym same) ∙ has.here) here in
      ap (λ (l : Line). l.column) (sym is) ∙ has.same;
  adds = adds;
  is = refl;
}

pub column-found : (lines : List Line) (column : ℕ) (o : Option ℕ) → o ≡ position (λ (line : Line). line.column == column) lines → IfSome o (HasColumn lines column)
column-found lines column None is = tt
column-found lines column (Some place) is =
    let at = position-Some (λ (line : Line). line.column == column) lines place (record { column = 0; marks = [] }) (sym is) in
    record { line = get_or lines place (record { column = 0; marks = [] }); here = slice_get-get_or lines place (record { column = 0; marks = [] }) at.0; same = eqb-true (get_or lines place (record { column = 0; marks = [] })).column column at.1 }

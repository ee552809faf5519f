-- What is declared before and after a wave.
use Rattle.std.proofs.Common.{◌≡◌, ◌⊎◌, inl, inr, ℕ, ◌<◌, ◌≤◌, suc, zero, Bool, true, false, not, ◌&&◌, true≢false, List, [], ◌∷◌, ◌++◌, length, take, Option, Some, None, is_some, option_map, map, leb, refl, sym, ◌∙◌, ap}
use Rattle.std.specs.List.{filter, list_any, list_all, slice_get, slice_set}
use Rattle.std.proofs.lemmas.Bool.{leb-true, leb-false}
use Rattle.std.proofs.lemmas.List.{take_all}
use Rattle.std.proofs.lemmas.Option.{slice_get-map}
use Rattle.sr_value.specs.declared.place.Span.{Span}
use Rattle.sr_names.specs.declared.meaning.Decl.{Decl}
use Rattle.sr_names.specs.declared.spot.Spot.{Spot}
use Rattle.sr_names.specs.Spots.{same_spot, spot_of}
use Rattle.sr_names.specs.Uses.{meaning_at}
use Rattle.sr_names.proofs.Marking.{entry-same, entry-other, same_spot-cases}
use Rattle.sr_names.proofs.LinkLemmas.{same_spot-refl, same_spot-eq}
use Rattle.sr_check_expr.specs.declared.facts.Facts.{Facts}
use Rattle.sr_check_expr.specs.declared.info.Info.{Info}
use Rattle.sr_check_expr.specs.Naming.{decl_of}
use Rattle.sr_check_decl.specs.Picked.{if_settling, settling}
use Rattle.sr_check_decl.specs.Inferring.{is_settled, settled, all_settled, can_settle}
use Rattle.sr_check_decl.specs.NamesIn.{is_named_declared, is_declared, is_ready, names_in}
use Rattle.sr_check_decl.specs.Needs.{needed_by, needs_among, needs_in, is_known, are_known, row_is_known, known_at, FirstAreKnown}
use Rattle.sr_check_decl.specs.Variables.{declare}
use Rattle.sr_check_decl.specs.Waiting.{Waiting}
use Rattle.sr_check_decl.proofs.Tests.{and_parts, either, or_left, or_right, true_or_false, not_true, none_some, any-filter, all-weaker, one-fails}

-- uses stay as they are
pub uses_stay : (ws : List Waiting) (facts : Facts) → (all_settled ws facts).uses ≡ facts.uses
uses_stay [] facts = refl
uses_stay (w ∷ ws) facts = uses_stay ws (settled facts w)

-- after a declaration one more is declared
data Declared (facts new : Facts) (spot other : Spot) : Type 0 where
  here : other ≡ spot → is_known new other ≡ true → Declared facts new spot other
  elsewhere : is_known new other ≡ is_known facts other → Declared facts new spot other

declared-cases : (facts : Facts) (spot : Spot) (info : Info) (other : Spot) → Declared facts (declare facts spot info) spot other
declared-cases facts spot info other = by (same_spot-cases other spot)
  where
    by : ((other ≡ spot) ⊎ (same_spot other spot ≡ false)) → Declared facts (declare facts spot info) spot other
    by (inl e) = here e (ap (λ x. is_known (declare facts spot info) x) e ∙ ap is_some (entry-same facts.infos spot info))
    by (inr e) = elsewhere (ap is_some (entry-other facts.infos spot info other e))

declared_stays : (facts : Facts) (spot : Spot) (info : Info) (other : Spot) → is_known facts other ≡ true → is_known (declare facts spot info) other ≡ true
declared_stays facts spot info other h = by (declared-cases facts spot info other)
  where
    by : Declared facts (declare facts spot info) spot other → is_known (declare facts spot info) other ≡ true
    by (here same known) = known
    by (elsewhere same) = same ∙ h

-- what is declared stays so
pub known_stays : (ws : List Waiting) (facts : Facts) (spot : Spot) → is_known facts spot ≡ true → is_known (all_settled ws facts) spot ≡ true
known_stays [] facts spot h = h
known_stays (w ∷ ws) facts spot h = known_stays ws (settled facts w) spot (declared_stays facts w.spot _ spot h)

-- those that are settled are declared
pub settled_are_known : (ws : List Waiting) (facts : Facts) (spot : Spot) → list_any (λ w. same_spot spot w.spot) ws ≡ true → is_known (all_settled ws facts) spot ≡ true
settled_are_known [] facts spot h = absurd (true≢false (sym h))
settled_are_known (w ∷ ws) facts spot h = by (either (same_spot spot w.spot) _ h) (λ k. settled_are_known ws (settled facts w) spot k)
  where
    by : (same_spot spot w.spot ≡ true) ⊎ (list_any (λ v. same_spot spot v.spot) ws ≡ true)
        → (list_any (λ v. same_spot spot v.spot) ws ≡ true → is_known (all_settled ws (settled facts w)) spot ≡ true) → is_known (all_settled ws (settled facts w)) spot ≡ true
    by (inl e) more =
        known_stays ws (settled facts w) spot
        (ap (λ x. is_known (settled facts w) x) (same_spot-eq spot w.spot e) ∙ ap is_some (entry-same facts.infos w.spot _))
    by (inr k) more = more k

-- and no others that weren't before
pub known_or_settled : (ws : List Waiting) (facts : Facts) (spot : Spot) → is_known (all_settled ws facts) spot ≡ true
    → (is_known facts spot ≡ true) ⊎ (list_any (λ w. same_spot spot w.spot) ws ≡ true)
known_or_settled [] facts spot h = inl h
known_or_settled (w ∷ ws) facts spot h = by (known_or_settled ws (settled facts w) spot h) (declared-cases facts w.spot _ spot)
  where
    by : (is_known (settled facts w) spot ≡ true) ⊎ (list_any (λ v. same_spot spot v.spot) ws ≡ true) → Declared facts (settled facts w) w.spot spot
        → (is_known facts spot ≡ true) ⊎ (list_any (λ v. same_spot spot v.spot) (w ∷ ws) ≡ true)
    by (inl e) (here same known) = inr (or_left _ _ (ap (λ x. same_spot x w.spot) same ∙ same_spot-refl w.spot))
    by (inl e) (elsewhere same) = inl (sym same ∙ e)
    by (inr k) cases = inr (or_right (same_spot spot w.spot) _ k)

-- a value is ready where all that it names is declared
pub ready-known : (facts : Facts) (names : List Span) → list_all (is_named_declared facts) names ≡ are_known facts (needs_among facts.uses names)
ready-known facts [] = refl
ready-known facts (name ∷ names) = by (decl_of (meaning_at facts.uses (spot_of name))) (ready-known facts names)
  where
    by : (d : Option Decl) → list_all (is_named_declared facts) names ≡ are_known facts (needs_among facts.uses names)
        → (is_declared facts d && list_all (is_named_declared facts) names) ≡ are_known facts (needed_by d ++ needs_among facts.uses names)
    by None h = h
    by (Some decl) h = ap (λ b. is_known facts decl.spot && b) h

-- ---- the first of each list

pub first_known-at : (facts : Facts) (rows : List (List Spot)) (counts : List ℕ) (i : ℕ) (spots : List Spot) (count : ℕ) → FirstAreKnown facts rows counts → slice_get rows i ≡ Some spots
    → slice_get counts i ≡ Some count → are_known facts (take count spots) ≡ true
first_known-at facts [] counts i spots count h row at = absurd (none_some spots row)
first_known-at facts (r ∷ rows) [] i spots count h row at = absurd h
first_known-at facts (r ∷ rows) (n ∷ counts) zero spots count h row at =
    let same_row : r ≡ spots = cc in
    let same_count : n ≡ count = cc in
    sym (ap (λ x. are_known facts (take x r)) same_count ∙ ap (λ x. are_known facts (take count x)) same_row) ∙ h.0
first_known-at facts (r ∷ rows) (n ∷ counts) (suc i) spots count h row at = first_known-at facts rows counts i spots count h.1 row at

pub first_known-none : (facts : Facts) (rows : List (List Spot)) (counts : List ℕ) (i : ℕ) → FirstAreKnown facts rows counts → slice_get counts i ≡ None → slice_get rows i ≡ None
first_known-none facts [] counts i h none = refl
first_known-none facts (r ∷ rows) [] i h none = absurd h
first_known-none facts (r ∷ rows) (n ∷ counts) zero h none = absurd (none_some n (sym none))
first_known-none facts (r ∷ rows) (n ∷ counts) (suc i) h none = first_known-none facts rows counts i h.1 none

pub first_known-set : (facts : Facts) (rows : List (List Spot)) (counts : List ℕ) (i : ℕ) (spots : List Spot) (count : ℕ) → FirstAreKnown facts rows counts → slice_get rows i ≡ Some spots
    → are_known facts (take count spots) ≡ true → FirstAreKnown facts rows (slice_set counts i count)
first_known-set facts [] counts i spots count h row known = absurd (none_some spots row)
first_known-set facts (r ∷ rows) [] i spots count h row known = absurd h
first_known-set facts (r ∷ rows) (n ∷ counts) zero spots count h row known =
    let same_row : r ≡ spots = cc in
    (ap (λ x. are_known facts (take count x)) same_row ∙ known, h.1)
first_known-set facts (r ∷ rows) (n ∷ counts) (suc i) spots count h row known = (h.0, first_known-set facts rows counts i spots count h.1 row known)

pub first_known-push : (facts : Facts) (rows : List (List Spot)) (counts : List ℕ) (spots : List Spot) → FirstAreKnown facts rows counts → FirstAreKnown facts (rows ++ spots ∷ []) (counts ++ 0 ∷ [])
first_known-push facts [] [] spots h = (refl, tt)
first_known-push facts [] (n ∷ counts) spots h = absurd h
first_known-push facts (r ∷ rows) [] spots h = absurd h
first_known-push facts (r ∷ rows) (n ∷ counts) spots h = (h.0, first_known-push facts rows counts spots h.1)

pub first_known-stays : (ws : List Waiting) (facts : Facts) (rows : List (List Spot)) (counts : List ℕ) → FirstAreKnown facts rows counts → FirstAreKnown (all_settled ws facts) rows counts
first_known-stays ws facts [] [] h = tt
first_known-stays ws facts [] (n ∷ counts) h = absurd h
first_known-stays ws facts (r ∷ rows) [] h = absurd h
first_known-stays ws facts (r ∷ rows) (n ∷ counts) h =
    (all-weaker (is_known facts) (is_known (all_settled ws facts)) (λ spot e. known_stays ws facts spot e) (take n r) h.0, first_known-stays ws facts rows counts h.1)

-- all are declared where none is met that isn't
pub known-by : (facts : Facts) (spots : List Spot) (first : ℕ) → are_known facts (take first spots) ≡ true → (first < length spots → are_known facts spots ≡ false)
    → leb (length spots) first ≡ are_known facts spots
known-by facts spots first passed met = by (leb (length spots) first) refl
  where
    by : (b : Bool) → leb (length spots) first ≡ b → leb (length spots) first ≡ are_known facts spots
    by true e =
        let long : length spots ≤ first = leb-true (length spots) first e in
        e ∙ sym (sym (ap (λ (ss : List Spot). are_known facts ss) (take_all first spots long)) ∙ passed)
    by false e =
        let short : first < length spots = leb-false (length spots) first e in
        e ∙ sym (met short)

-- ---- what is picked

pub row-at : (facts : Facts) (rows : List (List Spot)) (waiting : List Waiting) (place : ℕ) (w : Waiting) → rows ≡ map (needs_in facts.uses) waiting → Some w ≡ slice_get waiting place
    → known_at facts rows place ≡ are_known facts (needs_in facts.uses w)
row-at facts rows waiting place w are is =
    ap (λ rs. row_is_known facts (slice_get rs place)) are ∙ ap (row_is_known facts) (slice_get-map (needs_in facts.uses) waiting place ∙ ap (option_map (needs_in facts.uses)) (sym is))

pub picks-settled : (facts : Facts) (w : Waiting) → is_settled facts w ≡ true → settling facts (Some w) ≡ None
picks-settled facts w e = ap (λ b. if_settling (not b && is_ready facts w.value) w) e

pub picks-known : (facts : Facts) (w : Waiting) (b : Bool) → is_settled facts w ≡ false → are_known facts (needs_in facts.uses w) ≡ b → settling facts (Some w) ≡ if_settling b w
picks-known facts w b e known = ap (λ a. if_settling (not a && is_ready facts w.value) w) e ∙ ap (λ a. if_settling a w) (ready-known facts (names_in w.value) ∙ known)

-- ---- what a wave makes ready

-- a declaration that a value names and that is settled in a wave
pub record NamesSettled (waiting : List Waiting) (facts : Facts) (w : Waiting) : Type 0 where
  pub spot : Spot
  pub named : list_any (same_spot spot) (needs_in facts.uses w) ≡ true
  pub settles : list_any (λ v. same_spot spot v.spot) (filter (can_settle facts) waiting) ≡ true

unknown_before : (vs : List Waiting) (facts : Facts) (spot : Spot) → is_known (all_settled vs facts) spot ≡ false → is_known facts spot ≡ false
unknown_before vs facts spot e = by (true_or_false (is_known facts spot))
  where
    by : (is_known facts spot ≡ true) ⊎ (is_known facts spot ≡ false) → is_known facts spot ≡ false
    by (inl k) = absurd (true≢false (sym (known_stays vs facts spot k) ∙ e))
    by (inr k) = k

-- what can have its type after a wave, and couldn't before, names one of the wave
later_names : (vs : List Waiting) (facts : Facts) (w : Waiting) → can_settle facts w ≡ false → can_settle (all_settled vs facts) w ≡ true
    → (spot : Spot) × (list_any (same_spot spot) (needs_in facts.uses w) ≡ true) × (list_any (λ v. same_spot spot v.spot) vs ≡ true)
later_names vs facts w before can =
    let unknown = not_true (is_known (all_settled vs facts) w.spot) (and_parts (not (is_known (all_settled vs facts) w.spot)) _ can).0 in
    let unready : is_ready facts w.value ≡ false = sym (ap (λ b. not b && is_ready facts w.value) (unknown_before vs facts w.spot unknown)) ∙ before in
    let fails : are_known facts (needs_in facts.uses w) ≡ false = sym (ready-known facts (names_in w.value)) ∙ unready in
    let ready : is_ready (all_settled vs facts) w.value ≡ true = (and_parts (not (is_known (all_settled vs facts) w.spot)) _ can).1 in
    let holds : are_known (all_settled vs facts) (needs_in facts.uses w) ≡ true =
    ap (λ uses. are_known (all_settled vs facts) (needs_among uses (names_in w.value))) (sym (uses_stay vs facts)) ∙ sym (ready-known (all_settled vs facts) (names_in w.value)) ∙ ready in
    let new = one-fails (is_known facts) (is_known (all_settled vs facts)) (needs_in facts.uses w) fails holds in
    (new.one, new.among (same_spot new.one) (same_spot-refl new.one), by new.one new.fails (known_or_settled vs facts new.one new.holds))
  where
    by : (spot : Spot) → is_known facts spot ≡ false → (is_known facts spot ≡ true) ⊎ (list_any (λ v. same_spot spot v.spot) vs ≡ true) → list_any (λ v. same_spot spot v.spot) vs ≡ true
    by spot e (inl k) = absurd (true≢false (sym k ∙ e))
    by spot e (inr k) = k

pub names_settled : (waiting : List Waiting) (facts : Facts) (i : ℕ) (w : Waiting) → slice_get waiting i ≡ Some w → can_settle (all_settled (filter (can_settle facts) waiting) facts) w ≡ true → NamesSettled waiting facts w
names_settled waiting facts i w is can = by (true_or_false (can_settle facts w))
  where
    by : (can_settle facts w ≡ true) ⊎ (can_settle facts w ≡ false) → NamesSettled waiting facts w
    by (inl now) =
        let among = any-filter (λ (v : Waiting). same_spot w.spot v.spot) (can_settle facts) waiting i w is now (same_spot-refl w.spot) in
        let known = settled_are_known (filter (can_settle facts) waiting) facts w.spot among in
        let unknown = not_true (is_known (all_settled (filter (can_settle facts) waiting) facts) w.spot) (and_parts (not (is_known (all_settled (filter (can_settle facts) waiting) facts) w.spot)) _ can).0 in
        absurd (true≢false (sym known ∙ unknown))
    by (inr later) =
        let found = later_names (filter (can_settle facts) waiting) facts w later can in record { spot = found.0; named = found.1; settles = found.2 }

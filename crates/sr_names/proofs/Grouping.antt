-- What an ended search found, and that each step leaves less to do.
use Rattle.std.proofs.Common.{◌≡◌, ◌⊎◌, ℕ, ◌+◌, ◌*◌, ◌<◌, ◌≤◌, Bool, true, false, eqb, true≢false, List, [], ◌∷◌, ◌++◌, length, drop, Option, Some, None, is_some, unwrap_or, Result, Ok, Err, IfOk, OnOk, refl, ap, sym, ◌∙◌, subst, inl, inr, arith, length-append, append_assoc, get_or, if◌then◌else◌}
use Rattle.std.proofs.lemmas.Bool.{eqb-true, eq-eqb, ltb-true, ltb-false}
use Rattle.std.proofs.lemmas.List.{append-nil, at_drop_more}
use Rattle.indexmap.specs.IndexMap.{insert_entry}
use Rattle.sr_names.specs.declared.links.Link.{Link}
use Rattle.sr_names.specs.declared.marks.Mark.{Mark}
use Rattle.sr_names.specs.declared.marks.Mark.TheVariants.{OnPath, Settled}
use Rattle.sr_names.specs.declared.search.Group.{Group}
use Rattle.sr_names.specs.declared.search.Search.{Search}
use Rattle.sr_names.specs.declared.spot.Spot.{Spot}
use Rattle.sr_names.specs.Cycles.{in_one_group, together, AreGrouped}
use Rattle.sr_names.specs.Links.{connects, Among, Way, stay, go}
use Rattle.sr_names.specs.Marks.{mark_of, stands_before, with_mark, with_settled}
use Rattle.sr_names.specs.Searches.{At, entered, IsPassed, WentOn, closes, merges, passes, enters, WentToNext, passes_by, enters_next, Steps, Shrinks, HasEnded, Known, met, awaited, IsClosed, Ends, IsSearch, unmet, work}
use Rattle.sr_names.specs.Spots.{same_spot}
use Rattle.sr_names.specs.Targets.{targets_of, targets_in, AreTargets}
use Rattle.sr_names.proofs.LinkLemmas.{same_spot-refl, way-from_connects, same_from_iff}
use Rattle.sr_names.proofs.Marking.{entry-same, entry-other, same_spot-cases, mark-same, mark-other, settled-either}
use Rattle.sr_names.proofs.Places.{at-last}
use Rattle.sr_names.proofs.Searching.{steps-next}

-- the end of a way from a settled spot is settled, and not later
falls : (links : List Link) (s : Search) → IsSearch links s → (a b : Spot) → Way links a b → (number : ℕ) → mark_of s.marks a ≡ Some (Settled number)
    → (last : ℕ) × (mark_of s.marks b ≡ Some (Settled last)) × (last ≤ number)
falls links s is a b (stay spot) number e = (number, e, omega arith)
falls links s is a b (go from end link among same way) number e =
    let c : IsClosed links s.marks link number = is.done link among number (ap (λ x. mark_of s.marks x) same ∙ e) in
    let more = falls links s is link.to end way c.last c.is_settled in
    (more.0, more.1, omega (arith, more.2, c.not_later))

module _ (links : List Link) (s : Search) (is : IsSearch links s) (no_groups : s.groups ≡ []) (none_pending : s.pending ≡ []) where
  all-settled : (link : Link) → Among links link → (number : ℕ) × (mark_of s.marks link.from ≡ Some (Settled number))
  all-settled link among = by (is.known link among)
    where
      of : (mark : Mark) → mark_of s.marks link.from ≡ Some mark → (number : ℕ) × (mark_of s.marks link.from ≡ Some (Settled number))
      of (OnPath place) e = absurd (subst (λ l. At l place link.from) (is.empty no_groups) (is.in_path place link.from e))
      of (Settled number) e = (number, e)

      by : Known s.marks s.pending link.from → (number : ℕ) × (mark_of s.marks link.from ≡ Some (Settled number))
      by (met mark e) = of mark e
      by (awaited q h) = absurd (subst (λ l. At l q link.from) none_pending h)

  pub AreGrouped-ended : AreGrouped links s.marks
  AreGrouped-ended link among =
      let k = all-settled link among in
      let c : IsClosed links s.marks link k.0 = is.done link among k.0 k.1 in
      let both : together s.marks link ≡ eqb k.0 c.last = ap (λ m. in_one_group m (mark_of s.marks link.to)) k.1 ∙ ap (λ m. in_one_group (Some (Settled k.0)) m) c.is_settled in
      both ∙ same_from_iff _ _ (λ e. c.leads_back (sym (eqb-true k.0 c.last e))) (λ h. eq-eqb k.0 c.last (back k.0 k.1 c h))
    where
      some-same : (a b : ℕ) → Some (Settled a) ≡ Some (Settled b) → a ≡ b
      some-same a b e = cc

      back : (number : ℕ) → mark_of s.marks link.from ≡ Some (Settled number) → (c : IsClosed links s.marks link number) → connects links link.to link.from ≡ true → number ≡ c.last
      back number e c h =
          let f = falls links s is link.to link.from (way-from_connects links link.to link.from h) c.last c.is_settled in
          omega (arith, some-same number f.0 (sym e ∙ f.1), f.2, c.not_later)

-- the spots still to be met
abbrev one : Option Mark → ℕ
one found = if is_some found then 0 else 1

one-less : (a b : Option Mark) → (is_some a ≡ true → is_some b ≡ true) → one b ≤ one a
one-less None None h = omega arith
one-less None (Some m) h = omega arith
one-less (Some m) None h = cc (h refl)
one-less (Some m) (Some n) h = omega arith

module _ (old new : List (Spot × Mark)) (stays : (spot : Spot) → is_some (mark_of old spot) ≡ true → is_some (mark_of new spot) ≡ true) where
  fewer : (links : List Link) → unmet new links ≤ unmet old links
  fewer [] = omega arith
  fewer (link ∷ links) =
      let a : one (mark_of new link.from) ≤ one (mark_of old link.from) = one-less (mark_of old link.from) (mark_of new link.from) (stays link.from) in
      let b : one (mark_of new link.to) ≤ one (mark_of old link.to) = one-less (mark_of old link.to) (mark_of new link.to) (stays link.to) in
      let c = fewer links in
      omega (arith, a, b, c)

  one-fewer : (links : List Link) (spot : Spot) → Ends links spot → mark_of old spot ≡ None → is_some (mark_of new spot) ≡ true → unmet new links < unmet old links
  one-fewer [] spot h none some = absurd h
  one-fewer (link ∷ links) spot (inl e) none some =
      let a : one (mark_of new link.from) ≡ 0 = ap (λ x. one (mark_of new x)) e ∙ ap (λ (b : Bool). if b then 0 else 1) some in
      let a2 : one (mark_of old link.from) ≡ 1 = ap (λ x. one (mark_of old x)) e ∙ ap one none in
      let b : one (mark_of new link.to) ≤ one (mark_of old link.to) = one-less (mark_of old link.to) (mark_of new link.to) (stays link.to) in
      let c = fewer links in
      omega (arith, a, a2, b, c)
  one-fewer (link ∷ links) spot (inr (inl e)) none some =
      let a : one (mark_of new link.to) ≡ 0 = ap (λ x. one (mark_of new x)) e ∙ ap (λ (b : Bool). if b then 0 else 1) some in
      let a2 : one (mark_of old link.to) ≡ 1 = ap (λ x. one (mark_of old x)) e ∙ ap one none in
      let b : one (mark_of new link.from) ≤ one (mark_of old link.from) = one-less (mark_of old link.from) (mark_of new link.from) (stays link.from) in
      let c = fewer links in
      omega (arith, a, a2, b, c)
  one-fewer (link ∷ links) spot (inr (inr h)) none some =
      let a : one (mark_of new link.from) ≤ one (mark_of old link.from) = one-less (mark_of old link.from) (mark_of new link.from) (stays link.from) in
      let b : one (mark_of new link.to) ≤ one (mark_of old link.to) = one-less (mark_of old link.to) (mark_of new link.to) (stays link.to) in
      let c = one-fewer links spot h none some in
      omega (arith, a, b, c)

-- a spot has no more targets than there are links
few-targets : (links : List Link) (spot : Spot) → length (targets_in links spot) ≤ length links
few-targets [] spot = omega arith
few-targets (link ∷ links) spot = by (same_spot spot link.from) (few-targets links spot)
  where
    by : (b : Bool) → length (targets_in links spot) ≤ length links → length (if b then link.to ∷ targets_in links spot else targets_in links spot) ≤ length (link ∷ links)
    by true h = omega (arith, h)
    by false h = omega (arith, h)

times-more : (less more count : ℕ) → less < more → less * (count + 1) + (count + 1) ≤ more * (count + 1)
times-more less more count h = grind arith

times-same : (less more count : ℕ) → less ≤ more → less * (count + 1) ≤ more * (count + 1)
times-same less more count h = grind arith

-- a spot that is entered
module _ (links : List Link) (s t : Search) (targets : List (Spot × List Spot)) (spot : Spot) (front : List Spot) (good : AreTargets links targets) (ends : Ends links spot)
    (are : s.pending ≡ front ++ spot ∷ []) (none : mark_of s.marks spot ≡ None) (marks : t.marks ≡ s.marks) (groups : length t.groups ≡ length s.groups) (pending : t.pending ≡ front) where
  work-entered : work links (entered targets spot t) < work links s
  work-entered =
      let mark : Mark = OnPath (length t.path) in
      let met_now : is_some (mark_of (with_mark t.marks spot mark) spot) ≡ true = ap is_some (mark-same t.marks spot mark) in
      let less : unmet (with_mark t.marks spot mark) links < unmet s.marks links =
      one-fewer s.marks (with_mark t.marks spot mark) (λ x h. stays x mark h) links spot ends none met_now in
      let times = times-more (unmet (with_mark t.marks spot mark) links) (unmet s.marks links) (length links) less in
      let count : length (targets_of targets spot) ≤ length links = subst (λ l. length l ≤ length links) (sym (good spot)) (few-targets links spot) in
      let pend : length (t.pending ++ targets_of targets spot) ≡ length front + length (targets_of targets spot) = length-append t.pending (targets_of targets spot) ∙ ap (λ l. length l + length (targets_of targets spot)) pending in
      let old : length s.pending ≡ length front + 1 = ap length are ∙ length-append front (spot ∷ []) in
      let gs : length (t.groups ++ record { path = length t.path; pending = length t.pending } ∷ []) ≡ length t.groups + 1 = length-append t.groups (record { path = length t.path; pending = length t.pending } ∷ []) in
      omega (arith, times, count, pend, old, gs, groups)
    where
      of : (mark : Mark) (other : Spot) → ((other ≡ spot) ⊎ (same_spot other spot ≡ false)) → is_some (mark_of s.marks other) ≡ true → is_some (mark_of (with_mark t.marks spot mark) other) ≡ true
      of mark other (inl e) h = ap (λ x. is_some (mark_of (with_mark t.marks spot mark) x)) e ∙ ap is_some (mark-same t.marks spot mark)
      of mark other (inr e) h = ap is_some (mark-other t.marks spot mark other e) ∙ ap (λ m. is_some (mark_of m other)) marks ∙ h

      stays : (other : Spot) (mark : Mark) → is_some (mark_of s.marks other) ≡ true → is_some (mark_of (with_mark t.marks spot mark) other) ≡ true
      stays other mark h = of mark other (same_spot-cases other spot) h

-- spots that are settled
settled-stays : (marks : List (Spot × Mark)) (spots : List Spot) (number : ℕ) (spot : Spot) → is_some (mark_of marks spot) ≡ true → is_some (mark_of (with_settled marks spots number) spot) ≡ true
settled-stays marks spots number spot h = by (settled-either marks spots number spot (mark_of (with_settled marks spots number) spot) refl)
  where
    by : (((place : ℕ) × At spots place spot × (mark_of (with_settled marks spots number) spot ≡ Some (Settled number))) ⊎ (((place : ℕ) → At spots place spot → ⊥) × (mark_of marks spot ≡ mark_of (with_settled marks spots number) spot)))
        → is_some (mark_of (with_settled marks spots number) spot) ≡ true
    by (inl k) = ap is_some k.2
    by (inr k) = sym (ap is_some k.1) ∙ h

pub shrinks-on : (targets : List (Spot × List Spot)) (s mid new : Search) (others : List Group) (group : Group) → s.groups ≡ others ++ group ∷ [] → mid ≡ record s { groups = others } → WentOn targets group mid new
    → Shrinks targets s new
shrinks-on targets s mid new others group are_groups mid-is went = λ links good is. by links good is (subst (λ m. WentOn targets group m new) mid-is went)
  where
    count : length s.groups ≡ length others + 1
    count = ap length are_groups ∙ length-append others (group ∷ [])

    again : length (others ++ group ∷ []) ≡ length others + 1
    again = length-append others (group ∷ [])

    last : (front : List Spot) (spot : Spot) → s.pending ≡ front ++ spot ∷ [] → At s.pending (length front) spot
    last front spot are = subst (λ l. At l (length front) spot) (sym are) (at-last front spot)

    longer : (front : List Spot) (spot : Spot) → s.pending ≡ front ++ spot ∷ [] → length s.pending ≡ length front + 1
    longer front spot are = ap length are ∙ length-append front (spot ∷ [])

    by : (links : List Link) → AreTargets links targets → IsSearch links s → WentOn targets group (record s { groups = others }) new → work links new < work links s
    by links good is (closes full e) =
        let spots = drop group.path s.path in
        let less : unmet (with_settled s.marks spots (length s.settled)) links ≤ unmet s.marks links = fewer s.marks (with_settled s.marks spots (length s.settled)) (settled-stays s.marks spots (length s.settled)) links in
        let times = times-same (unmet (with_settled s.marks spots (length s.settled)) links) (unmet s.marks links) (length links) less in
        let P : Search → Type 0 = λ n. work links n < work links s in
        subst P (sym e) (omega (arith, times, count))
    by links good is (merges front spot at unread are mark low e) =
        let P : Search → Type 0 = λ n. work links n < work links s in
        subst P (sym e) (omega (arith, count, ap length are))
    by links good is (passes front spot unread are passed e) =
        let P : Search → Type 0 = λ n. work links n < work links s in
        subst P (sym e) (omega (arith, count, again, longer front spot are))
    by links good is (enters front spot unread are none e) =
        let P : Search → Type 0 = λ n. work links n < work links s in
        subst P (sym e)
        (work-entered links s (record s { groups = others ++ group ∷ []; pending = front }) targets spot front good (is.ends (length front) spot (last front spot are)) are none refl
        (again ∙ sym count) refl)

pub shrinks-next : (targets : List (Spot × List Spot)) (s new : Search) → WentToNext targets s new → Shrinks targets s new
shrinks-next targets s new (passes_by front spot are some e) = λ links good is.
    let P : Search → Type 0 = λ n. work links n < work links s in
    let longer : length s.pending ≡ length front + 1 = ap length are ∙ length-append front (spot ∷ []) in
    subst P (sym e) (omega (arith, longer))
shrinks-next targets s new (enters_next front spot are none e) = λ links good is.
    let P : Search → Type 0 = λ n. work links n < work links s in
    subst P (sym e)
    (work-entered links s (record s { pending = front }) targets spot front good (is.ends (length front) spot (subst (λ l. At l (length front) spot) (sym are) (at-last front spot))) are none refl refl refl)

-- what the calls of a step say of it
pub when_err : {T E : Type 0} (r : Result T E) (P : T → Type 0) (y : E) → r ≡ Err y → IfOk r P
when_err r P y e = subst (λ x. IfOk x P) (sym e) tt

module _ (targets : List (Spot × List Spot)) (group : Group) (old new : Search) (front : List Spot) (spot : Spot) (unread : group.pending < length old.pending) (are : old.pending ≡ front ++ spot ∷ []) where
  pub went-merged : (mark : Mark) → mark_of old.marks spot ≡ Some mark → stands_before mark group.path ≡ true → new ≡ record old { pending = front ++ spot ∷ [] } → WentOn targets group old new
  went-merged (OnPath at) is before e = merges front spot at unread are is (ltb-true at group.path before) e
  went-merged (Settled number) is before e = absurd (true≢false (sym before))

  pub went-passed : (mark : Mark) → mark_of old.marks spot ≡ Some mark → stands_before mark group.path ≡ false → new ≡ record old { groups = old.groups ++ group ∷ []; pending = front } → WentOn targets group old new
  went-passed (OnPath at) is before e = passes front spot unread are (subst (IsPassed group.path) (sym is) (ltb-false at group.path before)) e
  went-passed (Settled number) is before e = passes front spot unread are (subst (IsPassed group.path) (sym is) tt) e

module _ {E : Type 0} (targets : List (Spot × List Spot)) (s mid new : Search) (no_groups : s.groups ≡ []) (same : mid ≡ s) where
  pub next-steps : (r : Result Bool E) → IfOk r (λ goes_on. goes_on ≡ false → (mid.pending ≡ []) × (new ≡ mid)) → IfOk r (λ goes_on. goes_on ≡ true → WentToNext targets mid new) → OnOk r (Steps targets s new)
  next-steps (Ok true) none some = steps-next targets s new no_groups (subst (λ m. WentToNext targets m new) same (some refl))
  next-steps (Ok false) none some = λ links good is. subst (IsSearch links) (sym ((none refl).1 ∙ same)) is
  next-steps (Err y) none some = tt

  pub next-shrinks : (r : Result Bool E) → IfOk r (λ goes_on. goes_on ≡ true → WentToNext targets mid new) → IfOk r (λ goes_on. goes_on ≡ true → Shrinks targets s new)
  next-shrinks (Ok true) some = λ e. shrinks-next targets s new (subst (λ m. WentToNext targets m new) same (some refl))
  next-shrinks (Ok false) some = λ e. absurd (true≢false (sym e))
  next-shrinks (Err y) some = tt

  pub next-ended : (r : Result Bool E) → IfOk r (λ goes_on. goes_on ≡ false → (mid.pending ≡ []) × (new ≡ mid)) → IfOk r (λ goes_on. goes_on ≡ false → HasEnded new)
  next-ended (Ok true) none = λ e. absurd (true≢false e)
  next-ended (Ok false) none = λ e.
      let n = none refl in
      (ap (λ (x : Search). x.groups) (n.1 ∙ same) ∙ no_groups, ap (λ (x : Search). x.pending) n.1 ∙ n.0)
  next-ended (Err y) none = tt

-- the targets of a spot, with one link more
pub targets-added : (old first new : List (Spot × List Spot)) (link : Link) (row : List Spot) → first ≡ insert_entry same_spot old link.from [] → row ≡ targets_of old link.from
    → new ≡ insert_entry same_spot first link.from (row ++ link.to ∷ []) → (spot : Spot) → targets_of new spot ≡ targets_of old spot ++ targets_in (link ∷ []) spot
targets-added old first new link row is-first is-row is-new spot = by (same_spot-cases spot link.from)
  where
    by : ((spot ≡ link.from) ⊎ (same_spot spot link.from ≡ false)) → targets_of new spot ≡ targets_of old spot ++ targets_in (link ∷ []) spot
    by (inl e) =
        ap (λ x. targets_of new x) e
        ∙ ap (λ es. targets_of es link.from) is-new ∙ ap (λ o. unwrap_or o []) (entry-same first link.from (row ++ link.to ∷ []))
        ∙ ap (λ r. r ++ link.to ∷ []) is-row
        ∙ ap (λ (b : Bool). targets_of old link.from ++ (if b then link.to ∷ [] else [])) (sym (same_spot-refl link.from))
        ∙ ap (λ x. targets_of old x ++ targets_in (link ∷ []) x) (sym e)
    by (inr e) =
        ap (λ es. targets_of es spot) is-new ∙ ap (λ o. unwrap_or o []) (entry-other first link.from (row ++ link.to ∷ []) spot e)
        ∙ ap (λ es. targets_of es spot) is-first ∙ ap (λ o. unwrap_or o []) (entry-other old link.from [] spot e)
        ∙ sym (append-nil (targets_of old spot))
        ∙ ap (λ (b : Bool). targets_of old spot ++ (if b then link.to ∷ [] else [])) (sym e)

-- the targets by one link and by those after it
pub targets-step : (link : Link) (links : List Link) (spot : Spot) → targets_in (link ∷ links) spot ≡ targets_in (link ∷ []) spot ++ targets_in links spot
targets-step link links spot = by (same_spot spot link.from)
  where
    by : (b : Bool) → (if b then link.to ∷ targets_in links spot else targets_in links spot) ≡ (if b then link.to ∷ [] else []) ++ targets_in links spot
    by true = refl
    by false = refl

pub gather-step : (links : List Link) (place : ℕ) (all new : List (Spot × List Spot)) (other : Link) (spot : Spot) → place < length links
    → targets_of new spot ≡ targets_of all spot ++ targets_in (get_or links place other ∷ []) spot → targets_of all spot ++ targets_in (drop place links) spot ≡ targets_in links spot
    → targets_of new spot ++ targets_in (drop (place + 1) links) spot ≡ targets_in links spot
gather-step links place all new other spot low added so_far =
    ap (λ t. t ++ targets_in (drop (place + 1) links) spot) added ∙ append_assoc (targets_of all spot) (targets_in (get_or links place other ∷ []) spot) (targets_in (drop (place + 1) links) spot)
    ∙ ap (λ t. targets_of all spot ++ t) (sym (targets-step (get_or links place other) (drop (place + 1) links) spot))
    ∙ ap (λ t. targets_of all spot ++ t) (sym (at_drop_more (λ ls. targets_in ls spot) links place other low))
    ∙ so_far

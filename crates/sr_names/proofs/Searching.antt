-- Each step of a search keeps what is known of it, and leaves less to do.
use Rattle.std.proofs.Common.{◌≡◌, ◌⊎◌, ℕ, zero, suc, ◌+◌, ◌<◌, ◌≤◌, Bool, true, false, List, [], ◌∷◌, ◌++◌, length, take, drop, map, Option, Some, None, is_some, refl, ap, sym, ◌∙◌, subst, inl, inr, arith, length-append, if◌then◌else◌}
use Rattle.std.proofs.lemmas.Bool.{cases_lt}
use Rattle.sr_names.specs.declared.links.Link.{Link}
use Rattle.sr_names.specs.declared.marks.Mark.{Mark}
use Rattle.sr_names.specs.declared.marks.Mark.TheVariants.{OnPath, Settled}
use Rattle.sr_names.specs.declared.search.Group.{Group}
use Rattle.sr_names.specs.declared.search.Search.{Search}
use Rattle.sr_names.specs.declared.spot.Spot.{Spot}
use Rattle.sr_names.specs.Links.{connects, Among}
use Rattle.sr_names.specs.Marks.{mark_of, with_settled}
use Rattle.sr_names.specs.Searches.{At, begun, entered, closed, IsPassed, WentOn, closes, merges, passes, enters, WentToNext, passes_by, enters_next, Steps, Reaches, Led, to_settled, to_path, to_pending, Known, met, awaited, IsClosed, Ends, IsSearch}
use Rattle.sr_names.specs.Spots.{same_spot}
use Rattle.sr_names.specs.Targets.{targets_of, targets_in, AreTargets}
use Rattle.sr_names.proofs.LinkLemmas.{same_spot-eq, same_spot-refl, connects-refl, connects-trans, connects-link}
use Rattle.sr_names.proofs.Marking.{mark-same, mark-either, mark-keeps, settled-in, settled-out, settled-either}
use Rattle.sr_names.proofs.Places.{at-within, at-some, at-left, at-right, at-last, at-either, at-push, at-take, at-taken, at-drop, at-dropped, push-some, take-none}

place-of : (place other : ℕ) → OnPath place ≡ OnPath other → place ≡ other
place-of place other e = cc

number-of : (number other : ℕ) → Settled number ≡ Settled other → number ≡ other
number-of number other e = cc

some-of : (a b : Mark) → Some a ≡ Some b → a ≡ b
some-of a b e = cc

settled-on : (number place : ℕ) → Settled number ≡ OnPath place → ⊥
settled-on number place e = cc

-- the ends of the links that begin at a spot
in-target : (links : List Link) (spot : Spot) (place : ℕ) (end : Spot) → At (targets_in links spot) place end → (link : Link) × Among links link × (link.from ≡ spot) × (link.to ≡ end)
in-target [] spot place end h = absurd h
in-target (first ∷ links) spot place end h = by (same_spot spot first.from) refl (λ p k. in-target links spot p end k) place h
  where
    more : ((link : Link) × Among links link × (link.from ≡ spot) × (link.to ≡ end)) → (link : Link) × Among (first ∷ links) link × (link.from ≡ spot) × (link.to ≡ end)
    more k = (k.0, inr k.1, k.2, k.3)

    by : (b : Bool) → same_spot spot first.from ≡ b → ((p : ℕ) → At (targets_in links spot) p end → (link : Link) × Among links link × (link.from ≡ spot) × (link.to ≡ end))
        → (p : ℕ) → At (if b then first.to ∷ targets_in links spot else targets_in links spot) p end → (link : Link) × Among (first ∷ links) link × (link.from ≡ spot) × (link.to ≡ end)
    by true e rec zero k = (first, inl refl, sym (same_spot-eq spot first.from e), k)
    by true e rec (suc p) k = more (rec p k)
    by false e rec p k = more (rec p k)

has-target : (links : List Link) (spot : Spot) (link : Link) → Among links link → link.from ≡ spot → (place : ℕ) × At (targets_in links spot) place link.to
has-target [] spot link h e = absurd h
has-target (first ∷ links) spot link h e = by (same_spot spot first.from) refl h (λ k. has-target links spot link k e)
  where
    by : (b : Bool) → same_spot spot first.from ≡ b → ((first ≡ link) ⊎ Among links link) → (Among links link → (place : ℕ) × At (targets_in links spot) place link.to)
        → (place : ℕ) × At (if b then first.to ∷ targets_in links spot else targets_in links spot) place link.to
    by true f (inl k) rec = (0, ap (λ (l : Link). l.to) k)
    by true f (inr k) rec = let r = rec k in (suc r.0, r.1)
    by false f (inl k) rec = let same : first.from ≡ spot = ap (λ (l : Link). l.from) k ∙ e in absurd (let t : same_spot spot first.from ≡ true = subst (λ x. same_spot x first.from ≡ true) same (same_spot-refl first.from) in cc)
    by false f (inr k) rec = rec k

ends-to : (links : List Link) (link : Link) → Among links link → Ends links link.to
ends-to [] link h = absurd h
ends-to (first ∷ links) link (inl e) = inr (inl (ap (λ (l : Link). l.to) e))
ends-to (first ∷ links) link (inr h) = inr (inr (ends-to links link h))

-- the last pending spot and those before it
module _ (pending front : List Spot) (spot : Spot) (are : pending ≡ front ++ spot ∷ []) where
  before-last : (place : ℕ) (other : Spot) → At front place other → At pending place other
  before-last place other h = subst (λ l. At l place other) (sym are) (at-left front (spot ∷ []) place other h)

  last-pending : At pending (length front) spot
  last-pending = subst (λ l. At l (length front) spot) (sym are) (at-last front spot)

  or-last : (place : ℕ) (other : Spot) → At pending place other → At front place other ⊎ ((place ≡ length front) × (spot ≡ other))
  or-last place other h = at-push front spot place other (subst (λ l. At l place other) are h)

  one-more : length pending ≡ length front + 1
  one-more = ap length are ∙ length-append front (spot ∷ [])

-- a spot goes after the path, which leads to it
module _ (links : List Link) (s : Search) (is : IsSearch links s) (targets : List (Spot × List Spot)) (spot : Spot) (front : List Spot) (true_targets : AreTargets links targets)
    (none : mark_of s.marks spot ≡ None) (are : s.pending ≡ front ++ spot ∷ []) (room : (at : ℕ) (group : Group) → At s.groups at group → group.pending ≤ length front)
    (leads : (place : ℕ) (a : Spot) → At s.path place a → connects links a spot ≡ true) where
  old_group : (at : ℕ) (group : Group) → At (s.groups ++ record { path = length s.path; pending = length front } ∷ []) at group
      → At s.groups at group ⊎ ((at ≡ length s.groups) × (group.path ≡ length s.path) × (group.pending ≡ length front))
  old_group at group h = by (at-push s.groups (record { path = length s.path; pending = length front }) at group h)
    where
      by : (At s.groups at group ⊎ ((at ≡ length s.groups) × (record { path = length s.path; pending = length front } ≡ group)))
          → At s.groups at group ⊎ ((at ≡ length s.groups) × (group.path ≡ length s.path) × (group.pending ≡ length front))
      by (inl k) = inl k
      by (inr k) = inr (k.0, sym (ap (λ (g : Group). g.path) k.1), sym (ap (λ (g : Group). g.pending) k.1))

  abbrev after : Search
  after = entered targets spot (record s { pending = front })

  keeps : (other : Spot) (found : Mark) → mark_of s.marks other ≡ Some found → mark_of after.marks other ≡ Some found
  keeps other found e = mark-keeps s.marks spot (OnPath (length s.path)) none other found e

  marked : mark_of after.marks spot ≡ Some (OnPath (length s.path))
  marked = mark-same s.marks spot (OnPath (length s.path))

  grown : length after.path ≡ length s.path + 1
  grown = length-append s.path (spot ∷ [])

  target-of : (place : ℕ) (end : Spot) → At (targets_of targets spot) place end → (link : Link) × Among links link × (link.from ≡ spot) × (link.to ≡ end)
  target-of place end h = in-target links spot place end (subst (λ l. At l place end) (true_targets spot) h)

  led-to : (place : ℕ) (end : Spot) → At (targets_of targets spot) place end → connects links spot end ≡ true
  led-to place end h =
      let t = target-of place end h in
      subst (λ x. connects links x end ≡ true) t.2 (subst (λ x. connects links t.0.from x ≡ true) t.3 (connects-link links t.0 t.1))

  entered-on_path : (place : ℕ) (a : Spot) → At after.path place a → mark_of after.marks a ≡ Some (OnPath place)
  entered-on_path place a h = by (at-push s.path spot place a h)
    where
      by : (At s.path place a ⊎ ((place ≡ length s.path) × (spot ≡ a))) → mark_of after.marks a ≡ Some (OnPath place)
      by (inl k) = keeps a (OnPath place) (is.on_path place a k)
      by (inr k) = ap (λ x. mark_of after.marks x) (sym k.1) ∙ marked ∙ ap (λ n. Some (OnPath n)) (sym k.0)

  entered-in_path : (place : ℕ) (a : Spot) → mark_of after.marks a ≡ Some (OnPath place) → At after.path place a
  entered-in_path place a h = by (mark-either s.marks spot (OnPath (length s.path)) a (Some (OnPath place)) h)
    where
      by : (((spot ≡ a) × (Some (OnPath place) ≡ Some (OnPath (length s.path)))) ⊎ (mark_of s.marks a ≡ Some (OnPath place))) → At after.path place a
      by (inl k) = subst (λ n. At after.path n a) (sym (place-of place (length s.path) (some-of _ _ k.1))) (subst (λ x. At after.path (length s.path) x) k.0 (at-last s.path spot))
      by (inr k) = at-left s.path (spot ∷ []) place a (is.in_path place a k)

  entered-joined : (from to : ℕ) (a b : Spot) → At after.path from a → At after.path to b → Reaches after.groups from to → connects links a b ≡ true
  entered-joined from to a b h k r = by (at-push s.path spot from a h) (at-push s.path spot to b k)
    where
      by : (At s.path from a ⊎ ((from ≡ length s.path) × (spot ≡ a))) → (At s.path to b ⊎ ((to ≡ length s.path) × (spot ≡ b))) → connects links a b ≡ true
      by (inl x) (inl y) = is.joined from to a b x y (λ at group g le. r at group (at-left s.groups _ at group g) le)
      by (inl x) (inr y) = subst (λ z. connects links a z ≡ true) y.1 (leads from a x)
      by (inr x) (inl y) =
          let low : to < length s.path = at-within s.path to b y in
          let high : length s.path ≤ to = r (length s.groups) (record { path = length s.path; pending = length front }) (at-last s.groups _) (omega (arith, x.0)) in
          absurd (omega arith)
      by (inr x) (inr y) = subst (λ z. connects links z b ≡ true) x.1 (subst (λ z. connects links spot z ≡ true) y.1 (connects-refl links spot))

  entered-waiting : (at : ℕ) (group : Group) (a : Spot) (place : ℕ) (b : Spot) → At after.groups at group → At after.path group.path a → group.pending ≤ place → At after.pending place b
      → connects links a b ≡ true
  entered-waiting at group a place b g h le k = by (old_group at group g) (at-push s.path spot group.path a h) (at-either front (targets_of targets spot) place b k)
    where
      by : (At s.groups at group ⊎ ((at ≡ length s.groups) × (group.path ≡ length s.path) × (group.pending ≡ length front)))
          → (At s.path group.path a ⊎ ((group.path ≡ length s.path) × (spot ≡ a)))
          → (At front place b ⊎ ((further : ℕ) × (place ≡ length front + further) × At (targets_of targets spot) further b)) → connects links a b ≡ true
      by (inl x) (inl y) (inl z) = is.waiting at group a place b x y le (before-last s.pending front spot are place b z)
      by (inl x) (inl y) (inr z) = connects-trans links a spot b (leads group.path a y) (led-to z.0 b z.2)
      by (inl x) (inr y) z = absurd (omega (arith, y.0, (is.within at group x).0))
      by (inr x) (inl y) z = absurd (omega (arith, x.1, at-within s.path group.path a y))
      by (inr x) (inr y) (inl z) = absurd (omega (arith, x.2, at-within front place b z))
      by (inr x) (inr y) (inr z) = subst (λ w. connects links w b ≡ true) y.1 (led-to z.0 b z.2)

  entered-led : (link : Link) → Among links link → (place : ℕ) → At after.path place link.from → Led after place link.to
  entered-led link among place h = by (at-push s.path spot place link.from h)
    where
      old : place < length s.path → Led s place link.to → Led after place link.to
      old low (to_settled n e) = to_settled n (keeps link.to (Settled n) e)
      old low (to_path q y r) = to_path q (at-left s.path (spot ∷ []) q link.to y) (λ at group g le. reach at group le (old_group at group g))
        where
          reach : (at : ℕ) (group : Group) → group.path ≤ place → (At s.groups at group ⊎ ((at ≡ length s.groups) × (group.path ≡ length s.path) × (group.pending ≡ length front))) → group.path ≤ q
          reach at group le (inl x) = r at group x le
          reach at group le (inr x) = absurd (omega (arith, x.1))
      old low (to_pending q y r) = pend (or-last s.pending front spot are q link.to y)
        where
          still : (at : ℕ) (group : Group) → group.path ≤ place → (At s.groups at group ⊎ ((at ≡ length s.groups) × (group.path ≡ length s.path) × (group.pending ≡ length front))) → group.pending ≤ q
          still at group le (inl x) = r at group x le
          still at group le (inr x) = absurd (omega (arith, x.1))

          reach : (at : ℕ) (group : Group) → (At s.groups at group ⊎ ((at ≡ length s.groups) × (group.path ≡ length s.path) × (group.pending ≡ length front))) → group.path ≤ length s.path
          reach at group (inl x) = omega (arith, (is.within at group x).0)
          reach at group (inr x) = omega (arith, x.1)

          pend : (At front q link.to ⊎ ((q ≡ length front) × (spot ≡ link.to))) → Led after place link.to
          pend (inl x) = to_pending q (at-left front (targets_of targets spot) q link.to x) (λ at group g le. still at group le (old_group at group g))
          pend (inr x) = to_path (length s.path) (subst (λ z. At after.path (length s.path) z) x.1 (at-last s.path spot)) (λ at group g le. reach at group (old_group at group g))

      fresh : (at : ℕ) (group : Group) (k : ℕ) → (At s.groups at group ⊎ ((at ≡ length s.groups) × (group.path ≡ length s.path) × (group.pending ≡ length front))) → group.pending ≤ length front + k
      fresh at group k (inl x) = omega (arith, room at group x)
      fresh at group k (inr x) = omega (arith, x.2)

      by : (At s.path place link.from ⊎ ((place ≡ length s.path) × (spot ≡ link.from))) → Led after place link.to
      by (inl x) = old (at-within s.path place link.from x) (is.led link among place x)
      by (inr x) =
          let t = has-target links spot link among (sym x.1) in
          to_pending (length front + t.0) (at-right front (targets_of targets spot) t.0 (length front + t.0) link.to refl (subst (λ l. At l t.0 link.to) (sym (true_targets spot)) t.1))
          (λ at group g le. fresh at group t.0 (old_group at group g))

  entered-done : (link : Link) → Among links link → (number : ℕ) → mark_of after.marks link.from ≡ Some (Settled number) → IsClosed links after.marks link number
  entered-done link among number h = by (mark-either s.marks spot (OnPath (length s.path)) link.from (Some (Settled number)) h)
    where
      by : (((spot ≡ link.from) × (Some (Settled number) ≡ Some (OnPath (length s.path)))) ⊎ (mark_of s.marks link.from ≡ Some (Settled number))) → IsClosed links after.marks link number
      by (inl k) = absurd (settled-on number (length s.path) (some-of _ _ k.1))
      by (inr k) =
          let c : IsClosed links s.marks link number = is.done link among number k in
          record { last = c.last; is_settled = keeps link.to (Settled c.last) c.is_settled; not_later = c.not_later; leads_back = c.leads_back }

  entered-numbered : (a : Spot) (number : ℕ) → mark_of after.marks a ≡ Some (Settled number) → number < length s.settled
  entered-numbered a number h = by (mark-either s.marks spot (OnPath (length s.path)) a (Some (Settled number)) h)
    where
      by : (((spot ≡ a) × (Some (Settled number) ≡ Some (OnPath (length s.path)))) ⊎ (mark_of s.marks a ≡ Some (Settled number))) → number < length s.settled
      by (inl k) = absurd (settled-on number (length s.path) (some-of _ _ k.1))
      by (inr k) = is.numbered a number k

  entered-rising : (before further : ℕ) (a b : Group) → At after.groups before a → At after.groups further b → before < further → (a.path < b.path) × (a.pending ≤ b.pending)
  entered-rising before further a b x y lt = by (old_group before a x) (old_group further b y)
    where
      by : (At s.groups before a ⊎ ((before ≡ length s.groups) × (a.path ≡ length s.path) × (a.pending ≡ length front)))
          → (At s.groups further b ⊎ ((further ≡ length s.groups) × (b.path ≡ length s.path) × (b.pending ≡ length front))) → (a.path < b.path) × (a.pending ≤ b.pending)
      by (inl k) (inl l) = is.rising before further a b k l lt
      by (inl k) (inr l) = (omega (arith, l.1, (is.within before a k).0), omega (arith, l.2, room before a k))
      by (inr k) (inl l) = absurd (omega (arith, k.0, at-within s.groups further b l))
      by (inr k) (inr l) = absurd (omega (arith, k.0, l.0))

  entered-within : (at : ℕ) (group : Group) → At after.groups at group → (group.path < length after.path) × (group.pending ≤ length after.pending)
  entered-within at group g = by (old_group at group g)
    where
      by : (At s.groups at group ⊎ ((at ≡ length s.groups) × (group.path ≡ length s.path) × (group.pending ≡ length front))) → (group.path < length after.path) × (group.pending ≤ length after.pending)
      by (inl k) = (omega (arith, grown, (is.within at group k).0), omega (arith, length-append front (targets_of targets spot), room at group k))
      by (inr k) = (omega (arith, grown, k.1), omega (arith, length-append front (targets_of targets spot), k.2))

  entered-bottom : (group : Group) → At after.groups 0 group → group.path ≡ 0
  entered-bottom group g = by (old_group 0 group g)
    where
      none-of : (groups : List Group) → 0 ≡ length groups → groups ≡ []
      none-of [] e = refl
      none-of (first ∷ rest) e = absurd (omega arith)

      by : (At s.groups 0 group ⊎ ((0 ≡ length s.groups) × (group.path ≡ length s.path) × (group.pending ≡ length front))) → group.path ≡ 0
      by (inl k) = is.bottom group k
      by (inr k) = k.1 ∙ ap length (is.empty (none-of s.groups k.0))

  entered-known : (link : Link) → Among links link → Known after.marks after.pending link.from
  entered-known link among = by (is.known link among)
    where
      pend : (q : ℕ) → (At front q link.from ⊎ ((q ≡ length front) × (spot ≡ link.from))) → Known after.marks after.pending link.from
      pend q (inl x) = awaited q (at-left front (targets_of targets spot) q link.from x)
      pend q (inr x) = met (OnPath (length s.path)) (ap (λ z. mark_of after.marks z) (sym x.1) ∙ marked)

      by : Known s.marks s.pending link.from → Known after.marks after.pending link.from
      by (met m e) = met m (keeps link.from m e)
      by (awaited q y) = pend q (or-last s.pending front spot are q link.from y)

  entered-ends : (place : ℕ) (a : Spot) → At after.pending place a → Ends links a
  entered-ends place a h = by (at-either front (targets_of targets spot) place a h)
    where
      by : (At front place a ⊎ ((further : ℕ) × (place ≡ length front + further) × At (targets_of targets spot) further a)) → Ends links a
      by (inl k) = is.ends place a (before-last s.pending front spot are place a k)
      by (inr k) = let t = target-of k.0 a k.2 in subst (λ z. Ends links z) t.3 (ends-to links t.0 t.1)

  pub IsSearch-entered : IsSearch links after
  IsSearch-entered = record {
    on_path = entered-on_path;
    in_path = entered-in_path;
    joined = entered-joined;
    waiting = entered-waiting;
    led = entered-led;
    done = entered-done;
    numbered = entered-numbered;
    rising = entered-rising;
    within = entered-within;
    bottom = entered-bottom;
    empty = λ e. absurd (push-some s.groups (record { path = length s.path; pending = length front }) e);
    known = entered-known;
    ends = entered-ends;
  }

-- the last group, and those before it
module _ (links : List Link) (s : Search) (is : IsSearch links s) (others : List Group) (group : Group) (are_groups : s.groups ≡ others ++ group ∷ []) where
  top : At s.groups (length others) group
  top = subst (λ gs. At gs (length others) group) (sym are_groups) (at-last others group)

  also : (at : ℕ) (other : Group) → At others at other → At s.groups at other
  also at other h = subst (λ gs. At gs at other) (sym are_groups) (at-left others (group ∷ []) at other h)

  or-top : (at : ℕ) (other : Group) → At s.groups at other → At others at other ⊎ (group ≡ other)
  or-top at other h = by (at-push others group at other (subst (λ gs. At gs at other) are_groups h))
    where
      by : (At others at other ⊎ ((at ≡ length others) × (group ≡ other))) → At others at other ⊎ (group ≡ other)
      by (inl k) = inl k
      by (inr k) = inr k.1

  before-top : (at : ℕ) (other : Group) → At others at other → (other.path < group.path) × (other.pending ≤ group.pending)
  before-top at other h = is.rising at (length others) other group (also at other h) top (at-within others at other h)

  below : (at : ℕ) (other : Group) → At s.groups at other → (other.path ≤ group.path) × (other.pending ≤ group.pending)
  below at other h = by (or-top at other h)
    where
      by : (At others at other ⊎ (group ≡ other)) → (other.path ≤ group.path) × (other.pending ≤ group.pending)
      by (inl k) = let b = before-top at other k in (omega (arith, b.0), b.1)
      by (inr k) = subst (λ (g : Group). (g.path ≤ group.path) × (g.pending ≤ group.pending)) k (omega arith, omega arith)

  start : (a : Spot) × At s.path group.path a
  start = at-some s.path group.path (is.within (length others) group top).0

  -- each spot of the path leads to a pending spot of the last group
  leads-to : (spot : Spot) (place : ℕ) → group.pending ≤ place → At s.pending place spot → (at : ℕ) (a : Spot) → At s.path at a → connects links a spot ≡ true
  leads-to spot place unread h at a k =
      connects-trans links a start.0 spot (is.joined at group.path a start.0 k start.1 (λ m g x le. (below m g x).0)) (is.waiting (length others) group start.0 place spot top start.1 unread h)

  pub IsSearch-merged : (spot : Spot) (place at : ℕ) → group.pending ≤ place → At s.pending place spot → mark_of s.marks spot ≡ Some (OnPath at) → at < group.path
      → IsSearch links (record s { groups = others })
  IsSearch-merged spot place at unread h mark low = record {
    on_path = is.on_path;
    in_path = is.in_path;
    joined = λ from to a b x y r. joined-by from to a b x y r (cases_lt from group.path);
    waiting = λ m g a p b x. is.waiting m g a p b (also m g x);
    led = λ link among p x. fewer p link.to (is.led link among p x);
    done = is.done;
    numbered = is.numbered;
    rising = λ m n g k x y. is.rising m n g k (also m g x) (also n k y);
    within = λ m g x. is.within m g (also m g x);
    bottom = λ g x. is.bottom g (also 0 g x);
    empty = λ e. absurd (no-bottom e);
    known = is.known;
    ends = is.ends;
  }
    where
      no-bottom : others ≡ [] → ⊥
      no-bottom e =
          let first : group.path ≡ 0 = is.bottom group (subst (λ n. At s.groups n group) (ap length e) top) in
          omega (arith, first, low)

      fewer : (p : ℕ) (end : Spot) → Led s p end → Led (record s { groups = others }) p end
      fewer p end (to_settled n e) = to_settled n e
      fewer p end (to_path q x r) = to_path q x (λ m g y. r m g (also m g y))
      fewer p end (to_pending q x r) = to_pending q x (λ m g y. r m g (also m g y))

      joined-by : (from to : ℕ) (a b : Spot) → At s.path from a → At s.path to b → Reaches others from to → ((from < group.path) ⊎ (group.path ≤ from)) → connects links a b ≡ true
      joined-by from to a b x y r (inl less) = is.joined from to a b x y (λ m g z le. by m g le (or-top m g z))
        where
          by : (m : ℕ) (g : Group) → g.path ≤ from → (At others m g ⊎ (group ≡ g)) → g.path ≤ to
          by m g le (inl k) = r m g k le
          by m g le (inr k) = absurd (omega (arith, ap (λ (g : Group). g.path) k))
      joined-by from to a b x y r (inr more) =
          connects-trans links a spot b (leads-to spot place unread h from a x) (is.joined at to spot b (is.in_path at spot mark) y (λ m g z le. by m g le (or-top m g z)))
        where
          by : (m : ℕ) (g : Group) → g.path ≤ at → (At others m g ⊎ (group ≡ g)) → g.path ≤ to
          by m g le (inl k) = r m g k (omega arith)
          by m g le (inr k) = absurd (omega (arith, ap (λ (g : Group). g.path) k))

  pub IsSearch-passed : (front : List Spot) (spot : Spot) → s.pending ≡ front ++ spot ∷ [] → group.pending < length s.pending → IsPassed group.path (mark_of s.marks spot)
      → IsSearch links (record s { pending = front })
  IsSearch-passed front spot are unread passed = record {
    on_path = is.on_path;
    in_path = is.in_path;
    joined = is.joined;
    waiting = λ m g a p b x y le z. is.waiting m g a p b x y le (before-last s.pending front spot are p b z);
    led = λ link among p x. led-by p link.to (is.led link among p x);
    done = is.done;
    numbered = is.numbered;
    rising = is.rising;
    within = λ m g x. ((is.within m g x).0, omega (arith, (below m g x).1, one-more s.pending front spot are));
    bottom = is.bottom;
    empty = is.empty;
    known = λ link among. known-by link.from (is.known link among);
    ends = λ p a x. is.ends p a (before-last s.pending front spot are p a x);
  }
    where
      led-passed : (p : ℕ) (found : Option Mark) → mark_of s.marks spot ≡ found → IsPassed group.path found → Led (record s { pending = front }) p spot
      led-passed p None e h = absurd h
      led-passed p (Some (OnPath at)) e h = to_path at (is.in_path at spot e) (λ m g x le. omega (arith, (below m g x).0, h))
      led-passed p (Some (Settled n)) e h = to_settled n e

      led-by : (p : ℕ) (end : Spot) → Led s p end → Led (record s { pending = front }) p end
      led-by p end (to_settled n e) = to_settled n e
      led-by p end (to_path q x r) = to_path q x r
      led-by p end (to_pending q x r) = pend (or-last s.pending front spot are q end x)
        where
          pend : (At front q end ⊎ ((q ≡ length front) × (spot ≡ end))) → Led (record s { pending = front }) p end
          pend (inl k) = to_pending q k r
          pend (inr k) = subst (λ z. Led (record s { pending = front }) p z) k.1 (led-passed p (mark_of s.marks spot) refl passed)

      known-passed : (found : Option Mark) → mark_of s.marks spot ≡ found → IsPassed group.path found → Known s.marks front spot
      known-passed None e h = absurd h
      known-passed (Some m) e h = met m e

      known-by : (a : Spot) → Known s.marks s.pending a → Known s.marks front a
      known-by a (met m e) = met m e
      known-by a (awaited q x) = pend (or-last s.pending front spot are q a x)
        where
          pend : (At front q a ⊎ ((q ≡ length front) × (spot ≡ a))) → Known s.marks front a
          pend (inl k) = awaited q k
          pend (inr k) = subst (λ z. Known s.marks front z) k.1 (known-passed (mark_of s.marks spot) refl passed)

  pub IsSearch-entered_on : (targets : List (Spot × List Spot)) (front : List Spot) (spot : Spot) → AreTargets links targets → s.pending ≡ front ++ spot ∷ [] → group.pending < length s.pending
      → mark_of s.marks spot ≡ None → IsSearch links (entered targets spot (record s { pending = front }))
  IsSearch-entered_on targets front spot good are unread none =
      IsSearch-entered links s is targets spot front good none are
      (λ m g x. omega (arith, (below m g x).1, one-more s.pending front spot are))
      (leads-to spot (length front) (omega (arith, one-more s.pending front spot are)) (last-pending s.pending front spot are))

  pub IsSearch-closed : length s.pending ≤ group.pending → IsSearch links (closed group (record s { groups = others }))
  IsSearch-closed full = record {
    on_path = λ p a h. let k = at-take s.path group.path p a h in left a (OnPath p) (is.on_path p a k.1) (λ q e. omega (arith, k.0, place-of p q e));
    in_path = λ p a h. in-path p a (settled-either s.marks (drop group.path s.path) (length s.settled) a (Some (OnPath p)) h);
    joined = λ from to a b h k r. joined-by from to a b (at-take s.path group.path from a h) (at-take s.path group.path to b k) r;
    waiting = λ m g a p b x y. is.waiting m g a p b (also m g x) (at-take s.path group.path g.path a y).1;
    led = λ link among p h. let k = at-take s.path group.path p link.from h in led-by p link.to k.0 (is.led link among p k.1);
    done = λ link among n h. done-by link among n (settled-either s.marks (drop group.path s.path) (length s.settled) link.from (Some (Settled n)) h);
    numbered = λ a n h. numbered-by a n (settled-either s.marks (drop group.path s.path) (length s.settled) a (Some (Settled n)) h);
    rising = λ m n g k x y. is.rising m n g k (also m g x) (also n k y);
    within = λ m g x. (shorter g.path (before-top m g x).0, (is.within m g (also m g x)).1);
    bottom = λ g x. is.bottom g (also 0 g x);
    empty = λ e. no-path e;
    known = λ link among. known-by link.from (is.known link among);
    ends = is.ends;
  }
    where
      settles : (p : ℕ) (a : Spot) → At s.path p a → group.path ≤ p → mark_of (with_settled s.marks (drop group.path s.path) (length s.settled)) a ≡ Some (Settled (length s.settled))
      settles p a h le = let k = at-dropped s.path group.path p a le h in settled-in s.marks (drop group.path s.path) (length s.settled) k.0 a k.1

      left : (a : Spot) (found : Mark) → mark_of s.marks a ≡ Some found → ((p : ℕ) → found ≡ OnPath p → p < group.path) → mark_of (with_settled s.marks (drop group.path s.path) (length s.settled)) a ≡ Some found
      left a found e low = settled-out s.marks (drop group.path s.path) (length s.settled) a (λ q x. out (at-drop s.path group.path q a x)) ∙ e
        where
          out : ((p : ℕ) × (group.path ≤ p) × At s.path p a) → ⊥
          out k =
              let same : found ≡ OnPath k.0 = some-of found (OnPath k.0) (sym e ∙ is.on_path k.0 a k.2) in
              omega (arith, k.1, low k.0 same)

      stays : (a : Spot) (n : ℕ) → mark_of s.marks a ≡ Some (Settled n) → mark_of (with_settled s.marks (drop group.path s.path) (length s.settled)) a ≡ Some (Settled n)
      stays a n e = left a (Settled n) e (λ p f. absurd (settled-on n p f))

      in-path : (p : ℕ) (a : Spot) → (((q : ℕ) × At (drop group.path s.path) q a × (Some (OnPath p) ≡ Some (Settled (length s.settled)))) ⊎ (((q : ℕ) → At (drop group.path s.path) q a → ⊥) × (mark_of s.marks a ≡ Some (OnPath p))))
          → At (take group.path s.path) p a
      in-path p a (inl k) = absurd (settled-on (length s.settled) p (sym (some-of _ _ k.2)))
      in-path p a (inr k) = by (cases_lt p group.path)
        where
          by : ((p < group.path) ⊎ (group.path ≤ p)) → At (take group.path s.path) p a
          by (inl less) = at-taken s.path group.path p a less (is.in_path p a k.1)
          by (inr more) = let d = at-dropped s.path group.path p a more (is.in_path p a k.1) in absurd (k.0 d.0 d.1)

      joined-by : (from to : ℕ) (a b : Spot) → ((from < group.path) × At s.path from a) → ((to < group.path) × At s.path to b) → Reaches others from to → connects links a b ≡ true
      joined-by from to a b h k r = is.joined from to a b h.1 k.1 (λ m g x le. by m g le (or-top m g x))
        where
          by : (m : ℕ) (g : Group) → g.path ≤ from → (At others m g ⊎ (group ≡ g)) → g.path ≤ to
          by m g le (inl x) = r m g x le
          by m g le (inr x) = absurd (omega (arith, ap (λ (g : Group). g.path) x, h.0))

      led-by : (p : ℕ) (end : Spot) → p < group.path → Led s p end → Led (closed group (record s { groups = others })) p end
      led-by p end low (to_settled n e) = to_settled n (stays end n e)
      led-by p end low (to_path q x r) = by (cases_lt q group.path)
        where
          by : ((q < group.path) ⊎ (group.path ≤ q)) → Led (closed group (record s { groups = others })) p end
          by (inl less) = to_path q (at-taken s.path group.path q end less x) (λ m g y. r m g (also m g y))
          by (inr more) = to_settled (length s.settled) (settles q end x more)
      led-by p end low (to_pending q x r) = to_pending q x (λ m g y. r m g (also m g y))

      done-new : (link : Link) (p : ℕ) → group.path ≤ p → At s.path p link.from → Led s p link.to → IsClosed links (with_settled s.marks (drop group.path s.path) (length s.settled)) link (length s.settled)
      done-new link p le h (to_settled n e) =
          let less : n < (length s.settled) = is.numbered link.to n e in
          record { last = n; is_settled = stays link.to n e; not_later = omega arith; leads_back = λ f. absurd (omega arith) }
      done-new link p le h (to_path q x r) = record {
        last = (length s.settled);
        is_settled = settles q link.to x (r (length others) group top le);
        not_later = omega arith;
        leads_back = λ f. is.joined q p link.to link.from x h (λ m g y l. omega (arith, (below m g y).0));
      }
      done-new link p le h (to_pending q x r) = absurd (omega (arith, r (length others) group top le, at-within s.pending q link.to x))

      done-by : (link : Link) → Among links link → (n : ℕ)
          → (((q : ℕ) × At (drop group.path s.path) q link.from × (Some (Settled n) ≡ Some (Settled (length s.settled)))) ⊎ (((q : ℕ) → At (drop group.path s.path) q link.from → ⊥) × (mark_of s.marks link.from ≡ Some (Settled n)))) → IsClosed links (with_settled s.marks (drop group.path s.path) (length s.settled)) link n
      done-by link among n (inl k) =
          let d = at-drop s.path group.path k.0 link.from k.1 in
          subst (λ m. IsClosed links (with_settled s.marks (drop group.path s.path) (length s.settled)) link m) (sym (number-of n (length s.settled) (some-of _ _ k.2))) (done-new link d.0 d.1 d.2 (is.led link among d.0 d.2))
      done-by link among n (inr k) =
          let c : IsClosed links s.marks link n = is.done link among n k.1 in
          record { last = c.last; is_settled = stays link.to c.last c.is_settled; not_later = c.not_later; leads_back = c.leads_back }

      numbered-by : (a : Spot) (n : ℕ) → (((q : ℕ) × At (drop group.path s.path) q a × (Some (Settled n) ≡ Some (Settled (length s.settled)))) ⊎ (((q : ℕ) → At (drop group.path s.path) q a → ⊥) × (mark_of s.marks a ≡ Some (Settled n)))) → n < length (s.settled ++ (drop group.path s.path))
      numbered-by a n (inl k) = omega (arith, number-of n (length s.settled) (some-of _ _ k.2), length-append s.settled (drop group.path s.path), at-within (drop group.path s.path) k.0 a k.1)
      numbered-by a n (inr k) = omega (arith, is.numbered a n k.1, length-append s.settled (drop group.path s.path))

      shorter : (p : ℕ) → p < group.path → p < length (take group.path s.path)
      shorter p less =
          let here = at-some s.path p (omega (arith, (is.within (length others) group top).0)) in
          at-within (take group.path s.path) p here.0 (at-taken s.path group.path p here.0 less here.1)

      no-path : others ≡ [] → take group.path s.path ≡ []
      no-path e =
          let first : group.path ≡ 0 = is.bottom group (subst (λ n. At s.groups n group) (ap length e) top) in
          ap (λ n. take n s.path) first ∙ take-none s.path

      known-by : (a : Spot) → Known s.marks s.pending a → Known (with_settled s.marks (drop group.path s.path) (length s.settled)) s.pending a
      known-by a (met m e) = by (settled-either s.marks (drop group.path s.path) (length s.settled) a (mark_of (with_settled s.marks (drop group.path s.path) (length s.settled)) a) refl)
        where
          by : (((q : ℕ) × At (drop group.path s.path) q a × (mark_of (with_settled s.marks (drop group.path s.path) (length s.settled)) a ≡ Some (Settled (length s.settled)))) ⊎ (((q : ℕ) → At (drop group.path s.path) q a → ⊥) × (mark_of s.marks a ≡ mark_of (with_settled s.marks (drop group.path s.path) (length s.settled)) a))) → Known (with_settled s.marks (drop group.path s.path) (length s.settled)) s.pending a
          by (inl k) = met (Settled (length s.settled)) k.2
          by (inr k) = met m (sym k.1 ∙ e)
      known-by a (awaited q x) = awaited q x

-- where no group is open
module _ (links : List Link) (s : Search) (is : IsSearch links s) (no_groups : s.groups ≡ []) where
  no-group : (at : ℕ) (group : Group) → At s.groups at group → ⊥
  no-group at group h = subst (λ gs. At gs at group) no_groups h

  no-spot : (place : ℕ) (spot : Spot) → At s.path place spot → ⊥
  no-spot place spot h = subst (λ l. At l place spot) (is.empty no_groups) h

  pub IsSearch-passed_by : (front : List Spot) (spot : Spot) → s.pending ≡ front ++ spot ∷ [] → is_some (mark_of s.marks spot) ≡ true → IsSearch links (record s { pending = front })
  IsSearch-passed_by front spot are some = record {
    on_path = is.on_path;
    in_path = is.in_path;
    joined = is.joined;
    waiting = λ m g a p b x y le z. absurd (no-group m g x);
    led = λ link among p x. absurd (no-spot p link.from x);
    done = is.done;
    numbered = is.numbered;
    rising = is.rising;
    within = λ m g x. absurd (no-group m g x);
    bottom = is.bottom;
    empty = is.empty;
    known = λ link among. known-by link.from (is.known link among);
    ends = λ p a x. is.ends p a (before-last s.pending front spot are p a x);
  }
    where
      known-some : (found : Option Mark) → mark_of s.marks spot ≡ found → is_some found ≡ true → Known s.marks front spot
      known-some None e h = cc
      known-some (Some m) e h = met m e

      known-by : (a : Spot) → Known s.marks s.pending a → Known s.marks front a
      known-by a (met m e) = met m e
      known-by a (awaited q x) = pend (or-last s.pending front spot are q a x)
        where
          pend : (At front q a ⊎ ((q ≡ length front) × (spot ≡ a))) → Known s.marks front a
          pend (inl k) = awaited q k
          pend (inr k) = subst (λ z. Known s.marks front z) k.1 (known-some (mark_of s.marks spot) refl some)

  pub IsSearch-entered_next : (targets : List (Spot × List Spot)) (front : List Spot) (spot : Spot) → AreTargets links targets → s.pending ≡ front ++ spot ∷ [] → mark_of s.marks spot ≡ None
      → IsSearch links (entered targets spot (record s { pending = front }))
  IsSearch-entered_next targets front spot good are none =
      IsSearch-entered links s is targets spot front good none are (λ m g x. absurd (no-group m g x)) (λ p a x. absurd (no-spot p a x))

-- the beginning
from-at : (links : List Link) (link : Link) → Among links link → (place : ℕ) × At (map (λ l. l.from) links) place link.from
from-at [] link h = absurd h
from-at (first ∷ links) link (inl e) = (0, ap (λ (l : Link). l.from) e)
from-at (first ∷ links) link (inr h) = let k = from-at links link h in (suc k.0, k.1)

ends-at : (links : List Link) (place : ℕ) (spot : Spot) → At (map (λ l. l.from) links) place spot → Ends links spot
ends-at [] place spot h = absurd h
ends-at (first ∷ links) zero spot h = inl h
ends-at (first ∷ links) (suc place) spot h = inr (inr (ends-at links place spot h))

none-some : {A : Type 0} (x : A) → None ≡ Some x → ⊥
none-some x e = cc

pub IsSearch-begun : (links : List Link) → IsSearch links (begun links)
IsSearch-begun links = record {
  on_path = λ p a h. absurd h;
  in_path = λ p a h. absurd (none-some (OnPath p) h);
  joined = λ from to a b h k r. absurd h;
  waiting = λ m g a p b h. absurd h;
  led = λ link among p h. absurd h;
  done = λ link among n h. absurd (none-some (Settled n) h);
  numbered = λ a n h. absurd (none-some (Settled n) h);
  rising = λ m n g k h. absurd h;
  within = λ m g h. absurd h;
  bottom = λ g h. absurd h;
  empty = λ e. refl;
  known = λ link among. let k = from-at links link among in awaited k.0 k.1;
  ends = λ p a h. ends-at links p a h;
}

-- the steps
pub steps-on : (targets : List (Spot × List Spot)) (s mid new : Search) (others : List Group) (group : Group) → s.groups ≡ others ++ group ∷ [] → mid ≡ record s { groups = others } → WentOn targets group mid new
    → Steps targets s new
steps-on targets s mid new others group are_groups mid-is went = λ links good is. by links good is (subst (λ m. WentOn targets group m new) mid-is went)
  where
    whole : (pending : List Spot) → record s { groups = others ++ group ∷ []; pending = pending } ≡ record s { pending = pending }
    whole pending = ap (λ gs. record s { groups = gs; pending = pending }) (sym are_groups)

    by : (links : List Link) → AreTargets links targets → IsSearch links s → WentOn targets group (record s { groups = others }) new → IsSearch links new
    by links good is (closes full e) = subst (IsSearch links) (sym e) (IsSearch-closed links s is others group are_groups full)
    by links good is (merges front spot at unread are mark low e) =
        subst (IsSearch links) (sym (e ∙ ap (λ l. record s { groups = others; pending = l }) (sym are)))
        (IsSearch-merged links s is others group are_groups spot (length front) at (omega (arith, one-more s.pending front spot are)) (last-pending s.pending front spot are) mark low)
    by links good is (passes front spot unread are passed e) =
        subst (IsSearch links) (sym (e ∙ whole front)) (IsSearch-passed links s is others group are_groups front spot are unread passed)
    by links good is (enters front spot unread are none e) =
        subst (IsSearch links) (sym (e ∙ ap (entered targets spot) (whole front))) (IsSearch-entered_on links s is others group are_groups targets front spot good are unread none)

pub steps-next : (targets : List (Spot × List Spot)) (s new : Search) → s.groups ≡ [] → WentToNext targets s new → Steps targets s new
steps-next targets s new no_groups (passes_by front spot are some e) = λ links good is. subst (IsSearch links) (sym e) (IsSearch-passed_by links s is no_groups front spot are some)
steps-next targets s new no_groups (enters_next front spot are none e) = λ links good is. subst (IsSearch links) (sym e) (IsSearch-entered_next links s is no_groups targets front spot good are none)

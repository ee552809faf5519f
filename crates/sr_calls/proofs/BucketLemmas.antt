-- What a call on one bucket means for all calls.
use Rattle.std.proofs.Common.{◌≡◌, ℕ, ◌<◌, List, [], ◌∷◌, ◌++◌, length, get_or, ◌⊎◌, inl, inr, Option, Some, Result, Ok, Err, OnOk, OnErr, unwrap_or, refl, ap, sym, ◌∙◌, subst}
use Rattle.std.specs.FinMap as map
use Rattle.std.specs.Prelude.{slice_get, slice_set}
use Rattle.sr_buckets.specs.Parts.{AreInPlace, gathered, home}
use Rattle.sr_buckets.proofs.PartLemmas.{IsSet, Sets, at-home, empty-in-place, gathered-same, gathered-set, kept-at, look-at, placed-same, placed-set, set-home}
use Rattle.sr_calls.specs.Buckets.{AreBuckets, called_in}
use Rattle.sr_calls.specs.Calls.{ByProcess, Called, Room, answers_one, is_held_as, items_of, room_of, with_item, with_items, without_first, without_held, without_reply}
use Rattle.sr_calls.specs.declared.held.Held.{Held}
use Rattle.sr_calls.specs.declared.held.Reply.{Reply}
use Rattle.sr_calls.proofs.ProcessCallsLemmas.{get-with_items, listed, no_room}

pub buckets-empty : (buckets : List Called) → length buckets ≡ 32 → ((i : ℕ) (b : Called) → slice_get buckets i ≡ Some b → (b.held ≡ map.empty) × (b.replies ≡ map.empty)) → AreBuckets buckets
buckets-empty buckets all empty = record {
  all = all;
  held = empty-in-place (λ b. b.held) buckets (λ i b at. (empty i b at).0);
  replies = empty-in-place (λ b. b.replies) buckets (λ i b at. (empty i b at).1);
}

-- the room of a process is that in its bucket
pub room-look : (buckets : List Called) (q : ℕ) (b : Called) → slice_get buckets (home q) ≡ Some b → room_of (called_in buckets) q ≡ room_of b q
room-look buckets q b at = ap (λ o. unwrap_or o no_room) (look-at (λ c. c.room) buckets q b at)

-- the bucket of a process is another now
pub record Turns (old new : List Called) (calls : Called) (p : ℕ) (was bucket : Called) : Type 0 where
  pub seen : called_in old ≡ calls
  pub placed : AreBuckets old
  pub at : slice_get old (home p) ≡ Some was
  pub set : IsSet old new (home p) bucket

pub turned : (old : List Called) (calls : Called) (p i : ℕ) (other bucket : Called) → called_in old ≡ calls → AreBuckets old → i ≡ home p
    → Turns old (slice_set old i bucket) calls p (get_or old i other) bucket
turned old calls p i other bucket seen placed is = record {
  seen = seen;
  placed = placed;
  at = at-home old p i placed.all is other;
  set = set-home old p i placed.all is bucket;
}

-- what was meant came of it, or nothing did
pub either-way : {T E : Type 0} {P Q X : Type 0} (r : Result T E) → OnOk r P → OnErr r Q → (P → X) → (Q → X) → X
either-way (Ok x) ok err f g = f ok
either-way (Err e) ok err f g = g err

module _ (old : List Called) (calls : Called) (p : ℕ) (was : Called) (seen : called_in old ≡ calls) (at : slice_get old (home p) ≡ Some was) where
  -- what stands in the bucket is what stands there
  pub held-at : items_of was.held p ≡ items_of calls.held p
  held-at = ap (λ o. unwrap_or o []) (sym (look-at (λ c. c.held) old p was at)) ∙ ap (λ c. items_of c.held p) seen

  pub replies-at : items_of was.replies p ≡ items_of calls.replies p
  replies-at = ap (λ o. unwrap_or o []) (sym (look-at (λ c. c.replies) old p was at)) ∙ ap (λ c. items_of c.replies p) seen

module _ (old new : List Called) (calls : Called) (p : ℕ) (was bucket : Called) (t : Turns old new calls p was bucket) where
  -- ---- lists

  module _ {A : Type 0} (list : Called → ByProcess (List A)) where
    sets : (xs : List A) → list bucket ≡ with_items (list was) p xs → Sets p (listed xs) (list was) (list bucket)
    sets xs is q = ap (λ (m : ByProcess (List A)). map.get m q) is ∙ get-with_items (list was) p xs q

    list-set : (xs : List A) → gathered list old ≡ list calls → list bucket ≡ with_items (list was) p xs → gathered list new ≡ with_items (list calls) p xs
    list-set xs whole is =
        gathered-set list old new (home p) was bucket t.at t.set p refl (listed xs) (sets xs is) (with_items (list calls) p xs)
        (λ q. ap (λ (m : ByProcess (List A)). map.get (with_items m p xs) q) (sym whole) ∙ get-with_items (gathered list old) p xs q)

    list-placed : (xs : List A) → list bucket ≡ with_items (list was) p xs → AreInPlace list old → AreInPlace list new
    list-placed xs is placed = placed-set list old new (home p) was bucket t.at t.set p refl (listed xs) (sets xs is) placed

    list-same : gathered list old ≡ list calls → list bucket ≡ list was → gathered list new ≡ list calls
    list-same whole same = gathered-same list old new (home p) was bucket t.at t.set same ∙ whole

    list-placed-same : list bucket ≡ list was → AreInPlace list old → AreInPlace list new
    list-placed-same same placed = placed-same list old new (home p) was bucket t.at t.set same placed

  pub held-was : items_of was.held p ≡ items_of calls.held p
  held-was = held-at old calls p was t.seen t.at

  pub replies-were : items_of was.replies p ≡ items_of calls.replies p
  replies-were = replies-at old calls p was t.seen t.at

  pub held-same : bucket.held ≡ was.held → (called_in new).held ≡ calls.held
  held-same same = list-same (λ c. c.held) (ap (λ c. c.held) t.seen) same

  pub replies-same : bucket.replies ≡ was.replies → (called_in new).replies ≡ calls.replies
  replies-same same = list-same (λ c. c.replies) (ap (λ c. c.replies) t.seen) same

  pub held-more : (held : Held) → bucket.held ≡ with_item was.held p held → (called_in new).held ≡ with_item calls.held p held
  held-more held is =
      list-set (λ c. c.held) (items_of was.held p ++ held ∷ []) (ap (λ c. c.held) t.seen) is
      ∙ ap (λ xs. with_items calls.held p (xs ++ held ∷ [])) held-was

  pub held-less : (id : ℕ) → bucket.held ≡ without_held was.held p id → (called_in new).held ≡ without_held calls.held p id
  held-less id is =
      list-set (λ c. c.held) (without_first (is_held_as id) (items_of was.held p)) (ap (λ c. c.held) t.seen) is
      ∙ ap (λ xs. with_items calls.held p (without_first (is_held_as id) xs)) held-was

  pub replies-more : (reply : Reply) → bucket.replies ≡ with_item was.replies p reply → (called_in new).replies ≡ with_item calls.replies p reply
  replies-more reply is =
      list-set (λ c. c.replies) (items_of was.replies p ++ reply ∷ []) (ap (λ c. c.replies) t.seen) is
      ∙ ap (λ xs. with_items calls.replies p (xs ++ reply ∷ [])) replies-were

  pub replies-less : (ids : List ℕ) → bucket.replies ≡ without_reply was.replies p ids → (called_in new).replies ≡ without_reply calls.replies p ids
  replies-less ids is =
      list-set (λ c. c.replies) (without_first (answers_one ids) (items_of was.replies p)) (ap (λ c. c.replies) t.seen) is
      ∙ ap (λ xs. with_items calls.replies p (without_first (answers_one ids) xs)) replies-were

  pub held-none : bucket.held ≡ map.remove was.held p → (called_in new).held ≡ map.remove calls.held p
  held-none is = list-set (λ c. c.held) [] (ap (λ c. c.held) t.seen) is

  pub replies-none : bucket.replies ≡ map.remove was.replies p → (called_in new).replies ≡ map.remove calls.replies p
  replies-none is = list-set (λ c. c.replies) [] (ap (λ c. c.replies) t.seen) is

  -- each bucket keeps to its part
  pub placed-by : (held : List Held) (replies : List Reply) → (bucket.held ≡ was.held) ⊎ (bucket.held ≡ with_items was.held p held) → (bucket.replies ≡ was.replies) ⊎ (bucket.replies ≡ with_items was.replies p replies)
      → AreBuckets new
  placed-by held replies held-is replies-is = record { all = t.set.long ∙ t.placed.all; held = by-held held-is; replies = by-replies replies-is }
    where
      by-held : (bucket.held ≡ was.held) ⊎ (bucket.held ≡ with_items was.held p held) → AreInPlace (λ c. c.held) new
      by-held (inl same) = list-placed-same (λ c. c.held) same t.placed.held
      by-held (inr is) = list-placed (λ c. c.held) held is t.placed.held

      by-replies : (bucket.replies ≡ was.replies) ⊎ (bucket.replies ≡ with_items was.replies p replies) → AreInPlace (λ c. c.replies) new
      by-replies (inl same) = list-placed-same (λ c. c.replies) same t.placed.replies
      by-replies (inr is) = list-placed (λ c. c.replies) replies is t.placed.replies

  -- a bucket that is as it was
  pub all-same : bucket ≡ was → called_in new ≡ calls
  all-same same =
      let held : gathered (λ c. c.held) new ≡ gathered (λ c. c.held) old = gathered-same (λ c. c.held) old new (home p) was bucket t.at t.set (ap (λ c. c.held) same) in
      let replies : gathered (λ c. c.replies) new ≡ gathered (λ c. c.replies) old = gathered-same (λ c. c.replies) old new (home p) was bucket t.at t.set (ap (λ c. c.replies) same) in
      let room : gathered (λ c. c.room) new ≡ gathered (λ c. c.room) old = gathered-same (λ c. c.room) old new (home p) was bucket t.at t.set (ap (λ c. c.room) same) in
      let made : ByProcess (List Held) → ByProcess (List Reply) → ByProcess Room → Called = λ h r s. record { held = h; replies = r; room = s } in
      ap (λ h. made h (gathered (λ c. c.replies) new) (gathered (λ c. c.room) new)) held
      ∙ ap (λ r. made (gathered (λ c. c.held) old) r (gathered (λ c. c.room) new)) replies
      ∙ ap (λ s. made (gathered (λ c. c.held) old) (gathered (λ c. c.replies) old) s) room
      ∙ t.seen

  -- ---- room

  pub room-was : room_of calls p ≡ room_of was p
  room-was = ap (λ c. room_of c p) (sym t.seen) ∙ room-look old p was t.at

  pub room-is : room_of (called_in new) p ≡ room_of bucket p
  room-is = room-look new p bucket t.set.here

  -- a process that has room in its bucket has it
  pub keeps : (test : Room → ℕ) (q : ℕ) → (0 < test (room_of was q) → 0 < test (room_of bucket q)) → 0 < test (room_of calls q) → 0 < test (room_of (called_in new) q)
  keeps test q kept can =
      kept-at (λ c. c.room) old new (home p) was bucket t.at t.set (λ (o : Option Room). 0 < test (unwrap_or o no_room)) q kept (subst (λ c. 0 < test (room_of c q)) (sym t.seen) can)

-- Dividing what comes apart of a world, and joining it.
use Rattle.std.proofs.Common.{◌≡◌, ◌≢◌, ℕ, zero, suc, ◌+◌, ◌<◌, ◌≤◌, ◌%◌, ◌==◌, ◌⊎◌, inl, inr, Bool, true, false, List, [], ◌∷◌, ◌++◌, length, Some, None, refl, ap, sym, ◌∙◌, subst, cond, arith, eqb-true, true≢false}
use Rattle.std.proofs.lemmas.Bool.{eq-eqb}
use Rattle.std.proofs.lemmas.List.{map_more, take_all}
use Rattle.std.proofs.lemmas.Option.{get_or_from_slice_get, slice_get_within}
use Rattle.std.specs.FinMap as map
use Rattle.std.specs.Cmp.{nat_cmp_total}
use Rattle.std.specs.Prelude.{filter, map as each, slice_get, slice_set, take}
use Rattle.sr_buckets.specs.Parts.{ByNumber, home, part}
use Rattle.sr_buckets.proofs.PartLemmas.{get-part, is-set, same-parts}
use Rattle.sr_calls.specs.Calls.{Called}
use Rattle.sr_orders.proofs.ListLemmas.{filter_twice}
use Rattle.sr_queue.specs.Dividing.{AreInOrder, AreParts, items_in}
use Rattle.sr_queue.specs.Queues.{Queued}
use Rattle.sr_queue.specs.declared.pending.Pending.{Pending}
use Rattle.sr_store.specs.Variables.{Stored}
use Rattle.sr_touch.specs.Homes.{owner_number}
use Rattle.sr_world.specs.Worlds.{World}
use Rattle.sr_shard.specs.Dividing.{AreInPlace, HasPart, HasPartsFrom, IsTaken, KeepsOthers, Moved, line_of, moved_in, moved_part, moved_to, with_moved, with_portion}
use Rattle.sr_shard.specs.Masks.{mask}
use Rattle.sr_shard.specs.Shards.{AreNumbered, AreOpened, IsGathered, IsJoined, IsOpened, Opened, Sharded}
use Rattle.sr_shard.specs.declared.divided.Divided.{Divided}
use Rattle.sr_shard.specs.declared.portion.Portion.{Portion}

-- ---- a part of a part

part_twice : {A : Type 0} (i : ℕ) (all : ByNumber A) → part i (part i all) ≡ part i all
part_twice {A} i all = map.same_map nat_cmp_total map.nat_cmp-IsAntisymmetric (part i (part i all)) (part i all) (λ q. get-part i (part i all) q ∙ by q (home q == i) refl)
  where
    by : (q : ℕ) (b : Bool) → (home q == i) ≡ b → cond b (map.get (part i all) q) None ≡ map.get (part i all) q
    by q true is = refl
    by q false is = sym (get-part i all q ∙ ap (λ c. cond c (map.get all q) None) is)

pub moved_twice : (class : ℕ → ℕ) (s : ℕ) (moved : Moved) → moved_part class s (moved_part class s moved) ≡ moved_part class s moved
moved_twice class s moved = λ k. record {
  variables = part_twice s moved.variables k;
  pending = filter_twice (λ p. line_of class p == s) moved.pending k;
  held = part_twice s moved.held k;
  replies = part_twice s moved.replies k;
}

pub masked_twice : (class : ℕ → ℕ) (s : ℕ) (world : World) → mask class s (mask class s world) ≡ mask class s world
masked_twice class s world = λ k. record (mask class s world) {
  live = filter_twice (λ start. home start.process == s) world.live k;
  variables = part_twice s world.variables k;
  pending = filter_twice (λ p. line_of class p == s) world.pending k;
  held = part_twice s world.held k;
  replies = part_twice s world.replies k;
}

-- ---- the parts of what is pending

home_twice : (n : ℕ) → (n % 32) % 32 ≡ n % 32
home_twice n = omega arith

items_in-lines : (class : ℕ → ℕ) (i : ℕ) (items : List Pending) → items_in i (each (line_of class) items) items ≡ filter (λ p. line_of class p == i) items
items_in-lines class i [] = refl
items_in-lines class i (x ∷ xs) =
    ap (λ n. cond (n == i) (x ∷ items_in i (each (line_of class) xs) xs) (items_in i (each (line_of class) xs) xs)) (home_twice (owner_number x.owner + 1 + class x.op))
    ∙ ap (λ (l : List Pending). cond (line_of class x == i) (x ∷ l) l) (items_in-lines class i xs)

pub length-lines : (class : ℕ → ℕ) (items : List Pending) → length (each (line_of class) items) ≡ length items
length-lines class [] = refl
length-lines class (x ∷ xs) = ap suc (length-lines class xs)

-- ---- places

module _ {A : Type 0} where
  pub set_other : (xs : List A) (i k : ℕ) (x : A) → k ≢ i → slice_get (slice_set xs i x) k ≡ slice_get xs k
  set_other [] i k x off = refl
  set_other (y ∷ ys) zero zero x off = absurd (off refl)
  set_other (y ∷ ys) zero (suc k) x off = refl
  set_other (y ∷ ys) (suc i) zero x off = refl
  set_other (y ∷ ys) (suc i) (suc k) x off = set_other ys i k x (λ e. off (ap suc e))

  pub at_place : (xs : List A) (i : ℕ) → i < length xs → (x : A) × (slice_get xs i ≡ Some x)
  at_place [] i less = absurd (omega arith)
  at_place (y ∷ ys) zero less = (y, refl)
  at_place (y ∷ ys) (suc i) less = at_place ys i (omega arith)

  pub last_at : (xs : List A) (x : A) → slice_get (xs ++ x ∷ []) (length xs) ≡ Some x
  last_at [] x = refl
  last_at (y ∷ ys) x = last_at ys x

  pub before_last : (xs : List A) (x y : A) (i : ℕ) → slice_get xs i ≡ Some y → slice_get (xs ++ x ∷ []) i ≡ Some y
  before_last [] x y i is = absurd (cc is)
  before_last (z ∷ zs) x y zero is = is
  before_last (z ∷ zs) x y (suc i) is = before_last zs x y i is

  pub pushed_at : (xs : List A) (x y : A) (i : ℕ) → slice_get (xs ++ x ∷ []) i ≡ Some y → (slice_get xs i ≡ Some y) ⊎ ((i ≡ length xs) × (x ≡ y))
  pushed_at [] x y zero is = inr (refl, cc)
  pushed_at [] x y (suc i) is = absurd (cc is)
  pushed_at (z ∷ zs) x y zero is = inl is
  pushed_at (z ∷ zs) x y (suc i) is = by (pushed_at zs x y i is)
    where
      by : (slice_get zs i ≡ Some y) ⊎ ((i ≡ length zs) × (x ≡ y)) → (slice_get zs i ≡ Some y) ⊎ ((suc i ≡ length (z ∷ zs)) × (x ≡ y))
      by (inl e) = inl e
      by (inr e) = inr (let same = e.0 in omega arith, e.1)

abbrev pub moved_joined : Stored → List Pending → Called → Moved
moved_joined blocks items calls = record { variables = blocks.variables; pending = items; held = calls.held; replies = calls.replies }

-- ---- one part is taken out, or put in its place

module _ (class : ℕ → ℕ) where
  pub from_more : (moved : Moved) (n : ℕ) (old new : Divided) → HasPartsFrom n class moved old → KeepsOthers n old new → HasPartsFrom (n + 1) class moved new
  from_more moved n old new from others = λ i more less.
      let off : i ≢ n = omega arith in
      let was = from i (omega arith) less in
      record {
        variables = λ b at. was.variables b (sym (others.blocks i off) ∙ at);
        pending = λ q at. was.pending q (sym (others.queues i off) ∙ at);
        held = λ b at. was.held b (sym (others.calls i off) ∙ at);
        replies = λ b at. was.replies b (sym (others.calls i off) ∙ at);
      }

  pub taken_part : (moved : Moved) (n : ℕ) (divided : Divided) (portion : Portion) → n < 32 → HasPartsFrom n class moved divided → IsTaken divided n portion
      → moved_to portion ≡ moved_part class portion.number moved
  taken_part moved n divided portion less from taken =
      let here = from n (omega arith) less in
      subst (λ i. moved_to portion ≡ moved_part class i moved) (sym taken.number)
      (λ k. record {
        variables = here.variables portion.blocks taken.blocks k;
        pending = here.pending portion.queue taken.queue k;
        held = here.held portion.calls taken.calls k;
        replies = here.replies portion.calls taken.calls k;
      })

  put_here : (moved : Moved) (divided : Divided) (portion : Portion) → portion.number < length divided.blocks → portion.number < length divided.calls → portion.number < length divided.queues
      → moved_to portion ≡ moved_part class portion.number moved → HasPart class moved (with_portion portion divided) portion.number
  put_here moved divided portion blocks calls queues same = record {
    variables = λ b at. let put = (is-set divided.blocks portion.number portion.blocks blocks).here in let is : portion.blocks ≡ b = cc in ap (λ (s : Stored). s.variables) (sym is) ∙ ap (λ (m : Moved). m.variables) same;
    pending = λ q at. let put = (is-set divided.queues portion.number portion.queue queues).here in let is : portion.queue ≡ q = cc in ap (λ (s : Queued). s.items) (sym is) ∙ ap (λ (m : Moved). m.pending) same;
    held = λ b at. let put = (is-set divided.calls portion.number portion.calls calls).here in let is : portion.calls ≡ b = cc in ap (λ (s : Called). s.held) (sym is) ∙ ap (λ (m : Moved). m.held) same;
    replies = λ b at. let put = (is-set divided.calls portion.number portion.calls calls).here in let is : portion.calls ≡ b = cc in ap (λ (s : Called). s.replies) (sym is) ∙ ap (λ (m : Moved). m.replies) same;
  }

  put_other : (moved : Moved) (divided : Divided) (portion : Portion) (i : ℕ) → i ≢ portion.number → HasPart class moved divided i → HasPart class moved (with_portion portion divided) i
  put_other moved divided portion i off was = record {
    variables = λ b at. was.variables b (sym (set_other divided.blocks portion.number i portion.blocks off) ∙ at);
    pending = λ q at. was.pending q (sym (set_other divided.queues portion.number i portion.queue off) ∙ at);
    held = λ b at. was.held b (sym (set_other divided.calls portion.number i portion.calls off) ∙ at);
    replies = λ b at. was.replies b (sym (set_other divided.calls portion.number i portion.calls off) ∙ at);
  }

  same_part : (one other : Moved) (divided : Divided) (i : ℕ) → moved_part class i one ≡ moved_part class i other → HasPart class one divided i → HasPart class other divided i
  same_part one other divided i same was = record {
    variables = λ b at. was.variables b at ∙ ap (λ (m : Moved). m.variables) same;
    pending = λ q at. was.pending q at ∙ ap (λ (m : Moved). m.pending) same;
    held = λ b at. was.held b at ∙ ap (λ (m : Moved). m.held) same;
    replies = λ b at. was.replies b at ∙ ap (λ (m : Moved). m.replies) same;
  }

  -- the invocations of all places are the parts of those that are pending
  pub are_parts : (moved : Moved) (divided : Divided) → length divided.queues ≡ 32 → HasPartsFrom 0 class moved divided → AreParts divided.queues (each (line_of class) moved.pending) moved.pending
  are_parts moved divided long from = record {
    all = length-lines class moved.pending;
    each = λ i q at. let less : i < 32 = (let inside = slice_get_within divided.queues i q at in omega arith) in (from i (omega arith) less).pending q at ∙ sym (items_in-lines class i moved.pending);
  }

-- ---- all parts

pub divided_parts : (class : ℕ → ℕ) (moved : Moved) (divided : Divided) (numbers : List ℕ) → ((i : ℕ) (b : Stored) → slice_get divided.blocks i ≡ Some b → b.variables ≡ part i moved.variables)
    → ((i : ℕ) (b : Called) → slice_get divided.calls i ≡ Some b → b.held ≡ part i moved.held) → ((i : ℕ) (b : Called) → slice_get divided.calls i ≡ Some b → b.replies ≡ part i moved.replies)
    → numbers ≡ each (line_of class) moved.pending → AreParts divided.queues numbers moved.pending → HasPartsFrom 0 class moved divided
divided_parts class moved divided numbers variables held replies lines parts = λ i from less. record {
  variables = λ b at. variables i b at;
  pending = λ q at. parts.each i q at ∙ ap (λ n. items_in i n moved.pending) lines ∙ items_in-lines class i moved.pending;
  held = λ b at. held i b at;
  replies = λ b at. replies i b at;
}

pub joined_moved : (class : ℕ → ℕ) (moved : Moved) (divided : Divided) (blocks : Stored) (items : List Pending) (calls : Called) → AreInPlace divided
    → ((i : ℕ) (b : Stored) → slice_get divided.blocks i ≡ Some b → part i blocks.variables ≡ b.variables)
    → ((numbers : List ℕ) (all : List Pending) → AreInOrder all → AreParts divided.queues numbers all → items ≡ all)
    → ((i : ℕ) (b : Called) → slice_get divided.calls i ≡ Some b → part i calls.held ≡ b.held) → ((i : ℕ) (b : Called) → slice_get divided.calls i ≡ Some b → part i calls.replies ≡ b.replies)
    → AreInOrder moved.pending → HasPartsFrom 0 class moved divided → moved_joined blocks items calls ≡ moved
joined_moved class moved divided blocks items calls placed variables pending held replies order from = λ k. record {
  variables = same-parts blocks.variables moved.variables (λ i less. let at = at_place divided.blocks i (let l = placed.blocks.all in omega arith) in variables i at.0 at.1 ∙ (from i (omega arith) less).variables at.0 at.1) k;
  pending = pending (each (line_of class) moved.pending) moved.pending order (are_parts class moved divided placed.queues from) k;
  held = same-parts calls.held moved.held (λ i less. let at = at_place divided.calls i (let l = placed.calls.all in omega arith) in held i at.0 at.1 ∙ (from i (omega arith) less).held at.0 at.1) k;
  replies = same-parts calls.replies moved.replies (λ i less. let at = at_place divided.calls i (let l = placed.calls.all in omega arith) in replies i at.0 at.1 ∙ (from i (omega arith) less).replies at.0 at.1) k;
}

pub parts_of_same : (class other : ℕ → ℕ) (moved lent : Moved) (divided : Divided) → class ≡ other → moved ≡ lent → HasPartsFrom 0 class moved divided → HasPartsFrom 0 other lent divided
parts_of_same class other moved lent divided classes same from = subst (λ c. HasPartsFrom 0 c lent divided) classes (subst (λ m. HasPartsFrom 0 class m divided) same from)

-- ---- shards are made one by one

pub record Begun (opened : Opened) (n : ℕ) (divided : Divided) (shards : List Sharded) : Type 0 where
  pub from : HasPartsFrom n opened.class (moved_in opened.world) divided
  pub long : length shards ≡ n
  pub each : (i : ℕ) (shard : Sharded) → slice_get shards i ≡ Some shard → IsOpened opened i shard

pub begun_more : (opened : Opened) (n : ℕ) (divided left : Divided) (shards more : List Sharded) (shard : Sharded) → Begun opened n divided shards → KeepsOthers n divided left
    → IsOpened opened n shard → more ≡ shards ++ shard ∷ [] → Begun opened (n + 1) left more
begun_more opened n divided left shards more shard begun others is pushed = subst (λ all. Begun opened (n + 1) left all) (sym pushed) (record {
  from = from_more opened.class (moved_in opened.world) n divided left begun.from others;
  long = let long = begun.long in let pushed = longer shards in omega arith;
  each = λ i s at. by i s (pushed_at shards shard s i at);
})
  where
    longer : (xs : List Sharded) → length (xs ++ shard ∷ []) ≡ length xs + 1
    longer [] = refl
    longer (x ∷ xs) = let rest = longer xs in omega arith

    by : (i : ℕ) (s : Sharded) → (slice_get shards i ≡ Some s) ⊎ ((i ≡ length shards) × (shard ≡ s)) → IsOpened opened i s
    by i s (inl at) = begun.each i s at
    by i s (inr last) = subst (λ j. IsOpened opened j s) (sym (last.0 ∙ begun.long)) (subst (λ t. IsOpened opened n t) last.1 is)

pub begun_none : (opened : Opened) (divided : Divided) (shards : List Sharded) → HasPartsFrom 0 opened.class (moved_in opened.world) divided → shards ≡ [] → Begun opened 0 divided shards
begun_none opened divided shards from none = record { from = from; long = ap length none; each = λ i s at. absurd (let inside = slice_get_within shards i s at in let long = ap length none in omega arith) }

pub begun_all : (opened : Opened) (n : ℕ) (divided : Divided) (shards : List Sharded) → Begun opened n divided shards → n ≡ 32 → AreOpened opened shards
begun_all opened n divided shards begun all = record { all = begun.long ∙ all; each = begun.each }

-- ---- shards are put back one by one, from the last on

pub record Gathered (class : ℕ → ℕ) (all left : List Sharded) (divided : Divided) : Type 0 where
  pub prefix : (i : ℕ) (shard : Sharded) → slice_get left i ≡ Some shard → slice_get all i ≡ Some shard
  pub blocks : length divided.blocks ≡ 32
  pub calls : length divided.calls ≡ 32
  pub queues : length divided.queues ≡ 32
  pub parts : (i : ℕ) (shard : Sharded) → length left ≤ i → slice_get all i ≡ Some shard → HasPart class (moved_in shard.present) divided i

pub gathered_none : (class : ℕ → ℕ) (all : List Sharded) (divided : Divided) → length divided.blocks ≡ 32 → length divided.calls ≡ 32 → length divided.queues ≡ 32 → Gathered class all all divided
gathered_none class all divided blocks calls queues = record {
  prefix = λ i shard at. at;
  blocks = blocks;
  calls = calls;
  queues = queues;
  parts = λ i shard from at. absurd (let inside = slice_get_within all i shard at in omega arith);
}

length_set : {A : Type 0} (xs : List A) (i : ℕ) (x : A) → length (slice_set xs i x) ≡ length xs
length_set [] i x = refl
length_set (y ∷ ys) zero x = refl
length_set (y ∷ ys) (suc i) x = ap suc (length_set ys i x)

pub gathered_more : (class : ℕ → ℕ) (all left less : List Sharded) (shard : Sharded) (portion : Portion) (divided : Divided) → AreNumbered all → Gathered class all left divided → left ≡ less ++ shard ∷ []
    → portion.number ≡ shard.number → portion.number < 32 → moved_to portion ≡ moved_in shard.present → mask class shard.number shard.present ≡ shard.present
    → Gathered class all less (with_portion portion divided)
gathered_more class all left less shard portion divided numbered was last number within moved part_of = record {
  prefix = λ i s at. was.prefix i s (subst (λ l. slice_get l i ≡ Some s) (sym last) (before_last less shard s i at));
  blocks = length_set divided.blocks portion.number portion.blocks ∙ was.blocks;
  calls = length_set divided.calls portion.number portion.calls ∙ was.calls;
  queues = length_set divided.queues portion.number portion.queue ∙ was.queues;
  parts = λ i s from at. by i s from at (i == length less) refl;
}
  where
    here : slice_get all (length less) ≡ Some shard
    here = was.prefix (length less) shard (subst (λ l. slice_get l (length less) ≡ Some shard) (sym last) (last_at less shard))

    its_place : portion.number ≡ length less
    its_place = number ∙ numbered.each (length less) shard here

    its_part : moved_to portion ≡ moved_part class portion.number (moved_in shard.present)
    its_part = moved ∙ subst (λ n. moved_in shard.present ≡ moved_part class n (moved_in shard.present)) (sym number) (ap moved_in (sym part_of))

    put : HasPart class (moved_in shard.present) (with_portion portion divided) portion.number
    put = put_here class (moved_in shard.present) divided portion (let l = was.blocks in omega arith) (let l = was.calls in omega arith) (let l = was.queues in omega arith) its_part

    longer : (xs : List Sharded) → length (xs ++ shard ∷ []) ≡ length xs + 1
    longer [] = refl
    longer (x ∷ xs) = let rest = longer xs in omega arith

    by : (i : ℕ) (s : Sharded) → length less ≤ i → slice_get all i ≡ Some s → (b : Bool) → (i == length less) ≡ b → HasPart class (moved_in s.present) (with_portion portion divided) i
    by i s from at true is =
        let same : i ≡ length less = eqb-true i (length less) is in
        let read : slice_get all (length less) ≡ Some s = ap (slice_get all) (sym same) ∙ at in
        let one : shard ≡ s = cc here in
        subst (λ j. HasPart class (moved_in s.present) (with_portion portion divided) j) (its_place ∙ sym same)
        (subst (λ (t : Sharded). HasPart class (moved_in t.present) (with_portion portion divided) portion.number) one put)
    by i s from at false is =
        let off : i ≢ length less = λ e. true≢false (sym (eq-eqb i (length less) e) ∙ is) in
        let long = longer less in
        let left_is = ap length last in
        put_other class (moved_in s.present) divided portion i (λ e. off (e ∙ its_place)) (was.parts i s (omega arith) at)

pub in_place : (class : ℕ → ℕ) (all left : List Sharded) (divided : Divided) → AreNumbered all → Gathered class all left divided → left ≡ [] → AreInPlace divided
in_place class all left divided numbered was none = record {
  blocks = record { all = was.blocks; variables = λ i b at. let p = found i (within divided.blocks i b at was.blocks) in ap (part i) (p.variables b at) ∙ part_twice i _ ∙ sym (p.variables b at) };
  calls = record {
    all = was.calls;
    held = λ i b at. let p = found i (within divided.calls i b at was.calls) in ap (part i) (p.held b at) ∙ part_twice i _ ∙ sym (p.held b at);
    replies = λ i b at. let p = found i (within divided.calls i b at was.calls) in ap (part i) (p.replies b at) ∙ part_twice i _ ∙ sym (p.replies b at);
  };
  queues = was.queues;
}
  where
    within : {A : Type 0} (xs : List A) (i : ℕ) (x : A) → slice_get xs i ≡ Some x → length xs ≡ 32 → i < length all
    within xs i x at long = let inside = slice_get_within xs i x at in let l = numbered.all in omega arith

    found : (i : ℕ) (less : i < length all) → HasPart class (moved_in (at_place all i less).0.present) divided i
    found i less = let left_is = ap length none in was.parts i (at_place all i less).0 (omega arith) (at_place all i less).1

pub is_gathered : (class : ℕ → ℕ) (all left : List Sharded) (divided : Divided) → Gathered class all left divided → left ≡ [] → IsGathered class all divided
is_gathered class all left divided was none = λ i s at. was.parts i s (let left_is = ap length none in omega arith) at

-- ---- the world that shards have

pub joined_parts : (class : ℕ → ℕ) (rest world : World) (shards : List Sharded) (divided : Divided) → AreNumbered shards → IsGathered class shards divided → IsJoined class rest shards world
    → HasPartsFrom 0 class (moved_in world) divided
joined_parts class rest world shards divided numbered gathered joined = λ i from less.
    let at = at_place shards i (let l = numbered.all in omega arith) in
    same_part class (moved_in at.0.present) (moved_in world) divided i (ap (λ w. moved_part class i (moved_in w)) (sym (joined.parts i at.0 at.1)) ∙ moved_twice class i (moved_in world)) (gathered i at.0 at.1)

pub joined_world : (class : ℕ → ℕ) (rest world : World) (shards : List Sharded) (moved : Moved) → IsJoined class rest shards world → moved ≡ moved_in world → with_moved moved rest ≡ world
joined_world class rest world shards moved joined same = λ k. with_moved (same k) (sym joined.rest k)

-- ---- the numbers of lines

pub lines_more : (class : ℕ → ℕ) (items : List Pending) (i : ℕ) (x : Pending) → slice_get items i ≡ Some x → each (line_of class) (take (i + 1) items) ≡ each (line_of class) (take i items) ++ line_of class x ∷ []
lines_more class items i x at =
    map_more (line_of class) items i x (slice_get_within items i x at) ∙ ap (λ (y : Pending). each (line_of class) (take i items) ++ line_of class y ∷ []) (get_or_from_slice_get items i x x at)

pub lines_all : (class : ℕ → ℕ) (items : List Pending) (n : ℕ) → length items ≤ n → each (line_of class) (take n items) ≡ each (line_of class) items
lines_all class items n long = ap (each (line_of class)) (take_all n items long)

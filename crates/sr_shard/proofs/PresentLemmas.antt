-- Changes of what a part has.
use Rattle.std.proofs.Common.{◌≡◌, ◌≢◌, ℕ, ◌+◌, ◌<◌, ◌≤◌, ◌==◌, ◌&&◌, ◌||◌, Bool, true, false, not, List, [], ◌∷◌, ◌++◌, length, Option, Some, None, Result, Ok, Err, refl, ap, sym, ◌∙◌, subst, cond, arith, eqb-true, true≢false, nat_eq}
use Rattle.std.proofs.lemmas.Bool.{eq-eqb}
use Rattle.std.proofs.lemmas.List.Folds.{list_any-append}
use Rattle.std.specs.FinMap as map
use Rattle.std.specs.HashSet.{HashSet, spare}
use Rattle.std.specs.declared.hash.BuildHasherDefault.{BuildHasherDefault}
use Rattle.std.specs.declared.hash.FoldHasher.{FoldHasher}
use Rattle.std.specs.List.{list_any}
use Rattle.std.specs.Prelude.{filter, is_some}
use Rattle.indexmap.specs.IndexSet.{insert_key}
use Rattle.sr_ask.specs.declared.start.Start.{Start}
use Rattle.sr_buckets.specs.Parts.{home}
use Rattle.sr_calls.specs.Calls.{Called, CanAnswer, CanHold, KeepsAnswers, KeepsHolds, KeepsOtherAnswers, with_item, without_first, without_held, without_reply}
use Rattle.sr_calls.specs.declared.held.Held.{Held}
use Rattle.sr_processes.specs.Living.{IsLive, Living, is_among, start_of, without_process}
use Rattle.sr_queue.specs.Queues.{Queued}
use Rattle.sr_queue.specs.declared.pending.Pending.{Pending}
use Rattle.sr_queue.specs.declared.queue.TheConstants.{MOST_PENDING}
use Rattle.sr_store.specs.Variables.{CanPlace, KeepsRoom, Stored, Variables, stored_in, with_variable}
use Rattle.sr_in_place.specs.Puts.{Wrote}
use Rattle.sr_value.specs.declared.capability.Owner.{Owner}
use Rattle.sr_value.specs.declared.fault.Fault.{Fault}
use Rattle.sr_value.specs.declared.shape.Sel.{Sel}
use Rattle.sr_value.specs.declared.shape.Shape.{Shape}
use Rattle.sr_value.specs.declared.value.Value.{Value}
use Rattle.sr_world.specs.Updates.{add_reply}
use Rattle.sr_world.specs.Worlds.{World, is_live}
use Rattle.sr_world.proofs.PartLemmas as parts
use Rattle.sr_shard.specs.Acts.{or_same}
use Rattle.sr_shard.specs.Changes.{is_numbered}
use Rattle.sr_shard.specs.Presents.{IsBase, KeepsOtherKinds, Makes, has_stayed, kind, live_in, present_in}
use Rattle.sr_shard.specs.declared.change.Change.{Change}
use Rattle.sr_shard.specs.declared.change.Change.TheVariants as change
use Rattle.sr_shard.specs.declared.present.Present.{Present}
use Rattle.sr_shard.proofs.LiveLemmas.{live_begun, live_ended, lives_either}

-- ---- lists of numbers

same_number : (a b : ℕ) → (a == b) ≡ (b == a)
same_number a b = by (a == b) refl
  where
    by : (c : Bool) → (a == b) ≡ c → (a == b) ≡ (b == a)
    by true is = is ∙ sym (eq-eqb b a (sym (eqb-true a b is)))
    by false is = is ∙ other (b == a) refl
      where
        other : (c : Bool) → (b == a) ≡ c → false ≡ (b == a)
        other true at = absurd (true≢false (sym (eq-eqb a b (sym (eqb-true b a at))) ∙ is))
        other false at = sym at

any_number : (p : ℕ) (numbers : List ℕ) → list_any (λ n. n == p) numbers ≡ list_any (nat_eq p) numbers
any_number p numbers = λ k. list_any (λ n. same_number n p k) numbers

-- ---- who lives

filter_all : (xs : List Start) → filter (λ start. true) xs ≡ xs
filter_all [] = refl
filter_all (x ∷ xs) = ap (λ (l : List Start). x ∷ l) (filter_all xs)

append_none : (xs : List Start) → xs ++ [] ≡ xs
append_none [] = refl
append_none (x ∷ xs) = ap (λ (l : List Start). x ∷ l) (append_none xs)

pub all_live : (live : List Start) (ended : List ℕ) (born : List Start) → ended ≡ [] → born ≡ [] → live_in live ended born ≡ live
all_live live ended born none nobody = (λ k. live_in live (none k) (nobody k)) ∙ append_none (filter (λ start. true) live) ∙ filter_all live

either_or : (a b : Bool) → (a || (b || false)) ≡ (b || a)
either_or true true = refl
either_or true false = refl
either_or false true = refl
either_or false false = refl

among_more : (ended : List ℕ) (p : ℕ) (start : Start) (b : Bool) → list_any (nat_eq p) ended ≡ b → is_among (cond b ended (ended ++ p ∷ [])) start ≡ is_among (p ∷ ended) start
among_more ended p start false off = list_any-append (λ n. n == start.process) ended (p ∷ []) ∙ either_or (list_any (λ n. n == start.process) ended) (p == start.process)
among_more ended p start true on = by (p == start.process) refl
  where
    by : (c : Bool) → (p == start.process) ≡ c → is_among ended start ≡ (c || is_among ended start)
    by true is = ap (λ q. list_any (λ n. n == q) ended) (sym (eqb-true p start.process is)) ∙ any_number p ended ∙ on
    by false is = refl

among_inserted : (ended : List ℕ) (p : ℕ) (start : Start) → is_among (insert_key nat_eq ended p) start ≡ is_among (p ∷ ended) start
among_inserted ended p start = among_more ended p start (list_any (nat_eq p) ended) refl

pub live_without : (live : List Start) (ended later : List ℕ) (born after : List Start) (p : ℕ) → later ≡ insert_key nat_eq ended p → after ≡ without_process born p
    → live_in live later after ≡ without_process (live_in live ended born) p
live_without live ended later born after p keys gone =
    (λ k. live_in live (keys k) (gone k))
    ∙ (λ k. filter (λ start. not (among_inserted ended p start k)) live ++ without_process born p)
    ∙ live_ended live ended born p

-- ---- who lives in a part

either_nothing : (b : Bool) (nothing : Option Start) → nothing ≡ cond b nothing nothing
either_nothing true nothing = refl
either_nothing false nothing = refl

found_in : (number p : ℕ) (xs : List Start) → start_of (filter (λ start. home start.process == number) xs) p ≡ cond (home p == number) (start_of xs p) None
found_in number p [] = either_nothing (home p == number) None
found_in number p (x ∷ xs) = by (p == x.process) refl (home x.process == number) refl (found_in number p xs)
  where
    by : (a : Bool) → (p == x.process) ≡ a → (b : Bool) → (home x.process == number) ≡ b
        → start_of (filter (λ start. home start.process == number) xs) p ≡ cond (home p == number) (start_of xs p) None
        → start_of (cond b (x ∷ filter (λ start. home start.process == number) xs) (filter (λ start. home start.process == number) xs)) p ≡ cond (home p == number) (cond a (Some x) (start_of xs p)) None
    by true it true in_part more =
        let same : (home p == number) ≡ true = ap (λ q. home q == number) (eqb-true p x.process it) ∙ in_part in
        ap (λ c. cond c (Some x) (start_of (filter (λ start. home start.process == number) xs) p)) it ∙ sym (ap (λ c. cond c (Some x) None) same)
    by true it false elsewhere more =
        let same : (home p == number) ≡ false = ap (λ q. home q == number) (eqb-true p x.process it) ∙ elsewhere in
        more ∙ ap (λ c. cond c (start_of xs p) None) same ∙ sym (ap (λ c. cond c (Some x) None) same)
    by false it true in_part more = ap (λ c. cond c (Some x) (start_of (filter (λ start. home start.process == number) xs) p)) it ∙ more
    by false it false elsewhere more = more

some_if : (b : Bool) (found : Option Start) → is_some (cond b found None) ≡ (b && is_some found)
some_if true found = refl
some_if false found = refl

either_way : (gone here there born : Bool) → (cond gone false (here && there) || born) ≡ (born || (here && not gone && there))
either_way true true true true = refl
either_way true true true false = refl
either_way true true false true = refl
either_way true true false false = refl
either_way true false true true = refl
either_way true false true false = refl
either_way true false false true = refl
either_way true false false false = refl
either_way false true true true = refl
either_way false true true false = refl
either_way false true false true = refl
either_way false true false false = refl
either_way false false true true = refl
either_way false false true false = refl
either_way false false false true = refl
either_way false false false false = refl

pub lives_in_part : (number : ℕ) (standing base : World) (ended : List ℕ) (born : List Start) (p : ℕ) → IsBase number standing base
    → is_some (start_of (live_in base.live ended born) p) ≡ (is_some (start_of born p) || has_stayed number ended standing.live p)
lives_in_part number standing base ended born p same =
    lives_either base.live ended born p
    ∙ ap (λ b. cond b false (is_some (start_of base.live p)) || is_some (start_of born p)) (any_number p ended)
    ∙ ap (λ (live : List Start). cond (list_any (nat_eq p) ended) false (is_some (start_of live p)) || is_some (start_of born p)) same
    ∙ ap (λ found. cond (list_any (nat_eq p) ended) false (is_some found) || is_some (start_of born p)) (found_in number p standing.live)
    ∙ ap (λ b. cond (list_any (nat_eq p) ended) false b || is_some (start_of born p)) (some_if (home p == number) (start_of standing.live p))
    ∙ either_way (list_any (nat_eq p) ended) (home p == number) (is_some (start_of standing.live p)) (is_some (start_of born p))

-- a base for any standing world
abbrev pub base_of : ℕ → World → World
base_of number standing = record standing { live = filter (λ start. home start.process == number) standing.live }

-- ---- room

record KeepsRooms (made : ℕ) (old new : Present) : Type 0 where
  places : made ≢ 0 → (b : ℕ) → CanPlace old.portion.blocks b → CanPlace new.portion.blocks b
  arrivals : made ≢ 2 → (length old.portion.queue.items < MOST_PENDING) × (0 < old.portion.queue.room) → (length new.portion.queue.items < MOST_PENDING) × (0 < new.portion.queue.room)
  holds : made ≢ 4 → (p : ℕ) → CanHold old.portion.calls p → CanHold new.portion.calls p
  answers : made ≢ 6 → (base : World) (p : ℕ) → (is_live (present_in base old) p ≡ true → CanAnswer old.portion.calls p) → is_live (present_in base new) p ≡ true → CanAnswer new.portion.calls p
  births : made ≢ 6 → (p : ℕ) → (0 < old.born.room) × ¬ IsLive old.born.starts p → (0 < new.born.room) × ¬ IsLive new.born.starts p
  ends : made ≢ 4 → 0 < spare old.ended → 0 < spare new.ended

other_kinds : (made : Change) (old new : Present) → KeepsRooms (kind made) old new → KeepsOtherKinds made old new
other_kinds made old new rooms base (change.Declare block var shape value) off ready = rooms.places off block ready
other_kinds made old new rooms base (change.Store block var path value) off ready = tt
other_kinds made old new rooms base (change.Arrive invocation) off ready = rooms.arrivals off ready
other_kinds made old new rooms base (change.Depart owner op id) off ready = tt
other_kinds made old new rooms base (change.Hold process held) off ready = rooms.holds off process ready
other_kinds made old new rooms base (change.Free process id) off ready = tt
other_kinds made old new rooms base (change.Answer process id results) off ready = rooms.answers off base process ready
other_kinds made old new rooms base (change.Take process ids) off ready = tt
other_kinds made old new rooms base (change.Begin start) off ready = rooms.births off start.process ready
other_kinds made old new rooms base (change.End process) off ready = rooms.ends off ready

-- ---- one change

abbrev with_blocks : Stored → Present → Present
with_blocks blocks old = record old { portion = record old.portion { blocks = blocks } }

abbrev with_queue : Queued → Present → Present
with_queue queue old = record old { portion = record old.portion { queue = queue } }

abbrev with_calls : Called → Present → Present
with_calls calls old = record old { portion = record old.portion { calls = calls } }

module _ (standing : World) (old : Present) where
  pub declared : (blocks : Stored) (block var : ℕ) (shape : Shape) (value : Value) → blocks.variables ≡ with_variable old.portion.blocks.variables block var (record { shape = shape; value = value })
      → Makes standing (change.Declare block var shape value) old (with_blocks blocks old)
  declared blocks block var shape value same = record {
    number = refl;
    present = λ base is k. record (present_in base old) { variables = same k };
    kept = other_kinds (change.Declare block var shape value) old (with_blocks blocks old) (record {
      places = λ off. absurd (off refl);
      arrivals = λ off h. h;
      holds = λ off p h. h;
      answers = λ off base p ready lives. ready lives;
      births = λ off p h. h;
      ends = λ off h. h;
    });
  }

  wrote_as : (result : Result (Unit {0}) Fault) (before after : Variables) (meant : Result Variables Fault) → Wrote result before after meant → after ≡ or_same before meant
  wrote_as (Ok done) before after meant wrote = sym (ap (or_same before) wrote)
  wrote_as (Err fault) before after meant wrote = wrote.1 ∙ sym (ap (or_same before) wrote.0)

  pub stored : (blocks : Stored) (block var : ℕ) (path given : List Sel) (value : Value) (result : Result (Unit {0}) Fault) → given ≡ path
      → Wrote result old.portion.blocks.variables blocks.variables (stored_in old.portion.blocks.variables block var given value) → KeepsRoom old.portion.blocks blocks
      → Makes standing (change.Store block var path value) old (with_blocks blocks old)
  stored blocks block var path given value result same wrote room = record {
    number = refl;
    present = λ base is k. record (present_in base old) {
      variables = (wrote_as result old.portion.blocks.variables blocks.variables (stored_in old.portion.blocks.variables block var given value) wrote
          ∙ ap (λ p. or_same old.portion.blocks.variables (stored_in old.portion.blocks.variables block var p value)) same) k;
    };
    kept = other_kinds (change.Store block var path value) old (with_blocks blocks old) (record {
      places = λ off b h. room b h;
      arrivals = λ off h. h;
      holds = λ off p h. h;
      answers = λ off base p ready lives. ready lives;
      births = λ off p h. h;
      ends = λ off h. h;
    });
  }

  pub arrived : (queue : Queued) (invocation : Pending) → queue.items ≡ old.portion.queue.items ++ invocation ∷ []
      → Makes standing (change.Arrive invocation) old (with_queue queue old)
  arrived queue invocation same = record {
    number = refl;
    present = λ base is k. record (present_in base old) { pending = same k };
    kept = other_kinds (change.Arrive invocation) old (with_queue queue old) (record {
      places = λ off b h. h;
      arrivals = λ off. absurd (off refl);
      holds = λ off p h. h;
      answers = λ off base p ready lives. ready lives;
      births = λ off p h. h;
      ends = λ off h. h;
    });
  }

  pub departed : (queue : Queued) (owner : Owner) (op id : ℕ) → queue.items ≡ without_first (is_numbered owner op id) old.portion.queue.items → length queue.items ≤ length old.portion.queue.items → old.portion.queue.room ≤ queue.room
      → Makes standing (change.Depart owner op id) old (with_queue queue old)
  departed queue owner op id same few room = record {
    number = refl;
    present = λ base is k. record (present_in base old) { pending = same k };
    kept = other_kinds (change.Depart owner op id) old (with_queue queue old) (record {
      places = λ off b h. h;
      arrivals = λ off h. (let less = h.0 in omega arith, let more = h.1 in omega arith);
      holds = λ off p h. h;
      answers = λ off base p ready lives. ready lives;
      births = λ off p h. h;
      ends = λ off h. h;
    });
  }

  pub held : (calls : Called) (process : ℕ) (held : Held) → calls.held ≡ with_item old.portion.calls.held process held → calls.replies ≡ old.portion.calls.replies → KeepsAnswers old.portion.calls calls
      → Makes standing (change.Hold process held) old (with_calls calls old)
  held calls process item same replies answers = record {
    number = refl;
    present = λ base is k. record (present_in base old) { held = same k; replies = replies k };
    kept = other_kinds (change.Hold process item) old (with_calls calls old) (record {
      places = λ off b h. h;
      arrivals = λ off h. h;
      holds = λ off. absurd (off refl);
      answers = λ off base p ready lives. answers p (ready lives);
      births = λ off p h. h;
      ends = λ off. absurd (off refl);
    });
  }

  pub freed : (calls : Called) (process id : ℕ) → calls.held ≡ without_held old.portion.calls.held process id → calls.replies ≡ old.portion.calls.replies → KeepsHolds old.portion.calls calls → KeepsAnswers old.portion.calls calls
      → Makes standing (change.Free process id) old (with_calls calls old)
  freed calls process id same replies holds answers = record {
    number = refl;
    present = λ base is k. record (present_in base old) { held = same k; replies = replies k };
    kept = other_kinds (change.Free process id) old (with_calls calls old) (record {
      places = λ off b h. h;
      arrivals = λ off h. h;
      holds = λ off p h. holds p h;
      answers = λ off base p ready lives. answers p (ready lives);
      births = λ off p h. h;
      ends = λ off h. h;
    });
  }

  pub taken : (calls : Called) (process : ℕ) (ids : List ℕ) → calls.replies ≡ without_reply old.portion.calls.replies process ids → calls.held ≡ old.portion.calls.held → KeepsHolds old.portion.calls calls → KeepsAnswers old.portion.calls calls
      → Makes standing (change.Take process ids) old (with_calls calls old)
  taken calls process ids same stay holds answers = record {
    number = refl;
    present = λ base is k. record (present_in base old) { held = stay k; replies = same k };
    kept = other_kinds (change.Take process ids) old (with_calls calls old) (record {
      places = λ off b h. h;
      arrivals = λ off h. h;
      holds = λ off p h. holds p h;
      answers = λ off base p ready lives. answers p (ready lives);
      births = λ off p h. h;
      ends = λ off h. h;
    });
  }

  -- one who lives gets the reply, and for any other all stays
  pub answered : (calls : Called) (process id : ℕ) (results : Option (List Value)) → ((base : World) → IsBase old.portion.number standing base → is_live (present_in base old) process ≡ true)
      → calls.replies ≡ with_item old.portion.calls.replies process (record { id = id; results = results }) → calls.held ≡ old.portion.calls.held → KeepsHolds old.portion.calls calls
      → Makes standing (change.Answer process id results) old (with_calls calls old)
  answered calls process id results lives same stay holds = record {
    number = refl;
    present = λ base is.
        (λ k. record (present_in base old) { held = stay k; replies = same k })
        ∙ sym (ap (λ b. cond b (add_reply process (record { id = id; results = results }) (present_in base old)) (present_in base old)) (lives base is));
    kept = other_kinds (change.Answer process id results) old (with_calls calls old) (record {
      places = λ off b h. h;
      arrivals = λ off h. h;
      holds = λ off p h. holds p h;
      answers = λ off. absurd (off refl);
      births = λ off. absurd (off refl);
      ends = λ off h. h;
    });
  }

  pub unanswered : (process id : ℕ) (results : Option (List Value)) → ((base : World) → IsBase old.portion.number standing base → is_live (present_in base old) process ≡ false)
      → Makes standing (change.Answer process id results) old old
  unanswered process id results gone = record {
    number = refl;
    present = λ base is. sym (ap (λ b. cond b (add_reply process (record { id = id; results = results }) (present_in base old)) (present_in base old)) (gone base is));
    kept = λ base other off ready. ready;
  }

  pub begun : (born : Living) (start : Start) → born.starts ≡ old.born.starts ++ start ∷ []
      → Makes standing (change.Begin start) old (record old { born = born })
  begun born start same = record {
    number = refl;
    present = λ base is.
        (λ k. record (present_in base old) { live = live_in base.live old.ended.keys (same k) })
        ∙ (λ k. record (present_in base old) { live = live_begun base.live old.ended.keys old.born.starts start k });
    kept = other_kinds (change.Begin start) old (record old { born = born }) (record {
      places = λ off b h. h;
      arrivals = λ off h. h;
      holds = λ off p h. h;
      answers = λ off. absurd (off refl);
      births = λ off. absurd (off refl);
      ends = λ off h. h;
    });
  }

  pub ended : (born : Living) (gone : HashSet ℕ (BuildHasherDefault FoldHasher)) (calls : Called) (process : ℕ) → born.starts ≡ without_process old.born.starts process → old.born.room ≤ born.room → gone.keys ≡ insert_key nat_eq old.ended.keys process
      → calls.held ≡ map.remove old.portion.calls.held process → calls.replies ≡ map.remove old.portion.calls.replies process → KeepsOtherAnswers old.portion.calls calls process
      → Makes standing (change.End process) old (record old { portion = record old.portion { calls = calls }; born = born; ended = gone })
  ended born gone calls process starts room keys held replies answers = record {
    number = refl;
    present = λ base is k. record (present_in base old) { live = live_without base.live old.ended.keys gone.keys old.born.starts born.starts process keys starts k; held = held k; replies = replies k };
    kept = other_kinds (change.End process) old (record old { portion = record old.portion { calls = calls }; born = born; ended = gone }) (record {
      places = λ off b h. h;
      arrivals = λ off h. h;
      holds = λ off. absurd (off refl);
      answers = λ off base p ready lives.
          let both = parts.live_without (live_in base.live old.ended.keys old.born.starts) process p (subst (λ (live : List Start). IsLive live p) (live_without base.live old.ended.keys gone.keys old.born.starts born.starts process keys starts) lives) in
          answers p both.0 (ready both.1);
      births = λ off p h. (let more = h.0 in omega arith, λ lives. h.1 (parts.live_without old.born.starts process p (subst (λ (live : List Start). IsLive live p) starts lives)).1);
      ends = λ off. absurd (off refl);
    });
  }

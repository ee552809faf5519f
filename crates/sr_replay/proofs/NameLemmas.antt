-- The numbers that were given out, as a replay keeps them.
use Rattle.std.proofs.Common.{◌≡◌, ◌≤◌, ◌<◌, ◌==◌, ◌&&◌, ◌||◌, ℕ, zero, suc, Bool, true, false, not, List, [], ◌∷◌, ◌++◌, Option, Some, None, is_some, get_or, length, refl, ap, sym, ◌∙◌, arith, eq-eqb, eqb-true, true≢false}
use Rattle.std.proofs.lemmas.List.Folds.{list_any-append}
use Rattle.std.specs.HashSet.{HashSet}
use Rattle.std.specs.List.{Contains, list_any}
use Rattle.std.specs.Prelude.{count_by, find}
use Rattle.sr_instances.specs.Instances.{Instance, IsAdded}
use Rattle.sr_processes.specs.Living.{IsLive}
use Rattle.sr_world.specs.Acting.{IsNew, NeedsNew}
use Rattle.sr_world.specs.Does.{Does, Did, Makes, Cannot, Ends, Undecided, comes_to, is_made}
use Rattle.sr_world.specs.Runs.{is_new, is_used}
use Rattle.sr_world.specs.Sound.{HasSoundNumbers, given_out, times_used}
use Rattle.sr_world.specs.Worlds.{World}
use Rattle.sr_world.proofs.CountLemmas.{count-cons, count-without_first, find-passes, one}
use Rattle.sr_world.proofs.KeepLemmas.{live-counts}
use Rattle.sr_world.proofs.RunLemmas.{new-number}
use Rattle.sr_replay.specs.Names.{KnowsNames, Notes, is_kept, is_named}

-- ---- new numbers

has-counts : (xs : List ℕ) (n : ℕ) → Contains xs n → 1 ≤ count_by (λ x. x == n) xs
has-counts [] n has = absurd (let within = has.1 in omega (arith, within))
has-counts (x ∷ xs) n has = by has.0 has.1 has.2 (λ more. has-counts xs n more)
  where
    by : (k : ℕ) → k < length (x ∷ xs) → get_or (x ∷ xs) k n ≡ n → (Contains xs n → 1 ≤ count_by (λ y. y == n) xs) → 1 ≤ count_by (λ y. y == n) (x ∷ xs)
    by zero within is more = let counts = ap one (eq-eqb x n is) in omega (arith, count-cons (λ y. y == n) x xs, counts)
    by (suc k) within is more = let rest = more (k, omega (arith, within), is) in omega (arith, count-cons (λ y. y == n) x xs, rest)

module _ (world : World) (name : ℕ) where
  -- what has a number got one that was given out
  new-is : HasSoundNumbers world → times_used world name ≡ 0 → IsNew world name
  new-is sound unused = record { no_process = process; no_instance = instance; no_machine = machine }
    where
      process : IsLive world.live name → ⊥
      process lives = omega (arith, live-counts world.live name lives, sound.processes name, unused)

      placed : (o : Option Instance) → find (λ (i : Instance). name == i.name) world.places.instances ≡ o → is_some o ≡ true → ⊥
      placed None is some = true≢false (sym some)
      placed (Some i) is some =
          let passes : (i.name == name) ≡ true = eq-eqb i.name name (sym (eqb-true name i.name (find-passes (λ (j : Instance). name == j.name) world.places.instances i is))) in
          omega (arith, count-without_first (λ (j : Instance). j.name == name) (λ (j : Instance). name == j.name) world.places.instances i is, ap one passes, sound.instances name, unused)

      instance : IsAdded world.places name → ⊥
      instance added = placed (find (λ (i : Instance). name == i.name) world.places.instances) refl added

      machine : Contains world.places.machines name → ⊥
      machine has = omega (arith, has-counts world.places.machines name has, sound.machines name, unused)

  pub unused-new : HasSoundNumbers world → is_new world name ≡ true → IsNew world name
  unused-new sound new = new-is sound (new-number world name new).1

-- ---- which number a step may have

and-more : (a b : Bool) → (a ≡ true → b ≡ true) → (a && b) ≡ a
and-more true b more = more refl
and-more false b more = refl

named-made : (world : World) (name : ℕ) (d : Does) → is_made (comes_to d) ≡ true → is_named world name d ≡ is_new world name
named-made world name (Did w a) is = absurd (true≢false (sym is))
named-made world name (Makes w a) is = refl
named-made world name Cannot is = absurd (true≢false (sym is))
named-made world name (Ends ending) is = absurd (true≢false (sym is))
named-made world name Undecided is = absurd (true≢false (sym is))

pub named-other : (world : World) (name : ℕ) (d : Does) → is_made (comes_to d) ≡ false → is_named world name d ≡ (name == 0)
named-other world name (Did w a) is = refl
named-other world name (Makes w a) is = absurd (true≢false is)
named-other world name Cannot is = refl
named-other world name (Ends ending) is = refl
named-other world name Undecided is = refl

-- a step that makes nothing needs none
pub needs-none : (world : World) (name : ℕ) (d : Does) → is_made (comes_to d) ≡ false → NeedsNew d world name
needs-none world name (Did w a) is = tt
needs-none world name (Makes w a) is = absurd (true≢false is)
needs-none world name Cannot is = tt
needs-none world name (Ends ending) is = tt
needs-none world name Undecided is = tt

module _ {S : Type 0} (names : HashSet ℕ S) (world : World) (knows : KnowsNames names world) (name : ℕ) where
  -- what isn't kept wasn't given out
  pub unkept-new : (not (name == 0) && not (is_kept names name)) ≡ is_new world name
  unkept-new = ap (λ b. not (name == 0) && not b) (knows.given name)

  -- a number that is new is given to nothing that is there
  pub named-new : (unused new : Bool) → unused ≡ (not (name == 0) && not (is_kept names name)) → (IsNew world name → new ≡ true) → (d : Does) → is_made (comes_to d) ≡ true
      → (unused && new) ≡ is_named world name d
  named-new unused new is free d made =
      let here : unused ≡ is_new world name = is ∙ unkept-new in
      and-more unused new (λ yes. free (unused-new world name knows.sound (sym here ∙ yes))) ∙ here ∙ sym (named-made world name d made)

-- ---- one number more

module _ (world later : World) (name : ℕ) (grown : later.used ≡ world.used ++ given_out name) where
  used-given : (other : ℕ) (n : ℕ) → list_any (λ used. used == other) (given_out n) ≡ (not (n == 0) && (n == other))
  used-given other zero = refl
  used-given other (suc n) = alone (suc n == other) ∙ sym (ap (λ b. not b && (suc n == other)) (above (suc n == 0) refl))
    where
      alone : (b : Bool) → (b || false) ≡ b
      alone true = refl
      alone false = refl

      above : (b : Bool) → (suc n == 0) ≡ b → (suc n == 0) ≡ false
      above true is = absurd (let none = eqb-true (suc n) 0 is in omega (arith, none))
      above false is = is

  -- what is kept after an item is what was given out
  pub noted-knows : {S : Type 0} (old new : HashSet ℕ S) → KnowsNames old world → HasSoundNumbers later → Notes name old new → KnowsNames new later
  noted-knows old new knows sound notes = record {
    given = λ other. notes.kept other ∙ ap (λ b. b || (not (name == 0) && (name == other))) (knows.given other)
        ∙ ap (λ b. is_used world other || b) (sym (used-given other name)) ∙ sym (list_any-append (λ used. used == other) world.used (given_out name))
        ∙ sym (ap (list_any (λ used. used == other)) grown);
    sound = sound;
  }

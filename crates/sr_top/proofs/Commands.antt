-- What a command to run can ask for.
use Rattle.std.proofs.Common.{◌≡◌, ◌≤◌, ◌&&◌, ℕ, Bool, true, false, List, [], ◌∷◌, length, Option, None, Some, cond, nat_le, is_some, refl, ap, sym, subst, arith, true≢false}
use Rattle.std.specs.Option.{option_map}
use Rattle.std.proofs.lemmas.Bool.{leb-true}
use Rattle.std.proofs.lemmas.Option.{option_and_then_some}
use Rattle.sr_top.specs.Journal.{CanBeAsked}
use Rattle.sr_words.specs.Commands.{Taken, command_of, default_of, file_of, files_of, gen_command, least_of, most_of, races_command, recorded_of, replay_command, run_command, seed_of, setting_number, taken_of, trace_command, verb_command}
use Rattle.sr_words.specs.Verbs.{verb_of}
use Rattle.sr_words.specs.Numbers.{is_number, number_within, value_of}
use Rattle.sr_words.specs.declared.command.Command.{Command}
use Rattle.sr_words.specs.declared.command.Command.TheVariants as command
use Rattle.sr_words.specs.declared.options.Setting.{Setting}
use Rattle.sr_words.specs.declared.options.Setting.TheVariants.{Workers, Steps, Ticks, Upto}
use Rattle.sr_words.specs.declared.verb.Verb.{Verb}
use Rattle.sr_words.specs.declared.verb.Verb.TheVariants.{Run, Check, Classes, Fmt, Gen, Replay, Races, Trace}

-- ---- values that are there

there : {A : Type 0} (b : Bool) (x y : A) → cond b (Some x) None ≡ Some y → (b ≡ true) × (x ≡ y)
there true x y is = (refl, cc)
there false x y is = absurd (true≢false (sym (ap is_some is)))

mapped : {A B : Type 0} (f : A → B) (o : Option A) (y : B) → option_map f o ≡ Some y → (x : A) × ((o ≡ Some x) × (f x ≡ y))
mapped f None y is = absurd (true≢false (sym (ap is_some is)))
mapped f (Some x) y is = (x, (refl, cc))

both : (a b : Bool) → (a && b) ≡ true → (a ≡ true) × (b ≡ true)
both true true is = (refl, refl)
both true false is = absurd (true≢false (sym is))
both false b is = absurd (true≢false (sym is))

le-from : (m n : ℕ) → nat_le m n ≡ true → m ≤ n
le-from m n is = leb-true m n is

-- ---- numbers

within : (least most n : ℕ) (word : List ℕ) → number_within least most word ≡ Some n → (least ≤ n) × (n ≤ most)
within least most n word is =
    let found = there (is_number word && nat_le least (value_of word) && nat_le (value_of word) most) (value_of word) n is in
    let first = both (is_number word && nat_le least (value_of word)) (nat_le (value_of word) most) found.0 in
    let second = both (is_number word) (nat_le least (value_of word)) first.0 in
    (subst (λ m. least ≤ m) found.1 (le-from least (value_of word) second.1), subst (λ m. m ≤ most) found.1 (le-from (value_of word) most first.1))

default-within : (setting : Setting) → (least_of setting ≤ default_of setting) × (default_of setting ≤ most_of setting)
default-within Workers = (omega arith, omega arith)
default-within Steps = (omega arith, omega arith)
default-within Ticks = (omega arith, omega arith)
default-within Upto = (omega arith, omega arith)

some-same : {A : Type 0} (x y : A) → Some x ≡ Some y → x ≡ y
some-same x y is = cc

setting-within : (setting : Setting) (value : Option (List ℕ)) (n : ℕ) → setting_number setting value ≡ Some n → (least_of setting ≤ n) × (n ≤ most_of setting)
setting-within setting None n is = subst (λ m. (least_of setting ≤ m) × (m ≤ most_of setting)) (some-same (default_of setting) n is) (default-within setting)
setting-within setting (Some value) n is = within (least_of setting) (most_of setting) n value is

files-within : (words files : List (List ℕ)) → files_of words ≡ Some files → (1 ≤ length files) × (length files ≤ 64)
files-within words files is =
    let found = there (nat_le 1 (length words) && nat_le (length words) 64) words files is in
    let parts = both (nat_le 1 (length words)) (nat_le (length words) 64) found.0 in
    subst (λ fs. (1 ≤ length fs) × (length fs ≤ 64)) found.1 (le-from 1 (length words) parts.0, le-from (length words) 64 parts.1)

-- ---- the command

module _ (names : List (List ℕ)) (workers steps ticks : ℕ) (journal : Bool) where
  abbrev asked : Command
  asked = command.Run names workers steps ticks journal

  run-taken : (t : Taken) → run_command t ≡ Some asked → CanBeAsked names steps ticks
  run-taken t is =
      option_and_then_some _ (setting_number Workers t.workers) asked is (λ w has more.
      option_and_then_some _ (setting_number Steps t.steps) asked more (λ s has-steps more.
      option_and_then_some _ (setting_number Ticks t.ticks) asked more (λ k has-ticks more.
      let found = mapped (λ files. command.Run files w s k t.journal) (files_of t.words) asked more in
      let same-steps : s ≡ steps = cc in
      let same-ticks : k ≡ ticks = cc in
      let same-names : found.0 ≡ names = cc in
      let few = subst (λ fs. (1 ≤ length fs) × (length fs ≤ 64)) same-names (files-within t.words found.0 found.1.0) in
      let of-steps = subst (λ n. (1 ≤ n) × (n ≤ 16000000)) same-steps (setting-within Steps t.steps s has-steps) in
      let of-ticks = subst (λ n. (1 ≤ n) × (n ≤ 1000000000)) same-ticks (setting-within Ticks t.ticks k has-ticks) in
      record { some_file = few.0; few_files = few.1; some_steps = of-steps.0; few_steps = of-steps.1; some_ticks = of-ticks.0; few_ticks = of-ticks.1 })))

  -- no other name gives a run
  no-check : (t : Taken) → option_map (λ files. command.Check files) (files_of t.words) ≡ Some asked → ⊥
  no-check t is = let found = mapped (λ files. command.Check files) (files_of t.words) asked is in absurd (cc)

  no-classes : (t : Taken) → option_map (λ files. command.Classes files) (files_of t.words) ≡ Some asked → ⊥
  no-classes t is = let found = mapped (λ files. command.Classes files) (files_of t.words) asked is in absurd (cc)

  no-gen : (t : Taken) → gen_command t ≡ Some asked → ⊥
  no-gen t is =
      option_and_then_some _ (setting_number Workers t.workers) asked is (λ w has more.
      let found = mapped (λ seed. command.Gen seed w) (seed_of t.words) asked more in absurd (cc))

  no-replay : (t : Taken) → replay_command t ≡ Some asked → ⊥
  no-replay t is =
      option_and_then_some _ (setting_number Upto t.upto) asked is (λ upto has more.
      let found = mapped (λ recorded. command.Replay recorded.0 recorded.1 upto t.places) (recorded_of t.words) asked more in absurd (cc))

  no-races : (t : Taken) → races_command t ≡ Some asked → ⊥
  no-races t is = let found = mapped (λ recorded. command.Races recorded.0 recorded.1) (recorded_of t.words) asked is in absurd (cc)

  no-trace : (t : Taken) → trace_command t ≡ Some asked → ⊥
  no-trace t is =
      option_and_then_some _ (setting_number Upto t.upto) asked is (λ upto has more.
      let found = mapped (λ recorded. command.Trace recorded.0 recorded.1 upto t.picture) (recorded_of t.words) asked more in absurd (cc))

  no-fmt : (t : Taken) → option_map (λ file. command.Fmt file) (file_of t.words) ≡ Some asked → ⊥
  no-fmt t is = let found = mapped (λ file. command.Fmt file) (file_of t.words) asked is in absurd (cc)

  by-verb : (verb : Verb) (t : Taken) → verb_command verb t ≡ Some asked → CanBeAsked names steps ticks
  by-verb Run t is = run-taken t is
  by-verb Check t is = absurd (no-check t is)
  by-verb Classes t is = absurd (no-classes t is)
  by-verb Gen t is = absurd (no-gen t is)
  by-verb Replay t is = absurd (no-replay t is)
  by-verb Races t is = absurd (no-races t is)
  by-verb Trace t is = absurd (no-trace t is)
  by-verb Fmt t is = absurd (no-fmt t is)

  pub can_be_asked : (words : List (List ℕ)) → command_of words ≡ Some asked → CanBeAsked names steps ticks
  can_be_asked [] is = absurd (true≢false (sym (ap is_some is)))
  can_be_asked (word ∷ words) is =
      option_and_then_some _ (verb_of word) asked is (λ verb has more.
      option_and_then_some _ (taken_of verb words) asked more (λ t has-taken more. by-verb verb t more))

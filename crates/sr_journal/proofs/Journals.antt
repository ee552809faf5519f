-- The lines of a journal as formats, each with its reader.
use Rattle.std.proofs.Common.{◌≡◌, refl, sym, ◌∙◌, ap, subst, ℕ, zero, suc, ◌^◌, ◌<◌, ◌≤◌, Bool, true, false, cond, eqb, Option, Some, None, List, [], ◌∷◌, ◌++◌, length, Ok, Err, append_assoc, arith}
use Rattle.std.specs.Prelude.{codes, map}
use Rattle.std.specs.List.{concat, AllByRecursion}
use Rattle.std.proofs.lemmas.Bool.{eqb-true, eqb-false, leb-true, le-leb}
use Rattle.std.proofs.lemmas.Str.{IsUtf8-nil}
use Rattle.sr_ask.specs.Items.{actor_of, number_of}
use Rattle.sr_ask.specs.declared.item.Item.{Item}
use Rattle.sr_ask.specs.declared.item.Item.TheVariants.{Step, Quiesce, Tick}
use Rattle.sr_journal.specs.declared.fail.JournalFail.{JournalFail}
use Rattle.sr_journal.specs.declared.fail.JournalFail.TheVariants.{NotJournal, Truncated, Version, NoMemory}
use Rattle.sr_journal.specs.Numbers.{number_text}
use Rattle.sr_journal.specs.Journal.{blank, newline, file_line, files_text, limits_line, item_line, items_text, IsFile, IsItemOf, IsMoment}
use Rattle.sr_journal.specs.Reading.{Reading, ◌>>=◌, word_at, number_at, name_at, file_at, many_at, files_at, limits_at, step_at, quiesce_at, tick_at, item_at, items_at}
use Rattle.sr_journal.proofs.Characters.{Padding, padding}
use Rattle.sr_journal.proofs.Formats.{Format, Failed, Judged, Left, ended, then}
use Rattle.sr_journal.proofs.Lists.{append-nil}
use Rattle.sr_journal.proofs.Many.{Many, many-judged}
use Rattle.sr_journal.proofs.Names.{Name, name-judged}
use Rattle.sr_journal.proofs.NumberTexts.{IsDigit}
use Rattle.sr_journal.proofs.Numbers.{CanStand, Number, number-judged}
use Rattle.sr_journal.proofs.Words.{Rest, after}

-- two formats of the same values with the same texts
equal-fails : {A : Type 0} (F G : Format A) → ((a : A) → F.Holds a → G.Holds a) → ((a : A) → G.Holds a → F.Holds a) → ((a : A) → F.text a ≡ G.text a)
    → (s : List ℕ) (e : JournalFail) → Failed F s e → Failed G s e
equal-fails F G up down same s Truncated k = record {
  value = k.value;
  more = k.more;
  holds = up k.value k.holds;
  whole = k.whole ∙ same k.value;
  some_more = k.some_more;
  none = λ b x h e. k.none b x (down b h) (e ∙ ap (λ w. w ++ x) (sym (same b)));
}
equal-fails F G up down same s NotJournal k = record { none = λ b x y h e. k.none b x y (down b h) (e ∙ ap (λ w. w ++ y) (sym (same b))) }
equal-fails F G up down same s Version k = k
equal-fails F G up down same s NoMemory k = k

pub equal : {A : Type 0} (F G : Format A) → ((a : A) → F.Holds a → G.Holds a) → ((a : A) → G.Holds a → F.Holds a) → ((a : A) → F.text a ≡ G.text a)
    → (s : List ℕ) (r : Reading A) → Judged F s r → Judged G s r
equal F G up down same s (Err e) k = equal-fails F G up down same s e k
equal F G up down same s (Ok x) k = record {
  holds = up x.0 k.holds;
  splits = k.splits ∙ ap (λ w. w ++ x.1) (same x.0);
  only = λ b u v h e. k.only b u v (down b h) (e ∙ ap (λ w. w ++ v) (sym (same b)));
}

-- numbers up to a limit
no-way : {A : Type 0} → true ≡ false → A
no-way e = cc

stands : (n most : ℕ) → n ≤ most → CanStand true (Some most) n
stands n most h = record { least = λ e. no-way e; within = le-leb n most h }

pub stands-above : (n most : ℕ) → 1 ≤ n → n ≤ most → CanStand false (Some most) n
stands-above n most some h = record { least = λ e. some; within = le-leb n most h }

pub any-stands : (n : ℕ) → CanStand true None n
any-stands n = record { least = λ e. no-way e; within = refl }

pub at-most : (b : Bool) (n most : ℕ) → CanStand b (Some most) n → n ≤ most
at-most b n most h = leb-true n most h.within

pub at-least : (most : Option ℕ) (n : ℕ) → CanStand false most n → 1 ≤ n
at-least most n h = h.least refl

no-blank : IsDigit 32 → ⊥
no-blank d = let l : 48 ≤ 32 = d.0 in absurd (omega (arith, l))

pub no-newline : IsDigit 10 → ⊥
no-newline d = let l : 48 ≤ 10 = d.0 in absurd (omega (arith, l))

-- the line of a file
abbrev pub File : Format (ℕ × List ℕ)
File = record { Holds = IsFile; text = file_line }

abbrev size-of : ℕ × List ℕ → ℕ
size-of file = file.0

abbrev name-len : ℕ × List ℕ → ℕ
name-len file = length file.1

abbrev name-of : ℕ × List ℕ → List ℕ
name-of file = file.1

abbrev after-len : ℕ × List ℕ → List ℕ
after-len file = file.1 ++ newline

abbrev after-size : ℕ × List ℕ → List ℕ
after-size file = number_text (length file.1) ++ (blank ++ after-len file)

abbrev no-more-of : {A : Type 0} → A → List ℕ
no-more-of a = []

pub file-judged : (s : List ℕ) → Judged File s (file_at s)
unfolding file_at
file-judged s =
    then (Number true (Some 1048576) 32) File size-of after-size
    (λ c h. stands c.0 1048576 h.0) (λ c h. sym (append_assoc (number_text c.0) (32 ∷ []) (after-size c))) (λ a h. ((a, []), (at-most true a 1048576 h, IsUtf8-nil), refl))
    s (number_at true (Some 1048576) 32 s) (number-judged true (Some 1048576) 32 no-blank 0 (stands 0 1048576 (omega arith)) s)
    (λ size. number_at true None 32 size.1 >>= λ count. name_at count.0 count.1 >>= λ name. Ok ((size.0, name.0), name.1))
    (λ a rest h.
    then (Number true None 32) (Left File size-of after-size a) name-len after-len
    (λ c g. any-stands (length c.1)) (λ c g. sym (append_assoc (number_text (length c.1)) (32 ∷ []) (after-len c)))
    (λ k g. let p : Padding k = padding k in ((a, p.bytes), ((at-most true a 1048576 h, p.is_text), refl), p.long))
    rest (number_at true None 32 rest) (number-judged true None 32 no-blank 0 (any-stands 0) rest)
    (λ count. name_at count.0 count.1 >>= λ name. Ok ((a, name.0), name.1))
    (λ k left g.
    then (Name k) (Left (Left File size-of after-size a) name-len after-len k) name-of no-more-of
    (λ c j. (j.1, j.0.0.1)) (λ c j. sym (append-nil (after-len c)))
    (λ name j. ((a, name), (((at-most true a 1048576 h, j.1), refl), j.0), refl))
    left (name_at k left) (name-judged k left) (λ name. Ok ((a, name.0), name.1))
    (λ name end j.
    ended (Left (Left (Left File size-of after-size a) name-len after-len k) name-of no-more-of name) (a, name) end
    ((((at-most true a 1048576 h, j.1), refl), j.0), refl) refl (λ c i. λ t. (i.0.0.1 t, i.1 t)))))

-- the lines of all files
pub record AreFiles (files : List (ℕ × List ℕ)) : Type 0 where
  pub some : 1 ≤ length files
  pub few : length files ≤ 64
  pub each : AllByRecursion IsFile files

abbrev pub Files : Format (List (ℕ × List ℕ))
Files = record { Holds = AreFiles; text = files_text }

abbrev file-lines : List (ℕ × List ℕ) → List ℕ
file-lines files = concat (map file_line files)

abbrev after-files-word : List (ℕ × List ℕ) → List ℕ
after-files-word files = number_text (length files) ++ (newline ++ file-lines files)

abbrev count-of : {A : Type 0} → List A → ℕ
count-of xs = length xs

empty-file : IsFile (0, [])
empty-file = (omega arith, IsUtf8-nil)

-- so many files without bytes or names
record Copies {A : Type 0} (P : A → Type 0) (k : ℕ) : Type 0 where
  pub all : List A
  pub long : length all ≡ k
  pub each : AllByRecursion P all

copies : {A : Type 0} (P : A → Type 0) (a : A) → P a → (k : ℕ) → Copies P k
copies P a h zero = record { all = []; long = refl; each = tt }
copies P a h (suc k) = let c = copies P a h k in record { all = a ∷ c.all; long = ap suc c.long; each = (h, c.each) }

pub one-file : AreFiles ((0, []) ∷ [])
one-file = record { some = omega arith; few = omega arith; each = (empty-file, tt) }

pub files-judged : (s : List ℕ) → Judged Files s (files_at s)
unfolding files_at
files-judged s =
    after (codes "files ") Files after-files-word (λ c h. refl) ((0, []) ∷ []) one-file
    s (λ rest. number_at false (Some 64) 10 rest >>= λ count. many_at file_at count.0 count.1)
    (λ rest.
    then (Number false (Some 64) 10) (Rest Files after-files-word) count-of file-lines
    (λ c h. stands-above (length c) 64 h.some h.few) (λ c h. sym (append_assoc (number_text (length c)) (10 ∷ []) (file-lines c)))
    (λ k h. let c = copies IsFile (0, []) empty-file k in (
      c.all,
      record {
        some = let l : length c.all ≡ k = c.long in let g : 1 ≤ k = at-least (Some 64) k h in omega (arith, l, g);
        few = let l : length c.all ≡ k = c.long in let g : k ≤ 64 = at-most false k 64 h in omega (arith, l, g);
        each = c.each;
      },
      c.long,
    ))
    rest (number_at false (Some 64) 10 rest) (number-judged false (Some 64) 10 no-newline 1 (stands-above 1 64 (omega arith) (omega arith)) rest)
    (λ count. many_at file_at count.0 count.1)
    (λ k left h.
    equal (Many File k) (Left (Rest Files after-files-word) count-of file-lines k)
    (λ c g. (
      record {
        some = let l : length c ≡ k = g.0 in let i : 1 ≤ k = at-least (Some 64) k h in omega (arith, l, i);
        few = let l : length c ≡ k = g.0 in let i : k ≤ 64 = at-most false k 64 h in omega (arith, l, i);
        each = g.1;
      },
      g.0,
    )) (λ c g. (g.1, g.0.each)) (λ c. refl) left (many_at file_at k left) (many-judged File file_at file-judged (0, []) empty-file k left)))

-- the line of the limits
pub record AreLimits (limits : ℕ × ℕ) : Type 0 where
  pub some_steps : 1 ≤ limits.0
  pub few_steps : limits.0 ≤ 16000000
  pub some_ticks : 1 ≤ limits.1
  pub few_ticks : limits.1 ≤ 1000000000

abbrev pub Limits : Format (ℕ × ℕ)
Limits = record { Holds = AreLimits; text = λ limits. limits_line limits.0 limits.1 }

abbrev after-ticks-word : ℕ × ℕ → List ℕ
after-ticks-word limits = number_text limits.1 ++ newline

abbrev after-steps : ℕ × ℕ → List ℕ
after-steps limits = codes "ticks " ++ after-ticks-word limits

abbrev after-steps-word : ℕ × ℕ → List ℕ
after-steps-word limits = number_text limits.0 ++ (blank ++ after-steps limits)

abbrev steps-of : ℕ × ℕ → ℕ
steps-of limits = limits.0

abbrev ticks-of : ℕ × ℕ → ℕ
ticks-of limits = limits.1

pub limits-from : (a b : ℕ) → CanStand false (Some 16000000) a → CanStand false (Some 1000000000) b → AreLimits (a, b)
limits-from a b h g = record {
  some_steps = at-least (Some 16000000) a h;
  few_steps = at-most false a 16000000 h;
  some_ticks = at-least (Some 1000000000) b g;
  few_ticks = at-most false b 1000000000 g;
}

pub one-step : CanStand false (Some 16000000) 1
one-step = stands-above 1 16000000 (omega arith) (omega arith)

pub one-tick : CanStand false (Some 1000000000) 1
one-tick = stands-above 1 1000000000 (omega arith) (omega arith)

pub limits-judged : (s : List ℕ) → Judged Limits s (limits_at s)
unfolding limits_at
limits-judged s =
    after (codes "steps ") Limits after-steps-word (λ c h. refl) (1, 1) (limits-from 1 1 one-step one-tick)
    s (λ rest. number_at false (Some 16000000) 32 rest >>= λ steps. word_at (codes "ticks ") steps.1 >>= λ rest. number_at false (Some 1000000000) 10 rest >>= λ ticks. Ok ((steps.0, ticks.0), ticks.1))
    (λ rest.
    then (Number false (Some 16000000) 32) (Rest Limits after-steps-word) steps-of after-steps
    (λ c h. stands-above c.0 16000000 h.some_steps h.few_steps) (λ c h. sym (append_assoc (number_text c.0) (32 ∷ []) (after-steps c)))
    (λ a h. ((a, 1), limits-from a 1 h one-tick, refl))
    rest (number_at false (Some 16000000) 32 rest) (number-judged false (Some 16000000) 32 no-blank 1 one-step rest)
    (λ steps. word_at (codes "ticks ") steps.1 >>= λ rest. number_at false (Some 1000000000) 10 rest >>= λ ticks. Ok ((steps.0, ticks.0), ticks.1))
    (λ a left h.
    after (codes "ticks ") (Left (Rest Limits after-steps-word) steps-of after-steps a) after-ticks-word (λ c g. refl) (a, 1) (limits-from a 1 h one-tick, refl)
    left (λ rest. number_at false (Some 1000000000) 10 rest >>= λ ticks. Ok ((a, ticks.0), ticks.1))
    (λ more.
    then (Number false (Some 1000000000) 10) (Rest (Left (Rest Limits after-steps-word) steps-of after-steps a) after-ticks-word) ticks-of no-more-of
    (λ c g. stands-above c.1 1000000000 g.0.some_ticks g.0.few_ticks) (λ c g. sym (append-nil (after-ticks-word c)))
    (λ b g. ((a, b), (limits-from a b h g, refl), refl))
    more (number_at false (Some 1000000000) 10 more) (number-judged false (Some 1000000000) 10 no-newline 1 one-tick more)
    (λ ticks. Ok ((a, ticks.0), ticks.1))
    (λ b end g.
    ended (Left (Rest (Left (Rest Limits after-steps-word) steps-of after-steps a) after-ticks-word) ticks-of no-more-of b) (a, b) end
    ((limits-from a b h g, refl), refl) refl (λ c i. λ t. (i.0.1 t, i.1 t))))))

-- what stands after the first byte of an item's line
abbrev pub StepHolds : Item → Type 0
StepHolds (Step actor name) = IsItemOf false (Step actor name)
StepHolds (Quiesce name) = ⊥
StepHolds (Tick to) = ⊥

abbrev pub QuiesceHolds : Item → Type 0
QuiesceHolds (Step actor name) = ⊥
QuiesceHolds (Quiesce name) = IsItemOf false (Quiesce name)
QuiesceHolds (Tick to) = ⊥

abbrev pub TickHolds : Item → Type 0
TickHolds (Step actor name) = ⊥
TickHolds (Quiesce name) = ⊥
TickHolds (Tick to) = IsMoment true to

abbrev moment_of : Item → ℕ
moment_of (Step actor name) = 0
moment_of (Quiesce name) = 0
moment_of (Tick to) = to

abbrev pub after-made : Item → List ℕ
after-made item = number_text (number_of item) ++ newline

abbrev after-actor : Item → List ℕ
after-actor item = number_text (actor_of item) ++ (blank ++ after-made item)

abbrev after-moment : Item → List ℕ
after-moment item = number_text (moment_of item) ++ newline

abbrev Steps : Format Item
Steps = record { Holds = StepHolds; text = λ item. blank ++ after-actor item }

abbrev Quiesces : Format Item
Quiesces = record { Holds = QuiesceHolds; text = λ item. blank ++ after-made item }

abbrev Ticks : Format Item
Ticks = record { Holds = TickHolds; text = λ item. blank ++ after-moment item }

step-from : (a b : ℕ) → CanStand false (Some 4294967295) a → CanStand true (Some 4294967295) b → StepHolds (Step a b)
step-from a b h g =
    let l : a ≤ 4294967295 = at-most false a 4294967295 h in
    let m : b ≤ 4294967295 = at-most true b 4294967295 g in
    (at-least (Some 4294967295) a h, omega (arith, l), omega (arith, m))

step-actor : (c : Item) → StepHolds c → CanStand false (Some 4294967295) (actor_of c)
step-actor (Step a b) h = let l : a < 2 ^ 32 = h.1 in stands-above a 4294967295 h.0 (omega (arith, l))
step-actor (Quiesce b) h = absurd h
step-actor (Tick to) h = absurd h

step-name : (c : Item) → StepHolds c → CanStand true (Some 4294967295) (number_of c)
step-name (Step a b) h = let l : b < 2 ^ 32 = h.2 in stands b 4294967295 (omega (arith, l))
step-name (Quiesce b) h = absurd h
step-name (Tick to) h = absurd h

quiesce-from : (b : ℕ) → CanStand true (Some 4294967295) b → QuiesceHolds (Quiesce b)
quiesce-from b g = let m : b ≤ 4294967295 = at-most true b 4294967295 g in omega (arith, m)

quiesce-name : (c : Item) → QuiesceHolds c → CanStand true (Some 4294967295) (number_of c)
quiesce-name (Step a b) h = absurd h
quiesce-name (Quiesce b) h = let l : b < 2 ^ 32 = h in stands b 4294967295 (omega (arith, l))
quiesce-name (Tick to) h = absurd h

tick-from : (to : ℕ) → CanStand false (Some 2147483647) to → TickHolds (Tick to)
tick-from to h = (at-least (Some 2147483647) to h, at-most false to 2147483647 h)

tick-moment : (c : Item) → TickHolds c → CanStand false (Some 2147483647) (moment_of c)
tick-moment (Step a b) h = absurd h
tick-moment (Quiesce b) h = absurd h
tick-moment (Tick to) h = stands-above to 2147483647 h.0 h.1

same-step : (a b : ℕ) (c : Item) → StepHolds c → actor_of c ≡ a → number_of c ≡ b → c ≡ Step a b
same-step a b (Step x y) h p q = λ i. Step (p i) (q i)
same-step a b (Quiesce y) h p q = absurd h
same-step a b (Tick to) h p q = absurd h

same-quiesce : (b : ℕ) (c : Item) → QuiesceHolds c → number_of c ≡ b → c ≡ Quiesce b
same-quiesce b (Step x y) h q = absurd h
same-quiesce b (Quiesce y) h q = ap Quiesce q
same-quiesce b (Tick to) h q = absurd h

same-tick : (to : ℕ) (c : Item) → TickHolds c → moment_of c ≡ to → c ≡ Tick to
same-tick to (Step x y) h q = absurd h
same-tick to (Quiesce y) h q = absurd h
same-tick to (Tick y) h q = ap Tick q

one-actor : CanStand false (Some 4294967295) 1
one-actor = stands-above 1 4294967295 (omega arith) (omega arith)

no-name : CanStand true (Some 4294967295) 0
no-name = stands 0 4294967295 (omega arith)

step-judged : (s : List ℕ) → Judged Steps s (step_at s)
unfolding step_at
step-judged s =
    after blank Steps after-actor (λ c h. refl) (Step 1 0) (step-from 1 0 one-actor no-name)
    s (λ rest. number_at false (Some 4294967295) 32 rest >>= λ actor. number_at true (Some 4294967295) 10 actor.1 >>= λ name. Ok (Step actor.0 name.0, name.1))
    (λ rest.
    then (Number false (Some 4294967295) 32) (Rest Steps after-actor) actor_of after-made
    step-actor (λ c h. sym (append_assoc (number_text (actor_of c)) (32 ∷ []) (after-made c)))
    (λ a h. (Step a 0, step-from a 0 h no-name, refl))
    rest (number_at false (Some 4294967295) 32 rest) (number-judged false (Some 4294967295) 32 no-blank 1 one-actor rest)
    (λ actor. number_at true (Some 4294967295) 10 actor.1 >>= λ name. Ok (Step actor.0 name.0, name.1))
    (λ a left h.
    then (Number true (Some 4294967295) 10) (Left (Rest Steps after-actor) actor_of after-made a) number_of no-more-of
    (λ c g. step-name c g.0) (λ c g. sym (append-nil (after-made c)))
    (λ b g. (Step a b, (step-from a b h g, refl), refl))
    left (number_at true (Some 4294967295) 10 left) (number-judged true (Some 4294967295) 10 no-newline 0 no-name left)
    (λ name. Ok (Step a name.0, name.1))
    (λ b end g.
    ended (Left (Left (Rest Steps after-actor) actor_of after-made a) number_of no-more-of b) (Step a b) end
    ((step-from a b h g, refl), refl) refl (λ c i. same-step a b c i.0.0 i.0.1 i.1))))

quiesce-judged : (s : List ℕ) → Judged Quiesces s (quiesce_at s)
unfolding quiesce_at
quiesce-judged s =
    after blank Quiesces after-made (λ c h. refl) (Quiesce 0) (quiesce-from 0 no-name)
    s (λ rest. number_at true (Some 4294967295) 10 rest >>= λ name. Ok (Quiesce name.0, name.1))
    (λ rest.
    then (Number true (Some 4294967295) 10) (Rest Quiesces after-made) number_of no-more-of
    quiesce-name (λ c g. sym (append-nil (after-made c)))
    (λ b g. (Quiesce b, quiesce-from b g, refl))
    rest (number_at true (Some 4294967295) 10 rest) (number-judged true (Some 4294967295) 10 no-newline 0 no-name rest)
    (λ name. Ok (Quiesce name.0, name.1))
    (λ b end g. ended (Left (Rest Quiesces after-made) number_of no-more-of b) (Quiesce b) end (quiesce-from b g, refl) refl (λ c i. same-quiesce b c i.0 i.1)))

one-moment : CanStand false (Some 2147483647) 1
one-moment = stands-above 1 2147483647 (omega arith) (omega arith)

tick-judged : (s : List ℕ) → Judged Ticks s (tick_at s)
unfolding tick_at
tick-judged s =
    after blank Ticks after-moment (λ c h. refl) (Tick 1) (tick-from 1 one-moment)
    s (λ rest. number_at false (Some 2147483647) 10 rest >>= λ to. Ok (Tick to.0, to.1))
    (λ rest.
    then (Number false (Some 2147483647) 10) (Rest Ticks after-moment) moment_of no-more-of
    tick-moment (λ c g. sym (append-nil (after-moment c)))
    (λ to g. (Tick to, tick-from to g, refl))
    rest (number_at false (Some 2147483647) 10 rest) (number-judged false (Some 2147483647) 10 no-newline 1 one-moment rest)
    (λ to. Ok (Tick to.0, to.1))
    (λ to end g. ended (Left (Rest Ticks after-moment) moment_of no-more-of to) (Tick to) end (tick-from to g, refl) refl (λ c i. same-tick to c i.0 i.1)))

-- the line of an item
abbrev pub Items-one : Bool → Format Item
Items-one timed = record { Holds = IsItemOf timed; text = item_line }

-- a first byte, which tells the values that come after it
module _ {A : Type 0} (F G : Format A) (b : ℕ)
    (up : (a : A) → G.Holds a → F.Holds a)
    (led : (a : A) → G.Holds a → F.text a ≡ b ∷ G.text a)
    (down : (a : A) (p y : List ℕ) → F.Holds a → b ∷ p ≡ F.text a ++ y → G.Holds a) where
  tails : (a : A) (p y : List ℕ) → F.Holds a → b ∷ p ≡ F.text a ++ y → p ≡ G.text a ++ y
  tails a p y h e = let all : b ∷ p ≡ b ∷ (G.text a ++ y) = e ∙ ap (λ w. w ++ y) (led a (down a p y h e)) in cc

  led-fails : (s : List ℕ) (e : JournalFail) → Failed G s e → Failed F (b ∷ s) e
  led-fails s Truncated k = record {
    value = k.value;
    more = k.more;
    holds = up k.value k.holds;
    whole = ap (λ w. b ∷ w) k.whole ∙ sym (led k.value k.holds);
    some_more = k.some_more;
    none = λ a x h e. k.none a x (down a s x h e) (tails a s x h e);
  }
  led-fails s NotJournal k = record { none = λ a x y h e. k.none a x y (down a (s ++ x) y h e) (tails a (s ++ x) y h e) }
  led-fails s Version k = k
  led-fails s NoMemory k = k

  pub led-judged : (s : List ℕ) (r : Reading A) → Judged G s r → Judged F (b ∷ s) r
  led-judged s (Err e) k = led-fails s e k
  led-judged s (Ok x) k = record {
    holds = up x.0 k.holds;
    splits = ap (λ w. b ∷ w) k.splits ∙ ap (λ w. w ++ x.1) (sym (led x.0 k.holds));
    only = λ a u v h e. k.only a u v (down a (s ++ u) v h e) (tails a (s ++ u) v h e);
  }

step-up : (timed : Bool) (c : Item) → StepHolds c → IsItemOf timed c
step-up timed (Step a b) h = h
step-up timed (Quiesce b) h = absurd h
step-up timed (Tick to) h = absurd h

step-led : (c : Item) → StepHolds c → item_line c ≡ 115 ∷ (blank ++ after-actor c)
step-led (Step a b) h = refl
step-led (Quiesce b) h = absurd h
step-led (Tick to) h = absurd h

step-down : (timed : Bool) (c : Item) (p y : List ℕ) → IsItemOf timed c → 115 ∷ p ≡ item_line c ++ y → StepHolds c
step-down timed (Step a b) p y h e = h
step-down timed (Quiesce b) p y h e = let head : ◌≡◌ {A = ℕ} 115 113 = cc in absurd (omega (arith, head))
step-down timed (Tick to) p y h e = let head : ◌≡◌ {A = ℕ} 115 116 = cc in absurd (omega (arith, head))

quiesce-up : (timed : Bool) (c : Item) → QuiesceHolds c → IsItemOf timed c
quiesce-up timed (Step a b) h = absurd h
quiesce-up timed (Quiesce b) h = h
quiesce-up timed (Tick to) h = absurd h

quiesce-led : (c : Item) → QuiesceHolds c → item_line c ≡ 113 ∷ (blank ++ after-made c)
quiesce-led (Step a b) h = absurd h
quiesce-led (Quiesce b) h = refl
quiesce-led (Tick to) h = absurd h

quiesce-down : (timed : Bool) (c : Item) (p y : List ℕ) → IsItemOf timed c → 113 ∷ p ≡ item_line c ++ y → QuiesceHolds c
quiesce-down timed (Step a b) p y h e = let head : ◌≡◌ {A = ℕ} 113 115 = cc in absurd (omega (arith, head))
quiesce-down timed (Quiesce b) p y h e = h
quiesce-down timed (Tick to) p y h e = let head : ◌≡◌ {A = ℕ} 113 116 = cc in absurd (omega (arith, head))

tick-up : (c : Item) → TickHolds c → IsItemOf true c
tick-up (Step a b) h = absurd h
tick-up (Quiesce b) h = absurd h
tick-up (Tick to) h = h

tick-led : (c : Item) → TickHolds c → item_line c ≡ 116 ∷ (blank ++ after-moment c)
tick-led (Step a b) h = absurd h
tick-led (Quiesce b) h = absurd h
tick-led (Tick to) h = refl

tick-down : (c : Item) (p y : List ℕ) → IsItemOf true c → 116 ∷ p ≡ item_line c ++ y → TickHolds c
tick-down (Step a b) p y h e = let head : ◌≡◌ {A = ℕ} 116 115 = cc in absurd (omega (arith, head))
tick-down (Quiesce b) p y h e = let head : ◌≡◌ {A = ℕ} 116 113 = cc in absurd (omega (arith, head))
tick-down (Tick to) p y h e = h

-- no item's line begins so; that of a tick begins with a `t`
no-item : (timed : Bool) (b : ℕ) (p y : List ℕ) (c : Item) → IsItemOf timed c → (b ≡ 115 → ⊥) → (b ≡ 113 → ⊥) → ((to : ℕ) → IsMoment timed to → b ≡ 116 → ⊥) → b ∷ p ≡ item_line c ++ y → ⊥
no-item timed b p y (Step x z) h s q t e = let head : b ≡ 115 = cc in s head
no-item timed b p y (Quiesce z) h s q t e = let head : b ≡ 113 = cc in q head
no-item timed b p y (Tick to) h s q t e = let head : b ≡ 116 = cc in t to h head

no-line : (c : Item) (x : List ℕ) → [] ≡ item_line c ++ x → ⊥
no-line (Step a b) x e = cc
no-line (Quiesce b) x e = cc
no-line (Tick to) x e = cc

pub item-judged : (timed : Bool) (s : List ℕ) → Judged (Items-one timed) s (item_at timed s)
unfolding item_at
item-judged timed [] = record {
  value = Quiesce 0;
  more = item_line (Quiesce 0);
  holds = omega arith;
  whole = refl;
  some_more = omega arith;
  none = λ c x h e. no-line c x e;
}
item-judged timed (b ∷ s) = by_first (eqb b 115) (eqb b 113) (eqb b 116) timed refl refl refl
  where
    by_first : (x y z t : Bool) → eqb b 115 ≡ x → eqb b 113 ≡ y → eqb b 116 ≡ z
        → Judged (Items-one t) (b ∷ s) (cond x (step_at s) (cond y (quiesce_at s) (cond z (cond t (tick_at s) (Err NotJournal)) (Err NotJournal))))
    by_first true y z t p q r = subst (λ c. Judged (Items-one t) (c ∷ s) (step_at s)) (sym (eqb-true b 115 p)) (led-judged (Items-one t) Steps 115 (step-up t) step-led (step-down t) s (step_at s) (step-judged s))
    by_first false true z t p q r = subst (λ c. Judged (Items-one t) (c ∷ s) (quiesce_at s)) (sym (eqb-true b 113 q)) (led-judged (Items-one t) Quiesces 113 (quiesce-up t) quiesce-led (quiesce-down t) s (quiesce_at s) (quiesce-judged s))
    by_first false false true true p q r = subst (λ c. Judged (Items-one true) (c ∷ s) (tick_at s)) (sym (eqb-true b 116 r)) (led-judged (Items-one true) Ticks 116 tick-up tick-led tick-down s (tick_at s) (tick-judged s))
    by_first false false true false p q r = record { none = λ c x y h e. no-item false b (s ++ x) y c h (eqb-false b 115 p) (eqb-false b 113 q) (λ to none at. none) e }
    by_first false false false t p q r = record { none = λ c x y h e. no-item t b (s ++ x) y c h (eqb-false b 115 p) (eqb-false b 113 q) (λ to moment at. eqb-false b 116 r at) e }

-- the lines of all items, of which there are at most so many
abbrev pub AreItems : Bool → ℕ → List Item → Type 0
AreItems timed most items = (length items ≤ most) × AllByRecursion (IsItemOf timed) items

abbrev pub Items : Bool → ℕ → Format (List Item)
Items timed most = record { Holds = AreItems timed most; text = items_text }

abbrev item-lines : List Item → List ℕ
item-lines items = concat (map item_line items)

abbrev after-items-word : List Item → List ℕ
after-items-word items = number_text (length items) ++ (newline ++ item-lines items)

end-item : (timed : Bool) → IsItemOf timed (Quiesce 0)
end-item timed = omega arith

pub items-judged : (timed : Bool) (most : ℕ) (s : List ℕ) → Judged (Items timed most) s (items_at timed most s)
unfolding items_at
items-judged timed most s =
    after (codes "items ") (Items timed most) after-items-word (λ c h. refl) [] (omega arith, tt)
    s (λ rest. number_at true (Some most) 10 rest >>= λ count. many_at (item_at timed) count.0 count.1)
    (λ rest.
    then (Number true (Some most) 10) (Rest (Items timed most) after-items-word) count-of item-lines
    (λ c h. stands (length c) most h.0) (λ c h. sym (append_assoc (number_text (length c)) (10 ∷ []) (item-lines c)))
    (λ k h. let c = copies (IsItemOf timed) (Quiesce 0) (end-item timed) k in
    (c.all, (let l : length c.all ≡ k = c.long in let g : k ≤ most = at-most true k most h in omega (arith, l, g), c.each), c.long))
    rest (number_at true (Some most) 10 rest) (number-judged true (Some most) 10 no-newline 0 (stands 0 most (omega arith)) rest)
    (λ count. many_at (item_at timed) count.0 count.1)
    (λ k left h.
    equal (Many (Items-one timed) k) (Left (Rest (Items timed most) after-items-word) count-of item-lines k)
    (λ c g. ((let l : length c ≡ k = g.0 in let i : k ≤ most = at-most true k most h in omega (arith, l, i), g.1), g.0))
    (λ c g. (g.1, g.0.1)) (λ c. refl) left (many_at (item_at timed) k left) (many-judged (Items-one timed) (item_at timed) (item-judged timed) (Quiesce 0) (end-item timed) k left)))

-- Stretches of code one after another: each asks what it is for, and goes on with the next.
use Rattle.std.proofs.Common.{◌≡◌, ℕ, zero, suc, ◌+◌, ◌<◌, List, [], ◌∷◌, ◌++◌, length, Option, Some, refl, sym, ◌∙◌, ap, subst, slice_get, arith, length-append}
use Rattle.sr_value.specs.declared.place.Place.{Place}
use Rattle.sr_ask.specs.Behaviors.{Stage, Outcome, Came, Stops, Doing, and_then, give, ◌>>=◌}
use Rattle.sr_ask.specs.declared.ask.Asks.{Asks}
use Rattle.sr_code.specs.Acts.{Point, point, goes, act}
use Rattle.sr_code.specs.Runs.{Machine, go, here_at, carried, then_asks}
use Rattle.sr_code.specs.Stretches.{Has, Extends, Emits, Follows}
use Rattle.sr_code.specs.declared.code.Coded.{Coded}
use Rattle.sr_code.specs.declared.instruction.Instruction.{Instruction}
use Rattle.sr_code.specs.declared.operands.Operands.{Operands}
use Rattle.sr_code.proofs.OneByOne.{one_by_one}

-- ---- work

then_bound : {A B : Type 0} (o : Outcome A) (mid : A → Stage → Asks) (next : A → Doing B) (last : B → Stage → Asks)
    → ((a : A) (stage : Stage) → mid a stage ≡ then_asks (next a stage) last) → then_asks o mid ≡ then_asks (and_then o next) last
then_bound (Came a stage) mid next last h = h a stage
then_bound (Stops asks) mid next last h = refl

-- one piece of work and then another
pub follows_then : {A B : Type 0} {start : Stage → Asks} {first : Doing A} {mid : A → Stage → Asks} {next : A → Doing B} {last : B → Stage → Asks}
    → Follows start first mid → ((a : A) → Follows (mid a) (next a) last) → Follows start (first >>= next) last
follows_then {first = first} {mid = mid} {next = next} {last = last} f n =
    record { same = λ stage. f.same stage ∙ then_bound (first stage) mid next last (λ a after. (n a).same after) }

-- nothing is left to do
pub follows_give : {A : Type 0} (next : A → Stage → Asks) (a : A) → Follows (next a) (give a) next
follows_give next a = record { same = λ stage. refl }

-- the same from another start, and the same work in another form
pub follows_from : {A : Type 0} {start other : Stage → Asks} {doing : Doing A} {next : A → Stage → Asks} → start ≡ other → Follows other doing next → Follows start doing next
follows_from {start = start} {other = other} {doing = doing} {next = next} is h =
    let P : (Stage → Asks) → Type 0 = λ s. Follows s doing next in subst P (sym is) h

pub follows_as : {A : Type 0} {start : Stage → Asks} {doing other : Doing A} {next : A → Stage → Asks} → doing ≡ other → Follows start other next → Follows start doing next
follows_as {start = start} {doing = doing} {other = other} {next = next} is h =
    let P : Doing _ → Type 0 = λ d. Follows start d next in subst P (sym is) h

-- ---- one instruction

-- what is found at an address is carried out
pub runs_found : (m : Machine) (at : ℕ) (coded : Coded) (on : Operands) → slice_get m.code at ≡ Some coded
    → Follows (go m (point (suc at) on)) (act m.core coded.instruction (here_at m coded.place) at on) (go m)
runs_found m at coded on is = record {
  same = λ stage.
      let P : Option Coded → Type 0 = λ found. go m (point (suc at) on) stage ≡ then_asks (carried found m at on stage) (go m) in
      subst P is (one_by_one m (point (suc at) on) stage);
}

-- ---- where stretches stand

-- the part below, and the part above, of a stretch
pub lower_part : {from : ℕ} {code longer whole : List Coded} → Extends code longer → Has longer from (length longer) whole → Has code from (length code) whole
lower_part e h = record { same = λ at low high. let kept = e.kept.same at (omega arith) high in let above = e.above in h.same at low (omega arith) ∙ kept }

pub upper_part : {code longer longest whole : List Coded} → Extends code longer → Has longest (length code) (length longest) whole → Has longest (length longer) (length longest) whole
upper_part e h = record { same = λ at low high. let above = e.above in h.same at (omega arith) high }

pub extends_self : (code : List Coded) → Extends code code
extends_self code = record { above = omega arith; kept = record { same = λ at low high. refl } }

pub extends_then : {code longer longest : List Coded} → Extends code longer → Extends longer longest → Extends code longest
extends_then {code = code} {longer = longer} e f = record {
  above = let l = e.above in let k = f.above in omega arith;
  kept = record { same = λ at low high. let l = e.above in f.kept.same at low (omega arith) ∙ e.kept.same at low high };
}

-- ---- one instruction more

got_last : (code : List Coded) (coded : Coded) → slice_get (code ++ coded ∷ []) (length code) ≡ Some coded
got_last [] coded = refl
got_last (first ∷ code) coded = got_last code coded

got_before : (code : List Coded) (coded : Coded) (at : ℕ) → at < length code → slice_get (code ++ coded ∷ []) at ≡ slice_get code at
got_before [] coded at within = absurd (omega arith)
got_before (first ∷ code) coded zero within = refl
got_before (first ∷ code) coded (suc at) within = got_before code coded at (omega arith)

pub emitted_length : {line : Place} {instruction : Instruction} {code longer : List Coded} → Emits line instruction code longer → length longer ≡ suc (length code)
emitted_length {line = line} {instruction = instruction} {code = code} e =
    ap length e.is ∙ length-append code (record { place = line; instruction = instruction } ∷ []) ∙ add_one (length code) where
      add_one : (n : ℕ) → n + 1 ≡ suc n
      add_one n = omega arith

pub extends_one : {line : Place} {instruction : Instruction} {code longer : List Coded} → Emits line instruction code longer → Extends code longer
extends_one {code = code} e = record {
  above = let l = emitted_length e in omega arith;
  kept = record { same = λ at low high. ap (λ c. slice_get c at) e.is ∙ got_before code _ at high };
}

-- the instruction is carried out
pub runs_act : (m : Machine) {line : Place} {instruction : Instruction} {code longer : List Coded} → Emits line instruction code longer
    → Has longer (length code) (length longer) m.code → (on : Operands)
    → Follows (go m (point (length longer) on)) (act m.core instruction (here_at m line) (length code) on) (go m)
runs_act m {line = line} {instruction = instruction} {code = code} {longer = longer} e h on =
    let length_is = emitted_length e in
    let found = h.same (length code) (omega arith) (omega arith) ∙ ap (λ c. slice_get c (length code)) e.is ∙ got_last code (record { place = line; instruction = instruction }) in
    let one = runs_found m (length code) (record { place = line; instruction = instruction }) on found in
    record { same = λ stage. ap (λ n. go m (point n on) stage) length_is ∙ one.same stage }

-- an instruction that leads to an address
pub runs_to : {A : Type 0} (m : Machine) {line : Place} {instruction : Instruction} {code longer : List Coded} → Emits line instruction code longer
    → Has longer (length code) (length longer) m.code → (on : Operands) (doing : Doing A) (after : A → Point)
    → act m.core instruction (here_at m line) (length code) on ≡ (doing >>= λ a. give (after a))
    → Follows (go m (point (length longer) on)) doing (λ a. go m (after a))
runs_to m e h on doing after is =
    record {
      same = λ stage.
          (runs_act m e h on).same stage ∙ ap (λ d. then_asks (d stage) (go m)) is ∙ sym (then_bound (doing stage) (λ a. go m (after a)) (λ a. give (after a)) (go m) (λ a after. refl));
    }

-- an instruction that goes on with the next
pub runs_past : {A : Type 0} (m : Machine) {line : Place} {instruction : Instruction} {code longer : List Coded} → Emits line instruction code longer
    → Has longer (length code) (length longer) m.code → (on : Operands) (doing : Doing A) (after : A → Operands)
    → act m.core instruction (here_at m line) (length code) on ≡ (doing >>= λ a. goes (length code) (after a))
    → Follows (go m (point (length longer) on)) doing (λ a. go m (point (length code) (after a)))
runs_past m {code = code} e h on doing after is = runs_to m e h on doing (λ a. point (length code) (after a)) is

-- an instruction that only changes the operands, and then what follows
pub runs_first : {A : Type 0} (m : Machine) {line : Place} {instruction : Instruction} {code longer : List Coded} {doing : Doing A} {next : A → Stage → Asks} → Emits line instruction code longer
    → Has longer (length code) (length longer) m.code → (on : Operands) (to : Point)
    → act m.core instruction (here_at m line) (length code) on ≡ give to
    → Follows (go m to) doing next → Follows (go m (point (length longer) on)) doing next
runs_first m {next = next} e h on to is f =
    record { same = λ stage. (runs_to {A = Operands} m e h on (give on) (λ _. to) is).same stage ∙ f.same stage }

-- Quantifiers whose turns are opened one by one, and closed from the last to the first.
use Rattle.std.proofs.Common.{◌≡◌, ℕ, zero, suc, ◌+◌, ◌-◌, ◌<◌, ◌≤◌, List, [], ◌∷◌, ◌++◌, drop, length, get_or, slice_get, Option, Some, refl, sym, ◌∙◌, ap, subst, arith}
use Rattle.std.proofs.lemmas.List.{length_push}
use Rattle.sr_value.specs.declared.place.Place.{Place}
use Rattle.sr_core.specs.declared.component.Core.{Core}
use Rattle.sr_core.specs.declared.statement.Quantifier.{Quantifier}
use Rattle.sr_code.specs.Operands.{put_numbers}
use Rattle.sr_code.specs.Stretches.{Emits}
use Rattle.sr_code.specs.declared.code.Coded.{Coded}
use Rattle.sr_code.specs.declared.instruction.Instruction.TheVariants.{Each, Jump}
use Rattle.sr_gen_expr.specs.Emitting.{Gives}
use Rattle.sr_gen_expr.proofs.Stretching.{emits_as}
use Rattle.sr_meaning.specs.declared.ending.Ending.{Ending}
use Rattle.sr_meaning.specs.Expressions.{Meaning}
use Rattle.sr_meaning.specs.Statements.{condition_meaning, quantified}
use Rattle.sr_gen.specs.Blocks.{bounds_meaning}
use Rattle.sr_gen.specs.Doing.{Acts, Checks, Drops, Patches, pad_ways}
use Rattle.sr_gen.specs.Quantifiers.{Encloses, Opened, Opens, OpensAt}
use Rattle.sr_gen.specs.declared.turns.Turns.{Turns}
use Rattle.sr_gen.specs.declared.ways.Ways.{Ways}
use Rattle.sr_gen.proofs.Endings.{acts_as}
use Rattle.sr_gen.proofs.Loops.{acts_quantified, acts_with, checks_with, patches_with}
use Rattle.sr_gen.proofs.Services.{item_at}
use Rattle.sr_gen_expr.proofs.Rows.{drop_all, drop_from}

-- ---- opened

pub opens_turns : {line : Place} (var : ℕ) (ways : Ways) (turns : Turns) (to returned left each turned : ℕ) {c0 c2 c4 c5 c6 : List Coded}
    → Drops ways.returned c0 c2 → Drops ways.left c2 c4 → Emits line (Jump to) c4 c5 → Emits line (Each var 0) c5 c6
    → to ≡ length c0 → returned ≡ length c2 → left ≡ length c4 → each ≡ length c5 → turned ≡ length c6
    → turns ≡ record { each = each; inner = pad_ways left turned returned } → Opens line var ways turns c0 c6
opens_turns var ways turns to returned left each turned {c2 = c2} {c4 = c4} {c5 = c5} {c6 = c6} drop_right drop_left jump take to_is returned_is left_is each_is turned_is is = record {
  returned = c2;
  left = c4;
  past = c5;
  drops_returned = drop_right;
  drops_left = drop_left;
  jumps = emits_as (ap Jump to_is) jump;
  takes = take;
  each = ap (λ t. t.each) is ∙ each_is;
  inner =
      ap (λ t. t.inner) is ∙ ap (λ n. pad_ways n turned returned) left_is ∙ ap (λ n. pad_ways (length c4) n returned) turned_is
      ∙ ap (λ n. pad_ways (length c4) (length c6) n) returned_is;
}

get_more : {A : Type 0} (xs : List A) (y : A) (at : ℕ) → at < length xs → slice_get (xs ++ y ∷ []) at ≡ slice_get xs at
get_more [] y at low = absurd (omega arith)
get_more (x ∷ xs) y zero low = refl
get_more (x ∷ xs) y (suc at) low = get_more xs y at (omega arith)

get_last : {A : Type 0} (xs : List A) (y : A) → slice_get (xs ++ y ∷ []) (length xs) ≡ Some y
get_last [] y = refl
get_last (x ∷ xs) y = get_last xs y

-- turns that are noted later change nothing of those before
opened_more : (line : Place) (quantifiers : List Quantifier) (turns : List Turns) (more : Turns) (ways : Ways) (c0 : List Coded) (at : ℕ) (inner : Ways) (c1 : List Coded) → at ≤ length turns
    → Opened line quantifiers turns ways c0 at inner c1 → Opened line quantifiers (turns ++ more ∷ []) ways c0 at inner c1
opened_more line quantifiers turns more ways c0 zero inner c1 low opened = opened
opened_more line quantifiers turns more ways c0 (suc at) inner c1 low (outer, code, before, opens) =
    let P : Option Turns → Type 0 = λ found. OpensAt line (slice_get quantifiers at) found outer inner code c1 in
    (outer, code, opened_more line quantifiers turns more ways c0 at outer code (omega arith) before, subst P (sym (get_more turns more at (omega arith))) opens)

pub opened_as : (line : Place) (quantifiers : List Quantifier) (turns other : List Turns) (ways : Ways) (c0 : List Coded) (at : ℕ) (inner : Ways) (c1 : List Coded) → turns ≡ other
    → Opened line quantifiers other ways c0 at inner c1 → Opened line quantifiers turns ways c0 at inner c1
opened_as line quantifiers turns other ways c0 at inner c1 is opened = let P : List Turns → Type 0 = λ all. Opened line quantifiers all ways c0 at inner c1 in subst P (sym is) opened

pub open_begins : (line : Place) (quantifiers : List Quantifier) (turns : List Turns) (ways : Ways) (c0 : List Coded) → turns ≡ []
    → (length turns ≡ 0) × Opened line quantifiers turns ways c0 0 ways c0
open_begins line quantifiers turns ways c0 is = (ap length is, (refl, refl))

pub open_step : {line : Place} (quantifiers : List Quantifier) (turns added : List Turns) (ways : Ways) (c0 : List Coded) (at : ℕ) (quantifier : Quantifier) (opened : Turns) {outer : Ways} {c1 c2 : List Coded}
    → (length turns ≡ at) × Opened line quantifiers turns ways c0 at outer c1 → at < length quantifiers → quantifier ≡ get_or quantifiers at quantifier → added ≡ turns ++ opened ∷ []
    → Opens line quantifier.var outer opened c1 c2 → (length added ≡ at + 1) × Opened line quantifiers added ways c0 (at + 1) opened.inner c2
open_step {line = line} quantifiers turns added ways c0 at quantifier opened {outer = outer} {c1 = c1} {c2 = c2} so_far within is added_is opens =
    let size = so_far.0 in
    let low : at ≤ length turns = omega arith in
    let P : List Turns → Type 0 = λ all. (length all ≡ at + 1) × Opened line quantifiers all ways c0 (at + 1) opened.inner c2 in
    let Q : Option Quantifier → Type 0 = λ found. OpensAt line found (Some opened) outer opened.inner c1 c2 in
    let R : Option Turns → Type 0 = λ found. OpensAt line (slice_get quantifiers at) found outer opened.inner c1 c2 in
    let last : Some opened ≡ slice_get (turns ++ opened ∷ []) at = sym (get_last turns opened) ∙ ap (slice_get (turns ++ opened ∷ [])) size in
    let here : R (Some opened) = subst Q (sym (item_at quantifiers at quantifier within is)) (opens, refl) in
    let S : ℕ → Type 0 = λ n. Opened line quantifiers (turns ++ opened ∷ []) ways c0 n opened.inner c2 in
    let one : suc at ≡ at + 1 = omega arith in
    subst P (sym added_is) (length_push turns opened ∙ ap (λ n. n + 1) size, subst S one (outer, c1, opened_more line quantifiers turns opened ways c0 at outer c1 low so_far.1, subst R last here))

-- ---- closed

pub encloses_turns : {core : Core} {line : Place} (q : Quantifier) (turns : Turns) {c7 c8 c9 c10 c11 : List Coded} → Checks turns.inner.turned core line (condition_meaning q.condition) c7 c8
    → Patches line (Each q.var (length c8)) turns.each c8 c9 → Emits line (Jump turns.inner.turned) c9 c10 → Gives put_numbers core line (bounds_meaning q) c10 c11
    → Encloses core line q turns c7 c11
encloses_turns q turns check patch jump bounds = record {
  acts = λ ways rest meaning first mid opens body.
      let turned : turns.inner.turned ≡ length mid = ap (λ w. w.turned) opens.inner in
      acts_quantified q rest meaning opens.drops_returned opens.drops_left opens.jumps opens.takes (acts_with opens.inner body) (checks_with turned check) (patches_with refl opens.each patch)
      (emits_as (ap Jump turned) jump) bounds;
}

-- From some quantifiers on all are closed: what is left is to close those before.
abbrev pub Closed : Core → Place → List Quantifier → List Turns → List Coded → ℕ → List Coded → Type 0
Closed core line quantifiers turns old at new =
    (ways inner : Ways) (meaning : Meaning Ending) (first mid : List Coded) → Opened line quantifiers turns ways first (length quantifiers) inner mid → Acts inner core line meaning mid old
    → (outer : Ways) × (code : List Coded) × Opened line quantifiers turns ways first at outer code × Acts outer core line (quantified (drop at quantifiers) meaning) code new

pub close_begins : (core : Core) (line : Place) (quantifiers : List Quantifier) (turns : List Turns) (c0 : List Coded) (at : ℕ) → at ≡ length quantifiers
    → (at ≤ length quantifiers) × Closed core line quantifiers turns c0 at c0
close_begins core line quantifiers turns c0 at is =
    let P : ℕ → Type 0 = λ n. (n ≤ length quantifiers) × Closed core line quantifiers turns c0 n c0 in
    let most : length quantifiers ≤ length quantifiers = omega arith in
    subst P (sym is)
    (most, λ ways inner meaning first mid opened acts. (inner, mid, opened, acts_as (ap (λ rest. quantified rest meaning) (drop_all quantifiers)) acts))

outer_closed : {core : Core} {line : Place} (quantifiers : List Quantifier) (turns : List Turns) (ways : Ways) (first : List Coded) (at : ℕ) (q : Quantifier) (t : Turns) {outer : Ways} {code c1 c2 : List Coded}
    (meaning : Meaning Ending) → slice_get quantifiers at ≡ Some q → slice_get turns at ≡ Some t → drop at quantifiers ≡ q ∷ drop (suc at) quantifiers → Encloses core line q t c1 c2
    → Opened line quantifiers turns ways first (suc at) outer code → Acts outer core line (quantified (drop (suc at) quantifiers) meaning) code c1
    → (around : Ways) × (before : List Coded) × Opened line quantifiers turns ways first at around before × Acts around core line (quantified (drop at quantifiers) meaning) before c2
outer_closed {line = line} quantifiers turns ways first at q t {outer = outer} {code = code} meaning q_is t_is drop_is encloses (around, before, opened, opens) acts =
    let P : Option Quantifier → Type 0 = λ found. OpensAt line found (slice_get turns at) around outer before code in
    let Q : Option Turns → Type 0 = λ found. OpensAt line (Some q) found around outer before code in
    let one : OpensAt line (Some q) (Some t) around outer before code = subst Q t_is (subst P q_is opens) in
    (around, before, opened, acts_as (ap (λ rest. quantified rest meaning) drop_is) (encloses.acts around (drop (suc at) quantifiers) meaning before code one.0 (acts_with one.1 acts)))

pub close_step : {core : Core} {line : Place} (quantifiers : List Quantifier) (turns : List Turns) (at : ℕ) (q : Quantifier) (t : Turns) {c0 c1 c2 : List Coded} → 0 < at
    → length turns ≡ length quantifiers → (at ≤ length quantifiers) × Closed core line quantifiers turns c0 at c1 → q ≡ get_or quantifiers (at - 1) q → t ≡ get_or turns (at - 1) t
    → Encloses core line q t c1 c2 → (at - 1 ≤ length quantifiers) × Closed core line quantifiers turns c0 (at - 1) c2
close_step {core = core} {line = line} quantifiers turns at q t {c0 = c0} {c1 = c1} {c2 = c2} low size so_far q_is t_is encloses =
    let high = so_far.0 in
    let back : at ≡ suc (at - 1) = omega arith in
    let P : ℕ → Type 0 = λ n. Closed core line quantifiers turns c0 n c1 in
    let closed : P (suc (at - 1)) = subst P back so_far.1 in
    let Q : ℕ → Type 0 = λ n. drop (at - 1) quantifiers ≡ q ∷ drop n quantifiers in
    let from : Q (suc (at - 1)) = subst Q back (drop_from quantifiers at q low high q_is) in
    let q_at : slice_get quantifiers (at - 1) ≡ Some q = item_at quantifiers (at - 1) q (omega arith) q_is in
    let t_at : slice_get turns (at - 1) ≡ Some t = item_at turns (at - 1) t (omega arith) t_is in (
      omega arith,
      λ ways inner meaning first mid opened acts. outer_closed_of quantifiers turns ways first (at - 1) q t meaning q_at t_at from encloses (closed ways inner meaning first mid opened acts),
    ) where
      outer_closed_of : {core : Core} {line : Place} (quantifiers : List Quantifier) (turns : List Turns) (ways : Ways) (first : List Coded) (at : ℕ) (q : Quantifier) (t : Turns) {c1 c2 : List Coded}
          (meaning : Meaning Ending) → slice_get quantifiers at ≡ Some q → slice_get turns at ≡ Some t → drop at quantifiers ≡ q ∷ drop (suc at) quantifiers → Encloses core line q t c1 c2
          → (outer : Ways) × (code : List Coded) × Opened line quantifiers turns ways first (suc at) outer code × Acts outer core line (quantified (drop (suc at) quantifiers) meaning) code c1
          → (around : Ways) × (before : List Coded) × Opened line quantifiers turns ways first at around before × Acts around core line (quantified (drop at quantifiers) meaning) before c2
      outer_closed_of quantifiers turns ways first at q t meaning q_is t_is drop_is encloses (outer, code, opened, acts) = outer_closed quantifiers turns ways first at q t meaning q_is t_is drop_is encloses opened acts

-- all are closed
pub close_ends : {core : Core} {line : Place} (quantifiers : List Quantifier) (turns : List Turns) (at : ℕ) {c0 c1 : List Coded} → at ≤ 0 → Closed core line quantifiers turns c0 at c1
    → (ways inner : Ways) (meaning : Meaning Ending) (first mid : List Coded) → Opened line quantifiers turns ways first (length quantifiers) inner mid → Acts inner core line meaning mid c0
    → Acts ways core line (quantified quantifiers meaning) first c1
close_ends {core = core} {line = line} quantifiers turns at {c0 = c0} {c1 = c1} low closed ways inner meaning first mid opened acts =
    let none : at ≡ zero = omega arith in
    let P : ℕ → Type 0 = λ n. Closed core line quantifiers turns c0 n c1 in
    let first_closed : P zero = subst P none closed in
    whole (first_closed ways inner meaning first mid opened acts) where
      whole : (outer : Ways) × (code : List Coded) × Opened line quantifiers turns ways first 0 outer code × Acts outer core line (quantified quantifiers meaning) code c1
          → Acts ways core line (quantified quantifiers meaning) first c1
      whole (outer, code, (ways_is, code_is), acts) =
          let P : List Coded → Type 0 = λ c. Acts ways core line (quantified quantifiers meaning) c c1 in
          subst P code_is (acts_with ways_is acts)

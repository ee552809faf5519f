-- Statements and guarded blocks that are emitted from the last to the first.
use Rattle.std.proofs.Common.{◌≡◌, ℕ, ◌-◌, ◌<◌, ◌≤◌, List, drop, length, map, sym, subst, ap, get_or, arith}
use Rattle.sr_value.specs.declared.place.Place.{Place}
use Rattle.sr_core.specs.declared.component.Core.{Core}
use Rattle.sr_core.specs.declared.statement.Guarded.{Guarded}
use Rattle.sr_core.specs.declared.statement.Statement.{Statement}
use Rattle.sr_code.specs.declared.code.Coded.{Coded}
use Rattle.sr_meaning.specs.Pieces.{guarded_of}
use Rattle.sr_meaning.specs.Statements.{block_meaning, first_true, meaning_of}
use Rattle.sr_gen_expr.proofs.Rows.{drop_all, drop_from, drop_none}
use Rattle.sr_gen.specs.Doing.{Acts, Tries}
use Rattle.sr_gen.specs.declared.ways.Ways.{Ways}
use Rattle.sr_gen.proofs.Blocks.{tries_more, tries_none}
use Rattle.sr_gen.proofs.Endings.{acts_as, acts_more, acts_skip}

-- ---- blocks

pub block_begins : (ways : Ways) (core : Core) (statements : List Statement) (at : ℕ) (c0 : List Coded) → at ≡ length statements
    → (at ≤ length statements) × ((line : Place) → Acts ways core line (block_meaning (map meaning_of (drop at statements))) c0 c0)
block_begins ways core statements at c0 is =
    let P : ℕ → Type 0 = λ n. (n ≤ length statements) × ((line : Place) → Acts ways core line (block_meaning (map meaning_of (drop n statements))) c0 c0) in
    let most : length statements ≤ length statements = omega arith in
    subst P (sym is) (most, λ line. acts_as (ap (λ rest. block_meaning (map meaning_of rest)) (drop_all statements)) (acts_skip ways core line c0))

pub block_steps : {ways : Ways} {core : Core} (statements : List Statement) (at : ℕ) (statement : Statement) {c0 c1 c2 : List Coded} → 0 < at
    → (at ≤ length statements) × ((line : Place) → Acts ways core line (block_meaning (map meaning_of (drop at statements))) c0 c1)
    → statement ≡ get_or statements (at - 1) statement → ((line : Place) → Acts ways core line (meaning_of statement) c1 c2)
    → (at - 1 ≤ length statements) × ((line : Place) → Acts ways core line (block_meaning (map meaning_of (drop (at - 1) statements))) c0 c2)
block_steps statements at statement low so_far is first =
    let high = so_far.0 in (
      omega arith,
      λ line.
          acts_as (ap (λ rest. block_meaning (map meaning_of rest)) (drop_from statements at statement low high is))
          (acts_more (meaning_of statement) (map meaning_of (drop at statements)) (so_far.1 line) (first line)),
    )

pub block_ends : {ways : Ways} {core : Core} (statements : List Statement) (at : ℕ) {c0 c1 : List Coded} → at ≤ 0
    → ((line : Place) → Acts ways core line (block_meaning (map meaning_of (drop at statements))) c0 c1) → (line : Place) → Acts ways core line (block_meaning (map meaning_of statements)) c0 c1
block_ends statements at low acts line = acts_as (ap (λ rest. block_meaning (map meaning_of rest)) (sym (drop_none statements at low))) (acts line)

-- ---- guarded blocks

pub guards_begin : (ways : Ways) (through : ℕ) (core : Core) (line : Place) (guards : List Guarded) (at : ℕ) (c0 : List Coded) → at ≡ length guards
    → (at ≤ length guards) × Tries ways through core line (first_true (map guarded_of (drop at guards))) c0 c0
guards_begin ways through core line guards at c0 is =
    let P : ℕ → Type 0 = λ n. (n ≤ length guards) × Tries ways through core line (first_true (map guarded_of (drop n guards))) c0 c0 in
    let Q : List Guarded → Type 0 = λ rest. Tries ways through core line (first_true (map guarded_of rest)) c0 c0 in
    let most : length guards ≤ length guards = omega arith in
    subst P (sym is) (most, subst Q (sym (drop_all guards)) (tries_none ways through core line c0))

pub guards_step : {ways : Ways} {through : ℕ} {core : Core} {line : Place} (guards : List Guarded) (at : ℕ) (guarded : Guarded) {c0 c1 c2 : List Coded} → 0 < at
    → (at ≤ length guards) × Tries ways through core line (first_true (map guarded_of (drop at guards))) c0 c1
    → guarded ≡ get_or guards (at - 1) guarded → Tries ways through core line (guarded_of guarded) c1 c2
    → (at - 1 ≤ length guards) × Tries ways through core line (first_true (map guarded_of (drop (at - 1) guards))) c0 c2
guards_step {ways = ways} {through = through} {core = core} {line = line} guards at guarded {c0 = c0} {c2 = c2} low so_far is first =
    let high = so_far.0 in
    let Q : List Guarded → Type 0 = λ rest. Tries ways through core line (first_true (map guarded_of rest)) c0 c2 in
    (omega arith, subst Q (sym (drop_from guards at guarded low high is)) (tries_more (guarded_of guarded) (map guarded_of (drop at guards)) so_far.1 first))

pub guards_end : {ways : Ways} {through : ℕ} {core : Core} {line : Place} (guards : List Guarded) (at : ℕ) {c0 c1 : List Coded} → at ≤ 0
    → Tries ways through core line (first_true (map guarded_of (drop at guards))) c0 c1 → Tries ways through core line (first_true (map guarded_of guards)) c0 c1
guards_end {ways = ways} {through = through} {core = core} {line = line} guards at {c0 = c0} {c1 = c1} low tries =
    let Q : List Guarded → Type 0 = λ rest. Tries ways through core line (first_true (map guarded_of rest)) c0 c1 in subst Q (drop_none guards at low) tries

-- How the code of statements is put together.
use Rattle.std.proofs.Common.{◌≡◌, ℕ, ◌≤◌, min, List, ◌∷◌, length, refl, sym, ◌∙◌, ap, subst, arith}
use Rattle.sr_value.specs.declared.place.Place.{Place}
use Rattle.sr_ask.specs.Behaviors.{Stage, Doing, give, ◌>>=◌, tick}
use Rattle.sr_ask.specs.declared.ask.Asks.{Asks}
use Rattle.sr_core.specs.declared.component.Core.{Core}
use Rattle.sr_code.specs.Acts.{point}
use Rattle.sr_code.specs.Runs.{Machine, go}
use Rattle.sr_code.specs.Stretches.{Emits, Extends, Follows, Has}
use Rattle.sr_code.specs.declared.code.Coded.{Coded}
use Rattle.sr_code.specs.declared.instruction.Instruction.TheVariants.{Jump, Tick}
use Rattle.sr_code.specs.declared.operands.Operands.{Operands}
use Rattle.sr_code.proofs.Stretches.{extends_one, extends_self, extends_then, follows_give, follows_then, lower_part, runs_past, upper_part}
use Rattle.sr_meaning.specs.declared.ending.Ending.{Ending}
use Rattle.sr_meaning.specs.declared.ending.Ending.TheVariants.{Through, Left, Turned}
use Rattle.sr_meaning.specs.Expressions.{Meaning}
use Rattle.sr_meaning.specs.Here.{at_line}
use Rattle.sr_meaning.specs.Statements.{before, block_meaning, through}
use Rattle.sr_gen_expr.specs.Emitting.{Gives, put_nothing, tree_here}
use Rattle.sr_gen_expr.proofs.Stretching.{follows_at, passes}
use Rattle.sr_gen.specs.Doing.{Acts, Onward, way}
use Rattle.sr_gen.specs.declared.ways.Ways.{Ways}

pub onward_grown : {ways : Ways} {code longer : List Coded} → Onward ways (length code) → Extends code longer → Onward ways (length longer)
onward_grown onward grows =
    let above = grows.above in
    record {
      left = let l = onward.left in omega arith;
      turned = let l = onward.turned in omega arith;
      returned = let l = onward.returned in omega arith;
    }

pub lower_of : (to next : ℕ) → to ≤ next → min to next ≡ to
lower_of to next h = omega arith

-- the same code for the same meaning in another form
pub acts_as : {ways : Ways} {core : Core} {line : Place} {meaning other : Meaning Ending} {c0 c1 : List Coded} → meaning ≡ other
    → Acts ways core line other c0 c1 → Acts ways core line meaning c0 c1
acts_as {ways = ways} {core = core} {line = line} {c0 = c0} {c1 = c1} is acts =
    let P : Meaning Ending → Type 0 = λ d. Acts ways core line d c0 c1 in subst P (sym is) acts

-- ---- work that ends through

pub follows_through : {A : Type 0} {start : Stage → Asks} {doing : Doing A} (ways : Ways) (to : ℕ) (m : Machine) (on : Operands)
    → Follows start doing (λ _. go m (point to on)) → Follows start (through doing) (λ ending. go m (point (way ways to ending) on))
follows_through ways to m on f = follows_then f (λ _. follows_give (λ ending. go m (point (way ways to ending) on)) Through)

pub acts_through : {A : Type 0} (ways : Ways) {core : Core} {line : Place} {work : Meaning A} {c0 c1 : List Coded} → Gives put_nothing core line work c0 c1
    → Acts ways core line (λ here. through (work here)) c0 c1
acts_through ways {c0 = c0} g = record {
  grows = g.grows;
  runs = λ onward m same h on. follows_through ways (length c0) m on (g.runs m same h on);
}

-- ---- an ending

pub jumps : (m : Machine) {line : Place} {to : ℕ} {c0 c1 : List Coded} → Emits line (Jump to) c0 c1 → Has c1 (length c0) (length c1) m.code → to ≤ length c0
    → (on : Operands) (stage : Stage) → go m (point (length c1) on) stage ≡ go m (point to on) stage
jumps m {to = to} {c0 = c0} e h low on stage =
    passes m e h on (point (min to (length c0)) on) refl stage ∙ ap (λ n. go m (point n on) stage) (lower_of to (length c0) low)

pub acts_left : {ways : Ways} {core : Core} {line : Place} {c0 c1 : List Coded} → Emits line (Jump ways.left) c0 c1 → Acts ways core line (λ here. give Left) c0 c1
acts_left {ways = ways} {c0 = c0} e = record {
  grows = extends_one e;
  runs = λ onward m same h on. follows_at (jumps m e h onward.left on) (follows_give (λ ending. go m (point (way ways (length c0) ending) on)) Left);
}

pub acts_turned : {ways : Ways} {core : Core} {line : Place} {c0 c1 : List Coded} → Emits line (Jump ways.turned) c0 c1 → Acts ways core line (λ here. give Turned) c0 c1
acts_turned {ways = ways} {c0 = c0} e = record {
  grows = extends_one e;
  runs = λ onward m same h on. follows_at (jumps m e h onward.turned on) (follows_give (λ ending. go m (point (way ways (length c0) ending) on)) Turned);
}

pub acts_returned : {ways : Ways} {core : Core} {line : Place} {c0 c1 : List Coded} → Emits line (Jump ways.returned) c0 c1 → Acts ways core line (λ here. give Ending.Returned) c0 c1
acts_returned {ways = ways} {c0 = c0} e = record {
  grows = extends_one e;
  runs = λ onward m same h on. follows_at (jumps m e h onward.returned on) (follows_give (λ ending. go m (point (way ways (length c0) ending) on)) Ending.Returned);
}

-- nothing at all
pub acts_skip : (ways : Ways) (core : Core) (line : Place) (c0 : List Coded) → Acts ways core line (λ here. give Through) c0 c0
acts_skip ways core line c0 = record {
  grows = extends_self c0;
  runs = λ onward m same h on. follows_give (λ ending. go m (point (way ways (length c0) ending) on)) Through;
}

-- ---- statements one after another

pub acts_more : {ways : Ways} {core : Core} {line : Place} (first : Meaning Ending) (rest : List (Meaning Ending)) {c0 c1 c2 : List Coded}
    → Acts ways core line (block_meaning rest) c0 c1 → Acts ways core line first c1 c2 → Acts ways core line (block_meaning (first ∷ rest)) c0 c2
acts_more {ways = ways} {line = line} first rest {c0 = c0} {c1 = c1} r f = record {
  grows = extends_then r.grows f.grows;
  runs = λ onward m same h on.
      follows_then (f.runs (onward_grown onward r.grows) m same (upper_part r.grows h) on) (λ ending.
      after m on ending (r.runs onward m same (lower_part f.grows h) on));
} where
  after : (m : Machine) (on : Operands) (ending : Ending) → Follows (go m (point (length c1) on)) (block_meaning rest (tree_here m line)) (λ end. go m (point (way ways (length c0) end) on))
      → Follows (go m (point (way ways (length c1) ending) on)) (before ending (block_meaning rest (tree_here m line))) (λ end. go m (point (way ways (length c0) end) on))
  after m on Through on_with = on_with
  after m on Left on_with = follows_give (λ end. go m (point (way ways (length c0) end) on)) Left
  after m on Turned on_with = follows_give (λ end. go m (point (way ways (length c0) end) on)) Turned
  after m on Ending.Returned on_with = follows_give (λ end. go m (point (way ways (length c0) end) on)) Ending.Returned

-- a statement begins with a tick, and what it asks is asked at its own line
pub acts_ticked : {ways : Ways} {core : Core} {place : Place} {meaning : Meaning Ending} {c0 c1 c2 : List Coded} → Acts ways core place meaning c0 c1 → Emits place Tick c1 c2
    → (line : Place) → Acts ways core line (λ here. tick >>= λ _. meaning (at_line place here)) c0 c2
acts_ticked acts e line = record {
  grows = extends_then acts.grows (extends_one e);
  runs = λ onward m same h on.
      follows_then (runs_past m e (upper_part acts.grows h) on tick (λ _. on) refl) (λ _. acts.runs onward m same (lower_part (extends_one e) h) on);
}

-- the same at any line
pub acts_lined : {ways : Ways} {core : Core} {place : Place} {meaning : Meaning Ending} {c0 c1 : List Coded} → Acts ways core place meaning c0 c1
    → (line : Place) → Acts ways core line (λ here. meaning (at_line place here)) c0 c1
acts_lined acts line = record { grows = acts.grows; runs = λ onward m same h on. acts.runs onward m same h on }

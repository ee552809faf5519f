-- Conditions, guarded blocks and `if`: their code asks what they ask.
use Rattle.std.proofs.Common.{◌≡◌, ℕ, ◌≤◌, Bool, true, false, List, [], ◌∷◌, length, Option, Some, None, refl, sym, ap, subst, arith}
use Rattle.sr_value.specs.declared.place.Place.{Place}
use Rattle.sr_ask.specs.Behaviors.{Stage, give, ◌>>=◌}
use Rattle.sr_core.specs.Values.{truth_of}
use Rattle.sr_core.specs.declared.component.Core.{Core}
use Rattle.sr_core.specs.declared.expression.Expr.{Expr}
use Rattle.sr_core.specs.declared.statement.Statement.TheOpen.{Guarded-F}
use Rattle.sr_code.specs.Acts.{point, unless}
use Rattle.sr_code.specs.Operands.{put_value}
use Rattle.sr_code.specs.Runs.{Machine, go}
use Rattle.sr_code.specs.Stretches.{Emits, Extends, Follows}
use Rattle.sr_code.specs.declared.code.Coded.{Coded}
use Rattle.sr_code.specs.declared.instruction.Instruction.TheVariants.{Jump, JumpUnless}
use Rattle.sr_code.specs.declared.operands.Operands.{Operands}
use Rattle.sr_code.proofs.Stretches.{extends_one, extends_self, extends_then, follows_give, follows_then, lower_part, runs_to, upper_part}
use Rattle.sr_meaning.specs.declared.ending.Ending.{Ending}
use Rattle.sr_meaning.specs.declared.ending.Ending.TheVariants.{Through, Left, Turned}
use Rattle.sr_meaning.specs.Expressions.{Meaning, choice, expr_meaning}
use Rattle.sr_meaning.specs.Here.{settle}
use Rattle.sr_meaning.specs.Statements.{CoPart, block_meaning, continue, first_true, guarded_meaning, if_meaning, or_try, truth_expr}
use Rattle.sr_gen_expr.specs.Emitting.{Gives, tree_here}
use Rattle.sr_gen_expr.proofs.Stretching.{follows_at, follows_last}
use Rattle.sr_gen.specs.Doing.{Acts, Checks, Tries, checked, tried, way}
use Rattle.sr_gen.specs.declared.ways.Ways.{Ways}
use Rattle.sr_gen.proofs.Endings.{jumps, lower_of, onward_grown}

-- ---- conditions

pub checks_truth : {core : Core} {line : Place} (expr : Expr) {past : ℕ} {c0 c1 c2 : List Coded} → Emits line (JumpUnless past) c0 c1 → Gives put_value core line (expr_meaning expr) c1 c2
    → Checks past core line (truth_expr expr) c0 c2
checks_truth {line = line} expr {past = past} {c0 = c0} e g = record {
  grows = extends_then (extends_one e) g.grows;
  runs = λ low m same h on.
      follows_then (g.runs m same (upper_part (extends_one e) h) on) (λ v.
      follows_last (λ truth stage. chosen m on low truth stage)
      (runs_to m e (lower_part g.grows h) (put_value v on) (settle (truth_of v) (tree_here m line)) (λ truth. unless truth past (length c0) on) refl));
} where
  chosen : (m : Machine) (on : Operands) → past ≤ length c0 → (truth : Bool) (stage : Stage)
      → go m (unless truth past (length c0) on) stage ≡ go m (point (checked truth past (length c0)) on) stage
  chosen m on low true stage = refl
  chosen m on low false stage = ap (λ n. go m (point n on) stage) (lower_of past (length c0) low)

-- ---- guarded blocks

pub tries_as : {ways : Ways} {through : ℕ} {core : Core} {line : Place} {meaning other : Meaning (Option Ending)} {c0 c1 : List Coded} → meaning ≡ other
    → Tries ways through core line other c0 c1 → Tries ways through core line meaning c0 c1
tries_as {ways = ways} {through = through} {core = core} {line = line} {c0 = c0} {c1 = c1} is tries =
    let P : Meaning (Option Ending) → Type 0 = λ d. Tries ways through core line d c0 c1 in subst P (sym is) tries

pub tries_guarded : {ways : Ways} {through : ℕ} {core : Core} {line : Place} (guarded : Guarded-F (Meaning Ending) CoPart (Meaning (Option Ending))) {c0 c1 c2 c3 : List Coded}
    → Emits line (Jump through) c0 c1 → Acts ways core line (block_meaning guarded.body) c1 c2 → Checks (length c0) core line (truth_expr guarded.condition) c2 c3
    → Tries ways through core line (guarded_meaning guarded) c0 c3
tries_guarded {ways = ways} {through = through} {line = line} guarded {c0 = c0} {c1 = c1} {c2 = c2} jump block check = record {
  grows = extends_then to_block check.grows;
  runs = λ onward low m same h on.
      let below = lower_part check.grows h in
      follows_then (check.runs to_block.above m same (upper_part to_block h) on) (λ truth.
      chosen m on truth
      (follows_then (block.runs (onward_grown onward (extends_one jump)) m same (upper_part (extends_one jump) below) on) (λ ending.
      arrived m on (jumps m jump (lower_part block.grows below) low on) ending)));
} where
  to_block : Extends c0 c2
  to_block = extends_then (extends_one jump) block.grows

  arrived : (m : Machine) (on : Operands) → ((stage : Stage) → go m (point (length c1) on) stage ≡ go m (point through on) stage) → (ending : Ending)
      → Follows (go m (point (way ways (length c1) ending) on)) (give (Some ending)) (λ end. go m (point (tried ways through (length c0) end) on))
  arrived m on on_through Through = follows_at on_through (follows_give (λ end. go m (point (tried ways through (length c0) end) on)) (Some Through))
  arrived m on on_through Left = follows_give (λ end. go m (point (tried ways through (length c0) end) on)) (Some Left)
  arrived m on on_through Turned = follows_give (λ end. go m (point (tried ways through (length c0) end) on)) (Some Turned)
  arrived m on on_through Ending.Returned = follows_give (λ end. go m (point (tried ways through (length c0) end) on)) (Some Ending.Returned)

  chosen : (m : Machine) (on : Operands) (truth : Bool)
      → Follows (go m (point (length c2) on)) (block_meaning guarded.body (tree_here m line) >>= λ ending. give (Some ending)) (λ end. go m (point (tried ways through (length c0) end) on))
      → Follows (go m (point (checked truth (length c0) (length c2)) on)) (choice truth (block_meaning guarded.body (tree_here m line) >>= λ ending. give (Some ending)) (give None))
      (λ end. go m (point (tried ways through (length c0) end) on))
  chosen m on true held = held
  chosen m on false held = follows_give (λ end. go m (point (tried ways through (length c0) end) on)) None

pub tries_none : (ways : Ways) (through : ℕ) (core : Core) (line : Place) (c0 : List Coded) → Tries ways through core line (first_true []) c0 c0
tries_none ways through core line c0 = record {
  grows = extends_self c0;
  runs = λ onward low m same h on. follows_give (λ end. go m (point (tried ways through (length c0) end) on)) None;
}

pub tries_more : {ways : Ways} {through : ℕ} {core : Core} {line : Place} (first : Meaning (Option Ending)) (rest : List (Meaning (Option Ending))) {c0 c1 c2 : List Coded}
    → Tries ways through core line (first_true rest) c0 c1 → Tries ways through core line first c1 c2 → Tries ways through core line (first_true (first ∷ rest)) c0 c2
tries_more {ways = ways} {through = through} {line = line} first rest {c0 = c0} {c1 = c1} r f = record {
  grows = extends_then r.grows f.grows;
  runs = λ onward low m same h on.
      follows_then (f.runs (onward_grown onward r.grows) (let above = r.grows.above in omega arith) m same (upper_part r.grows h) on) (λ end.
      after m on end (r.runs onward low m same (lower_part f.grows h) on));
} where
  after : (m : Machine) (on : Operands) (end : Option Ending)
      → Follows (go m (point (length c1) on)) (first_true rest (tree_here m line)) (λ other. go m (point (tried ways through (length c0) other) on))
      → Follows (go m (point (tried ways through (length c1) end) on)) (or_try end (first_true rest (tree_here m line))) (λ other. go m (point (tried ways through (length c0) other) on))
  after m on None on_with = on_with
  after m on (Some ending) on_with = follows_give (λ other. go m (point (tried ways through (length c0) other) on)) (Some ending)

-- ---- if

pub acts_if : {ways : Ways} {core : Core} {line : Place} (guards : List (Meaning (Option Ending))) (otherwise : List (Meaning Ending)) {c0 c1 c2 : List Coded}
    → Acts ways core line (block_meaning otherwise) c0 c1 → Tries ways (length c0) core line (first_true guards) c1 c2 → Acts ways core line (if_meaning guards otherwise) c0 c2
acts_if {ways = ways} {line = line} guards otherwise {c0 = c0} {c1 = c1} block tries = record {
  grows = extends_then block.grows tries.grows;
  runs = λ onward m same h on.
      follows_then (tries.runs (onward_grown onward block.grows) block.grows.above m same (upper_part block.grows h) on) (λ end.
      after m on end (block.runs onward m same (lower_part tries.grows h) on));
} where
  after : (m : Machine) (on : Operands) (end : Option Ending)
      → Follows (go m (point (length c1) on)) (block_meaning otherwise (tree_here m line)) (λ ending. go m (point (way ways (length c0) ending) on))
      → Follows (go m (point (tried ways (length c0) (length c1) end) on)) (continue end (block_meaning otherwise (tree_here m line))) (λ ending. go m (point (way ways (length c0) ending) on))
  after m on None on_with = on_with
  after m on (Some ending) on_with = follows_give (λ other. go m (point (way ways (length c0) other) on)) ending

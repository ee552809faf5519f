-- How emitted stretches are put together.
use Rattle.std.proofs.Common.{◌≡◌, List, [], ◌∷◌, length, refl, sym, subst, ◌∙◌, ap}
use Rattle.sr_value.specs.declared.place.Place.{Place}
use Rattle.sr_ask.specs.Behaviors.{Stage, Outcome, Came, Stops, Doing, and_then, give, ◌>>=◌}
use Rattle.sr_ask.specs.declared.ask.Asks.{Asks}
use Rattle.sr_core.specs.declared.component.Core.{Core}
use Rattle.sr_code.specs.Acts.{Point, point, goes, act}
use Rattle.sr_code.specs.Runs.{Machine, go, here_at, then_asks}
use Rattle.sr_code.specs.Stretches.{Emits, Follows, Has}
use Rattle.sr_code.specs.declared.code.Coded.{Coded}
use Rattle.sr_code.specs.declared.instruction.Instruction.{Instruction}
use Rattle.sr_code.specs.declared.operands.Operands.{Operands}
use Rattle.sr_code.proofs.Stretches.{follows_then, follows_give, runs_to, runs_past, runs_first, lower_part, upper_part, extends_one, extends_self, extends_then}
use Rattle.sr_meaning.specs.Expressions.{Meaning, in_order}
use Rattle.sr_gen_expr.specs.Emitting.{Gives, Takes, join_all, put_only, tree_here}

-- work that is grouped in another way
pub follows_regroup : {A B C : Type 0} {start : Stage → Asks} (first : Doing A) (mid : A → Doing B) (last : B → Doing C) {next : C → Stage → Asks}
    → Follows start (first >>= λ a. mid a >>= last) next → Follows start ((first >>= mid) >>= last) next
follows_regroup first mid last {next = next} f = record { same = λ stage. f.same stage ∙ regrouped (first stage) mid last next } where
  regrouped : {A B C : Type 0} (o : Outcome A) (mid : A → Doing B) (last : B → Doing C) (next : C → Stage → Asks)
      → then_asks (and_then o (λ a. mid a >>= last)) next ≡ then_asks (and_then (and_then o mid) last) next
  regrouped (Came a stage) mid last next = refl
  regrouped (Stops asks) mid last next = refl

pub follows_ungroup : {A B C : Type 0} {start : Stage → Asks} (first : Doing A) (mid : A → Doing B) (last : B → Doing C) {next : C → Stage → Asks}
    → Follows start ((first >>= mid) >>= last) next → Follows start (first >>= λ a. mid a >>= last) next
follows_ungroup first mid last {next = next} f = record { same = λ stage. f.same stage ∙ regrouped (first stage) mid last next } where
  regrouped : {A B C : Type 0} (o : Outcome A) (mid : A → Doing B) (last : B → Doing C) (next : C → Stage → Asks)
      → then_asks (and_then (and_then o mid) last) next ≡ then_asks (and_then o (λ a. mid a >>= last)) next
  regrouped (Came a stage) mid last next = refl
  regrouped (Stops asks) mid last next = refl

-- the same for three pieces
pub follows_within : {A B C D : Type 0} {start : Stage → Asks} (first : Doing A) (mid : A → Doing B) (third : B → Doing C) (last : C → Doing D) {next : D → Stage → Asks}
    → Follows start ((first >>= mid) >>= λ b. third b >>= last) next → Follows start (first >>= λ a. (mid a >>= third) >>= last) next
follows_within first mid third last {next = next} f = record { same = λ stage. f.same stage ∙ regrouped (first stage) mid third last next } where
  regrouped_one : {B C D : Type 0} (o : Outcome B) (third : B → Doing C) (last : C → Doing D) (next : D → Stage → Asks)
      → then_asks (and_then o (λ b. third b >>= last)) next ≡ then_asks (and_then (and_then o third) last) next
  regrouped_one (Came b stage) third last next = refl
  regrouped_one (Stops asks) third last next = refl

  regrouped : {A B C D : Type 0} (o : Outcome A) (mid : A → Doing B) (third : B → Doing C) (last : C → Doing D) (next : D → Stage → Asks)
      → then_asks (and_then (and_then o mid) (λ b. third b >>= last)) next ≡ then_asks (and_then o (λ a. (mid a >>= third) >>= last)) next
  regrouped (Came a stage) mid third last next = regrouped_one (mid a stage) third last next
  regrouped (Stops asks) mid third last next = refl

-- the same from where another start leads to
pub follows_at : {A : Type 0} {start other : Stage → Asks} {doing : Doing A} {next : A → Stage → Asks} → ((stage : Stage) → start stage ≡ other stage) → Follows other doing next → Follows start doing next
follows_at is f = record { same = λ stage. is stage ∙ f.same stage }

-- what comes after in another form
pub follows_last : {A : Type 0} {start : Stage → Asks} {doing : Doing A} {next other : A → Stage → Asks} → ((a : A) (stage : Stage) → next a stage ≡ other a stage)
    → Follows start doing next → Follows start doing other
follows_last {doing = doing} {next = next} {other = other} is f = record { same = λ stage. f.same stage ∙ same_last (doing stage) next other is } where
  same_last : {A : Type 0} (o : Outcome A) (next other : A → Stage → Asks) → ((a : A) (stage : Stage) → next a stage ≡ other a stage) → then_asks o next ≡ then_asks o other
  same_last (Came a stage) next other is = is a stage
  same_last (Stops asks) next other is = refl

-- an instruction that only leads to an address
pub passes : (m : Machine) {line : Place} {instruction : Instruction} {c0 c1 : List Coded} → Emits line instruction c0 c1 → Has c1 (length c0) (length c1) m.code
    → (on : Operands) (to : Point) → act m.core instruction (here_at m line) (length c0) on ≡ give to → (stage : Stage) → go m (point (length c1) on) stage ≡ go m to stage
passes m e h on to is stage = (runs_to {A = Operands} m e h on (give on) (λ _. to) is).same stage

-- the same code for the same meaning in another form
pub gives_as : {A : Type 0} {put : A → Operands → Operands} {core : Core} {line : Place} {meaning other : Meaning A} {c0 c1 : List Coded} → meaning ≡ other
    → Gives put core line other c0 c1 → Gives put core line meaning c0 c1
gives_as {put = put} {core = core} {line = line} {c0 = c0} {c1 = c1} is g =
    let P : Meaning _ → Type 0 = λ d. Gives put core line d c0 c1 in subst P (sym is) g

pub takes_as : {A B : Type 0} {held : A → Operands → Operands} {put : A → B → Operands → Operands} {core : Core} {line : Place} {work other : A → Meaning B} {c0 c1 : List Coded} → work ≡ other
    → Takes held put core line other c0 c1 → Takes held put core line work c0 c1
takes_as {held = held} {put = put} {core = core} {line = line} {c0 = c0} {c1 = c1} is t =
    let P : (_ → Meaning _) → Type 0 = λ w. Takes held put core line w c0 c1 in subst P (sym is) t

pub gives_regroup : {A B C : Type 0} {put : C → Operands → Operands} {core : Core} {line : Place} (first : Meaning A) (mid : A → Meaning B) (last : B → Meaning C) {c0 c1 : List Coded}
    → Gives put core line (λ here. (first here >>= λ a. mid a here) >>= λ b. last b here) c0 c1
    → Gives put core line (λ here. first here >>= λ a. mid a here >>= λ b. last b here) c0 c1
gives_regroup {line = line} first mid last g = record {
  grows = g.grows;
  runs = λ m same h on. follows_ungroup (first (tree_here m line)) (λ a. mid a (tree_here m line)) (λ b. last b (tree_here m line)) (g.runs m same h on);
}

-- an instruction that asks, whose answer is wrapped
pub gives_wrapped : {A B : Type 0} {put : B → Operands → Operands} {core : Core} {line : Place} {instruction : Instruction} {c0 c1 : List Coded} → Emits line instruction c0 c1
    → (first : Meaning A) (wrap : A → B)
    → ((m : Machine) (on : Operands) → act m.core instruction (here_at m line) (length c0) on ≡ (first (tree_here m line) >>= λ a. goes (length c0) (put (wrap a) on)))
    → Gives put core line (λ here. first here >>= λ a. give (wrap a)) c0 c1
gives_wrapped {put = put} {line = line} {c0 = c0} e first wrap is = record {
  grows = extends_one e;
  runs = λ m same h on. follows_then (runs_past m e h on (first (tree_here m line)) (λ a. put (wrap a) on) (is m on)) (λ a.
      follows_give (λ b. go m (point (length c0) (put b on))) (wrap a));
}

-- an instruction that is known in another form
pub emits_as : {line : Place} {instruction other : Instruction} {c0 c1 : List Coded} → instruction ≡ other → Emits line instruction c0 c1 → Emits line other c0 c1
emits_as {line = line} {c0 = c0} {c1 = c1} is e = let P : Instruction → Type 0 = λ i. Emits line i c0 c1 in subst P is e

-- an instruction that needs no operand
pub gives_first : {A : Type 0} {put : A → Operands → Operands} {core : Core} {line : Place} {instruction : Instruction} {c0 c1 : List Coded} → Emits line instruction c0 c1
    → (meaning : Meaning A)
    → ((m : Machine) (on : Operands) → act m.core instruction (here_at m line) (length c0) on ≡ (meaning (tree_here m line) >>= λ a. goes (length c0) (put a on)))
    → Gives put core line meaning c0 c1
gives_first {put = put} {line = line} e meaning is = record {
  grows = extends_one e;
  runs = λ m same h on. runs_past m e h on (meaning (tree_here m line)) (λ a. put a on) (is m on);
}

-- an instruction after a stretch, with its result
pub gives_then : {A B : Type 0} {first : A → Operands → Operands} {put : B → Operands → Operands} {core : Core} {line : Place} {instruction : Instruction} {meaning : Meaning A} {c0 c1 c2 : List Coded}
    → Emits line instruction c0 c1 → Gives first core line meaning c1 c2 → (next : A → Meaning B)
    → ((m : Machine) (a : A) (on : Operands) → act m.core instruction (here_at m line) (length c0) (first a on) ≡ (next a (tree_here m line) >>= λ b. goes (length c0) (put b on)))
    → Gives put core line (λ here. meaning here >>= λ a. next a here) c0 c2
gives_then {first = first} {put = put} {line = line} e x next is = record {
  grows = extends_then (extends_one e) x.grows;
  runs = λ m same h on. follows_then (x.runs m same (upper_part (extends_one e) h) on) (λ a.
      runs_past m e (lower_part x.grows h) (first a on) (next a (tree_here m line)) (λ b. put b on) (is m a on));
}

-- an instruction before a stretch that only changes the operands
pub gives_before : {A : Type 0} {put first : A → Operands → Operands} {core : Core} {line : Place} {instruction : Instruction} {meaning : Meaning A} {c0 c1 c2 : List Coded}
    → Emits line instruction c1 c2 → Gives first core line meaning c0 c1 → (begun : Operands → Operands)
    → ((m : Machine) (on : Operands) → act m.core instruction (here_at m line) (length c1) on ≡ goes (length c1) (begun on))
    → ((a : A) (on : Operands) → first a (begun on) ≡ put a on)
    → Gives put core line meaning c0 c2
gives_before {put = put} {first = first} {c0 = c0} {c1 = c1} e x begun is joins = record {
  grows = extends_then x.grows (extends_one e);
  runs = λ m same h on. runs_first m e (upper_part x.grows h) on (point (length c1) (begun on)) (is m on)
      (follows_last (λ a stage. ap (λ o. go m (point (length c0) o) stage) (joins a on)) (x.runs m same (lower_part (extends_one e) h) (begun on)));
}

-- an instruction after a stretch that only changes the operands
pub gives_changed : {A : Type 0} {first put : A → Operands → Operands} {core : Core} {line : Place} {instruction : Instruction} {meaning : Meaning A} {c0 c1 c2 : List Coded}
    → Emits line instruction c0 c1 → Gives first core line meaning c1 c2
    → ((m : Machine) (a : A) (on : Operands) → act m.core instruction (here_at m line) (length c0) (first a on) ≡ goes (length c0) (put a on))
    → Gives put core line meaning c0 c2
gives_changed {first = first} {put = put} {c0 = c0} e x is = record {
  grows = extends_then (extends_one e) x.grows;
  runs = λ m same h on. follows_last (λ a stage. passes m e (lower_part x.grows h) (first a on) (point (length c0) (put a on)) (is m a on) stage)
      (x.runs m same (upper_part (extends_one e) h) on);
}

-- a stretch before one that takes what it gives
pub gives_taken : {A B : Type 0} {first : A → Operands → Operands} {put : B → Operands → Operands} {core : Core} {line : Place} {meaning : Meaning A} (work : A → Meaning B) {c0 c1 c2 : List Coded}
    → Takes first (put_only put) core line work c0 c1 → Gives first core line meaning c1 c2 → Gives put core line (λ here. meaning here >>= λ a. work a here) c0 c2
gives_taken work t g = record {
  grows = extends_then t.grows g.grows;
  runs = λ m same h on. follows_then (g.runs m same (upper_part t.grows h) on) (λ a. t.runs m same (lower_part g.grows h) a on);
}

-- ---- lists

pub joins_none : {A : Type 0} (join : A → Operands → Operands) (core : Core) (line : Place) (c0 : List Coded) → Gives (join_all join) core line (in_order []) c0 c0
joins_none join core line c0 = record {
  grows = extends_self c0;
  runs = λ m same h on. follows_give (λ rest. go m (point (length c0) (join_all join rest on))) [];
}

pub joins_more : {A : Type 0} {join : A → Operands → Operands} {core : Core} {line : Place} (part : Meaning A) (parts : List (Meaning A)) {c0 c1 c2 : List Coded}
    → Gives (join_all join) core line (in_order parts) c0 c1 → Gives join core line part c1 c2 → Gives (join_all join) core line (in_order (part ∷ parts)) c0 c2
joins_more {join = join} part parts {c0 = c0} rest first = record {
  grows = extends_then rest.grows first.grows;
  runs = λ m same h on. follows_then (first.runs m same (upper_part rest.grows h) on) (λ a.
      follows_then (rest.runs m same (lower_part first.grows h) (join a on)) (λ others.
      follows_give (λ all. go m (point (length c0) (join_all join all on))) (a ∷ others)));
}

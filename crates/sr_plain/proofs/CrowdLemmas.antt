-- Crowds: those that wait for invocations alone, at operations that may have got one.
use Rattle.std.proofs.Common.{◌≡◌, ◌⊎◌, inl, inr, ◌<◌, ◌≤◌, ◌+◌, ℕ, zero, suc, ◌==◌, ◌&&◌, ◌||◌, Bool, true, false, cond, List, [], ◌∷◌, ◌++◌, take, length, get_or, Option, Some, None, refl, ap, sym, ◌∙◌, subst, eqb-true, true≢false, arith}
use Rattle.std.proofs.lemmas.Bool.{lt-ltb, ltb-true, or_left as or-left, or_right as or-right, or_cases as or-either, and_parts as both-true, and_from as and-true}
use Rattle.std.proofs.lemmas.List.{take_all}
use Rattle.std.proofs.lemmas.List.Folds.{list_any_more}
use Rattle.std.proofs.lemmas.List.Quantifiers.{position-Some}
use Rattle.std.proofs.lemmas.List.Sums.{sum_by-remove, sum_by-set}
use Rattle.std.proofs.lemmas.Option.{slice_get_cases}
use Rattle.std.specs.BTreeMap.{is_at}
use Rattle.std.specs.BTreeSet.{BTreeSet, Updates, btree_set_len, contains}
use Rattle.std.specs.HashMap.{get}
use Rattle.std.specs.List.{list_any, sum_by}
use Rattle.std.specs.Ordering.{nat_cmp}
use Rattle.std.specs.Prelude.{IfNone, IfSome, find, nat_lt, position, remove, slice_get, slice_set}
use Rattle.sr_calls.proofs.FirstLemmas.{none-found, place-within}
use Rattle.sr_queue.proofs.ClassLemmas.{same_class-itself, same_parts}
use Rattle.sr_queue.specs.Classes.{same_class}
use Rattle.sr_queue.specs.declared.class.Class.{Class}
use Rattle.sr_buckets.proofs.NumberLemmas.{same_test}
use Rattle.sr_plain.specs.Readiness.{IsPutIn, IsSole, holds, ready_len}
use Rattle.sr_plain.specs.Waiting.{AreTakenUnder, HasLeft, HaveOpened, HoldsClass, HoldsNobody, HoldsProcess, IsFirst, IsFirstUpTo, IsNext, IsOpenedAt, IsPromoted, IsPutBack, IsShut, LeavesCrowd, StaysOpen, WaitsThere, crowds_len, is_among, is_closed, is_open, is_open_at, is_ready, may_go, same_variable, turns_len, waits}
use Rattle.sr_plain.specs.declared.crowd.Opened.{Opened}
use Rattle.sr_plain.specs.declared.ready.Ready.{Ready}
use Rattle.sr_plain.specs.declared.waiters.Place.{Place}
use Rattle.sr_plain.specs.declared.waiters.Place.TheVariants.{Watched, Served, Stored, Idle}
use Rattle.sr_plain.specs.declared.waiters.Waiters.{Waiters}
use Rattle.sr_plain.specs.declared.waiters.Waiting.{Waiting}
use Rattle.sr_plain.specs.declared.waiters.Waiting.TheVariants.{Many}

-- ---- tests

and-off : (a : Bool) → (a && false) ≡ false
and-off true = refl
and-off false = refl

shared-and : (a b c : Bool) → ((a && b) || (a && c)) ≡ (a && (b || c))
shared-and true b c = refl
shared-and false b c = refl

-- a test that isn't false is true
not-false : {P : Type 0} (b : Bool) → (b ≡ false → P) → (b ≡ true → P) → P
not-false true off on = on refl
not-false false off on = off refl

-- ---- sets

pub set-more : (k : ℕ) (s n : BTreeSet ℕ) → Updates nat_cmp s n k true → (q : ℕ) → contains nat_cmp s q ≡ true → contains nat_cmp n q ≡ true
set-more k s n updates q here = updates.0 q ∙ by (is_at (nat_cmp k) q)
  where
    by : (b : Bool) → cond b true (contains nat_cmp s q) ≡ true
    by true = refl
    by false = here

set-apart : (k : ℕ) (b : Bool) (s n : BTreeSet ℕ) → Updates nat_cmp s n k b → (q : ℕ) → (k == q) ≡ false → contains nat_cmp n q ≡ contains nat_cmp s q
set-apart k b s n updates q off = updates.2 q (sym (same_test k q) ∙ off)

-- one that is put in alone is new
pub one-in : (process : ℕ) (old new : Ready) → IsPutIn process old new → (q : ℕ) → holds new q ≡ false → (holds old q ≡ false) × ((process == q) ≡ false)
one-in process old new put q off = by (process == q) refl
  where
    by : (b : Bool) → (process == q) ≡ b → (holds old q ≡ false) × ((process == q) ≡ false)
    by false apart = (sym (put.others q apart) ∙ off, apart)
    by true same = absurd (true≢false (sym (subst (λ n. holds new n ≡ true) (eqb-true process q same) put.itself) ∙ off))

pub crowd-left : (process : ℕ) (crowd : Opened) (n : BTreeSet ℕ) (there : Bool) → Updates nat_cmp crowd.processes n process false → there ≡ contains nat_cmp crowd.processes process → contains nat_cmp crowd.processes process ≡ true
    → btree_set_len n + cond there 1 0 ≡ btree_set_len crowd.processes → LeavesCrowd process crowd (record crowd { processes = n })
crowd-left process crowd n there updates is here len = record {
  class = refl;
  others = set-apart process false crowd.processes n updates;
  less = sym (ap (λ b. btree_set_len n + cond b 1 0) (is ∙ here)) ∙ len;
}

-- ---- the first that passes

pub first-same : (f g : ℕ → Bool) → ((q : ℕ) → f q ≡ g q) → (r : Option ℕ) → IsFirst f r → IsFirst g r
first-same f g same None none = λ other. sym (same other) ∙ none other
first-same f g same (Some p) first = (sym (same p) ∙ first.0, λ other below. sym (same other) ∙ first.1 other below)

-- of those after a number
pub first-later : (test : ℕ → Bool) (last : ℕ) (r : Option ℕ) → IfSome r (λ p. test p ≡ true) → IfSome r (λ p. last < p) → IfSome r (λ p. (other : ℕ) → last < other → other < p → test other ≡ false)
    → IfNone r ((other : ℕ) → last < other → test other ≡ false) → IsFirst (λ q. nat_lt last q && test q) r
first-later test last None there later least none = λ other. by other (nat_lt last other) refl
  where
    by : (other : ℕ) (b : Bool) → nat_lt last other ≡ b → (b && test other) ≡ false
    by other true is = none other (ltb-true last other is)
    by other false is = refl
first-later test last (Some p) there later least none = (and-true (nat_lt last p) (test p) (lt-ltb last p later) there, λ other below. by other below (nat_lt last other) refl)
  where
    by : (other : ℕ) → other < p → (b : Bool) → nat_lt last other ≡ b → (b && test other) ≡ false
    by other below true is = least other (ltb-true last other is) below
    by other below false is = refl

pub first-of : (test : ℕ → Bool) (r : Option ℕ) → IfSome r (λ p. test p ≡ true) → IfSome r (λ p. (other : ℕ) → other < p → test other ≡ false) → IfNone r ((other : ℕ) → test other ≡ false) → IsFirst test r
first-of test None there least none = none
first-of test (Some p) there least none = (there, least)

-- ---- who is next

module _ (waiters : Waiters) (last : ℕ) where
  after-all : (other : ℕ) → last < other → (nat_lt last other && may_go waiters other) ≡ false → may_go waiters other ≡ false
  after-all other later off = ap (λ b. b && may_go waiters other) (sym (lt-ltb last other later)) ∙ off

  pub next-after : (p : ℕ) → IsFirst (λ q. nat_lt last q && may_go waiters q) (Some p) → IsNext waiters last (Some p)
  next-after p first =
      let parts = both-true (nat_lt last p) (may_go waiters p) first.0 in
      let later : last < p = ltb-true last p parts.0 in
      record {
        goes = parts.1;
        between = λ other over under. after-all other over (first.1 other under);
        later = λ within. absurd (omega arith);
        sooner = λ within. absurd (omega arith);
      }

  pub next-round : (p : ℕ) → IsFirst (λ q. nat_lt last q && may_go waiters q) None → IsFirst (may_go waiters) (Some p) → IsNext waiters last (Some p)
  next-round p none first = record {
    goes = first.0;
    between = λ other over under. first.1 other under;
    later = λ within other over. after-all other over (none other);
    sooner = λ within other under. first.1 other under;
  }

  pub next-nobody : (r : Option ℕ) → IsFirst (λ q. nat_lt last q && may_go waiters q) None → IsFirst (may_go waiters) r → IsNext waiters last r
  next-nobody None none first = first
  next-nobody (Some p) none first = next-round p none first

-- who is next of those up to a number
module _ (waiters : Waiters) (low high : ℕ) where
  pub first-within : (p : ℕ) → IsFirst (λ q. nat_lt low q && may_go waiters q) (Some p) → p ≤ high → IsFirstUpTo waiters low high (Some p)
  first-within p first within =
      let parts = both-true (nat_lt low p) (may_go waiters p) first.0 in
      record { above = ltb-true low p parts.0; within = within; goes = parts.1; between = λ other over under. after-all waiters low other over (first.1 other under) }

  pub none-beyond : (p : ℕ) → IsFirst (λ q. nat_lt low q && may_go waiters q) (Some p) → high < p → IsFirstUpTo waiters low high None
  none-beyond p first beyond = λ other over under. after-all waiters low other over (first.1 other (omega (arith, beyond, under)))

  pub none-within : IsFirst (λ q. nat_lt low q && may_go waiters q) None → IsFirstUpTo waiters low high None
  none-within none = λ other over under. after-all waiters low other over (none other)

-- where one alone is asked
pub sole-next : (waiters : Waiters) (last process : ℕ) → waiters.opened ≡ [] → IsSole waiters.ready process → IsNext waiters last (Some process)
sole-next waiters last process none sole = record {
  goes = ap (λ b. b || is_open waiters.opened process) sole.goes;
  between = λ other over under. off other (λ same. absurd (omega (arith, same, under)));
  later = λ within other over. off other (λ same. absurd (omega (arith, same, within, over)));
  sooner = λ within other under. off other (λ same. absurd (omega (arith, same, under)));
}
  where
    off : (other : ℕ) → (other ≡ process → ⊥) → may_go waiters other ≡ false
    off other not-it = ap (λ o. holds waiters.ready other || is_open o other) none ∙ by (holds waiters.ready other) refl
      where
        by : (b : Bool) → holds waiters.ready other ≡ b → (holds waiters.ready other || false) ≡ false
        by true held = absurd (not-it (sole.only other held))
        by false held = ap (λ b. b || false) held

-- ---- rows of crowds

any-set : {X : Type 0} (test : X → Bool) (xs : List X) (k : ℕ) (x y : X) → slice_get xs k ≡ Some x → (test x ≡ true → test y ≡ true) → list_any test xs ≡ true → list_any test (slice_set xs k y) ≡ true
any-set test [] zero x y is keeps any = absurd (cc)
any-set test [] (suc k) x y is keeps any = absurd (cc)
any-set test (z ∷ zs) zero x y is keeps any = by (or-either (test z) (list_any test zs) any)
  where
    by : (test z ≡ true) ⊎ (list_any test zs ≡ true) → (test y || list_any test zs) ≡ true
    by (inl here) = or-left (test y) (list_any test zs) (keeps (let same : z ≡ x = cc in sym (ap test same) ∙ here))
    by (inr later) = or-right (test y) (list_any test zs) later
any-set test (z ∷ zs) (suc k) x y is keeps any = by (or-either (test z) (list_any test zs) any) (any-set test zs k x y is keeps)
  where
    by : (test z ≡ true) ⊎ (list_any test zs ≡ true) → (list_any test zs ≡ true → list_any test (slice_set zs k y) ≡ true) → (test z || list_any test (slice_set zs k y)) ≡ true
    by (inl here) more = or-left (test z) (list_any test (slice_set zs k y)) here
    by (inr later) more = or-right (test z) (list_any test (slice_set zs k y)) (more later)

any-removed : {X : Type 0} (test : X → Bool) (xs : List X) (k : ℕ) (x : X) → slice_get xs k ≡ Some x → list_any test xs ≡ true → (test x ≡ true) ⊎ (list_any test (remove xs k) ≡ true)
any-removed test [] zero x is any = absurd (cc)
any-removed test [] (suc k) x is any = absurd (cc)
any-removed test (z ∷ zs) zero x is any = by (or-either (test z) (list_any test zs) any)
  where
    by : (test z ≡ true) ⊎ (list_any test zs ≡ true) → (test x ≡ true) ⊎ (list_any test zs ≡ true)
    by (inl here) = inl (let same : z ≡ x = cc in sym (ap test same) ∙ here)
    by (inr later) = inr later
any-removed test (z ∷ zs) (suc k) x is any = by (or-either (test z) (list_any test zs) any) (any-removed test zs k x is)
  where
    by : (test z ≡ true) ⊎ (list_any test zs ≡ true) → (list_any test zs ≡ true → (test x ≡ true) ⊎ (list_any test (remove zs k) ≡ true)) → (test x ≡ true) ⊎ ((test z || list_any test (remove zs k)) ≡ true)
    by (inl here) more = inr (or-left (test z) (list_any test (remove zs k)) here)
    by (inr later) more = elim (more later) [ inl a ↦ inl a | inr b ↦ inr (or-right (test z) (list_any test (remove zs k)) b) ]

any-pushed : {X : Type 0} (test : X → Bool) (xs : List X) (y : X) → list_any test xs ≡ true → list_any test (xs ++ y ∷ []) ≡ true
any-pushed test [] y any = absurd (true≢false (sym any))
any-pushed test (x ∷ xs) y any = by (or-either (test x) (list_any test xs) any) (any-pushed test xs y)
  where
    by : (test x ≡ true) ⊎ (list_any test xs ≡ true) → (list_any test xs ≡ true → list_any test (xs ++ y ∷ []) ≡ true) → (test x || list_any test (xs ++ y ∷ [])) ≡ true
    by (inl here) more = or-left (test x) (list_any test (xs ++ y ∷ [])) here
    by (inr later) more = or-right (test x) (list_any test (xs ++ y ∷ [])) (more later)

any-last : {X : Type 0} (test : X → Bool) (xs : List X) (y : X) → test y ≡ true → list_any test (xs ++ y ∷ []) ≡ true
any-last test [] y passes = or-left (test y) false passes
any-last test (x ∷ xs) y passes = or-right (test x) (list_any test (xs ++ y ∷ [])) (any-last test xs y passes)

pub within-row : {A : Type 0} (xs : List A) (k : ℕ) (x : A) → slice_get xs k ≡ Some x → k < length xs
within-row [] zero x is = absurd (cc)
within-row [] (suc k) x is = absurd (cc)
within-row (y ∷ ys) zero x is = omega arith
within-row (y ∷ ys) (suc k) x is = let more = within-row ys k x is in omega arith

item-is : {A : Type 0} (xs : List A) (k : ℕ) (x : A) → slice_get xs k ≡ Some x → get_or xs k x ≡ x
item-is [] zero x is = refl
item-is [] (suc k) x is = refl
item-is (y ∷ ys) zero x is = cc
item-is (y ∷ ys) (suc k) x is = item-is ys k x is

-- ---- crowds that are let go

none-of : (keys : List ℕ) (q : ℕ) → length keys ≡ 0 → list_any (is_at (nat_cmp q)) keys ≡ false
none-of [] q none = refl
none-of (k ∷ ks) q none = absurd (cc)

pub nobody-there : (s : BTreeSet ℕ) (q : ℕ) → btree_set_len s ≡ 0 → contains nat_cmp s q ≡ false
nobody-there s q none = none-of s.keys q none

pub stays-without : (opened : List Opened) (place : ℕ) → HoldsNobody opened place → StaysOpen opened (remove opened place)
stays-without opened place holds = record { stays = kept; less = fewer }
  where
    kept : (c : Class) (q : ℕ) → is_open_at opened c q ≡ true → is_open_at (remove opened place) c q ≡ true
    kept c q here = elim (any-removed (λ (o : Opened). same_class o.class c && contains nat_cmp o.processes q) opened place holds.crowd holds.here here) [
      | inl a ↦ absurd (true≢false (sym (both-true (same_class holds.crowd.class c) (contains nat_cmp holds.crowd.processes q) a).1 ∙ none-of holds.crowd.processes.keys q holds.nobody))
      | inr b ↦ b
    ]

    fewer : crowds_len (remove opened place) ≤ crowds_len opened
    fewer =
        let size : Opened → ℕ = λ o. btree_set_len o.processes in
        let sums : sum_by size (remove opened place) + size (get_or opened place holds.crowd) ≡ sum_by size opened = sum_by-remove size opened place holds.crowd (within-row opened place holds.crowd holds.here) in
        omega (arith, sums)

-- ---- one is asked by itself

pub has-left : (process place : ℕ) (old new : List Opened) (holds : HoldsProcess old process place) (crowd : Opened) → LeavesCrowd process holds.crowd crowd → StaysOpen (slice_set old place crowd) new → HasLeft process old new
has-left process place old new holds crowd leaves stays = record { others = others; less = fewer }
  where
    others : (c : Class) (q : ℕ) → (process == q) ≡ false → is_open_at old c q ≡ true → is_open_at new c q ≡ true
    others c q apart here =
        stays.stays c q
        (any-set (λ (o : Opened). same_class o.class c && contains nat_cmp o.processes q) old place holds.crowd crowd holds.here
        (λ was. ap (λ k. same_class k c && contains nat_cmp crowd.processes q) leaves.class ∙ ap (λ b. same_class holds.crowd.class c && b) (leaves.others q apart) ∙ was) here)

    fewer : crowds_len new + 1 ≤ crowds_len old
    fewer =
        let size : Opened → ℕ = λ o. btree_set_len o.processes in
        let within : place < length old = within-row old place holds.crowd holds.here in
        let sums : sum_by size (slice_set old place crowd) + size (get_or old place holds.crowd) ≡ sum_by size old + size crowd = sum_by-set size old place crowd holds.crowd within in
        let was : size (get_or old place holds.crowd) ≡ size holds.crowd = ap size (item-is old place holds.crowd holds.here) in
        let one : size crowd + 1 ≡ size holds.crowd = leaves.less in
        let rest : sum_by size new ≤ sum_by size (slice_set old place crowd) = stays.less in
        omega (arith, sums, was, one, rest)

module _ (process : ℕ) (old new : Waiters) (left : HasLeft process old.opened new.opened) (watched : new.watched ≡ old.watched) (classes : new.classes ≡ old.classes) (variables : new.variables ≡ old.variables) (idle : new.idle ≡ old.idle)
    (put : IsPutIn process old.ready new.ready) where
  others-wait : (key : Place) (q : ℕ) → (process == q) ≡ false → waits old key q ≡ true → waits new key q ≡ true
  others-wait Watched q apart here = ap (λ (s : BTreeSet ℕ). contains nat_cmp s q) watched ∙ here
  others-wait (Served c) q apart here = ap (λ m. is_among (get same_class m c) q) classes ∙ here
  others-wait (Stored v) q apart here = ap (λ m. is_among (get same_variable m v) q) variables ∙ here
  others-wait (Idle c) q apart here =
      ap (λ m. is_among (get same_class m c) q || is_open_at new.opened c q) idle
      ∙ elim (or-either (is_closed old c q) (is_open_at old.opened c q) here) [
        | inl a ↦ or-left (is_closed old c q) (is_open_at new.opened c q) a
        | inr b ↦ or-right (is_closed old c q) (is_open_at new.opened c q) (left.others c q apart b)
      ]

  fewer : turns_len new ≤ turns_len old
  fewer =
      let one : crowds_len new.opened + 1 ≤ crowds_len old.opened = left.less in
      let longer = put.more in
      omega (arith, one, longer)

  pub promoted : IsPromoted process old new
  promoted = record { ready = put.itself; unready = λ q off. (one-in process old.ready new.ready put q off).0; others = others-wait; idle = idle; less = fewer }

pub promoted-same : (process : ℕ) (waiters : Waiters) → may_go waiters process ≡ true → is_open waiters.opened process ≡ false → IsPromoted process waiters waiters
promoted-same process waiters goes alone = record {
  ready = elim (or-either (is_ready waiters process) (is_open waiters.opened process) goes) [ inl a ↦ a | inr b ↦ absurd (true≢false (sym b ∙ alone)) ];
  unready = λ other off. off;
  others = λ key other apart here. here;
  idle = refl;
  less = omega arith;
}

-- where no operation is open
pub promoted-alone : (process : ℕ) (waiters : Waiters) → may_go waiters process ≡ true → waiters.opened ≡ [] → IsPromoted process waiters waiters
promoted-alone process waiters goes none = promoted-same process waiters goes (ap (λ o. is_open o process) none)

or-none : (b : Bool) → (b || false) ≡ b
or-none true = refl
or-none false = refl

only-ready : (waiters : Waiters) (q : ℕ) → waiters.opened ≡ [] → is_ready waiters q ≡ may_go waiters q
only-ready waiters q none = sym (ap (λ o. is_ready waiters q || is_open o q) none ∙ or-none (is_ready waiters q))

pub ready-later : (waiters : Waiters) (last : ℕ) (r : Option ℕ) → waiters.opened ≡ [] → IsFirst (λ q. nat_lt last q && is_ready waiters q) r → IsFirst (λ q. nat_lt last q && may_go waiters q) r
ready-later waiters last r none =
    first-same (λ q. nat_lt last q && is_ready waiters q) (λ q. nat_lt last q && may_go waiters q) (λ q. ap (λ b. nat_lt last q && b) (only-ready waiters q none)) r

pub ready-first : (waiters : Waiters) (r : Option ℕ) → waiters.opened ≡ [] → IsFirst (is_ready waiters) r → IsFirst (may_go waiters) r
ready-first waiters r none = first-same (is_ready waiters) (may_go waiters) (λ q. only-ready waiters q none) r

-- ---- operations that are opened

module _ (class : Class) (w : Waiting) (old new : Waiters) (taken : AreTakenUnder same_class class old.idle new.idle w)
    (watched : new.watched ≡ old.watched) (classes : new.classes ≡ old.classes) (variables : new.variables ≡ old.variables) (unready : (q : ℕ) → is_ready new q ≡ false → is_ready old q ≡ false)
    (open_more : (c : Class) (q : ℕ) → is_open_at old.opened c q ≡ true → is_open_at new.opened c q ≡ true)
    (covers : (q : ℕ) → is_ready new q ≡ false → is_among (Some w) q ≡ true → is_open_at new.opened class q ≡ true) where
  still : (key : Place) (q : ℕ) → is_ready new q ≡ false → waits old key q ≡ true → waits new key q ≡ true
  still Watched q off here = ap (λ (s : BTreeSet ℕ). contains nat_cmp s q) watched ∙ here
  still (Served c) q off here = ap (λ m. is_among (get same_class m c) q) classes ∙ here
  still (Stored v) q off here = ap (λ m. is_among (get same_variable m v) q) variables ∙ here
  still (Idle c) q off here = by (or-either (is_closed old c q) (is_open_at old.opened c q) here)
    where
      at : (b : Bool) → same_class class c ≡ b → is_closed old c q ≡ true → (is_closed new c q || is_open_at new.opened c q) ≡ true
      at true same was =
          let one : class ≡ c = same_parts class c same in
          or-right (is_closed new c q) (is_open_at new.opened c q)
          (subst (λ k. is_open_at new.opened k q ≡ true) one (covers q off (taken.waiting q ∙ ap (λ k. is_among (get same_class old.idle k) q) one ∙ was)))
      at false apart was = or-left (is_closed new c q) (is_open_at new.opened c q) (ap (λ o. is_among o q) (taken.others c apart) ∙ was)

      by : (is_closed old c q ≡ true) ⊎ (is_open_at old.opened c q ≡ true) → (is_closed new c q || is_open_at new.opened c q) ≡ true
      by (inl was) = at (same_class class c) refl was
      by (inr was) = or-right (is_closed new c q) (is_open_at new.opened c q) (open_more c q was)

  closed-then : (c : Class) (q : ℕ) → is_closed new c q ≡ true → (is_closed old c q ≡ true) × (same_class class c ≡ false)
  closed-then c q here = by (same_class class c) refl
    where
      by : (b : Bool) → same_class class c ≡ b → (is_closed old c q ≡ true) × (same_class class c ≡ false)
      by true same = absurd (true≢false (sym here ∙ ap (λ k. is_among (get same_class new.idle k) q) (sym (same_parts class c same)) ∙ taken.nobody q))
      by false apart = (sym (ap (λ o. is_among o q) (taken.others c apart)) ∙ here, apart)

  pub opened-at : IsOpenedAt class old new
  opened-at = record { go_on = record { ready = unready; waiting = still }; closed = closed-then }

-- a crowd is open
pub open-pushed : (class : Class) (processes : BTreeSet ℕ) (opened : List Opened) (q : ℕ) → contains nat_cmp processes q ≡ true → is_open_at (opened ++ record { class = class; processes = processes } ∷ []) class q ≡ true
open-pushed class processes opened q here =
    any-last (λ (o : Opened). same_class o.class class && contains nat_cmp o.processes q) opened (record { class = class; processes = processes }) (and-true (same_class class class) (contains nat_cmp processes q) (same_class-itself class) here)

pub open-more : (opened : List Opened) (crowd : Opened) (c : Class) (q : ℕ) → is_open_at opened c q ≡ true → is_open_at (opened ++ crowd ∷ []) c q ≡ true
open-more opened crowd c q = any-pushed (λ (o : Opened). same_class o.class c && contains nat_cmp o.processes q) opened crowd

pub pushed-many : (class : Class) (processes : BTreeSet ℕ) (old new : Waiters) → new.ready ≡ old.ready → new.watched ≡ old.watched → new.classes ≡ old.classes → new.variables ≡ old.variables → new.idle ≡ old.idle
    → new.opened ≡ old.opened ++ record { class = class; processes = processes } ∷ [] → HaveOpened class (Many processes) old new
pushed-many class processes old new ready watched classes variables idle opened = record {
  unready = λ q off. sym (ap (λ r. holds r q) ready) ∙ off;
  watched = watched;
  classes = classes;
  variables = variables;
  idle = idle;
  stays = λ c q here. ap (λ o. is_open_at o c q) opened ∙ open-more old.opened (record { class = class; processes = processes }) c q here;
  covers = λ q off there. ap (λ o. is_open_at o class q) opened ∙ open-pushed class processes old.opened q there;
}

module _ (class : Class) (w : Waiting) (old new : Waiters) (watched : new.watched ≡ old.watched) (classes : new.classes ≡ old.classes) (variables : new.variables ≡ old.variables) (idle : new.idle ≡ old.idle) (opened : new.opened ≡ old.opened) where
  -- each of them is ready
  pub all-ready : ((q : ℕ) → is_ready new q ≡ false → (is_ready old q ≡ false) × (is_among (Some w) q ≡ false)) → HaveOpened class w old new
  all-ready each = record {
    unready = λ q off. (each q off).0;
    watched = watched;
    classes = classes;
    variables = variables;
    idle = idle;
    stays = λ c q here. ap (λ o. is_open_at o c q) opened ∙ here;
    covers = λ q off there. absurd (true≢false (sym there ∙ (each q off).1));
  }

pub opened-by : (class : Class) (w : Waiting) (old mid new : Waiters) → AreTakenUnder same_class class old.idle mid.idle w
    → mid.ready ≡ old.ready → mid.watched ≡ old.watched → mid.classes ≡ old.classes → mid.variables ≡ old.variables → mid.opened ≡ old.opened → HaveOpened class w mid new → IsOpenedAt class old new
opened-by class w old mid new taken ready watched classes variables opened have =
    opened-at class w old new (subst (λ m. AreTakenUnder same_class class old.idle m w) (sym have.idle) taken) (have.watched ∙ watched) (have.classes ∙ classes) (have.variables ∙ variables)
    (λ q off. sym (ap (λ r. holds r q) ready) ∙ have.unready q off)
    (λ c q here. have.stays c q (ap (λ o. is_open_at o c q) opened ∙ here)) have.covers

-- ---- operations that are shut

among-joined : (joined : BTreeSet ℕ) (q : ℕ) (P : Bool) → (contains nat_cmp joined q ≡ false → P ≡ false) → P ≡ true → contains nat_cmp joined q ≡ true
among-joined joined q P off here = not-false (contains nat_cmp joined q) (λ none. absurd (true≢false (sym here ∙ off none))) (λ there. there)

module _ (class : Class) (w : Option Waiting) (processes joined : BTreeSet ℕ) (old new : Waiters) (is : w ≡ get same_class old.idle class)
    (elsewhere : (k : Class) → same_class class k ≡ false → get same_class new.idle k ≡ get same_class old.idle k) (here : (k : Class) → same_class class k ≡ true → get same_class new.idle k ≡ Some (Many joined))
    (gathers : (q : ℕ) → contains nat_cmp joined q ≡ false → (contains nat_cmp processes q ≡ false) × (is_among w q ≡ false))
    (ready : new.ready ≡ old.ready) (watched : new.watched ≡ old.watched) (classes : new.classes ≡ old.classes) (variables : new.variables ≡ old.variables) (opened : new.opened ≡ old.opened) where
  stay : (wanted : Class) (q : ℕ) → is_closed old wanted q ≡ true → is_closed new wanted q ≡ true
  stay wanted q was = by (same_class class wanted) refl
    where
      by : (b : Bool) → same_class class wanted ≡ b → is_closed new wanted q ≡ true
      by true same =
          ap (λ o. is_among o q) (here wanted same)
          ∙ among-joined joined q (is_among w q) (λ off. (gathers q off).1) (ap (λ o. is_among o q) (is ∙ ap (get same_class old.idle) (same_parts class wanted same)) ∙ was)
      by false apart = ap (λ o. is_among o q) (elsewhere wanted apart) ∙ was

  pub put-back : IsPutBack class processes old new
  put-back = record {
    idle = record {
      ready = ready;
      watched = watched;
      classes = classes;
      variables = variables;
      opened = opened;
      stay = stay;
      closed = λ wanted q apart now. sym (ap (λ o. is_among o q) (elsewhere wanted apart)) ∙ now;
    };
    themselves = λ q there. ap (λ o. is_among o q) (here class (same_class-itself class)) ∙ among-joined joined q (contains nat_cmp processes q) (λ off. (gathers q off).0) there;
  }

-- a crowd is put back
module _ (class : Class) (place : ℕ) (holds-crowd : Opened) (old mid new : Waiters) (there : slice_get old.opened place ≡ Some holds-crowd) (same : same_class holds-crowd.class class ≡ true)
    (ready : mid.ready ≡ old.ready) (watched : mid.watched ≡ old.watched) (classes : mid.classes ≡ old.classes) (variables : mid.variables ≡ old.variables) (idle : mid.idle ≡ old.idle) (opened : mid.opened ≡ remove old.opened place)
    (back : IsPutBack class holds-crowd.processes mid new) where
  closed-old : (wanted : Class) (q : ℕ) → is_closed mid wanted q ≡ is_closed old wanted q
  closed-old wanted q = ap (λ m. is_among (get same_class m wanted) q) idle

  crowd-waits : (c : Class) (q : ℕ) → is_open_at old.opened c q ≡ true → (is_closed new c q || is_open_at new.opened c q) ≡ true
  crowd-waits c q here = elim (any-removed (λ (o : Opened). same_class o.class c && contains nat_cmp o.processes q) old.opened place holds-crowd there here) [
    | inl a ↦
        let parts = both-true (same_class holds-crowd.class c) (contains nat_cmp holds-crowd.processes q) a in
        let one : class ≡ c = sym (same_parts holds-crowd.class class same) ∙ same_parts holds-crowd.class c parts.0 in
        or-left (is_closed new c q) (is_open_at new.opened c q) (subst (λ k. is_closed new k q ≡ true) one (back.themselves q parts.1))
    | inr b ↦ or-right (is_closed new c q) (is_open_at new.opened c q) (ap (λ o. is_open_at o c q) (back.idle.opened ∙ opened) ∙ b)
  ]

  shut-others : (key : Place) (q : ℕ) → waits old key q ≡ true → waits new key q ≡ true
  shut-others Watched q here = ap (λ (s : BTreeSet ℕ). contains nat_cmp s q) (back.idle.watched ∙ watched) ∙ here
  shut-others (Served c) q here = ap (λ m. is_among (get same_class m c) q) (back.idle.classes ∙ classes) ∙ here
  shut-others (Stored v) q here = ap (λ m. is_among (get same_variable m v) q) (back.idle.variables ∙ variables) ∙ here
  shut-others (Idle c) q here = elim (or-either (is_closed old c q) (is_open_at old.opened c q) here) [
    | inl a ↦ or-left (is_closed new c q) (is_open_at new.opened c q) (back.idle.stay c q (closed-old c q ∙ a))
    | inr b ↦ crowd-waits c q b
  ]

  shut-less : turns_len new ≤ turns_len old
  shut-less =
      let size : Opened → ℕ = λ o. btree_set_len o.processes in
      let within : place < length old.opened = within-row old.opened place holds-crowd there in
      let sums : sum_by size (remove old.opened place) + size (get_or old.opened place holds-crowd) ≡ sum_by size old.opened = sum_by-remove size old.opened place holds-crowd within in
      let now : sum_by size new.opened ≡ sum_by size (remove old.opened place) = ap (sum_by size) (back.idle.opened ∙ opened) in
      let same-ready : ready_len new.ready ≡ ready_len old.ready = ap (λ r. ready_len r) (back.idle.ready ∙ ready) in
      omega (arith, sums, now, same-ready)

  pub shut-crowd : IsShut class old new
  shut-crowd = record {
    ready = back.idle.ready ∙ ready;
    others = shut-others;
    closed = λ wanted q apart now. sym (closed-old wanted q) ∙ back.idle.closed wanted q apart now;
    less = shut-less;
  }

pub shut-nobody : (class : Class) (waiters : Waiters) → IsShut class waiters waiters
shut-nobody class waiters = record { ready = refl; others = λ k q here. here; closed = λ wanted q apart here. here; less = omega arith }

pub idle-there : (class : Class) (process : ℕ) (old mid new : Waiters) → IsShut class old mid → WaitsThere (Idle class) process mid new → WaitsThere (Idle class) process old new
idle-there class process old mid new shut there = record {
  ready = there.ready ∙ shut.ready;
  itself = there.itself;
  others = λ k q here. there.others k q (shut.others k q here);
  closed = closed;
  less = let one = shut.less in let two = there.less in omega arith;
}
  where
    at : (c : Class) (q : ℕ) (b : Bool) → same_class class c ≡ b → is_closed mid c q ≡ true → (is_closed old c q ≡ true) ⊎ (Idle class ≡ Idle c)
    at c q true same was = inr (ap Idle (same_parts class c same))
    at c q false apart was = inl (shut.closed c q apart was)

    closed : (c : Class) (q : ℕ) → is_closed new c q ≡ true → (is_closed old c q ≡ true) ⊎ (Idle class ≡ Idle c)
    closed c q now = elim (there.closed c q now) [ inl was ↦ at c q (same_class class c) refl was | inr one ↦ inr one ]

-- ---- one more crowd of a row

pub first-more : (last : ℕ) (xs : List Opened) (i : ℕ) (x : Opened) → i < length xs → x ≡ get_or xs i x → (r : Option ℕ)
    → IsFirst (λ q. (nat_lt last q && is_open (take i xs) q) || (nat_lt last q && contains nat_cmp x.processes q)) r → IsFirst (λ q. nat_lt last q && is_open (take (i + 1) xs) q) r
first-more last xs i x within is r =
    first-same (λ q. (nat_lt last q && is_open (take i xs) q) || (nat_lt last q && contains nat_cmp x.processes q)) (λ q. nat_lt last q && is_open (take (i + 1) xs) q)
    (λ q. shared-and (nat_lt last q) (is_open (take i xs) q) (contains nat_cmp x.processes q)
    ∙ ap (λ b. nat_lt last q && (is_open (take i xs) q || b)) (ap (λ (o : Opened). contains nat_cmp o.processes q) is)
    ∙ ap (λ b. nat_lt last q && b) (sym (list_any_more (λ (o : Opened). contains nat_cmp o.processes q) xs i x within))) r

pub first-of-more : (xs : List Opened) (i : ℕ) (x : Opened) → i < length xs → x ≡ get_or xs i x → (r : Option ℕ) → IsFirst (λ q. is_open (take i xs) q || contains nat_cmp x.processes q) r → IsFirst (is_open (take (i + 1) xs)) r
first-of-more xs i x within is r =
    first-same (λ q. is_open (take i xs) q || contains nat_cmp x.processes q) (is_open (take (i + 1) xs))
    (λ q. ap (λ b. is_open (take i xs) q || b) (ap (λ (o : Opened). contains nat_cmp o.processes q) is) ∙ sym (list_any_more (λ (o : Opened). contains nat_cmp o.processes q) xs i x within)) r

pub first-all : (f : List Opened → ℕ → Bool) (xs ys : List Opened) (i : ℕ) (r : Option ℕ) → xs ≡ ys → length xs ≤ i → IsFirst (f (take i xs)) r → IsFirst (f ys) r
first-all f xs ys i r same over = subst (λ zs. IsFirst (f zs) r) (take_all i xs over ∙ same)

pub first-any : (last : ℕ) → IsFirst (λ q. nat_lt last q && false) None
first-any last other = and-off (nat_lt last other)

pub may-first : (waiters : Waiters) (last : ℕ) (r : Option ℕ) → IsFirst (λ q. (nat_lt last q && is_ready waiters q) || (nat_lt last q && is_open waiters.opened q)) r → IsFirst (λ q. nat_lt last q && may_go waiters q) r
may-first waiters last =
    first-same (λ q. (nat_lt last q && is_ready waiters q) || (nat_lt last q && is_open waiters.opened q)) (λ q. nat_lt last q && may_go waiters q) (λ q. shared-and (nat_lt last q) (is_ready waiters q) (is_open waiters.opened q))

-- ---- where a crowd stands

module _ {X : Type 0} (test : X → Bool) where
  record IsAt (xs : List X) (place : ℕ) : Type 0 where
    item : X
    here : slice_get xs place ≡ Some item
    passes : test item ≡ true

  is-at : (xs : List X) (place : ℕ) → position test xs ≡ Some place → IsAt xs place
  is-at xs place at = by (slice_get_cases xs place).1
    where
      by : ((x : X) × (place < length xs) × (slice_get xs place ≡ Some x) × (get_or xs place x ≡ x)) ⊎ ((length xs ≤ place) × (slice_get xs place ≡ None)) → IsAt xs place
      by (inl (x, within, here, is)) = record { item = x; here = here; passes = subst (λ y. test y ≡ true) is (position-Some test xs place x at).1 }
      by (inr (past, none)) = let within : place < length xs = place-within test xs place at in absurd (omega (arith, past, within))

  none-passes : (xs : List X) → find test xs ≡ None → list_any test xs ≡ false
  none-passes [] none = refl
  none-passes (x ∷ xs) none = by (test x) none (none-passes xs)
    where
      by : (b : Bool) → cond b (Some x) (find test xs) ≡ None → (find test xs ≡ None → list_any test xs ≡ false) → (b || list_any test xs) ≡ false
      by true h more = absurd (cc)
      by false h more = more h

pub holds-class : (crowds : List Opened) (class : Class) (r : Option ℕ) → r ≡ position (λ (o : Opened). same_class o.class class) crowds → IfSome r (HoldsClass crowds class)
holds-class crowds class None is = tt
holds-class crowds class (Some place) is = let at = is-at (λ (o : Opened). same_class o.class class) crowds place (sym is) in record { crowd = at.item; here = at.here; same = at.passes }

pub holds-process : (crowds : List Opened) (process : ℕ) (r : Option ℕ) → r ≡ position (λ (o : Opened). contains nat_cmp o.processes process) crowds → IfSome r (HoldsProcess crowds process)
holds-process crowds process None is = tt
holds-process crowds process (Some place) is = let at = is-at (λ (o : Opened). contains nat_cmp o.processes process) crowds place (sym is) in record { crowd = at.item; here = at.here; holds = at.passes }

pub holds-nobody : (crowds : List Opened) (process : ℕ) (r : Option ℕ) → r ≡ position (λ (o : Opened). contains nat_cmp o.processes process) crowds → IfNone r (is_open crowds process ≡ false)
holds-nobody crowds process None is =
    none-passes (λ (o : Opened). contains nat_cmp o.processes process) crowds (none-found (λ (o : Opened). contains nat_cmp o.processes process) crowds (sym is))
holds-nobody crowds process (Some place) is = tt

-- Those that wait, and those that are woken.
use Rattle.std.proofs.Common.{◌≡◌, ◌≤◌, ◌+◌, inl, inr, ◌⊎◌, ◌&&◌, ◌||◌, ◌==◌, ℕ, Bool, true, false, cond, List, [], ◌∷◌, length, Some, None, refl, ap, sym, ◌∙◌, subst, eqb-true, true≢false, arith}
use Rattle.std.specs.BTreeSet.{BTreeSet, Updates, btree_set_len, contains}
use Rattle.std.specs.HashMap.{HashMap, UpdatesBy, get, hash_map_len}
use Rattle.std.specs.List.{sum_by}
use Rattle.std.specs.Map.{lookup}
use Rattle.std.specs.Ordering.{nat_cmp}
use Rattle.std.proofs.lemmas.Bool.{or_left as or-left, or_from as off-both}
use Rattle.sr_queue.proofs.ClassLemmas.{same_class-itself, same_parts}
use Rattle.sr_queue.specs.Classes.{class_of, same_class}
use Rattle.sr_queue.specs.declared.class.Class.{Class}
use Rattle.sr_value.specs.Operators.{owner_eq}
use Rattle.sr_value.specs.declared.capability.Owner.{Owner}
use Rattle.sr_world.specs.Worlds.{World}
use Rattle.sr_plain.specs.Readiness.{ArePutIn, IsPutIn, holds, ready_len}
use Rattle.sr_plain.specs.Waiting.{AreTakenUnder, AreWokenUnder, GoOn, IsMadeReady, IsOpenedAt, IsWokenAt, WaitsThere, WaitsUnder, is_among, is_closed, is_open_at, is_ready, key_of, same_variable, turns_len, variable_of, waits, wakes}
use Rattle.sr_plain.specs.Waking.{LivingGoOn, ReadiesAll, ReadiesIfLives, WakesByChange, WakesUp}
use Rattle.sr_plain.specs.declared.change.Change.TheVariants as change
use Rattle.sr_plain.specs.declared.change.Woken.{Woken}
use Rattle.sr_plain.specs.declared.crowd.Opened.{Opened}
use Rattle.sr_plain.specs.declared.ready.Ready.{Ready}
use Rattle.sr_plain.specs.declared.variable.Variable.{Variable}
use Rattle.sr_plain.specs.declared.waiters.Place.{Place}
use Rattle.sr_plain.specs.declared.waiters.Place.TheVariants.{Watched, Served, Stored, Idle}
use Rattle.sr_plain.specs.declared.waiters.Waiters.{Waiters}
use Rattle.sr_plain.specs.declared.waiters.Waiting.{Waiting}
use Rattle.sr_plain.specs.declared.waiters.Waiting.TheVariants.{Nobody}
use Rattle.sr_plain.proofs.ChangeLemmas.{same-owner}
use Rattle.sr_plain.proofs.CrowdLemmas.{nobody-there, one-in, set-more}

-- ---- keys

same-parts : (a b : Variable) → same_variable a b ≡ true → a ≡ b
same-parts a b same = by (a.block == b.block) (a.var == b.var) refl refl same
  where
    by : (block var : Bool) → (a.block == b.block) ≡ block → (a.var == b.var) ≡ var → (block && var) ≡ true → a ≡ b
    by true true block var _ = ap (λ x. record a { block = x }) (eqb-true a.block b.block block) ∙ ap (λ x. record b { var = x }) (eqb-true a.var b.var var)
    by true false block var is = absurd (true≢false (sym is))
    by false more block _ is = absurd (true≢false (sym is))

module _ {K S : Type 0} (eq : K → K → Bool) (parts : (a b : K) → eq a b ≡ true → a ≡ b) (m n : HashMap K Waiting S) (key : K) where
  -- one more waits there
  key-written : (process : ℕ) → WaitsUnder eq key process m n → (k : K) (p : ℕ) → is_among (get eq m k) p ≡ true → is_among (get eq n k) p ≡ true
  key-written process under k p here = by (eq key k) refl
    where
      by : (b : Bool) → eq key k ≡ b → is_among (get eq n k) p ≡ true
      by true is =
          ap (λ o. is_among o p) (under.updates.0 k ∙ ap (λ b. cond b (Some under.waiting) (get eq m k)) is)
          ∙ under.others p (subst (λ c. is_among (get eq m c) p ≡ true) (sym (parts key k is)) here)
      by false is = ap (λ o. is_among o p) (under.updates.2 k is) ∙ here

  key-itself : (process : ℕ) → WaitsUnder eq key process m n → is_among (get eq n key) process ≡ true
  key-itself process under = ap (λ o. is_among o process) under.updates.1 ∙ under.itself

  -- those who waited there are ready
  key-taken : (ready readied : Ready) → AreWokenUnder eq key m n ready readied → (p : ℕ) → holds readied p ≡ false → (k : K) → is_among (get eq m k) p ≡ true → is_among (get eq n k) p ≡ true
  key-taken ready readied under p off k here = by (eq key k) refl
    where
      by : (b : Bool) → eq key k ≡ b → is_among (get eq n k) p ≡ true
      by true same = absurd (true≢false (sym (subst (λ x. is_among (get eq m x) p ≡ true) (sym (parts key k same)) here) ∙ under.woken p off))
      by false apart = ap (λ x. is_among x p) (under.others k apart) ∙ here

-- ---- those that wait idly

idle-same : (old new : Waiters) → new.idle ≡ old.idle → new.opened ≡ old.opened → (class : Class) (q : ℕ) → waits old (Idle class) q ≡ true → waits new (Idle class) q ≡ true
idle-same old new idle opened class q here =
    ap (λ m. is_among (get same_class m class) q || is_open_at new.opened class q) idle ∙ ap (λ o. is_among (get same_class old.idle class) q || is_open_at o class q) opened ∙ here

closed-same : (old new : Waiters) → new.idle ≡ old.idle → (class : Class) (q : ℕ) → is_closed new class q ≡ true → is_closed old class q ≡ true
closed-same old new idle class q here = sym (ap (λ m. is_among (get same_class m class) q) idle) ∙ here

turns-same : (old new : Waiters) → new.ready ≡ old.ready → new.opened ≡ old.opened → turns_len new ≤ turns_len old
turns-same old new ready opened =
    let crowd : List Opened → ℕ = sum_by (λ (o : Opened). btree_set_len o.processes) in
    let same : turns_len new ≡ turns_len old = ap (λ r. ready_len r + crowd new.opened) ready ∙ ap (λ o. ready_len old.ready + crowd o) opened in
    omega (arith, same)

-- ---- one more that waits

pub waits-watched : (process : ℕ) (old new : Waiters) → new.ready ≡ old.ready → new.classes ≡ old.classes → new.variables ≡ old.variables → new.idle ≡ old.idle → new.opened ≡ old.opened
    → contains nat_cmp new.watched process ≡ true → ((q : ℕ) → contains nat_cmp old.watched q ≡ true → contains nat_cmp new.watched q ≡ true) → WaitsThere Watched process old new
waits-watched process old new ready classes variables idle opened itself keeps = record {
  ready = ready;
  itself = itself;
  others = more;
  closed = λ class other here. inl (closed-same old new idle class other here);
  less = turns-same old new ready opened;
}
  where
    more : (k : Place) (other : ℕ) → waits old k other ≡ true → waits new k other ≡ true
    more Watched other here = keeps other here
    more (Served c) other here = ap (λ m. is_among (get same_class m c) other) classes ∙ here
    more (Stored v) other here = ap (λ m. is_among (get same_variable m v) other) variables ∙ here
    more (Idle c) other here = idle-same old new idle opened c other here

pub waits-inserted : (process : ℕ) (old new : Waiters) → new.ready ≡ old.ready → new.classes ≡ old.classes → new.variables ≡ old.variables → new.idle ≡ old.idle → new.opened ≡ old.opened
    → Updates nat_cmp old.watched new.watched process true → WaitsThere Watched process old new
waits-inserted process old new ready classes variables idle opened updates =
    waits-watched process old new ready classes variables idle opened updates.1 (set-more process old.watched new.watched updates)

pub waits-written : (class : Class) (process : ℕ) (old new : Waiters) → new.ready ≡ old.ready → new.watched ≡ old.watched → new.variables ≡ old.variables → new.idle ≡ old.idle → new.opened ≡ old.opened
    → WaitsUnder same_class class process old.classes new.classes → WaitsThere (Served class) process old new
waits-written class process old new ready watched variables idle opened under = record {
  ready = ready;
  itself = key-itself same_class same_parts old.classes new.classes class process under;
  others = more;
  closed = λ c other here. inl (closed-same old new idle c other here);
  less = turns-same old new ready opened;
}
  where
    more : (k : Place) (other : ℕ) → waits old k other ≡ true → waits new k other ≡ true
    more Watched other here = ap (λ (s : BTreeSet ℕ). contains nat_cmp s other) watched ∙ here
    more (Served c) other here = key-written same_class same_parts old.classes new.classes class process under c other here
    more (Stored v) other here = ap (λ m. is_among (get same_variable m v) other) variables ∙ here
    more (Idle c) other here = idle-same old new idle opened c other here

pub variable-written : (variable : Variable) (process : ℕ) (old new : Waiters) → new.ready ≡ old.ready → new.watched ≡ old.watched → new.classes ≡ old.classes → new.idle ≡ old.idle → new.opened ≡ old.opened
    → WaitsUnder same_variable variable process old.variables new.variables → WaitsThere (Stored variable) process old new
variable-written variable process old new ready watched classes idle opened under = record {
  ready = ready;
  itself = key-itself same_variable same-parts old.variables new.variables variable process under;
  others = more;
  closed = λ c other here. inl (closed-same old new idle c other here);
  less = turns-same old new ready opened;
}
  where
    more : (k : Place) (other : ℕ) → waits old k other ≡ true → waits new k other ≡ true
    more Watched other here = ap (λ (s : BTreeSet ℕ). contains nat_cmp s other) watched ∙ here
    more (Served c) other here = ap (λ m. is_among (get same_class m c) other) classes ∙ here
    more (Stored v) other here = key-written same_variable same-parts old.variables new.variables variable process under v other here
    more (Idle c) other here = idle-same old new idle opened c other here

or-keeps : (a b a' : Bool) → (a ≡ true → a' ≡ true) → (a || b) ≡ true → (a' || b) ≡ true
or-keeps true b a' keeps h = or-left a' b (keeps refl)
or-keeps false b true keeps h = refl
or-keeps false b false keeps h = h

pub idle-written : (class : Class) (process : ℕ) (old new : Waiters) → new.ready ≡ old.ready → new.watched ≡ old.watched → new.classes ≡ old.classes → new.variables ≡ old.variables → new.opened ≡ old.opened
    → WaitsUnder same_class class process old.idle new.idle → WaitsThere (Idle class) process old new
idle-written class process old new ready watched classes variables opened under = record {
  ready = ready;
  itself = or-left (is_closed new class process) (is_open_at new.opened class process) (key-itself same_class same_parts old.idle new.idle class process under);
  others = more;
  closed = λ c other here. by c other (same_class class c) refl here;
  less = turns-same old new ready opened;
}
  where
    more : (k : Place) (other : ℕ) → waits old k other ≡ true → waits new k other ≡ true
    more Watched other here = ap (λ (s : BTreeSet ℕ). contains nat_cmp s other) watched ∙ here
    more (Served c) other here = ap (λ m. is_among (get same_class m c) other) classes ∙ here
    more (Stored v) other here = ap (λ m. is_among (get same_variable m v) other) variables ∙ here
    more (Idle c) other here =
        ap (λ o. is_closed new c other || is_open_at o c other) opened
        ∙ or-keeps (is_closed old c other) (is_open_at old.opened c other) (is_closed new c other) (key-written same_class same_parts old.idle new.idle class process under c other) here

    by : (c : Class) (other : ℕ) (b : Bool) → same_class class c ≡ b → is_closed new c other ≡ true → (is_closed old c other ≡ true) ⊎ (Idle class ≡ Idle c)
    by c other true is here = inr (ap Idle (same_parts class c is))
    by c other false is here = inl (sym (ap (λ o. is_among o other) (under.updates.2 c is)) ∙ here)

-- ---- those that are woken

pub woken-watched : (old new : Waiters) → ArePutIn (contains nat_cmp old.watched) old.ready new.ready → new.classes ≡ old.classes → new.variables ≡ old.variables → new.idle ≡ old.idle → new.opened ≡ old.opened → IsWokenAt Watched old new
woken-watched old new joined classes variables idle opened = record {
  go_on = record { ready = joined.ready; waiting = stay };
  idle = idle;
  woken = joined.joined;
}
  where
    stay : (k : Place) (p : ℕ) → is_ready new p ≡ false → waits old k p ≡ true → waits new k p ≡ true
    stay Watched p off here = absurd (true≢false (sym here ∙ joined.joined p off))
    stay (Served c) p off here = ap (λ m. is_among (get same_class m c) p) classes ∙ here
    stay (Stored v) p off here = ap (λ m. is_among (get same_variable m v) p) variables ∙ here
    stay (Idle c) p off here = idle-same old new idle opened c p here

pub woken-class : (class : Class) (old new : Waiters) → AreWokenUnder same_class class old.classes new.classes old.ready new.ready
    → new.watched ≡ old.watched → new.variables ≡ old.variables → new.idle ≡ old.idle → new.opened ≡ old.opened → IsWokenAt (Served class) old new
woken-class class old new under watched variables idle opened = record {
  go_on = record { ready = under.unready; waiting = stay };
  idle = idle;
  woken = under.woken;
}
  where
    stay : (k : Place) (p : ℕ) → is_ready new p ≡ false → waits old k p ≡ true → waits new k p ≡ true
    stay Watched p off here = ap (λ (s : BTreeSet ℕ). contains nat_cmp s p) watched ∙ here
    stay (Served c) p off here = key-taken same_class same_parts old.classes new.classes class old.ready new.ready under p off c here
    stay (Stored v) p off here = ap (λ m. is_among (get same_variable m v) p) variables ∙ here
    stay (Idle c) p off here = idle-same old new idle opened c p here

pub woken-variable : (variable : Variable) (old new : Waiters) → AreWokenUnder same_variable variable old.variables new.variables old.ready new.ready
    → new.watched ≡ old.watched → new.classes ≡ old.classes → new.idle ≡ old.idle → new.opened ≡ old.opened → IsWokenAt (Stored variable) old new
woken-variable variable old new under watched classes idle opened = record {
  go_on = record { ready = under.unready; waiting = stay };
  idle = idle;
  woken = under.woken;
}
  where
    stay : (k : Place) (p : ℕ) → is_ready new p ≡ false → waits old k p ≡ true → waits new k p ≡ true
    stay Watched p off here = ap (λ (s : BTreeSet ℕ). contains nat_cmp s p) watched ∙ here
    stay (Served c) p off here = ap (λ m. is_among (get same_class m c) p) classes ∙ here
    stay (Stored v) p off here = key-taken same_variable same-parts old.variables new.variables variable old.ready new.ready under p off v here
    stay (Idle c) p off here = idle-same old new idle opened c p here

nobody : {K X : Type 0} (test : K → Bool) (entries : List (K × X)) → length entries ≡ 0 → lookup test entries ≡ None
nobody test [] none = refl
nobody test (e ∷ es) none = absurd (cc)

module _ {K S : Type 0} (eq : K → K → Bool) (m : HashMap K Waiting S) where
  pub none-under : hash_map_len m ≡ 0 → (key : K) (p : ℕ) → is_among (get eq m key) p ≡ false
  none-under none key p = ap (λ o. is_among o p) (nobody (eq key) m.entries none)

  -- those who waited under a key are taken out, and ready
  pub taken-under : (key : K) (n : HashMap K Waiting S) (taken : Waiting) (ready readied : Ready) → AreTakenUnder eq key m n taken → ArePutIn (is_among (Some taken)) ready readied → AreWokenUnder eq key m n ready readied
  taken-under key n taken ready readied under put = record {
    unready = put.ready;
    woken = λ p off. sym (under.waiting p) ∙ put.joined p off;
    others = under.others;
  }

  pub removed-under : (key : K) (n : HashMap K Waiting S) (taken : Waiting) → ((p : ℕ) → is_among (Some taken) p ≡ is_among (get eq m key) p) → UpdatesBy eq (eq key) m n None → AreTakenUnder eq key m n taken
  removed-under key n taken is updates = record { waiting = is; nobody = λ p. ap (λ o. is_among o p) updates.1; others = λ k apart. updates.2 k apart }

  pub emptied-under : (key : K) (n : HashMap K Waiting S) (taken : Waiting) → Some taken ≡ get eq m key → UpdatesBy eq (eq key) m n (Some Nobody) → AreTakenUnder eq key m n taken
  emptied-under key n taken is updates = record { waiting = λ p. ap (λ o. is_among o p) is; nobody = λ p. ap (λ o. is_among o p) updates.1; others = λ k apart. updates.2 k apart }

  pub absent-under : (key : K) → None ≡ get eq m key → AreTakenUnder eq key m m Nobody
  absent-under key is = record { waiting = λ p. ap (λ o. is_among o p) is; nobody = λ p. ap (λ o. is_among o p) (sym is); others = λ k apart. refl }

  pub nobody-under : (key : K) (ready : Ready) → hash_map_len m ≡ 0 → AreWokenUnder eq key m m ready ready
  nobody-under key ready none = record { unready = λ p off. off; woken = λ p off. none-under none key p; others = λ k apart. refl }

-- where nobody waits for any change
pub watched-nobody : (waiters : Waiters) → btree_set_len waiters.watched ≡ 0 → IsWokenAt Watched waiters waiters
watched-nobody waiters none = record { go_on = record { ready = λ p off. off; waiting = λ k p off here. here }; idle = refl; woken = λ p off. nobody-there waiters.watched p none }

pub made-ready : (process : ℕ) (old new : Waiters) → IsPutIn process old.ready new.ready → new.watched ≡ old.watched → new.classes ≡ old.classes → new.variables ≡ old.variables → new.idle ≡ old.idle → new.opened ≡ old.opened → IsMadeReady process old new
made-ready process old new put watched classes variables idle opened = record {
  go_on = record { ready = λ p off. (one-in process old.ready new.ready put p off).0; waiting = stay };
  idle = idle;
  apart = λ p off. (one-in process old.ready new.ready put p off).1;
}
  where
    stay : (k : Place) (p : ℕ) → is_ready new p ≡ false → waits old k p ≡ true → waits new k p ≡ true
    stay Watched p off here = ap (λ (s : BTreeSet ℕ). contains nat_cmp s p) watched ∙ here
    stay (Served c) p off here = ap (λ m. is_among (get same_class m c) p) classes ∙ here
    stay (Stored v) p off here = ap (λ m. is_among (get same_variable m v) p) variables ∙ here
    stay (Idle c) p off here = idle-same old new idle opened c p here

-- where nobody waits for invocations alone
pub opened-nobody : (class : Class) (waiters : Waiters) → hash_map_len waiters.idle ≡ 0 → IsOpenedAt class waiters waiters
opened-nobody class waiters none = record {
  go_on = record { ready = λ p off. off; waiting = λ k p off here. here };
  closed = λ c q here. absurd (true≢false (sym here ∙ none-under same_class waiters.idle none c q));
}

-- those that wait for any change are woken, and then those that wait there
module _ (key : Place) (old mid new : Waiters) (first : IsWokenAt Watched old mid) (second : IsWokenAt key mid new) where
  both-go-on : GoOn old new
  both-go-on = record {
    ready = λ p off. first.go_on.ready p (second.go_on.ready p off);
    waiting = λ k p off here. second.go_on.waiting k p off (first.go_on.waiting k p (second.go_on.ready p off) here);
  }

  both-woken : (p : ℕ) → is_ready new p ≡ false → (waits old Watched p || waits old key p) ≡ false
  both-woken p off = off-both (waits old Watched p) (waits old key p) (first.woken p (second.go_on.ready p off)) (by (waits old key p) refl)
    where
      by : (b : Bool) → waits old key p ≡ b → waits old key p ≡ false
      by false here = here
      by true here = absurd (true≢false (sym (first.go_on.waiting key p (second.go_on.ready p off) here) ∙ second.woken p off))

living : (world : World) (old new : Waiters) → GoOn old new → LivingGoOn world old new
living world old new go_on = record { ready = λ p s lives off. go_on.ready p off; waiting = λ p s lives off key here. go_on.waiting key p off here }

apart-class : (whose owner : Owner) (n op : ℕ) → same_class (class_of whose n) (class_of owner op) ≡ false → (n == op && owner_eq whose owner) ≡ false
apart-class whose owner n op off = by (n == op) refl (owner_eq whose owner) refl
  where
    by : (a : Bool) → (n == op) ≡ a → (b : Bool) → owner_eq whose owner ≡ b → (a && b) ≡ false
    by false is b is' = refl
    by true is false is' = refl
    by true is true is' =
        absurd (true≢false (sym (ap (same_class (class_of whose n)) (sym (ap (λ o. class_of o n) (same-owner whose owner is') ∙ ap (class_of owner) (eqb-true n op is))) ∙ same_class-itself (class_of whose n)) ∙ off))

-- ---- what each change wakes

pub woken-nothing : (world : World) (waiters : Waiters) → WakesByChange world change.Nothing waiters waiters
woken-nothing world waiters = record {
  go_on = record { ready = λ p s lives off. off; waiting = λ p s lives off key here. here };
  opens = λ owner op p here. (here, refl);
  woken = λ p s lives off. refl;
}

pub woken-by-watched : (world : World) (old new : Waiters) → IsWokenAt Watched old new → WakesByChange world change.Watched old new
woken-by-watched world old new woken = record {
  go_on = living world old new woken.go_on;
  opens = λ owner op p here. (closed-same old new woken.idle (class_of owner op) p here, refl);
  woken = λ p s lives off. woken.woken p off;
}

-- an invocation that goes
pub woken-by-gone : (world : World) (owner : Owner) (op : ℕ) (class : Class) (old mid new : Waiters) → class ≡ class_of owner op → IsWokenAt Watched old mid → IsWokenAt (Served class) mid new
    → WakesByChange world (change.Gone owner op) old new
woken-by-gone world owner op class old mid new is first second =
    let there : IsWokenAt (key_of owner op) mid new = subst (λ c. IsWokenAt (Served c) mid new) is second in
    record {
      go_on = living world old new (both-go-on (key_of owner op) old mid new first there);
      opens = λ whose n p here. (closed-same old mid first.idle (class_of whose n) p (closed-same mid new second.idle (class_of whose n) p here), refl);
      woken = λ p s lives off. both-woken (key_of owner op) old mid new first there p off;
    }

-- an invocation that comes
pub woken-by-class : (world : World) (owner : Owner) (op : ℕ) (class : Class) (old mid after new : Waiters) → class ≡ class_of owner op → IsWokenAt Watched old mid → IsWokenAt (Served class) mid after → IsOpenedAt class after new
    → WakesByChange world (change.Class owner op) old new
woken-by-class world owner op class old mid after new is first second third =
    let there : IsWokenAt (key_of owner op) mid after = subst (λ c. IsWokenAt (Served c) mid after) is second in
    let before : GoOn old after = both-go-on (key_of owner op) old mid after first there in
    record {
      go_on = living world old new (record {
        ready = λ p off. before.ready p (third.go_on.ready p off);
        waiting = λ k p off here. third.go_on.waiting k p off (before.waiting k p (third.go_on.ready p off) here);
      });
      opens = λ whose n p here. let was = third.closed (class_of whose n) p here in
          (closed-same old mid first.idle (class_of whose n) p (closed-same mid after second.idle (class_of whose n) p was.0), apart-class owner whose op n (sym (ap (λ c. same_class c (class_of whose n)) is) ∙ was.1));
      woken = λ p s lives off. both-woken (key_of owner op) old mid after first there p (third.go_on.ready p off);
    }

-- a variable that is declared or stored
pub woken-by-variable : (world : World) (block var : ℕ) (old mid new : Waiters) → IsWokenAt Watched old mid → IsWokenAt (variable_of block var) mid new → WakesByChange world (change.Variable block var) old new
woken-by-variable world block var old mid new first second = record {
  go_on = living world old new (both-go-on (variable_of block var) old mid new first second);
  opens = λ owner op p here. (closed-same old mid first.idle (class_of owner op) p (closed-same mid new second.idle (class_of owner op) p here), refl);
  woken = λ p s lives off. both-woken (variable_of block var) old mid new first second p off;
}

pub woken-by-all : (world : World) (old new : Waiters) → ReadiesAll world new → WakesByChange world change.Everything old new
woken-by-all world old new readies = record {
  go_on = record { ready = λ p s lives off. absurd (readies.all p s lives off); waiting = λ p s lives off. absurd (readies.all p s lives off) };
  opens = λ owner op p here. absurd (true≢false (sym here ∙ readies.nobody (class_of owner op) p));
  woken = λ p s lives off. absurd (readies.all p s lives off);
}

-- who got a reply is woken too, and a new process
pub woken-up : (world : World) (woken : Woken) (old mid after new : Waiters) → WakesByChange world woken.change old mid → ReadiesIfLives world woken.caller mid after → ReadiesIfLives world woken.made after new
    → WakesUp world woken old new
woken-up world woken old mid after new first second third = record {
  go_on = record {
    ready = λ p s lives off. first.go_on.ready p s lives (second.go_on.ready p (third.go_on.ready p off));
    waiting = λ p s lives off key here. third.go_on.waiting key p off (second.go_on.waiting key p (third.go_on.ready p off) (first.go_on.waiting p s lives (second.go_on.ready p (third.go_on.ready p off)) key here));
  };
  opens = λ owner op p here. first.opens owner op p (closed-same mid after second.idle (class_of owner op) p (closed-same after new third.idle (class_of owner op) p here));
  unwoken = λ p s above lives off.
      off-both (wakes woken.change (λ k. waits old k p)) (woken.caller == p || woken.made == p) (first.woken p s lives (second.go_on.ready p (third.go_on.ready p off)))
      (off-both (woken.caller == p) (woken.made == p) (second.apart p s above lives (third.go_on.ready p off)) (third.apart p s above lives off));
}

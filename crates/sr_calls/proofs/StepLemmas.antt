-- A call changes one record of calls, and what that says of the calls.
use Rattle.std.proofs.Common.{◌≡◌, ℕ, ◌<◌, ◌≤◌, List, [], ◌∷◌, ◌++◌, Option, None, Some, is_some, IfNone, OnErr, OnOk, Result, Ok, Err, ap, subst, sym, ◌∙◌, unwrap_or}
use Rattle.std.proofs.lemmas.Map.Steps.{set_value_same}
use Rattle.std.specs.HashMap.{HashMap, Updates, WritesThrough, get_by}
use Rattle.std.specs.Map.{set_value}
use Rattle.std.specs.Prelude.{find, nat_eq}
use Rattle.sr_calls.specs.Calls.{Called, CanAnswer, CanHold, KeepsAnswers, KeepsHolds, KeepsOtherAnswers, KeepsOtherHolds, answers_one, earliest_reply, held_as, is_held_as, items_of, with_item, with_items, without_first, without_held, without_reply}
use Rattle.sr_calls.specs.PerProcess.{ProcessCalled, called_on}
use Rattle.sr_calls.specs.declared.held.Held.{Held}
use Rattle.sr_calls.specs.declared.held.Reply.{Reply}
use Rattle.sr_calls.proofs.ProcessCallsLemmas.{Changes, answers-kept, answers-others, can-answer, can-hold, changes, process_calls_of, held-changed, held-here, held-kept, holds-kept, holds-others, no_process_calls, replies-changed, replies-here, replies-kept, room-there, same_look}

pub on_ok : {T E : Type 0} {P Q : Type 0} (r : Result T E) → OnOk r P → (P → Q) → OnOk r Q
on_ok (Ok x) h f = f h
on_ok (Err e) h f = h

pub on_err : {T E : Type 0} {P Q : Type 0} (r : Result T E) → OnErr r P → (P → Q) → OnErr r Q
on_err (Ok x) h f = h
on_err (Err e) h f = f h

pub if_none : {T : Type 0} {P Q : Type 0} (o : Option T) → IfNone o P → (P → Q) → IfNone o Q
if_none (Some x) h f = h
if_none None h f = f h

-- the record of calls of a process changes
pub record Step (old new : List (ℕ × ProcessCalled)) (calls : Called) (p : ℕ) (was process_calls : ProcessCalled) : Type 0 where
  pub seen : called_on old ≡ calls
  pub before : process_calls_of old p ≡ was
  pub change : Changes old new p process_calls

pub lent : {S : Type 0} (m n : HashMap ℕ ProcessCalled S) (calls : Called) (p : ℕ) (was process_calls : ProcessCalled) → called_on m.entries ≡ calls → Some was ≡ get_by (nat_eq p) m
    → WritesThrough nat_eq (nat_eq p) m process_calls n → Step m.entries n.entries calls p was process_calls
lent m n calls p was process_calls seen value written = record {
  seen = seen;
  before = ap (λ o. unwrap_or o no_process_calls) (sym (same_look m.entries p) ∙ sym value);
  change = changes m.entries n.entries p (Some process_calls) (written.3 (sym (ap is_some value))).0;
}

-- a record of calls that is written back as it was
pub lent-same : {S : Type 0} (m n : HashMap ℕ ProcessCalled S) (calls : Called) (p : ℕ) (was process_calls : ProcessCalled) → called_on m.entries ≡ calls → Some was ≡ get_by (nat_eq p) m
    → WritesThrough nat_eq (nat_eq p) m process_calls n → process_calls ≡ was → called_on n.entries ≡ calls
lent-same m n calls p was process_calls seen value written same =
    ap called_on (written.0 ∙ ap (set_value (nat_eq p) m.entries) same ∙ set_value_same (nat_eq p) m.entries was (sym value)) ∙ seen

pub made : {S : Type 0} (m k n : HashMap ℕ ProcessCalled S) (calls : Called) (p : ℕ) (process_calls : ProcessCalled) → called_on m.entries ≡ calls → None ≡ get_by (nat_eq p) m → k ≡ m
    → Updates nat_eq k n p (Some process_calls) → Step m.entries n.entries calls p no_process_calls process_calls
made m k n calls p process_calls seen value same updates = record {
  seen = seen;
  before = ap (λ o. unwrap_or o no_process_calls) (sym (same_look m.entries p) ∙ sym value);
  change = subst (λ x. Changes x.entries n.entries p process_calls) same (changes k.entries n.entries p (Some process_calls) updates.0);
}

pub absent : {S : Type 0} (m k : HashMap ℕ ProcessCalled S) (calls : Called) (p : ℕ) → called_on m.entries ≡ calls → None ≡ get_by (nat_eq p) m → k ≡ m → Step m.entries k.entries calls p no_process_calls no_process_calls
absent m k calls p seen value same = record {
  seen = seen;
  before = ap (λ o. unwrap_or o no_process_calls) (sym (same_look m.entries p) ∙ sym value);
  change = record {
    here = ap (λ x. process_calls_of x.entries p) same ∙ ap (λ o. unwrap_or o no_process_calls) (sym (same_look m.entries p) ∙ sym value);
    others = λ q there. ap (λ x. process_calls_of x.entries q) same;
  };
}

module _ (old new : List (ℕ × ProcessCalled)) (calls : Called) (p : ℕ) (was process_calls : ProcessCalled) (s : Step old new calls p was process_calls) where
  -- ---- what the process holds

  held-was : items_of calls.held p ≡ was.held
  held-was = held-here old new calls s.seen p ∙ ap (λ d. d.held) s.before

  pub holds-more : (held : Held) → process_calls.held ≡ was.held ++ held ∷ [] → (called_on new).held ≡ with_item calls.held p held
  holds-more held grown =
      held-changed old new calls s.seen p process_calls s.change ∙ ap (with_items calls.held p) (grown ∙ ap (λ all. all ++ held ∷ []) (sym held-was))

  pub releases : (id : ℕ) → process_calls.held ≡ without_first (is_held_as id) was.held → (called_on new).held ≡ without_held calls.held p id
  releases id less = held-changed old new calls s.seen p process_calls s.change ∙ ap (with_items calls.held p) (less ∙ ap (without_first (is_held_as id)) (sym held-was))

  pub held-found : (id : ℕ) → find (is_held_as id) was.held ≡ held_as calls.held p id
  held-found id = ap (find (is_held_as id)) (sym held-was)

  pub held-stays : process_calls.held ≡ was.held → (called_on new).held ≡ calls.held
  held-stays same = held-kept old new calls s.seen p process_calls s.change (same ∙ ap (λ d. d.held) (sym s.before))

  -- ---- the replies to it

  replies-were : items_of calls.replies p ≡ was.replies
  replies-were = replies-here old new calls s.seen p ∙ ap (λ d. d.replies) s.before

  pub answers-more : (reply : Reply) → process_calls.replies ≡ was.replies ++ reply ∷ [] → (called_on new).replies ≡ with_item calls.replies p reply
  answers-more reply grown =
      replies-changed old new calls s.seen p process_calls s.change ∙ ap (with_items calls.replies p) (grown ∙ ap (λ all. all ++ reply ∷ []) (sym replies-were))

  pub takes : (ids : List ℕ) → process_calls.replies ≡ without_first (answers_one ids) was.replies → (called_on new).replies ≡ without_reply calls.replies p ids
  takes ids less = replies-changed old new calls s.seen p process_calls s.change ∙ ap (with_items calls.replies p) (less ∙ ap (without_first (answers_one ids)) (sym replies-were))

  pub reply-found : (ids : List ℕ) → find (answers_one ids) was.replies ≡ earliest_reply calls.replies p ids
  reply-found ids = ap (find (answers_one ids)) (sym replies-were)

  pub replies-stay : process_calls.replies ≡ was.replies → (called_on new).replies ≡ calls.replies
  replies-stay same = replies-kept old new calls s.seen p process_calls s.change (same ∙ ap (λ d. d.replies) (sym s.before))

  -- ---- room

  pub could-hold : CanHold calls p → 0 < was.room.holds
  could-hold can = subst (λ r. 0 < r.holds) (room-there old new calls s.seen p ∙ ap (λ d. d.room) s.before) can

  pub could-answer : CanAnswer calls p → 0 < was.room.answers
  could-answer can = subst (λ r. 0 < r.answers) (room-there old new calls s.seen p ∙ ap (λ d. d.room) s.before) can

  pub can-hold-now : 0 < process_calls.room.holds → CanHold (called_on new) p
  can-hold-now has = can-hold old new calls s.seen p process_calls s.change has

  pub can-answer-now : 0 < process_calls.room.answers → CanAnswer (called_on new) p
  can-answer-now has = can-answer old new calls s.seen p process_calls s.change has

  pub keeps-holds : was.room.holds ≤ process_calls.room.holds → KeepsHolds calls (called_on new)
  keeps-holds more = holds-kept old new calls s.seen p process_calls s.change (subst (λ d. d.room.holds ≤ process_calls.room.holds) (sym s.before) more)

  pub keeps-answers : was.room.answers ≤ process_calls.room.answers → KeepsAnswers calls (called_on new)
  keeps-answers more = answers-kept old new calls s.seen p process_calls s.change (subst (λ d. d.room.answers ≤ process_calls.room.answers) (sym s.before) more)

  pub keeps-other-holds : KeepsOtherHolds calls (called_on new) p
  keeps-other-holds = holds-others old new calls s.seen p process_calls s.change

  pub keeps-other-answers : KeepsOtherAnswers calls (called_on new) p
  keeps-other-answers = answers-others old new calls s.seen p process_calls s.change

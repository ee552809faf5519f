-- Fronts of lists of items, with whether another item may begin after them.
use Rattle.std.proofs.Common.{◌≡◌, refl, sym, ◌∙◌, ap, subst, ℕ, Bool, true, false, List, [], ◌∷◌, ◌++◌, length, Some, None, Result, Ok, Err, append_assoc}
use Rattle.std.specs.Prelude.{if◌then◌else◌}
use Rattle.sr_reader.specs.Reader.{Reader, given, next_is}
use Rattle.sr_reader.proofs.Soundness.{Sound, SoundWhere, Outcome, Then, joined, Returns, returns, returned-sound, weaker, then-sound, branch-sound, append-nil}
use Rattle.sr_reader.proofs.Loops.{while-sound}
use Rattle.sr_tree.specs.declared.token.Token.{Token}
use Rattle.sr_tree.specs.Components as g
use Rattle.sr_tree.specs.Components.{SpellsList}
use Rattle.sr_tree.specs.Tables.{IsSeparator}
use Rattle.sr_tree.specs.Tokens.{separator_at, is_separator}
use Rattle.sr_expr_reader.proofs.Families.{LoopsIn, token_then, yields_then, below_returned, yields_returned, yields_met, yields_unmet, loop_stops, loop_goes}
use Rattle.sr_expr_reader.proofs.TokensSound.{ASeparator, a_separator, separator-sound}
use Rattle.sr_program_reader.specs.DeclarationReaders.{may_go_on, next_item_at, items_at}
use Rattle.sr_program_reader.proofs.Lists.{IsItem}

-- a property that needs what the next symbol passes
pub strengthened : {T A : Type 0} {test : T → Bool} {P Q : A → List T → Type 0} {r : Reader T A}
    → ((a : A) (u q : List T) → next_is test (u ++ q) ≡ true → P a u → Q a u) → Sound P r → SoundWhere test Q r
strengthened {T = T} {A = A} {test = test} {P = P} {Q = Q} {r = r} f l = record { at = λ s h. go s h (r s) (l.at s) }
  where
    go : (s : List T) → next_is test s ≡ true → (x : Result (A × List T) ℕ) → Outcome P r s x → Outcome Q r s x
    go s h (Ok x) o =
        record {
          front = o.front;
          splits = o.splits;
          holds = f x.0 o.front x.1 (ap (next_is test) (sym o.splits) ∙ h) o.holds;
          again = o.again;
        }
    go s h (Err left) o = o

-- the front of a list: whether an item may begin there, and whether one may begin after it
pub data SpellsFront {A : Type 0} (Spells : A → List Token → Type 0) : Bool → List A → Bool → List Token → Type 0 where
  empty_front : {b : Bool} → SpellsFront Spells b [] b []
  separator_front : {b c : Bool} {is : List A} {u : List Token} (t : Token) → IsSeparator t → SpellsFront Spells true is c u
      → SpellsFront Spells b is c (t ∷ u)
  item_front : {c : Bool} {i : A} {is : List A} {u v : List Token} → Spells i u → SpellsFront Spells false is c v
      → SpellsFront Spells true (i ∷ is) c (u ++ v)

module _ {A : Type 0} {Spells : A → List Token → Type 0} where
  pub front-append : {b c d : Bool} {is js : List A} {u v : List Token} → SpellsFront Spells b is c u → SpellsFront Spells c js d v
      → SpellsFront Spells b (is ++ js) d (u ++ v)
  front-append empty_front f = f
  front-append (separator_front t h e) f = separator_front t h (front-append e f)
  front-append {d = d} {js = js} {v = x} (item_front {i = i} {is = is} {u = u} {v = v} s e) f =
      subst (SpellsFront Spells true (i ∷ (is ++ js)) d) (sym (append_assoc u v x)) (item_front s (front-append e f))

  pub front-then-list : {b c : Bool} {is js : List A} {u v : List Token} → SpellsFront Spells b is c u → SpellsList Spells c js v
      → SpellsList Spells b (is ++ js) (u ++ v)
  front-then-list empty_front l = l
  front-then-list (separator_front t h e) l = g.separator t h (front-then-list e l)
  front-then-list {js = js} {v = x} (item_front {i = i} {is = is} {u = u} {v = v} s e) l =
      subst (SpellsList Spells true (i ∷ (is ++ js))) (sym (append_assoc u v x)) (g.one s (front-then-list e l))

  pub list-of-front : {b c : Bool} {is : List A} {u : List Token} → SpellsFront Spells b is c u → SpellsList Spells b is u
  list-of-front empty_front = g.stop_here
  list-of-front (separator_front t h e) = g.separator t h (list-of-front e)
  list-of-front (item_front s e) = g.one s (list-of-front e)

-- ---- what is read

-- what stands between two states of a list
pub record FrontBetween {A : Type 0} (Spells : A → List Token → Type 0) (before after : List A × Bool) (u : List Token) : Type 0 where
  pub added : List A
  pub items : after.0 ≡ before.0 ++ added
  pub spelled : SpellsFront Spells before.1 added after.1 u

module _ {A : Type 0} (begins : Token → Bool) (Spells : A → List Token → Type 0)
    (other : (i : A) (u : List Token) → Spells i u → (q : List Token) → next_is (λ t. is_separator t.kind) (u ++ q) ≡ false)
    (read : Reader Token A) (local : Sound Spells read) where
  nothing-between : (l : List A × Bool) → FrontBetween Spells l l []
  nothing-between l = record { added = []; items = sym (append-nil l.0); spelled = empty_front }

  both-between : (l m n : List A × Bool) (u v : List Token) → FrontBetween Spells l m u → FrontBetween Spells m n v → FrontBetween Spells l n (u ++ v)
  both-between l m n u v a b = record {
    added = a.added ++ b.added;
    items = b.items ∙ ap (λ x. x ++ b.added) a.items ∙ append_assoc l.0 a.added b.added;
    spelled = front-append a.spelled b.spelled;
  }

  -- one step of the loop
  data Step (l : List A × Bool) : List A × Bool → List Token → Type 0 where
    by_separator : (t : Token) → IsSeparator t → Step l (l.0, true) (t ∷ [])
    by_item : {i : A} {u : List Token} → Spells i u → Step l (l.0 ++ i ∷ [], false) u

  separator-step : (l m : List A × Bool) (u : List Token) → Then ASeparator (λ t. Returns (l.0, true)) m u → Step l m u
  separator-step l m u (joined (a_separator t h) returns) = by_separator t h

  item-step : (l m : List A × Bool) (u : List Token) → Then Spells (λ i. Returns (l.0 ++ i ∷ [], false)) m u → Step l m u
  item-step l m w (joined {a = i} {u = u} d end) = go m _ end
    where
      go : (m : List A × Bool) (z : List Token) → Returns (l.0 ++ i ∷ [], false) m z → Step l m (u ++ z)
      go m z returns = subst (Step l (l.0 ++ i ∷ [], false)) (sym (append-nil u)) (by_item d)

  step-sound : (l : List A × Bool) → Sound (Step l) (next_item_at read l)
  unfolding next_item_at
  step-sound l = branch-sound
      (weaker (separator-step l) (then-sound separator-sound (λ t. returned-sound (l.0, true))))
      (weaker (item-step l) (then-sound local (λ i. returned-sound (l.0 ++ i ∷ [], false))))

  may-begin : (x b y : Bool) → (if x then true else if b then y else false) ≡ true → x ≡ false → b ≡ true
  may-begin true b y h e = sym (ap (λ x. if x then true else b) e)
  may-begin false true y h e = refl
  may-begin false false y h e = h

  item-may-begin : (l : List A × Bool) (s : List Token) → next_is (may_go_on begins l) s ≡ true → next_is (λ t. is_separator t.kind) s ≡ false → l.1 ≡ true
  item-may-begin l [] h e = cc
  item-may-begin l (t ∷ s) h e = may-begin (is_separator t.kind) l.1 (begins t) h e

  step-between : (l m : List A × Bool) (u q : List Token) → next_is (may_go_on begins l) (u ++ q) ≡ true → Step l m u → FrontBetween Spells l m u
  step-between l m u q h (by_separator t s) = record { added = []; items = sym (append-nil l.0); spelled = separator_front t s empty_front }
  step-between l m u q h (by_item {i = i} d) =
      record {
        added = i ∷ [];
        items = refl;
        spelled = subst (λ b. SpellsFront Spells b (i ∷ []) false u) (sym (item-may-begin l (u ++ q) h (other i u d q)))
            (subst (SpellsFront Spells true (i ∷ []) false) (append-nil u) (item_front d empty_front));
      }

  pub fronts-sound : (n : ℕ) (before : List A × Bool) → Sound (FrontBetween Spells before) (items_at begins read n before)
  unfolding items_at
  fronts-sound n before = while-sound (may_go_on begins) (next_item_at read) (FrontBetween Spells) (FrontBetween Spells) nothing-between both-between
      (λ l. strengthened (step-between l) (step-sound l)) n before

-- ---- a front is read

separator-reads : (t : Token) (q : List Token) → IsSeparator t → separator_at (t ∷ q) ≡ Ok (t.span, q)
unfolding separator_at
separator-reads t q h = ap (λ k. given (if is_separator k then Some t.span else None) q (length (t ∷ q))) h

module _ {R A : Type 0} (family : ℕ → R) (begins : Token → Bool) (item : R → Reader Token A) (End : List Token → Type 0)
    (ends : (t : Token) (q : List Token) → IsSeparator t → End (t ∷ q)) (other : (t : Token) → begins t ≡ true → is_separator t.kind ≡ false) where
  item-end : {c : Bool} {is : List A} {v : List Token} → SpellsFront (IsItem family begins item End) false is c v → (q : List Token) → End q → End (v ++ q)
  item-end empty_front q e = e
  item-end (separator_front {u = u} t h m) q e = ends t (u ++ q) h

  goes-on : (before : List A) (t : Token) → begins t ≡ true → may_go_on begins (before, true) t ≡ true
  goes-on before t h = ap (λ x. if x then true else begins t) (other t h) ∙ h

  -- where the list ends after it
  pub front-complete : {b c : Bool} {is : List A} {v : List Token} → SpellsFront (IsItem family begins item End) b is c v → (before : List A) (q : List Token)
      → End q → next_is (may_go_on begins (before, c)) q ≡ false
      → LoopsIn family (may_go_on begins) (λ r. next_item_at (item r)) (before, b) (v ++ q) (Ok ((before ++ is, c), q))
  unfolding next_item_at
  front-complete {b = b} empty_front before q e n =
      subst (λ x. LoopsIn family (may_go_on begins) (λ r. next_item_at (item r)) (before, b) q (Ok ((x, b), q))) (sym (append-nil before))
      (loop_stops (may_go_on begins) (λ r. next_item_at (item r)) (before, b) q n)
  front-complete {b = b} (separator_front {u = u} t h m) before q e n =
      loop_goes (may_go_on begins) (λ r. next_item_at (item r)) (before, b) (before, true) t (u ++ q) [] (u ++ q) _ refl
      (ap (λ k. if is_separator k then true else if b then begins t else false) h)
      (yields_met _ _ _ (t ∷ (u ++ q)) _ (ap is_separator h)
      (token_then separator_at _ t (u ++ q) t.span _ (separator-reads t (u ++ q) h) (below_returned _ (u ++ q))))
      (front-complete m before q e n)
  front-complete (item_front {u = []} d m) before q e n = absurd (nothing (d.starts []))
    where
      nothing : false ≡ true → ⊥
      nothing h = cc
  front-complete {c = c} (item_front {i = i} {is = is} {u = t ∷ u} {v = v} d m) before q e n =
      subst (λ w. LoopsIn family (may_go_on begins) (λ r. next_item_at (item r)) (before, true) (t ∷ w) (Ok ((before ++ i ∷ is, c), q))) (sym (append_assoc u v q))
      (loop_goes (may_go_on begins) (λ r. next_item_at (item r)) (before, true) (before ++ i ∷ [], false) t (u ++ (v ++ q)) u (v ++ q) _ refl
      (goes-on before t (d.starts []))
      (yields_unmet _ _ _ (t ∷ (u ++ (v ++ q))) _ (other t (d.starts []))
      (yields_then item _ (t ∷ u) (v ++ q) i _ (d.yields (v ++ q) (item-end m q e)) (yields_returned _ (v ++ q))))
      (subst (λ x. LoopsIn family (may_go_on begins) (λ r. next_item_at (item r)) (before ++ i ∷ [], false) (v ++ q) (Ok ((x, c), q))) (append_assoc before (i ∷ []) is)
      (front-complete m (before ++ i ∷ []) q e n)))

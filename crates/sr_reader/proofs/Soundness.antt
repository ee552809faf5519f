-- What a reader does with the front of a list depends on that front and on one symbol after it.
use Rattle.std.proofs.Common.{◌≡◌, refl, sym, ◌∙◌, ap, subst, ℕ, Bool, true, false, List, [], ◌∷◌, ◌++◌, length, Option, Some, None, Result, Ok, Err, append_assoc}
use Rattle.std.specs.Prelude.{if◌then◌else◌}
use Rattle.sr_reader.specs.Reader.{Reader, returned, unfit, continued, ◌>>=◌, given, one, next_is, branch}

-- the next symbol
abbrev pub first : {T : Type 0} → List T → Option T
first [] = None
first (t ∷ s) = Some t

-- what was read satisfies a property, and is read again whatever stands after the next symbol
pub record IsRead {T A : Type 0} (P : A → List T → Type 0) (r : Reader T A) (s : List T) (a : A) (q : List T) : Type 0 where
  pub front : List T
  pub splits : s ≡ front ++ q
  pub holds : P a front
  pub again : (z : List T) → first z ≡ first q → r (front ++ z) ≡ Ok (a, z)

-- nothing fits at a place, whatever stands after the symbol there
pub record IsStopped {T A : Type 0} (r : Reader T A) (s : List T) (left : ℕ) : Type 0 where
  pub front : List T
  pub rest : List T
  pub splits : s ≡ front ++ rest
  pub count : length rest ≡ left
  pub again : (z : List T) → first z ≡ first rest → r (front ++ z) ≡ Err (length z)

abbrev pub Outcome : {T A : Type 0} → (A → List T → Type 0) → Reader T A → List T → Result (A × List T) ℕ → Type 0
Outcome P r s (Ok x) = IsRead P r s x.0 x.1
Outcome P r s (Err left) = IsStopped r s left

pub record Sound {T A : Type 0} (P : A → List T → Type 0) (r : Reader T A) : Type 0 where
  pub at : (s : List T) → Outcome P r s (r s)

-- the same where the next symbol passes a test
pub record SoundWhere {T A : Type 0} (test : T → Bool) (P : A → List T → Type 0) (r : Reader T A) : Type 0 where
  pub at : (s : List T) → next_is test s ≡ true → Outcome P r s (r s)

-- the same where it fails one
pub record SoundUnless {T A : Type 0} (test : T → Bool) (P : A → List T → Type 0) (r : Reader T A) : Type 0 where
  pub at : (s : List T) → next_is test s ≡ false → Outcome P r s (r s)

pub anywhere : {T A : Type 0} {P : A → List T → Type 0} {r : Reader T A} (test : T → Bool) → Sound P r → SoundWhere test P r
anywhere test l = record { at = λ s h. l.at s }

-- one part, and after it another
pub data Then {T A B : Type 0} (P : A → List T → Type 0) (Q : A → B → List T → Type 0) : B → List T → Type 0 where
  joined : {a : A} {b : B} {u v : List T} → P a u → Q a b v → Then P Q b (u ++ v)

-- no symbols
pub data Returns {T A : Type 0} (a : A) : A → List T → Type 0 where
  returns : Returns a a []

-- one symbol
pub data IsOne {T A : Type 0} (meaning : T → Option A) : A → List T → Type 0 where
  is_one : {a : A} (t : T) → meaning t ≡ Some a → IsOne meaning a (t ∷ [])

-- one symbol that passes a test
pub data IsOneWhere {T A : Type 0} (test : T → Bool) (meaning : T → Option A) : A → List T → Type 0 where
  is_one_where : {a : A} (t : T) → test t ≡ true → meaning t ≡ Some a → IsOneWhere test meaning a (t ∷ [])

pub first-append : {T : Type 0} (u y z : List T) → first z ≡ first y → first (u ++ z) ≡ first (u ++ y)
first-append [] y z e = e
first-append (t ∷ u) y z e = refl

pub append-nil : {T : Type 0} (s : List T) → s ++ [] ≡ s
append-nil [] = refl
append-nil (t ∷ s) = ap (λ r. t ∷ r) (append-nil s)

-- what holds of a list holds of it with nothing after
pub ended : {T : Type 0} (P : List T → Type 0) (u : List T) → P u → P (u ++ [])
ended P u h = subst P (sym (append-nil u)) h

-- what is returned, and no symbols
pub into : {T A : Type 0} (P : A → List T → Type 0) (x e : A) (z : List T) → Returns x e z → P x [] → P e z
into P x e z returns h = h

pub returned-sound : {T A : Type 0} (a : A) → Sound (Returns {T = T} a) (returned a)
returned-sound a = record { at = λ s. record { front = []; splits = refl; holds = returns; again = λ z e. refl } }

pub unfit-sound : {T A : Type 0} (P : A → List T → Type 0) → Sound P (unfit {T = T} {A = A})
unfit-sound P = record { at = λ s. record { front = []; rest = s; splits = refl; count = refl; again = λ z e. refl } }

weaker-outcome : {T A : Type 0} (P Q : A → List T → Type 0) (r : Reader T A) (s : List T) → ((a : A) (u : List T) → P a u → Q a u)
    → (x : _) → Outcome P r s x → Outcome Q r s x
weaker-outcome P Q r s h (Ok x) o = record { front = o.front; splits = o.splits; holds = h x.0 o.front o.holds; again = o.again }
weaker-outcome P Q r s h (Err left) o = o

-- a weaker property
pub weaker : {T A : Type 0} {P Q : A → List T → Type 0} {r : Reader T A} → ((a : A) (u : List T) → P a u → Q a u) → Sound P r → Sound Q r
weaker {P = P} {Q = Q} {r = r} h l = record { at = λ s. weaker-outcome P Q r s h (r s) (l.at s) }

pub weaker-where : {T A : Type 0} {test : T → Bool} {P Q : A → List T → Type 0} {r : Reader T A}
    → ((a : A) (u : List T) → P a u → Q a u) → SoundWhere test P r → SoundWhere test Q r
weaker-where {P = P} {Q = Q} {r = r} h l = record { at = λ s e. weaker-outcome P Q r s h (r s) (l.at s e) }

pub weaker-unless : {T A : Type 0} {test : T → Bool} {P Q : A → List T → Type 0} {r : Reader T A}
    → ((a : A) (u : List T) → P a u → Q a u) → SoundUnless test P r → SoundUnless test Q r
weaker-unless {P = P} {Q = Q} {r = r} h l = record { at = λ s e. weaker-outcome P Q r s h (r s) (l.at s e) }

-- what was read is at least one symbol, so that the first symbol read is the one that was tested
module _ {T A : Type 0} (test : T → Bool) (P : A → List T → Type 0) (r : Reader T A) (some : (a : A) → P a [] → ⊥) where
  tested : (b : Bool) (s front q : List T) (a : A) → next_is test s ≡ b → s ≡ front ++ q → P a front → next_is test front ≡ b
  tested b s [] q a e h p = absurd (some a p)
  tested b s (t ∷ front) q a e h p = sym (ap (next_is test) h) ∙ e

  first-outcome : (b : Bool) (s : List T) → next_is test s ≡ b → (x : _) → Outcome P r s x → Outcome (λ a u. P a u × (next_is test u ≡ b)) r s x
  first-outcome b s e (Ok x) o =
      record { front = o.front; splits = o.splits; holds = (o.holds, tested b s o.front x.1 x.0 e o.splits o.holds); again = o.again }
  first-outcome b s e (Err left) o = o

  pub where-first : SoundWhere test P r → SoundWhere test (λ a u. P a u × (next_is test u ≡ true)) r
  where-first l = record { at = λ s e. first-outcome true s e (r s) (l.at s e) }

  pub unless-first : SoundUnless test P r → SoundUnless test (λ a u. P a u × (next_is test u ≡ false)) r
  unless-first l = record { at = λ s e. first-outcome false s e (r s) (l.at s e) }

module _ {T A B : Type 0} (P : A → List T → Type 0) (Q : A → B → List T → Type 0) (r : Reader T A) (f : A → Reader T B) where
  after : (s : List T) (a : A) (q : List T) → IsRead P r s a q → (y : _) → Outcome (Q a) (f a) q y → Outcome (Then P Q) (r >>= f) s y
  after s a q o (Ok y) p = record {
    front = o.front ++ p.front;
    splits = o.splits ∙ ap (λ w. o.front ++ w) p.splits ∙ sym (append_assoc o.front p.front y.1);
    holds = joined o.holds p.holds;
    again = λ z e.
        ap (λ w. continued (r w) f) (append_assoc o.front p.front z)
        ∙ ap (λ x. continued x f) (o.again (p.front ++ z) (first-append p.front y.1 z e ∙ ap first (sym p.splits)))
        ∙ p.again z e;
  }
  after s a q o (Err left) p = record {
    front = o.front ++ p.front;
    rest = p.rest;
    splits = o.splits ∙ ap (λ w. o.front ++ w) p.splits ∙ sym (append_assoc o.front p.front p.rest);
    count = p.count;
    again = λ z e.
        ap (λ w. continued (r w) f) (append_assoc o.front p.front z)
        ∙ ap (λ x. continued x f) (o.again (p.front ++ z) (first-append p.front p.rest z e ∙ ap first (sym p.splits)))
        ∙ p.again z e;
  }

  at_first : ((a : A) → Sound (Q a) (f a)) → (s : List T) (x : _) → Outcome P r s x → Outcome (Then P Q) (r >>= f) s (continued x f)
  at_first g s (Ok x) o = after s x.0 x.1 o (f x.0 x.1) ((g x.0).at x.1)
  at_first g s (Err left) o = record {
    front = o.front;
    rest = o.rest;
    splits = o.splits;
    count = o.count;
    again = λ z e. ap (λ x. continued x f) (o.again z e);
  }

-- one after the other
pub then-sound : {T A B : Type 0} {P : A → List T → Type 0} {Q : A → B → List T → Type 0} {r : Reader T A} {f : A → Reader T B}
    → Sound P r → ((a : A) → Sound (Q a) (f a)) → Sound (Then P Q) (r >>= f)
then-sound {P = P} {Q = Q} {r = r} {f = f} l g = record { at = λ s. at_first P Q r f g s (r s) (l.at s) }

pub then-where : {T A B : Type 0} {test : T → Bool} {P : A → List T → Type 0} {Q : A → B → List T → Type 0} {r : Reader T A} {f : A → Reader T B}
    → SoundWhere test P r → ((a : A) → Sound (Q a) (f a)) → SoundWhere test (Then P Q) (r >>= f)
then-where {P = P} {Q = Q} {r = r} {f = f} l g = record { at = λ s e. at_first P Q r f g s (r s) (l.at s e) }

some_one : {T : Type 0} (x y : T) → Some x ≡ Some y → x ≡ y
some_one x y e = cc

module _ {T A : Type 0} (meaning : T → Option A) where
  at_end : (z : List T) → first z ≡ None → one meaning z ≡ Err (length z)
  at_end [] e = refl
  at_end (t ∷ z) e = cc

  stops : (t : T) → meaning t ≡ None → (z : List T) → first z ≡ Some t → one meaning z ≡ Err (length z)
  stops t e [] h = cc
  stops t e (x ∷ z) h = ap (λ m. given m z (length (x ∷ z))) (ap meaning (some_one x t h) ∙ e)

  by_meaning : (P : A → List T → Type 0) (t : T) (s : List T) → ((a : A) → meaning t ≡ Some a → P a (t ∷ []))
      → (m : Option A) → meaning t ≡ m → Outcome P (one meaning) (t ∷ s) (given m s (length (t ∷ s)))
  by_meaning P t s h (Some a) e =
      record { front = t ∷ []; splits = refl; holds = h a e; again = λ z f. ap (λ m. given m z (length (t ∷ z))) e }
  by_meaning P t s h None e = record { front = []; rest = t ∷ s; splits = refl; count = refl; again = stops t e }

  pub one-outcome : (s : List T) → Outcome (IsOne meaning) (one meaning) s (one meaning s)
  one-outcome [] = record { front = []; rest = []; splits = refl; count = refl; again = at_end }
  one-outcome (t ∷ s) = by_meaning (IsOne meaning) t s (λ a e. is_one t e) (meaning t) refl

  pub one-outcome-where : (test : T → Bool) (s : List T) → next_is test s ≡ true → Outcome (IsOneWhere test meaning) (one meaning) s (one meaning s)
  one-outcome-where test [] h = record { front = []; rest = []; splits = refl; count = refl; again = at_end }
  one-outcome-where test (t ∷ s) h = by_meaning (IsOneWhere test meaning) t s (λ a e. is_one_where t h e) (meaning t) refl

pub one-sound : {T A : Type 0} (meaning : T → Option A) → Sound (IsOne meaning) (one meaning)
one-sound meaning = record { at = one-outcome meaning }

pub one-where : {T A : Type 0} (test : T → Bool) (meaning : T → Option A) → SoundWhere test (IsOneWhere test meaning) (one meaning)
one-where test meaning = record { at = one-outcome-where meaning test }

module _ {T A : Type 0} (P : A → List T → Type 0) (test : T → Bool) (met unmet : Reader T A) where
  next-first : (z w : List T) → first z ≡ first w → next_is test z ≡ next_is test w
  next-first [] [] e = refl
  next-first [] (y ∷ w) e = cc
  next-first (x ∷ z) [] e = cc
  next-first (x ∷ z) (y ∷ w) e = ap test (some_one x y e)

  chosen : Bool → Reader T A
  chosen true = met
  chosen false = unmet

  chooses : (b : Bool) (w : List T) → (if b then met w else unmet w) ≡ chosen b w
  unfolding chosen
  chooses true w = refl
  chooses false w = refl

  again-there : (b : Bool) (s front q z : List T) → next_is test s ≡ b → s ≡ front ++ q → first z ≡ first q → branch test met unmet (front ++ z) ≡ chosen b (front ++ z)
  again-there b s front q z e splits h =
      ap (λ t. if t then met (front ++ z) else unmet (front ++ z)) (next-first (front ++ z) s (first-append front q z h ∙ ap first (sym splits)) ∙ e)
      ∙ chooses b (front ++ z)

  reads : (b : Bool) (s : List T) → next_is test s ≡ b → (x : _) → Outcome P (chosen b) s x → Outcome P (branch test met unmet) s x
  reads b s e (Ok x) o = record {
    front = o.front;
    splits = o.splits;
    holds = o.holds;
    again = λ z h. again-there b s o.front x.1 z e o.splits h ∙ o.again z h;
  }
  reads b s e (Err left) o = record {
    front = o.front;
    rest = o.rest;
    splits = o.splits;
    count = o.count;
    again = λ z h. again-there b s o.front o.rest z e o.splits h ∙ o.again z h;
  }

  by_test : SoundWhere test P met → SoundUnless test P unmet → (s : List T) (b : Bool) → next_is test s ≡ b
      → Outcome P (branch test met unmet) s (if b then met s else unmet s)
  unfolding chosen
  by_test l m s true e = reads true s e (met s) (l.at s e)
  by_test l m s false e = reads false s e (unmet s) (m.at s e)

-- one of two
pub branch-by : {T A : Type 0} {P : A → List T → Type 0} {test : T → Bool} {met unmet : Reader T A}
    → SoundWhere test P met → SoundUnless test P unmet → Sound P (branch test met unmet)
branch-by {P = P} {test = test} {met = met} {unmet = unmet} l m = record { at = λ s. by_test P test met unmet l m s (next_is test s) refl }

pub branch-where : {T A : Type 0} {P : A → List T → Type 0} {test : T → Bool} {met unmet : Reader T A} → SoundWhere test P met → Sound P unmet → Sound P (branch test met unmet)
branch-where {test = test} l m = branch-by l (record { at = λ s e. m.at s })

pub branch-sound : {T A : Type 0} {P : A → List T → Type 0} {test : T → Bool} {met unmet : Reader T A} → Sound P met → Sound P unmet → Sound P (branch test met unmet)
branch-sound {test = test} l m = branch-where (anywhere test l) m

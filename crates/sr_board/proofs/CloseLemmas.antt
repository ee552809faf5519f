-- What the rule says of a board that was closed, and how its parts come out one after the other.
use Rattle.std.proofs.Common.{◌≡◌, ℕ, ◌+◌, ◌<◌, ◌≤◌, Bool, true, false, List, [], ◌∷◌, ◌++◌, length, get_or, set, sym, refl, ap, ◌∙◌, subst, ⊎_elim, arith, length-append, get_or-set_other, get_or-set_same, zero, suc}
use mathlib.Core.Logic.{dite}
use mathlib.Core.Option.{some, some-ne-none, some-injective}
use native.Mathlib.Decide.{ℕ_discrete, dec_le}
use lib.ListN.{get_elem?}
use Rattle.atomic_table.specs.Table.{State, Final, Seen}
use Rattle.sr_board.specs.declared.view.Held.{Held}
use Rattle.sr_board.specs.declared.view.View.{View}
use Rattle.sr_board.specs.History.{IsHistory}
use Rattle.sr_board.specs.Rule.{IsPart, IsTaken, Kept, Knows, turn_of}
use Rattle.sr_board.specs.Views.{AllJoined, HasPart}
use Rattle.sr_board.proofs.Ascending.{numbers_differ}
use Rattle.sr_board.proofs.Lists.{at_end, none_in, there_is, within}
use Rattle.sr_board.proofs.ViewLemmas.{same_view}

-- the first i of all have been taken out: filled says of each place whether its part is still there
pub record AreOut {S : Type 0} (all parts : List S) (filled : List Bool) (count : ℕ) (out : List S) (i : ℕ) : Type 0 where
  pub parts_are : parts ≡ all
  pub taken : length out ≡ i
  pub same : (k : ℕ) (x : S) → get_elem? out k ≡ some x → get_elem? all k ≡ some x
  pub gone : (k : ℕ) → k < i → get_or filled k false ≡ false
  pub left : (k : ℕ) → i ≤ k → k < count → get_or filled k false ≡ true

module _ {S : Type 0} where
  pub none_out : (all : List S) (filled : List Bool) (count : ℕ) (out : List S) → ((k : ℕ) → 0 ≤ k → k < count → get_or filled k false ≡ true) → out ≡ [] → AreOut all all filled count out 0
  none_out all filled count out full is = record {
    parts_are = refl;
    taken = ap length is;
    same = λ k x e. absurd (none_in k x (ap (λ l. get_elem? l k) (sym is) ∙ e));
    gone = λ k l. absurd (omega arith);
    left = full;
  }

  pub one_more_out : (all parts parts' : List S) (filled filled' : List Bool) (count : ℕ) (out out' : List S) (i : ℕ) (x : S) → AreOut all parts filled count out i → i < count → count ≡ length filled → get_elem? parts i ≡ some x
      → parts' ≡ parts → filled' ≡ set filled i false → out' ≡ out ++ x ∷ [] → AreOut all parts' filled' count out' (i + 1)
  one_more_out all parts parts' filled filled' count out out' i x t less wide at same_parts set_one is =
      let near : i < length filled = omega arith in record {
        parts_are = same_parts ∙ t.parts_are;
        taken = ap length is ∙ (length-append out (x ∷ []) ∙ ap (λ (n : ℕ). n + 1) t.taken);
        same = λ k y e. ⊎_elim (λ old. t.same k y old)
            (λ (h : (k ≡ length out) × (x ≡ y)). ap (λ (l : List S). get_elem? l k) (sym t.parts_are) ∙ (ap (get_elem? parts) (h.0 ∙ t.taken) ∙ (at ∙ ap some h.1)))
            (at_end out x y k (ap (λ l. get_elem? l k) (sym is) ∙ e));
        gone = λ k l. dite (ℕ_discrete k i)
            (λ here. ap (λ (fs : List Bool). get_or fs k false) set_one ∙ (ap (λ (z : ℕ). get_or (set filled i false) z false) here ∙ get_or-set_same filled i false false near))
            (λ ne. ap (λ (fs : List Bool). get_or fs k false) set_one ∙ (get_or-set_other filled i k false false ne ∙ t.gone k (omega arith)));
        left = λ k le lt. ap (λ (fs : List Bool). get_or fs k false) set_one ∙ (get_or-set_other filled i k false false (λ z. omega arith) ∙ t.left k (omega arith) lt);
      }

module _ {S E : Type 0} (journal : S → List E) (belongs : ℕ → S → Type 0) (seat stamp : E → ℕ) (touches : ℕ → E → Bool) where
  abbrev Rule : State S (View E) → Type 0
  Rule = Kept journal belongs seat stamp touches

  -- where every seat has joined, whoever has a turn is the first seat
  sole : (s : State S (View E)) (r : Rule s) (id : ℕ) (own : View E) → get_elem? s.views id ≡ some own → own.live ≡ true → AllJoined own → (k : ℕ) (t : IsTaken s.views k) → t.id ≡ id
  sole s r id own at live all k t = by_number t.view.number refl
    where
      mine : Knows seat stamp r.sits r.history r.main id own
      mine = r.knows id own at live

      it : Knows seat stamp r.sits r.history r.main t.id t.view
      it = r.knows t.id t.view t.there t.live

      by_number : (who : ℕ) → t.view.number ≡ who → t.id ≡ id
      by_number zero is = absurd (let above = it.numbered.0 in omega arith)
      by_number (suc zero) is = some-injective t.id id (sym it.own ∙ (ap r.sits (is ∙ sym all.0) ∙ mine.own))
      by_number (suc (suc q)) is =
          let wide = all.1 in let number : t.view.number ≡ q + 2 = omega arith in
          dite (dec_le own.next (q + 2))
          (λ le. absurd (some-ne-none t.id (sym it.own ∙ (ap r.sits number ∙ (mine.later (omega arith) (q + 2) le).0))))
          (λ gt. let x = there_is own.joined q (omega arith) in absurd (some-ne-none t.id (sym it.own ∙ (ap r.sits number ∙ (mine.earlier q x.0 x.1).0))))

  -- the history of a closed board
  pub history_of : (own : View E) (id : ℕ) (words : List ℕ) (parts : List S) → own.live ≡ true → own.held ≡ [] → AllJoined own
      → Final (Seen Rule id own) words parts → IsHistory journal belongs seat stamp touches own parts
  history_of own id words parts live idle all end =
      let s = end.0 in let r = end.1.0 in let at = end.1.1 in let deep = end.3 in
      let mine = r.knows id own at live in let wide = all.1 in
      let free : (k : ℕ) → k < length s.homes → turn_of s.words k ≡ 0 = λ k near. dite (ℕ_discrete (turn_of s.words k) 0) (λ z. z)
      (λ turn. let t = r.taken k near (omega arith) in let is = sole s r id own at live all k t in
      let same : own ≡ t.view = same_view s.views id k own t at is in let none : t.view.held ≡ [] = ap (λ (x : View E). x.held) (sym same) ∙ idle in
      let has : HasPart [] k = subst (λ (l : List (Held E)). HasPart l k) none t.has in absurd (none_in has.0 has.1 has.2)) in
      record {
        history = r.history;
        at_place = λ k x e. let near : k < length s.homes = let w = within parts k x e in omega arith in
            let home = r.free k near (free k near) in
            let same : home.0 ≡ x = some-injective home.0 x (sym (end.4 k home.0 home.1) ∙ e) in
            subst (IsPart journal belongs touches r.history k) same (r.home k home.0 home.1);
        own_entries = sym mine.entries;
        joined_entries = λ k l e. (mine.earlier k l e).1;
        none_before = r.nobody.1;
        none_after = λ who le. (mine.later (omega arith) who le).1;
        seats_ascend = r.seats_ascend;
        parts_ascend = r.parts_ascend;
        numbers_differ = numbers_differ seat stamp r.history r.seats_ascend;
      }

  -- the parts that came out are those of the board
  pub history_out : (own : View E) (all out : List S) → IsHistory journal belongs seat stamp touches own all → ((k : ℕ) (x : S) → get_elem? out k ≡ some x → get_elem? all k ≡ some x) → IsHistory journal belongs seat stamp touches own out
  history_out own all out t same = record {
    history = t.history;
    at_place = λ k x e. t.at_place k x (same k x e);
    own_entries = t.own_entries;
    joined_entries = t.joined_entries;
    none_before = t.none_before;
    none_after = t.none_after;
    seats_ascend = t.seats_ascend;
    parts_ascend = t.parts_ascend;
    numbers_differ = t.numbers_differ;
  }

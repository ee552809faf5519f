-- Whoever gives a turn back keeps the rule.
use Rattle.std.proofs.Common.{◌≡◌, ◌≢◌, ℕ, ◌*◌, ◌<◌, Bool, true, List, ◌∷◌, filter, length, set, sym, refl, ap, ◌∙◌, subst, ⊎_elim, arith, length-set, get_or-set_other, get_or-set_same, suc}
use mathlib.Core.Logic.{dite}
use mathlib.Core.Option as maybe
use mathlib.Core.Option.{some, some-injective}
use native.Mathlib.Decide.{ℕ_discrete}
use lib.ListN.{get_elem?}
use Rattle.atomic_table.specs.Table.{State, Me, step, gives, stepped, Allows}
use Rattle.atomic_table.proofs.Lists.{at_set, set_here, set_else}
use Rattle.sr_board.specs.declared.view.Held.{Held}
use Rattle.sr_board.specs.declared.view.View.{View}
use Rattle.sr_board.specs.Rule.{Holds, HoldsAll, IsPart, Kept, Knows, Once, turn_of}
use Rattle.sr_board.specs.Steps.{gave}
use Rattle.sr_board.specs.Views.{HasPart, IsReady, rest_held, without_last}
use Rattle.sr_board.proofs.ViewLemmas.{each, held_later, once_apart, once_rest, taken_kept}

module _ {S E : Type 0} (journal : S → List E) (belongs : ℕ → S → Type 0) (seat stamp : E → ℕ) (touches : ℕ → E → Bool) where
  abbrev Rule : State S (View E) → Type 0
  Rule = Kept journal belongs seat stamp touches

  pub gives_turn : (slots id : ℕ) (me : Me S (View E)) (k : ℕ) → me.0.live ≡ true → IsReady journal belongs me k → Allows Rule slots id me (k * 16) (λ _. 0) (λ _. gave (step slots (k * 16) 0 0 maybe.none) me 0)
  gives_turn slots id me k live ready s r deep at _ =
      let h : Held E = ready.first in let hs : List (Held E) = ready.others in let c : S = ready.value in let cs : List (ℕ × S) = ready.values in
      let wide = r.wide in let own = r.knows id me.0 at live in let above = own.numbered.0 in
      let hold = r.held id me.0 at live 0 h (ap (λ (l : List (Held E)). get_elem? l 0) ready.held) in
      let once : Once (h ∷ hs) = subst Once ready.held own.once in
      let near : k < length s.homes = subst (λ (z : ℕ). z < length s.homes) ready.same_part hold.within in
      let w : View E = without_last me.0 in
      let words' : List ℕ = set s.words (k * 16) 0 in let homes' : List (maybe.Option S) = set s.homes k (some c) in
      let turn : turn_of s.words k ≡ me.0.number = ap (turn_of s.words) (sym ready.same_part) ∙ hold.turn in
      let apart : (q : ℕ) (d : View E) → q ≢ id → r.sits d.number ≡ some q → d.number ≢ me.0.number =
      λ q d other there eq. other (some-injective q id (sym there ∙ (ap r.sits eq ∙ own.own))) in
      let home : IsPart journal belongs touches r.history k c = (ready.at_place, ready.same_journal ∙ (hold.entries ∙ ap (λ (z : ℕ). filter (touches z) r.history) ready.same_part)) in
      let moved : (who : ℕ) (g : Held E) → g.part ≢ k → Holds touches s.words (length s.homes) r.history who g → Holds touches words' (length homes') r.history who g =
      λ who g ne old. record {
        turn = get_or-set_other s.words (k * 16) (g.part * 16) 0 0 (λ z. ne (omega arith)) ∙ old.turn;
        entries = old.entries;
        within = subst (λ (n : ℕ). g.part < n) (sym (length-set s.homes k (some c))) old.within;
      } in
      let fewer : (j : ℕ) → j ≢ k → HasPart me.0.held j → HasPart (rest_held me.0.held) j =
      λ j ne has. subst (λ (l : List (Held E)). HasPart (rest_held l) j) (sym ready.held) (held_later h hs j (subst (λ (l : List (Held E)). HasPart l j) ready.held has) (λ z. ne (sym z ∙ ready.same_part))) in (
        w,
        gives,
        tt,
        subst (λ (l : List (ℕ × S)). Rule (stepped s (k * 16) 0 id l w gives)) (sym ready.carried) record {
          history = r.history;
          wide = length-set s.words (k * 16) 0 ∙ (r.wide ∙ ap (λ (n : ℕ). n * 16) (sym (length-set s.homes k (some c))));
          home = λ j y e. ⊎_elim (λ (t : (j ≡ k) × (some c ≡ some y)). subst (λ (z : ℕ × S). IsPart journal belongs touches r.history z.0 z.1) (λ i. (sym t.0 i, some-injective c y t.1 i)) home) (λ t. r.home j y t.1) (at_set s.homes k j (some c) (some y) e);
          free = λ j l e. dite (ℕ_discrete j k)
              (λ eq. (c, subst (λ (z : ℕ). get_elem? homes' z ≡ some (some c)) (sym eq) (set_here s.homes k (some c) near)))
              (λ other. let kept = get_or-set_other s.words (k * 16) (j * 16) 0 0 (λ z. other (omega arith)) in let f = r.free j (subst (λ (n : ℕ). j < n) (length-set s.homes k (some c)) l) (sym kept ∙ e) in (f.0, set_else s.homes k j (some c) other ∙ f.1));
          at_home = λ j y e. ⊎_elim (λ (t : (j ≡ k) × (some c ≡ some y)). ap (turn_of words') t.0 ∙ get_or-set_same s.words (k * 16) 0 0 (omega arith))
              (λ t. get_or-set_other s.words (k * 16) (j * 16) 0 0 (λ z. t.0 (omega arith)) ∙ r.at_home j y t.1) (at_set s.homes k j (some c) (some y) e);
          taken = λ j l turn'. dite (ℕ_discrete j k)
              (λ eq. let z : turn_of words' j ≡ 0 = ap (turn_of words') eq ∙ get_or-set_same s.words (k * 16) 0 0 (omega arith) in absurd (omega arith))
              (λ other. let t = r.taken j (subst (λ (n : ℕ). j < n) (length-set s.homes k (some c)) l) (subst (λ (z : ℕ). 0 < z) (get_or-set_other s.words (k * 16) (j * 16) 0 0 (λ z. other (omega arith))) turn') in
              taken_kept s.views id j me.0 w at live (fewer j other) t);
          sits = r.sits;
          main = r.main;
          nobody = r.nobody;
          knows = each (λ j d. d.live ≡ true → Knows seat stamp r.sits r.history r.main j d) s.views id w
              (λ _. record {
                own = own.own;
                numbered = own.numbered;
                entries = own.entries;
                ticked = own.ticked;
                once = subst (λ (l : List (Held E)). Once (rest_held l)) (sym ready.held) (once_rest h hs once);
                earlier = own.earlier;
                before = own.before;
                most = own.most;
                only = own.only;
                later = own.later;
              }) (λ j d _ e. r.knows j d e);
          held = each (λ j d. d.live ≡ true → HoldsAll touches words' (length homes') r.history d) s.views id w
              (λ _ i g e. let e' : get_elem? hs i ≡ some g = ap (λ (l : List (Held E)). get_elem? (rest_held l) i) (sym ready.held) ∙ e in
              moved me.0.number g (λ z. once_apart h hs once (i, g, e', z ∙ sym ready.same_part)) (r.held id me.0 at live (suc i) g (ap (λ (l : List (Held E)). get_elem? l (suc i)) ready.held ∙ e')))
              (λ j d other e lives i g e'. let old = r.held j d e lives i g e' in let o = r.knows j d e lives in
              moved d.number g (λ z. apart j d other o.own (sym old.turn ∙ (ap (turn_of s.words) z ∙ turn))) old);
          seats_ascend = r.seats_ascend;
          parts_ascend = r.parts_ascend;
        },
        refl,
      )

  -- the same where the word is known by another name
  pub gives_at : (slots id : ℕ) (me : Me S (View E)) (k word : ℕ) → word ≡ k * 16 → me.0.live ≡ true → IsReady journal belongs me k → Allows Rule slots id me word (λ _. 0) (λ _. gave (step slots word 0 0 maybe.none) me 0)
  gives_at slots id me k word is live ready = subst (λ (z : ℕ). Allows Rule slots id me z (λ _. 0) (λ _. gave (step slots z 0 0 maybe.none) me 0)) (sym is) (gives_turn slots id me k live ready)

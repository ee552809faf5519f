-- A seat that is split off keeps the rule.
use Rattle.std.proofs.Common.{◌≡◌, ◌≢◌, ℕ, ◌+◌, ◌<◌, ◌≤◌, Bool, true, List, [], ◌∷◌, length, set, sym, refl, ap, ◌∙◌, subst, ⊎_elim, arith}
use mathlib.Core.Option.{some, some-ne-none}
use lib.ListN.{get_elem?}
use Rattle.atomic_table.specs.Table.{State, Splits}
use Rattle.atomic_table.proofs.Lists.{at_longer}
use Rattle.sr_board.specs.declared.view.View.{View}
use Rattle.sr_board.specs.Rule.{HoldsAll, Kept, Knows}
use Rattle.sr_board.specs.Views.{split_off, splitting}
use Rattle.sr_board.proofs.Lists.{at_end, none_in, put, put_else, put_here}
use Rattle.sr_board.proofs.ViewLemmas.{each, free_else, taken_kept}

module _ {S E : Type 0} (journal : S → List E) (belongs : ℕ → S → Type 0) (seat stamp : E → ℕ) (touches : ℕ → E → Bool) where
  abbrev Rule : State S (View E) → Type 0
  Rule = Kept journal belongs seat stamp touches

  pub splits : (id : ℕ) (v : View E) → v.live ≡ true → 0 < v.next → v.next ≤ 16 → Splits Rule id v (splitting v) (split_off v)
  splits id v live some_left few s r at =
      let own = r.knows id v at live in let main = own.only some_left in
      let vs : List (View E) = set s.views id (splitting v) in
      let n : ℕ = length vs in let sits' = put r.sits v.next (some n) in
      let fresh = own.later some_left v.next (omega arith) in
      let apart : (j who : ℕ) → r.sits who ≡ some j → who ≢ v.next = λ j who sits is. some-ne-none j (sym sits ∙ (ap r.sits is ∙ fresh.0)) in
      let old : (j : ℕ) (d : View E) → get_elem? vs j ≡ some d → d.live ≡ true → Knows seat stamp sits' r.history r.main j d =
      each (λ j d. d.live ≡ true → Knows seat stamp sits' r.history r.main j d) s.views id (splitting v)
      (λ _. record {
        own = put_else r.sits v.next (some n) v.number (apart id v.number own.own) ∙ own.own;
        numbered = own.numbered;
        entries = own.entries;
        ticked = own.ticked;
        once = own.once;
        earlier = λ q l there. let y = own.before q l there in free_else seat r.sits r.history v.next (q + 2) n l (λ z. omega arith) (own.earlier q l there);
        before = λ q l there. let y = own.before q l there in omega arith;
        most = omega arith;
        only = λ _. main;
        later = λ _ who le. free_else seat r.sits r.history v.next who n [] (λ z. omega arith) (own.later some_left who (omega arith));
      })
      (λ j d other there lives. let o = r.knows j d there lives in record {
        own = put_else r.sits v.next (some n) d.number (apart j d.number o.own) ∙ o.own;
        numbered = o.numbered;
        entries = o.entries;
        ticked = o.ticked;
        once = o.once;
        earlier = λ q l at'. let y = o.before q l at' in absurd (other (o.only (omega arith) ∙ sym main));
        before = o.before;
        most = o.most;
        only = o.only;
        later = λ p. absurd (other (o.only p ∙ sym main));
      }) in
      record {
        history = r.history;
        wide = r.wide;
        home = r.home;
        free = r.free;
        at_home = r.at_home;
        taken = λ j l t. let u = taken_kept s.views id j v (splitting v) at live (λ has. has) (r.taken j l t) in
            record { id = u.id; view = u.view; there = at_longer vs (split_off v ∷ []) u.id u.view u.there; live = u.live; has = u.has };
        sits = sits';
        main = r.main;
        nobody = free_else seat r.sits r.history v.next 0 n [] (λ z. omega arith) r.nobody;
        knows = λ j d e. ⊎_elim (λ t. old j d t) (λ (t : (j ≡ n) × (split_off v ≡ d)). subst (λ (z : ℕ × View E). z.1.live ≡ true → Knows seat stamp sits' r.history r.main z.0 z.1) (λ i. (sym t.0 i, t.1 i)) (λ _. record {
          own = put_here r.sits v.next (some n) v.next refl;
          numbered = (some_left, few);
          entries = sym fresh.1;
          ticked = λ k d' less. absurd (omega arith);
          once = λ i q g h a. absurd (none_in i g a);
          earlier = λ q l there. absurd (none_in q l there);
          before = λ q l there. absurd (none_in q l there);
          most = omega arith;
          only = λ z. absurd (omega arith);
          later = λ z. absurd (omega arith);
        })) (at_end vs (split_off v) d j e);
        held = λ j d e. ⊎_elim (λ t. each (λ q x. x.live ≡ true → HoldsAll touches s.words (length s.homes) r.history x) s.views id (splitting v)
            (λ l i h e'. r.held id v at l i h e') (λ q x _ there. r.held q x there) j d t)
            (λ (t : (j ≡ n) × (split_off v ≡ d)). subst (λ (z : View E). z.live ≡ true → HoldsAll touches s.words (length s.homes) r.history z) t.1 (λ _ i h e'. absurd (none_in i h e'))) (at_end vs (split_off v) d j e);
        seats_ascend = r.seats_ascend;
        parts_ascend = r.parts_ascend;
      }

-- A seat that joins another keeps the rule.
use Rattle.std.proofs.Common.{◌≡◌, ◌≢◌, ℕ, ◌+◌, Bool, true, List, [], length, set, sym, refl, ap, ◌∙◌, subst, ⊎_elim, arith}
use mathlib.Core.Option.{none, some, some-injective}
use lib.ListN.{get_elem?}
use Rattle.atomic_table.specs.Table.{State, Joins}
use Rattle.atomic_table.proofs.Lists.{set_else}
use Rattle.sr_board.specs.declared.view.Held.{Held}
use Rattle.sr_board.specs.declared.view.View.{View}
use Rattle.sr_board.specs.Rule.{HoldsAll, IsFree, Kept, Knows}
use Rattle.sr_board.specs.Views.{HasPart, IsNext, joining, spent_view}
use Rattle.sr_board.proofs.Lists.{at_end, none_in, not_true, put, put_else, put_here}
use Rattle.sr_board.proofs.ViewLemmas.{each, free_off, same_view, taken_else, taken_kept}

module _ {S E : Type 0} (journal : S → List E) (belongs : ℕ → S → Type 0) (seat stamp : E → ℕ) (touches : ℕ → E → Bool) where
  abbrev Rule : State S (View E) → Type 0
  Rule = Kept journal belongs seat stamp touches

  pub joins : (id : ℕ) (v : View E) (o : ℕ) (w : View E) → v.live ≡ true → w.live ≡ true → w.held ≡ [] → IsNext v w → Joins Rule id v o w (joining v w) spent_view
  joins id v o w live lives idle next s r at apart there' =
      let both : View E = joining v w in let vs : List (View E) = set s.views id both in let young = next.1 in let number = next.0 in
      let there : get_elem? s.views o ≡ some w = sym (set_else s.views id o both apart) ∙ there' in
      let own = r.knows id v at live in let theirs = r.knows o w there lives in
      let sits' = put r.sits w.number none in
      let differ : v.number ≢ w.number = λ is. apart (sym (some-injective id o (sym own.own ∙ (ap r.sits is ∙ theirs.own)))) in
      record {
        history = r.history;
        wide = r.wide;
        home = r.home;
        free = r.free;
        at_home = r.at_home;
        taken = λ j l t. let u = taken_kept s.views id j v both at live (λ has. has) (r.taken j l t) in
            taken_else vs o j spent_view u (λ is. let same : w ≡ u.view = same_view vs o j w u there' is in let none_held : u.view.held ≡ [] = ap (λ (x : View E). x.held) (sym same) ∙ idle in
            let has : HasPart [] j = subst (λ (l : List (Held E)). HasPart l j) none_held u.has in none_in has.0 has.1 has.2);
        sits = sits';
        main = r.main;
        nobody = free_off seat r.sits r.history w.number 0 [] r.nobody;
        knows = each (λ j d. d.live ≡ true → Knows seat stamp sits' r.history r.main j d) vs o spent_view (λ z. absurd (not_true z))
            (λ j d not_o e. each (λ q x. q ≢ o → x.live ≡ true → Knows seat stamp sits' r.history r.main q x) s.views id both
            (λ _ _. record {
              own = put_else r.sits w.number none v.number differ ∙ own.own;
              numbered = own.numbered;
              entries = own.entries;
              ticked = own.ticked;
              once = own.once;
              earlier = λ q l e'. ⊎_elim (λ t. free_off seat r.sits r.history w.number (q + 2) l (own.earlier q l t))
                  (λ (t : (q ≡ length v.joined) × (w.made ≡ l)). let num : q + 2 ≡ w.number = let at_q = t.0 in omega arith in
                  subst (λ (z : ℕ × List E). IsFree seat sits' r.history z.0 z.1) (λ i. (sym num i, t.1 i)) (put_here r.sits w.number none w.number refl, sym theirs.entries)) (at_end v.joined w.made l q e');
              before = λ q l e'. ⊎_elim (λ t. own.before q l t) (λ (t : (q ≡ length v.joined) × (w.made ≡ l)). let at_q = t.0 in omega arith) (at_end v.joined w.made l q e');
              most = own.most;
              only = own.only;
              later = λ p who le. free_off seat r.sits r.history w.number who [] (own.later p who le);
            })
            (λ q x other e' not_o' x_lives. let k = r.knows q x e' x_lives in record {
              own = put_else r.sits w.number none x.number (λ is. not_o' (some-injective q o (sym k.own ∙ (ap r.sits is ∙ theirs.own)))) ∙ k.own;
              numbered = k.numbered;
              entries = k.entries;
              ticked = k.ticked;
              once = k.once;
              earlier = λ i l e''. free_off seat r.sits r.history w.number (i + 2) l (k.earlier i l e'');
              before = k.before;
              most = k.most;
              only = k.only;
              later = λ p who le. free_off seat r.sits r.history w.number who [] (k.later p who le);
            }) j d e not_o);
        held = each (λ j d. d.live ≡ true → HoldsAll touches s.words (length s.homes) r.history d) vs o spent_view (λ z. absurd (not_true z))
            (λ j d _ e. each (λ q x. x.live ≡ true → HoldsAll touches s.words (length s.homes) r.history x) s.views id both
            (λ l i h e'. r.held id v at l i h e') (λ q x _ e'. r.held q x e') j d e);
        seats_ascend = r.seats_ascend;
        parts_ascend = r.parts_ascend;
      }

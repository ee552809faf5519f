-- Whoever commits an entry keeps the rule.
use Rattle.std.proofs.Common.{◌≡◌, ◌≢◌, ℕ, ◌+◌, ◌<◌, ◌≤◌, eqb, Bool, true, false, List, [], ◌∷◌, ◌++◌, filter, length, get_or, set, sym, ap, ◌∙◌, subst, arith, eq-eqb, ne_eqb, eqb-true, if◌then◌else◌, zero, suc, Option, Some}
use Rattle.std.specs.Prelude.{All}
use Rattle.std.proofs.lemmas.List.Elements.{All-append}
use mathlib.Core.Logic.{dite}
use mathlib.Core.Option.{some, some-injective}
use native.Mathlib.Decide.{ℕ_discrete}
use lib.Seq.{set-get_or}
use prog.Atomic.{either}
use Rattle.atomic_table.specs.Table.{State, Me, step, keeps, Allows}
use Rattle.sr_board.specs.declared.view.Held.{Held}
use Rattle.sr_board.specs.declared.view.View.{View}
use Rattle.sr_board.specs.Rule.{Holds, HoldsAll, Kept, Knows, is_of, turn_of}
use Rattle.sr_board.specs.Steps.{committed}
use Rattle.sr_board.specs.Views.{HasTouched, IsAfter, held_after, with_entry}
use Rattle.sr_board.proofs.Ascending.{all_below, all_up_to, ascend_more}
use Rattle.sr_board.proofs.Lists.{by_cases_of, filter_away, filter_end, filter_here, mapped}
use Rattle.sr_board.proofs.ViewLemmas.{each, entry_or, free_stays, held_mapped, once_mapped, taken_kept}

only_one : {E : Type 0} (P : E → Type 0) (e : E) → P e → All P (e ∷ [])
only_one P e h zero d less = h
only_one P e h (suc k) d less = absurd (omega arith)

module _ {S E : Type 0} (journal : S → List E) (belongs : ℕ → S → Type 0) (said : S → Option E) (seat stamp : E → ℕ) (touches : ℕ → E → Bool) where
  abbrev Rule : State S (View E) → Type 0
  Rule = Kept journal belongs seat stamp touches

  pub commits : (slots id : ℕ) (me : Me S (View E)) (word number : ℕ) (x : S) (e : E) → me.0.live ≡ true → said x ≡ Some e → seat e ≡ me.0.number → IsAfter stamp me.0 (stamp e) → HasTouched touches me.0 e
      → Allows Rule slots id me word (λ n. either (eqb n number) number n) (committed said stamp touches (step slots word number number (some x)) me)
  commits slots id me word number x e live says mine after all s r deep at _ =
      let w : View E = with_entry stamp touches e me.0 in let n : ℕ = get_or s.words word 0 in let own = r.knows id me.0 at live in
      let more : List E = r.history ++ e ∷ [] in
      let sits : r.sits (seat e) ≡ some id = ap r.sits mine ∙ own.own in
      let stays : either (eqb n number) number n ≡ n = dite (ℕ_discrete n number) (λ z. ap (λ c. either c number n) (eq-eqb n number z) ∙ sym z) (λ z. ap (λ c. either c number n) (ne_eqb n number z)) in
      let apart : (q : ℕ) (d : View E) → q ≢ id → r.sits d.number ≡ some q → d.number ≢ me.0.number =
      λ q d other there eq. other (some-injective q id (sym there ∙ (ap r.sits eq ∙ own.own))) in
      let away : (k who : ℕ) → turn_of s.words k ≡ who → who ≢ me.0.number → touches k e ≡ false =
      λ k who is ne. by_cases_of (touches k e) (touches k e ≡ false)
      (λ hits. let h = all k hits in let hold = r.held id me.0 at live h.0 h.1 h.2 in absurd (ne (sym is ∙ (ap (turn_of s.words) (sym h.3) ∙ hold.turn))))
      (λ misses. misses) in
      let above = own.numbered.0 in (
        w,
        keeps,
        tt,
        subst (λ (ws : List ℕ). Rule record { words = ws; homes = s.homes; views = set s.views id w }) (sym (ap (set s.words word) stays ∙ set-get_or s.words word 0)) record {
          history = more;
          wide = r.wide;
          home = λ k y there. let h = r.home k y there in (h.0, h.1 ∙ sym (filter_away (touches k) r.history e (away k 0 (r.at_home k y there) (λ z. omega arith))));
          free = r.free;
          at_home = r.at_home;
          taken = λ j l t. taken_kept s.views id j me.0 w at live (held_mapped touches e me.0.held j) (r.taken j l t);
          sits = r.sits;
          main = r.main;
          nobody = free_stays seat r.sits r.history e 0 id [] sits r.nobody;
          knows = each (λ q d. d.live ≡ true → Knows seat stamp r.sits more r.main q d) s.views id w
              (λ _. record {
                own = own.own;
                numbered = own.numbered;
                entries = ap (λ l. l ++ e ∷ []) own.entries ∙ sym (filter_here (is_of seat me.0.number) r.history e (eq-eqb (seat e) me.0.number mine));
                ticked = All-append (λ f. stamp f ≤ stamp e) me.0.made (e ∷ []) (all_up_to stamp me.0.clock (stamp e) me.0.made after.own own.ticked) (only_one (λ f. stamp f ≤ stamp e) e (omega arith));
                once = once_mapped touches e me.0.held own.once;
                earlier = λ q l there. free_stays seat r.sits r.history e (q + 2) id l sits (own.earlier q l there);
                before = own.before;
                most = own.most;
                only = own.only;
                later = λ p who le. free_stays seat r.sits r.history e who id [] sits (own.later p who le);
              })
              (λ q d other there lives. let o = r.knows q d there lives in record {
                own = o.own;
                numbered = o.numbered;
                entries = o.entries ∙ sym (filter_away (is_of seat d.number) r.history e (ne_eqb (seat e) d.number (λ z. apart q d other o.own (sym z ∙ mine))));
                ticked = o.ticked;
                once = o.once;
                earlier = λ q l at'. free_stays seat r.sits r.history e (q + 2) id l sits (o.earlier q l at');
                before = o.before;
                most = o.most;
                only = o.only;
                later = λ p who le. free_stays seat r.sits r.history e who id [] sits (o.later p who le);
              });
          held = each (λ q d. d.live ≡ true → HoldsAll touches s.words (length s.homes) more d) s.views id w
              (λ _ q h there. let m = mapped (held_after touches e) me.0.held q h there in let old = r.held id me.0 at live q m.0 m.1 in
              subst (λ (z : Held E). Holds touches s.words (length s.homes) more me.0.number z) m.2 record {
                turn = old.turn;
                entries = ap (λ l. l ++ (if touches m.0.part e then e ∷ [] else [])) old.entries ∙ sym (filter_end (touches m.0.part) r.history e);
                within = old.within;
              })
              (λ q d other there lives p h there'. let old = r.held q d there lives p h there' in let o = r.knows q d there lives in record {
                turn = old.turn;
                entries = old.entries ∙ sym (filter_away (touches h.part) r.history e (away h.part d.number old.turn (apart q d other o.own)));
                within = old.within;
              });
          seats_ascend = λ who. ascend_more stamp (is_of seat who) r.history e (r.seats_ascend who)
              (λ hits. subst (λ (l : List E). All (λ f. stamp f < stamp e) l) (own.entries ∙ ap (λ (z : ℕ). filter (is_of seat z) r.history) (sym mine ∙ eqb-true (seat e) who hits)) (all_below stamp me.0.clock (stamp e) me.0.made after.own own.ticked));
          parts_ascend = λ k. ascend_more stamp (touches k) r.history e (r.parts_ascend k)
              (λ hits. let h = all k hits in let hold = r.held id me.0 at live h.0 h.1 h.2 in
              subst (λ (l : List E). All (λ f. stamp f < stamp e) l) (hold.entries ∙ ap (λ (z : ℕ). filter (touches z) r.history) h.3) (after.in_hand h.0 h.1 h.2));
        },
        (λ y e' is says'. let same : e ≡ e' = ap (entry_or e) (sym says ∙ (ap said (some-injective x y is) ∙ says')) in ap (λ (z : E). (with_entry stamp touches z me.0, me.1)) same),
      )

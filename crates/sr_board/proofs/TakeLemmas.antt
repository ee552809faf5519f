-- Whoever asks for a turn keeps the rule.
use Rattle.std.proofs.Common.{◌≡◌, ◌≢◌, ℕ, ◌*◌, ◌<◌, ◌≤◌, eqb, Bool, true, List, ◌∷◌, length, set, sym, refl, ap, ◌∙◌, subst, ⊎_elim, arith, length-set, get_or-set_other, get_or-set_same, eq-eqb, ne_eqb}
use mathlib.Core.Logic.{dite}
use mathlib.Core.Option.{none, some, some-ne-none, some-injective}
use native.Mathlib.Decide.{ℕ_discrete}
use lib.ListN.{get_elem?}
use lib.Seq.{set-get_or}
use prog.Atomic.{either}
use Rattle.atomic_table.specs.Table as table
use Rattle.atomic_table.specs.Table.{State, Me, step, keeps, stepped, Allows}
use Rattle.atomic_table.proofs.Lists.{at_set, set_else}
use Rattle.sr_board.specs.declared.view.Held.{Held}
use Rattle.sr_board.specs.declared.view.View.{View}
use Rattle.sr_board.specs.Rule.{Holds, HoldsAll, Kept, Knows, turn_of}
use Rattle.sr_board.specs.Steps.{TakesOrNotes, took}
use Rattle.sr_board.specs.Views.{HasPart, with_part, with_refusal}
use Rattle.sr_board.proofs.ViewLemmas.{each, first_or_rest, held_longer, once_more, same_view, taken_here, taken_kept}

module _ {S E : Type 0} (journal : S → List E) (belongs : ℕ → S → Type 0) (seat stamp : E → ℕ) (touches : ℕ → E → Bool) where
  abbrev Rule : State S (View E) → Type 0
  Rule = Kept journal belongs seat stamp touches

  -- the turn is another seat's
  is_other : (s : State S (View E)) (r : Rule s) (id : ℕ) (v : View E) → get_elem? s.views id ≡ some v → v.live ≡ true → (k : ℕ) → k < length s.homes → turn_of s.words k ≢ 0 → (HasPart v.held k → ⊥)
      → (turn_of s.words k ≤ 16) × (turn_of s.words k ≢ v.number)
  is_other s r id v at live k near busy idle =
      let t = r.taken k near (omega arith) in let h = t.has in
      let theirs = r.knows t.id t.view t.there t.live in let own = r.knows id v at live in
      let turn : turn_of s.words k ≡ t.view.number = ap (turn_of s.words) (sym h.3) ∙ (r.held t.id t.view t.there t.live h.0 h.1 h.2).turn in
      let most = theirs.numbered.1 in (
        omega arith,
        λ mine. idle (subst (λ (x : View E). HasPart x.held k) (sym (same_view s.views id k v t at (some-injective t.id id (sym theirs.own ∙ (ap r.sits (sym turn ∙ mine) ∙ own.own))))) h),
      )

  -- a refusal changes nothing but what the seat notes of it
  refused : (s : State S (View E)) (r : Rule s) (id : ℕ) (v : View E) (k holder : ℕ) → get_elem? s.views id ≡ some v → v.live ≡ true → Rule record { words = s.words; homes = s.homes; views = set s.views id (with_refusal v k holder) }
  refused s r id v k holder at live =
      let own = r.knows id v at live in let w : View E = with_refusal v k holder in record {
        history = r.history;
        wide = r.wide;
        home = r.home;
        free = r.free;
        at_home = r.at_home;
        taken = λ j l t. taken_kept s.views id j v w at live (λ has. has) (r.taken j l t);
        sits = r.sits;
        main = r.main;
        nobody = r.nobody;
        knows = each (λ j d. d.live ≡ true → Knows seat stamp r.sits r.history r.main j d) s.views id w
            (λ _. record { own = own.own; numbered = own.numbered; entries = own.entries; ticked = own.ticked; once = own.once; earlier = own.earlier; before = own.before; most = own.most; only = own.only; later = own.later })
            (λ j d _ e. r.knows j d e);
        held = each (λ j d. d.live ≡ true → HoldsAll touches s.words (length s.homes) r.history d) s.views id w
            (λ l i h e. r.held id v at l i h e) (λ j d _ e. r.held j d e);
        seats_ascend = r.seats_ascend;
        parts_ascend = r.parts_ascend;
      }

  pub takes_turn : (slots id : ℕ) (me : Me S (View E)) (k number : ℕ) → k < slots → number ≡ me.0.number → me.0.live ≡ true → (HasPart me.0.held k → ⊥)
      → Allows Rule slots id me (k * 16) (λ n. either (eqb n 0) number n) (took journal belongs (step slots (k * 16) 0 number none) me)
  takes_turn slots id me k number near is live idle s r deep at _ =
      let x : ℕ = turn_of s.words k in let wide = r.wide in let mine = r.knows id me.0 at live in let above = mine.numbered.0 in
      dite (ℕ_discrete x 0) (λ hit.
      let free = r.free k (omega arith) hit in let c : S = free.0 in let part = r.home k c free.1 in
      let w : View E = with_part me.0 k (journal c) in
      let words' : List ℕ = set s.words (k * 16) number in let homes' = set s.homes k none in
      let known : (who : ℕ) (h : Held E) → 0 < who → Holds touches s.words (length s.homes) r.history who h → h.part ≢ k =
      λ who h more hold same. let t' : turn_of s.words k ≡ who = ap (turn_of s.words) (sym same) ∙ hold.turn in absurd (omega arith) in
      let moved : (who : ℕ) (h : Held E) → 0 < who → Holds touches s.words (length s.homes) r.history who h → Holds touches words' (length homes') r.history who h =
      λ who h more hold. record {
        turn = get_or-set_other s.words (k * 16) (h.part * 16) number 0 (λ z. known who h more hold (omega arith)) ∙ hold.turn;
        entries = hold.entries;
        within = subst (λ (n : ℕ). h.part < n) (sym (length-set s.homes k none)) hold.within;
      } in (
        w,
        table.takes k c,
        free.1,
        subst (λ b. Rule (stepped s (k * 16) (either b number x) id me.1 w (table.takes k c))) (sym (eq-eqb x 0 hit)) record {
          history = r.history;
          wide = length-set s.words (k * 16) number ∙ (r.wide ∙ ap (λ (n : ℕ). n * 16) (sym (length-set s.homes k none)));
          home = λ j y e. ⊎_elim (λ (t : (j ≡ k) × (none ≡ some y)). absurd (some-ne-none y (sym t.1))) (λ t. r.home j y t.1) (at_set s.homes k j none (some y) e);
          free = λ j l e. dite (ℕ_discrete j k)
              (λ same. let n = get_or-set_same s.words (k * 16) number 0 (omega arith) in let e' : turn_of words' k ≡ 0 = ap (turn_of words') (sym same) ∙ e in absurd (omega arith))
              (λ other. let there = get_or-set_other s.words (k * 16) (j * 16) number 0 (λ z. other (omega arith)) in let f = r.free j (subst (λ (n : ℕ). j < n) (length-set s.homes k none) l) (sym there ∙ e) in (f.0, set_else s.homes k j none other ∙ f.1));
          at_home = λ j y e. ⊎_elim (λ (t : (j ≡ k) × (none ≡ some y)). absurd (some-ne-none y (sym t.1))) (λ t. get_or-set_other s.words (k * 16) (j * 16) number 0 (λ z. t.0 (omega arith)) ∙ r.at_home j y t.1) (at_set s.homes k j none (some y) e);
          taken = λ j l turn. dite (ℕ_discrete j k)
              (λ same. taken_here s.views id j me.0 w at live (0, record { part = k; journal = journal c }, refl, sym same))
              (λ other. let t = r.taken j (subst (λ (n : ℕ). j < n) (length-set s.homes k none) l) (subst (λ (n : ℕ). 0 < n) (get_or-set_other s.words (k * 16) (j * 16) number 0 (λ z. other (omega arith))) turn) in
              taken_kept s.views id j me.0 w at live (held_longer (record { part = k; journal = journal c }) me.0.held j) t);
          sits = r.sits;
          main = r.main;
          nobody = r.nobody;
          knows = each (λ j d. d.live ≡ true → Knows seat stamp r.sits r.history r.main j d) s.views id w
              (λ _. record {
                own = mine.own;
                numbered = mine.numbered;
                entries = mine.entries;
                ticked = mine.ticked;
                once = once_more (record { part = k; journal = journal c }) me.0.held (λ i h there. known me.0.number h above (r.held id me.0 at live i h there)) mine.once;
                earlier = mine.earlier;
                before = mine.before;
                most = mine.most;
                only = mine.only;
                later = mine.later;
              }) (λ j d _ e. r.knows j d e);
          held = each (λ j d. d.live ≡ true → HoldsAll touches words' (length homes') r.history d) s.views id w
              (λ _ i h e. first_or_rest (Holds touches words' (length homes') r.history me.0.number) (record { part = k; journal = journal c }) me.0.held i h e
              (record { turn = get_or-set_same s.words (k * 16) number 0 (omega arith) ∙ is; entries = part.1; within = subst (λ (n : ℕ). k < n) (sym (length-set s.homes k none ∙ deep)) near })
              (λ j g e'. moved me.0.number g above (r.held id me.0 at live j g e')))
              (λ j d other e lives i h e'. moved d.number h ((r.knows j d e lives).numbered.0) (r.held j d e lives i h e'));
          seats_ascend = r.seats_ascend;
          parts_ascend = r.parts_ascend;
        },
        (λ j e. let same : k ≡ j = omega arith in let now : Me S (View E) = (w, (k, c) ∷ me.1) in (
          (λ _. subst (λ (z : ℕ). (y : S) × belongs z y × (now ≡ (with_part me.0 z (journal y), (z, y) ∷ me.1))) same (c, part.0, refl)),
          (λ not. absurd (not hit)),
        )),
      ))
      (λ miss. let other = is_other s r id me.0 at live k (omega arith) miss idle in let w : View E = with_refusal me.0 k x in (
        w,
        keeps,
        tt,
        subst (λ b. Rule (stepped s (k * 16) (either b number x) id me.1 w keeps)) (sym (ne_eqb x 0 miss))
            (subst (λ (ws : List ℕ). Rule record { words = ws; homes = s.homes; views = set s.views id w }) (sym (set-get_or s.words (k * 16) 0)) (refused s r id me.0 k x at live)),
        (λ j e. let same : k ≡ j = omega arith in let now : Me S (View E) = (w, me.1) in (
          (λ hit. absurd (miss hit)),
          (λ _. (other.0, other.1, ap (λ (z : ℕ). (with_refusal me.0 z x, me.1)) same)),
        )),
      ))

  -- the same where the word is known by another name
  pub takes : (slots id : ℕ) (me : Me S (View E)) (k word number : ℕ) → word ≡ k * 16 → k < slots → number ≡ me.0.number → me.0.live ≡ true → (HasPart me.0.held k → ⊥)
      → Allows Rule slots id me word (λ n. either (eqb n 0) number n) (took journal belongs (step slots word 0 number none) me)
  takes slots id me k word number is near own live idle = subst (λ (z : ℕ). Allows Rule slots id me z (λ n. either (eqb n 0) number n) (took journal belongs (step slots z 0 number none) me)) (sym is) (takes_turn slots id me k number near own live idle)

-- what a try for a turn leaves as it was
pub record SameSeat {E : Type 0} (v w : View E) : Type 0 where
  pub live : w.live ≡ v.live
  pub number : w.number ≡ v.number
  pub next : w.next ≡ v.next
  pub clock : w.clock ≡ v.clock

pub same_seat : {S E : Type 0} (journal : S → List E) (belongs : ℕ → S → Type 0) (k found : ℕ) (before after : Me S (View E)) → TakesOrNotes journal belongs k before found after → SameSeat before.0 after.0
same_seat journal belongs k found before after t = dite (ℕ_discrete found 0)
    (λ hit. let e = (t.0 hit).2 in record { live = ap (λ m. m.0.live) e; number = ap (λ m. m.0.number) e; next = ap (λ m. m.0.next) e; clock = ap (λ m. m.0.clock) e })
    (λ miss. let e = (t.1 miss).2 in record { live = ap (λ m. m.0.live) e; number = ap (λ m. m.0.number) e; next = ap (λ m. m.0.next) e; clock = ap (λ m. m.0.clock) e })

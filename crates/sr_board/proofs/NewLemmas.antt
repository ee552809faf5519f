-- A board as it begins keeps the rule.
use Rattle.std.proofs.Common.{◌≡◌, ℕ, ◌*◌, ◌<◌, Bool, List, [], ◌∷◌, map, length, get_or, sym, refl, ap, ◌∙◌, subst, arith, replicate, zero, suc}
use Rattle.std.proofs.lemmas.List.{get_or-replicate, length-map, length-replicate}
use mathlib.Core.Option as maybe
use mathlib.Core.Option.{none, some, some-ne-none, some-injective}
use lib.ListN.{get_elem?}
use Rattle.atomic_table.specs.Table.{opening}
use Rattle.atomic_table.proofs.Lists.{some_there}
use Rattle.sr_board.specs.declared.view.View.{View}
use Rattle.sr_board.specs.Rule.{AreNew, HoldsAll, Kept, Knows}
use Rattle.sr_board.specs.Views.{first_view}
use Rattle.sr_board.proofs.Lists.{mapped, none_in, put, put_else, within}

one_view : {V : Type 0} (id : ℕ) (v w : V) → get_elem? (v ∷ []) id ≡ some w → (id ≡ 0) × (v ≡ w)
one_view zero v w e = (refl, some-injective v w e)
one_view (suc id) v w e = absurd (some-ne-none w (sym e))

module _ {S E : Type 0} (journal : S → List E) (belongs : ℕ → S → Type 0) (seat stamp : E → ℕ) (touches : ℕ → E → Bool) where
  pub begins : (words : List ℕ) (parts : List S) → words ≡ replicate (length parts * 16) 0 → AreNew journal belongs parts → Kept journal belongs seat stamp touches (opening words parts first_view)
  begins words parts none_taken new =
      let count : length (map some parts) ≡ length parts = length-map parts some in
      let zeros : (k : ℕ) → k < length (map some parts) → get_or words (k * 16) 0 ≡ 0 = λ k less. ap (λ (ws : List ℕ). get_or ws (k * 16) 0) none_taken ∙ get_or-replicate (length parts * 16) (k * 16) 0 0 (omega arith) in
      let sits : ℕ → maybe.Option ℕ = put (λ _. none) 1 (some 0) in
      let there : (k : ℕ) (x : S) → get_elem? (map some parts) k ≡ some (some x) → get_elem? parts k ≡ some x =
      λ k x e. let m = mapped some parts k (some x) e in m.1 ∙ m.2 in record {
        history = [];
        wide = ap length none_taken ∙ (length-replicate (length parts * 16) 0 ∙ ap (λ (n : ℕ). n * 16) (sym count));
        home = λ k x e. new k x (there k x e);
        free = λ k less _. some_there parts k (omega arith);
        at_home = λ k x e. zeros k (within (map some parts) k (some x) e);
        taken = λ k less more. let z = zeros k less in absurd (omega arith);
        sits = sits;
        main = 0;
        nobody = (put_else (λ _. none) 1 (some 0) 0 (λ z. omega arith), refl);
        knows = λ id v e _. let o = one_view id first_view v e in subst (λ (z : ℕ × View E). Knows seat stamp sits [] 0 z.0 z.1) (λ i. (sym o.0 i, o.1 i)) record {
          own = refl;
          numbered = (omega arith, omega arith);
          entries = refl;
          ticked = λ k d less. absurd (omega arith);
          once = λ i j g h a. absurd (none_in i g a);
          earlier = λ k l e'. absurd (none_in k l e');
          before = λ k l e'. absurd (none_in k l e');
          most = omega arith;
          only = λ _. refl;
          later = λ _ who le. (put_else (λ _. none) 1 (some 0) who (λ z. omega arith), refl);
        };
        held = λ id v e _. let o = one_view id first_view v e in subst (λ (z : View E). HoldsAll touches words (length (map some parts)) [] z) o.1 (λ i h e'. absurd (none_in i h e'));
        seats_ascend = λ who i j d lt less. absurd (omega arith);
        parts_ascend = λ k i j d lt less. absurd (omega arith);
      }

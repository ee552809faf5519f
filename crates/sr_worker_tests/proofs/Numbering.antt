-- Processes that are numbered one after another.
use Rattle.std.proofs.Common.{◌≡◌, ◌+◌, ℕ, zero, suc, List, [], ◌∷◌, ◌++◌, Some, length, map, slice_get, refl, ap, sym, ◌∙◌, subst, ⊎_elim, arith}
use Rattle.std.proofs.lemmas.List.{length-map, map-append}
use Rattle.sr_core.specs.declared.owner.Me.{Me}
use Rattle.sr_worker.specs.Hands.{AreApart, processes_of}
use Rattle.sr_worker.specs.Players.{me_of}
use Rattle.sr_worker.specs.declared.player.Player.{Player}
use Rattle.sr_worker.proofs.Lists.{get-append}
use Rattle.sr_worker_tests.specs.Numbers.{AreNumbered}

module _ {A : Type 0} (first : ℕ) (players : List (Player A)) (p : Player A) where
  last : (j : ℕ) (me : Me) → slice_get (me_of p ∷ []) j ≡ Some me → (j ≡ 0) × (me_of p ≡ me)
  last zero me here = (refl, cc)
  last (suc j) me here = absurd (cc)

  pub numbered-more : AreNumbered first (processes_of players) → p.process ≡ first + length players → AreNumbered first (processes_of (players ++ p ∷ []))
  numbered-more numbered is = λ k me here. ⊎_elim
      (λ before. numbered k me before)
      (λ (after : (j : ℕ) × (k ≡ length (processes_of players) + j) × (slice_get (me_of p ∷ []) j ≡ Some me)).
      let one = last after.0 me after.2 in
      let process : me.process ≡ p.process = ap (λ (m : Me). m.process) (sym one.1) in
      omega (arith, process, is, one.0, after.1, length-map players me_of))
      (get-append (processes_of players) (me_of p ∷ []) k me (subst (λ ms. slice_get ms k ≡ Some me) (map-append me_of players (p ∷ [])) here))

pub apart-numbered : (first : ℕ) (mes : List Me) → AreNumbered first mes → AreApart mes
apart-numbered first mes numbered = λ j k a b one two same. omega (arith, numbered j a one, numbered k b two, same)

-- Processes that end.
use Rattle.std.proofs.Common.{◌≡◌, ◌≢◌, ℕ, zero, suc, ◌<◌, ◌==◌, Bool, true, false, cond, not, List, [], ◌∷◌, refl, ap, sym, ◌∙◌, subst, map, arith}
use Rattle.std.specs.Prelude.{filter}
use Rattle.sr_ask.specs.declared.ask.Role.{Role}
use Rattle.sr_ask.specs.declared.ask.Role.TheVariants.{Boot, Initial, Proc, Final}
use Rattle.sr_ask.specs.declared.start.Start.{Start}
use Rattle.sr_calls.specs.Calls.{Called, KeepsOtherAnswers}
use Rattle.sr_instances.specs.Instances.{Placed, with_state}
use Rattle.sr_instances.specs.declared.state.State.TheVariants.{Gone}
use Rattle.sr_processes.specs.Living.{IsLive, Living, numbers_in, without_process}
use Rattle.sr_world.specs.Invoking.{instance_of_process}
use Rattle.sr_world.specs.Parts.{KeepsReplies, numbers_after, places_after}
use Rattle.sr_world.specs.Worlds.{World}
use Rattle.sr_world.proofs.PartLemmas.{live_without}

pub keeps_one : (processes processes' : Living) (calls calls' : Called) (process : ℕ) → processes'.starts ≡ without_process processes.starts process → KeepsOtherAnswers calls calls' process
    → KeepsReplies processes calls processes' calls'
keeps_one processes processes' calls calls' process ended others p can live =
    let before : (p ≢ process) × IsLive processes.starts p = live_without processes.starts process p (subst (λ ss. IsLive ss p) ended live) in
    others p before.0 (can before.1)

-- ---- the processes of an instance but one

module _ (process instance : ℕ) where
  abbrev numbers : List Start → List ℕ
  numbers ss = map (λ (x : Start). x.process) ss

  abbrev mine : List Start → List Start
  mine ss = filter (λ (x : Start). instance == x.instance) ss

  abbrev others : List ℕ → List ℕ
  others ns = filter (λ n. not (process == n)) ns

  pub numbers_without : (live : List Start) → numbers_in (without_process live process) instance ≡ filter (λ n. not (process == n)) (numbers_in live instance)
  numbers_without [] = refl
  numbers_without (s ∷ ss) = by (process == s.process) refl (numbers_without ss)
    where
      gone : (process == s.process) ≡ true → numbers (mine (without_process ss process)) ≡ others (numbers (mine ss)) → (d : Bool)
          → numbers (mine (without_process ss process)) ≡ others (numbers (cond d (s ∷ mine ss) (mine ss)))
      gone is more true = more ∙ sym (ap (λ b. cond (not b) (s.process ∷ others (numbers (mine ss))) (others (numbers (mine ss)))) is)
      gone is more false = more

      stays : (process == s.process) ≡ false → numbers (mine (without_process ss process)) ≡ others (numbers (mine ss)) → (d : Bool)
          → numbers (cond d (s ∷ mine (without_process ss process)) (mine (without_process ss process))) ≡ others (numbers (cond d (s ∷ mine ss) (mine ss)))
      stays is more true = ap (λ ns. s.process ∷ ns) more ∙ sym (ap (λ b. cond (not b) (s.process ∷ others (numbers (mine ss))) (others (numbers (mine ss)))) is)
      stays is more false = more

      by : (b : Bool) → (process == s.process) ≡ b → numbers (mine (without_process ss process)) ≡ others (numbers (mine ss))
          → numbers (mine (cond (not b) (s ∷ without_process ss process) (without_process ss process))) ≡ others (numbers (cond (instance == s.instance) (s ∷ mine ss) (mine ss)))
      by true is more = gone is more (instance == s.instance)
      by false is more = stays is more (instance == s.instance)

-- ---- what ends after it

pub no_numbers : (role : Role) (process back : ℕ) (world : World) → role ≢ Final → numbers_after role process back world ≡ []
no_numbers Boot process back world not = refl
no_numbers Initial process back world not = refl
no_numbers Proc process back world not = refl
no_numbers Final process back world not = absurd (not refl)

pub no_caller : (process back : ℕ) (world : World) → back ≡ 0 → numbers_after Final process back world ≡ []
no_caller process zero world none = refl
no_caller process (suc n) world none = absurd (omega (arith, none))

pub some_caller : (process back : ℕ) (world : World) → 0 < back
    → numbers_after Final process back world ≡ filter (λ n. not (process == n)) (numbers_in world.live (instance_of_process world process))
some_caller process zero world some = absurd (omega (arith, some))
some_caller process (suc n) world some = numbers_without process (instance_of_process world process) world.live

pub kept_place : (role : Role) (back instance : ℕ) (places : Placed) → role ≢ Final → role ≢ Initial → places_after role back instance places ≡ places
kept_place Boot back instance places not neither = refl
kept_place Proc back instance places not neither = refl
kept_place Initial back instance places not neither = absurd (neither refl)
kept_place Final back instance places not neither = absurd (not refl)

pub final_kept : (back instance : ℕ) (places : Placed) → back ≡ 0 → places_after Final back instance places ≡ places
final_kept zero instance places none = refl
final_kept (suc n) instance places none = absurd (omega (arith, none))

pub final_gone : (back instance : ℕ) (places : Placed) → 0 < back → places_after Final back instance places ≡ with_state places instance Gone
final_gone zero instance places some = absurd (omega (arith, some))
final_gone (suc n) instance places some = refl

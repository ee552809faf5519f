-- The arms of pairs, and a test that all arms of a statement pass.
use Rattle.std.proofs.Common.{◌≡◌, ℕ, zero, suc, ◌+◌, Bool, true, false, List, [], ◌∷◌, ◌++◌, ap, sym, ◌∙◌, cond}
use Rattle.std.specs.Prelude.{Some, None, slice_get}
use Rattle.std.specs.List.{cons_option, enumerate_from, list_all}
pub use Rattle.std.proofs.lemmas.Bool.{and_parts as both-true}
use Rattle.sr_value.specs.declared.capability.Owner.{Owner}
use Rattle.sr_core.specs.declared.site.Arm.{Arm}
use Rattle.sr_queue.specs.declared.pending.Pending.{Pending}
use Rattle.sr_queue.specs.Queues.{is_of}
use Rattle.sr_select.specs.Choices.{Pair, pairs, pairs_of}

-- an arm of a list passes what all pass
pub listed-passes : (test : Arm → Bool) (arms : List Arm) (number : ℕ) (arm : Arm) → list_all test arms ≡ true → slice_get arms number ≡ Some arm → test arm ≡ true
listed-passes test [] number arm all found = absurd (cc found)
listed-passes test (first ∷ arms) zero arm all found = let same : first ≡ arm = cc found in sym (ap test same) ∙ (both-true (test first) (list_all test arms) all).0
listed-passes test (first ∷ arms) (suc number) arm all found = listed-passes test arms number arm (both-true (test first) (list_all test arms) all).1 found

module _ (test : Arm → Bool) where
  -- the arm of every pair passes
  abbrev pub ArmsPass : List Pair → Type 0
  ArmsPass [] = Unit {0}
  ArmsPass (pair ∷ rest) = (test pair.arm ≡ true) × ArmsPass rest

  append-passes : (front more : List Pair) → ArmsPass front → ArmsPass more → ArmsPass (front ++ more)
  append-passes [] more _ later = later
  append-passes (pair ∷ rest) more first later = (first.0, append-passes rest more first.1 later)

  paired-passes : (place n : ℕ) (p : Pending) (arm : Arm) (rest : List Pair) (b : Bool) → test arm ≡ true → ArmsPass rest
      → ArmsPass (cons_option (cond b (Some (record { place = place; invocation = p; number = n; arm = arm })) None) rest)
  paired-passes place n p arm rest true passes later = (passes, later)
  paired-passes place n p arm rest false passes later = later

  one-passes : (owner : Owner) (place : ℕ) (p : Pending) (n : ℕ) (arms : List Arm) → list_all test arms ≡ true → ArmsPass (pairs_of owner (enumerate_from n arms) (place, p))
  one-passes owner place p n [] h = tt
  one-passes owner place p n (arm ∷ arms) h =
      let parts = both-true (test arm) (list_all test arms) h in
      paired-passes place n p arm (pairs_of owner (enumerate_from (n + 1) arms) (place, p)) (is_of owner arm.op p) parts.0 (one-passes owner place p (n + 1) arms parts.1)

  pub pairs-pass : (owner : Owner) (arms : List Arm) (place : ℕ) (items : List Pending) → list_all test arms ≡ true → ArmsPass (pairs owner (enumerate_from 0 arms) (enumerate_from place items))
  pairs-pass owner arms place [] h = tt
  pairs-pass owner arms place (p ∷ items) h =
      append-passes (pairs_of owner (enumerate_from 0 arms) (place, p)) (pairs owner (enumerate_from 0 arms) (enumerate_from (place + 1) items))
      (one-passes owner place p 0 arms h) (pairs-pass owner arms (place + 1) items h)

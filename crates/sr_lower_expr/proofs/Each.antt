-- Tests that each thing of a list passes.
use Rattle.std.proofs.Common.{Bool, List, [], ◌∷◌, ◌++◌, IsTrue, flat_map, map, take, zip, refl, ◌∙◌}
use Rattle.std.proofs.lemmas.Bool.{and_from, and_parts}
use Rattle.std.proofs.lemmas.List.Folds.{list_all-append}
use Rattle.std.specs.List.{list_all}

module _ {A : Type 0} (test : A → Bool) where
  pub first_passes : (thing : A) (things : List A) → IsTrue (list_all test (thing ∷ things)) → IsTrue (test thing)
  first_passes thing things all = (and_parts (test thing) (list_all test things) all).0

  pub rest_passes : (thing : A) (things : List A) → IsTrue (list_all test (thing ∷ things)) → IsTrue (list_all test things)
  rest_passes thing things all = (and_parts (test thing) (list_all test things) all).1

  pub one_taken : (things : List A) → IsTrue (list_all test things) → IsTrue (list_all test (take 1 things))
  one_taken [] all = refl
  one_taken (thing ∷ things) all = and_from _ _ (first_passes thing things all) refl

  pub both_pass : (xs ys : List A) → IsTrue (list_all test xs) → IsTrue (list_all test ys) → IsTrue (list_all test (xs ++ ys))
  both_pass xs ys all_xs all_ys = list_all-append test xs ys ∙ and_from _ _ all_xs all_ys

  pub zip_passes : {B : Type 0} (others : List B) (things : List A) → IsTrue (list_all test things) → IsTrue (list_all (λ (pair : B × A). test pair.1) (zip others things))
  zip_passes [] things all = refl
  zip_passes (other ∷ others) [] all = refl
  zip_passes (other ∷ others) (thing ∷ things) all =
      and_from _ _ (first_passes thing things all) (zip_passes others things (rest_passes thing things all))

  -- what is made of each thing passes
  pub made_passes : {B : Type 0} (make : B → A) → ((b : B) → IsTrue (test (make b))) → (bs : List B) → IsTrue (list_all test (map make bs))
  made_passes make passes [] = refl
  made_passes make passes (b ∷ bs) = and_from _ _ (passes b) (made_passes make passes bs)

  -- what is made of each thing that passes a test passes another
  pub turned_passes : {B : Type 0} (other : B → Bool) (make : B → A) → ((b : B) → IsTrue (other b) → IsTrue (test (make b)))
      → (bs : List B) → IsTrue (list_all other bs) → IsTrue (list_all test (map make bs))
  turned_passes other make passes [] all = refl
  turned_passes other make passes (b ∷ bs) all =
      let parts = and_parts (other b) (list_all other bs) all in
      and_from _ _ (passes b parts.0) (turned_passes other make passes bs parts.1)

  pub lists_pass : {B : Type 0} (make : B → List A) → ((b : B) → IsTrue (list_all test (make b))) → (bs : List B) → IsTrue (list_all test (flat_map make bs))
  lists_pass make passes [] = refl
  lists_pass make passes (b ∷ bs) = both_pass (make b) (flat_map make bs) (passes b) (lists_pass make passes bs)

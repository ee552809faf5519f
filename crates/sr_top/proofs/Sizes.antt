-- Where two lists of lengths and names differ first.
use Rattle.std.proofs.Common.{◌≡◌, ◌≢◌, ◌∙◌, ◌+◌, ◌<◌, ◌≤◌, ℕ, suc, List, [], ◌∷◌, length, take, get_or, Some, ap, arith, is_some, refl, subst, sym, true≢false}
use Rattle.std.proofs.Math.Nat.{le-min}
use Rattle.std.proofs.lemmas.List.{take_all, take_more_same}
use Rattle.std.proofs.lemmas.Option.{get_or_from_slice_get, slice_get-get_or, slice_get-map, slice_get_past, slice_get_read, slice_get_within}
use Rattle.std.specs.Prelude.{slice_get}
use Rattle.std.specs.Option.{option_map}
use Rattle.sr_top.specs.Reading.{size_of, sizes_of}
use Rattle.sr_top.specs.Replaying.{IsFirstOther}

length-sizes : (files : List (List ℕ × List ℕ)) → length (sizes_of files) ≡ length files
length-sizes [] = refl
length-sizes (file ∷ files) = ap suc (length-sizes files)

-- the size of the file of a place
size_at : (files : List (List ℕ × List ℕ)) (place : ℕ) (file : List ℕ × List ℕ) → place < length files → file ≡ get_or files place file
    → slice_get (sizes_of files) place ≡ Some (size_of file)
size_at files place file within is = slice_get-map size_of files place ∙ ap (option_map size_of) (slice_get_read files (length files) place file refl within is)

-- one more is the same
pub same_further : (files : List (List ℕ × List ℕ)) (told : List (ℕ × List ℕ)) (place : ℕ) (file : List ℕ × List ℕ) → place < length files → file ≡ get_or files place file
    → slice_get told place ≡ Some (size_of file) → take place (sizes_of files) ≡ take place told → take (place + 1) (sizes_of files) ≡ take (place + 1) told
same_further files told place file within is known before =
    let here = size_at files place file within is in
    take_more_same (sizes_of files) told place (size_of file) (slice_get_within (sizes_of files) place (size_of file) here) (slice_get_within told place (size_of file) known) before
    (get_or_from_slice_get (sizes_of files) place (size_of file) (size_of file) here ∙ sym (get_or_from_slice_get told place (size_of file) (size_of file) known))

pub told_further : (told : List (ℕ × List ℕ)) (place : ℕ) (size : ℕ × List ℕ) → slice_get told place ≡ Some size → place + 1 ≤ length told
told_further told place size known = let within = slice_get_within told place size known in omega arith

-- this place is the first that differs
pub other_here : (files : List (List ℕ × List ℕ)) (told : List (ℕ × List ℕ)) (place number : ℕ) (file : List ℕ × List ℕ) → number ≡ place → place < length files
    → file ≡ get_or files place file → (slice_get told place ≡ Some (size_of file) → ⊥) → take place (sizes_of files) ≡ take place told → place ≤ length told
    → IsFirstOther (sizes_of files) told number
other_here files told place number file same within is unknown before most =
    subst (IsFirstOther (sizes_of files) told) (sym same)
    (record {
      before = before;
      within = le-min (let many = length-sizes files in omega arith) most;
      here = λ alike. unknown (sym alike ∙ size_at files place file within is);
    })

-- the list that is told is longer
pub other_after : (files : List (List ℕ × List ℕ)) (told : List (ℕ × List ℕ)) (number : ℕ) → number ≡ length files → length files < length told
    → take (length files) (sizes_of files) ≡ take (length files) told → IsFirstOther (sizes_of files) told number
other_after files [] number same more before = absurd (let none : length files < 0 = more in omega arith)
other_after files (first ∷ told) number same more before =
    subst (IsFirstOther (sizes_of files) (first ∷ told)) (sym same)
    (record {
      before = before;
      within = le-min (let many = length-sizes files in omega arith) (omega arith);
      here = λ alike.
          let past = slice_get_past (sizes_of files) (length files) (let many = length-sizes files in omega arith) in
          let there = slice_get-get_or (first ∷ told) (length files) first more in
          true≢false (ap is_some (sym there) ∙ ap is_some (sym alike) ∙ ap is_some past);
    })

-- the lists are as long, and the same
pub all_same : (files : List (List ℕ × List ℕ)) (told : List (ℕ × List ℕ)) → length told ≤ length files → take (length files) (sizes_of files) ≡ take (length files) told
    → sizes_of files ≡ told
all_same files told most before =
    sym (take_all (length files) (sizes_of files) (let many = length-sizes files in omega arith)) ∙ before ∙ take_all (length files) told most

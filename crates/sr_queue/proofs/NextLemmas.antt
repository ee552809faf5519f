-- The first of an operation from a place on is at the place itself, where that is of the operation.
use Rattle.std.proofs.Common.{◌≡◌, ℕ, zero, suc, ◌+◌, List, [], ◌∷◌, None, Some, cond, drop, map, refl, ap, sym, ◌∙◌}
use Rattle.std.specs.List.{position_from, slice_get}
use Rattle.std.specs.Option.{option_map}
use Rattle.std.proofs.lemmas.Option.{none-some, same_Some, slice_get-map}
use Rattle.sr_queue.specs.Classes.{next_among, same_class}
use Rattle.sr_queue.specs.declared.class.Class.{Class}
use Rattle.sr_queue.specs.declared.index.Numbered.{Numbered}
use Rattle.sr_queue.proofs.ClassLemmas.{same_class-itself}

found-here : (class : Class) (start from : ℕ) (classes : List Class) → slice_get classes from ≡ Some class → Some start ≡ position_from (same_class class) start (drop from classes)
found-here class start from [] at = absurd (none-some class at)
found-here class start zero (c ∷ cs) at =
    sym (ap (λ b. cond b (Some start) (position_from (same_class class) (start + 1) cs)) (ap (same_class class) (same_Some c class at) ∙ same_class-itself class))
found-here class start (suc from) (c ∷ cs) at = found-here class start from cs at

pub next_here : (class : Class) (from : ℕ) (classes : List Class) → slice_get classes from ≡ Some class → Some from ≡ next_among class from classes
next_here class from classes at = found-here class from from classes at

-- where nothing stands at a place, none of an operation comes after it
pub no_item : (class : Class) (from : ℕ) (entries : List Numbered) → None ≡ slice_get entries from → next_among class from (map (λ x. x.class) entries) ≡ None
no_item class from entries none = past from from entries none
  where
    past : (start at : ℕ) (es : List Numbered) → None ≡ slice_get es at → position_from (same_class class) start (drop at (map (λ x. x.class) es)) ≡ None
    past start zero [] none = refl
    past start (suc at) [] none = refl
    past start zero (e ∷ es) none = absurd (none-some e none)
    past start (suc at) (e ∷ es) none = past start at es none

pub class_at : (class : Class) (place : ℕ) (entries : List Numbered) (e : Numbered) → slice_get entries place ≡ Some e → e.class ≡ class → slice_get (map (λ x. x.class) entries) place ≡ Some class
class_at class place entries e at is = slice_get-map (λ (x : Numbered). x.class) entries place ∙ ap (λ o. option_map (λ (x : Numbered). x.class) o) at ∙ ap Some is

-- The table of lines after a change.
use Rattle.std.proofs.Common.{◌≡◌, ℕ, Bool, true, false, cond, List, Option, Some, Result, Ok, Err, OnErr, refl, ap, ◌∙◌}
use Rattle.std.specs.HashMap.{HashMap}
use Rattle.std.specs.Map.{lookup}
use Rattle.std.specs.declared.collections.VecDeque.{VecDeque}
use Rattle.std.specs.declared.alloc.Global.{Global}
use Rattle.sr_queue.specs.Classes.{same_class}
use Rattle.sr_queue.specs.Lines.{ChangesLine, line_in, numbers_of}
use Rattle.sr_queue.specs.declared.class.Class.{Class}
use Rattle.sr_queue.proofs.ClassLemmas.{same_parts}

module _ (lines lines' : List (Class × VecDeque ℕ Global)) (class : Class) where
  -- what the table has at a class is what its line becomes
  pub changes-from : (line : Option (VecDeque ℕ Global)) (numbers : List ℕ) → numbers_of line ≡ numbers → ((q : Class) → lookup (same_class q) lines' ≡ cond (same_class class q) line (lookup (same_class q) lines)) → ChangesLine lines lines' class numbers
  changes-from line numbers is at q = ap numbers_of (at q) ∙ by (same_class class q)
    where
      by : (b : Bool) → numbers_of (cond b line (lookup (same_class q) lines)) ≡ cond b numbers (line_in lines q)
      by true = is
      by false = refl

  -- a line that becomes what it was leaves each as it was
  pub kept-from : ChangesLine lines lines' class (line_in lines class) → (q : Class) → line_in lines' q ≡ line_in lines q
  kept-from changes q = changes q ∙ by (same_class class q) refl
    where
      by : (b : Bool) → same_class class q ≡ b → cond b (line_in lines class) (line_in lines q) ≡ line_in lines q
      by true is = ap (line_in lines) (same_parts class q is)
      by false is = refl

-- one change after another of the same line
pub changes-twice : (lines lines' lines'' : List (Class × VecDeque ℕ Global)) (class : Class) (numbers numbers' : List ℕ) → ChangesLine lines lines' class numbers → ChangesLine lines' lines'' class numbers' → ChangesLine lines lines'' class numbers'
changes-twice lines lines' lines'' class numbers numbers' first second q = second q ∙ by (same_class class q) (first q)
  where
    by : (b : Bool) → line_in lines' q ≡ cond b numbers (line_in lines q) → cond b numbers' (line_in lines' q) ≡ cond b numbers' (line_in lines q)
    by true is = refl
    by false is = is

-- what holds anyway holds on an error
pub on_err : {T E P : Type 0} (r : Result T E) → P → OnErr r P
on_err (Ok x) p = tt
on_err (Err e) p = p

-- what `insert` leaves, where the table is as before the look-up
pub inserted : {S : Type 0} (old same new : HashMap Class (VecDeque ℕ Global) S) (class : Class) (line : VecDeque ℕ Global) (numbers : List ℕ) → same ≡ old → line.items ≡ numbers
    → ((q : Class) → lookup (same_class q) new.entries ≡ cond (same_class class q) (Some line) (lookup (same_class q) same.entries)) → ChangesLine old.entries new.entries class numbers
inserted old same new class line numbers is items at =
    changes-from old.entries new.entries class (Some line) numbers items (λ q. at q ∙ ap (λ m. cond (same_class class q) (Some line) (lookup (same_class q) m.entries)) is)

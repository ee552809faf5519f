-- What a read gives of files whose names and bytes are told, and which reads failed.
use Rattle.std.specs.Prelude.{◌≡◌, ℕ, ◌+◌, ◌-◌, ◌^◌, ◌≤◌, List, length, min, take, Option, Result, Ok, Err, Some, IfSome, Vec, nat_eq}
use Rattle.std.specs.Cmp.Lexicographic.{pointwise}
use Rattle.std.specs.List.{find}
use Rattle.std.specs.Option.{option_map}
use Rattle.std.specs.declared.alloc.Global.{Global}
use Rattle.sr_ports.specs.declared.fault.PortFail.{PortFail}
use Rattle.sr_ports.specs.declared.fault.PortFail.TheVariants.{Failed, NoMemory}

-- the bytes of the file of this name; of two files of one name the first counts
abbrev pub bytes_of : List (List ℕ × List ℕ) → List ℕ → Option (List ℕ)
bytes_of files name = option_map (λ file. file.1) (find (λ file. pointwise nat_eq file.0 name) files)

-- a read gives the first `most` bytes, or all, of the file of this name; so a name that the files lack gives a failure
abbrev pub ReadsFile : Option (List (List ℕ × List ℕ)) → List ℕ → ℕ → Result (Vec ℕ Global) PortFail → Type 0
ReadsFile told name most (Ok bytes) =
    (length bytes.items ≤ most) × IfSome told (λ files. option_map (take most) (bytes_of files name) ≡ Some bytes.items)
ReadsFile told name most (Err fail) = Unit {0}

-- ---- readings

-- how many reads there were, and the number of the last that failed, or 0
pub record Readings : Type 0 where
  pub reads : ℕ
  pub failed : ℕ

abbrev pub no_readings : Readings
no_readings = record { reads = 0; failed = 0 }

-- the count of reads after one more; it stands still at the end of its type, 2^64 - 1
abbrev pub next_read : ℕ → ℕ
next_read reads = min (reads + 1) (2 ^ 64 - 1)

-- the number of the last that failed, after a read
abbrev pub failed_after : {T : Type 0} → Readings → Result T PortFail → ℕ
failed_after before (Ok value) = before.failed
failed_after before (Err Failed) = next_read before.reads
failed_after before (Err NoMemory) = before.failed

-- The names that need no declaration.
use Rattle.std.specs.Prelude.{ℕ, List, [], ◌∷◌, Option, codes, find}
use Rattle.std.specs.Str.{bytes_eq}
use Rattle.sr_names.specs.declared.predefined.Predefined.{Predefined}
use Rattle.sr_names.specs.declared.predefined.Predefined.TheVariants.{Write, Writes, Read, P, V, Eof, Abs, Min, Max, Low, High, Lb, Ub, Length, Pred, Succ, MyResource, MyVm}

abbrev pub spelling_of : Predefined → List ℕ
spelling_of Write = codes "write"
spelling_of Writes = codes "writes"
spelling_of Read = codes "read"
spelling_of P = codes "P"
spelling_of V = codes "V"
spelling_of Eof = codes "EOF"
spelling_of Abs = codes "abs"
spelling_of Min = codes "min"
spelling_of Max = codes "max"
spelling_of Low = codes "low"
spelling_of High = codes "high"
spelling_of Lb = codes "lb"
spelling_of Ub = codes "ub"
spelling_of Length = codes "length"
spelling_of Pred = codes "pred"
spelling_of Succ = codes "succ"
spelling_of MyResource = codes "myresource"
spelling_of MyVm = codes "myvm"

abbrev pub all_predefined : List Predefined
all_predefined = Write ∷ Writes ∷ Read ∷ P ∷ V ∷ Eof ∷ Abs ∷ Min ∷ Max ∷ Low ∷ High ∷ Lb ∷ Ub ∷ Length ∷ Pred ∷ Succ ∷ MyResource ∷ MyVm ∷ []

-- the predefined name with this spelling, where there is one
abbrev pub predefined_named : List ℕ → Option Predefined
predefined_named name = find (λ candidate. bytes_eq (spelling_of candidate) name) all_predefined

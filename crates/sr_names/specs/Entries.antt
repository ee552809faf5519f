-- What a contract sees of a table: names with their declarations, in the order of declaration.
use Rattle.std.specs.Prelude.{ℕ, List, map}
use Rattle.std.specs.declared.alloc.Global.{Global}
use Rattle.std.specs.Prelude.{Vec}
use Rattle.sr_names.specs.declared.meaning.Decl.{Decl}

abbrev pub Entries : Type 0
Entries = List (List ℕ × Decl)

abbrev pub named_entries : List (Vec ℕ Global × Decl) → Entries
named_entries entries = map (λ entry. (entry.0.items, entry.1)) entries

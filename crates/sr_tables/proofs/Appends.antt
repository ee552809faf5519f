-- What is put in one list after another is what is put in both, one after the other.
use Rattle.std.proofs.Common.{◌≡◌, List, ◌++◌, fold, sym}
use Rattle.std.proofs.lemmas.List.Sums.{fold-append}
use Rattle.indexmap.specs.IndexSet.{insert_key}
use Rattle.sr_core.specs.declared.site.Named.{Named}
use Rattle.sr_names.specs.declared.spot.Spot.{Spot}
use Rattle.sr_names.specs.Spots.{same_spot}
use Rattle.sr_tables.specs.Sites.{with_named}
use Rattle.sr_tables.specs.Tables.{with_entries, with_entry, with_spots}

pub named_append : (there xs ys : List Named) → fold with_named (fold with_named there xs) ys ≡ fold with_named there (xs ++ ys)
named_append there xs ys = sym (fold-append with_named there xs ys)

pub spots_append : (there xs ys : List Spot) → with_spots (with_spots there xs) ys ≡ with_spots there (xs ++ ys)
spots_append there xs ys = sym (fold-append (insert_key same_spot) there xs ys)

pub entries_append : {A : Type 0} (table xs ys : List (Spot × A)) → with_entries (with_entries table xs) ys ≡ with_entries table (xs ++ ys)
entries_append table xs ys = sym (fold-append (λ made entry. with_entry made entry.0 entry.1) table xs ys)

-- Declarations in a scope, one after another: what the scope is then, and which names it had already.
use Rattle.std.specs.Prelude.{List, [], ◌∷◌, ◌++◌, Option, Some, None}
use Rattle.sr_names.specs.declared.finding.Finding.{Finding}
use Rattle.sr_names.specs.declared.meaning.Sort.{Sort}
use Rattle.sr_names.specs.declared.meaning.Sort.TheVariants.{Variable}
use Rattle.sr_names.specs.Entries.{Entries}
use Rattle.sr_names.specs.Readings.{twice_found, declaration}
use Rattle.sr_names.specs.Tables.{with_decl}
use Rattle.sr_tree.specs.declared.declaration.OpItem.{OpItem}
use Rattle.sr_tree.specs.declared.declaration.OpItem.TheVariants.{Signed, Typed}
use Rattle.sr_tree.specs.declared.name.Name.{Name}

abbrev pub name_declared : Sort → Name → Entries → Entries
name_declared sort name table = with_decl table name.text (declaration sort name.span)

-- two declarations of one name in one scope: the later one is refused
abbrev pub name_twice : Sort → Name → Entries → List Finding
name_twice sort name table = twice_found table name.text name.span

abbrev pub names_declared : Sort → List Name → Entries → Entries
names_declared sort [] table = table
names_declared sort (name ∷ names) table = names_declared sort names (name_declared sort name table)

abbrev pub names_twice : Sort → List Name → Entries → List Finding
names_twice sort [] table = []
names_twice sort (name ∷ names) table = name_twice sort name table ++ names_twice sort names (name_declared sort name table)

-- what an operation returns is a variable of its scope
abbrev pub returned_declared : Option Name → Entries → Entries
returned_declared None table = table
returned_declared (Some name) table = name_declared Variable name table

abbrev pub returned_twice : Option Name → Entries → List Finding
returned_twice None table = []
returned_twice (Some name) table = name_twice Variable name table

abbrev pub op_name : OpItem → Name
op_name (Signed span name signature) = name
op_name (Typed span name optype) = name

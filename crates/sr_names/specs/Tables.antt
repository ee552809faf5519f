-- The declarations of a scope.
use Rattle.std.specs.Prelude.{ℕ, List, [], ◌∷◌, ◌++◌, Option, is_some, if◌then◌else◌}
use Rattle.std.specs.Map.{lookup}
use Rattle.std.specs.Str.{bytes_eq}
use Rattle.sr_names.specs.declared.meaning.Decl.{Decl}
use Rattle.sr_names.specs.Entries.{Entries}

-- what a scope declares a name as
abbrev pub declared_as : Entries → List ℕ → Option Decl
declared_as entries name = lookup (bytes_eq name) entries

-- a scope after a declaration: of two declarations of one name the first stands
abbrev pub with_decl : Entries → List ℕ → Decl → Entries
with_decl entries name decl = if is_some (declared_as entries name) then entries else entries ++ (name, decl) ∷ []

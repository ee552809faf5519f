-- Tokens that spell no file.
use Rattle.std.specs.Prelude.{List}
use Rattle.sr_text.specs.declared.refusal.FrontFail.{FrontFail}
use Rattle.sr_text.specs.declared.refusal.FrontFail.TheVariants as front
use Rattle.sr_tree.specs.declared.component.File.{File}
use Rattle.sr_tree.specs.declared.token.Token.{Token}
use Rattle.sr_tree.specs.Components.{Spells}

-- where they are refused they spell none
abbrev pub SpellsNoFile : List Token → FrontFail → Type 0
SpellsNoFile items (front.Refused r) = (f : File) → Spells items f → ⊥
SpellsNoFile items front.NoMemory = Unit {0}

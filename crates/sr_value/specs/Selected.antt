-- A part of a value that was selected, as a value.
use Rattle.sr_value.specs.declared.value.Value.{Value}
use Rattle.sr_value.specs.declared.value.Value.TheVariants.{Char}
use Rattle.sr_value.specs.declared.part.Part.{Part}
use Rattle.sr_value.specs.declared.part.Part.TheVariants.{Whole, Byte}

abbrev pub part_value : Part → Value
part_value (Whole value) = value.now
part_value (Byte byte) = Char byte

-- Lists whose items join at the end and leave at the front.
use Rattle.std.specs.Prelude.{Bool, false, true, List, reverse}

-- the items of a list, whose memory has them in order or turned round
abbrev pub in_order : {A : Type 0} → Bool → List A → List A
in_order false items = items
in_order true items = reverse items

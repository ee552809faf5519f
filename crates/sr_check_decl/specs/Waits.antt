-- A declaration that waits, as the code holds it.
use Rattle.sr_check_decl.specs.declared.waiting.Waits.{Waits}
use Rattle.sr_check_decl.specs.Waiting.{Waiting}

abbrev pub seen : Waits → Waiting
seen waits = record {
  span = waits.span;
  spot = waits.spot;
  component = waits.component;
  is_constant = waits.is_constant;
  in_spec = waits.in_spec;
  value = waits.value.now;
}

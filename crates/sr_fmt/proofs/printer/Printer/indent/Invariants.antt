-- A blank for each count so far.
use Rattle.std.proofs.Common.{◌≡◌, ◌++◌, replicate}
use Rattle.sr_fmt.proofs.printer.Printer.indent.Given as goal

abbrev pub invariant-loop : goal.invariant-loop
invariant-loop l = record {
  text : l.self.text ≡ l.fn.self.text ++ replicate l.counter 32;
  pen : l.self.pen ≡ l.fn.self.pen;
}

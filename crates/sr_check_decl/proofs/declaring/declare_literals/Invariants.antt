-- What is declared so far and what the rest declares are what all declare.
use Rattle.std.proofs.Common.{◌≡◌, drop}
use Rattle.sr_check_decl.specs.Declaring.{literals_declared}
use Rattle.sr_check_decl.proofs.declaring.declare_literals.Given as goal

abbrev pub invariant-loop-name : goal.invariant-loop-name
invariant-loop-name l = literals_declared l.enumeration l.number l.index (drop l.name-index l.literals) l.facts ≡ literals_declared l.enumeration l.number 0 l.literals l.fn.facts

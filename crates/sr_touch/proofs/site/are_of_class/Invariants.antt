-- All arms are of the class where the rest is.
use Rattle.std.proofs.Common.{◌≡◌, ◌==◌, drop}
use Rattle.std.specs.List.{list_all}
use Rattle.sr_classes.specs.Classes.{class_of}
use Rattle.sr_touch.proofs.site.are_of_class.Given as goal

abbrev pub invariant-loop-arm : goal.invariant-loop-arm
invariant-loop-arm l = list_all (λ arm. class_of l.classes.of arm.op == l.class) (drop l.arm-index l.arms) ≡ list_all (λ arm. class_of l.classes.of arm.op == l.class) l.arms

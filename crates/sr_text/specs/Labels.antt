-- How the kinds of refusal are printed.
use Rattle.std.specs.Prelude.{ℕ, List, codes}
use Rattle.sr_text.specs.declared.refusal.Kind.{Kind}
use Rattle.sr_text.specs.declared.refusal.Kind.TheVariants.{BadByte, BadToken, Syntax, Name, Twice, BadType, BadUse, Guard, Main, OutOfProfile, Large, Cycle}

abbrev pub kind_label : Kind → List ℕ
kind_label BadByte = codes "S1 BadByte"
kind_label BadToken = codes "S2 BadToken"
kind_label Syntax = codes "S3 Syntax"
kind_label Name = codes "S4 Name"
kind_label Twice = codes "S5 Twice"
kind_label BadType = codes "S6 Type"
kind_label BadUse = codes "S7 Kind"
kind_label Guard = codes "S8 Guard"
kind_label Main = codes "S9 Main"
kind_label OutOfProfile = codes "S10 OutOfProfile"
kind_label Large = codes "S11 Large"
kind_label Cycle = codes "S12 Cycle"

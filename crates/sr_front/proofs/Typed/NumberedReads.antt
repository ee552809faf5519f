-- A written type has numbers where those of what is known have, whether rules are broken in it or not: also where it is
-- entered, with the signatures in it.
use Rattle.std.proofs.Common.{Option, Some, None, refl}
use Rattle.sr_names.specs.declared.meaning.Decl.{Decl}
use Rattle.sr_types.specs.Signatures.{with_signature}
use Rattle.sr_check_expr.specs.declared.facts.Facts.{Facts}
use Rattle.sr_check_expr.specs.Naming.{decl_info}
use Rattle.sr_check_decl.specs.TypeTrees.{whole_signature}
use Rattle.sr_front.proofs.Typed.NumberedGrows.{entered_numbered, found_numbered, grown_with, type_lifted}
use Rattle.sr_front.proofs.Typed.NumberedTypes.{AllNumbered, FoundNumbered, numbered_test}
use Rattle.sr_front.proofs.Typed.PassingParts.{capable_passes, named_passes, whole_passes}
use Rattle.sr_front.proofs.Typed.PassingReads.{EntersBy}

pub decl_found_numbered : (facts : Facts) → AllNumbered facts → (decl : Option Decl) → FoundNumbered facts.signatures (decl_info facts.infos decl)
decl_found_numbered facts all None = tt
decl_found_numbered facts all (Some decl) = all.infos decl.spot

pub by_numbers : EntersBy numbered_test AllNumbered
by_numbers = record {
  refused = λ table. refl;
  lifts = λ table one. type_lifted table (with_signature table one) (grown_with table one);
  number = found_numbered;
  named = λ facts all decl. named_passes (numbered_test facts.signatures) decl (decl_info facts.infos decl) (decl_found_numbered facts all decl);
  capable = λ facts all decl. capable_passes (numbered_test facts.signatures) decl (decl_info facts.infos decl) (decl_found_numbered facts all decl);
  entered = λ facts signed kept params all. entered_numbered facts (whole_signature signed) (whole_passes (numbered_test facts.signatures) signed params) all;
}

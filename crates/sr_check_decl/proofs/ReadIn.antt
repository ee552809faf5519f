-- A signature is read after its formals and what it returns.
use Rattle.std.proofs.Common.{◌≡◌, Option, Some, None, refl, ap, ◌∙◌}
use Rattle.std.specs.Option.{option_map}
use Rattle.sr_tree.specs.declared.types.Formal.{Formal}
use Rattle.sr_tree.specs.declared.types.Returned.{Returned}
use Rattle.sr_tree.specs.declared.types.Signature.{Signature, out-Signature, map-Signature}
use Rattle.sr_tree.specs.declared.types.TypeTree.{TypeTree}
use Rattle.sr_tree.specs.declared.types.TypeTree.TheOpen.{Signature-F}
use Rattle.sr_tree.specs.declared.types.TypeTree.TheFolds.{fold_out-Signature}
use Rattle.sr_check_expr.specs.declared.facts.Facts.{Facts}
use Rattle.sr_check_decl.specs.TypeTrees.{forms_of}
use Rattle.sr_check_decl.specs.Entering.{EntersType, EntersFormals, EntersReturned, EntersSignature, type_step, formal_step, returned_step, signature_step, after_formals, formals_read_in, type_read_in, formal_read_in, returned_read_in, signature_read_in}

maybe-read : (x : Signature-F TypeTree Formal Returned Signature) (returned : Option Returned)
    → (map-Signature TypeTree Formal Returned Signature EntersType EntersFormals EntersReturned EntersSignature type_read_in formal_read_in returned_read_in signature_read_in (record x { returned = returned })).returned ≡ option_map returned_read_in returned
maybe-read x None = refl
maybe-read x (Some returned) = refl

pub signature-read : (tree : Signature) (facts : Facts) → signature_read_in tree facts ≡ after_formals (forms_of (out-Signature tree).kinds) (option_map returned_read_in (out-Signature tree).returned) (formals_read_in (out-Signature tree).formals facts)
signature-read tree facts =
    ap (λ read. read facts) (fold_out-Signature EntersType EntersFormals EntersReturned EntersSignature type_step formal_step returned_step signature_step tree)
    ∙ ap (λ returned. after_formals (forms_of (out-Signature tree).kinds) returned (formals_read_in (out-Signature tree).formals facts)) (maybe-read (out-Signature tree) (out-Signature tree).returned)

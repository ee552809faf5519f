-- A line may end after types.
use Rattle.std.proofs.Common.{List, refl, Option}
use Rattle.sr_tree.specs.declared.token.Token.{Token}
use Rattle.sr_tree.specs.declared.name.Name.{Name}
use Rattle.sr_tree.specs.declared.types.DimsTree.{DimsTree}
use Rattle.sr_tree.specs.declared.types.Decl.{Decl}
use Rattle.sr_tree.specs.declared.types.InvocationKind.{InvocationKind}
use Rattle.sr_tree.specs.declared.types.TypePlace.{TypePlace}
use Rattle.sr_tree.specs.declared.types.TypeTree.{TypeTree}
use Rattle.sr_tree.specs.declared.types.Formal.{Formal}
use Rattle.sr_tree.specs.declared.types.Returned.{Returned}
use Rattle.sr_tree.specs.declared.types.Signature.{Signature}
use Rattle.sr_tree.specs.Types as y
use Rattle.sr_tree.specs.Types.{SpellsMoreNames, SpellsNames, SpellsDims, SpellsDecl, SpellsMoreDecls, SpellsDecls, SpellsKinds, SpellsPlainTypeIn, SpellsTypeIn, SpellsFormalsIn, SpellsReturnedIn, SpellsSignatureIn}
use Rattle.sr_comes_back.proofs.Ending.{Ends, KeepsEnd, keeps_none, ends_skip, ends_with, ends_after, ends_then, keeps_of, keeps_both, may_end_is}
use Rattle.sr_comes_back.proofs.EndsExpressions.{ends_qualified_name}

pub keeps_more_names : {x : List Name} {u : List Token} → SpellsMoreNames x u → KeepsEnd u
keeps_more_names (y.no_more_names) = keeps_none
keeps_more_names (y.one_more_name comma n h0 h1 h2) = keeps_of (ends_skip comma (ends_with n (may_end_is n h1 refl) (keeps_more_names h2)))

pub ends_names : {x : List Name} {u : List Token} → SpellsNames x u → Ends u
ends_names (y.names n h0 h1) = ends_with n (may_end_is n h0 refl) (keeps_more_names h1)

pub ends_dims : {x : DimsTree} {u : List Token} → SpellsDims x u → Ends u
ends_dims (y.dims {u = u} {v = v} opening closing h0 h1 h2 h3) = ends_skip opening (ends_after u (ends_after v (ends_with closing (may_end_is closing h3 refl) keeps_none)))

pub ends_decl : {x : Decl} {u : List Token} → SpellsDecl x u → Ends u
ends_decl (y.bare n h0) = ends_with n (may_end_is n h0 refl) keeps_none
ends_decl (y.sized n h0 h1) = ends_skip n (ends_dims h1)

pub keeps_more_decls : {x : List Decl} {u : List Token} → SpellsMoreDecls x u → KeepsEnd u
keeps_more_decls (y.no_more_decls) = keeps_none
keeps_more_decls (y.one_more_decl comma h0 h1 h2) = keeps_of (ends_skip comma (ends_then (ends_decl h1) (keeps_more_decls h2)))

pub ends_decls : {x : List Decl} {u : List Token} → SpellsDecls x u → Ends u
ends_decls (y.decls h0 h1) = ends_then (ends_decl h0) (keeps_more_decls h1)

pub keeps_kinds : {x : List InvocationKind} {u : List Token} → SpellsKinds x u → KeepsEnd u
keeps_kinds (y.no_kinds) = keeps_none
keeps_kinds (y.kinds {u = u} opening t closing w k h0 h1 h2 h3 h4) = keeps_of (ends_skip opening (ends_skip t (ends_after u (ends_with closing (may_end_is closing h4 refl) keeps_none))))

mutual
  pub ends_plain_type : {place : TypePlace} {x : TypeTree} {u : List Token} → SpellsPlainTypeIn place x u → Ends u
  ends_plain_type (y.int t h0) = ends_with t (may_end_is t h0 refl) keeps_none
  ends_plain_type (y.bool t h0) = ends_with t (may_end_is t h0 refl) keeps_none
  ends_plain_type (y.char t h0) = ends_with t (may_end_is t h0 refl) keeps_none
  ends_plain_type (y.string {u = u} t opening closing h0 h1 h2 h3) = ends_skip t (ends_skip opening (ends_after u (ends_with closing (may_end_is closing h3 refl) keeps_none)))
  ends_plain_type (y.string_of_any_length t opening star closing h0 h1 h2 h3) = ends_skip t (ends_skip opening (ends_skip star (ends_with closing (may_end_is closing h3 refl) keeps_none)))
  ends_plain_type (y.cap_of t h0 h1) = ends_skip t (ends_qualified_name h1)
  ends_plain_type (y.cap_machine t vm h0 h1) = ends_skip t (ends_with vm (may_end_is vm h1 refl) keeps_none)
  ends_plain_type (y.cap_operation t h0 h1) = ends_skip t (ends_signature h1)
  ends_plain_type (y.array {u = u} h0 h1) = ends_after u (ends_type h1)
  ends_plain_type (y.named h0) = ends_qualified_name h0

  pub ends_type : {place : TypePlace} {x : TypeTree} {u : List Token} → SpellsTypeIn place x u → Ends u
  ends_type (y.plain h0) = ends_plain_type h0
  ends_type (y.enum {u = u} t opening closing h0 h1 h2 h3 h4) = ends_skip t (ends_skip opening (ends_after u (ends_with closing (may_end_is closing h4 refl) keeps_none)))
  ends_type (y.record_of {u = u} {v = v} t opening closing h0 h1 h2 h3 h4 h5) = ends_skip t (ends_skip opening (ends_after u (ends_after v (ends_with closing (may_end_is closing h5 refl) keeps_none))))

  pub ends_formals : {place : TypePlace} {x : List Formal} {u : List Token} → SpellsFormalsIn place x u → Ends u
  ends_formals (y.no_formals opening closing h0 h1) = ends_skip opening (ends_with closing (may_end_is closing h1 refl) keeps_none)
  ends_formals (y.formals {u = u} {v = v} opening closing h0 h1 h2 h3) = ends_skip opening (ends_after u (ends_after v (ends_with closing (may_end_is closing h3 refl) keeps_none)))

  pub keeps_returned : {place : TypePlace} {x : Option Returned} {u : List Token} → SpellsReturnedIn place x u → KeepsEnd u
  keeps_returned (y.returns_nothing) = keeps_none
  keeps_returned (y.returned {u = u} w colon h0 h1 h2 h3) = keeps_of (ends_skip w (ends_after u (ends_skip colon (ends_type h3))))

  pub ends_signature : {place : TypePlace} {x : Signature} {u : List Token} → SpellsSignatureIn place x u → Ends u
  ends_signature (y.signature h0 h1 h2 h3) = ends_then (ends_formals h0) (keeps_both (keeps_returned h1) (keeps_kinds h2))

-- In types no line begins outside of brackets.
use Rattle.std.proofs.Common.{List, refl, Option}
use Rattle.sr_tree.specs.declared.token.Token.{Token}
use Rattle.sr_tree.specs.declared.name.Name.{Name}
use Rattle.sr_tree.specs.declared.types.RangeTree.{RangeTree}
use Rattle.sr_tree.specs.declared.types.DimsTree.{DimsTree}
use Rattle.sr_tree.specs.declared.types.Decl.{Decl}
use Rattle.sr_tree.specs.declared.types.PassMode.{PassMode}
use Rattle.sr_tree.specs.declared.types.InvocationKind.{InvocationKind}
use Rattle.sr_tree.specs.declared.types.TypePlace.{TypePlace}
use Rattle.sr_tree.specs.declared.types.TypeTree.{TypeTree}
use Rattle.sr_tree.specs.declared.types.Formal.{Formal}
use Rattle.sr_tree.specs.declared.types.Returned.{Returned}
use Rattle.sr_tree.specs.declared.types.Signature.{Signature}
use Rattle.sr_tree.specs.Types as y
use Rattle.sr_tree.specs.Types.{SpellsMoreNames, SpellsNames, SpellsRange, SpellsSecondRange, SpellsDims, SpellsDecl, SpellsMoreDecls, SpellsDecls, SpellsMoreKinds, SpellsKinds, SpellsMode, SpellsPlainTypeIn, SpellsTypeIn, SpellsFieldIn, SpellsMoreFieldsIn, SpellsFormalIn, SpellsMoreFormalsIn, SpellsFormalsIn, SpellsReturnedIn, SpellsSignatureIn}
use Rattle.sr_comes_back.proofs.Flat.{Flat, Inner, none_flat, none_inner, flat_token, inner_token, shut_token, flat_open, shut_flat, flat_both, inner_both, shut_both, inner_of, plain_is, in_plain_is, invocation_plain}
use Rattle.sr_comes_back.proofs.FlatExpressions.{flat_qualified_name, flat_expr}

pub flat_more_names : {x : List Name} {u : List Token} → SpellsMoreNames x u → Flat u
flat_more_names (y.no_more_names) = none_flat
flat_more_names (y.one_more_name comma n h0 h1 h2) = flat_token comma (plain_is comma h0 refl) (flat_token n (plain_is n h1 refl) (flat_more_names h2))

pub flat_names : {x : List Name} {u : List Token} → SpellsNames x u → Flat u
flat_names (y.names n h0 h1) = flat_token n (plain_is n h0 refl) (flat_more_names h1)

pub flat_range : {x : RangeTree} {u : List Token} → SpellsRange x u → Flat u
flat_range (y.length h0) = flat_expr h0
flat_range (y.bounds colon h0 h1 h2) = flat_both (flat_expr h0) (flat_token colon (plain_is colon h1 refl) (flat_expr h2))
flat_range (y.from colon star h0 h1 h2) = flat_both (flat_expr h0) (flat_token colon (plain_is colon h1 refl) (flat_token star (plain_is star h2 refl) none_flat))
flat_range (y.any star h0) = flat_token star (plain_is star h0 refl) none_flat

pub flat_second_range : {x : Option RangeTree} {u : List Token} → SpellsSecondRange x u → Flat u
flat_second_range (y.no_second_range) = none_flat
flat_second_range (y.second_range comma h0 h1) = flat_token comma (plain_is comma h0 refl) (flat_range h1)

pub flat_dims : {x : DimsTree} {u : List Token} → SpellsDims x u → Flat u
flat_dims (y.dims opening closing h0 h1 h2 h3) = flat_open opening h0 refl (shut_both (inner_of (flat_range h1)) (shut_both (inner_of (flat_second_range h2)) (shut_flat closing h3 refl none_flat)))

pub flat_decl : {x : Decl} {u : List Token} → SpellsDecl x u → Flat u
flat_decl (y.bare n h0) = flat_token n (plain_is n h0 refl) none_flat
flat_decl (y.sized n h0 h1) = flat_token n (plain_is n h0 refl) (flat_dims h1)

pub flat_more_decls : {x : List Decl} {u : List Token} → SpellsMoreDecls x u → Flat u
flat_more_decls (y.no_more_decls) = none_flat
flat_more_decls (y.one_more_decl comma h0 h1 h2) = flat_token comma (plain_is comma h0 refl) (flat_both (flat_decl h1) (flat_more_decls h2))

pub flat_decls : {x : List Decl} {u : List Token} → SpellsDecls x u → Flat u
flat_decls (y.decls h0 h1) = flat_both (flat_decl h0) (flat_more_decls h1)

pub flat_more_kinds : {x : List InvocationKind} {u : List Token} → SpellsMoreKinds x u → Flat u
flat_more_kinds (y.no_more_kinds) = none_flat
flat_more_kinds (y.one_more_kind comma t w k h0 h1 h2) = flat_token comma (plain_is comma h0 refl) (flat_token t (plain_is t h1 (invocation_plain w k h2)) none_flat)

pub flat_kinds : {x : List InvocationKind} {u : List Token} → SpellsKinds x u → Flat u
flat_kinds (y.no_kinds) = none_flat
flat_kinds (y.kinds opening t closing w k h0 h1 h2 h3 h4) = flat_token opening (plain_is opening h0 refl) (flat_token t (plain_is t h1 (invocation_plain w k h2)) (flat_both (flat_more_kinds h3) (flat_token closing (plain_is closing h4 refl) none_flat)))

pub inner_mode : {x : Option PassMode} {u : List Token} → SpellsMode x u → Inner u
inner_mode (y.no_mode) = none_inner
inner_mode (y.mode t w m h0 h1) = inner_token t (in_plain_is t h0 refl) none_inner

mutual
  pub flat_plain_type : {place : TypePlace} {x : TypeTree} {u : List Token} → SpellsPlainTypeIn place x u → Flat u
  flat_plain_type (y.int t h0) = flat_token t (plain_is t h0 refl) none_flat
  flat_plain_type (y.bool t h0) = flat_token t (plain_is t h0 refl) none_flat
  flat_plain_type (y.char t h0) = flat_token t (plain_is t h0 refl) none_flat
  flat_plain_type (y.string t opening closing h0 h1 h2 h3) = flat_token t (plain_is t h0 refl) (flat_open opening h1 refl (shut_both (inner_of (flat_expr h2)) (shut_flat closing h3 refl none_flat)))
  flat_plain_type (y.string_of_any_length t opening star closing h0 h1 h2 h3) = flat_token t (plain_is t h0 refl) (flat_open opening h1 refl (shut_token star (in_plain_is star h2 refl) (shut_flat closing h3 refl none_flat)))
  flat_plain_type (y.cap_of t h0 h1) = flat_token t (plain_is t h0 refl) (flat_qualified_name h1)
  flat_plain_type (y.cap_machine t vm h0 h1) = flat_token t (plain_is t h0 refl) (flat_token vm (plain_is vm h1 refl) none_flat)
  flat_plain_type (y.cap_operation t h0 h1) = flat_token t (plain_is t h0 refl) (flat_signature h1)
  flat_plain_type (y.array h0 h1) = flat_both (flat_dims h0) (flat_type h1)
  flat_plain_type (y.named h0) = flat_qualified_name h0

  pub flat_type : {place : TypePlace} {x : TypeTree} {u : List Token} → SpellsTypeIn place x u → Flat u
  flat_type (y.plain h0) = flat_plain_type h0
  flat_type (y.enum t opening closing h0 h1 h2 h3 h4) = flat_token t (plain_is t h1 refl) (flat_open opening h2 refl (shut_both (inner_of (flat_names h3)) (shut_flat closing h4 refl none_flat)))
  flat_type (y.record_of t opening closing h0 h1 h2 h3 h4 h5) = flat_token t (plain_is t h1 refl) (flat_open opening h2 refl (shut_both (inner_field h3) (shut_both (inner_more_fields h4) (shut_flat closing h5 refl none_flat))))

  pub inner_field : {place : TypePlace} {x : Formal} {u : List Token} → SpellsFieldIn place x u → Inner u
  inner_field (y.field h0 h1) = inner_formal h0

  pub inner_more_fields : {place : TypePlace} {x : List Formal} {u : List Token} → SpellsMoreFieldsIn place x u → Inner u
  inner_more_fields (y.no_more_fields) = none_inner
  inner_more_fields (y.one_more_field separator h0 h1 h2) = inner_token separator (in_plain_is separator h0 refl) (inner_both (inner_field h1) (inner_more_fields h2))

  pub inner_formal : {place : TypePlace} {x : Formal} {u : List Token} → SpellsFormalIn place x u → Inner u
  inner_formal (y.formal colon h0 h1 h2 h3) = inner_both (inner_mode h0) (inner_both (inner_of (flat_decls h1)) (inner_token colon (in_plain_is colon h2 refl) (inner_of (flat_type h3))))

  pub inner_more_formals : {place : TypePlace} {x : List Formal} {u : List Token} → SpellsMoreFormalsIn place x u → Inner u
  inner_more_formals (y.no_more_formals) = none_inner
  inner_more_formals (y.one_more_formal separator h0 h1 h2) = inner_token separator (in_plain_is separator h0 refl) (inner_both (inner_formal h1) (inner_more_formals h2))

  pub flat_formals : {place : TypePlace} {x : List Formal} {u : List Token} → SpellsFormalsIn place x u → Flat u
  flat_formals (y.no_formals opening closing h0 h1) = flat_open opening h0 refl (shut_flat closing h1 refl none_flat)
  flat_formals (y.formals opening closing h0 h1 h2 h3) = flat_open opening h0 refl (shut_both (inner_formal h1) (shut_both (inner_more_formals h2) (shut_flat closing h3 refl none_flat)))

  pub flat_returned : {place : TypePlace} {x : Option Returned} {u : List Token} → SpellsReturnedIn place x u → Flat u
  flat_returned (y.returns_nothing) = none_flat
  flat_returned (y.returned w colon h0 h1 h2 h3) = flat_token w (plain_is w h0 refl) (flat_both (flat_decl h1) (flat_token colon (plain_is colon h2 refl) (flat_type h3)))

  pub flat_signature : {place : TypePlace} {x : Signature} {u : List Token} → SpellsSignatureIn place x u → Flat u
  flat_signature (y.signature h0 h1 h2 h3) = flat_both (flat_formals h0) (flat_both (flat_returned h1) (flat_kinds h2))

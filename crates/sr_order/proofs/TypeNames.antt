-- The spans of the names in a type or signature are picked from its tokens.
use Rattle.std.proofs.Common.{◌≡◌, subst, List, ◌∷◌, ◌++◌, Option, Some, None, map, flat_map}
use Rattle.sr_tree.specs.declared.name.Name.{Name}
use Rattle.sr_tree.specs.declared.token.Token.{Token}
use Rattle.sr_tree.specs.declared.types.Decl.{Decl}
use Rattle.sr_tree.specs.declared.types.DimsTree.{DimsTree}
use Rattle.sr_tree.specs.declared.types.Formal.{Formal, roll-Formal}
use Rattle.sr_tree.specs.declared.types.RangeTree.{RangeTree}
use Rattle.sr_tree.specs.declared.types.Returned.{Returned, roll-Returned}
use Rattle.sr_tree.specs.declared.types.Signature.{Signature, roll-Signature}
use Rattle.sr_tree.specs.declared.types.TypePlace.{TypePlace}
use Rattle.sr_tree.specs.declared.types.TypeTree.{TypeTree, roll-TypeTree}
use Rattle.sr_tree.specs.declared.types.TypeTree.TheOpen.{TypeTree-F, Formal-F, Returned-F, Signature-F}
use Rattle.sr_tree.specs.declared.types.TypeTree.TheVariants as ty
use Rattle.sr_tree.specs.Types as g
use Rattle.sr_tree.specs.Types.{SpellsNames, SpellsMoreNames, SpellsRange, SpellsSecondRange, SpellsDims, SpellsDecl, SpellsDecls, SpellsMoreDecls, SpellsPlainTypeIn, SpellsTypeIn, SpellsFieldIn, SpellsMoreFieldsIn, SpellsFormalIn, SpellsMoreFormalsIn, SpellsFormals, SpellsFormalsIn, SpellsSignatureIn, formal_span}
use Rattle.sr_order.specs.Order.{Picks, nothing, left_out, picked}
use Rattle.sr_order.specs.Spans.{joined}
use Rattle.sr_order.specs.Names.{where_some, names_spans, range_names, dims_names, decl_names, type_names, formal_names, returned_names, signature_names}
use Rattle.sr_tree.proofs.TypeFolds.{formal_layer, formal_rolls, returned_layer, returned_rolls, signature_layer, signature_rolls, type_layer, type_rolls}
use Rattle.sr_order.proofs.NameFolds.{type_naming}
use Rattle.sr_order.proofs.Picked.{none, both, first, second, gathered}
use Rattle.sr_order.proofs.ExprNames.{qualified-picked, expr-picked}

-- ---- what is picked for the parts of a tree is picked for the tree

module _ {u : List Token} where
  of_type : {tree : TypeTree} (x : TypeTree-F TypeTree Formal Returned Signature) → roll-TypeTree x ≡ tree → Picks (type_layer type_naming x) u → Picks (type_names tree) u
  of_type x rolls p = subst (λ tree. Picks (type_names tree) u) rolls (subst (λ spans. Picks spans u) (type_rolls type_naming x) p)

  of_formal : (x : Formal-F TypeTree Formal Returned Signature) → Picks (formal_layer type_naming x) u → Picks (formal_names (roll-Formal x)) u
  of_formal x p = subst (λ spans. Picks spans u) (formal_rolls type_naming x) p

  of_returned : (x : Returned-F TypeTree Formal Returned Signature) → Picks (returned_layer type_naming x) u → Picks (returned_names (roll-Returned x)) u
  of_returned x p = subst (λ spans. Picks spans u) (returned_rolls type_naming x) p

  of_signature : (x : Signature-F TypeTree Formal Returned Signature) → Picks (signature_layer type_naming x) u → Picks (signature_names (roll-Signature x)) u
  of_signature x p = subst (λ spans. Picks spans u) (signature_rolls type_naming x) p

-- ---- names, ranges and what is declared

more-names : {ns : List Name} {u : List Token} → SpellsMoreNames ns u → Picks (names_spans ns) u
more-names g.no_more_names = nothing
more-names (g.one_more_name t n h i m) = left_out t (picked n (more-names m))

pub names-picked : {ns : List Name} {u : List Token} → SpellsNames ns u → Picks (names_spans ns) u
names-picked (g.names n h m) = picked n (more-names m)

range-picked : {r : RangeTree} {u : List Token} → SpellsRange r u → Picks (range_names r) u
range-picked (g.length d) = expr-picked d
range-picked (g.bounds t d h e) = both (expr-picked d) (left_out t (expr-picked e))
range-picked (g.from t s d h i) = first _ (expr-picked d)
range-picked (g.any t h) = none

second-range : {r : Option RangeTree} {u : List Token} → SpellsSecondRange r u → Picks (where_some range_names r) u
second-range g.no_second_range = nothing
second-range (g.second_range t h d) = left_out t (range-picked d)

dims-picked : {d : DimsTree} {u : List Token} → SpellsDims d u → Picks (dims_names d) u
dims-picked (g.dims o k h d e i) = left_out o (both (range-picked d) (first _ (second-range e)))

pub decl-picked : {d : Decl} {u : List Token} → SpellsDecl d u → Picks (decl_names d) u
decl-picked (g.bare n h) = picked n nothing
decl-picked (g.sized n h d) = picked n (dims-picked d)

more-decls : {ds : List Decl} {u : List Token} → SpellsMoreDecls ds u → Picks (flat_map decl_names ds) u
more-decls g.no_more_decls = nothing
more-decls (g.one_more_decl t h d m) = left_out t (both (decl-picked d) (more-decls m))

pub decls-picked : {ds : List Decl} {u : List Token} → SpellsDecls ds u → Picks (flat_map decl_names ds) u
decls-picked (g.decls d m) = both (decl-picked d) (more-decls m)

-- ---- types

mutual
  pub plain-type-picked : {p : TypePlace} {t : TypeTree} {u : List Token} → SpellsPlainTypeIn p t u → Picks (type_names t) u
  plain-type-picked (g.int t h) = of_type (TypeTree-F.Int t.span) (ty.rolls-Int t.span) none
  plain-type-picked (g.bool t h) = of_type (TypeTree-F.Bool t.span) (ty.rolls-Bool t.span) none
  plain-type-picked (g.char t h) = of_type (TypeTree-F.Char t.span) (ty.rolls-Char t.span) none
  plain-type-picked (g.string {e = e} t o k h i d j) =
      of_type (TypeTree-F.Str t.span (Some e)) (ty.rolls-Str t.span (Some e)) (left_out t (left_out o (first _ (expr-picked d))))
  plain-type-picked (g.string_of_any_length t o s k h i j l) = of_type (TypeTree-F.Str t.span None) (ty.rolls-Str t.span None) none
  plain-type-picked (g.cap_of {q = q} t h d) = of_type (TypeTree-F.CapOf t.span q) (ty.rolls-CapOf t.span q) (left_out t (qualified-picked d))
  plain-type-picked (g.cap_machine t v h i) = of_type (TypeTree-F.CapMachine t.span) (ty.rolls-CapMachine t.span) none
  plain-type-picked (g.cap_operation {s = s} t h d) =
      of_type (TypeTree-F.CapOperation t.span s) (ty.rolls-CapOperation t.span s) (left_out t (signature-picked d))
  plain-type-picked (g.array {d = d} {item = item} x y) =
      of_type (TypeTree-F.Array d.span d item) (ty.rolls-Array d.span d item) (both (dims-picked x) (type-picked y))
  plain-type-picked (g.named {q = q} d) = of_type (TypeTree-F.Named q.span q) (ty.rolls-Named q.span q) (qualified-picked d)

  pub type-picked : {p : TypePlace} {t : TypeTree} {u : List Token} → SpellsTypeIn p t u → Picks (type_names t) u
  type-picked (g.plain d) = plain-type-picked d
  type-picked (g.enum {ns = ns} t o k may h i d j) = of_type (TypeTree-F.Enum t.span ns) (ty.rolls-Enum t.span ns) (picked t (left_out o (first _ (names-picked d))))
  type-picked (g.record_of {f = f} {fs = fs} t o k may h i d m j) =
      of_type (TypeTree-F.Rec t.span (f ∷ fs)) (ty.rolls-Rec t.span (f ∷ fs)) (picked t (left_out o (both (field-picked d) (first _ (more-fields m)))))

  field-picked : {p : TypePlace} {f : Formal} {u : List Token} → SpellsFieldIn p f u → Picks (formal_names f) u
  field-picked (g.field d h) = formal-picked d

  more-fields : {p : TypePlace} {fs : List Formal} {u : List Token} → SpellsMoreFieldsIn p fs u → Picks (joined (map formal_names fs)) u
  more-fields g.no_more_fields = nothing
  more-fields (g.one_more_field t h d m) = left_out t (both (field-picked d) (more-fields m))

  formal-picked : {p : TypePlace} {f : Formal} {u : List Token} → SpellsFormalIn p f u → Picks (formal_names f) u
  formal-picked (g.formal {m = m} {ds = ds} {t = t} {u = u} {v = v} c k d h e) =
      of_formal (record { span = formal_span (u ++ v); mode = m; decls = ds; ty = t })
      (second u (both (decls-picked d) (left_out c (type-picked e))))

  more-formals : {p : TypePlace} {fs : List Formal} {u : List Token} → SpellsMoreFormalsIn p fs u → Picks (joined (map formal_names fs)) u
  more-formals g.no_more_formals = nothing
  more-formals (g.one_more_formal t h d m) = left_out t (both (formal-picked d) (more-formals m))

  some-formals : {p : TypePlace} {fs : List Formal} {u : List Token} → SpellsFormalsIn p fs u → Picks (joined (map formal_names fs)) u
  some-formals (g.no_formals o k h i) = none
  some-formals (g.formals o k h d m i) = left_out o (both (formal-picked d) (first _ (more-formals m)))

  pub signature-picked : {p : TypePlace} {s : Signature} {u : List Token} → SpellsSignatureIn p s u → Picks (signature_names s) u
  signature-picked (g.signature {fs = fs} {ks = ks} {u = u} d g.returns_nothing k b) =
      of_signature (record { span = formal_span u; formals = fs; returned = None; kinds = ks }) (both (some-formals d) none)
  signature-picked (g.signature {fs = fs} {ks = ks} {u = u} d (g.returned {d = r} {t = t} w c h x i y) k b) =
      of_signature (record { span = formal_span u; formals = fs; returned = Some (roll-Returned (record { span = w.span; decl = r; ty = t })); kinds = ks })
      (both (some-formals d) (first _ (of_returned (record { span = w.span; decl = r; ty = t })
      (left_out w (both (decl-picked x) (left_out c (type-picked y)))))))

-- the formals of a component
pub formals-picked : {fs : List Formal} {u : List Token} → SpellsFormals fs u → Picks (flat_map formal_names fs) u
formals-picked {fs = fs} d = gathered formal_names fs (some-formals d)

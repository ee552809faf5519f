-- The words that declarations begin with.
use Rattle.std.proofs.Common.{◌≡◌, ◌∙◌, ap, Bool, List, ◌∷◌, ◌++◌}
use Rattle.sr_reader.specs.Reader.{next_is}
use Rattle.sr_tree.specs.declared.declaration.ConstDecl.{ConstDecl}
use Rattle.sr_tree.specs.declared.declaration.Import.{Import}
use Rattle.sr_tree.specs.declared.declaration.OpDecl.{OpDecl}
use Rattle.sr_tree.specs.declared.declaration.OpTypeDecl.{OpTypeDecl}
use Rattle.sr_tree.specs.declared.declaration.SemDecl.{SemDecl}
use Rattle.sr_tree.specs.declared.declaration.TypeDecl.{TypeDecl}
use Rattle.sr_tree.specs.declared.declaration.VarDecl.{VarDecl}
use Rattle.sr_tree.specs.declared.token.Token.{Token}
use Rattle.sr_tree.specs.declared.token.TokenKind.{TokenKind}
use Rattle.sr_tree.specs.declared.token.TokenKind.TheVariants as kind
use Rattle.sr_tree.specs.declared.token.Word.{Word}
use Rattle.sr_tree.specs.declared.token.Word.TheVariants as word
use Rattle.sr_tree.specs.Declarations as g
use Rattle.sr_tree.specs.Declarations.{SpellsImport, SpellsConst, SpellsTypeDecl, SpellsOpType, SpellsOp, SpellsVar, SpellsSem}
use Rattle.sr_tree.specs.Tables.{IsWord}

-- the first token is this word
pub data Begins (w : Word) : List Token → Type 0 where
  begins : {u : List Token} (t : Token) → IsWord w t → Begins w (t ∷ u)

pub begins-test : {w : Word} {u : List Token} → Begins w u → (test : TokenKind → Bool) (b : Bool) → test (kind.Word w) ≡ b → (q : List Token)
    → next_is (λ t. test t.kind) (u ++ q) ≡ b
begins-test (begins t h) test b e q = ap test h ∙ e

pub import-begins : {d : Import} {u : List Token} → SpellsImport d u → Begins word.Import u
import-begins (g.imports t h n) = begins t h

pub const-begins : {d : ConstDecl} {u : List Token} → SpellsConst d u → Begins word.Const u
const-begins (g.constant t n b h i o j x) = begins t h

pub type-begins : {d : TypeDecl} {u : List Token} → SpellsTypeDecl d u → Begins word.Type u
type-begins (g.type_decl t n q h i j x) = begins t h

pub optype-begins : {d : OpTypeDecl} {u : List Token} → SpellsOpType d u → Begins word.OpType u
optype-begins (g.optype t n q h i j x) = begins t h

pub op-begins : {d : OpDecl} {u : List Token} → SpellsOp d u → Begins word.Op u
op-begins (g.op t h x m) = begins t h

pub var-begins : {d : VarDecl} {u : List Token} → SpellsVar d u → Begins word.Var u
var-begins (g.variables t h x o y) = begins t h

pub sem-begins : {d : SemDecl} {u : List Token} → SpellsSem d u → Begins word.Sem u
sem-begins (g.semaphores t n h i x m) = begins t h

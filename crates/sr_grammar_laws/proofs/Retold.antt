-- A token that is told again stands for the same.
use Rattle.std.proofs.Common.{◌≡◌, ℕ, false, List, refl, ap, sym, ◌∙◌, Some}
use Rattle.sr_tree.specs.declared.expr.Literal.{Literal}
use Rattle.sr_tree.specs.declared.token.Token.{Token}
use Rattle.sr_tree.specs.declared.token.TokenKind.{TokenKind}
use Rattle.sr_tree.specs.declared.token.TokenKind.TheVariants as kinds
use Rattle.sr_tree.specs.Tables.{IsName, name_of, literal_of}
use Rattle.sr_grammar_laws.specs.Retelling.{is_a_sign, Keeps}
use Rattle.sr_grammar_laws.specs.SameExpressions.{SameName}

-- a literal goes by its text, and a sign is none
literal_text : (kind : TokenKind) (a b : List ℕ) (l : Literal) → (is_a_sign kind ≡ false → b ≡ a) → literal_of kind a ≡ Some l → literal_of kind b ≡ Some l
literal_text kinds.Number a b l same e = ap (literal_of kinds.Number) (same refl) ∙ e
literal_text kinds.Char a b l same e = ap (literal_of kinds.Char) (same refl) ∙ e
literal_text kinds.Str a b l same e = ap (literal_of kinds.Str) (same refl) ∙ e
literal_text kinds.Name a b l same e = e
literal_text kinds.Separator a b l same e = e
literal_text (kinds.Word word) a b l same e = e
literal_text (kinds.Sign sign) a b l same e = e

module _ (retell : Token → Token) (keeps : Keeps retell) where
  pub name_text : (n : Token) → IsName n → (retell n).text ≡ n.text
  name_text n h = keeps.text n (ap is_a_sign h)

  pub same_name : (n : Token) → IsName n → SameName (name_of n) (name_of (retell n))
  same_name n h = sym (name_text n h)

  pub literal_again : (t : Token) (l : Literal) → literal_of t.kind t.text ≡ Some l → literal_of (retell t).kind (retell t).text ≡ Some l
  literal_again t l h = ap (λ kind. literal_of kind (retell t).text) (keeps.kind t) ∙ literal_text t.kind t.text (retell t).text l (keeps.text t) h

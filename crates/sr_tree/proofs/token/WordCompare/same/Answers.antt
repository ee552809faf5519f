-- The derived test compares the places of the words in their list.
use Rattle.std.proofs.Common.{◌≡◌, ◌∙◌, sym, true, rules}
use Rattle.std.specs.Prelude.{IsTrue}
use denote.Enum.Bare.{same_true, true_same}
use Rattle.sr_tree.specs.contracts.token.Word.{the_type}
use Rattle.sr_tree.proofs.token.WordCompare.same.Goals as goal

is_true : {b : _} → IsTrue b → b ≡ true
is_true h = search rules

from_true : {b : _} → b ≡ true → IsTrue b
from_true e = search rules

pub returns : goal.returns
returns c = (
  (λ h. same_true the_type (search rules) _ _ (sym c.eq.ensures ∙ is_true h)),
  (λ e. from_true (c.eq.ensures ∙ true_same the_type _ _ e)),
)

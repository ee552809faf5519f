-- Each law is proved by the class of the first byte.
use Rattle.sr_spelling.proofs.Alone.{name_alone, number_alone, line_comment_alone}
use Rattle.sr_spelling.proofs.Quoted.{char_alone, string_alone, block_comment_alone}
use Rattle.sr_spelling.proofs.Signs.{sign_alone}
use Rattle.sr_spelling.proofs.laws.read_alone.Goals as goal

pub returns-clause-names : goal.returns-clause-names
returns-clause-names c = name_alone

pub returns-clause-numbers : goal.returns-clause-numbers
returns-clause-numbers c = number_alone

pub returns-clause-signs : goal.returns-clause-signs
returns-clause-signs c = sign_alone

pub returns-clause-comments : goal.returns-clause-comments
returns-clause-comments c = line_comment_alone

pub returns-clause-chars : goal.returns-clause-chars
returns-clause-chars c = char_alone

pub returns-clause-strings : goal.returns-clause-strings
returns-clause-strings c = string_alone

pub returns-clause-closed_comments : goal.returns-clause-closed_comments
returns-clause-closed_comments c = block_comment_alone

-- What reading a file says of the tokens that spell one.
use Rattle.std.proofs.Common.{◌≡◌, sym, ◌∙◌, ap, subst, ℕ, ◌-◌, ◌<◌, ◌≤◌, suc, List, [], ◌∷◌, ◌++◌, length, Result, Ok, Err, arith}
use Rattle.sr_reader.specs.Pieces.{IsDead}
use Rattle.sr_reader.specs.Reader.{Reader, returned, continued, ◌>>=◌}
use Rattle.sr_reader.proofs.Laws as laws
use Rattle.sr_reader.proofs.Soundness.{Sound, Outcome, IsRead, append-nil}
use Rattle.sr_tree.specs.declared.component.Component.{Component}
use Rattle.sr_tree.specs.declared.component.File.{File}
use Rattle.sr_tree.specs.declared.token.Token.{Token}
use Rattle.sr_program_reader.specs.ComponentReaders.{begins_component, component_at, end_of_tokens, file_at}
use Rattle.sr_program_reader.specs.DeclarationReaders.{list_at}
use Rattle.sr_program_reader.specs.Files.{SpellsFile, ReadsFile}
use Rattle.sr_program_reader.specs.StatementReaders.{StatementReaders, statement_readers}
use Rattle.sr_program_reader.proofs.ComponentsSound.{file-sound}
use Rattle.sr_program_reader.proofs.ComponentsComplete.{complete-file}
use Rattle.sr_program_reader.proofs.StatementsSound.{statement_readers-sound}

reading : ℕ → Reader Token File
reading k = file_at (statement_readers k)

local : (k : ℕ) → Sound SpellsFile (reading k)
unfolding reading
local k = file-sound (statement_readers k) (statement_readers-sound k)

whole : (f : File) (u : List Token) → SpellsFile f u → (k : ℕ) → length u ≤ k → reading k u ≡ Ok (f, [])
unfolding reading
whole f u d k h = (complete-file f u d).gives k h

-- one list of tokens has at most one file
pub one-file : (a b : File) (u : List Token) → SpellsFile a u → SpellsFile b u → a ≡ b
one-file a b u d e = laws.one-tree SpellsFile reading local whole a b u d e

-- nothing stands after a file that is read
rest-of : {A : Type 0} → List Token → Result (A × List Token) ℕ → List Token
rest-of s (Ok x) = x.1
rest-of s (Err n) = s

read-to-end : (x : Result (List Component × List Token) ℕ) (f : File) (q : List Token)
    → continued x (λ cs. end_of_tokens >>= λ e. returned (record { components = cs })) ≡ Ok (f, q) → q ≡ []
unfolding end_of_tokens rest-of
read-to-end (Ok (cs, [])) f q e = sym (ap (rest-of []) e)
read-to-end (Ok (cs, t ∷ s)) f q e = sym (ap (rest-of []) e)
read-to-end (Err n) f q e = sym (ap (rest-of []) e)

pub nothing-after : (r : StatementReaders) (s : List Token) (f : File) (q : List Token) → file_at r s ≡ Ok (f, q) → q ≡ []
unfolding file_at
nothing-after r s f q e = read-to-end (list_at (λ t. begins_component t.kind) (component_at r) r.types.expressions.steps s) f q e

-- what is read is spelled by the tokens
pub spelled : (s : List Token) (f : File) (q : List Token) → ReadsFile s (Ok (f, q)) → SpellsFile f s
unfolding reading
spelled s f q reads =
    let k = length s in
    let o : IsRead SpellsFile (reading k) s f q = subst (Outcome SpellsFile (reading k) s) (reads k (omega arith)) ((local k).at s) in
    let n : q ≡ [] = nothing-after (statement_readers k) s f q (reads k (omega arith)) in
    let same : o.front ≡ s = sym (append-nil o.front) ∙ ap (λ w. o.front ++ w) (sym n) ∙ sym o.splits in
    subst (SpellsFile f) same o.holds

-- where reading fails no file is spelled
pub none : (s : List Token) (left : ℕ) → ReadsFile s (Err left) → (f : File) → SpellsFile f s → ⊥
unfolding reading
none s left reads f d = differ (sym (whole f s d (length s) (omega arith)) ∙ reads (length s) (omega arith))
  where
    differ : ◌≡◌ {A = Result (File × List Token) ℕ} (Ok (f, [])) (Err left) → ⊥
    differ e = cc

-- it stops within the tokens
pub within : (s : List Token) (left : ℕ) → ReadsFile s (Err left) → left ≤ length s
unfolding reading
within s left reads = laws.within SpellsFile reading local whole s left reads

-- where it stops, no list of tokens that spells a file goes on
pub dead : (s : List Token) (left : ℕ) → ReadsFile s (Err left) → 0 < left → IsDead SpellsFile s (suc (length s - left))
unfolding reading
dead s left reads h = laws.dead SpellsFile reading local whole s left reads h

-- A set of files is accepted or refused, one of them always and never both, and in one phase.
use Rattle.std.proofs.Common.{◌≡◌, ◌⊎◌, inl, inr, ℕ, zero, suc, ◌+◌, List, [], ◌∷◌, ◌++◌, get_or, length, take, Option, Some, None, Result, Ok, Err, refl, sym, ap, subst, ◌∙◌, arith, zero-add}
use Rattle.std.proofs.lemmas.List.{append-nil}
use Rattle.std.proofs.lemmas.Option.{slice_get-get_or, slice_get_within}
use Rattle.std.proofs.lemmas.Bool.{cases_lt}
use Rattle.std.proofs.Math.Nat.{eq-or-lt_of_le}
use Rattle.std.specs.Prelude.{slice_get}
use Rattle.sr_check.specs.Checked.{verdict}
use Rattle.sr_check_expr.specs.declared.facts.Facts.{Facts}
use Rattle.sr_front.specs.declared.program.Checked.{Checked}
use Rattle.sr_front.specs.Phases.{AllPass, FirstRefused, none_left, one_more, here, after}
use Rattle.sr_front.specs.Program.{IsAccepted, IsRefused, in_names, in_reading, in_types, phase_of, reading_phase}
use Rattle.sr_front.specs.Reading.{AreRead, AreRefused, BreaksLimits, HasItsSize, HasNoTree, HasTree, IsTooLarge, KeepsLimits, in_grammar, in_limits, in_size, in_tokens, most_bytes}
use Rattle.sr_lexer.specs.Limits.{ExceedsLimits, IsWithinLimits, fault_of}
use Rattle.sr_lexer.specs.Tokens.{Lexes, RefusesToLex}
use Rattle.sr_lexer.proofs.OutcomeLemmas.{not_both, one_list, some_outcome}
use Rattle.sr_parse_expr.specs.Refused.{syntax_at}
use Rattle.sr_program_reader.specs.ComponentReaders.{file_at}
use Rattle.sr_program_reader.specs.Files.{SpellsFile}
use Rattle.sr_program_reader.specs.StatementReaders.{statement_readers}
use Rattle.sr_program_reader.proofs.ComponentsComplete.{complete-file}
use Rattle.sr_program_reader.proofs.ComponentsSound.{file-sound}
use Rattle.sr_program_reader.proofs.FileLaws.{nothing-after, one-file}
use Rattle.sr_program_reader.proofs.StatementsSound.{statement_readers-sound}
use Rattle.sr_reader.proofs.Soundness.{IsRead, Outcome}
use Rattle.sr_scope.specs.declared.program.Names.{Names}
use Rattle.sr_scope.specs.Resolved.{resolved}
use Rattle.sr_text.specs.declared.refusal.Kind.{Kind}
use Rattle.sr_text.specs.declared.refusal.Kind.TheVariants.{Large}
use Rattle.sr_text.specs.declared.refusal.Refusal.{Refusal}
use Rattle.sr_tree.specs.Components.{Spells, file, stop_here}
use Rattle.sr_tree.specs.declared.component.File.{File}
use Rattle.sr_tree.specs.declared.token.Token.{Token}

-- ---- one phase over all files

-- what all files make of a phase, or the first that is refused
Decided : {A B : Type 0} → (ℕ → A → B → Type 0) → (ℕ → A → Refusal → Type 0) → ℕ → List A → Type 0
Decided Passes Refuses number files = ((mades : List _) × AllPass Passes number files mades) ⊎ ((refusal : Refusal) × FirstRefused Passes Refuses number files refusal)

module _ {A B : Type 0} (Passes : ℕ → A → B → Type 0) where
  -- a phase makes the same of the same files
  one_made : ((number : ℕ) (a : A) (b c : B) → Passes number a b → Passes number a c → b ≡ c)
      → {number : ℕ} {files : List A} {mades others : List B} → AllPass Passes number files mades → AllPass Passes number files others → mades ≡ others
  one_made same none_left none_left = refl
  one_made same (one_more {number = number} {file = a} {made = b} {mades = bs} passes more) (one_more {made = c} {mades = cs} passed others) =
      ap (λ x. x ∷ bs) (same number a b c passes passed) ∙ ap (λ xs. c ∷ xs) (one_made same more others)

  module _ (Refuses : ℕ → A → Refusal → Type 0) where
    -- files that all pass aren't refused
    pass_apart : ((number : ℕ) (a : A) (b : B) (refusal : Refusal) → Passes number a b → Refuses number a refusal → ⊥)
        → {number : ℕ} {files : List A} {mades : List B} {refusal : Refusal} → AllPass Passes number files mades → FirstRefused Passes Refuses number files refusal → ⊥
    pass_apart apart none_left refused = elim refused [ ]
    pass_apart apart (one_more {number = number} {file = a} {made = b} passes more) (here {refusal = refusal} refuses) = apart number a b refusal passes refuses
    pass_apart apart (one_more passes more) (after passed refused) = pass_apart apart more refused

    -- where each passes or is refused, all pass or the first is refused
    decided : ((number : ℕ) (a : A) → ((b : B) × Passes number a b) ⊎ ((refusal : Refusal) × Refuses number a refusal)) → (number : ℕ) (files : List A) → Decided Passes Refuses number files
    unfolding Decided
    decided each number [] = inl ([], none_left)
    decided each number (a ∷ files) = by (each number a) (decided each (suc number) files)
      where
        by : ((b : B) × Passes number a b) ⊎ ((refusal : Refusal) × Refuses number a refusal) → Decided Passes Refuses (suc number) files → Decided Passes Refuses number (a ∷ files)
        by (inr refused) rest = inr (refused.0, here refused.1)
        by (inl passes) (inl rest) = inl (passes.0 ∷ rest.0, one_more passes.1 rest.1)
        by (inl passes) (inr rest) = inr (rest.0, after passes.1 rest.1)

-- what a phase leaves as it is
all_same : {A : Type 0} (Passes : ℕ → A → A → Type 0) → ((number : ℕ) (a b : A) → Passes number a b → b ≡ a) → {number : ℕ} {files mades : List A} → AllPass Passes number files mades → mades ≡ files
all_same Passes same none_left = refl
all_same Passes same (one_more {number = number} {file = a} {made = b} {mades = bs} passes more) = ap (λ x. x ∷ bs) (same number a b passes) ∙ ap (λ xs. a ∷ xs) (all_same Passes same more)

-- ---- sizes

size_apart : (number : ℕ) (bytes same : List ℕ) (refusal : Refusal) → HasItsSize number bytes same → IsTooLarge number bytes refusal → ⊥
size_apart number bytes same refusal has large = omega (arith, has.small, large.large)

size_each : (number : ℕ) (bytes : List ℕ) → ((same : List ℕ) × HasItsSize number bytes same) ⊎ ((refusal : Refusal) × IsTooLarge number bytes refusal)
size_each number bytes =
    elim (cases_lt most_bytes (length bytes)) [
      | inl large ↦ inr (record { kind = Large; place = record { file = number; line = 1 } }, record { large = large; told = refl })
      | inr small ↦ inl (bytes, record { unchanged = refl; small = small })
    ]

-- ---- limits

same_some : {A : Type 0} (a b : A) → ◌≡◌ {A = Option A} (Some a) (Some b) → a ≡ b
same_some a b is = cc

limits_apart : (number : ℕ) (tokens same : List Token) (refusal : Refusal) → KeepsLimits number tokens same → BreaksLimits number tokens refusal → ⊥
limits_apart number tokens same refusal keeps breaks =
    differ (sym (keeps.within breaks.at breaks.token (slice_get_within tokens breaks.at breaks.token breaks.here) breaks.here) ∙ breaks.fault)
  where
    differ : ◌≡◌ {A = Option Kind} None (Some refusal.kind) → ⊥
    differ is = cc

within_more : (tokens : List Token) (count : ℕ) → IsWithinLimits tokens count → ((token : Token) → slice_get tokens count ≡ Some token → fault_of (take (count + 1) tokens) token.kind ≡ None) → IsWithinLimits tokens (suc count)
within_more tokens count within last at token less found =
    elim (eq-or-lt_of_le {n = at} {m = count} (omega (arith, less))) [
      | inl same ↦ subst (λ n. fault_of (take (n + 1) tokens) token.kind ≡ None) (sym same) (last token (ap (slice_get tokens) (sym same) ∙ found))
      | inr before ↦ within at token before found
    ]

limits_upto : (tokens : List Token) (count : ℕ) → IsWithinLimits tokens count ⊎ ((refusal : Refusal) × ExceedsLimits tokens refusal)
limits_upto tokens zero = inl (λ at token less found. absurd (omega (arith, less)))
limits_upto tokens (suc count) = by (limits_upto tokens count)
  where
    at_token : IsWithinLimits tokens count → (token : Token) → slice_get tokens count ≡ Some token → (fault : Option Kind) → fault_of (take (count + 1) tokens) token.kind ≡ fault
        → IsWithinLimits tokens (suc count) ⊎ ((refusal : Refusal) × ExceedsLimits tokens refusal)
    at_token within token found None is =
        inl (within_more tokens count within (λ other there. ap (λ t. fault_of (take (count + 1) tokens) t.kind) (same_some other token (sym there ∙ found)) ∙ is))
    at_token within token found (Some kind) is =
        inr (
          record { kind = kind; place = record { file = token.span.file; line = token.span.line } },
          record { at = count; token = token; here = found; fault = is; place = refl; first = within },
        )

    next : IsWithinLimits tokens count → (o : Option Token) → slice_get tokens count ≡ o → IsWithinLimits tokens (suc count) ⊎ ((refusal : Refusal) × ExceedsLimits tokens refusal)
    next within None found = inl (within_more tokens count within (λ token there. absurd (let clash : ◌≡◌ {A = Option Token} None (Some token) = sym found ∙ there in cc)))
    next within (Some token) found = at_token within token found (fault_of (take (count + 1) tokens) token.kind) refl

    by : IsWithinLimits tokens count ⊎ ((refusal : Refusal) × ExceedsLimits tokens refusal) → IsWithinLimits tokens (suc count) ⊎ ((refusal : Refusal) × ExceedsLimits tokens refusal)
    by (inr exceeds) = inr exceeds
    by (inl within) = next within (slice_get tokens count) refl

limits_each : (number : ℕ) (tokens : List Token) → ((same : List Token) × KeepsLimits number tokens same) ⊎ ((refusal : Refusal) × BreaksLimits number tokens refusal)
limits_each number tokens =
    elim (limits_upto tokens (length tokens)) [
      | inl within ↦ inl (tokens, record { unchanged = refl; within = within })
      | inr exceeds ↦ inr exceeds
    ]

-- ---- the grammar

tree_apart : (number : ℕ) (tokens : List Token) (tree : File) (refusal : Refusal) → HasTree number tokens tree → HasNoTree number tokens refusal → ⊥
tree_apart number tokens tree refusal spells none = none.no_tree tree spells

one_tree : (number : ℕ) (tokens : List Token) (a b : File) → HasTree number tokens a → HasTree number tokens b → a ≡ b
one_tree number tokens a b spells other = one-file a b tokens spells other

-- the reader of files, with a turn for each token
turns : List Token → ℕ
turns tokens = length tokens

read_whole : (tokens : List Token) → Result (File × List Token) ℕ
read_whole tokens = file_at (statement_readers (turns tokens)) tokens

read_is : (tokens : List Token) (tree : File) → Spells tokens tree → read_whole tokens ≡ Ok (tree, [])
unfolding read_whole turns
read_is tokens tree spells = (complete-file tree tokens spells).gives (length tokens) (omega arith)

read_spells : (tokens : List Token) (tree : File) (rest : List Token) → read_whole tokens ≡ Ok (tree, rest) → Spells tokens tree
unfolding read_whole turns
read_spells tokens tree rest reads =
    let readers = statement_readers (length tokens) in
    let o : IsRead SpellsFile (file_at readers) tokens tree rest = subst (Outcome SpellsFile (file_at readers) tokens) reads ((file-sound readers (statement_readers-sound (length tokens))).at tokens) in
    let none : rest ≡ [] = nothing-after readers tokens tree rest reads in
    let same : o.front ≡ tokens = sym (append-nil o.front) ∙ ap (λ w. o.front ++ w) (sym none) ∙ sym o.splits in
    subst (SpellsFile tree) same o.holds

-- where nothing is read the refusal stands at the last token
refused_last : (number : ℕ) (tokens : List Token) → ((tree : File) → Spells tokens tree → ⊥) → (refusal : Refusal) × HasNoTree number tokens refusal
refused_last number [] none = absurd (none (record { components = [] }) (file stop_here))
refused_last number (t ∷ ts) none =
    let last : Token = get_or (t ∷ ts) (length ts) t in (
      syntax_at last,
      record {
        no_tree = none;
        dead = record { place = length ts; token = last; there = ap (slice_get (t ∷ ts)) (zero-add (length ts)) ∙ slice_get-get_or (t ∷ ts) (length ts) t (omega arith); refusal = refl; dead = λ later. absurd (omega (arith, later)) };
      },
    )

tree_each : (number : ℕ) (tokens : List Token) → ((tree : File) × HasTree number tokens tree) ⊎ ((refusal : Refusal) × HasNoTree number tokens refusal)
tree_each number tokens = by (read_whole tokens) refl
  where
    differ : (tree : File) (left : ℕ) → ◌≡◌ {A = Result (File × List Token) ℕ} (Ok (tree, [])) (Err left) → ⊥
    differ tree left is = cc

    by : (z : Result (File × List Token) ℕ) → read_whole tokens ≡ z → ((tree : File) × HasTree number tokens tree) ⊎ ((refusal : Refusal) × HasNoTree number tokens refusal)
    by (Ok (tree, rest)) reads = inl (tree, read_spells tokens tree rest reads)
    by (Err left) reads = inr (refused_last number tokens (λ tree spells. differ tree left (sym (read_is tokens tree spells) ∙ reads)))

-- ---- the phases of reading

module _ (contents : List (List ℕ)) where
  one_lexed : (tokens others : List (List Token)) → AllPass Lexes 0 contents tokens → AllPass Lexes 0 contents others → tokens ≡ others
  one_lexed tokens others lexed other = one_made Lexes (λ number bytes a b l m. one_list number bytes a b l m) lexed other

  -- the trees of the files are these alone
  pub one_read : (trees others : List File) → AreRead contents trees → AreRead contents others → trees ≡ others
  one_read trees others read other =
      one_made HasTree one_tree read.parsed (subst (λ tokens. AllPass HasTree 0 tokens others) (sym (one_lexed read.tokens other.tokens read.lexed other.lexed)) other.parsed)

  not_in_size : {mades : List (List ℕ)} {refusal : Refusal} → AllPass HasItsSize 0 contents mades → FirstRefused HasItsSize IsTooLarge 0 contents refusal → ⊥
  not_in_size sizes refused = pass_apart HasItsSize IsTooLarge size_apart sizes refused

  not_in_tokens : {tokens : List (List Token)} {refusal : Refusal} → AllPass Lexes 0 contents tokens → FirstRefused Lexes RefusesToLex 0 contents refusal → ⊥
  not_in_tokens lexed refused = pass_apart Lexes RefusesToLex not_both lexed refused

  not_in_limits : (tokens others : List (List Token)) {refusal : Refusal} → AllPass Lexes 0 contents tokens → AllPass KeepsLimits 0 tokens tokens → AllPass Lexes 0 contents others
      → FirstRefused KeepsLimits BreaksLimits 0 others refusal → ⊥
  not_in_limits tokens others {refusal = refusal} lexed limited other refused =
      pass_apart KeepsLimits BreaksLimits limits_apart limited (subst (λ ts. FirstRefused KeepsLimits BreaksLimits 0 ts refusal) (sym (one_lexed tokens others lexed other)) refused)

  not_in_grammar : (tokens others : List (List Token)) {trees : List File} {refusal : Refusal} → AllPass Lexes 0 contents tokens → AllPass HasTree 0 tokens trees → AllPass Lexes 0 contents others
      → FirstRefused HasTree HasNoTree 0 others refusal → ⊥
  not_in_grammar tokens others {refusal = refusal} lexed parsed other refused =
      pass_apart HasTree HasNoTree tree_apart parsed (subst (λ ts. FirstRefused HasTree HasNoTree 0 ts refusal) (sym (one_lexed tokens others lexed other)) refused)

  -- files that are read aren't refused in reading
  read_apart : (trees : List File) (refusal : Refusal) → AreRead contents trees → AreRefused contents refusal → ⊥
  read_apart trees refusal read (in_size refused) = not_in_size read.sizes refused
  read_apart trees refusal read (in_tokens sizes refused) = not_in_tokens read.lexed refused
  read_apart trees refusal read (in_limits {tokens = tokens} sizes lexed refused) = not_in_limits read.tokens tokens read.lexed read.limited lexed refused
  read_apart trees refusal read (in_grammar {tokens = tokens} sizes lexed limited refused) = not_in_grammar read.tokens tokens read.lexed read.parsed lexed refused

  -- files that are refused in reading are refused in one phase
  one_reading_phase : (r s : Refusal) (one : AreRefused contents r) (other : AreRefused contents s) → reading_phase one ≡ reading_phase other
  one_reading_phase r s (in_size refused) (in_size again) = refl
  one_reading_phase r s (in_size refused) (in_tokens sizes again) = absurd (not_in_size sizes refused)
  one_reading_phase r s (in_size refused) (in_limits sizes lexed again) = absurd (not_in_size sizes refused)
  one_reading_phase r s (in_size refused) (in_grammar sizes lexed limited again) = absurd (not_in_size sizes refused)
  one_reading_phase r s (in_tokens sizes refused) (in_size again) = absurd (not_in_size sizes again)
  one_reading_phase r s (in_tokens sizes refused) (in_tokens sizes' again) = refl
  one_reading_phase r s (in_tokens sizes refused) (in_limits sizes' lexed again) = absurd (not_in_tokens lexed refused)
  one_reading_phase r s (in_tokens sizes refused) (in_grammar sizes' lexed limited again) = absurd (not_in_tokens lexed refused)
  one_reading_phase r s (in_limits sizes lexed refused) (in_size again) = absurd (not_in_size sizes again)
  one_reading_phase r s (in_limits sizes lexed refused) (in_tokens sizes' again) = absurd (not_in_tokens lexed again)
  one_reading_phase r s (in_limits sizes lexed refused) (in_limits sizes' lexed' again) = refl
  one_reading_phase r s (in_limits {tokens = tokens} sizes lexed refused) (in_grammar {tokens = others} sizes' lexed' limited again) = absurd (not_in_limits others tokens lexed' limited lexed refused)
  one_reading_phase r s (in_grammar sizes lexed limited refused) (in_size again) = absurd (not_in_size sizes again)
  one_reading_phase r s (in_grammar sizes lexed limited refused) (in_tokens sizes' again) = absurd (not_in_tokens lexed again)
  one_reading_phase r s (in_grammar {tokens = tokens} sizes lexed limited refused) (in_limits {tokens = others} sizes' lexed' again) = absurd (not_in_limits tokens others lexed limited lexed' again)
  one_reading_phase r s (in_grammar sizes lexed limited refused) (in_grammar sizes' lexed' limited' again) = refl

  Read : Type 0
  Read = ((trees : List File) × AreRead contents trees) ⊎ ((refusal : Refusal) × AreRefused contents refusal)

  read_or_refused : Read
  unfolding Read Decided
  read_or_refused = by_size (decided HasItsSize IsTooLarge size_each 0 contents)
    where
      sized : (mades : List (List ℕ)) → AllPass HasItsSize 0 contents mades → AllPass HasItsSize 0 contents contents
      sized mades sizes = subst (AllPass HasItsSize 0 contents) (all_same HasItsSize (λ number bytes same has. has.unchanged) sizes) sizes

      by_tree : (tokens : List (List Token)) → AllPass HasItsSize 0 contents contents → AllPass Lexes 0 contents tokens → AllPass KeepsLimits 0 tokens tokens → Decided HasTree HasNoTree 0 tokens → Read
      by_tree tokens sizes lexed limited (inl parsed) = inl (parsed.0, record { sizes = sizes; tokens = tokens; lexed = lexed; limited = limited; parsed = parsed.1 })
      by_tree tokens sizes lexed limited (inr refused) = inr (refused.0, in_grammar sizes lexed limited refused.1)

      by_limits : (tokens : List (List Token)) → AllPass HasItsSize 0 contents contents → AllPass Lexes 0 contents tokens → Decided KeepsLimits BreaksLimits 0 tokens → Read
      by_limits tokens sizes lexed (inr refused) = inr (refused.0, in_limits sizes lexed refused.1)
      by_limits tokens sizes lexed (inl limited) =
          by_tree tokens sizes lexed (subst (AllPass KeepsLimits 0 tokens) (all_same KeepsLimits (λ number ts same keeps. keeps.unchanged) limited.1) limited.1) (decided HasTree HasNoTree tree_each 0 tokens)

      by_tokens : AllPass HasItsSize 0 contents contents → Decided Lexes RefusesToLex 0 contents → Read
      by_tokens sizes (inr refused) = inr (refused.0, in_tokens sizes refused.1)
      by_tokens sizes (inl lexed) = by_limits lexed.0 sizes lexed.1 (decided KeepsLimits BreaksLimits limits_each 0 lexed.0)

      by_size : Decided HasItsSize IsTooLarge 0 contents → Read
      by_size (inr refused) = inr (refused.0, in_size refused.1)
      by_size (inl sizes) = by_tokens (sized sizes.0 sizes.1) (decided Lexes RefusesToLex some_outcome 0 contents)

  -- ---- names and types

  pub accepted_or_refused : ((accepted : Checked) × IsAccepted contents accepted) ⊎ ((refusal : Refusal) × IsRefused contents refusal)
  unfolding Read
  accepted_or_refused = by_read read_or_refused
    where
      by_types : (trees : List File) → AreRead contents trees → (names : Names) → resolved trees ≡ Ok names → (z : Result Facts Refusal) → verdict names.uses names.specs trees ≡ z
          → ((accepted : Checked) × IsAccepted contents accepted) ⊎ ((refusal : Refusal) × IsRefused contents refusal)
      by_types trees read names named (Ok facts) is = inl (record { trees = trees; facts = facts }, record { read = read; names = names; named = named; checked = is })
      by_types trees read names named (Err refusal) is = inr (refusal, in_types read named is)

      by_names : (trees : List File) → AreRead contents trees → (z : Result Names Refusal) → resolved trees ≡ z
          → ((accepted : Checked) × IsAccepted contents accepted) ⊎ ((refusal : Refusal) × IsRefused contents refusal)
      by_names trees read (Ok names) is = by_types trees read names is (verdict names.uses names.specs trees) refl
      by_names trees read (Err refusal) is = inr (refusal, in_names read is)

      by_read : Read → ((accepted : Checked) × IsAccepted contents accepted) ⊎ ((refusal : Refusal) × IsRefused contents refusal)
      by_read (inl read) = by_names read.0 read.1 (resolved read.0) refl
      by_read (inr refused) = inr (refused.0, in_reading refused.1)

  -- names that have meanings break no rule of names
  named_apart : (trees others : List File) (names : Names) (refusal : Refusal) → AreRead contents trees → AreRead contents others → resolved trees ≡ Ok names → resolved others ≡ Err refusal → ⊥
  named_apart trees others names refusal read other named broken =
      differ (sym named ∙ ap resolved (one_read trees others read other) ∙ broken)
    where
      differ : ◌≡◌ {A = Result Names Refusal} (Ok names) (Err refusal) → ⊥
      differ is = cc

  one_names : (trees others : List File) (a b : Names) → AreRead contents trees → AreRead contents others → resolved trees ≡ Ok a → resolved others ≡ Ok b → a ≡ b
  one_names trees others a b read other named again =
      let same : ◌≡◌ {A = Result Names Refusal} (Ok a) (Ok b) = sym named ∙ ap resolved (one_read trees others read other) ∙ again in cc

  -- the same names and trees have the same verdict
  one_judged : (trees others : List File) (a b : Names) → AreRead contents trees → AreRead contents others → resolved trees ≡ Ok a → resolved others ≡ Ok b
      → verdict a.uses a.specs trees ≡ verdict b.uses b.specs others
  one_judged trees others a b read other named again =
      ap (λ (n : Names). verdict n.uses n.specs trees) (one_names trees others a b read other named again) ∙ ap (verdict b.uses b.specs) (one_read trees others read other)

  pub accepted_apart : (accepted : Checked) (refusal : Refusal) → IsAccepted contents accepted → IsRefused contents refusal → ⊥
  accepted_apart accepted refusal is (in_reading refused) = read_apart accepted.trees refusal is.read refused
  accepted_apart accepted refusal is (in_names {trees = trees} read broken) = named_apart accepted.trees trees is.names refusal is.read read is.named broken
  accepted_apart accepted refusal is (in_types {trees = trees} {names = names} read named broken) =
      differ (sym is.checked ∙ one_judged accepted.trees trees is.names names is.read read is.named named ∙ broken)
    where
      differ : ◌≡◌ {A = Result Facts Refusal} (Ok accepted.facts) (Err refusal) → ⊥
      differ same = cc

  pub one_accepted : (a b : Checked) → IsAccepted contents a → IsAccepted contents b → a ≡ b
  one_accepted a b is other =
      let facts : ◌≡◌ {A = Result Facts Refusal} (Ok a.facts) (Ok b.facts) = sym is.checked ∙ one_judged a.trees b.trees is.names other.names is.read other.read is.named other.named ∙ other.checked in
      let same : a.facts ≡ b.facts = cc in
      ap (λ trees. record { trees = trees; facts = a.facts }) (one_read a.trees b.trees is.read other.read) ∙ ap (λ fs. record { trees = b.trees; facts = fs }) same

  pub one_phase : (r s : Refusal) (one : IsRefused contents r) (other : IsRefused contents s) → phase_of one ≡ phase_of other
  one_phase r s (in_reading refused) (in_reading again) = one_reading_phase r s refused again
  one_phase r s (in_reading refused) (in_names {trees = trees} read broken) = absurd (read_apart trees r read refused)
  one_phase r s (in_reading refused) (in_types {trees = trees} read named broken) = absurd (read_apart trees r read refused)
  one_phase r s (in_names {trees = trees} read broken) (in_reading again) = absurd (read_apart trees s read again)
  one_phase r s (in_names read broken) (in_names other again) = refl
  one_phase r s (in_names {trees = trees} read broken) (in_types {trees = others} {names = names} other named again) = absurd (named_apart others trees names r other read named broken)
  one_phase r s (in_types {trees = trees} read named broken) (in_reading again) = absurd (read_apart trees s read again)
  one_phase r s (in_types {trees = trees} {names = names} read named broken) (in_names {trees = others} other again) = absurd (named_apart trees others names s read other named again)
  one_phase r s (in_types read named broken) (in_types other named' again) = refl

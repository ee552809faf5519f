-- What the answers for a file say of its tokens.
use Rattle.std.proofs.Common.{◌≡◌, refl, ◌∙◌, ap, subst, ℕ, suc, ◌-◌, ◌≤◌, max, List, length, Option, Some, None, arith}
use Rattle.std.specs.Prelude.{slice_get}
use Rattle.sr_reader.specs.Pieces.{IsDead}
use Rattle.sr_tree.specs.declared.token.Token.{Token}
use Rattle.sr_parse_tokens.specs.Gives.{Fails}
use Rattle.sr_parse_expr.specs.Refused.{IsRefusedIn, refusal_of, refused_at}
use Rattle.sr_parse_tokens.specs.declared.reading.ReadFail.{ReadFail}
use Rattle.sr_parse_tokens.specs.declared.reading.ReadFail.TheVariants as fail
use Rattle.sr_program_reader.specs.ComponentReaders.{file_at}
use Rattle.sr_program_reader.specs.Files.{SpellsFile}
use Rattle.sr_program_reader.specs.StatementReaders.{statement_readers}
use Rattle.sr_program_reader.proofs.FileLaws.{none, dead, within}
use Rattle.sr_parser.specs.Programs.{SpellsNoFile}

module _ (items : List Token) where
  abbrev Refuses : ReadFail → Type 0
  Refuses e = (k : ℕ) → length items ≤ k → Fails e (file_at (statement_readers k) items)

  pub none_of : (e : ReadFail) → Refuses e → SpellsNoFile items (refusal_of items e)
  none_of (fail.Unexpected left) reads = at (slice_get items (length items - max left 1))
    where
      at : (x : Option Token) → SpellsNoFile items (refused_at x)
      at (Some t) = none items left reads
      at None = tt
  none_of fail.NoMemory reads = tt

  pub dead_of : (e : ReadFail) → Refuses e → IsRefusedIn SpellsFile items 0 (refusal_of items e)
  dead_of (fail.Unexpected left) reads = at (slice_get items (length items - max left 1)) refl
    where
      at : (x : Option Token) → slice_get items (length items - max left 1) ≡ x → IsRefusedIn SpellsFile items 0 (refused_at x)
      at (Some t) e =
          let w : left ≤ length items = within items left reads in
          record {
            place = length items - max left 1;
            token = t;
            there = ap (slice_get items) (omega arith) ∙ e;
            refusal = refl;
            dead = λ h.
                let m : suc (length items - left) ≡ suc (length items - max left 1) = omega (arith, w, h) in
                subst (IsDead SpellsFile items) m (dead items left reads (omega (arith, w, h)));
          }
      at None e = tt
  dead_of fail.NoMemory reads = tt

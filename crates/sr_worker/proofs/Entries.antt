-- One more entry.
use Rattle.std.proofs.Common.{◌≡◌, ◌⊎◌, ◌==◌, ℕ, Bool, true, false, cond, List, [], ◌∷◌, ◌++◌, map, refl, ap, sym, ◌∙◌, subst, ⊎_elim, append-nil, append_assoc}
use Rattle.std.proofs.lemmas.List.{map-append}
use Rattle.std.proofs.lemmas.List.Elements.{filter-append}
use Rattle.std.specs.List.{filter}
use Rattle.sr_ask.specs.declared.answer.Answer.{Answer}
use Rattle.sr_ask.specs.declared.ask.Asks.{Asks}
use Rattle.sr_ask.specs.declared.ask.Asks.TheVariants.{Asked}
use Rattle.sr_ask.specs.declared.entry.Entry.{Entry}
use Rattle.sr_worker.specs.Playing.{Follows, IsPlayed, answers_of}
use Rattle.sr_worker.proofs.Lists.{last-or-before}

module _ (process : ℕ) (es : List Entry) (e : Entry) where
  after-all : answers_of process (es ++ e ∷ []) ≡ answers_of process es ++ answers_of process (e ∷ [])
  after-all =
      ap (map (λ (x : Entry). x.answer)) (filter-append (λ (x : Entry). x.actor == process) es (e ∷ []))
      ∙ map-append (λ (x : Entry). x.answer) (filter (λ (x : Entry). x.actor == process) es) (filter (λ (x : Entry). x.actor == process) (e ∷ []))

  pub answers-own : (e.actor == process) ≡ true → answers_of process (es ++ e ∷ []) ≡ answers_of process es ++ e.answer ∷ []
  answers-own own = after-all ∙ ap (λ b. answers_of process es ++ map (λ (x : Entry). x.answer) (cond b (e ∷ []) [])) own

  pub answers-other : (e.actor == process) ≡ false → answers_of process (es ++ e ∷ []) ≡ answers_of process es
  answers-other other = after-all ∙ ap (λ b. answers_of process es ++ map (λ (x : Entry). x.answer) (cond b (e ∷ []) [])) other ∙ append-nil (answers_of process es)

module _ (plays : ℕ → List Answer → Asks) (es : List Entry) (e : Entry) where
  pub played-more : IsPlayed plays es → plays e.actor (answers_of e.actor es) ≡ Asked e.ask → IsPlayed plays (es ++ e ∷ [])
  played-more played asks = λ before x after is. ⊎_elim
      (λ last. subst (λ b. plays x.actor (answers_of x.actor b) ≡ Asked x.ask) (sym last.0) (subst (λ (y : Entry). plays y.actor (answers_of y.actor es) ≡ Asked y.ask) (sym last.1) asks))
      (λ among. played before x among.0 among.1)
      (last-or-before es before after e x is)

  -- whose entry it is heard the answer
  pub follows-own : (process : ℕ) (meant heard : List Answer → Asks) → (e.actor == process) ≡ true → Follows plays es process meant
      → ((more : List Answer) → heard more ≡ meant (e.answer ∷ more)) → Follows plays (es ++ e ∷ []) process heard
  follows-own process meant heard own follows hears = λ more.
      hears more ∙ follows (e.answer ∷ more)
      ∙ ap (plays process) (sym (append_assoc (answers_of process es) (e.answer ∷ []) more) ∙ ap (λ xs. xs ++ more) (sym (answers-own process es e own)))

  pub follows-other : (process : ℕ) (meant : List Answer → Asks) → (e.actor == process) ≡ false → Follows plays es process meant → Follows plays (es ++ e ∷ []) process meant
  follows-other process meant other follows = λ more. follows more ∙ ap (λ xs. plays process (xs ++ more)) (sym (answers-other process es e other))

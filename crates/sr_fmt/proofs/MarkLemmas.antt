-- A text by marks is the text by the spans that were marked.
use Rattle.std.proofs.Common.{◌≡◌, ℕ, ◌<◌, Bool, List, [], ◌∷◌, ◌++◌, length, refl, ap, sym, subst, ◌∙◌, Result, Ok, Err, IfOk}
use Rattle.sr_value.specs.declared.place.Span.{Span}
use Rattle.sr_tree.specs.declared.component.File.{File}
use Rattle.sr_order.specs.Spans.{statement_spans}
use Rattle.sr_lexer.specs.Separators.{Placed}
use Rattle.sr_lexer.specs.Tokens.{Chain}
use Rattle.sr_fmt.specs.declared.pen.Pen.{Pen}
use Rattle.sr_fmt.specs.declared.printer.Printer.{Printer}
use Rattle.sr_fmt.specs.Canonical.{IsCanonical, begins_at}
use Rattle.sr_fmt.specs.Layout.{layout, line_end, kind_of, written, pen_after, first_pen}
use Rattle.sr_fmt.specs.Marks.{AreMarked, marked}
use Rattle.sr_fmt.specs.Printing.{Prints}
use Rattle.sr_fmt.proofs.FrontLemmas.{along}
use Rattle.sr_fmt.proofs.ToldLemmas.{begins_within}

-- two tests that agree within the source give one text
pub same_layout : (f g : ℕ → Bool) (file : ℕ) (source : List ℕ) → ((at : ℕ) → at < length source → f at ≡ g at) → (pieces : List Placed) (at to : ℕ) (pen : Pen) → Chain file source at pieces to → layout f pen pieces ≡ layout g pen pieces
unfolding layout
same_layout f g file source same [] at to pen chain = refl
same_layout f g file source same (p ∷ rest) at to pen chain =
    let here : f p.span.from ≡ g p.span.from =
    subst (λ (n : ℕ). f n ≡ g n) (sym (along chain.0.2 (λ q. q.span.from))) (same at (begins_within file source at p chain.0)) in
    ap (λ (b : Bool). written pen b (kind_of p) p.text ++ layout f (pen_after pen b (kind_of p) p.text) rest) here
    ∙ ap (λ more. written pen (g p.span.from) (kind_of p) p.text ++ more) (same_layout f g file source same rest p.span.to to (pen_after pen (g p.span.from) (kind_of p) p.text) chain.1)

-- what holds where there is a value also holds with what follows from it
pub for_ok : {A E : Type 0} {P Q : A → Type 0} (r : Result A E) → IfOk r P → ((x : A) → P x → Q x) → IfOk r Q
for_ok (Ok x) p f = f x p
for_ok (Err e) p f = p

-- what the walk over a source writes is its canonical text
pub canonical_of : (source : List ℕ) (tree : File) (spans : List Span) (marks : List Bool) (printer : Printer) (text : List ℕ) → spans ≡ statement_spans tree → AreMarked (length source) spans marks → Prints source marks printer → text ≡ printer.text ++ (line_end printer.pen.last ++ printer.pen.held) → IsCanonical source tree text
canonical_of source tree spans marks printer text same are prints e =
    let agree : (at : ℕ) → at < length source → marked marks at ≡ begins_at (statement_spans tree) at =
    λ at h. are at h ∙ ap (λ (all : List Span). begins_at all at) same in
    record {
      pieces = prints.pieces;
      chain = prints.chain;
      told = e ∙ prints.text ∙ same_layout (marked marks) (begins_at (statement_spans tree)) 0 source agree prints.pieces 0 (length source) first_pen prints.chain;
    }

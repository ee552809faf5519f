-- The walk over a source, a piece each time.
use Rattle.std.proofs.Common.{◌≡◌, ℕ, zero, suc, ◌+◌, ◌-◌, ◌<◌, ◌≤◌, Bool, true, false, cond, List, [], ◌∷◌, ◌++◌, length, take, drop, get_or, refl, ap, sym, subst, ◌∙◌, arith, add-one, append_assoc, Option, Some, None, Ok, length-take, length-drop}
use Rattle.sr_tree.specs.declared.token.TokenKind.{TokenKind}
use Rattle.sr_lexer.specs.Pieces.{FitsIn}
use Rattle.sr_lexer.specs.Roles.{opens_bracket, closes_bracket}
use Rattle.sr_lexer.specs.Separators.{Placed}
use Rattle.sr_lexer.specs.Tokens.{placed, BeginsAt, Chain}
use Rattle.sr_lexer.proofs.PieceLemmas.{piece_fits}
use Rattle.sr_fmt.specs.declared.gap.Gap.{Gap}
use Rattle.sr_fmt.specs.declared.pen.Pen.{Pen}
use Rattle.sr_fmt.specs.declared.printer.Printer.{Printer}
use Rattle.sr_fmt.specs.declared.told.Told.{Told}
use Rattle.sr_fmt.specs.Gaps.{gap_at, pen_past}
use Rattle.sr_fmt.specs.Layout.{layout, line_end, first_kind, kind_of, is_comment, is_dropped, after_token, written, pen_after, first_pen}
use Rattle.sr_fmt.specs.Marks.{marked}
use Rattle.sr_fmt.specs.Printing.{IsToldOf, Prints}
use Rattle.sr_fmt.specs.Roles.{opens_level, closes_level}
use Rattle.sr_fmt.specs.Told.{told_at, told_in}
use Rattle.sr_fmt.proofs.FrontLemmas.{on_ok, along, FrontIs}
use Rattle.sr_fmt.proofs.ToldLemmas.{begins_within, begins_front, begins_tokens}

-- the text so far and the text of what is left are that of the whole source
pub record Walk (source : List ℕ) (told : List Told) (begins : ℕ → Bool) (at next : ℕ) (printer : Printer) : Type 0 where
  pub pieces : List Placed
  pub whole : Chain 0 source 0 pieces (length source)
  pub rest : List Placed
  pub chain : Chain 0 source at rest (length source)
  pub left : drop next told ≡ told_in rest
  pub text : printer.text ++ layout begins printer.pen rest ≡ layout begins first_pen pieces
  pub within : at ≤ length source
  pub depth : printer.pen.depth ≤ at
  pub level : printer.pen.level ≤ at
  pub count : next ≤ at

-- what a gap tells of a piece, or that there is none
abbrev pub KindIs : List ℕ → Option TokenKind → ℕ → Option Gap → Type 0
KindIs bytes kind len (Some g) = (kind ≡ None) × (len ≡ g.len) × (is_comment (take len bytes) ≡ g.is_comment)
KindIs bytes kind len None = (token : TokenKind) × (kind ≡ Some token)

-- what is known of the next piece
pub record Next (source : List ℕ) (told : List Told) (begins : ℕ → Bool) (at next : ℕ) (printer : Printer) : Type 0 where
  pub pieces : List Placed
  pub whole : Chain 0 source 0 pieces (length source)
  pub kind : Option TokenKind
  pub len : ℕ
  pub found : KindIs (drop at source) kind len (gap_at (drop at source))
  pub long : 0 < len
  pub fits : at + len ≤ length source
  pub more : List Placed
  pub chain : Chain 0 source (at + len) more (length source)
  pub left : drop next told ≡ told_at kind (take len (drop at source)) ++ told_in more
  pub text : printer.text ++ (written printer.pen (begins at) kind (take len (drop at source)) ++ layout begins (pen_after printer.pen (begins at) kind (take len (drop at source))) more) ≡ layout begins first_pen pieces

-- a piece that begins has bytes, and they are there
piece_len : (source : List ℕ) (at : ℕ) (p : Placed) (begins : BeginsAt 0 source at p) → (0 < begins.0.len) × (at + begins.0.len ≤ length source)
piece_len source at p begins =
    let within = begins_within 0 source at p begins in
    let fits : FitsIn (drop at source) (Ok begins.0) = subst (λ r. FitsIn (drop at source) r) begins.1 (piece_fits (drop at source) (omega (arith, within, length-drop at source))) in
    (fits.0, omega (arith, fits.1, within, length-drop at source))

one_more : (n : ℕ) → 0 < n → (m : ℕ) × (n ≡ suc m)
one_more zero h = absurd (omega arith)
one_more (suc m) h = (m, refl)

kind_is : (source : List ℕ) (at : ℕ) (p : Placed) (begins : BeginsAt 0 source at p) (found : Option Gap) → FrontIs (drop at source) found → KindIs (drop at source) (kind_of p) begins.0.len found
kind_is source at p begins (Some g) front =
    let long = one_more begins.0.len (piece_len source at p begins).0 in (
      along (begins_tokens 0 source at p [] begins ∙ front.tokens [] p.text p.span) first_kind,
      sym (along begins.1 (λ r. on_ok r (λ piece. piece.len) 0)) ∙ front.len,
      ap (λ (n : ℕ). is_comment (take n (drop at source))) long.1 ∙ front.comment long.0,
    )
kind_is source at p begins None front =
    (front.kind, along (begins_tokens 0 source at p [] begins ∙ front.tokens [] p.text p.span) first_kind)

next_of : (source : List ℕ) (told : List Told) (begins : ℕ → Bool) (at next : ℕ) (printer : Printer) (all rest : List Placed) → Chain 0 source 0 all (length source) → Chain 0 source at rest (length source) → drop next told ≡ told_in rest → printer.text ++ layout begins printer.pen rest ≡ layout begins first_pen all → at < length source → Next source told begins at next printer
unfolding layout
next_of source told begins at next printer all [] whole chain left text h = absurd (omega (arith, chain))
next_of source told begins at next printer all (p ∷ more) whole chain left text h =
    let fits = piece_len source at p chain.0 in
    let found = kind_is source at p chain.0 (gap_at (drop at source)) (begins_front 0 source at p chain.0) in
    let given : Placed → Type 0 = λ q. KindIs (drop at source) (kind_of q) chain.0.0.len (gap_at (drop at source)) → Chain 0 source q.span.to more (length source) → drop next told ≡ told_in (q ∷ more) → printer.text ++ layout begins printer.pen (q ∷ more) ≡ layout begins first_pen all → Next source told begins at next printer in
    subst given (sym chain.0.2)
    (λ found after left text. record {
      pieces = all;
      whole = whole;
      kind = kind_of (placed 0 source at chain.0.0);
      len = chain.0.0.len;
      found = found;
      long = fits.0;
      fits = fits.1;
      more = more;
      chain = after;
      left = left;
      text = text;
    })
    found chain.1 left text

-- before the end there is a next piece
next_piece : (source : List ℕ) (told : List Told) (begins : ℕ → Bool) (at next : ℕ) (printer : Printer) → Walk source told begins at next printer → at < length source → Next source told begins at next printer
next_piece source told begins at next printer walk h =
    next_of source told begins at next printer walk.pieces walk.rest walk.whole walk.chain walk.left walk.text h

-- ---- gaps

gap_facts : (source : List ℕ) (at : ℕ) (kind : Option TokenKind) (len : ℕ) (g : Gap) → KindIs (drop at source) kind len (gap_at (drop at source)) → gap_at (drop at source) ≡ Some g → KindIs (drop at source) kind len (Some g)
gap_facts source at kind len g found e = subst (KindIs (drop at source) kind len) e found

held_depth : (b : Bool) (pen : Pen) (text : List ℕ) → (pen_past b pen text).depth ≡ pen.depth
held_depth true pen text = refl
held_depth false pen text = refl

held_level : (b : Bool) (pen : Pen) (text : List ℕ) → (pen_past b pen text).level ≡ pen.level
held_level true pen text = refl
held_level false pen text = refl

-- a gap fits in what is left
pub gap_fits : (source : List ℕ) (told : List Told) (begins : ℕ → Bool) (at next : ℕ) (printer : Printer) (g : Gap) → Walk source told begins at next printer → at < length source → gap_at (drop at source) ≡ Some g → (0 < g.len) × (at + g.len ≤ length source)
gap_fits source told begins at next printer g walk h e =
    let n = next_piece source told begins at next printer walk h in
    let same = (gap_facts source at n.kind n.len g n.found e).1 in
    (omega (arith, same, n.long), omega (arith, same, n.fits))

-- the walk goes on after a gap
pub walk_gap : (source : List ℕ) (told : List Told) (begins : ℕ → Bool) (at next : ℕ) (printer after : Printer) (g : Gap) → Walk source told begins at next printer → at < length source → gap_at (drop at source) ≡ Some g → after.text ≡ printer.text → after.pen ≡ pen_past g.is_comment printer.pen (take g.len (drop at source)) → Walk source told begins (at + g.len) next after
walk_gap source told begins at next printer after g walk h e text pen =
    let n = next_piece source told begins at next printer walk h in
    let is = gap_facts source at n.kind n.len g n.found e in
    let bytes = take n.len (drop at source) in
    let pen_is : pen_after printer.pen (begins at) n.kind bytes ≡ after.pen =
    ap (λ (k : Option TokenKind). pen_after printer.pen (begins at) k bytes) is.0
    ∙ ap (λ (b : Bool). pen_past b printer.pen bytes) is.2
    ∙ ap (λ (k : ℕ). pen_past g.is_comment printer.pen (take k (drop at source))) is.1
    ∙ sym pen in
    let none : written printer.pen (begins at) n.kind bytes ≡ [] = ap (λ (k : Option TokenKind). written printer.pen (begins at) k bytes) is.0 in
    let depth : after.pen.depth ≡ printer.pen.depth = ap (λ (p : Pen). p.depth) pen ∙ held_depth g.is_comment printer.pen (take g.len (drop at source)) in
    let level : after.pen.level ≡ printer.pen.level = ap (λ (p : Pen). p.level) pen ∙ held_level g.is_comment printer.pen (take g.len (drop at source)) in
    record {
      pieces = n.pieces;
      whole = n.whole;
      rest = n.more;
      chain = subst (λ (k : ℕ). Chain 0 source (at + k) n.more (length source)) is.1 n.chain;
      left = n.left ∙ ap (λ (k : Option TokenKind). told_at k bytes ++ told_in n.more) is.0;
      text =
          ap (λ (first : List ℕ). first ++ layout begins after.pen n.more) text
          ∙ ap (λ (p : Pen). printer.text ++ layout begins p n.more) (sym pen_is)
          ∙ ap (λ (first : List ℕ). printer.text ++ (first ++ layout begins (pen_after printer.pen (begins at) n.kind bytes) n.more)) (sym none)
          ∙ n.text;
      within = omega (arith, is.1, n.fits);
      depth = omega (arith, depth, walk.depth);
      level = omega (arith, level, walk.level);
      count = omega (arith, walk.count);
    }

-- ---- tokens

-- what is known of the next token
pub record NextToken (source : List ℕ) (told : List Told) (begins : ℕ → Bool) (at next : ℕ) (printer : Printer) : Type 0 where
  pub token : Told
  pub later : List Told
  pub front : drop next told ≡ token ∷ later
  pub long : 0 < token.len
  pub fits : at + token.len ≤ length source
  pub pieces : List Placed
  pub whole : Chain 0 source 0 pieces (length source)
  pub more : List Placed
  pub chain : Chain 0 source (at + token.len) more (length source)
  pub left : later ≡ told_in more
  pub text : printer.text ++ (written printer.pen (begins at) (Some token.kind) (take token.len (drop at source)) ++ layout begins (pen_after printer.pen (begins at) (Some token.kind) (take token.len (drop at source))) more) ≡ layout begins first_pen pieces

token_len : (source : List ℕ) (at len : ℕ) → at + len ≤ length source → length (take len (drop at source)) ≡ len
token_len source at len h = omega (arith, length-take len (drop at source), length-drop at source)

pub next_token : (source : List ℕ) (told : List Told) (begins : ℕ → Bool) (at next : ℕ) (printer : Printer) → Walk source told begins at next printer → at < length source → gap_at (drop at source) ≡ None → NextToken source told begins at next printer
next_token source told begins at next printer walk h e =
    let n = next_piece source told begins at next printer walk h in
    let is = subst (KindIs (drop at source) n.kind n.len) e n.found in
    let bytes = take n.len (drop at source) in
    let text_with : Option TokenKind → Type 0 = λ kind. printer.text ++ (written printer.pen (begins at) kind bytes ++ layout begins (pen_after printer.pen (begins at) kind bytes) n.more) ≡ layout begins first_pen n.pieces in
    record {
      token = record { kind = is.0; len = n.len };
      later = told_in n.more;
      front = n.left
          ∙ ap (λ (kind : Option TokenKind). told_at kind bytes ++ told_in n.more) is.1
          ∙ ap (λ (k : ℕ). let t : Told = record { kind = is.0; len = k } in t ∷ told_in n.more) (token_len source at n.len n.fits);
      long = n.long;
      fits = n.fits;
      pieces = n.pieces;
      whole = n.whole;
      more = n.more;
      chain = n.chain;
      left = refl;
      text = subst text_with is.1 n.text;
    }

-- no token opens more than one bracket, or more than one level
opens_one : (opens closes : Bool) (count : ℕ) → cond opens (count + 1) (cond closes (count - 1) count) ≤ count + 1
opens_one true closes count = omega arith
opens_one false true count = omega arith
opens_one false false count = omega arith

depth_by : (pen : Pen) (statement : Bool) (kind : TokenKind) (b : Bool) → (cond b pen (after_token pen statement kind)).depth ≤ pen.depth + 1
depth_by pen statement kind true = omega arith
depth_by pen statement kind false = opens_one (opens_bracket kind) (closes_bracket kind) pen.depth

depth_grows : (pen : Pen) (statement : Bool) (kind : TokenKind) (text : List ℕ) → (pen_after pen statement (Some kind) text).depth ≤ pen.depth + 1
depth_grows pen statement kind text = depth_by pen statement kind (is_dropped pen.depth kind)

level_by : (pen : Pen) (statement : Bool) (kind : TokenKind) (b : Bool) → (cond b pen (after_token pen statement kind)).level ≤ pen.level + 1
level_by pen statement kind true = omega arith
level_by pen statement kind false = opens_one (opens_level kind) (closes_level kind) pen.level

level_grows : (pen : Pen) (statement : Bool) (kind : TokenKind) (text : List ℕ) → (pen_after pen statement (Some kind) text).level ≤ pen.level + 1
level_grows pen statement kind text = level_by pen statement kind (is_dropped pen.depth kind)

-- what stands at a place of the tokens, and after it
pub front_of : (told : List Told) (next : ℕ) (token : Told) (more : List Told) → drop next told ≡ token ∷ more → (next < length told) × ((d : Told) → get_or told next d ≡ token) × (drop (suc next) told ≡ more)
front_of [] zero token more e = absurd (cc)
front_of [] (suc next) token more e = absurd (cc)
front_of (t ∷ told) zero token more e =
    let here : t ≡ token = cc in
    let after : told ≡ more = cc in
    (omega arith, λ d. here, after)
front_of (t ∷ told) (suc next) token more e =
    let rest = front_of told next token more e in
    (omega (arith, rest.0), rest.1, rest.2)

drop_more : (told : List Told) (next : ℕ) (token : Told) (more : List Told) → drop next told ≡ token ∷ more → drop (next + 1) told ≡ more
drop_more told next token more e = ap (λ n. drop n told) (add-one next) ∙ (front_of told next token more e).2

-- the walk goes on after a token
pub walk_token : (source : List ℕ) (told : List Told) (begins : ℕ → Bool) (at next : ℕ) (printer after : Printer) → (walk : Walk source told begins at next printer) → (n : NextToken source told begins at next printer)
    → after.text ≡ printer.text ++ written printer.pen (begins at) (Some n.token.kind) (take n.token.len (drop at source))
    → after.pen ≡ pen_after printer.pen (begins at) (Some n.token.kind) (take n.token.len (drop at source))
    → Walk source told begins (at + n.token.len) (next + 1) after
walk_token source told begins at next printer after walk n text pen =
    let bytes = take n.token.len (drop at source) in
    let kind = Some n.token.kind in
    let depth : after.pen.depth ≡ (pen_after printer.pen (begins at) kind bytes).depth = ap (λ (p : Pen). p.depth) pen in
    let level : after.pen.level ≡ (pen_after printer.pen (begins at) kind bytes).level = ap (λ (p : Pen). p.level) pen in
    record {
      pieces = n.pieces;
      whole = n.whole;
      rest = n.more;
      chain = n.chain;
      left = drop_more told next n.token n.later n.front ∙ n.left;
      text =
          ap (λ (first : List ℕ). first ++ layout begins after.pen n.more) text
          ∙ ap (λ (p : Pen). (printer.text ++ written printer.pen (begins at) kind bytes) ++ layout begins p n.more) pen
          ∙ append_assoc printer.text (written printer.pen (begins at) kind bytes) (layout begins (pen_after printer.pen (begins at) kind bytes) n.more)
          ∙ n.text;
      within = omega (arith, n.fits);
      depth = omega (arith, depth, depth_grows printer.pen (begins at) n.token.kind bytes, walk.depth, n.long);
      level = omega (arith, level, level_grows printer.pen (begins at) n.token.kind bytes, walk.level, n.long);
      count = omega (arith, walk.count, n.long);
    }

-- the token that the code reads is that token
pub token_is : (source : List ℕ) (told : List Told) (begins : ℕ → Bool) (at next : ℕ) (printer : Printer) (token : Told) (n : NextToken source told begins at next printer) → token ≡ get_or told next token → n.token ≡ token
token_is source told begins at next printer token n e = sym (e ∙ (front_of told next n.token n.later n.front).1 token)

pub token_there : (source : List ℕ) (told : List Told) (begins : ℕ → Bool) (at next : ℕ) (printer : Printer) → Walk source told begins at next printer → at < length source → gap_at (drop at source) ≡ None → next < length told
token_there source told begins at next printer walk h e =
    let n = next_token source told begins at next printer walk h e in
    (front_of told next n.token n.later n.front).0

pub token_fits : (source : List ℕ) (told : List Told) (begins : ℕ → Bool) (at next : ℕ) (printer : Printer) (token : Told) → Walk source told begins at next printer → at < length source → gap_at (drop at source) ≡ None → token ≡ get_or told next token → (0 < token.len) × (at + token.len ≤ length source)
token_fits source told begins at next printer token walk h e is =
    let n = next_token source told begins at next printer walk h e in
    let same : n.token.len ≡ token.len = ap (λ (t : Told). t.len) (token_is source told begins at next printer token n is) in
    (omega (arith, same, n.long), omega (arith, same, n.fits))

-- the walk goes on after the token that the code reads
pub walk_told : (source : List ℕ) (told : List Told) (begins : ℕ → Bool) (at next : ℕ) (printer after : Printer) (token : Told) → Walk source told begins at next printer → at < length source → gap_at (drop at source) ≡ None → token ≡ get_or told next token
    → after.text ≡ printer.text ++ written printer.pen (begins at) (Some token.kind) (take token.len (drop at source))
    → after.pen ≡ pen_after printer.pen (begins at) (Some token.kind) (take token.len (drop at source))
    → Walk source told begins (at + token.len) (next + 1) after
walk_told source told begins at next printer after token walk h e is =
    let n = next_token source told begins at next printer walk h e in
    let goal : Told → Type 0 = λ t. after.text ≡ printer.text ++ written printer.pen (begins at) (Some t.kind) (take t.len (drop at source)) → after.pen ≡ pen_after printer.pen (begins at) (Some t.kind) (take t.len (drop at source)) → Walk source told begins (at + t.len) (next + 1) after in
    subst goal (token_is source told begins at next printer token n is) (λ text pen. walk_token source told begins at next printer after walk n text pen)

-- an item of a list, or what stands for none, is what the same place has with itself for none
pub read_twice : (told : List Told) (next : ℕ) (d : Told) → get_or told next d ≡ get_or told next (get_or told next d)
read_twice [] zero d = refl
read_twice [] (suc next) d = refl
read_twice (t ∷ told) zero d = refl
read_twice (t ∷ told) (suc next) d = read_twice told next d

-- so many of the bytes that are left
pub part_len : (source : List ℕ) (at len : ℕ) → at + len ≤ length source → len ≡ length (take len (take (length source - at) (drop at source)))
part_len source at len h = omega (arith, length-take len (take (length source - at) (drop at source)), length-take (length source - at) (drop at source), length-drop at source)

-- before the first piece
pub walk_begins : (source : List ℕ) (told : List Told) (begins : ℕ → Bool) (printer : Printer) → IsToldOf source told → printer.text ≡ [] → printer.pen ≡ first_pen → Walk source told begins 0 0 printer
walk_begins source told begins printer given text pen = record {
  pieces = given.pieces;
  whole = given.chain;
  rest = given.pieces;
  chain = given.chain;
  left = given.all;
  text = ap (λ first. first ++ layout begins printer.pen given.pieces) text ∙ ap (λ (p : Pen). layout begins p given.pieces) pen;
  within = omega arith;
  depth = omega (arith, ap (λ (p : Pen). p.depth) pen);
  level = omega (arith, ap (λ (p : Pen). p.level) pen);
  count = omega arith;
}

-- after the last piece
at_end : (source : List ℕ) (begins : ℕ → Bool) (at : ℕ) (pen : Pen) (rest : List Placed) → Chain 0 source at rest (length source) → length source ≤ at → layout begins pen rest ≡ line_end pen.last ++ pen.held
unfolding layout
at_end source begins at pen [] chain h = refl
at_end source begins at pen (p ∷ rest) chain h = absurd (omega (arith, begins_within 0 source at p chain.0))

pub walk_ends : (source : List ℕ) (told : List Told) (marks : List Bool) (at next : ℕ) (printer : Printer) → Walk source told (marked marks) at next printer → length source ≤ at → Prints source marks printer
walk_ends source told marks at next printer walk h = record {
  pieces = walk.pieces;
  chain = walk.whole;
  text = ap (λ more. printer.text ++ more) (sym (at_end source (marked marks) at printer.pen walk.rest walk.chain h)) ∙ walk.text;
}

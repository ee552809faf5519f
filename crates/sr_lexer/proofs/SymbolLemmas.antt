-- The table of signs and words, and that the longest sign is found.
use Rattle.std.proofs.Common.{◌≡◌, ℕ, zero, suc, ◌≤◌, Bool, true, false, cond, not, ◌&&◌, List, [], ◌∷◌, length, refl, ap, sym, ◌∙◌, arith, find, Option, Some, None, nat_eq, nat_lt, slice_get, codes, ◌⊎◌, inl, inr}
use Rattle.std.proofs.lemmas.Bool.Decides.{Decides-eqb, nat_tests}
use Rattle.std.specs.List.{starts_with, list_all}
use lib.Pointwise.{pointwise}
use Rattle.std.proofs.lemmas.Slice.Eq.{bytes_eq-Decides}
use Rattle.std.proofs.lemmas.Bool.{and_from as both}
use Rattle.sr_tree.specs.declared.token.Sign.{Sign}
use Rattle.sr_tree.specs.declared.token.Sign.TheVariants.{Exchange, Assign, Colon, Arrow, Decrement, Minus, Increment, Plus, Star, Parallel, Slash, Percent, Join, Equal, NotEqual, LessEqual, Less, GreaterEqual, Greater, OpenParen, CloseParen, Alternative, OpenBracket, CloseBracket, OpenBrace, CloseBrace, Comma, Point, Query}
use Rattle.sr_tree.specs.declared.token.Word.{Word}
use Rattle.sr_tree.specs.declared.token.Word.TheVariants as w
use Rattle.sr_lexer.specs.Symbols.{signs, sign_spelling, words, word_spelling, word_of, listed_sign, sign_at}
use Rattle.sr_lexer.proofs.PieceLemmas.{and_left, and_right}

-- each word is found by how it is written
pub word_known : (word : Word) → word_of (word_spelling word) ≡ Some word
unfolding word_of
word_known w.Af = refl
word_known w.And = refl
word_known w.Body = refl
word_known w.Bool = refl
word_known w.By = refl
word_known w.Call = refl
word_known w.Cap = refl
word_known w.Char = refl
word_known w.Co = refl
word_known w.Const = refl
word_known w.Create = refl
word_known w.Destroy = refl
word_known w.Do = refl
word_known w.Downto = refl
word_known w.Else = refl
word_known w.End = refl
word_known w.Enum = refl
word_known w.Exit = refl
word_known w.Fa = refl
word_known w.False = refl
word_known w.Fi = refl
word_known w.Final = refl
word_known w.Forward = refl
word_known w.Global = refl
word_known w.If = refl
word_known w.Import = refl
word_known w.In = refl
word_known w.Int = refl
word_known w.Mod = refl
word_known w.Next = refl
word_known w.Ni = refl
word_known w.Noop = refl
word_known w.Not = refl
word_known w.Null = refl
word_known w.Oc = refl
word_known w.Od = refl
word_known w.On = refl
word_known w.Op = refl
word_known w.OpType = refl
word_known w.Or = refl
word_known w.Proc = refl
word_known w.Procedure = refl
word_known w.Process = refl
word_known w.Rec = refl
word_known w.Receive = refl
word_known w.Reply = refl
word_known w.Res = refl
word_known w.Resource = refl
word_known w.Return = refl
word_known w.Returns = refl
word_known w.Sem = refl
word_known w.Send = refl
word_known w.Skip = refl
word_known w.St = refl
word_known w.Stop = refl
word_known w.String = refl
word_known w.To = refl
word_known w.True = refl
word_known w.«Type» = refl
word_known w.Val = refl
word_known w.Var = refl
word_known w.Vm = refl
word_known w.Xor = refl
word_known w.Real = refl
word_known w.Ptr = refl
word_known w.Union = refl
word_known w.File = refl
word_known w.Ref = refl
word_known w.External = refl
word_known w.Separate = refl
word_known w.Extend = refl

-- what is found by a text is written so
first_or : (text : List ℕ) (x word : Word) (rest : Option Word) (b : Bool) → pointwise nat_eq (word_spelling x) text ≡ b → cond b (Some x) rest ≡ Some word → (rest ≡ Some word → word_spelling word ≡ text) → word_spelling word ≡ text
first_or text x word rest true same e later = let here : x ≡ word = cc in ap word_spelling (sym here) ∙ (bytes_eq-Decides (word_spelling x) text).0 same
first_or text x word rest false other e later = later e

found_by : (text : List ℕ) (xs : List Word) (word : Word) → find (λ x. pointwise nat_eq (word_spelling x) text) xs ≡ Some word → word_spelling word ≡ text
found_by text [] word e = absurd (cc)
found_by text (x ∷ xs) word e = first_or text x word _ (pointwise nat_eq (word_spelling x) text) refl e (λ later. found_by text xs word later)

pub word_spelled : (text : List ℕ) (word : Word) → word_of text ≡ Some word → word_spelling word ≡ text
unfolding word_of
word_spelled text word e = found_by text words word e

-- where each sign stands in the list
listed : (sign : Sign) → (at : ℕ) × (slice_get signs at ≡ Some sign)
listed Exchange = (0, refl)
listed Assign = (1, refl)
listed Colon = (2, refl)
listed Arrow = (3, refl)
listed Decrement = (4, refl)
listed Minus = (5, refl)
listed Increment = (6, refl)
listed Plus = (7, refl)
listed Star = (8, refl)
listed Parallel = (9, refl)
listed Slash = (10, refl)
listed Percent = (11, refl)
listed Join = (12, refl)
listed Equal = (13, refl)
listed NotEqual = (14, refl)
listed LessEqual = (15, refl)
listed Less = (16, refl)
listed GreaterEqual = (17, refl)
listed Greater = (18, refl)
listed OpenParen = (19, refl)
listed CloseParen = (20, refl)
listed Alternative = (21, refl)
listed OpenBracket = (22, refl)
listed CloseBracket = (23, refl)
listed OpenBrace = (24, refl)
listed CloseBrace = (25, refl)
listed Comma = (26, refl)
listed Point = (27, refl)
listed Query = (28, refl)

-- the one sign is a part of the other's front, and shorter
is_shorter : Sign → Sign → Bool
is_shorter x y = starts_with nat_eq (sign_spelling y) (sign_spelling x) && nat_lt (length (sign_spelling x)) (length (sign_spelling y))

-- each sign stands before those that it begins with
is_ordered : List Sign → Bool
is_ordered [] = true
is_ordered (x ∷ xs) = list_all (λ y. not (is_shorter x y)) xs && is_ordered xs

signs_ordered : is_ordered signs ≡ true
unfolding is_ordered is_shorter
signs_ordered = refl

same_bytes : (x y z : ℕ) → nat_eq x z ≡ true → nat_eq y z ≡ true → nat_eq x y ≡ true
same_bytes x y z e f = (Decides-eqb x y).1 ((Decides-eqb x z).0 e ∙ sym ((Decides-eqb y z).0 f))

-- of two fronts of the same bytes the shorter is a front of the longer
front_of : (a b bytes : List ℕ) → starts_with nat_eq bytes a ≡ true → starts_with nat_eq bytes b ≡ true → length a ≤ length b → starts_with nat_eq b a ≡ true
front_of [] b bytes e f le = refl
front_of (x ∷ a) [] bytes e f le = absurd (omega arith)
front_of (x ∷ a) (y ∷ b) [] e f le = absurd (cc)
front_of (x ∷ a) (y ∷ b) (z ∷ bytes) e f le =
    both (nat_eq x y) (starts_with nat_eq b a)
    (same_bytes x y z (and_left (nat_eq x z) (starts_with nat_eq bytes a) e) (and_left (nat_eq y z) (starts_with nat_eq bytes b) f))
    (front_of a b bytes (and_right (nat_eq x z) (starts_with nat_eq bytes a) e) (and_right (nat_eq y z) (starts_with nat_eq bytes b) f) (omega arith))

-- what all items pass, each does
all_at : (test : Sign → Bool) (xs : List Sign) (at : ℕ) (h : Sign) → list_all test xs ≡ true → slice_get xs at ≡ Some h → test h ≡ true
all_at test [] at h e here = absurd (cc)
all_at test (x ∷ xs) zero h e here = let same : x ≡ h = cc in ap test (sym same) ∙ and_left (test x) (list_all test xs) e
all_at test (x ∷ xs) (suc at) h e here = all_at test xs at h (and_right (test x) (list_all test xs) e) here

below : (m n : ℕ) → nat_lt m n ≡ true → m ≤ n
below m n t = grind (arith, nat_tests)

not_below : (m n : ℕ) → nat_lt m n ≡ false → n ≤ m
not_below m n t = grind (arith, nat_tests)

fits_before : List ℕ → Sign → Bool
fits_before bytes sign = starts_with nat_eq bytes (sign_spelling sign)

-- a sign that fits is no longer than one that fits and stands before it
not_longer : (bytes : List ℕ) (x h : Sign) (b : Bool) → nat_lt (length (sign_spelling x)) (length (sign_spelling h)) ≡ b → fits_before bytes x ≡ true → fits_before bytes h ≡ true → not (is_shorter x h) ≡ true → length (sign_spelling h) ≤ length (sign_spelling x)
unfolding fits_before is_shorter
not_longer bytes x h true t e f none =
    let less : length (sign_spelling x) ≤ length (sign_spelling h) = below (length (sign_spelling x)) (length (sign_spelling h)) t in
    let shorter : is_shorter x h ≡ true = both _ _ (front_of (sign_spelling x) (sign_spelling h) bytes e f less) t in
    absurd (cc (ap not shorter))
not_longer bytes x h false t e f none = not_below (length (sign_spelling x)) (length (sign_spelling h)) t

one_found : (x g : Sign) (rest : Option Sign) (b : Bool) → cond b (Some x) rest ≡ Some g → ((b ≡ true) × (x ≡ g)) ⊎ ((b ≡ false) × (rest ≡ Some g))
one_found x g rest true e = let same : x ≡ g = cc in inl (refl, same)
one_found x g rest false e = inr (refl, e)

longest_of : (bytes : List ℕ) (xs : List Sign) (at : ℕ) (g h : Sign) → is_ordered xs ≡ true → slice_get xs at ≡ Some h → fits_before bytes h ≡ true → find (fits_before bytes) xs ≡ Some g → length (sign_spelling h) ≤ length (sign_spelling g)
unfolding is_ordered
longest_of bytes [] at g h ordered here fits e = absurd (cc)
longest_of bytes (x ∷ xs) zero g h ordered here fits e =
    let same : x ≡ h = cc in
    elim (one_found x g (find (fits_before bytes) xs) (fits_before bytes x) e) [
      | inl found ↦ omega (arith, ap (λ s. length (sign_spelling s)) found.1, ap (λ s. length (sign_spelling s)) same)
      | inr later ↦ absurd (cc (sym later.0 ∙ ap (fits_before bytes) same ∙ fits))
    ]
longest_of bytes (x ∷ xs) (suc at) g h ordered here fits e =
    elim (one_found x g (find (fits_before bytes) xs) (fits_before bytes x) e) [
      | inl found ↦ omega (arith, ap (λ s. length (sign_spelling s)) found.1, not_longer bytes x h _ refl found.0 fits (all_at (λ y. not (is_shorter x y)) xs at h (and_left _ (is_ordered xs) ordered) here))
      | inr later ↦ longest_of bytes xs at g h (and_right _ (is_ordered xs) ordered) here fits later.1
    ]

none_step : (bytes : List ℕ) (xs : List Sign) (x : Sign) (at : ℕ) (h : Sign) → slice_get (x ∷ xs) at ≡ Some h → (b : Bool) → fits_before bytes x ≡ b → cond b (Some x) (find (fits_before bytes) xs) ≡ None → ((n : ℕ) → slice_get xs n ≡ Some h → find (fits_before bytes) xs ≡ None → fits_before bytes h ≡ false) → fits_before bytes h ≡ false
none_step bytes xs x at h here true t e later = absurd (cc)
none_step bytes xs x zero h here false t e later = let same : x ≡ h = cc in ap (fits_before bytes) (sym same) ∙ t
none_step bytes xs x (suc at) h here false t e later = later at here e

-- where none is found none fits
none_of : (bytes : List ℕ) (xs : List Sign) (at : ℕ) (h : Sign) → slice_get xs at ≡ Some h → find (fits_before bytes) xs ≡ None → fits_before bytes h ≡ false
none_of bytes [] at h here e = absurd (cc)
none_of bytes (x ∷ xs) at h here e = none_step bytes xs x at h here (fits_before bytes x) refl e (λ n f later. none_of bytes xs n h f later)

is_tilde : Sign → Bool
is_tilde sign = starts_with nat_eq (sign_spelling sign) (codes "~=")

no_tilde : list_all (λ sign. not (is_tilde sign)) signs ≡ true
unfolding is_tilde
no_tilde = refl

-- what fits where `~=` stands is no longer than that
short_there : (bytes : List ℕ) (h : Sign) (b : Bool) → nat_lt 2 (length (sign_spelling h)) ≡ b → starts_with nat_eq bytes (codes "~=") ≡ true → fits_before bytes h ≡ true → length (sign_spelling h) ≤ 2
unfolding fits_before is_tilde
short_there bytes h true t tilde fits =
    let clash : is_tilde h ≡ true = front_of (codes "~=") (sign_spelling h) bytes tilde fits (below 2 (length (sign_spelling h)) t) in
    absurd (cc (ap not clash, all_at (λ sign. not (is_tilde sign)) signs (listed h).0 h no_tilde (listed h).1))
short_there bytes h false t tilde fits = not_below 2 (length (sign_spelling h)) t

longest_at : (bytes : List ℕ) (g h : Sign) (b : Bool) → starts_with nat_eq bytes (codes "~=") ≡ b → cond b (Some NotEqual) (listed_sign bytes) ≡ Some g → fits_before bytes h ≡ true → length (sign_spelling h) ≤ length (sign_spelling g)
unfolding listed_sign fits_before
longest_at bytes g h true tilde e fits =
    let same : NotEqual ≡ g = cc in
    omega (arith, ap (λ s. length (sign_spelling s)) same, short_there bytes h _ refl tilde fits)
longest_at bytes g h false tilde e fits = longest_of bytes signs (listed h).0 g h signs_ordered (listed h).1 fits e

none_at : (bytes : List ℕ) (h : Sign) (b : Bool) → cond b (Some NotEqual) (listed_sign bytes) ≡ None → fits_before bytes h ≡ false
unfolding listed_sign fits_before
none_at bytes h true e = absurd (cc)
none_at bytes h false e = none_of bytes signs (listed h).0 h (listed h).1 e

-- the longest sign is found
pub longest_sign : (bytes : List ℕ) (g h : Sign) → sign_at bytes ≡ Some g → starts_with nat_eq bytes (sign_spelling h) ≡ true → length (sign_spelling h) ≤ length (sign_spelling g)
unfolding fits_before
longest_sign bytes g h e fits = longest_at bytes g h _ refl e fits

pub no_sign : (bytes : List ℕ) (h : Sign) → sign_at bytes ≡ None → starts_with nat_eq bytes (sign_spelling h) ≡ false
unfolding fits_before
no_sign bytes h e = none_at bytes h _ e

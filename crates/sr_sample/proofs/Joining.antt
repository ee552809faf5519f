-- A text that is made piece by piece.
use Rattle.std.proofs.Common.{◌≡◌, ℕ, List, [], ◌∷◌, ◌++◌, append_assoc}
use Rattle.std.proofs.lemmas.List.{append-nil}
use Rattle.sr_sample.specs.Sample.{line_text, lines_text}

joined : (before first second third after : List ℕ)
    → before ++ line_text first ++ line_text second ++ line_text third ++ after ≡ before ++ lines_text (first ∷ second ∷ third ∷ []) ++ after
joined before first second third after = simp (append_assoc, append-nil {A = ℕ})

-- three lines between two texts
pub with_lines : (before first second third after text one two three whole end : List ℕ)
    → text ≡ before → one ≡ text ++ line_text first → two ≡ one ++ line_text second → three ≡ two ++ line_text third
    → end ≡ after → whole ≡ three ++ end
    → whole ≡ before ++ lines_text (first ∷ second ∷ third ∷ []) ++ after
with_lines before first second third after text one two three whole end starts adds_first adds_second adds_third ends adds_end =
    cc (joined before first second third after)

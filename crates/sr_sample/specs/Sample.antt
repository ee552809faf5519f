-- The sample program of a seed.
use Rattle.std.specs.Prelude.{ℕ, ◌+◌, ◌/◌, ◌%◌, List, [], ◌∷◌, ◌++◌, codes}
use Rattle.std.specs.List.{flat_map}
use Rattle.std.specs.Fmt.{decimal}

-- how many servers there are, how many clients, and how many calls each of them makes
abbrev pub servers_of : ℕ → ℕ
servers_of seed = 2 + seed % 7

abbrev pub clients_of : ℕ → ℕ
clients_of seed = 3 + (seed / 7) % 11

abbrev pub calls_of : ℕ → ℕ
calls_of seed = 50 + (seed / 77) % 150

-- a server answers each call with the product of the number that came with it and its own number
abbrev pub lines_before : List (List ℕ)
lines_before =
    codes "resource Server" ∷
    codes "  op ask(client, n : int) returns r : int" ∷
    codes "body Server(id : int)" ∷
    codes "  var served : int := 0" ∷
    codes "  process loop" ∷
    codes "    do true ->" ∷
    codes "      in ask(client, n) returns r by client -> served++; r := n * id ni" ∷
    codes "    od" ∷
    codes "  end" ∷
    codes "end" ∷
    codes "resource main()" ∷
    codes "  import Server" ∷
    []

-- the constants of the seed
abbrev pub constant_line : List ℕ → ℕ → List ℕ
constant_line name number = codes "  const " ++ name ++ codes " := " ++ decimal number

abbrev pub constant_lines : ℕ → List (List ℕ)
constant_lines seed =
    constant_line (codes "servers") (servers_of seed) ∷
    constant_line (codes "clients") (clients_of seed) ∷
    constant_line (codes "calls") (calls_of seed) ∷
    []

-- each client makes its calls of the servers in turn, and sends the sum of their answers; `main` writes the total
abbrev pub lines_after : List (List ℕ)
lines_after =
    codes "  op finished(sum : int)" ∷
    codes "  var s[1:servers] : cap Server" ∷
    codes "  var total : int := 0" ∷
    codes "  var part : int" ∷
    codes "  fa i := 1 to servers -> s[i] := create Server(i) af" ∷
    codes "  process client(c := 1 to clients)" ∷
    codes "    var sum : int := 0" ∷
    codes "    fa j := 1 to calls -> sum := sum + s[(c + j) % servers + 1].ask(c, j) af" ∷
    codes "    send finished(sum)" ∷
    codes "  end" ∷
    codes "  fa i := 1 to clients -> receive finished(part); total := total + part af" ∷
    codes "  write(\"servers\", servers, \"clients\", clients, \"calls\", clients * calls, \"total\", total)" ∷
    codes "end" ∷
    []

-- a line ends with a newline
abbrev pub line_text : List ℕ → List ℕ
line_text line = line ++ 10 ∷ []

abbrev pub lines_text : List (List ℕ) → List ℕ
lines_text lines = flat_map line_text lines

abbrev pub sample_text : ℕ → List ℕ
sample_text seed = lines_text lines_before ++ lines_text (constant_lines seed) ++ lines_text lines_after

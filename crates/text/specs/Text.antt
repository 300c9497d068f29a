-- The report's lines, to the byte. Assumes nothing.
use Rattle.std.specs.Prelude.{ℕ, zero, suc, ◌+◌, ◌/◌, ◌%◌, List, [], ◌∷◌, ◌++◌, cond, ltb}
use Prim.Native.Char.{code}
use Prim.Native.String.{String}

-- a text's bytes
unfoldable pub ascii : String → List ℕ
ascii String.[] = []
ascii (String.◌∷◌ c s) = code c ∷ ascii s

-- x in decimal, without leading zeros, by its last f digits at most
unfoldable pub decimal_in : ℕ → ℕ → List ℕ
decimal_in zero x = []
decimal_in (suc f) x = cond (ltb x 10) ((48 + x) ∷ []) (decimal_in f (x / 10) ++ ((48 + x % 10) ∷ []))

-- a 64-bit number has at most 20 digits
abbrev pub decimal : ℕ → List ℕ
decimal x = decimal_in 20 x

-- a text and a number behind it
abbrev pub labelled : String → ℕ → List ℕ
labelled s x = ascii s ++ decimal x

-- graph 5 nodes 5 edges 4 nonterminals 7 rules
unfoldable pub opening_line : ℕ → ℕ → ℕ → ℕ → List ℕ
opening_line nodes edges nonterminals rules =
    labelled "graph " nodes ++ labelled " nodes " edges ++ labelled " edges " nonterminals ++ labelled " nonterminals " rules ++ ascii " rules\n"

-- the edge numbers of a path, each behind a space
unfoldable pub path_text : List ℕ → List ℕ
path_text [] = []
path_text (e ∷ p) = labelled " " e ++ path_text p

-- 0 3 h 3 m 1 l 3 : 0 1 2, up to the colon: i, j, height, middle and length; behind it come the edge numbers
unfoldable pub pair_head : ℕ → ℕ → ℕ → ℕ → ℕ → List ℕ
pair_head i j height middle len =
    decimal i ++ labelled " " j ++ labelled " h " height ++ labelled " m " middle ++ labelled " l " len ++ ascii " :"

-- pairs 5 depth 4
unfoldable pub closing_line : ℕ → ℕ → List ℕ
closing_line pairs depth = labelled "pairs " pairs ++ labelled " depth " depth ++ ascii "\n"

-- refused 6 at 1
unfoldable pub refused_line : ℕ → ℕ → List ℕ
refused_line number place = labelled "refused " number ++ labelled " at " place ++ ascii "\n"

-- The rules at small inputs, computed: a GLOB row, two Principal rows and a DATA row between them, three of them with one address.
use Prim.Native.Nat.{ℕ}
use mathlib.Core.List.{List, [], ◌∷◌, ◌++◌}
use mathlib.Core.Path.{◌≡◌, refl}
use Rattle.octets.specs.Paper.Paper.{accepts, refuses}
use Rattle.block.specs.Kinds.{code_number, kind_of}
use Rattle.index.specs.Index.{first_at, numbers_from, heads_of, links_of, indexed_as, heads_after, links_after, chain, chain_from, found_as}

abbrev row : ℕ → ℕ → List ℕ
row code address = code ∷ address ∷ 0 ∷ 1 ∷ 0 ∷ 0 ∷ 0 ∷ []

abbrev rows : List ℕ
rows = row (code_number "GLOB") 16 ++ row 1329725440 16 ++ row (code_number "DATA") 17 ++ row 1329725440 16

-- the index with two buckets, and with more than there are addresses; the numbers past those used stay
built : (heads_after rows 4 2 (9 ∷ 9 ∷ 9 ∷ []) (9 ∷ 9 ∷ 9 ∷ 9 ∷ []) ≡ 1 ∷ 3 ∷ 9 ∷ []) × (links_after rows 4 2 (9 ∷ 9 ∷ 9 ∷ []) (9 ∷ 9 ∷ 9 ∷ 9 ∷ []) ≡ 2 ∷ 4 ∷ 0 ∷ 0 ∷ [])
    × (heads_of rows 4 5 ≡ 0 ∷ 1 ∷ 3 ∷ 0 ∷ 0 ∷ []) × (heads_of rows 0 2 ≡ 0 ∷ 0 ∷ []) × (links_of rows 2 2 ≡ 2 ∷ 0 ∷ [])
unfolding first_at numbers_from heads_of links_of
built = (refl, refl, refl, refl, refl)

-- 13 before 14; no bucket asked, one needed; one table too short, or both
refused : (indexed_as rows 5 0 [] [] ≡ refuses 13 []) × (indexed_as rows 4 0 [] (0 ∷ 0 ∷ 0 ∷ 0 ∷ []) ≡ refuses 14 (1 ∷ 4 ∷ [])) × (indexed_as rows 4 2 (0 ∷ []) (0 ∷ 0 ∷ 0 ∷ 0 ∷ []) ≡ refuses 14 (2 ∷ 4 ∷ []))
    × (indexed_as rows 4 2 (0 ∷ 0 ∷ []) (0 ∷ 0 ∷ 0 ∷ []) ≡ refuses 14 (2 ∷ 4 ∷ [])) × (indexed_as rows 0 1 (0 ∷ []) [] ≡ accepts 0 [])
refused = (refl, refl, refl, refl, refl)

-- the first of two with that address, past the GLOB row before them; the DATA row; an address that no row has, in a bucket that has some; address 0
found : (found_as rows 4 2 (1 ∷ 3 ∷ []) (2 ∷ 4 ∷ 0 ∷ 0 ∷ []) 16 ≡ accepts 1 (1 ∷ [])) × (found_as rows 4 2 (1 ∷ 3 ∷ []) (2 ∷ 4 ∷ 0 ∷ 0 ∷ []) 17 ≡ accepts 1 (2 ∷ []))
    × (found_as rows 4 2 (1 ∷ 3 ∷ []) (2 ∷ 4 ∷ 0 ∷ 0 ∷ []) 18 ≡ accepts 2 []) × (found_as rows 4 2 (1 ∷ 3 ∷ []) (2 ∷ 4 ∷ 0 ∷ 0 ∷ []) 0 ≡ accepts 0 [])
unfolding found_as chain_from chain kind_of
found = (refl, refl, refl, refl)

-- other numbers: a head past the rows; a link that stays, one that falls; the first number has nothing to rise over; a match before a bad link; a row of another bucket
odd : (found_as rows 4 2 (5 ∷ 0 ∷ []) (0 ∷ 0 ∷ 0 ∷ 0 ∷ []) 16 ≡ refuses 13 []) × (found_as rows 4 2 (1 ∷ 0 ∷ []) (1 ∷ 0 ∷ 0 ∷ 0 ∷ []) 16 ≡ refuses 13 [])
    × (found_as rows 4 2 (3 ∷ 0 ∷ []) (0 ∷ 0 ∷ 2 ∷ 0 ∷ []) 16 ≡ refuses 13 []) × (found_as rows 4 2 (4 ∷ 0 ∷ []) (0 ∷ 0 ∷ 0 ∷ 9 ∷ []) 16 ≡ accepts 1 (3 ∷ []))
    × (found_as rows 4 2 (3 ∷ 0 ∷ []) (0 ∷ 0 ∷ 4 ∷ 0 ∷ []) 16 ≡ accepts 1 (3 ∷ []))
unfolding found_as chain_from chain kind_of
odd = (refl, refl, refl, refl, refl)

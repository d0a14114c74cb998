-- The rules at small inputs, computed.
use Prim.Native.Nat.{ℕ}
use mathlib.Core.List.{List, [], ◌∷◌, ◌++◌}
use mathlib.Core.Path.{◌≡◌, refl}
use Rattle.octets.specs.Paper.Paper.{accepts, refuses}
use Rattle.block.specs.Kinds.{kind_of}
use Rattle.runtime.specs.Views.{view_as, part_as}
use Rattle.runtime.specs.Addresses.{seek, lookup_as, code_as}

-- Three rows: a GLOB, an OB and a DATA, all with the address 5.
abbrev table : List ℕ
table = (1196183362 ∷ 5 ∷ 0 ∷ 1 ∷ 0 ∷ 0 ∷ 2 ∷ []) ++ (1329725440 ∷ 5 ∷ 0 ∷ 1 ∷ 0 ∷ 3 ∷ 0 ∷ []) ++ (1145132097 ∷ 5 ∷ 0 ∷ 1 ∷ 0 ∷ 4 ∷ 0 ∷ [])

-- the first that is found by its address is the OB; two rows fewer find nothing; more rows than there are; Null; parts in a file of 3 bytes
searches : (lookup_as table 3 5 ≡ accepts 1 (1 ∷ [])) × (lookup_as table 1 5 ≡ accepts 2 []) × (lookup_as table 4 0 ≡ refuses 13 []) × (lookup_as table 3 0 ≡ accepts 0 [])
    × (part_as (7 ∷ 8 ∷ 9 ∷ []) table 0 ≡ 7 ∷ 8 ∷ []) × (view_as (7 ∷ 8 ∷ 9 ∷ []) table 1 ≡ accepts 0 []) × (view_as (7 ∷ 8 ∷ 9 ∷ []) table 2 ≡ refuses 13 []) × (view_as (7 ∷ 8 ∷ 9 ∷ []) table 3 ≡ refuses 13 [])
unfolding lookup_as seek kind_of view_as part_as
searches = (refl, refl, refl, refl, refl, refl, refl, refl)

-- codes: of an OB its bytes; of DATA, of no block code and of a number over 2^32-1 none
codes : (code_as 1329725440 ≡ accepts 0 (79 ∷ 66 ∷ 0 ∷ 0 ∷ [])) × (code_as 1145132097 ≡ accepts 1 []) × (code_as 1329725441 ≡ accepts 1 []) × (code_as 4294967296 ≡ accepts 1 [])
unfolding code_as kind_of
codes = (refl, refl, refl, refl)

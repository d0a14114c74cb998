-- The rules at small inputs, computed, and two laws of padding.
use Prim.Native.Nat.{ℕ, ◌+◌, ◌*◌, ◌%◌, ◌≤◌}
use mathlib.Core.List.{List, [], ◌∷◌, ◌++◌}
use mathlib.Core.Path.{◌≡◌, refl}
use native.Mathlib.Omega.{arith}
use Rattle.octets.specs.declared.Endianness.TheVariants.{Little, Big}
use Rattle.octets.specs.declared.Fault.TheVariants.{Cut, Mark}
use Rattle.octets.specs.Ascii.{ascii}
use Rattle.octets.specs.Paper.Paper.{accepts, refuses}
use Rattle.octets.specs.Looks.{looks}
use Rattle.octets.specs.Reader.{run, then, times}
use Rattle.octets.specs.Reader.Outcome.{read, fault}
use Rattle.dna.specs.Catalogue.{catalogue, listed, strings, sized, struct, structured, padding, rooms, read_as, answer_for, field_count, pairs, type_rows, struct_rows, field_rows, names_table, types_table, structs_table, fields_table}

-- A catalogue with the name "x", the type "int" of size 4 and one struct of type 0 with the field (0, 0); its padding holds sevens.
unfoldable small : List ℕ
small =
    ascii "SDNANAME" ++ (1 ∷ 0 ∷ 0 ∷ 0 ∷ 120 ∷ 0 ∷ 7 ∷ 7 ∷ []) ++ ascii "TYPE" ++ (1 ∷ 0 ∷ 0 ∷ 0 ∷ []) ++ ascii "int" ++ (0 ∷ [])
    ++ ascii "TLEN" ++ (4 ∷ 0 ∷ 7 ∷ 7 ∷ []) ++ ascii "STRC" ++ (1 ∷ 0 ∷ 0 ∷ 0 ∷ 0 ∷ 0 ∷ 1 ∷ 0 ∷ 0 ∷ 0 ∷ 0 ∷ 0 ∷ [])

catalogued : run (catalogue Little) small 0 ≡ read (record { names = (12, 1) ∷ []; types = (24, 3) ∷ []; sizes = 4 ∷ []; structs = (0, ((0, 0) ∷ [])) ∷ [] }) 52
unfolding run then times catalogue listed strings sized structured struct small
catalogued = refl

-- which of its bytes are looked at: not the padding at 14 and at 34
looked : looks (catalogue Little) small 0 ≡ (0, 4) ∷ (4, 4) ∷ (8, 4) ∷ (12, 2) ∷ (16, 4) ∷ (20, 4) ∷ (24, 4) ∷ (28, 4) ∷ (32, 2) ∷ (36, 4) ∷ (40, 4) ∷ (44, 2) ∷ (46, 2) ∷ (48, 2) ∷ (50, 2) ∷ []
unfolding run then times catalogue listed strings sized structured struct small
looked = refl

-- Two names, the second empty: 3 bytes with their zeros, so 1 of padding. No types. Two structs, of 1 and of 2 fields: the first field rows are 0 and 1.
unfoldable wide : List ℕ
wide =
    ascii "SDNANAME" ++ (0 ∷ 0 ∷ 0 ∷ 2 ∷ 120 ∷ 0 ∷ 0 ∷ 9 ∷ []) ++ ascii "TYPE" ++ (0 ∷ 0 ∷ 0 ∷ 0 ∷ []) ++ ascii "TLEN" ++ ascii "STRC" ++ (0 ∷ 0 ∷ 0 ∷ 2 ∷ [])
    ++ (0 ∷ 5 ∷ 0 ∷ 1 ∷ 0 ∷ 6 ∷ 1 ∷ 0 ∷ []) ++ (0 ∷ 8 ∷ 0 ∷ 2 ∷ 0 ∷ 1 ∷ 0 ∷ 2 ∷ 0 ∷ 3 ∷ 0 ∷ 4 ∷ []) ++ ascii "and more"

-- the counts, a table one row short, and what the tables hold afterwards
tabled : (read_as (run (catalogue Big) wide 0) (rooms 4 0 6 6) ≡ accepts 0 (2 ∷ 0 ∷ 2 ∷ 3 ∷ [])) × (read_as (run (catalogue Big) wide 0) (rooms 4 0 5 5) ≡ refuses 8 (3 ∷ 2 ∷ []))
    × (read_as (run (catalogue Little) wide 0) (rooms 0 0 0 0) ≡ refuses 16 (55 ∷ []))
    × (names_table (run (catalogue Big) wide 0) (rooms 5 0 6 6) (7 ∷ 7 ∷ 7 ∷ 7 ∷ 7 ∷ []) ≡ 12 ∷ 1 ∷ 14 ∷ 0 ∷ 7 ∷ [])
    × (types_table (run (catalogue Big) wide 0) (rooms 4 1 6 6) (7 ∷ []) ≡ 7 ∷ [])
    × (structs_table (run (catalogue Big) wide 0) (rooms 4 0 6 6) (7 ∷ 7 ∷ 7 ∷ 7 ∷ 7 ∷ 7 ∷ []) ≡ 5 ∷ 0 ∷ 1 ∷ 8 ∷ 1 ∷ 2 ∷ [])
    × (fields_table (run (catalogue Big) wide 0) (rooms 4 0 6 6) (7 ∷ 7 ∷ 7 ∷ 7 ∷ 7 ∷ 7 ∷ []) ≡ 6 ∷ 256 ∷ 1 ∷ 2 ∷ 3 ∷ 4 ∷ [])
    × (fields_table (run (catalogue Big) wide 0) (rooms 3 0 6 6) (7 ∷ 7 ∷ 7 ∷ 7 ∷ 7 ∷ 7 ∷ []) ≡ 7 ∷ 7 ∷ 7 ∷ 7 ∷ 7 ∷ 7 ∷ [])
unfolding run then times catalogue listed strings sized structured struct wide read_as answer_for field_count pairs type_rows struct_rows field_rows
tabled = (refl, refl, refl, refl, refl, refl, refl, refl)

-- the earliest read that fails stops the reading: a mark that is another, and a list that ends before its count
stopped : (run (catalogue Little) (ascii "SDNANAMF") 0 ≡ fault (Mark 4)) × (run (catalogue Little) (ascii "SDNANAME" ++ (255 ∷ 255 ∷ 255 ∷ 255 ∷ 120 ∷ 0 ∷ [])) 0 ≡ fault (Cut 14))
unfolding run then times catalogue listed strings sized structured struct
stopped = (refl, refl)

-- m sizes of 2 bytes have padding of 2 bytes if m is odd, and none if it is even
sizes-padding : (m : ℕ) → padding (2 * m) ≡ 2 * (m % 2)
sizes-padding m = omega arith

-- The Rust adds one until the sum divides by four. That is the same number: the sum with the padding does, and with fewer it does not.
padding-first : (n : ℕ) → ((n + padding n) % 4 ≡ 0) × ((k : ℕ) → (n + k) % 4 ≡ 0 → padding n ≤ k)
padding-first n = (omega arith, λ k e. omega (arith, e))

-- Rows: a block as numbers in a table, a column for each, and the rows that a table spells.
use Rattle.std.specs.Prelude.{ℕ, zero, suc, ◌+◌, ◌*◌, ◌/◌, List, [], ◌∷◌, ◌++◌, length, get_or, take, drop}
use Rattle.header.specs.declared.Header.{Header}
use Rattle.header.specs.Layout.{block_header_length}
use Rattle.block.specs.declared.BlockHeader.{BlockHeader}
use Rattle.block.specs.declared.Row.{Row}

-- The columns in order: the code, the address, the index and the count as the block header has them, where the header starts, where the payload
-- starts, and how long it is.
pub data Column : Type 0 where
  code : Column
  address : Column
  index : Column
  count : Column
  at : Column
  payload : Column
  len : Column

abbrev pub columns : List Column
columns = code ∷ address ∷ index ∷ count ∷ at ∷ payload ∷ len ∷ []

-- how many there are, and which is which (proofs/Tables.antt: as `columns` has them)
abbrev pub per_row : ℕ
per_row = 7

abbrev pub column_of : Column → ℕ
column_of code = 0
column_of address = 1
column_of index = 2
column_of count = 3
column_of at = 4
column_of payload = 5
column_of len = 6

abbrev pub number_in : Row → Column → ℕ
number_in r code = r.code
number_in r address = r.address
number_in r index = r.index
number_in r count = r.count
number_in r at = r.at
number_in r payload = r.payload
number_in r len = r.len

abbrev pub numbers_in : Row → List Column → List ℕ
numbers_in r [] = []
numbers_in r (c ∷ cs) = number_in r c ∷ numbers_in r cs

abbrev pub row_numbers : Row → List ℕ
row_numbers r = numbers_in r columns

unfoldable pub row_table : List Row → List ℕ
row_table [] = []
row_table (r ∷ rs) = row_numbers r ++ row_table rs

-- a number of a row in a table
abbrev pub cell : List ℕ → ℕ → Column → ℕ
cell t row c = get_or t (row * per_row + column_of c) 0

-- the row that a table of numbers spells
abbrev pub row_spelt : List ℕ → ℕ → Row
row_spelt t row =
    record {
      code = cell t row code;
      address = cell t row address;
      index = cell t row index;
      count = cell t row count;
      at = cell t row at;
      payload = cell t row payload;
      len = cell t row len;
    }

-- n rows from a row on, and as many as the table has room for. Rows spell themselves (proofs/Tables.antt, `spells`)
unfoldable pub rows_spelt : List ℕ → (n row : ℕ) → List Row
rows_spelt t zero row = []
rows_spelt t (suc n) row = row_spelt t row ∷ rows_spelt t n (row + 1)

unfoldable pub spelt : List ℕ → List Row
unfolding rows_spelt
spelt t = rows_spelt t (length t / per_row) 0

-- What stands past the last of a list of rows. Its address is 0, which is Null before any row is looked at, so no search finds it.
abbrev pub none : Row
none = record { code = 0; address = 0; index = 0; count = 0; at = 0; payload = 0; len = 0 }

-- The row of a block: what its header says, with its offsets. The payload starts where the tree of the block header ends (proofs/Layouts.antt,
-- `block_header_moves`), and the next boundary is where it ends (crates/blend/proofs/Rows.antt, `Lies`).
abbrev pub row_of : Header → ℕ → BlockHeader → Row
row_of h from b =
    record { code = b.code; address = b.address; index = b.index; count = b.count; at = from; payload = from + block_header_length h.format h.pointer_size; len = b.size }

-- the payload that a row tells of
abbrev pub payload_of : List ℕ → Row → List ℕ
payload_of s r = take r.len (drop r.payload s)

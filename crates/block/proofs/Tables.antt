-- Laws of rows in a table: the columns, and that rows spell themselves.
use Prim.Native.Nat.{ℕ, zero, suc, ◌+◌, ◌*◌, ◌/◌, ◌<◌}
use mathlib.Core.List.{List, [], ◌∷◌, ◌++◌, append-nil}
use mathlib.Core.Path.{◌≡◌, refl, sym, ◌∙◌, ap}
use native.Mathlib.Nat.{mul-suc}
use native.Mathlib.Omega.{arith}
use lib.ListN.{length, get_or}
use lib.Seq.{get_or-append-add}
use Rattle.block.specs.declared.Row.{Row}
use Rattle.block.specs.Rows.{Column, columns, per_row, column_of, row_numbers, row_table, cell, row_spelt, rows_spelt, spelt, none}

-- there are as many numbers in a row as columns, and each column is where it is said to be
per_row_lem : length columns ≡ per_row
per_row_lem = refl

each_column : (c : Column) → get_or columns (column_of c) Column.code ≡ c
each_column Column.code = refl
each_column Column.address = refl
each_column Column.index = refl
each_column Column.count = refl
each_column Column.at = refl
each_column Column.payload = refl
each_column Column.len = refl

pub table-length : (rs : List Row) → length (row_table rs) ≡ per_row * length rs
unfolding row_table
table-length [] = refl
table-length (r ∷ rs) = omega (arith, table-length rs, mul-suc per_row (length rs))

-- how many rows a table spells, and which
pub rows-many : (t : List ℕ) (n row : ℕ) → length (rows_spelt t n row) ≡ n
unfolding rows_spelt
rows-many t zero row = refl
rows-many t (suc n) row = ap suc (rows-many t n (row + 1))

pub row_at : (t : List ℕ) (n row i : ℕ) → i < n → get_or (rows_spelt t n row) i none ≡ row_spelt t (row + i)
unfolding rows_spelt
row_at t zero row i h = absurd (omega arith)
row_at t (suc n) row zero h =
    let e : row ≡ row + 0 = omega arith in
    ap (row_spelt t) e
row_at t (suc n) row (suc i) h =
    let e : row + 1 + i ≡ row + suc i = omega arith in
    row_at t n (row + 1) i (omega arith) ∙ ap (row_spelt t) e

-- rows spell themselves, whatever the table holds after them
cell-on : (r : Row) (t : List ℕ) (row : ℕ) (c : Column) → cell (row_numbers r ++ t) (row + 1) c ≡ cell t row c
cell-on r t row c =
    let e : (row + 1) * per_row + column_of c ≡ per_row + (row * per_row + column_of c) = omega arith in
    ap (λ (i : ℕ). get_or (row_numbers r ++ t) i 0) e ∙ get_or-append-add (row_numbers r) t (row * per_row + column_of c) 0

rows_on : (r : Row) (t : List ℕ) (n row : ℕ) → rows_spelt (row_numbers r ++ t) n (row + 1) ≡ rows_spelt t n row
unfolding rows_spelt
rows_on r t zero row = refl
rows_on r t (suc n) row =
    let on = cell-on r t row in
    rw (on Column.code, on Column.address, on Column.index, on Column.count, on Column.at, on Column.payload, on Column.len, rows_on r t n (row + 1)) refl

pub all-rows : (rs : List Row) (rest : List ℕ) → rows_spelt (row_table rs ++ rest) (length rs) 0 ≡ rs
unfolding rows_spelt row_table
all-rows [] rest = refl
all-rows (r ∷ rs) rest = ap (λ (l : List Row). r ∷ l) (rows_on r (row_table rs ++ rest) (length rs) 0 ∙ all-rows rs rest)

pub spells : (rs : List Row) → spelt (row_table rs) ≡ rs
unfolding spelt
spells rs =
    let e : length (row_table rs) / per_row ≡ length rs = omega (arith, table-length rs) in
    ap (λ (n : ℕ). rows_spelt (row_table rs) n 0) e ∙ ap (λ (t : List ℕ). rows_spelt t (length rs) 0) (sym (append-nil (row_table rs))) ∙ all-rows rs []

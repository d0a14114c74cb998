-- Which row a form has no room for, and how long a file is: row by row.
use Rattle.std.specs.Prelude.{Result, Ok, Err, Option, Some, None}
use Rattle.std.specs.Option.{ok_or}
use Prim.Native.Nat.{ℕ, ◌+◌, ◌-◌, ◌^◌, ◌≤◌, ◌<◌}
use mathlib.Core.Bool.{Bool, true, false}
use mathlib.Core.List.{List}
use mathlib.Core.Path.{◌≡◌, refl, sym, ◌∙◌, ap}
use native.Mathlib.Omega.{arith}
use borrow.Author.Tests.{lt-ltb, le-ltb}
use lib.Dec.{ltb}
use Rattle.octets.specs.declared.Refusal.TheVariants.{ProductTooLarge}
use Rattle.octets.specs.declared.Fault.{Fault}
use Rattle.octets.proofs.Tests.{held, failed}
use Rattle.header.specs.declared.FileFormat.{FileFormat}
use Rattle.header.specs.declared.FileFormat.TheVariants.{Legacy, New}
use Rattle.header.specs.declared.Header.{Header}
use Rattle.header.specs.Header.{header_length}
use Rattle.header.specs.HeaderOut.{header_fits}
use Rattle.header.specs.Layout.{block_header_length}
use Rattle.block.specs.declared.Row.{Row}
use Rattle.block.specs.Rows.{row_spelt, rows_spelt}
use Rattle.block.specs.Spelling.{row_fits}
use Rattle.block.proofs.Tables.{rows-many}
use Rattle.writable.specs.declared.writable.WritableError.{WritableError}
use Rattle.writable.specs.Helpers.{before, length_of}
use Rattle.writable.specs.Writable.{first_unfit, blocks_length, file_length, counted, fitted}
use Rattle.writable.proofs.Judging.{rows_more, rows_none}

-- The first row that has no room, among those that are left.
module _ (h : Header) (t : List ℕ) (rows row : ℕ) where
  abbrev unfit : ℕ
  unfit = first_unfit h (rows_spelt t (rows - row) row) row

  module _ (k : row < rows) (r : Row) (g : r ≡ row_spelt t row) where
    next-unfit : unfit ≡ (elim (row_fits h r) as (λ b. ℕ) [ true ↦ first_unfit h (rows_spelt t (rows - (row + 1)) (row + 1)) (row + 1) | false ↦ row ])
    unfolding first_unfit
    next-unfit =
        ap (λ (rs : List Row). first_unfit h rs row) (rows_more t rows row k)
        ∙ ap (λ (q : Row). elim (row_fits h q) as (λ b. ℕ) [ true ↦ first_unfit h (rows_spelt t (rows - (row + 1)) (row + 1)) (row + 1) | false ↦ row ]) (sym g)

    pub unfit-here : row_fits h r ≡ false → row ≡ unfit
    unfit-here f = sym (next-unfit ∙ failed _ _ f)

    pub unfit_later : row_fits h r ≡ true → unfit ≡ first_unfit h (rows_spelt t (rows - (row + 1)) (row + 1)) (row + 1)
    unfit_later f = next-unfit ∙ held _ _ f

  unfit-none : rows ≤ row → row ≡ unfit
  unfolding first_unfit
  unfit-none k = sym (ap (λ (rs : List Row). first_unfit h rs row) (rows_none t rows row k))

  module _ (i : first_unfit h (rows_spelt t rows 0) 0 ≡ unfit) where
    pub first-here : row < rows → row ≡ unfit → Some row ≡ before (first_unfit h (rows_spelt t rows 0) 0) rows
    first-here k e =
        let l : first_unfit h (rows_spelt t rows 0) 0 < rows = omega (arith, i, e, k) in
        ap Some (e ∙ sym i) ∙ sym (held _ _ (lt-ltb _ _ l))

    pub first-none : rows ≤ row → None ≡ before (first_unfit h (rows_spelt t rows 0) 0) rows
    first-none k =
        let l : rows ≤ first_unfit h (rows_spelt t rows 0) 0 = omega (arith, i, unfit-none k, k) in
        sym (failed _ _ (le-ltb _ _ l))

-- a file header has at most 17 bytes
pub header_at-most : (f : FileFormat) → header_length f ≤ 17
header_at-most Legacy = omega arith
header_at-most New = omega arith

-- Lengths that 64 bits hold, and those that they do not.
module _ (n : ℕ) where
  pub over-is : 2 ^ 64 - 1 < n → None ≡ length_of n
  over-is h = sym (held _ _ (lt-ltb _ _ h))

  pub within-is : n ≤ 2 ^ 64 - 1 → Some n ≡ length_of n
  within-is h = sym (failed _ _ (le-ltb _ _ h))

-- why a length that they do not is refused
abbrev pub too_large : WritableError
too_large = WritableError.Fault (Fault.Refusal ProductTooLarge)

pub long-counted : (n : ℕ) → ok_or (length_of n) too_large ≡ counted n
long-counted n = go (ltb (2 ^ 64 - 1) n)
  where
    go : (b : Bool) → ok_or (elim b as (λ c. Option ℕ) [ true ↦ None | false ↦ Some n ]) too_large ≡ (elim b as (λ c. Result ℕ WritableError) [ true ↦ Err too_large | false ↦ Ok n ])
    go true = refl
    go false = refl

-- The file's length, row by row.
module _ (header : ℕ) (t : List ℕ) (rows row : ℕ) where
  pub blocks_more : row < rows → (r : Row) → r ≡ row_spelt t row
      → blocks_length header (rows_spelt t (rows - row) row) ≡ header + r.len + blocks_length header (rows_spelt t (rows - (row + 1)) (row + 1))
  unfolding blocks_length
  blocks_more k r g =
      ap (blocks_length header) (rows_more t rows row k) ∙ ap (λ (q : Row). header + q.len + blocks_length header (rows_spelt t (rows - (row + 1)) (row + 1))) (sym g)

  pub blocks-none : rows ≤ row → blocks_length header (rows_spelt t (rows - row) row) ≡ 0
  unfolding blocks_length
  blocks-none k = ap (blocks_length header) (rows_none t rows row k)

-- The sum so far, and what is left of the rows.
module _ (h : Header) (t : List ℕ) (rows first header : ℕ) (e : first ≡ header_length h.format) (g : header ≡ block_header_length h.format h.pointer_size) (sum row : ℕ) where
  abbrev left : ℕ
  left = blocks_length header (rows_spelt t (rows - row) row)

  module _ (i : first + 4 + blocks_length header (rows_spelt t rows 0) ≡ sum + left) where
    whole : file_length h (rows_spelt t rows 0) ≡ sum + left
    whole =
        let w : file_length h (rows_spelt t rows 0) ≡ first + blocks_length header (rows_spelt t rows 0) + 4 = rw (e, g) refl in
        omega (arith, w, i)

    module _ (k : row < rows) (r : Row) (q : r ≡ row_spelt t row) where
      pub sum_over : 2 ^ 64 - 1 < sum + (header + r.len) → None ≡ length_of (file_length h (rows_spelt t rows 0))
      sum_over o =
          let b : 2 ^ 64 - 1 < file_length h (rows_spelt t rows 0) = omega (arith, whole, blocks_more header t rows row k r q, o) in
          over-is _ b

      pub sum_more : (n : ℕ) → n ≡ sum + (header + r.len)
          → first + 4 + blocks_length header (rows_spelt t rows 0) ≡ n + blocks_length header (rows_spelt t (rows - (row + 1)) (row + 1))
      sum_more n w = omega (arith, i, blocks_more header t rows row k r q, w)

    pub sum-ends : rows ≤ row → sum ≤ 2 ^ 64 - 1 → Some sum ≡ length_of (file_length h (rows_spelt t rows 0))
    sum-ends k b =
        let w : sum ≡ file_length h (rows_spelt t rows 0) = omega (arith, whole, blocks-none header t rows row k) in
        ap Some w ∙ within-is _ (rw (← w) b)

-- What is answered of rows that the reader would take.
module _ (h : Header) (t : List ℕ) (rows : ℕ) where
  abbrev rs : List Row
  rs = rows_spelt t rows 0

  pub no-room-header : header_fits h ≡ false → Err (WritableError.NoRoom rows) ≡ fitted h rs
  no-room-header f = ap (λ (n : ℕ). Err (WritableError.NoRoom n)) (sym (rows-many t rows 0)) ∙ sym (failed _ _ f)

  -- by the first row that has no room
  abbrev by_first : Option ℕ → Result ℕ WritableError
  by_first (Some row) = Err (WritableError.NoRoom row)
  by_first None = counted (file_length h rs)

  pub fitted_by : header_fits h ≡ true → (o : Option ℕ) → o ≡ before (first_unfit h rs 0) rows → by_first o ≡ fitted h rs
  fitted_by f o e = sym (held _ _ f ∙ ap by_test (ap (ltb (first_unfit h rs 0)) (rows-many t rows 0)) ∙ go (ltb (first_unfit h rs 0) rows) ∙ ap by_first (sym e))
    where
      by_test : Bool → Result ℕ WritableError
      by_test b = elim b [ true ↦ Err (WritableError.NoRoom (first_unfit h rs 0)) | false ↦ counted (file_length h rs) ]

      go : (b : Bool) → by_test b ≡ by_first (elim b as (λ c. Option ℕ) [ true ↦ Some (first_unfit h rs 0) | false ↦ None ])
      go true = refl
      go false = refl

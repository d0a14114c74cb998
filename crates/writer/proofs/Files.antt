-- The file that is written: how long it is, its blocks one after another, and what the writer answers.
use Rattle.std.specs.Prelude.{Ok, None}
use Prim.Native.Nat.{ℕ, ◌+◌, ◌-◌, ◌/◌, ◌≤◌, ◌<◌}
use mathlib.Core.List.{List, [], ◌∷◌, ◌++◌}
use mathlib.Core.Path.{◌≡◌, refl, sym, ◌∙◌, ap, subst}
use native.Mathlib.Omega.{arith}
use lib.ListN.{length, length-append}
use Rattle.octets.specs.declared.Endianness.{Endianness}
use Rattle.octets.specs.Ascii.{ascii}
use Rattle.octets.proofs.Parts.{part-long}
use Rattle.header.specs.declared.Header.{Header}
use Rattle.header.specs.Header.{header_length}
use Rattle.header.specs.HeaderOut.{header_out}
use Rattle.header.specs.Layout.{block_header_length}
use Rattle.header.proofs.HeadersOut.{header_out-length}
use Rattle.block.specs.declared.Row.{Row}
use Rattle.block.specs.Rows.{per_row, payload_of, row_spelt, rows_spelt}
use Rattle.block.specs.Spelling.{block_header_out}
use Rattle.block.proofs.BlockHeadersOut.{block_header_out-length}
use Rattle.writable.specs.Writable.{Last, blocks_length, file_length, needed_of}
use Rattle.writable.proofs.Judging.{rows_more, rows_none}
use Rattle.writable.proofs.Accepted.{AllTaken, Accepts, accepts}
use Rattle.writable.proofs.Answers.{needed_rows, needed_there}
use Rattle.writer.specs.Helpers.{Inside}
use Rattle.writer.specs.Writer.{blocks_out, file_out}

-- the payloads of rows that are taken are in the source
pub taken-inside : (e : Endianness) (s : List ℕ) (rs : List Row) (last l : Last) → AllTaken e s rs last l → Inside s rs
taken-inside e s [] last l t = tt
taken-inside e s (r ∷ rs) last l t = (t.1.inside, taken-inside e s rs t.0 l t.2)

-- how long a block is, and the file
module _ (h : Header) (s : List ℕ) where
  abbrev long : ℕ
  long = block_header_length h.format h.pointer_size

  pub block-out-length : (r : Row) → r.payload + r.len ≤ length s → length (block_header_out h r ++ payload_of s r) ≡ long + r.len
  block-out-length r i = omega (arith, length-append (block_header_out h r) (payload_of s r), block_header_out-length h r, part-long s r.payload r.len i)

  blocks_out-length : (rs : List Row) → Inside s rs → length (blocks_out h s rs) ≡ blocks_length long rs
  unfolding blocks_out blocks_length
  blocks_out-length [] i = refl
  blocks_out-length (r ∷ rs) i =
      omega (arith, length-append (block_header_out h r ++ payload_of s r) (blocks_out h s rs), block-out-length r i.0, blocks_out-length rs i.1)

  pub file-parts : (rs : List Row) → length (file_out h s rs) ≡ header_length h.format + length (blocks_out h s rs) + 4
  unfolding file_out
  file-parts rs =
      omega (arith, length-append (header_out h ++ blocks_out h s rs) (ascii "ENDB"), length-append (header_out h) (blocks_out h s rs), header_out-length h)

  pub file_out-length : (rs : List Row) → Inside s rs → length (file_out h s rs) ≡ file_length h rs
  file_out-length rs i = omega (arith, file-parts rs, blocks_out-length rs i)

-- the blocks of the rows that are left, one after another
module _ (h : Header) (s t : List ℕ) (rows row : ℕ) where
  pub blocks_more : row < rows → (r : Row) → r ≡ row_spelt t row
      → blocks_out h s (rows_spelt t (rows - row) row) ≡ block_header_out h r ++ payload_of s r ++ blocks_out h s (rows_spelt t (rows - (row + 1)) (row + 1))
  unfolding blocks_out
  blocks_more k r g =
      ap (blocks_out h s) (rows_more t rows row k) ∙ ap (λ (q : Row). block_header_out h q ++ payload_of s q ++ blocks_out h s (rows_spelt t (rows - (row + 1)) (row + 1))) (sym g)

  pub blocks-none : rows ≤ row → blocks_out h s (rows_spelt t (rows - row) row) ≡ []
  unfolding blocks_out
  blocks-none k = ap (blocks_out h s) (rows_none t rows row k)

  pub inside_more : row < rows → (r : Row) → r ≡ row_spelt t row → Inside s (rows_spelt t (rows - row) row) → (r.payload + r.len ≤ length s) × Inside s (rows_spelt t (rows - (row + 1)) (row + 1))
  inside_more k r g i =
      let j = subst (Inside s) (rows_more t rows row k) i in
      (rw g j.0, j.1)

-- What is known where it writes.
module _ (h : Header) (t : List ℕ) (rows : ℕ) (s : List ℕ) (n : ℕ) (e : (Ok n) ≡ needed_of h t rows s) where
  abbrev rs : List Row
  rs = rows_spelt t rows 0

  can : Accepts h s rs n
  can = accepts h s rs n (sym (needed_rows h t rows s (needed_there h t rows s n e)) ∙ sym e)

  pub rows-there : rows ≤ length t / per_row
  rows-there = needed_there h t rows s n e

  pub rows_inside : Inside s rs
  rows_inside = taken-inside h.endianness s rs None _ can.taken

  pub file-long : length (file_out h s rs) ≡ n
  file-long = file_out-length h s rs rows_inside ∙ sym can.long

-- A block header all of which is there: its numbers, what its tree finds, and its row.
use borrow.Author.Tests.{eq-eqb, le-leb}
use mathlib.Core.List.{[], ◌∷◌, List}
use Rattle.octets.specs.declared.Endianness.TheVariants.{Big}
use Rattle.octets.specs.Looks.{part}
use Rattle.octets.specs.Number.{spelled, number}
use Rattle.octets.proofs.Parts.{part-long, part-part, skip-room, skip-short}
use Rattle.header.specs.Layout.{Item, layout, widths, block_header_length}
use Rattle.header.proofs.Lengths.{layout-length}
use Rattle.block.specs.BlockHeaders.{tell, code_told, header_in, block_header, tell_all, header_at}
use Prim.Native.Nat.{ℕ, ◌+◌, ◌≤◌, ◌<◌}
use mathlib.Core.Path.{◌≡◌, refl, sym, ◌∙◌, ap}
use native.Mathlib.Omega.{arith}
use lib.ListN.{length}
use Rattle.octets.specs.declared.Endianness.{Endianness}
use Rattle.std.specs.Prelude.{Result, Ok, Err, IsOk}
use Rattle.octets.specs.declared.Fault.{Fault}
use Rattle.octets.specs.declared.cursor.Cursor.{Cursor}
use Rattle.octets.specs.Cursor.{found, part_of}
use Rattle.octets.proofs.Going.{number_in}
use Rattle.octets.specs.Helpers.{number_at}
use Rattle.octets.specs.Reader.{Outcome, run}
use Rattle.octets.specs.Reader.Reader.{done, skip}
use Rattle.octets.specs.Reader.Outcome.{read, fault}
use Rattle.octets.proofs.Tests.{held}
use Rattle.header.specs.declared.Header.{Header}
use Rattle.block.specs.declared.BlockHeader.{BlockHeader}
use Rattle.block.specs.Helpers.{with_address}
use Rattle.block.proofs.Layouts.{header_there}

-- a number whose bytes are there is read, and is the one that they spell
module _ (e : Endianness) (w : ℕ) (s : List ℕ) (at : ℕ) (h : at + w ≤ length s) where
  there : (o : Result (ℕ × Cursor) Fault) → found o ≡ run (number e w done) s at → found o ≡ read (number_at e w s at) (at + w)
  unfolding run
  there o g = g ∙ number_in e w done s at h

  pub number-ok : (o : Result (ℕ × Cursor) Fault) → found o ≡ run (number e w done) s at → IsOk o
  number-ok (Ok (n, c)) g = refl
  number-ok (Err f) g = let k = there (Err f) g in cc

  pub number-is : (o : Result (ℕ × Cursor) Fault) → found o ≡ run (number e w done) s at → (a : ℕ × Cursor) → o ≡ Ok a → a.0 ≡ number_at e w s at
  number-is o g (n, c) q =
      let k : read n c.at ≡ read (number_at e w s at) (at + w) = ap found (sym q) ∙ there o g in
      cc

-- a block header that could not be passed over is not there
pub header-not_there : (h : Header) (s : List ℕ) (at n : ℕ) → n ≡ block_header_length h.format h.pointer_size
    → (x : Fault) → ◌≡◌ {A = Outcome (Unit {0})} (fault x) (run (skip n (done tt)) s at) → length s < at + block_header_length h.format h.pointer_size
header-not_there h s at n e x g = rw e at (skip-short n s at x g).1

-- the bytes of a block header by themselves say what they say in the file
told_in : (is : List Item) (s : List ℕ) (at n k : ℕ) (b : BlockHeader) → k + widths is ≤ n → tell_all is (part s at n) k b ≡ tell_all is s (at + k) b
told_in [] s at n k b g = refl
told_in (i ∷ is) s at n k b g =
    let e : at + (k + i.width) ≡ at + k + i.width = omega arith in
    let m = number_at i.order i.width s (at + k) in
    ap (λ (l : List ℕ). tell_all is (part s at n) (k + i.width) (tell i.field (spelled i.order l) b)) (part-part s at n k i.width (omega arith))
    ∙ told_in is s at n (k + i.width) (tell i.field m b) (omega arith)
    ∙ ap (λ (j : ℕ). tell_all is s j (tell i.field m b)) e

pub header-whole : (h : Header) (bs : List ℕ) → length bs ≡ block_header_length h.format h.pointer_size → header_in h bs ≡ header_at h bs 0
unfolding header_in
header-whole h bs g = held _ _ (eq-eqb _ _ g)

module _ (h : Header) (s : List ℕ) (at : ℕ) (g : at + block_header_length h.format h.pointer_size ≤ length s) where
  pub header_part : header_at h (part s at (block_header_length h.format h.pointer_size)) 0 ≡ header_at h s at
  header_part =
      let n = block_header_length h.format h.pointer_size in
      let l = layout-length h in
      let zero : at + 0 ≡ at = omega arith in
      told_in (layout h) s at n 4 (code_told (number_at Big 4 (part s at n) 0)) (omega (arith, l))
      ∙ ap (λ (x : List ℕ). tell_all (layout h) s (at + 4) (code_told (spelled Big x))) (part-part s at n 0 4 (omega (arith, l)) ∙ ap (λ (j : ℕ). part s j 4) zero)

  pub header_in_lem : header_in h (part s at (block_header_length h.format h.pointer_size)) ≡ header_at h s at
  header_in_lem = header-whole h (part s at (block_header_length h.format h.pointer_size)) (part-long s at _ g) ∙ header_part

-- a block header that was passed over is there: its bytes are as many as it has, and what they say is what its tree finds
module _ (h : Header) (s : List ℕ) (at n : ℕ) (e : n ≡ block_header_length h.format h.pointer_size) (next : ℕ)
    (g : ◌≡◌ {A = Outcome (Unit {0})} (read tt next) (run (skip n (done tt)) s at)) where
  header_fits_lem : at + block_header_length h.format h.pointer_size ≤ length s
  header_fits_lem = rw e at (skip-room n s at next g).1

  its_bytes : part_of s at n ≡ part s at (block_header_length h.format h.pointer_size)
  unfolding part_of
  its_bytes = held _ _ (le-leb _ _ (skip-room n s at next g).1) ∙ ap (part s at) e

  pub header-complete : length (part_of s at n) ≡ block_header_length h.format h.pointer_size
  header-complete = ap length its_bytes ∙ part-long s at _ header_fits_lem

  pub header-taken : (b : BlockHeader) → b ≡ header_at h (part_of s at n) 0 → with_address b next ≡ run (block_header h) s at
  header-taken b q =
      let k : next ≡ at + block_header_length h.format h.pointer_size = rw e at (skip-room n s at next g).0 in
      rw (q, its_bytes, header_part h s at header_fits_lem, k) (header_there h s at header_fits_lem)

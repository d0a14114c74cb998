-- The row of a block that reads is that of its header, and rows that are all there are read again one after another.
use Prim.Native.Nat.{ℕ, suc, ◌+◌, ◌-◌, ◌≤◌, ◌<◌}
use mathlib.Core.Bool.{Bool, true, false}
use mathlib.Core.List.{List}
use mathlib.Core.Path.{◌≡◌, refl, sym, ◌∙◌, ap}
use native.Mathlib.Omega.{arith}
use lib.Dec.{eqb}
use lib.ListN.{length, take, drop}
use Rattle.octets.specs.declared.Refusal.TheVariants.{InvalidMemoryAddress}
use Rattle.octets.specs.declared.Fault.{Fault}
use Rattle.octets.specs.Helpers.{go_on}
use Rattle.octets.specs.Reader.{Outcome}
use Rattle.octets.specs.Reader.Outcome.{read, fault}
use Rattle.octets.proofs.Tests.{held, failed}
use Rattle.header.specs.declared.Header.{Header}
use Rattle.block.proofs.There.{header_in_lem}
use Rattle.block.specs.Rows.{row_of}
use Rattle.block.specs.declared.BlockHeader.{BlockHeader}
use Rattle.block.specs.declared.Row.{Row}
use Rattle.header.specs.Layout.{block_header_length}
use Rattle.block.specs.BlockHeaders.{header_at, header_in}
use Rattle.octets.proofs.Parts.{slice-same}
use Rattle.blend.specs.Blocks.{row_at}
use Rattle.block.specs.Helpers.{with_address}
use Rattle.blend.specs.Helpers.{rows_from}
use Rattle.block.proofs.Layouts.{header_there}
use Rattle.blend.proofs.Rows.{row-headed, payload-fits, row_lies}

-- a block that reads: its header is there, and its row is made of that
module _ (h : Header) (s : List ℕ) (at : ℕ) (r : Row) (next : ℕ) (g : row_at h s at ≡ read r next) where
  pub row-header_fits : at + block_header_length h.format h.pointer_size ≤ length s
  row-header_fits =
      let w = row-headed h s at r next g in
      payload-fits h s at w.block w.from w.header next w.payload

  pub row-there : r ≡ row_of h at (header_at h s at)
  row-there =
      let w = row-headed h s at r next g in
      w.row ∙ ap (row_of h at) (go w.block w.from (eqb (header_at h s at).address 0) refl (w.header ∙ sym (header_there h s at row-header_fits)))
    where
      go : (b : BlockHeader) (from : ℕ) (t : Bool) → eqb (header_at h s at).address 0 ≡ t → read b from ≡ with_address (header_at h s at) (at + block_header_length h.format h.pointer_size)
          → b ≡ header_at h s at
      go b from true t k =
          let q : read b from ≡ fault (Fault.Refusal InvalidMemoryAddress) = k ∙ held _ _ t in
          cc
      go b from false t k =
          let q : read b from ≡ read (header_at h s at) (at + block_header_length h.format h.pointer_size) = k ∙ failed _ _ t in
          cc

-- Rows that are all there: the next, and those after it.
pub record NextRow (h : Header) (s : List ℕ) (left at : ℕ) (r : Row) (next : ℕ) : Type 0 where
  pub row : row_at h s at ≡ read r next
  pub rest : length (rows_from (left - 1) h s next) ≡ left - 1
  pub inside : next ≤ length s

module _ (h : Header) (s : List ℕ) (left at : ℕ) (e : 0 < left) (g : length (rows_from left h s at) ≡ left) where
  next_row : (r : Row) × (next : ℕ) × (row_at h s at ≡ read r next) × (length (rows_from (left - 1) h s next) ≡ left - 1)
  unfolding rows_from
  next_row =
      let k : left ≡ suc (left - 1) = omega arith in
      let w : length (go_on (row_at h s at) (rows_from (left - 1) h s)) ≡ left = ap (λ (n : ℕ). length (rows_from n h s at)) (sym k) ∙ g in
      go (row_at h s at) refl w
    where
      go : (o : Outcome Row) → row_at h s at ≡ o → length (go_on o (rows_from (left - 1) h s)) ≡ left
          → (r : Row) × (next : ℕ) × (row_at h s at ≡ read r next) × (length (rows_from (left - 1) h s next) ≡ left - 1)
      go (read r next) t k = (r, next, t, omega arith)
      go (fault x) t k = absurd (omega arith)

  module _ (n : ℕ) (k : n ≡ block_header_length h.format h.pointer_size) where
    pub next_fits : at + n ≤ length s
    next_fits = rw k (row-header_fits h s at next_row.0 next_row.1 next_row.2)

    -- the block header in its bytes, and the row that is made of it
    module _ (b : BlockHeader) (q : b ≡ header_in h (take (at + n - at) (drop at s))) where
      next-header : b ≡ header_at h s at
      next-header = q ∙ ap (header_in h) (slice-same s at n ∙ ap (λ (m : ℕ). take m (drop at s)) k) ∙ header_in_lem h s at (rw k at next_fits)

      pub next-is : (r : Row) → r ≡ record { code = b.code; address = b.address; index = b.index; count = b.count; at = at; payload = at + n; len = b.size } → NextRow h s left at r (at + n + b.size)
      next-is r m =
          let w = next_row in
          let l = row_lies h s at w.0 w.1 w.2 in
          let z : w.0 ≡ r = row-there h s at w.0 w.1 w.2 ∙ ap (row_of h at) (sym next-header) ∙ sym (m ∙ rw k refl) in
          let p : w.1 ≡ at + n + b.size = l.payload ∙ ap (λ (v : Row). v.payload + v.len) (z ∙ m) in
          record { row = rw (z, p) at w.2; rest = rw p at w.3; inside = rw p at l.inside }

-- How the reader's answer comes together: what the first pass counted, the room in the table, and the header before it all.
use Rattle.std.specs.Prelude.{Ok, Err, None}
use Prim.Native.Nat.{ℕ, suc, ◌+◌, ◌/◌, ◌≤◌}
use mathlib.Core.List.{List, ◌∷◌, ◌++◌}
use mathlib.Core.Path.{◌≡◌, refl, sym, ◌∙◌, ap}
use native.Mathlib.Omega.{arith}
use borrow.Author.Tests.{le-ltb}
use lib.ListN.{length}
use Rattle.octets.specs.declared.Fault.{Fault}
use Rattle.octets.specs.Helpers.{put}
use Rattle.octets.specs.Paper.{Paper}
use Rattle.octets.specs.Paper.Paper.{accepts}
use Rattle.octets.specs.Reader.{Outcome, run}
use Rattle.octets.specs.Reader.Outcome.{read, fault}
use Rattle.octets.specs.Refusals.{paper_fault}
use Rattle.octets.specs.Tables.{over, written}
use Rattle.octets.proofs.Extent.{ends-within}
use Rattle.octets.proofs.Filling.{put-over}
use Rattle.octets.proofs.Tests.{failed}
use Rattle.dna.specs.declared.dna.DnaCounts.{DnaCounts}
use Rattle.header.specs.declared.Header.{Header}
use Rattle.block.specs.declared.Row.{Row}
use Rattle.blend.specs.declared.blend.Chained.{Chained}
use Rattle.header.specs.Header.{HeaderBytes, header_bytes, valued, header_numbers, header_as, paper_header}
use Rattle.dna.specs.Catalogue.{count_numbers}
use Rattle.blend.specs.Chain.{Chain, chain_from, answer_for, on_header, read_as, rows_of, file_by, table_after}
use Rattle.block.specs.Rows.{per_row, row_table}
use Rattle.blend.specs.Helpers.{summed, summed_as, rows_from}
use Rattle.blend.proofs.Chains.{rows-again}
use Rattle.block.proofs.Tables.{table-length}
use Rattle.header.proofs.Lossless.{header_known, header_refused}

-- what the first pass tells of the chain
module _ (c : Chain) where
  pub summed-ends : (k : Chained) → Ok k ≡ summed 0 c → (c.last ≡ read k.dna k.end) × (length c.rows ≡ k.rows)
  summed-ends k e = go c.last e
    where
      go : (o : Outcome DnaCounts) → Ok k ≡ summed_as (0 + length c.rows) o → (o ≡ read k.dna k.end) × (length c.rows ≡ k.rows)
      go (read m stop) g =
          let q : record { rows = 0 + length c.rows; dna = m; end = stop } ≡ k = cc in
          let w : 0 + length c.rows ≡ k.rows = ap (λ (x : Chained). x.rows) q in
          (rw (← q) refl, omega (arith, w))
      go (fault y) g = (cc, cc)

-- the answer after a header, and the table
module _ (h : Header) (c : Chain) (room : ℕ) where
  module _ (k : Chained) (e : Ok k ≡ summed 0 c) where
    as_read : answer_for h (length c.rows) room c.last ≡ answer_for h k.rows room (read k.dna k.end)
    as_read =
        let w = summed-ends c k e in
        ap (answer_for h (length c.rows) room) w.0 ∙ ap (λ (n : ℕ). answer_for h n room (read k.dna k.end)) w.1

    pub after_read : k.rows ≤ room → accepts 0 (header_numbers h ++ (k.rows ∷ k.end ∷ count_numbers k.dna)) ≡ answer_for h (length c.rows) room c.last
    after_read g = sym (as_read ∙ failed _ _ (le-ltb _ _ g))

-- the second pass writes the chain's rows
module _ (h : Header) (s : List ℕ) (from : ℕ) (c : Chained) (e : Ok c ≡ summed 0 (chain_from h s from)) where
  rows_same : rows_from c.rows h s from ≡ (chain_from h s from).rows
  unfolding chain_from
  rows_same =
      ap (λ (k : ℕ). rows_from k h s from) (sym (summed-ends (chain_from h s from) c e).1) ∙ rows-again (suc (length s)) h s from None

  rows_long : (t : List ℕ) → c.rows ≤ length t / per_row → length (row_table (chain_from h s from).rows) ≤ length t
  rows_long t g = omega (arith, table-length (chain_from h s from).rows, (summed-ends (chain_from h s from) c e).1)

  pub rows_fit : (t : List ℕ) → c.rows ≤ length t / per_row → length (row_table (rows_from c.rows h s from)) ≤ length t
  rows_fit t g = rw rows_same (rows_long t g)

  pub rows_all : length (rows_from c.rows h s from) ≡ c.rows
  rows_all = ap length rows_same ∙ (summed-ends (chain_from h s from) c e).1

  pub rows_written : (t t' : List ℕ) → c.rows ≤ length t / per_row → t' ≡ put t 0 (row_table (rows_from c.rows h s from)) → t' ≡ over (row_table (chain_from h s from).rows) t
  rows_written t t' g w = w ∙ ap (λ (rs : List Row). put t 0 (row_table rs)) rows_same ∙ put-over t (row_table (chain_from h s from).rows) (rows_long t g)

-- the header first
module _ (s : List ℕ) where
  pub valued_read : (o : Outcome HeaderBytes) (h : Header) (at : ℕ) → valued o ≡ read h at → (b : HeaderBytes) × (o ≡ read b at)
  valued_read (read b m) h at e =
      let q : m ≡ at = cc in
      (b, rw q refl)
  valued_read (fault x) h at e =
      let z : ◌≡◌ {A = ℕ} 0 1 = cc in
      absurd (omega arith)

  module _ (h : Header) (at : ℕ) (e : paper_header (Ok (h, at)) ≡ header_as (valued (run header_bytes s 0))) where
    pub header-found : valued (run header_bytes s 0) ≡ read h at
    header-found = header_known h at (valued (run header_bytes s 0)) e

    pub header-inside : at ≤ length s
    header-inside =
        let w = valued_read (run header_bytes s 0) h at header-found in
        omega (arith, ends-within header_bytes s 0 w.0 at w.1)

    pub file-read : (room : ℕ) → answer_for h (length (chain_from h s at).rows) room (chain_from h s at).last ≡ read_as (file_by header_bytes s) room
    unfolding read_as
    file-read room = sym (ap (λ (o : Outcome Header). read_as (on_header s o) room) header-found)

    pub file-table : (p : Paper) (t t' : List ℕ) → p ≡ answer_for h (length (chain_from h s at).rows) (length t / per_row) (chain_from h s at).last
        → t' ≡ written p (row_table (chain_from h s at).rows) t → t' ≡ table_after (file_by header_bytes s) t
    file-table p t t' g w =
        w ∙ ap (λ (q : Paper). written q (row_table (chain_from h s at).rows) t) (g ∙ file-read (length t / per_row))
        ∙ ap (λ (o : Outcome Header). written (read_as (file_by header_bytes s) (length t / per_row)) (row_table (rows_of (on_header s o))) t) (sym header-found)

  module _ (x : Fault) (e : paper_header (Err x) ≡ header_as (valued (run header_bytes s 0))) where
    pub refused-told : valued (run header_bytes s 0) ≡ fault x
    refused-told = header_refused x (valued (run header_bytes s 0)) e

    pub file-refused : (room : ℕ) → paper_fault x ≡ read_as (file_by header_bytes s) room
    unfolding read_as
    file-refused room = sym (ap (λ (o : Outcome Header). read_as (on_header s o) room) refused-told)

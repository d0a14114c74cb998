-- A file that was written is read: header, blocks and end mark, whatever follows.
use Rattle.std.specs.Prelude.{None}
use Prim.Native.Nat.{ℕ, suc, ◌+◌}
use mathlib.Core.List.{List, ◌++◌, append_assoc}
use mathlib.Core.Path.{◌≡◌, sym, ◌∙◌, ap, subst}
use native.Mathlib.Omega.{arith}
use lib.ListN.{length}
use Rattle.octets.specs.Ascii.{ascii}
use Rattle.octets.specs.Reader.{run}
use Rattle.octets.specs.Reader.Outcome.{read}
use Rattle.octets.proofs.Here.{Here, here-all, here-same, here-next}
use Rattle.header.specs.declared.Header.{Header}
use Rattle.header.specs.Header.{header_length, header_bytes, valued}
use Rattle.header.specs.HeaderOut.{header_out}
use Rattle.header.proofs.HeadersOut.{header_out-length, header-back}
use Rattle.block.specs.declared.Row.{Row}
use Rattle.blend.specs.Chain.{Chain, File, on_header, file_by, chain_from}
use Rattle.blend.proofs.Links.{Linked, chained}
use Rattle.writable.proofs.Accepted.{Accepts}
use Rattle.writer.specs.Writer.{blocks_out, file_out}
use Rattle.roundtrip.specs.Placed.{placed}
use Rattle.roundtrip.proofs.Blocks.{blocks-back, SameParts, parts-back}

module _ (h : Header) (s : List ℕ) (rs : List Row) (n : ℕ) (a : Accepts h s rs n) (ys : List ℕ) where
  abbrev file : List ℕ
  file = file_out h s rs ++ ys

  abbrev tail : List ℕ
  tail = blocks_out h s rs ++ (ascii "ENDB" ++ ys)

  abbrev first : ℕ
  first = header_length h.format

  pub in_parts : file ≡ header_out h ++ tail
  unfolding file_out
  in_parts =
      append_assoc (header_out h ++ blocks_out h s rs) (ascii "ENDB") ys ∙ append_assoc (header_out h) (blocks_out h s rs) (ascii "ENDB" ++ ys)

  after-header : Here file first tail
  after-header =
      let e : 0 + first ≡ first = omega arith in
      subst (λ (i : ℕ). Here file i tail) e (here-next file 0 (header_out h) tail (here-same file 0 _ _ in_parts (here-all file)) first (header_out-length h))

  pub header-found : valued (run header_bytes file 0) ≡ read h first
  header-found = ap (λ (z : List ℕ). valued (run header_bytes z 0)) in_parts ∙ header-back h.format h.pointer_size h.endianness h.version tail a.header

  pub rows-linked : Linked h file first None (placed h first rs) a.counts n
  rows-linked = subst (Linked h file first None (placed h first rs) a.counts) (sym a.long) (blocks-back h s file ys a.counts rs first None a.taken a.fit after-header)

  pub parts-shown : SameParts h s file ys a.counts rs (placed h first rs)
  parts-shown = parts-back h s file ys a.counts rs first None a.taken a.fit after-header

  abbrev pub as_file : File
  as_file = record { header = h; chain = record { rows = placed h first rs; last = read a.counts n } }

  pub file-found : file_by header_bytes file ≡ read as_file first
  unfolding chain_from
  file-found =
      ap (on_header file) header-found
      ∙ ap (λ (c : Chain). read (record { header = h; chain = c }) first)
      (chained h file (placed h first rs) (suc (length file)) first None a.counts n rows-linked (omega arith) after-header.inside)

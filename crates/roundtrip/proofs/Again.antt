-- A file that was read, and whose header is written as it was, is written as it was: from its own rows and itself, up to the end of the end mark.
use Rattle.std.specs.Prelude.{Some, None}
use Prim.Native.Nat.{ℕ, ◌-◌, ◌^◌, ◌≤◌}
use mathlib.Core.Bool.{true}
use mathlib.Core.List.{List, [], ◌∷◌, ◌++◌, append_assoc}
use mathlib.Core.Path.{◌≡◌, refl, sym, ◌∙◌, ap}
use native.Mathlib.Omega.{arith}
use lib.ListN.{length, take, drop}
use lib.Seq.{length-take-le}
use Rattle.octets.specs.Ascii.{ascii}
use Rattle.octets.specs.Number.{Bytes}
use Rattle.octets.specs.Reader.Outcome.{read}
use Rattle.octets.proofs.Digits.{take-bytes, drop-bytes}
use Rattle.dna.specs.declared.dna.DnaCounts.{DnaCounts}
use Rattle.header.specs.declared.Header.{Header}
use Rattle.header.specs.Header.{header_bytes}
use Rattle.header.specs.HeaderOut.{header_out, header_fits}
use Rattle.header.specs.Layout.{layout, block_header_length}
use Rattle.header.proofs.Lengths.{layout-length}
use Rattle.block.specs.declared.Row.{Row}
use Rattle.block.specs.Rows.{payload_of}
use Rattle.block.specs.Spelling.{told, block_header_out}
use Rattle.block.proofs.BlockHeadersOut.{block_header-again}
use Rattle.blend.specs.Chain.{File, file_by}
use Rattle.writable.proofs.Accepted.{AllFit, AllTaken, Accepts}
use Rattle.writer.specs.Writer.{blocks_out, file_out}
use Rattle.writer.proofs.Files.{taken-inside, file_out-length}
use Rattle.demands.specs.Cover.{Covered, Blocks, header_part, block_header_part, blocks_part}
use Rattle.demands.proofs.Cover.{covered}
use Rattle.demands.proofs.Files.{filed, file-linked}
use Rattle.demands.proofs.HeaderTrees.{header_tree}
use Rattle.roundtrip.proofs.Taken.{linked-taken, spelt-fits}

-- The blocks.
module _ (h : Header) (s : List ℕ) (bytes : Bytes s) where
  part_bytes : (r : Row) → Bytes (block_header_part h s r)
  part_bytes r = take-bytes (drop r.at s) (block_header_length h.format h.pointer_size) (drop-bytes s r.at bytes)

  blocks-again : (rs : List Row) → Blocks h s rs → blocks_out h s rs ≡ blocks_part h s rs
  unfolding blocks_out blocks_part
  blocks-again [] b = refl
  blocks-again (r ∷ rs) b =
      append_assoc (block_header_out h r) (payload_of s r) (blocks_out h s rs)
      ∙ ap (λ (l : List ℕ). l ++ (payload_of s r ++ blocks_out h s rs)) (block_header-again h r (block_header_part h s r) (part_bytes r) b.0.long b.0.code b.0.numbers)
      ∙ ap (λ (l : List ℕ). block_header_part h s r ++ (payload_of s r ++ l)) (blocks-again rs b.1)

  blocks-fit : (rs : List Row) → Blocks h s rs → AllFit h rs
  blocks-fit [] b = tt
  blocks-fit (r ∷ rs) b = (spelt-fits (layout h) (told r) (block_header_part h s r) 4 (part_bytes r) (omega (arith, b.0.long, layout-length h)) b.0.numbers, blocks-fit rs b.1)

-- The whole file.
module _ (s : List ℕ) (bytes : Bytes s) (f : File) (first : ℕ) (n : DnaCounts) (end : ℕ) (e : file_by header_bytes s ≡ read f first) (l : f.chain.last ≡ read n end)
    (small : end ≤ 2 ^ 64 - 1) (fits : header_fits f.header ≡ true) (same : header_out f.header ≡ header_part f.header s) where
  abbrev h : Header
  h = f.header

  abbrev rows : List Row
  rows = f.chain.rows

  cover : Covered header_bytes s h rows end
  cover = covered header_bytes header_tree s f first n end e l

  taken : AllTaken h.endianness s rows None (Some n)
  taken = linked-taken h s rows first None n end (file-linked header_bytes s f first (filed header_bytes s f first e) n end l)

  pub same_bytes : file_out h s rows ≡ take end s
  unfolding file_out
  same_bytes =
      append_assoc (header_out h) (blocks_out h s rows) (ascii "ENDB")
      ∙ ap (λ (x : List ℕ). x ++ (blocks_out h s rows ++ ascii "ENDB")) same
      ∙ ap (λ (x : List ℕ). header_part h s ++ (x ++ ascii "ENDB")) (blocks-again h s bytes rows cover.blocks)
      ∙ sym cover.whole

  pub as_long : length (file_out h s rows) ≡ end
  as_long = ap length same_bytes ∙ length-take-le end s cover.inside

  pub writable : Accepts h s rows end
  writable =
      record {
        counts = n;
        taken = taken;
        header = fits;
        fit = blocks-fit h s bytes rows cover.blocks;
        long = sym as_long ∙ file_out-length h s rows (taken-inside h.endianness s rows None (Some n) taken);
        small = small;
      }

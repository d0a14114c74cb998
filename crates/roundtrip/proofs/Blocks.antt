-- Blocks that were written are read back one after another, in every form: over the layout of block headers.
use Rattle.std.specs.Prelude.{Ok, Option, Some}
use Prim.Native.Nat.{ℕ, ◌+◌, ◌≤◌}
use mathlib.Core.Bool.{Bool, true, false}
use mathlib.Core.List.{List, [], ◌∷◌, ◌++◌, append_assoc}
use mathlib.Core.Path.{◌≡◌, refl, sym, ◌∙◌, ap, subst}
use native.Mathlib.Omega.{arith}
use lib.ListN.{length, take, drop}
use Rattle.octets.specs.declared.Endianness.TheVariants.{Big}
use Rattle.octets.specs.Ascii.{ascii}
use Rattle.octets.specs.Number.{spelled, bytes_of}
use Rattle.octets.specs.Reader.{stands, run}
use Rattle.octets.specs.Reader.Outcome.{read}
use Rattle.octets.proofs.Here.{Here, here-same, here-next, here-part, here-room, here-stands}
use Rattle.octets.proofs.Marks.{same-eq}
use Rattle.octets.proofs.Parts.{part-long}
use Rattle.octets.proofs.Reading.{skipped}
use Rattle.octets.proofs.Spelling.{bytes_of-length, bytes_of-spell}
use Rattle.dna.specs.declared.dna.DnaCounts.{DnaCounts}
use Rattle.header.specs.declared.Header.{Header}
use Rattle.header.specs.Layout.{layout, block_header_length}
use Rattle.block.specs.declared.Row.{Row}
use Rattle.block.specs.BlockHeaders.{block_header}
use Rattle.block.specs.Kinds.{kind_of}
use Rattle.block.specs.Rows.{payload_of}
use Rattle.block.specs.Spelling.{told, spell, block_header_out, row_fits}
use Rattle.block.proofs.BlockHeadersOut.{block_header_out-length, header_told, block_header-back}
use Rattle.blend.specs.declared.blend.Boundary.{Boundary}
use Rattle.blend.specs.Blocks.{boundary_of}
use Rattle.blend.specs.Chain.{ended}
use Rattle.blend.proofs.Links.{Linked}
use Rattle.blend.proofs.Rows.{row_read_lem, end_mark_lem, boundary_block}
use Rattle.writable.specs.Writable.{blocks_length}
use Rattle.writable.proofs.Accepted.{RowTaken, AllTaken, AllFit}
use Rattle.writer.specs.Writer.{blocks_out}
use Rattle.roundtrip.specs.Placed.{placed_at, placed}
use Rattle.roundtrip.proofs.Codes.{code-taken, code-small, code-no-mark, last-finished}

-- A block that stands in z as it was written, its payload taken from s.
module _ (h : Header) (s : List ℕ) (r : Row) (l : Option DnaCounts) (w : RowTaken h.endianness s r l) (f : row_fits h r ≡ true)
    (z : List ℕ) (at : ℕ) (ys : List ℕ) (here : Here z at (block_header_out h r ++ payload_of s r ++ ys)) where
  abbrev long : ℕ
  long = block_header_length h.format h.pointer_size

  whole : Here z at (block_header_out h r ++ (payload_of s r ++ ys))
  whole = here-same z at _ _ (append_assoc (block_header_out h r) (payload_of s r) ys) here

  after-header : Here z (at + long) (payload_of s r ++ ys)
  after-header = here-next z at (block_header_out h r) (payload_of s r ++ ys) whole long (block_header_out-length h r)

  payload-long : length (payload_of s r) ≡ r.len
  payload-long = part-long s r.payload r.len w.inside

  pub after_block : Here z (at + (long + r.len)) ys
  after_block =
      let e : at + long + r.len ≡ at + (long + r.len) = omega arith in
      rw e at (here-next z (at + long) (payload_of s r) ys after-header r.len payload-long)

  pub payload-shown : payload_of z (placed_at h at r) ≡ payload_of s r
  payload-shown = here-part z (at + long) (payload_of s r) ys after-header r.len payload-long

  -- no end mark stands there
  code-first : Here z at (bytes_of Big 4 r.code ++ (spell (layout h) (told r) ++ (payload_of s r ++ ys)))
  unfolding block_header_out
  code-first = here-same z at _ _ (append_assoc (bytes_of Big 4 r.code) (spell (layout h) (told r)) (payload_of s r ++ ys)) whole

  unmarked : stands z at (ascii "ENDB") ≡ false
  unmarked = go (stands z at (ascii "ENDB")) refl
    where
      go : (b : Bool) → stands z at (ascii "ENDB") ≡ b → b ≡ false
      go true q =
          let x : take 4 (drop at z) ≡ bytes_of Big 4 r.code = here-part z at (bytes_of Big 4 r.code) _ code-first 4 (bytes_of-length Big 4 r.code) in
          let y : bytes_of Big 4 r.code ≡ ascii "ENDB" = sym x ∙ same-eq _ _ q in
          let small = code-small h.endianness r.code r.count (payload_of s r) l w.end w.found in
          absurd (code-no-mark h.endianness r.code r.count (payload_of s r) l w.end w.found (sym (bytes_of-spell Big 4 r.code small) ∙ ap (spelled Big) y))
      go false q = refl

  header-found : read (header_told r) (at + long) ≡ run (block_header h) z at
  header-found =
      let small = code-small h.endianness r.code r.count (payload_of s r) l w.end w.found in
      sym (block_header-back h r z (payload_of s r ++ ys) at w.some small f whole)

  pub block_back : boundary_of h z at ≡ Ok (Boundary.Block (placed_at h at r) l (at + (long + r.len)))
  block_back =
      let e : at + long + r.len ≡ at + (long + r.len) = omega arith in
      let room : at + long + r.len ≤ length z = omega (arith, payload-long, here-room z (at + long) (payload_of s r) ys after-header) in
      let skip = skipped r.len z (at + long) room in
      let row = row_read_lem h z at (header_told r) (at + long) header-found (at + long + r.len) skip (kind_of r.code) refl (sym (code-taken h.endianness r.code r.count (payload_of s r) l w.end w.found)) (placed_at h at r) refl in
      sym (boundary_block h z at unmarked (placed_at h at r) (at + long + r.len) row)
      ∙ last-finished h.endianness r.code r.count (payload_of s r) l w.end w.found h z (placed_at h at r) (at + long + r.len) refl refl payload-shown
      ∙ ap (λ (n : ℕ). Ok (Boundary.Block (placed_at h at r) l n)) e

-- All blocks, and then the end mark.
module _ (h : Header) (s z ys : List ℕ) (d : DnaCounts) where
  abbrev header-long : ℕ
  header-long = block_header_length h.format h.pointer_size

  pub blocks-back : (rs : List Row) (at : ℕ) (last : Option DnaCounts) → AllTaken h.endianness s rs last (Some d) → AllFit h rs → Here z at (blocks_out h s rs ++ (ascii "ENDB" ++ ys))
      → Linked h z at last (placed h at rs) d (at + blocks_length header-long rs + 4)
  unfolding blocks_out blocks_length placed
  blocks-back [] at last t f w =
      let e : at + 4 ≡ at + 0 + 4 = omega arith in
      (sym (end_mark_lem h z at (here-stands z at (ascii "ENDB") ys w)), ap (λ (l : Option DnaCounts). ended l (at + 4)) t ∙ ap (read d) e)
  blocks-back (r ∷ rs) at last t f w =
      let tail = blocks_out h s rs ++ (ascii "ENDB" ++ ys) in
      let v = here-same z at _ _ (append_assoc (block_header_out h r ++ payload_of s r) (blocks_out h s rs) (ascii "ENDB" ++ ys)) w in
      let next = at + (header-long + r.len) in
      let e : next + blocks_length header-long rs + 4 ≡ at + (header-long + r.len + blocks_length header-long rs) + 4 = omega arith in
      (t.0, next, block_back h s r t.0 t.1 f.0 z at tail v, subst (Linked h z next t.0 (placed h next rs) d) e (blocks-back rs next t.0 t.2 f.1 (after_block h s r t.0 t.1 f.0 z at tail v)))

  -- each payload shows the bytes that it has in the source
  abbrev pub SameParts : List Row → List Row → Type 0
  SameParts [] qs = Unit {0}
  SameParts (r ∷ rs) [] = Unit {0}
  SameParts (r ∷ rs) (q ∷ qs) = (payload_of z q ≡ payload_of s r) × SameParts rs qs

  pub parts-back : (rs : List Row) (at : ℕ) (last : Option DnaCounts) → AllTaken h.endianness s rs last (Some d) → AllFit h rs → Here z at (blocks_out h s rs ++ (ascii "ENDB" ++ ys))
      → SameParts rs (placed h at rs)
  unfolding blocks_out placed
  parts-back [] at last t f w = tt
  parts-back (r ∷ rs) at last t f w =
      let tail = blocks_out h s rs ++ (ascii "ENDB" ++ ys) in
      let v = here-same z at _ _ (append_assoc (block_header_out h r ++ payload_of s r) (blocks_out h s rs) (ascii "ENDB" ++ ys)) w in
      (payload-shown h s r t.0 t.1 f.0 z at tail v, parts-back rs (at + (header-long + r.len)) t.0 t.2 f.1 (after_block h s r t.0 t.1 f.0 z at tail v))

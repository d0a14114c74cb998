-- Header, block headers, payloads and end mark cover a file that is read.
use Rattle.std.specs.Prelude.{Ok, Option}
use Prim.Native.Nat.{ℕ, ◌+◌}
use mathlib.Core.List.{List, [], ◌∷◌, ◌++◌, append_assoc}
use mathlib.Core.Path.{◌≡◌, refl, sym, ◌∙◌, ap, subst}
use native.Mathlib.Omega.{arith}
use lib.ListN.{take, drop}
use lib.Seq.{take-add, drop-drop}
use Rattle.octets.specs.declared.Endianness.TheVariants.{Big}
use Rattle.octets.specs.Ascii.{ascii}
use Rattle.octets.specs.Number.{spelled}
use Rattle.octets.proofs.Marks.{same-eq}
use Rattle.dna.specs.declared.dna.DnaCounts.{DnaCounts}
use Rattle.header.specs.declared.Header.{Header}
use Rattle.block.specs.declared.Row.{Row}
use Rattle.blend.specs.declared.blend.Boundary.{Boundary}
use Rattle.header.specs.Layout.{layout, block_header_length}
use Rattle.block.specs.Rows.{row_of, payload_of}
use Rattle.blend.specs.Blocks.{boundary_of}
use Rattle.blend.proofs.Chains.{block_row, block_lies, mark-stands}
use Rattle.header.proofs.Lengths.{header_at-least, layout-length}
use Rattle.blend.proofs.Rows.{row-headed, payload-at}
use Rattle.octets.proofs.Parts.{part-long, skip-room, part-part}
use Rattle.demands.specs.Cover.{Abut, blocks_part, block_header_part, Block, Blocks}
use Rattle.block.specs.Spelling.{told}
use Rattle.octets.specs.Looks.{part}
use Rattle.blend.proofs.Links.{Linked, no-mark, mark-ends}
use Rattle.block.proofs.Spelling.{code-spelt, numbers-spelt, spell-part}

module _ (h : Header) (s : List ℕ) where
  abbrev long : ℕ
  long = block_header_length h.format h.pointer_size

  block-whole : (at : ℕ) (r : Row) (l : Option DnaCounts) (next : ℕ) → boundary_of h s at ≡ Ok (Boundary.Block r l next) → Block h s r
  block-whole at r l next e =
      let w = row-headed h s at r next (block_row h s at r l next e) in
      let k = skip-room w.block.size s w.from next w.payload in
      let f = payload-at h s at w.block w.from w.header in
      let m = header_at-least h.format h.pointer_size in
      let z : at + 0 ≡ at = omega arith in
      subst (λ (q : Row). Block h s q) (sym w.row)
      (record {
        unmarked = no-mark h s at r l next e;
        long = part-long s at long (omega (arith, k.1, f));
        code = ap (spelled Big) (part-part s at long 0 4 (omega (arith, m)) ∙ ap (λ (i : ℕ). part s i 4) z) ∙ code-spelt h s at w.block w.from (sym w.header);
        numbers = spell-part (layout h) (told (row_of h at w.block)) s at long 4 (omega (arith, layout-length h)) (numbers-spelt h s at w.block w.from (sym w.header));
        follows = refl;
        payload = part-long s (at + long) w.block.size (omega (arith, k.1, f));
      })

  pub blocks-whole : (rows : List Row) (at : ℕ) (last : Option DnaCounts) (n : DnaCounts) (end : ℕ) → Linked h s at last rows n end → Blocks h s rows
  blocks-whole [] at last n end w = tt
  blocks-whole (r ∷ rs) at last n end w = (block-whole at r w.0 w.1 w.2, blocks-whole rs w.1 w.0 n end w.3)

  pub rows-abut : (rows : List Row) (at : ℕ) (last : Option DnaCounts) (n : DnaCounts) (end : ℕ) → Linked h s at last rows n end → Abut at rows end
  rows-abut [] at last n end w = mark-ends h s last at n end w.1
  rows-abut (r ∷ rs) at last n end w =
      let i = block_lies h s at r w.0 w.1 w.2 in
      (i.starts, subst (λ (j : ℕ). Abut j rs end) i.payload (rows-abut rs w.1 w.0 n end w.3))

  -- from a boundary to the end of the end mark
  pub rest-whole : (rows : List Row) (at : ℕ) (last : Option DnaCounts) (n : DnaCounts) (end : ℕ) → Linked h s at last rows n end
      → (k : ℕ) × (end ≡ at + k) × (part s at k ≡ blocks_part h s rows ++ ascii "ENDB")
  unfolding blocks_part
  rest-whole [] at last n end w = (4, mark-ends h s last at n end w.1, same-eq _ _ (mark-stands h s at w.0))
  rest-whole (r ∷ rs) at last n end w =
      let f = rest-whole rs w.1 w.0 n end w.3 in
      let i = block_lies h s at r w.0 w.1 w.2 in
      let e : end ≡ at + (long + (r.len + f.0)) = omega (arith, f.1, i.payload, i.header) in
      let p : drop long (drop at s) ≡ drop r.payload s = drop-drop long at s ∙ ap (λ (j : ℕ). drop j s) (sym i.header) in
      let q : drop r.len (drop r.payload s) ≡ drop w.1 s = drop-drop r.len r.payload s ∙ ap (λ (j : ℕ). drop j s) (sym i.payload) in
      let a : part s at long ≡ block_header_part h s r = ap (λ (j : ℕ). part s j long) (sym i.starts) in
      let b : take (r.len + f.0) (drop long (drop at s)) ≡ payload_of s r ++ (blocks_part h s rs ++ ascii "ENDB") =
      ap (take (r.len + f.0)) p ∙ take-add r.len f.0 (drop r.payload s) ∙ ap (λ (l : List ℕ). payload_of s r ++ l) (ap (take f.0) q ∙ f.2) in (
        long + (r.len + f.0),
        e,
        take-add long (r.len + f.0) (drop at s) ∙ ap (λ (l : List ℕ). l ++ take (r.len + f.0) (drop long (drop at s))) a ∙ ap (λ (l : List ℕ). block_header_part h s r ++ l) b
            ∙ sym (append_assoc (block_header_part h s r) (payload_of s r ++ blocks_part h s rs) (ascii "ENDB") ∙ ap (λ (l : List ℕ). block_header_part h s r ++ l) (append_assoc (payload_of s r) (blocks_part h s rs) (ascii "ENDB"))),
      )

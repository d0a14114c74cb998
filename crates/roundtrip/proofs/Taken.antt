-- A block that was read is a row that the writer takes, with the numbers that its bytes spell.
use Rattle.std.specs.Prelude.{Result, Ok, Option, Some, None}
use Prim.Native.Nat.{ℕ, ◌+◌, ◌^◌, ◌≤◌, ◌<◌}
use mathlib.Core.Bool.{Bool, true, false, ◌&&◌}
use mathlib.Core.List.{List, [], ◌∷◌}
use mathlib.Core.Path.{◌≡◌, refl, sym, ◌∙◌, ap}
use native.Mathlib.Omega.{arith}
use borrow.Author.Tests.{lt-ltb, eqb-false}
use lib.Dec.{eqb}
use lib.ListN.{length, drop, length-drop}
use Rattle.octets.specs.declared.Refusal.TheVariants.{InvalidMemoryAddress}
use Rattle.octets.specs.Number.{Bytes}
use Rattle.octets.specs.Reader.{Reader, Outcome, run, then}
use Rattle.octets.specs.Reader.Reader.{done}
use Rattle.octets.specs.Reader.Outcome.{read, fault}
use Rattle.octets.proofs.Digits.{drop-bytes, spelled-lt}
use Rattle.octets.proofs.Parts.{skip-room}
use Rattle.octets.proofs.Reading.{onwards, run-then}
use Rattle.dna.specs.declared.dna.DnaCounts.{DnaCounts}
use Rattle.dna.specs.Catalogue.{Dna, catalogue, counts}
use Rattle.header.specs.declared.Header.{Header}
use Rattle.header.specs.Layout.{Field, Item, widths, block_header_length}
use Rattle.block.specs.declared.BlockHeader.{BlockHeader}
use Rattle.block.specs.declared.Row.{Row}
use Rattle.block.specs.BlockHeaders.{block_header, header_at}
use Rattle.block.specs.Kinds.{kind_of, about}
use Rattle.block.specs.Rows.{payload_of}
use Rattle.block.specs.Spelling.{Spell, fits}
use Rattle.block.proofs.Layouts.{header_there}
use Rattle.blend.specs.declared.blend.Boundary.{Boundary}
use Rattle.octets.specs.declared.Fault.{Fault}
use Rattle.blend.specs.Blocks.{taken, is_dna, catalogued, block, rowed, row_at, finished, boundary_of}
use Rattle.blend.specs.Chain.{ended}
use Rattle.blend.proofs.Chains.{block_row}
use Rattle.blend.proofs.Links.{Linked, no-mark}
use Rattle.blend.proofs.Rows.{Headed, by_code, on-payload, payload-at, row-headed, boundary_block}
use Rattle.writable.specs.Writable.{as_last}
use Rattle.writable.proofs.Accepted.{RowTaken, AllTaken}
use Rattle.roundtrip.proofs.Codes.{after, passed}

-- Of a block header that was read the address is not 0.
module _ (h : Header) (s : List ℕ) (at : ℕ) (b : BlockHeader) (from : ℕ) (g : read b from ≡ run (block_header h) s at) where
  address-some : at + block_header_length h.format h.pointer_size ≤ length s → b.address ≡ 0 → ⊥
  address-some l z = go (eqb (header_at h s at).address 0) refl (header_there h s at l ∙ sym g)
    where
      go : (t : Bool) → eqb (header_at h s at).address 0 ≡ t
          → (elim t as (λ (c : Bool). Outcome BlockHeader) [ true ↦ fault (Fault.Refusal InvalidMemoryAddress) | false ↦ read (header_at h s at) (at + block_header_length h.format h.pointer_size) ]) ≡ read b from → ⊥
      go true q w =
          let y : ◌≡◌ {A = ℕ} 0 1 = cc in
          absurd (omega arith)
      go false q w =
          let y : header_at h s at ≡ b = cc in
          eqb-false _ _ q (ap (λ (c : BlockHeader). c.address) y ∙ z)

-- A block at a boundary.
module _ (h : Header) (s : List ℕ) (at : ℕ) (r : Row) (l : Option DnaCounts) (next : ℕ) (e : boundary_of h s at ≡ Ok (Boundary.Block r l next)) where
  w : Headed h s at r next
  w = row-headed h s at r next (block_row h s at r l next e)

  -- its code's test passed
  code-passed : taken (kind_of r.code) r.count ≡ done tt
  unfolding row_at by_code
  code-passed = ap (λ (q : Row). taken (kind_of q.code) q.count) w.row ∙ go (run (block h) s at) refl (block_row h s at r l next e)
    where
      go : (o : Outcome BlockHeader) → run (block h) s at ≡ o → rowed h at o ≡ read r next → taken (kind_of w.block.code) w.block.count ≡ done tt
      go (read d m) q v =
          (passed (about (kind_of w.block.code)).takes w.block.count (λ u. done w.block) s next d m (sym (on-payload h s at w.block w.from w.header next w.payload) ∙ q)).0
      go (fault x) q v =
          let y : ◌≡◌ {A = ℕ} 0 1 = cc in
          absurd (omega arith)

  -- and a DNA1's catalogue was found
  is-finished : finished h s r next ≡ Ok (Boundary.Block r l next)
  is-finished = boundary_block h s at (no-mark h s at r l next e) r next (sym (block_row h s at r l next e)) ∙ e

  last_found : (end : ℕ) × (run (after h.endianness (is_dna (kind_of r.code))) (payload_of s r) 0 ≡ read l end)
  unfolding finished run
  last_found = go (is_dna (kind_of r.code)) is-finished
    where
      found : (o : Outcome Dna) → run (catalogue h.endianness) (payload_of s r) 0 ≡ o → catalogued r next o ≡ Ok (Boundary.Block r l next)
          → (end : ℕ) × (onwards o (λ d m. read (Some (counts d)) m) ≡ read l end)
      found (read d m) q v =
          let y : (Some (counts d)) ≡ l = cc in
          (m, ap (λ (k : Option DnaCounts). read k m) y)
      found (fault x) q v =
          let y : ◌≡◌ {A = ℕ} 0 1 = cc in
          absurd (omega arith)

      go : (b : Bool) → (elim b as (λ t. (Result Boundary Fault)) [ true ↦ catalogued r next (run (catalogue h.endianness) (payload_of s r) 0) | false ↦ Ok (Boundary.Block r None next) ]) ≡ Ok (Boundary.Block r l next)
          → (end : ℕ) × (run (after h.endianness b) (payload_of s r) 0 ≡ read l end)
      go true v =
          let f = found (run (catalogue h.endianness) (payload_of s r) 0) refl v in
          (f.0, run-then (catalogue h.endianness) (λ d. done (Some (counts d))) (payload_of s r) 0 ∙ f.1)
      go false v =
          let y : None ≡ l = cc in
          (0, ap (λ (k : Option DnaCounts). read k 0) y)

  as_found : run (as_last h.endianness r.code r.count) (payload_of s r) 0 ≡ read l last_found.0
  unfolding as_last run then
  as_found = ap (λ (t : Reader (Unit {0})). run (then t (λ u. after h.endianness (is_dna (kind_of r.code)))) (payload_of s r) 0) code-passed ∙ last_found.1

  pub block-taken : RowTaken h.endianness s r l
  block-taken =
      let k = skip-room w.block.size s w.from next w.payload in
      let f = payload-at h s at w.block w.from w.header in
      let p = ap (λ (q : Row). q.payload) w.row in
      let n = ap (λ (q : Row). q.len) w.row in
      record {
        some = λ z. address-some h s at w.block w.from w.header (omega (arith, k.1, f)) (sym (ap (λ (q : Row). q.address) w.row) ∙ z);
        inside = omega (arith, k.1, f, p, n);
        end = last_found.0;
        found = as_found;
      }

-- All blocks up to the end mark.
pub linked-taken : (h : Header) (s : List ℕ) (rows : List Row) (at : ℕ) (last : Option DnaCounts) (n : DnaCounts) (end : ℕ) → Linked h s at last rows n end → AllTaken h.endianness s rows last (Some n)
linked-taken h s [] at last n end w = go last w.1
  where
    go : (l : Option DnaCounts) → ended l (at + 4) ≡ read n end → l ≡ Some n
    go None q =
        let y : ◌≡◌ {A = ℕ} 0 1 = cc in
        absurd (omega arith)
    go (Some m) q =
        let y : m ≡ n = cc in
        ap Some y
linked-taken h s (r ∷ rs) at last n end w = (w.0, block-taken h s at r w.0 w.1 w.2, linked-taken h s rs w.1 w.0 n end w.3)

-- Numbers that bytes spell have room in as many bytes.
pub spelt-fits : (is : List Item) (f : Field → ℕ) (bs : List ℕ) (at : ℕ) → Bytes bs → at + widths is ≤ length bs → Spell is f bs at → fits is f ≡ true
spelt-fits [] f bs at b k w = refl
spelt-fits (i ∷ is) f bs at b k w =
    let m : i.width ≤ length (drop at bs) = omega (arith, length-drop at bs) in
    let n : f i.field < 256 ^ i.width = rw (← w.0) (spelled-lt i.order (drop at bs) i.width (drop-bytes bs at b) m) in
    ap (λ (t : Bool). t && fits is f) (lt-ltb _ _ n) ∙ spelt-fits is f bs (at + i.width) b (omega arith) w.1

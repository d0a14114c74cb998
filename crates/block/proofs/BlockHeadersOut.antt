-- A block header that was written is read back, and one that was read is written as it was: over its layout, so for all editions, pointer sizes and orders at once.
use Prim.Native.Nat.{ℕ, ◌+◌, ◌^◌, ◌≤◌, ◌<◌}
use mathlib.Core.Bool.{true}
use mathlib.Core.List.{List, [], ◌∷◌, ◌++◌, append_assoc}
use mathlib.Core.Path.{◌≡◌, refl, sym, ◌∙◌, ap}
use native.Mathlib.Omega.{arith}
use borrow.Author.Tests.{ltb-true, ne_eqb}
use lib.Dec.{ltb}
use lib.ListN.{length, drop, length-append}
use lib.Seq.{take_all}
use Rattle.octets.specs.declared.Endianness.{Endianness}
use Rattle.octets.specs.declared.Endianness.TheVariants.{Big}
use Rattle.octets.specs.Looks.{part}
use Rattle.octets.specs.Number.{Bytes, spelled, bytes_of}
use Rattle.octets.specs.PointerSize.{pointer_bytes}
use Rattle.octets.specs.Reader.{Reader, run}
use Rattle.octets.specs.Reader.Outcome.{read}
use Rattle.octets.proofs.Digits.{take-bytes, drop-bytes}
use Rattle.octets.proofs.Here.{Here, here-same, here-number, number-next}
use Rattle.octets.proofs.Parts.{part-long, part_join}
use Rattle.octets.proofs.Spelling.{bytes_of-length, spelled-bytes_of}
use Rattle.octets.proofs.Tests.{failed, both-held}
use Rattle.header.specs.declared.FileFormat.{FileFormat}
use Rattle.header.specs.declared.FileFormat.TheVariants.{Legacy, New}
use Rattle.header.specs.declared.Header.{Header}
use Rattle.header.specs.Layout.{Field, Item, layout_of, layout, widths, block_header_length}
use Rattle.header.specs.Layout.Field.{size, address, index, count}
use Rattle.header.proofs.Lengths.{layout-length}
use Rattle.block.specs.declared.BlockHeader.{BlockHeader}
use Rattle.block.specs.declared.Row.{Row}
use Rattle.block.specs.BlockHeaders.{tell, tested, fields, code_told, block_header}
use Rattle.block.specs.Spelling.{told, Spell, spell, fits, block_header_out, row_fits}

-- as many bytes as the layout is wide
spell-length : (is : List Item) (f : Field → ℕ) → length (spell is f) ≡ widths is
spell-length [] f = refl
spell-length (i ∷ is) f =
    omega (arith, length-append (bytes_of i.order i.width (f i.field)) (spell is f), bytes_of-length i.order i.width (f i.field), spell-length is f)

pub block_header_out-length : (h : Header) (r : Row) → length (block_header_out h r) ≡ block_header_length h.format h.pointer_size
unfolding block_header_out
block_header_out-length h r =
    omega (arith, length-append (bytes_of Big 4 r.code) (spell (layout h) (told r)), bytes_of-length Big 4 r.code, spell-length (layout h) (told r), layout-length h)

-- what the numbers of a layout tell
abbrev tells : List Item → (Field → ℕ) → BlockHeader → BlockHeader
tells [] f b = b
tells (i ∷ is) f b = tells is f (tell i.field (f i.field) b)

-- an address that is not 0 passes its test, and the other numbers have none
tested-passed : {A : Type 0} (f : Field) (n : ℕ) (r : Reader A) → (f ≡ address → n ≡ 0 → ⊥) → tested f n r ≡ r
tested-passed size n r h = refl
tested-passed address n r h = failed _ _ (ne_eqb _ _ (h refl))
tested-passed index n r h = refl
tested-passed count n r h = refl

-- Numbers that have room are read back, one after another.
module _ (f : Field → ℕ) (some : f address ≡ 0 → ⊥) (s ys : List ℕ) where
  passes : (x : Field) → x ≡ address → f x ≡ 0 → ⊥
  passes x e z = some (ap f (sym e) ∙ z)

  fields_back : (is : List Item) (b : BlockHeader) (at : ℕ) → fits is f ≡ true → Here s at (spell is f ++ ys) → run (fields is b) s at ≡ read (tells is f b) (at + widths is)
  unfolding fields run
  fields_back [] b at r w = ap (read b) (omega arith)
  fields_back (i ∷ is) b at r w =
      let n = f i.field in
      let q = both-held (ltb n (256 ^ i.width)) (fits is f) r in
      let v = here-same s at _ _ (append_assoc (bytes_of i.order i.width n) (spell is f) ys) w in
      let e : at + i.width + widths is ≡ at + (i.width + widths is) = omega arith in
      here-number s at i.order i.width n (spell is f ++ ys) v (λ m. tested i.field m (fields is (tell i.field m b))) (ltb-true _ _ q.0)
      ∙ ap (λ (t : Reader BlockHeader). run t s (at + i.width)) (tested-passed i.field n (fields is (tell i.field n b)) (passes i.field))
      ∙ fields_back is (tell i.field n b) (at + i.width) q.1 (number-next s at i.order i.width n (spell is f ++ ys) v)
      ∙ ap (read (tells (i ∷ is) f b)) e

-- what a row's block header says
abbrev pub header_told : Row → BlockHeader
header_told r = record { code = r.code; size = r.len; address = r.address; index = r.index; count = r.count }

-- the layouts of both editions tell each number once
tells_once : (f : FileFormat) (p : ℕ) (e : Endianness) (r : Row) → tells (layout_of f p e) (told r) (code_told r.code) ≡ header_told r
tells_once Legacy p e r = refl
tells_once New p e r = refl

module _ (h : Header) (r : Row) (s ys : List ℕ) (at : ℕ) where
  abbrev long : ℕ
  long = block_header_length h.format h.pointer_size

  pub block_header-back : (r.address ≡ 0 → ⊥) → r.code < 256 ^ 4 → row_fits h r ≡ true → Here s at (block_header_out h r ++ ys) → run (block_header h) s at ≡ read (header_told r) (at + long)
  unfolding block_header block_header_out
  block_header-back z c g w =
      let v = here-same s at _ _ (append_assoc (bytes_of Big 4 r.code) (spell (layout h) (told r)) ys) w in
      let e : at + 4 + widths (layout h) ≡ at + long = omega (arith, layout-length h) in
      here-number s at Big 4 r.code (spell (layout h) (told r) ++ ys) v (λ n. fields (layout h) (code_told n)) c
      ∙ fields_back (told r) z s ys (layout h) (code_told r.code) (at + 4) g (number-next s at Big 4 r.code (spell (layout h) (told r) ++ ys) v)
      ∙ ap (read (tells (layout h) (told r) (code_told r.code))) e
      ∙ ap (λ (b : BlockHeader). read b (at + long)) (tells_once h.format (pointer_bytes h.pointer_size) h.endianness r)

-- Bytes that spell numbers are those that are written of them.
part-spelt : (e : Endianness) (s : List ℕ) (at w n : ℕ) → Bytes s → at + w ≤ length s → spelled e (part s at w) ≡ n → bytes_of e w n ≡ part s at w
part-spelt e s at w n b l g =
    ap (bytes_of e w) (sym g) ∙ ap (λ (k : ℕ). bytes_of e k (spelled e (part s at w))) (sym (part-long s at w l)) ∙ spelled-bytes_of e (part s at w) (take-bytes (drop at s) w (drop-bytes s at b))

spell-again : (is : List Item) (f : Field → ℕ) (s : List ℕ) (at : ℕ) → Bytes s → at + widths is ≤ length s → Spell is f s at → spell is f ≡ part s at (widths is)
spell-again [] f s at b l g = refl
spell-again (i ∷ is) f s at b l g =
    ap (λ (x : List ℕ). x ++ spell is f) (part-spelt i.order s at i.width (f i.field) b (omega arith) g.0)
    ∙ ap (λ (x : List ℕ). part s at i.width ++ x) (spell-again is f s (at + i.width) b (omega arith) g.1)
    ∙ part_join s at i.width (widths is)

pub block_header-again : (h : Header) (r : Row) (bs : List ℕ) → Bytes bs → length bs ≡ block_header_length h.format h.pointer_size → spelled Big (part bs 0 4) ≡ r.code
    → Spell (layout h) (told r) bs 4 → block_header_out h r ≡ bs
unfolding block_header_out
block_header-again h r bs b l c g =
    ap (λ (x : List ℕ). x ++ spell (layout h) (told r)) (part-spelt Big bs 0 4 r.code b (omega (arith, layout-length h)) c)
    ∙ ap (λ (x : List ℕ). part bs 0 4 ++ x) (spell-again (layout h) (told r) bs 4 b (omega (arith, layout-length h)) g)
    ∙ part_join bs 0 4 (widths (layout h))
    ∙ take_all (4 + widths (layout h)) bs (omega (arith, layout-length h))

-- The bytes of a block header that was read spell the numbers of its row.
use Prim.Native.Nat.{ℕ, ◌+◌, ◌≤◌}
use mathlib.Core.List.{List, [], ◌∷◌}
use mathlib.Core.Path.{◌≡◌, refl, sym, ◌∙◌, ap, subst}
use native.Mathlib.Omega.{arith}
use Rattle.octets.specs.declared.Endianness.{Endianness}
use Rattle.octets.specs.declared.Endianness.TheVariants.{Big}
use Rattle.octets.specs.Number.{spelled}
use Rattle.octets.specs.PointerSize.{pointer_bytes}
use Rattle.octets.specs.Reader.{Reader, run}
use Rattle.octets.specs.Reader.Outcome.{read}
use Rattle.header.specs.declared.FileFormat.{FileFormat}
use Rattle.header.specs.declared.FileFormat.TheVariants.{Legacy, New}
use Rattle.header.specs.declared.Header.{Header}
use Rattle.block.specs.declared.BlockHeader.{BlockHeader}
use Rattle.header.specs.Layout.{Field, Item, layout_of, layout, widths}
use Rattle.block.specs.BlockHeaders.{code_told, tell, tested, fields, block_header, tell_all}
use Rattle.block.specs.Rows.{row_of}
use Rattle.block.proofs.Layouts.{tested_reads}
use Rattle.octets.specs.Looks.{part}
use Rattle.block.specs.Spelling.{told, Spell}
use Rattle.octets.proofs.Going.{number_read}
use Rattle.octets.proofs.Parts.{part-part}

fields_read : (is : List Item) (b : BlockHeader) (s : List ℕ) (at : ℕ) (r : BlockHeader) (next : ℕ) → run (fields is b) s at ≡ read r next → r ≡ tell_all is s at b
unfolding fields run
fields_read [] b s at r next g = cc
fields_read (i ∷ is) b s at r next g =
    let n = spelled i.order (part s at i.width) in
    let on : ℕ → Reader BlockHeader = λ m. tested i.field m (fields is (tell i.field m b)) in
    let k = number_read i.order i.width on s at r next g in
    fields_read is (tell i.field n b) s (at + i.width) r next (tested_reads i.field n (fields is (tell i.field n b)) s (at + i.width) r next k)

module _ (h : Header) (s : List ℕ) (at : ℕ) where
  abbrev coded : BlockHeader
  coded = code_told (spelled Big (part s at 4))

  pub header_read_lem : (b : BlockHeader) (next : ℕ) → run (block_header h) s at ≡ read b next → b ≡ tell_all (layout h) s (at + 4) coded
  unfolding block_header
  header_read_lem b next g =
      fields_read (layout h) coded s (at + 4) b next
      (number_read Big 4 (λ c. fields (layout h) (code_told c)) s at b next g)

  -- the layouts of both editions tell each number once
  told_once : (f : FileFormat) (p : ℕ) (e : Endianness) → Spell (layout_of f p e) (told (row_of h at (tell_all (layout_of f p e) s (at + 4) coded))) s (at + 4)
  told_once Legacy p e = (refl, (refl, (refl, (refl, tt))))
  told_once New p e = (refl, (refl, (refl, (refl, tt))))

  code_once : (f : FileFormat) (p : ℕ) (e : Endianness) → spelled Big (part s at 4) ≡ (tell_all (layout_of f p e) s (at + 4) coded).code
  code_once Legacy p e = refl
  code_once New p e = refl

  module _ (b : BlockHeader) (next : ℕ) (g : run (block_header h) s at ≡ read b next) where
    pub code-spelt : spelled Big (part s at 4) ≡ b.code
    code-spelt = code_once h.format (pointer_bytes h.pointer_size) h.endianness ∙ sym (ap (λ (c : BlockHeader). c.code) (header_read_lem b next g))

    pub numbers-spelt : Spell (layout h) (told (row_of h at b)) s (at + 4)
    numbers-spelt =
        subst (λ (c : BlockHeader). Spell (layout h) (told (row_of h at c)) s (at + 4)) (sym (header_read_lem b next g))
        (told_once h.format (pointer_bytes h.pointer_size) h.endianness)

pub spell-part : (is : List Item) (f : Field → ℕ) (s : List ℕ) (at n k : ℕ) → k + widths is ≤ n → Spell is f s (at + k) → Spell is f (part s at n) k
spell-part [] f s at n k h w = tt
spell-part (i ∷ is) f s at n k h w =
    let e : at + k + i.width ≡ at + (k + i.width) = omega arith in (
      ap (spelled i.order) (part-part s at n k i.width (omega arith)) ∙ w.0,
      spell-part is f s at n (k + i.width) (omega arith) (subst (λ (j : ℕ). Spell is f s j) e w.1),
    )

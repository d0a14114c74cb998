-- Block headers: what is read of one, by its layout, and what it holds where all of it is there.
use Rattle.std.specs.Prelude.{ℕ, ◌+◌, true, false, List, [], ◌∷◌, eqb, length, Result}
use Rattle.octets.specs.declared.Endianness.TheVariants.{Big}
use Rattle.octets.specs.declared.Fault.{Fault}
use Rattle.octets.specs.declared.Refusal.TheVariants.{InvalidMemoryAddress}
use Rattle.octets.specs.declared.cursor.Cursor.{Cursor}
use Rattle.octets.specs.Cursor.{found}
use Rattle.octets.specs.Helpers.{number_at}
use Rattle.octets.specs.Number.{number}
use Rattle.octets.specs.Paper.{Paper}
use Rattle.octets.specs.Reader.{Reader}
use Rattle.octets.specs.Reader.Reader.{done, refuse}
use Rattle.octets.specs.Refusals.{told}
use Rattle.header.specs.declared.Header.{Header}
use Rattle.header.specs.Layout.{Field, Item, layout, block_header_length}
use Rattle.header.specs.Layout.Field.{size, address, index, count}
use Rattle.block.specs.declared.BlockHeader.{BlockHeader}

-- a block header with one number told
abbrev pub tell : Field → ℕ → BlockHeader → BlockHeader
tell size n b = record { code = b.code; size = n; address = b.address; index = b.index; count = b.count }
tell address n b = record { code = b.code; size = b.size; address = n; index = b.index; count = b.count }
tell index n b = record { code = b.code; size = b.size; address = b.address; index = n; count = b.count }
tell count n b = record { code = b.code; size = b.size; address = b.address; index = b.index; count = n }

-- address not 0 (3), for every code
abbrev pub tested : {A : Type 0} → Field → ℕ → Reader A → Reader A
tested size n r = r
tested address n r = elim (eqb n 0) [ true ↦ refuse InvalidMemoryAddress | false ↦ r ]
tested index n r = r
tested count n r = r

-- the numbers of a layout, one after another
unfoldable pub fields : List Item → BlockHeader → Reader BlockHeader
fields [] b = done b
fields (i ∷ is) b = number i.order i.width (λ n. tested i.field n (fields is (tell i.field n b)))

-- a block header with its code told, and nothing else yet
abbrev pub code_told : ℕ → BlockHeader
code_told c = record { code = c; size = 0; address = 0; index = 0; count = 0 }

-- a block header: its code, first byte most significant, and the numbers of its layout
unfoldable pub block_header : Header → Reader BlockHeader
unfolding fields
block_header h = number Big 4 (λ c. fields (layout h) (code_told c))

-- the paper of what a read of one answers: code, size, address, index, count
abbrev pub paper_block_header : Result (BlockHeader × Cursor) Fault → Paper
paper_block_header r = told (λ b. b.code ∷ b.size ∷ b.address ∷ b.index ∷ b.count ∷ []) (found r)

-- A block header all of which stands at a place: its code, and the numbers of its layout one after another. Its tree finds the same, unless the address is 0
-- (proofs/Layouts.antt, `header_there`).
abbrev pub tell_all : List Item → List ℕ → ℕ → BlockHeader → BlockHeader
tell_all [] s at b = b
tell_all (i ∷ is) s at b = tell_all is s (at + i.width) (tell i.field (number_at i.order i.width s at) b)

abbrev pub header_at : Header → List ℕ → ℕ → BlockHeader
header_at h s at = tell_all (layout h) s (at + 4) (code_told (number_at Big 4 s at))

-- what a block header says whose bytes these are, whatever its address; nothing is told where they are more or fewer than it has
unfoldable pub header_in : Header → List ℕ → BlockHeader
header_in h bs = elim (eqb (length bs) (block_header_length h.format h.pointer_size)) [ true ↦ header_at h bs 0 | false ↦ code_told 0 ]

-- A block header's tree is made of reads, refusal 3 and an end alone. So what holds of these, of a read whenever of all that follows it, holds of the tree.
use Prim.Native.Nat.{ℕ}
use mathlib.Core.Bool.{Bool, true, false}
use mathlib.Core.List.{List, [], ◌∷◌}
use lib.Dec.{eqb}
use Rattle.octets.specs.declared.Refusal.{Refusal}
use Rattle.octets.specs.declared.Refusal.TheVariants.{InvalidMemoryAddress}
use Rattle.octets.specs.Number.{spelled}
use Rattle.octets.specs.Reader.{Reader}
use Rattle.octets.specs.Reader.Reader.{done, refuse, bytes}
use Rattle.octets.proofs.Cutting.{Wanting}
use Rattle.octets.proofs.Own.{Sober}
use Rattle.octets.proofs.Refusing.{Gives}
use Rattle.header.specs.declared.Header.{Header}
use Rattle.header.specs.Layout.{Field, Item, layout}
use Rattle.header.specs.Layout.Field.{size, address, index, count}
use Rattle.block.specs.declared.BlockHeader.{BlockHeader}
use Rattle.block.specs.BlockHeaders.{tested, fields, block_header}

module _ (P : Reader BlockHeader → Type 0) (end : (b : BlockHeader) → P (done b)) (null : P (refuse InvalidMemoryAddress))
    (read : (n : ℕ) (k : List ℕ → Reader BlockHeader) → ((b : List ℕ) → P (k b)) → P (bytes n k)) where
  of-tested : (f : Field) (n : ℕ) (r : Reader BlockHeader) → P r → P (tested f n r)
  of-tested size n r w = w
  of-tested index n r w = w
  of-tested count n r w = w
  of-tested address n r w = go (eqb n 0)
    where
      go : (c : Bool) → P (elim c as (λ (d : Bool). Reader BlockHeader) [ true ↦ refuse InvalidMemoryAddress | false ↦ r ])
      go true = null
      go false = w

  of_fields : (is : List Item) (b : BlockHeader) → P (fields is b)
  unfolding fields
  of_fields [] b = end b
  of_fields (i ∷ is) b = read _ _ (λ bs. of-tested i.field (spelled i.order bs) _ (of_fields is _))

  pub of-block_header : (h : Header) → P (block_header h)
  unfolding block_header
  of-block_header h = read _ _ (λ bs. of_fields (layout h) _)

-- where its bytes are cut it stops with a cut
pub block_header_wants : (h : Header) → Wanting (block_header h)
block_header_wants h = of-block_header Wanting (λ b. tt) tt (λ n k f. f) h

-- it looks at its own bytes alone
pub block_header_sober : (h : Header) → Sober (block_header h)
block_header_sober h = of-block_header Sober (λ b. tt) tt (λ n k f. f) h

-- why it is not read is a cut, or that its address is 0: what holds of this refusal holds of every refusal that its tree gives
pub block_header-gives : (P : Refusal → Type 0) → P InvalidMemoryAddress → (h : Header) → Gives P (block_header h)
block_header-gives P w h = of-block_header (Gives P) (λ b. tt) w (λ n k f. f) h

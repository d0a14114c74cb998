-- The papers and the outcomes of the answers lose nothing: two answers that are told alike are the same answer.
use Rattle.octets.proofs.Lossless.{whole-told, whole-found}
use Rattle.std.specs.Prelude.{Result}
use Rattle.octets.specs.declared.Fault.{Fault}
use Rattle.octets.specs.declared.cursor.Cursor.{Cursor}
use Rattle.octets.specs.Cursor.{found}
use Rattle.block.specs.BlockHeaders.{paper_block_header}
use Rattle.block.specs.declared.BlockHeader.{BlockHeader}
use Prim.Native.Nat.{ℕ}
use mathlib.Core.List.{List, [], ◌∷◌}
use mathlib.Core.Path.{◌≡◌, refl, sym, ◌∙◌, ap}
use lib.ListN.{get_or}
use Rattle.octets.specs.Paper.{Paper}
use Rattle.octets.specs.Paper.Paper.{accepts, integer, real, refuses}
use Rattle.block.specs.declared.Kind.{Kind}
use Rattle.block.specs.declared.Row.{Row}
use Rattle.block.specs.Kinds.{paper_kind}
use Rattle.block.specs.Rows.{row_numbers, row_spelt}

pub whole_row : (r q : Row) → row_numbers r ≡ row_numbers q → r ≡ q
whole_row r q e = ap (λ (l : List ℕ). row_spelt l 0) e

-- a kind by its number
kind_told : Paper → Kind
kind_told (accepts n vs) = get_or (Kind.Rend ∷ Kind.Test ∷ Kind.Global ∷ Kind.Subsidiary ∷ Kind.Principal ∷ Kind.Dna ∷ []) n Kind.Unknown
kind_told (integer z) = Kind.Unknown
kind_told (real x) = Kind.Unknown
kind_told (refuses n vs) = Kind.Unknown

kind_back : (k : Kind) → kind_told (paper_kind k) ≡ k
unfolding kind_told
kind_back Kind.Rend = refl
kind_back Kind.Test = refl
kind_back Kind.Global = refl
kind_back Kind.Subsidiary = refl
kind_back Kind.Principal = refl
kind_back Kind.Dna = refl
kind_back Kind.Unknown = refl

pub whole_kind : (a b : Kind) → paper_kind a ≡ paper_kind b → a ≡ b
whole_kind a b e = sym (kind_back a) ∙ ap kind_told e ∙ kind_back b

-- a block header by its numbers, and what the read of one answers
one-block_header : (a b : BlockHeader) → (a.code ∷ a.size ∷ a.address ∷ a.index ∷ a.count ∷ []) ≡ (b.code ∷ b.size ∷ b.address ∷ b.index ∷ b.count ∷ []) → a ≡ b
one-block_header a b e =
    ap (λ (l : List ℕ). record { code = get_or l 0 0; size = get_or l 1 0; address = get_or l 2 0; index = get_or l 3 0; count = get_or l 4 0 }) e

pub paper_block_header_lem : (a b : Result (BlockHeader × Cursor) Fault) → paper_block_header a ≡ paper_block_header b → a ≡ b
paper_block_header_lem a b e =
    whole-found a b (whole-told (λ h. h.code ∷ h.size ∷ h.address ∷ h.index ∷ h.count ∷ []) one-block_header (found a) (found b) e)

-- The papers and the outcomes of the answers lose nothing: two answers that are told alike are the same answer.
use Rattle.std.specs.Prelude.{Result, Ok, Err, Some, None}
use Prim.Native.Nat.{ℕ}
use mathlib.Core.List.{List, []}
use mathlib.Core.Path.{◌≡◌, refl, sym, ◌∙◌, ap}
use lib.ListN.{get_or}
use Rattle.dna.specs.declared.dna.DnaCounts.{DnaCounts}
use Rattle.header.specs.declared.Header.{Header}
use Rattle.blend.specs.declared.blend.RawBlend.{RawBlend}
use Rattle.blend.specs.declared.blend.BlendError.{BlendError}
use Rattle.header.proofs.Lossless.{header-one}
use native.Mathlib.Omega.{arith}
use Rattle.octets.specs.declared.Fault.{Fault}
use Rattle.octets.specs.Refusals.{block_table_too_short, paper_fault}
use Rattle.octets.proofs.Lossless.{whole-fault, no-fault}
use Rattle.dna.specs.Catalogue.{count_numbers}
use Rattle.block.proofs.Lossless.{whole_row}
use Rattle.block.specs.declared.Row.{Row}
use Rattle.blend.specs.declared.blend.Boundary.{Boundary}
use Rattle.blend.specs.Blocks.{paper_boundary}
use Rattle.blend.specs.Chain.{paper_blend}

counts-one : (m n : DnaCounts) → count_numbers m ≡ count_numbers n → m ≡ n
counts-one m n e = ap (λ (l : List ℕ). record { names = get_or l 0 0; types = get_or l 1 0; structs = get_or l 2 0; fields = get_or l 3 0 }) e

-- the reader's answer
blend_one : (a b : RawBlend) → a.header ≡ b.header → a.rows ≡ b.rows → a.end ≡ b.end → a.dna ≡ b.dna → a ≡ b
blend_one a b h r e d =
    ap (λ (x : Header). record { header = x; rows = a.rows; end = a.end; dna = a.dna }) h
    ∙ ap (λ (x : ℕ). record { header = b.header; rows = x; end = a.end; dna = a.dna }) r
    ∙ ap (λ (x : ℕ). record { header = b.header; rows = b.rows; end = x; dna = a.dna }) e
    ∙ ap (λ (x : DnaCounts). record { header = b.header; rows = b.rows; end = b.end; dna = x }) d

-- a fault is no refusal 7
pub no_short : (rows : ℕ) (x : Fault) → block_table_too_short rows ≡ paper_fault x → ⊥
no_short rows x h = no-fault 7 rows [] (omega arith) x h

pub whole-blend : (a b : Result RawBlend BlendError) → paper_blend a ≡ paper_blend b → a ≡ b
whole-blend (Ok x) (Ok y) e =
    let h = header-one x.header y.header (cc) (cc) (cc) (cc) (cc) in
    let d = counts-one x.dna y.dna (cc) in
    ap (λ (z : RawBlend). (Ok z)) (blend_one x y h (cc) (cc) d)
whole-blend (Ok x) (Err (BlendError.Fault n)) e = cc
whole-blend (Ok x) (Err (BlendError.TableTooShort n)) e = cc
whole-blend (Err (BlendError.Fault m)) (Ok y) e = cc
whole-blend (Err (BlendError.Fault x)) (Err (BlendError.Fault y)) e = ap (λ (z : Fault). Err (BlendError.Fault z)) (whole-fault x y e)
whole-blend (Err (BlendError.Fault x)) (Err (BlendError.TableTooShort n)) e = absurd (no_short n x (sym e))
whole-blend (Err (BlendError.TableTooShort m)) (Ok y) e = cc
whole-blend (Err (BlendError.TableTooShort m)) (Err (BlendError.Fault y)) e = absurd (no_short m y e)
whole-blend (Err (BlendError.TableTooShort m)) (Err (BlendError.TableTooShort n)) e = cc

-- what is at a boundary
pub paper_boundary_lem : (a b : Result Boundary Fault) → paper_boundary a ≡ paper_boundary b → a ≡ b
paper_boundary_lem (Ok Boundary.EndMark) (Ok Boundary.EndMark) e = refl
paper_boundary_lem (Ok Boundary.EndMark) (Ok (Boundary.Block q None m)) e = let z : ◌≡◌ {A = ℕ} 1 0 = cc in absurd (omega arith)
paper_boundary_lem (Ok Boundary.EndMark) (Ok (Boundary.Block q (Some c) m)) e = let z : ◌≡◌ {A = ℕ} 1 2 = cc in absurd (omega arith)
paper_boundary_lem (Ok Boundary.EndMark) (Err y) e = cc
paper_boundary_lem (Ok (Boundary.Block r None n)) (Ok Boundary.EndMark) e = let z : ◌≡◌ {A = ℕ} 0 1 = cc in absurd (omega arith)
paper_boundary_lem (Ok (Boundary.Block r None n)) (Ok (Boundary.Block q None m)) e =
    let z : n ≡ m = cc in
    ap (λ (x : Row). (Ok (Boundary.Block x None n))) (whole_row r q (cc)) ∙ ap (λ (x : ℕ). (Ok (Boundary.Block q None x))) z
paper_boundary_lem (Ok (Boundary.Block r None n)) (Ok (Boundary.Block q (Some c) m)) e = let z : ◌≡◌ {A = ℕ} 0 2 = cc in absurd (omega arith)
paper_boundary_lem (Ok (Boundary.Block r None n)) (Err y) e = cc
paper_boundary_lem (Ok (Boundary.Block r (Some d) n)) (Ok Boundary.EndMark) e = let z : ◌≡◌ {A = ℕ} 2 1 = cc in absurd (omega arith)
paper_boundary_lem (Ok (Boundary.Block r (Some d) n)) (Ok (Boundary.Block q None m)) e = let z : ◌≡◌ {A = ℕ} 2 0 = cc in absurd (omega arith)
paper_boundary_lem (Ok (Boundary.Block r (Some d) n)) (Ok (Boundary.Block q (Some c) m)) e =
    let z : n ≡ m = cc in
    ap (λ (x : Row). (Ok (Boundary.Block x (Some d) n))) (whole_row r q (cc)) ∙ ap (λ (x : DnaCounts). (Ok (Boundary.Block q (Some x) n))) (counts-one d c (cc))
    ∙ ap (λ (x : ℕ). (Ok (Boundary.Block q (Some c) x))) z
paper_boundary_lem (Ok (Boundary.Block r (Some d) n)) (Err y) e = cc
paper_boundary_lem (Err x) (Ok Boundary.EndMark) e = cc
paper_boundary_lem (Err x) (Ok (Boundary.Block q None m)) e = cc
paper_boundary_lem (Err x) (Ok (Boundary.Block q (Some c) m)) e = cc
paper_boundary_lem (Err x) (Err y) e = ap Err (whole-fault x y e)

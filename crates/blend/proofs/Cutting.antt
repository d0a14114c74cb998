-- A block that is cut stops with a cut.
use Rattle.std.specs.Prelude.{Ok, Err, Option}
use Prim.Native.Nat.{ℕ, ◌+◌, ◌≤◌, ◌<◌}
use mathlib.Core.Bool.{Bool, true, false}
use mathlib.Core.List.{List}
use mathlib.Core.Path.{◌≡◌, refl, sym, ◌∙◌, ap}
use native.Mathlib.Omega.{arith}
use lib.Dec.{leb}
use lib.ListN.{length, take}
use lib.Seq.{length-take-le}
use borrow.Author.Tests.{leb-true, leb-false}
use Rattle.octets.specs.declared.Fault.TheVariants.{Cut}
use Rattle.octets.specs.Ascii.{ascii}
use Rattle.octets.specs.Reader.{Outcome, run, then, same, stands}
use Rattle.octets.specs.Reader.Reader.{done, skip}
use Rattle.octets.specs.Reader.Outcome.{read, fault}
use Rattle.octets.proofs.Cutting.{CutWithin, Wanting, wanting_then, cut-read}
use Rattle.octets.proofs.Marks.{stands-cut}
use Rattle.octets.proofs.Parts.{inner}
use Rattle.header.specs.declared.Header.{Header}
use Rattle.block.specs.declared.BlockHeader.{BlockHeader}
use Rattle.block.specs.declared.Row.{Row}
use Rattle.block.specs.BlockHeaders.{block_header}
use Rattle.block.specs.Kinds.{kind_of}
use Rattle.block.proofs.Trees.{block_header_wants}
use Rattle.blend.specs.declared.blend.Boundary.{Boundary}
use Rattle.dna.specs.declared.dna.DnaCounts.{DnaCounts}
use Rattle.blend.specs.Blocks.{taken, block, rowed, row_at, boundary_of}
use Rattle.blend.proofs.Chains.{block_row}
use Rattle.blend.proofs.Links.{no-mark}
use Rattle.blend.proofs.Rows.{boundary_stops}
use Rattle.blend.proofs.Taken.{of-taken}

block_wants : (h : Header) → Wanting (block h)
unfolding block block_header
block_wants h =
    wanting_then (block_header h) (λ b. skip b.size (then (taken (kind_of b.code) b.count) (λ u. done b))) (block_header_wants h)
    (λ b. wanting_then (taken (kind_of b.code) b.count) (λ u. done b) (of-taken Wanting tt tt tt (kind_of b.code) b.count) (λ u. tt))

module _ (h : Header) (s : List ℕ) (k : ℕ) (l : k ≤ length s) (at : ℕ) (r : Row) (last : Option DnaCounts) (next : ℕ) (e : boundary_of h s at ≡ Ok (Boundary.Block r last next)) (i : at ≤ k) (o : k < next) where
  row_cut : CutWithin k (row_at h (take k s) at)
  unfolding row_at
  row_cut = go (run (block h) s at) refl (block_row h s at r last next e)
    where
      go : (x : Outcome BlockHeader) → run (block h) s at ≡ x → rowed h at x ≡ read r next → CutWithin k (rowed h at (run (block h) (take k s) at))
      go (read b m) t g =
          let n : m ≡ next = cc in
          let c = cut-read s k l (block h) (block_wants h) at b m t i (omega arith) in
          (c.0, ap (rowed h at) c.1, c.2)
      go (fault x) t g =
          let z : ◌≡◌ {A = ℕ} 0 1 = cc in
          absurd (omega arith)

  unmarked : stands (take k s) at (ascii "ENDB") ≡ false
  unmarked = go (leb (at + 4) k) refl
    where
      go : (t : Bool) → leb (at + 4) k ≡ t → stands (take k s) at (ascii "ENDB") ≡ false
      go true t = ap (λ (p : List ℕ). same p (ascii "ENDB")) (inner at 4 k s (leb-true _ _ t)) ∙ no-mark h s at r last next e
      go false t =
          let m : k < at + 4 = leb-false _ _ t in
          sym (stands-cut (take k s) at (ascii "ENDB") (λ z. absurd (omega arith)) (omega (arith, length-take-le k s l)))

  pub block-cut : (c : ℕ) × (boundary_of h (take k s) at ≡ Err (Cut c)) × (c ≤ k)
  block-cut =
      let c = row_cut in
      (c.0, sym (boundary_stops h (take k s) at unmarked (Cut c.0) (sym c.1)), c.2)

-- A chain that ends at an end mark, as its boundaries: one block after another, and then the mark.
use Rattle.std.specs.Prelude.{Result, Ok, Err, Option, Some, None}
use mathlib.Core.Bool.{Bool, true, false}
use Prim.Native.Nat.{ℕ, zero, suc, ◌+◌, ◌≤◌, ◌<◌}
use mathlib.Core.List.{List, [], ◌∷◌}
use mathlib.Core.Path.{◌≡◌, refl, ◌∙◌, ap}
use native.Mathlib.Omega.{arith}
use lib.ListN.{length}
use Rattle.octets.specs.Ascii.{ascii}
use Rattle.octets.specs.Reader.{Outcome, stands}
use Rattle.octets.specs.Reader.Outcome.{read}
use Rattle.dna.specs.declared.dna.DnaCounts.{DnaCounts}
use Rattle.header.specs.declared.Header.{Header}
use Rattle.block.specs.declared.Row.{Row}
use Rattle.blend.specs.declared.blend.Boundary.{Boundary}
use Rattle.octets.specs.declared.Fault.{Fault}
use Rattle.blend.specs.Blocks.{boundary_of}
use Rattle.blend.specs.Chain.{Chain, ended, link, chain}
use Rattle.blend.proofs.Chains.{block_moves, mark-room}
use Rattle.blend.proofs.Rows.{end_mark_lem}

-- from a boundary on, after the block `last`: these rows, and then the end mark, with the last DNA1's counts and the offset after the mark
abbrev pub Linked : Header → List ℕ → ℕ → Option DnaCounts → List Row → DnaCounts → ℕ → Type 0
Linked h s at last [] n end = (boundary_of h s at ≡ Ok Boundary.EndMark) × (ended last (at + 4) ≡ read n end)
Linked h s at last (r ∷ rs) n end = (l : Option DnaCounts) × (next : ℕ) × (boundary_of h s at ≡ Ok (Boundary.Block r l next)) × Linked h s next l rs n end

module _ (h : Header) (s : List ℕ) where
  -- a chain that ends well is linked
  pub linked : (k at : ℕ) (last : Option DnaCounts) (n : DnaCounts) (end : ℕ) → (chain k h s at last).last ≡ read n end → Linked h s at last (chain k h s at last).rows n end
  unfolding chain
  linked zero at last n end e =
      let z : ◌≡◌ {A = ℕ} 0 1 = cc in
      absurd (omega arith)
  linked (suc k) at last n end e = go (boundary_of h s at) refl e (λ next l. linked k next l n end)
    where
      go : (b : Result Boundary Fault) → boundary_of h s at ≡ b → (link b last at (chain k h s)).last ≡ read n end
          → ((next : ℕ) (l : Option DnaCounts) → (chain k h s next l).last ≡ read n end → Linked h s next l (chain k h s next l).rows n end)
          → Linked h s at last (link b last at (chain k h s)).rows n end
      go (Ok Boundary.EndMark) t g f = (t, g)
      go (Ok (Boundary.Block r l next)) t g f = (l, next, t, f next l g)
      go (Err x) t g f =
          let z : ◌≡◌ {A = ℕ} 0 1 = cc in
          absurd (omega arith)

  -- and what is linked is the chain, whatever its fuel, if that is enough
  pub chained : (rows : List Row) (k at : ℕ) (last : Option DnaCounts) (n : DnaCounts) (end : ℕ) → Linked h s at last rows n end → length s < at + k → at ≤ length s
      → chain k h s at last ≡ record { rows = rows; last = read n end }
  unfolding chain
  chained rows zero at last n end w e i = absurd (omega arith)
  chained [] (suc k) at last n end w e i =
      ap (λ (b : Result Boundary Fault). link b last at (chain k h s)) w.0 ∙ ap (λ (o : Outcome DnaCounts). record { rows = []; last = o }) w.1
  chained (r ∷ rs) (suc k) at last n end w e i =
      let m = block_moves h s at r w.0 w.1 w.2 in
      ap (λ (b : Result Boundary Fault). link b last at (chain k h s)) w.2
      ∙ ap (λ (c : Chain). record { rows = r ∷ c.rows; last = c.last }) (chained rs k w.1 w.0 n end w.3 (omega (arith, m.0)) m.1)

  -- where the mark ends
  pub mark-ends : (last : Option DnaCounts) (at : ℕ) (n : DnaCounts) (end : ℕ) → ended last (at + 4) ≡ read n end → end ≡ at + 4
  mark-ends None at n end e =
      let z : ◌≡◌ {A = ℕ} 0 1 = cc in
      absurd (omega arith)
  mark-ends (Some m) at n end e = cc

  pub linked-ends : (rows : List Row) (at : ℕ) (last : Option DnaCounts) (n : DnaCounts) (end : ℕ) → Linked h s at last rows n end → (at + 4 ≤ end) × (end ≤ length s)
  linked-ends [] at last n end w =
      let e = mark-ends last at n end w.1 in
      (omega (arith, e), omega (arith, e, mark-room h s at w.0))
  linked-ends (r ∷ rs) at last n end w =
      let m = block_moves h s at r w.0 w.1 w.2 in
      let f = linked-ends rs w.1 w.0 n end w.3 in
      (omega (arith, m.0, f.0), f.1)

  -- no end mark stands where a block was read
  pub no-mark : (at : ℕ) (r : Row) (l : Option DnaCounts) (next : ℕ) → boundary_of h s at ≡ Ok (Boundary.Block r l next) → stands s at (ascii "ENDB") ≡ false
  no-mark at r l next e = go (stands s at (ascii "ENDB")) refl
    where
      go : (c : Bool) → stands s at (ascii "ENDB") ≡ c → c ≡ false
      go true t =
          let k : (Ok Boundary.EndMark) ≡ (Ok (Boundary.Block r l next)) = end_mark_lem h s at t ∙ e in
          cc
      go false t = refl

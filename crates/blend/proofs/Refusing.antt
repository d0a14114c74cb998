-- Why a file is not read is a cut, a wrong mark, or a refusal whose number is one of 1 and 3 to 6: so a number 0 can tell that it was read, 16 and 17 tell of cuts and
-- marks alone, and 2 is given by none.
use Rattle.std.specs.Prelude.{Result, Ok, Err, Option, Some, None}
use Prim.Native.Nat.{ℕ, zero, suc, ◌+◌}
use mathlib.Core.Bool.{Bool, true, false}
use mathlib.Core.List.{List}
use mathlib.Core.Path.{◌≡◌, refl, ◌∙◌, ap, subst}
use native.Mathlib.Omega.{arith}
use lib.ListN.{length}
use Rattle.octets.specs.declared.Fault.{Fault}
use Rattle.octets.specs.declared.Fault.TheVariants.{Cut, Mark}
use Rattle.octets.specs.declared.Refusal.TheVariants.{NoDnaBlockFound}
use Rattle.octets.specs.Ascii.{ascii}
use Rattle.octets.specs.Reader.{Outcome, run, then, stands}
use Rattle.octets.specs.Reader.Reader.{done, skip}
use Rattle.octets.specs.Reader.Outcome.{read, fault}
use Rattle.octets.proofs.Refusing.{Gives, given, gives_then}
use Rattle.dna.specs.Catalogue.{Dna, catalogue}
use Rattle.dna.proofs.Refusing.{catalogue-gives}
use Rattle.block.proofs.Trees.{block_header-gives}
use Rattle.header.proofs.Refusing.{Counts, Told, stop_told, header-gives}
use Rattle.header.specs.declared.Header.{Header}
use Rattle.block.specs.declared.BlockHeader.{BlockHeader}
use Rattle.block.specs.declared.Row.{Row}
use Rattle.dna.specs.declared.dna.DnaCounts.{DnaCounts}
use Rattle.blend.specs.declared.blend.Boundary.{Boundary}
use Rattle.block.specs.BlockHeaders.{block_header}
use Rattle.block.specs.Kinds.{kind_of}
use Rattle.blend.specs.Blocks.{taken, block, rowed, row_at, catalogued, is_dna, finished, on_row, boundary_of}
use Rattle.block.specs.Rows.{payload_of}
use Rattle.blend.specs.Chain.{ended, link, chain, chain_from, on_header, file_by}
use Rattle.header.specs.Header.{HeaderBytes, header_bytes, valued}
use Rattle.blend.proofs.Taken.{of-taken}

block-gives : (h : Header) → Gives Counts (block h)
unfolding block block_header
block-gives h =
    gives_then Counts (block_header h) (λ b. skip b.size (then (taken (kind_of b.code) b.count) (λ u. done b))) (block_header-gives Counts (omega arith, omega arith, λ e. omega arith) h)
    (λ b. gives_then Counts (taken (kind_of b.code) b.count) (λ u. done b) (of-taken (Gives Counts) tt (omega arith, omega arith, λ e. omega arith) (omega arith, omega arith, λ e. omega arith) (kind_of b.code) b.count) (λ u. tt))

-- what stops at a boundary, a chain and a file
module _ (h : Header) (s : List ℕ) where
  row_told : (at : ℕ) (x : Fault) → row_at h s at ≡ fault x → Told x
  unfolding row_at
  row_told at x e = go (run (block h) s at) refl e
    where
      go : (o : Outcome BlockHeader) → run (block h) s at ≡ o → rowed h at o ≡ fault x → Told x
      go (read b next) t g =
          let z : ◌≡◌ {A = ℕ} 0 1 = cc in
          absurd (omega arith)
      go (fault y) t g =
          let k : y ≡ x = cc in
          stop_told (run (block h) s at) (given Counts (block h) (block-gives h) s at) x (t ∙ ap fault k)

  finished-told : (r : Row) (next : ℕ) (x : Fault) → finished h s r next ≡ Err x → Told x
  unfolding finished
  finished-told r next x e = go (is_dna (kind_of r.code)) e
    where
      by : (o : Outcome Dna) → run (catalogue h.endianness) (payload_of s r) 0 ≡ o → catalogued r next o ≡ Err x → Told x
      by (read d end) t g m z =
          let o : ◌≡◌ {A = ℕ} 0 1 = cc in
          absurd (omega arith)
      by (fault (Cut at)) t g m z =
          let k : Cut (r.payload + at) ≡ Fault.Refusal m = cc in
          let o : ◌≡◌ {A = ℕ} 0 1 = cc in
          absurd (omega arith)
      by (fault (Mark at)) t g m z =
          let k : Mark (r.payload + at) ≡ Fault.Refusal m = cc in
          let o : ◌≡◌ {A = ℕ} 0 1 = cc in
          absurd (omega arith)
      by (fault (Fault.Refusal n)) t g m z = absurd (given (λ r. ⊥) (catalogue h.endianness) (catalogue-gives (λ r. ⊥) h.endianness) (payload_of s r) 0 n t)

      go : (c : Bool) → (elim c as (λ (d : Bool). (Result Boundary Fault)) [ true ↦ catalogued r next (run (catalogue h.endianness) (payload_of s r) 0) | false ↦ Ok (Boundary.Block r None next) ]) ≡ Err x → Told x
      go true g = by (run (catalogue h.endianness) (payload_of s r) 0) refl g
      go false g =
          let z : ◌≡◌ {A = ℕ} 0 1 = cc in
          absurd (omega arith)

  pub boundary_told : (at : ℕ) (x : Fault) → boundary_of h s at ≡ Err x → Told x
  unfolding boundary_of
  boundary_told at x e = go (stands s at (ascii "ENDB")) e
    where
      by : (o : Outcome Row) → row_at h s at ≡ o → on_row h s o ≡ Err x → Told x
      by (read r next) t g = finished-told r next x g
      by (fault y) t g =
          let k : y ≡ x = cc in
          row_told at x (t ∙ ap fault k)

      go : (c : Bool) → (elim c as (λ (d : Bool). (Result Boundary Fault)) [ true ↦ Ok Boundary.EndMark | false ↦ on_row h s (row_at h s at) ]) ≡ Err x → Told x
      go true g =
          let z : ◌≡◌ {A = ℕ} 0 1 = cc in
          absurd (omega arith)
      go false g = by (row_at h s at) refl g

  ended-told : (l : Option DnaCounts) (next : ℕ) (x : Fault) → ended l next ≡ fault x → Told x
  ended-told None next x e m z =
      let n : NoDnaBlockFound ≡ m = cc in
      subst Counts n (omega arith, omega arith, λ o. omega arith)
  ended-told (Some n) next x e m z =
      let o : ◌≡◌ {A = ℕ} 0 1 = cc in
      absurd (omega arith)

  chain-told : (k at : ℕ) (l : Option DnaCounts) (x : Fault) → (chain k h s at l).last ≡ fault x → Told x
  unfolding chain
  chain-told zero at l x e = λ m z.
      let k : Cut at ≡ Fault.Refusal m = cc in
      let n : ◌≡◌ {A = ℕ} 0 1 = cc in
      absurd (omega arith)
  chain-told (suc k) at l x e = go (boundary_of h s at) refl (λ next m. chain-told k next m x) e
    where
      go : (b : Result Boundary Fault) → boundary_of h s at ≡ b → ((next : ℕ) (m : Option DnaCounts) → (chain k h s next m).last ≡ fault x → Told x) → (link b l at (chain k h s)).last ≡ fault x → Told x
      go (Ok Boundary.EndMark) t f g = ended-told l (at + 4) x g
      go (Ok (Boundary.Block r m next)) t f g = f next m g
      go (Err y) t f g =
          let q : y ≡ x = cc in
          boundary_told at x (t ∙ ap Err q)

-- of the header, and of the chain after it
pub header_told_lem : (s : List ℕ) (x : Fault) → file_by header_bytes s ≡ fault x → Told x
header_told_lem s x e = go (run header_bytes s 0) refl e
  where
    go : (o : Outcome HeaderBytes) → run header_bytes s 0 ≡ o → on_header s (valued o) ≡ fault x → Told x
    go (read b next) t g =
        let z : ◌≡◌ {A = ℕ} 0 1 = cc in
        absurd (omega arith)
    go (fault y) t g =
        let k : y ≡ x = cc in
        stop_told (run header_bytes s 0) (given Counts header_bytes (header-gives Counts (omega arith, omega arith, λ o. omega arith)) s 0) x (t ∙ ap fault k)

pub file-told : (h : Header) (s : List ℕ) (at : ℕ) (x : Fault) → (chain_from h s at).last ≡ fault x → Told x
unfolding chain_from
file-told h s at x e = chain-told h s (suc (length s)) at None x e

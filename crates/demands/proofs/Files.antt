-- A file that is read: its header's bytes, and the boundaries of its chain.
use Rattle.std.specs.Prelude.{None}
use Prim.Native.Nat.{ℕ, suc, ◌≤◌}
use mathlib.Core.List.{List}
use mathlib.Core.Path.{◌≡◌, refl, sym, ◌∙◌, ap}
use native.Mathlib.Omega.{arith}
use lib.ListN.{length}
use Rattle.octets.specs.Reader.{Reader, Outcome, run}
use Rattle.octets.specs.Reader.Outcome.{read, fault}
use Rattle.octets.proofs.Extent.{ends-within}
use Rattle.dna.specs.declared.dna.DnaCounts.{DnaCounts}
use Rattle.blend.specs.Chain.{Chain, File, on_header, file_by, chain_from}
use Rattle.header.specs.Header.{HeaderBytes, header_of, valued}
use Rattle.blend.proofs.Links.{Linked, linked}

pub record Filed (header : Reader HeaderBytes) (s : List ℕ) (f : File) (first : ℕ) : Type 0 where
  pub bytes : HeaderBytes
  pub found : run header s 0 ≡ read bytes first
  pub value : f.header ≡ header_of bytes
  pub chained : f.chain ≡ chain_from f.header s first

module _ (header : Reader HeaderBytes) (s : List ℕ) (f : File) (first : ℕ) where
  pub filed : file_by header s ≡ read f first → Filed header s f first
  filed e = go (run header s 0) refl
    where
      go : (o : Outcome HeaderBytes) → run header s 0 ≡ o → Filed header s f first
      go (read b at) g =
          let k : read (record { header = header_of b; chain = chain_from (header_of b) s at }) at ≡ read f first = sym (ap (λ (o : Outcome HeaderBytes). on_header s (valued o)) g) ∙ e in
          let q : f ≡ record { header = header_of b; chain = chain_from (header_of b) s at } = cc in
          let m : at ≡ first = cc in
          record { bytes = b; found = rw (← m) g; value = ap (λ (x : File). x.header) q; chained = rw (← m, q) refl }
      go (fault x) g =
          let k : fault x ≡ read f first = sym (ap (λ (o : Outcome HeaderBytes). on_header s (valued o)) g) ∙ e in
          let z : ◌≡◌ {A = ℕ} 0 1 = cc in
          absurd (omega arith)

  module _ (w : Filed header s f first) where
    pub first-inside : first ≤ length s
    first-inside = omega (arith, ends-within header s 0 w.bytes first w.found)

    pub file-linked : (n : DnaCounts) (end : ℕ) → f.chain.last ≡ read n end → Linked f.header s first None f.chain.rows n end
    unfolding chain_from
    file-linked n end l =
        rw w.chained (linked f.header s (suc (length s)) first None n end (sym (ap (λ (c : Chain). c.last) w.chained) ∙ l))

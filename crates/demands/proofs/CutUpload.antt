-- A cut upload is told: a file that is read is refused by 1 or 16 wherever it is cut.
use Rattle.std.specs.Prelude.{Result, Ok, Option, None}
use Prim.Native.Nat.{ℕ, zero, suc, ◌+◌, ◌/◌, ◌≤◌, ◌<◌}
use mathlib.Core.Bool.{Bool, true, false}
use mathlib.Core.List.{List, [], ◌∷◌}
use mathlib.Core.Path.{◌≡◌, refl, sym, ◌∙◌, ap, subst}
use native.Mathlib.Omega.{arith}
use borrow.Author.Tests.{leb-true, leb-false}
use lib.Dec.{leb}
use lib.ListN.{length, take}
use lib.Seq.{length-take-le, take-take, get_or-take}
use Rattle.octets.specs.declared.Endianness.{Endianness}
use Rattle.octets.specs.Paper.{Paper}
use Rattle.octets.specs.Reader.{Outcome, run}
use Rattle.octets.specs.Reader.Outcome.{read, fault}
use Rattle.octets.specs.Refusals.{told}
use Rattle.octets.proofs.Cutting.{CutWithin}
use Rattle.octets.proofs.Parts.{inner}
use Rattle.header.specs.declared.FileFormat.{FileFormat}
use Rattle.header.specs.declared.FileFormat.TheVariants.{Legacy, New}
use Rattle.header.specs.declared.Header.{Header}
use Rattle.header.specs.Header.{HeaderBytes, header_bytes, header_of, header_length, valued, header_as}
use Rattle.header.proofs.Cutting.{magic-cut, header-cut}
use Rattle.header.proofs.Lossless.{header_known}
use Rattle.blend.proofs.Answers.{valued_read}
use Rattle.octets.proofs.Extent.{ends-within}
use Rattle.dna.specs.declared.dna.DnaCounts.{DnaCounts}
use Rattle.dna.specs.Catalogue.{Dna, catalogue, rooms, count_numbers, counts_only, read_as as tablesAs}
use Rattle.dna.proofs.Cutting.{catalogue-cut}
use Rattle.block.specs.declared.Row.{Row}
use Rattle.block.specs.Rows.{per_row}
use Rattle.blend.specs.declared.blend.Boundary.{Boundary}
use Rattle.octets.specs.declared.Fault.{Fault}
use Rattle.blend.specs.Blocks.{boundary_of}
use Rattle.blend.specs.Chain.{File, link, chain, chain_from, on_header, file_by, read_as, answer_for}
use Rattle.blend.proofs.Chains.{block_lies, code-stops}
use Rattle.blend.proofs.Cutting.{block-cut}
use Rattle.blend.proofs.Links.{Linked, mark-ends, linked-ends}
use Rattle.demands.specs.Malformed.{CutAt, CutTold, CutUpload}
use Rattle.demands.proofs.Accepted.{accepted}
use Rattle.demands.proofs.Exported.{read_by}
use Rattle.demands.proofs.Files.{Filed, filed, file-linked}
use Rattle.demands.proofs.HeaderTrees.{header_tree}
use Rattle.demands.proofs.Kept.{block-kept}

-- the chain of a file that is cut, whatever its fuel
module _ (h : Header) (s : List ℕ) (k : ℕ) (l : k ≤ length s) where
  cut-long : length (take k s) ≡ k
  cut-long = length-take-le k s l

  -- a block that ends in time is the same
  block_same : (at : ℕ) (r : Row) (last : Option DnaCounts) (next : ℕ) → boundary_of h s at ≡ Ok (Boundary.Block r last next) → next ≤ k → boundary_of h (take k s) at ≡ Ok (Boundary.Block r last next)
  block_same at r last next e i =
      let w = block_lies h s at r last next e in
      block-kept h s (take k s) at r last next e (λ j a b. get_or-take k s j 0 (omega (arith, w.header, w.payload))) (omega (arith, cut-long))
      (λ d. inner r.payload r.len k s (omega (arith, w.payload)))

  chain-cut : (rows : List Row) (at : ℕ) (last : Option DnaCounts) (n : DnaCounts) (end : ℕ) → Linked h s at last rows n end → at ≤ k → k < end → (fuel : ℕ) (before : Option DnaCounts)
      → CutWithin k (chain fuel h (take k s) at before).last
  unfolding chain
  chain-cut rows at last n end w i o zero before = (at, refl, i)
  chain-cut [] at last n end w i o (suc fuel) before =
      let e : end ≡ at + 4 = mark-ends h s last at n end w.1 in
      let c = code-stops h (take k s) at (omega (arith, cut-long)) in
      (at, ap (λ (b : Result Boundary Fault). (link b before at (chain fuel h (take k s))).last) c, i)
  chain-cut (r ∷ rs) at last n end w i o (suc fuel) before = go (leb w.1 k) refl (λ j. chain-cut rs w.1 w.0 n end w.3 j o fuel w.0)
    where
      go : (b : Bool) → leb w.1 k ≡ b → (w.1 ≤ k → CutWithin k (chain fuel h (take k s) w.1 w.0).last)
          → CutWithin k (link (boundary_of h (take k s) at) before at (chain fuel h (take k s))).last
      go true t f =
          let c = f (leb-true _ _ t) in
          let b = block_same at r w.0 w.1 w.2 (leb-true _ _ t) in
          (c.0, ap (λ (b : Result Boundary Fault). (link b before at (chain fuel h (take k s))).last) b ∙ c.1, c.2)
      go false t f =
          let c = block-cut h s k l at r w.0 w.1 w.2 i (leb-false _ _ t) in
          (c.0, ap (λ (b : Result Boundary Fault). (link b before at (chain fuel h (take k s))).last) c.1, c.2)

header-long : (f : FileFormat) → 7 ≤ header_length f
header-long Legacy = omega arith
header-long New = omega arith

module _ (s : List ℕ) (f : File) (first : ℕ) (w : Filed header_bytes s f first) (n : DnaCounts) (end : ℕ) (e : f.chain.last ≡ read n end) (k : ℕ) (o : k < end) (room : ℕ) where
  links : Linked f.header s first None f.chain.rows n end
  links = file-linked header_bytes s f first w n end e

  inside : k ≤ length s
  inside = omega (arith, (linked-ends f.header s f.chain.rows first None n end links).1)

  long : 7 ≤ first
  long = omega (arith, header_tree.long s w.bytes first w.found, header-long w.bytes.format)

  abbrev answer : Outcome HeaderBytes → Paper
  answer x = read_as (on_header (take k s) (valued x)) room

  no_header : CutWithin k (run header_bytes (take k s) 0) → CutAt k (read_as (file_by header_bytes (take k s)) room)
  unfolding read_as
  no_header c = (c.0, ap answer c.1, c.2)

  no-chain : first ≤ k → CutAt k (read_as (file_by header_bytes (take k s)) room)
  unfolding read_as chain_from
  no-chain i =
      let h = f.header in
      let g : run header_bytes (take k s) 0 ≡ read w.bytes first = header_tree.own s (take k s) w.bytes first w.found (take-take first k s i) in
      let c = chain-cut h s k inside f.chain.rows first None n end links i o (suc (length (take k s))) None in
      let q : header_of w.bytes ≡ h = sym w.value in (
        c.0,
        ap answer g ∙ ap (λ (x : Header). answer_for x (length (chain_from x (take k s) first).rows) room (chain_from x (take k s) first).last) q
            ∙ ap (answer_for h (length (chain_from h (take k s) first).rows) room) c.1,
        c.2,
      )

  cut-told : CutTold k (read_as (file_by header_bytes (take k s)) room)
  unfolding read_as
  cut-told = (λ j. ap answer (magic-cut s k inside w.bytes first w.found (omega (arith, long)) j), λ j. go (leb first k) refl j)
    where
      go : (b : Bool) → leb first k ≡ b → 7 ≤ k → CutAt k (read_as (file_by header_bytes (take k s)) room)
      go true t j = no-chain (leb-true _ _ t)
      go false t j = no_header (header-cut s k inside w.bytes first w.found (leb-false _ _ t) j)

-- a catalogue by itself
module _ (e : Endianness) (s : List ℕ) (n : DnaCounts) (end k : ℕ) (o : k < end) where
  catalogue-read : read n end ≡ counts_only (run (catalogue e) s 0) → CutWithin k (run (catalogue e) (take k s) 0)
  catalogue-read g = go (run (catalogue e) s 0) refl g
    where
      go : (x : Outcome Dna) → run (catalogue e) s 0 ≡ x → read n end ≡ counts_only x → CutWithin k (run (catalogue e) (take k s) 0)
      go (read d next) t q =
          let m : end ≡ next = cc in
          catalogue-cut e s d next k t (omega arith)
      go (fault x) t q =
          let z : ◌≡◌ {A = ℕ} 0 1 = cc in
          absurd (omega arith)

pub cut_upload : CutUpload
unfolding tablesAs
cut_upload =
    record {
      of-file = λ s t t' b w k o u u' r v.
          let a = accepted (file_by header_bytes s) t t' b w.0 w.1 in
          subst (CutTold k) (sym v.0) (cut-told s a.file a.first (filed header_bytes s a.file a.first a.found) b.dna b.end a.last k o (length u / per_row));
      of-header = λ s h end w k o r v.
          let b = valued_read s (run header_bytes s 0) h end (header_known h end (valued (run header_bytes s 0)) w) in
          let l : k ≤ length s = omega (arith, ends-within header_bytes s 0 b.0 end b.1) in (
            λ j. v ∙ ap (λ (x : Outcome HeaderBytes). header_as (valued x)) (magic-cut s k l b.0 end b.1 o j),
            λ j.
                let c = header-cut s k l b.0 end b.1 o j in
                (c.0, v ∙ ap (λ (x : Outcome HeaderBytes). header_as (valued x)) c.1, c.2),
          );
      of_exported = λ s t t' r w z k o u u' q v.
          let x = read_by s t t' r w z in
          let b = x.answer in
          let a = accepted (file_by header_bytes s) t t' b x.answers.0 x.answers.1 in
          let i : k < b.end = subst (λ y. k < y.end) x.told o in (
            read_as (file_by header_bytes (take k s)) (length u / per_row),
            v.0,
            cut-told s a.file a.first (filed header_bytes s a.file a.first a.found) b.dna b.end a.last k i (length u / per_row),
          );
      of-counts = λ s e n end w k o r v.
          let c = catalogue-read e s n end k o w in
          (c.0, ap (told count_numbers) v ∙ ap (λ (x : Outcome Dna). told count_numbers (counts_only x)) c.1, c.2);
      of_tables = λ s e n end w k o m t u f m' t' u' f' r v.
          let c = catalogue-read e s n end k o w in
          (c.0, v.answer ∙ ap (λ (x : Outcome Dna). tablesAs x (rooms (length m) (length t) (length u) (length f))) c.1, c.2);
    }

-- A header that is cut: refusal 1 where its magic is, and otherwise a cut.
use Prim.Native.Nat.{ℕ, ◌+◌, ◌≤◌, ◌<◌}
use mathlib.Core.Bool.{Bool, true, false}
use mathlib.Core.List.{List}
use mathlib.Core.Path.{◌≡◌, refl, sym, ◌∙◌, ap}
use native.Mathlib.Omega.{arith}
use borrow.Author.Tests.{lt-leb}
use lib.ListN.{length, take, drop}
use lib.Seq.{length-take-le, take-take}
use Rattle.octets.specs.declared.Fault.{Fault}
use Rattle.octets.specs.declared.Refusal.TheVariants.{CompressedFileNotSupported}
use Rattle.octets.specs.declared.PointerSize.TheVariants.{Bits32, Bits64}
use Rattle.octets.specs.Ascii.{ascii}
use Rattle.octets.specs.Reader.{Reader, Outcome, run, same, stands}
use Rattle.octets.specs.Reader.Reader.{begins}
use Rattle.octets.specs.Reader.Outcome.{read, fault}
use Rattle.octets.proofs.Cutting.{CutWithin, Wanting, wanting_tag, cut-read}
use Rattle.octets.proofs.Marks.{stands-cut}
use Rattle.octets.proofs.Tests.{held, failed}
use Rattle.header.specs.declared.FileFormat.TheVariants.{Legacy, New}
use Rattle.header.specs.Header.{Part, parts, magic, parts_read, untold, HeaderBytes, one_of, legacy, new, header_bytes}
use Rattle.header.proofs.Trees.{of_parts}

module _ {A B : Type 0} (m : List ℕ) (a : A) (n : List ℕ) (b : A) (k : A → Reader B) (f : (x : A) → Wanting (k x)) (e : length n ≡ length m) where
  mark_wanting : Wanting (one_of m a n b k)
  unfolding run
  mark_wanting = (f a, wanting_tag n (k b) (f b), λ s at h l. (at, failed _ _ (lt-leb (at + length n) (length s) (rw e l)), h))

parts_wanting : (ps : List Part) (b : HeaderBytes) → Wanting (parts_read ps b)
parts_wanting ps b = of_parts Wanting (λ c. tt) (λ n k f. f) (λ A m x n y k e f. mark_wanting m x n y k f e) ps b

-- a header after its magic
abbrev edition : Reader HeaderBytes
edition = begins (ascii "_") (legacy Bits32) (begins (ascii "-") (legacy Bits64) new)

module _ (s : List ℕ) (at : ℕ) (h : at ≤ length s) (l : length s < at + 1) where
  new-cut : CutWithin (length s) (run new s at)
  unfolding run new
  new-cut = (at, failed _ _ (lt-leb (at + 2) (length s) (omega arith)), h)

  edition-cut : CutWithin (length s) (run (begins (ascii "-") (legacy Bits64) new) s at)
  unfolding run
  edition-cut = (new-cut.0, failed _ _ (sym (stands-cut s at (ascii "-") (λ e. absurd (omega arith)) l)) ∙ new-cut.1, new-cut.2)

edition_wanting : Wanting edition
unfolding legacy new run
edition_wanting =
    let old = parts_wanting (drop 1 (parts Legacy)) in
    (old (untold Legacy Bits32), (old (untold Legacy Bits64), parts_wanting (parts New) (untold New Bits32), new-cut), edition-cut)

module _ (s : List ℕ) (k : ℕ) (l : k ≤ length s) (b : HeaderBytes) (end : ℕ) (e : run header_bytes s 0 ≡ read b end) (h : k < end) where
  long : length (take k s) ≡ k
  long = length-take-le k s l

  magic-there : (stands s 0 magic ≡ true) × (run edition s 7 ≡ read b end)
  unfolding run header_bytes
  magic-there = go (stands s 0 magic) refl e
    where
      go : (t : Bool) → stands s 0 magic ≡ t → (elim t as (λ (c : Bool). Outcome HeaderBytes) [ true ↦ run edition s 7 | false ↦ fault (Fault.Refusal CompressedFileNotSupported) ]) ≡ read b end
          → (stands s 0 magic ≡ true) × (run edition s 7 ≡ read b end)
      go true t g = (t, g)
      go false t g = (cc, cc)

  pub magic-cut : k < 7 → run header_bytes (take k s) 0 ≡ fault (Fault.Refusal CompressedFileNotSupported)
  unfolding run header_bytes
  magic-cut m = failed _ _ (sym (stands-cut (take k s) 0 magic (λ z. absurd (omega arith)) (omega (arith, long))))

  pub header-cut : 7 ≤ k → CutWithin k (run header_bytes (take k s) 0)
  unfolding run header_bytes
  header-cut m =
      let same-magic : stands (take k s) 0 magic ≡ true = ap (λ (p : List ℕ). same p magic) (take-take 7 k s m) ∙ magic-there.0 in
      let c = cut-read s k l edition edition_wanting 7 b end magic-there.1 m h in
      (c.0, held _ _ same-magic ∙ c.1, c.2)

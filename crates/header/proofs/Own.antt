-- What the tree of the header finds depends on the bytes that it takes, and on no others.
use Prim.Native.Nat.{ℕ, ◌+◌, ◌≤◌}
use mathlib.Core.Bool.{Bool, true, false}
use mathlib.Core.List.{List}
use mathlib.Core.Path.{◌≡◌, ap}
use native.Mathlib.Omega.{arith}
use lib.ListN.{length, take, drop, length-take}
use Rattle.octets.specs.declared.PointerSize.TheVariants.{Bits32, Bits64}
use Rattle.octets.specs.Ascii.{ascii}
use Rattle.octets.specs.Number.{tag}
use Rattle.octets.specs.Reader.{Reader, Outcome, run, same, stands}
use Rattle.octets.specs.Reader.Reader.{stray, begins}
use Rattle.octets.specs.Reader.Outcome.{read, fault}
use Rattle.octets.proofs.Extent.{ends-within}
use Rattle.octets.proofs.Going.{bytes_move}
use Rattle.octets.proofs.Same.{Finds}
use Rattle.octets.proofs.Unaltered.{grows, way}
use Rattle.header.specs.declared.FileFormat.TheVariants.{Legacy, New}
use Rattle.header.specs.Header.{Part, parts, parts_read, untold, HeaderBytes, one_of, legacy, new, header_bytes}
use Rattle.header.proofs.Trees.{of_parts}
use Rattle.octets.proofs.Own.{Sober, own, front}

module _ {A B : Type 0} (m : List ℕ) (a : A) (n : List ℕ) (b : A) (k : A → Reader B) (f : (x : A) → Sober (k x)) (e : length n ≡ length m) where
  tag_sober : Sober (tag n (k b))
  tag_sober bs = go (same bs n)
    where
      go : (c : Bool) → Sober {A = B} (elim c as (λ (d : Bool). Reader B) [ true ↦ k b | false ↦ stray (length n) ])
      go true = f b
      go false = tt

  mark_sober : Sober (one_of m a n b k)
  mark_sober = (f a, tag_sober, λ s at. rw (← e) (bytes_move (length n) _ s at))

parts_sober : (ps : List Part) (b : HeaderBytes) → Sober (parts_read ps b)
parts_sober ps b = of_parts Sober (λ c. tt) (λ n k f. f) (λ A m x n y k e f. mark_sober m x n y k f e) ps b

-- after "BLENDER" at least a byte is read, whichever the edition
module _ (s : List ℕ) (at : ℕ) where
  less : (o : Outcome HeaderBytes) → Finds o (λ (a : HeaderBytes) (next : ℕ). at + 2 ≤ next) → Finds o (λ (a : HeaderBytes) (next : ℕ). at + 1 ≤ next)
  less (read a next) h = omega arith
  less (fault x) h = tt

  new_moves : Finds (run new s at) (λ (a : HeaderBytes) (next : ℕ). at + 1 ≤ next)
  unfolding new
  new_moves = less (run new s at) (bytes_move 2 _ s at)

  edition_moves : Finds (run (begins (ascii "-") (legacy Bits64) new) s at) (λ (a : HeaderBytes) (next : ℕ). at + 1 ≤ next)
  unfolding run
  edition_moves = way (λ a next. at + 1 ≤ next) (stands s at (ascii "-")) (run (legacy Bits64) s (at + 1)) (run new s at) (λ e. grows (legacy Bits64) s (at + 1)) (λ e. new_moves)

header_sober : Sober header_bytes
unfolding header_bytes legacy new run
header_sober =
    let old = parts_sober (drop 1 (parts Legacy)) in
    ((old (untold Legacy Bits32), (old (untold Legacy Bits64), parts_sober (parts New) (untold New Bits32), new_moves), edition_moves), tt, λ s at. tt)

pub header-own : (s t : List ℕ) (b : HeaderBytes) (end : ℕ) → run header_bytes s 0 ≡ read b end → take end t ≡ take end s → run header_bytes t 0 ≡ read b end
header-own s t b end e g =
    let h : end ≤ length s = omega (arith, ends-within header_bytes s 0 b end e) in
    let k : end ≤ length t = omega (arith, length-take end t, length-take end s, ap length g) in
    own header_bytes header_sober s t 0 b end e h k (front s t end g)

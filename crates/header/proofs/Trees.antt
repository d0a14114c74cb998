-- A header's parts are reads of bytes and of one of two marks, which are of one length. So what holds of these, of a read whenever of all that follows it, and of an end
-- holds of the parts, one after another.
use Prim.Native.Nat.{ℕ}
use mathlib.Core.List.{List, [], ◌∷◌}
use mathlib.Core.Path.{◌≡◌, refl}
use lib.ListN.{length}
use Rattle.octets.specs.declared.Endianness.TheVariants.{Little, Big}
use Rattle.octets.specs.declared.PointerSize.TheVariants.{Bits32, Bits64}
use Rattle.octets.specs.Ascii.{ascii}
use Rattle.octets.specs.Reader.{Reader}
use Rattle.octets.specs.Reader.Reader.{done, bytes}
use Rattle.header.specs.Header.Part.{pointer_size, byte_order, unchecked, version}
use Rattle.header.specs.Header.{Part, with_pointer, with_order, with_unchecked, with_version, parts_read, HeaderBytes, one_of}

module _ (P : Reader HeaderBytes → Type 0) (end : (b : HeaderBytes) → P (done b))
    (read : (n : ℕ) (k : List ℕ → Reader HeaderBytes) → ((b : List ℕ) → P (k b)) → P (bytes n k))
    (mark : (A : Type 0) (m : List ℕ) (a : A) (n : List ℕ) (b : A) (k : A → Reader HeaderBytes) → length n ≡ length m → ((x : A) → P (k x)) → P (one_of m a n b k)) where
  pub of_parts : (ps : List Part) (b : HeaderBytes) → P (parts_read ps b)
  unfolding parts_read
  of_parts [] b = end b
  of_parts (pointer_size ∷ ps) b = mark _ (ascii "_") Bits32 (ascii "-") Bits64 (λ p. parts_read ps (with_pointer b p)) refl (λ p. of_parts ps (with_pointer b p))
  of_parts (byte_order ∷ ps) b = mark _ (ascii "v") Little (ascii "V") Big (λ e. parts_read ps (with_order b e)) refl (λ e. of_parts ps (with_order b e))
  of_parts (unchecked n ∷ ps) b = read n (λ u. parts_read ps (with_unchecked b u)) (λ u. of_parts ps (with_unchecked b u))
  of_parts (version n ∷ ps) b = read n (λ v. parts_read ps (with_version b v)) (λ v. of_parts ps (with_version b v))

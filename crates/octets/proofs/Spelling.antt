-- Numbers to bytes and back, over the number of bytes and for both orders; and what a tree reads where given bytes stand.
use Prim.Native.Nat.{ℕ, zero, suc, ◌+◌, ◌*◌, ◌/◌, ◌%◌, ◌^◌, ◌<◌}
use mathlib.Core.List.{List, [], ◌∷◌, reverse-reverse}
use mathlib.Core.Path.{◌≡◌, refl, sym, ◌∙◌, ap}
use native.Mathlib.Nat.{pow-succ'}
use native.Mathlib.Omega.{arith}
use lib.ListN.{length}
use Rattle.octets.specs.declared.Endianness.{Endianness}
use Rattle.octets.specs.declared.Endianness.TheVariants.{Little, Big}
use Rattle.octets.specs.Number.{Bytes, little, least_first, spelled, digits, bytes_of}
use Rattle.octets.proofs.Digits.{least-length, least-bytes}

digits-length : (w n : ℕ) → length (digits w n) ≡ w
digits-length zero n = refl
digits-length (suc w) n = ap suc (digits-length w (n / 256))

pub bytes_of-length : (e : Endianness) (w n : ℕ) → length (bytes_of e w n) ≡ w
bytes_of-length e w n = least-length e (digits w n) ∙ digits-length w n

-- the least significant first, twice, is as it was
least-again : (e : Endianness) (l : List ℕ) → least_first e (least_first e l) ≡ l
least-again Little l = refl
least-again Big l = reverse-reverse l

-- Where a number has room, its bytes spell it.
digits-spell : (w n : ℕ) → n < 256 ^ w → little (digits w n) ≡ n
digits-spell zero n h = omega arith
digits-spell (suc w) n h =
    let p = pow-succ' 256 w in
    omega (arith, digits-spell w (n / 256) (omega (arith, p)))

pub bytes_of-spell : (e : Endianness) (w n : ℕ) → n < 256 ^ w → spelled e (bytes_of e w n) ≡ n
bytes_of-spell e w n h = ap little (least-again e (digits w n)) ∙ digits-spell w n h

-- Bytes are those of the number that they spell.
little-digits : (l : List ℕ) → Bytes l → digits (length l) (little l) ≡ l
little-digits [] h = refl
little-digits (b ∷ bs) h =
    let m : (b + 256 * little bs) % 256 ≡ b = omega (arith, h 0) in
    let d : (b + 256 * little bs) / 256 ≡ little bs = omega (arith, h 0) in
    rw (m, d) (ap (λ (l : List ℕ). b ∷ l) (little-digits bs (λ k. h (suc k))))

pub spelled-bytes_of : (e : Endianness) (l : List ℕ) → Bytes l → bytes_of e (length l) (spelled e l) ≡ l
spelled-bytes_of e l h =
    let n : length (least_first e l) ≡ length l = least-length e l in
    ap (λ (w : ℕ). bytes_of e w (spelled e l)) (sym n) ∙ ap (least_first e) (little-digits (least_first e l) (least-bytes e l h)) ∙ least-again e l

-- Which bytes the number of a block's code stands for.
use Prim.Native.Nat.{ℕ, ◌+◌, ◌*◌, ◌/◌, ◌%◌, ◌^◌, ◌<◌}
use mathlib.Core.List.{[], ◌∷◌}
use mathlib.Core.Path.{◌≡◌, refl}
use native.Mathlib.Omega.{arith}
use Rattle.octets.specs.declared.Endianness.TheVariants.{Big}
use Rattle.octets.specs.Number.{spelled}
use Rattle.runtime.specs.Addresses.{four_bytes}

-- the four bytes that a code's number was read from are the four that are told of it
pub four_bytes_lem : (a b c d : ℕ) → a < 256 → b < 256 → c < 256 → d < 256 → four_bytes (spelled Big (a ∷ b ∷ c ∷ d ∷ [])) ≡ a ∷ b ∷ c ∷ d ∷ []
four_bytes_lem a b c d ha hb hc hd =
    let n = spelled Big (a ∷ b ∷ c ∷ d ∷ []) in
    let e : n ≡ a * 16777216 + b * 65536 + c * 256 + d = omega arith in
    let p : n / 2 ^ 24 % 256 ≡ a = omega arith in
    let q : n / 2 ^ 16 % 256 ≡ b = omega arith in
    let r : n / 2 ^ 8 % 256 ≡ c = omega arith in
    let s : n % 256 ≡ d = omega arith in
    rw (p, q, r, s) refl

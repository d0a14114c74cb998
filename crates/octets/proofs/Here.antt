-- What stands from a place on, and what trees find where given bytes stand. With it what was written is read back.
use Prim.Native.Nat.{ℕ, ◌+◌, ◌^◌, ◌≤◌, ◌<◌}
use mathlib.Core.Bool.{true, false}
use mathlib.Core.List.{List, ◌++◌}
use mathlib.Core.Path.{◌≡◌, refl, sym, ◌∙◌, ap}
use native.Mathlib.Omega.{arith}
use borrow.Author.Tests.{le-leb}
use lib.ListN.{length, take, drop, length-append, length-drop}
use lib.Seq.{take_at, drop_at, drop-drop}
use Rattle.octets.specs.declared.Endianness.{Endianness}
use Rattle.octets.specs.Number.{number, spelled, tag, bytes_of}
use Rattle.octets.specs.Reader.{Reader, run, same, stands}
use Rattle.octets.specs.Reader.Reader.{bytes}
use Rattle.octets.proofs.Marks.{same_refl}
use Rattle.octets.proofs.Onward.{tag-on}
use Rattle.octets.proofs.Reading.{tagged}
use Rattle.octets.proofs.Spelling.{bytes_of-length, bytes_of-spell}
use Rattle.octets.proofs.Tests.{held}

-- from `at` on s holds these bytes, and no others
pub record Here (s : List ℕ) (at : ℕ) (l : List ℕ) : Type 0 where
  pub rest : drop at s ≡ l
  pub inside : at ≤ length s

pub here-all : (s : List ℕ) → Here s 0 s
here-all s = record { rest = refl; inside = omega arith }

pub here-same : (s : List ℕ) (at : ℕ) (l m : List ℕ) → l ≡ m → Here s at l → Here s at m
here-same s at l m e h = record { rest = h.rest ∙ e; inside = h.inside }

-- first xs and then ys
module _ (s : List ℕ) (at : ℕ) (xs ys : List ℕ) (h : Here s at (xs ++ ys)) where
  pub here-room : at + length xs ≤ length s
  here-room = omega (arith, h.inside, length-drop at s, ap length h.rest, length-append xs ys)

  module _ (n : ℕ) (e : length xs ≡ n) where
    pub here-part : take n (drop at s) ≡ xs
    here-part = ap (take n) h.rest ∙ take_at xs ys n e

    pub here-next : Here s (at + n) ys
    here-next = record { rest = sym (drop-drop n at s) ∙ ap (drop n) h.rest ∙ drop_at xs ys n e; inside = omega (arith, here-room) }

    pub here-bytes : {A : Type 0} (k : List ℕ → Reader A) → run (bytes n k) s at ≡ run (k xs) s (at + n)
    unfolding run
    here-bytes k =
        let fits : at + n ≤ length s = omega (arith, here-room) in
        held _ _ (le-leb _ _ fits) ∙ ap (λ (b : List ℕ). run (k b) s (at + n)) here-part

    -- another mark than the one that stands there
    pub here_not : (m : List ℕ) → length m ≡ n → same xs m ≡ false → stands s at m ≡ false
    here_not m g d = ap (λ (k : ℕ). same (take k (drop at s)) m) g ∙ ap (λ (b : List ℕ). same b m) here-part ∙ d

  pub here-stands : stands s at xs ≡ true
  here-stands = ap (λ (b : List ℕ). same b xs) (here-part (length xs) refl) ∙ same_refl xs

  pub here-tag : {A : Type 0} (r : Reader A) → run (tag xs r) s at ≡ run r s (at + length xs)
  here-tag r = tag-on s at xs r (at + length xs) (tagged xs s at here-room here-stands)

-- a number that has room in its width is read back
module _ (s : List ℕ) (at : ℕ) (e : Endianness) (w n : ℕ) (ys : List ℕ) (h : Here s at (bytes_of e w n ++ ys)) where
  pub here-number : {A : Type 0} (k : ℕ → Reader A) → n < 256 ^ w → run (number e w k) s at ≡ run (k n) s (at + w)
  here-number {A} k f =
      here-bytes s at (bytes_of e w n) ys h w (bytes_of-length e w n) (λ b. k (spelled e b))
      ∙ ap (λ (m : ℕ). run (k m) s (at + w)) (bytes_of-spell e w n f)

  pub number-next : Here s (at + w) ys
  number-next = here-next s at (bytes_of e w n) ys h w (bytes_of-length e w n)

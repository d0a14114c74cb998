-- What reading is: a tree of reads, and what a tree finds in a run of bytes. A tree looks at bytes in no other way than by its reads, so
-- what a find depends on is proved once, of every tree (proofs/Unaltered.antt).
use Rattle.std.specs.Prelude.{ℕ, zero, suc, ◌+◌, ◌-◌, Bool, true, false, ◌&&◌, List, [], ◌∷◌, leb, ltb, eqb, length, take, drop}
use Rattle.octets.specs.declared.Refusal.{Refusal}
use Rattle.octets.specs.declared.Fault.{Fault}
use Rattle.octets.specs.declared.Fault.TheVariants.{Cut, Mark}

pub data Reader (A : Type 0) : Type 0 where
  done : A → Reader A  -- nothing is left to read
  refuse : Refusal → Reader A  -- this refusal
  stray : ℕ → Reader A  -- the n bytes just read are not what they have to be; the fault's place is their first byte
  here : (ℕ → Reader A) → Reader A  -- the place
  bytes : (n : ℕ) → (List ℕ → Reader A) → Reader A  -- the next n bytes
  skip : (n : ℕ) → Reader A → Reader A  -- the next n bytes, whatever they hold
  until : (c : ℕ) → (ℕ → Reader A) → Reader A  -- the bytes up to the next c, and that c: how many stand before it
  begins : List ℕ → Reader A → Reader A → Reader A  -- past these bytes where they are next; where they are not, from here

-- What was read and the place after it; or why reading stopped, and where.
pub data Outcome (A : Type 0) : Type 0 where
  read : A → ℕ → Outcome A
  fault : Fault → Outcome A

abbrev pub nearer : Bool → ℕ → ℕ
nearer true n = 0
nearer false n = suc n

-- how many bytes stand before the first that is c; all of them where there is none
abbrev pub before : ℕ → List ℕ → ℕ
before c [] = 0
before c (b ∷ bs) = nearer (eqb b c) (before c bs)

-- whether two runs of bytes are the same
abbrev pub same : List ℕ → List ℕ → Bool
same [] [] = true
same [] (y ∷ ys) = false
same (x ∷ xs) [] = false
same (x ∷ xs) (y ∷ ys) = eqb x y && same xs ys

-- whether s has n bytes from `at`
abbrev pub room : List ℕ → ℕ → ℕ → Bool
room s at n = leb (at + n) (length s)

-- whether s has a c at `at` or after it
abbrev pub ended_by : ℕ → List ℕ → ℕ → Bool
ended_by c s at = ltb (at + before c (drop at s)) (length s)

-- whether the bytes m stand at `at`
abbrev pub stands : List ℕ → ℕ → List ℕ → Bool
stands s at m = same (take (length m) (drop at s)) m

-- what a tree finds in s from `at`
unfoldable pub run : {A : Type 0} → Reader A → List ℕ → ℕ → Outcome A
run (done a) s at = read a at
run (refuse r) s at = fault (Fault.Refusal r)
run (stray n) s at = fault (Mark (at - n))
run (here k) s at = run (k at) s at
run (bytes n k) s at = elim (room s at n) [ true ↦ run (k (take n (drop at s))) s (at + n) | false ↦ fault (Cut at) ]
run (skip n r) s at = elim (room s at n) [ true ↦ run r s (at + n) | false ↦ fault (Cut at) ]
run (until c k) s at = elim (ended_by c s at) [ true ↦ run (k (before c (drop at s))) s (at + (before c (drop at s) + 1)) | false ↦ fault (Cut at) ]
run (begins m on off) s at = elim (stands s at m) [ true ↦ run on s (at + length m) | false ↦ run off s at ]

-- a zero-ended string
abbrev pub string : {A : Type 0} → (ℕ → Reader A) → Reader A
string k = until 0 k

-- one tree, and then another that may go by what the first found
unfoldable pub then : {A B : Type 0} → Reader A → (A → Reader B) → Reader B
then (done a) f = f a
then (refuse x) f = refuse x
then (stray n) f = stray n
then (here k) f = here (λ at. then (k at) f)
then (bytes n k) f = bytes n (λ b. then (k b) f)
then (skip n r) f = skip n (then r f)
then (until c k) f = until c (λ n. then (k n) f)
then (begins m on off) f = begins m (then on f) (then off f)

-- n times the same tree
unfoldable pub times : {A : Type 0} → ℕ → Reader A → Reader (List A)
unfolding then
times zero r = done []
times (suc n) r = then r (λ a. then (times n r) (λ rest. done (a ∷ rest)))

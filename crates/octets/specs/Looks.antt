-- Which bytes a tree looks at, and when two runs of bytes agree there.
use Rattle.std.specs.Prelude.{ℕ, ◌+◌, ◌≤◌, ◌<◌, Bool, true, false, List, [], ◌∷◌, ◌≡◌, length, get_or, take, drop}
use Rattle.octets.specs.Reader.{Reader, room, before, ended_by, stands}
use Rattle.octets.specs.Reader.Reader.{done, refuse, stray, here, bytes, skip, until, begins}

-- the spans that a tree looks at: where each starts and how long it is. Of what it skips only the length matters
abbrev pub looks : {A : Type 0} → Reader A → List ℕ → ℕ → List (ℕ × ℕ)
looks (done a) s at = []
looks (refuse n) s at = []
looks (stray n) s at = []
looks (here k) s at = looks (k at) s at
looks (bytes n k) s at = (at, n) ∷ (elim (room s at n) as (λ (b : Bool). List (ℕ × ℕ)) [ true ↦ looks (k (take n (drop at s))) s (at + n) | false ↦ [] ])
looks (skip n r) s at = elim (room s at n) [ true ↦ looks r s (at + n) | false ↦ [] ]
looks (until c k) s at =
    (at, before c (drop at s) + 1)
    ∷ (elim (ended_by c s at) as (λ (b : Bool). List (ℕ × ℕ)) [ true ↦ looks (k (before c (drop at s))) s (at + (before c (drop at s) + 1)) | false ↦ [] ])
looks (begins m on off) s at =
    (at, length m) ∷ (elim (stands s at m) as (λ (b : Bool). List (ℕ × ℕ)) [ true ↦ looks on s (at + length m) | false ↦ looks off s at ])

-- t holds what s holds in each of the spans, each as far from `to` as the span is from `at`
abbrev pub Agree : List (ℕ × ℕ) → List ℕ → ℕ → List ℕ → ℕ → Type 0
Agree [] s at t to = Unit {0}
Agree (p ∷ ps) s at t to = ((q : ℕ) → q + at ≡ p.0 + to → take p.1 (drop q t) ≡ take p.1 (drop p.0 s)) × Agree ps s at t to

-- n bytes from a place
abbrev pub part : List ℕ → ℕ → ℕ → List ℕ
part s at n = take n (drop at s)

-- no byte from the one place up to the other differs; that both go so far is said beside it
abbrev pub Untouched : List ℕ → List ℕ → ℕ → ℕ → Type 0
Untouched s z from to = (i : ℕ) → from ≤ i → i < to → get_or z i 0 ≡ get_or s i 0

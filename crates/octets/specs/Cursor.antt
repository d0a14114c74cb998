-- What the answers of the cursor say in the terms of the reading trees: what was read and the next place, or the fault as the tree has it, its
-- kind and its place; and their papers. proofs/Lossless.antt: equal outcomes, equal answers, and so with equal papers.
use Rattle.std.specs.Prelude.{ℕ, Bool, true, false, List, [], ◌∷◌, take, drop, Option, Some, None, Result, Ok, Err}
use Rattle.octets.specs.declared.Fault.{Fault}
use Rattle.octets.specs.declared.cursor.Cursor.{Cursor}
use Rattle.octets.specs.declared.cursor.Width.{Width}
use Rattle.octets.specs.declared.cursor.Width.TheVariants.{One, Two, Four, Eight}
use Rattle.octets.specs.Paper.{Paper}
use Rattle.octets.specs.Reader.{Outcome, room}
use Rattle.octets.specs.Reader.Outcome.{read, fault}
use Rattle.octets.specs.Refusals.{told}

abbrev pub width_of : Width → ℕ
width_of One = 1
width_of Two = 2
width_of Four = 4
width_of Eight = 8

-- what was read, and the place after it
abbrev pub found : {A : Type 0} → Result (A × Cursor) Fault → Outcome A
found (Ok (a, c)) = read a c.at
found (Err f) = fault f

abbrev pub moved : Result Cursor Fault → Outcome (Unit {0})
moved (Ok c) = read tt c.at
moved (Err f) = fault f

-- past a mark, or still here
abbrev pub begun : Cursor → Option Cursor → Outcome Bool
begun here (Some next) = read true next.at
begun here None = read false here.at

-- the papers of the answers
abbrev pub paper_found : Result (ℕ × Cursor) Fault → Paper
paper_found r = told (λ n. n ∷ []) (found r)

abbrev pub paper_moved : Result Cursor Fault → Paper
paper_moved r = told (λ u. []) (moved r)

-- 1 where the mark was there, 0 where it was not
abbrev pub there_as : Bool → ℕ
there_as true = 1
there_as false = 0

abbrev pub paper_begun : Cursor → Option Cursor → Paper
paper_begun here r = told (λ t. there_as t ∷ []) (begun here r)

-- the n bytes from `at`, or none where they are not there: which of the two an empty answer is, `bytes` tells
unfoldable pub part_of : List ℕ → ℕ → ℕ → List ℕ
part_of s at n = elim (room s at n) [ true ↦ take n (drop at s) | false ↦ [] ]

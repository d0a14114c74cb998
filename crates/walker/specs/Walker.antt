-- Walker: one step from any place in any file, and a walk of such steps. proofs/Walks.antt: a walk from the start gives the reader's rows, one after another,
-- and then the reader's end or refusal (6 included, 7 never).
use Rattle.std.specs.Prelude.{ℕ, ◌+◌, Bool, true, false, List, [], ◌∷◌, ◌≡◌, ltb, length, Result, Ok, Err, Option, Some, None}
use Rattle.octets.specs.declared.Fault.{Fault}
use Rattle.octets.specs.Paper.{Paper}
use Rattle.octets.specs.Paper.Paper.{accepts, refuses}
use Rattle.octets.specs.Reader.{Reader, Outcome, run}
use Rattle.octets.specs.Reader.Outcome.{read, fault}
use Rattle.octets.specs.Refusals.{no_dna_block_found, not_there, paper_fault}
use Rattle.header.specs.declared.Header.{Header}
use Rattle.block.specs.declared.Row.{Row}
use Rattle.dna.specs.declared.dna.DnaCounts.{DnaCounts}
use Rattle.blend.specs.declared.blend.Boundary.{Boundary}
use Rattle.walker.specs.declared.Place.{Place}
use Rattle.walker.specs.declared.Step.{Step}
use Rattle.header.specs.Header.{HeaderBytes, valued}
use Rattle.blend.specs.Blocks.{boundary_of}
use Rattle.block.specs.Rows.{row_numbers}

-- A step's answer, and the place that it hands back.
pub record Walked : Type 0 where
  pub answer : Paper
  pub place : Place

-- A refusal and the end mark leave the place as it is, so the next step answers the same.
abbrev pub stays : Place → Paper → Walked
stays p a = record { answer = a; place = p }

abbrev pub last_is_dna : Option DnaCounts → Bool
last_is_dna None = false
last_is_dna (Some n) = true

-- the end: the offset after the end mark, or 6 where the last block was no DNA1
abbrev pub end_mark : Bool → ℕ → Paper
end_mark true next = accepts 1 (next ∷ [])
end_mark false next = refuses no_dna_block_found []

-- what is at a boundary; `p` is the place that was asked, `b` the boundary that it stands for
abbrev pub step_over : Place → Place → Result Boundary Fault → Walked
step_over p b (Ok Boundary.EndMark) = stays p (end_mark b.dna (b.at + 4))
step_over p b (Ok (Boundary.Block r l next)) = record { answer = accepts 0 (row_numbers r); place = record { at = next; dna = last_is_dna l } }
step_over p b (Err f) = stays p (paper_fault f)

-- A place that is not past the header stands for the first boundary, where no block was read.
abbrev pub stands_for : ℕ → Place → Place
stands_for first p = elim (ltb first p.at) [ true ↦ p | false ↦ record { at = first; dna = false } ]

abbrev pub on_header : List ℕ → Place → Outcome Header → Walked
on_header s p (read h first) = step_over p (stands_for first p) (boundary_of h s (stands_for first p).at)
on_header s p (fault f) = stays p (paper_fault f)

-- 13 first of all where the place lies past the file's end, then the header's refusal, then the block at that boundary
unfoldable pub step_by : Reader HeaderBytes → List ℕ → Place → Walked
step_by header s p = elim (ltb (length s) p.at) [ true ↦ stays p not_there | false ↦ on_header s p (valued (run header s 0)) ]

-- the paper of the answer
abbrev pub paper_step : Step → Paper
paper_step (Step.Block r p) = accepts 0 (row_numbers r)
paper_step (Step.End at p) = accepts 1 (at ∷ [])
paper_step (Step.Refused f p) = paper_fault f

-- the place that is handed back
abbrev pub place_of : Step → Place
place_of (Step.Block r p) = p
place_of (Step.End at p) = p
place_of (Step.Refused f p) = p

-- what a step answers, and the place that it hands back
abbrev pub Stepped : Reader HeaderBytes → List ℕ → Place → Step → Type 0
Stepped header s p r = (paper_step r ≡ (step_by header s p).answer) × (place_of r ≡ (step_by header s p).place)

-- where a walk starts
abbrev pub start : Place
start = record { at = 0; dna = false }

-- How a walk stops: at the end mark, with the offset after it, or with why it is refused, and where. The step that stops hands its own place back.
pub data Stop : Type 0 where
  ended : ℕ → Stop
  refused : Fault → Stop

abbrev pub stopped : Stop → Place → Step
stopped (ended next) p = Step.End next p
stopped (refused f) p = Step.Refused f p

-- A walk from a place: these rows, one after another, and then the stop, which is answered again whenever it is asked again.
abbrev pub Walk : (Place → Step → Type 0) → Place → List Row → Stop → Type 0
Walk step p [] stop = step p (stopped stop p)
Walk step p (r ∷ rs) stop = (q : Place) × step p (Step.Block r q) × Walk step q rs stop

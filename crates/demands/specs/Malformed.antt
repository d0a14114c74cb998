-- Why a file is malformed, and where (request 3 of document 02): 16 and 17, each with its place, in the place of 2. Laws of the contracts of the calls that gave 2.
use Rattle.std.specs.Prelude.{ℕ, ◌+◌, ◌/◌, ◌≤◌, ◌<◌, true, false, List, [], ◌∷◌, ◌++◌, ◌≡◌, ltb, length, take, Result, Ok, Err}
use Rattle.octets.specs.declared.Endianness.{Endianness}
use Rattle.octets.specs.Former.{former_fault, former_told, as_two}
use Rattle.octets.specs.Paper.{Paper}
use Rattle.octets.specs.Paper.Paper.{accepts, refuses}
use Rattle.octets.specs.Reader.{Outcome, run}
use Rattle.octets.specs.Reader.Outcome.{read, fault}
use Rattle.octets.specs.Refusals.{paper_fault}
use Rattle.octets.specs.declared.cursor.Cursor.{Cursor}
use Rattle.octets.specs.Cursor.{paper_found, paper_moved, paper_begun}
use Rattle.header.specs.declared.Header.{Header}
use Rattle.octets.specs.declared.Fault.{Fault}
use Rattle.header.specs.Header.{header_bytes, header_numbers, valued, paper_header, paper_pointer_size, paper_endianness, paper_version}
use Rattle.header.specs.Calls as header
use Rattle.dna.specs.declared.dna.DnaCounts.{DnaCounts}
use Rattle.dna.specs.declared.dna.DnaError.{DnaError}
use Rattle.dna.specs.Catalogue.{Dna, Rooms, catalogue, rooms, counts, count_numbers, counts_only, answer_for, paper_tables, paper_counted}
use Rattle.dna.specs.Calls as dna
use Rattle.field.specs.declared.field.Declarator.{Declarator}
use Rattle.field.specs.Declarators.{paper_function}
use Rattle.field.specs.Former.{former_function_as}
use Rattle.field.specs.Calls as field
use Rattle.block.specs.declared.Row.{Row}
use Rattle.block.specs.BlockHeaders.{paper_block_header}
use Rattle.block.specs.Rows.{per_row, row_numbers}
use Rattle.blend.specs.declared.blend.RawBlend.{RawBlend}
use Rattle.blend.specs.declared.blend.BlendError.{BlendError}
use Rattle.blend.specs.declared.blend.Boundary.{Boundary}
use Rattle.blend.specs.Blocks.{boundary_of, paper_boundary}
use Rattle.blend.specs.Chain.{File, file_by, paper_blend}
use Rattle.blend.specs.Calls as blend
use Rattle.walker.specs.declared.Place.{Place}
use Rattle.walker.specs.declared.Step.{Step}
use Rattle.writable.specs.Writable.{paper_needed}
use Rattle.writer.specs.Writer.{paper_write}
use Rattle.walker.specs.Walker.{end_mark, stands_for, paper_step, place_of}
use Rattle.walker.specs.Calls as walker
use Rattle.held.specs.declared.Walker.{Walker}
use Rattle.held.specs.Calls as held
use Rattle.exports.specs.declared.BlendCatalogue.{BlendCatalogue}
use Rattle.exports.specs.declared.BlendHeader.{BlendHeader}
use Rattle.exports.specs.declared.BlendRead.{BlendRead}
use Rattle.exports.specs.declared.BlendStep.{BlendStep}
use Rattle.exports.specs.Calls as exports
use Rattle.exports.specs.Exports.{order_of, header_out, read_out, catalogue_out}
use Rattle.demands.specs.Answers.{rows_in}

-- The answers as they were, when a cut and a wrong mark were both told as 2. Kept for `WhereTwoWas` alone; no contract names them.
abbrev pub former_answer_for : Header → (rows room : ℕ) → Outcome DnaCounts → Paper
former_answer_for h rows room (read n end) =
    elim (ltb room rows) [ true ↦ refuses 7 (rows ∷ []) | false ↦ accepts 0 (header_numbers h ++ (rows ∷ end ∷ count_numbers n)) ]
former_answer_for h rows room (fault f) = former_fault f

abbrev pub former_read_as : Outcome File → (room : ℕ) → Paper
former_read_as (read f at) room = former_answer_for f.header (length f.chain.rows) room f.chain.last
former_read_as (fault f) room = former_fault f

abbrev pub former_tables_as : Outcome Dna → Rooms → Paper
former_tables_as (read d next) r = answer_for (counts d) r
former_tables_as (fault f) r = refuses 2 []

abbrev pub former_step_over : Place → Result Boundary Fault → Paper
former_step_over b (Ok Boundary.EndMark) = end_mark b.dna (b.at + 4)
former_step_over b (Ok (Boundary.Block r l next)) = accepts 0 (row_numbers r)
former_step_over b (Err f) = former_fault f

abbrev pub former_on_header : List ℕ → Place → Outcome Header → Paper
former_on_header s p (read h first) = former_step_over (stands_for first p) (boundary_of h s (stands_for first p).at)
former_on_header s p (fault f) = former_fault f

abbrev pub former_step_as : List ℕ → Place → Paper
former_step_as s p = elim (ltb (length s) p.at) [ true ↦ refuses 13 [] | false ↦ former_on_header s p (valued (run header_bytes s 0)) ]

-- "Together they occur exactly where 2 did" and "2 is no longer given": an answer that is not 2 and, with 16 and 17 told as 2, is the former one.
abbrev pub AsBefore : (now former : Paper) → Type 0
AsBefore now former = (as_two now ≡ former) × ((vs : List ℕ) → now ≡ refuses 2 vs → ⊥)

-- So is the answer of every call that gave 2, for every input; for other languages the answer that the struct of numbers tells.
pub record WhereTwoWas : Type 0 where
  pub of-header : (s : List ℕ) (r : Result (Header × ℕ) Fault) → header.«blend::header» s r → AsBefore (paper_header r) (former_told header_numbers (valued (run header_bytes s 0)))
  pub of-blend : (s t t' : List ℕ) (r : Result RawBlend BlendError) → blend.«blend::blend» s t r t' → AsBefore (paper_blend r) (former_read_as (file_by header_bytes s) (length t / per_row))
  pub of-step : (s : List ℕ) (p : Place) (r : Step) → walker.«Place::step» p s r → AsBefore (paper_step r) (former_step_as s p)
  pub of-held : (w : Walker) (r : Step) → held.«next» w r → AsBefore (paper_step r) (former_step_as w.file.now w.place)
  pub of-dna : (s : List ℕ) (e : Endianness) (n t u f n' t' u' f' : List ℕ) (r : Result DnaCounts DnaError) → dna.«dna::dna» s e n t u f r n' t' u' f'
      → AsBefore (paper_tables r) (former_tables_as (run (catalogue e) s 0) (rooms (length n) (length t) (length u) (length f)))
  pub of-counts : (s : List ℕ) (e : Endianness) (r : Result (DnaCounts × ℕ) Fault) → dna.dna::dna_counts s e r
      → AsBefore (paper_counted r) (former_told count_numbers (counts_only (run (catalogue e) s 0)))
  pub of_function : (name : List ℕ) (r : Result Declarator Fault) → field.field::fn_pointer name r → AsBefore (paper_function r) (former_function_as name)
  pub header_exported : (s : List ℕ) (r : BlendHeader) → exports.blend_header s r
      → (p : Paper) × (r ≡ header_out p) × AsBefore p (former_told header_numbers (valued (run header_bytes s 0)))
  pub read_exported : (s t t' : List ℕ) (r : BlendRead) → exports.blend_read s t r t'
      → (p : Paper) × (r ≡ read_out p) × AsBefore p (former_read_as (file_by header_bytes s) (length t / per_row))
  pub catalogue_exported : (s : List ℕ) (o : ℕ) (n t u f n' t' u' f' : List ℕ) (r : BlendCatalogue) → exports.blend_catalogue s o n t u f r n' t' u' f'
      → (p : Paper) × (r ≡ catalogue_out p) × AsBefore p (former_tables_as (run (catalogue (order_of o)) s 0) (rooms (length n) (length t) (length u) (length f)))

-- What is told of bytes that end after the k-th: 16, at an offset of at most k; and of a file 1, where fewer than 7 bytes are left.
abbrev pub CutAt : ℕ → Paper → Type 0
CutAt k p = (at : ℕ) × (p ≡ refuses 16 (at ∷ [])) × (at ≤ k)

abbrev pub CutTold : ℕ → Paper → Type 0
CutTold k p = (k < 7 → p ≡ refuses 1 []) × (7 ≤ k → CutAt k p)

-- A cut upload is told: a file that is read, stopped anywhere before the end of its end mark, is refused, with 1 where fewer than 7 bytes are left and otherwise with 16, at an
-- offset of at most its length. So no 17 comes of it. The same of a catalogue by itself, stopped before the end of its last struct.
pub record CutUpload : Type 0 where
  pub of-file : (s t t' : List ℕ) (b : RawBlend) → blend.«blend::blend» s t (Ok b) t' → (k : ℕ) → k < b.end
      → (u u' : List ℕ) (r : Result RawBlend BlendError) → blend.«blend::blend» (take k s) u r u' → CutTold k (paper_blend r)
  pub of-header : (s : List ℕ) (h : Header) (end : ℕ) → header.«blend::header» s (Ok (h, end)) → (k : ℕ) → k < end
      → (r : Result (Header × ℕ) Fault) → header.«blend::header» (take k s) r → CutTold k (paper_header r)
  pub of_exported : (s t t' : List ℕ) (r : BlendRead) → exports.blend_read s t r t' → r.refusal ≡ 0 → (k : ℕ) → k < r.end
      → (u u' : List ℕ) (q : BlendRead) → exports.blend_read (take k s) u q u' → (p : Paper) × (q ≡ read_out p) × CutTold k p
  pub of-counts : (s : List ℕ) (e : Endianness) (n : DnaCounts) (end : ℕ) → dna.dna::dna_counts s e (Ok (n, end)) → (k : ℕ) → k < end
      → (r : Result (DnaCounts × ℕ) Fault) → dna.dna::dna_counts (take k s) e r → CutAt k (paper_counted r)
  pub of_tables : (s : List ℕ) (e : Endianness) (n : DnaCounts) (end : ℕ) → dna.dna::dna_counts s e (Ok (n, end)) → (k : ℕ) → k < end
      → (m t u f m' t' u' f' : List ℕ) (r : Result DnaCounts DnaError) → dna.«dna::dna» (take k s) e m t u f r m' t' u' f' → CutAt k (paper_tables r)

-- For other languages a step of the walker is a call over numbers, so that a caller can go up to the fault and say in which block it is. From the start the steps give the
-- rows that `blend_read` leaves in the table, one after another, and then its end, or its refusal with its place; where the table is too short for it, the rows that 7
-- says are needed.
abbrev pub row_of : BlendStep → Row
row_of q = record { code = q.code; address = q.address; index = q.index; count = q.count; at = q.at; payload = q.payload; len = q.length }

abbrev pub StepWalk : List ℕ → (at dna : ℕ) → List Row → BlendStep → Type 0
StepWalk s at dna [] stop = exports.blend_step s at dna stop
StepWalk s at dna (r ∷ rs) stop =
    (q : BlendStep) × exports.blend_step s at dna q × (q.refusal ≡ 0) × (q.kind ≡ 0) × (row_of q ≡ r) × StepWalk s q.next_at q.next_dna rs stop

pub record StepsExported : Type 0 where
  pub ends : (s t t' : List ℕ) (r : BlendRead) → exports.blend_read s t r t' → r.refusal ≡ 0
      → (stop : BlendStep) × StepWalk s 0 0 (rows_in t' r.rows) stop × (stop.refusal ≡ 0) × (stop.kind ≡ 1) × (stop.end ≡ r.end)
  pub short : (s t t' : List ℕ) (r : BlendRead) → exports.blend_read s t r t' → r.refusal ≡ 7
      → (rows : List Row) × (stop : BlendStep) × (length rows ≡ r.needed) × StepWalk s 0 0 rows stop × (stop.refusal ≡ 0) × (stop.kind ≡ 1)
  pub stops : (s t t' : List ℕ) (r : BlendRead) → exports.blend_read s t r t' → (r.refusal ≡ 0 → ⊥) → (r.refusal ≡ 7 → ⊥)
      → (rows : List Row) × (stop : BlendStep) × StepWalk s 0 0 rows stop × (stop.refusal ≡ r.refusal) × (stop.fault_at ≡ r.fault_at)

-- Nothing is lost when a fault is told: two answers that are told alike are the same answer, of every public answer that can hold a fault.
abbrev pub Whole : {A : Type 0} → (A → Paper) → Type 0
Whole {A} paper = (a b : A) → paper a ≡ paper b → a ≡ b

pub record PapersLoseNothing : Type 0 where
  pub of-fault : Whole paper_fault
  pub of_number : Whole paper_found
  pub of_move : Whole paper_moved
  pub of-run : Whole paper_found
  pub of-begins : (here : Cursor) → Whole (paper_begun here)
  pub of-pointer_size : Whole paper_pointer_size
  pub of-endianness : Whole paper_endianness
  pub of-version : Whole paper_version
  pub of-header : Whole paper_header
  pub of-block_header : Whole paper_block_header
  pub of_boundary : Whole paper_boundary
  pub of-blend : Whole paper_blend
  pub of-step : (a b : Step) → paper_step a ≡ paper_step b → place_of a ≡ place_of b → a ≡ b
  pub of-counts : Whole paper_counted
  pub of_tables : Whole paper_tables
  pub of_function : Whole paper_function
  pub of_needed : Whole paper_needed
  pub of-write : Whole paper_write

-- Cover: in a file that is read, header, block headers, payloads and end mark cover the file up to the end of that mark, each byte once, in order.
use Rattle.std.specs.Prelude.{ℕ, ◌+◌, ◌≤◌, false, List, [], ◌∷◌, ◌++◌, ◌≡◌, length, take, Result, Ok, Err}
use Rattle.std.specs.Borrow.{Bor}
use Rattle.block.specs.Spelling.{told, Spell}
use Rattle.octets.specs.Looks.{part}
use Rattle.octets.specs.declared.Endianness.TheVariants.{Big}
use Rattle.octets.specs.Ascii.{ascii}
use Rattle.octets.specs.Number.{spelled}
use Rattle.octets.specs.PointerSize.{pointer_bytes}
use Rattle.octets.specs.Reader.{Reader, Outcome, run, stands}
use Rattle.octets.specs.Reader.Outcome.{read}
use Rattle.header.specs.declared.Header.{Header}
use Rattle.block.specs.declared.Row.{Row}
use Rattle.blend.specs.declared.blend.RawBlend.{RawBlend}
use Rattle.blend.specs.declared.blend.BlendError.{BlendError}
use Rattle.header.specs.Header.{HeaderBytes, header_length, header_bytes, valued, edition, order}
use Rattle.header.specs.Layout.{layout, block_header_length}
use Rattle.block.specs.Rows.{payload_of}
use Rattle.blend.specs.Calls.{Answers}
use Rattle.header.specs.Calls.{«blend::header»}
use Rattle.walker.specs.Calls.{«Place::step»}
use Rattle.blend.specs.Chain.{File, file_by}
use Rattle.walker.specs.Walker.{start, Walk}
use Rattle.walker.specs.Walker.Stop.{ended}
use Rattle.held.specs.declared.Walker.{Walker}
use Rattle.held.specs.Calls as held
use Rattle.held.specs.Walks.{HeldWalk}
use Rattle.exports.specs.declared.BlendRead.{BlendRead}
use Rattle.exports.specs.Calls.{blend_read}
use Rattle.demands.specs.Answers.{HeaderTree, rows_in}

-- the bytes of the file's header, and of a row's block header
abbrev pub header_part : Header → List ℕ → List ℕ
header_part h s = part s 0 (header_length h.format)

abbrev pub block_header_part : Header → List ℕ → Row → List ℕ
block_header_part h s r = part s r.at (block_header_length h.format h.pointer_size)

-- for each row its block header and its payload, in order
unfoldable pub blocks_part : Header → List ℕ → List Row → List ℕ
blocks_part h s [] = []
blocks_part h s (r ∷ rs) = block_header_part h s r ++ (payload_of s r ++ blocks_part h s rs)

-- A block: no end mark stands where it begins; its header has the length of its edition and pointer size, and spells the row's code, and size, address, index and
-- count; the payload follows it, and has the row's length.
pub record Block (h : Header) (s : List ℕ) (r : Row) : Type 0 where
  pub unmarked : stands s r.at (ascii "ENDB") ≡ false
  pub long : length (block_header_part h s r) ≡ block_header_length h.format h.pointer_size
  pub code : spelled Big (part (block_header_part h s r) 0 4) ≡ r.code
  pub numbers : Spell (layout h) (told r) (block_header_part h s r) 4
  pub follows : r.payload ≡ r.at + block_header_length h.format h.pointer_size
  pub payload : length (payload_of s r) ≡ r.len

abbrev pub Blocks : Header → List ℕ → List Row → Type 0
Blocks h s [] = Unit {0}
Blocks h s (r ∷ rs) = Block h s r × Blocks h s rs

-- each block begins where the one before it ends, the first at `at`, and the end mark, 4 bytes, is the last
abbrev pub Abut : ℕ → List Row → ℕ → Type 0
Abut at [] end = end ≡ at + 4
Abut at (r ∷ rs) end = (r.at ≡ at) × Abut (r.payload + r.len) rs end

-- The claim of a file, its header, its rows and its end.
pub record Covered (header : Reader HeaderBytes) (s : List ℕ) (h : Header) (rows : List Row) (end : ℕ) : Type 0 where
  pub whole : take end s ≡ header_part h s ++ (blocks_part h s rows ++ ascii "ENDB")
  pub inside : end ≤ length s
  pub first : length (header_part h s) ≡ header_length h.format
  pub reads : valued (run header (header_part h s) 0) ≡ read h (header_length h.format)
  pub blocks : Blocks h s rows
  pub abut : Abut (header_length h.format) rows end

-- the claim of an answer of `blend` and the table that it leaves; of a refusal nothing is said
abbrev pub CoveredBy : Reader HeaderBytes → List ℕ → Result RawBlend BlendError → List ℕ → Type 0
CoveredBy header s (Ok b) t' = Covered header s b.header (rows_in t' b.rows) b.end
CoveredBy header s (Err (BlendError.Fault x)) t' = Unit {0}
CoveredBy header s (Err (BlendError.TableTooShort n)) t' = Unit {0}

-- Whatever `blend` answers of a file, and leaves in the table, covers the file.
abbrev pub Cover : Reader HeaderBytes → (List ℕ → Outcome File) → Type 0
Cover header reading = (s t t' : List ℕ) (r : Result RawBlend BlendError) → Answers reading s t r t' → CoveredBy header s r t'

-- whatever tree reads the header, if it is one that takes its edition's bytes and looks at no others
abbrev pub EveryBlockBy : Type 0
EveryBlockBy = (header : Reader HeaderBytes) → HeaderTree header → Cover header (file_by header)

-- Did the reader take every block of the scene? The reading is the one that the contract of `blend` cites.
abbrev pub EveryBlock : Type 0
EveryBlock = Cover header_bytes (file_by header_bytes)

-- The same of the exported reading: where it refuses nothing, with the header that its numbers tell.
abbrev pub HeaderTold : Header → BlendRead → Type 0
HeaderTold h r = (r.edition ≡ edition h.format) × (r.pointer_bytes ≡ pointer_bytes h.pointer_size) × (r.order ≡ order h.endianness) × (r.major ≡ h.version.major) × (r.minor ≡ h.version.minor)

abbrev pub EveryBlockExported : Type 0
EveryBlockExported =
    (s t t' : List ℕ) (r : BlendRead) → blend_read s t r t' → r.refusal ≡ 0 → (h : Header) × HeaderTold h r × Covered header_bytes s h (rows_in t' r.rows) r.end

-- The same of a walk from the start to the end mark, by places and by a walker that holds the file, with the header that `header` answers.
abbrev pub CoveredFile : List ℕ → List Row → ℕ → Type 0
CoveredFile s rows end = (h : Header) × («blend::header» s (Ok (h, (header_length h.format)))) × Covered header_bytes s h rows end

abbrev pub EveryBlockWalked : Type 0
EveryBlockWalked = (s : List ℕ) (rows : List Row) (end : ℕ) → Walk (λ p r. «Place::step» p s r) start rows (ended end) → CoveredFile s rows end

abbrev pub EveryBlockHeld : Type 0
EveryBlockHeld = (file : Bor (List ℕ)) (w : Walker) (rows : List Row) (end : ℕ) → held.over file w → HeldWalk w rows (ended end) → CoveredFile file.now rows end

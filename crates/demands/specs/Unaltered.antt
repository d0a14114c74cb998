-- One object's bytes cannot alter another's: a second file that differs from one that is read only inside the payloads of blocks other than DNA1, or in any
-- way after the end mark, is read too, with the same header, rows, end and counts, and every untouched payload shows the same bytes.
use Rattle.std.specs.Prelude.{ℕ, zero, suc, ◌+◌, ◌≤◌, ◌<◌, Bool, true, false, not, ◌&&◌, ◌||◌, List, [], ◌∷◌, ◌≡◌, leb, ltb, eqb, length, get_or, Result, Ok, Err}
use Rattle.std.specs.Borrow.{Bor}
use Rattle.octets.specs.Looks.{Untouched}
use Rattle.octets.specs.declared.Endianness.{Endianness}
use Rattle.octets.specs.Paper.Paper.{accepts}
use Rattle.octets.specs.Reader.{Reader, Outcome, run}
use Rattle.octets.specs.Tables.{over}
use Rattle.dna.specs.declared.dna.DnaCounts.{DnaCounts}
use Rattle.dna.specs.declared.dna.DnaError.{DnaError}
use Rattle.dna.specs.Catalogue.{catalogue, Filled}
use Rattle.block.specs.declared.Row.{Row}
use Rattle.header.specs.declared.Header.{Header}
use Rattle.blend.specs.declared.blend.RawBlend.{RawBlend}
use Rattle.blend.specs.declared.blend.BlendError.{BlendError}
use Rattle.block.specs.Kinds.{code_number}
use Rattle.block.specs.Rows.{payload_of, Column, cell, none}
use Rattle.blend.specs.Calls.{Answers}
use Rattle.header.specs.Calls.{«blend::header»}
use Rattle.walker.specs.Calls.{«Place::step»}
use Rattle.blend.specs.Chain.{File, file_by}
use Rattle.header.specs.Header.{HeaderBytes, header_bytes}
use Rattle.walker.specs.Walker.{start, Walk}
use Rattle.walker.specs.Walker.Stop.{ended}
use Rattle.runtime.specs.Views.{view_as, part_as}
use Rattle.index.specs.declared.index.IndexError.{IndexError}
use Rattle.index.specs.Calls.{«index::build»}
use Rattle.held.specs.declared.Walker.{Walker}
use Rattle.held.specs.Calls as held
use Rattle.held.specs.Walks.{HeldWalk}
use Rattle.exports.specs.declared.BlendRead.{BlendRead}
use Rattle.exports.specs.Calls.{blend_read}
use Rattle.exports.specs.Exports.{order_of}
use Rattle.demands.specs.Answers.{HeaderTree, rows_in}

-- a block other than DNA1
abbrev pub is_other : Row → Bool
is_other r = not (eqb r.code (code_number "DNA1"))

-- whether a place lies in the payload of one of these rows that is no DNA1
abbrev pub is_free : List Row → ℕ → Bool
is_free [] i = false
is_free (r ∷ rs) i = (is_other r && (leb r.payload i && ltb i (r.payload + r.len))) || is_free rs i

-- The two files: z goes at least to the end of the end mark of s, and each byte before it is the one that s has there, unless it lies in such a payload.
-- After the end mark z may be longer, shorter or different.
pub record Alike (rows : List Row) (end : ℕ) (s z : List ℕ) : Type 0 where
  pub long : end ≤ length z
  pub bytes : (i : ℕ) → i < end → is_free rows i ≡ false → get_or z i 0 ≡ get_or s i 0

-- `bytes` as a test that computes, of n places from `at` on (proofs/Unaltered.antt: where it holds, the bytes are alike)
unfoldable pub agree : List Row → List ℕ → List ℕ → (at n : ℕ) → Bool
agree rows s z at zero = true
agree rows s z at (suc n) = (is_free rows at || eqb (get_or z at 0) (get_or s at 0)) && agree rows s z (at + 1) n

-- two lent tables after a call: the same numbers from the front, and after them what each held
abbrev pub WroteSame : List ℕ → List ℕ → List ℕ → List ℕ → Type 0
WroteSame t t' u u' = (new : List ℕ) × (t' ≡ over new t) × (u' ≡ over new u)

-- `dna` on two payloads, in one order, with tables of the same lengths: the same answer, and the same numbers written into each table
abbrev pub SameCatalogue : Endianness → List ℕ → List ℕ → Type 0
SameCatalogue e p q =
    (n t s f n' t' s' f' m u v g m' u' v' g' : List ℕ) (a c : Result DnaCounts DnaError) → length m ≡ length n → length u ≡ length t → length v ≡ length s → length g ≡ length f
    → Filled (run (catalogue e) p 0) a n t s f n' t' s' f' → Filled (run (catalogue e) q 0) c m u v g m' u' v' g'
    → (c ≡ a) × WroteSame n n' m m' × WroteSame t t' u u' × WroteSame s s' v v' × WroteSame f f' g g'

-- `build` over two row tables, with the same counts of rows and buckets and with index tables of the same lengths: the same answer, and the same numbers written into
-- each table
abbrev pub SameIndex : List ℕ → List ℕ → (rows buckets : ℕ) → Type 0
SameIndex t u rows buckets =
    (heads links heads' links' firsts nexts firsts' nexts' : List ℕ) (a c : Result (Unit {0}) IndexError) → length firsts ≡ length heads → length nexts ≡ length links
    → «index::build» t rows buckets heads links a heads' links' → «index::build» u rows buckets firsts nexts c firsts' nexts'
    → (c ≡ a) × WroteSame heads heads' firsts firsts' × WroteSame links links' nexts nexts'

-- The claim of a file s that was read, with a table that held t and holds t', so many rows in it and this byte order; and of a second file z, with a table that
-- held u and holds u'.
pub record Stays (s t t' : List ℕ) (n : ℕ) (e : Endianness) (z u u' : List ℕ) : Type 0 where
  pub rows : (rows_in u' n ≡ rows_in t' n) × WroteSame t t' u u'
  -- every payload can be viewed in both, and one in which no byte differs shows the same bytes
  pub views : (row : ℕ) → row < n
      → (view_as s t' row ≡ accepts 0 []) × (view_as z u' row ≡ accepts 0 []) × (Untouched s z (cell t' row Column.payload) (cell t' row Column.payload + cell t' row Column.len) → part_as z u' row ≡ part_as s t' row)
  -- so does every DNA1's, and its catalogue is the same
  pub catalogues : (row : ℕ) → row < n → cell t' row Column.code ≡ code_number "DNA1"
      → (part_as z u' row ≡ part_as s t' row) × SameCatalogue e (part_as s t' row) (part_as z u' row)
  -- and so is an index over the rows, or over the first of them, with any bucket count
  pub index : (m buckets : ℕ) → m ≤ n → SameIndex t' u' m buckets

-- the claim of two answers of `blend`: where the first is no refusal, the second has the same header, number of rows, end offset and counts, and the rest stays
abbrev pub UnalteredBy : (s t : List ℕ) → Result RawBlend BlendError → (t' z u : List ℕ) → Result RawBlend BlendError → List ℕ → Type 0
UnalteredBy s t (Ok b) t' z u c u' =
    length u ≡ length t → Alike (rows_in t' b.rows) b.end s z → (c ≡ Ok b) × Stays s t t' b.rows b.header.endianness z u u'
UnalteredBy s t (Err (BlendError.Fault x)) t' z u c u' = Unit {0}
UnalteredBy s t (Err (BlendError.TableTooShort n)) t' z u c u' = Unit {0}

-- Whatever `blend` answers of two such files with tables of the same length, where it reads the first.
abbrev pub Unaltered : (List ℕ → Outcome File) → Type 0
Unaltered reading = (s t t' : List ℕ) (r : Result RawBlend BlendError) → Answers reading s t r t' → (z u u' : List ℕ) (c : Result RawBlend BlendError) → Answers reading z u c u' → UnalteredBy s t r t' z u c u'

-- whatever tree reads the header, as in Cover.antt
abbrev pub NoOtherObjectBy : Type 0
NoOtherObjectBy = (header : Reader HeaderBytes) → HeaderTree header → Unaltered (file_by header)

-- Can a bad byte in one object's data alter what is read of another? The reading is the one that the contract of `blend` cites.
abbrev pub NoOtherObject : Type 0
NoOtherObject = Unaltered (file_by header_bytes)

-- The same of the exported reading: where it refuses nothing of the first file, the second gets the same numbers, and the rest stays.
abbrev pub NoOtherObjectExported : Type 0
NoOtherObjectExported =
    (s t t' : List ℕ) (r : BlendRead) → blend_read s t r t' → r.refusal ≡ 0 → (z u u' : List ℕ) (q : BlendRead) → blend_read z u q u'
    → length u ≡ length t → Alike (rows_in t' r.rows) r.end s z → (q ≡ r) × Stays s t t' r.rows (order_of r.order) z u u'

-- The same of a walk from the start to the end mark: the second file's has the same rows and the same end, every untouched payload has the same bytes, and so has
-- every DNA1's.
pub record WalksOn (s : List ℕ) (rows : List Row) (z : List ℕ) : Type 0 where
  pub header : (h : Header) (at : ℕ) → «blend::header» s (Ok (h, at)) → «blend::header» z (Ok (h, at))
  pub payloads : (i : ℕ) → i < length rows → Untouched s z (get_or rows i none).payload ((get_or rows i none).payload + (get_or rows i none).len) → payload_of z (get_or rows i none) ≡ payload_of s (get_or rows i none)
  pub catalogues : (i : ℕ) → i < length rows → (get_or rows i none).code ≡ code_number "DNA1" → payload_of z (get_or rows i none) ≡ payload_of s (get_or rows i none)

abbrev pub NoOtherObjectWalked : Type 0
NoOtherObjectWalked =
    (s : List ℕ) (rows : List Row) (end : ℕ) → Walk (λ p r. «Place::step» p s r) start rows (ended end) → (z : List ℕ) → Alike rows end s z
    → Walk (λ p r. «Place::step» p z r) start rows (ended end) × WalksOn s rows z

abbrev pub NoOtherObjectHeld : Type 0
NoOtherObjectHeld =
    (file : Bor (List ℕ)) (w : Walker) (rows : List Row) (end : ℕ) → held.over file w → HeldWalk w rows (ended end) → (other : Bor (List ℕ)) (v : Walker) → held.over other v
    → Alike rows end file.now other.now → HeldWalk v rows (ended end) × WalksOn file.now rows other.now

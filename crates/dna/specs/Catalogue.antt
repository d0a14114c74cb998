-- Catalogue (SDNA): one reading tree over the payload, and the rows of its tables. Padding has to be there and is not looked at; bytes after the last
-- struct are not read at all.
use Rattle.std.specs.Prelude.{ℕ, ◌+◌, ◌*◌, ◌-◌, ◌/◌, ◌%◌, true, false, List, [], ◌∷◌, ◌++◌, ◌≡◌, ltb, length, Result, Ok, Err}
use Rattle.octets.specs.declared.Endianness.{Endianness}
use Rattle.octets.specs.declared.Fault.{Fault}
use Rattle.octets.specs.Ascii.{ascii}
use Rattle.octets.specs.Number.{number, tag}
use Rattle.octets.specs.Paper.{Paper}
use Rattle.octets.specs.Paper.Paper.{accepts}
use Rattle.octets.specs.Reader.{Reader, Outcome, string, then, times}
use Rattle.octets.specs.Reader.Reader.{done, here, skip}
use Rattle.octets.specs.Reader.Outcome.{read, fault}
use Rattle.octets.specs.Refusals.{catalogue_table_too_short, paper_fault, told}
use Rattle.octets.specs.Tables.{written}
use Rattle.dna.specs.declared.dna.DnaCounts.{DnaCounts}
use Rattle.dna.specs.declared.dna.DnaError.{DnaError}
use Rattle.dna.specs.declared.dna.DnaTable.{DnaTable}
use Rattle.dna.specs.declared.dna.DnaTable.TheVariants.{Names, Types, Structs, Fields}

-- a string's text: its offset in the payload, and its length
abbrev pub Text : Type 0
Text = ℕ × ℕ

-- a struct: .0 its type number, .1 its fields, each with .0 its type number and .1 its name number
abbrev pub Struct : Type 0
Struct = ℕ × List (ℕ × ℕ)

pub record Dna : Type 0 where
  pub names : List Text
  pub types : List Text
  pub sizes : List ℕ
  pub structs : List Struct

-- how many bytes are missing to a multiple of 4
abbrev pub padding : ℕ → ℕ
padding n = (4 - n % 4) % 4

-- a zero-ended byte string
abbrev pub text : Reader Text
text = here (λ at. string (λ n. done (at, n)))

-- n strings, then padding to a multiple of 4 of the strings' total length with their zeros
unfoldable pub strings : ℕ → Reader (List Text)
unfolding then times
strings n = here (λ from. then (times n text) (λ ps. here (λ to. skip (padding (to - from)) (done ps))))

-- a mark, u32 n, n strings, padding
unfoldable pub listed : Endianness → List ℕ → Reader (List Text)
unfolding strings
listed e mark = tag mark (number e 4 strings)

-- one u16 size
abbrev pub size : Endianness → Reader ℕ
size e = number e 2 done

-- "TLEN", m u16 sizes, padding of 2 bytes if m is odd: 2 m bytes to a multiple of 4
unfoldable pub sized : Endianness → ℕ → Reader (List ℕ)
unfolding then times
sized e m = tag (ascii "TLEN") (then (times m (size e)) (λ zs. skip (padding (2 * m)) (done zs)))

-- per field u16 type number, u16 name number
abbrev pub field : Endianness → Reader (ℕ × ℕ)
field e = number e 2 (λ t. number e 2 (λ n. done (t, n)))

-- each struct u16 type number, u16 field count, and the fields
unfoldable pub struct : Endianness → Reader Struct
unfolding then times
struct e = number e 2 (λ t. number e 2 (λ n. then (times n (field e)) (λ fs. done (t, fs))))

-- "STRC", u32 s, s structs
unfoldable pub structured : Endianness → Reader (List Struct)
unfolding struct times
structured e = tag (ascii "STRC") (number e 4 (λ n. times n (struct e)))

-- "SDNA", then names, types with their sizes, and structs. Numbers are not checked against the lists, and bytes after are ignored.
unfoldable pub catalogue : Endianness → Reader Dna
unfolding then listed sized structured
catalogue e =
    tag (ascii "SDNA") (then (listed e (ascii "NAME")) (λ names. then (listed e (ascii "TYPE")) (λ types. then (sized e (length types)) (λ sizes. then (structured e) (λ structs.
    done (record { names = names; types = types; sizes = sizes; structs = structs }))))))

-- The four counts: names, types, structs, fields.
unfoldable pub field_count : List Struct → ℕ
field_count [] = 0
field_count (t ∷ ts) = length t.1 + field_count ts

abbrev pub counts : Dna → DnaCounts
counts d = record { names = length d.names; types = length d.types; structs = length d.structs; fields = field_count d.structs }

abbrev pub count_numbers : DnaCounts → List ℕ
count_numbers n = n.names ∷ n.types ∷ n.structs ∷ n.fields ∷ []

-- Rows of names: offset, length. Rows of one struct's fields: type, name.
unfoldable pub pairs : List (ℕ × ℕ) → List ℕ
pairs [] = []
pairs (p ∷ ps) = p.0 ∷ p.1 ∷ pairs ps

-- Rows of types: offset, length, size. There are as many sizes as types.
unfoldable pub type_rows : List Text → List ℕ → List ℕ
type_rows [] zs = []
type_rows (p ∷ ps) [] = []
type_rows (p ∷ ps) (z ∷ zs) = p.0 ∷ p.1 ∷ z ∷ type_rows ps zs

-- Rows of structs: type, first field row, field count. `row` is where the fields of the next struct begin.
unfoldable pub struct_rows : ℕ → List Struct → List ℕ
struct_rows row [] = []
struct_rows row (t ∷ ts) = t.0 ∷ row ∷ length t.1 ∷ struct_rows (row + length t.1) ts

-- Rows of fields: those of all structs, in order.
unfoldable pub field_rows : List Struct → List ℕ
unfolding pairs
field_rows [] = []
field_rows (t ∷ ts) = pairs t.1 ++ field_rows ts

-- The four tables' rows, by their lengths: the length divided by the numbers per row, rounded down.
pub record Rooms : Type 0 where
  pub names : ℕ
  pub types : ℕ
  pub structs : ℕ
  pub fields : ℕ

abbrev pub rooms : ℕ → ℕ → ℕ → ℕ → Rooms
rooms names types structs fields = record { names = names / 2; types = types / 3; structs = structs / 3; fields = fields / 2 }

-- 8 for the first table that is too short, with the rows it needs; otherwise the counts
unfoldable pub answer_for : DnaCounts → Rooms → Paper
answer_for n r =
    elim (ltb r.names n.names) [
      | true ↦ catalogue_table_too_short 1 n.names
      | false ↦ elim (ltb r.types n.types) [
        | true ↦ catalogue_table_too_short 2 n.types
        | false ↦ elim (ltb r.structs n.structs) [
          | true ↦ catalogue_table_too_short 3 n.structs
          | false ↦ elim (ltb r.fields n.fields) [
            | true ↦ catalogue_table_too_short 4 n.fields
            | false ↦ accepts 0 (count_numbers n)
          ]
        ]
      ]
    ]

-- What `dna` answers: any missing byte is 16 and any wrong mark 17, with its place in the payload (the tree has no refusal of its own), and 8 comes only when the payload reads.
unfoldable pub read_as : Outcome Dna → Rooms → Paper
unfolding answer_for
read_as (read d next) r = answer_for (counts d) r
read_as (fault f) r = paper_fault f

-- the rows of a table, where the payload reads
abbrev pub rows_of : (Dna → List ℕ) → Outcome Dna → List ℕ
rows_of rows (read d next) = rows d
rows_of rows (fault f) = []

-- What each table holds afterwards.
abbrev pub names_table : Outcome Dna → Rooms → List ℕ → List ℕ
names_table o r t = written (read_as o r) (rows_of (λ d. pairs d.names) o) t

abbrev pub types_table : Outcome Dna → Rooms → List ℕ → List ℕ
types_table o r t = written (read_as o r) (rows_of (λ d. type_rows d.types d.sizes) o) t

abbrev pub structs_table : Outcome Dna → Rooms → List ℕ → List ℕ
structs_table o r t = written (read_as o r) (rows_of (λ d. struct_rows 0 d.structs) o) t

abbrev pub fields_table : Outcome Dna → Rooms → List ℕ → List ℕ
fields_table o r t = written (read_as o r) (rows_of (λ d. field_rows d.structs) o) t

-- the number of a table, as refusal 8 carries it
abbrev pub table_number : DnaTable → ℕ
table_number Names = 1
table_number Types = 2
table_number Structs = 3
table_number Fields = 4

-- the paper of a refusal, and of the answer: 0 is the one that is no refusal
abbrev pub paper_error : DnaError → Paper
paper_error (DnaError.Fault f) = paper_fault f
paper_error (DnaError.TableTooShort which rows) = catalogue_table_too_short (table_number which) rows

abbrev pub paper_tables : Result DnaCounts DnaError → Paper
paper_tables (Ok n) = accepts 0 (count_numbers n)
paper_tables (Err e) = paper_error e

-- What `dna` promises of a payload's reading o: the answer r on paper, and the four tables afterwards, from what they held before.
pub record Filled (o : Outcome Dna) (r : Result DnaCounts DnaError) (names types structs fields names' types' structs' fields' : List ℕ) : Type 0 where
  pub answer : paper_tables r ≡ read_as o (rooms (length names) (length types) (length structs) (length fields))
  pub in_names : names' ≡ names_table o (rooms (length names) (length types) (length structs) (length fields)) names
  pub in_types : types' ≡ types_table o (rooms (length names) (length types) (length structs) (length fields)) types
  pub in_structs : structs' ≡ structs_table o (rooms (length names) (length types) (length structs) (length fields)) structs
  pub in_fields : fields' ≡ fields_table o (rooms (length names) (length types) (length structs) (length fields)) fields

-- The counts alone, with the place after the last struct; or the fault as the tree has it.
abbrev pub counts_only : Outcome Dna → Outcome DnaCounts
counts_only (read d next) = read (counts d) next
counts_only (fault f) = fault f

abbrev pub outcome_of : Result (DnaCounts × ℕ) Fault → Outcome DnaCounts
outcome_of (Ok (n, next)) = read n next
outcome_of (Err f) = fault f

-- on paper: the four counts and the place, or the fault
abbrev pub paper_counted : Result (DnaCounts × ℕ) Fault → Paper
paper_counted r = told count_numbers (outcome_of r)

-- Declarators: what the bytes of a field's name say. Tried in order: function pointer, pointer, value.
use Prim.Native.Char.{code}
use Rattle.std.specs.Prelude.{ℕ, zero, suc, ◌+◌, ◌*◌, ◌-◌, ◌^◌, Bool, true, false, ◌&&◌, List, [], ◌∷◌, leb, ltb, eqb, length, take, drop, Result, Ok, Err}
use Rattle.std.proofs.Math.Option.{Option, none, some}
use Rattle.octets.specs.Ascii.{ascii, is_digit}
use Rattle.octets.specs.Paper.{Paper}
use Rattle.octets.specs.Number.{tag}
use Rattle.octets.specs.Paper.Paper.{accepts}
use Rattle.octets.specs.Reader.{Reader, Outcome, run, before, ended_by, stands}
use Rattle.octets.specs.Reader.Reader.{done, here, until}
use Rattle.octets.specs.Reader.Outcome.{read, fault}
use Rattle.octets.specs.Refusals.{paper_fault, paper_refusal, invalid_array_size, product_too_large, dimension_table_too_short, name_not_fully_read}
use Rattle.octets.specs.Tables.{written}
use Rattle.octets.specs.declared.Fault.{Fault}
use Rattle.octets.specs.declared.PointerSize.{PointerSize}
use Rattle.octets.specs.declared.Refusal.{Refusal}
use Rattle.octets.specs.PointerSize.{pointer_bytes}
use Rattle.field.specs.declared.field.Declarator as records
use Rattle.field.specs.declared.field.FieldInfo.{FieldInfo}
use Rattle.field.specs.declared.field.FieldError.{FieldError}

-- where the first byte c from `at` on stands (where there is none: the end of s, or `at` itself past the end); `ended_by` says whether there is one
abbrev pub first : ℕ → List ℕ → ℕ → ℕ
first c s at = at + before c (drop at s)

-- a place of the bytes, an offset and a length, and the place of all from an offset on
abbrev pub Span : Type 0
Span = ℕ × ℕ

abbrev pub onwards : List ℕ → ℕ → Span
onwards s at = (at, length s - at)

-- 1. `(*`, bytes to the first `)`, `)`, `(`, bytes to the first `)`, `)`: function pointer, the first part its name. One reading tree, which finds the name's place.
unfoldable pub function_pointer : Reader Span
function_pointer = tag (ascii "(*") (here (λ at. until (code ")") (λ len. tag (ascii "(") (until (code ")") (λ n. done (at, len))))))

-- 2. One or more `*`: pointer, indirection their number. 3. Otherwise value.
abbrev pub stars : List ℕ → ℕ
stars [] = 0
stars (b ∷ bs) = elim (eqb b (code "*")) [ true ↦ suc (stars bs) | false ↦ 0 ]

-- The name runs from after the asterisks to the first `[` or the end.
abbrev pub name_end : List ℕ → ℕ
name_end s = first (code "[") s (stars s)

-- Groups `[`..`]` are taken while complete. A group's content ends at the first `]`.
abbrev pub complete : List ℕ → Bool
complete l = stands l 0 (ascii "[") && ended_by (code "]") l 1

abbrev pub content : List ℕ → List ℕ
content l = take (first (code "]") l 1 - 1) (drop 1 l)

-- what follows the first group
abbrev pub after_group : List ℕ → List ℕ
after_group l = drop (first (code "]") l 1 + 1) l

-- the contents of the groups that l begins with, in order, at most n of them
unfoldable pub taken : ℕ → List ℕ → List (List ℕ)
taken zero l = []
taken (suc n) l = elim (complete l) [ true ↦ content l ∷ taken n (after_group l) | false ↦ [] ]

-- all of them: there are never more groups than bytes
unfoldable pub groups : List ℕ → List (List ℕ)
groups l = taken (length l) l

-- how many bytes groups with these contents take
unfoldable pub spanned : List (List ℕ) → ℕ
spanned [] = 0
spanned (c ∷ cs) = length c + 2 + spanned cs

-- Each content is decimal with an optional leading `+`, at least one digit, at most 2^64-1.
abbrev pub most : ℕ
most = 2 ^ 64 - 1

unfoldable pub digits : ℕ → List ℕ → Option ℕ
digits n [] = some n
digits n (b ∷ bs) = elim (is_digit b) [ true ↦ digits (n * 10 + (b - code "0")) bs | false ↦ none ]

abbrev pub at_most : Option ℕ → Option ℕ
at_most none = none
at_most (some n) = elim (leb n most) [ true ↦ some n | false ↦ none ]

abbrev pub unsigned : List ℕ → Option ℕ
unsigned [] = none
unsigned (b ∷ bs) = at_most (digits 0 (b ∷ bs))

unfoldable pub decimal : List ℕ → Option ℕ
decimal [] = none
decimal (b ∷ bs) = elim (eqb b (code "+")) [ true ↦ unsigned bs | false ↦ unsigned (b ∷ bs) ]

abbrev pub join : Option ℕ → Option (List ℕ) → Option (List ℕ)
join none ds = none
join (some d) none = none
join (some d) (some ds) = some (d ∷ ds)

-- the numbers of all contents, if each is decimal
unfoldable pub numbers : List (List ℕ) → Option (List ℕ)
numbers [] = some []
numbers (c ∷ cs) = join (decimal c) (numbers cs)

-- Length is the product, 1 for none.
unfoldable pub product : List ℕ → ℕ
product [] = 1
product (d ∷ ds) = d * product ds

-- What the bytes say: the name's place, the rest's place, the indirection (0 is no pointer), and of an array its dimensions.
pub data Said : Type 0 where
  function : (name rest : Span) → Said
  plain : (indirection : ℕ) (name rest : Span) → Said
  array : (indirection : ℕ) (name rest : Span) (dimensions : List ℕ) → Said
  invalid : Said  -- a content that is no decimal of at most 2^64-1

abbrev pub array_of : List ℕ → List (List ℕ) → Option (List ℕ) → Said
array_of s gs none = invalid
array_of s gs (some ds) = array (stars s) (stars s, name_end s - stars s) (onwards s (name_end s + spanned gs)) ds

-- If a `[` was met it is an array, even with no complete bracket.
unfoldable pub pointer_or_value : List ℕ → Said
pointer_or_value s =
    elim (eqb (name_end s) (length s)) [
      | true ↦ plain (stars s) (stars s, name_end s - stars s) (onwards s (name_end s))
      | false ↦ array_of s (groups (drop (name_end s) s)) (numbers (groups (drop (name_end s) s)))
    ]

-- tried in order: a function pointer, and where it does not read, for whatever reason, the others
abbrev pub or_else : List ℕ → Outcome Span → Said
or_else s (read name next) = function name (onwards s next)
or_else s (fault f) = pointer_or_value s

unfoldable pub declared : List ℕ → Said
unfolding run function_pointer pointer_or_value
declared s = or_else s (run function_pointer s 0)

-- On paper: which kind, the name's place, the rest's place, and the kind's own numbers, those it has of indirection, length and number of
-- dimensions, in that order. 0 is a value, 1 an array of values, 2 a pointer, 3 an array of pointers, 4 a function pointer.
abbrev pub told_as : ℕ → Span → Span → List ℕ → Paper
told_as kind name rest own = accepts kind (name.0 ∷ name.1 ∷ rest.0 ∷ rest.1 ∷ own)

abbrev pub plain_told : ℕ → Span → Span → Paper
plain_told zero name rest = told_as 0 name rest []
plain_told (suc n) name rest = told_as 2 name rest (suc n ∷ [])

abbrev pub array_told : ℕ → Span → Span → List ℕ → Paper
array_told zero name rest ds = told_as 1 name rest (product ds ∷ length ds ∷ [])
array_told (suc n) name rest ds = told_as 3 name rest (suc n ∷ product ds ∷ length ds ∷ [])

-- What `scan_field` answers, which takes no table and so never gives 11. The exact product must be at most 2^64-1, else 10.
abbrev pub scanned_as : Said → Paper
scanned_as (function name rest) = told_as 4 name rest []
scanned_as (plain n name rest) = plain_told n name rest
scanned_as (array n name rest ds) = elim (leb (product ds) most) [ true ↦ array_told n name rest ds | false ↦ product_too_large ]
scanned_as invalid = invalid_array_size

-- What `parse_field` answers with a table of `room` numbers. Order: 9, then 11 (table shorter than the number of groups), then 10.
abbrev pub parsed_as : Said → ℕ → Paper
parsed_as (function name rest) room = scanned_as (function name rest)
parsed_as (plain n name rest) room = scanned_as (plain n name rest)
parsed_as (array n name rest ds) room =
    elim (ltb room (length ds)) [ true ↦ dimension_table_too_short (length ds) | false ↦ scanned_as (array n name rest ds) ]
parsed_as invalid room = scanned_as invalid

-- The numbers fill the table in order, and numbers past those are unchanged; a refusal writes nothing.
abbrev pub dimensions_of : Said → List ℕ
dimensions_of (function name rest) = []
dimensions_of (plain n name rest) = []
dimensions_of (array n name rest ds) = ds
dimensions_of invalid = []

abbrev pub filled_by : Said → List ℕ → List ℕ
filled_by q t = written (parsed_as q (length t)) (dimensions_of q) t

-- What `fn_pointer` answers: as in 1, and where the bytes are no function pointer (the Rust's NomError) 16 or 17, with the place in the name.
abbrev pub function_told : List ℕ → Outcome Span → Paper
function_told s (read name next) = scanned_as (function name (onwards s next))
function_told s (fault f) = paper_fault f

unfoldable pub function_as : List ℕ → Paper
unfolding run function_pointer
function_as s = function_told s (run function_pointer s 0)

-- The papers of the answers.
abbrev pub paper_kind : FieldInfo → Span → Span → Paper
paper_kind FieldInfo.Value name rest = told_as 0 name rest []
paper_kind (FieldInfo.ValueArray len dimensions) name rest = told_as 1 name rest (len ∷ dimensions ∷ [])
paper_kind (FieldInfo.Pointer n) name rest = told_as 2 name rest (n ∷ [])
paper_kind (FieldInfo.PointerArray n len dimensions) name rest = told_as 3 name rest (n ∷ len ∷ dimensions ∷ [])
paper_kind FieldInfo.FnPointer name rest = told_as 4 name rest []

abbrev pub paper_declarator : records.Declarator → Paper
paper_declarator d = paper_kind d.kind (d.name.at, d.name.len) (d.rest.at, d.rest.len)

abbrev pub paper_scanned : Result records.Declarator Refusal → Paper
paper_scanned (Ok d) = paper_declarator d
paper_scanned (Err r) = paper_refusal r

abbrev pub paper_field : Result records.Declarator FieldError → Paper
paper_field (Ok d) = paper_declarator d
paper_field (Err (FieldError.Refusal r)) = paper_refusal r
paper_field (Err (FieldError.DimensionTableTooShort n)) = dimension_table_too_short n

abbrev pub paper_function : Result records.Declarator Fault → Paper
paper_function (Ok d) = paper_declarator d
paper_function (Err f) = paper_fault f

-- Width: type size for a value, times length for an array; pointer bytes (4 or 8) for a pointer or function pointer, times length for a
-- pointer array.
abbrev pub unit_of : FieldInfo → ℕ → PointerSize → ℕ
unit_of FieldInfo.Value size p = size
unit_of (FieldInfo.ValueArray len dimensions) size p = size
unit_of (FieldInfo.Pointer n) size p = pointer_bytes p
unit_of (FieldInfo.PointerArray n len dimensions) size p = pointer_bytes p
unit_of FieldInfo.FnPointer size p = pointer_bytes p

-- how many elements; 1 for what is no array
abbrev pub length_of : FieldInfo → ℕ
length_of FieldInfo.Value = 1
length_of (FieldInfo.ValueArray len dimensions) = len
length_of (FieldInfo.Pointer n) = 1
length_of (FieldInfo.PointerArray n len dimensions) = len
length_of FieldInfo.FnPointer = 1

-- Above 2^64-1: 10.
abbrev pub width_told : ℕ → Paper
width_told n = elim (leb n most) [ true ↦ accepts 0 (n ∷ []) | false ↦ product_too_large ]

-- A declarator with a non-empty rest has no width (request 2 of document 02, in the place of document 01's "The rest is ignored"): 15, name not fully read, given
-- before the width's own 10.
abbrev pub width_as : records.Declarator → ℕ → PointerSize → Paper
width_as d size p = elim (eqb d.rest.len 0) [ true ↦ width_told (unit_of d.kind size p * length_of d.kind) | false ↦ name_not_fully_read ]

abbrev pub paper_width : Result ℕ Refusal → Paper
paper_width (Ok n) = accepts 0 (n ∷ [])
paper_width (Err r) = paper_refusal r

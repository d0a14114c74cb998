-- Refusal numbers: the number of each refusal, and what it carries.
use Rattle.std.specs.Prelude.{ℕ, List, [], ◌∷◌, ◌++◌, Result, Ok, Err}
use Rattle.octets.specs.declared.Refusal.{Refusal}
use Rattle.octets.specs.declared.Refusal.TheVariants.{CompressedFileNotSupported, InvalidMemoryAddress, UnsupportedCountOnPrincipalBlock, UnknownBlockCode, NoDnaBlockFound, InvalidArraySize, ProductTooLarge, ValueSliceTooShort, NotThere, NameNotFullyRead, Other}
use Rattle.octets.specs.declared.Fault.{Fault}
use Rattle.octets.specs.declared.Fault.TheVariants.{Cut, Mark}
use Rattle.octets.specs.Paper.{Paper}
use Rattle.octets.specs.Paper.Paper.{accepts, refuses}
use Rattle.octets.specs.Reader.{Outcome}
use Rattle.octets.specs.Reader.Outcome.{read, fault}

-- The numbers of those that a reading tree or a chain gives: a tree says `refuse UnknownBlockCode`, and `paper_fault` tells it by its number. In the place of document
-- 01's 2, malformed, stand 16, cut short, and 17, wrong mark (request 3 of document 02).
abbrev pub compressed_file_not_supported : ℕ
compressed_file_not_supported = 1

abbrev pub invalid_memory_address : ℕ
invalid_memory_address = 3

abbrev pub unsupported_count_on_principal_block : ℕ
unsupported_count_on_principal_block = 4

abbrev pub unknown_block_code : ℕ
unknown_block_code = 5

abbrev pub no_dna_block_found : ℕ
no_dna_block_found = 6

-- the rows needed
abbrev pub block_table_too_short : ℕ → Paper
block_table_too_short rows = refuses 7 (rows ∷ [])

-- the first of names, types, structs and fields that is too short, 1 to 4, and the rows it needs
abbrev pub catalogue_table_too_short : ℕ → ℕ → Paper
catalogue_table_too_short which rows = refuses 8 (which ∷ rows ∷ [])

abbrev pub invalid_array_size : Paper
invalid_array_size = refuses 9 []

-- a product, or the length of a file to be written, above 2^64-1
abbrev pub product_too_large : Paper
product_too_large = refuses 10 []

-- the groups
abbrev pub dimension_table_too_short : ℕ → Paper
dimension_table_too_short groups = refuses 11 (groups ∷ [])

abbrev pub value_slice_too_short : Paper
value_slice_too_short = refuses 12 []

abbrev pub not_there : Paper
not_there = refuses 13 []

-- no bucket, or a table of the index is too short: the buckets, at least 1, and the rows that are needed
abbrev pub index_too_short : ℕ → ℕ → Paper
index_too_short buckets rows = refuses 14 (buckets ∷ rows ∷ [])

abbrev pub name_not_fully_read : Paper
name_not_fully_read = refuses 15 []

-- fewer bytes remain than the read wants (a string with no ending zero included), and enough bytes remain and differ
abbrev pub cut_short : ℕ
cut_short = 16

abbrev pub wrong_mark : ℕ
wrong_mark = 17

-- the output is too short: the bytes needed, all of them
abbrev pub output_too_short : ℕ → Paper
output_too_short needed = refuses 18 (needed ∷ [])

-- a number, mark or version that the form has no room for: the first row that it is in, the row count where it is in the header
abbrev pub no_room_in_form : ℕ → Paper
no_room_in_form row = refuses 19 (row ∷ [])

-- The number of a refusal that carries nothing.
abbrev pub number_of : Refusal → ℕ
number_of CompressedFileNotSupported = compressed_file_not_supported
number_of InvalidMemoryAddress = invalid_memory_address
number_of UnsupportedCountOnPrincipalBlock = unsupported_count_on_principal_block
number_of UnknownBlockCode = unknown_block_code
number_of NoDnaBlockFound = no_dna_block_found
number_of InvalidArraySize = 9
number_of ProductTooLarge = 10
number_of ValueSliceTooShort = 12
number_of NotThere = 13
number_of NameNotFullyRead = 15
number_of (Other u) = u.number

-- The number of a fault's refusal, and what it carries: a cut and a wrong mark the offset of the failed read's first byte, the others nothing.
abbrev pub refusal_of : Fault → ℕ
refusal_of (Cut at) = cut_short
refusal_of (Mark at) = wrong_mark
refusal_of (Fault.Refusal r) = number_of r

abbrev pub carried_by : Fault → List ℕ
carried_by (Cut at) = at ∷ []
carried_by (Mark at) = at ∷ []
carried_by (Fault.Refusal r) = []

-- the place of a fault, 0 where it has none
abbrev pub place_of : Fault → ℕ
place_of (Cut at) = at
place_of (Mark at) = at
place_of (Fault.Refusal r) = 0

-- A refusal on paper, and a fault of a reading tree, and what a tree found, with its numbers and the place after it. Nothing is lost (proofs/Lossless.antt).
abbrev pub paper_refusal : Refusal → Paper
paper_refusal r = refuses (number_of r) []

-- the paper of an answer that is a value or a refusal, by that of its value
abbrev pub paper_answer : {A : Type 0} → (A → Paper) → Result A Refusal → Paper
paper_answer paper (Ok a) = paper a
paper_answer paper (Err r) = paper_refusal r

abbrev pub paper_fault : Fault → Paper
paper_fault f = refuses (refusal_of f) (carried_by f)

abbrev pub told : {A : Type 0} → (A → List ℕ) → Outcome A → Paper
told numbers (read a next) = accepts 0 (numbers a ++ (next ∷ []))
told numbers (fault f) = paper_fault f

-- Kinds of blocks, by the code's number, and what follows from each.
use Rattle.std.specs.Prelude.{ℕ, ◌%◌, ◌^◌, Bool, true, false, ◌&&◌, [], ltb, eqb}
use Prim.Native.String.{String}
use Rattle.octets.specs.declared.Endianness.TheVariants.{Big}
use Rattle.octets.specs.Ascii.{ascii}
use Rattle.octets.specs.Number.{spelled}
use Rattle.octets.specs.Paper.{Paper}
use Rattle.octets.specs.Paper.Paper.{accepts}
use Rattle.block.specs.declared.Kind.{Kind}
use Rattle.block.specs.declared.Takes.{Takes}
use Rattle.block.specs.declared.About.{About}

-- Kinds follow from the code's number alone. Any two bytes then two zeros: Principal.
abbrev pub code_number : String → ℕ
code_number t = spelled Big (ascii t)

abbrev pub is_principal : ℕ → Bool
is_principal n = ltb n (2 ^ 32) && eqb (n % 2 ^ 16) 0

unfoldable pub kind_of : ℕ → Kind
kind_of n =
    elim (eqb n (code_number "REND")) [
      | true ↦ Kind.Rend
      | false ↦ elim (eqb n (code_number "TEST")) [
        | true ↦ Kind.Test
        | false ↦ elim (eqb n (code_number "GLOB")) [
          | true ↦ Kind.Global
          | false ↦ elim (eqb n (code_number "DATA")) [
            | true ↦ Kind.Subsidiary
            | false ↦ elim (eqb n (code_number "DNA1")) [
              | true ↦ Kind.Dna
              | false ↦ elim (is_principal n) [ true ↦ Kind.Principal | false ↦ Kind.Unknown ]
            ]
          ]
        ]
      ]
    ]

-- The kinds on paper: 0 REND, 1 TEST, 2 GLOB, 3 DATA, 4 Principal, 5 DNA1, and 6 for a number that is no block code.
abbrev pub paper_kind : Kind → Paper
paper_kind Kind.Rend = accepts 0 []
paper_kind Kind.Test = accepts 1 []
paper_kind Kind.Global = accepts 2 []
paper_kind Kind.Subsidiary = accepts 3 []
paper_kind Kind.Principal = accepts 4 []
paper_kind Kind.Dna = accepts 5 []
paper_kind Kind.Unknown = accepts 6 []

-- What follows from a kind: how a block of it is taken, whether it is found by its address, whether it has a code, and whether it is a DNA1.
abbrev pub about : Kind → About
about Kind.Rend = record { takes = Takes.Always; found = false; coded = true; dna = false }
about Kind.Test = record { takes = Takes.Always; found = false; coded = true; dna = false }
about Kind.Global = record { takes = Takes.Always; found = false; coded = true; dna = false }
about Kind.Subsidiary = record { takes = Takes.Always; found = true; coded = false; dna = false }
about Kind.Principal = record { takes = Takes.Alone; found = true; coded = true; dna = false }
about Kind.Dna = record { takes = Takes.Always; found = false; coded = true; dna = true }
about Kind.Unknown = record { takes = Takes.Never; found = false; coded = false; dna = false }

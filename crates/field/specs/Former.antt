-- Rules as they were before a request of document 02, each kept for one law alone; no contract names them. They are written out by themselves, so that no change of today's
-- rules moves them.
use Prim.Native.Char.{code}
use Rattle.std.specs.Prelude.{ℕ, ◌+◌, ◌*◌, ◌-◌, ◌^◌, Bool, true, false, ◌&&◌, List, [], ◌∷◌, leb, ltb, length, drop}
use Rattle.octets.specs.Ascii.{ascii}
use Rattle.octets.specs.Reader.{before, stands}
use Rattle.octets.specs.Paper.{Paper}
use Rattle.octets.specs.Paper.Paper.{accepts, refuses}
use Rattle.octets.specs.PointerSize.{pointer_bytes}
use Rattle.octets.specs.declared.PointerSize.{PointerSize}
use Rattle.field.specs.declared.field.Declarator.{Declarator}
use Rattle.field.specs.declared.field.FieldInfo.{FieldInfo}

-- The width as document 01 has it, with its "The rest is ignored.", which request 2 takes back: where the rest is empty the width is what it was (`BrokenNames` in
-- crates/demands/specs/Sentences.antt). Type size for a value, times length for an array; pointer bytes for a pointer or function pointer, times length for a pointer array.
abbrev pub former_bytes : FieldInfo → ℕ → PointerSize → ℕ
former_bytes FieldInfo.Value size p = size
former_bytes (FieldInfo.ValueArray len dimensions) size p = size * len
former_bytes (FieldInfo.Pointer n) size p = pointer_bytes p
former_bytes (FieldInfo.PointerArray n len dimensions) size p = pointer_bytes p * len
former_bytes FieldInfo.FnPointer size p = pointer_bytes p

-- Above 2^64-1: 10.
abbrev pub former_width_as : Declarator → ℕ → PointerSize → Paper
former_width_as d size p =
    elim (leb (former_bytes d.kind size p) (2 ^ 64 - 1)) [ true ↦ accepts 0 (former_bytes d.kind size p ∷ []) | false ↦ refuses 10 [] ]

-- `fn_pointer` before request 3, when it answered 2, malformed, wherever the bytes are no function pointer (`WhereTwoWas` in crates/demands/specs/Malformed.antt). Where the `)`
-- after the name stands, and the `)` after the second part; both count only where `is_function` holds.
abbrev pub closed_from : List ℕ → ℕ → ℕ
closed_from s at = at + before (code ")") (drop at s)

abbrev pub name_closed : List ℕ → ℕ
name_closed s = closed_from s 2

abbrev pub args_closed : List ℕ → ℕ
args_closed s = closed_from s (name_closed s + 2)

abbrev pub is_function : List ℕ → Bool
is_function s = stands s 0 (ascii "(*") && (ltb (name_closed s) (length s) && (stands s (name_closed s + 1) (ascii "(") && ltb (args_closed s) (length s)))

-- the name's place, and the rest's
abbrev pub former_function_as : List ℕ → Paper
former_function_as s =
    elim (is_function s) [
      | true ↦ accepts 4 (2 ∷ (name_closed s - 2) ∷ (args_closed s + 1) ∷ (length s - (args_closed s + 1)) ∷ [])
      | false ↦ refuses 2 []
    ]

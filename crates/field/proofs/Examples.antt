-- The rules at small inputs, computed.
use Prim.Native.Nat.{ℕ}
use mathlib.Core.List.{[], ◌∷◌}
use mathlib.Core.Path.{◌≡◌, refl}
use Rattle.octets.specs.Ascii.{ascii}
use Rattle.octets.specs.Paper.Paper.{accepts, refuses}
use Rattle.octets.specs.declared.PointerSize.TheVariants.{Bits32, Bits64}
use Rattle.octets.specs.Reader.{run}
use Rattle.field.specs.declared.field.Declarator.{Declarator}
use Rattle.field.specs.declared.field.FieldInfo.{FieldInfo}
use Rattle.field.specs.Declarators.{function_pointer, function_as, taken, groups, spanned, digits, decimal, numbers, product, pointer_or_value, declared, scanned_as, parsed_as, filled_by, paper_declarator, width_as}
use Rattle.field.specs.Former.{former_width_as}

-- an array with no complete bracket; no number; a sign; a pointer array
arrays : (scanned_as (declared (ascii "a[3")) ≡ accepts 1 (0 ∷ 1 ∷ 1 ∷ 2 ∷ 1 ∷ 0 ∷ [])) × (scanned_as (declared (ascii "a[]")) ≡ refuses 9 [])
    × (scanned_as (declared (ascii "a[+3]")) ≡ accepts 1 (0 ∷ 1 ∷ 5 ∷ 0 ∷ 3 ∷ 1 ∷ []))
    × (scanned_as (declared (ascii "*m[2][3]")) ≡ accepts 3 (1 ∷ 1 ∷ 8 ∷ 0 ∷ 1 ∷ 6 ∷ 2 ∷ []))
unfolding run declared function_pointer pointer_or_value groups taken spanned numbers decimal digits product
arrays = (refl, refl, refl, refl)

-- what looks like a function pointer, one, and a name with no bytes
others : (scanned_as (declared (ascii "(*f)")) ≡ accepts 0 (0 ∷ 4 ∷ 4 ∷ 0 ∷ [])) × (scanned_as (declared (ascii "(*f)()")) ≡ accepts 4 (2 ∷ 1 ∷ 6 ∷ 0 ∷ []))
    × (scanned_as (declared []) ≡ accepts 0 (0 ∷ 0 ∷ 0 ∷ 0 ∷ []))
unfolding run declared function_pointer pointer_or_value groups taken spanned numbers decimal digits product
others = (refl, refl, refl)

-- what is no function pointer, and where: at its first mark, in its name, at its second mark, in its second part
functions : (function_as (ascii "x") ≡ refuses 16 (0 ∷ [])) × (function_as (ascii "(x") ≡ refuses 17 (0 ∷ [])) × (function_as (ascii "(*f") ≡ refuses 16 (2 ∷ []))
    × (function_as (ascii "(*f)") ≡ refuses 16 (4 ∷ [])) × (function_as (ascii "(*f)x") ≡ refuses 17 (4 ∷ [])) × (function_as (ascii "(*f)(") ≡ refuses 16 (5 ∷ []))
    × (function_as (ascii "(*f)()") ≡ accepts 4 (2 ∷ 1 ∷ 6 ∷ 0 ∷ []))
unfolding run function_as function_pointer
functions = (refl, refl, refl, refl, refl, refl, refl)

-- 9 before 11 before 10, and a 0 after numbers that are too large together
orders : (parsed_as (declared (ascii "a[x][1]")) 1 ≡ refuses 9 []) × (parsed_as (declared (ascii "a[18446744073709551615][2]")) 1 ≡ refuses 11 (2 ∷ []))
    × (parsed_as (declared (ascii "a[18446744073709551615][2]")) 2 ≡ refuses 10 [])
    × (filled_by (declared (ascii "a[18446744073709551615][2][0]")) (7 ∷ 7 ∷ 7 ∷ 7 ∷ []) ≡ 18446744073709551615 ∷ 2 ∷ 0 ∷ 7 ∷ [])
    × (filled_by (declared (ascii "a[18446744073709551615][2]")) (7 ∷ 7 ∷ 7 ∷ []) ≡ 7 ∷ 7 ∷ 7 ∷ [])
unfolding run declared function_pointer pointer_or_value groups taken spanned numbers decimal digits product
orders = (refl, refl, refl, refl, refl)

-- "mat[4", as document 02's request 2 tells of it: it is read as before, counted as a single float, and has no width now
unfoldable pub broken : Declarator
broken = record { name = record { at = 0; len = 3 }; rest = record { at = 3; len = 2 }; kind = FieldInfo.ValueArray 1 0 }

broken-name : (scanned_as (declared (ascii "mat[4")) ≡ paper_declarator broken) × (former_width_as broken 4 Bits64 ≡ accepts 0 (4 ∷ [])) × (width_as broken 4 Bits64 ≡ refuses 15 [])
unfolding run declared function_pointer pointer_or_value groups taken spanned numbers decimal digits product broken
broken-name = (refl, refl, refl)

-- 15 before 10; a function pointer with something after it; and a whole name
huge : Declarator
huge = record { name = record { at = 1; len = 1 }; rest = record { at = 23; len = 1 }; kind = FieldInfo.PointerArray 1 4611686018427387904 1 }

function : (rest : ℕ) → Declarator
function rest = record { name = record { at = 2; len = 1 }; rest = record { at = 6; len = rest }; kind = FieldInfo.FnPointer }

others-broken : (scanned_as (declared (ascii "*p[4611686018427387904][")) ≡ paper_declarator huge)
    × (former_width_as huge 4 Bits64 ≡ refuses 10 []) × (width_as huge 4 Bits64 ≡ refuses 15 [])
    × (scanned_as (declared (ascii "(*f)()[3]")) ≡ paper_declarator (function 3)) × (width_as (function 3) 4 Bits32 ≡ refuses 15 []) × (width_as (function 0) 4 Bits32 ≡ accepts 0 (4 ∷ []))
unfolding run declared function_pointer pointer_or_value groups taken spanned numbers decimal digits product huge function
others-broken = (refl, refl, refl, refl, refl, refl)

-- What helpers inside the crate ensure, and how their answers stand to the rules. No rule uses it. `Maybe` is the option of the rules, `Option` that of the code.
use Prim.Native.Char.{code}
use Rattle.std.specs.Prelude.{ℕ, zero, suc, ◌+◌, ◌*◌, ◌-◌, true, false, List, [], ◌∷◌, leb, eqb, length, Option, Some, None, Result, Ok, Err}
use Rattle.std.proofs.Math.Option.{Option as Maybe, none, some}
use Rattle.octets.specs.Ascii.{ascii, is_digit}
use Rattle.octets.specs.declared.Fault.{Fault}
use Rattle.octets.specs.declared.Refusal.{Refusal}
use Rattle.octets.specs.declared.Refusal.TheVariants.{InvalidArraySize, ProductTooLarge}
use Rattle.octets.specs.Number.{tag}
use Rattle.octets.specs.Reader.{Reader, Outcome, run}
use Rattle.octets.specs.Reader.Reader.{done, until}
use Rattle.octets.specs.Reader.Outcome.{read, fault}
use Rattle.field.specs.declared.field.Span as places
use Rattle.field.specs.declared.field.FieldInfo.{FieldInfo}
use Rattle.field.specs.declared.field.Groups.{Groups}
use Rattle.field.specs.declared.field.Scan.{Scan}
use Rattle.field.specs.declared.field.Declarator as records
use Rattle.field.specs.declared.field.ArrayParts.{ArrayParts}
use Rattle.field.specs.Declarators.{Span, Said, most, first, onwards, function_pointer, complete, content, decimal, groups, numbers, spanned, product}
use Rattle.field.specs.Declarators.Said.{function, plain, array, invalid}

-- a number as 64 bits hold it, or that they do not
abbrev pub capped : ℕ → Option ℕ
capped n = elim (leb n most) [ true ↦ Some n | false ↦ None ]

-- one factor more: a number that is too large stays so, but for a factor of 0
abbrev pub times_of : Option ℕ → ℕ → Option ℕ
times_of (Some n) d = capped (n * d)
times_of None d = elim (eqb d 0) [ true ↦ Some 0 | false ↦ None ]

abbrev pub all_times : Option ℕ → List ℕ → Option ℕ
all_times p [] = p
all_times p (d ∷ ds) = all_times (times_of p d) ds

-- a number with one digit more, and the number that digits are
abbrev pub with_digit : ℕ → ℕ → Option ℕ
with_digit n b = elim (is_digit b) [ true ↦ capped (n * 10 + (b - code "0")) | false ↦ None ]

abbrev pub decimal_of : Maybe ℕ → Result ℕ Refusal
decimal_of none = Err InvalidArraySize
decimal_of (some n) = Ok n

-- the group that bytes begin with, its number and how many bytes it takes
abbrev pub group_by : ℕ → Maybe ℕ → Result (Option (ℕ × ℕ)) Refusal
group_by n none = Err InvalidArraySize
group_by n (some d) = Ok (Some (d, n))

unfoldable pub group_of : List ℕ → Result (Option (ℕ × ℕ)) Refusal
group_of l = elim (complete l) [ true ↦ group_by (first (code "]") l 1 + 1) (decimal (content l)) | false ↦ Ok None ]

-- the groups from a place on, after some that were taken
abbrev pub finish_by : ℕ → Option ℕ → ℕ → Maybe (List ℕ) → Result Groups Refusal
finish_by count p span none = Err InvalidArraySize
finish_by count p span (some ds) = Ok (record { count = count + length ds; product = all_times p ds; span = span })

unfoldable pub finish : ℕ → Option ℕ → ℕ → List ℕ → Result Groups Refusal
finish count p span l = finish_by count p (span + spanned (groups l)) (numbers (groups l))

-- the numbers of the contents up to the first that is none
abbrev pub leading_by : Maybe ℕ → List ℕ → List ℕ
leading_by none ds = []
leading_by (some d) ds = d ∷ ds

unfoldable pub leading : List (List ℕ) → List ℕ
leading [] = []
leading (c ∷ cs) = leading_by (decimal c) (leading cs)

abbrev pub place_of : Span → places.Span
place_of p = record { at = p.0; len = p.1 }

abbrev pub plain_kind : ℕ → FieldInfo
plain_kind zero = FieldInfo.Value
plain_kind (suc n) = FieldInfo.Pointer (suc n)

abbrev pub array_kind : ℕ → ℕ → ℕ → FieldInfo
array_kind zero len dimensions = FieldInfo.ValueArray len dimensions
array_kind (suc n) len dimensions = FieldInfo.PointerArray (suc n) len dimensions

abbrev pub declarator_of : Span → Span → FieldInfo → records.Declarator
declarator_of name rest kind = record { name = place_of name; rest = place_of rest; kind = kind }

-- the array that parts are of, where 64 bits hold its length
abbrev pub array_by : ArrayParts → Option ℕ → Result records.Declarator Refusal
array_by a (Some len) = Ok (record { name = a.name; rest = a.rest; kind = array_kind a.indirection_count len a.count })
array_by a None = Err ProductTooLarge

abbrev pub array_declared : ArrayParts → Result records.Declarator Refusal
array_declared a = array_by a a.product

-- what bytes are, before the table and the product are looked at
abbrev pub parts_of : ℕ → Span → Span → List ℕ → ArrayParts
parts_of n name rest ds = record { indirection_count = n; name = place_of name; rest = place_of rest; count = length ds; product = capped (product ds) }

unfoldable pub scan_of : Said → Result Scan Refusal
scan_of (function name rest) = Ok (Scan.Plain (declarator_of name rest FieldInfo.FnPointer))
scan_of (plain n name rest) = Ok (Scan.Plain (declarator_of name rest (plain_kind n)))
scan_of (array n name rest ds) = Ok (Scan.Array (parts_of n name rest ds))
scan_of invalid = Err InvalidArraySize

-- a function pointer from its second part on, and the one that bytes are, if they are one
abbrev pub function_args : Span → Reader Span
function_args name = tag (ascii "(") (until (code ")") (λ n. done name))

abbrev pub function_by : List ℕ → Outcome Span → Result records.Declarator Fault
function_by s (read name next) = Ok (declarator_of name (onwards s next) FieldInfo.FnPointer)
function_by s (fault f) = Err f

unfoldable pub function_of : List ℕ → Result records.Declarator Fault
unfolding run function_pointer
function_of s = function_by s (run function_pointer s 0)

-- What helpers of the code ensure. No rule uses it but `number_at`, which `header_in` of crates/block goes by.
use Rattle.std.specs.Prelude.{ℕ, zero, suc, ◌+◌, ◌≤◌, List, [], ◌∷◌, take, drop, set}
use Rattle.octets.specs.declared.Endianness.{Endianness}
use Rattle.octets.specs.declared.Fault.{Fault}
use Rattle.octets.specs.declared.Fault.TheVariants.{Cut, Mark}
use Rattle.octets.specs.Number.{spelled}
use Rattle.octets.specs.Reader.{Reader, Outcome, run}
use Rattle.octets.specs.Reader.Outcome.{read, fault}

-- the number of w bytes that stands at a place
abbrev pub number_at : Endianness → ℕ → List ℕ → ℕ → ℕ
number_at e w s at = spelled e (take w (drop at s))

-- a fault whose place is among n bytes, or just after them
abbrev pub Placed : ℕ → Fault → Type 0
Placed n (Cut at) = at ≤ n
Placed n (Mark at) = at ≤ n
Placed n (Fault.Refusal r) = Unit {0}

-- how far a tree came, or its fault, without what it found
abbrev pub past : {A : Type 0} → Outcome A → Outcome (Unit {0})
past (read a next) = read tt next
past (fault f) = fault f

-- what a tree finds again and again, at most n times, up to its first fault
abbrev pub go_on : {A : Type 0} → Outcome A → (ℕ → List A) → List A
go_on (read a next) f = a ∷ f next
go_on (fault x) f = []

unfoldable pub leading : {A : Type 0} → ℕ → Reader A → List ℕ → ℕ → List A
leading zero r s at = []
leading (suc n) r s at = go_on (run r s at) (leading n r s)

-- a table with these numbers stored from a place on, one after another
unfoldable pub put : List ℕ → ℕ → List ℕ → List ℕ
put t i [] = t
put t i (v ∷ vs) = put (set t i v) (i + 1) vs
